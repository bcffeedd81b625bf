-- What the calls that tie a script to its map answer.
use Rattle.std.specs.Prelude.{◌≡◌, ◌⊎◌, ℕ, Bool, true, false, List, Option, Some, Result, Ok, Err}
use Rattle.std.specs.Prelude.{cond, option_map}
use Rattle.std.specs.Global.{Vec}
use Rattle.smap_link.specs.Alike.{key_of, normal_form}
use Rattle.smap_link.specs.Comment.{css_map_url, map_url}
use Rattle.smap_link.specs.Urls.{url_of}
use Rattle.smap_link.specs.declared.encoding.PathFault.{PathFault}
use Rattle.smap_link.specs.declared.encoding.PathFault.TheVariants as paths
use Rattle.smap_link.specs.declared.inline.InlineFault.{InlineFault}
use Rattle.smap_link.specs.declared.inline.InlineFault.TheVariants as inlines
use Rattle.smap_link.specs.declared.resolve.LinkFault.{LinkFault}
use Rattle.smap_link.specs.declared.resolve.LinkFault.TheVariants as links
use Rattle.smap_c_answers.specs.Codes as codes

-- The URL of its map that a script, or a style sheet, names in its text.
abbrev pub link_in : Bool → List ℕ → Option (List ℕ)
link_in true text = css_map_url text
link_in false text = map_url text

-- what a call gives: bytes, nothing, or the code of a fault
abbrev pub Answer : Type 0
Answer = Result (Option (List ℕ)) ℕ

abbrev pub data_code : InlineFault → ℕ
data_code inlines.Form = codes.NOT_URL
data_code inlines.Base64 = codes.NOT_BASE64
data_code inlines.Memory = codes.MEMORY

abbrev pub data_answer : Result (Option (List ℕ)) InlineFault → Answer
data_answer (Ok found) = Ok found
data_answer (Err fault) = Err (data_code fault)

-- The file: URL of an absolute path.
abbrev pub url_answer : Bool → List ℕ → Answer
url_answer true path = Ok (url_of path)
url_answer false path = Err codes.NOT_UTF8

abbrev pub path_code : PathFault → ℕ
path_code paths.NotUtf8 = codes.NOT_UTF8
path_code paths.Host = codes.NOT_URL
path_code paths.Escape = codes.NOT_URL
path_code paths.Memory = codes.MEMORY

abbrev pub path_answer : Result (Option (List ℕ)) PathFault → Answer
path_answer (Ok found) = Ok found
path_answer (Err fault) = Err (path_code fault)

abbrev pub link_code : LinkFault → ℕ
link_code links.NotUtf8 = codes.NOT_UTF8
link_code links.NoBase = codes.NOT_URL
link_code links.NotUrl = codes.NOT_URL
link_code links.Memory = codes.MEMORY

abbrev pub link_answer : Result (List ℕ) LinkFault → Answer
link_answer (Ok url) = Ok (Some url)
link_answer (Err fault) = Err (link_code fault)

-- What all names of a script have in common, or those with the same query.
abbrev pub form_of : Bool → List ℕ → List ℕ
form_of with_query name = cond with_query (key_of name) (normal_form name)

abbrev pub answer_of : Result (Option (Vec ℕ)) ℕ → Answer
answer_of (Ok found) = Ok (option_map (λ v. v.items) found)
answer_of (Err code) = Err code

-- The answer is this one, or memory ran out.
abbrev pub IsAnswer : Result (Option (Vec ℕ)) ℕ → Answer → Type 0
IsAnswer answer said = (answer_of answer ≡ said) ⊎ (answer_of answer ≡ Err codes.MEMORY)
