-- What the calls that tie a script to its map come to.
use Rattle.std.specs.Prelude.{◌≡◌, ◌⊎◌, ℕ, Bool, List, Option, Some, None, Ok, Err}
use Rattle.std.specs.Global.{Vec}
use Rattle.std.specs.Str.{bytes_eq, is_utf8}
use Rattle.base64.specs.declared.engine.general_purpose.GeneralPurpose.{GeneralPurpose as Engine}
use Rattle.smap_link.specs.Alike.{normal_form}
use Rattle.smap_link.specs.Inline.{IsForgiving, inline_map}
use Rattle.smap_link.specs.Names.{script_name}
use Rattle.smap_link.specs.Paths.{file_path}
use Rattle.smap_link.specs.Resolved.{resolved}
use Rattle.smap_link.specs.Urls.{script_url}
use Rattle.smap_c_answers.specs.Answers.{Answer, data_answer, form_of, link_answer, link_in, path_answer}
use Rattle.smap_c_answers.specs.Answers.{url_answer}
use Rattle.smap_c_answers.specs.Codes as codes
use Rattle.smap_c_answers.specs.Strings.{TextReported}
use Rattle.smap_c.specs.Bytes.{Holds}

abbrev pub LinkReported : Bool → List ℕ → List ℕ → List ℕ → ℕ → ℕ → Type 0
LinkReported css text before after len code = TextReported (link_in css text) before after len code

-- ---- bytes, none, or why not

-- the handle has the bytes, or the code says why not; or memory ran out
abbrev pub Gives : Answer → Option (Vec ℕ) → Option (Vec ℕ) → ℕ → Type 0
Gives (Ok (Some bytes)) old new code = (Holds bytes new × (code ≡ codes.OK))
    ⊎ ((new ≡ old) × (code ≡ codes.MEMORY))
Gives (Ok None) old new code = (new ≡ old) × ((code ≡ codes.NONE) ⊎ (code ≡ codes.MEMORY))
Gives (Err fault) old new code = (new ≡ old) × ((code ≡ fault) ⊎ (code ≡ codes.MEMORY))

-- ---- each call

-- The bytes that a data: URL holds.
abbrev pub DataGiven : List ℕ → Option (Vec ℕ) → Option (Vec ℕ) → ℕ → Type 0
DataGiven url old new code = (e : Engine) × IsForgiving e
    × Gives (data_answer (inline_map e url)) old new code

abbrev pub FileUrlGiven : List ℕ → Option (Vec ℕ) → Option (Vec ℕ) → ℕ → Type 0
FileUrlGiven path old new code = Gives (url_answer (is_utf8 path) path) old new code

-- The path of a file: URL.
abbrev pub FilePathGiven : List ℕ → Option (Vec ℕ) → Option (Vec ℕ) → ℕ → Type 0
FilePathGiven url old new code = Gives (path_answer (file_path url)) old new code

-- The URL of a script below a folder, and its name back.
abbrev pub ScriptUrlGiven : List ℕ → List ℕ → Option (Vec ℕ) → Option (Vec ℕ) → ℕ → Type 0
ScriptUrlGiven folder name old new code = Gives (Ok (Some (script_url folder name))) old new code

abbrev pub ScriptNameGiven : List ℕ → List ℕ → Option (Vec ℕ) → Option (Vec ℕ) → ℕ → Type 0
ScriptNameGiven folder url old new code = Gives (Ok (script_name folder url)) old new code

-- The URL of a script's map.
abbrev pub ResolvedGiven : List ℕ → List ℕ → Option (Vec ℕ) → Option (Vec ℕ) → ℕ → Type 0
ResolvedGiven script url old new code = Gives (link_answer (resolved script url)) old new code

abbrev pub FormGiven : Bool → List ℕ → Option (Vec ℕ) → Option (Vec ℕ) → ℕ → Type 0
FormGiven with_query name old new code = Gives (Ok (Some (form_of with_query name))) old new code

-- Two names have that in common.
abbrev pub AlikeReported : List ℕ → List ℕ → Bool → Bool → ℕ → Type 0
AlikeReported one other before after code =
    ((code ≡ codes.OK) × (after ≡ bytes_eq (normal_form one) (normal_form other)))
    ⊎ ((code ≡ codes.MEMORY) × (after ≡ before))
