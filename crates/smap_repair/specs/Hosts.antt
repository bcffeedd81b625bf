-- Where the text of a URL has its host (URL Standard, "URL writing": behind the scheme and `://`, up to a
-- path, a query or a fragment).
use Rattle.std.specs.Prelude.{ℕ, ◌==◌, ◌&&◌, ◌||◌, Bool, not, nat_eq, List, [], take, drop, codes, cond}
use Rattle.std.specs.Prelude.{bytes_eq}
use Rattle.std.specs.List.{prefix_len, starts_with}
use Rattle.percent_encoding.specs.Percent.{percent_decode}

abbrev pub scheme_len : List ℕ → ℕ
scheme_len text = prefix_len (λ b. not (b == 58)) text

abbrev pub scheme : List ℕ → List ℕ
scheme text = take (scheme_len text) text

abbrev pub tail : List ℕ → List ℕ
tail text = drop (scheme_len text) text

abbrev pub has_host : List ℕ → Bool
has_host text = starts_with nat_eq (tail text) (codes "://")

abbrev pub behind_slashes : List ℕ → List ℕ
behind_slashes text = cond (has_host text) (drop 3 (tail text)) []

abbrev pub host_len : List ℕ → ℕ
host_len text = prefix_len (λ b. not ((b == 47) || ((b == 63) || (b == 35)))) text

abbrev pub host : List ℕ → List ℕ
host text = take (host_len (behind_slashes text)) (behind_slashes text)

-- the path, the query and the fragment
abbrev pub path : List ℕ → List ℕ
path text = drop (host_len (behind_slashes text)) (behind_slashes text)

abbrev pub same_hosts : List ℕ → List ℕ → Bool
same_hosts one other = bytes_eq (percent_decode (host one)) (percent_decode (host other))

-- Both have hosts, and are the same but for percent escapes in these.
abbrev pub same_but_hosts : List ℕ → List ℕ → Bool
same_but_hosts one other = has_host one && (has_host other && (bytes_eq (scheme one) (scheme other)
    && (bytes_eq (path one) (path other) && same_hosts one other)))
