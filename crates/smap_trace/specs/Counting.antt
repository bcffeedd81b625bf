-- For private contracts: the URLs of a trace, counted line by line.
use Rattle.std.specs.Prelude.{◌≡◌, ℕ, ◌+◌, List, [], ◌∷◌, map, bytes_eq, if◌then◌else◌}
use Rattle.std.specs.Global.{Vec}
use Rattle.std.specs.List.{cons_option}
use Rattle.smap_trace.specs.Naming.{url_of}
use Rattle.smap_trace.specs.Views.{at_most_u64}

-- the entries of the table, with the bytes of their keys
abbrev pub named_of : List (Vec ℕ × ℕ) → List (List ℕ × ℕ)
named_of entries = map (λ e. (e.0.items, e.1)) entries

-- with one line more that names this URL
abbrev pub with_url : List ℕ → List (List ℕ × ℕ) → List (List ℕ × ℕ)
with_url url [] = (url, 1) ∷ []
with_url url (e ∷ es) =
    if bytes_eq url e.0 then (e.0, at_most_u64 (e.1 + 1)) ∷ es else e ∷ with_url url es

-- with lines more that name these, one after another
abbrev pub with_urls : List (List ℕ) → List (List ℕ × ℕ) → List (List ℕ × ℕ)
with_urls [] named = named
with_urls (url ∷ urls) named = with_urls urls (with_url url named)

-- A line was counted: one more for the URL that it names, if it is a frame.
abbrev pub CountsLine : List (List ℕ × ℕ) → List ℕ → List (List ℕ × ℕ) → Type 0
CountsLine old line new = new ≡ with_urls (cons_option (url_of line) []) old
