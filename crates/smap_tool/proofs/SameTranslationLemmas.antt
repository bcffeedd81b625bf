-- Records that stand for one another are equal, and so are their translations.
use Rattle.std.proofs.Common.{◌≡◌, List, [], ◌∷◌, inl, inr, refl, sym, ap}
use Rattle.smap_record.specs.Record.{Record}
use Rattle.smap_canon.specs.Canonical.{canonical_text_in}
use Rattle.smap_canon.proofs.LawLemmas.{is_fixed_point, read_once}
use Rattle.smap_trace.specs.Translation.{Script, fate_by, translation_by}
use Rattle.smap_tool.specs.SameTranslation.{Agree, IsReadFrom, SameTranslation, StandFor}

read_same : (r s : Record) → IsReadFrom r s → r ≡ s
read_same r s f =
    read_once f.base f.limits (canonical_text_in f.form f.base r) (canonical_text_in f.form f.base r) r s
    (is_fixed_point f.form f.base f.limits r f.are_limits f.fits f.reads_back) f.read refl

one : (r s : Record) → StandFor r s → r ≡ s
one r s (inl e) = e
one r s (inr (inl f)) = read_same r s f
one r s (inr (inr f)) = sym (read_same s r f)

all_equal : (scripts others : List Script) → Agree scripts others → scripts ≡ others
all_equal [] [] h = refl
all_equal [] (t ∷ ts) h = absurd h
all_equal (s ∷ ss) [] h = absurd h
all_equal (s ∷ ss) (t ∷ ts) h =
    let head = one s.1 t.1 h.1 in
    let tail = all_equal ss ts h.2 in
    λ i. (h.0 i, head i) ∷ tail i

pub same : SameTranslation
same scripts others distinct also agree mode hide trace =
    ap (λ (xs : List Script). translation_by (fate_by mode xs hide) trace)
    (all_equal scripts others agree)
