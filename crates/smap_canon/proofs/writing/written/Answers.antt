use Rattle.std.proofs.Common.{◌∙◌, ap, sym, subst}
use Rattle.std.specs.Prelude.{IsUtf8}
use Rattle.std.proofs.lemmas.Str.{IsUtf8-string_bytes}
use Rattle.smap_canon.specs.Spelling.{spelling_of}
use Rattle.smap_canon.specs.Writing.{map_of}
use Rattle.smap_canon.proofs.ListedLemmas.{few_listed}
use Rattle.smap_canon.proofs.ReadBackLemmas.{sent_text, compact_back}
use Rattle.smap_canon.proofs.writing.written.Goals as goal

pub returns-in-Ok-clause-text : goal.returns-in-Ok-clause-text
returns-in-Ok-clause-text c =
    ap (λ v. v.items) c.into_bytes.ensures.value ∙ sent_text (spelling_of c.args.spelling)
    (map_of c.args.listed) c.in-Ok.ensures.events.0 _
    (few_listed c.args.listed c.token_count.ensures.listing) c.in-Ok.ensures.events.1
    c.in-Ok.ensures.events.2

pub returns-in-Ok-clause-back : goal.returns-in-Ok-clause-back
returns-in-Ok-clause-back c =
    compact_back (spelling_of c.args.spelling) (map_of c.args.listed)
    (few_listed c.args.listed c.token_count.ensures.listing)
    (subst IsUtf8 (returns-in-Ok-clause-text c)
    (subst (λ v. IsUtf8 v.items) (sym c.into_bytes.ensures.value) (IsUtf8-string_bytes c.in-Ok.text)))
