-- A chain that is closed from its end, and one that is walked from its start.
use Rattle.std.proofs.Common.{◌≡◌, ℕ, List, [], ◌∷◌, Option, Some, None, refl, ap, Bool, true}
use Rattle.std.proofs.Common.{false, ◌∙◌, sym}
use Rattle.std.specs.Prelude.{option_map, option_and_then, if◌then◌else◌}
use Rattle.std.specs.Option.{option_map_or}
use Rattle.smap_record.specs.Record.{Entry, Origin, Record}
use Rattle.smap_compose.specs.Chain.{Link, chained, closed, is_of, led_to, walk}
use Rattle.smap_compose.specs.Composing.{composition, followed, led_on, origin_in, under}
use Rattle.smap_compose.proofs.LookupLemmas.{origin_found}
use Rattle.smap_compose.proofs.MappingLemmas.{last_step}

-- it is the URL alone that leads on
led_under : (links : List Link) (ignored : Bool) (e : Entry) → led_to links (under ignored e)
    ≡ led_to links e
led_under [] ignored e = refl
led_under (link ∷ later) ignored e = rw (led_under later ignored e) refl

all_on : (later : List Link) (o : Origin) (found : Option Origin)
    → ((p : Origin) → walk later p ≡ followed (led_to (closed later)) p)
    → option_and_then (λ p. walk later (led_on o p)) found
    ≡ option_map (led_on o) (option_and_then (followed (led_to (closed later))) found)
all_on later o None h = refl
all_on later o (Some p) h = h (led_on o p)
    ∙ last_step o p (led_to (closed later) (under o.source.ignored p.source))
    ∙ rw (led_under (closed later) o.source.ignored p.source) refl

walk_step : (script : List ℕ) (r : Record) (later : List Link) (o : Origin) (b : Bool)
    → ((p : Origin) → walk later p ≡ followed (led_to (closed later)) p)
    → (if b then option_and_then (λ p. walk later (led_on o p)) (origin_in r o.line o.column)
    else walk later o)
    ≡ option_map_or (λ s. option_map (led_on o) (origin_in s o.line o.column))
    (if b then Some (composition r (led_to (closed later))) else led_to (closed later) o.source) (Some o)
walk_step script r later o true h = all_on later o (origin_in r o.line o.column) h
    ∙ ap (option_map (led_on o)) (sym (origin_found r (led_to (closed later)) o.line o.column))
walk_step script r later o false h = h o

walked : (links : List Link) (o : Origin) → walk links o ≡ followed (led_to (closed links)) o
walked [] o = refl
walked (link ∷ later) o = walk_step link.0 link.1 later o (is_of link.0 o.source) (walked later)

walk_found : (links : List Link) (found : Option Origin)
    → option_and_then (followed (led_to (closed links))) found ≡ option_and_then (walk links) found
walk_found links None = refl
walk_found links (Some o) = sym (walked links o)

pub chain_walked : (r : Record) (links : List Link) (line column : ℕ)
    → origin_in (chained r links) line column ≡ option_and_then (walk links) (origin_in r line column)
chain_walked r links line column = origin_found r (led_to (closed links)) line column
    ∙ walk_found links (origin_in r line column)
