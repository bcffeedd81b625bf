-- Mappings that are followed once, and then again.
use Rattle.std.proofs.Common.{◌≡◌, ℕ, List, [], ◌∷◌, map, Option, Some, None, refl, ap, Bool, true}
use Rattle.std.proofs.Common.{false, ◌∙◌, sym}
use Rattle.std.specs.Prelude.{◌||◌, option_map, option_and_then}
use Rattle.std.specs.Option.{option_or, option_map_or}
use Rattle.smap_record.specs.Record.{Entry, Origin, Mapping, Record}
use Rattle.smap_compose.specs.Composing.{Maps, composition, followed, led_on, one_after, origin_in}
use Rattle.smap_compose.specs.Composing.{through, under}
use Rattle.smap_compose.proofs.LookupLemmas.{origin_found}

or_assoc : (a b c : Bool) → ((a || b) || c) ≡ (a || (b || c))
or_assoc true b c = refl
or_assoc false b c = refl

name_assoc : (a b c : Option (List ℕ)) → option_or a (option_or b c) ≡ option_or (option_or a b) c
name_assoc None b c = refl
name_assoc (Some x) b c = refl

pub under_under : (a b : Bool) (e : Entry) → under (a || b) e ≡ under a (under b e)
under_under a b e = rw (or_assoc a b e.ignored) refl

led_on_on : (o p q : Origin) → led_on (led_on o p) q ≡ led_on o (led_on p q)
led_on_on o p q = rw (
  under_under o.source.ignored p.source.ignored q.source,
  name_assoc q.name p.name o.name,
) refl

mapped : (o p : Origin) (q : Option Origin) → option_map (led_on (led_on o p)) q
    ≡ option_map (led_on o) (option_map (led_on p) q)
mapped o p None = refl
mapped o p (Some q) = ap Some (led_on_on o p q)

pub last_step : (o p : Origin) (found : Option Record)
    → option_map_or (λ r. option_map (led_on (led_on o p)) (origin_in r p.line p.column)) found (Some
    (led_on o p))
    ≡ option_map (led_on o) (option_map_or (λ r. option_map (led_on p)
    (origin_in r p.line p.column)) found (Some p))
last_step o p None = refl
last_step o p (Some r) = mapped o p (origin_in r p.line p.column)

inner_step : (later : Maps) (o : Origin) (found : Option Origin)
    → option_and_then (followed later) (option_map (led_on o) found)
    ≡ option_map (led_on o) (option_and_then (followed (λ x. later (under o.source.ignored x))) found)
inner_step later o None = refl
inner_step later o (Some p) = last_step o p (later (under o.source.ignored p.source))

first_step : (later : Maps) (o : Origin) (found : Option Record)
    → option_and_then (followed later)
    (option_map_or (λ r. option_map (led_on o) (origin_in r o.line o.column)) found (Some o))
    ≡ option_map_or (λ r. option_map (led_on o) (origin_in r o.line o.column))
    (option_map_or (λ r. Some (composition r (λ x. later (under o.source.ignored x)))) found
    (later o.source)) (Some o)
first_step later o None = refl
first_step later o (Some r) = inner_step later o (origin_in r o.line o.column)
    ∙ ap (option_map (led_on o))
    (sym (origin_found r (λ x. later (under o.source.ignored x)) o.line o.column))

origin_twice : (maps later : Maps) (found : Option Origin)
    → option_and_then (followed later) (option_and_then (followed maps) found)
    ≡ option_and_then (followed (one_after maps later)) found
origin_twice maps later None = refl
origin_twice maps later (Some o) = first_step later o (maps o.source)

through_twice : (maps later : Maps) (m : Mapping)
    → through later (through maps m) ≡ through (one_after maps later) m
through_twice maps later m = rw (origin_twice maps later m.origin) refl

pub mappings_twice : (maps later : Maps) (ms : List Mapping)
    → map (through later) (map (through maps) ms) ≡ map (through (one_after maps later)) ms
mappings_twice maps later [] = refl
mappings_twice maps later (m ∷ ms) = rw (through_twice maps later m, mappings_twice maps later ms) refl

-- ---- nothing to follow

through_nothing : (m : Mapping) (origin : Option Origin)
    → option_and_then (followed (λ e. None)) origin ≡ origin
through_nothing m None = refl
through_nothing m (Some o) = refl

pub mappings_alone : (ms : List Mapping) → map (through (λ e. None)) ms ≡ ms
mappings_alone [] = refl
mappings_alone (m ∷ ms) = rw (through_nothing m m.origin, mappings_alone ms) refl
