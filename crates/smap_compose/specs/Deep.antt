-- Maps whose sources lead on at every depth. What a source leads to depends on the source alone.
use Rattle.std.specs.Prelude.{◌≡◌, ℕ, zero, suc, List, [], ◌∷◌, drop, map, slice_get, unwrap_or}
use Rattle.std.specs.Prelude.{Option, None, Some, option_map}
use Rattle.std.specs.Global.{Vec}
use Rattle.smap_record.specs.Record.{Entry, ReadMap, Record, record_of}
use Rattle.smap_compose.specs.Composing.{Maps, composition}
use Rattle.smap_compose.specs.Numbered.{led_at, numbered}

-- The composition of a map with the maps that its sources lead to, each composed so too, so many levels deep.
abbrev pub composed : ℕ → Maps → Record → Record
composed zero find r = r
composed (suc n) find r = composition r (λ e. option_map (composed n find) (find e))

-- These numbers, one for each source of a map, say which of the maps the sources lead to.
abbrev pub Lead : List ReadMap → Maps → ReadMap → List (Option ℕ) → Type 0
Lead maps find m numbers =
    (i : ℕ) (e : Entry) → slice_get (record_of m).sources i ≡ Some e → led_at maps numbers i ≡ find e

-- the numbers of the k-th map's sources
abbrev pub numbers_at : List (Vec (Option ℕ)) → ℕ → List (Option ℕ)
numbers_at leads k = unwrap_or (option_map (λ v. v.items) (slice_get leads k)) []

-- So do those of each of the maps.
abbrev pub AllLead : List ReadMap → Maps → List (Vec (Option ℕ)) → Type 0
AllLead maps find leads =
    (k : ℕ) (m : ReadMap) → slice_get maps k ≡ Some m → Lead maps find m (numbers_at leads k)

-- ---- by numbers alone

-- A map composed with those of the inner ones that its sources' numbers name.
abbrev pub by_numbers : ReadMap → List (Option ℕ) → List Record → Record
by_numbers m numbers inner = composition (record_of m) (numbered (record_of m).sources numbers inner)

-- Each of these maps so, with its own numbers.
abbrev pub each_by_numbers : List ReadMap → List (Vec (Option ℕ)) → List Record → List Record
each_by_numbers [] leads inner = []
each_by_numbers (m ∷ maps) leads inner =
    by_numbers m (numbers_at leads 0) inner ∷ each_by_numbers maps (drop 1 leads) inner

-- These maps, each composed with those that its sources' numbers name, which are composed so too, so many
-- levels deep.
abbrev pub levels : List ReadMap → List (Vec (Option ℕ)) → ℕ → List Record
levels maps leads zero = map record_of maps
levels maps leads (suc n) = each_by_numbers maps leads (levels maps leads n)

-- for private contracts: the maps as they were composed last, or as they are
abbrev pub latest : List ReadMap → Option (Vec ReadMap) → List ReadMap
latest maps None = maps
latest maps (Some all) = all.items
