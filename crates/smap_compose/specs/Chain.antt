-- A chain of maps: each with the URL of its script, and a source leads to the first later map whose
-- script is
-- its URL. So a chain ends, whatever the URLs are.
use Rattle.std.specs.Prelude.{ℕ, ◌+◌, Bool, false, not, ◌||◌, List, [], ◌∷◌, ◌++◌, filter, map}
use Rattle.std.specs.Prelude.{Option, Some, None, option_and_then, if◌then◌else◌}
use Rattle.std.specs.List.{list_any}
use denote.Ref.{Bor}
use Rattle.smap_record.specs.Record.{Allowed, Entry, Origin, ReadMap, Record, record_of, same_text}
use Rattle.smap_compose.specs.Composing.{Maps, composition, led_on, origin_in}
use Rattle.smap_compose.specs.Numbered.{is_too_many}

-- a script's URL and its map
abbrev pub Link : Type 0
Link = List ℕ × Record

-- the links that scripts with their maps are
abbrev pub links_of : List (Bor (List ℕ) × ReadMap) → List Link
links_of links = map (λ l. (l.0.now, record_of l.1)) links

-- whether the source has the script's URL
abbrev pub is_of : List ℕ → Entry → Bool
is_of script e = same_text e.url (Some script)

-- the first of these maps whose script has the source's URL
abbrev pub led_to : List Link → Maps
led_to [] e = None
led_to (link ∷ later) e = if is_of link.0 e then Some link.1 else led_to later e

-- Each map composed with the later ones, from the last to the first.
abbrev pub closed : List Link → List Link
closed [] = []
closed (link ∷ later) = (link.0, composition link.1 (led_to (closed later))) ∷ closed later

-- The composition of a map with the chain that its sources lead to.
abbrev pub chained : Record → List Link → Record
chained r links = composition r (led_to (closed links))

-- Where an original leads, one lookup after another in the maps as they are.
abbrev pub walk : List Link → Origin → Option Origin
walk [] o = Some o
walk (link ∷ later) o = if is_of link.0 o.source
    then option_and_then (λ p. walk later (led_on o p)) (origin_in link.1 o.line o.column)
    else walk later o

-- One of these maps, composed with the later ones, is too large.
abbrev pub some_too_many : Allowed → List Link → Bool
some_too_many limits [] = false
some_too_many limits (link ∷ later) =
    is_too_many limits link.1 (led_to (closed later)) || some_too_many limits later

-- One of these maps, composed with the later ones, is too large, or the composition of the chain is.
abbrev pub chain_is_too_many : Allowed → Record → List Link → Bool
chain_is_too_many limits r links = some_too_many limits links || is_too_many limits r (led_to (closed links))

-- The number of the first link that no source leads to, where these sources lead to none of the first n.
abbrev pub unled_from : ℕ → List Entry → List Link → Option ℕ
unled_from n es [] = None
unled_from n es (link ∷ later) = if list_any (is_of link.0) es
    then unled_from (n + 1) (filter (λ e. not (is_of link.0 e)) es ++ link.1.sources) later else Some n

-- The number of the first link that no source of an earlier map leads to.
abbrev pub unled : Record → List Link → Option ℕ
unled r links = unled_from 0 r.sources links
