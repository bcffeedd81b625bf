-- What handles hold.
use Rattle.std.specs.Prelude.{◌≡◌, ℕ, Bool, true, false, List, Option, Some, None}
use Rattle.std.specs.Fn.{Once}
use denote.Ref.{Bor, MutBor}
use Rattle.std.specs.Global.{Vec}
use Rattle.smap_compose.specs.Building.{Made}
use Rattle.smap_trace.specs.Translation.{Script}
use Rattle.smap_c.specs.declared.handles.Held.{Held}
use Rattle.smap_c.specs.declared.handles.Held.TheVariants as held
use Rattle.smap_c.specs.declared.opened.Opened.{Opened}
use Rattle.smap_c_answers.specs.Codes as codes

-- ---- what it is

abbrev pub is_map : Held → Bool
is_map (held.Map s) = true
is_map h = false

abbrev pub is_bytes : Held → Bool
is_bytes (held.Bytes v) = true
is_bytes h = false

abbrev pub is_scripts : Held → Bool
is_scripts (held.Scripts ss) = true
is_scripts h = false

abbrev pub is_builder : Held → Bool
is_builder (held.Builder b) = true
is_builder h = false

-- there is nothing, or what there is is of that kind
abbrev pub is_none_or : (Held → Bool) → Option Held → Bool
is_none_or is None = true
is_none_or is (Some h) = is h

-- ---- its value

-- the map that it has a share in
abbrev pub held_map : Option Held → Option Opened
held_map (Some (held.Map s)) = Some s.arc.value
held_map h = None

abbrev pub held_bytes : Option Held → Option (Vec ℕ)
held_bytes (Some (held.Bytes v)) = Some v
held_bytes h = None

abbrev pub held_scripts : Option Held → Option (List Script)
held_scripts (Some (held.Scripts ss)) = Some ss
held_scripts h = None

abbrev pub held_builder : Option Held → Option Made
held_builder (Some (held.Builder b)) = Some b.value
held_builder h = None

-- ---- what is asked of a map, for private contracts

-- The map is asked so, or the handle is closed.
abbrev pub IsAsked : {F O : Type 0}
    → Once F (Bor Opened × (MutBor O × Unit {0})) (ℕ × (MutBor O × Unit {0})) → F → Option Opened → O → O → ℕ
    → Type 0
IsAsked g f None before after code = (code ≡ codes.CLOSED) × (after ≡ before)
IsAsked {F} {O} g f (Some o) before after code = (p : Bor Opened) × (q : MutBor O) × (left : MutBor O)
    × (p.now ≡ o) × (q.now ≡ before) × (left.now ≡ after) × g.post f (p, (q, tt)) (code, (left, tt))

-- The same of what copies a text out.
abbrev pub IsTextAsked : {F : Type 0}
    → Once F (Bor Opened × (MutBor (List ℕ) × (MutBor ℕ × Unit {0})))
    (ℕ × (MutBor (List ℕ) × (MutBor ℕ × Unit {0}))) → F → Option Opened → List ℕ → List ℕ → ℕ → ℕ → Type 0
IsTextAsked g f None before after len code = (code ≡ codes.CLOSED) × (len ≡ 0) × (after ≡ before)
IsTextAsked {F} g f (Some o) before after len code = (p : Bor Opened)
    × (q : MutBor (List ℕ)) × (n : MutBor ℕ) × (q' : MutBor (List ℕ)) × (n' : MutBor ℕ)
    × (p.now ≡ o) × (q.now ≡ before) × (q'.now ≡ after) × (n'.now ≡ len)
    × g.post f (p, (q, (n, tt))) (code, (q', (n', tt)))
