-- A text in the parts into which its functions divide it.
use Rattle.std.specs.Prelude.{◌≡◌, ℕ, ◌&&◌, ◌||◌, Bool, true, not, nat_le, nat_lt, min, max, if◌then◌else◌}
use Rattle.std.specs.Prelude.{List, [], ◌∷◌, ◌++◌, ◌<◌, ◌≤◌, length, get_or, Option, None, Some}
use Rattle.std.specs.List.{list_any}
use Rattle.smap_functions.specs.declared.found.Function.{Function}
use Rattle.smap_functions.specs.declared.segments.Segment.{Segment}
use Rattle.smap_functions.specs.Functions.{innermost}

-- whether a place is behind one of two others, and not behind the other
abbrev pub is_between : ℕ → ℕ → ℕ → Bool
is_between p q place = nat_lt (min p q) place && nat_le place (max p q)

-- whether a function begins or ends between two places
abbrev pub divides : ℕ → ℕ → Function → Bool
divides p q f = is_between p q f.start || is_between p q f.end

-- no function begins or ends between two places
abbrev pub undivided : List Function → ℕ → ℕ → Bool
undivided fs p q = not (list_any (divides p q) fs)

-- ---- segments, of which the last that begins up to a place has the place

-- the innermost function at a place, by the segments
abbrev pub said : List Segment → ℕ → Option Function → Option Function
said [] p found = found
said (s ∷ ss) p found = said ss p (if nat_le s.start p then s.innermost else found)

-- they begin in order, none before a place
abbrev pub rise : ℕ → List Segment → Bool
rise n [] = true
rise n (s ∷ ss) = nat_le n s.start && rise s.start ss

-- the first so many begin up to a place, and no other does
pub record Counts (ss : List Segment) (place count : ℕ) : Type 0 where
  pub within : count ≤ length ss
  pub begun : (k : ℕ) (d : Segment) → k < count → (get_or ss k d).start ≤ place
  pub waiting : (k : ℕ) (d : Segment) → count ≤ k → k < length ss → place < (get_or ss k d).start

-- what the last one says
abbrev pub last_says : List Segment → Option Function → Option Function
last_says [] found = found
last_says (s ∷ ss) found = last_says ss s.innermost

-- For private contracts: a segment begins with a function, and behind its end there is again what was there
-- before.
pub record AddsFunction (f : Function) (old new : List Segment) : Type 0 where
  pub before : List Segment
  pub behind : List Segment
  pub old_is : old ≡ before ++ behind
  pub new_is : new ≡ before ++ record { start = f.start; innermost = Some f }
      ∷ record { start = f.end; innermost = last_says before None } ∷ behind

-- They say of each place which function is innermost, and begin where functions begin or end.
pub record AreSegments (fs : List Function) (ss : List Segment) : Type 0 where
  pub in_order : rise 0 ss ≡ true
  pub innermost_is : (p : ℕ) → said ss p None ≡ innermost fs p
  pub divide : (p q : ℕ) → list_any (λ s. is_between p q s.start) ss ≡ list_any (divides p q) fs
