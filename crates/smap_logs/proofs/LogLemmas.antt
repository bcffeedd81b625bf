-- What a log hands out is what its reader had.
use Rattle.std.proofs.Common.{Bool, List, None, Option, Some, [], ap, append-nil, cond, false, not}
use Rattle.std.proofs.Common.{option_map, sym, ℕ, ◌++◌, ◌∙◌, ◌≡◌}
use Rattle.std.proofs.Common.{◌-◌, ◌<◌, ◌≤◌, append_assoc, arith, get_or, length, length-take-le, reverse}
use Rattle.std.proofs.Common.{take-append-drop}
use Rattle.std.specs.Io.{IsEmptyOrEndsWith}
use Rattle.std.specs.Io.KnownBytes.{Consumes, IsAtEnd, Keeps, prepend_known}
use Rattle.std.specs.List.{suffix_len}
use Rattle.std.proofs.lemmas.Bool.Decides.{nat_tests}
use Rattle.std.proofs.lemmas.List.{get_or-reverse, get_or-take, length-reverse}
use Rattle.std.proofs.lemmas.List.Sums.{prefix_len_stops}
use Rattle.std.proofs.KnownBytes.{prepend_known-nil}
use Rattle.smap_logs.specs.Lines.{is_feed, open_line, whole_len, whole_lines}
use Rattle.smap_logs.specs.Logs.{IsAll}

a_feed : (b : ℕ) → not (is_feed b) ≡ false → b ≡ 10
a_feed b is = grind (arith, nat_tests)

-- the last byte of whole lines
ends_in_feed : (text : List ℕ) → IsEmptyOrEndsWith (whole_lines text) 10
ends_in_feed text some =
    let s = suffix_len (λ b. not (is_feed b)) text in
    let n = whole_len text in
    let within : n ≤ length text = omega arith in
    let long : length (whole_lines text) ≡ n = length-take-le n text within in
    let low : s < length text = omega (arith, some, long) in
    let last : get_or text (length text - 1 - s) 0 ≡ 10 = sym (get_or-reverse text s 0 low)
    ∙ a_feed (get_or (reverse text) s 0) (prefix_len_stops (λ b. not (is_feed b)) (reverse text) 0
    (omega (arith, low, length-reverse text))) in
    let at : length (whole_lines text) - 1 ≡ length text - 1 - s = omega (arith, long) in
    let inside : length text - 1 - s < n = omega (arith, low) in
    ap (λ k. get_or (whole_lines text) k 0) at ∙ get_or-take n text (length text - 1 - s) 0 inside ∙ last

-- unless a log has ended, what it hands out is whole lines
pub handed_lines : (block : List ℕ) (ended : Bool) → ended ≡ false
    → IsEmptyOrEndsWith (cond ended block (whole_lines block)) 10
handed_lines block ended going = rw going (ends_in_feed block)

-- what a log hands out that was just made
pub new_log : (left : Option (List ℕ)) (block : List ℕ) (ended : Bool) → block ≡ [] → ended ≡ false
    → cond ended (option_map (λ bytes. []) left) (prepend_known (open_line block) left) ≡ left
new_log left block ended is going = rw (is, going) (prepend_known-nil left)

lines_of : (before left : Option (List ℕ)) (block : List ℕ) → Keeps before (prepend_known block left)
    → Consumes before (prepend_known (open_line block) left) (whole_lines block)
lines_of None left block kept = tt
lines_of (Some x) None block kept = absurd kept
lines_of (Some x) (Some y) block kept =
    sym kept ∙ ap (λ l. l ++ y) (sym (take-append-drop (whole_len block) block))
    ∙ append_assoc (whole_lines block) (open_line block) y

pub next_lines : (before left : Option (List ℕ)) (block : List ℕ) (ended : Bool) → ended ≡ false
    → Keeps before (prepend_known block left)
    → Consumes before (cond ended (option_map (λ bytes. []) left) (prepend_known (open_line block) left))
    (cond ended block (whole_lines block))
next_lines before left block ended going kept = rw going (lines_of before left block kept)

-- what was handed out of a log that has ended is all that it had
pub all_taken : (left rest : Option (List ℕ)) (text : List ℕ) → Consumes left rest text → IsAtEnd rest
    → IsAll left text
all_taken None rest text taken end = tt
all_taken (Some x) None text taken end = absurd taken
all_taken (Some x) (Some y) text taken end = taken ∙ ap (λ l. text ++ l) end ∙ append-nil text
