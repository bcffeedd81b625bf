-- Debug ids, line by line from the end.
use Rattle.std.proofs.Common.{◌≡◌, ℕ, ◌-◌, ◌<◌, suc, zero, List, Option, None, refl, arith}
use Rattle.std.specs.Option.{option_or}
use Rattle.smap_lint_rules.specs.Ids.{id_in, id_in_lines, last_line, before_last_line}

pub id_in_more : (n : ℕ) (text : List ℕ) → 0 < n
    → id_in_lines n text ≡ option_or (id_in (last_line text)) (id_in_lines (n - 1) (before_last_line text))
id_in_more zero text h = absurd (omega arith)
id_in_more (suc n) text h = let e : suc n - 1 ≡ n = omega arith in rw e refl

pub id_in_none : (n : ℕ) (text line before : List ℕ) (r : Option (List ℕ)) → 0 < n → line ≡ last_line text
    → before ≡ before_last_line text → None ≡ id_in line → r ≡ id_in_lines (n - 1) before
    → r ≡ id_in_lines n text
id_in_none n text line before r h l b none e = rw (id_in_more n text h, ← l, ← b, ← none) e
