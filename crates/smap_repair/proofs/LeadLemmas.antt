-- One more repair leads one text further.
use Rattle.std.proofs.Common.{◌≡◌, ℕ, true, List, [], ◌∷◌, ◌++◌, length, take, drop, string_bytes}
use Rattle.std.proofs.Common.{sym, ap, ◌∙◌}
use Rattle.std.proofs.Common.{append_assoc, arith, refl, subst}
use Rattle.std.proofs.lemmas.List.{take-append-drop}
use Rattle.std.proofs.lemmas.Slice.Eq.{bytes_eq-Decides}
use Rattle.std.specs.Str.{bytes_eq}
use Rattle.std.proofs.Math.Seq.{drop-append-add, drop-append_seam, take-append_seam}
use Rattle.smap_repair.specs.Listed.{is_listed, mark}
use Rattle.smap_repair.specs.Leading.{IsRepairOf, Leads, ahead_of, behind, made}
use Rattle.smap_repair.specs.Unmarking.{IsRemoval}
use Rattle.smap_repair.specs.declared.repair.Repair.{Repair}

one_more : (rs : List Repair) (r : Repair) (old mid : List ℕ) → Leads rs old mid → IsRepairOf r mid
    → Leads (rs ++ r ∷ []) old (made r mid)
unfolding Leads
one_more [] r old mid e is = (subst (IsRepairOf r) (sym e) is, ap (made r) e)
one_more (q ∷ rs) r old mid p is = (p.0, one_more rs r (made q old) mid p.1 is)

-- what is ahead and behind, where the text is cut at the repair
pub ahead_is : (r : Repair) (done left : List ℕ) → r.start ≡ length done → ahead_of r (done ++ left) ≡ done
ahead_is r done left e = rw e (take-append_seam done left)

behind_is : (r : Repair) (done rest : List ℕ) → r.start ≡ length done
    → behind r (done ++ (string_bytes r.before ++ rest)) ≡ rest
behind_is r done rest e =
    rw (e, drop-append-add done (string_bytes r.before ++ rest) (length (string_bytes r.before)))
    (drop-append_seam (string_bytes r.before) rest)

pub leads_on : (rs : List Repair) (r : Repair) (old done left rest : List ℕ)
    → r.start ≡ length done → left ≡ string_bytes r.before ++ rest
    → is_listed r.change done (string_bytes r.before) (string_bytes r.after) rest ≡ true
    → Leads rs old (done ++ left) → Leads (rs ++ r ∷ []) old ((done ++ string_bytes r.after) ++ rest)
leads_on rs r old done left rest at cut listed leads =
    let ahead : ahead_of r (done ++ left) ≡ done = ahead_is r done left at in
    let after : behind r (done ++ left) ≡ rest = rw cut (behind_is r done rest at) in
    let mid = done ++ left in
    let there : mid ≡ ahead_of r mid ++ (string_bytes r.before ++ behind r mid) =
    rw (ahead, after) (ap (λ (t : List ℕ). done ++ t) cut) in
    let is : IsRepairOf r (done ++ left) = record { there = there; listed = rw (ahead, after) listed } in
    let now : made r (done ++ left) ≡ (done ++ string_bytes r.after) ++ rest =
    rw (ahead, after) (sym (append_assoc done (string_bytes r.after) rest)) in
    rw now at (one_more rs r old (done ++ left) leads is)

-- a text that begins with some bytes is cut behind them
pub cut_at : (left before rest : List ℕ) → bytes_eq (take (length before) left) before ≡ true
    → rest ≡ drop (length before) left → left ≡ before ++ rest
cut_at left before rest begins e =
    let front = bytes_eq-Decides (take (length before) left) before in
    let same : take (length before) left ≡ before = grind (arith, front, begins) in
    let rest_of = drop (length before) left in
    sym (rw e (ap (λ (t : List ℕ). t ++ rest_of) (sym same) ∙ take-append-drop (length before) left))

pub leads_nowhere : (text : List ℕ) → Leads [] text text
unfolding Leads
leads_nowhere text = refl

-- the mark removed
pub mark_removed : (r : Repair) (text rest : List ℕ) → IsRemoval r → text ≡ mark ++ rest
    → Leads (r ∷ []) text rest
mark_removed r text rest is cut =
    let front : text ≡ string_bytes r.before ++ rest = rw is.before cut in
    let listed : is_listed r.change [] (string_bytes r.before) (string_bytes r.after) rest ≡ true =
    rw (is.change, is.before, is.after) refl in
    let led : Leads (r ∷ []) text (string_bytes r.after ++ rest) =
    leads_on [] r text [] text rest is.start front listed (leads_nowhere text) in
    let behind_mark : string_bytes r.after ++ rest ≡ rest = ap (λ (t : List ℕ). t ++ rest) is.after in
    subst (Leads (r ∷ []) text) behind_mark led
