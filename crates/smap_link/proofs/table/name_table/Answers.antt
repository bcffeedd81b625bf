use Rattle.std.proofs.Common.{◌≡◌, ◌∙◌, ◌⊎◌, ⊎_elim, ℕ, ◌<◌, ◌≤◌, List, Bor, [], Some, None, ap, sym, subst}
use Rattle.std.proofs.Common.{map}
use Rattle.std.proofs.Common.{length, get_or, take, arith}
use Rattle.std.proofs.lemmas.List.{length-map, take_all}
use Rattle.smap_link.specs.Choice.{first_of}
use Rattle.smap_link.specs.Table.{place_in, rows_of, with_place}
use Rattle.smap_link.proofs.TableLemmas.{first_here, more_places, more_texts, read_at, repeated}
use Rattle.smap_link.proofs.table.name_table.Goals as goal

pub returns-in-Some-clause-fault : goal.returns-in-Some-clause-fault
returns-in-Some-clause-fault c =
    let scripts = map {A = Bor (List ℕ)} {B = List ℕ} (λ s. s.now) c.args.scripts.now in
    let i = c.loop-i.i in
    let some : i < length scripts = simp length-map (omega (arith, c.loop-i-test.true)) in
    let one = read_at c.args.scripts.now i _ c.loop-i-test.true in
    repeated scripts i c.in-Some.first some
    (sym (c.loop-i.invariant.0 (get_or scripts i []))
    ∙ ap (place_in (rows_of c.loop-i.table.entries)) (sym one) ∙ sym c.in-Some.ensures)

pub loop-i-preserved : goal.loop-i-preserved
loop-i-preserved c =
    let scripts = map {A = Bor (List ℕ)} {B = List ℕ} (λ s. s.now) c.args.scripts.now in
    let i = c.loop-i.i in
    let some : i < length scripts = simp length-map (omega (arith, c.loop-i-test.true)) in
    let one = read_at c.args.scripts.now i _ c.loop-i-test.true in
    let none : first_of (get_or scripts i []) (take i scripts) ≡ None =
    sym (c.loop-i.invariant.0 (get_or scripts i []))
    ∙ ap (place_in (rows_of c.loop-i.table.entries)) (sym one) ∙ sym c.in_default.ensures in (
      more_places (rows_of c.loop-i.table.entries)
          (rows_of c.add.new.table.entries) scripts i some c.loop-i.invariant.0
          (c.in_ok-add.ensures ∙ ap (λ (t : List ℕ). with_place (rows_of c.loop-i.table.entries) t i)
          (c.in_ok-name.ensures.items ∙ one)),
      (
        λ j lt.
            let cases : (j ≡ i) ⊎ (j < i) = grind arith in
            ⊎_elim (λ same. subst (λ (k : ℕ). first_of (get_or scripts k []) scripts ≡ Some k) (sym same)
            (first_here scripts i some none))
            (λ before. c.loop-i.invariant.1.0 j before) cases,
        more_texts (rows_of c.loop-i.table.entries) (rows_of c.add.new.table.entries) scripts i some
            (ap (place_in (rows_of c.loop-i.table.entries)) (sym one) ∙ sym c.in_default.ensures)
            (c.in_ok-add.ensures ∙ ap (λ (t : List ℕ). with_place (rows_of c.loop-i.table.entries) t i)
            (c.in_ok-name.ensures.items ∙ one))
            c.loop-i.invariant.1.1,
      ),
    )

pub returns-clause-distinct : goal.returns-clause-distinct
returns-clause-distinct c = λ j lt.
    c.loop-i.invariant.1.0 j (omega (arith, c.loop-i-test.false, simp length-map at lt))

pub returns-clause-texts : goal.returns-clause-texts
returns-clause-texts c =
    let scripts = map {A = Bor (List ℕ)} {B = List ℕ} (λ s. s.now) c.args.scripts.now in
    let ended : length scripts ≤ c.loop-i.i = simp length-map (omega (arith, c.loop-i-test.false)) in
    c.loop-i.invariant.1.1 ∙ take_all c.loop-i.i scripts ended
