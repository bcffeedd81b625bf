use Rattle.std.proofs.Common.{◌≡◌, rules, List, ℕ, refl, sym, subst, arith}
use Rattle.std.specs.List.{All, Contains}
use Rattle.smap_record.specs.Record.{record_of}
use Rattle.smap_trace.specs.Scripts.{Script}
use Rattle.smap_trace.proofs.TableLemmas.{all_put, names_of, put_keeps, put_there}
use Rattle.smap_map_finder.specs.Choice.{IsMapOf}
use Rattle.smap_map_finder.specs.ChosenView.{HasNamedMap}
use Rattle.smap_map_finder.proofs.chosen.Chosen.note_mapped.Goals as goal

pub returns-in-Ok-clause-chosen : goal.returns-in-Ok-clause-chosen
returns-in-Ok-clause-chosen c = λ held wanted is chosen.
    let same : c.in_ok-name.name.items ≡ c.args.name.now = search rules in
    let r = record_of c.args.map.value in
    let Has = HasNamedMap held wanted in
    record {
      scripts = subst (All Has) (sym c.in-Ok.ensures.ok)
          (all_put Has c.in_ok-name.name.items r c.args.self.now.scripts chosen.scripts (
            c.args.map.value,
            subst (λ (n : List ℕ). IsMapOf held wanted n c.args.map.value) (sym same) is,
            refl,
          ));
      openings = chosen.openings;
      left = chosen.left;
    }

pub returns-in-Ok-clause-has : goal.returns-in-Ok-clause-has
returns-in-Ok-clause-has c =
    let same : c.in_ok-name.name.items ≡ c.args.name.now = search rules in
    subst (λ (ss : List Script). Contains (names_of ss) c.args.name.now) (sym c.in-Ok.ensures.ok)
    (subst (Contains (names_of _)) same
    (put_there c.in_ok-name.name.items (record_of c.args.map.value) c.args.self.now.scripts))

pub returns-in-Ok-clause-grows : goal.returns-in-Ok-clause-grows
returns-in-Ok-clause-grows c = record {
  names = λ name has. subst (λ (ss : List Script). Contains (names_of ss) name) (sym c.in-Ok.ensures.ok)
      (put_keeps c.in_ok-name.name.items (record_of c.args.map.value) c.args.self.now.scripts name has);
  openings = λ i o is. is;
  crowded = λ i is. is;
  worst = omega arith;
}
