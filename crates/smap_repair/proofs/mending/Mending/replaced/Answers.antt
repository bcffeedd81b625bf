use Rattle.std.proofs.Common.{rules, ◌≡◌, ◌++◌, ◌∷◌, [], length, true, string_bytes}
use Rattle.smap_repair.specs.Listed.{is_listed}
use Rattle.smap_repair.specs.declared.repair.Repair.{Repair}
use Rattle.smap_repair.proofs.LeadLemmas.{leads_on, cut_at}
use Rattle.smap_repair.proofs.mending.Mending.replaced.Goals as goal

pub returns : goal.returns
returns c = λ old leads.
    let r : Repair = record {
      change = c.args.edit.change;
      section = c.args.edit.section;
      start = c.len-start.result;
      before = c.args.edit.before;
      after = c.args.edit.after;
    } in
    let pushed : c.push.new.self.items ≡ c.args.self.repairs.items ++ r ∷ [] = search rules in
    let grown : c.extend_from_slice.new.self.items
    ≡ c.args.self.done.items ++ string_bytes c.args.edit.after =
    search rules in
    let cut : c.args.self.left.now ≡ string_bytes c.args.edit.before ++ c.in-Some.behind.now =
    cut_at c.args.self.left.now (string_bytes c.args.edit.before) c.in-Some.behind.now
    (rw c.as_bytes.ensures.value at c.in-Some.ensures.cases.0)
    (rw c.as_bytes.ensures.value at c.in-Some.ensures.cases.1) in
    let listed : is_listed r.change c.args.self.done.items (string_bytes r.before) (string_bytes r.after)
    c.in-Some.behind.now ≡ true = search rules in
    let at : r.start ≡ length c.args.self.done.items = search rules in
    rw (pushed, grown)
    (leads_on c.args.self.repairs.items r old c.args.self.done.items c.args.self.left.now c.in-Some.behind.now
    at cut listed leads)
