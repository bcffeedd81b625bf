use Rattle.std.proofs.Common.{◌≡◌, ◌∙◌, ap, map, rules, string_bytes}
use Rattle.std.specs.Map.Iter.{deref_pair}
use Rattle.std.proofs.lemmas.Map.Iter.{iter_end}
use Rattle.serde_json.specs.Find.{as_object}
use Rattle.serde_json.specs.View.{view}
use Rattle.smap_differences.specs.Drops.{is_index, lost_among}
use Rattle.smap_differences.proofs.DropLemmas.{keys_gone_through, lost_found}
use Rattle.smap_differences.proofs.members.lost_members.Goals as goal

pub returns : goal.returns
returns c =
    let tree = view c.args.tree.now in
    let all : map deref_pair c.loop-name.yielded ≡ c.in-Some.members.now.entries = search (rules, iter_end) in
    let found = lost_found c.args.part (is_index tree) (as_object tree) c.in-Some.members.now.entries
    c.in-Some.ensures in
    c.loop-name.invariant
    ∙ ap (λ b. lost_among c.args.part b (map (λ e. string_bytes e.0.now) c.loop-name.yielded))
    c.is_index-is_index.ensures
    ∙ ap (lost_among c.args.part (is_index tree))
    (keys_gone_through c.loop-name.yielded ∙ ap (map (λ e. string_bytes e.0)) all)
    ∙ found
