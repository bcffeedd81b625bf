use Rattle.std.proofs.Common.{◌≡◌, ◌∙◌, ap, sym, [], refl, rules, Some, None, map, option_map, string_bytes}
use Rattle.serde_json.specs.View.{view}
use Rattle.serde_json.specs.Find.{as_object}
use Rattle.serde_json.specs.declared.value.Value.{the_lemmas}
use Rattle.smap_shape.proofs.ContentsLemmas.{taken_contents, taken_members, no_object}
use Rattle.smap_shape.proofs.contents.split_tree.Goals as goal

pub returns-in_ok-listed_texts-in-Some-clause-contents :
    goal.returns-in_ok-listed_texts-in-Some-clause-contents
returns-in_ok-listed_texts-in-Some-clause-contents c =
    taken_contents c.args.tree c.in-Object.members c.remove.new.self c.in-Object.is (Some c.in-Some.list)
    (sym c.in-Some.is ∙ c.remove.ensures.value) c.requires
    (map (option_map string_bytes) c.in_ok-listed_texts-in-Some.field-0.items)
    c.in_ok-listed_texts-in-Some.ensures

pub returns-in_ok-listed_texts-in-Some-clause-members : goal.returns-in_ok-listed_texts-in-Some-clause-members
returns-in_ok-listed_texts-in-Some-clause-members c =
    taken_members c.args.tree c.in-Object.members c.remove.new.self c.in-Object.is (Some c.in-Some.list)
    (sym c.in-Some.is ∙ c.remove.ensures.value) c.requires
    (map (option_map string_bytes) c.in_ok-listed_texts-in-Some.field-0.items)
    c.in_ok-listed_texts-in-Some.ensures c.remove.ensures.entries c.remove.ensures.updates.1

pub returns-in-None-clause-contents : goal.returns-in-None-clause-contents
returns-in-None-clause-contents c =
    ap (map (option_map string_bytes)) c.new.ensures.items
    ∙ taken_contents c.args.tree c.in-Object.members c.remove.new.self c.in-Object.is None
    (sym c.in-None.is ∙ c.remove.ensures.value) c.requires [] refl

pub returns-in-None-clause-members : goal.returns-in-None-clause-members
returns-in-None-clause-members c =
    taken_members c.args.tree c.in-Object.members c.remove.new.self c.in-Object.is None
    (sym c.in-None.is ∙ c.remove.ensures.value) c.requires [] refl c.remove.ensures.entries
    c.remove.ensures.updates.1

pub returns-in_default : goal.returns-in_default
returns-in_default c =
    let none : as_object (view c.args.tree) ≡ None = search (rules, the_lemmas) in
    let both = no_object (view c.args.tree) none in
    record {
      contents = ap (map (option_map string_bytes)) c.new-in_default.ensures.items ∙ both.0;
      members = both.1;
    }
