use Rattle.std.proofs.Common.{◌≡◌, ◌∙◌, List, ℕ, Option, Ok, ap, sym}
use Rattle.serde_json.specs.View.{view}
use Rattle.smap_shape.specs.Contents.{contents_of, map_with_contents}
use Rattle.smap_shape.specs.Reading.{shape_of}
use Rattle.smap_shape.specs.Views.{map_value}
use Rattle.smap_record.specs.Owned.{members_map}
use Rattle.smap_record.specs.Reading.{tree_map}
use Rattle.smap_record.proofs.WrittenLemmas.{tree_without}
use Rattle.smap_record.proofs.WrittenUrlLemmas.{listed_urls, listed_count}
use Rattle.smap_record.proofs.reading_as_written.tree_map_of.Goals as goal

pub returns-clause-written : goal.returns-clause-written
returns-clause-written c =
    let tree = view c.args.tree in
    c.in_ok-written.ensures
    ∙ tree_without tree (view c.in_ok-contents.tree) (contents_of tree) c.in_ok-contents.ensures.members

pub returns-clause-count : goal.returns-clause-count
returns-clause-count c =
    let tree = view c.args.tree in
    let left = view c.in_ok-contents.tree in
    let members = c.in_ok-contents.ensures.members in
    let reads : tree_map c.args.base.now c.args.limits tree ≡ Ok c.in_ok-map.map =
    ap (members_map c.args.base.now c.args.limits) (members
    ∙ ap (λ (own : List (Option (List ℕ))). map_value (map_with_contents own) (shape_of left))
    (sym c.in_ok-contents.ensures.contents))
    ∙ c.in_ok-map.ensures.reads in
    listed_count c.args.base.now c.args.limits tree c.in_ok-map.map reads c.in_ok-written.written
    (c.in_ok-written.ensures ∙ tree_without tree left (contents_of tree) members)

pub returns-clause-urls : goal.returns-clause-urls
returns-clause-urls c =
    let tree = view c.args.tree in
    let left = view c.in_ok-contents.tree in
    let members = c.in_ok-contents.ensures.members in
    let reads : tree_map c.args.base.now c.args.limits tree ≡ Ok c.in_ok-map.map =
    ap (members_map c.args.base.now c.args.limits) (members
    ∙ ap (λ (own : List (Option (List ℕ))). map_value (map_with_contents own) (shape_of left))
    (sym c.in_ok-contents.ensures.contents))
    ∙ c.in_ok-map.ensures.reads in
    listed_urls c.args.base.now c.args.limits tree c.in_ok-map.map reads c.in_ok-written.written
    (c.in_ok-written.ensures ∙ tree_without tree left (contents_of tree) members)
