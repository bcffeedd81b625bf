use Rattle.std.proofs.Common.{◌≡◌, ◌∙◌, List, ℕ, Option, Ok, true, ap, subst, sym}
use Rattle.std.proofs.lemmas.Result.{err_from_is_err_and}
use Rattle.serde_json.specs.View.{view}
use Rattle.smap_shape.specs.Contents.{contents_of, map_with_contents}
use Rattle.smap_shape.specs.Reading.{shape_of}
use Rattle.smap_shape.specs.Views.{map_value}
use Rattle.smap_record.specs.Owned.{members_map, texts_of}
use Rattle.smap_record.specs.Reading.{tree_map}
use Rattle.smap_record.specs.Results.{Fails}
use Rattle.smap_record.specs.UrlBytes.{are_within}
use Rattle.smap_record.specs.Written.{of_tree}
use Rattle.smap_record.proofs.WrittenLemmas.{tree_without}
use Rattle.smap_record.proofs.WrittenUrlLemmas.{listed_urls, listed_count}
use Rattle.smap_record.proofs.UrlBytesLemmas.{listed_within, tree_beyond, tree_within, tree_refused}
use Rattle.smap_record.proofs.reading_within.tree_map_within.Goals as goal

pub returns-then-not-within-clause-reads : goal.returns-then-not-within-clause-reads
returns-then-not-within-clause-reads c =
    let tree = view c.args.tree in
    let ws = c.in_ok-written.written in
    let written : ws ≡ of_tree tree = c.in_ok-written.ensures
    ∙ tree_without tree (view c.in_ok-contents.tree) (contents_of tree) c.in_ok-contents.ensures.members in
    tree_beyond c.args.base.now c.args.limits c.args.most tree ws written
    (sym c.in_ok-within.ensures ∙ c.if-not-within.true)

pub returns-in_err-map-clause-reads : goal.returns-in_err-map-clause-reads
returns-in_err-map-clause-reads c =
    let tree = view c.args.tree in
    let left = view c.in_ok-contents.tree in
    let ws = c.in_ok-written.written in
    let written : ws ≡ of_tree tree = c.in_ok-written.ensures
    ∙ tree_without tree left (contents_of tree) c.in_ok-contents.ensures.members in
    let p = err_from_is_err_and c.from_residual-in_err-map.result c.from_residual-in_err-map.ensures.1 in
    let few : are_within c.args.base.now c.args.most ws ≡ true =
    sym c.in_ok-within.ensures ∙ c.if-not-within.false in
    let members : tree_map c.args.base.now c.args.limits tree ≡ members_map c.args.base.now c.args.limits
    (map_value (map_with_contents (texts_of c.in_ok-contents.contents.items)) (shape_of left)) =
    ap (members_map c.args.base.now c.args.limits) (c.in_ok-contents.ensures.members
    ∙ ap (λ (own : List (Option (List ℕ))). map_value (map_with_contents own) (shape_of left))
    (sym c.in_ok-contents.ensures.contents)) in
    rw (p.1, p.2) (tree_refused c.args.base.now c.args.limits c.args.most tree ws written _ few
    (subst (Fails c.in_err-map.field-0.0) (sym members) c.in_err-map.ensures.reads))

pub returns-clause-reads : goal.returns-clause-reads
returns-clause-reads c =
    let tree = view c.args.tree in
    let left = view c.in_ok-contents.tree in
    let members = c.in_ok-contents.ensures.members in
    let ws = c.in_ok-written.written in
    let written : ws ≡ of_tree tree = c.in_ok-written.ensures
    ∙ tree_without tree left (contents_of tree) members in
    let few : are_within c.args.base.now c.args.most ws ≡ true =
    sym c.in_ok-within.ensures ∙ c.if-not-within.false in
    let reads : tree_map c.args.base.now c.args.limits tree ≡ Ok c.in_ok-map.map =
    ap (members_map c.args.base.now c.args.limits) (members
    ∙ ap (λ (own : List (Option (List ℕ))). map_value (map_with_contents own) (shape_of left))
    (sym c.in_ok-contents.ensures.contents))
    ∙ c.in_ok-map.ensures.reads in
    tree_within c.args.base.now c.args.limits c.args.most tree ws written c.in_ok-map.map few reads

pub returns-clause-within : goal.returns-clause-within
returns-clause-within c =
    let tree = view c.args.tree in
    let left = view c.in_ok-contents.tree in
    let members = c.in_ok-contents.ensures.members in
    let ws = c.in_ok-written.written in
    let reads : tree_map c.args.base.now c.args.limits tree ≡ Ok c.in_ok-map.map =
    ap (members_map c.args.base.now c.args.limits) (members
    ∙ ap (λ (own : List (Option (List ℕ))). map_value (map_with_contents own) (shape_of left))
    (sym c.in_ok-contents.ensures.contents))
    ∙ c.in_ok-map.ensures.reads in
    let few : are_within c.args.base.now c.args.most ws ≡ true =
    sym c.in_ok-within.ensures ∙ c.if-not-within.false in
    listed_within c.args.base.now c.in_ok-map.map.listing.sources ws c.args.most
    (listed_urls c.args.base.now c.args.limits tree c.in_ok-map.map reads ws
    (c.in_ok-written.ensures ∙ tree_without tree left (contents_of tree) members)) few

pub returns-clause-written : goal.returns-clause-written
returns-clause-written c =
    let tree = view c.args.tree in
    c.in_ok-written.ensures
    ∙ tree_without tree (view c.in_ok-contents.tree) (contents_of tree) c.in_ok-contents.ensures.members

pub returns-clause-count : goal.returns-clause-count
returns-clause-count c =
    let tree = view c.args.tree in
    let left = view c.in_ok-contents.tree in
    let members = c.in_ok-contents.ensures.members in
    let reads : tree_map c.args.base.now c.args.limits tree ≡ Ok c.in_ok-map.map =
    ap (members_map c.args.base.now c.args.limits) (members
    ∙ ap (λ (own : List (Option (List ℕ))). map_value (map_with_contents own) (shape_of left))
    (sym c.in_ok-contents.ensures.contents))
    ∙ c.in_ok-map.ensures.reads in
    listed_count c.args.base.now c.args.limits tree c.in_ok-map.map reads c.in_ok-written.written
    (c.in_ok-written.ensures ∙ tree_without tree left (contents_of tree) members)

pub returns-clause-urls : goal.returns-clause-urls
returns-clause-urls c =
    let tree = view c.args.tree in
    let left = view c.in_ok-contents.tree in
    let members = c.in_ok-contents.ensures.members in
    let reads : tree_map c.args.base.now c.args.limits tree ≡ Ok c.in_ok-map.map =
    ap (members_map c.args.base.now c.args.limits) (members
    ∙ ap (λ (own : List (Option (List ℕ))). map_value (map_with_contents own) (shape_of left))
    (sym c.in_ok-contents.ensures.contents))
    ∙ c.in_ok-map.ensures.reads in
    listed_urls c.args.base.now c.args.limits tree c.in_ok-map.map reads c.in_ok-written.written
    (c.in_ok-written.ensures ∙ tree_without tree left (contents_of tree) members)
