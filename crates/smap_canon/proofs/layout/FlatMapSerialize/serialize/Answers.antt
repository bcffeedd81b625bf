use Rattle.std.proofs.Common.{arith, map, Some, ap, ◌∙◌, subst}
use Rattle.std.specs.Prelude.{codes, option_map}
use Rattle.std.proofs.lemmas.Result.{on_ok_weaker}
use Rattle.serde.specs.Event.{Logs, map_begins}
use Rattle.serde_json.specs.Data.{string, no_members, member}
use Rattle.serde_json.specs.Events.{SendsValue, members_len}
use Rattle.smap_mappings.specs.Text.{mappings_text}
use Rattle.smap_record.specs.Record.{Entry}
use Rattle.smap_canon.specs.Layout.{list_of, or_null, whole_number}
use Rattle.smap_canon.specs.Layout.{written_contents, optional_member, layout, listing_members, label_member}
use Rattle.smap_canon.specs.Layout.{written}
use Rattle.smap_canon.specs.Spelling.{spelling_of}
use Rattle.smap_canon.specs.Writing.{map_of, contents_tree, ignored_tree}
use Rattle.smap_canon.proofs.SentLemmas.{member_sent, optional_sent, members_count, is_some-map, labels_same}
use Rattle.smap_canon.proofs.SentLemmas.{at_most_one, few_labels}
use Rattle.smap_canon.proofs.layout.FlatMapSerialize.serialize.Goals as goal

pub overflow_add-optional : goal.overflow_add-optional
overflow_add-optional g c =
    let few = few_labels c.labels-labels.result _ c.label_count.result c.labels-labels.ensures
    c.label_count.ensures.few in
    omega (arith, few, at_most_one c.is_some.result)

pub overflow_add-optional-2 : goal.overflow_add-optional-2
overflow_add-optional-2 g c =
    let few = few_labels c.labels-labels.result _ c.label_count.result c.labels-labels.ensures
    c.label_count.ensures.few in
    omega (arith, few, at_most_one c.is_some.result, at_most_one c.is_some-2.result)

pub overflow_add-optional-3 : goal.overflow_add-optional-3
overflow_add-optional-3 g c =
    let few = few_labels c.labels-labels.result _ c.label_count.result c.labels-labels.ensures
    c.label_count.ensures.few in
    omega (arith, few, at_most_one c.is_some.result, at_most_one c.is_some-2.result)

pub returns : goal.returns
unfolding layout
returns g c =
    let self = c.args.self.now in
    let m = map_of self.listed in
    let sources = m.listing.sources in
    let old = g.S.Serializer.written c.args.out.now in
    let l0 = g.S.Serializer.written c.begin_map.new.self in
    let l1 = g.S.Serializer.written c.send_labels.new.out in
    let l2 = g.S.Serializer.written c.optional_member.new.out in
    let l3 = g.S.Serializer.written c.member.new.out in
    let l4 = g.S.Serializer.written c.member-2.new.out in
    let l5 = g.S.Serializer.written c.member-3.new.out in
    let l6 = g.S.Serializer.written c.optional_member-2.new.out in
    let l7 = g.S.Serializer.written c.member-4.new.out in
    let new = g.S.Serializer.written c.end_map.new.self in
    let labels = labels_same c.labels-labels.result ∙ ap (map label_member) c.labels-labels.ensures in
    let urls =
    list_of (map (λ (e : Entry). or_null (option_map (spelling_of self.spelling) e.url)) sources) in
    let names = list_of (map string m.listing.names) in
    let mappings = string (mappings_text m.listing.tokens) in
    let m7 = member (codes "version") (whole_number 3) no_members in
    let m6 = optional_member (codes "sourcesContent") (written_contents sources) m7 in
    let m5 = member (codes "sources") urls m6 in
    let m4 = member (codes "names") names m5 in
    let m3 = member (codes "mappings") mappings m4 in
    on_ok_weaker c.end_map.result (λ e. (
      l0,
      subst (λ n. Logs old l0 (map_begins (Some n)))
          (members_count (spelling_of self.spelling) m c.label_count.result c.is_some.result
          c.is_some-2.result
          (c.label_count.ensures.count ∙ ap (λ ms. members_len (written ms)) labels)
          (c.is_some.ensures ∙ is_some-map ignored_tree _ _ c.ignored_of-ignored.ensures)
          (c.is_some-2.ensures ∙ is_some-map contents_tree _ _ c.contents_of-contents.ensures))
          c.in_ok-begin_map.ensures,
      (rw labels at c.in_ok-send_labels.ensures) (listing_members (spelling_of self.spelling) m.listing) new
          (optional_sent (λ i. SendsValue (ignored_tree i)) ignored_tree (λ x old new w. w)
          _ _ c.ignored_of-ignored.ensures (codes "ignoreList") m3 l1 l2 new c.in_ok-optional_member.ensures
          (member_sent (codes "mappings") mappings m4 l2 l3 new c.in_ok-member.ensures
          (member_sent (codes "names") names m5 l3 l4 new c.in_ok-member-2.ensures
          (member_sent (codes "sources") urls m6 l4 l5 new c.in_ok-member-3.ensures
          (optional_sent (λ i. SendsValue (contents_tree i)) contents_tree (λ x old new w. w)
          _ _ c.contents_of-contents.ensures (codes "sourcesContent") m7 l5 l6
          new c.in_ok-optional_member-2.ensures
          (member_sent (codes "version") (whole_number 3) no_members l6 l7 new c.in_ok-member-4.ensures
          e)))))),
    )) c.end_map.ensures
