use Rattle.std.proofs.Common.{◌≡◌, ◌++◌, [], ◌∷◌, true, false, bytes_eq, rules, subst, sym}
use Rattle.std.specs.List.{list_any}
use Rattle.indexmap.specs.IndexSet.{insert_key}
use Rattle.smap_logs.specs.Naming.{AreSame, frames_of, has_plain_query, others_of}
use Rattle.smap_logs.proofs.NamingLemmas.{is_known, is_put, items_of, not_plain, of_frame, of_others, put}
use Rattle.smap_logs.proofs.NamingLemmas.{same_key, same_present}
use Rattle.smap_logs.proofs.naming.Names.add_other.Goals as goal

pub returns-then-not-has_plain_query-clause-others : goal.returns-then-not-has_plain_query-clause-others
returns-then-not-has_plain_query-clause-others c =
    let plain : has_plain_query c.args.name.now ≡ false = cc in
    not_plain (frames_of c.args.self.now) c.args.name.now (others_of c.args.self.now) plain

pub returns-then-contains_key-clause-others : goal.returns-then-contains_key-clause-others
returns-then-contains_key-clause-others c =
    let known = is_known c.args.name.now c.args.self.now.frames.entries in
    let plain : has_plain_query c.args.name.now ≡ true = cc in
    let there : list_any (bytes_eq c.args.name.now) (frames_of c.args.self.now) ≡ true = cc in
    of_frame (frames_of c.args.self.now) c.args.name.now (others_of c.args.self.now) plain there

pub returns-then-contains-clause-others : goal.returns-then-contains-clause-others
returns-then-contains-clause-others c =
    let known = is_known c.args.name.now c.args.self.now.frames.entries in
    let plain : has_plain_query c.args.name.now ≡ true = cc in
    let absent : list_any (bytes_eq c.args.name.now) (frames_of c.args.self.now) ≡ false = cc in
    let there : list_any (λ k. bytes_eq c.args.name.now k.items) c.args.self.now.others.keys ≡ true =
    search rules in
    of_others (frames_of c.args.self.now) c.args.name.now (others_of c.args.self.now)
    (others_of c.args.self.now) plain absent (same_present (others_of c.args.self.now) c.args.name.now
    (is_put c.args.name.now c.args.self.now.others.keys there))

pub returns-clause-others : goal.returns-clause-others
returns-clause-others c =
    let known = is_known c.args.name.now c.args.self.now.frames.entries in
    let plain : has_plain_query c.args.name.now ≡ true = cc in
    let absent : list_any (bytes_eq c.args.name.now) (frames_of c.args.self.now) ≡ false = cc in
    let key = c.in_ok-from_slice.field-0 in
    let ks = c.args.self.now.others.keys in
    of_others (frames_of c.args.self.now) c.args.name.now (others_of c.args.self.now)
    (items_of c.insert.new.self.keys)
    plain absent (subst (λ keys. AreSame (items_of keys) (items_of ks ++ c.args.name.now ∷ []))
    (sym c.in_ok-insert.ensures.keys)
    (subst (λ name. AreSame (items_of (insert_key same_key ks key)) (items_of ks ++ name ∷ []))
    c.in_ok-from_slice.ensures.items (put ks key)))
