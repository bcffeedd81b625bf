use Rattle.std.proofs.Common.{◌++◌, [], ◌∷◌, bytes_eq, subst, sym}
use Rattle.std.specs.Map.{keys_of}
use Rattle.indexmap.specs.IndexMap.{insert_entry}
use Rattle.indexmap.proofs.CallerLemmas.{keys-with_value_at}
use Rattle.indexmap.proofs.MapLemmas.{Found-position}
use Rattle.smap_logs.specs.Naming.{AreSame, frames_of}
use Rattle.smap_logs.proofs.NamingLemmas.{inserted, is_there, items_of, same_key, same_present}
use Rattle.smap_logs.proofs.naming.Names.count.Goals as goal

pub returns-in-Some-clause-frames : goal.returns-in-Some-clause-frames
returns-in-Some-clause-frames c =
    let frames = c.args.self.now.frames in
    let name = c.args.name.now in
    subst (λ keys. AreSame (items_of keys) (frames_of c.args.self.now ++ name ∷ []))
    (sym (keys-with_value_at frames c.in-Some.i c.saturating_add.result))
    (same_present (frames_of c.args.self.now) name (is_there name frames.entries c.in-Some.i
    (Found-position (λ k. bytes_eq name k.items) frames.entries c.in-Some.i
    (sym c.in-Some.ensures.index)).first))

pub returns-clause-frames : goal.returns-clause-frames
returns-clause-frames c =
    let key = c.in_ok-from_slice.field-0 in
    let es = c.args.self.now.frames.entries in
    subst (λ es. AreSame (items_of (keys_of es)) (frames_of c.args.self.now ++ c.args.name.now ∷ []))
    (sym c.in_ok-insert.ensures.entries)
    (subst (λ name. AreSame (items_of (keys_of (insert_entry same_key es key c.args.lines)))
    (items_of (keys_of es) ++ name ∷ []))
    c.in_ok-from_slice.ensures.items (inserted es key c.args.lines))
