use Rattle.std.proofs.Common.{◌∷◌, [], refl, length-append, arith, option_map, string_bytes}
use Rattle.std.specs.Prelude.{option_copied}
use Rattle.smap_record.proofs.ListLemmas.{take_next, map-push}
use Rattle.smap_record.proofs.flat.sources.copied_contents.Goals as goal

pub loop-i-preserved : goal.loop-i-preserved
loop-i-preserved c =
    let all = c.args.shape.now.contents in
    let one = c.in_ok-copied.field-0 in
    record {
      copied = rw (
        c.in_ok-push.ensures.items,
        map-push (option_map string_bytes) c.loop-i.contents.items one,
        c.loop-i.invariant.copied,
        c.in_ok-copied.ensures,
        take_next all c.loop-i.i (option_copied c.content.result) c.content.ensures,
      ) refl;
      count = rw c.in_ok-push.ensures.items
          (omega (arith, c.loop-i.invariant.count, length-append c.loop-i.contents.items (one ∷ [])));
    }
