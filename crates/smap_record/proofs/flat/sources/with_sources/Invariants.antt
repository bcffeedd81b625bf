use Rattle.std.proofs.Common.{◌≡◌, ◌+◌, length, drop}
use Rattle.std.specs.Vec.Iter.{into_iter_items}
use Rattle.smap_shape.specs.Members.{fitted}
use Rattle.smap_record.specs.Flat.{entries_from}
use Rattle.smap_record.specs.Owned.{texts_of}
use Rattle.smap_record.specs.Steps.{after, FollowsSource}
use Rattle.smap_record.proofs.flat.sources.with_sources.Given as goal

-- what is listed, followed by what is still to come, is the whole
abbrev pub invariant-loop-i : goal.invariant-loop-i
invariant-loop-i l =
    let m = l.shape in
    let contents = fitted (length m.sources) (texts_of l.fn.contents.items) in
    record {
      lists : after l.fn.before (entries_from l.base m.root m.ignored 0 m.sources contents)
          ≡ after l.sources
          (entries_from l.base m.root m.ignored l.i (drop l.i m.sources) (drop l.i contents));
      last : FollowsSource l.base m.root m.sources l.i l.sources;
      rest : texts_of (into_iter_items l.rest) ≡ drop l.i (texts_of l.fn.contents.items);
      count : length l.sources ≡ length l.fn.before + l.i;
    }
