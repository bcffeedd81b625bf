use Rattle.smap_extract.specs.Places.{items_of}
use Rattle.smap_extract.proofs.PlaceLemmas.{apart, same_folders}
use Rattle.smap_extract.proofs.placing.placed.Goals as goal

pub returns : goal.returns
returns c =
    let known = items_of c.in_ok-folders.folders.keys in
    let all = c.in_ok-all.all.items in
    record {
      each = c.in_ok-all.ensures.each;
      distinct = c.in_ok-all.ensures.distinct;
      apart = apart known all (same_folders known c.args.paths.now all c.in_ok-all.ensures.each
          c.in_ok-folders.ensures) c.in_ok-all.ensures.free;
    }
