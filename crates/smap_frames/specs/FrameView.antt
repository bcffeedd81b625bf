-- What a frame of the code stands for.
use Rattle.smap_frames.specs.Frame.{FrameParts}
use Rattle.smap_frames.specs.declared.parts.Frame.{Frame}

abbrev pub parts_in : Frame → FrameParts
parts_in f = record {
  before = f.before.now;
  url = f.url.now;
  line = f.line;
  column = f.column;
  after = f.after.now;
}
