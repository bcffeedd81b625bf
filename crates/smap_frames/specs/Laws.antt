-- Laws about the definitions.
use Rattle.std.specs.Prelude.{◌≡◌, ◌↔◌, ℕ, List, Some}
use Rattle.smap_frames.specs.Frame.{IsFrame, FrameParts}
use Rattle.smap_frames.specs.Reading.{frame_of}

-- `frame_of` computes exactly the frame that a line is.
abbrev pub FrameIsComputed : Type 0
FrameIsComputed = (line : List ℕ) (f : FrameParts) → (frame_of line ≡ Some f) ↔ IsFrame line f

-- A line is a frame in at most one way.
abbrev pub OneReading : Type 0
OneReading = (line : List ℕ) (f g : FrameParts) → IsFrame line f → IsFrame line g → f ≡ g
