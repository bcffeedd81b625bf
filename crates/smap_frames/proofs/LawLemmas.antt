-- The laws of frames.
use Rattle.std.proofs.Common.{◌≡◌, ◌∙◌, ℕ, List, Option, Some, None, MatchOption, option_map, sym}
use Rattle.smap_frames.specs.Frame.{IsFrame, FrameParts}
use Rattle.smap_frames.specs.FrameView.{parts_in}
use Rattle.smap_frames.specs.Reading.{frame_of}
use Rattle.smap_frames.specs.declared.parts.Frame.{Frame}
use Rattle.smap_frames.specs.Laws.{FrameIsComputed, OneReading}
use Rattle.smap_frames.proofs.CompleteLemmas.{complete}
use Rattle.smap_frames.proofs.SoundLemmas.{some_is, sound}

pub is_computed : FrameIsComputed
is_computed line f = (sound line f, complete line f)

pub one_reading : OneReading
one_reading line f g is also = some_is f g (sym (complete line f is) ∙ complete line g also)

-- What the code answers, by the relation.
pub is_reading : (line : List ℕ) (r : Option Frame) → option_map parts_in r ≡ frame_of line
    → MatchOption r ((f : FrameParts) → IsFrame line f → ⊥) (λ f. IsFrame line (parts_in f))
is_reading line (Some f) e = sound line (parts_in f) (sym e)
is_reading line None e = λ f is. never (e ∙ complete line f is)
  where
    never : {f : FrameParts} → ◌≡◌ {A = Option FrameParts} None (Some f) → ⊥
    never h = cc
