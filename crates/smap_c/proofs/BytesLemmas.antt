-- What a mappings text is in its shortest spellings, by what it says.
use Rattle.std.proofs.Common.{◌≡◌, ℕ, List, Result, Ok, Err, ap}
use Rattle.smap_c.specs.Bytes.{respelled, respelling}
use Rattle.smap_mappings.specs.declared.token.Token.{Token}
use Rattle.smap_mappings.specs.Limits.{widest}
use Rattle.smap_mappings.specs.declared.error.SegmentPlace.{SegmentPlace}
use Rattle.smap_mappings.specs.declared.error.SegmentKind.{SegmentKind}
use Rattle.smap_mappings.specs.Tokens.{Fault as SegmentFault}
use Rattle.smap_mappings.specs.Decoded.{decoded}
use Rattle.smap_mappings.specs.Text.{mappings_text}
use Rattle.smap_record.specs.declared.fault.Fault.{Fault}
use Rattle.smap_record.specs.Faults.{segment_fault}

pub says : (text : List ℕ) (said : Result (List Token) SegmentFault) → decoded widest text ≡ said
    → respelling text ≡ respelled said
unfolding respelling
says text said is = ap respelled is

pub says_tokens : (text : List ℕ) (tokens : List Token) (out : List ℕ) → decoded widest text ≡ Ok tokens
    → out ≡ mappings_text tokens → respelling text ≡ Ok out
says_tokens text tokens out said spelled = rw spelled (says text (Ok tokens) said)

pub says_fault : (text : List ℕ) (place p : SegmentPlace) (kind k : SegmentKind) (fault : Fault)
    → decoded widest text ≡ Err (place, kind) → p ≡ place → k ≡ kind → fault ≡ segment_fault (p, k)
    → respelling text ≡ Err fault
says_fault text place p kind k fault said same_place same_kind is =
    rw (is, same_place, same_kind) (says text (Err (place, kind)) said)
