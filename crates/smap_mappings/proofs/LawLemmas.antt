-- The law of mappings texts.
use Rattle.std.proofs.Common.{refl, Some, None, List, [], ◌∷◌, arith, rules}
use Rattle.smap_mappings.specs.declared.token.Token.{Token}
use Rattle.smap_mappings.specs.Decoded.{decoded}
use Rattle.smap_mappings.specs.Text.{IsEncodable, mappings_text}
use Rattle.smap_mappings.specs.declared.token.Bounds.{Bounds}
use Rattle.smap_mappings.specs.Laws.{AreFor, TextReadsBack, Says}
use Rattle.smap_mappings.specs.Steps.{at_start}
use Rattle.smap_mappings.proofs.RunningTextLemmas.{AreSegments, are_segments, mappings_text-from}
use Rattle.smap_mappings.proofs.RunningTextLemmas.{segments_from}
use Rattle.smap_mappings.proofs.ArrangementLemmas.{arranged-in_order}
use Rattle.smap_mappings.proofs.ReadBackLemmas.{tokens_again, stands_first}

pub segments_there : (tokens : List Token) → IsEncodable tokens → AreSegments at_start 0 tokens
segments_there [] h = tt
segments_there (t ∷ ts) h = are_segments at_start 0 t ts (omega arith) (search (rules, arith)) h

-- The tokens of the text, in its order, are these.
pub text_says : (bounds : Bounds) (tokens : List Token) → AreFor bounds tokens
    → Says bounds (mappings_text tokens) tokens
text_says bounds tokens are =
    let all = segments_there tokens are.encodable in
    rw (mappings_text-from tokens are.encodable, segments_from at_start tokens all)
    (tokens_again bounds at_start 0 0 [] tokens are.line_start are.column_start are.encodable.1 are.within
    all stands_first)

pub text_reads_back : TextReadsBack
unfolding decoded
text_reads_back bounds tokens are =
    rw (text_says bounds tokens are, arranged-in_order tokens are.encodable.0) refl

-- ---- the premise is met: three tokens on two lines, with two sources and a name

abbrev pub bounds_there : Bounds
bounds_there = record { start_line = 0; start_column = 0; sources = 2; names = 1; lines = 2 }

abbrev pub tokens_there : List Token
tokens_there =
    record {
      line = 0;
      column = 4;
      original = Some (record { source = 1; line = 7; column = 3; name = Some 0 });
    }
    ∷ record { line = 0; column = 4; original = None }
    ∷ record
    { line = 1; column = 0; original = Some (record { source = 0; line = 2; column = 9; name = None }) } ∷ []

some_are_for : AreFor bounds_there tokens_there
some_are_for = search (rules, arith)
