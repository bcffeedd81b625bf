use Rattle.std.proofs.Common.{◌∙◌}
use Rattle.smap_trace.proofs.LinePartLemmas.{pieces_shown}
use Rattle.smap_trace.proofs.line_parts.line_positions.Goals as goal

pub returns-then-mode : goal.returns-then-mode
returns-then-mode g c = rw c.if-mode.true (c.in_ok-positions_anywhere.ensures
    ∙ pieces_shown c.args.mode.ignore_query (g.M.Maps.scripts c.args.maps.now) c.args.text.now)
