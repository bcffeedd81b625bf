use Rattle.std.proofs.Common.{refl}
use Rattle.smap_trace.proofs.TranslatedLemmas.{put_line}
use Rattle.smap_trace.proofs.translated.TranslatedLines.keep.Goals as goal

pub returns : goal.returns
returns c = rw (← c.self.view_is) (put_line c.self.inside.lines.entries c.insert.new.self.entries
    c.args.line.items c.args.line c.args.kept refl c.in_ok-insert.ensures.entries)
