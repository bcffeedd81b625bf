use Rattle.std.proofs.Common.{◌≡◌, ◌∙◌, ap, sym, Some}
use Rattle.smap_logs.specs.Naming.{frames_of}
use Rattle.smap_logs.proofs.NamingLemmas.{lines_counted}
use Rattle.smap_logs.proofs.naming.Names.add_frames.Goals as goal
use Rattle.smap_logs.proofs.LogLemmas.{all_taken}

pub returns-in-Ok-clause-frames : goal.returns-in-Ok-clause-frames
returns-in-Ok-clause-frames c =
    let reads = c.in-Ok.ensures.names in
    let same : c.args.lines.now ≡ reads.0 = sym (ap (λ s. s.now) c.new-reader.ensures.inner)
    ∙ all_taken (Some c.new-reader.result.inner.now) (Some c.named_scripts.new.reader.inner.now) reads.0
    reads.1 reads.2.1 in
    lines_counted c.add_named.result c.in-Ok.named reads.0 c.args.lines.now (frames_of c.args.self.now)
    (frames_of c.add_named.new.self) reads.3 same c.add_named.ensures.frames
