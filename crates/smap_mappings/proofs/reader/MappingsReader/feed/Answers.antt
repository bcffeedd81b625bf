use Rattle.std.proofs.Common.{◌++◌}
use Rattle.std.specs.Prelude.{vec_capacity}
use Rattle.smap_mappings.proofs.ReaderLemmas.{read_of, tells_read, tells_failed, fits_memory}
use Rattle.smap_mappings.proofs.reader.MappingsReader.feed.Goals as goal

pub returns-in-Ok-clause-tells : goal.returns-in-Ok-clause-tells
returns-in-Ok-clause-tells c = λ bounds text h. tells_read
    (c.in-Ok.ensures.reads bounds text (read_of c.args.self.now bounds text c.in_default.not-Some h))

pub returns-in-Err-clause-tells : goal.returns-in-Err-clause-tells
returns-in-Err-clause-tells c = λ bounds text h.
    tells_failed bounds (text ++ c.args.piece.now) (vec_capacity c.args.self.now.tokens.list) c.in-Err.error
    (c.in-Err.ensures.reads bounds text (read_of c.args.self.now bounds text c.in_default.not-Some h))

pub returns-in-Err-clause-fits : goal.returns-in-Err-clause-fits
returns-in-Err-clause-fits c = λ bounds text h none fits e.
    fits_memory bounds (text ++ c.args.piece.now) (vec_capacity c.args.self.now.tokens.list) c.in-Err.error
    (c.in-Err.ensures.reads bounds text (read_of c.args.self.now bounds text c.in_default.not-Some h))
    fits (cc)
