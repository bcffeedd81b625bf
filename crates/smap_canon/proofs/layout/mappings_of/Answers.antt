use Rattle.std.proofs.Common.{sym, subst}
use Rattle.std.specs.Prelude.{IsUtf8}
use Rattle.smap_canon.specs.Writing.{tokens_of}
use Rattle.smap_canon.proofs.AsciiLemmas.{IsUtf8-mappings_text}
use Rattle.smap_canon.proofs.layout.mappings_of.Goals as goal

pub unwrap-requires : goal.unwrap-requires
unwrap-requires c = c.from_utf8.ensures.succeeds
    (subst IsUtf8 (sym c.in_ok-text.ensures) (IsUtf8-mappings_text (tokens_of c.args.listed)))
