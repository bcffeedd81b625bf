-- For private contracts: how a layout writes the URLs of sources.
use Rattle.std.specs.Prelude.{ℕ, List}
use Rattle.smap_record.specs.Relative.{relatively}
use Rattle.smap_canon.specs.declared.spelling.Spelling.{Spelling}
use Rattle.smap_canon.specs.declared.spelling.Spelling.TheVariants.{Absolute, Relative}
use Rattle.smap_canon.specs.Layout.{absolute}

abbrev pub spelling_of : Spelling → List ℕ → List ℕ
spelling_of Absolute = absolute
spelling_of (Relative base) = relatively base.now
