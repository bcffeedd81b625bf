use Rattle.std.proofs.lemmas.Fmt.{IsAscii-decimal}
use Rattle.smap_differences.proofs.showing.count_text.Goals as goal

pub grouped-requires : goal.grouped-requires
grouped-requires c =
    rw (c.as_str.ensures.value, c.in_ok-digits.ensures.ok) (IsAscii-decimal c.args.count c.ranges.count.fits)
