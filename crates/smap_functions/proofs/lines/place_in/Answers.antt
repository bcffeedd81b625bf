use Rattle.std.proofs.Common.{◌-◌, arith, drop, length, sym, take}
use Rattle.std.proofs.lemmas.List.Sums.{prefix_len-le-length}
use Rattle.smap_functions.specs.Lines.{is_ascii}
use Rattle.smap_functions.proofs.ColumnLemmas.{plain_place}
use Rattle.smap_functions.proofs.LineLemmas.{place_beyond, rest_is}
use Rattle.smap_functions.proofs.lines.place_in.Goals as goal

pub returns-then-column-plain : goal.returns-then-column-plain
returns-then-column-plain c = λ e. sym (plain_place c.args.row.now c.args.column (omega arith))

pub returns-then-plain-row : goal.returns-then-plain-row
returns-then-plain-row c = λ e.
    let within = prefix_len-le-length is_ascii c.args.row.now in absurd (omega arith)

pub returns : goal.returns
returns c = λ e.
    let row = c.args.row.now in
    let n = c.args.plain in
    place_beyond row n c.args.column (take (length row - n) (drop n row)) c.behind_units.result
    c.shifted.result
    e (rest_is n row) (omega arith) (omega arith) c.behind_units.ensures c.shifted.ensures
