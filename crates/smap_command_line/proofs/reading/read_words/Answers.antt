use Rattle.std.proofs.Common.{map}
use Rattle.clap.specs.Words.{found_of, rows_of}
use Rattle.smap_command_line.specs.Line.{line_of}
use Rattle.smap_command_line.specs.Rows.{rows_view}
use Rattle.smap_command_line.proofs.LineLemmas.{given_rows, none_found, one_found}
use Rattle.smap_command_line.proofs.ReadingLemmas.{answered_err, answered_ok, checked_err, checked_ok}
use Rattle.smap_command_line.proofs.ReadingLemmas.{simple_too}
use Rattle.smap_command_line.proofs.reading.read_words.Goals as goal

pub returns-in-Ok-clause-read : goal.returns-in-Ok-clause-read
returns-in-Ok-clause-read c =
    let words = map (λ w. w.now) c.args.words.now in
    let line = line_of c.args.name.now (rows_view c.args.rows.now) in
    let shape = c.in_ok-command.ensures.shape in
    checked_ok line (rows_view c.args.rows.now) words (rows_of (found_of c.in-Ok.matches)) c.checked.result
    (none_found line c.requires _ words shape c.in-Ok.ensures.kinds)
    (given_rows line (simple_too line c.requires) _ words c.in-Ok.matches shape c.in-Ok.ensures.matches)
    c.checked.ensures

pub returns-in-Ok-clause-fault : goal.returns-in-Ok-clause-fault
returns-in-Ok-clause-fault c =
    let words = map (λ w. w.now) c.args.words.now in
    let line = line_of c.args.name.now (rows_view c.args.rows.now) in
    let shape = c.in_ok-command.ensures.shape in
    checked_err line (rows_view c.args.rows.now) words (rows_of (found_of c.in-Ok.matches)) c.checked.result
    (none_found line c.requires _ words shape c.in-Ok.ensures.kinds)
    (given_rows line (simple_too line c.requires) _ words c.in-Ok.matches shape c.in-Ok.ensures.matches)
    c.checked.ensures

pub returns-in-Err-clause-read : goal.returns-in-Err-clause-read
returns-in-Err-clause-read c =
    let words = map (λ w. w.now) c.args.words.now in
    let line = line_of c.args.name.now (rows_view c.args.rows.now) in
    answered_ok line (rows_view c.args.rows.now) words c.in-Err.error c.answer_to.result
    (one_found line c.requires _ words c.in-Err.error c.in_ok-command.ensures.shape
    c.in-Err.ensures.kinds) c.answer_to.ensures

pub returns-in-Err-clause-fault : goal.returns-in-Err-clause-fault
returns-in-Err-clause-fault c =
    let words = map (λ w. w.now) c.args.words.now in
    let line = line_of c.args.name.now (rows_view c.args.rows.now) in
    answered_err line (rows_view c.args.rows.now) words c.in-Err.error c.answer_to.result
    (one_found line c.requires _ words c.in-Err.error c.in_ok-command.ensures.shape
    c.in-Err.ensures.kinds) c.answer_to.ensures
