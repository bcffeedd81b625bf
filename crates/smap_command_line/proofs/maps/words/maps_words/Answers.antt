use Rattle.std.proofs.Common.{map}
use Rattle.std.proofs.lemmas.Result.{err_from_is_err_and}
use Rattle.smap_command_line.proofs.MapsLemmas.{fault_told, is_free_line, request_told}
use Rattle.smap_command_line.proofs.maps.words.maps_words.Goals as goal

pub read_words-requires : goal.read_words-requires
read_words-requires c = is_free_line

pub returns-in-Help-clause-asked : goal.returns-in-Help-clause-asked
returns-in-Help-clause-asked c = rw c.in-Help.is at c.in_ok-read_words.ensures.read

pub returns-in-Version-clause-asked : goal.returns-in-Version-clause-asked
returns-in-Version-clause-asked c = rw c.in-Version.is at c.in_ok-read_words.ensures.read

pub returns-in_err-request_in-in-Words-clause-fault : goal.returns-in_err-request_in-in-Words-clause-fault
returns-in_err-request_in-in-Words-clause-fault c =
    let words = map (λ w. w.now) c.args.words.now in
    let given = rw c.in-Words.is at c.in_ok-read_words.ensures.read in
    let residual = c.from_residual-in_err-request_in-in-Words in
    let p = err_from_is_err_and residual.result residual.ensures.1 in
    rw (p.1, p.2) (fault_told words c.in-Words.options c.in_err-request_in-in-Words.field-0.0 given.0 given.1
    c.in_err-request_in-in-Words.ensures.fault)

pub returns-in_ok-request_in-in-Words-clause-asked : goal.returns-in_ok-request_in-in-Words-clause-asked
returns-in_ok-request_in-in-Words-clause-asked c =
    let words = map (λ w. w.now) c.args.words.now in
    let given = rw c.in-Words.is at c.in_ok-read_words.ensures.read in
    request_told words c.in-Words.options c.in_ok-request_in-in-Words.field-0 given.0 given.1
    c.in_ok-request_in-in-Words.ensures.value
