-- No spelling begins another.
use Rattle.std.proofs.Common.{◌≡◌, ◌++◌, [], ap, arith, length, length-append}
use Rattle.std.proofs.lemmas.List.{append-nil, nil_from_length}
use Rattle.smap_vlq.specs.Number.{number_digits}
use Rattle.smap_vlq.specs.Laws.{NoneBeginsAnother}
use Rattle.smap_vlq.proofs.NumberLemmas.{digits_are, digits_of_first, length_digits}

pub none_begins_another : NoneBeginsAnother
none_begins_another a rest m n p q =
    let short = digits_of_first a rest p.digits p.spelled p.one_number in
    let long : number_digits (a ++ rest) ≡ digits_are q.digits =
    rw (← append-nil (a ++ rest)) (digits_of_first (a ++ rest) [] q.digits q.spelled q.one_number) in
    let same : p.digits ≡ q.digits = cc in
    nil_from_length rest (omega (
      arith,
      ap length same,
      length_digits a p.digits p.spelled,
      length_digits (a ++ rest) q.digits q.spelled,
      length-append a rest,
    ))
