use Rattle.std.proofs.Common.{refl}
use Rattle.std.proofs.Common.{◌≡◌, ◌<◌, ◌∙◌, length, sym, bytes_eq, slice_get, arith}
use Rattle.std.specs.Prelude.{option_map, unwrap_or}
use Rattle.std.specs.List.{position_or_len}
use Rattle.std.proofs.lemmas.Option.{slice_get-get_or}
use Rattle.smap_record.specs.Record.{record_of, origin_of, same_entry, no_entry}
use Rattle.smap_record.proofs.EqualLemmas.{same_entries, own_entry}
use Rattle.smap_record.proofs.OnceLemmas.{distinct-IsDistinct, length-distinct}
use Rattle.smap_canon.specs.Numbering.{used_in}
use Rattle.smap_canon.proofs.ListLemmas.{place-at}
use Rattle.smap_canon.proofs.NumberingLemmas.{number-there}
use Rattle.smap_canon.proofs.ListedLemmas.{source-there}
use Rattle.smap_canon.proofs.numbering.original_by.Goals as goal
use Rattle.smap_canon.proofs.numbering.original_by.Goals.{in-Some, in-None}

pub overflow_cast-result : goal.overflow_cast-result
overflow_cast-result c = omega (
  arith,
  c.listed.ensures.within,
  length-distinct same_entry c.args.map.now.listing.sources,
  c.requires.few_sources,
)

pub returns : goal.returns
returns c =
    let l = c.args.map.now.listing in
    let o = c.args.original in
    let names = c.args.names.now in
    let source : c.listed.result ≡ position_or_len
    (same_entry (unwrap_or (slice_get l.sources o.source) no_entry)) (record_of c.args.map.now).sources =
    sym (place-at same_entry same_entries own_entry (record_of c.args.map.now).sources c.listed.result
    (unwrap_or (slice_get l.sources o.source) no_entry)
    (distinct-IsDistinct same_entry l.sources)
    (c.listed.ensures.source ∙ source-there l.sources o.source c.requires.listed.source)) in
    let name : c.match-original.name ≡ option_map (λ n. position_or_len (bytes_eq n) (used_in names))
    (origin_of l o).name = elim c.match-original.branch [
      | in-Some w ↦
          let i = w.in-Some.listed in
          let numbers = names.numbers.items in
          let below = rw w.in-Some.is at c.requires.listed.name in
          let inside : i < length numbers = omega (arith, below, c.requires.numbers.count) in
          let there = number-there l.names (used_in names) numbers i c.requires.numbers below
          (rw w.in-Some.is at c.requires.numbered) in
          let read = slice_get-get_or numbers i w.index.result.now inside in
          let same = slice_get-get_or numbers i 0 inside in
          rw (w.name-is, w.in-Some.is) (cc w.index.ensures)
      | in-None w ↦ rw (w.name-is, w.in-None.is) refl
    ] in
    λ i. record { source = source i; line = o.line; column = o.column; name = name i }
