use Rattle.std.proofs.Common.{◌∙◌, ap, arith}
use Rattle.std.proofs.lemmas.List.{length-map, take_all}
use Rattle.smap_record.specs.Record.{record_of, mapping_of}
use Rattle.smap_record.specs.Fitting.{names_used}
use Rattle.smap_record.specs.Listings.{IsListedToken}
use Rattle.smap_record.proofs.ListLemmas.{all_at}
use Rattle.smap_canon.specs.Numbering.{used_in}
use Rattle.smap_canon.proofs.NumberingLemmas.{used-start, numbers-none, numbered-next}
use Rattle.smap_canon.proofs.StepLemmas.{used-then, few-keys}
use Rattle.smap_canon.proofs.numbering.used_names.Goals as goal

pub loop-i-init : goal.loop-i-init
loop-i-init c =
    let m = c.args.map.now in
    record {
      used = used-start c.in_ok-names.names.used.keys (record_of m).mappings c.in_ok-names.ensures.used;
      numbers = numbers-none m.listing.names (used_in c.in_ok-names.names) c.in_ok-names.names.numbers.items
          c.in_ok-names.ensures.numbers;
      each = tt;
    }

pub use_name-requires-clause-listed : goal.use_name-requires-clause-listed
use_name-requires-clause-listed c =
    let l = c.args.map.now.listing in
    all_at (IsListedToken l) l.tokens c.loop-i.i c.listed_token.result
    c.token_count-i-end.ensures.listing.listed c.listed_token.ensures

pub use_name-requires-clause-few : goal.use_name-requires-clause-few
use_name-requires-clause-few c = few-keys c.args.map.now c.loop-i.i c.loop-i.names.used.keys
    c.token_count-i-end.ensures.listing c.loop-i.invariant.used

pub loop-i-preserved : goal.loop-i-preserved
loop-i-preserved c =
    let m = c.args.map.now in
    let t = c.listed_token.result in
    record {
      used = used-then m c.loop-i.i t c.listed_token.ensures (used_in c.loop-i.names)
          (used_in c.use_name.new.names) c.loop-i.invariant.used c.in_ok-use_name.ensures.used;
      numbers = c.in_ok-use_name.ensures.numbers;
      each = numbered-next c.loop-i.names.numbers.items c.use_name.new.names.numbers.items
          c.use_name.ensures.kept m.listing.tokens c.loop-i.i t
          c.listed_token.ensures c.loop-i.invariant.each c.in_ok-use_name.ensures.numbered;
    }

pub returns : goal.returns
returns c =
    let m = c.args.map.now in
    let all = take_all c.loop-i.i m.listing.tokens (omega (arith, c.token_count-i-end.ensures.count)) in
    let mappings = take_all c.loop-i.i (record_of m).mappings
    (omega (arith, c.token_count-i-end.ensures.count, length-map m.listing.tokens (mapping_of m.listing))) in
    record {
      used = c.loop-i.invariant.used ∙ ap names_used mappings;
      numbers = c.loop-i.invariant.numbers;
      each = rw all at c.loop-i.invariant.each;
    }
