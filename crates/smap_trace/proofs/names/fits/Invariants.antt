use Rattle.std.proofs.Common.{◌≡◌, ◌+◌, ◌-◌, ◌≤◌, count_by, drop, length, take}
use Rattle.std.specs.List.{filter_map}
use Rattle.smap_functions.specs.Lines.{AreLines}
use Rattle.smap_record.specs.Record.{record_of}
use Rattle.smap_record.specs.Views.{entry_of_view}
use Rattle.smap_trace.specs.Names.{has_name_there, named_in}
use Rattle.smap_trace.proofs.names.fits.Given as goal

abbrev pub invariant-loop-i : goal.invariant-loop-i
invariant-loop-i l =
    let so_far = filter_map (named_in (entry_of_view l.mapped.original.source))
    (take (l.i - l.from) (drop l.from (record_of l.mapped.map.now).mappings)) in
    record {
      few : l.from + l.named ≤ l.i;
      fewer : l.found ≤ l.named;
      named_are : l.named ≡ length so_far;
      found_are : AreLines l.text l.source.lines → l.found ≡ count_by (has_name_there l.text) so_far;
    }
