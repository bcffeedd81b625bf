use Rattle.std.proofs.Common.{◌≡◌, ◌++◌, false, true, length, rules}
use Rattle.smap_map_files.specs.Chosen.{beside_flag}
use Rattle.smap_map_files.proofs.KeptLemmas.{arranged_count, arranged_files, arranged_roots, flags_of}
use Rattle.smap_map_files.proofs.settling.put_maps_first.Goals as goal

pub returns-clause-files : goal.returns-clause-files
returns-clause-files c =
    let files = c.args.wanted.now.files.items in
    let roots = c.args.wanted.now.file_roots.items in
    let flags : c.in_ok-flags.flags.items ≡ flags_of files roots = search rules in
    let new : c.in_ok-files.files.items
    ≡ beside_flag false c.in_ok-flags.flags.items files ++ beside_flag true c.in_ok-flags.flags.items files =
    search rules in
    arranged_files files roots c.in_ok-flags.flags.items flags c.in_ok-files.files.items new

pub returns-clause-file_roots : goal.returns-clause-file_roots
returns-clause-file_roots c =
    let files = c.args.wanted.now.files.items in
    let roots = c.args.wanted.now.file_roots.items in
    let flags : c.in_ok-flags.flags.items ≡ flags_of files roots = search rules in
    let new : c.in_ok-roots.roots.items
    ≡ beside_flag false c.in_ok-flags.flags.items roots ++ beside_flag true c.in_ok-flags.flags.items roots =
    search rules in
    arranged_roots files roots c.in_ok-flags.flags.items flags c.in_ok-roots.roots.items new

pub returns-clause-map_count : goal.returns-clause-map_count
returns-clause-map_count c =
    let files = c.args.wanted.now.files.items in
    let roots = c.args.wanted.now.file_roots.items in
    let flags : c.in_ok-flags.flags.items ≡ flags_of files roots = search rules in
    let count : c.in_ok-files.count ≡ length
    (beside_flag false c.in_ok-flags.flags.items files) = search rules in
    arranged_count files roots c.in_ok-flags.flags.items flags c.in_ok-files.count count
