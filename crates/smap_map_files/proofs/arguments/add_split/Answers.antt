use Rattle.std.proofs.Common.{◌∙◌, ap, option_map, subst, sym, take}
use Rattle.smap_command_line.specs.Splits.{base_in, split_fault}
use Rattle.smap_map_files.specs.Lists.{lists_of}
use Rattle.smap_map_files.specs.Naming.{NamesWay}
use Rattle.smap_map_files.proofs.KeptLemmas.{on_ok}
use Rattle.smap_map_files.proofs.NamingLemmas.{way_to_file, way_to_folder}
use Rattle.smap_map_files.proofs.arguments.add_split.Goals as goal

pub returns-in-Folder : goal.returns-in-Folder
returns-in-Folder g c =
    let told = g.D.Disk.tree c.args.host.now.disk.now in
    let s = c.args.split.now in
    let fault = ap (λ k. split_fault k (take s.url_end s.word.now) (base_in s.word.now s.file_end))
    (sym c.in-Folder.is)
    ∙ sym c.fault.ensures ∙ c.in_default.is in
    on_ok c.add_folder.result (λ h. subst (λ k. NamesWay told k s.word.now s.url_end s.file_end
    (lists_of c.args.wanted.now) (lists_of c.add_folder.new.wanted)) (sym c.in-Folder.is)
    (way_to_folder told s.word.now c.url.result.now c.file.result.now s.url_end s.file_end
    (lists_of c.args.wanted.now)
    (lists_of c.add_folder.new.wanted) s.parts c.url.ensures c.file.ensures fault h))
    c.add_folder.ensures

pub returns-in_ok-add_map-in-File : goal.returns-in_ok-add_map-in-File
returns-in_ok-add_map-in-File g c =
    let told = g.D.Disk.tree c.args.host.now.disk.now in
    let s = c.args.split.now in
    let fault = ap (λ k. split_fault k (take s.url_end s.word.now) (base_in s.word.now s.file_end))
    (sym c.in-File.is)
    ∙ sym c.fault.ensures ∙ c.in_default.is in
    subst (λ k. NamesWay told k s.word.now s.url_end s.file_end (lists_of c.args.wanted.now)
    (lists_of c.add_map.new.wanted)) (sym c.in-File.is)
    (way_to_file told s.word.now c.url-in-File.result.now c.file-in-File.result.now (option_map
    (λ b. b.now) c.base.result)
    s.url_end s.file_end (lists_of c.args.wanted.now)
    (lists_of c.add_map.new.wanted) s.parts c.url-in-File.ensures
    c.file-in-File.ensures c.base.ensures fault c.in_ok-add_map-in-File.ensures)
