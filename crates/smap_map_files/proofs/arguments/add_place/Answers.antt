use Rattle.std.proofs.Common.{inl, subst, List, ℕ}
use Rattle.smap_map_files.specs.Lists.{lists_of}
use Rattle.smap_map_files.specs.Naming.{NamesWay}
use Rattle.smap_map_files.proofs.KeptLemmas.{on_ok}
use Rattle.smap_map_files.proofs.arguments.add_place.Goals as goal

pub returns-in-Some : goal.returns-in-Some
returns-in-Some g c =
    let way = rw c.in-Some.is at c.in_ok-way.ensures in
    on_ok c.add_split.result (λ h. inl (
      c.in-Some.way.url_end,
      c.in-Some.way.file_end,
      c.in-Some.kind,
      way.1,
      subst (λ (w : List ℕ). NamesWay (g.D.Disk.tree c.args.host.now.disk.now) c.in-Some.kind w
          c.in-Some.way.url_end c.in-Some.way.file_end (lists_of c.args.wanted.now)
          (lists_of c.add_split.new.wanted)) way.0 h,
    )) c.add_split.ensures
