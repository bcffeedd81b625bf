use Rattle.std.proofs.Common.{◌∙◌, ap, inl, inr, refl}
use Rattle.smap_link.specs.Alike.{own_url}
use Rattle.smap_map_choice.specs.PlaceView.{place_in}
use Rattle.smap_map_files.specs.Given.{Folder}
use Rattle.smap_map_files.specs.RootView.{folder_of}
use Rattle.smap_chains.proofs.ClosingLemmas.{closed_at}
use Rattle.smap_chains.proofs.following.closed_in.Goals as goal
use Rattle.smap_chains.proofs.following.closed_in.Goals.{in-Map, in-Same}

pub returns : goal.returns
returns g c =
    elim c.match-closed-2.branch [
      | in-Map w ↦
          let closed = rw w.in-Map.is at c.in_ok-closed.ensures in
          inr (rw w.map-is (closed_at (g.D.Disk.held c.args.disk.now) c.args.subject.now.reading
          (folder_of c.args.subject.now.root) (place_in c.args.subject.now.place) c.args.map _ _ _
          c.in_ok-chain.chain closed.0
          c.in_ok-chain.ensures closed.1 (c.deref-2.ensures.value ∙ (c.in_ok-script.ensures
          ∙ ap own_url c.deref.ensures.value)) (record {
            url = c.home.ensures.url ∙ ap (λ (f : Folder). f.url) c.requires;
            path = c.home.ensures.path ∙ ap (λ (f : Folder). f.path) c.requires;
            beside = refl;
            given = refl;
            bytes = refl;
          })))
      | in-Same w ↦ inl w.map-is
    ]
