use Rattle.std.proofs.Common.{◌≡◌, ◌⊎◌, inl, inr, Some, arith}
use Rattle.std.proofs.lemmas.Map.Text.{text_keys}
use Rattle.std.specs.HashMap.{get_by_text}
use Rattle.smap_chains.specs.Chains.{IsOwnMap}
use Rattle.smap_chains.proofs.SearchLemmas.{at_kept, opened_at}
use Rattle.smap_chains.proofs.search.Search.file_number.Goals as goal

pub returns-clause-files : goal.returns-clause-files
returns-clause-files g c = λ name k e.
    let own = IsOwnMap (g.D.Disk.held c.args.sources.now.disk.now) c.args.sources.now.asked in
    let maps = c.settle.new.self.maps.items in
    let which : ((name ≡ c.args.name.now) × (c.in_ok-number.number ≡ Some k))
    ⊎ (get_by_text c.settle.new.self.files name ≡ Some (Some k)) = grind (arith, text_keys) in
    elim which [
      | inl h ↦ rw h.0 (opened_at maps k (own c.args.name.now) c.in_ok-opened.opened c.in_ok-opened.ensures
          (rw h.1 at c.in_ok-number.ensures.is))
      | inr h ↦ at_kept c.args.self.now.maps.items maps c.settle.ensures.keeps k (own name)
          (c.requires name k (rw c.settle.ensures.files at h))
    ]
