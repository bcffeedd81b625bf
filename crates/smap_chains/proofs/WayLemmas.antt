-- Where the map of a source is, by what its text names and by what is next to it.
use Rattle.std.proofs.Common.{◌≡◌, ℕ, Bool, true, false, List, Option, Some, None, refl, string_bytes}
use Rattle.std.specs.Global.{Global, Vec}
use Rattle.std.specs.Prelude.{IfSome, String}
use Rattle.smap_link.specs.Inline.{is_data}
use Rattle.smap_link.specs.Kinds.{link_in}
use Rattle.smap_link.specs.Names.{script_name}
use Rattle.smap_link.specs.Paths.{bare}
use Rattle.smap_map_choice.specs.Named.{IsInline}
use Rattle.smap_map_files.specs.Target.{LeadsTo}
use Rattle.smap_map_files.specs.declared.target.Target.{Target}
use Rattle.smap_map_files.specs.declared.target.Target.TheVariants.{Inline, File, Absent, Wrong}
use Rattle.smap_chains.specs.Chains.{IsTargetOf}
use Rattle.smap_chains.specs.SourceMaps.{IsBeside, IsLead, IsOwnTarget, IsSourceTarget, IsTargetIf}
use Rattle.smap_chains.specs.declared.chains.ChainAsked.{ChainAsked}
use Rattle.smap_chains.specs.declared.source_maps.Lead.{Lead}

module _ (folder link : List ℕ) where
  inline_own : (is_data : Bool) (bytes : Vec ℕ) → IsOwnTarget is_data folder link (Inline bytes)
      → IsInline link bytes.items
  inline_own true bytes h = h
  inline_own false bytes h = cc

  inline_if : (name : Option (List ℕ)) (bytes : Vec ℕ) → IsTargetIf folder name link (Inline bytes)
      → IsInline link bytes.items
  inline_if None bytes h = inline_own (is_data link) bytes h
  inline_if (Some name) bytes h = h

  file_own : (b : Bool) (file : String Global) → is_data link ≡ b → IsOwnTarget b folder link (File file) → ⊥
  file_own true file e h = let f = h.0.0 in cc
  file_own false file e h = cc

  file_if : (name : Option (List ℕ)) (file : String Global) → IsTargetIf folder name link (File file)
      → (n : List ℕ) × ((name ≡ Some n) × LeadsTo folder n link (string_bytes file))
  file_if None file h = absurd (file_own (is_data link) file refl h)
  file_if (Some name) file h = (name, (refl, h))

pub named_target : (a : ChainAsked) (url text link : List ℕ) (t : Target) → link_in (bare url) text ≡ Some
    link
    → IsSourceTarget a.home.url.now url link t → IsTargetOf a url text t
named_target a url text link (Inline bytes) e h =
    (link, (e, inline_if a.home.url.now link (script_name a.home.url.now (bare url)) bytes h))
named_target a url text link (File file) e h =
    let it = file_if a.home.url.now link (script_name a.home.url.now (bare url)) file h in
    (it.0, (it.1.0, rw e it.1.1))
named_target a url text link (Absent name why) e h = tt
named_target a url text link (Wrong why) e h = tt

pub beside_target : (a : ChainAsked) (url text : List ℕ) (t : Target) → link_in (bare url) text ≡ None
    → a.more.beside ≡ true → IsBeside a.home.url.now url t → IsTargetOf a url text t
beside_target a url text (Inline bytes) e such h = absurd h.1.1
beside_target a url text (File file) e such h = (h.0, (h.1.0, rw e (such, h.1.1)))
beside_target a url text (Absent name why) e such h = tt
beside_target a url text (Wrong why) e such h = tt

pub lead_target : (a : ChainAsked) (url text : List ℕ) (o : Option Lead) → IsLead a.home.url.now url text o
    → IfSome o (λ l. IsTargetOf a url text l.target)
lead_target a url text None h = tt
lead_target a url text (Some l) h = named_target a url text l.named.items l.target h.0 h.1
