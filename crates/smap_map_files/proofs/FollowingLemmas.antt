-- What was found by the URL that a script names.
use Rattle.std.proofs.Common.{◌≡◌, inl, inr, List, ℕ, Bool, true, false, not, ◌&&◌, cond}
use Rattle.std.proofs.Common.{None, Some, Result, Ok, IsErr, refl}
use Rattle.smap_link.specs.Inline.{is_data, data_of, some_map}
use Rattle.smap_link.specs.Kinds.{link_in}
use Rattle.smap_link.specs.declared.inline.InlineFault.{InlineFault}
use Rattle.smap_map_choice.specs.Named.{IsFileUrl, IsInline, IsWrong, is_vain}
use Rattle.smap_map_choice.specs.Places.{MapPlace, below}
use Rattle.smap_map_choice.specs.declared.named.NamedFault.{NamedFault}
use Rattle.smap_map_choice.specs.declared.named.NamedFault.TheVariants as fault
use Rattle.smap_map_files.specs.Given.{Folder, Holds, IsUnfound, Names, NamesUnfound, linked_base}
use Rattle.smap_map_files.specs.Given.{name_below, named_url}
use Rattle.smap_map_files.specs.Target.{LeadsTo}

-- ---- what a text names

named_by : (script text url : List ℕ) → Some url ≡ link_in script text
    → not (is_data url) && is_vain url ≡ false
    → named_url script text ≡ Some url
named_by script text url named kept = rw (← named, kept) refl

held : (is_one : Bool) (r : Result (List ℕ) InlineFault) (bytes : List ℕ)
    → cond is_one (some_map r) (Ok None) ≡ Ok (Some bytes)
    → is_one ≡ true
held true r bytes is = refl
held false r bytes is = absurd cc

pub holds : (script text url bytes : List ℕ) → Some url ≡ link_in script text → IsInline url bytes
    → Holds script text bytes
holds script text url bytes named inline = record {
  url = url;
  named = named_by script text url named (rw (held (is_data url) (data_of inline.0 url) bytes inline.2) refl);
  inline = inline;
}

-- ---- a file

pub names_file : (folder : Folder) (place : MapPlace) (text url name file base : List ℕ)
    → Some url ≡ link_in place.file text → LeadsTo folder.url (name_below folder.path place.file) url name
    → file ≡ below folder.path name → base ≡ linked_base place url
    → (n : Names folder place.file text file) × (base ≡ linked_base place n.url)
names_file folder place text url name file base named leads is own = (
  record {
    url = url;
    named = named_by place.file text url named (rw (leads.0.0, leads.0.1) refl);
    is_link = leads.0.0;
    by = record { name = name; linked_is = leads.1; file_is = is };
  },
  own,
)

-- ---- what can't be had

unfound : (folder : Folder) (script text url : List ℕ) → Some url ≡ link_in script text → IsFileUrl url
    → IsUnfound folder script url
    → NamesUnfound folder script text
unfound folder script text url named file none = record {
  url = url;
  named = named_by script text url named (rw (file.0, file.1) refl);
  unfound = inr (file.0, none);
}

pub names_absent : (folder : Folder) (script text url name : List ℕ) → Some url ≡ link_in script text
    → LeadsTo folder.url (name_below folder.path script) url name
    → NamesUnfound folder script text
names_absent folder script text url name named leads = unfound folder script text url named leads.0
    (inr (below folder.path name, record { name = name; linked_is = leads.1; file_is = refl }))

fails : (is_one : Bool) (r : Result (List ℕ) InlineFault) → IsErr (cond is_one (some_map r) (Ok None))
    → is_one ≡ true
fails true r is = refl
fails false r is = absurd cc

pub names_wrong : (folder : Folder) (script text url : List ℕ) (why : NamedFault)
    → Some url ≡ link_in script text → (why ≡ fault.NoName → ⊥)
    → IsWrong folder.url (name_below folder.path script) url why
    → NamesUnfound folder script text
names_wrong folder script text url fault.Garbled named other wrong = record {
  url = url;
  named = named_by script text url named (rw (fails (is_data url) (data_of wrong.0 url) wrong.2) refl);
  unfound = inl wrong;
}
names_wrong folder script text url fault.NoName named other wrong = elim (other refl) [ ]
names_wrong folder script text url fault.NotUrl named other wrong =
    unfound folder script text url named wrong.0 (inl (rw wrong.1 refl))
names_wrong folder script text url fault.Leaves named other wrong =
    unfound folder script text url named wrong.0 (inl (rw wrong.1 refl))
