-- What the definitions say of some texts, from the text on.
use Rattle.std.proofs.Common.{◌≡◌, List, ℕ, Option, Some, None, refl, [], ◌∷◌}
use Rattle.std.specs.Prelude.{codes, option_map, Result, Ok, Err, true, false}
use Rattle.serde_json.proofs.OnLiterals.{serde_json_on_literals}
use Rattle.serde_json.specs.Data.{Data, object, no_members}
use Rattle.serde_json.specs.Read.{read}
use Rattle.smap_shape.specs.declared.fault.ShapeFault.{ShapeFault}
use Rattle.smap_shape.specs.declared.fault.ShapeFault.TheVariants.{NotObject, Version, File, Both, SourceRoot}
use Rattle.smap_shape.specs.declared.fault.ShapeFault.TheVariants.{SourcesContent, IgnoreList, Mappings}
use Rattle.smap_shape.specs.declared.fault.ShapeFault.TheVariants.{Sections, Offset, SectionMap, Nested}
use Rattle.smap_shape.specs.Labels.{no_labels}
use Rattle.smap_shape.specs.Members.{Flat, Section, MapMembers, flat, is_listed}
use Rattle.smap_shape.specs.Reading.{shape_of, section_of, number_below}

-- the answer for the tree of a text
abbrev of_text : List ℕ → Option (Result (MapMembers Data) ShapeFault)
of_text text = option_map shape_of (read text)

-- of an index map of the greatest level
abbrev section_of_text : List ℕ → Option (Result (Section Data) ShapeFault)
section_of_text text = option_map (section_of 8) (read text)

-- a flat map without sources and names
abbrev empty : Flat
empty = record {
  labels = no_labels;
  root = None;
  sources = [];
  contents = [];
  names = [];
  ignored = [];
  mappings = [];
}

-- a flat map with one source
abbrev one_source : Option (List ℕ) → List ℕ → Flat
one_source content ignored =
    record empty { sources = Some (codes "a") ∷ []; contents = content ∷ []; ignored = ignored }

pub no_object : of_text (codes "[]") ≡ Some (Err NotObject)
unfolding serde_json_on_literals shape_of number_below
no_object = refl

pub text_version : of_text (codes "{\"version\":\"3\",\"mappings\":\"\"}") ≡ Some (Err Version)
unfolding serde_json_on_literals shape_of number_below
text_version = refl

pub other_version : of_text (codes "{\"version\":4,\"file\":7}") ≡ Some (Err Version)
unfolding serde_json_on_literals shape_of number_below
other_version = refl

pub file_before_both : of_text (codes "{\"version\":3,\"file\":7,\"sections\":[],\"mappings\":\"\"}")
    ≡ Some (Err File)
unfolding serde_json_on_literals shape_of number_below
file_before_both = refl

pub both : of_text (codes "{\"version\":3,\"sections\":[],\"mappings\":\"\"}") ≡ Some (Err Both)
unfolding serde_json_on_literals shape_of number_below
both = refl

pub no_list : of_text (codes "{\"version\":3,\"sections\":{}}") ≡ Some (Err Sections)
unfolding serde_json_on_literals shape_of number_below
no_list = refl

pub root_before_sources : of_text (codes "{\"version\":3,\"sourceRoot\":1,\"sources\":\"a\"}")
    ≡ Some (Err SourceRoot)
unfolding serde_json_on_literals shape_of number_below
root_before_sources = refl

pub only_version : of_text (codes "{\"version\":3}") ≡ Some (Err Mappings)
unfolding serde_json_on_literals shape_of number_below
only_version = refl

pub later_version : of_text (codes "{\"version\":2,\"version\":3,\"mappings\":\"\"}") ≡ Some (Ok (flat empty))
unfolding serde_json_on_literals shape_of number_below
later_version = refl

pub bad_content : of_text
    (codes "{\"version\":3,\"sources\":[\"a\"],\"sourcesContent\":[\"t\",null,7],\"mappings\":\"\"}")
    ≡ Some (Err SourcesContent)
unfolding serde_json_on_literals shape_of number_below
bad_content = refl

pub further_content : of_text
    (codes "{\"version\":3,\"sources\":[\"a\"],\"sourcesContent\":[\"t\",\"u\"],\"mappings\":\"\"}")
    ≡ Some (Ok (flat (one_source (Some (codes "t")) [])))
unfolding serde_json_on_literals shape_of number_below
further_content = refl

pub hidden_list : of_text (codes
    "{\"version\":3,\"sources\":[\"a\"],\"ignoreList\":[],\"x_google_ignoreList\":[0],\"mappings\":\"\"}")
    ≡ Some (Ok (flat (one_source None [])))
unfolding serde_json_on_literals shape_of number_below
hidden_list = refl

pub older_list : of_text (codes
    "{\"version\":3,\"sources\":[\"a\"],\"ignoreList\":null,\"x_google_ignoreList\":[0],\"mappings\":\"\"}")
    ≡ Some (Ok (flat (one_source None (0 ∷ []))))
unfolding serde_json_on_literals shape_of number_below
older_list = refl

pub hidden_fault : of_text (codes
    "{\"version\":3,\"sources\":[\"a\"],\"ignoreList\":[],\"x_google_ignoreList\":\"no\",\"mappings\":\"\"}")
    ≡ Some (Ok (flat (one_source None [])))
unfolding serde_json_on_literals shape_of number_below
hidden_fault = refl

pub bad_list : of_text (codes "{\"version\":3,\"sources\":[\"a\"],\"ignoreList\":[1],\"mappings\":\"\"}")
    ≡ Some (Err IgnoreList)
unfolding serde_json_on_literals shape_of number_below
bad_list = refl

pub greatest_column : section_of_text (codes "{\"offset\":{\"line\":0,\"column\":2147483647},\"map\":{}}")
    ≡ Some (Ok (record { line = 0; column = 2147483647; map = object no_members }))
unfolding serde_json_on_literals section_of number_below
greatest_column = refl

pub further_column : section_of_text (codes "{\"offset\":{\"line\":0,\"column\":2147483648},\"map\":{}}")
    ≡ Some (Err Offset)
unfolding serde_json_on_literals section_of number_below
further_column = refl

pub list_for_map : section_of_text (codes "{\"offset\":{\"line\":0,\"column\":0},\"map\":[]}")
    ≡ Some (Err SectionMap)
unfolding serde_json_on_literals section_of number_below
list_for_map = refl

pub nested : section_of_text (codes "{\"offset\":{\"line\":0,\"column\":0},\"map\":{\"sections\":[]}}")
    ≡ Some (Err Nested)
unfolding serde_json_on_literals section_of number_below
nested = refl

pub nested_below : option_map (section_of 7)
    (read (codes "{\"offset\":{\"line\":0,\"column\":1},\"map\":{\"sections\":null}}"))
    ≡ section_of_text (codes "{\"offset\":{\"line\":0,\"column\":1},\"map\":{\"sections\":null}}")
unfolding serde_json_on_literals section_of number_below
nested_below = refl

pub number_for_section : section_of_text (codes "7") ≡ Some (Err NotObject)
unfolding serde_json_on_literals section_of number_below
number_for_section = refl

pub is_in_list : is_listed 2 (5 ∷ 2 ∷ []) ≡ true
is_in_list = refl

pub is_not_in_list : is_listed 0 (5 ∷ 2 ∷ []) ≡ false
is_not_in_list = refl
