-- Examples of the definitions.
use Rattle.std.proofs.Common.{◌≡◌, ℕ, Bool, List, [], ◌∷◌, true, false, Some, None, refl, codes, ◌++◌}
use Rattle.std.specs.Fmt.{digits}
use Rattle.smap_frames.specs.Reading.{frame_of}
use Rattle.smap_record.specs.Record.{no_labels, Entry, Mapping}
use Rattle.smap_trace.specs.Lookup.{mapping_at}
use Rattle.smap_trace.specs.Translation.{Script, line_translation, translation}
use Rattle.smap_trace.specs.Unnamed.{named_frame}
use Rattle.smap_trace.specs.Views.{counts_of}

-- ---- the trace of the worked example

abbrev source : Bool → Entry
source ignored = record { url = Some (codes "http://h/m/a.js"); content = None; ignored = ignored }

abbrev placed : Bool → ℕ → ℕ → ℕ → ℕ → Mapping
placed ignored l c ol oc = record {
  line = l;
  column = c;
  origin =
      Some (record { source = source ignored; line = ol; column = oc; name = None });
}

abbrev scripts : Bool → List Script
scripts ignored = (
  codes "http://h/m/out.js",
  record {
    labels = no_labels;
    sources = source ignored ∷ [];
    mappings =
        placed ignored 0 0 10 2 ∷ placed ignored 0 4 12 2 ∷ [];
  },
) ∷ []

abbrev trace : List ℕ
trace = codes "Error: x\n    at f (http://h/m/out.js:1:2)\n    at async http://h/m/out.js:1:5\n"
    ++ codes "g@http://h/m/out.js:1:4\r\n"
    ++ codes "    at eval (eval at f (http://h/m/out.js:1:2), <anonymous>:1:1)\n"
    ++ codes "    at f (http://h/m/out.js:0:1)\n    at f (http://h/m/out.js:2:1)\n"
    ++ codes "    at f (http://h/m/other.js:1:2)\n\n@http://h/m/out.js:1:2147483648"

abbrev told : List ℕ
told = codes "Error: x\n    at f (http://h/m/a.js:11:3)\n    at async http://h/m/a.js:13:3\n"
    ++ codes "g@http://h/m/a.js:11:3\r\n"
    ++ codes "    at eval (eval at f (http://h/m/out.js:1:2), <anonymous>:1:1)\n"
    ++ codes "    at f (http://h/m/out.js:0:1)\n    at f (http://h/m/out.js:2:1)\n"
    ++ codes "    at f (http://h/m/other.js:1:2)\n\n@http://h/m/a.js:13:3"

abbrev left : List ℕ
left = codes "Error: x\n    at eval (eval at f (http://h/m/out.js:1:2), <anonymous>:1:1)\n"
    ++ codes "    at f (http://h/m/out.js:0:1)\n    at f (http://h/m/out.js:2:1)\n"
    ++ codes "    at f (http://h/m/other.js:1:2)\n\n"

worked : translation (scripts false) false trace ≡ told
unfolding digits frame_of
worked = refl

worked_counts : counts_of (scripts false) false trace ≡ record { lines = 10; translated = 4; dropped = 0 }
unfolding digits frame_of
worked_counts = refl

hidden : translation (scripts true) true trace ≡ left
unfolding digits frame_of
hidden = refl

hidden_counts : counts_of (scripts true) true trace ≡ record { lines = 10; translated = 0; dropped = 4 }
unfolding digits frame_of
hidden_counts = refl

shown : translation (scripts true) false trace ≡ told
unfolding digits frame_of
shown = refl

-- A line that holds a line feed before its end is kept byte for byte.
two_in_one : line_translation (scripts false) false (codes "@http://h/m/out.js:1:1\n@http://h/m/out.js:1:1\n")
    ≡ codes "@http://h/m/out.js:1:1\n@http://h/m/out.js:1:1\n"
unfolding digits frame_of
two_in_one = refl

-- Of two mappings at one position the last is found; on a line without one there is none.
ties : mapping_at (placed false 0 0 1 0 ∷ placed false 0 0 2 0 ∷ placed false 1 5 3 0 ∷ []) 0 7
    ≡ Some (placed false 0 0 2 0)
ties = refl

before_all : mapping_at (placed false 0 0 1 0 ∷ placed false 0 0 2 0 ∷ placed false 1 5 3 0 ∷ []) 1 4 ≡ None
before_all = refl

-- ---- frames that name no script

unnamed : named_frame (codes "u") (codes "f@1:2\r") ≡ Some (codes "f@u:1:2\r")
unfolding digits frame_of
unnamed = refl

without_function : named_frame (codes "u") (codes "@1:2") ≡ Some (codes "@u:1:2")
unfolding digits frame_of
without_function = refl

of_code : named_frame (codes "u") (codes "global code@1:2") ≡ Some (codes "global code@u:1:2")
unfolding digits frame_of
of_code = refl

in_text : named_frame (codes "u") (codes "from f@1:2") ≡ None
unfolding digits frame_of
in_text = refl

of_a_script : named_frame (codes "u") (codes "f@v:1:2") ≡ None
unfolding digits frame_of
of_a_script = refl

an_address : named_frame (codes "u") (codes "f@1.2") ≡ None
unfolding digits frame_of
an_address = refl

of_no_script : named_frame [] (codes "f@1:2") ≡ None
unfolding digits frame_of
of_no_script = refl
