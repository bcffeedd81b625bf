-- Examples of the definitions.
use Rattle.std.proofs.Common.{◌≡◌, ℕ, List, [], ◌∷◌, Some, None, refl, codes}
use Rattle.std.specs.Fmt.{digits}
use Rattle.smap_frames.specs.Reading.{frame_of}

abbrev url : List ℕ
url = codes "http://h/o.js"

parenthesised : frame_of (codes "    at f (http://h/o.js:1:2)")
    ≡ Some (record { before = codes "    at f ("; url = url; line = 1; column = 2; after = codes ")" })
unfolding digits frame_of
parenthesised = refl

named : frame_of (codes "at new A [as b] (http://h/o.js:1:2)")
    ≡ Some (record { before = codes "at new A [as b] ("; url = url; line = 1; column = 2; after = codes ")" })
unfolding digits frame_of
named = refl

bare : frame_of (codes "    at http://h/o.js:1:2")
    ≡ Some (record { before = codes "    at "; url = url; line = 1; column = 2; after = [] })
unfolding digits frame_of
bare = refl

with_async : frame_of (codes "    at async http://h/o.js:1:2")
    ≡ Some (record { before = codes "    at async "; url = url; line = 1; column = 2; after = [] })
unfolding digits frame_of
with_async = refl

firefox : frame_of (codes "g@http://h/o.js:1:2\r")
    ≡ Some (record { before = codes "g@"; url = url; line = 1; column = 2; after = 13 ∷ [] })
unfolding digits frame_of
firefox = refl

greatest : frame_of (codes "@u:2147483648:1") ≡ Some
    (record { before = codes "@"; url = codes "u"; line = 2147483648; column = 1; after = [] })
unfolding digits frame_of
greatest = refl

too_great : frame_of (codes "@u:2147483649:1") ≡ None
unfolding digits frame_of
too_great = refl

zeroth : frame_of (codes "@u:0:1") ≡ None
unfolding digits frame_of
zeroth = refl

padded : frame_of (codes "@u:01:1") ≡ None
unfolding digits frame_of
padded = refl

no_url : frame_of (codes "@:1:1") ≡ None
unfolding digits frame_of
no_url = refl

no_column : frame_of (codes "@u:1") ≡ None
unfolding digits frame_of
no_column = refl

eval_in_v8 : frame_of (codes "    at eval (eval at f (http://h/o.js:1:2), <anonymous>:1:1)") ≡ None
unfolding digits frame_of
eval_in_v8 = refl

eval_in_firefox : frame_of (codes "f@http://h/o.js line 3 > eval:1:1") ≡ None
unfolding digits frame_of
eval_in_firefox = refl

native : frame_of (codes "    at f (native)") ≡ None
unfolding digits frame_of
native = refl

anonymous : frame_of (codes "    at <anonymous>") ≡ None
unfolding digits frame_of
anonymous = refl

empty : frame_of [] ≡ None
unfolding digits frame_of
empty = refl

v8_alone : frame_of (codes "    at g@http://h/o.js:1:2")
    ≡ Some (record {
      before = codes "    at ";
      url = codes "g@http://h/o.js";
      line = 1;
      column = 2;
      after =
          [];
    })
unfolding digits frame_of
v8_alone = refl

last_paren : frame_of (codes "at a (b) (u:1:2)")
    ≡ Some (record { before = codes "at a (b) ("; url = codes "u"; line = 1; column = 2; after = codes ")" })
unfolding digits frame_of
last_paren = refl

with_feed : frame_of (codes "@u:1:1\n") ≡ None
unfolding digits frame_of
with_feed = refl
