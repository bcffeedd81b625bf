-- Known answers of the definitions.
use Rattle.std.proofs.Common.{◌≡◌, None, Some, codes, refl}
use Rattle.smap_logs.specs.Beginnings.{apart, beginnings, path_start}

from_slash : path_start (codes "at f (/my shop/a.js") 19 ≡ Some 6
from_slash = refl

from_drive : path_start (codes "at f (C:\\Program Files (x86)\\a.js") 33 ≡ Some 6
from_drive = refl

the_last : path_start (codes "at f (/a.js:1:2), g (/b c.js") 28 ≡ Some 21
the_last = refl

no_further_colon : path_start (codes "eval at f (/a.js:1:2), <anonymous>") 34 ≡ None
no_further_colon = refl

two_paths : path_start (codes "said (/my hosts, /my a.js") 25 ≡ None
two_paths = refl

no_root : path_start (codes "at f (my shop/a.js") 18 ≡ None
no_root = refl

no_parenthesis : path_start (codes "at /my shop/a.js") 16 ≡ None
no_parenthesis = refl

of_a_column : (apart (codes "at=out.js") (beginnings (codes "at=out.js") 9)).nearest ≡ Some 3
of_a_column = refl

of_one_behind_a_quotation : let line = codes "\"http://h/\",\"at\":\"out.js" in
    (apart line (beginnings line 24)).nearest ≡ Some 18
of_one_behind_a_quotation = refl

within_a_url : let line = codes "http://h/??a.js,out.js" in (apart line (beginnings line 22)).nearest ≡ None
within_a_url = refl
