-- known texts and their brackets
use Rattle.std.specs.Prelude.{◌≡◌, [], codes, true, false, refl}
use Rattle.smap_functions.specs.Brackets.{closes, is_plain}

nested : closes [] (codes "f(a[0], {b: (c)})") ≡ true
nested = refl

crossed : closes [] (codes "f(a[0)]") ≡ false
crossed = refl

left_open : closes [] (codes "f(a){") ≡ false
left_open = refl

none_open : closes [] (codes "f(a))") ≡ false
none_open = refl

quoted : is_plain (codes "f(')')") ≡ false
quoted = refl
