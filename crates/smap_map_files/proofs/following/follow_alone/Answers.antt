use Rattle.std.proofs.Common.{◌≡◌, inl, false}
use Rattle.std.specs.Str.{is_utf8}
use Rattle.smap_link.proofs.WordLemmas.{not_utf8}
use Rattle.smap_map_files.proofs.following.follow_alone.Goals as goal

pub returns-in_default : goal.returns-in_default
returns-in_default g c =
    let other : is_utf8 c.deref.result.now ≡ false =
    not_utf8 c.deref.result.now c.in_default.ensures.cases.0 in
    inl (rw c.deref.ensures.value at other)
