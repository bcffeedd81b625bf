use Rattle.std.proofs.Common.{◌≡◌, ◌+◌, take}
use Rattle.smap_record.specs.UrlBytes.{url_bytes}
use Rattle.smap_record.proofs.url_bytes.are_within.Given as goal

abbrev pub invariant-loop-i : goal.invariant-loop-i
invariant-loop-i l = l.left + url_bytes l.base (take l.i l.written) ≡ l.most
