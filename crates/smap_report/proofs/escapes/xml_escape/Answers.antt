use lib.Utf8.{encode}
use Rattle.std.proofs.Common.{refl}
use Rattle.smap_report.proofs.escapes.xml_escape.Goals as goal

pub returns-in-65534 : goal.returns-in-65534
unfolding encode
returns-in-65534 c = rw c.in-65534.is refl

pub returns-in-65535 : goal.returns-in-65535
unfolding encode
returns-in-65535 c = rw c.in-65535.is refl
