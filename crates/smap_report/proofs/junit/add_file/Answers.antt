use Rattle.std.proofs.Common.{◌≡◌, false}
use Rattle.smap_report.specs.Junit.{has_file}
use Rattle.smap_report.proofs.FileLemmas.{added_is}
use Rattle.smap_report.proofs.junit.add_file.Goals as goal

pub returns : goal.returns
returns c =
    let none : has_file c.args.files.now.items c.args.file.now ≡ false = cc in
    added_is c.args.files.now.items c.push.new.self.items c.in_ok-from_str.field-0 c.args.file.now
    c.in_ok-push.ensures.items c.in_ok-from_str.ensures.ok none
