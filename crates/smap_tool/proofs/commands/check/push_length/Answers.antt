use Rattle.std.proofs.Common.{◌≡◌, ℕ, List, OnOk, codes, subst, length}
use Rattle.smap_record.specs.Record.{record_of}
use Rattle.smap_canon.specs.Canonical.{canonical_mappings_text}
use Rattle.smap_tool.specs.Commands.{length_line, most_bytes}
use Rattle.smap_tool.proofs.CheckLemmas.{two_numbers}
use Rattle.smap_tool.proofs.commands.check.push_length.Goals as goal

pub returns : goal.returns
unfolding length_line
returns c =
    subst (λ (xs : List ℕ). OnOk c.push_number-2.result (c.push_number-2.new.text.items ≡ xs))
    (two_numbers c.args.text.now.items c.push_number.new.text.items (codes "canonical mappings: ")
    (codes " bytes, at most ")
    c.in_ok-len.len (length (canonical_mappings_text (record_of c.args.map.now))) c.most_bytes.result
    (most_bytes c.args.map.now)
    c.in_ok-push_number.ensures c.in_ok-len.ensures c.most_bytes.ensures)
    c.push_number-2.ensures
