use Rattle.std.proofs.Common.{◌≡◌, None, sym}
use Rattle.url.specs.Parser.{parse_url}
use Rattle.smap_record.specs.Reading.{reading}
use Rattle.smap_record.specs.Record.{usual}
use Rattle.smap_tool.specs.Header.{HeaderParts}
use Rattle.smap_tool.specs.Links.{base_url, entry_in, map_read}
use Rattle.smap_tool.proofs.LinkLemmas.{bad_map, cut_off, first_of, good_map, without_base, without_header}
use Rattle.smap_tool.proofs.links.entry_in.Goals as goal

pub returns-in_default-clause-refused : goal.returns-in_default-clause-refused
returns-in_default-clause-refused c =
    rw c.refused.ensures (without_header c.args.entry c.args.text.now c.in_default.ensures)

pub returns-in-Err-clause-refused : goal.returns-in-Err-clause-refused
returns-in-Err-clause-refused c =
    let h = c.in-Some.header in
    let parts : HeaderParts = record {
      script = h.script.now;
      base = h.base.now;
      bytes = c.in-Some.ensures.0;
    } in
    first_of (base_url c.args.entry (parse_url None h.base.now)) (entry_in c.args.entry c.args.text.now)
    c.in-Err.fault (λ f bad. without_base c.args.entry c.args.text.now parts c.in-Some.text.now
    c.in-Some.ensures.1 f bad) c.in-Err.ensures.refused

pub returns-in_default-map_in-clause-refused : goal.returns-in_default-map_in-clause-refused
returns-in_default-map_in-clause-refused c =
    let h = c.in-Some.header in
    let n = c.in-Some.ensures.0 in
    let parts : HeaderParts = record { script = h.script.now; base = h.base.now; bytes = n } in
    rw c.refused-in_default-map_in.ensures (cut_off c.args.entry c.args.text.now parts c.in-Some.text.now
    c.in-Some.ensures.1 c.in-Ok.base c.in-Ok.ensures.base
    (sym (c.in_default-map_in.ensures n c.in-Some.ensures.2)))

pub returns-in-Ok-map_of-clause-entry : goal.returns-in-Ok-map_of-clause-entry
returns-in-Ok-map_of-clause-entry c =
    let h = c.in-Some.header in
    let n = c.in-Some.ensures.0 in
    let parts : HeaderParts = record { script = h.script.now; base = h.base.now; bytes = n } in
    good_map c.args.entry c.args.text.now parts c.in-Some.text.now c.in-Some.ensures.1 c.in-Ok.base
    c.in-Ok.ensures.base c.in-Some-map_in.bytes.now c.in-Some-map_in.rest.now
    (sym (c.in-Some-map_in.ensures n c.in-Some.ensures.2)) c.in-Ok-map_of.map c.in-Ok-map_of.ensures.map

pub returns-clause-refused : goal.returns-clause-refused
returns-clause-refused c =
    let h = c.in-Some.header in
    let n = c.in-Some.ensures.0 in
    let parts : HeaderParts = record { script = h.script.now; base = h.base.now; bytes = n } in
    first_of (map_read c.args.entry (reading c.in-Ok.base usual c.in-Some-map_in.bytes.now))
    (entry_in c.args.entry c.args.text.now) c.in-Err-map_of.fault
    (λ f bad. bad_map c.args.entry c.args.text.now parts c.in-Some.text.now c.in-Some.ensures.1 c.in-Ok.base
    c.in-Ok.ensures.base c.in-Some-map_in.bytes.now c.in-Some-map_in.rest.now
    (sym (c.in-Some-map_in.ensures n c.in-Some.ensures.2)) f bad) c.in-Err-map_of.ensures.refused
