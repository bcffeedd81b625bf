use Rattle.std.proofs.Common.{◌≡◌, ◌∙◌, ◌+◌, List, Some, ap, arith, drop, length, length-drop, sym, ℕ}
use Rattle.smap_tool.specs.Header.{HeaderParts}
use Rattle.smap_tool.proofs.LinkLemmas.{a_header, no_feed, no_header, rest_of}
use Rattle.smap_tool.proofs.links.header_in.Goals as goal

pub returns-in_default : goal.returns-in_default
returns-in_default c = no_feed c.args.text.now c.in_default.ensures

pub returns-in_default-parse_header : goal.returns-in_default-parse_header
returns-in_default-parse_header c = no_header c.args.text.now c.in-Some.feed c.in-Some.ensures.0
    c.in-Some.ensures.1 c.in_default-parse_header.ensures

pub returns : goal.returns
returns c =
    let text = c.args.text.now in
    let n = c.in-Some.feed + 1 in
    let h = c.in-Some-parse_header.header in
    let found = c.in-Some-parse_header.ensures in
    let rest = rest_of text n in
    let parts : HeaderParts = record { script = h.script.now; base = h.base.now; bytes = found.0 } in
    let high = c.in-Some.ensures.0.high in (
      found.0,
      a_header text h.script.now h.base.now n found.0 found.1
          ∙ ap (λ (xs : List ℕ). Some (parts, xs)) (sym rest),
      found.2,
      omega (arith, ap length rest, length-drop n text, high),
    )
