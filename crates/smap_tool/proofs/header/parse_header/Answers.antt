use Rattle.std.proofs.Common.{ℕ, List, Some, None, sym, rules, subst}
use Rattle.smap_tool.specs.Header.{IsNumber}
use Rattle.smap_tool.proofs.ParsedLemmas.{base_cut, cut_of, header_of, no_words, script_cut, word_is}
use Rattle.smap_tool.proofs.header.parse_header.Goals as goal

pub returns-in_err-words : goal.returns-in_err-words
returns-in_err-words c =
    rw c.from_residual.ensures (λ script base n h.
    no_words c.args.line.now script base n c.in_err-words.ensures h)

pub returns-in_err-script : goal.returns-in_err-script
returns-in_err-script c = rw c.from_residual-in_err-script.ensures (λ script base n h.
    script_cut c.args.line.now c.in_ok-words.words.now script base n None c.in_ok-words.ensures
    c.in_err-script.ensures.cases h)

pub returns-in_err-base : goal.returns-in_err-base
returns-in_err-base c = rw c.from_residual-in_err-base.ensures (λ script base n h.
    let cut = script_cut c.args.line.now c.in_ok-words.words.now script base n
    (Some (c.in_ok-script.script, c.in_ok-script.rest)) c.in_ok-words.ensures c.in_ok-script.ensures.cases
    h in
    base_cut c.in_ok-script.rest.now base h.digits None cut.1 c.in_err-base.ensures.cases h.base_word)

pub returns-in_err-length : goal.returns-in_err-length
returns-in_err-length c = rw c.from_residual-in_err-length.ensures (λ script base n h.
    let cut = script_cut c.args.line.now c.in_ok-words.words.now script base n
    (Some (c.in_ok-script.script, c.in_ok-script.rest)) c.in_ok-words.ensures c.in_ok-script.ensures.cases
    h in
    let rest = base_cut c.in_ok-script.rest.now base h.digits (Some (c.in_ok-base.base, c.in_ok-base.digits))
    cut.1 c.in_ok-base.ensures.cases h.base_word in
    let P : List ℕ → Type 0 = λ ds. IsNumber ds n in
    c.in_err-length.ensures n (subst P (sym rest.1) h.number))

pub returns-then-not-is_one_line : goal.returns-then-not-is_one_line
returns-then-not-is_one_line c = λ script base n h.
    let cut = script_cut c.args.line.now c.in_ok-words.words.now script base n
    (Some (c.in_ok-script.script, c.in_ok-script.rest)) c.in_ok-words.ensures c.in_ok-script.ensures.cases
    h in
    let rest = base_cut c.in_ok-script.rest.now base h.digits (Some (c.in_ok-base.base, c.in_ok-base.digits))
    cut.1 c.in_ok-base.ensures.cases h.base_word in
    elim c.then-not-is_one_line.branch [
      | goal.then-not-is_one_line-via-then-not-is_one_line w ↦
          word_is _ c.in_ok-script.script.now script cut.0 h.script_word c.is_one_line.ensures.one_line
          w.if-not-is_one_line.true
      | goal.then-not-is_one_line-via-else-not-is_one_line+then-not-is_one_line-2 w ↦
          word_is _ c.in_ok-base.base.now base rest.0 h.base_word
          w.is_one_line-else-not-is_one_line.ensures.one_line
          w.if-not-is_one_line-2.true
    ]

pub returns : goal.returns
returns c =
    let cut = cut_of c.args.line.now c.in_ok-words.words.now (c.in_ok-script.script, c.in_ok-script.rest)
    (c.in_ok-base.base, c.in_ok-base.digits) c.in_ok-words.ensures c.in_ok-script.ensures.cases
    c.in_ok-base.ensures.cases in
    let number = c.in_ok-length.ensures in (
      number.0,
      header_of c.args.line.now c.in_ok-script.script.now c.in_ok-base.base.now c.in_ok-base.digits.now
          number.0 cut number.1 (search rules)
          (c.is_one_line.ensures.one_line.0 c.if-not-is_one_line.false)
          (c.is_one_line-else-not-is_one_line.ensures.one_line.0 c.if-not-is_one_line-2.false)
          c.is_one_line.ensures.utf8 c.is_one_line-else-not-is_one_line.ensures.utf8,
      number.2,
    )
