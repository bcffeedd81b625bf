use Rattle.smap_lint_rules.proofs.originals.open_words.Goals as goal

pub returns : goal.returns
returns c = rw (
  c.in_ok-sources.ensures,
  c.one_or_more-own.ensures,
  c.in_ok-example.ensures,
  c.in_ok-followed.ensures,
) at c.format.ensures.ok
