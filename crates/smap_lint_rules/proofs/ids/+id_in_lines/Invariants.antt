use Rattle.smap_lint_rules.proofs.ids.+id_in_lines.Given as goal

abbrev pub decreases-id_in_lines : goal.decreases-id_in_lines
decreases-id_in_lines l = l.lines
