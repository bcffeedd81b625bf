use Rattle.std.proofs.Common.{◌∙◌, [], ◌∷◌, ◌++◌, List, ap, arith, subst, sym}
use Rattle.smap_mappings.specs.declared.token.Token.{Token}
use Rattle.smap_compose.specs.Following.{AreOf, mapping_with, texts_of, with_name}
use Rattle.smap_compose.proofs.JoiningLemmas.{next_joined}
use Rattle.smap_compose.proofs.joining.Joined.with.Goals as goal

pub returns-clause-joins : goal.returns-clause-joins
returns-clause-joins c = λ sources ms are few most few_sources listed on_line in_column.
    let old = texts_of c.args.self.names.keys in
    let new = texts_of c.in_ok-names.names.keys in
    let tokens = c.args.self.tokens.items in
    let least = c.in_ok-names.ensures.few few in
    let joined = next_joined sources ms old new tokens c.args.line c.args.column c.args.original
    c.in_ok-names.number are (c.in_ok-names.ensures.names ∙ ap (λ n. with_name n old) c.name_of.ensures)
    (c.in_ok-names.ensures.number ∙ c.name_of.ensures) c.in_ok-names.ensures.within
    (omega (arith, least, most)) few_sources listed on_line in_column in
    subst (λ (ts : List Token). AreOf sources
    (ms ++ mapping_with sources c.args.line c.args.column c.args.original ∷ []) new ts)
    (sym (c.in_ok-push.ensures.items ∙ ap (λ t. tokens ++ t ∷ []) c.token_of.ensures)) joined
