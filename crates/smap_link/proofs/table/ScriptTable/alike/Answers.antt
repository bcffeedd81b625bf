use Rattle.std.proofs.Common.{◌≡◌, ◌∙◌, Bool, Option, Some, None, true, ℕ, List, ap, arith, length, map, refl}
use Rattle.std.proofs.Common.{reverse, subst, sym}
use Rattle.std.proofs.lemmas.Bool.{cond-true}
use Rattle.smap_link.specs.Alike.{key_of}
use Rattle.smap_link.specs.Choice.{alike_in, alike_to, first_of, only_alike, or_else, sole}
use Rattle.smap_link.specs.Paths.{bare}
use Rattle.smap_link.proofs.TableLemmas.{none_sole, or_else_none}
use Rattle.smap_link.proofs.table.ScriptTable.alike.Goals as goal

abbrev keyed : List (List ℕ) → List ℕ → Option ℕ
keyed scripts key = first_of key (map key_of scripts)

-- no script is alike to the name with its query
without : (scripts : List (List ℕ)) (name : List ℕ) (ignore : Bool) → alike_in name scripts ≡ None
    → ignore ≡ true
    → alike_to ignore scripts name ≡ or_else (alike_in (bare name) scripts) (only_alike name scripts)
without scripts name ignore none is =
    or_else_none (alike_in name scripts) _ none ∙ cond-true ignore _ _ is

first_counts : (i : ℕ) (first other : Option ℕ) → Some i ≡ first → Some i ≡ or_else first other
first_counts i first other is = subst (λ (o : Option ℕ). Some i ≡ or_else o other) is refl

-- nor without
only_without : (scripts : List (List ℕ)) (name : List ℕ) (ignore : Bool) → alike_in name scripts ≡ None
    → ignore ≡ true → alike_in (bare name) scripts ≡ None
    → alike_to ignore scripts name ≡ only_alike name scripts
only_without scripts name ignore none is none_bare =
    without scripts name ignore none is ∙ or_else_none (alike_in (bare name) scripts) _ none_bare

none_only : (scripts : List (List ℕ)) (name : List ℕ) → map bare scripts ≡ scripts
    → alike_in (bare name) scripts ≡ None → only_alike name scripts ≡ None
none_only scripts name are none = none_sole (length scripts) _ _ (ap (alike_in (bare name)) are ∙ none)

pub returns-in-Some-keyed-clause-value : goal.returns-in-Some-keyed-clause-value
returns-in-Some-keyed-clause-value c = λ scripts is.
    let name = c.args.name.now in
    let table = c.in_ok-add_keys.ensures.table scripts is in
    let ignored : c.args.ignore_query ≡ true = grind (arith, c.if-not-ignore_query.false) in
    let other : alike_in name scripts ≡ None =
    ap (keyed scripts) (sym (c.deref.ensures.value ∙ c.in_ok-key.ensures))
    ∙ sym (c.in_default.ensures scripts table c.in_ok-add_keys.ensures.keys) in
    let found : Some c.in-Some-keyed.i ≡ alike_in (bare name) scripts =
    c.in-Some-keyed.ensures scripts table c.in_ok-add_keys.ensures.keys
    ∙ ap (keyed scripts) (c.deref-2.ensures.value ∙ c.in_ok-key-2.ensures ∙ ap key_of c.bare.ensures) in
    first_counts c.in-Some-keyed.i (alike_in (bare name) scripts) (only_alike name scripts) found
    ∙ sym (without scripts name c.args.ignore_query other ignored)

pub returns-then-self-clause-value : goal.returns-then-self-clause-value
returns-then-self-clause-value c = λ scripts is.
    let name = c.args.name.now in
    let table = c.in_ok-add_keys.ensures.table scripts is in
    let ignored : c.args.ignore_query ≡ true = grind (arith, c.if-not-ignore_query.false) in
    let other : alike_in name scripts ≡ None =
    ap (keyed scripts) (sym (c.deref.ensures.value ∙ c.in_ok-key.ensures))
    ∙ sym (c.in_default.ensures scripts table c.in_ok-add_keys.ensures.keys) in
    let none : alike_in (bare name) scripts ≡ None =
    ap (keyed scripts) (sym (c.deref-2.ensures.value ∙ c.in_ok-key-2.ensures ∙ ap key_of c.bare.ensures))
    ∙ sym (c.in_default-keyed.ensures scripts table c.in_ok-add_keys.ensures.keys) in
    sym (only_without scripts name c.args.ignore_query other ignored none
    ∙ none_only scripts name (table.are_bare c.if-self.true) none)

pub returns-clause-value : goal.returns-clause-value
returns-clause-value c = λ scripts is.
    let name = c.args.name.now in
    let table = c.in_ok-add_keys.ensures.table scripts is in
    let ignored : c.args.ignore_query ≡ true = grind (arith, c.if-not-ignore_query.false) in
    let other : alike_in name scripts ≡ None =
    ap (keyed scripts) (sym (c.deref.ensures.value ∙ c.in_ok-key.ensures))
    ∙ sym (c.in_default.ensures scripts table c.in_ok-add_keys.ensures.keys) in
    let none : alike_in (bare name) scripts ≡ None =
    ap (keyed scripts) (sym (c.deref-2.ensures.value ∙ c.in_ok-key-2.ensures ∙ ap key_of c.bare.ensures))
    ∙ sym (c.in_default-keyed.ensures scripts table c.in_ok-add_keys.ensures.keys) in
    let key = c.deref-3.ensures.value ∙ c.in_ok-key-2.ensures ∙ ap key_of c.bare.ensures in
    let only = λ (k : List ℕ). sole (length scripts) (first_of k (map key_of (map bare scripts)))
    (first_of k (map key_of (reverse (map bare scripts)))) in
    c.only.ensures scripts (c.in_ok-add_bare_keys.ensures.table scripts table)
    c.in_ok-add_bare_keys.ensures.keys
    ∙ ap only key
    ∙ sym (only_without scripts name c.args.ignore_query other ignored none)
