-- The subcommand that accepted words name is one of those that there are, with the values that it wants. This
-- holds for every command whose subcommands have plain arguments, which is tested by computing.
use Rattle.std.proofs.lemmas.Bool.{or_parts, and_parts, not-true, not-false}
use Rattle.smap_record.proofs.ListLemmas.{all_weaker}
use Rattle.std.proofs.Common.{◌≡◌, ◌∙◌, ℕ, ◌<◌, List, [], ◌∷◌, ◌++◌, length, Bool, true, false, cond}
use Rattle.std.proofs.Common.{Option, Some, None, IfSome, is_some, option_map, refl, sym, ap, subst}
use Rattle.std.proofs.Common.{arith, slice_get, inl, inr, not, ◌||◌, ◌&&◌, if◌then◌else◌, length-append}
use Rattle.std.specs.Prelude.{IsSomeAnd, find, nat_lt, option_and_then, pos}
use Rattle.std.specs.List.{AllByRecursion, list_all, list_any}
use Rattle.std.specs.Option.{option_map_or}
use Rattle.std.specs.Str.{bytes_eq}
use Rattle.std.proofs.lemmas.Bool.{ne_eqb}
use Rattle.std.proofs.lemmas.Slice.Eq.{bytes_eq-Decides}
use Rattle.clap.specs.Words.{App, HasMatchesOf, IsParsedFrom, Kinds, Row, Rule, Shape, Text, app_of, built}
use Rattle.clap.specs.Words.{fault_of, first_of, has_subcommand, is_simple, is_simple_and_free, one_of}
use Rattle.clap.specs.Words.{read_as, subcommand_of, subcommand_rows_of}
use Rattle.clap.specs.Facts.{explicit_source, parser_of_value, unwrap_or_range}
use Rattle.clap.specs.Faults.{action_fault, check_fault, entered_fault, level_fault, set_fault, values_fault}
use Rattle.clap.specs.Kinds.{check_kinds, or_else, range_kinds, request_kinds, value_kinds, values_kinds}
use Rattle.clap.specs.Simple.{argument_words, entered, label_of, names_of, rows_at}
use Rattle.clap.specs.Takes.{is_given}
use Rattle.clap.specs.ValueTests.{accepts}
use Rattle.clap.specs.Values.{reading_of}
use Rattle.clap.specs.Walk.{action_of, answers_to, arg_by_id, default_rows, has_row, is_empty, more_values}
use Rattle.clap.specs.Walk.{most_values, nothing_held, reading_by, row_text, rows_after, stop_after, used_as}
use Rattle.clap.specs.Walk.{values_or_missing, with_values, without}
use Rattle.clap.specs.declared.builder.action.ArgAction.{ArgAction}
use Rattle.clap.specs.declared.builder.action.ArgAction.TheVariants.{Help, Set, SetTrue}
use Rattle.clap.specs.declared.builder.command.Command.{Command}
use Rattle.clap.specs.declared.builder.command.Command.TheViews.{out-Command}
use Rattle.clap.specs.declared.builder.value_parser.Reading.{Reading}
use Rattle.clap.specs.declared.builder.value_parser.ValueParser.{ValueParser}
use Rattle.clap.specs.declared.builder.value_parser.ValueParser.TheVariants as vp
use Rattle.clap.specs.declared.parser.matches.ArgMatches.{ArgMatches}
use Rattle.clap.specs.declared.parser.matches.ArgMatches.TheViews.{out-ArgMatches}
use Rattle.clap.specs.declared.parser.matches.ValueSource.{ValueSource}
use Rattle.clap.specs.declared.parser.matches.ValueSource.TheVariants.{CommandLine, DefaultValue}
use Rattle.clap.specs.declared.error.kind.ErrorKind.TheVariants as kind
use Rattle.clap.proofs.CallerLemmas.{subcommand_required}
use Rattle.clap.proofs.OnLiterals.{clap_on_literals}
use Rattle.clap.proofs.ValueTestLemmas.{accepts-Accepts}
use Rattle.smap_tool.specs.Commands.{IsCommand, smap}
use Rattle.smap_tool.specs.Words.{HasValues, IsGivenAs, IsGivenIf, IsOneOf}
use Rattle.smap_tool.proofs.RowLemmas.{Keeps, KeepsByDefault, found_holds, level-keeps, none_of}

-- ---- truth values, and what a search finds

some_and : {X : Type 0} (P : X → Type 0) (o : Option X) → is_some o ≡ true → IfSome o P → IsSomeAnd o P
some_and P None is h = absurd cc
some_and P (Some x) is h = h

mapped_some : {X Y : Type 0} (f : X → Y) (o : Option X) → is_some o ≡ true → is_some (option_map f o) ≡ true
mapped_some f o is = grind arith

-- what is found holds the fact, and passes the test
found_passes : {X : Type 0} (P : X → Type 0) (test : X → Bool) (xs : List X) → AllByRecursion P xs
    → IfSome (find test xs) (λ x. P x × (test x ≡ true))
found_passes P test [] all = tt
found_passes P test (x ∷ xs) all =
    elim (test x) as (λ b. test x ≡ b → IfSome (cond b (Some x) (find test xs))
    (λ x. P x × (test x ≡ true))) [
      | true ↦ λ e. (all.0, e)
      | false ↦ λ e. found_passes P test xs all.1
    ] refl

-- ---- plain arguments

-- a use without a value is refused, or one stands for it
abbrev always_has_value : Rule → Bool
always_has_value a = not (is_empty a.missing) || nat_lt 0 (unwrap_or_range a.range).start_inclusive

-- an argument with a value, a flag, or one that asks for help
abbrev is_plain_as : ArgAction → Rule → Bool
is_plain_as Set a = always_has_value a
is_plain_as SetTrue a = always_has_value a
is_plain_as Help a = true
is_plain_as action a = false

abbrev is_plain_rule : Rule → Bool
is_plain_rule a = is_plain_as (action_of a) a

-- no two have the same id
abbrev are_distinct : List Rule → Bool
are_distinct [] = true
are_distinct (a ∷ rest) = not (list_any (λ b. bytes_eq a.id b.id) rest) && are_distinct rest

abbrev is_plain_level : Shape → Bool
is_plain_level s = list_all is_plain_rule s.rules && are_distinct s.rules

-- the argument is the one that its id finds
abbrev IsOwn : List Rule → Rule → Type 0
IsOwn c a = arg_by_id c a.id ≡ Some a

own_below : (a : Rule) (c rest : List Rule) → list_any (λ b. bytes_eq a.id b.id) rest ≡ false
    → AllByRecursion (IsOwn c) rest → AllByRecursion (IsOwn (a ∷ c)) rest
own_below a c [] e all = tt
own_below a c (b ∷ rest) e all =
    let parts = or_parts (bytes_eq a.id b.id) (list_any (λ x. bytes_eq a.id x.id) rest) e in (
      rw parts.0 all.0,
      own_below a c rest parts.1 all.1,
    )

all_own : (c : List Rule) → are_distinct c ≡ true → AllByRecursion (IsOwn c) c
all_own [] e = tt
all_own (a ∷ rest) e =
    let parts = and_parts (not (list_any (λ b. bytes_eq a.id b.id) rest)) (are_distinct rest) e in
    let same : bytes_eq a.id a.id ≡ true = (bytes_eq-Decides a.id a.id).1 refl in (
      rw same refl,
      own_below a rest rest (not-true _ parts.0) (all_own rest parts.1),
    )

-- ---- values that passed

-- the row has a value, each of its values passed the rule, and they are read as the rule says
record Passed (a : Rule) (r : Row) : Type 0 where
  pub some : 0 < length r.values
  pub pass : values_fault a r.values ≡ []
  pub reading : r.reading ≡ reading_by a

-- the row passed the rule of its id
abbrev IsGood : List Rule → Row → Type 0
IsGood c r = IfSome (arg_by_id c r.id) (λ a. Passed a r)

abbrev AllGood : List Rule → List Row → Type 0
AllGood c = AllByRecursion (IsGood c)

both_pass : (i : Bool) (p : ValueParser) (vs ws : List Text) → values_kinds i p vs ≡ []
    → values_kinds i p ws ≡ [] → values_kinds i p (vs ++ ws) ≡ []
both_pass i p [] ws e f = f
both_pass i p (v ∷ vs) ws e f =
    let both = none_of (value_kinds i p v) (values_kinds i p vs) e in
    rw both.0 (both_pass i p vs ws both.1 f)

without_good : (c : List Rule) (id : Text) (rows : List Row) → AllGood c rows → AllGood c (without id rows)
without_good c id [] all = tt
without_good c id (r ∷ rs) all = elim (bytes_eq r.id id) as (λ b. AllGood c
    (if b then [] ++ rs else r ∷ without id rs)) [
      | true ↦ all.1
      | false ↦ (all.0, without_good c id rs all.1)
    ]

-- ---- rows stay good

module _ (c : List Rule) (a : Rule) (own : IsOwn c a) where
  good_here : (r : Row) → r.id ≡ a.id → Passed a r → IsGood c r
  good_here r same passed =
      let by_id : arg_by_id c r.id ≡ Some a = ap (arg_by_id c) same ∙ own in
      subst (λ (o : Option Rule). IfSome o (λ b. Passed b r)) (sym by_id) passed

  passed_here : (r : Row) → r.id ≡ a.id → IsGood c r → Passed a r
  passed_here r same good =
      let by_id : arg_by_id c r.id ≡ Some a = ap (arg_by_id c) same ∙ own in
      subst (λ (o : Option Rule). IfSome o (λ b. Passed b r)) by_id good

  more_good : (s : ValueSource) (values : List Text) (r : Row) (rs : List Row) → values_fault a values ≡ []
      → bytes_eq r.id a.id ≡ true → IsGood c r → AllGood c rs
      → AllGood c (more_values s values r ++ rs)
  more_good s values r rs pass same good all =
      let id : r.id ≡ a.id = (bytes_eq-Decides r.id a.id).0 same in
      let old = passed_here r id good in (
        good_here _ id (record {
          some = omega (arith, length-append r.values values, old.some);
          pass = both_pass a.ignore_case (parser_of_value a.parser) r.values values old.pass pass;
          reading = old.reading;
        }),
        all,
      )

  put_good : (s : ValueSource) (values : List Text) (rows : List Row) → 0 < length values
      → values_fault a values ≡ [] → AllGood c rows
      → AllGood c (with_values a.id (reading_by a) s values rows)
  put_good s values [] some pass all = (
    good_here _ refl (record
        { some = some; pass = pass; reading = refl }),
    tt,
  )
  put_good s values (r ∷ rs) some pass all =
      elim (bytes_eq r.id a.id) as (λ b. bytes_eq r.id a.id ≡ b
      → AllGood c (if b then more_values s values r ++ rs else r ∷ with_values a.id (reading_by a) s
      values rs)) [
        | true ↦ λ e. more_good s values r rs pass e all.0 all.1
        | false ↦ λ e. (all.0, put_good s values rs some pass all.1)
      ] refl

  some_missing : (missing : List Text) (least most : ℕ) → (not (is_empty missing) || nat_lt 0 least) ≡ true
      → range_kinds least most 0 ≡ [] → 0 < length missing
  some_missing (t ∷ ts) least most is e = omega arith
  some_missing [] least most is e =
      let bad : kind.InvalidValue ∷ [] ≡ [] = rw is at e in
      absurd cc

  some_value : (values : List Text) → always_has_value a ≡ true
      → range_kinds (unwrap_or_range a.range).start_inclusive (most_values a) (length values) ≡ []
      → 0 < length (values_or_missing a values)
  some_value [] is e = some_missing a.missing (unwrap_or_range a.range).start_inclusive (most_values a) is e
  some_value (v ∷ vs) is e = omega arith

  -- a use of an argument with a value, or of a flag
  set_good : (again : Bool) (values : List Text) (rows : List Row) → always_has_value a ≡ true
      → or_else (range_kinds (unwrap_or_range a.range).start_inclusive (most_values a) (length values))
      (set_fault again a (values_or_missing a values) rows) ≡ []
      → AllGood c rows
      → AllGood c (with_values a.id (reading_by a) CommandLine (values_or_missing a values)
      (without a.id rows))
  set_good again values rows is e all =
      let first = none_of (range_kinds (unwrap_or_range a.range).start_inclusive (most_values a)
      (length values)) _ e in
      let second = none_of _ (values_fault a (values_or_missing a values)) first.1 in
      put_good CommandLine (values_or_missing a values) (without a.id rows) (some_value values is first.0)
      second.1 (without_good c a.id rows all)

  keeps_as : (action : ArgAction) → is_plain_as action a ≡ true
      → (again : Bool) (values : List Text) (rows : List Row)
      → or_else (range_kinds (unwrap_or_range a.range).start_inclusive (most_values a) (length values))
      (action_fault action again a (values_or_missing a values) rows) ≡ []
      → AllGood c rows
      → AllGood c (used_as action a.id (reading_by a) (values_or_missing a values) rows)
  keeps_as Set is again values rows e all = set_good again values rows is e all
  keeps_as SetTrue is again values rows e all = set_good again values rows is e all
  keeps_as Help is again values rows e all = all
  keeps_as action is again values rows e all = absurd cc

  rule_keeps : (again : Bool) → is_plain_rule a ≡ true → Keeps again (AllGood c) a
  rule_keeps again is values rows e all = keeps_as (action_of a) is again values rows e all

  default_keeps : KeepsByDefault (AllGood c) a
  default_keeps rows e all = go a.defaults (has_row a.id rows) e
    where
      go : (defaults : List Text) (b : Bool)
          → (if b || is_empty defaults then [] else or_else (request_kinds (action_of a))
          (values_fault a defaults)) ≡ []
          → AllGood c (if b then rows else default_rows a.id (reading_by a) defaults rows)
      go defaults true f = all
      go [] false f = all
      go (v ∷ vs) false f =
          let some : is_empty (v ∷ vs) ≡ false = ne_eqb (length (v ∷ vs)) 0 (λ none. omega arith) in
          let parts = none_of (request_kinds (action_of a)) (values_fault a (v ∷ vs)) (rw some at f) in
          put_good DefaultValue (v ∷ vs) rows (omega arith) parts.1 all

all_keep : (c : List Rule) (again : Bool) (rules : List Rule) → AllByRecursion (IsOwn c) rules
    → list_all is_plain_rule rules ≡ true
    → AllByRecursion (Keeps again (AllGood c)) rules × AllByRecursion (KeepsByDefault (AllGood c)) rules
all_keep c again [] own is = (tt, tt)
all_keep c again (a ∷ rest) own is =
    let parts = and_parts (is_plain_rule a) (list_all is_plain_rule rest) is in
    let below = all_keep c again rest own.1 parts.1 in (
      (rule_keeps c a own.0 again parts.0, below.0),
      (default_keeps c a own.0, below.1),
    )

-- ---- a level without a fault

third_fails : (a b c : Bool) → check_kinds a b c ≡ [] → c ≡ false
third_fails a b c e = grind arith

unless_negated : (n x : Bool) → (not (n && false) && x) ≡ false → x ≡ false
unless_negated n x e = grind arith

-- the arguments that are wanted are there
wanted_given : (s : Shape) (rows : List Row) → check_fault s rows false ≡ []
    → list_any (λ a. a.required && not (is_given a.id rows)) s.rules ≡ false
wanted_given s rows e = unless_negated s.subcommand_negates_reqs _ (third_fails _ _ _ e)

-- ---- what a row gives

value_passed : (i : Bool) (p : ValueParser) (v : Text) → value_kinds i p v ≡ [] → accepts i p v ≡ true
value_passed i p v e = grind arith

-- a first value, which passed the rule, and is read as the rule says
abbrev HasRowText : Rule → Row → Type 0
HasRowText a r = (t : Text) × (slice_get r.values 0 ≡ Some t) × (row_text r ≡ Some (read_as (reading_by a) t))
    × (accepts a.ignore_case (parser_of_value a.parser) t ≡ true)

first_gives : (a : Rule) (how : Reading) (vs : List Text) → 0 < length vs → values_fault a vs ≡ []
    → how ≡ reading_by a
    → (t : Text) × (slice_get vs 0 ≡ Some t) × (option_map (read_as how) (slice_get vs 0) ≡ Some
    (read_as (reading_by a) t)) × (accepts a.ignore_case (parser_of_value a.parser) t ≡ true)
first_gives a how [] some pass is = absurd (omega arith)
first_gives a how (v ∷ vs) some pass is = (
  v,
  refl,
  ap (λ (h : Reading). Some (read_as h v)) is,
  value_passed a.ignore_case
      (parser_of_value a.parser) v (none_of _ _ pass).0,
)

row_has_text : (a : Rule) (r : Row) → Passed a r → HasRowText a r
row_has_text a r passed = first_gives a r.reading r.values passed.some passed.pass passed.reading

-- what the rows give of an argument that is there
abbrev Gives : Bool → Option ValueParser → Text → List Row → Type 0
Gives i p id rows = (t : Text) × (first_of id rows ≡ Some t) × (one_of id rows ≡ Some
    (read_as (reading_of (parser_of_value p)) t)) × (accepts i (parser_of_value p) t ≡ true)

given_gives : (c : List Rule) (a : Rule) → IsOwn c a → (rows : List Row) → AllGood c rows
    → is_given a.id rows ≡ true → Gives a.ignore_case a.parser a.id rows
given_gives c a own rows all given = go (find test rows) (found_passes (IsGood c) test rows all) given
  where
    test : Row → Bool
    test r = bytes_eq r.id a.id

    go : (o : Option Row) → IfSome o (λ r. IsGood c r × (test r ≡ true))
        → option_map_or (λ r. explicit_source r.source) o false ≡ true
        → (t : Text) × (option_and_then (λ r. slice_get r.values 0) o ≡ Some t)
        × (option_and_then row_text o ≡ Some (read_as (reading_by a) t))
        × (accepts a.ignore_case (parser_of_value a.parser) t ≡ true)
    go None h e = absurd cc
    go (Some r) h e = row_has_text a r (passed_here c a own r ((bytes_eq-Decides r.id a.id).0 h.1) h.0)

-- such a value is one that the parser wants
given_as : (i : Bool) (p : Option ValueParser) (id : Text) (rows : List Row) → Gives i p id rows
    → IsGivenAs p rows id
given_as i (Some (vp.Signed (pos low) high)) id rows g =
    (g.0, g.2, accepts-Accepts i (vp.Signed (pos low) high) g.0 g.3)
given_as i p id rows g = rw g.1 refl

given_if : (c : List Rule) (a : Rule) → IsOwn c a → (rows : List Row) → AllGood c rows
    → (required : Bool) → (required && not (is_given a.id rows)) ≡ false → IsGivenIf required a rows
given_if c a own rows all true e =
    given_as a.ignore_case a.parser a.id rows (given_gives c a own rows all (not-false _ e))
given_if c a own rows all false e = tt

values_given : (c rules : List Rule) → AllByRecursion (IsOwn c) rules → (rows : List Row) → AllGood c rows
    → list_any (λ a. a.required && not (is_given a.id rows)) rules ≡ false → HasValues rules rows
values_given c [] own rows all e = tt
values_given c (a ∷ rest) own rows all e =
    let parts = or_parts (a.required && not (is_given a.id rows))
    (list_any (λ b. b.required && not (is_given b.id rows)) rest) e in (
      given_if c a own.0 rows all a.required parts.0,
      values_given c rest own.1 rows all parts.1,
    )

-- ---- the commands

level_gives : (s : Shape) (words : List Text) → is_plain_level s ≡ true
    → level_fault s [] nothing_held words false [] ≡ [] → HasValues s.rules (rows_after s.rules [] words)
level_gives s words is e =
    let parts = and_parts (list_all is_plain_rule s.rules) (are_distinct s.rules) is in
    let own = all_own s.rules parts.1 in
    let keep = all_keep s.rules s.args_override_self s.rules own parts.0 in
    let kept = level-keeps s (AllGood s.rules) keep.0 keep.1 [] words e tt in
    values_given s.rules s.rules own (rows_after s.rules [] words) kept.0
    (wanted_given s (rows_after s.rules [] words) kept.1)

-- at words that it takes, the subcommand is one of these, with its values
abbrev IsGoodAmong : List Shape → List Text → Shape → Type 0
IsGoodAmong subs words s = level_fault s [] nothing_held words false [] ≡ [] → IsOneOf subs (rows_at s words)

all_among : (words : List Text) (subs : List Shape) → list_all is_plain_level subs ≡ true
    → AllByRecursion (IsGoodAmong subs words) subs
all_among words [] is = tt
all_among words (s ∷ rest) is =
    let parts = and_parts (is_plain_level s) (list_all is_plain_level rest) is in (
      λ e. inl (refl, level_gives s words parts.0 e),
      all_weaker (IsGoodAmong rest words) (IsGoodAmong (s ∷ rest) words) (λ x good e. inr (good e)) rest
          (all_among words rest parts.1),
    )

entered_among : (subs : List Shape) (words : List Text) (o : Option Shape)
    → IfSome o (IsGoodAmong subs words)
    → option_map_or (λ s. level_fault s [] nothing_held words false []) o [] ≡ []
    → IfSome (option_map (λ s. rows_at s words) o) (IsOneOf subs)
entered_among subs words None good e = tt
entered_among subs words (Some s) good e = good e

below_fault : (w b r : Kinds) → or_else w (or_else b r) ≡ [] → b ≡ []
below_fault w b r e = (none_of b r (none_of w (or_else b r) e).1).0

-- the same, of any such command
module _ (a : App) (is_plain : list_all is_plain_level (built a).subs ≡ true) where
  entered_one : (stop : Option (Text × List Text)) → entered_fault (built a) stop ≡ []
      → IfSome (entered (built a) stop) (IsOneOf (built a).subs)
  entered_one None e = tt
  entered_one (Some p) e =
      let test : Shape → Bool = λ s. answers_to p.0 (label_of s) in
      entered_among (built a).subs p.1 (find test (built a).subs)
      (found_holds (IsGoodAmong (built a).subs p.1) test (built a).subs
      (all_among p.1 (built a).subs is_plain)) e

  named_one : (words : List Text) → fault_of a words ≡ []
      → IfSome (subcommand_of a words) (IsOneOf (built a).subs)
  named_one words e =
      let stop = stop_after (built a).top.rules (names_of (built a)) (argument_words a words) in
      entered_one stop (below_fault _ (entered_fault (built a) stop) _ e)

-- ---- the command line

is_simple_line : is_simple smap ≡ true
unfolding clap_on_literals
is_simple_line = refl

pub is_free_line : is_simple_and_free smap ≡ true
unfolding clap_on_literals
is_free_line = refl

is_plain_line : list_all is_plain_level (built smap).subs ≡ true
unfolding clap_on_literals
is_plain_line = refl

-- What a parse matched is what the definition gives for the words.
pub given_rows : (old : Command) (words : List Text) (m : ArgMatches) → app_of old ≡ smap
    → HasMatchesOf (app_of old) words m → subcommand_rows_of m ≡ subcommand_of smap words
given_rows old words m shape matches =
    (subst (λ (a : App). HasMatchesOf a words m) shape matches is_simple_line).1

-- A parse that succeeded met a command that there is, with its values.
pub met_command : (old : Command) (words : List Text) (m : ArgMatches) → app_of old ≡ smap
    → (out-Command old).has_globals ≡ false
    → IsParsedFrom old m → HasMatchesOf (app_of old) words m
    → (is_simple_and_free (app_of old) ≡ true → fault_of (app_of old) words ≡ [])
    → IsSomeAnd (subcommand_rows_of m) IsCommand
met_command old words m shape local parsed matches kinds =
    let has : has_subcommand m ≡ true = subcommand_required old m parsed local
    (ap (λ (a : App). a.top.subcommand_required) shape) in
    let rows : subcommand_rows_of m ≡ subcommand_of smap words =
    (subst (λ (a : App). HasMatchesOf a words m) shape matches is_simple_line).1 in
    let fault : fault_of smap words ≡ [] = subst (λ (a : App). is_simple_and_free a ≡ true → fault_of a
    words ≡ []) shape kinds is_free_line in
    some_and IsCommand (subcommand_rows_of m) (mapped_some _ (out-ArgMatches m).subcommand has)
    (subst (λ (o : Option (Text × List Row)). IfSome o IsCommand) (sym rows)
    (named_one smap is_plain_line words fault))
