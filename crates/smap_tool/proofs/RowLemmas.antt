-- What holds for the rows of a level whose arguments have no fault: a fact that each use of an argument keeps
-- holds at the end of the walk over the arguments.
use Rattle.std.proofs.Common.{◌≡◌, ℕ, zero, suc, List, [], ◌∷◌, length, Bool, true, false, cond, Option, Some}
use Rattle.std.proofs.Common.{None, IfSome, is_some, refl, drop, ◌&&◌, if◌then◌else◌, not}
use Rattle.std.specs.Prelude.{fold, find, encode_utf8, slice_get}
use Rattle.std.specs.List.{AllByRecursion}
use Rattle.std.specs.Option.{option_map_or}
use Rattle.std.specs.Str.{bytes_eq, chars}
use Rattle.clap.specs.Lexer.{long_of, short_of}
use Rattle.clap.specs.Words.{Kinds, Rule, Row, Shape, Text}
use Rattle.clap.specs.Kinds.{or_else}
use Rattle.clap.specs.Faults.{use_fault, settle_fault, react_fault, option_fault, long_fault, short_fault}
use Rattle.clap.specs.Faults.{bundle_step_fault, flags_fault, bundle_fault, flag_word_fault, other_fault}
use Rattle.clap.specs.Faults.{word_fault, positional_fault, step_fault, stray_fault, walk_fault}
use Rattle.clap.specs.Faults.{default_fault, defaults_fault, check_fault, level_fault}
use Rattle.clap.specs.Walk.{Held, Names, Outcome, Step, Waiting, Walk, used, used_by_id, settled_rows}
use Rattle.clap.specs.Walk.{settled, reacted, pushed, takes_values, has_long, has_short, arg_by_id}
use Rattle.clap.specs.Walk.{arg_by_long, arg_by_short, arg_by_index, option_met, flag_met, long_met}
use Rattle.clap.specs.Walk.{short_met, bundle_step, bundle_met, option_word, plain_word, after_flag, bundle}
use Rattle.clap.specs.Walk.{short_or_plain, long_or_other, subcommand_or_other, subcommand_met, word_met}
use Rattle.clap.specs.Walk.{is_pending, takes_several, to_positional, after_step, walked_from, walked}
use Rattle.clap.specs.Walk.{walk_from, walk, with_default, finished, nothing_held, rows_after, attached_value}
use Rattle.clap.specs.Walk.{option, idle, positional, done, waits, plain, refused, next, trailing, subcommand}
use Rattle.clap.specs.Walk.{value}
use Rattle.clap.specs.declared.error.kind.ErrorKind.TheVariants as kind

-- ---- faults in turn, and what a search finds

pub none_of : (a b : Kinds) → or_else a b ≡ [] → (a ≡ []) × (b ≡ [])
none_of [] b e = (refl, e)
none_of (k ∷ ks) b e = absurd cc

pub found_holds : {X : Type 0} (P : X → Type 0) (test : X → Bool) (xs : List X) → AllByRecursion P xs
    → IfSome (find test xs) P
found_holds P test [] all = tt
found_holds P test (x ∷ xs) all =
    elim (test x) as (λ b. IfSome (cond b (Some x) (find test xs)) P)
    [ true ↦ all.0 | false ↦ found_holds P test xs all.1 ]

-- ---- what a rule keeps

-- a use of the argument that has no fault keeps the fact
abbrev pub Keeps : Bool → (List Row → Type 0) → Rule → Type 0
Keeps again P a = (values : List Text) (rows : List Row) → use_fault again a values rows ≡ [] → P rows
    → P (used a values rows)

-- its default values keep it too
abbrev pub KeepsByDefault : (List Row → Type 0) → Rule → Type 0
KeepsByDefault P a = (rows : List Row) → default_fault rows a ≡ [] → P rows → P (with_default rows a)

-- ---- the walk

module _ (s : Shape) (P : List Row → Type 0) (uses : AllByRecursion (Keeps s.args_override_self P) s.rules)
  where
    abbrev again : Bool
    again = s.args_override_self

    abbrev c : List Rule
    c = s.rules

    abbrev K : Rule → Type 0
    K = Keeps s.args_override_self P

    by_id : (id : Text) → IfSome (arg_by_id c id) K
    by_id id = found_holds K (λ a. bytes_eq a.id id) c uses

    by_long : (name : Text) → IfSome (arg_by_long c name) K
    by_long name = found_holds K (λ a. not (is_some a.index) && has_long a name) c uses

    by_short : (x : ℕ) → IfSome (arg_by_short c x) K
    by_short x = found_holds K (λ a. not (is_some a.index) && has_short a x) c uses

    used-keeps : (o : Option Rule) → IfSome o K → (values : List Text) (rows : List Row)
        → option_map_or (λ a. use_fault again a values rows) o [] ≡ [] → P rows → P (used_by_id o values rows)
    used-keeps None k values rows e p = p
    used-keeps (Some a) k values rows e p = k values rows e p

    pending-keeps : (o : Option (Text × List Text)) (rows : List Row)
        → option_map_or (λ q. option_map_or (λ a. use_fault again a q.1 rows) (arg_by_id c q.0) []) o [] ≡ []
        → P rows → P (settled_rows c o rows)
    pending-keeps None rows e p = p
    pending-keeps (Some q) rows e p = used-keeps (arg_by_id c q.0) (by_id q.0) q.1 rows e p

    settled-keeps : (h : Held) → settle_fault c again h ≡ [] → P h.rows → P (settled c h).rows
    settled-keeps h e p = pending-keeps h.pending h.rows e p

    reacted-keeps : (a : Rule) → K a → (values : List Text) (h : Held) → react_fault c again a values h ≡ []
        → P h.rows → P (reacted c a values h).rows
    reacted-keeps a k values h e p =
        let both = none_of (settle_fault c again h) (use_fault again a values (settled c h).rows) e in
        k values (settled c h).rows both.1 (settled-keeps h both.0 p)

    option_met-keeps : (a : Rule) → K a → (v : Option Text) (h : Held) → option_fault c again a v h ≡ []
        → P h.rows → P (option_met c a v h).0.rows
    option_met-keeps a k (Some v) h e p = reacted-keeps a k (v ∷ []) h e p
    option_met-keeps a k None h e p = settled-keeps h e p

    flag_met-keeps : (a : Rule) → K a → (v : Option Text) (h : Held)
        → (if is_some v then kind.TooManyValues ∷ [] else react_fault c again a [] h) ≡ []
        → P h.rows → P (flag_met c a v h).0.rows
    flag_met-keeps a k (Some v) h e p = p
    flag_met-keeps a k None h e p = reacted-keeps a k [] h e p

    long_some-keeps : (b : Bool) (a : Rule) → K a → (v : Option Text) (h : Held)
        → (if b then option_fault c again a v h else (if is_some v then kind.TooManyValues ∷ []
        else react_fault c again a [] h)) ≡ []
        → P h.rows → P (if b then option_met c a v h else flag_met c a v h).0.rows
    long_some-keeps true a k v h e p = option_met-keeps a k v h e p
    long_some-keeps false a k v h e p = flag_met-keeps a k v h e p

    long_met-keeps : (o : Option Rule) → IfSome o K → (v : Option Text) (h : Held)
        → long_fault c again o v h ≡ [] → P h.rows → P (long_met c o v h).0.rows
    long_met-keeps None k v h e p = p
    long_met-keeps (Some a) k v h e p = long_some-keeps (takes_values a) a k v h e p

    -- a step on what is held keeps the fact where it has no fault
    abbrev KeepsHeld : (Held → Held × Outcome) → (Held → Kinds) → Type 0
    KeepsHeld f g = (h : Held) → g h ≡ [] → P h.rows → P (f h).0.rows

    short_some-keeps : (b : Bool) (a : Rule) → K a
        → (rest : Text) (h : Held) (f : Held → Held × Outcome) (g : Held → Kinds) → KeepsHeld f g
        → (if b then option_fault c again a (attached_value rest) h else or_else (react_fault c again a [] h)
        (g (reacted c a [] h))) ≡ []
        → P h.rows → P (if b then option_met c a (attached_value rest) h else f (reacted c a [] h)).0.rows
    short_some-keeps true a k rest h f g keep e p = option_met-keeps a k (attached_value rest) h e p
    short_some-keeps false a k rest h f g keep e p =
        let both = none_of (react_fault c again a [] h) (g (reacted c a [] h)) e in
        keep (reacted c a [] h) both.1 (reacted-keeps a k [] h both.0 p)

    short_met-keeps : (o : Option Rule) → IfSome o K
        → (rest : Text) (h : Held) (f : Held → Held × Outcome) (g : Held → Kinds) → KeepsHeld f g
        → short_fault c again o rest h g ≡ [] → P h.rows → P (short_met c o rest h f).0.rows
    short_met-keeps None k rest h f g keep e p = p
    short_met-keeps (Some a) k rest h f g keep e p = short_some-keeps (takes_values a) a k rest h f g keep e p

    bundle_step-keeps : (o : Option ℕ) (flags : Text) (skip : ℕ) (so_far : Outcome) (h : Held)
        (f : Text → ℕ → Outcome → Held → Held × Outcome) (g : Text → ℕ → Held → Kinds)
        → ((text : Text) (k : ℕ) (so : Outcome) → KeepsHeld (f text k so) (g text k))
        → bundle_step_fault c again o flags skip h g ≡ []
        → P h.rows → P (bundle_step c o flags skip so_far h f).0.rows
    bundle_step-keeps None flags skip so_far h f g keep e p = p
    bundle_step-keeps (Some x) flags zero so_far h f g keep e p =
        let rest = drop (length (encode_utf8 x)) flags in
        short_met-keeps (arg_by_short c x) (by_short x) rest h (f rest 0 done) (g rest 0) (keep rest 0 done) e
        p
    bundle_step-keeps (Some x) flags (suc skip) so_far h f g keep e p = keep
        (drop (length (encode_utf8 x)) flags) skip so_far h e p

    bundle_met-keeps : (k : ℕ) (flags : Text) (skip : ℕ) (so_far : Outcome) (h : Held)
        → flags_fault c again k flags skip h ≡ [] → P h.rows → P (bundle_met c k flags skip so_far h).0.rows
    unfolding bundle_met flags_fault
    bundle_met-keeps zero flags skip so_far h e p = p
    bundle_met-keeps (suc k) flags skip so_far h e p =
        bundle_step-keeps (slice_get (chars flags) 0) flags skip so_far h (bundle_met c k)
        (flags_fault c again k) (λ text i so g e_g p_g. bundle_met-keeps k text i so g e_g p_g) e p

    option_word-keeps : (o : Option Rule) (id word : Text) (h : Held) → P h.rows
        → P (option_word o id word h).0.rows
    option_word-keeps None id word h p = p
    option_word-keeps (Some a) id word h p = p

    plain_word-keeps : (waiting : Waiting) (word : Text) (h : Held) → P h.rows
        → P (plain_word c waiting word h).0.rows
    plain_word-keeps idle word h p = p
    plain_word-keeps (option id) word h p = option_word-keeps (arg_by_id c id) id word h p
    plain_word-keeps positional word h p = p

    after_flag-keeps : (waiting : Waiting) (word : Text) (h : Held) (o : Outcome) → P h.rows
        → P (after_flag c waiting word h o).0.rows
    after_flag-keeps waiting word h done p = p
    after_flag-keeps waiting word h (waits id) p = p
    after_flag-keeps waiting word h plain p = plain_word-keeps waiting word h p
    after_flag-keeps waiting word h refused p = plain_word-keeps waiting word h p

    short_or_plain-keeps : (waiting : Waiting) (word : Text) (o : Option Text) (h : Held)
        → option_map_or (λ flags. bundle_fault c again flags h) o [] ≡ []
        → P h.rows → P (short_or_plain c waiting word o h).0.rows
    short_or_plain-keeps waiting word (Some flags) h e p =
        after_flag-keeps waiting word (bundle c flags h).0 (bundle c flags h).1
        (bundle_met-keeps (length flags) flags h.skip plain (record h { skip = 0 }) e p)
    short_or_plain-keeps waiting word None h e p = plain_word-keeps waiting word h p

    long_or_other-keeps : (waiting : Waiting) (word : Text) (o : Option (Text × Option Text)) (h : Held)
        → flag_word_fault c again o word h ≡ []
        → P h.rows → P (long_or_other c waiting word o h).0.rows
    long_or_other-keeps waiting word (Some q) h e p =
        after_flag-keeps waiting word (long_met c (arg_by_long c q.0) q.1 h).0
        (long_met c (arg_by_long c q.0) q.1 h).1
        (long_met-keeps (arg_by_long c q.0) (by_long q.0) q.1 h e p)
    long_or_other-keeps waiting word None h e p = short_or_plain-keeps waiting word (short_of word) h e p

    other-keeps : (o : Option Text) (waiting : Waiting) (position : ℕ) (word : Text) (h : Held)
        → other_fault s o word h ≡ []
        → P h.rows → P (subcommand_or_other c o waiting position word h).0.rows
    other-keeps (Some name) waiting position word h e p = p
    other-keeps None waiting position word h e p =
        elim (bytes_eq word (45 ∷ 45 ∷ [])) as (λ b. (if b then [] else flag_word_fault c again (long_of word)
        word h) ≡ [] → P (if b then (h, trailing position) else long_or_other c waiting word
        (long_of word) h).0.rows) [
          | true ↦ λ f. p
          | false ↦ λ f. long_or_other-keeps waiting word (long_of word) h f p
        ] e

    word_met-keeps : (names : Names) (is_trailing : Bool) (waiting : Waiting) (position : ℕ) (word : Text)
        (h : Held) → word_fault s names is_trailing waiting word h ≡ []
        → P h.rows → P (word_met c names is_trailing waiting position word h).0.rows
    word_met-keeps names true waiting position word h e p = p
    word_met-keeps names false waiting position word h e p = other-keeps (subcommand_met names waiting word)
        waiting position word h e p

    to_positional-keeps : (o : Option Rule) (word : Text) (w : Walk) (h : Held)
        → option_map_or (λ a. positional_fault c again a h) o (stray_fault s) ≡ []
        → P h.rows → P (to_positional c o word w h).held.rows
    to_positional-keeps None word w h e p = p
    to_positional-keeps (Some a) word w h e p =
        elim (is_pending a h.pending && takes_several a) as (λ b. (if b then [] else settle_fault c again h)
        ≡ [] → P (pushed a.id word (if b then h else settled c h)).rows) [
          | true ↦ λ f. p
          | false ↦ λ f. settled-keeps h f p
        ] e

    after_step-keeps : (word : Text) (w : Walk) (h : Held) (step : Step) → step_fault s w.position h step ≡ []
        → P h.rows → P (after_step c word w h step).held.rows
    after_step-keeps word w h (next waiting) e p = p
    after_step-keeps word w h (trailing position) e p = p
    after_step-keeps word w h (subcommand name) e p = p
    after_step-keeps word w h value e p = to_positional-keeps (arg_by_index c w.position) word w h e p

    abbrev met : Names → Walk → Text → Held × Step
    met names w word = word_met c names w.is_trailing w.waiting w.position word w.held

    walked_from-keeps : (names : Names) (o : Option (Text × List Text)) (w : Walk) (word : Text)
        → (if is_some o then [] else or_else (word_fault s names w.is_trailing w.waiting word w.held)
        (step_fault s w.position (met names w word).0 (met names w word).1)) ≡ []
        → P w.held.rows → P (walked_from c names o w word).held.rows
    walked_from-keeps names (Some q) w word e p = p
    walked_from-keeps names None w word e p =
        let both = none_of (word_fault s names w.is_trailing w.waiting word w.held)
        (step_fault s w.position (met names w word).0 (met names w word).1) e in
        after_step-keeps word w (met names w word).0 (met names w word).1 both.1
        (word_met-keeps names w.is_trailing w.waiting w.position word w.held both.0 p)

    walked-keeps : (names : Names) (w : Walk) (word : Text)
        → (if is_some w.stopped then [] else or_else (word_fault s names w.is_trailing w.waiting word w.held)
        (step_fault s w.position (met names w word).0 (met names w word).1)) ≡ []
        → P w.held.rows → P (walked c names w word).held.rows
    unfolding walked
    walked-keeps names w word e p = walked_from-keeps names w.stopped w word e p

    walk-keeps : (names : Names) (words : List Text) (w : Walk) → walk_fault s names w words ≡ []
        → P w.held.rows → P (fold (walked c names) w words).held.rows
    unfolding walk_fault
    walk-keeps names [] w e p = p
    walk-keeps names (word ∷ words) w e p =
        let both = none_of _ (walk_fault s names (walked c names w word) words) e in
        walk-keeps names words (walked c names w word) both.1 (walked-keeps names w word both.0 p)

    defaults-keep : (rules : List Rule) → AllByRecursion (KeepsByDefault P) rules → (rows : List Row)
        → defaults_fault rows rules ≡ [] → P rows → P (fold with_default rows rules)
    unfolding defaults_fault
    defaults-keep [] all rows e p = p
    defaults-keep (a ∷ rules) all rows e p =
        let both = none_of (default_fault rows a) (defaults_fault (with_default rows a) rules) e in
        defaults-keep rules all.1 (with_default rows a) both.1 (all.0 rows both.0 p)

    abbrev end : Names → List Text → Held
    end names words = (walk c names nothing_held words).held

    -- at a level without a fault the fact stands at the end, and the last checks found nothing
    pub level-keeps : AllByRecursion (KeepsByDefault P) s.rules → (names : Names) (words : List Text)
        → level_fault s names nothing_held words false [] ≡ [] → P []
        → P (rows_after s.rules names words) × (check_fault s (rows_after s.rules names words) false ≡ [])
    level-keeps defaults names words e p =
        let first = none_of (walk_fault s names (walk_from nothing_held) words) _ e in
        let second = none_of (settle_fault c again (end names words)) _ first.1 in
        let third = none_of (defaults_fault (settled c (end names words)).rows c)
        (check_fault s (finished c (end names words)) false) second.1 in
        let walked = walk-keeps names words (walk_from nothing_held) first.0 p in (
          defaults-keep c defaults (settled c (end names words)).rows third.0
              (settled-keeps (end names words) second.0 walked),
          third.1,
        )
