-- What arguments name, one after another.
use Rattle.std.proofs.Common.{◌≡◌, ◌∙◌, ◌⊎◌, ℕ, ◌+◌, List, [], ◌∷◌, ◌++◌, Some, None, Option, arith, inl}
use Rattle.std.proofs.Common.{inr, refl, ap, sym, subst, ◌<◌, get_or, length, take}
use Rattle.std.proofs.lemmas.Bool.{cases_lt}
use Rattle.std.proofs.lemmas.List.{take_more}
use Rattle.smap_system.specs.Held.{Held}
use Rattle.smap_system.specs.Tree.{Told}
use Rattle.smap_command_line.specs.Following.{Follows, IsFirst}
use Rattle.smap_command_line.specs.Order.{ComesBefore, IsSplit}
use Rattle.smap_command_line.specs.Splits.{base_in, split_fault}
use Rattle.smap_command_line.specs.declared.trace.splits.Kind.{Kind}
use Rattle.smap_command_line.specs.declared.trace.splits.Kind.TheVariants.{File, Folder}
use Rattle.smap_command_line.specs.declared.trace.splits.Split.{Split}
use Rattle.smap_command_line.specs.declared.trace.arguments.Argument.{Argument}
use Rattle.smap_map_files.specs.Lists.{Lists, with_map}
use Rattle.smap_map_files.specs.Naming.{IsFirstThere, IsNotThere, IsReadable, Names, NamesAll}
use Rattle.smap_map_files.specs.Naming.{NamesFolder}
use Rattle.smap_map_files.specs.Naming.{NamesWay, file_in}

module _ (told : Told) (held : Held) where
  all_more : (args : List Argument) (a : Argument) (before between after : Lists)
      → NamesAll told held args before between → Names told held a between after
      → NamesAll told held (args ++ a ∷ []) before after
  all_more [] a before between after all one = (after, subst (λ l. Names told held a l after) all one, refl)
  all_more (b ∷ args) a before between after all one =
      (all.0, all.1, all_more args a all.0 between after all.2 one)

  pub argument_more : (args : List Argument) (i : ℕ) (d : Argument) (before between after : Lists)
      → i < length args → NamesAll told held (take i args) before between
      → Names told held (get_or args i d) between after → NamesAll told held (take (i + 1) args) before after
  argument_more args i d before between after lt all one =
      subst (λ those. NamesAll told held those before after) (sym (take_more args i d lt))
      (all_more (take i args) (get_or args i d) before between after all one)

-- ---- one argument

module _ (told : Told) where
  pub way_to_folder : (word url file : List ℕ) (u f : ℕ) (before after : Lists) → IsSplit word u f
      → url ≡ take u word → file ≡ file_in word u f
      → split_fault Folder (take u word) (base_in word f) ≡ None → NamesFolder told url file before after
      → NamesWay told Folder word u f before after
  way_to_folder word url file u f before after split e g fault h = record {
    is_split = split;
    no_fault = fault;
    named = subst (λ x. NamesFolder told x (file_in word u f) before after) e
        (subst (λ x. NamesFolder told url x before after) g h);
  }

  pub way_to_file : (word url file : List ℕ) (base : Option (List ℕ)) (u f : ℕ) (before after : Lists)
      → IsSplit word u f → url ≡ take u word → file ≡ file_in word u f → base ≡ base_in word f
      → split_fault File (take u word) (base_in word f) ≡ None → after ≡ with_map url file base before
      → NamesWay told File word u f before after
  way_to_file word url file base u f before after split e g k fault h = record {
    is_split = split;
    no_fault = fault;
    named = h ∙ ap (λ x. with_map x file base before) e ∙ ap (λ x. with_map (take u word) x base before) g
        ∙ ap (λ x. with_map (take u word) (file_in word u f) x before) k;
  }

-- ---- the ways to read an argument, one after another

-- One of two ways comes before the other, or they are the same.
in_order : (u f v g : ℕ)
    → ComesBefore u f v g ⊎ (((u ≡ v) × (f ≡ g)) ⊎ ComesBefore v g u f)
in_order u f v g = elim (cases_lt u v) [
  | inl lt ↦ inl (inl lt)
  | inr le ↦ elim (cases_lt v u) [
    | inl gt ↦ inr (inr (inl gt))
    | inr ge ↦ by (omega (arith, le, ge))
  ]
]
  where
    by : u ≡ v → ComesBefore u f v g ⊎ (((u ≡ v) × (f ≡ g)) ⊎ ComesBefore v g u f)
    by e = elim (cases_lt g f) [
      | inl lt ↦ inl (inr (e, lt))
      | inr le ↦ elim (cases_lt f g) [
        | inl gt ↦ inr (inr (inr (sym e, gt)))
        | inr ge ↦ inr (inl (e, omega (arith, le, ge)))
      ]
    ]

module _ (told : Told) (held : Held) (word : List ℕ) where
  -- nothing is there for the ways before this one, or for all
  abbrev pub NoneBefore : Option Split → Type 0
  NoneBefore None = (v g : ℕ) → IsSplit word v g → IsNotThere told held (file_in word v g)
  NoneBefore (Some s) = (s.word.now ≡ word) ×
      ((v g : ℕ) → IsSplit word v g → ComesBefore v g s.url_end s.file_end
      → IsNotThere told held (file_in word v g))

  pub none_before_first : (first : Option Split) → IsFirst word first → NoneBefore first
  none_before_first None none = λ v g split. absurd (none v g split)
  none_before_first (Some s) first = (first.0, λ v g split before. absurd (first.1 v g split before))

  -- each way up to this one
  up_to : (s : Split) → NoneBefore (Some s) → IsNotThere told held (file_in word s.url_end s.file_end) →
      (v g : ℕ)
      → IsSplit word v g → (ComesBefore s.url_end s.file_end v g → ⊥) → IsNotThere told held
      (file_in word v g)
  up_to s before none v g split not_behind = elim (in_order v g s.url_end s.file_end) [
    | inl front ↦ before.1 v g split front
    | inr (inl same) ↦ subst (λ w. IsNotThere told held (file_in word w g)) (sym same.0)
        (subst (λ h. IsNotThere told held (file_in word s.url_end h)) (sym same.1) none)
    | inr (inr behind) ↦ absurd (not_behind behind)
  ]

  pub none_before_next : (s : Split) (next : Option Split) → NoneBefore (Some s)
      → IsNotThere told held (file_in word s.url_end s.file_end) → Follows s next → NoneBefore next
  none_before_next s None before none last = λ v g split. up_to s before none v g split
      (λ behind. last v g (subst (λ w. IsSplit w v g) (sym before.0) split) behind)
  none_before_next s (Some next) before none follows = (
    follows.0 ∙ before.0,
    λ v g split front. up_to s before none v g split
        (λ behind. follows.2 v g (subst (λ w. IsSplit w v g) (sym before.0) split) behind front),
  )

  -- what is tried
  pub tried : (found : Option Split) (s : Split) → found ≡ Some s → NoneBefore found → NoneBefore (Some s)
  tried found s is h = subst NoneBefore is h

  pub not_there : (s : Split) (file : List ℕ) → s.word.now ≡ word → file
      ≡ file_in s.word.now s.url_end s.file_end
      → IsNotThere told held file → IsNotThere told held (file_in word s.url_end s.file_end)
  not_there s file e f h = subst (λ w. IsNotThere told held (file_in w s.url_end s.file_end)) e
      (subst (IsNotThere told held) f h)

  pub first_there : (kind : Kind) (s : Split) (file : List ℕ) → NoneBefore (Some s)
      → file ≡ file_in s.word.now s.url_end s.file_end → IsReadable told held kind file
      → IsFirstThere told held kind word s.url_end s.file_end
  first_there kind s file before f there = record {
    there = subst (λ w. IsReadable told held kind (file_in w s.url_end s.file_end)) before.0
        (subst (IsReadable told held kind) f there);
    earlier = before.1;
  }
