-- Widths of the sources of a map.
use Rattle.std.proofs.Common.{◌≡◌, ℕ, ◌+◌, ◌++◌, ◌∷◌, [], List, map, take, slice_get, Some, None, option_map}
use Rattle.std.proofs.Common.{Option, refl, ◌∙◌, sym, ap}
use Rattle.std.proofs.lemmas.Option.{slice_get-map, slice_get_within, get_or_from_slice_get}
use Rattle.std.proofs.lemmas.List.{take_more, map-append}
use Rattle.smap_record.specs.Record.{Entry, Mapping, ReadMap, record_of}
use Rattle.smap_lint_rules.specs.Contents.{AreWidths, entry_widths, lines_in, leads_past}
use Rattle.smap_lint_rules.specs.Contents.{is_past, is_past_source}
use Rattle.smap_record.specs.Views.{entry_of_view, mapping_of_view}
use Rattle.smap_record.specs.declared.view.TokenView.{TokenView}
use Rattle.smap_record.specs.declared.view.OriginalView.{OriginalView}
use Rattle.smap_lint_rules.specs.declared.contents.Widths.{Widths}

not_none : (x : Option (List ℕ)) → None ≡ Some x → ⊥
not_none x e = cc

is_some_of : (a b : Option (List ℕ)) → Some a ≡ Some b → a ≡ b
is_some_of a b e = cc

pub widths_at : (m : ReadMap) (ws : List Widths) (n : ℕ) (e : Entry) → AreWidths m ws
    → slice_get (record_of m).sources n ≡ Some e
    → option_map lines_in (slice_get ws n) ≡ Some (entry_widths e)
widths_at m ws n e same at = sym (slice_get-map lines_in ws n) ∙ ap (λ xs. slice_get xs n) same
    ∙ slice_get-map entry_widths (record_of m).sources n ∙ ap (option_map entry_widths) at

-- one more source
pub next_widths : (all more : List Widths) (w : Widths) (sources : List Entry) (i : ℕ) (e : Entry)
    → more ≡ all ++ w ∷ [] → slice_get sources i ≡ Some e → lines_in w ≡ entry_widths e
    → map lines_in all ≡ map entry_widths (take i sources)
    → map lines_in more ≡ map entry_widths (take (i + 1) sources)
next_widths all more w sources i e new at same before =
    rw (
      new,
      map-append lines_in all (w ∷ []),
      before,
      same,
      take_more sources i e (slice_get_within sources i e at),
      get_or_from_slice_get sources i e e at,
      map-append entry_widths (take i sources) (e ∷ []),
    ) refl

same_past : (q : Option Widths) (x : Option (List ℕ)) (line column : ℕ) → option_map lines_in q ≡ Some x
    → is_past x line column ≡ is_past_source q line column
same_past None x line column e = absurd (not_none x e)
same_past (Some w) x line column e = rw (is_some_of (lines_in w) x e) refl

-- a mapping with an original
pub leads_by : (m : ReadMap) (ws : List Widths) (xs : List Mapping) (i : ℕ) (v : TokenView) (o : OriginalView)
    → AreWidths m ws → slice_get xs i ≡ Some (mapping_of_view v) → v.original ≡ Some o
    → slice_get (record_of m).sources o.source_number ≡ Some (entry_of_view o.source)
    → option_map leads_past (slice_get xs i) ≡ Some (is_past_source
    (slice_get ws o.source_number) o.line o.column)
leads_by m ws xs i v o same at is source = rw (at, is)
    (ap (λ b. Some b) (same_past (slice_get ws o.source_number) (entry_widths
    (entry_of_view o.source)) o.line o.column
    (widths_at m ws o.source_number (entry_of_view o.source) same source)))
