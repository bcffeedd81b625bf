-- What opening comes to where the map is refused.
use Rattle.std.proofs.Common.{ℕ, List, Option, Some, None, Result, Ok, Err, ◌≡◌, ◌≤◌, refl, inl, inr}
use Rattle.std.proofs.Common.{length, map, arith, ap, subst, sym, ◌∙◌, ◌<◌, slice_get}
use Rattle.std.specs.Prelude.{option_copied, option_map}
use Rattle.std.proofs.lemmas.List.{length-map}
use Rattle.std.proofs.lemmas.Option.{slice_get-get_or, slice_get-map, slice_get_past}
use Rattle.std.proofs.lemmas.Bool.Decides.{nat_tests}
use Rattle.smap_record.specs.Record.{Allowed, ReadMap, no_entry, record_of}
use Rattle.smap_record.specs.Views.{entry_of_view}
use Rattle.smap_record.specs.declared.view.SourceView.{SourceView}
use Rattle.smap_record.specs.Reading.{reading}
use Rattle.smap_record.specs.UrlBytes.{reading_within, url_bytes}
use Rattle.smap_record.specs.Written.{Spelling, as_written, url_of}
use Rattle.smap_record.specs.declared.fault.Fault.{Fault}
use Rattle.smap_c_answers.specs.Codes as codes
use Rattle.smap_c_answers.specs.Strings.{TextReported}
use Rattle.smap_c.specs.Faults.{ReportsFault}
use Rattle.smap_c.specs.Lists.{SpellingReported, WrittenRootReported, WrittenSourceReported, plain}
use Rattle.url.specs.Parts.{Parts}
use Rattle.url.specs.Parser.{parse_url}
use Rattle.smap_c.specs.Maps.{Opens, OpensAgainst, OpensInto, OpensWithin, OpensIntoWithin, MayOpen, allowed}
use Rattle.smap_c.specs.declared.faults.SmapFault.{SmapFault}
use Rattle.smap_c.specs.declared.maps.SmapLimits.{SmapLimits}
use Rattle.smap_c.specs.declared.opened.Opened.{Opened}
use Rattle.smap_c.specs.declared.maps.OpenFault.{OpenFault}
use Rattle.smap_c.specs.declared.maps.OpenFault.TheVariants as faults

-- the fault is reported, or memory ran out and the answer is that
pub refused_reported : (bytes base : List ℕ) (limits : SmapLimits) (fault : Fault) (map : Option Opened)
    (before after : SmapFault) (code : ℕ) → Opens bytes base limits (Err (faults.Refused fault))
    → ReportsFault fault before after code → OpensInto bytes base limits map map before after code
refused_reported bytes base limits fault map before after code opens (inl reported) =
    (Err (faults.Refused fault), opens, (reported, refl))
refused_reported bytes base limits fault map before after code opens (inr memory) =
    (Err faults.Memory, tt, (memory, refl))

-- the same within a number of bytes
pub refused_reported_within : (bytes base : List ℕ) (limits : SmapLimits) (most : ℕ) (fault : Fault)
    (map : Option Opened) (before after : SmapFault) (code : ℕ)
    → OpensWithin bytes base limits most (Err (faults.Refused fault)) → ReportsFault fault before after code
    → OpensIntoWithin bytes base limits most map map before after code
refused_reported_within bytes base limits most fault map before after code opens (inl reported) =
    (Err (faults.Refused fault), opens, (reported, refl))
refused_reported_within bytes base limits most fault map before after code opens (inr memory) =
    (Err faults.Memory, tt, (memory, refl))

-- what was read within a number of bytes
pub read_within : (p : Parts) (limits : Allowed) (most : ℕ) (bytes : List ℕ) (r : ReadMap)
    → reading_within p limits most bytes ≡ Ok (Some r)
    → (reading p limits bytes ≡ Ok r) × (url_bytes p (as_written bytes) ≤ most)
read_within p limits most bytes r is = grind (arith, nat_tests)

-- what is opened is what was read
pub opened_against : (bytes : List ℕ) (p : Parts) (limits : Allowed) (most : ℕ) (r : ReadMap)
    (ss : List Spelling) (m : Opened) → reading_within p limits most bytes ≡ Ok (Some r)
    → ss ≡ as_written bytes → length ss ≡ length r.listing.sources
    → map (λ e. e.url) r.listing.sources ≡ map (url_of p) ss → m.base.value ≡ p → m.map ≡ r
    → m.written ≡ Some ss
    → OpensAgainst bytes p limits most (Ok (Some m))
opened_against bytes p limits most r ss m is all as_many urls same mapped spelled =
    let read = read_within p limits most bytes r is in (
      same,
      rw (same, mapped) read.0,
      (rw (spelled, all) refl, rw (← all, mapped) as_many, rw (← all, mapped, same) urls),
      rw same read.1,
    )

-- what is opened against the base that the text is, is opened against the text
pub against_text : (bytes base : List ℕ) (limits : SmapLimits) (most : ℕ) (p : Parts)
    (r : Result (Option Opened) OpenFault) → MayOpen base limits → parse_url None base ≡ Ok p
    → OpensAgainst bytes p (allowed limits) most r → OpensWithin bytes base limits most r
against_text bytes base limits most p (Ok (Some m)) may is (same, read, written, fits) =
    ((may, rw same is, read, written), fits)
against_text bytes base limits most p (Ok None) may is more = (p, may, is, more)
against_text bytes base limits most p (Err (faults.Refused f)) may is (read, fits) = (p, may, is, read, fits)
against_text bytes base limits most p (Err faults.NotUrl) may is none = absurd none
against_text bytes base limits most p (Err faults.Limits) may is none = absurd none
against_text bytes base limits most p (Err faults.Memory) may is any = tt

-- the URL of a source stands for the source as it is written, where no text writes it
pub listed_url : (m : ReadMap) (i n : ℕ) (v : SourceView) (before after : List ℕ) (len code : ℕ)
    → slice_get (record_of m).sources n ≡ slice_get m.listing.sources i
    → slice_get (record_of m).sources n ≡ Some (entry_of_view v)
    → TextReported (option_copied v.url) before after len code
    → WrittenSourceReported (map plain m.listing.sources) i before after len code
listed_url m i n v before after len code listed at said =
    subst (λ (s : Option Spelling). SpellingReported (λ t. t.source) s before after len code)
    (sym (slice_get-map plain m.listing.sources i ∙ ap (option_map plain) (sym listed ∙ at))) said

-- there is no root where no text writes the sources
pub no_root : (m : ReadMap) (i : ℕ) (before after : List ℕ) (len code : ℕ) → i < length m.listing.sources
    → TextReported None before after len code
    → WrittenRootReported (map plain m.listing.sources) i before after len code
no_root m i before after len code within said =
    subst (λ (s : Option Spelling). SpellingReported (λ t. t.root) s before after len code)
    (sym (slice_get-map plain m.listing.sources i
    ∙ ap (option_map plain) (slice_get-get_or m.listing.sources i no_entry within))) said

pub no_source : (m : ReadMap) (i : ℕ) (before : List ℕ) → length m.listing.sources ≤ i
    → WrittenRootReported (map plain m.listing.sources) i before before 0 codes.RANGE
no_source m i before past =
    subst (λ (s : Option Spelling). SpellingReported (λ t. t.root) s before before 0 codes.RANGE)
    (sym (slice_get_past (map plain m.listing.sources) i (omega
    (arith, past, length-map m.listing.sources plain)))) (refl, refl, refl)
