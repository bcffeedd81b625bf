-- What becomes of a map, by what was found.
use Rattle.std.proofs.Common.{◌≡◌, ◌≢◌, ◌∙◌, ◌==◌, ap, refl, sym, ℕ, List, ◌++◌, length, map, not, Bor}
use Rattle.std.proofs.Common.{Bool, Option, Some, Ok, Err, string_bytes, String, Global, Vec, vec_len}
use Rattle.std.proofs.lemmas.List.{length-map}
use Rattle.std.proofs.lemmas.Simd.{map-map}
use Rattle.url.specs.Parts.{Parts}
use Rattle.smap_command_line.specs.declared.maps.words.Rewrite.{Rewrite}
use Rattle.smap_record.specs.Faults.{Checked}
use Rattle.smap_record.specs.Results.{Fails}
use Rattle.smap_record.specs.declared.fault.Fault.{Fault}
use Rattle.smap_record.specs.declared.fault.ReadError.{ReadError}
use Rattle.smap_record.specs.declared.fault.ReadError.TheVariants as error
use Rattle.smap_maps_run.specs.Deciding.{decided}
use Rattle.smap_maps_run.specs.Judging.{IsJudgedFor, IsRefusedFor}
use Rattle.smap_maps_run.specs.Looking.{IsComparedAs, IsDone, drops_of, loses}
use Rattle.smap_maps_run.specs.declared.outcome.Verdict.{Verdict}
use Rattle.smap_maps_run.specs.declared.outcome.Verdict.TheVariants as verdict

-- the names of what is dropped, those of sections behind those of the map
pub both_told : (names one : List (List ℕ)) (own more : List (Bor (List ℕ))) (ahead : List ℕ)
    → names ≡ one ++ map (λ n. ahead ++ n.now) more → one ≡ map (λ n. n.now) own
    → names ≡ map (λ n. n.now) own ++ map (λ n. ahead ++ n) (map (λ n. n.now) more)
both_told names one own more ahead all first =
    all ∙ rw (first, map-map (λ (n : List ℕ). ahead ++ n) (λ (n : Bor (List ℕ)). n.now) more) refl

-- a rewrite drops something exactly where names of that are told
pub told_loss : (names : Vec (String Global) Global) (is_empty : Bool) (old : List ℕ)
    → is_empty ≡ (vec_len names == 0) → map string_bytes names.items ≡ drops_of old
    → not is_empty ≡ loses old
told_loss names is_empty old is told = ap not is ∙ ap (λ n. not (n == 0))
    (names.ok.0 ∙ (sym (length-map names.items (λ (s : String Global). string_bytes s)) ∙ ap length told))

pub compared_so : (expected : Checked (Option (List ℕ))) (rewrite : Rewrite) (base : Parts) (most : ℕ)
    (old new : List ℕ) (drops : List (List ℕ)) (v : Verdict)
    → expected ≡ Ok (Some new) → new ≢ old → drops ≡ drops_of old
    → IsDone (decided rewrite (loses old)) v → IsComparedAs expected rewrite base most old drops v
compared_so expected rewrite base most old new drops verdict.Accepted form other told is = is
compared_so expected rewrite base most old new drops verdict.Unchanged form other told is = absurd is
compared_so expected rewrite base most old new drops verdict.Changed form other told is =
    (record { new = new; form = form; other = other; told = told }, is)
compared_so expected rewrite base most old new drops verdict.Kept form other told is =
    (record { new = new; form = form; other = other; told = told }, is)
compared_so expected rewrite base most old new drops verdict.Rewritten form other told is =
    (record { new = new; form = form; other = other; told = told }, is)
compared_so expected rewrite base most old new drops (verdict.Refused why) form other told is = absurd is
compared_so expected rewrite base most old new drops verdict.NotUrl form other told is = is
compared_so expected rewrite base most old new drops (verdict.LongUrls n) form other told is = absurd is
compared_so expected rewrite base most old new drops (verdict.Failed why) form other told is = tt

-- a map that can't be read
refused_so : (expected : Checked (Option (List ℕ))) (rewrite : Rewrite) (base : Parts) (most : ℕ)
    (old : List ℕ) (drops : List (List ℕ)) (fault : Fault) (v : Verdict) → expected ≡ Err fault
    → IsRefusedFor base most old fault v → IsComparedAs expected rewrite base most old drops v
refused_so expected rewrite base most old drops fault verdict.Accepted none is = is
refused_so expected rewrite base most old drops fault verdict.Unchanged none is = absurd is
refused_so expected rewrite base most old drops fault verdict.Changed none is = absurd is
refused_so expected rewrite base most old drops fault verdict.Kept none is = absurd is
refused_so expected rewrite base most old drops fault verdict.Rewritten none is = absurd is
refused_so expected rewrite base most old drops fault (verdict.Refused why) none is = (rw is.0 none, is.1)
refused_so expected rewrite base most old drops fault verdict.NotUrl none is = is
refused_so expected rewrite base most old drops fault (verdict.LongUrls n) none is = absurd is
refused_so expected rewrite base most old drops fault (verdict.Failed why) none is = tt

failed_so : (expected : Checked (Option (List ℕ))) (rewrite : Rewrite) (base : Parts) (most : ℕ)
    (old : List ℕ) (drops : List (List ℕ)) (v : Verdict)
    → IsJudgedFor base most old error.Memory v → IsComparedAs expected rewrite base most old drops v
failed_so expected rewrite base most old drops verdict.Accepted is = is
failed_so expected rewrite base most old drops verdict.Unchanged is = absurd is
failed_so expected rewrite base most old drops verdict.Changed is = absurd is
failed_so expected rewrite base most old drops verdict.Kept is = absurd is
failed_so expected rewrite base most old drops verdict.Rewritten is = absurd is
failed_so expected rewrite base most old drops (verdict.Refused why) is = absurd is
failed_so expected rewrite base most old drops verdict.NotUrl is = is
failed_so expected rewrite base most old drops (verdict.LongUrls n) is = absurd is
failed_so expected rewrite base most old drops (verdict.Failed why) is = tt

pub unread_so : (expected : Checked (Option (List ℕ))) (rewrite : Rewrite) (base : Parts) (most : ℕ)
    (old : List ℕ) (drops : List (List ℕ)) (e : ReadError) (v : Verdict) → Fails e expected
    → IsJudgedFor base most old e v → IsComparedAs expected rewrite base most old drops v
unread_so expected rewrite base most old drops (error.Refused fault) v none is =
    refused_so expected rewrite base most old drops fault v none is
unread_so expected rewrite base most old drops error.Memory v none is =
    failed_so expected rewrite base most old drops v is
