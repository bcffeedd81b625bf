-- A path parts behind its last slash, or has none.
use Rattle.std.proofs.Common.{ℕ, ◌≡◌, ◌≢◌, ◌+◌, ◌-◌, ◌<◌, ◌∙◌, List, [], ◌++◌, ap, arith, drop, get_or}
use Rattle.std.proofs.Common.{length, length-drop, refl, sym, take}
use Rattle.std.proofs.lemmas.List.{get_or-drop, get_or-take, take-append-drop}
use Rattle.std.proofs.lemmas.List.Elements.{All-from_get_or}
use Rattle.smap_system.specs.Paths.{IsParted}

pub parted_at : (path folder name : List ℕ) (k : ℕ) → k < length path → get_or path k 0 ≡ 47
    → ((i : ℕ) → k < i → i < length path → get_or path i 0 ≢ 47)
    → folder ≡ take (k + 1) path → length folder ≡ k + 1 → name ≡ drop (k + 1) path
    → IsParted path folder name
parted_at path folder name k low slash none f size n =
    let rest : length name ≡ length path - (k + 1) = ap length n ∙ length-drop (k + 1) path in
    let last : length folder - 1 ≡ k = omega arith in
    record {
      whole = sym (ap (λ (x : List ℕ). x ++ name) f ∙ ap (λ (x : List ℕ). take (k + 1) path ++ x) n
          ∙ take-append-drop (k + 1) path);
      before = λ _. ap (λ (i : ℕ). get_or folder i 0) last ∙ ap (λ (x : List ℕ). get_or x k 0) f
          ∙ get_or-take (k + 1) path k 0 (omega arith) ∙ slash;
      own = All-from_get_or (λ (b : ℕ). b ≢ 47) name 0 (λ i h e. none (k + 1 + i) (omega arith) (omega arith)
          (sym (get_or-drop (k + 1) path i 0) ∙ (ap (λ (x : List ℕ). get_or x i 0) (sym n) ∙ e)));
    }

pub parted_whole : (path : List ℕ) → ((i : ℕ) → i < length path → get_or path i 0 ≢ 47)
    → IsParted path [] path
parted_whole path none = record {
  whole = refl;
  before = λ h. omega (arith, h);
  own = All-from_get_or (λ (b : ℕ). b ≢ 47) path 0 none;
}
