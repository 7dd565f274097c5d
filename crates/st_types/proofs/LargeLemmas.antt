-- Which POUs that may run are large.
use Rattle.std.proofs.Common.{◌≡◌, ℕ, zero, suc, ◌+◌, ◌<◌, Bool, true, false, not, ◌&&◌, ◌||◌, List, [], ◌∷◌, length, replicate, get_or, set, ⊎_elim, refl, sym, ap, ap₂, subst, ◌∙◌, arith}
use Rattle.std.proofs.lemmas.Bool.{cases_eq, both_ways, or_left, or_right, and_from}
use Rattle.std.proofs.lemmas.List.{get_or-set_other}
use Rattle.call_order.specs.Marks.{is_marked}
use Rattle.source_tree.specs.Syntax.{FileData}
use Rattle.typing.specs.Members.{called_order}
use Rattle.running_pous.proofs.SearchLemmas.{none_marked}
use Rattle.rules.specs.declared.fault.Fault.{Fault}
use Rattle.rules.specs.declared.fault.Fault.TheVariants.{Refused, Memory}
use Rattle.rules.specs.Faults.{IfRefused}
use Rattle.pou_cells.specs.Placing.{is_placed}
use Rattle.st_types.specs.LargePous.{any_large, IsRefusedIf}

module _ (f : FileData) (runs : ℕ → Bool) where
  -- one that runs is large
  pub large_at : (n : ℕ) (ks : List ℕ) (i : ℕ) → i < length ks → runs (n + i) ≡ true → is_placed f (get_or ks i 0) ≡ false → any_large f runs n ks ≡ true
  large_at n [] i low run large = absurd (omega (arith, low))
  large_at n (k ∷ ks) zero low run large =
      let here : n + 0 ≡ n = omega arith in
      or_left _ _ (and_from _ _ (subst (λ (m : ℕ). runs m ≡ true) here run) (ap not large))
  large_at n (k ∷ ks) (suc i) low run large =
      let next : n + suc i ≡ n + 1 + i = omega arith in
      or_right _ _ (large_at (n + 1) ks i (omega (arith, low)) (subst (λ (m : ℕ). runs m ≡ true) next run) large)

  small : (run placed : Bool) → (run ≡ true → placed ≡ true) → (run && not placed) ≡ false
  small false placed each = refl
  small true placed each = ap not (each refl)

  -- none that runs is large
  pub none_large : (n : ℕ) (ks : List ℕ) → ((i : ℕ) → i < length ks → runs (n + i) ≡ true → is_placed f (get_or ks i 0) ≡ true) → any_large f runs n ks ≡ false
  none_large n [] each = refl
  none_large n (k ∷ ks) each =
      let here : n ≡ n + 0 = omega arith in
      ap₂ (λ c d. c || d) (small (runs n) (is_placed f k) (λ run. each 0 (omega arith) (subst (λ (m : ℕ). runs m ≡ true) here run)))
      (none_large (n + 1) ks (λ i low run. let next : n + 1 + i ≡ n + suc i = omega arith in each (suc i) (omega (arith, low)) (subst (λ (m : ℕ). runs m ≡ true) next run)))

-- those that ran are not large
abbrev pub AreFew : FileData → List Bool → Type 0
AreFew f runs = (k : ℕ) → is_marked runs k ≡ true → is_placed f (get_or (called_order f) k 0) ≡ true

-- none has run
pub few-begun : (f : FileData) (runs : List Bool) (n : ℕ) → runs ≡ replicate n false → AreFew f runs
few-begun f runs n none k run = absurd (both_ways _ (ap (λ (ms : List Bool). is_marked ms k) none ∙ none_marked n k) run)

-- one more runs that is not
pub few-more : (f : FileData) (runs : List Bool) (number : ℕ) → AreFew f runs → is_placed f (get_or (called_order f) number 0) ≡ true → AreFew f (set runs number true)
few-more f runs number few placed k run =
    ⊎_elim (λ (e : k ≡ number). subst (λ (n : ℕ). is_placed f (get_or (called_order f) n 0) ≡ true) (sym e) placed)
    (λ other. few k (sym (get_or-set_other runs number k true false other) ∙ run)) (cases_eq k number)

-- what is refused by the one is refused by the other
pub refused-more : (a b : Bool) (e : Fault) → (a ≡ true → b ≡ true) → IfRefused (IsRefusedIf a) e → IfRefused (IsRefusedIf b) e
refused-more a b (Refused r) more h = (more h.0, h.1)
refused-more a b Memory more h = tt
