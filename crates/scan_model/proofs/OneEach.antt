-- The numbers of a verdict are determined.
use Rattle.std.proofs.Common.{◌≡◌, ℕ, suc, zero, ◌<◌, refl, sym, ◌∙◌, ap, arith, inl, inr}
use Rattle.std.proofs.lemmas.Bool.{cases_lt}
use Rattle.std.proofs.lemmas.Bool.Decides.{same_from_decides}
use Rattle.program_tree.specs.Tree.{ProgramData}
use Rattle.scan_model.specs.Pairs.{RelationData}
use Rattle.scan_model.specs.declared.verdict.Verdict.TheVariants.{Vacuous, Related, Different, Open}
use Rattle.scan_model.specs.Verdicts.{CandidateSet, size_below, IsGreatest, IsSizeOfGreatest, HasBreak, NoBreakBelow, count_of}
use Rattle.scan_model.specs.VerdictLaws.{OneVerdict}

same_size : (c : ℕ) (a b : CandidateSet) → ((n : ℕ) → n < c → a n ≡ b n) → size_below c a ≡ size_below c b
same_size zero a b h = refl
same_size (suc n) a b h =
    let here : a n ≡ b n = h n (omega arith) in
    let rest : size_below n a ≡ size_below n b = same_size n a b (λ k lt. h k (omega arith)) in
    cc

module _ (old new : ProgramData) (rel : RelationData) where
  same_greatest : (a b : CandidateSet) → IsGreatest old new rel a → IsGreatest old new rel b → (n : ℕ) → n < count_of old new rel → a n ≡ b n
  same_greatest a b ga gb n lt = same_from_decides (a n) (b n) (ga n lt) (gb n lt)

  one_size : (k l : ℕ) → IsSizeOfGreatest old new rel k → IsSizeOfGreatest old new rel l → k ≡ l
  one_size k l a b = a.2 ∙ same_size (count_of old new rel) a.0 b.0 (same_greatest a.0 b.0 a.1 b.1) ∙ sym b.2

  one_least : (d e : ℕ) → HasBreak old new rel d → NoBreakBelow old new rel d → HasBreak old new rel e → NoBreakBelow old new rel e → d ≡ e
  one_least d e hd nd he ne =
      elim (cases_lt d e) [ inl lt ↦ absurd (ne d lt hd) | inr ge ↦ elim (cases_lt e d) [ inl lt ↦ absurd (nd e lt he) | inr le ↦ omega arith ] ]

pub one_verdict_is : OneVerdict
one_verdict_is old new rel Vacuous Vacuous fits a b = refl
one_verdict_is old new rel Vacuous (Related k c) fits a b = absurd (a b.0)
one_verdict_is old new rel Vacuous (Different d) fits a b = absurd (a b.0)
one_verdict_is old new rel Vacuous (Open k c n) fits a b = absurd (a b.0)
one_verdict_is old new rel (Related k c) Vacuous fits a b = absurd (b a.0)
one_verdict_is old new rel (Related k c) (Related l e) fits a b = let same : k ≡ l = one_size old new rel k l a.2 b.2 in let c_is : c ≡ e = a.3 ∙ sym b.3 in cc
one_verdict_is old new rel (Related k c) (Different d) fits a b = absurd (b.1 a.1)
one_verdict_is old new rel (Related k c) (Open l e n) fits a b = absurd (b.1 a.1)
one_verdict_is old new rel (Different d) Vacuous fits a b = absurd (b a.0)
one_verdict_is old new rel (Different d) (Related l e) fits a b = absurd (a.1 b.1)
one_verdict_is old new rel (Different d) (Different e) fits a b = ap Different (one_least old new rel d e a.2 a.3 b.2 b.3)
one_verdict_is old new rel (Different d) (Open l e n) fits a b = let n_is : n ≡ rel.depth = b.5 in absurd (b.2 d (omega (arith, a.4)) a.2)
one_verdict_is old new rel (Open k c n) Vacuous fits a b = absurd (b a.0)
one_verdict_is old new rel (Open k c n) (Related l e) fits a b = absurd (a.1 b.1)
one_verdict_is old new rel (Open k c n) (Different d) fits a b = let n_is : n ≡ rel.depth = a.5 in absurd (a.2 d (omega (arith, b.4)) b.2)
one_verdict_is old new rel (Open k c n) (Open l e m) fits a b =
    let same : k ≡ l = one_size old new rel k l a.3 b.3 in
    let n_is : n ≡ m = a.5 ∙ sym b.5 in
    let c_is : c ≡ e = a.4 ∙ sym b.4 in
    cc
