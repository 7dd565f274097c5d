-- Whether statements keep the rules of flat programs is decided by a test of each. So what merely exists, that a flat program keeps them, is
-- there to be read.
use Rattle.std.proofs.Common.{◌≡◌, ◌⊎◌, ℕ, ◌+◌, ◌-◌, ◌<◌, Bool, true, false, List, [], ◌∷◌, length, refl, inl, inr, arith}
use Rattle.std.specs.Prelude.{◌==◌, nat_lt}
use Rattle.std.proofs.lemmas.Bool.Decides.{nat_tests}
use Rattle.std.proofs.lemmas.Grind.{not_there}
use Rattle.program_tree.specs.Tree.{Expression, number, cell, unary, chain, call_standard, call_function, Operands, no_operands, operand, Expressions, no_expressions, expression}
use Rattle.program_tree.specs.declared.scratch.Scratch.{Scratch}
use Rattle.flat_core.specs.declared.flat_program.Flat.{Flat}
use Rattle.flat_core.specs.FlatTree.{FlatStatement, set, branch, FlatStatements, no_flats, flat}
use Rattle.flat_core.specs.FlatScans.{takes}
use Rattle.flat_core.specs.FlatRules.{Reads, AllRead, EachReads, IsOneOf, IsReadable, has_subrange, IsTakenNumber, MaySet, set_behind, IsFlatOver, AreFlatOver, IsFlat}
use Rattle.flat_core.specs.FlatView.{flat_program_view}

abbrev Decided : Type 0 → Type 0
Decided P = P ⊎ (P → ⊥)

both_decided : {P Q : Type 0} → Decided P → Decided Q → Decided (P × Q)
both_decided p q = elim p [ inl have ↦ elim q [ inl too ↦ inl (have, too) | inr none ↦ inr (λ h. none h.1) ] | inr none ↦ inr (λ h. none h.0) ]

either_decided : {P Q : Type 0} → Decided P → Decided Q → Decided (P ⊎ Q)
either_decided p q = elim p [ inl have ↦ inl (inl have) | inr none ↦ elim q [ inl too ↦ inl (inr too) | inr never ↦ inr (λ h. elim h [ inl a ↦ none a | inr b ↦ never b ]) ] ]

true_decided : (b : Bool) → Decided (b ≡ true)
true_decided true = inl refl
true_decided false = inr (λ h. cc)

false_decided : (b : Bool) → Decided (b ≡ false)
false_decided true = inr (λ h. cc)
false_decided false = inl refl

below_by : (n m : ℕ) (b : Bool) → nat_lt n m ≡ b → Decided (n < m)
below_by n m true e = inl (grind (arith, nat_tests))
below_by n m false e = inr (λ h. grind (arith, nat_tests))

below_decided : (n m : ℕ) → Decided (n < m)
below_decided n m = below_by n m (nat_lt n m) refl

equal_by : (n m : ℕ) (b : Bool) → (n == m) ≡ b → Decided (n ≡ m)
equal_by n m true e = inl (grind (arith, nat_tests))
equal_by n m false e = inr (λ h. grind (arith, nat_tests))

equal_decided : (n m : ℕ) → Decided (n ≡ m)
equal_decided n m = equal_by n m (n == m) refl

one_decided : (ps : List ℕ) (place : ℕ) → Decided (IsOneOf ps place)
one_decided [] place = inr (λ h. h)
one_decided (p ∷ ps) place = either_decided (equal_decided place p) (one_decided ps place)

readable_decided : (cells : ℕ) (done : List ℕ) (place : ℕ) → Decided (IsReadable cells done place)
readable_decided cells done place = either_decided (below_decided place cells) (one_decided done place)

module _ (P : ℕ → Type 0) (place_decided : (place : ℕ) → Decided (P place)) where
  mutual
    reads_decided : (e : Expression) → Decided (Reads P e)
    reads_decided (number v) = inl tt
    reads_decided (cell place) = place_decided place
    reads_decided (unary o t e) = reads_decided e
    reads_decided (chain e os) = both_decided (reads_decided e) (all_decided os)
    reads_decided (call_standard f t es) = each_decided es
    reads_decided (call_function f es) = inr (λ h. h)

    all_decided : (os : Operands) → Decided (AllRead P os)
    all_decided no_operands = inl tt
    all_decided (operand o t e os) = both_decided (reads_decided e) (all_decided os)

    each_decided : (es : Expressions) → Decided (EachReads P es)
    each_decided no_expressions = inl tt
    each_decided (expression e es) = both_decided (reads_decided e) (each_decided es)

taken_decided : (cs : List Scratch) (n : ℕ) (e : Expression) → Decided (IsTakenNumber cs n e)
taken_decided cs n (number v) = true_decided (takes cs n v)
taken_decided cs n (cell place) = inr (λ h. h)
taken_decided cs n (unary o t e) = inr (λ h. h)
taken_decided cs n (chain e os) = inr (λ h. h)
taken_decided cs n (call_standard f t es) = inr (λ h. h)
taken_decided cs n (call_function f es) = inr (λ h. h)

set_decided : (cells : ℕ) (cs : List Scratch) (done : List ℕ) (place : ℕ) (e : Expression) → Decided (MaySet cells cs done place e)
set_decided cells cs done place e =
    either_decided (readable_decided cells done place) (either_decided (false_decided (has_subrange cs (place - cells))) (taken_decided cs (place - cells) e))

module _ (cells : ℕ) (cs : List Scratch) where
  mutual
    flat_decided : (done : List ℕ) (t : FlatStatement) → Decided (IsFlatOver cells cs done t)
    flat_decided done (set place e) =
        let first = below_decided place (cells + length cs) in
        let read = reads_decided (IsReadable cells done) (readable_decided cells done) e in
        let may = set_decided cells cs done place e in
        elim first [
          | inl a ↦ elim read [ inl b ↦ elim may [ inl d ↦ inl (a, b, d) | inr none ↦ inr (λ h. none h.2) ] | inr none ↦ inr (λ h. none h.1) ]
          | inr none ↦ inr (λ h. none h.0)
        ]
    flat_decided done (branch e a b) =
        let read = reads_decided (IsReadable cells done) (readable_decided cells done) e in
        let then = flats_decided done a in
        let other = flats_decided done b in
        elim read [
          | inl x ↦ elim then [ inl y ↦ elim other [ inl z ↦ inl (x, y, z) | inr none ↦ inr (λ h. none h.2) ] | inr none ↦ inr (λ h. none h.1) ]
          | inr none ↦ inr (λ h. none h.0)
        ]

    flats_decided : (done : List ℕ) (ts : FlatStatements) → Decided (AreFlatOver cells cs done ts)
    flats_decided done no_flats = inl tt
    flats_decided done (flat t ts) = both_decided (flat_decided done t) (flats_decided (set_behind t done) ts)

-- what is decided is there where it merely exists
there : {P : Type 0} → Decided P → ∥ P ∥₁ → P
there d h = elim d [ inl have ↦ have | inr none ↦ absurd (not_there h none) ]

-- each flat program keeps the rules of flat programs
pub flat-kept : (f : Flat) → IsFlat (flat_program_view f)
flat-kept f = let v = flat_program_view f in there (flats_decided (length v.cells) v.scratch [] v.body) f.rules
