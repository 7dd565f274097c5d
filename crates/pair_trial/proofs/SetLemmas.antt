-- Sets as they are kept.
use Rattle.std.proofs.Common.{◌≡◌, ℕ, ◌<◌, ◌≤◌, Bool, true, false, ◌&&◌, List, length, sym, ap, ◌∙◌, arith, inl, inr}
use Rattle.std.specs.Prelude.{nat_lt}
use Rattle.std.proofs.lemmas.Bool.{cases_lt, lt-ltb, ltb-true, false_from_ne_true}
use Rattle.std.proofs.lemmas.List.{get_or_past}
use mathlib.Core.Path.{fun_ext}
use Rattle.scan_model.specs.Pairs.{Pair}
use Rattle.scan_model.specs.Verdicts.{CandidateSet}
use Rattle.queries.specs.Settings.{Setting, first_set, left_of}
use Rattle.queries.specs.Sets.{members}

-- marks that agree with a set wherever there are marks, where the set has none past them
members_is : (marks : List Bool) (set : CandidateSet) → ((n : ℕ) → n < length marks → members marks n ≡ set n) → ((n : ℕ) → length marks ≤ n → set n ≡ false) → members marks ≡ set
members_is marks set inside past = fun_ext (λ n. elim (cases_lt n (length marks)) [ inl lt ↦ inside n lt | inr ge ↦ get_or_past marks n false ge ∙ sym (past n ge) ])

pub members-first : (s : Setting) (marks : List Bool) → length marks ≡ s.candidates → ((n : ℕ) → n < length marks → members marks n ≡ s.holds n s.start) → members marks ≡ first_set s
members-first s marks long h =
    members_is marks (first_set s)
    (λ n lt. let below : nat_lt n s.candidates ≡ true = lt-ltb n s.candidates (omega arith) in h n lt ∙ sym (ap (λ b. b && s.holds n s.start) below))
    (λ n ge. let above : nat_lt n s.candidates ≡ false = false_from_ne_true (nat_lt n s.candidates) (λ e. let lt : n < s.candidates = ltb-true n s.candidates e in omega arith) in
    ap (λ b. b && s.holds n s.start) above)

pub members-left : (s : Setting) (old new : List Bool) (pair : Pair) → length new ≡ length old → ((n : ℕ) → n < length new → members new n ≡ (members old n && s.holds n pair))
    → members new ≡ left_of s (members old) pair
members-left s old new pair long h =
    members_is new (left_of s (members old) pair) h (λ n ge. ap (λ b. b && s.holds n pair) (get_or_past old n false (omega arith)))
