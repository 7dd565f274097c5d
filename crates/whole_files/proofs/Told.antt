-- What breaks nothing is whole, where its parts are so.
use Rattle.std.proofs.Common.{◌≡◌, ℕ, List, [], ◌∷◌, ◌++◌, Bool, true, false, true≢false, Option, Some, None, if◌then◌else◌, refl, sym}
use Rattle.std.proofs.lemmas.Bool.{and_from}
use Rattle.rules.specs.declared.rule.Rule.{Rule}
use Rattle.rules.specs.declared.rule.Refusal.{Refusal}
use Rattle.rules.specs.Judgements.{Judgement, ok, suppressed, and, breaks, require}
use Rattle.typing.specs.JudgedStatements.{broken_by}
use Rattle.typing.proofs.JudgedItems.{IsGiven}

-- what breaks nothing is whole
abbrev pub IsTold : Judgement → Type 0
IsTold j = j.broken ≡ [] → j.whole ≡ true

pub nil_front : (xs ys : List Refusal) → xs ++ ys ≡ [] → xs ≡ []
nil_front [] ys h = refl
nil_front (x ∷ xs) ys h = absurd (let e : ⊥ = cc in e)

pub nil_behind : (xs ys : List Refusal) → xs ++ ys ≡ [] → ys ≡ []
nil_behind [] ys h = h
nil_behind (x ∷ xs) ys h = absurd (let e : ⊥ = cc in e)

pub told_ok : IsTold ok
told_ok none = refl

pub told_breaks : (rule : Rule) (at : ℕ) → IsTold (breaks rule at)
told_breaks rule at none = absurd (let e : ⊥ = cc in e)

pub told_and : (j k : Judgement) → IsTold j → IsTold k → IsTold (and j k)
told_and j k a b none = and_from j.whole k.whole (a (nil_front j.broken k.broken none)) (b (nil_behind j.broken k.broken none))

pub told_if : (b : Bool) (j k : Judgement) → IsTold j → IsTold k → IsTold (if b then j else k)
told_if true j k a c = a
told_if false j k a c = c

-- what says nothing where a test fails, which holds
pub told_said : (b : Bool) (j : Judgement) → b ≡ true → IsTold j → IsTold (if b then j else suppressed)
told_said true j e a = a
told_said false j e a = absurd (true≢false (sym e))

required : (j : Judgement) (rule : Rule) (at : ℕ) → IsTold j → (w h : Bool) → j.whole ≡ w → IsTold (if w then (if h then j else and j (breaks rule at)) else j)
required j rule at told true true e none = e
required j rule at told true false e none = absurd (let r = nil_behind j.broken (breaks rule at).broken none in let n : ⊥ = cc in n)
required j rule at told false h e none = told none

pub told_require : (j : Judgement) (h : Bool) (rule : Rule) (at : ℕ) → IsTold j → IsTold (require j h rule at)
told_require j h rule at told = required j rule at told j.whole h refl

pub told_broken_by : (j : Judgement) (rule : Option Rule) (at : ℕ) → IsTold j → IsTold (broken_by j rule at)
told_broken_by j None at told = told
told_broken_by j (Some rule) at told = told_require j false rule at told

unrequired : (j : Judgement) (rule : Rule) (at : ℕ) (w : Bool) → j.whole ≡ w → IsTold (if w then (if false then j else and j (breaks rule at)) else j) → IsTold j
unrequired j rule at true e told none = e
unrequired j rule at false e told none = told none

told_unruled : (j : Judgement) (rule : Option Rule) (at : ℕ) → IsTold (broken_by j rule at) → IsTold j
told_unruled j None at told = told
told_unruled j (Some rule) at told = unrequired j rule at j.whole refl told

-- a body has it from its parts
pub told_given : IsGiven IsTold
told_given = record { none = told_ok; both = told_and; behind = λ j k rule at a b. told_broken_by (and j k) rule at (told_and j k (told_unruled j rule at a) b) }
