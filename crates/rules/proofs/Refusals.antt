-- The first of several refusals.
use Rattle.std.proofs.Common.{◌≡◌, ◌⊎◌, ℕ, Bool, true, false, List, [], ◌∷◌, ◌++◌, Option, Some, None, refl, sym, ap, ◌∙◌, inl, inr, subst, arith}
use Rattle.std.specs.Prelude.{slice_index_or}
use Rattle.std.proofs.lemmas.Bool.Decides.{nat_tests}
use Rattle.rules.specs.declared.rule.Rule.{Rule}
use Rattle.rules.specs.declared.rule.Rule.TheVariants as rules_of
use Rattle.rules.specs.declared.rule.Refusal.{Refusal}
use Rattle.rules.specs.Rules.{rank_of, comes_before, first_of_two, earlier, first_in, IsAmong, IsFirst}

-- ---- one refusal before another

comes_before-trans : (a b c : Refusal) → comes_before a b ≡ true → comes_before b c ≡ true → comes_before a c ≡ true
comes_before-trans a b c h k = grind (arith, nat_tests)

stays_behind : (a b c : Refusal) → comes_before b a ≡ false → comes_before c b ≡ false → comes_before c a ≡ false
stays_behind a b c h k = grind (arith, nat_tests)

-- all rules in their order, and the one of a rank
in_order : List Rule
in_order =
    rules_of.TooLong ∷ rules_of.StrayByte ∷ rules_of.OpenComment ∷ rules_of.NumberForm ∷ rules_of.NumberSize ∷ rules_of.WordLength ∷
    rules_of.LeftOutWord ∷ rules_of.TooDeep ∷ rules_of.NoTree ∷ rules_of.LineOrder ∷ rules_of.NumberLimits ∷ rules_of.NoSide ∷
    rules_of.DeclaredTwice ∷ rules_of.UnknownName ∷ rules_of.InTermsOfItself ∷ rules_of.WrongUse ∷ rules_of.NotOneProgram ∷
    rules_of.NotOneInitialStep ∷ rules_of.UnknownStep ∷ rules_of.UnknownAction ∷ rules_of.StepTwice ∷ rules_of.UnknownQualifier ∷
    rules_of.InputsDiffer ∷ rules_of.InputCount ∷ rules_of.OperandType ∷ rules_of.ValueType ∷ rules_of.OutsideType ∷ rules_of.NotAssignable ∷
    rules_of.ArgumentCount ∷ rules_of.Overlap ∷ rules_of.NotConstant ∷ rules_of.StepZero ∷ rules_of.TooManyTurns ∷ rules_of.OutsideControl ∷
    rules_of.ExitOutsideFor ∷ rules_of.TooManyValues ∷ rules_of.NotBool ∷ rules_of.TooManyCells ∷ rules_of.TooManyStatements ∷ rules_of.TooManyNodes ∷
    rules_of.TooManyCandidates ∷ rules_of.TooManyGates ∷ rules_of.FindingTooLong ∷ rules_of.NoTrace ∷ []

rule_at : ℕ → Rule
rule_at n = slice_index_or in_order n rules_of.TooLong

rule_at-rank_of : (r : Rule) → rule_at (rank_of r) ≡ r
unfolding rule_at in_order
rule_at-rank_of rules_of.TooLong = refl
rule_at-rank_of rules_of.StrayByte = refl
rule_at-rank_of rules_of.OpenComment = refl
rule_at-rank_of rules_of.NumberForm = refl
rule_at-rank_of rules_of.NumberSize = refl
rule_at-rank_of rules_of.WordLength = refl
rule_at-rank_of rules_of.LeftOutWord = refl
rule_at-rank_of rules_of.TooDeep = refl
rule_at-rank_of rules_of.NoTree = refl
rule_at-rank_of rules_of.LineOrder = refl
rule_at-rank_of rules_of.NumberLimits = refl
rule_at-rank_of rules_of.NoSide = refl
rule_at-rank_of rules_of.DeclaredTwice = refl
rule_at-rank_of rules_of.UnknownName = refl
rule_at-rank_of rules_of.InTermsOfItself = refl
rule_at-rank_of rules_of.WrongUse = refl
rule_at-rank_of rules_of.NotOneProgram = refl
rule_at-rank_of rules_of.NotOneInitialStep = refl
rule_at-rank_of rules_of.UnknownStep = refl
rule_at-rank_of rules_of.UnknownAction = refl
rule_at-rank_of rules_of.StepTwice = refl
rule_at-rank_of rules_of.UnknownQualifier = refl
rule_at-rank_of rules_of.InputsDiffer = refl
rule_at-rank_of rules_of.InputCount = refl
rule_at-rank_of rules_of.OperandType = refl
rule_at-rank_of rules_of.ValueType = refl
rule_at-rank_of rules_of.OutsideType = refl
rule_at-rank_of rules_of.NotAssignable = refl
rule_at-rank_of rules_of.ArgumentCount = refl
rule_at-rank_of rules_of.Overlap = refl
rule_at-rank_of rules_of.NotConstant = refl
rule_at-rank_of rules_of.StepZero = refl
rule_at-rank_of rules_of.TooManyTurns = refl
rule_at-rank_of rules_of.OutsideControl = refl
rule_at-rank_of rules_of.ExitOutsideFor = refl
rule_at-rank_of rules_of.TooManyValues = refl
rule_at-rank_of rules_of.NotBool = refl
rule_at-rank_of rules_of.TooManyCells = refl
rule_at-rank_of rules_of.TooManyStatements = refl
rule_at-rank_of rules_of.TooManyNodes = refl
rule_at-rank_of rules_of.TooManyCandidates = refl
rule_at-rank_of rules_of.TooManyGates = refl
rule_at-rank_of rules_of.FindingTooLong = refl
rule_at-rank_of rules_of.NoTrace = refl

same_rule : (r s : Rule) → rank_of r ≡ rank_of s → r ≡ s
same_rule r s h = sym (rule_at-rank_of r) ∙ ap rule_at h ∙ rule_at-rank_of s

same_refusal : (a b : Refusal) → a.rule ≡ b.rule → a.at ≡ b.at → a ≡ b
same_refusal a b h k = λ j. record { rule = h j; at = k j }

ties : (a b : Refusal) → comes_before a b ≡ false → comes_before b a ≡ false → (a.at ≡ b.at) × (rank_of a.rule ≡ rank_of b.rule)
ties a b h k = (grind (arith, nat_tests), grind (arith, nat_tests))

-- of two refusals that differ one comes before the other
is_first_of : (a b : Refusal) → comes_before b a ≡ false → (a ≡ b) ⊎ (comes_before a b ≡ true)
is_first_of a b h = by (comes_before a b) refl
  where
    by : (t : Bool) → comes_before a b ≡ t → (a ≡ b) ⊎ (comes_before a b ≡ true)
    by true k = inr k
    by false k = let e = ties a b k h in inl (same_refusal a b (same_rule a.rule b.rule e.1) e.0)

-- ---- the first of two

first_of_two-assoc : (a b c : Refusal) (t u : Bool) → comes_before b a ≡ t → comes_before c b ≡ u → first_of_two (first_of_two a b) c ≡ first_of_two a (first_of_two b c)
first_of_two-assoc a b c true true h k = rw (h, k, comes_before-trans c b a k h) refl
first_of_two-assoc a b c true false h k = rw (h, k) (rw h refl)
first_of_two-assoc a b c false true h k = rw (h, k) refl
first_of_two-assoc a b c false false h k = rw (h, k) (rw (h, stays_behind a b c h k) refl)

first_of_two-swap : (a b : Refusal) (t u : Bool) → comes_before b a ≡ t → comes_before a b ≡ u → first_of_two a b ≡ first_of_two b a
first_of_two-swap a b true true h k = absurd (grind (arith, nat_tests))
first_of_two-swap a b true false h k = rw (h, k) refl
first_of_two-swap a b false true h k = rw (h, k) refl
first_of_two-swap a b false false h k = let e = ties a b k h in rw (h, k) (same_refusal a b (same_rule a.rule b.rule e.1) e.0)

pub earlier-swap : (a b : Option Refusal) → earlier a b ≡ earlier b a
earlier-swap None None = refl
earlier-swap None (Some b) = refl
earlier-swap (Some a) None = refl
earlier-swap (Some a) (Some b) = ap (λ (r : Refusal). Some r) (first_of_two-swap a b (comes_before b a) (comes_before a b) refl refl)

pub earlier-none : (a : Option Refusal) → earlier a None ≡ a
earlier-none None = refl
earlier-none (Some a) = refl

pub earlier-assoc : (a b c : Option Refusal) → earlier (earlier a b) c ≡ earlier a (earlier b c)
earlier-assoc None b c = refl
earlier-assoc (Some a) None c = refl
earlier-assoc (Some a) (Some b) None = refl
earlier-assoc (Some a) (Some b) (Some c) = ap Some (first_of_two-assoc a b c _ _ refl refl)

-- ---- the first of a list

pub first_in-append : (xs ys : List Refusal) → first_in (xs ++ ys) ≡ earlier (first_in xs) (first_in ys)
first_in-append [] ys = refl
first_in-append (x ∷ xs) ys = ap (earlier (Some x)) (first_in-append xs ys) ∙ sym (earlier-assoc (Some x) (first_in xs) (first_in ys))

earlier-some : (a : Refusal) (b : Option Refusal) → (r : Refusal) × (earlier (Some a) b ≡ Some r)
earlier-some a None = (a, refl)
earlier-some a (Some b) = (first_of_two a b, refl)

-- a list without a first one is empty
pub none_is_left : (xs : List Refusal) → first_in xs ≡ None → xs ≡ []
none_is_left [] h = refl
none_is_left (x ∷ xs) h = let e = (earlier-some x (first_in xs)).1 in cc

IsFirst-one : (x : Refusal) (xs : List Refusal) → first_in xs ≡ None → IsFirst (λ y. IsAmong y (x ∷ xs)) x
IsFirst-one x xs h = record {
  is_broken = inl refl;
  before = λ other among. elim among as (λ _. (x ≡ other) ⊎ (comes_before x other ≡ true)) [ inl e ↦ inl (sym e) | inr e ↦ absurd (subst (IsAmong other) (none_is_left xs h) e) ];
}

-- behind what is first of the others
IsFirst-later : (x y : Refusal) (xs : List Refusal) → comes_before y x ≡ true → IsFirst (λ z. IsAmong z xs) y → IsFirst (λ z. IsAmong z (x ∷ xs)) y
IsFirst-later x y xs h first = record {
  is_broken = inr first.is_broken;
  before = λ other among. elim among as (λ _. (y ≡ other) ⊎ (comes_before y other ≡ true)) [ inl e ↦ inr (rw e h) | inr e ↦ first.before other e ];
}

-- before what is first of the others
IsFirst-sooner : (x y : Refusal) (xs : List Refusal) → comes_before y x ≡ false → IsFirst (λ z. IsAmong z xs) y → IsFirst (λ z. IsAmong z (x ∷ xs)) x
IsFirst-sooner x y xs h first = record {
  is_broken = inl refl;
  before = λ other among. elim among as (λ _. (x ≡ other) ⊎ (comes_before x other ≡ true)) [ inl e ↦ inl (sym e) | inr e ↦ behind other (first.before other e) ];
}
  where
    behind : (other : Refusal) → (y ≡ other) ⊎ (comes_before y other ≡ true) → (x ≡ other) ⊎ (comes_before x other ≡ true)
    behind other (inl e) = is_first_of x other (rw (sym e) h)
    behind other (inr k) = is_first_of x other (grind (arith, nat_tests))

IsFirst-cons : (x : Refusal) (xs : List Refusal) (o : Option Refusal) (r : Refusal) → first_in xs ≡ o → ((y : Refusal) → o ≡ Some y → IsFirst (λ z. IsAmong z xs) y) → earlier (Some x) o ≡ Some r → IsFirst (λ z. IsAmong z (x ∷ xs)) r
IsFirst-cons x xs None r h rest e = subst (IsFirst (λ z. IsAmong z (x ∷ xs))) (let f : x ≡ r = cc in f) (IsFirst-one x xs h)
IsFirst-cons x xs (Some y) r h rest e = by (comes_before y x) refl
  where
    by : (t : Bool) → comes_before y x ≡ t → IsFirst (λ z. IsAmong z (x ∷ xs)) r
    by true k = let f : y ≡ r = (let g : Some y ≡ Some r = rw k at e in cc) in subst (IsFirst (λ z. IsAmong z (x ∷ xs))) f (IsFirst-later x y xs k (rest y refl))
    by false k = let f : x ≡ r = (let g : Some x ≡ Some r = rw k at e in cc) in subst (IsFirst (λ z. IsAmong z (x ∷ xs))) f (IsFirst-sooner x y xs k (rest y refl))

-- the first of a list is the first of those that stand in it
pub first_in-IsFirst : (xs : List Refusal) (r : Refusal) → first_in xs ≡ Some r → IsFirst (λ x. IsAmong x xs) r
first_in-IsFirst [] r h = absurd (let f : ⊥ = cc in f)
first_in-IsFirst (x ∷ xs) r h = IsFirst-cons x xs (first_in xs) r refl (λ y e. first_in-IsFirst xs y e) h
