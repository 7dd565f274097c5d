-- What the rules mean.
use Rattle.std.proofs.Common.{◌≡◌, ℕ, Bool, true, false, not, ◌&&◌, ◌||◌, nat_lt, min, max, refl, sym, ◌∙◌, ap, subst, arith, cond, ◌≤◌, ◌⊎◌, inl, inr}
use Rattle.std.specs.Prelude.{if◌then◌else◌}
use Rattle.std.specs.Bool.{beq}
use Rattle.std.proofs.lemmas.Bool.{eqb-true}
use Rattle.std.proofs.lemmas.Bool.Decides.{nat_tests}
use Rattle.clause_core.specs.declared.literal.Lit.{Lit}
use Rattle.clause_core.specs.declared.gate.Gate.TheVariants.{And}
use Rattle.clause_core.specs.Values.{negation}
use Rattle.clause_core.specs.Satisfaction.{literal_true, signed}
use Rattle.gates.specs.declared.plan.Plan.{Plan}
use Rattle.gates.specs.declared.plan.Plan.TheVariants.{Ready, Ask}
use Rattle.gates.specs.Literals.{is_true, is_false, same_lit, opposite_lits}
use Rattle.gates.specs.Plans.{and_plan, or_plan, xor_plan, xor_of_variables, mux_plan, not_plan}
use Rattle.gates.specs.Meaning.{plan_true, exactly_one}
use Rattle.gates.proofs.Booleans.{by_or, signed-not, literal_true-not, literal_true-is_true, literal_true-is_false, literal_true-same, literal_true-opposite}

by_plan : (rho : ℕ → Bool) (t : Bool) (x y : Plan) (v : Bool) → (t ≡ true → plan_true rho x ≡ v) → (t ≡ false → plan_true rho y ≡ v) → plan_true rho (cond t x y) ≡ v
by_plan rho true x y v on off = on refl
by_plan rho false x y v on off = off refl

-- tables
and_false : (a b : Bool) → b ≡ false → (a && b) ≡ false
and_false true b h = h
and_false false b h = refl

and_swap : (a b : Bool) → (a && b) ≡ (b && a)
and_swap true true = refl
and_swap true false = refl
and_swap false true = refl
and_swap false false = refl

and_opposite : (a b : Bool) → a ≡ not b → (a && b) ≡ false
and_opposite a true h = ap (λ z. z && true) h
and_opposite a false h = and_false a false refl

and_same : (a b : Bool) → a ≡ b → (a && b) ≡ a
and_same true b h = sym h
and_same false b h = refl

pub plan_true-not : (rho : ℕ → Bool) (p : Plan) → plan_true rho (not_plan p) ≡ not (plan_true rho p)
plan_true-not rho (Ready l) = literal_true-not rho l
plan_true-not rho (Ask g s) = signed-not s _

pub plan_true-and : (rho : ℕ → Bool) (a b : Lit) → rho 1 ≡ true → plan_true rho (and_plan a b) ≡ (literal_true rho a && literal_true rho b)
plan_true-and rho a b one =
    by_plan rho _ _ _ _
    (λ h. ap not one ∙ sym (by_or (is_false a || is_false b) (opposite_lits a b) h
    (λ k. by_or (is_false a) (is_false b) k
    (λ f. ap (λ z. z && literal_true rho b) (literal_true-is_false rho a one f))
    (λ f. and_false (literal_true rho a) (literal_true rho b) (literal_true-is_false rho b one f)))
    (λ o. and_opposite (literal_true rho a) (literal_true rho b) (literal_true-opposite rho a b o))))
    (λ _. by_plan rho _ _ _ _
    (λ h. sym (ap (λ z. z && literal_true rho b) (literal_true-is_true rho a one h)))
    (λ _. by_plan rho _ _ _ _
    (λ h. sym (by_or (is_true b) (same_lit a b) h
    (λ t. and_swap (literal_true rho a) (literal_true rho b) ∙ ap (λ z. z && literal_true rho a) (literal_true-is_true rho b one t))
    (λ s. and_same (literal_true rho a) (literal_true rho b) (literal_true-same rho a b s))))
    (λ _. by_plan rho (nat_lt a.variable b.variable) (Ask (And a b) false) (Ask (And b a) false) _ (λ _. refl) (λ _. and_swap (literal_true rho b) (literal_true rho a)))))

or_by_and : (a b : Bool) → not (not a && not b) ≡ (a || b)
or_by_and true b = refl
or_by_and false true = refl
or_by_and false false = refl

pub plan_true-or : (rho : ℕ → Bool) (a b : Lit) → rho 1 ≡ true → plan_true rho (or_plan a b) ≡ (literal_true rho a || literal_true rho b)
plan_true-or rho a b one =
    plan_true-not rho (and_plan (negation a) (negation b))
    ∙ ap not (plan_true-and rho (negation a) (negation b) one)
    ∙ ap (λ z. not (z && literal_true rho (negation b))) (literal_true-not rho a)
    ∙ ap (λ z. not (not (literal_true rho a) && z)) (literal_true-not rho b)
    ∙ or_by_and (literal_true rho a) (literal_true rho b)

-- exactly one of p and q, turned where the signs differ
xor_signs : (m n p q : Bool) → signed (not (beq m n)) (exactly_one p q) ≡ exactly_one (signed m p) (signed n q)
xor_signs true true true true = refl
xor_signs true true true false = refl
xor_signs true true false true = refl
xor_signs true true false false = refl
xor_signs true false true true = refl
xor_signs true false true false = refl
xor_signs true false false true = refl
xor_signs true false false false = refl
xor_signs false true true true = refl
xor_signs false true true false = refl
xor_signs false true false true = refl
xor_signs false true false false = refl
xor_signs false false true true = refl
xor_signs false false true false = refl
xor_signs false false false true = refl
xor_signs false false false false = refl

xor_same : (s p : Bool) → signed s true ≡ signed (not s) (exactly_one p p)
xor_same true true = refl
xor_same true false = refl
xor_same false true = refl
xor_same false false = refl

xor_one : (s q : Bool) → signed s q ≡ signed (not s) (exactly_one true q)
xor_one true true = refl
xor_one true false = refl
xor_one false true = refl
xor_one false false = refl

xor_swap : (p q : Bool) → exactly_one p q ≡ exactly_one q p
xor_swap true true = refl
xor_swap true false = refl
xor_swap false true = refl
xor_swap false false = refl

plan_true-variables : (rho : ℕ → Bool) (p q : ℕ) (same : Bool) → rho 1 ≡ true → plan_true rho (xor_of_variables p q same) ≡ signed (not same) (exactly_one (rho p) (rho q))
plan_true-variables rho p q same one =
    by_plan rho _ _ _ _
    (λ h. ap (signed same) one ∙ xor_same same (rho p) ∙ ap (λ z. signed (not same) (exactly_one (rho p) (rho z))) (eqb-true p q h))
    (λ _. by_plan rho _ _ _ _
    (λ h. xor_one same (rho q) ∙ ap (λ z. signed (not same) (exactly_one z (rho q))) (sym (ap rho (eqb-true p 1 h) ∙ one)))
    (λ _. refl))

by_order : (p q : ℕ) (t : Bool) → nat_lt p q ≡ t → (p ≤ q) ⊎ (q ≤ p)
by_order p q true h = inl (grind (arith, nat_tests))
by_order p q false h = inr (grind (arith, nat_tests))

total : (p q : ℕ) → (p ≤ q) ⊎ (q ≤ p)
total p q = by_order p q (nat_lt p q) refl

min_left : (p q : ℕ) → p ≤ q → min p q ≡ p
min_left p q h = omega arith

min_right : (p q : ℕ) → q ≤ p → min p q ≡ q
min_right p q h = omega arith

max_right : (p q : ℕ) → p ≤ q → max p q ≡ q
max_right p q h = omega arith

max_left : (p q : ℕ) → q ≤ p → max p q ≡ p
max_left p q h = omega arith

min_max : (P : ℕ → ℕ → Type 0) (p q : ℕ) → P p q → P q p → P (min p q) (max p q)
min_max P p q here there = elim (total p q) [ inl h ↦ subst (λ z. P z (max p q)) (sym (min_left p q h)) (subst (P p) (sym (max_right p q h)) here) | inr h ↦ subst (λ z. P z (max p q)) (sym (min_right p q h)) (subst (P q) (sym (max_left p q h)) there) ]

pub plan_true-xor : (rho : ℕ → Bool) (a b : Lit) → rho 1 ≡ true → plan_true rho (xor_plan a b) ≡ exactly_one (literal_true rho a) (literal_true rho b)
plan_true-xor rho a b one =
    plan_true-variables rho (min a.variable b.variable) (max a.variable b.variable) (beq a.negative b.negative) one
    ∙ ap (signed (not (beq a.negative b.negative))) (min_max (λ p q. exactly_one (rho p) (rho q) ≡ exactly_one (rho a.variable) (rho b.variable)) a.variable b.variable refl (xor_swap (rho b.variable) (rho a.variable)))
    ∙ xor_signs a.negative b.negative (rho a.variable) (rho b.variable)

-- tables of the choice
choice_same : (c a b : Bool) → a ≡ b → (if c then a else b) ≡ a
choice_same true a b h = refl
choice_same false a b h = sym h

choice_opposite : (c a b : Bool) → a ≡ not b → exactly_one c b ≡ (if c then a else b)
choice_opposite true a b h = sym h
choice_opposite false a b h = refl

choice_or : (c a b : Bool) → (a ≡ true) ⊎ (a ≡ c) → (c || b) ≡ (if c then a else b)
choice_or true a b (inl h) = sym h
choice_or true a b (inr h) = sym h
choice_or false a b h = refl

choice_and : (c a b : Bool) → (a ≡ false) ⊎ (a ≡ not c) → (not c && b) ≡ (if c then a else b)
choice_and true a b (inl h) = sym h
choice_and true a b (inr h) = sym h
choice_and false a b h = refl

choice_or_not : (c a b : Bool) → (b ≡ true) ⊎ (b ≡ not c) → (not c || a) ≡ (if c then a else b)
choice_or_not true a b h = refl
choice_or_not false a b (inl h) = sym h
choice_or_not false a b (inr h) = sym h

choice_and_not : (c a b : Bool) → (b ≡ false) ⊎ (b ≡ c) → (c && a) ≡ (if c then a else b)
choice_and_not true a b h = refl
choice_and_not false a b (inl h) = sym h
choice_and_not false a b (inr h) = sym h

pub plan_true-mux : (rho : ℕ → Bool) (c a b : Lit) → rho 1 ≡ true → plan_true rho (mux_plan c a b) ≡ (if literal_true rho c then literal_true rho a else literal_true rho b)
plan_true-mux rho c a b one =
    let lc = literal_true rho c in
    let la = literal_true rho a in
    let lb = literal_true rho b in
    by_plan rho _ _ _ _ (λ h. sym (ap (λ z. (if z then la else lb)) (literal_true-is_true rho c one h)))
    (λ _. by_plan rho _ _ _ _ (λ h. sym (ap (λ z. (if z then la else lb)) (literal_true-is_false rho c one h)))
    (λ _. by_plan rho _ _ _ _ (λ h. sym (choice_same lc la lb (literal_true-same rho a b h)))
    (λ _. by_plan rho _ _ _ _ (λ h. plan_true-xor rho c b one ∙ choice_opposite lc la lb (literal_true-opposite rho a b h))
    (λ _. by_plan rho _ _ _ _ (λ h. plan_true-or rho c b one ∙ choice_or lc la lb (by_or (is_true a) (same_lit a c) h (λ t. inl (literal_true-is_true rho a one t)) (λ t. inr (literal_true-same rho a c t))))
    (λ _. by_plan rho _ _ _ _ (λ h. plan_true-and rho (negation c) b one ∙ ap (λ z. z && lb) (literal_true-not rho c) ∙ choice_and lc la lb (by_or (is_false a) (opposite_lits a c) h (λ t. inl (literal_true-is_false rho a one t)) (λ t. inr (literal_true-opposite rho a c t))))
    (λ _. by_plan rho _ _ _ _ (λ h. plan_true-or rho (negation c) a one ∙ ap (λ z. z || la) (literal_true-not rho c) ∙ choice_or_not lc la lb (by_or (is_true b) (opposite_lits b c) h (λ t. inl (literal_true-is_true rho b one t)) (λ t. inr (literal_true-opposite rho b c t))))
    (λ _. by_plan rho _ _ _ _ (λ h. plan_true-and rho c a one ∙ choice_and_not lc la lb (by_or (is_false b) (same_lit b c) h (λ t. inl (literal_true-is_false rho b one t)) (λ t. inr (literal_true-same rho b c t))))
    (λ _. refl))))))))
