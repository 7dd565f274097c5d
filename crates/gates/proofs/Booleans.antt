-- Tests on literals, as facts.
use Rattle.std.proofs.Common.{◌≡◌, ℕ, Bool, true, false, not, ◌||◌, nat_eq, refl, sym, ◌∙◌, ap}
use Rattle.std.specs.Bool.{beq}
use Rattle.std.proofs.lemmas.Bool.{and_parts, not-true, eqb-true}
use Rattle.clause_core.specs.declared.literal.Lit.{Lit}
use Rattle.clause_core.specs.Values.{negation}
use Rattle.clause_core.specs.Satisfaction.{literal_true, signed}
use Rattle.gates.specs.Literals.{is_true, is_false, same_lit, opposite_lits}

pub by_or : {P : Type 0} → (a b : Bool) → (a || b) ≡ true → (a ≡ true → P) → (b ≡ true → P) → P
by_or true b h left right = left refl
by_or false b h left right = right h

pub beq-true : (a b : Bool) → beq a b ≡ true → a ≡ b
beq-true true true h = refl
beq-true true false h = sym h
beq-true false true h = h
beq-true false false h = refl

beq-false : (a b : Bool) → not (beq a b) ≡ true → a ≡ not b
beq-false true true h = sym h
beq-false true false h = refl
beq-false false true h = refl
beq-false false false h = h

pub signed-not : (s b : Bool) → signed (not s) b ≡ not (signed s b)
signed-not true true = refl
signed-not true false = refl
signed-not false true = refl
signed-not false false = refl

pub literal_true-not : (v : ℕ → Bool) (a : Lit) → literal_true v (negation a) ≡ not (literal_true v a)
literal_true-not v a = signed-not a.negative (v a.variable)

pub literal_true-is_true : (v : ℕ → Bool) (a : Lit) → v 1 ≡ true → is_true a ≡ true → literal_true v a ≡ true
literal_true-is_true v a one h =
    let (is, plain) = and_parts (nat_eq a.variable 1) (not a.negative) h in
    ap (λ z. signed z (v a.variable)) (not-true a.negative plain) ∙ ap v (eqb-true a.variable 1 is) ∙ one

pub literal_true-is_false : (v : ℕ → Bool) (a : Lit) → v 1 ≡ true → is_false a ≡ true → literal_true v a ≡ false
literal_true-is_false v a one h =
    let (is, negative) = and_parts (nat_eq a.variable 1) a.negative h in
    ap (λ z. signed z (v a.variable)) negative ∙ ap (λ z. not (v z)) (eqb-true a.variable 1 is) ∙ ap not one

pub literal_true-same : (v : ℕ → Bool) (a b : Lit) → same_lit a b ≡ true → literal_true v a ≡ literal_true v b
literal_true-same v a b h =
    let (is, sign) = and_parts (nat_eq a.variable b.variable) (beq a.negative b.negative) h in
    ap (λ z. signed z (v a.variable)) (beq-true a.negative b.negative sign) ∙ ap (λ z. signed b.negative (v z)) (eqb-true a.variable b.variable is)

pub literal_true-opposite : (v : ℕ → Bool) (a b : Lit) → opposite_lits a b ≡ true → literal_true v a ≡ not (literal_true v b)
literal_true-opposite v a b h =
    let (is, sign) = and_parts (nat_eq a.variable b.variable) (not (beq a.negative b.negative)) h in
    ap (λ z. signed z (v a.variable)) (beq-false a.negative b.negative sign) ∙ ap (λ z. signed (not b.negative) (v z)) (eqb-true a.variable b.variable is)
    ∙ signed-not b.negative (v b.variable)
