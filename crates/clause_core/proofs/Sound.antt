-- An accepted step's clause is true wherever the held clauses are.
use Rattle.std.proofs.Common.{◌≡◌, ℕ, zero, suc, ◌+◌, Bool, true, false, not, ◌||◌, List, [], ◌∷◌, get_or, set, replicate, Option, Some, None, refl, sym, ◌∙◌, ap, subst, cond}
use Rattle.std.proofs.Math.Bool.{or-false}
use Rattle.std.specs.List.{list_any, slice_get}
use Rattle.std.proofs.lemmas.Bool.{false≢true, and_parts, or_parts, true_from_ne_false}
use Rattle.clause_core.specs.declared.literal.Lit.{Lit}
use Rattle.clause_core.specs.declared.truth.Truth.{Truth}
use Rattle.clause_core.specs.declared.truth.Truth.TheVariants.{Open, True, False}
use Rattle.clause_core.specs.declared.status.Status.{Status}
use Rattle.clause_core.specs.declared.status.Status.TheVariants.{Falsified, Unit as UnitLiteral, Neither}
use Rattle.clause_core.specs.declared.check.Outcome.{Outcome}
use Rattle.clause_core.specs.declared.check.Outcome.TheVariants.{Accepted}
use Rattle.clause_core.specs.Values.{value, put_true, put_false, is_false, signed_truth}
use Rattle.clause_core.specs.Satisfaction.{literal_true, clause_true, formula_true, signed}
use Rattle.clause_core.specs.Steps.{not_false, left_of, status_of_one, status_of_left, clause_status, assume_false, clause_at, after_status, at_hint, follow_hints, outcome}

-- a value does not contradict a truth
abbrev pub Fits : Truth → Bool → Type 0
Fits Open b = Unit {0}
Fits True b = b ≡ true
Fits False b = b ≡ false

abbrev pub Agrees : (ℕ → Bool) → List Truth → Type 0
Agrees v vs = (x : ℕ) → Fits (get_or vs x Open) (v x)

Fits-signed : (n : Bool) (t : Truth) (b : Bool) → Fits t b → Fits (signed_truth n t) (signed n b)
Fits-signed false t b h = h
Fits-signed true Open b h = tt
Fits-signed true True b h = ap not h
Fits-signed true False b h = ap not h

pub Fits-value : (v : ℕ → Bool) (vs : List Truth) (l : Lit) → Agrees v vs → Fits (value vs l) (literal_true v l)
Fits-value v vs l h = Fits-signed l.negative (get_or vs l.variable Open) (v l.variable) (h l.variable)

-- under an assignment that agrees, a clause is as true as its literals that are not false
any-skip : (t : Truth) (b r : Bool) (rest : Bool) → Fits t b → r ≡ rest → (b || r) ≡ cond (not (is_false t)) (b || rest) rest
any-skip Open b r rest h e = ap (λ z. b || z) e
any-skip True b r rest h e = ap (λ z. b || z) e
any-skip False b r rest h e = ap (λ z. z || r) h ∙ e

pub any_cond : {X : Type 0} (p : X → Bool) (c : Bool) (x : X) (xs : List X) → list_any p (cond c (x ∷ xs) xs) ≡ cond c (p x || list_any p xs) (list_any p xs)
any_cond p true x xs = refl
any_cond p false x xs = refl

pub clause_true-left : (v : ℕ → Bool) (vs : List Truth) (c : List Lit) → Agrees v vs → clause_true v c ≡ list_any (literal_true v) (left_of vs c)
clause_true-left v vs [] h = refl
clause_true-left v vs (l ∷ ls) h =
    any-skip (value vs l) (literal_true v l) (clause_true v ls) (list_any (literal_true v) (left_of vs ls)) (Fits-value v vs l h) (clause_true-left v vs ls h)
    ∙ sym (any_cond (literal_true v) (not_false vs l) l (left_of vs ls))

-- what a status says under an assignment that makes the clause true
abbrev Says : (ℕ → Bool) → Status → Type 0
Says v Falsified = ⊥
Says v (UnitLiteral l) = literal_true v l ≡ true
Says v Neither = Unit {0}

says-one : (v : ℕ → Bool) (t : Truth) (l : Lit) → literal_true v l ≡ true → Says v (status_of_one t l)
says-one v Open l h = h
says-one v True l h = tt
says-one v False l h = tt

says-left : (v : ℕ → Bool) (vs : List Truth) (ls : List Lit) → list_any (literal_true v) ls ≡ true → Says v (status_of_left vs ls)
says-left v vs [] h = absurd (false≢true h)
says-left v vs (l ∷ []) h = says-one v (value vs l) l (sym (or-false (literal_true v l)) ∙ h)
says-left v vs (l ∷ (m ∷ ms)) h = tt

pub says-clause_status : (v : ℕ → Bool) (vs : List Truth) (c : List Lit) → Agrees v vs → clause_true v c ≡ true → Says v (clause_status vs c)
says-clause_status v vs c a h = says-left v vs (left_of vs c) (sym (clause_true-left v vs c a) ∙ h)

-- writes that agree
Fits-put : (n b : Bool) → signed n b ≡ true → Fits (signed_truth n True) b
Fits-put true true h = sym h
Fits-put true false h = refl
Fits-put false b h = h

Fits-put_false : (n b : Bool) → signed n b ≡ false → Fits (signed_truth n False) b
Fits-put_false true true h = refl
Fits-put_false true false h = sym h
Fits-put_false false b h = h

pub get_or-set_cases : (vs : List Truth) (i x : ℕ) (t : Truth) (P : Truth → Type 0) → (x ≡ i → P t) → P (get_or vs x Open) → P (get_or (set vs i t) x Open)
get_or-set_cases [] i x t P here there = there
get_or-set_cases (u ∷ vs) zero zero t P here there = here refl
get_or-set_cases (u ∷ vs) zero (suc x) t P here there = there
get_or-set_cases (u ∷ vs) (suc i) zero t P here there = there
get_or-set_cases (u ∷ vs) (suc i) (suc x) t P here there = get_or-set_cases vs i x t P (λ e. here (ap suc e)) there

pub Agrees-put_true : (v : ℕ → Bool) (vs : List Truth) (l : Lit) → Agrees v vs → literal_true v l ≡ true → Agrees v (put_true vs l)
Agrees-put_true v vs l a h x =
    get_or-set_cases vs l.variable x (signed_truth l.negative True) (λ t. Fits t (v x))
    (λ e. subst (λ y. Fits (signed_truth l.negative True) (v y)) (sym e) (Fits-put l.negative (v l.variable) h)) (a x)

pub Agrees-put_false : (v : ℕ → Bool) (vs : List Truth) (l : Lit) → Agrees v vs → literal_true v l ≡ false → Agrees v (put_false vs l)
Agrees-put_false v vs l a h x =
    get_or-set_cases vs l.variable x (signed_truth l.negative False) (λ t. Fits t (v x))
    (λ e. subst (λ y. Fits (signed_truth l.negative False) (v y)) (sym e) (Fits-put_false l.negative (v l.variable) h)) (a x)

pub Agrees-assume_false : (v : ℕ → Bool) (c : List Lit) (vs : List Truth) → Agrees v vs → clause_true v c ≡ false → Agrees v (assume_false vs c)
Agrees-assume_false v [] vs a h = a
Agrees-assume_false v (l ∷ ls) vs a h =
    let p = or_parts (literal_true v l) (clause_true v ls) h in
    Agrees-assume_false v ls (put_false vs l) (Agrees-put_false v vs l a p.0) p.1

-- a held clause is true
true-at : (v : ℕ → Bool) (held : List (List Lit)) (i : ℕ) (c : List Lit) → formula_true v held ≡ true → slice_get held i ≡ Some c → clause_true v c ≡ true
true-at v [] i c h e = cc
true-at v (d ∷ ds) zero c h e =
    let p = and_parts (clause_true v d) (formula_true v ds) h in
    let same : d ≡ c = cc in
    subst (λ x. clause_true v x ≡ true) same p.0
true-at v (d ∷ ds) (suc i) c h e = true-at v ds i c (and_parts (clause_true v d) (formula_true v ds) h).1 e

-- the follow_hints never accepts from what agrees with a solution
abbrev Refused : Outcome → Type 0
Refused o = o ≡ Accepted → ⊥

refused-clause_status : (v : ℕ → Bool) (h : ℕ) (s : Status) (vs : List Truth) (go : List Truth → Outcome) → Says v s → ((l : Lit) → literal_true v l ≡ true → Refused (go (put_true vs l))) → Refused (after_status h s vs go)
refused-clause_status v h Falsified vs go says next = absurd says
refused-clause_status v h (UnitLiteral l) vs go says next = next l says
refused-clause_status v h Neither vs go says next = λ e. cc

clause_true-number : (v : ℕ → Bool) (held : List (List Lit)) → formula_true v held ≡ true → (i : ℕ) (c : List Lit) → clause_at held i ≡ Some c → clause_true v c ≡ true
clause_true-number v held f zero c e = cc
clause_true-number v held f (suc i) c e = true-at v held i c f e

refused-hint : (v : ℕ → Bool) (h : ℕ) (o : Option (List Lit)) (vs : List Truth) (go : List Truth → Outcome) → ((c : List Lit) → o ≡ Some c → clause_true v c ≡ true) → Agrees v vs → ((next : List Truth) → Agrees v next → Refused (go next)) → Refused (at_hint h o vs go)
refused-hint v h None vs go t a next = λ e. cc
refused-hint v h (Some c) vs go t a next =
    refused-clause_status v h (clause_status vs c) vs go (says-clause_status v vs c a (t c refl)) (λ l lt. next (put_true vs l) (Agrees-put_true v vs l a lt))

pub follow_hints-refuses : (v : ℕ → Bool) (held : List (List Lit)) → formula_true v held ≡ true → (hs : List ℕ) (vs : List Truth) → Agrees v vs → Refused (follow_hints held vs hs)
follow_hints-refuses v held f [] vs a = λ e. cc
follow_hints-refuses v held f (h ∷ hs) vs a =
    refused-hint v h (clause_at held h) vs (λ next. follow_hints held next hs) (clause_true-number v held f h) a (λ next n. follow_hints-refuses v held f hs next n)

Fits-unassigned : (n x : ℕ) (b : Bool) → Fits (get_or (replicate n Open) x Open) b
Fits-unassigned zero x b = tt
Fits-unassigned (suc n) zero b = tt
Fits-unassigned (suc n) (suc x) b = Fits-unassigned n x b

Agrees-unassigned : (v : ℕ → Bool) (n : ℕ) → Agrees v (replicate n Open)
Agrees-unassigned v n x = Fits-unassigned n x (v x)

-- an accepted step
pub clause_true-accepted : (variables : ℕ) (held : List (List Lit)) (c : List Lit) (hs : List ℕ) → outcome variables held c hs ≡ Accepted → (v : ℕ → Bool) → formula_true v held ≡ true → clause_true v c ≡ true
clause_true-accepted variables held c hs e v f =
    true_from_ne_false (clause_true v c) (λ no. follow_hints-refuses v held f hs (assume_false (replicate (variables + 1) Open) c) (Agrees-assume_false v c (replicate (variables + 1) Open) (Agrees-unassigned v (variables + 1)) no) e)
