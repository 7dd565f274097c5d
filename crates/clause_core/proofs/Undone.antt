-- Opening what a step mentions undoes what its check assigned.
use Rattle.std.proofs.Common.{◌≡◌, ◌≢◌, ℕ, zero, suc, ◌<◌, ◌==◌, Bool, true, false, ◌||◌, List, [], ◌∷◌, length, get_or, set, replicate, Option, Some, None, inl, inr, refl, sym, ◌∙◌, ap, subst, arith}
use Rattle.std.specs.List.{list_any}
use Rattle.std.proofs.lemmas.Bool.{false≢true, cases_Bool, or_parts, or_left, or_right}
use Rattle.std.proofs.lemmas.Bool.Decides.{nat_tests}
use Rattle.clause_core.specs.declared.literal.Lit.{Lit}
use Rattle.clause_core.specs.declared.truth.Truth.{Truth}
use Rattle.clause_core.specs.declared.truth.Truth.TheVariants.{Open, True, False}
use Rattle.clause_core.specs.declared.status.Status.{Status}
use Rattle.clause_core.specs.declared.status.Status.TheVariants.{Falsified, Unit as UnitLiteral, Neither}
use Rattle.clause_core.specs.Values.{put_true, put_false, signed_truth}
use Rattle.clause_core.specs.Steps.{left_of, clause_status, assume_false, clause_at}
use Rattle.clause_core.specs.Undoing.{values_after_status, values_after_hint, after_hints, reopened, reopened_clause, reopened_at}
use Rattle.clause_core.proofs.Sound.{get_or-set_cases}
use Rattle.clause_core.proofs.ClosedLists.{has-one, left-clause_status}

abbrev pub IsOpenAt : List Truth → ℕ → Type 0
IsOpenAt vs x = get_or vs x Open ≡ Open

-- the variable stands in the clause
abbrev pub occurs : ℕ → List Lit → Bool
occurs x c = list_any (λ l. l.variable == x) c

apart : (a b : ℕ) → (a == b) ≡ false → a ≢ b
apart a b h e = absurd (grind (arith, nat_tests))

same : (a b : ℕ) → (a == b) ≡ true → a ≡ b
same a b h = grind (arith, nat_tests)

equal : (a b : ℕ) → a ≡ b → (a == b) ≡ true
equal a b h = grind (arith, nat_tests)

occurs-at : (c : List Lit) (i : ℕ) (p : Lit) → i < length c → get_or c i p ≡ p → occurs p.variable c ≡ true
occurs-at [] i p lt e = absurd (omega arith)
occurs-at (l ∷ ls) zero p lt e = or_left (l.variable == p.variable) (occurs p.variable ls) (equal l.variable p.variable (ap (λ (z : Lit). z.variable) e))
occurs-at (l ∷ ls) (suc i) p lt e = or_right (l.variable == p.variable) (occurs p.variable ls) (occurs-at ls i p (omega arith) e)

occurs-unit : (vs : List Truth) (c : List Lit) (l : Lit) → clause_status vs c ≡ UnitLiteral l → occurs l.variable c ≡ true
occurs-unit vs c l e =
    let has = has-one vs l c (left-clause_status vs (left_of vs c) l e) in
    occurs-at c has.0 l has.1 has.2

set-other : (vs : List Truth) (y x : ℕ) (t : Truth) → y ≢ x → get_or (set vs y t) x Open ≡ get_or vs x Open
set-other vs y x t ne = get_or-set_cases vs y x t (λ u. u ≡ get_or vs x Open) (λ e. absurd (ne (sym e))) refl

assume_false-other : (x : ℕ) (c : List Lit) (vs : List Truth) → occurs x c ≡ false → get_or (assume_false vs c) x Open ≡ get_or vs x Open
assume_false-other x [] vs out = refl
assume_false-other x (l ∷ ls) vs out =
    let parts = or_parts (l.variable == x) (occurs x ls) out in
    assume_false-other x ls (put_false vs l) parts.1 ∙ set-other vs l.variable x (signed_truth l.negative False) (apart l.variable x parts.0)

-- what is open stays open, and what stands in the clause becomes open
reopened-open : (x : ℕ) (c : List Lit) (vs : List Truth) → IsOpenAt vs x → IsOpenAt (reopened vs c) x
reopened-open x [] vs h = h
reopened-open x (l ∷ ls) vs h = reopened-open x ls (set vs l.variable Open) (get_or-set_cases vs l.variable x Open (λ u. u ≡ Open) (λ _. refl) h)

set-open : (vs : List Truth) (x y : ℕ) → y ≡ x → IsOpenAt (set vs y Open) x
set-open [] x y e = refl
set-open (u ∷ vs) zero zero e = refl
set-open (u ∷ vs) (suc x) zero e = absurd (omega arith)
set-open (u ∷ vs) zero (suc y) e = absurd (omega arith)
set-open (u ∷ vs) (suc x) (suc y) e = set-open vs x y (omega arith)

reopened-occurs : (x : ℕ) (c : List Lit) (vs : List Truth) → occurs x c ≡ true → IsOpenAt (reopened vs c) x
reopened-occurs x [] vs h = absurd (false≢true h)
reopened-occurs x (l ∷ ls) vs h = elim (cases_Bool (l.variable == x)) [
  | inl e ↦ reopened-open x ls (set vs l.variable Open) (set-open vs x l.variable (same l.variable x e))
  | inr e ↦ reopened-occurs x ls (set vs l.variable Open) (sym (ap (λ z. z || occurs x ls) e) ∙ h)
]

-- the variable stands in a clause that a hint names
abbrev pub occurs_in : ℕ → Option (List Lit) → Bool
occurs_in x None = false
occurs_in x (Some c) = occurs x c

abbrev pub mentions : ℕ → List (List Lit) → List ℕ → Bool
mentions x held [] = false
mentions x held (h ∷ hs) = occurs_in x (clause_at held h) || mentions x held hs

after_status-other : (x : ℕ) (s : Status) (vs : List Truth) (go : List Truth → List Truth) → ((l : Lit) → s ≡ UnitLiteral l → l.variable ≢ x) → ((next : List Truth) → get_or (go next) x Open ≡ get_or next x Open) → get_or (values_after_status s vs go) x Open ≡ get_or vs x Open
after_status-other x Falsified vs go ne rest = refl
after_status-other x (UnitLiteral l) vs go ne rest = rest (put_true vs l) ∙ set-other vs l.variable x (signed_truth l.negative True) (ne l refl)
after_status-other x Neither vs go ne rest = refl

after_hint-other : (x : ℕ) (o : Option (List Lit)) (vs : List Truth) (go : List Truth → List Truth) → occurs_in x o ≡ false → ((next : List Truth) → get_or (go next) x Open ≡ get_or next x Open) → get_or (values_after_hint o vs go) x Open ≡ get_or vs x Open
after_hint-other x None vs go out rest = refl
after_hint-other x (Some c) vs go out rest =
    after_status-other x (clause_status vs c) vs go (λ l e is. false≢true (sym out ∙ subst (λ y. occurs y c ≡ true) is (occurs-unit vs c l e))) rest

after_hints-other : (x : ℕ) (held : List (List Lit)) (hs : List ℕ) (vs : List Truth) → mentions x held hs ≡ false → get_or (after_hints held vs hs) x Open ≡ get_or vs x Open
after_hints-other x held [] vs out = refl
after_hints-other x held (h ∷ hs) vs out =
    let parts = or_parts (occurs_in x (clause_at held h)) (mentions x held hs) out in
    after_hint-other x (clause_at held h) vs (λ next. after_hints held next hs) parts.0 (λ next. after_hints-other x held hs next parts.1)

reopened_clause-open : (x : ℕ) (o : Option (List Lit)) (vs : List Truth) → IsOpenAt vs x → IsOpenAt (reopened_clause vs o) x
reopened_clause-open x None vs h = h
reopened_clause-open x (Some c) vs h = reopened-open x c vs h

reopened_clause-occurs : (x : ℕ) (o : Option (List Lit)) (vs : List Truth) → occurs_in x o ≡ true → IsOpenAt (reopened_clause vs o) x
reopened_clause-occurs x None vs h = absurd (false≢true h)
reopened_clause-occurs x (Some c) vs h = reopened-occurs x c vs h

reopened_at-open : (x : ℕ) (held : List (List Lit)) (hs : List ℕ) (vs : List Truth) → IsOpenAt vs x → IsOpenAt (reopened_at held vs hs) x
reopened_at-open x held [] vs h = h
reopened_at-open x held (n ∷ hs) vs h = reopened_at-open x held hs (reopened_clause vs (clause_at held n)) (reopened_clause-open x (clause_at held n) vs h)

reopened_at-mentions : (x : ℕ) (held : List (List Lit)) (hs : List ℕ) (vs : List Truth) → mentions x held hs ≡ true → IsOpenAt (reopened_at held vs hs) x
reopened_at-mentions x held [] vs h = absurd (false≢true h)
reopened_at-mentions x held (n ∷ hs) vs h = elim (cases_Bool (occurs_in x (clause_at held n))) [
  | inl e ↦ reopened_at-open x held hs (reopened_clause vs (clause_at held n)) (reopened_clause-occurs x (clause_at held n) vs e)
  | inr e ↦ reopened_at-mentions x held hs (reopened_clause vs (clause_at held n)) (sym (ap (λ z. z || mentions x held hs) e) ∙ h)
]

all_open : (n : ℕ) (vs : List Truth) → length vs ≡ n → ((x : ℕ) → IsOpenAt vs x) → vs ≡ replicate n Open
all_open zero [] e h = refl
all_open zero (v ∷ vs) e h = absurd (omega arith)
all_open (suc n) [] e h = absurd (omega arith)
all_open (suc n) (v ∷ vs) e h = ap (λ z. z ∷ vs) (h 0) ∙ ap (λ z. Open ∷ z) (all_open n vs (omega arith) (λ x. h (suc x)))

replicate-open : (n x : ℕ) → IsOpenAt (replicate n Open) x
replicate-open zero x = refl
replicate-open (suc n) zero = refl
replicate-open (suc n) (suc x) = replicate-open n x

undone-at : (x : ℕ) (held : List (List Lit)) (vs : List Truth) (c : List Lit) (hs : List ℕ) → IsOpenAt vs x → IsOpenAt (reopened (reopened_at held (after_hints held (assume_false vs c) hs) hs) c) x
undone-at x held vs c hs o =
    let walked = after_hints held (assume_false vs c) hs in
    elim (cases_Bool (occurs x c)) [
      | inl e ↦ reopened-occurs x c (reopened_at held walked hs) e
      | inr e ↦ elim (cases_Bool (mentions x held hs)) [
        | inl m ↦ reopened-open x c (reopened_at held walked hs) (reopened_at-mentions x held hs walked m)
        | inr m ↦ reopened-open x c (reopened_at held walked hs) (reopened_at-open x held hs walked (after_hints-other x held hs (assume_false vs c) m ∙ assume_false-other x c vs e ∙ o))
      ]
    ]

pub undone : (held : List (List Lit)) (vs ws : List Truth) (c : List Lit) (hs : List ℕ) → vs ≡ replicate (length vs) Open → ws ≡ reopened (reopened_at held (after_hints held (assume_false vs c) hs) hs) c → length ws ≡ length vs → ws ≡ vs
undone held vs ws c hs o e n =
    all_open (length vs) ws n (λ x. ap (λ z. get_or z x Open) e ∙ undone-at x held vs c hs (ap (λ z. get_or z x Open) o ∙ replicate-open (length vs) x)) ∙ sym o
