-- What a slot says of a name's uses is what the variables say.
use Rattle.std.proofs.Common.{◌≡◌, ℕ, zero, suc, ◌+◌, ◌-◌, ◌≤◌, List, [], ◌∷◌, Bool, true, false, nat_lt, Option, Some, None, option_map, is_some, refl, sym, ap, ◌∙◌, if◌then◌else◌, count_by, arith}
use Rattle.std.specs.List.{slice_get}
use Rattle.std.proofs.lemmas.Bool.Decides.{nat_tests}
use Rattle.naming.specs.declared.slot.Slot.{Slot}
use Rattle.naming.specs.Scopes.{Variable, is_of_name, variable_named, is_fault, is_doubled_among}
use Rattle.naming.specs.Slots.{found, slot_of, slot_among}
use Rattle.naming.proofs.SlotLemmas.{same_name, found-count, or_false}

abbrev pub variable_of : ℕ × Variable → Variable
variable_of f = f.1

pub variable_named-found : (q : List ℕ) (n : ℕ) (vs : List Variable) → variable_named q vs ≡ option_map variable_of (found q n vs)
variable_named-found q n [] = refl
variable_named-found q n (v ∷ vs) = by (is_of_name q v) (variable_named-found q (n + 1) vs)
  where
    by : (b : Bool) → variable_named q vs ≡ option_map variable_of (found q (n + 1) vs)
        → (if b then Some v else variable_named q vs) ≡ option_map variable_of (if b then Some (n, v) else found q (n + 1) vs)
    by true rest = refl
    by false rest = rest

-- what is found has the name
pub found_name : (q : List ℕ) (n : ℕ) (vs : List Variable) (f : ℕ × Variable) → found q n vs ≡ Some f → f.1.name.text ≡ q
found_name q n [] f h = absurd (let e : ⊥ = cc in e)
found_name q n (v ∷ vs) f h = by (is_of_name q v) refl (found_name q (n + 1) vs f) h
  where
    by : (b : Bool) → is_of_name q v ≡ b → (found q (n + 1) vs ≡ Some f → f.1.name.text ≡ q) → (if b then Some (n, v) else found q (n + 1) vs) ≡ Some f → f.1.name.text ≡ q
    by true e rest k = let g : v ≡ f.1 = (let i : (n, v) ≡ f = cc in ap (λ p. p.1) i) in ap (λ w. w.name.text) (sym g) ∙ same_name v q e
    by false e rest k = rest k

pub found_from : (q : List ℕ) (n : ℕ) (vs : List Variable) (f : ℕ × Variable) → found q n vs ≡ Some f → n ≤ f.0
found_from q n [] f h = absurd (let e : ⊥ = cc in e)
found_from q n (v ∷ vs) f h = by (is_of_name q v) (found_from q (n + 1) vs f) h
  where
    by : (b : Bool) → (found q (n + 1) vs ≡ Some f → n + 1 ≤ f.0) → (if b then Some (n, v) else found q (n + 1) vs) ≡ Some f → n ≤ f.0
    by true rest k = let g : n ≡ f.0 = (let i : (n, v) ≡ f = cc in ap (λ p. p.0) i) in omega arith
    by false rest k = let g = rest k in omega arith

-- the variable of a number
found_at : (q : List ℕ) (n i : ℕ) (vs : List Variable) (f : ℕ × Variable) → found q n vs ≡ Some f → f.0 ≡ n + i → slice_get vs i ≡ Some f.1
found_at q n i [] f h at = absurd (let e : ⊥ = cc in e)
found_at q n i (v ∷ vs) f h at = by (is_of_name q v) i (λ j. found_at q (n + 1) j vs f) h at
  where
    by : (b : Bool) (i : ℕ) → ((j : ℕ) → found q (n + 1) vs ≡ Some f → f.0 ≡ n + 1 + j → slice_get vs j ≡ Some f.1) → (if b then Some (n, v) else found q (n + 1) vs) ≡ Some f → f.0 ≡ n + i → slice_get (v ∷ vs) i ≡ Some f.1
    by true zero rest k at = let i : (n, v) ≡ f = cc in ap (λ p. Some p.1) i
    by true (suc i) rest k at = let g : n ≡ f.0 = (let i : (n, v) ≡ f = cc in ap (λ p. p.0) i) in absurd (omega arith)
    by false zero rest k at = let low = found_from q (n + 1) vs f k in absurd (omega arith)
    by false (suc i) rest k at = rest i k (omega arith)

-- ---- what a slot says

slot_some : (d : Bool) (o : Option (ℕ × Variable)) (s : Slot) → option_map (slot_of d) o ≡ Some s → (g : ℕ × Variable) × (o ≡ Some g) × (slot_of d g ≡ s)
slot_some d None s h = absurd (let e : ⊥ = cc in e)
slot_some d (Some g) s h = (g, refl, let e : slot_of d g ≡ s = cc in e)

pub record IsSlotOf (fault : Bool) (vs : List Variable) (q : List ℕ) (s : Slot) (v : Variable) : Type 0 where
  pub found : found q 1 vs ≡ Some (s.number, v)
  pub doubled : s.is_doubled ≡ is_doubled_among fault vs q
  pub counted : 1 ≤ s.number
  pub at : slice_get vs (s.number - 1) ≡ Some v

pub slot_says : (fault : Bool) (vs : List Variable) (q : List ℕ) (s : Slot) → slot_among fault vs q ≡ Some s → (v : Variable) × IsSlotOf fault vs q s v
slot_says fault vs q s h =
    let r = slot_some (is_doubled_among fault vs q) (found q 1 vs) s h in
    let number : r.0.0 ≡ s.number = ap (λ x. x.number) r.2 in
    let low = found_from q 1 vs r.0 r.1 in (
      r.0.1,
      record {
        found = r.1 ∙ ap (λ n. Some (n, r.0.1)) number;
        doubled = ap (λ x. x.is_doubled) (sym r.2);
        counted = omega arith;
        at = found_at q 1 (s.number - 1) vs r.0 r.1 (omega arith);
      },
    )

pub no_slot : (fault : Bool) (vs : List Variable) (q : List ℕ) → slot_among fault vs q ≡ None → found q 1 vs ≡ None
no_slot fault vs q h = by (found q 1 vs) h
  where
    by : (o : Option (ℕ × Variable)) → option_map (slot_of (is_doubled_among fault vs q)) o ≡ None → o ≡ None
    by None k = refl
    by (Some g) k = absurd (let e : ⊥ = cc in e)

pub none_doubled : (fault : Bool) (vs : List Variable) (q : List ℕ) → slot_among fault vs q ≡ None → is_fault fault q ≡ is_doubled_among fault vs q
none_doubled fault vs q h =
    let few : nat_lt 0 (count_by (is_of_name q) vs) ≡ false = sym (found-count q 1 vs) ∙ ap is_some (no_slot fault vs q h) in
    sym (or_false (is_fault fault q) (nat_lt 1 (count_by (is_of_name q) vs)) (grind (arith, nat_tests)))

is_some-map : {A B : Type 0} (f : A → B) (o : Option A) → is_some (option_map f o) ≡ is_some o
is_some-map f None = refl
is_some-map f (Some a) = refl

pub slot-variable : (fault : Bool) (vs : List Variable) (q : List ℕ) → is_some (slot_among fault vs q) ≡ is_some (variable_named q vs)
slot-variable fault vs q = is_some-map (slot_of (is_doubled_among fault vs q)) (found q 1 vs) ∙ sym (is_some-map variable_of (found q 1 vs)) ∙ ap is_some (sym (variable_named-found q 1 vs))

-- ---- what is known of a name's variable

pub none_known : {A : Type 0} (g : Variable → A) (q : List ℕ) (vs : List Variable) → None ≡ found q 1 vs → None ≡ option_map g (variable_named q vs)
none_known g q vs h = ap (λ o. option_map g (option_map variable_of o)) h ∙ ap (option_map g) (sym (variable_named-found q 1 vs))
