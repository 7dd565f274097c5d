-- One more variable in a scope.
use Rattle.std.proofs.Common.{◌≡◌, ℕ, suc, ◌+◌, List, [], ◌∷◌, ◌++◌, length, Bool, true, false, ◌||◌, nat_lt, Option, Some, None, option_map, is_some, refl, sym, ap, ◌∙◌, if◌then◌else◌, count_by, arith, add-zero, zero-add}
use Rattle.std.specs.List.{list_any}
use Rattle.std.specs.Cmp.Lexicographic.{bytes_decides}
use Rattle.std.proofs.lemmas.Bool.Decides.{nat_tests}
use Rattle.std.proofs.lemmas.Bool.{or_right}
use Rattle.naming.specs.Scopes.{Variable, is_of_name, is_fault, is_doubled_among}
use Rattle.naming.specs.Slots.{found, slot_of, slot_among, entered}
use Rattle.naming.proofs.CountLemmas.{count-cons, count-push}

pub same_name : (v : Variable) (q : List ℕ) → is_of_name q v ≡ true → v.name.text ≡ q
same_name v q h = (bytes_decides v.name.text q).0 h

-- what is found once a variable is declared behind others
abbrev pushed : List ℕ → ℕ → Variable → Option (ℕ × Variable) → Option (ℕ × Variable)
pushed q number v (Some f) = Some f
pushed q number v None = if is_of_name q v then Some (number, v) else None

found-push : (q : List ℕ) (n : ℕ) (xs : List Variable) (v : Variable) → found q n (xs ++ v ∷ []) ≡ pushed q (n + length xs) v (found q n xs)
found-push q n [] v = rw add-zero refl
found-push q n (x ∷ xs) v = by (is_of_name q x) (found-push q (n + 1) xs v)
  where
    more : n + 1 + length xs ≡ n + suc (length xs)
    more = omega arith

    by : (b : Bool) → found q (n + 1) (xs ++ v ∷ []) ≡ pushed q (n + 1 + length xs) v (found q (n + 1) xs)
        → (if b then Some (n, x) else found q (n + 1) (xs ++ v ∷ [])) ≡ pushed q (n + suc (length xs)) v (if b then Some (n, x) else found q (n + 1) xs)
    by true rest = refl
    by false rest = rest ∙ ap (λ k. pushed q k v (found q (n + 1) xs)) more

-- a name that is found is counted
pub found-count : (q : List ℕ) (n : ℕ) (xs : List Variable) → is_some (found q n xs) ≡ nat_lt 0 (count_by (is_of_name q) xs)
found-count q n [] = refl
found-count q n (x ∷ xs) = by (is_of_name q x) (found-count q (n + 1) xs) ∙ ap (nat_lt 0) (sym (count-cons (is_of_name q) x xs))
  where
    by : (b : Bool) → is_some (found q (n + 1) xs) ≡ nat_lt 0 (count_by (is_of_name q) xs)
        → is_some (if b then Some (n, x) else found q (n + 1) xs) ≡ nat_lt 0 ((if b then 1 else 0) + count_by (is_of_name q) xs)
    by true rest = grind (arith, nat_tests)
    by false rest = rest ∙ ap (nat_lt 0) (sym (zero-add (count_by (is_of_name q) xs)))

pub found-any : (q : List ℕ) (n : ℕ) (xs : List Variable) → is_some (found q n xs) ≡ list_any (is_of_name q) xs
found-any q n [] = refl
found-any q n (x ∷ xs) = by (is_of_name q x) (found-any q (n + 1) xs)
  where
    by : (b : Bool) → is_some (found q (n + 1) xs) ≡ list_any (is_of_name q) xs → is_some (if b then Some (n, x) else found q (n + 1) xs) ≡ (b || list_any (is_of_name q) xs)
    by true rest = refl
    by false rest = rest

-- ---- whether a name is doubled, once a variable is declared behind others

other_name : (fault : Bool) (q : List ℕ) (xs : List Variable) (v : Variable) → is_of_name q v ≡ false → is_doubled_among fault (xs ++ v ∷ []) q ≡ is_doubled_among fault xs q
other_name fault q xs v h = ap (λ n. is_fault fault q || nat_lt 1 n) (count-push (is_of_name q) xs v ∙ ap (λ b. count_by (is_of_name q) xs + (if b then 1 else 0)) h ∙ add-zero (count_by (is_of_name q) xs))

pub or_false : (b c : Bool) → c ≡ false → (b || c) ≡ b
or_false true c h = refl
or_false false c h = h

known_name : (fault : Bool) (q : List ℕ) (xs : List Variable) (v : Variable) → is_of_name q v ≡ true → is_some (found q 1 xs) ≡ true → is_doubled_among fault (xs ++ v ∷ []) q ≡ true
known_name fault q xs v h some =
    let n : count_by (is_of_name q) (xs ++ v ∷ []) ≡ count_by (is_of_name q) xs + 1 = count-push (is_of_name q) xs v ∙ ap (λ b. count_by (is_of_name q) xs + (if b then 1 else 0)) h in
    let counted : nat_lt 0 (count_by (is_of_name q) xs) ≡ true = sym (found-count q 1 xs) ∙ some in
    or_right (is_fault fault q) (nat_lt 1 (count_by (is_of_name q) (xs ++ v ∷ []))) (rw n (grind (arith, nat_tests)))

new_name : (fault : Bool) (q : List ℕ) (xs : List Variable) (v : Variable) → is_of_name q v ≡ true → is_some (found q 1 xs) ≡ false → is_doubled_among fault (xs ++ v ∷ []) q ≡ is_fault fault v.name.text
new_name fault q xs v h none =
    let n : count_by (is_of_name q) (xs ++ v ∷ []) ≡ count_by (is_of_name q) xs + 1 = count-push (is_of_name q) xs v ∙ ap (λ b. count_by (is_of_name q) xs + (if b then 1 else 0)) h in
    let counted : nat_lt 0 (count_by (is_of_name q) xs) ≡ false = sym (found-count q 1 xs) ∙ none in
    or_false (is_fault fault q) (nat_lt 1 (count_by (is_of_name q) (xs ++ v ∷ []))) (rw n (grind (arith, nat_tests))) ∙ ap (is_fault fault) (sym (same_name v q h))

slot-push : (fault : Bool) (q : List ℕ) (xs : List Variable) (v : Variable) (o : Option (ℕ × Variable)) (b : Bool) → found q 1 xs ≡ o → is_of_name q v ≡ b
    → option_map (slot_of (is_doubled_among fault (xs ++ v ∷ []) q)) (pushed q (1 + length xs) v o) ≡ (if b then Some (entered fault (length xs + 1) v (option_map (slot_of (is_doubled_among fault xs q)) o)) else option_map (slot_of (is_doubled_among fault xs q)) o)
slot-push fault q xs v (Some f) true e h = ap (λ d. Some (slot_of d f)) (known_name fault q xs v h (ap is_some e))
slot-push fault q xs v (Some f) false e h = ap (λ d. Some (slot_of d f)) (other_name fault q xs v h)
slot-push fault q xs v None true e h = rw (h, new_name fault q xs v h (ap is_some e)) (ap (λ k. Some (slot_of (is_fault fault v.name.text) (k, v))) (omega arith))
slot-push fault q xs v None false e h = rw h refl

pub slot_among-push : (fault : Bool) (q : List ℕ) (xs : List Variable) (v : Variable) → slot_among fault (xs ++ v ∷ []) q ≡ (if is_of_name q v then Some (entered fault (length xs + 1) v (slot_among fault xs q)) else slot_among fault xs q)
slot_among-push fault q xs v = ap (option_map (slot_of (is_doubled_among fault (xs ++ v ∷ []) q))) (found-push q 1 xs v) ∙ slot-push fault q xs v (found q 1 xs) (is_of_name q v) refl refl
