-- A data type of either program has the same values in a pair.
use Rattle.std.proofs.Common.{◌≡◌, ◌+◌, ℕ, zero, suc, ℤ, pos, Bool, true, false, List, [], ◌∷◌, ◌++◌, length, Option, Some, None, refl, sym, ap, ◌∙◌, subst, arith, if◌then◌else◌}
use Rattle.std.specs.Prelude.{unwrap_or, option_and_then}
use Rattle.std.specs.Str.{bytes_eq}
use Rattle.std.proofs.lemmas.Bool.{false≢true, and_parts}
use Rattle.plc_types.specs.declared.elementary.Elementary.TheVariants as types
use Rattle.plc_types.specs.declared.data_type.DataType.{DataType}
use Rattle.plc_types.specs.declared.data_type.DataType.TheVariants as kinds
use Rattle.plc_types.specs.DataTypes.{carrier}
use Rattle.plc_types.specs.Types.{range_of, in_range}
use Rattle.plc_types.specs.Enumerations.{value_named, are_same_names, names_at, if_same, old_type_of, paired_number, paired_type}
use Rattle.plc_types.specs.declared.range.Range.{Range}
use Rattle.program_tree.specs.declared.scratch.Scratch.{Scratch}
use Rattle.meaning.specs.StaysIn.{covers}
use Rattle.typing.specs.Typing.{is_unknown}
use Rattle.typing.specs.Programs.{own_type}
use Rattle.stated_cells.specs.typed_scopes.Types.{range_of_type, IsKnown, IsPlaceOf}
use Rattle.stated_cells.specs.StatedCells.{last_number, last_of, has_values, IsOfTypes}

-- what a data type is in a pair has its values
pub record IsPaired (own all : ℕ → ℤ) (t u : DataType) : Type 0 where
  pub carries : carrier u ≡ carrier t
  pub range : range_of_type all u ≡ range_of_type own t
  pub known : IsKnown own t → IsKnown all u
  pub named : is_unknown u ≡ false

-- a place of the one is a place of the other
pub placed_too : (own all : ℕ → ℤ) (t u : DataType) (p : Scratch) → IsPaired own all t u → IsPlaceOf own t p → IsPlaceOf all u p
placed_too own all t u p pair place = record {
  known = pair.known place.known;
  kind = place.kind ∙ sym pair.carries;
  within = subst (λ (r : Range). covers r p.range ≡ true) (sym pair.range) place.within;
  whole = λ all_values. place.whole all_values ∙ sym pair.range;
}

abbrev Types : Type 0
Types = List (List (List ℕ))

-- ---- the enumerations of both programs, one after the other

names_left : (old new : Types) (t : ℕ) → has_values (names_at old t) ≡ true → names_at (old ++ new) t ≡ names_at old t
names_left [] new t some = absurd (false≢true some)
names_left (ns ∷ old) new zero some = refl
names_left (ns ∷ old) new (suc t) some = names_left old new t some

names_right : (old new : Types) (t : ℕ) → names_at (old ++ new) (length old + t) ≡ names_at new t
names_right [] new t = let e : 0 + t ≡ t = omega arith in ap (λ (n : ℕ). names_at new n) e
names_right (ns ∷ old) new t =
    let e : length (ns ∷ old) + t ≡ suc (length old + t) = omega arith in
    ap (λ (n : ℕ). names_at (ns ∷ (old ++ new)) n) e ∙ names_right old new t

enumeration_paired : (own all : ℕ → ℤ) (n q : ℕ) → all q ≡ own n → IsPaired own all (kinds.Enumeration n) (kinds.Enumeration q)
enumeration_paired own all n q same = record {
  carries = refl;
  range = λ i. record { low = pos 0; high = same i };
  known = λ h. subst (λ (v : ℤ). in_range v (range_of types.Usint) ≡ true) (sym same) h;
  named = refl;
}

elementary_paired : (own all : ℕ → ℤ) (k : _) → IsPaired own all (kinds.Elementary k) (kinds.Elementary k)
elementary_paired own all k = record { carries = refl; range = refl; known = λ h. tt; named = refl }

-- a type of OLD
pub old_paired : (old new : Types) (t : DataType) → IsOfTypes old t → IsPaired (last_of old) (last_of (old ++ new)) t (own_type t)
old_paired old new (kinds.Elementary k) h = elementary_paired (last_of old) (last_of (old ++ new)) k
old_paired old new (kinds.Enumeration n) h = enumeration_paired (last_of old) (last_of (old ++ new)) n n (ap last_number (names_left old new n h))
old_paired old new kinds.Unknown h = absurd h

-- ---- a type of NEW

same_length : (xs ys : List (List ℕ)) → are_same_names xs ys ≡ true → length xs ≡ length ys
same_length [] [] h = refl
same_length [] (y ∷ ys) h = absurd (false≢true h)
same_length (x ∷ xs) [] h = absurd (false≢true h)
same_length (x ∷ xs) (y ∷ ys) h = ap suc (same_length xs ys (and_parts (bytes_eq x y) (are_same_names xs ys) h).1)

record AreAsMany (xs ys : List (List ℕ)) : Type 0 where
  some : has_values xs ≡ true
  last : last_number xs ≡ last_number ys

as_many : (xs : List (List ℕ)) (m : List ℕ) (ms : List (List ℕ)) → length xs ≡ length (m ∷ ms) → AreAsMany xs (m ∷ ms)
as_many [] m ms h = absurd (omega (arith, h))
as_many (x ∷ xs) m ms h = let e : length xs ≡ length ms = omega (arith, h) in record { some = refl; last = ap pos e }

tested : (old : Types) (ns : List (List ℕ)) (t q : ℕ) (b : Bool) → are_same_names (names_at old t) ns ≡ b → (if b then Some t else None) ≡ Some q → are_same_names (names_at old q) ns ≡ true
tested old ns t q true e h = let same : t ≡ q = cc in subst (λ (n : ℕ). are_same_names (names_at old n) ns ≡ true) same e
tested old ns t q false e h = absurd (let n : ⊥ = cc in n)

names_there : (old : Types) (ns : List (List ℕ)) (v : Option (ℕ × ℕ)) (q : ℕ) → option_and_then (if_same old ns) v ≡ Some q → are_same_names (names_at old q) ns ≡ true
names_there old ns None q h = absurd (let n : ⊥ = cc in n)
names_there old ns (Some v) q h = tested old ns v.0 q (are_same_names (names_at old v.0) ns) refl h

last_by : (old new : Types) (n : ℕ) (m : List ℕ) (ms : List (List ℕ)) → names_at new n ≡ m ∷ ms → (o : Option ℕ) → old_type_of old (m ∷ ms) ≡ o → last_of (old ++ new) (unwrap_or o (length old + n)) ≡ last_of new n
last_by old new n m ms there None e = ap last_number (names_right old new n)
last_by old new n m ms there (Some q) e =
    let same = names_there old (m ∷ ms) (value_named m 0 old) q e in
    let many = as_many (names_at old q) m ms (same_length (names_at old q) (m ∷ ms) same) in
    ap last_number (names_left old new q many.some) ∙ many.last ∙ ap last_number (sym there)

number_paired : (old new : Types) (n : ℕ) (ns : List (List ℕ)) → names_at new n ≡ ns → has_values ns ≡ true → IsPaired (last_of new) (last_of (old ++ new)) (kinds.Enumeration n) (paired_number old n ns)
number_paired old new n [] there some = absurd (false≢true some)
number_paired old new n (m ∷ ms) there some =
    enumeration_paired (last_of new) (last_of (old ++ new)) n (unwrap_or (old_type_of old (m ∷ ms)) (length old + n)) (last_by old new n m ms there (old_type_of old (m ∷ ms)) refl)

pub new_paired : (old new : Types) (t : DataType) → IsOfTypes new t → IsPaired (last_of new) (last_of (old ++ new)) t (paired_type old new t)
new_paired old new (kinds.Elementary k) h = elementary_paired (last_of new) (last_of (old ++ new)) k
new_paired old new (kinds.Enumeration n) h = number_paired old new n (names_at new n) refl h
new_paired old new kinds.Unknown h = absurd h
