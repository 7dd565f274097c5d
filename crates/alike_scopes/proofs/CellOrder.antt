-- The first cells of two variables of a POU are one cell where the variables are one, whatever the sizes of blocks.
use Rattle.std.proofs.Common.{◌≡◌, ◌⊎◌, inl, inr, ℕ, suc, ◌+◌, ◌<◌, ◌≤◌, ◌==◌, List, [], ◌∷◌, Bool, true, false, Some, option_map, if◌then◌else◌, refl, sym, ap, ◌∙◌, arith}
use Rattle.std.proofs.lemmas.Bool.Decides.{nat_tests}
use Rattle.source_tree.specs.Syntax.{PouTypeData, function, function_block, program, FileData}
use Rattle.naming.specs.Scopes.{Variable, is_of_name, variable_named}
use Rattle.typing.specs.declared.next.Next.{Next}
use Rattle.typing.specs.Places.{cells_taken, count_of_cells, is_front, in_front, first_places, first_place, places_behind}
use Rattle.typing.specs.Members.{member_of, member_among}

-- the place of the first variable of a name among others
abbrev pub position_named : List ℕ → List Variable → ℕ
position_named text [] = 0
position_named text (v ∷ vs) = if is_of_name text v then 0 else suc (position_named text vs)

module _ (f : FileData) (sizes : List ℕ) where
  -- the first cell of the variable of a name, among those from a place on
  abbrev pub cell_named : List ℕ → Next → List Variable → ℕ
  cell_named text next [] = 0
  cell_named text next (v ∷ vs) = if is_of_name text v then first_place next v else cell_named text (places_behind f sizes next v) vs

  pub member_is : (text : List ℕ) (next : Next) (vs : List Variable) → member_among f sizes text next vs ≡ option_map (member_of f (cell_named text next vs)) (variable_named text vs)
  member_is text next [] = refl
  member_is text next (v ∷ vs) = by (is_of_name text v) (member_is text (places_behind f sizes next v) vs)
    where
      by : (b : Bool) → member_among f sizes text (places_behind f sizes next v) vs ≡ option_map (member_of f (cell_named text (places_behind f sizes next v) vs)) (variable_named text vs)
          → (if b then Some (member_of f (first_place next v) v) else member_among f sizes text (places_behind f sizes next v) vs)
          ≡ option_map (member_of f (if b then first_place next v else cell_named text (places_behind f sizes next v) vs)) (if b then Some v else variable_named text vs)
      by true rest = refl
      by false rest = rest

  -- ---- where cells stand

  abbrev front_count : Next → List Variable → ℕ
  front_count next vs = count_of_cells f sizes (in_front next.of_function vs)

  -- the cells that stand in front end before the others
  abbrev pub IsOrdered : Next → List Variable → Type 0
  IsOrdered next vs = next.front + front_count next vs ≤ next.rest

  pub begins_ordered : (k : PouTypeData) (vs : List Variable) → IsOrdered (first_places f sizes k vs) vs
  begins_ordered (function t) vs = omega arith
  begins_ordered function_block vs = omega arith
  begins_ordered program vs = omega arith

  ordered_behind : (next : Next) (v : Variable) (vs : List Variable) → IsOrdered next (v ∷ vs) → IsOrdered (places_behind f sizes next v) vs
  ordered_behind next v vs h = by (is_front next.of_function v.role) h
    where
      front : List Variable
      front = in_front next.of_function vs

      by : (b : Bool) → next.front + count_of_cells f sizes (if b then v ∷ in_front next.of_function vs else in_front next.of_function vs) ≤ next.rest
          → IsOrdered (if b then record { of_function = next.of_function; front = next.front + cells_taken f sizes v; rest = next.rest } else record { of_function = next.of_function; front = next.front; rest = next.rest + cells_taken f sizes v }) vs
      by true k = omega arith
      by false k = omega arith

  -- a cell of what stands in front, or of the rest
  abbrev IsPlaced : Next → List Variable → ℕ → Type 0
  IsPlaced next vs c = ((next.front ≤ c) × (c < next.front + front_count next vs)) ⊎ (next.rest ≤ c)

  head_placed : (next : Next) (v : Variable) (vs : List Variable) → cells_taken f sizes v ≡ 1 → IsPlaced next (v ∷ vs) (first_place next v)
  head_placed next v vs one = by (is_front next.of_function v.role)
    where
      by : (b : Bool) → ((next.front ≤ (if b then next.front else next.rest)) × ((if b then next.front else next.rest) < next.front + count_of_cells f sizes (if b then v ∷ in_front next.of_function vs else in_front next.of_function vs))) ⊎ (next.rest ≤ (if b then next.front else next.rest))
      by true = inl (omega arith, omega arith)
      by false = inr (omega arith)

  placed_before : (next : Next) (v : Variable) (vs : List Variable) (c : ℕ) → IsPlaced (places_behind f sizes next v) vs c → IsPlaced next (v ∷ vs) c
  placed_before next v vs c h = by (is_front next.of_function v.role) h
    where
      by : (b : Bool) → IsPlaced (if b then record { of_function = next.of_function; front = next.front + cells_taken f sizes v; rest = next.rest } else record { of_function = next.of_function; front = next.front; rest = next.rest + cells_taken f sizes v }) vs c
          → ((next.front ≤ c) × (c < next.front + count_of_cells f sizes (if b then v ∷ in_front next.of_function vs else in_front next.of_function vs))) ⊎ (next.rest ≤ c)
      by true (inl k) = let a = k.0 in let b = k.1 in inl (omega arith, omega arith)
      by true (inr k) = inr k
      by false (inl k) = inl k
      by false (inr k) = inr (omega arith)

  placed : (text : List ℕ) (next : Next) (vs : List Variable) (v : Variable) → variable_named text vs ≡ Some v → cells_taken f sizes v ≡ 1 → IsPlaced next vs (cell_named text next vs)
  placed text next [] v h one = absurd (let e : ⊥ = cc in e)
  placed text next (x ∷ vs) v h one = by (is_of_name text x) h (λ k. placed_before next x vs (cell_named text (places_behind f sizes next x) vs) (placed text (places_behind f sizes next x) vs v k one))
    where
      by : (b : Bool) → (if b then Some x else variable_named text vs) ≡ Some v → (variable_named text vs ≡ Some v → IsPlaced next (x ∷ vs) (cell_named text (places_behind f sizes next x) vs))
          → IsPlaced next (x ∷ vs) (if b then first_place next x else cell_named text (places_behind f sizes next x) vs)
      by true k rest = let same : x ≡ v = cc in head_placed next x vs (ap (cells_taken f sizes) same ∙ one)
      by false k rest = rest k

  -- the cell of the first variable is none of those behind
  head_apart : (next : Next) (v : Variable) (vs : List Variable) (c : ℕ) → IsOrdered next (v ∷ vs) → cells_taken f sizes v ≡ 1 → IsPlaced (places_behind f sizes next v) vs c → first_place next v ≡ c → ⊥
  head_apart next v vs c ordered one h same = by (is_front next.of_function v.role) ordered h same
    where
      by : (b : Bool) → next.front + count_of_cells f sizes (if b then v ∷ in_front next.of_function vs else in_front next.of_function vs) ≤ next.rest
          → IsPlaced (if b then record { of_function = next.of_function; front = next.front + cells_taken f sizes v; rest = next.rest } else record { of_function = next.of_function; front = next.front; rest = next.rest + cells_taken f sizes v }) vs c
          → (if b then next.front else next.rest) ≡ c → ⊥
      by true o (inl k) e = let a = k.0 in let b = k.1 in omega arith
      by true o (inr k) e = omega arith
      by false o (inl k) e = let a = k.0 in let b = k.1 in omega arith
      by false o (inr k) e = omega arith

  differ : (c d : ℕ) → (c ≡ d → ⊥) → (c == d) ≡ false
  differ c d no_same = by (c == d) refl
    where
      by : (b : Bool) → (c == d) ≡ b → b ≡ false
      by false e = refl
      by true e = absurd (no_same (grind (arith, nat_tests)))

  same_suc : (i j : ℕ) → (i == j) ≡ (suc i == suc j)
  same_suc i j = by (i == j) refl
    where
      by : (b : Bool) → (i == j) ≡ b → b ≡ (suc i == suc j)
      by true e = let same : i ≡ j = grind (arith, nat_tests) in sym (ap (λ k. suc i == suc k) (sym same) ∙ self (suc i))
        where
          self : (k : ℕ) → (k == k) ≡ true
          self k = grind (arith, nat_tests)
      by false e = sym (differ (suc i) (suc j) (λ s. let same : i ≡ j = omega arith in let t : (i == j) ≡ true = grind (arith, nat_tests) in let z : ⊥ = cc in z))

  pub cells_apart : (one two : List ℕ) (next : Next) (vs : List Variable) (v w : Variable) → IsOrdered next vs → variable_named one vs ≡ Some v → cells_taken f sizes v ≡ 1 → variable_named two vs ≡ Some w → cells_taken f sizes w ≡ 1
      → (cell_named one next vs == cell_named two next vs) ≡ (position_named one vs == position_named two vs)
  cells_apart one two next [] v w ordered hv tv hw tw = absurd (let e : ⊥ = cc in e)
  cells_apart one two next (x ∷ vs) v w ordered hv tv hw tw =
      by (is_of_name one x) (is_of_name two x) hv hw (λ a b. cells_apart one two (places_behind f sizes next x) vs v w (ordered_behind next x vs ordered) a tv b tw)
      (λ a. placed one (places_behind f sizes next x) vs v a tv) (λ b. placed two (places_behind f sizes next x) vs w b tw)
    where
      first : ℕ
      first = first_place next x

      behind_one : ℕ
      behind_one = cell_named one (places_behind f sizes next x) vs

      behind_two : ℕ
      behind_two = cell_named two (places_behind f sizes next x) vs

      by : (b c : Bool) → (if b then Some x else variable_named one vs) ≡ Some v → (if c then Some x else variable_named two vs) ≡ Some w
          → (variable_named one vs ≡ Some v → variable_named two vs ≡ Some w → (behind_one == behind_two) ≡ (position_named one vs == position_named two vs))
          → (variable_named one vs ≡ Some v → IsPlaced (places_behind f sizes next x) vs behind_one) → (variable_named two vs ≡ Some w → IsPlaced (places_behind f sizes next x) vs behind_two)
          → ((if b then first else behind_one) == (if c then first else behind_two)) ≡ ((if b then 0 else suc (position_named one vs)) == (if c then 0 else suc (position_named two vs)))
      by true true a b rest p q = self first
        where
          self : (k : ℕ) → (k == k) ≡ true
          self k = grind (arith, nat_tests)
      by true false a b rest p q =
          let same : x ≡ v = cc in
          differ first behind_two (head_apart next x vs behind_two ordered (ap (cells_taken f sizes) same ∙ tv) (q b)) ∙ sym (differ 0 (suc (position_named two vs)) (λ s. omega arith))
      by false true a b rest p q =
          let same : x ≡ w = cc in
          differ behind_one first (λ s. head_apart next x vs behind_one ordered (ap (cells_taken f sizes) same ∙ tw) (p a) (sym s)) ∙ sym (differ (suc (position_named one vs)) 0 (λ s. omega arith))
      by false false a b rest p q = rest a b ∙ same_suc (position_named one vs) (position_named two vs)
