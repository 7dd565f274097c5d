-- A gate that is found at none of its places is not there, and the places of the others stay as a gate is added.
use Rattle.std.proofs.Common.{◌≡◌, ℕ, ◌+◌, ◌-◌, ◌<◌, sym, ◌∙◌, subst, List, [], ◌∷◌, ◌++◌, length, arith, below_more}
use Rattle.std.specs.Prelude.{Option, Some, slice_index, slice_index_or}
use Rattle.std.proofs.lemmas.List.{length-append, get_or_append_left}
use Rattle.std.proofs.Math.Seq.{get_or-append_seam}
use Rattle.gates.specs.declared.stored.StoredGate.{StoredGate}
use Rattle.gates.specs.Places.{no_gate, slot_of, IsPlaced, Keeps, IsAbsent, AreDistinct, ArePlaced}

-- the gate has that number in the list
abbrev pub HasNumber : List StoredGate → StoredGate → ℕ → Type 0
HasNumber gs g n = (n < length gs) × (slice_index_or gs n no_gate ≡ g)

other : (gs : List StoredGate) (g : StoredGate) (n k : ℕ) → (HasNumber gs g (n - 1) → ⊥) → HasNumber gs g k → n ≡ k + 1 → ⊥
other gs g n k not has e =
    let same : k ≡ n - 1 = omega (arith, e) in
    let P : ℕ → Type 0 = λ m. HasNumber gs g m in
    not (subst P same has)

pub none_left : (near : List ℕ) (far : StoredGate → Option ℕ) (gs shown : List StoredGate) (g : StoredGate) (one two : ℕ) → ArePlaced near far gs → shown ≡ gs
    → one ≡ slice_index near (slot_of g) → two ≡ slice_index near (slot_of g + 1)
    → (HasNumber shown g (one - 1) → ⊥) → (HasNumber shown g (two - 1) → ⊥) → ((k : ℕ) → far g ≡ Some k → HasNumber shown g k → ⊥)
    → IsAbsent gs g
none_left near far gs shown g one two placed all first second not neither nor k below is =
    let P : StoredGate → Type 0 = λ s. IsPlaced near far s k in
    let Q : List StoredGate → Type 0 = λ hs. HasNumber hs g k in
    let has : HasNumber shown g k = subst Q (sym all) (below, is) in
    let at : IsPlaced near far g k = subst P is (placed k below) in
    nor k (at.third (λ e. other shown g one k not has (first ∙ e)) (λ e. other shown g two k neither has (second ∙ e))) has

kept : (near later : List ℕ) (far then : StoredGate → Option ℕ) (s : StoredGate) (k : ℕ) → Keeps near later → then s ≡ far s → IsPlaced near far s k → IsPlaced later then s k
kept near later far then s k keeps same at =
    let first = keeps (slot_of s) at.first in
    record {
      first = omega (arith, first, at.first);
      second = λ not. let was = at.second (λ e. not (first ∙ e)) in let second = keeps (slot_of s + 1) was in omega (arith, second, was);
      third = λ not neither. let was = at.second (λ e. not (first ∙ e)) in same ∙ at.third (λ e. not (first ∙ e)) (λ e. neither (keeps (slot_of s + 1) was ∙ e));
    }

pub placed_kept : (near later : List ℕ) (far then : StoredGate → Option ℕ) (gs : List StoredGate) (g : StoredGate) → Keeps near later
    → ((s : StoredGate) → (s ≡ g → ⊥) → then s ≡ far s) → IsAbsent gs g → ArePlaced near far gs → ArePlaced later then gs
placed_kept near later far then gs g keeps same absent placed k below =
    kept near later far then (slice_index_or gs k no_gate) k keeps (same (slice_index_or gs k no_gate) (absent k below)) (placed k below)

one_more : (gs : List StoredGate) (g : StoredGate) (k : ℕ) → k < length (gs ++ g ∷ []) → k < length gs + 1
one_more gs g k below = omega (arith, below, length-append gs (g ∷ []))

pub placed_added : (near : List ℕ) (far : StoredGate → Option ℕ) (gs : List StoredGate) (g : StoredGate) → ArePlaced near far gs → IsPlaced near far g (length gs) → ArePlaced near far (gs ++ g ∷ [])
placed_added near far gs g placed last k below =
    let P : ℕ → Type 0 = λ m. IsPlaced near far (slice_index_or (gs ++ g ∷ []) m no_gate) m in
    below_more P (length gs)
    (λ m (inside : m < length gs). let Q : StoredGate → Type 0 = λ s. IsPlaced near far s m in subst Q (sym (get_or_append_left gs (g ∷ []) no_gate m inside)) (placed m inside))
    (let Q : StoredGate → Type 0 = λ s. IsPlaced near far s (length gs) in subst Q (sym (get_or-append_seam gs g [] no_gate)) last)
    k (one_more gs g k below)

pub distinct_added : (gs : List StoredGate) (g : StoredGate) → AreDistinct gs → IsAbsent gs g → AreDistinct (gs ++ g ∷ [])
distinct_added gs g distinct absent i j before below =
    let all : List StoredGate = gs ++ g ∷ [] in
    let P : ℕ → Type 0 = λ m. (n : ℕ) → n < m → slice_index_or all n no_gate ≡ slice_index_or all m no_gate → ⊥ in
    below_more P (length gs)
    (λ m (inside : m < length gs) n earlier e.
    distinct n m earlier inside
    (sym (get_or_append_left gs (g ∷ []) no_gate n (omega (arith, earlier, inside))) ∙ e ∙ get_or_append_left gs (g ∷ []) no_gate m inside))
    (λ n earlier e. absent n earlier (sym (get_or_append_left gs (g ∷ []) no_gate n earlier) ∙ e ∙ get_or-append_seam gs g [] no_gate))
    j (one_more gs g j below) i before
