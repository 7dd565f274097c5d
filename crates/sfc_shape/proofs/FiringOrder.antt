-- Transitions that a stable sort by priority gives are those in firing order.
use Rattle.std.proofs.Common.{◌≡◌, List, [], ◌∷◌, map, Bool, true, false, Option, Some, None, if◌then◌else◌, refl, ap, ◌∙◌, arith}
use Rattle.std.specs.Cmp.{IsStrictWeakOrder}
use Rattle.std.specs.List.Sorted.{IsSortedBy, IsStableBy}
use Rattle.std.proofs.lemmas.Bool.Decides.{nat_tests}
use Rattle.source_tree.specs.Syntax.{PriorityData, ChartTransitionData}
use Rattle.sfc_shape.specs.Shapes.{comes_first, placed, in_firing_order}
use Rattle.sfc_shape.proofs.StableOrder.{place, order, stable_is_order}

one_way : (p q : Option PriorityData) → comes_first p q ≡ true → comes_first q p ≡ false
one_way None q h = absurd (let n : ⊥ = cc in n)
one_way (Some p) None h = refl
one_way (Some p) (Some q) h = grind (arith, nat_tests)

chain : (p q r : Option PriorityData) → comes_first p q ≡ false → comes_first q r ≡ false → comes_first p r ≡ false
chain None q r h k = refl
chain (Some p) None r h k = absurd (let n : ⊥ = cc in n)
chain (Some p) (Some q) None h k = absurd (let n : ⊥ = cc in n)
chain (Some p) (Some q) (Some r) h k = grind (arith, nat_tests)

module _ {X : Type 0} (view : X → ChartTransitionData) where
  abbrev pub fires_first : X → X → Bool
  fires_first x y = comes_first (view x).priority (view y).priority

  pub by_priority : IsStrictWeakOrder fires_first
  by_priority = record {
    one_way = λ x y. one_way (view x).priority (view y).priority;
    chain = λ x y z. chain (view x).priority (view y).priority (view z).priority;
  }

  placed-map : (x : X) (us : List X) → map view (place fires_first x us) ≡ placed (view x) (map view us)
  placed-map x [] = refl
  placed-map x (u ∷ us) = by (fires_first u x) (placed-map x us)
    where
      by : (b : Bool) → map view (place fires_first x us) ≡ placed (view x) (map view us)
          → map view (if b then u ∷ place fires_first x us else x ∷ u ∷ us) ≡ (if b then view u ∷ placed (view x) (map view us) else view x ∷ view u ∷ map view us)
      by true rest = ap (λ l. view u ∷ l) rest
      by false rest = refl

  order-map : (xs : List X) → map view (order fires_first xs) ≡ in_firing_order (map view xs)
  order-map [] = refl
  order-map (x ∷ xs) = placed-map x (order fires_first xs) ∙ ap (placed (view x)) (order-map xs)

  pub sorted_fires : (xs ys : List X) → IsSortedBy fires_first ys → IsStableBy fires_first xs ys → map view ys ≡ in_firing_order (map view xs)
  sorted_fires xs ys sorted stable = ap (map view) (stable_is_order fires_first by_priority xs ys sorted stable) ∙ order-map xs
