-- Facts of each variable of a list.
use Rattle.std.proofs.Common.{◌≡◌, Bool, true, false, not, List, [], ◌∷◌, ◌++◌, refl}
use Rattle.std.specs.Prelude.{filter}
use Rattle.std.specs.List.{AllByRecursion}
use Rattle.naming.specs.Scopes.{Variable}
use Rattle.typing.specs.Places.{is_front, in_front, behind_front, in_order}

module _ (P : Variable → Type 0) where
  kept : (test : Variable → Bool) (v : Variable) (vs : List Variable) (b : Bool) → test v ≡ b → P v → AllByRecursion P (filter test vs) → AllByRecursion P (filter test (v ∷ vs))
  kept test v vs true is p ps = rw is (p, ps)
  kept test v vs false is p ps = rw is ps

  pub all-filter : (test : Variable → Bool) (vs : List Variable) → AllByRecursion P vs → AllByRecursion P (filter test vs)
  all-filter test [] all = all
  all-filter test (v ∷ vs) all = kept test v vs (test v) refl all.0 (all-filter test vs all.1)

  pub all-append : (vs ws : List Variable) → AllByRecursion P vs → AllByRecursion P ws → AllByRecursion P (vs ++ ws)
  all-append [] ws all others = others
  all-append (v ∷ vs) ws all others = (all.0, all-append vs ws all.1 others)

  pub all-left : (vs ws : List Variable) → AllByRecursion P (vs ++ ws) → AllByRecursion P vs
  all-left [] ws all = tt
  all-left (v ∷ vs) ws all = (all.0, all-left vs ws all.1)

  pub all-in_order : (of_function : Bool) (vs : List Variable) → AllByRecursion P vs → AllByRecursion P (in_order of_function vs)
  all-in_order of_function vs all =
      all-append (in_front of_function vs) (behind_front of_function vs) (all-filter (λ v. is_front of_function v.role) vs all) (all-filter (λ v. not (is_front of_function v.role)) vs all)

pub all-each : (P Q : Variable → Type 0) → ((v : Variable) → P v → Q v) → (vs : List Variable) → AllByRecursion P vs → AllByRecursion Q vs
all-each P Q each [] all = tt
all-each P Q each (v ∷ vs) all = (each v all.0, all-each P Q each vs all.1)
