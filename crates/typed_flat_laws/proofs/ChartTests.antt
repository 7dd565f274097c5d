-- The tests of charts are BOOLs.
use Rattle.std.proofs.Common.{◌≡◌, ℕ, ◌<◌, Bool, true, false, List, [], ◌∷◌, ◌++◌, length, map, refl, sym, subst}
use Rattle.std.specs.Prelude.{Option, Some, if◌then◌else◌}
use Rattle.plc_types.specs.declared.elementary.Elementary.{Elementary}
use Rattle.plc_types.specs.declared.elementary.Elementary.TheVariants as types
use Rattle.plc_types.specs.declared.operator.Operator.{Operator}
use Rattle.plc_types.specs.declared.operator.Operator.TheVariants.{Or, And}
use Rattle.program_tree.specs.declared.typed.StepCells.{StepCells}
use Rattle.program_tree.specs.declared.typed.Association.{Association}
use Rattle.program_tree.specs.declared.typed.Qualifier.{Qualifier}
use Rattle.program_tree.specs.declared.typed.Qualifier.TheVariants.{NonStored, Set, Reset, Pulse, FallingPulse}
use Rattle.program_tree.specs.Tree.{Expression}
use Rattle.program_tree.specs.declared.scratch.Scratch.{Scratch}
use Rattle.program_tree.specs.ChartPlaces.{AreSteps, NameSteps}
use Rattle.program_tree.specs.OperandTypes.{is_for}
use Rattle.meaning.specs.Values.{result_type}
use Rattle.meaning.specs.Charts.{is_set, is_reset}
use Rattle.flat_form.specs.Owners.{OwnerData}
use Rattle.flat_form.specs.FlatCharts.{operands_by, joined_by, active_at, before_at, steps_that, unless_reset, latch_test, asking, terms, latch_start, runs_test}
use Rattle.node_core.specs.TypedFlats.{IsOf, Join}

pub steps_that-named : (n : ℕ) (test : Qualifier → Bool) (associations : List Association) → NameSteps n associations → AreSteps n (steps_that test associations)
steps_that-named n test [] h = tt
steps_that-named n test (a ∷ more) h = by_test (test a.qualifier) (steps_that-named n test more h.1)
  where
    by_test : (b : Bool) → AreSteps n (steps_that test more) → AreSteps n (if b then a.step ∷ steps_that test more else steps_that test more)
    by_test true others = (h.0, others)
    by_test false others = others

module _ (ps : List Scratch) where
  abbrev pub IsTest : Expression → Type 0
  IsTest e = IsOf ps types.Bool e

  abbrev pub AreTests : List Expression → Type 0
  AreTests [] = Unit {0}
  AreTests (e ∷ es) = IsTest e × AreTests es

  tests-append : (es fs : List Expression) → AreTests es → AreTests fs → AreTests (es ++ fs)
  tests-append [] fs a b = b
  tests-append (e ∷ es) fs a b = (a.0, tests-append es fs a.1 b)

  -- an operator of BOOLs joins tests into one
  module _ (o : Operator) (for_bits : is_for o types.Bool ≡ true) (makes : result_type o types.Bool ≡ types.Bool) where
    operands_by-join : (es : List Expression) → AreTests es → Join ps types.Bool types.Bool (operands_by o es)
    operands_by-join [] h = refl
    operands_by-join (e ∷ es) h = (refl, for_bits, h.0, subst (λ (q : Elementary). Join ps q types.Bool (operands_by o es)) (sym makes) (operands_by-join es h.1))

    pub joined_by-is : (e : Expression) (es : List Expression) → IsTest e → AreTests es → IsTest (joined_by o e es)
    joined_by-is e [] h hs = h
    joined_by-is e (f ∷ fs) h hs = (h, operands_by-join (f ∷ fs) hs)

  pub or-is : (e : Expression) (es : List Expression) → IsTest e → AreTests es → IsTest (joined_by Or e es)
  or-is e es h hs = joined_by-is Or refl refl e es h hs

  pub and-is : (e : Expression) (es : List Expression) → IsTest e → AreTests es → IsTest (joined_by And e es)
  and-is e es h hs = joined_by-is And refl refl e es h hs

  unless_reset-is : (e : Expression) (es : List Expression) → IsTest e → AreTests es → IsTest (unless_reset e es)
  unless_reset-is e [] h hs = h
  unless_reset-is e (r ∷ rs) h hs = (h, (refl, refl, (refl, or-is r rs hs.0 hs.1), refl))

  asking-are : (q : Qualifier) (x l : Expression) → IsTest x → IsTest l → AreTests (asking q x l)
  asking-are NonStored x l a b = (a, tt)
  asking-are Set x l a b = tt
  asking-are Reset x l a b = tt
  asking-are Pulse x l a b = ((a, (refl, refl, (refl, b), refl)), tt)
  asking-are FallingPulse x l a b = ((b, (refl, refl, (refl, a), refl)), tt)

  module _ (owner : OwnerData) (base : ℕ) (steps : List StepCells) where
    -- whether a step is active, and whether it was, are BOOLs
    abbrev pub StepsAreTests : Type 0
    StepsAreTests = (i : ℕ) → i < length steps → IsTest (active_at owner base steps i) × IsTest (before_at owner base steps i)

    module _ (each : StepsAreTests) where
      active-are : (is : List ℕ) → AreSteps (length steps) is → AreTests (map (active_at owner base steps) is)
      active-are [] h = tt
      active-are (i ∷ is) h = ((each i h.0).0, active-are is h.1)

      terms-are : (associations : List Association) → NameSteps (length steps) associations → AreTests (terms owner base steps associations)
      terms-are [] h = tt
      terms-are (a ∷ more) h =
          let now = each a.step h.0 in
          tests-append (asking a.qualifier (active_at owner base steps a.step) (before_at owner base steps a.step)) (terms owner base steps more)
          (asking-are a.qualifier (active_at owner base steps a.step) (before_at owner base steps a.step) now.0 now.1) (terms-are more h.1)

      that-are : (test : Qualifier → Bool) (associations : List Association) → NameSteps (length steps) associations → AreTests (map (active_at owner base steps) (steps_that test associations))
      that-are test associations named = active-are (steps_that test associations) (steps_that-named (length steps) test associations named)

      pub latch_test-is : (place : ℕ) (associations : List Association) → IsTest (latch_start owner base (Some place)) → NameSteps (length steps) associations → IsTest (latch_test owner base steps place associations)
      latch_test-is place associations its named =
          let set = map (active_at owner base steps) (steps_that is_set associations) in
          unless_reset-is (joined_by Or (latch_start owner base (Some place)) set) (map (active_at owner base steps) (steps_that is_reset associations))
          (or-is (latch_start owner base (Some place)) set its (that-are is_set associations named)) (that-are is_reset associations named)

      pub runs_test-is : (latch : Option ℕ) (associations : List Association) → IsTest (latch_start owner base latch) → NameSteps (length steps) associations → IsTest (runs_test owner base steps latch associations)
      runs_test-is latch associations its named =
          unless_reset-is (joined_by Or (latch_start owner base latch) (terms owner base steps associations)) (map (active_at owner base steps) (steps_that is_reset associations))
          (or-is (latch_start owner base latch) (terms owner base steps associations) its (terms-are associations named)) (that-are is_reset associations named)
