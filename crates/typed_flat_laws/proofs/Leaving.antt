-- The cells that say that an EXIT or a RETURN was met are BOOLs. So what asks for them is typed, and what clears them.
use Rattle.std.proofs.Common.{ℕ, Bool, true, false, List, [], ◌∷◌, refl}
use Rattle.std.specs.Prelude.{All, pos}
use Rattle.program_tree.specs.Tree.{Expression, number}
use Rattle.program_tree.specs.declared.scratch.Scratch.{Scratch}
use Rattle.program_tree.specs.Places.{IsTypedPlace}
use Rattle.flat_core.specs.FlatTree.{FlatStatement}
use Rattle.flat_form.specs.Unless.{Flags, without_flags, was_left, guarded, unless_left, flag_scratch, flag_start, turn_flags, body_flags}
use Rattle.typed_flat_laws.proofs.TypedLists.{Typed, StandFrom}
use Rattle.typed_flat_laws.proofs.ChartTests.{IsTest}
use Rattle.typed_flat_laws.proofs.ChartCells.{IsFlagAt, flag-is, flag-set}

module _ (ps : List Scratch) where
  abbrev pub AreMarks : Flags → Type 0
  AreMarks flags = IsFlagAt ps flags.exit × IsFlagAt ps flags.returning

  -- FAULT stands where there is no FOR and no body
  pub without_flags-are : IsFlagAt ps 0 → AreMarks without_flags
  without_flags-are fault = (fault, fault)

  -- ---- what asks for them

  was_left-is : (exits returns : Bool) (flags : Flags) → AreMarks flags → IsTest ps (was_left exits returns flags)
  was_left-is true true flags m = (flag-is ps flags.exit m.0, (refl, refl, flag-is ps flags.returning m.1, refl))
  was_left-is true false flags m = flag-is ps flags.exit m.0
  was_left-is false returns flags m = flag-is ps flags.returning m.1

  guarded-typed : (left : Expression) (ts : List FlatStatement) → IsTest ps left → Typed ps ts → Typed ps (guarded left ts)
  guarded-typed left [] is h = tt
  guarded-typed left (t ∷ ts) is h = (((refl, is), h, tt), tt)

  pub unless_left-typed : (exits returns : Bool) (flags : Flags) (ts : List FlatStatement) → AreMarks flags → Typed ps ts → Typed ps (unless_left exits returns flags ts)
  unless_left-typed true returns flags ts m h = guarded-typed (was_left true returns flags) ts (was_left-is true returns flags m) h
  unless_left-typed false true flags ts m h = guarded-typed (was_left false true flags) ts (was_left-is false true flags m) h
  unless_left-typed false false flags ts m h = h

  -- ---- a cell of their own is cleared before the turns of a FOR, and before the list of a body

  pub flag_start-typed : All IsTypedPlace ps → (test : Bool) (k : ℕ) → StandFrom ps k (flag_scratch test) → Typed ps (flag_start test k)
  flag_start-typed typed true k stands = (flag-set ps typed k (number (pos 0)) stands.0 refl, tt)
  flag_start-typed typed false k stands = tt

  pub turn_flags-are : (test : Bool) (flags : Flags) (k : ℕ) → StandFrom ps k (flag_scratch test) → AreMarks flags → AreMarks (turn_flags test flags k)
  turn_flags-are true flags k stands m = (stands.0, m.1)
  turn_flags-are false flags k stands m = m

  pub body_flags-are : (test : Bool) (flags : Flags) (k : ℕ) → StandFrom ps k (flag_scratch test) → AreMarks flags → AreMarks (body_flags test flags k)
  body_flags-are true flags k stands m = (m.0, stands.0)
  body_flags-are false flags k stands m = m
