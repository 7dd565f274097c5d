-- Flat programs whose expressions have the types that their places ask for, and whose numbers and cells lie in the ranges of their types.
-- What is assigned to a place that is no subrange lies in its range.
use Rattle.std.specs.Prelude.{◌≡◌, List, [], ◌∷◌, Bool, true, false, ◌&&◌, ◌||◌, All}
use Rattle.plc_types.specs.declared.elementary.Elementary.{Elementary}
use Rattle.plc_types.specs.declared.elementary.Elementary.TheVariants as types
use Rattle.plc_types.specs.declared.range.Range.{Range}
use Rattle.plc_types.specs.Types.{range_of, in_range}
use Rattle.program_tree.specs.Tree.{Expression, number, cell, unary, chain, call_standard, call_function, Operands, no_operands, operand, Expressions, no_expressions, expression}
use Rattle.program_tree.specs.declared.scratch.Scratch.{Scratch}
use Rattle.program_tree.specs.OperandTypes.{is_for, first_operand_kind, first_kind, is_function_for}
use Rattle.program_tree.specs.Places.{place_at, IsTypedPlace}
use Rattle.meaning.specs.Values.{result_type}
use Rattle.meaning.specs.StaysIn.{covers, last_stays, chosen_stay}
use Rattle.scan_model.specs.InRange.{BeginsWithFault}
use Rattle.flat_core.specs.FlatTree.{FlatStatement, set, branch, FlatStatements, no_flats, flat, FlatData}
use Rattle.flat_core.specs.FlatRules.{IsFlat}
use Rattle.node_core.specs.Stores.{places_of}

-- ---- the types of expressions

-- an expression of a type; operands behind a value of a type, whose result is of a type; and the operands of a function
abbrev mutual
  pub IsOf : List Scratch → Elementary → Expression → Type 0
  IsOf ps t (number v) = in_range v (range_of t) ≡ true
  IsOf ps t (cell place) = (place_at ps place).kind ≡ t
  IsOf ps t (unary o k e) = (k ≡ t) × IsOf ps k e
  IsOf ps t (chain e os) = IsOf ps (first_kind t os) e × Join ps (first_kind t os) t os
  IsOf ps t (call_standard f k es) = (k ≡ t) × (is_function_for f k ≡ true) × AreOf ps (first_operand_kind f k) k es
  IsOf ps t (call_function f es) = ⊥

  pub Join : List Scratch → Elementary → Elementary → Operands → Type 0
  Join ps left t no_operands = left ≡ t
  Join ps left t (operand o k e os) = (k ≡ left) × (is_for o k ≡ true) × IsOf ps k e × Join ps (result_type o k) t os

  pub AreOf : List Scratch → Elementary → Elementary → Expressions → Type 0
  AreOf ps first others no_expressions = Unit {0}
  AreOf ps first others (expression e es) = IsOf ps first e × AreOf ps others others es

-- ---- values that stay in a range

-- whether the types of an expression and the ranges of its cells say that its values lie in a range
abbrev mutual
  pub stays_in : List Scratch → Expression → Range → Bool
  stays_in ps (number v) r = in_range v r
  stays_in ps (cell place) r = covers r (place_at ps place).range
  stays_in ps (unary o t e) r = covers r (range_of t)
  stays_in ps (chain e os) r = last_stays (stays_in ps e r) os r
  stays_in ps (call_standard f t es) r = covers r (range_of t) || (covers (range_of t) r && chosen_stay f (each_stays ps es r))
  stays_in ps (call_function f es) r = false

  pub each_stays : List Scratch → Expressions → Range → List Bool
  each_stays ps no_expressions r = []
  each_stays ps (expression e es) r = stays_in ps e r ∷ each_stays ps es r

-- ---- statements

-- a place takes an expression
abbrev pub Takes : List Scratch → Scratch → Expression → Type 0
Takes ps p e = IsOf ps p.kind e × ((p.is_subrange || stays_in ps e p.range) ≡ true)

abbrev mutual
  pub IsTypedFlatOver : List Scratch → FlatStatement → Type 0
  IsTypedFlatOver ps (set place e) = Takes ps (place_at ps place) e
  IsTypedFlatOver ps (branch e a b) = IsOf ps types.Bool e × AreTypedFlatOver ps a × AreTypedFlatOver ps b

  pub AreTypedFlatOver : List Scratch → FlatStatements → Type 0
  AreTypedFlatOver ps no_flats = Unit {0}
  AreTypedFlatOver ps (flat t ts) = IsTypedFlatOver ps t × AreTypedFlatOver ps ts

-- ---- programs

-- a flat program, whose first cell is FAULT, a whole BOOL
pub record IsTypedFlat (f : FlatData) : Type 0 where
  pub flat : IsFlat f
  pub begins_with_fault : BeginsWithFault f.cells
  pub whole_fault : (place_at (places_of f) 0).is_subrange ≡ false
  pub places : All IsTypedPlace (places_of f)
  pub statements : AreTypedFlatOver (places_of f) f.body

-- a clause over places
abbrev pub IsTypedClause : List Scratch → Expression → Type 0
IsTypedClause ps e = IsOf ps types.Bool e
