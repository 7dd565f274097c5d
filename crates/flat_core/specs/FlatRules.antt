-- The rules of flat programs: no FUNCTION is called; each place is a cell's or a scratch cell's; a scratch cell is read only behind an assignment to it
-- that stands earlier in the same list or in one around it; and only behind such an assignment is a scratch cell of a subrange set
-- to anything but a number of its range. So what scratch cells hold before a scan does not count.
use Rattle.std.specs.Prelude.{◌≡◌, ◌<◌, ◌⊎◌, ℕ, zero, suc, ◌+◌, ◌-◌, Bool, true, false, List, [], ◌∷◌, length}
use Rattle.program_tree.specs.Tree.{Expression, number, cell, unary, chain, call_standard, call_function, Operands, no_operands, operand, Expressions, no_expressions, expression}
use Rattle.program_tree.specs.declared.scratch.Scratch.{Scratch}
use Rattle.flat_core.specs.FlatTree.{FlatStatement, set, branch, FlatStatements, no_flats, flat, FlatData}
use Rattle.flat_core.specs.FlatScans.{takes}

-- an expression calls no FUNCTION, and each place that it reads is such
abbrev mutual
  pub Reads : (ℕ → Type 0) → Expression → Type 0
  Reads P (number v) = Unit {0}
  Reads P (cell place) = P place
  Reads P (unary o t e) = Reads P e
  Reads P (chain e os) = Reads P e × AllRead P os
  Reads P (call_standard f t es) = EachReads P es
  Reads P (call_function f es) = ⊥

  pub AllRead : (ℕ → Type 0) → Operands → Type 0
  AllRead P no_operands = Unit {0}
  AllRead P (operand o t e os) = Reads P e × AllRead P os

  pub EachReads : (ℕ → Type 0) → Expressions → Type 0
  EachReads P no_expressions = Unit {0}
  EachReads P (expression e es) = Reads P e × EachReads P es

-- one of these places
abbrev pub IsOneOf : List ℕ → ℕ → Type 0
IsOneOf [] place = ⊥
IsOneOf (p ∷ ps) place = (place ≡ p) ⊎ IsOneOf ps place

-- a place that may be read: a cell's, or one that was set
abbrev pub IsReadable : ℕ → List ℕ → ℕ → Type 0
IsReadable cells done place = (place < cells) ⊎ IsOneOf done place

-- whether a scratch cell is of a subrange
abbrev pub has_subrange : List Scratch → ℕ → Bool
has_subrange [] n = false
has_subrange (c ∷ cs) zero = c.is_subrange
has_subrange (c ∷ cs) (suc n) = has_subrange cs n

-- a number that a scratch cell takes
abbrev pub IsTakenNumber : List Scratch → ℕ → Expression → Type 0
IsTakenNumber cs n (number v) = takes cs n v ≡ true
IsTakenNumber cs n (cell place) = ⊥
IsTakenNumber cs n (unary o t e) = ⊥
IsTakenNumber cs n (chain e os) = ⊥
IsTakenNumber cs n (call_standard f t es) = ⊥
IsTakenNumber cs n (call_function f es) = ⊥

-- an assignment to a place that holds a value that counts; or to a scratch cell that takes each value, or this number
abbrev pub MaySet : ℕ → List Scratch → List ℕ → ℕ → Expression → Type 0
MaySet cells cs done place e = IsReadable cells done place ⊎ ((has_subrange cs (place - cells) ≡ false) ⊎ IsTakenNumber cs (place - cells) e)

-- the places that are set behind a statement; those that only one side of a choice sets are not
abbrev pub set_behind : FlatStatement → List ℕ → List ℕ
set_behind (set place e) done = place ∷ done
set_behind (branch e a b) done = done

-- a statement and statements over so many cells and these scratch cells, where these places were set before
abbrev mutual
  pub IsFlatOver : ℕ → List Scratch → List ℕ → FlatStatement → Type 0
  IsFlatOver cells cs done (set place e) = (place < cells + length cs) × Reads (IsReadable cells done) e × MaySet cells cs done place e
  IsFlatOver cells cs done (branch e a b) = Reads (IsReadable cells done) e × AreFlatOver cells cs done a × AreFlatOver cells cs done b

  pub AreFlatOver : ℕ → List Scratch → List ℕ → FlatStatements → Type 0
  AreFlatOver cells cs done no_flats = Unit {0}
  AreFlatOver cells cs done (flat t ts) = IsFlatOver cells cs done t × AreFlatOver cells cs (set_behind t done) ts

abbrev pub IsFlat : FlatData → Type 0
IsFlat f = AreFlatOver (length f.cells) f.scratch [] f.body
