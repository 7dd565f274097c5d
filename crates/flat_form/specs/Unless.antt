-- How flat lists leave: a scratch cell is TRUE once an EXIT of a FOR was met, and one once a RETURN of a body was; what stands behind asks for them.
use Rattle.std.specs.Prelude.{ℕ, ◌+◌, ◌∷◌, [], List, length, pos}
use Rattle.std.specs.Prelude as prelude
use Rattle.plc_types.specs.declared.elementary.Elementary.TheVariants.{Bool}
use Rattle.plc_types.specs.declared.operator.Operator.TheVariants.{Or}
use Rattle.program_tree.specs.Tree.{Expression, number, cell, chain, no_operands, operand}
use Rattle.program_tree.specs.declared.scratch.Scratch.{Scratch}
use Rattle.flat_core.specs.FlatTree.{FlatStatement, set, branch, no_flats}
use Rattle.flat_core.specs.FlatView.{flats_of}
use Rattle.flat_form.specs.FlatCharts.{negated, flag_cell}

-- The places of the cells that say that an EXIT of the innermost FOR was met, and a RETURN of the innermost body of its own. No place of such a cell is 0,
-- which is FAULT's: 0 stands where there is no such FOR, or no such body.
pub record Flags : Type 0 where
  pub exit : ℕ
  pub returning : ℕ

abbrev pub without_flags : Flags
without_flags = record { exit = 0; returning = 0 }

-- whether a statement was left that may do so by an EXIT, by a RETURN, or by both
abbrev pub was_left : prelude.Bool → prelude.Bool → Flags → Expression
was_left prelude.true prelude.true flags = chain (cell flags.exit) (operand Or Bool (cell flags.returning) no_operands)
was_left prelude.true prelude.false flags = cell flags.exit
was_left prelude.false returns flags = cell flags.returning

-- statements that run where something before them that may leave did not; no statements become none
abbrev pub guarded : Expression → List FlatStatement → List FlatStatement
guarded left [] = []
guarded left (t ∷ ts) = branch (negated left) (flats_of (t ∷ ts)) no_flats ∷ []

abbrev pub unless_left : prelude.Bool → prelude.Bool → Flags → List FlatStatement → List FlatStatement
unless_left prelude.true returns flags ts = guarded (was_left prelude.true returns flags) ts
unless_left prelude.false prelude.true flags ts = guarded (was_left prelude.false prelude.true flags) ts
unless_left prelude.false prelude.false flags ts = ts

-- a FOR with an EXIT of its own, and a body with a RETURN of its own, have such a cell, which is cleared before them
abbrev pub flag_scratch : prelude.Bool → List Scratch
flag_scratch prelude.true = flag_cell ∷ []
flag_scratch prelude.false = []

abbrev pub flag_start : prelude.Bool → ℕ → List FlatStatement
flag_start prelude.true k = set k (number (pos 0)) ∷ []
flag_start prelude.false k = []

-- the cells for the turns of a FOR and for the list of a body of its own, where such a cell stands at k
abbrev pub turn_flags : prelude.Bool → Flags → ℕ → Flags
turn_flags prelude.true flags k = record { exit = k; returning = flags.returning }
turn_flags prelude.false flags k = flags

abbrev pub body_flags : prelude.Bool → Flags → ℕ → Flags
body_flags prelude.true flags k = record { exit = flags.exit; returning = k }
body_flags prelude.false flags k = flags
