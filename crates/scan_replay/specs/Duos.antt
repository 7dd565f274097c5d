-- Pairs of programs that run under a relation.
use Rattle.std.specs.Prelude.{ℕ, Bool}
use Rattle.program_tree.specs.declared.typed.Program.{Program}
use Rattle.program_tree.specs.View.{program_view}
use Rattle.scan_model.specs.declared.relation.Relation.{Relation}
use Rattle.meaning.specs.Values.{State}
use Rattle.scan_model.specs.InRange.{Row, IsFitToRun}
use Rattle.scan_model.specs.Pairs.{Pair, relation_view, BelongsTo, IsPairInRange, is_allowed, is_related, after_row, start}
use Rattle.scan_model.specs.Candidates.{candidate_holds}
use Rattle.scan_model.specs.declared.side.Side.{Side}
use Rattle.scan_model.specs.declared.side.Side.TheVariants as sides

-- two programs, a relation between them, and a state of each
pub record Compared : Type 0 where
  pub old_program : Program
  pub new_program : Program
  pub relation : Relation
  pub pair : Pair

-- the same programs and relation with another pair
abbrev pub with_pair : Pair → Compared → Compared
with_pair pair d = record { old_program = d.old_program; new_program = d.new_program; relation = d.relation; pair = pair }

-- what a comparison asks of the programs and their relation
pub record AreComparable (old new : Program) (relation : Relation) : Type 0 where
  pub old_is_program : IsFitToRun (program_view old)
  pub new_is_program : IsFitToRun (program_view new)
  pub belongs : BelongsTo (program_view old) (program_view new) (relation_view relation)

abbrev pub IsInRangeOf : Compared → Pair → Type 0
IsInRangeOf d pair = IsPairInRange (program_view d.old_program) (program_view d.new_program) pair

abbrev pub start_of : Compared → Pair
start_of d = start (program_view d.old_program) (program_view d.new_program)

abbrev pub allows : Compared → Row → Bool
allows d row = is_allowed (relation_view d.relation) row d.pair

abbrev pub pair_after : Compared → Row → Pair
pair_after d row = after_row (program_view d.old_program) (program_view d.new_program) (relation_view d.relation) row d.pair

abbrev pub is_pair_related : Compared → Bool
is_pair_related d = is_related (relation_view d.relation) d.pair

-- the candidate of a number, from 0, holds
abbrev pub has_candidate : Compared → ℕ → Bool
has_candidate d candidate = candidate_holds (relation_view d.relation).candidates candidate d.pair

abbrev pub program_of : Side → Compared → Program
program_of sides.Old d = d.old_program
program_of sides.New d = d.new_program

abbrev pub state_of : Side → Pair → State
state_of sides.Old pair = pair.old
state_of sides.New pair = pair.new
