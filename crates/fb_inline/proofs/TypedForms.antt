-- The flat form of a typed program keeps the rules of flat programs, is typed, and leaves the same.
use Rattle.program_tree.specs.Tree.{ProgramData}
use Rattle.scan_model.specs.InRange.{IsFitToRun}
use Rattle.flat_form.specs.FlatPrograms.{flat_program}
use Rattle.flat_form.specs.FlatLaws.{LeavesTheSame}
use Rattle.flat_laws.proofs.Joined.{keeps_meaning}
use Rattle.flat_rule_laws.proofs.KeptRules.{flat_program-keeps_rules}
use Rattle.node_core.specs.TypedFlats.{IsTypedFlat}
use Rattle.typed_programs.specs.Programs.{IsTypedProgram}
use Rattle.typed_flat_laws.proofs.FlatPrograms.{flat_program-typed}
use Rattle.typed_flat_laws.proofs.WellTypedPrograms.{typed-well_typed}

pub form-typed : (p : ProgramData) → IsFitToRun p → IsTypedProgram p → IsTypedFlat (flat_program p)
form-typed p fit typed = flat_program-typed p typed (flat_program-keeps_rules p fit (typed-well_typed p typed))

pub form-leaves : (p : ProgramData) → IsFitToRun p → IsTypedProgram p → LeavesTheSame p (flat_program p)
form-leaves p fit typed = keeps_meaning p fit (typed-well_typed p typed)
