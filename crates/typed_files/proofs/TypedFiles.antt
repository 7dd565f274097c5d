-- The PROGRAM of a file that breaks no rule is typed.
use Rattle.std.proofs.Common.{◌≡◌, ℕ, [], Some, inl}
use Rattle.rules.specs.declared.rule.Refusal.{Refusal}
use Rattle.source_tree.specs.Syntax.{PouData, FileData}
use Rattle.source_tree.specs.Levels.{IsFileLevelled}
use Rattle.naming.specs.FileScope.{pou_at}
use Rattle.naming.specs.Circles.{IsBroken}
use Rattle.whole_files.specs.st_names.Bound.{program_number}
use Rattle.typing.specs.Pous.{broken_types}
use Rattle.typing.specs.TypedPrograms.{pou_body, called_by}
use Rattle.running_pous.specs.Running.{may_run}
use Rattle.running_pous.specs.Stated.{stated_program}
use Rattle.reach_laws.proofs.ReachedLaws.{reached_exact}
use Rattle.typed_programs.specs.Programs.{IsTypedProgram}
use Rattle.whole_files.proofs.bound_names.UsedBlocks.{used_blocks, all_ordered}
use Rattle.whole_files.proofs.WholeBodies.{no_names}
use Rattle.typed_cells.proofs.TypedPrograms.{program_is_typed}
use Rattle.typed_files.proofs.ProgramPlaces.{is_program_there, is_marked_there}
use Rattle.typed_files.proofs.SoundBodies.{variables_whole, body_typed}

pub program_typed : (f : FileData) → ((r : Refusal) → IsBroken f r → ⊥) → IsFileLevelled f → broken_types f ≡ [] → (k : ℕ) (p : PouData) → program_number f ≡ Some k → pou_at f k ≡ Some p
    → IsTypedProgram (stated_program f k p)
program_typed f names levels types k p one at =
    let none = no_names f names in
    let used = used_blocks f none in
    let ordered = all_ordered f none names in
    let marked = (reached_exact f ordered k).1 (inl (is_marked_there f k p one at)) in
    let runs = may_run (called_by f) (pou_body f k p) in
    program_is_typed f runs used ordered (variables_whole f none levels types) (body_typed f none levels types runs used ordered) k p at (is_program_there f k p one at) marked
