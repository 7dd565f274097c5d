-- The cells of the PROGRAM of a file that breaks no rule are those of its types.
use Rattle.std.proofs.Common.{◌≡◌, ℕ, [], Some}
use Rattle.rules.specs.declared.rule.Refusal.{Refusal}
use Rattle.source_tree.specs.Syntax.{PouData, FileData}
use Rattle.source_tree.specs.Levels.{IsFileLevelled}
use Rattle.naming.specs.FileScope.{types_of, pous_of, pou_at}
use Rattle.naming.specs.Circles.{IsBroken}
use Rattle.typing.specs.Domains.{judged_types}
use Rattle.typing.specs.Pous.{judged_pous, broken_types}
use Rattle.typing.specs.TypedPrograms.{typed_program}
use Rattle.typed_files.proofs.bound_names.UsedBlocks.{used_blocks, all_ordered}
use Rattle.typed_files.proofs.whole_files.WholeBodies.{no_names}
use Rattle.typed_files.proofs.whole_files.Told.{nil_front}
use Rattle.typed_files.proofs.SoundBodies.{variables_whole}
use Rattle.stated_cells.specs.StatedCells.{HasStatedCells}
use Rattle.stated_cells.proofs.Lasts.{all_few}
use Rattle.stated_cells.proofs.Cells.{program_cells}
use Rattle.stated_cells.proofs.Flags.{program_charts}

pub cells_stated : (f : FileData) → ((r : Refusal) → IsBroken f r → ⊥) → IsFileLevelled f → broken_types f ≡ [] → (k : ℕ) (p : PouData) → pou_at f k ≡ Some p → HasStatedCells (typed_program f k p)
cells_stated f names levels types k p at =
    let none = no_names f names in
    record {
      cells = program_cells f (variables_whole f none levels types) k p at;
      few = all_few f (nil_front (judged_types f (types_of f)).broken (judged_pous f 0 (pous_of f)).broken types);
      charts = program_charts f (used_blocks f none) (all_ordered f none names) k p at;
    }
