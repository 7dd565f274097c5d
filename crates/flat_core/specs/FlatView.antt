-- The data that flat statements and programs stand for.
use Rattle.program_tree.specs.View.{cells_view}
use Rattle.flat_core.specs.declared.flat_program.Flat.{Flat}
use Rattle.flat_core.specs.FlatTree.{FlatData}
pub use Rattle.flat_core.specs.StatementView.{flats_of, FlatArmData, nested, joined, flat_step, flat_arm_step, flat_view, flat_arm_view, flats_view, flat_arms_view}

abbrev pub flat_program_view : Flat → FlatData
flat_program_view f = record { cells = cells_view f.cells.items; scratch = f.scratch.items; body = flats_of (flats_view f.body.items) }
