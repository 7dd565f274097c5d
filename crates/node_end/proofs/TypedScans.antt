-- The nodes of the flat form of a program are those of a scan of the program.
use Rattle.std.proofs.Common.{◌≡◌, refl, ap, ◌∙◌, subst}
use Rattle.program_tree.specs.Tree.{ProgramData}
use Rattle.flat_core.specs.FlatTree.{FlatData}
use Rattle.flat_form.specs.FlatPrograms.{flat_program}
use Rattle.flat_form.specs.FlatLaws.{LeavesTheSame}
use Rattle.node_core.specs.Scans.{ScanData, scan_of}
use Rattle.node_core.specs.TypedFlats.{IsTypedFlat}
use Rattle.query_formula_laws.specs.TypedComparisons.{IsScanOf}

pub scan_typed : (p : ProgramData) (f : FlatData) (s : ScanData) → f ≡ flat_program p → IsTypedFlat f → LeavesTheSame p f → s ≡ scan_of f → IsScanOf p s
scan_typed p f s flat typed leaves is = record {
  flat = flat_program p;
  is = is ∙ ap scan_of flat;
  typed = subst (λ (g : FlatData). IsTypedFlat g) flat typed;
  cells = refl;
  leaves = subst (λ (g : FlatData). LeavesTheSame p g) flat leaves;
}
