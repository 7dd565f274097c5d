-- Laws of flat programs.
use Rattle.std.specs.Prelude.{◌≡◌, ◌++◌, length, take}
use Rattle.scan_model.specs.meaning.Values.{State}
use Rattle.scan_model.specs.Scans.{ranges_of}
use Rattle.flat_core.specs.FlatTree.{FlatData}
use Rattle.flat_core.specs.FlatScans.{run_of_all}
use Rattle.flat_core.specs.FlatRules.{IsFlat}

-- whatever the scratch cells hold before a scan, it leaves the same cells
abbrev pub ScratchDoesNotCount : Type 0
ScratchDoesNotCount =
    (f : FlatData) → IsFlat f → (s x y : State) → length s ≡ length f.cells → length x ≡ length y
    → take (length f.cells) (run_of_all (ranges_of f.cells) f.scratch f.body (s ++ x)) ≡ take (length f.cells) (run_of_all (ranges_of f.cells) f.scratch f.body (s ++ y))
