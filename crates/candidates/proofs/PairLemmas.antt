-- What is found of a pair by its parts.
use Rattle.std.proofs.Common.{◌≡◌, List, ◌++◌, length, sym, ap, Result, Ok, Err, ◌∙◌}
use Rattle.std.specs.Prelude.{IfOk, OnOk}
use Rattle.plc_types.specs.declared.data_type.DataType.{DataType}
use Rattle.program_tree.specs.declared.typed.Cell.{Cell}
use Rattle.program_tree.specs.Tree.{CellData}
use Rattle.program_tree.specs.View.{cells_view}
use Rattle.scan_model.specs.Candidates.{same_cells}
use Rattle.scan_model.specs.Pairs.{CandidateData}
use Rattle.candidates.proofs.CandidateLemmas.{length-cells}

pub if_other : {A B C : Type 0} (r : Result A B) (view : A → C) (x y : C) → x ≡ y → IfOk r (λ a. view a ≡ x) → IfOk r (λ a. view a ≡ y)
if_other (Ok a) view x y e h = h ∙ e
if_other (Err b) view x y e h = h

pub ok_other : {A B C : Type 0} (r : Result A B) (a x y : C) → x ≡ y → OnOk r (a ≡ x) → OnOk r (a ≡ y)
ok_other (Ok b) a x y e h = h ∙ e
ok_other (Err b) a x y e h = h

pub same_of : (found : List CandidateData) (f g : DataType → DataType) (cs : List Cell) (old new : List CellData) → f ≡ g → cells_view cs ≡ old
    → found ++ same_cells f 0 (length cs) new (cells_view cs) ≡ found ++ same_cells g 0 (length old) new old
same_of found f g cs old new e h =
    ap (λ (k : DataType → DataType). found ++ same_cells k 0 (length cs) new (cells_view cs)) e ∙ ap (λ n. found ++ same_cells g 0 n new (cells_view cs)) (sym (length-cells cs))
    ∙ ap (λ (l : List CellData). found ++ same_cells g 0 (length l) new l) h
