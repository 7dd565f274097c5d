-- The data that flat statements stand for.
use Rattle.std.specs.Prelude.{List, [], ◌∷◌, ◌++◌, map}
use Rattle.program_tree.specs.Tree.{Expression}
use Rattle.program_tree.specs.View.{expr_view}
use Rattle.flat_core.specs.declared.flat_tree.FlatArm.{FlatArm}
use Rattle.flat_core.specs.declared.flat_tree.FlatStmt.{FlatStmt}
use Rattle.flat_core.specs.declared.flat_tree.FlatStmt.TheOpen.{FlatStmt-F, FlatArm-F}
use Rattle.flat_core.specs.declared.flat_tree.FlatStmt.TheFolds.{fold-FlatStmt, fold-FlatArm}
use Rattle.flat_core.specs.FlatTree.{FlatStatement, set, branch, FlatStatements, no_flats, flat}

abbrev pub flats_of : List FlatStatement → FlatStatements
flats_of [] = no_flats
flats_of (t ∷ ts) = flat t (flats_of ts)

-- what runs before a condition, the condition, and its statements
abbrev pub FlatArmData : Type 0
FlatArmData = List FlatStatement × Expression × List FlatStatement

-- The first condition with its statements, behind what runs before it; what else runs are the others, nested in the same way, and
-- behind the last the rest.
abbrev pub nested : List FlatArmData → List FlatStatement → List FlatStatement
nested [] rest = rest
nested (a ∷ arms) rest = a.0 ++ branch a.1 (flats_of a.2) (flats_of (nested arms rest)) ∷ []

-- lists, one behind the other
abbrev pub joined : List (List FlatStatement) → List FlatStatement
joined [] = []
joined (l ∷ ls) = l ++ joined ls

-- a statement stands for a list, since an `If` without arms is what else runs
abbrev pub flat_step : FlatStmt-F (List FlatStatement) FlatArmData → List FlatStatement
flat_step (FlatStmt-F.Set place e) = set place (expr_view e) ∷ []
flat_step (FlatStmt-F.If arms rest) = nested arms.items (joined rest.items)

abbrev pub flat_arm_step : FlatArm-F (List FlatStatement) FlatArmData → FlatArmData
flat_arm_step a = (joined a.before.items, expr_view a.condition, joined a.body.items)

abbrev pub flat_view : FlatStmt → List FlatStatement
flat_view = fold-FlatStmt (List FlatStatement) FlatArmData flat_step flat_arm_step

abbrev pub flat_arm_view : FlatArm → FlatArmData
flat_arm_view = fold-FlatArm (List FlatStatement) FlatArmData flat_step flat_arm_step

abbrev pub flats_view : List FlatStmt → List FlatStatement
flats_view ts = joined (map flat_view ts)

abbrev pub flat_arms_view : List FlatArm → List FlatArmData
flat_arms_view arms = map flat_arm_view arms
