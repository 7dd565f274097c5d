-- What the rules on types ask of an item of statements, which stand inside of FORs with some control variables.
use Rattle.std.specs.Prelude.{◌≡◌, ℕ, true, List, [], ◌∷◌, None}
use Rattle.plc_types.specs.declared.data_type.DataType.{DataType}
use Rattle.plc_types.specs.declared.range.Range.{Range}
use Rattle.rules.specs.declared.rule.Rule.TheVariants.{OperandType}
use Rattle.rules.specs.Judgements.{Judgement}
use Rattle.source_tree.specs.Syntax.{LabelData, IterationData}
use Rattle.source_tree.specs.StatementItems.{StatementItem, assignment, invocation, condition, selector, labels, iteration}
use Rattle.naming.specs.Broken.{alone}
use Rattle.typing.specs.Typing.{Scope, by_path, type_of}
use Rattle.typing.specs.Judged.{judged_condition}
use Rattle.typing.specs.Labels.{seen_behind}
use Rattle.typing.specs.JudgedStatements.{judged_assign, judged_invoke, judged_iteration, turns_rule, broken_by, with_control, judged_selector, judged_labels_if}

-- what the labels of earlier entries name, the last entry first
abbrev pub seen_in : Scope → DataType → List (List LabelData) → List Range
seen_in scope t [] = []
seen_in scope t (ls ∷ before) = seen_behind scope t (seen_in scope t before) ls

module _ (scope : Scope) (outer : List ℕ) where
  -- the control variables of all FORs around
  abbrev pub controls_in : List IterationData → List ℕ
  controls_in [] = outer
  controls_in (i ∷ around) = with_control (controls_in around) (scope.means (by_path (alone i.control)))

  abbrev pub judged_item : List IterationData → StatementItem → Judgement
  judged_item around (assignment p e) = judged_assign scope (controls_in around) p e
  judged_item around (invocation n at cs) = judged_invoke scope (controls_in around) n cs
  judged_item around (condition e) = judged_condition scope OperandType e
  judged_item around (selector e) = judged_selector scope e
  judged_item around (labels e before ls) = judged_labels_if scope (judged_selector scope e).whole (type_of scope None e) (seen_in scope (type_of scope None e) before) ls
  judged_item around (iteration i) = broken_by (judged_iteration scope (controls_in around) i) (turns_rule scope i) i.at

  abbrev pub IsWholeItem : List IterationData → StatementItem → Type 0
  IsWholeItem around i = (judged_item around i).whole ≡ true
