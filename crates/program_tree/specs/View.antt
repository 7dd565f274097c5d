-- The data that programs stand for.
use Rattle.std.specs.Prelude.{ℕ, String, List, [], ◌∷◌, map, Option, string_bytes, Vec}
use Rattle.std.specs.declared.alloc.Global.{Global}
use Rattle.plc_types.specs.declared.elementary.Elementary.{Elementary}
use Rattle.plc_types.specs.declared.operator.Operator.{Operator}
use Rattle.program_tree.specs.declared.typed.TypedExpr.{TypedExpr}
use Rattle.program_tree.specs.declared.typed.TypedExpr.TheOpen.{TypedExpr-F, Operand-F}
use Rattle.program_tree.specs.declared.typed.TypedExpr.TheFolds.{fold-TypedExpr, fold-Operand}
use Rattle.program_tree.specs.declared.typed.Operand.{Operand}
use Rattle.program_tree.specs.declared.typed.TypedStmt.{TypedStmt}
use Rattle.program_tree.specs.declared.typed.TypedArm.{TypedArm}
use Rattle.program_tree.specs.declared.typed.TypedEntry.{TypedEntry}
use Rattle.program_tree.specs.declared.typed.TypedAction.{TypedAction}
use Rattle.program_tree.specs.declared.typed.TypedTransition.{TypedTransition}
use Rattle.program_tree.specs.declared.typed.Association.{Association}
use Rattle.program_tree.specs.declared.typed.TypedLabel.{TypedLabel}
use Rattle.program_tree.specs.declared.typed.TypedStmt.TheOpen.{TypedStmt-F, TypedArm-F, TypedEntry-F, TypedAction-F}
use Rattle.program_tree.specs.declared.typed.TypedStmt.TheFolds.{fold-TypedStmt, fold-TypedArm, fold-TypedEntry, fold-TypedAction}
use Rattle.program_tree.specs.declared.typed.Cell.{Cell}
use Rattle.program_tree.specs.declared.typed.Called.{Called}
use Rattle.program_tree.specs.declared.typed.Called.TheVariants as called
use Rattle.program_tree.specs.declared.typed.Program.{Program}
use Rattle.program_tree.specs.Tree.{Expression, number, cell, unary, chain, call_standard, call_function, Operands, no_operands, operand, Expressions, no_expressions, expression, TransitionData, Statement, assign, call_block, choice, cases, repeat, chart, exit, return, own_body, Statements, no_statements, statement, Choices, no_choices, choose, Entries, no_entries, entry, Actions, no_actions, action, CellData, CalledData, block, function, ProgramData}

-- an operator, the type of its operands, and its right operand
abbrev pub OperandData : Type 0
OperandData = Operator × Elementary × Expression

abbrev pub operands_of : List OperandData → Operands
operands_of [] = no_operands
operands_of (o ∷ os) = operand o.0 o.1 o.2 (operands_of os)

abbrev pub expressions_of : List Expression → Expressions
expressions_of [] = no_expressions
expressions_of (e ∷ es) = expression e (expressions_of es)

abbrev pub expr_step : TypedExpr-F Expression OperandData → Expression
expr_step (TypedExpr-F.Number value) = number value
expr_step (TypedExpr-F.Cell place) = cell place
expr_step (TypedExpr-F.Unary o kind e) = unary o kind e.value
expr_step (TypedExpr-F.Chain first rest) = chain first.value (operands_of rest.items)
expr_step (TypedExpr-F.CallStandard f kind es) = call_standard f kind (expressions_of es.items)
expr_step (TypedExpr-F.CallFunction f es) = call_function f (expressions_of es.items)

abbrev pub operand_step : Operand-F Expression OperandData → OperandData
operand_step o = (o.operator, o.kind, o.right)

abbrev pub expr_view : TypedExpr → Expression
expr_view = fold-TypedExpr Expression OperandData expr_step operand_step

abbrev pub operand_view : Operand → OperandData
operand_view = fold-Operand Expression OperandData expr_step operand_step

abbrev pub operands_view : List Operand → Operands
operands_view os = operands_of (map operand_view os)

abbrev pub exprs_view : List TypedExpr → List Expression
exprs_view es = map expr_view es

abbrev pub arguments_view : List TypedExpr → Expressions
arguments_view es = expressions_of (exprs_view es)

abbrev pub statements_of : List Statement → Statements
statements_of [] = no_statements
statements_of (s ∷ ss) = statement s (statements_of ss)

-- a condition and its statements
abbrev pub ChoiceData : Type 0
ChoiceData = Expression × Statements

abbrev pub choices_of : List ChoiceData → Choices
choices_of [] = no_choices
choices_of (c ∷ cs) = choose c.0 c.1 (choices_of cs)

-- an entry's labels and its statements
abbrev pub EntryData : Type 0
EntryData = List TypedLabel × Statements

abbrev pub entries_of : List EntryData → Entries
entries_of [] = no_entries
entries_of (e ∷ es) = entry e.0 e.1 (entries_of es)

abbrev pub transition_view : TypedTransition → TransitionData
transition_view t = record { from = t.from.items; to = t.to.items; condition = expr_view t.condition }

abbrev pub transitions_view : List TypedTransition → List TransitionData
transitions_view ts = map transition_view ts

-- the latch of an action, its associations and its statements
abbrev pub ActionData : Type 0
ActionData = Option ℕ × List Association × Statements

abbrev pub actions_of : List ActionData → Actions
actions_of [] = no_actions
actions_of (a ∷ rest) = action a.0 a.1 a.2 (actions_of rest)

abbrev pub stmt_step : TypedStmt-F Statement ActionData ChoiceData EntryData → Statement
stmt_step (TypedStmt-F.Assign target e) = assign target (expr_view e)
stmt_step (TypedStmt-F.CallBlock b offset) = call_block b offset
stmt_step (TypedStmt-F.If arms other) = choice (choices_of arms.items) (statements_of other.items)
stmt_step (TypedStmt-F.Case kind e es other) = cases kind (expr_view e) (entries_of es.items) (statements_of other.items)
stmt_step (TypedStmt-F.For turns ss) = repeat turns (statements_of ss.items)
stmt_step (TypedStmt-F.Chart steps actions ts) = chart steps.items (actions_of actions.items) (transitions_view ts.items)
stmt_step TypedStmt-F.Exit = exit
stmt_step TypedStmt-F.Return = return
stmt_step (TypedStmt-F.Body ss) = own_body (statements_of ss.items)

abbrev pub arm_step : TypedArm-F Statement ActionData ChoiceData EntryData → ChoiceData
arm_step a = (expr_view a.condition, statements_of a.body.items)

abbrev pub entry_step : TypedEntry-F Statement ActionData ChoiceData EntryData → EntryData
entry_step e = (e.labels.items, statements_of e.body.items)

abbrev pub action_step : TypedAction-F Statement ActionData ChoiceData EntryData → ActionData
action_step a = (a.latch, a.associations.items, statements_of a.body.items)

abbrev pub stmt_view : TypedStmt → Statement
stmt_view = fold-TypedStmt Statement ActionData ChoiceData EntryData stmt_step action_step arm_step entry_step

abbrev pub arm_view : TypedArm → ChoiceData
arm_view = fold-TypedArm Statement ActionData ChoiceData EntryData stmt_step action_step arm_step entry_step

abbrev pub entry_view : TypedEntry → EntryData
entry_view = fold-TypedEntry Statement ActionData ChoiceData EntryData stmt_step action_step arm_step entry_step

abbrev pub action_view : TypedAction → ActionData
action_view = fold-TypedAction Statement ActionData ChoiceData EntryData stmt_step action_step arm_step entry_step

abbrev pub stmts_view : List TypedStmt → Statements
stmts_view ss = statements_of (map stmt_view ss)

abbrev pub choices_view : List TypedArm → Choices
choices_view arms = choices_of (map arm_view arms)

abbrev pub entries_view : List TypedEntry → Entries
entries_view es = entries_of (map entry_view es)

abbrev pub actions_view : List TypedAction → Actions
actions_view actions = actions_of (map action_view actions)

abbrev pub cell_view : Cell → CellData
cell_view c = record { path = string_bytes c.path; part = c.part; kind = c.kind; range = c.range; is_subrange = c.is_subrange; initial = c.initial }

abbrev pub cells_view : List Cell → List CellData
cells_view cs = map cell_view cs

abbrev pub text_view : String Global → List ℕ
text_view s = string_bytes s

abbrev pub texts_view : List (String Global) → List (List ℕ)
texts_view ss = map text_view ss

abbrev pub lists_of_texts : List (Vec (String Global) Global) → List (List (List ℕ))
lists_of_texts vs = map (λ v. texts_view v.items) vs

abbrev pub called_view : Called → CalledData
called_view (called.Block ss) = block (stmts_view ss.items)
called_view (called.Function frame ss) = function frame.types.items frame.ranges.items frame.start.items (stmts_view ss.items)

abbrev pub all_called_view : List Called → List CalledData
all_called_view cs = map called_view cs

abbrev pub program_view : Program → ProgramData
program_view p = record { name = string_bytes p.name; cells = cells_view p.cells.items; charts = p.charts.items; without_cell = texts_view p.without_cell.items; types = lists_of_texts p.types.items; called = all_called_view p.called.items; body = stmts_view p.body.items }
