-- The data that trees of a text stand for, and tokens as the grammar sees them.
use Rattle.std.specs.Prelude.{ℕ, List, [], ◌∷◌, map, Option, Some, None, option_map, Vec, string_bytes}
use Rattle.std.specs.declared.alloc.Global.{Global}
use Rattle.std.specs.Str.{str_to_ascii_uppercase}
use Rattle.plc_types.specs.declared.operator.Operator.{Operator}
use Rattle.source_tree.specs.declared.token.Tok.{Tok}
use Rattle.source_tree.specs.declared.token.Terminal.{Terminal}
use Rattle.source_tree.specs.declared.token.Terminal.TheVariants as terminals
use Rattle.source_tree.specs.declared.syntax.Name.{Name}
use Rattle.source_tree.specs.declared.syntax.Path.{Path}
use Rattle.source_tree.specs.declared.syntax.Expr.{Expr}
use Rattle.source_tree.specs.declared.syntax.Link.{Link}
use Rattle.source_tree.specs.declared.syntax.Argument.{Argument}
use Rattle.source_tree.specs.declared.syntax.Expr.TheOpen.{Expr-F, Link-F, Argument-F}
use Rattle.source_tree.specs.declared.syntax.Expr.TheFolds.{fold-Expr, fold-Link, fold-Argument}
use Rattle.source_tree.specs.declared.syntax.Stmt.{Stmt as StmtTree}
use Rattle.source_tree.specs.declared.syntax.Arm.{Arm}
use Rattle.source_tree.specs.declared.syntax.Entry.{Entry}
use Rattle.source_tree.specs.declared.syntax.Connection.{Connection}
use Rattle.source_tree.specs.declared.syntax.Connection.TheVariants as connections
use Rattle.source_tree.specs.declared.syntax.Label.{Label}
use Rattle.source_tree.specs.declared.syntax.Iteration.{Iteration}
use Rattle.source_tree.specs.declared.syntax.Stmt.TheOpen.{Stmt-F, Arm-F, Entry-F}
use Rattle.source_tree.specs.declared.syntax.Stmt.TheFolds.{fold-Stmt, fold-Arm, fold-Entry}
use Rattle.source_tree.specs.declared.syntax.Bounds.{Bounds}
use Rattle.source_tree.specs.declared.syntax.TypeName.{TypeName}
use Rattle.source_tree.specs.declared.syntax.TypeName.TheVariants as type_names
use Rattle.source_tree.specs.declared.syntax.Specification.{Specification}
use Rattle.source_tree.specs.declared.syntax.Specification.TheVariants as specifications
use Rattle.source_tree.specs.declared.syntax.TypeDeclaration.{TypeDeclaration}
use Rattle.source_tree.specs.declared.syntax.Declaration.{Declaration}
use Rattle.source_tree.specs.declared.syntax.Variables.{Variables}
use Rattle.source_tree.specs.declared.syntax.Brackets.{Brackets}
use Rattle.source_tree.specs.declared.syntax.StepAction.{StepAction}
use Rattle.source_tree.specs.declared.syntax.ChartStep.{ChartStep}
use Rattle.source_tree.specs.declared.syntax.Steps.{Steps}
use Rattle.source_tree.specs.declared.syntax.Steps.TheVariants as step_lists
use Rattle.source_tree.specs.declared.syntax.Priority.{Priority}
use Rattle.source_tree.specs.declared.syntax.ChartTransition.{ChartTransition}
use Rattle.source_tree.specs.declared.syntax.ChartAction.{ChartAction}
use Rattle.source_tree.specs.declared.syntax.ChartPart.{ChartPart}
use Rattle.source_tree.specs.declared.syntax.ChartPart.TheVariants as chart_parts
use Rattle.source_tree.specs.declared.syntax.Chart.{Chart}
use Rattle.source_tree.specs.declared.syntax.Body.{Body}
use Rattle.source_tree.specs.declared.syntax.Body.TheVariants as bodies
use Rattle.source_tree.specs.declared.syntax.PouType.{PouType}
use Rattle.source_tree.specs.declared.syntax.PouType.TheVariants as pou_types
use Rattle.source_tree.specs.declared.syntax.Pou.{Pou}
use Rattle.source_tree.specs.declared.syntax.Item.{Item}
use Rattle.source_tree.specs.declared.syntax.Item.TheVariants as items
use Rattle.source_tree.specs.declared.syntax.SourceFile.{SourceFile}
use Rattle.source_tree.specs.Syntax.{Symbol, name, number, truth, elementary, negation, operator, opening, iteration, exit_word, part, mark, left_out, Named, PathData, Tree, literal, path, enumerator, paren, unary, chain, call, Links, no_links, link, Arguments, no_arguments, argument, ConnectionData, input, output, Stmt, empty, assign, invoke, branch, cases, iterate, exit, return, Stmts, no_stmts, stmt, Arms, no_arms, arm, Entries, no_entries, entry, Otherwise, no_else, else_stmts, LabelData, IterationData, BoundsData, TypeData, of_elementary, of_subrange, of_name, SpecificationData, of_type, of_values, TypeDeclarationData, DeclarationData, VariablesData, BracketsData, StepActionData, ChartStepData, StepsData, one_step, several_steps, PriorityData, ChartTransitionData, ChartActionData, PartData, step_part, transition_part, action_part, BodyData, statements, chart as chart_body, PouTypeData, function, function_block, program, PouData, ItemData, types, pou, FileData}

-- a text in upper case
abbrev pub upper : List ℕ → List ℕ
upper = str_to_ascii_uppercase

abbrev pub symbol_of : Terminal → List ℕ → ℕ → Symbol
symbol_of terminals.Name text at = name (upper text) at
symbol_of (terminals.Number value) text at = number value at
symbol_of (terminals.Truth value) text at = truth value at
symbol_of (terminals.Type kind) text at = elementary kind at
symbol_of terminals.Not text at = negation at
symbol_of (terminals.Operator o) text at = operator o at
symbol_of terminals.Open text at = opening at
symbol_of terminals.For text at = iteration at
symbol_of terminals.Exit text at = exit_word at
symbol_of (terminals.Part w) text at = part w at
symbol_of (terminals.Mark m) text at = mark m
symbol_of terminals.LeftOut text at = left_out at

abbrev pub symbol : Tok → Symbol
symbol t = symbol_of t.terminal t.slice.now t.at

abbrev pub symbols : List Tok → List Symbol
symbols ts = map symbol ts

abbrev pub name_view : Name → Named
name_view n = record { text = string_bytes n.text; at = n.at }

abbrev pub names_view : List Name → List Named
names_view ns = map name_view ns

abbrev pub path_view : Path → PathData
path_view p = record { first = name_view p.first; members = names_view p.members.items }

-- an operator, its place and its right operand
abbrev pub LinkData : Type 0
LinkData = Operator × ℕ × Tree

abbrev pub links_of : List LinkData → Links
links_of [] = no_links
links_of (l ∷ ls) = link l.0 l.1 l.2 (links_of ls)

-- the name of an argument, if it has one, and its value
abbrev pub ArgumentData : Type 0
ArgumentData = Option Named × Tree

abbrev pub arguments_of : List ArgumentData → Arguments
arguments_of [] = no_arguments
arguments_of (a ∷ args) = argument a.0 a.1 (arguments_of args)

abbrev pub expr_step : Expr-F Tree ArgumentData LinkData → Tree
expr_step (Expr-F.Literal l) = literal l
expr_step (Expr-F.Path p) = path (path_view p)
expr_step (Expr-F.Enumerator t v) = enumerator (name_view t) (name_view v)
expr_step (Expr-F.Paren at e) = paren at e.value
expr_step (Expr-F.Unary o at e) = unary o at e.value
expr_step (Expr-F.Chain e ls) = chain e.value (links_of ls.items)
expr_step (Expr-F.Call n at args) = call (name_view n) at (arguments_of args.items)

abbrev pub link_step : Link-F Tree ArgumentData LinkData → LinkData
link_step l = (l.operator, l.at, l.right)

abbrev pub argument_step : Argument-F Tree ArgumentData LinkData → ArgumentData
argument_step a = (option_map name_view a.name, a.value)

abbrev pub tree_view : Expr → Tree
tree_view = fold-Expr Tree ArgumentData LinkData expr_step argument_step link_step

abbrev pub link_view : Link → LinkData
link_view = fold-Link Tree ArgumentData LinkData expr_step argument_step link_step

abbrev pub argument_view : Argument → ArgumentData
argument_view = fold-Argument Tree ArgumentData LinkData expr_step argument_step link_step

abbrev pub links_view : List Link → Links
links_view ls = links_of (map link_view ls)

abbrev pub arguments_view : List Argument → Arguments
arguments_view args = arguments_of (map argument_view args)

abbrev pub connection_view : Connection → ConnectionData
connection_view (connections.Input n e) = input (name_view n) (tree_view e)
connection_view (connections.Output n p) = output (name_view n) (path_view p)

abbrev pub connections_view : List Connection → List ConnectionData
connections_view cs = map connection_view cs

abbrev pub stmts_of : List Stmt → Stmts
stmts_of [] = no_stmts
stmts_of (s ∷ ss) = stmt s (stmts_of ss)

-- a condition and its statements
abbrev pub ArmData : Type 0
ArmData = Tree × Stmts

abbrev pub arms_of : List ArmData → Arms
arms_of [] = no_arms
arms_of (a ∷ rest) = arm a.0 a.1 (arms_of rest)

abbrev pub otherwise_of : Option (Vec Stmt Global) → Otherwise
otherwise_of None = no_else
otherwise_of (Some ss) = else_stmts (stmts_of ss.items)

-- an expression, where there is one
abbrev pub initial_view : Option Expr → Option Tree
initial_view None = None
initial_view (Some e) = Some (tree_view e)

abbrev pub label_view : Label → LabelData
label_view l = record { low = tree_view l.low; high = initial_view l.high }

abbrev pub labels_view : List Label → List LabelData
labels_view ls = map label_view ls

abbrev pub iteration_view : Iteration → IterationData
iteration_view i = record { at = i.at; control = name_view i.control; first = tree_view i.first; last = tree_view i.last; step = initial_view i.step }

-- the labels of an entry and its statements
abbrev pub EntryData : Type 0
EntryData = List LabelData × Stmts

abbrev pub entries_of : List EntryData → Entries
entries_of [] = no_entries
entries_of (e ∷ es) = entry e.0 e.1 (entries_of es)

abbrev pub stmt_step : Stmt-F Stmt ArmData EntryData → Stmt
stmt_step Stmt-F.Empty = empty
stmt_step (Stmt-F.Assign p e) = assign (path_view p) (tree_view e)
stmt_step (Stmt-F.Call n at cs) = invoke (name_view n) at (connections_view cs.items)
stmt_step (Stmt-F.If arms other) = branch (arms_of arms.items) (otherwise_of other)
stmt_step (Stmt-F.Case e es other) = cases (tree_view e) (entries_of es.items) (otherwise_of other)
stmt_step (Stmt-F.For i ss) = iterate (iteration_view i.value) (stmts_of ss.items)
stmt_step (Stmt-F.Exit at) = exit at
stmt_step Stmt-F.Return = return

abbrev pub arm_step : Arm-F Stmt ArmData EntryData → ArmData
arm_step a = (tree_view a.condition, stmts_of a.body.items)

abbrev pub entry_step : Entry-F Stmt ArmData EntryData → EntryData
entry_step e = (labels_view e.labels.items, stmts_of e.body.items)

abbrev pub stmt_view : StmtTree → Stmt
stmt_view = fold-Stmt Stmt ArmData EntryData stmt_step arm_step entry_step

abbrev pub arm_view : Arm → ArmData
arm_view = fold-Arm Stmt ArmData EntryData stmt_step arm_step entry_step

abbrev pub entry_view : Entry → EntryData
entry_view = fold-Entry Stmt ArmData EntryData stmt_step arm_step entry_step

abbrev pub stmts_view : List StmtTree → Stmts
stmts_view ss = stmts_of (map stmt_view ss)

abbrev pub arms_view : List Arm → Arms
arms_view arms = arms_of (map arm_view arms)

abbrev pub entries_view : List Entry → Entries
entries_view es = entries_of (map entry_view es)

abbrev pub else_view : Option (Vec StmtTree Global) → Otherwise
else_view None = no_else
else_view (Some ss) = else_stmts (stmts_view ss.items)

abbrev pub bounds_view : Bounds → BoundsData
bounds_view b = record { at = b.at; low = tree_view b.low; high = tree_view b.high }

abbrev pub type_view : TypeName → TypeData
type_view (type_names.Elementary kind at) = of_elementary kind at
type_view (type_names.Subrange kind at b) = of_subrange kind at (bounds_view b.value)
type_view (type_names.Named n) = of_name (name_view n)

abbrev pub specification_view : Specification → SpecificationData
specification_view (specifications.Type t) = of_type (type_view t)
specification_view (specifications.Enumeration at first others) = of_values at (name_view first) (names_view others.items)

abbrev pub type_declaration_view : TypeDeclaration → TypeDeclarationData
type_declaration_view d = record { name = name_view d.name; specification = specification_view d.specification }

abbrev pub type_declarations_view : List TypeDeclaration → List TypeDeclarationData
type_declarations_view ds = map type_declaration_view ds

abbrev pub declaration_view : Declaration → DeclarationData
declaration_view d = record { first = name_view d.first; others = names_view d.others.items; kind = type_view d.kind; initial = initial_view d.initial }

abbrev pub declarations_view : List Declaration → List DeclarationData
declarations_view ds = map declaration_view ds

abbrev pub variables_view : Variables → VariablesData
variables_view v = record { section = v.section; declarations = declarations_view v.declarations.items }

abbrev pub all_variables_view : List Variables → List VariablesData
all_variables_view vs = map variables_view vs

abbrev pub brackets_view : Brackets → BracketsData
brackets_view b = record { at = b.at; word = option_map name_view b.word }

abbrev pub step_action_view : StepAction → StepActionData
step_action_view a = record { action = name_view a.action; brackets = option_map brackets_view a.brackets }

abbrev pub step_actions_view : List StepAction → List StepActionData
step_actions_view ss = map step_action_view ss

abbrev pub chart_step_view : ChartStep → ChartStepData
chart_step_view s = record { at = s.at; is_initial = s.is_initial; name = name_view s.name; actions = step_actions_view s.actions.items }

abbrev pub steps_view : Steps → StepsData
steps_view (step_lists.One n) = one_step (name_view n)
steps_view (step_lists.Several at first others) = several_steps at (name_view first) (names_view others.items)

abbrev pub priority_view : Priority → PriorityData
priority_view p = record { at = p.at; word_at = p.word_at; value = p.value; value_at = p.value_at }

abbrev pub chart_transition_view : ChartTransition → ChartTransitionData
chart_transition_view t = record {
  at = t.at;
  name = option_map name_view t.name;
  priority = option_map priority_view t.priority;
  from = steps_view t.from;
  to = steps_view t.to;
  condition = tree_view t.condition;
}

abbrev pub chart_action_view : ChartAction → ChartActionData
chart_action_view a = record { at = a.at; name = name_view a.name; body = stmts_view a.body.items }

abbrev pub part_view : ChartPart → PartData
part_view (chart_parts.Step s) = step_part (chart_step_view s)
part_view (chart_parts.Transition t) = transition_part (chart_transition_view t.value)
part_view (chart_parts.Action a) = action_part (chart_action_view a)

abbrev pub parts_view : List ChartPart → List PartData
parts_view ps = map part_view ps

abbrev pub body_view : Body → BodyData
body_view (bodies.Statements ss) = statements (stmts_view ss.items)
body_view (bodies.Chart c) = chart_body (parts_view c.parts.items)

abbrev pub pou_type_view : PouType → PouTypeData
pou_type_view (pou_types.Function t) = function (type_view t)
pou_type_view pou_types.FunctionBlock = function_block
pou_type_view pou_types.Program = program

abbrev pub pou_view : Pou → PouData
pou_view p = record { pou_type = pou_type_view p.pou_type; name = name_view p.name; variables = all_variables_view p.variables.items; body = body_view p.body }

abbrev pub item_view : Item → ItemData
item_view (items.Types ds) = types (type_declarations_view ds.items)
item_view (items.Pou p) = pou (pou_view p)

abbrev pub items_view : List Item → FileData
items_view is = map item_view is

abbrev pub file_view : SourceFile → FileData
file_view f = items_view f.items.items
