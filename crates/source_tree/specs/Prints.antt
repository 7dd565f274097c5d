-- What a tree prints (the grammar of the profile, after IEC 61131-3, annex B).
use Rattle.std.specs.Prelude.{ℕ, List, [], ◌∷◌, ◌++◌, map, codes, Bool, if◌then◌else◌, Option, Some, None}
use Rattle.plc_types.specs.declared.operator.Operator.TheVariants.{Minus}
use Rattle.source_tree.specs.declared.token.Mark.{Mark}
use Rattle.source_tree.specs.declared.token.Mark.TheVariants as marks
use Rattle.source_tree.specs.declared.token.PartWord.TheVariants as words
use Rattle.source_tree.specs.declared.syntax.Literal.{Literal}
use Rattle.source_tree.specs.declared.syntax.Literal.TheVariants as literals
use Rattle.plc_types.specs.declared.operator.UnaryOperator.{UnaryOperator}
use Rattle.plc_types.specs.declared.operator.UnaryOperator.TheVariants as signs
use Rattle.source_tree.specs.declared.syntax.Section.{Section}
use Rattle.source_tree.specs.declared.syntax.Section.TheVariants as sections
use Rattle.source_tree.specs.Syntax.{Symbol, name, number, truth, elementary, negation, operator, opening, iteration, exit_word, part, mark, Named, PathData, Tree, literal, path, enumerator, paren, unary, chain, call, Links, no_links, link, Arguments, no_arguments, argument, ConnectionData, input, output, Stmt, empty, assign, invoke, branch, cases, iterate, exit, return, Stmts, no_stmts, stmt, Arms, no_arms, arm, Entries, no_entries, entry, Otherwise, no_else, else_stmts, LabelData, IterationData, BoundsData, TypeData, of_elementary, of_subrange, of_name, SpecificationData, of_type, of_values, TypeDeclarationData, DeclarationData, VariablesData, BracketsData, StepActionData, ChartStepData, StepsData, one_step, several_steps, PriorityData, ChartTransitionData, ChartActionData, PartData, step_part, transition_part, action_part, BodyData, statements, chart as chart_body, PouTypeData, function, function_block, program, PouData, ItemData, types, pou, FileData}

abbrev pub name_symbol : Named → Symbol
name_symbol n = name n.text n.at

-- `.name` for each name
abbrev pub print_members : List Named → List Symbol
print_members [] = []
print_members (n ∷ ns) = mark marks.Point ∷ name_symbol n ∷ print_members ns

abbrev pub print_path : PathData → List Symbol
print_path p = name_symbol p.first ∷ print_members p.members

abbrev pub print_minus : Option ℕ → List Symbol
print_minus None = []
print_minus (Some at) = operator Minus at ∷ []

abbrev pub print_literal : Literal → List Symbol
print_literal (literals.Number value at) = number value at ∷ []
print_literal (literals.Truth value at) = truth value at ∷ []
print_literal (literals.TypedNumber kind at minus value value_at) = elementary kind at ∷ mark marks.Hash ∷ (print_minus minus ++ number value value_at ∷ [])
print_literal (literals.TypedTruth kind at value value_at) = elementary kind at ∷ mark marks.Hash ∷ truth value value_at ∷ []

abbrev pub unary_symbol : UnaryOperator → ℕ → Symbol
unary_symbol signs.Minus at = operator Minus at
unary_symbol signs.Not at = negation at

-- `name :=` before an argument by name
abbrev pub print_argument_name : Option Named → List Symbol
print_argument_name None = []
print_argument_name (Some n) = name_symbol n ∷ mark marks.Assign ∷ []

abbrev mutual
  pub print : Tree → List Symbol
  print (literal l) = print_literal l
  print (path p) = print_path p
  print (enumerator t v) = name_symbol t ∷ mark marks.Hash ∷ name_symbol v ∷ []
  print (paren at e) = opening at ∷ (print e ++ mark marks.Close ∷ [])
  print (unary o at e) = unary_symbol o at ∷ print e
  print (chain e ls) = print e ++ print_links ls
  print (call n at args) = name_symbol n ∷ opening at ∷ (print_arguments args ++ mark marks.Close ∷ [])

  pub print_links : Links → List Symbol
  print_links no_links = []
  print_links (link o at e ls) = operator o at ∷ (print e ++ print_links ls)

  -- arguments with commas between them
  pub print_arguments : Arguments → List Symbol
  print_arguments no_arguments = []
  print_arguments (argument n e args) = print_argument_name n ++ print e ++ print_more_arguments args

  pub print_more_arguments : Arguments → List Symbol
  print_more_arguments no_arguments = []
  print_more_arguments (argument n e args) = mark marks.Comma ∷ (print_argument_name n ++ print e ++ print_more_arguments args)

-- `x := e` or `y => v`
abbrev pub print_connection : ConnectionData → List Symbol
print_connection (input n e) = name_symbol n ∷ mark marks.Assign ∷ print e
print_connection (output n p) = name_symbol n ∷ mark marks.Arrow ∷ print_path p

-- connections with commas between them
abbrev pub print_more_connections : List ConnectionData → List Symbol
print_more_connections [] = []
print_more_connections (c ∷ cs) = mark marks.Comma ∷ (print_connection c ++ print_more_connections cs)

abbrev pub print_connections : List ConnectionData → List Symbol
print_connections [] = []
print_connections (c ∷ cs) = print_connection c ++ print_more_connections cs

abbrev pub print_high : Option Tree → List Symbol
print_high None = []
print_high (Some e) = mark marks.Range ∷ print e

abbrev pub print_label : LabelData → List Symbol
print_label l = print l.low ++ print_high l.high

-- labels with commas between them
abbrev pub print_more_labels : List LabelData → List Symbol
print_more_labels [] = []
print_more_labels (l ∷ ls) = mark marks.Comma ∷ (print_label l ++ print_more_labels ls)

abbrev pub print_labels : List LabelData → List Symbol
print_labels [] = []
print_labels (l ∷ ls) = print_label l ++ print_more_labels ls

abbrev pub print_step : Option Tree → List Symbol
print_step None = []
print_step (Some e) = mark marks.By ∷ print e

abbrev pub print_iteration : IterationData → List Symbol
print_iteration i = iteration i.at ∷ name_symbol i.control ∷ mark marks.Assign ∷ (print i.first ++ mark marks.To ∷ (print i.last ++ print_step i.step ++ mark marks.Do ∷ []))

abbrev mutual
  pub print_stmt : Stmt → List Symbol
  print_stmt empty = mark marks.Semicolon ∷ []
  print_stmt (assign p e) = print_path p ++ mark marks.Assign ∷ (print e ++ mark marks.Semicolon ∷ [])
  print_stmt (invoke n at cs) = name_symbol n ∷ opening at ∷ (print_connections cs ++ mark marks.Close ∷ mark marks.Semicolon ∷ [])
  print_stmt (branch arms other) = print_arms marks.If arms ++ print_otherwise marks.EndIf other
  print_stmt (cases e es other) = mark marks.Case ∷ (print e ++ mark marks.Of ∷ (print_entries es ++ print_otherwise marks.EndCase other))
  print_stmt (iterate i ss) = print_iteration i ++ (print_stmts ss ++ mark marks.EndFor ∷ [])
  print_stmt (exit at) = exit_word at ∷ mark marks.Semicolon ∷ []
  print_stmt return = mark marks.Return ∷ mark marks.Semicolon ∷ []

  pub print_stmts : Stmts → List Symbol
  print_stmts no_stmts = []
  print_stmts (stmt s ss) = print_stmt s ++ print_stmts ss

  -- the word before the first arm is IF, and ELSIF before each other
  pub print_arms : Mark → Arms → List Symbol
  print_arms lead no_arms = []
  print_arms lead (arm e ss arms) = mark lead ∷ (print e ++ mark marks.Then ∷ (print_stmts ss ++ print_arms marks.Elsif arms))

  pub print_entries : Entries → List Symbol
  print_entries no_entries = []
  print_entries (entry ls ss es) = print_labels ls ++ mark marks.Colon ∷ (print_stmts ss ++ print_entries es)

  -- ELSE and its statements, where there are any, and the word that closes
  pub print_otherwise : Mark → Otherwise → List Symbol
  print_otherwise closing no_else = mark closing ∷ []
  print_otherwise closing (else_stmts ss) = mark marks.Else ∷ (print_stmts ss ++ mark closing ∷ [])

-- `, name` for each name
abbrev pub print_others : List Named → List Symbol
print_others [] = []
print_others (n ∷ ns) = mark marks.Comma ∷ name_symbol n ∷ print_others ns

abbrev pub print_bounds : BoundsData → List Symbol
print_bounds b = opening b.at ∷ (print b.low ++ mark marks.Range ∷ (print b.high ++ mark marks.Close ∷ []))

abbrev pub print_type : TypeData → List Symbol
print_type (of_elementary kind at) = elementary kind at ∷ []
print_type (of_subrange kind at b) = elementary kind at ∷ print_bounds b
print_type (of_name n) = name_symbol n ∷ []

abbrev pub print_initial : Option Tree → List Symbol
print_initial None = []
print_initial (Some e) = mark marks.Assign ∷ print e

abbrev pub print_declaration : DeclarationData → List Symbol
print_declaration d = name_symbol d.first ∷ (print_others d.others ++ mark marks.Colon ∷ (print_type d.kind ++ print_initial d.initial ++ mark marks.Semicolon ∷ []))

abbrev pub print_declarations : List DeclarationData → List Symbol
print_declarations [] = []
print_declarations (d ∷ ds) = print_declaration d ++ print_declarations ds

abbrev pub section_marks : Section → List Mark
section_marks sections.Input = marks.VarInput ∷ []
section_marks sections.Output = marks.VarOutput ∷ []
section_marks sections.Local = marks.Var ∷ []
section_marks sections.Temporary = marks.VarTemp ∷ []
section_marks sections.Constant = marks.Var ∷ marks.Constant ∷ []

abbrev pub print_variables : List VariablesData → List Symbol
print_variables [] = []
print_variables (v ∷ vs) = map mark (section_marks v.section) ++ (print_declarations v.declarations ++ mark marks.EndVar ∷ print_variables vs)

-- a name, where there is one
abbrev pub print_name : Option Named → List Symbol
print_name None = []
print_name (Some n) = name_symbol n ∷ []

-- `(word)` or `()`, where there are parentheses
abbrev pub print_brackets : Option BracketsData → List Symbol
print_brackets None = []
print_brackets (Some b) = opening b.at ∷ (print_name b.word ++ mark marks.Close ∷ [])

abbrev pub print_step_actions : List StepActionData → List Symbol
print_step_actions [] = []
print_step_actions (a ∷ rest) = name_symbol a.action ∷ (print_brackets a.brackets ++ mark marks.Semicolon ∷ print_step_actions rest)

abbrev pub print_chart_step : ChartStepData → List Symbol
print_chart_step s =
    part (if s.is_initial then words.InitialStep else words.Step) s.at ∷ name_symbol s.name ∷ mark marks.Colon
    ∷ (print_step_actions s.actions ++ mark marks.EndStep ∷ [])

abbrev pub print_steps : StepsData → List Symbol
print_steps (one_step n) = name_symbol n ∷ []
print_steps (several_steps at first others) = opening at ∷ name_symbol first ∷ (print_others others ++ mark marks.Close ∷ [])

-- `(PRIORITY := number)`; PRIORITY is a name like any other elsewhere
abbrev pub print_priority : Option PriorityData → List Symbol
print_priority None = []
print_priority (Some p) = opening p.at ∷ name (codes "PRIORITY") p.word_at ∷ mark marks.Assign ∷ number p.value p.value_at ∷ mark marks.Close ∷ []

abbrev pub print_transition : ChartTransitionData → List Symbol
print_transition t =
    part words.Transition t.at
    ∷ (print_name t.name ++ (print_priority t.priority ++ mark marks.From ∷ (print_steps t.from ++ mark marks.To
    ∷ (print_steps t.to ++ mark marks.Assign ∷ (print t.condition ++ mark marks.Semicolon ∷ mark marks.EndTransition ∷ [])))))

abbrev pub print_chart_action : ChartActionData → List Symbol
print_chart_action a = part words.Action a.at ∷ name_symbol a.name ∷ mark marks.Colon ∷ (print_stmts a.body ++ mark marks.EndAction ∷ [])

abbrev pub print_part : PartData → List Symbol
print_part (step_part s) = print_chart_step s
print_part (transition_part t) = print_transition t
print_part (action_part a) = print_chart_action a

abbrev pub print_parts : List PartData → List Symbol
print_parts [] = []
print_parts (p ∷ ps) = print_part p ++ print_parts ps

abbrev pub print_body : BodyData → List Symbol
print_body (statements ss) = print_stmts ss
print_body (chart_body ps) = print_parts ps

-- the word that a POU begins with, and the one that it ends with
abbrev pub beginning_of : PouTypeData → Mark
beginning_of (function t) = marks.Function
beginning_of function_block = marks.FunctionBlock
beginning_of program = marks.Program

abbrev pub end_of : PouTypeData → Mark
end_of (function t) = marks.EndFunction
end_of function_block = marks.EndFunctionBlock
end_of program = marks.EndProgram

-- `: type` behind the name of a FUNCTION
abbrev pub print_result : PouTypeData → List Symbol
print_result (function t) = mark marks.Colon ∷ print_type t
print_result function_block = []
print_result program = []

abbrev pub print_pou : PouData → List Symbol
print_pou p =
    mark (beginning_of p.pou_type) ∷ name_symbol p.name
    ∷ (print_result p.pou_type ++ (print_variables p.variables ++ (print_body p.body ++ mark (end_of p.pou_type) ∷ [])))

abbrev pub print_specification : SpecificationData → List Symbol
print_specification (of_type t) = print_type t
print_specification (of_values at first others) = opening at ∷ name_symbol first ∷ (print_others others ++ mark marks.Close ∷ [])

abbrev pub print_types : List TypeDeclarationData → List Symbol
print_types [] = []
print_types (d ∷ ds) = name_symbol d.name ∷ mark marks.Colon ∷ (print_specification d.specification ++ mark marks.Semicolon ∷ print_types ds)

abbrev pub print_item : ItemData → List Symbol
print_item (types ds) = mark marks.Type ∷ (print_types ds ++ mark marks.EndType ∷ [])
print_item (pou p) = print_pou p

abbrev pub print_file : FileData → List Symbol
print_file [] = []
print_file (i ∷ is) = print_item i ++ print_file is
