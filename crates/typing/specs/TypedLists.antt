-- Typed operands, statements, arms and entries as lists.
use Rattle.std.specs.Prelude.{ℕ, ◌+◌, List, [], ◌∷◌, ◌++◌, map, Some, None}
use Rattle.plc_types.specs.declared.data_type.DataType.{DataType}
use Rattle.plc_types.specs.DataTypes.{carrier}
use Rattle.plc_types.specs.declared.function.StandardFunction.{StandardFunction}
use Rattle.source_tree.specs.Syntax.{Links, no_links, link, Arguments, no_arguments, argument, Stmt, Stmts, no_stmts, stmt, empty, assign, invoke, branch, cases, iterate, exit, return, Arms, no_arms, arm, Entries, no_entries, entry}
use Rattle.program_tree.specs.Tree.{Expression, Statement, assign as typed_assign, choice, cases as typed_cases, repeat, exit as typed_exit, return as typed_return}
use Rattle.program_tree.specs.View.{OperandData, ChoiceData, EntryData}
use Rattle.typing.specs.Typing.{Scope, by_path, kind_at, next_type, type_of, Parameter, fixed, common, amount, parameter_of}
use Rattle.typing.specs.Judged.{expected_at}
use Rattle.typing.specs.Typed.{typed}
use Rattle.typing.specs.Labels.{typed_label}
use Rattle.typing.specs.TypedStatements.{cell_of, typed_invoke, turns_of, typed_stmts, typed_arms, typed_entries, typed_else}

abbrev pub operand_list : Scope → DataType → Links → List OperandData
operand_list scope t no_links = []
operand_list scope t (link o at e ls) = (o, carrier t, typed scope (Some t) e) ∷ operand_list scope (next_type o t) ls

-- an amount is no operand
abbrev pub before_operands : Parameter → Expression → List Expression → List Expression
before_operands (fixed k) e es = e ∷ es
before_operands common e es = e ∷ es
before_operands amount e es = es

-- the operands among arguments from a place on
abbrev pub expression_list : Scope → StandardFunction → DataType → ℕ → Arguments → List Expression
expression_list scope f t place no_arguments = []
expression_list scope f t place (argument n e args) =
    before_operands (parameter_of f place) (typed scope (expected_at (parameter_of f place) t) e) (expression_list scope f t (place + 1) args)

-- an empty statement leaves nothing, and a call of an instance several
abbrev pub statements_for : Scope → Stmt → List Statement
statements_for scope empty = []
statements_for scope (assign p e) = typed_assign (cell_of (scope.means (by_path p))) (typed scope (kind_at (scope.means (by_path p))) e) ∷ []
statements_for scope (invoke n at cs) = typed_invoke scope n cs
statements_for scope (branch arms other) = choice (typed_arms scope arms) (typed_else scope other) ∷ []
statements_for scope (cases e es other) =
    typed_cases (carrier (type_of scope None e)) (typed scope None e) (typed_entries scope (type_of scope None e) es) (typed_else scope other) ∷ []
statements_for scope (iterate i body) = repeat (turns_of scope i) (typed_stmts scope body) ∷ []
statements_for scope (exit at) = typed_exit ∷ []
statements_for scope return = typed_return ∷ []

abbrev pub statement_list : Scope → Stmts → List Statement
statement_list scope no_stmts = []
statement_list scope (stmt s ss) = statements_for scope s ++ statement_list scope ss

abbrev pub choice_list : Scope → Arms → List ChoiceData
choice_list scope no_arms = []
choice_list scope (arm e ss arms) = (typed scope None e, typed_stmts scope ss) ∷ choice_list scope arms

abbrev pub entry_list : Scope → DataType → Entries → List EntryData
entry_list scope t no_entries = []
entry_list scope t (entry ls ss es) = (map (typed_label scope t) ls, typed_stmts scope ss) ∷ entry_list scope t es
