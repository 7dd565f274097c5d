-- Typed lists are those of the definition.
use Rattle.std.proofs.Common.{◌≡◌, ℕ, ◌+◌, List, [], ◌∷◌, ◌++◌, refl, ap, map, ◌∙◌}
use Rattle.std.specs.Prelude.{Some, None}
use Rattle.plc_types.specs.declared.data_type.DataType.{DataType}
use Rattle.plc_types.specs.DataTypes.{carrier}
use Rattle.plc_types.specs.declared.function.StandardFunction.{StandardFunction}
use Rattle.source_tree.specs.Syntax.{Links, no_links, link, Arguments, no_arguments, argument, Stmts, no_stmts, stmt, empty, assign, invoke, branch, cases, iterate, exit, return, Arms, no_arms, arm, Entries, no_entries, entry}
use Rattle.program_tree.specs.Tree.{Expression, Statement, operand, assign as typed_assign, choice, cases as typed_cases, repeat, exit as typed_exit, return as typed_return, statement, choose, entry as typed_entry}
use Rattle.program_tree.specs.View.{operands_of, expressions_of, statements_of, choices_of, entries_of}
use Rattle.typing.specs.Typing.{Scope, by_path, kind_at, next_type, type_of, Parameter, fixed, common, amount, parameter_of}
use Rattle.typing.specs.Judged.{expected_at}
use Rattle.typing.specs.Typed.{with_operand, typed, typed_links, typed_operands}
use Rattle.typing.specs.Labels.{typed_label}
use Rattle.typing.specs.TypedStatements.{cell_of, typed_invoke, and_then, turns_of, typed_stmts, typed_arms, typed_entries, typed_else}
use Rattle.typing.specs.TypedLists.{operand_list, before_operands, expression_list, statement_list, choice_list, entry_list}

pub operands_of-list : (scope : Scope) (t : DataType) (ls : Links) → operands_of (operand_list scope t ls) ≡ typed_links scope t ls
operands_of-list scope t no_links = refl
operands_of-list scope t (link o at e ls) = ap (operand o (carrier t) (typed scope (Some t) e)) (operands_of-list scope (next_type o t) ls)

expressions_of-before : (p : Parameter) (e : Expression) (es : List Expression) → expressions_of (before_operands p e es) ≡ with_operand p e (expressions_of es)
expressions_of-before (fixed k) e es = refl
expressions_of-before common e es = refl
expressions_of-before amount e es = refl

pub expressions_of-list : (scope : Scope) (f : StandardFunction) (t : DataType) (place : ℕ) (args : Arguments) → expressions_of (expression_list scope f t place args) ≡ typed_operands scope f t place args
expressions_of-list scope f t place no_arguments = refl
expressions_of-list scope f t place (argument n e args) =
    let p = parameter_of f place in
    let value = typed scope (expected_at p t) e in
    expressions_of-before p value (expression_list scope f t (place + 1) args) ∙ ap (with_operand p value) (expressions_of-list scope f t (place + 1) args)

statements_of-and_then : (ss ts : List Statement) → statements_of (ss ++ ts) ≡ and_then ss (statements_of ts)
statements_of-and_then [] ts = refl
statements_of-and_then (s ∷ ss) ts = ap (statement s) (statements_of-and_then ss ts)

pub statements_of-list : (scope : Scope) (ss : Stmts) → statements_of (statement_list scope ss) ≡ typed_stmts scope ss
statements_of-list scope no_stmts = refl
statements_of-list scope (stmt empty ss) = statements_of-list scope ss
statements_of-list scope (stmt (assign p e) ss) = ap (statement (typed_assign (cell_of (scope.means (by_path p))) (typed scope (kind_at (scope.means (by_path p))) e))) (statements_of-list scope ss)
statements_of-list scope (stmt (invoke n at cs) ss) =
    statements_of-and_then (typed_invoke scope n cs) (statement_list scope ss) ∙ ap (and_then (typed_invoke scope n cs)) (statements_of-list scope ss)
statements_of-list scope (stmt (branch arms other) ss) = ap (statement (choice (typed_arms scope arms) (typed_else scope other))) (statements_of-list scope ss)
statements_of-list scope (stmt (cases e es other) ss) =
    ap (statement (typed_cases (carrier (type_of scope None e)) (typed scope None e) (typed_entries scope (type_of scope None e) es) (typed_else scope other))) (statements_of-list scope ss)
statements_of-list scope (stmt (iterate i body) ss) = ap (statement (repeat (turns_of scope i) (typed_stmts scope body))) (statements_of-list scope ss)
statements_of-list scope (stmt (exit at) ss) = ap (statement typed_exit) (statements_of-list scope ss)
statements_of-list scope (stmt return ss) = ap (statement typed_return) (statements_of-list scope ss)

pub choices_of-list : (scope : Scope) (arms : Arms) → choices_of (choice_list scope arms) ≡ typed_arms scope arms
choices_of-list scope no_arms = refl
choices_of-list scope (arm e ss arms) = ap (choose (typed scope None e) (typed_stmts scope ss)) (choices_of-list scope arms)

pub entries_of-list : (scope : Scope) (t : DataType) (es : Entries) → entries_of (entry_list scope t es) ≡ typed_entries scope t es
entries_of-list scope t no_entries = refl
entries_of-list scope t (entry ls ss es) = ap (typed_entry (map (typed_label scope t) ls) (typed_stmts scope ss)) (entries_of-list scope t es)
