-- The typed statements that statements stand for.
use Rattle.std.specs.Prelude.{ℕ, List, [], ◌∷◌, ◌++◌, map, Option, Some, None}
use Rattle.plc_types.specs.declared.data_type.DataType.{DataType}
use Rattle.plc_types.specs.DataTypes.{carrier}
use Rattle.program_tree.specs.declared.typed.Turns.{Turns}
use Rattle.source_tree.specs.Syntax.{Named, ConnectionData, input, output, empty, assign, invoke, branch, cases, iterate, exit, return, Stmts, no_stmts, stmt, Arms, no_arms, arm, Entries, no_entries, entry, Otherwise, no_else, else_stmts, IterationData}
use Rattle.program_tree.specs.Tree.{Statement, assign as typed_assign, call_block, choice, cases as typed_cases, repeat, exit as typed_exit, return as typed_return, Statements, no_statements, statement, Choices, no_choices, choose, Entries as TypedEntries, no_entries as no_typed_entries, entry as typed_entry}
use Rattle.program_tree.specs.Leaving.{in_own_body}
use Rattle.naming.specs.Broken.{alone}
use Rattle.typing.specs.declared.scope.Place.{Place}
use Rattle.typing.specs.declared.scope.Place.TheVariants as places
use Rattle.typing.specs.declared.scope.Meaning.{Meaning}
use Rattle.typing.specs.declared.scope.Instance.{Instance}
use Rattle.typing.specs.Typing.{Scope, by_path, kind_at, or_dint, type_of}
use Rattle.typing.specs.Typed.{meaning_read, typed}
use Rattle.typing.specs.Constants.{turn_count}
use Rattle.typing.specs.Labels.{typed_label}
use Rattle.typing.specs.JudgedStatements.{member, bound_value, step_value}

abbrev pub place_cell : Place → ℕ
place_cell (places.Cell c) = c
place_cell (places.Value v) = 0

abbrev pub cell_of : Option Meaning → ℕ
cell_of None = 0
cell_of (Some m) = place_cell m.place

abbrev pub turns_of : Scope → IterationData → Turns
turns_of scope i =
    let m = scope.means (by_path (alone i.control)) in
    let t = or_dint (kind_at m) in
    record {
      count = turn_count (bound_value scope t i.first) (bound_value scope t i.last) (step_value scope t i.step);
      control = cell_of m;
      first = bound_value scope t i.first;
      step = step_value scope t i.step;
    }

-- the values of the inputs that are given are assigned to an instance's cells
abbrev pub typed_inputs : Scope → Named → List ConnectionData → List Statement
typed_inputs scope n [] = []
typed_inputs scope n (input x e ∷ cs) =
    let m = scope.means (by_path (member n x)) in typed_assign (cell_of m) (typed scope (kind_at m) e) ∷ typed_inputs scope n cs
typed_inputs scope n (output y p ∷ cs) = typed_inputs scope n cs

-- the outputs that are asked for are copied to their targets
abbrev pub typed_outputs : Scope → Named → List ConnectionData → List Statement
typed_outputs scope n [] = []
typed_outputs scope n (input x e ∷ cs) = typed_outputs scope n cs
typed_outputs scope n (output y p ∷ cs) =
    typed_assign (cell_of (scope.means (by_path p))) (meaning_read (scope.means (by_path (member n y)))) ∷ typed_outputs scope n cs

abbrev pub typed_run : Option Instance → List Statement
typed_run None = []
typed_run (Some i) = call_block i.block i.offset ∷ []

-- a call of an instance assigns its inputs, runs its block's body, and copies its outputs
abbrev pub typed_invoke : Scope → Named → List ConnectionData → List Statement
typed_invoke scope n cs = typed_inputs scope n cs ++ typed_run (scope.instance n.text) ++ typed_outputs scope n cs

-- statements, and others behind them
abbrev pub and_then : List Statement → Statements → Statements
and_then [] behind = behind
and_then (s ∷ ss) behind = statement s (and_then ss behind)

-- empty statements leave nothing
abbrev mutual
  pub typed_stmts : Scope → Stmts → Statements
  typed_stmts scope no_stmts = no_statements
  typed_stmts scope (stmt empty ss) = typed_stmts scope ss
  typed_stmts scope (stmt (assign p e) ss) = statement (typed_assign (cell_of (scope.means (by_path p))) (typed scope (kind_at (scope.means (by_path p))) e)) (typed_stmts scope ss)
  typed_stmts scope (stmt (invoke n at cs) ss) = and_then (typed_invoke scope n cs) (typed_stmts scope ss)
  typed_stmts scope (stmt (branch arms other) ss) = statement (choice (typed_arms scope arms) (typed_else scope other)) (typed_stmts scope ss)
  typed_stmts scope (stmt (cases e es other) ss) =
      statement (typed_cases (carrier (type_of scope None e)) (typed scope None e) (typed_entries scope (type_of scope None e) es) (typed_else scope other)) (typed_stmts scope ss)
  typed_stmts scope (stmt (iterate i body) ss) = statement (repeat (turns_of scope i) (typed_stmts scope body)) (typed_stmts scope ss)
  typed_stmts scope (stmt (exit at) ss) = statement typed_exit (typed_stmts scope ss)
  typed_stmts scope (stmt return ss) = statement typed_return (typed_stmts scope ss)

  pub typed_arms : Scope → Arms → Choices
  typed_arms scope no_arms = no_choices
  typed_arms scope (arm e ss arms) = choose (typed scope None e) (typed_stmts scope ss) (typed_arms scope arms)

  pub typed_entries : Scope → DataType → Entries → TypedEntries
  typed_entries scope t no_entries = no_typed_entries
  typed_entries scope t (entry ls ss es) = typed_entry (map (typed_label scope t) ls) (typed_stmts scope ss) (typed_entries scope t es)

  pub typed_else : Scope → Otherwise → Statements
  typed_else scope no_else = no_statements
  typed_else scope (else_stmts ss) = typed_stmts scope ss

-- the statements of a POU, or those of an action, which a RETURN in them ends
abbrev pub typed_list : Scope → Stmts → Statements
typed_list scope ss = in_own_body (typed_stmts scope ss)
