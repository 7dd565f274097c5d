-- No EXIT leaves the typed statements of a POU or of an action whose EXITs stand in FORs, and where a RETURN would leave them they are a body of their own.
use Rattle.std.proofs.Common.{◌≡◌, Bool, true, false, true≢false, ◌||◌, List, [], ◌∷◌, ◌++◌, Option, Some, None, if◌then◌else◌, refl, sym, ap, ◌∙◌}
use Rattle.std.proofs.lemmas.Bool.{and_parts}
use Rattle.source_tree.specs.Syntax.{Named, ConnectionData, input, output, Stmt, empty, assign, invoke, branch, cases, iterate, exit, return, Stmts, no_stmts, stmt, Arms, no_arms, arm, Entries, no_entries, entry, Otherwise, no_else, else_stmts}
use Rattle.plc_types.specs.declared.data_type.DataType.{DataType}
use Rattle.program_tree.specs.Tree.{Statement, own_body, Statements, no_statements, statement}
use Rattle.program_tree.specs.Leaving.{can_exit_all, can_exit_choices, can_exit_entries, can_return_all, LeavesNothing, in_own_body}
use Rattle.typing.specs.declared.scope.Instance.{Instance}
use Rattle.typing.specs.Typing.{Scope, type_of}
use Rattle.typing.specs.JudgedExits.{judged_exit, judged_exits, judged_exits_of_arms, judged_exits_of_entries, judged_exits_of_else}
use Rattle.typing.specs.TypedStatements.{typed_inputs, typed_run, typed_outputs, typed_invoke, and_then, typed_stmts, typed_arms, typed_entries, typed_else, typed_list}

neither : (a b : Bool) → a ≡ false → b ≡ false → (a || b) ≡ false
neither a b one other = rw (one, other) refl

-- what a list leaves is one body, which a RETURN in it ends
list_leaves_nothing : (ss : Statements) → can_exit_all ss ≡ false → LeavesNothing (in_own_body ss)
list_leaves_nothing ss exits = by (can_return_all ss) refl
  where
    by : (b : Bool) → can_return_all ss ≡ b → LeavesNothing (if b then statement (own_body ss) no_statements else ss)
    by true is = (neither (can_exit_all ss) false exits refl, refl)
    by false is = (exits, is)

-- a list behind another
and_then_both : (ss ts : List Statement) (behind : Statements) → and_then (ss ++ ts) behind ≡ and_then ss (and_then ts behind)
and_then_both [] ts behind = refl
and_then_both (s ∷ ss) ts behind = ap (statement s) (and_then_both ss ts behind)

module _ (scope : Scope) where
  -- what a call of an instance leaves is assignments and a call of a block
  inputs_stay : (n : Named) (cs : List ConnectionData) (behind : Statements) → can_exit_all (and_then (typed_inputs scope n cs) behind) ≡ can_exit_all behind
  inputs_stay n [] behind = refl
  inputs_stay n (input x e ∷ cs) behind = inputs_stay n cs behind
  inputs_stay n (output y p ∷ cs) behind = inputs_stay n cs behind

  run_stays : (o : Option Instance) (behind : Statements) → can_exit_all (and_then (typed_run o) behind) ≡ can_exit_all behind
  run_stays None behind = refl
  run_stays (Some i) behind = refl

  outputs_stay : (n : Named) (cs : List ConnectionData) (behind : Statements) → can_exit_all (and_then (typed_outputs scope n cs) behind) ≡ can_exit_all behind
  outputs_stay n [] behind = refl
  outputs_stay n (input x e ∷ cs) behind = outputs_stay n cs behind
  outputs_stay n (output y p ∷ cs) behind = outputs_stay n cs behind

  invoke_stays : (n : Named) (cs : List ConnectionData) (behind : Statements) → can_exit_all (and_then (typed_invoke scope n cs) behind) ≡ can_exit_all behind
  invoke_stays n cs behind =
      let inputs = typed_inputs scope n cs in
      let run = typed_run (scope.instance n.text) in
      let outputs = typed_outputs scope n cs in
      ap can_exit_all (and_then_both (inputs ++ run) outputs behind ∙ and_then_both inputs run (and_then outputs behind))
      ∙ inputs_stay n cs (and_then run (and_then outputs behind)) ∙ run_stays (scope.instance n.text) (and_then outputs behind) ∙ outputs_stay n cs behind

  mutual
    stmts_stay : (ss : Stmts) → (judged_exits ss).whole ≡ true → can_exit_all (typed_stmts scope ss) ≡ false
    stmts_stay no_stmts h = refl
    stmts_stay (stmt empty ss) h = stmts_stay ss h
    stmts_stay (stmt (assign p e) ss) h = stmts_stay ss h
    stmts_stay (stmt (invoke n at cs) ss) h = invoke_stays n cs (typed_stmts scope ss) ∙ stmts_stay ss h
    stmts_stay (stmt (branch arms other) ss) h =
        let two = and_parts (judged_exit (branch arms other)).whole (judged_exits ss).whole h in
        let own = and_parts (judged_exits_of_arms arms).whole (judged_exits_of_else other).whole two.0 in
        let choices = can_exit_choices (typed_arms scope arms) in
        neither (choices || can_exit_all (typed_else scope other)) (can_exit_all (typed_stmts scope ss)) (neither choices (can_exit_all (typed_else scope other)) (arms_stay arms own.0) (else_stays other own.1)) (stmts_stay ss two.1)
    stmts_stay (stmt (cases e es other) ss) h =
        let two = and_parts (judged_exit (cases e es other)).whole (judged_exits ss).whole h in
        let own = and_parts (judged_exits_of_entries es).whole (judged_exits_of_else other).whole two.0 in
        let entries = can_exit_entries (typed_entries scope (type_of scope None e) es) in
        neither (entries || can_exit_all (typed_else scope other)) (can_exit_all (typed_stmts scope ss))
        (neither entries (can_exit_all (typed_else scope other)) (entries_stay (type_of scope None e) es own.0) (else_stays other own.1)) (stmts_stay ss two.1)
    stmts_stay (stmt (iterate i body) ss) h = stmts_stay ss h
    stmts_stay (stmt (exit at) ss) h = absurd (true≢false (sym h))
    stmts_stay (stmt return ss) h = stmts_stay ss h

    arms_stay : (arms : Arms) → (judged_exits_of_arms arms).whole ≡ true → can_exit_choices (typed_arms scope arms) ≡ false
    arms_stay no_arms h = refl
    arms_stay (arm e ss arms) h =
        let two = and_parts (judged_exits ss).whole (judged_exits_of_arms arms).whole h in
        neither (can_exit_all (typed_stmts scope ss)) (can_exit_choices (typed_arms scope arms)) (stmts_stay ss two.0) (arms_stay arms two.1)

    entries_stay : (t : DataType) (es : Entries) → (judged_exits_of_entries es).whole ≡ true → can_exit_entries (typed_entries scope t es) ≡ false
    entries_stay t no_entries h = refl
    entries_stay t (entry ls ss es) h =
        let two = and_parts (judged_exits ss).whole (judged_exits_of_entries es).whole h in
        neither (can_exit_all (typed_stmts scope ss)) (can_exit_entries (typed_entries scope t es)) (stmts_stay ss two.0) (entries_stay t es two.1)

    else_stays : (other : Otherwise) → (judged_exits_of_else other).whole ≡ true → can_exit_all (typed_else scope other) ≡ false
    else_stays no_else h = refl
    else_stays (else_stmts ss) h = stmts_stay ss h

-- Where no EXIT stands outside of a FOR, nothing leaves the statements of a POU or of an action.
pub leaves_nothing : (scope : Scope) (ss : Stmts) → (judged_exits ss).whole ≡ true → LeavesNothing (typed_list scope ss)
leaves_nothing scope ss whole = list_leaves_nothing (typed_stmts scope ss) (stmts_stay scope ss whole)
