-- An assignment that stands in a body is made where the typed body runs.
use Rattle.std.proofs.Common.{◌≡◌, ℕ, Bool, true, false, if◌then◌else◌, List, [], ◌∷◌, map, ap, ◌∙◌, inl, inr}
use Rattle.source_tree.specs.Syntax.{PathData, Tree, Stmts, PartData, step_part, transition_part, action_part, BodyData, statements, chart as chart_body, PouData, FileData}
use Rattle.source_tree.specs.StatementItems.{some, folded_stmts, folded_parts}
use Rattle.program_tree.specs.declared.typed.Turns.{Turns}
use Rattle.program_tree.specs.Tree.{Expression, Statement, assign as typed_assign, number, own_body, Statements, no_statements, statement}
use Rattle.program_tree.specs.Leaving.{can_return_all, in_own_body}
use Rattle.program_tree.specs.StatementItems.{assignment as written, some as written_some, folded_all, folded_actions}
use Rattle.program_tree.specs.View.{actions_of as actions_from}
use Rattle.naming.specs.Scopes.{Variable, variables_in_pou}
use Rattle.sfc_shape.specs.Shapes.{actions_of}
use Rattle.typing.specs.declared.next.Next.{Next}
use Rattle.typing.specs.Typing.{Scope, by_path, kind_at}
use Rattle.typing.specs.Typed.{typed}
use Rattle.typing.specs.TypedStatements.{cell_of, typed_invoke, and_then, typed_stmts, typed_list}
use Rattle.typing.proofs.TypedItems.{turns_in, AreTypedAlike, typed_alike}
use Rattle.typing.specs.TypedCharts.{typed_action}
use Rattle.typing.specs.Variables.{initial_of}
use Rattle.typing.specs.Places.{sizes_of, first_places, first_place, places_behind}
use Rattle.typing.specs.Members.{scope_of}
use Rattle.typing.specs.TypedPrograms.{is_temporary, begun, typed_body, pou_body}
use Rattle.accepted_cells.specs.Assignments.{IsAssignment, IsAssigned}
use Rattle.accepted_cells.specs.Written.{IsWriting, IsWrittenAmong}

-- ---- among statements before others

module _ (c : ℕ) (v : Expression) where
  behind : (around : List Turns) (ss : List Statement) (rest : Statements) → folded_all (written_some (IsWriting c v)) around rest → folded_all (written_some (IsWriting c v)) around (and_then ss rest)
  behind around [] rest is = is
  behind around (s ∷ ss) rest is = inr (behind around ss rest is)

  behind_one : (b : Bool) (s : Statement) (ss : Statements) → IsWrittenAmong c v ss → IsWrittenAmong c v (if b then statement s ss else ss)
  behind_one true s ss is = inr is
  behind_one false s ss is = is

  -- behind the values that VAR_TEMP variables begin with
  in_begun : (f : FileData) (next : Next) (vs : List Variable) (ss : Statements) → IsWrittenAmong c v ss → IsWrittenAmong c v (begun f next vs ss)
  in_begun f next [] ss is = is
  in_begun f next (w ∷ vs) ss is =
      let after = places_behind f (sizes_of f) next w in
      behind_one (is_temporary w.role) (typed_assign (first_place next w) (number (initial_of f w))) (begun f after vs ss) (in_begun f after vs ss is)

  -- in a body of its own, where a RETURN makes one
  in_own_body_by : (returns : Bool) (ss : Statements) → IsWrittenAmong c v ss → IsWrittenAmong c v (if returns then statement (own_body ss) no_statements else ss)
  in_own_body_by true ss is = inl (inr is)
  in_own_body_by false ss is = is

  among_own : (ss : Statements) → IsWrittenAmong c v ss → IsWrittenAmong c v (in_own_body ss)
  among_own ss is = in_own_body_by (can_return_all ss) ss is

-- ---- what is made of an assignment

module _ (scope : Scope) (q : PathData) (e : Tree) where
  abbrev cell : ℕ
  cell = cell_of (scope.means (by_path q))

  abbrev value : Expression
  value = typed scope (kind_at (scope.means (by_path q))) e

  itself : (p : PathData) (x : Tree) → p ≡ q → x ≡ e → IsWriting cell value [] (written (cell_of (scope.means (by_path p))) (typed scope (kind_at (scope.means (by_path p))) x))
  itself p x path given = (
    ap (λ (r : PathData). cell_of (scope.means (by_path r))) path,
    ap (λ (r : PathData). typed scope (kind_at (scope.means (by_path r))) x) path ∙ ap (λ (y : Tree). typed scope (kind_at (scope.means (by_path q))) y) given,
  )

  typed_alike_writes : AreTypedAlike scope (some (IsAssignment q e)) (written_some (IsWriting cell value)) (λ around A B. A → B)
  typed_alike_writes = record {
    none = λ around h. absurd h;
    both = λ around A A' B B' f g h. elim h [ inl x ↦ inl (f x) | inr y ↦ inr (g y) ];
    left_out = λ around A B f h. elim h [ inl x ↦ absurd x | inr y ↦ f y ];
    assigned = λ around p x h. itself p x h.0 h.1;
    invoked = λ around n at cs A rest f h. behind cell value (turns_in scope around) (typed_invoke scope n cs) rest (elim h [ inl x ↦ absurd x | inr y ↦ f y ]);
    tested = λ around x h. absurd h;
    selected = λ around x h. absurd h;
    labelled = λ around x before ls h. absurd h;
    inside = λ around i A B f h. elim h [ inl x ↦ absurd x | inr y ↦ inr (f y) ];
  }

  in_stmts : (ss : Stmts) → folded_stmts (some (IsAssignment q e)) [] ss → IsWrittenAmong cell value (typed_stmts scope ss)
  in_stmts ss is = typed_alike scope (some (IsAssignment q e)) (written_some (IsWriting cell value)) (λ around A B. A → B) typed_alike_writes [] ss is

  in_list : (ss : Stmts) → folded_stmts (some (IsAssignment q e)) [] ss → IsWrittenAmong cell value (typed_list scope ss)
  in_list ss is = among_own cell value (typed_stmts scope ss) (in_stmts ss is)

  in_actions : (all ps : List PartData) → folded_parts (some (IsAssignment q e)) ps → folded_actions (written_some (IsWriting cell value)) [] (actions_from (map (typed_action scope all) (actions_of ps)))
  in_actions all [] is = absurd is
  in_actions all (step_part s ∷ ps) is = in_actions all ps is
  in_actions all (transition_part t ∷ ps) (inl is) = absurd is
  in_actions all (transition_part t ∷ ps) (inr is) = in_actions all ps is
  in_actions all (action_part a ∷ ps) (inl is) = inr (inl (in_list a.body is))
  in_actions all (action_part a ∷ ps) (inr is) = inr (inr (in_actions all ps is))

  in_body : (b : BodyData) → IsAssigned q e b → IsWrittenAmong cell value (typed_body scope b)
  in_body (statements ss) is = in_list ss is
  in_body (chart_body ps) is = inl (inr (inl (in_actions ps ps is)))

pub body_writes : (f : FileData) (k : ℕ) (p : PouData) (q : PathData) (e : Tree) → IsAssigned q e p.body
    → IsWrittenAmong (cell_of ((scope_of f (sizes_of f) k).means (by_path q))) (typed (scope_of f (sizes_of f) k) (kind_at ((scope_of f (sizes_of f) k).means (by_path q))) e) (pou_body f k p)
body_writes f k p q e is =
    let scope = scope_of f (sizes_of f) k in
    let vs = variables_in_pou p in
    in_begun (cell scope q e) (value scope q e) f (first_places f (sizes_of f) p.pou_type vs) vs (typed_body scope p.body) (in_body scope q e p.body is)
