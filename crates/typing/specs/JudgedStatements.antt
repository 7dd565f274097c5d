-- The rules on the types of statements. Statements are judged inside FORs, whose control variables are these cells.
use Rattle.std.specs.Prelude.{ℕ, List, [], ◌∷◌, Bool, true, false, not, ◌&&◌, ◌||◌, ◌==◌, Option, Some, None, is_some, if◌then◌else◌, ℤ, pos}
use Rattle.std.specs.List.{list_any, list_all}
use Rattle.std.specs.Str.{bytes_eq}
use Rattle.plc_types.specs.declared.elementary.Elementary.TheVariants as types
use Rattle.plc_types.specs.declared.data_type.DataType.{DataType}
use Rattle.plc_types.specs.declared.data_type.DataType.TheVariants.{Elementary, Enumeration, Unknown}
use Rattle.plc_types.specs.DataTypes.{is_same_type, is_integer_type}
use Rattle.rules.specs.declared.rule.Rule.{Rule}
use Rattle.rules.specs.declared.rule.Rule.TheVariants.{OperandType, ValueType, ArgumentCount, NotAssignable, NotConstant}
use Rattle.plc_types.specs.declared.range.Range.{Range}
use Rattle.plc_types.specs.Types.{is_integer, range_of}
use Rattle.source_tree.specs.Syntax.{Named, PathData, Tree, ConnectionData, input, output, Stmt, empty, assign, invoke, branch, cases, iterate, exit, return, Stmts, no_stmts, stmt, Arms, no_arms, arm, Entries, no_entries, entry, Otherwise, no_else, else_stmts, LabelData, IterationData}
use Rattle.naming.specs.Broken.{alone}
use Rattle.typing.specs.declared.scope.Place.{Place}
use Rattle.typing.specs.declared.scope.Place.TheVariants as places
use Rattle.typing.specs.declared.scope.Meaning.{Meaning}
use Rattle.typing.specs.Typing.{Scope, by_path, kind_at, or_dint, type_of, place_of}
use Rattle.rules.specs.Judgements.{Judgement, ok, and, require}
use Rattle.typing.specs.Judged.{judged, judged_meaning, judged_condition}
use Rattle.typing.specs.Constants.{constant_value, broken_by_turns}
use Rattle.typing.specs.Labels.{judged_labels, seen_behind}

-- a cell that is no control variable of a FOR around
abbrev pub is_free : List ℕ → Place → Bool
is_free controls (places.Cell c) = not (list_any (λ d. c == d) controls)
is_free controls (places.Value v) = false

-- An own input, a constant and a control variable inside its loop are no targets. What may control no FOR is not looked for among those that do.
abbrev pub is_assignable : List ℕ → Option Meaning → Bool
is_assignable controls None = false
is_assignable controls (Some m) = m.assignable && (not m.control || is_free controls m.place)

abbrev pub judged_target : List ℕ → Option Meaning → ℕ → Judgement
judged_target controls m at = require (judged_meaning m) (is_assignable controls m) NotAssignable at

-- an assignment's value is of its target's type
abbrev pub judged_assign : Scope → List ℕ → PathData → Tree → Judgement
judged_assign scope controls p e =
    let expected = kind_at (scope.means (by_path p)) in
    require (and (judged_target controls (scope.means (by_path p)) p.first.at) (judged scope expected e)) (is_same_type (type_of scope expected e) (or_dint expected)) ValueType p.first.at

-- what a FUNCTION answers may not control a FOR
abbrev pub is_control : Option Meaning → Bool
is_control None = false
is_control (Some m) = m.control

-- the path of an instance's input or output
abbrev pub member : Named → Named → PathData
member n x = record { first = n; members = x ∷ [] }

-- the value of an input is of its type
abbrev pub judged_input : Scope → Option Meaning → Named → Tree → Judgement
judged_input scope m x e =
    require (and (judged_meaning m) (judged scope (kind_at m) e)) (is_same_type (type_of scope (kind_at m) e) (or_dint (kind_at m))) ValueType x.at

-- an output is of the type of the target that it is copied to, whose first name stands at a place
abbrev pub judged_output : List ℕ → Option Meaning → Option Meaning → ℕ → Judgement
judged_output controls m target at =
    require (and (judged_meaning m) (judged_target controls target at)) (is_same_type (or_dint (kind_at target)) (or_dint (kind_at m))) ValueType at

abbrev pub judged_connection : Scope → List ℕ → Named → ConnectionData → Judgement
judged_connection scope controls n (input x e) = judged_input scope (scope.means (by_path (member n x))) x e
judged_connection scope controls n (output y p) = judged_output controls (scope.means (by_path (member n y))) (scope.means (by_path p)) p.first.at

abbrev pub judged_connections : Scope → List ℕ → Named → List ConnectionData → Judgement
judged_connections scope controls n [] = ok
judged_connections scope controls n (c ∷ cs) = and (judged_connection scope controls n c) (judged_connections scope controls n cs)

abbrev pub connected : ConnectionData → Named
connected (input x e) = x
connected (output y p) = y

-- a name is connected that was connected before, or twice
abbrev pub connects_twice : List (List ℕ) → List ConnectionData → Bool
connects_twice before [] = false
connects_twice before (c ∷ cs) =
    list_any (λ text. bytes_eq text (connected c).text) before || connects_twice ((connected c).text ∷ before) cs

-- from outside, an instance's inputs may be assigned, and its outputs may not
abbrev pub is_input_of_instance : Option Meaning → Bool
is_input_of_instance None = false
is_input_of_instance (Some m) = m.assignable

abbrev pub has_right_arrow : Scope → Named → ConnectionData → Bool
has_right_arrow scope n (input x e) = is_input_of_instance (scope.means (by_path (member n x)))
has_right_arrow scope n (output y p) = not (is_input_of_instance (scope.means (by_path (member n y))))

-- a call of an instance connects each name once, inputs by `:=` and outputs by `=>`
abbrev pub judged_invoke : Scope → List ℕ → Named → List ConnectionData → Judgement
judged_invoke scope controls n cs =
    require (judged_connections scope controls n cs) (not (connects_twice [] cs) && list_all (has_right_arrow scope n) cs) ArgumentCount n.at

-- the control variable of a FOR may be assigned, and is of an integer type
abbrev pub may_control : List ℕ → Option Meaning → Bool
may_control controls m = is_assignable controls m && is_control m && is_integer_type (or_dint (kind_at m))

abbrev pub judged_control : List ℕ → Option Meaning → ℕ → Judgement
judged_control controls m at = require (judged_meaning m) (may_control controls m) NotAssignable at

-- the bounds and the step of a FOR are constant
abbrev pub judged_bound : Scope → DataType → Tree → Judgement
judged_bound scope t e = require (judged scope (Some t) e) (is_some (constant_value scope (Some t) e)) NotConstant (place_of e)

abbrev pub judged_step : Scope → DataType → Option Tree → Judgement
judged_step scope t None = ok
judged_step scope t (Some e) = judged_bound scope t e

abbrev pub is_typed : Scope → DataType → Tree → Bool
is_typed scope t e = is_same_type (type_of scope (Some t) e) t

abbrev pub step_is_typed : Scope → DataType → Option Tree → Bool
step_is_typed scope t None = true
step_is_typed scope t (Some e) = is_typed scope t e

-- what stands between FOR and DO; the bounds and the step are of the control variable's type
abbrev pub judged_iteration : Scope → List ℕ → IterationData → Judgement
judged_iteration scope controls i =
    let m = scope.means (by_path (alone i.control)) in
    let t = or_dint (kind_at m) in
    require
    (and (judged_control controls m i.control.at) (and (judged_bound scope t i.first) (and (judged_bound scope t i.last) (judged_step scope t i.step))))
    (is_typed scope t i.first && is_typed scope t i.last && step_is_typed scope t i.step) ValueType i.control.at

abbrev pub value_or_zero : Option ℤ → ℤ
value_or_zero None = pos 0
value_or_zero (Some v) = v

abbrev pub bound_value : Scope → DataType → Tree → ℤ
bound_value scope t e = value_or_zero (constant_value scope (Some t) e)

-- a step that is not written is 1
abbrev pub step_value : Scope → DataType → Option Tree → ℤ
step_value scope t None = pos 1
step_value scope t (Some e) = bound_value scope t e

-- the values that what a name stands for may have
abbrev pub range_at : Option Meaning → Range
range_at None = range_of types.Dint
range_at (Some m) = m.range

-- the rule that the turns of a FOR break
abbrev pub turns_rule : Scope → IterationData → Option Rule
turns_rule scope i =
    let m = scope.means (by_path (alone i.control)) in
    let t = or_dint (kind_at m) in
    broken_by_turns (range_at m) (bound_value scope t i.first) (bound_value scope t i.last) (step_value scope t i.step)

-- a construct with whole parts breaks a rule where there is one
abbrev pub broken_by : Judgement → Option Rule → ℕ → Judgement
broken_by parts None at = parts
broken_by parts (Some rule) at = require parts false rule at

-- the control variables inside a FOR
abbrev pub with_place : List ℕ → Place → List ℕ
with_place controls (places.Cell c) = c ∷ controls
with_place controls (places.Value v) = controls

abbrev pub with_control : List ℕ → Option Meaning → List ℕ
with_control controls None = controls
with_control controls (Some m) = with_place controls m.place

abbrev pub may_select : DataType → Bool
may_select (Elementary k) = is_integer k
may_select (Enumeration n) = true
may_select Unknown = false

-- a selector is of an integer type, or an enumeration
abbrev pub judged_selector : Scope → Tree → Judgement
judged_selector scope e = require (judged scope None e) (may_select (type_of scope None e)) OperandType (place_of e)

-- labels are judged where the selector is whole
abbrev pub judged_labels_if : Scope → Bool → DataType → List Range → List LabelData → Judgement
judged_labels_if scope whole t seen ls = if whole then judged_labels scope t seen ls else ok

abbrev mutual
  pub judged_stmt : Scope → List ℕ → Stmt → Judgement
  judged_stmt scope controls empty = ok
  judged_stmt scope controls (assign p e) = judged_assign scope controls p e
  judged_stmt scope controls (invoke n at cs) = judged_invoke scope controls n cs
  judged_stmt scope controls (branch arms other) = and (judged_arms scope controls arms) (judged_else scope controls other)
  judged_stmt scope controls (cases e es other) =
      and (judged_selector scope e)
      (and (judged_entries scope controls (judged_selector scope e).whole (type_of scope None e) [] es) (judged_else scope controls other))
  judged_stmt scope controls (iterate i ss) =
      broken_by (and (judged_iteration scope controls i) (judged_stmts scope (with_control controls (scope.means (by_path (alone i.control)))) ss)) (turns_rule scope i) i.at
  judged_stmt scope controls (exit at) = ok
  judged_stmt scope controls return = ok

  pub judged_stmts : Scope → List ℕ → Stmts → Judgement
  judged_stmts scope controls no_stmts = ok
  judged_stmts scope controls (stmt s ss) = and (judged_stmt scope controls s) (judged_stmts scope controls ss)

  pub judged_arms : Scope → List ℕ → Arms → Judgement
  judged_arms scope controls no_arms = ok
  judged_arms scope controls (arm e ss arms) =
      and (judged_condition scope OperandType e) (and (judged_stmts scope controls ss) (judged_arms scope controls arms))

  -- the entries of a CASE whose selector is whole or not, of a type, behind labels that were seen
  pub judged_entries : Scope → List ℕ → Bool → DataType → List Range → Entries → Judgement
  judged_entries scope controls whole t seen no_entries = ok
  judged_entries scope controls whole t seen (entry ls ss es) =
      and (judged_labels_if scope whole t seen ls) (and (judged_stmts scope controls ss) (judged_entries scope controls whole t (seen_behind scope t seen ls) es))

  pub judged_else : Scope → List ℕ → Otherwise → Judgement
  judged_else scope controls no_else = ok
  judged_else scope controls (else_stmts ss) = judged_stmts scope controls ss
