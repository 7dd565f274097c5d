-- What judging a construct tells: whether it is whole, and the first of what is broken in it.
use Rattle.std.specs.Prelude.{ℕ, ◌+◌, List, [], ◌∷◌, ◌++◌, Bool, ◌&&◌, Option, Some, None}
use Rattle.plc_types.specs.declared.data_type.DataType.{DataType}
use Rattle.plc_types.specs.DataTypes.{is_same_type}
use Rattle.rules.specs.declared.rule.Rule.TheVariants.{OperandType, ValueType, ArgumentCount, OutsideType}
use Rattle.plc_types.specs.declared.function.StandardFunction.{StandardFunction}
use Rattle.plc_types.specs.declared.range.Range.{Range}
use Rattle.naming.specs.Scopes.{Variable}
use Rattle.naming.specs.Broken.{alone}
use Rattle.rules.specs.declared.outcome.Outcome.{Outcome}
use Rattle.rules.specs.Outcomes.{outcome_of, both, tried, ruled}
use Rattle.source_tree.specs.Syntax.{Named, Tree, Links, no_links, link, Arguments, no_arguments, argument, ConnectionData, Stmt, empty, assign, invoke, branch, cases, iterate, exit, return, Stmts, no_stmts, stmt, Arms, no_arms, arm, Entries, no_entries, entry, Otherwise, no_else, else_stmts, LabelData, IterationData, TypeDeclarationData, PouData, FileData}
use Rattle.typing.specs.declared.scope.Meaning.{Meaning}
use Rattle.typing.specs.declared.scope.Signature.{Signature}
use Rattle.typing.specs.Typing.{Scope, by_path, kind_at, or_dint, type_of, takes, next_type, Parameter, fixed, common, amount, parameter_of, is_amount, place_of}
use Rattle.rules.specs.Judgements.{Judgement, and, require}
use Rattle.typing.specs.Judged.{expected_at, place_for, gives_all, expected_by, judged_port, fits_port, fit_placed, judged, judged_condition}
use Rattle.typing.specs.Labels.{judged_label, seen_with}
use Rattle.typing.specs.JudgedStatements.{judged_assign, judged_connection, judged_invoke, judged_control, judged_bound, judged_step, is_typed, step_is_typed, turns_rule, with_control, judged_selector, judged_labels_if}
use Rattle.typing.specs.Domains.{judged_specification}
use Rattle.typing.specs.Variables.{judged_variable}
use Rattle.typing.specs.Pous.{judged_pou}

-- of operators behind a left operand
abbrev pub links_outcome : Scope → DataType → Outcome → Links → Outcome
links_outcome scope t left no_links = left
links_outcome scope t left (link o at e ls) =
    links_outcome scope (next_type o t) (tried (both left (outcome_of (judged scope (Some t) e))) (takes o t && is_same_type (type_of scope (Some t) e) t) OperandType at) ls

-- of an argument that was judged
abbrev pub amount_outcome : Scope → Parameter → Tree → Outcome → Outcome
amount_outcome scope (fixed k) e o = o
amount_outcome scope common e o = o
amount_outcome scope amount e o = tried o (is_amount scope e) OutsideType (place_of e)

-- of arguments from a place on, behind what was judged so far
abbrev pub arguments_outcome : Scope → StandardFunction → DataType → ℕ → Outcome → Arguments → Outcome
arguments_outcome scope f t place o no_arguments = o
arguments_outcome scope f t place o (argument n e args) =
    arguments_outcome scope f t (place + 1) (both o (amount_outcome scope (parameter_of f place) e (outcome_of (judged scope (expected_at (parameter_of f place) t) e)))) args

-- of arguments of a FUNCTION from a place on, behind what was judged so far
abbrev pub named_outcome : Option Named → Bool → Outcome → Outcome
named_outcome None fits o = o
named_outcome (Some n) fits o = tried o fits ValueType n.at

abbrev pub given_outcome : Scope → Signature → ℕ → Outcome → Arguments → Outcome
given_outcome scope s place o no_arguments = o
given_outcome scope s place o (argument n e args) =
    let p = scope.port s.function (place_for scope s place n) in
    given_outcome scope s (place + 1) (both o (named_outcome n (fits_port scope p e) (both (outcome_of (judged scope (expected_by p) e)) (outcome_of (judged_port p))))) args

-- of a call of a FUNCTION whose arguments were judged
abbrev pub answer_outcome : Scope → ℕ → Signature → Arguments → Outcome → Outcome
answer_outcome scope at s args parts =
    both (tried (tried parts (gives_all scope s args) ArgumentCount at) (fit_placed scope s 0 args) OperandType at) (outcome_of (judged_port (Some s.result)))

-- of arguments each alone, behind what was judged so far
abbrev pub alone_outcome : Scope → Outcome → Arguments → Outcome
alone_outcome scope o no_arguments = o
alone_outcome scope o (argument n e args) = alone_outcome scope (both o (outcome_of (judged scope None e))) args

-- of labels behind what was judged so far, where some were seen
abbrev pub labels_outcome : Scope → DataType → List Range → Outcome → List LabelData → Outcome
labels_outcome scope t seen o [] = o
labels_outcome scope t seen o (l ∷ ls) = labels_outcome scope t (seen_with scope t seen l) (both o (outcome_of (judged_label scope t seen l))) ls

-- the labels of entries, in their order
abbrev pub all_labels : Entries → List LabelData
all_labels no_entries = []
all_labels (entry ls ss es) = ls ++ all_labels es

-- a selector, and the labels of a CASE
abbrev pub judged_selection : Scope → Tree → Entries → Judgement
judged_selection scope e es =
    and (judged_selector scope e) (judged_labels_if scope (judged_selector scope e).whole (type_of scope None e) [] (all_labels es))

-- what stands between FOR and DO, by what the control variable's name stands for
abbrev pub judged_turns : Scope → List ℕ → Option Meaning → IterationData → Judgement
judged_turns scope controls m i =
    let t = or_dint (kind_at m) in
    require
    (and (judged_control controls m i.control.at) (and (judged_bound scope t i.first) (and (judged_bound scope t i.last) (judged_step scope t i.step))))
    (is_typed scope t i.first && is_typed scope t i.last && step_is_typed scope t i.step) ValueType i.control.at

-- of connections behind what was judged so far
abbrev pub connections_outcome : Scope → List ℕ → Named → Outcome → List ConnectionData → Outcome
connections_outcome scope controls n o [] = o
connections_outcome scope controls n o (c ∷ cs) = connections_outcome scope controls n (both o (outcome_of (judged_connection scope controls n c))) cs

-- of statements behind what was judged so far, inside FORs with these control variables
abbrev mutual
  pub stmt_outcome : Scope → List ℕ → Outcome → Stmt → Outcome
  stmt_outcome scope controls o empty = o
  stmt_outcome scope controls o (assign p e) = both o (outcome_of (judged_assign scope controls p e))
  stmt_outcome scope controls o (invoke n at cs) = both o (outcome_of (judged_invoke scope controls n cs))
  stmt_outcome scope controls o (branch arms other) = else_outcome scope controls (arms_outcome scope controls o arms) other
  stmt_outcome scope controls o (cases e es other) =
      else_outcome scope controls (bodies_outcome scope controls (both o (outcome_of (judged_selection scope e es))) es) other
  stmt_outcome scope controls o (iterate i ss) =
      let m = scope.means (by_path (alone i.control)) in
      both o (ruled (stmts_outcome scope (with_control controls m) (outcome_of (judged_turns scope controls m i)) ss) (turns_rule scope i) i.at)
  stmt_outcome scope controls o (exit at) = o
  stmt_outcome scope controls o return = o

  pub stmts_outcome : Scope → List ℕ → Outcome → Stmts → Outcome
  stmts_outcome scope controls o no_stmts = o
  stmts_outcome scope controls o (stmt s ss) = stmts_outcome scope controls (stmt_outcome scope controls o s) ss

  pub arms_outcome : Scope → List ℕ → Outcome → Arms → Outcome
  arms_outcome scope controls o no_arms = o
  arms_outcome scope controls o (arm e ss arms) =
      arms_outcome scope controls (stmts_outcome scope controls (both o (outcome_of (judged_condition scope OperandType e))) ss) arms

  -- of the statements of entries
  pub bodies_outcome : Scope → List ℕ → Outcome → Entries → Outcome
  bodies_outcome scope controls o no_entries = o
  bodies_outcome scope controls o (entry ls ss es) = bodies_outcome scope controls (stmts_outcome scope controls o ss) es

  pub else_outcome : Scope → List ℕ → Outcome → Otherwise → Outcome
  else_outcome scope controls o no_else = o
  else_outcome scope controls o (else_stmts ss) = stmts_outcome scope controls o ss

-- of declarations behind what was judged so far
abbrev pub variables_outcome : FileData → Outcome → List Variable → Outcome
variables_outcome f o [] = o
variables_outcome f o (v ∷ vs) = variables_outcome f (both o (outcome_of (judged_variable f v))) vs

-- of POUs that are counted from a number on, behind what was judged so far
abbrev pub pous_outcome : FileData → ℕ → Outcome → List PouData → Outcome
pous_outcome f number o [] = o
pous_outcome f number o (p ∷ ps) = pous_outcome f (number + 1) (both o (outcome_of (judged_pou f number p))) ps

-- of types behind what was judged so far
abbrev pub types_outcome : FileData → Outcome → List TypeDeclarationData → Outcome
types_outcome f o [] = o
types_outcome f o (d ∷ ds) = types_outcome f (both o (outcome_of (judged_specification f d.name d.specification))) ds
