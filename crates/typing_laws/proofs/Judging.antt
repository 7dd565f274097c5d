-- What judging tells of a construct, from what it tells of the parts.
use Rattle.std.proofs.Common.{◌≡◌, ℕ, Bool, true, false, ◌&&◌, ◌+◌, if◌then◌else◌, List, [], ◌∷◌, ◌++◌, Option, Some, None, refl, sym, ap, ◌∙◌, Result, Ok, Err}
use Rattle.std.specs.Prelude.{IfOk}
use Rattle.plc_types.specs.declared.data_type.DataType.{DataType}
use Rattle.plc_types.specs.DataTypes.{is_same_type}
use Rattle.rules.specs.declared.rule.Rule.{Rule}
use Rattle.rules.specs.declared.rule.Rule.TheVariants.{OperandType, ValueType, ArgumentCount, OutsideType}
use Rattle.plc_types.specs.declared.function.StandardFunction.{StandardFunction}
use Rattle.rules.specs.declared.rule.Refusal.{Refusal}
use Rattle.plc_types.specs.declared.range.Range.{Range}
use Rattle.source_tree.specs.declared.syntax.Literal.{Literal}
use Rattle.plc_types.specs.declared.operator.UnaryOperator.{UnaryOperator}
use Rattle.source_tree.specs.Syntax.{Named, PathData, Tree, unary, chain, Links, no_links, link, Arguments, no_arguments, argument, ConnectionData, Stmt, empty, assign, invoke, branch, cases, iterate, exit, return, Stmts, no_stmts, stmt, Arms, no_arms, arm, Entries, no_entries, entry, Otherwise, no_else, else_stmts, LabelData, IterationData}
use Rattle.std.proofs.Math.Bool.{and_assoc, and_comm}
use Rattle.rules.proofs.Refusals.{earlier-assoc, earlier-swap, first_in-append}
use Rattle.naming.specs.Broken.{alone}
use Rattle.rules.specs.declared.outcome.Outcome.{Outcome}
use Rattle.typing.specs.declared.scope.Meaning.{Meaning}
use Rattle.typing.specs.declared.scope.Port.{Port}
use Rattle.typing.specs.declared.scope.Signature.{Signature}
use Rattle.typing.specs.Typing.{Scope, by_path, kind_at, or_dint, type_of, operand_type, takes, next_type, Parameter, fixed, common, amount, parameter_of, common_type, takes_operands, takes_count, count_of, is_amount, place_of}
use Rattle.rules.specs.Judgements.{Judgement, ok, and, breaks, require}
use Rattle.typing.specs.Judged.{judged_meaning, takes_sign, negative_literal, judged_unary, expected_at, fit_from, judged_amount, judged_call, place_for, gives_all, expected_by, judged_port, fits_port, judged_named, fit_placed, judged_answer, judged_user_call, judged, judged_links, judged_arguments, judged_given, judged_alone, judged_condition}
use Rattle.typing.specs.Labels.{judged_label, judged_labels, seen_with, seen_behind}
use Rattle.typing.specs.JudgedStatements.{judged_input, judged_target, judged_assign, judged_connection, judged_connections, judged_control, judged_bound, judged_step, is_typed, step_is_typed, judged_iteration, turns_rule, broken_by, with_control, judged_selector, judged_labels_if, judged_stmt, judged_stmts, judged_arms, judged_entries, judged_else}
use Rattle.rules.specs.Outcomes.{outcome_of, both, tried, ruled}
use Rattle.rules.proofs.Outcomes.{outcome_and, both_ok, ok_both}
use Rattle.typing.specs.Outcomes.{links_outcome, labels_outcome, all_labels, judged_selection, judged_turns, amount_outcome, arguments_outcome, named_outcome, given_outcome, answer_outcome, connections_outcome, alone_outcome, stmt_outcome, stmts_outcome, arms_outcome, bodies_outcome, else_outcome}

tested_by : (j : Judgement) (w holds : Bool) (rule : Rule) (at : ℕ) → j.whole ≡ w → outcome_of (require j holds rule at) ≡ tried (outcome_of j) holds rule at
unfolding outcome_of both tried
tested_by j false holds rule at e = rw e refl
tested_by j true true rule at e = rw e refl
tested_by j true false rule at e = rw e (ap (λ (first : Option Refusal). record { whole = false; first = first }) (first_in-append j.broken (breaks rule at).broken))

pub outcome_of-require : (j : Judgement) (holds : Bool) (rule : Rule) (at : ℕ) → outcome_of (require j holds rule at) ≡ tried (outcome_of j) holds rule at
outcome_of-require j holds rule at = tested_by j j.whole holds rule at refl

-- operators behind a left operand
pub outcome_of-links : (scope : Scope) (t : DataType) (left : Judgement) (ls : Links) → outcome_of (judged_links scope t left ls) ≡ links_outcome scope t (outcome_of left) ls
outcome_of-links scope t left no_links = refl
outcome_of-links scope t left (link o at e ls) =
    let right = judged scope (Some t) e in
    let holds = takes o t && is_same_type (type_of scope (Some t) e) t in
    outcome_of-links scope (next_type o t) (require (and left right) holds OperandType at) ls
    ∙ ap (λ (x : Outcome). links_outcome scope (next_type o t) x ls) (outcome_of-require (and left right) holds OperandType at ∙ ap (λ (x : Outcome). tried x holds OperandType at) (sym (outcome_and left right)))

-- parts one after the other
pub both-assoc : (o p q : Outcome) → both (both o p) q ≡ both o (both p q)
unfolding both
both-assoc o p q = λ i. record { whole = and_assoc o.whole p.whole q.whole i; first = earlier-assoc o.first p.first q.first i }

-- arguments behind what was judged so far
outcome_of-amount : (scope : Scope) (p : Parameter) (e : Tree) (j : Judgement) → amount_outcome scope p e (outcome_of j) ≡ outcome_of (judged_amount scope p e j)
outcome_of-amount scope (fixed k) e j = refl
outcome_of-amount scope common e j = refl
outcome_of-amount scope amount e j = sym (outcome_of-require j (is_amount scope e) OutsideType (place_of e))

pub arguments_outcome-is : (scope : Scope) (f : StandardFunction) (t : DataType) (place : ℕ) (o : Outcome) (args : Arguments) → arguments_outcome scope f t place o args ≡ both o (outcome_of (judged_arguments scope f t place args))
arguments_outcome-is scope f t place o no_arguments = sym (both_ok o)
arguments_outcome-is scope f t place o (argument n e args) =
    let p = parameter_of f place in
    let value = judged scope (expected_at p t) e in
    let own = judged_amount scope p e value in
    let rest = judged_arguments scope f t (place + 1) args in
    arguments_outcome-is scope f t (place + 1) (both o (amount_outcome scope p e (outcome_of value))) args
    ∙ ap (λ (x : Outcome). both (both o x) (outcome_of rest)) (outcome_of-amount scope p e value)
    ∙ both-assoc o (outcome_of own) (outcome_of rest)
    ∙ ap (both o) (outcome_and own rest)

outcome_of-named : (n : Option Named) (fits : Bool) (j : Judgement) → outcome_of (judged_named n fits j) ≡ named_outcome n fits (outcome_of j)
outcome_of-named None fits j = refl
outcome_of-named (Some n) fits j = outcome_of-require j fits ValueType n.at

pub given_outcome-is : (scope : Scope) (s : Signature) (place : ℕ) (o : Outcome) (args : Arguments) → given_outcome scope s place o args ≡ both o (outcome_of (judged_given scope s place args))
given_outcome-is scope s place o no_arguments = sym (both_ok o)
given_outcome-is scope s place o (argument n e args) =
    let p : Option Port = scope.port s.function (place_for scope s place n) in
    let value = judged scope (expected_by p) e in
    let fits = fits_port scope p e in
    let inner = and value (judged_port p) in
    let own = judged_named n fits inner in
    let rest = judged_given scope s (place + 1) args in
    given_outcome-is scope s (place + 1) (both o (named_outcome n fits (both (outcome_of value) (outcome_of (judged_port p))))) args
    ∙ ap (λ (x : Outcome). both (both o x) (outcome_of rest)) (ap (named_outcome n fits) (outcome_and value (judged_port p)) ∙ sym (outcome_of-named n fits inner))
    ∙ both-assoc o (outcome_of own) (outcome_of rest)
    ∙ ap (both o) (outcome_and own rest)

-- a call of a FUNCTION whose arguments were judged
outcome_of-answer : (scope : Scope) (at : ℕ) (s : Signature) (args : Arguments) (j : Judgement) → outcome_of (judged_answer scope at s args j) ≡ answer_outcome scope at s args (outcome_of j)
outcome_of-answer scope at s args j =
    let all = gives_all scope s args in
    let fit = fit_placed scope s 0 args in
    let counted = require j all ArgumentCount at in
    let port = judged_port (Some s.result) in
    sym (outcome_and (require counted fit OperandType at) port)
    ∙ ap (λ (x : Outcome). both x (outcome_of port)) (outcome_of-require counted fit OperandType at ∙ ap (λ (x : Outcome). tried x fit OperandType at) (outcome_of-require j all ArgumentCount at))

pub outcome_of-user_call : (scope : Scope) (at : ℕ) (s : Signature) (args : Arguments) (parts r : Outcome) → parts ≡ given_outcome scope s 0 (outcome_of ok) args → r ≡ answer_outcome scope at s args parts
    → r ≡ outcome_of (judged_user_call scope at (Some s) args (λ t. judged_given scope t 0 args))
outcome_of-user_call scope at s args parts r given is =
    is
    ∙ ap (answer_outcome scope at s args) (given ∙ given_outcome-is scope s 0 (outcome_of ok) args ∙ ok_both (outcome_of (judged_given scope s 0 args)))
    ∙ sym (outcome_of-answer scope at s args (judged_given scope s 0 args))

-- connections behind what was judged so far
connections_outcome-is : (scope : Scope) (controls : List ℕ) (n : Named) (o : Outcome) (cs : List ConnectionData) → connections_outcome scope controls n o cs ≡ both o (outcome_of (judged_connections scope controls n cs))
connections_outcome-is scope controls n o [] = sym (both_ok o)
connections_outcome-is scope controls n o (c ∷ cs) =
    let j = judged_connection scope controls n c in
    let k = judged_connections scope controls n cs in
    connections_outcome-is scope controls n (both o (outcome_of j)) cs ∙ both-assoc o (outcome_of j) (outcome_of k) ∙ ap (both o) (outcome_and j k)

pub connections_outcome-all : (scope : Scope) (controls : List ℕ) (n : Named) (cs : List ConnectionData) → connections_outcome scope controls n (outcome_of ok) cs ≡ outcome_of (judged_connections scope controls n cs)
connections_outcome-all scope controls n cs = connections_outcome-is scope controls n (outcome_of ok) cs ∙ ok_both (outcome_of (judged_connections scope controls n cs))

pub alone_outcome-is : (scope : Scope) (o : Outcome) (args : Arguments) → alone_outcome scope o args ≡ both o (outcome_of (judged_alone scope args))
alone_outcome-is scope o no_arguments = sym (both_ok o)
alone_outcome-is scope o (argument n e args) =
    let own = judged scope None e in
    let rest = judged_alone scope args in
    alone_outcome-is scope (both o (outcome_of own)) args ∙ both-assoc o (outcome_of own) (outcome_of rest) ∙ ap (both o) (outcome_and own rest)

both-swap : (o p : Outcome) → both o p ≡ both p o
unfolding both
both-swap o p = λ i. record { whole = and_comm o.whole p.whole i; first = earlier-swap o.first p.first i }

-- ---- labels, and the statements behind them

-- labels behind what was judged so far
pub labels_outcome-is : (scope : Scope) (t : DataType) (seen : List Range) (o : Outcome) (ls : List LabelData) → labels_outcome scope t seen o ls ≡ both o (outcome_of (judged_labels scope t seen ls))
labels_outcome-is scope t seen o [] = sym (both_ok o)
labels_outcome-is scope t seen o (l ∷ ls) =
    let j = judged_label scope t seen l in
    let k = judged_labels scope t (seen_with scope t seen l) ls in
    labels_outcome-is scope t (seen_with scope t seen l) (both o (outcome_of j)) ls ∙ both-assoc o (outcome_of j) (outcome_of k) ∙ ap (both o) (outcome_and j k)

pub labels_outcome-all : (scope : Scope) (t : DataType) (ls : List LabelData) → labels_outcome scope t [] (outcome_of ok) ls ≡ outcome_of (judged_labels scope t [] ls)
labels_outcome-all scope t ls = labels_outcome-is scope t [] (outcome_of ok) ls ∙ ok_both (outcome_of (judged_labels scope t [] ls))

judged_labels-append : (scope : Scope) (t : DataType) (seen : List Range) (ls ms : List LabelData)
    → outcome_of (judged_labels scope t seen (ls ++ ms)) ≡ both (outcome_of (judged_labels scope t seen ls)) (outcome_of (judged_labels scope t (seen_behind scope t seen ls) ms))
judged_labels-append scope t seen [] ms = sym (ok_both (outcome_of (judged_labels scope t seen ms)))
judged_labels-append scope t seen (l ∷ ls) ms =
    let j = judged_label scope t seen l in
    let s = seen_with scope t seen l in
    let x = outcome_of (judged_labels scope t s ls) in
    let y = outcome_of (judged_labels scope t (seen_behind scope t s ls) ms) in
    sym (outcome_and j (judged_labels scope t s (ls ++ ms))) ∙ ap (both (outcome_of j)) (judged_labels-append scope t s ls ms) ∙ sym (both-assoc (outcome_of j) x y)
    ∙ ap (λ (z : Outcome). both z y) (outcome_and j (judged_labels scope t s ls))

labels_if-append : (scope : Scope) (whole : Bool) (t : DataType) (seen : List Range) (ls ms : List LabelData)
    → outcome_of (judged_labels_if scope whole t seen (ls ++ ms)) ≡ both (outcome_of (judged_labels_if scope whole t seen ls)) (outcome_of (judged_labels_if scope whole t (seen_behind scope t seen ls) ms))
labels_if-append scope true t seen ls ms = judged_labels-append scope t seen ls ms
labels_if-append scope false t seen ls ms = sym (ok_both (outcome_of ok))

labels_if-none : (scope : Scope) (whole : Bool) (t : DataType) (seen : List Range) → outcome_of (judged_labels_if scope whole t seen []) ≡ outcome_of ok
labels_if-none scope true t seen = refl
labels_if-none scope false t seen = refl

-- the statements of entries alone
abbrev judged_bodies : Scope → List ℕ → Entries → Judgement
judged_bodies scope controls no_entries = ok
judged_bodies scope controls (entry ls ss es) = and (judged_stmts scope controls ss) (judged_bodies scope controls es)

interleave : (l b m c : Outcome) → both l (both b (both m c)) ≡ both (both l m) (both b c)
interleave l b m c =
    ap (both l) (sym (both-assoc b m c)) ∙ ap (λ (x : Outcome). both l (both x c)) (both-swap b m) ∙ ap (both l) (both-assoc m b c) ∙ sym (both-assoc l m (both b c))

-- entries are judged as all their labels and then all their statements
entries_apart : (scope : Scope) (controls : List ℕ) (whole : Bool) (t : DataType) (seen : List Range) (es : Entries)
    → outcome_of (judged_entries scope controls whole t seen es) ≡ both (outcome_of (judged_labels_if scope whole t seen (all_labels es))) (outcome_of (judged_bodies scope controls es))
entries_apart scope controls whole t seen no_entries =
    sym (ap (λ (x : Outcome). both x (outcome_of ok)) (labels_if-none scope whole t seen) ∙ ok_both (outcome_of ok))
entries_apart scope controls whole t seen (entry ls ss es) =
    let behind = seen_behind scope t seen ls in
    let l = judged_labels_if scope whole t seen ls in
    let b = judged_stmts scope controls ss in
    let e = judged_entries scope controls whole t behind es in
    let m = outcome_of (judged_labels_if scope whole t behind (all_labels es)) in
    let c = judged_bodies scope controls es in
    sym (outcome_and l (and b e)) ∙ ap (both (outcome_of l)) (sym (outcome_and b e) ∙ ap (both (outcome_of b)) (entries_apart scope controls whole t behind es))
    ∙ interleave (outcome_of l) (outcome_of b) m (outcome_of c)
    ∙ ap (λ (x : Outcome). both x (both (outcome_of b) (outcome_of c))) (sym (labels_if-append scope whole t seen ls (all_labels es)))
    ∙ ap (both (outcome_of (judged_labels_if scope whole t seen (ls ++ all_labels es)))) (outcome_and b c)

-- a selector that is not whole has no labels judged
selected_by : (scope : Scope) (e : Tree) (es : Entries) (w : Bool) → (judged_selector scope e).whole ≡ w
    → outcome_of (judged_selection scope e es) ≡ both (outcome_of (judged_selector scope e)) (outcome_of (judged_labels_if scope w (type_of scope None e) [] (all_labels es)))
selected_by scope e es w is =
    sym (outcome_and (judged_selector scope e) (judged_labels_if scope (judged_selector scope e).whole (type_of scope None e) [] (all_labels es)))
    ∙ ap (λ (b : Bool). both (outcome_of (judged_selector scope e)) (outcome_of (judged_labels_if scope b (type_of scope None e) [] (all_labels es)))) is

pub outcome_of-selection : (scope : Scope) (e : Tree) (es : Entries) (s l r : Outcome) → s ≡ outcome_of (judged_selector scope e) → s.whole ≡ true
    → l ≡ outcome_of (judged_labels scope (type_of scope None e) [] (all_labels es)) → r ≡ both s l → r ≡ outcome_of (judged_selection scope e es)
unfolding outcome_of
outcome_of-selection scope e es s l r selector whole labels is =
    let w : (judged_selector scope e).whole ≡ true = sym (ap (λ (x : Outcome). x.whole) selector) ∙ whole in
    is ∙ ap (λ (x : Outcome). both x l) selector ∙ ap (both (outcome_of (judged_selector scope e))) labels ∙ sym (selected_by scope e es true w)

pub outcome_of-unselected : (scope : Scope) (e : Tree) (es : Entries) (s : Outcome) → s ≡ outcome_of (judged_selector scope e) → s.whole ≡ false
    → s ≡ outcome_of (judged_selection scope e es)
unfolding outcome_of
outcome_of-unselected scope e es s selector broken =
    let w : (judged_selector scope e).whole ≡ false = sym (ap (λ (x : Outcome). x.whole) selector) ∙ broken in
    selector ∙ sym (both_ok (outcome_of (judged_selector scope e))) ∙ sym (selected_by scope e es false w)

-- what stands between FOR and DO
pub outcome_of-turns : (scope : Scope) (controls : List ℕ) (m : Option Meaning) (i : IterationData) (t : DataType) (fits : Bool) (first last step tail bounds control parts r : Outcome) → t ≡ or_dint (kind_at m)
    → first ≡ outcome_of (judged_bound scope t i.first) → last ≡ outcome_of (judged_bound scope t i.last) → step ≡ outcome_of (judged_step scope t i.step)
    → fits ≡ (is_typed scope t i.first && is_typed scope t i.last && step_is_typed scope t i.step) → control ≡ outcome_of (judged_control controls m i.control.at)
    → tail ≡ both last step → bounds ≡ both first tail → parts ≡ both control bounds → r ≡ tried parts fits ValueType i.control.at → r ≡ outcome_of (judged_turns scope controls m i)
outcome_of-turns scope controls m i t fits first last step tail bounds control parts r kind first_is last_is step_is fits_is control_is tail_is bounds_is parts_is is =
    let k = or_dint (kind_at m) in
    let f = judged_bound scope k i.first in
    let l = judged_bound scope k i.last in
    let s = judged_step scope k i.step in
    let c = judged_control controls m i.control.at in
    let h = is_typed scope k i.first && is_typed scope k i.last && step_is_typed scope k i.step in
    let first_told : first ≡ outcome_of f = first_is ∙ ap (λ (x : DataType). outcome_of (judged_bound scope x i.first)) kind in
    let last_told : last ≡ outcome_of l = last_is ∙ ap (λ (x : DataType). outcome_of (judged_bound scope x i.last)) kind in
    let step_told : step ≡ outcome_of s = step_is ∙ ap (λ (x : DataType). outcome_of (judged_step scope x i.step)) kind in
    let fits_told : fits ≡ h = fits_is ∙ ap (λ (x : DataType). is_typed scope x i.first && is_typed scope x i.last && step_is_typed scope x i.step) kind in
    let tail_told : tail ≡ outcome_of (and l s) = tail_is ∙ ap (λ (x : Outcome). both x step) last_told ∙ ap (both (outcome_of l)) step_told ∙ outcome_and l s in
    let bounds_told : bounds ≡ outcome_of (and f (and l s)) = bounds_is ∙ ap (λ (x : Outcome). both x tail) first_told ∙ ap (both (outcome_of f)) tail_told ∙ outcome_and f (and l s) in
    let parts_told : parts ≡ outcome_of (and c (and f (and l s))) = parts_is ∙ ap (λ (x : Outcome). both x bounds) control_is ∙ ap (both (outcome_of c)) bounds_told ∙ outcome_and c (and f (and l s)) in
    is ∙ ap (λ (x : Outcome). tried x fits ValueType i.control.at) parts_told ∙ ap (λ (b : Bool). tried (outcome_of (and c (and f (and l s)))) b ValueType i.control.at) fits_told
    ∙ sym (outcome_of-require (and c (and f (and l s))) h ValueType i.control.at)

-- ---- statements

pub outcome_of-broken_by : (j : Judgement) (rule : Option Rule) (at : ℕ) → outcome_of (broken_by j rule at) ≡ ruled (outcome_of j) rule at
outcome_of-broken_by j None at = refl
outcome_of-broken_by j (Some rule) at = outcome_of-require j false rule at

regroup : (o s l b e : Outcome) → both (both (both o (both s l)) b) e ≡ both o (both s (both (both l b) e))
regroup o s l b e =
    both-assoc (both o (both s l)) b e ∙ both-assoc o (both s l) (both b e) ∙ ap (both o) (both-assoc s l (both b e)) ∙ ap (λ (x : Outcome). both o (both s x)) (sym (both-assoc l b e))

-- statements behind what was judged so far
after_both : (o : Outcome) (j k : Judgement) (p q : Outcome) → p ≡ both o (outcome_of j) → q ≡ both p (outcome_of k) → q ≡ both o (outcome_of (and j k))
after_both o j k p q first second =
    second ∙ ap (λ (x : Outcome). both x (outcome_of k)) first ∙ both-assoc o (outcome_of j) (outcome_of k) ∙ ap (both o) (outcome_and j k)

mutual
  pub stmt_outcome-is : (scope : Scope) (controls : List ℕ) (o : Outcome) (s : Stmt) → stmt_outcome scope controls o s ≡ both o (outcome_of (judged_stmt scope controls s))
  stmt_outcome-is scope controls o empty = sym (both_ok o)
  stmt_outcome-is scope controls o (assign p e) = refl
  stmt_outcome-is scope controls o (invoke n at cs) = refl
  stmt_outcome-is scope controls o (branch arms other) =
      after_both o (judged_arms scope controls arms) (judged_else scope controls other) _ _ (arms_outcome-is scope controls o arms) (else_outcome-is scope controls (arms_outcome scope controls o arms) other)
  stmt_outcome-is scope controls o (cases e es other) =
      let t = type_of scope None e in
      let w = (judged_selector scope e).whole in
      let s = judged_selector scope e in
      let l = outcome_of (judged_labels_if scope w t [] (all_labels es)) in
      let b = outcome_of (judged_bodies scope controls es) in
      let f = judged_else scope controls other in
      let j = judged_entries scope controls w t [] es in
      let p = both o (outcome_of (judged_selection scope e es)) in
      else_outcome-is scope controls (bodies_outcome scope controls p es) other
      ∙ ap (λ (x : Outcome). both x (outcome_of f)) (bodies_outcome-is scope controls p es)
      ∙ ap (λ (x : Outcome). both (both (both o x) b) (outcome_of f)) (selected_by scope e es w refl)
      ∙ regroup o (outcome_of s) l b (outcome_of f)
      ∙ ap (λ (x : Outcome). both o (both (outcome_of s) (both x (outcome_of f)))) (sym (entries_apart scope controls w t [] es))
      ∙ ap (λ (x : Outcome). both o (both (outcome_of s) x)) (outcome_and j f)
      ∙ ap (both o) (outcome_and s (and j f))
  stmt_outcome-is scope controls o (iterate i ss) =
      let inner = with_control controls (scope.means (by_path (alone i.control))) in
      let head = judged_iteration scope controls i in
      let body = judged_stmts scope inner ss in
      ap (λ (x : Outcome). both o (ruled x (turns_rule scope i) i.at)) (stmts_outcome-is scope inner (outcome_of head) ss ∙ outcome_and head body)
      ∙ ap (both o) (sym (outcome_of-broken_by (and head body) (turns_rule scope i) i.at))
  stmt_outcome-is scope controls o (exit at) = sym (both_ok o)
  stmt_outcome-is scope controls o return = sym (both_ok o)

  pub stmts_outcome-is : (scope : Scope) (controls : List ℕ) (o : Outcome) (ss : Stmts) → stmts_outcome scope controls o ss ≡ both o (outcome_of (judged_stmts scope controls ss))
  stmts_outcome-is scope controls o no_stmts = sym (both_ok o)
  stmts_outcome-is scope controls o (stmt s ss) =
      after_both o (judged_stmt scope controls s) (judged_stmts scope controls ss) _ _ (stmt_outcome-is scope controls o s) (stmts_outcome-is scope controls (stmt_outcome scope controls o s) ss)

  pub arms_outcome-is : (scope : Scope) (controls : List ℕ) (o : Outcome) (arms : Arms) → arms_outcome scope controls o arms ≡ both o (outcome_of (judged_arms scope controls arms))
  arms_outcome-is scope controls o no_arms = sym (both_ok o)
  arms_outcome-is scope controls o (arm e ss arms) =
      let condition = judged_condition scope OperandType e in
      let p = both o (outcome_of condition) in
      let q = stmts_outcome scope controls p ss in
      arms_outcome-is scope controls q arms
      ∙ ap (λ (x : Outcome). both x (outcome_of (judged_arms scope controls arms))) (stmts_outcome-is scope controls p ss)
      ∙ both-assoc p (outcome_of (judged_stmts scope controls ss)) (outcome_of (judged_arms scope controls arms))
      ∙ ap (both p) (outcome_and (judged_stmts scope controls ss) (judged_arms scope controls arms))
      ∙ both-assoc o (outcome_of condition) (outcome_of (and (judged_stmts scope controls ss) (judged_arms scope controls arms)))
      ∙ ap (both o) (outcome_and condition (and (judged_stmts scope controls ss) (judged_arms scope controls arms)))

  pub bodies_outcome-is : (scope : Scope) (controls : List ℕ) (o : Outcome) (es : Entries) → bodies_outcome scope controls o es ≡ both o (outcome_of (judged_bodies scope controls es))
  bodies_outcome-is scope controls o no_entries = sym (both_ok o)
  bodies_outcome-is scope controls o (entry ls ss es) =
      after_both o (judged_stmts scope controls ss) (judged_bodies scope controls es) _ _ (stmts_outcome-is scope controls o ss) (bodies_outcome-is scope controls (stmts_outcome scope controls o ss) es)

  pub else_outcome-is : (scope : Scope) (controls : List ℕ) (o : Outcome) (other : Otherwise) → else_outcome scope controls o other ≡ both o (outcome_of (judged_else scope controls other))
  else_outcome-is scope controls o no_else = sym (both_ok o)
  else_outcome-is scope controls o (else_stmts ss) = stmts_outcome-is scope controls o ss

pub ruleset judging = (outcome_and, outcome_of-require, ok_both, stmts_outcome-is, connections_outcome-all)

-- a unary operator without a literal behind it
pub outcome_of-unary : (scope : Scope) (expected : Option DataType) (o : UnaryOperator) (at : ℕ) (e : Tree) (t : DataType) (l r : Outcome) → t ≡ type_of scope expected e → negative_literal o e ≡ None → l ≡ outcome_of (judged scope (Some t) e) → r ≡ tried l (takes_sign o t) OperandType at → r ≡ outcome_of (judged scope expected (unary o at e))
outcome_of-unary scope expected o at e t l r is none operand tried_is =
    let f = outcome_of-require (judged scope (Some t) e) (takes_sign o t) OperandType at in
    tried_is ∙ ap (λ (x : Outcome). tried x (takes_sign o t) OperandType at) operand ∙ sym f ∙ ap (λ (x : DataType). outcome_of (require (judged scope (Some x) e) (takes_sign o x) OperandType at)) is ∙ ap (λ (x : Option Literal). outcome_of (judged_unary (type_of scope expected e) o at x (judged scope (Some (type_of scope expected e)) e))) (sym none)

-- a call of a function with as many arguments as it takes, and with more or fewer
module _ (scope : Scope) (expected : Option DataType) (at : ℕ) (f : StandardFunction) (signature : Option Signature) (args : Arguments) where
  abbrev a_call : Judgement
  a_call = judged_call scope expected at (Some f) signature args (judged_alone scope args) (λ g t. judged_arguments scope g t 0 args) (λ s. judged_given scope s 0 args)

  abbrev right_call : DataType → Judgement
  right_call t = require (judged_arguments scope f t 0 args) (takes_operands f t && fit_from scope f t 0 args) OperandType at

  abbrev wrong_call : Judgement
  wrong_call = require (judged_alone scope args) false ArgumentCount at

  pub outcome_of-call : (t : DataType) (l r : Outcome) (fits : Bool) → takes_count f (count_of args) ≡ true → t ≡ common_type scope expected f args → fits ≡ takes_operands f t && fit_from scope f t 0 args → l ≡ arguments_outcome scope f t 0 (outcome_of ok) args → r ≡ tried l fits OperandType at → r ≡ outcome_of a_call
  outcome_of-call t l r fits counted kind fit operands is =
      let left : l ≡ outcome_of (judged_arguments scope f t 0 args) = operands ∙ arguments_outcome-is scope f t 0 (outcome_of ok) args ∙ ok_both (outcome_of (judged_arguments scope f t 0 args)) in
      is ∙ ap (λ (x : Outcome). tried x fits OperandType at) left
      ∙ ap (λ (b : Bool). tried (outcome_of (judged_arguments scope f t 0 args)) b OperandType at) fit
      ∙ sym (outcome_of-require (judged_arguments scope f t 0 args) (takes_operands f t && fit_from scope f t 0 args) OperandType at)
      ∙ ap (λ (x : DataType). outcome_of (right_call x)) kind
      ∙ ap (λ (b : Bool). outcome_of (if b then right_call (common_type scope expected f args) else wrong_call)) (sym counted)

  pub outcome_of-wrong_call : (l r : Outcome) → takes_count f (count_of args) ≡ false → l ≡ alone_outcome scope (outcome_of ok) args → r ≡ tried l false ArgumentCount at → r ≡ outcome_of a_call
  outcome_of-wrong_call l r counted alone is =
      let left : l ≡ outcome_of (judged_alone scope args) = alone ∙ alone_outcome-is scope (outcome_of ok) args ∙ ok_both (outcome_of (judged_alone scope args)) in
      is ∙ ap (λ (x : Outcome). tried x false ArgumentCount at) left
      ∙ sym (outcome_of-require (judged_alone scope args) false ArgumentCount at)
      ∙ ap (λ (b : Bool). outcome_of (if b then right_call (common_type scope expected f args) else wrong_call)) (sym counted)

-- operators of one level
pub outcome_of-chain : (scope : Scope) (expected : Option DataType) (e : Tree) (ls : Links) (t : DataType) (l r : Outcome) → t ≡ operand_type scope expected e ls → l ≡ outcome_of (judged scope (Some t) e) → r ≡ links_outcome scope t l ls → r ≡ outcome_of (judged scope expected (chain e ls))
outcome_of-chain scope expected e ls t l r is left links =
    links ∙ ap (λ (x : Outcome). links_outcome scope t x ls) left ∙ sym (outcome_of-links scope t (judged scope (Some t) e) ls) ∙ ap (λ (x : DataType). outcome_of (judged_links scope x (judged scope (Some x) e) ls)) is

-- an assignment
pub outcome_of-assign : (scope : Scope) (controls : List ℕ) (p : PathData) (e : Tree) (m : Option Meaning) (w : Option DataType) (l k b r : Outcome) (fits : Bool) → m ≡ scope.means (by_path p) → w ≡ kind_at m → l ≡ outcome_of (judged_target controls m p.first.at) → k ≡ outcome_of (judged scope w e) → b ≡ both l k → fits ≡ is_same_type (type_of scope w e) (or_dint w) → r ≡ tried b fits ValueType p.first.at → r ≡ outcome_of (judged_assign scope controls p e)
outcome_of-assign scope controls p e m w l k b r fits means expected target value parts same is =
    let whole : (n : Option Meaning) → scope.means (by_path p) ≡ n → r ≡ outcome_of (require (and (judged_target controls n p.first.at) (judged scope (kind_at n) e)) (is_same_type (type_of scope (kind_at n) e) (or_dint (kind_at n))) ValueType p.first.at) = λ n f.
    let h : m ≡ n = means ∙ f in
    is
    ∙ rw (same, parts, target, value, expected, h) (sym (outcome_of-require (and (judged_target controls n p.first.at) (judged scope (kind_at n) e)) (is_same_type (type_of scope (kind_at n) e) (or_dint (kind_at n))) ValueType p.first.at ∙ ap (λ (x : Outcome). tried x (is_same_type (type_of scope (kind_at n) e) (or_dint (kind_at n))) ValueType p.first.at) (sym (outcome_and (judged_target controls n p.first.at) (judged scope (kind_at n) e))))) in
    whole (scope.means (by_path p)) refl

-- two parts and a test
pub outcome_of-parts : (j k : Judgement) (o p q r : Outcome) (b fits : Bool) (rule : Rule) (at : ℕ) → o ≡ outcome_of j → p ≡ outcome_of k → q ≡ both o p → fits ≡ b → r ≡ tried q fits rule at
    → r ≡ outcome_of (require (and j k) b rule at)
outcome_of-parts j k o p q r b fits rule at of_j of_k parts same is =
    let whole : q ≡ outcome_of (and j k) = parts ∙ ap (λ (x : Outcome). both x p) of_j ∙ ap (both (outcome_of j)) of_k ∙ outcome_and j k in
    is ∙ ap (λ (x : Outcome). tried x fits rule at) whole ∙ ap (λ (c : Bool). tried (outcome_of (and j k)) c rule at) same ∙ sym (outcome_of-require (and j k) b rule at)

-- the value of an input
pub outcome_of-input : (scope : Scope) (m : Option Meaning) (x : Named) (e : Tree) (w : Option DataType) (o p q r : Outcome) (fits : Bool) → w ≡ kind_at m → o ≡ outcome_of (judged_meaning m) → p ≡ outcome_of (judged scope w e)
    → q ≡ both o p → fits ≡ is_same_type (type_of scope w e) (or_dint w) → r ≡ tried q fits ValueType x.at → r ≡ outcome_of (judged_input scope m x e)
outcome_of-input scope m x e w o p q r fits expected mean value parts same is =
    outcome_of-parts (judged_meaning m) (judged scope (kind_at m) e) o p q r (is_same_type (type_of scope (kind_at m) e) (or_dint (kind_at m))) fits ValueType x.at mean
    (value ∙ ap (λ (v : Option DataType). outcome_of (judged scope v e)) expected) parts (same ∙ ap (λ (v : Option DataType). is_same_type (type_of scope v e) (or_dint v)) expected) is

-- what is said of a result, from what else is said of it
pub on_ok : {A E : Type 0} → (r : Result A E) (P Q : A → Type 0) → ((a : A) → P a → Q a) → IfOk r P → IfOk r Q
on_ok (Ok a) P Q f h = f a h
on_ok (Err e) P Q f h = h
