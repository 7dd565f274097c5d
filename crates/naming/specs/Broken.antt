-- The rules on names. What uses a name whose declaration breaks a rule breaks none itself, wherever it stands.
use Rattle.std.specs.Prelude.{ℕ, ◌+◌, List, [], ◌∷◌, ◌++◌, length, codes, count_by, ◌==◌, ◌&&◌, ◌||◌, not, Bool, false, true, Option, Some, None, option_map, option_and_then, is_some, unwrap_or, if◌then◌else◌}
use Rattle.std.specs.List.{list_any}
use Rattle.std.specs.Str.{bytes_eq}
use Rattle.rules.specs.declared.rule.Rule.TheVariants.{DeclaredTwice, UnknownName, InTermsOfItself, WrongUse, NotOneProgram, NotOneInitialStep, UnknownStep, UnknownAction, StepTwice, UnknownQualifier}
use Rattle.rules.specs.declared.rule.Refusal.{Refusal}
use Rattle.source_tree.specs.Syntax.{Named, PathData, Tree, literal, path, enumerator, paren, unary, chain, call, Links, no_links, link, Arguments, no_arguments, argument, ConnectionData, input, output, Stmt, empty, assign, invoke, branch, cases, iterate, exit, return, Stmts, no_stmts, stmt, Arms, no_arms, arm, Entries, no_entries, entry, Otherwise, no_else, else_stmts, LabelData, IterationData, TypeData, of_elementary, of_subrange, of_name, SpecificationData, of_type, of_values, TypeDeclarationData, StepActionData, ChartStepData, StepsData, one_step, several_steps, ChartTransitionData, ChartActionData, PartData, step_part, transition_part, action_part, BodyData, statements, chart as chart_body, PouTypeData, function, function_block, program, PouData, FileData}
use Rattle.naming.specs.declared.callee.Callee.{Callee}
use Rattle.naming.specs.declared.callee.Callee.TheVariants as callees
use Rattle.naming.specs.Seen.{Seen}
use Rattle.naming.specs.declared.standing.Standing.{Standing}
use Rattle.naming.specs.declared.standing.Standing.TheVariants as standings
use Rattle.rules.specs.Judgements.{Judgement, whole_if, ok, suppressed, and, breaks}
use Rattle.naming.specs.Library.{is_library}
use Rattle.naming.specs.ChartWords.{qualifier_named, word_of}
use Rattle.naming.specs.FileScope.{types_of, pous_of, DeclaredName, names_of, is_declared_as, is_known, is_doubled_in_file, standing, is_type, is_value, pou_number, pou_at, pou_type_at, number_if, is_program}
use Rattle.naming.specs.Types.{end_of, end_specification, is_circular, are_first, is_whole_end, is_whole_type_name}
use Rattle.naming.specs.DeclarationUses.{is_circular_use, is_circular_variable}
use Rattle.naming.specs.Scopes.{Variable, PouScope, scope_of, is_local, is_input, is_seen, is_result, is_step, is_action, is_transition, is_of_name, is_fault, is_doubled, block_of_type, is_whole_type, is_typed, seen_named}

abbrev pub twice : Named → Judgement
twice n = breaks DeclaredTwice n.at

abbrev pub unknown : Named → Judgement
unknown n = breaks UnknownName n.at

abbrev pub circular : Named → Judgement
circular n = breaks InTermsOfItself n.at

abbrev pub misused : Named → Judgement
misused n = breaks WrongUse n.at

-- N1 in the file's scope: a name of an earlier declaration, or of the library
abbrev pub names_twice : List DeclaredName → List DeclaredName → List Refusal
names_twice before [] = []
names_twice before (d ∷ ds) =
    (if is_library d.0.text || list_any (is_declared_as d.0.text) before then twice d.0 else ok).broken ++ names_twice (before ++ d ∷ []) ds

-- N1 in a POU's scope: a variable with the name of an earlier one, or FAULT in a PROGRAM
abbrev pub variables_twice : Bool → List Variable → List Variable → Judgement
variables_twice has_fault before [] = ok
variables_twice has_fault before (v ∷ vs) =
    and (if is_fault has_fault v.name.text || list_any (is_of_name v.name.text) before then twice v.name else ok) (variables_twice has_fault (before ++ v ∷ []) vs)

-- a name of the file's scope, where none is that fits: N2 where the file lacks it, else N4
abbrev pub in_file : FileData → Named → Judgement
in_file f n = if is_known f n.text then (if is_doubled_in_file f n.text then suppressed else misused n) else unknown n

-- the type of a FUNCTION's result breaks no rule
abbrev pub is_whole_result : FileData → PouTypeData → Bool
is_whole_result f (function t) = is_whole_type f t
is_whole_result f function_block = true
is_whole_result f program = true

-- a FUNCTION whose declaration breaks a rule by the type of its result, by its number
abbrev pub is_broken_function : FileData → ℕ → Bool
is_broken_function f number = not (unwrap_or (option_map (is_whole_result f) (pou_type_at f number)) true)

-- a name of a type or of a FUNCTION whose declaration breaks a rule
abbrev pub is_broken_name : FileData → Option Standing → Bool
is_broken_name f None = false
is_broken_name f (Some (standings.Type number)) = not (is_whole_end f (end_of f number) (end_specification f number))
is_broken_name f (Some (standings.Value e k)) = false
is_broken_name f (Some (standings.Pou number)) = is_broken_function f number

-- A name of the file's scope, where none is that fits. What uses a name whose declaration breaks a rule says nothing.
abbrev pub in_scope : FileData → Named → Judgement
in_scope f n = if is_broken_name f (standing f n.text) then suppressed else in_file f n

-- a type by name, and the name of a value
abbrev pub in_type_name : FileData → Named → Judgement
in_type_name f n = if is_type (standing f n.text) then whole_if (is_whole_type_name f n) else in_scope f n

abbrev pub in_value_name : FileData → Named → Judgement
in_value_name f n = if is_value (standing f n.text) then ok else in_scope f n

-- `type#value`, where this is known of the type at the end of the way: N4 where it is no enumeration, and N2 where it lacks the value.
-- An enumeration has no bounds: it is whole where the names of its values break no rule.
abbrev pub in_enumeration : FileData → ℕ → Named → Named → Option SpecificationData → Judgement
in_enumeration f e t v None = suppressed
in_enumeration f e t v (Some (of_values at first others)) =
    if are_first f e 0 (first ∷ others) then (if list_any (λ n. bytes_eq n.text v.text) (first ∷ others) then ok else unknown v) else suppressed
in_enumeration f e t v (Some (of_type (of_elementary kind at))) = misused t
in_enumeration f e t v (Some (of_type (of_subrange kind at b))) = if is_whole_end f e (Some (of_type (of_subrange kind at b))) then misused t else suppressed
in_enumeration f e t v (Some (of_type (of_name n))) = suppressed

abbrev pub in_enumerator : FileData → Named → Named → Option Standing → Judgement
in_enumerator f t v (Some (standings.Type number)) = in_enumeration f (end_of f number) t v (end_specification f number)
in_enumerator f t v (Some (standings.Value e k)) = in_scope f t
in_enumerator f t v (Some (standings.Pou p)) = in_scope f t
in_enumerator f t v None = in_scope f t

-- A use inside a circle of declarations is judged as if all of the circle were whole. Nothing in a circle is an enumeration, so the
-- use is N4, but for that of a type where a type is wanted.
abbrev pub unless_circular : Bool → Named → Judgement → Judgement
unless_circular circular n j = if circular then misused n else j

-- a bound in a declaration, by its number
abbrev pub in_bound : FileData → ℕ → Tree → Judgement
in_bound f user (literal l) = ok
in_bound f user (path p) = unless_circular (is_circular_use f user p.first) p.first (in_value_name f p.first)
in_bound f user (enumerator t v) = unless_circular (is_circular_use f user t) t (in_enumerator f t v (standing f t.text))
in_bound f user (paren at e) = ok
in_bound f user (unary o at e) = ok
in_bound f user (chain e ls) = ok
in_bound f user (call n at args) = ok

-- a type by name in a declaration
abbrev pub in_declared_type : FileData → ℕ → Named → Judgement
in_declared_type f user n =
    if is_type (standing f n.text) then whole_if (is_whole_type_name f n) else unless_circular (is_circular_use f user n) n (in_scope f n)

abbrev pub in_specification : FileData → ℕ → SpecificationData → Judgement
in_specification f user (of_values at first others) = ok
in_specification f user (of_type (of_elementary kind at)) = ok
in_specification f user (of_type (of_subrange kind at b)) = and (in_bound f user b.low) (in_bound f user b.high)
in_specification f user (of_type (of_name n)) = in_declared_type f user n

-- N3 at each type that is declared in terms of itself, also through others, and what the specifications of types break,
-- which are counted from a number on
abbrev pub in_types : FileData → ℕ → List TypeDeclarationData → List Refusal
in_types f number [] = []
in_types f number (d ∷ ds) =
    (if is_circular f number then circular d.name else ok).broken ++ (in_specification f number d.specification).broken ++ in_types f (number + 1) ds

abbrev pub in_result : FileData → ℕ → PouTypeData → Judgement
in_result f user (function (of_elementary kind at)) = ok
in_result f user (function (of_subrange kind at b)) = ok
in_result f user (function (of_name n)) = in_declared_type f user n
in_result f user function_block = ok
in_result f user program = ok

-- what the types of results break, of POUs whose declarations are counted from a number on
abbrev pub in_results : FileData → ℕ → List PouData → List Refusal
in_results f number [] = []
in_results f number (p ∷ ps) = (in_result f number p.pou_type).broken ++ in_results f (number + 1) ps

-- N4 at the first name behind a variable or a value that has no members
abbrev pub too_deep : List Named → Judgement
too_deep [] = ok
too_deep (n ∷ ns) = misused n

-- a member of a block, by what is known of the variable of that name: N4 where it is not seen from outside
abbrev pub member_by : Option Seen → Named → Judgement
member_by None n = unknown n
member_by (Some s) n = if s.whole then (if is_seen s.role then ok else misused n) else suppressed

-- a member of the block of a number
abbrev pub in_member : FileData → ℕ → Named → Judgement
in_member f block n = unwrap_or (option_map (λ p. member_by (seen_named f (scope_of p) n.text) n) (pou_at f block)) suppressed

-- the names behind an instance of a block: N4 at the instance where it is alone, and at a name behind a member
abbrev pub in_members : FileData → ℕ → Named → List Named → Judgement
in_members f block first [] = misused first
in_members f block first (n ∷ ns) = if (in_member f block n).whole then too_deep ns else in_member f block n

-- the path of a variable whose declaration breaks no rule, which is an instance of a block or has no members
abbrev pub in_parts : FileData → Option ℕ → PathData → Judgement
in_parts f None q = too_deep q.members
in_parts f (Some block) q = in_members f block q.first q.members

-- behind a step `X` says whether it is active, and no step is a value itself
abbrev pub in_flag : Named → List Named → Judgement
in_flag first [] = misused first
in_flag first (n ∷ ns) = if bytes_eq n.text (codes "X") then too_deep ns else unknown n

-- actions and transitions are no values
abbrev pub in_named : FileData → Seen → PathData → Judgement
in_named f s q =
    if is_step s.role then in_flag q.first q.members
    else (if is_action s.role || is_transition s.role then misused q.first else in_parts f s.block q)

abbrev pub in_variable : FileData → Seen → PathData → Judgement
in_variable f s q = if s.whole then in_named f s q else suppressed

-- a name of a POU that is none of its variables: in a PROGRAM it may be FAULT, which has no name in a text
abbrev pub in_outer : FileData → PouScope → Named → Judgement
in_outer f p n = if is_fault p.has_fault n.text then misused n else in_scope f n

-- The path of a target: its first name is looked up among the POU's names, and then in the file's scope, which has no variable.
abbrev pub in_target : FileData → PouScope → Option Seen → PathData → Judgement
in_target f p (Some s) q = in_variable f s q
in_target f p None q = in_outer f p q.first

-- a path that is read may name a value of an enumeration, which has no members
abbrev pub in_path : FileData → PouScope → Option Seen → PathData → Judgement
in_path f p (Some s) q = in_variable f s q
in_path f p None q = if not (is_fault p.has_fault q.first.text) && is_value (standing f q.first.text) then too_deep q.members else in_outer f p q.first

-- a FUNCTION whose declaration breaks no rule
abbrev pub is_callable : FileData → PouTypeData → Bool
is_callable f (function t) = is_whole_type f t
is_callable f function_block = false
is_callable f program = false

abbrev pub function_or_unknown : Option ℕ → Callee
function_or_unknown None = callees.Unknown
function_or_unknown (Some number) = callees.Function number

-- what a call in an expression calls, in the file's scope: a standard function whose name the file does not declare again, or a FUNCTION
abbrev pub callee_of : FileData → List ℕ → Callee
callee_of f text =
    if is_library text && not (is_doubled_in_file f text) then callees.Standard
    else function_or_unknown (option_and_then (number_if f (is_callable f)) (pou_number (standing f text)))

abbrev pub in_called : FileData → Callee → Named → Judgement
in_called f callees.Standard n = ok
in_called f (callees.Function number) n = ok
in_called f callees.Unknown n = in_scope f n

-- the name of an argument, by what is known of the FUNCTION's variable of that name: N4 where it is no input
abbrev pub argument_by : Option Seen → Named → Judgement
argument_by None n = unknown n
argument_by (Some s) n = if s.whole then (if is_input s.role then ok else misused n) else suppressed

-- standard functions have no argument names, and of those of an unknown function nothing is said
abbrev pub in_argument_named : FileData → Callee → Named → Judgement
in_argument_named f callees.Standard n = unknown n
in_argument_named f (callees.Function number) n =
    unwrap_or (option_map (λ p. argument_by (seen_named f (scope_of p) n.text) n) (pou_at f number)) suppressed
in_argument_named f callees.Unknown n = ok

abbrev pub in_argument_name : FileData → Callee → Option Named → Judgement
in_argument_name f callee None = ok
in_argument_name f callee (Some n) = in_argument_named f callee n

abbrev mutual
  pub in_tree : FileData → PouScope → Tree → Judgement
  in_tree f p (literal l) = ok
  in_tree f p (path q) = in_path f p (seen_named f p q.first.text) q
  in_tree f p (enumerator t v) = in_enumerator f t v (standing f t.text)
  in_tree f p (paren at e) = in_tree f p e
  in_tree f p (unary o at e) = in_tree f p e
  in_tree f p (chain e ls) = and (in_tree f p e) (in_links f p ls)
  in_tree f p (call n at args) = and (in_called f (callee_of f n.text) n) (in_arguments f p (callee_of f n.text) args)

  pub in_links : FileData → PouScope → Links → Judgement
  in_links f p no_links = ok
  in_links f p (link o at e ls) = and (in_tree f p e) (in_links f p ls)

  -- the arguments of a call
  pub in_arguments : FileData → PouScope → Callee → Arguments → Judgement
  in_arguments f p callee no_arguments = ok
  in_arguments f p callee (argument n e args) = and (and (in_argument_name f callee n) (in_tree f p e)) (in_arguments f p callee args)

-- a variable where a value by name is wanted is N4, unless its declaration breaks a rule
abbrev pub in_value : FileData → PouScope → Option Seen → Named → Judgement
in_value f p (Some s) n = if s.whole then misused n else suppressed
in_value f p None n = if is_fault p.has_fault n.text then misused n else in_value_name f n

abbrev pub in_constant : FileData → PouScope → Tree → Judgement
in_constant f p (literal l) = ok
in_constant f p (path q) = in_value f p (seen_named f p q.first.text) q.first
in_constant f p (enumerator t v) = in_enumerator f t v (standing f t.text)
in_constant f p (paren at e) = ok
in_constant f p (unary o at e) = ok
in_constant f p (chain e ls) = ok
in_constant f p (call n at args) = ok

abbrev pub in_constant_if : FileData → PouScope → Option Tree → Judgement
in_constant_if f p None = ok
in_constant_if f p (Some e) = in_constant f p e

-- a constant in the declaration of a variable, by its number
abbrev pub in_declared_constant : FileData → PouScope → ℕ → Tree → Judgement
in_declared_constant f p user (literal l) = ok
in_declared_constant f p user (path q) =
    unless_circular (is_circular_variable p user q.first) q.first (in_value f p (seen_named f p q.first.text) q.first)
in_declared_constant f p user (enumerator t v) = in_enumerator f t v (standing f t.text)
in_declared_constant f p user (paren at e) = ok
in_declared_constant f p user (unary o at e) = ok
in_declared_constant f p user (chain e ls) = ok
in_declared_constant f p user (call n at args) = ok

abbrev pub in_initial : FileData → PouScope → ℕ → Option Tree → Judgement
in_initial f p user None = ok
in_initial f p user (Some e) = in_declared_constant f p user e

-- The type of a variable by name: a block is N4 at each name outside VAR. That of a result is looked at where the POU is
-- declared.
abbrev pub in_named_type : FileData → Variable → Named → Judgement
in_named_type f v n =
    if is_result v.role then whole_if (is_typed f v)
    else (if is_some (block_of_type f (of_name n)) then (if is_local v.role then ok else misused v.name) else in_type_name f n)

abbrev pub in_type : FileData → PouScope → ℕ → Variable → TypeData → Judgement
in_type f p user v (of_elementary kind at) = ok
in_type f p user v (of_subrange kind at b) = and (in_declared_constant f p user b.low) (in_declared_constant f p user b.high)
in_type f p user v (of_name n) = in_named_type f v n

-- a name of a chart has no type
abbrev pub in_kind : FileData → PouScope → ℕ → Variable → Option TypeData → Judgement
in_kind f p user v None = ok
in_kind f p user v (Some t) = in_type f p user v t

abbrev pub in_label : FileData → PouScope → LabelData → Judgement
in_label f p l = and (in_constant f p l.low) (in_constant_if f p l.high)

abbrev pub in_labels : FileData → PouScope → List LabelData → Judgement
in_labels f p [] = ok
in_labels f p (l ∷ ls) = and (in_label f p l) (in_labels f p ls)

abbrev pub alone : Named → PathData
alone n = record { first = n; members = [] }

abbrev pub in_step : FileData → PouScope → Option Tree → Judgement
in_step f p None = ok
in_step f p (Some e) = in_tree f p e

-- a FOR's control variable is a path without members
abbrev pub in_iteration : FileData → PouScope → IterationData → Judgement
in_iteration f p i =
    and (and (and (in_target f p (seen_named f p i.control.text) (alone i.control)) (in_tree f p i.first)) (in_tree f p i.last)) (in_step f p i.step)

-- the name of a block's call is that of an instance
abbrev pub in_instance : FileData → PouScope → Option Seen → Named → Judgement
in_instance f p (Some s) n = if s.whole then (if is_some s.block then ok else misused n) else suppressed
in_instance f p None n = in_outer f p n

-- the block of an instance whose declaration breaks no rule
abbrev pub instance_of : Option Seen → Option ℕ
instance_of (Some s) = if s.whole then s.block else None
instance_of None = None

-- the name of a connection is looked at where the block is known
abbrev pub in_connected : FileData → Option ℕ → Named → Judgement
in_connected f None n = ok
in_connected f (Some block) n = in_member f block n

abbrev pub in_connection : FileData → PouScope → Option ℕ → ConnectionData → Judgement
in_connection f p block (input n e) = and (in_connected f block n) (in_tree f p e)
in_connection f p block (output n q) = and (in_connected f block n) (in_target f p (seen_named f p q.first.text) q)

abbrev pub in_connections : FileData → PouScope → Option ℕ → List ConnectionData → Judgement
in_connections f p block [] = ok
in_connections f p block (c ∷ cs) = and (in_connection f p block c) (in_connections f p block cs)

abbrev mutual
  pub in_stmt : FileData → PouScope → Stmt → Judgement
  in_stmt f p empty = ok
  in_stmt f p (assign q e) = and (in_target f p (seen_named f p q.first.text) q) (in_tree f p e)
  in_stmt f p (invoke n at cs) =
      let s = seen_named f p n.text in
      and (in_instance f p s n) (in_connections f p (instance_of s) cs)
  in_stmt f p (branch arms other) = and (in_arms f p arms) (in_else f p other)
  in_stmt f p (cases e es other) = and (and (in_tree f p e) (in_entries f p es)) (in_else f p other)
  in_stmt f p (iterate i ss) = and (in_iteration f p i) (in_stmts f p ss)
  in_stmt f p (exit at) = ok
  in_stmt f p return = ok

  pub in_stmts : FileData → PouScope → Stmts → Judgement
  in_stmts f p no_stmts = ok
  in_stmts f p (stmt s ss) = and (in_stmt f p s) (in_stmts f p ss)

  pub in_arms : FileData → PouScope → Arms → Judgement
  in_arms f p no_arms = ok
  in_arms f p (arm e ss arms) = and (and (in_tree f p e) (in_stmts f p ss)) (in_arms f p arms)

  pub in_entries : FileData → PouScope → Entries → Judgement
  in_entries f p no_entries = ok
  in_entries f p (entry ls ss es) = and (and (in_labels f p ls) (in_stmts f p ss)) (in_entries f p es)

  pub in_else : FileData → PouScope → Otherwise → Judgement
  in_else f p no_else = ok
  in_else f p (else_stmts ss) = in_stmts f p ss

-- a declaration, by its number
abbrev pub in_declaration : FileData → PouScope → ℕ → Variable → Judgement
in_declaration f p user v = and (in_kind f p user v v.kind) (in_initial f p user v.initial)

-- declarations that are counted from a number on
abbrev pub in_declarations : FileData → PouScope → ℕ → List Variable → Judgement
in_declarations f p number [] = ok
in_declarations f p number (v ∷ vs) = and (in_declaration f p number v) (in_declarations f p (number + 1) vs)

-- the name of a part of a chart; where it is declared twice, the part is broken
abbrev pub in_own_name : PouScope → Named → Judgement
in_own_name p n = whole_if (not (is_doubled p n.text))

abbrev pub in_own_name_if : PouScope → Option Named → Judgement
in_own_name_if p None = ok
in_own_name_if p (Some n) = in_own_name p n

-- C3: in a step, the name of an action is that of an action of the chart
abbrev pub action_by : Option Seen → Named → Judgement
action_by None n = breaks UnknownAction n.at
action_by (Some s) n = if s.whole then (if is_action s.role then ok else breaks UnknownAction n.at) else suppressed

-- C5: a qualifier is one of the words for it
abbrev pub in_word : Option Named → Judgement
in_word None = ok
in_word (Some n) = if is_some (qualifier_named n.text) then ok else breaks UnknownQualifier n.at

abbrev pub in_association : FileData → PouScope → StepActionData → Judgement
in_association f p a = and (action_by (seen_named f p a.action.text) a.action) (in_word (word_of a.brackets))

abbrev pub in_associations : FileData → PouScope → List StepActionData → Judgement
in_associations f p [] = ok
in_associations f p (a ∷ rest) = and (in_association f p a) (in_associations f p rest)

-- C2: before and behind a transition stand steps of the chart
abbrev pub step_by : Option Seen → Named → Judgement
step_by None n = breaks UnknownStep n.at
step_by (Some s) n = if s.whole then (if is_step s.role then ok else breaks UnknownStep n.at) else suppressed

-- C4: a step stands once in a list
abbrev pub listed_by : Judgement → Bool → Named → Judgement
listed_by step is_met n = if step.whole && is_met then breaks StepTwice n.at else step

abbrev pub in_listed : FileData → PouScope → List (List ℕ) → Named → Judgement
in_listed f p before n = listed_by (step_by (seen_named f p n.text) n) (list_any (λ text. bytes_eq text n.text) before) n

abbrev pub in_listed_from : FileData → PouScope → List (List ℕ) → List Named → Judgement
in_listed_from f p before [] = ok
in_listed_from f p before (n ∷ ns) = and (in_listed f p before n) (in_listed_from f p (before ++ n.text ∷ []) ns)

abbrev pub steps_in : StepsData → List Named
steps_in (one_step n) = n ∷ []
steps_in (several_steps at first others) = first ∷ others

abbrev pub in_steps : FileData → PouScope → StepsData → Judgement
in_steps f p s = in_listed_from f p [] (steps_in s)

abbrev pub in_chart_step : FileData → PouScope → ChartStepData → Judgement
in_chart_step f p s = and (in_own_name p s.name) (in_associations f p s.actions)

abbrev pub in_transition : FileData → PouScope → ChartTransitionData → Judgement
in_transition f p t = and (in_own_name_if p t.name) (and (in_steps f p t.from) (and (in_steps f p t.to) (in_tree f p t.condition)))

abbrev pub in_action : FileData → PouScope → ChartActionData → Judgement
in_action f p a = and (in_own_name p a.name) (in_stmts f p a.body)

abbrev pub in_part : FileData → PouScope → PartData → Judgement
in_part f p (step_part s) = in_chart_step f p s
in_part f p (transition_part t) = in_transition f p t
in_part f p (action_part a) = in_action f p a

abbrev pub in_chart_parts : FileData → PouScope → List PartData → Judgement
in_chart_parts f p [] = ok
in_chart_parts f p (q ∷ qs) = and (in_part f p q) (in_chart_parts f p qs)

abbrev pub is_initial_part : PartData → Bool
is_initial_part (step_part s) = s.is_initial
is_initial_part (transition_part t) = false
is_initial_part (action_part a) = false

-- the place of the word that begins a part, and a chart is where its first part is
abbrev pub place_of_part : PartData → ℕ
place_of_part (step_part s) = s.at
place_of_part (transition_part t) = t.at
place_of_part (action_part a) = a.at

abbrev pub place_of_chart : List PartData → ℕ
place_of_chart [] = 0
place_of_chart (q ∷ qs) = place_of_part q

-- C1: a chart whose parts are whole has one initial step
abbrev pub in_chart : FileData → PouScope → List PartData → Judgement
in_chart f p qs =
    if (in_chart_parts f p qs).whole && not (count_by is_initial_part qs == 1) then breaks NotOneInitialStep (place_of_chart qs)
    else in_chart_parts f p qs

abbrev pub in_body : FileData → PouScope → BodyData → Judgement
in_body f p (statements ss) = in_stmts f p ss
in_body f p (chart_body qs) = in_chart f p qs

-- a body, and the declarations of its POU
unfoldable pub in_pou_scope : FileData → PouScope → BodyData → Judgement
in_pou_scope f p body = and (and (variables_twice p.has_fault [] p.variables) (in_declarations f p 0 p.variables)) (in_body f p body)

-- a POU, but for its own name and, of a FUNCTION, the type of its result
abbrev pub in_pou : FileData → PouData → Judgement
in_pou f p = in_pou_scope f (scope_of p) p.body

abbrev pub in_pous : FileData → List PouData → List Refusal
in_pous f [] = []
in_pous f (p ∷ ps) = (in_pou f p).broken ++ in_pous f ps

abbrev pub is_program_pou : PouData → Bool
is_program_pou p = is_program p.pou_type

-- N5: there is exactly one PROGRAM
abbrev pub not_one : List PouData → List Refusal
not_one ps = if count_by is_program_pou ps == 1 then [] else record { rule = NotOneProgram; at = 0 } ∷ []

-- all that a file breaks of the rules on names, but for N3 of its POUs
abbrev pub broken_names : FileData → List Refusal
broken_names f = not_one (pous_of f) ++ names_twice [] (names_of f) ++ in_types f 0 (types_of f) ++ in_results f (length (types_of f)) (pous_of f) ++ in_pous f (pous_of f)
