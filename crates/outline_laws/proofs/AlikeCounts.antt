-- Bodies that are typed over scopes that differ in the places of cells alone become as many flat statements.
use Rattle.std.proofs.Common.{◌≡◌, ◌≤◌, ℕ, ◌+◌, ◌*◌, List, [], ◌∷◌, ◌++◌, length, map, set, replicate, Bool, true, false, if◌then◌else◌, Option, Some, None, option_map, refl, sym, ap, ◌∙◌, arith}
use Rattle.std.specs.Prelude.{◌||◌, pos}
use Rattle.std.specs.Option.{unwrap_or}
use Rattle.std.proofs.lemmas.List.{length-map, map-set}
use Rattle.plc_types.specs.declared.data_type.DataType.{DataType}
use Rattle.plc_types.specs.declared.operator.UnaryOperator.{UnaryOperator}
use Rattle.plc_types.specs.declared.function.StandardFunction.{StandardFunction}
use Rattle.program_tree.specs.Tree.{Expression, number, call_function, Expressions, Statement, assign as typed_assign, own_body, Statements, no_statements, statement}
use Rattle.program_tree.specs.View.{expressions_of, actions_of as actions_from}
use Rattle.source_tree.specs.declared.syntax.Literal.{Literal}
use Rattle.source_tree.specs.Syntax.{Named, Tree, literal, path, enumerator, paren, unary, chain, call, Links, no_links, link, Arguments, no_arguments, argument, ConnectionData, input, output, empty, assign, invoke, branch, cases, iterate, exit, return, Stmts, no_stmts, stmt, Arms, no_arms, arm, Entries, no_entries, entry, Otherwise, no_else, else_stmts, ChartTransitionData, ChartActionData, PartData, BodyData, statements, chart as chart_body, FileData}
use Rattle.program_tree.specs.Leaving.{can_exit, can_exit_all, can_exit_choices, can_exit_entries, can_return, can_return_all, can_return_choices, can_return_entries, in_own_body}
use Rattle.program_tree.specs.OperandTypes.{arity}
use Rattle.naming.specs.Broken.{alone}
use Rattle.naming.specs.Library.{standard_function}
use Rattle.naming.specs.Scopes.{Variable}
use Rattle.meaning.specs.Frames.{FrameData}
use Rattle.sfc_shape.specs.Shapes.{steps_of, transitions_of, actions_of, step_numbers, associations_of, in_firing_order}
use Rattle.flat_form.specs.Frames.{others_behind}
use Rattle.flat_count.specs.Counts.{Counting, count_of_start, count_in, count_in_operands, count_in_all, count_in_inputs, count_of_latch, count_of_latches, count_of_transitions, count_of_associated, count_of_flag, count_unless, count_of, count_of_all, count_of_choices, count_of_entries, count_of_actions}
use Rattle.typing.specs.declared.scope.Place.{Place}
use Rattle.typing.specs.declared.scope.Place.TheVariants as places
use Rattle.typing.specs.declared.scope.Meaning.{Meaning}
use Rattle.typing.specs.declared.scope.Signature.{Signature}
use Rattle.typing.specs.declared.scope.Instance.{Instance}
use Rattle.typing.specs.declared.next.Next.{Next}
use Rattle.typing.specs.Typing.{Scope, by_path, by_value, kind_at, type_of, operand_type, next_type, Parameter, fixed, common, amount, parameter_of}
use Rattle.typing.specs.Judged.{negative_literal, expected_at, place_for, expected_by}
use Rattle.typing.specs.Typed.{PlacedData, placed, read_of, meaning_read, typed_signed, with_operand, typed_answer, typed_result, typed, typed_links, typed_operands, typed_given}
use Rattle.typing.specs.JudgedStatements.{member}
use Rattle.typing.specs.TypedStatements.{typed_inputs, typed_outputs, typed_run, typed_invoke, and_then, typed_stmts, typed_arms, typed_entries, typed_else, typed_list}
use Rattle.typing.specs.TypedCharts.{step_cells, latch_place, latch_of, typed_action, typed_transition, typed_chart}
use Rattle.typing.specs.Places.{places_behind, first_place, sizes_of}
use Rattle.typing.specs.Variables.{initial_of}
use Rattle.typing.specs.TypedPrograms.{is_temporary, begun, typed_body}
use Rattle.alike_scopes.specs.AlikeScopes.{unplaced, cleared, AreAlike}
use Rattle.alike_scopes.proofs.AlikeLabels.{turn_count_alike}

-- ---- which statements may leave

-- statements that do not leave their list
abbrev AreCalm : List Statement → Type 0
AreCalm [] = Unit {0}
AreCalm (x ∷ xs) = (can_exit x ≡ false) × (can_return x ≡ false) × AreCalm xs

calm-append : (xs ys : List Statement) → AreCalm xs → AreCalm ys → AreCalm (xs ++ ys)
calm-append [] ys h k = k
calm-append (x ∷ xs) ys h k = (h.0, h.1, calm-append xs ys h.2 k)

calm-inputs : (s : Scope) (n : Named) (cs : List ConnectionData) → AreCalm (typed_inputs s n cs)
calm-inputs s n [] = tt
calm-inputs s n (input x e ∷ cs) = (refl, refl, calm-inputs s n cs)
calm-inputs s n (output y p ∷ cs) = calm-inputs s n cs

calm-outputs : (s : Scope) (n : Named) (cs : List ConnectionData) → AreCalm (typed_outputs s n cs)
calm-outputs s n [] = tt
calm-outputs s n (input x e ∷ cs) = calm-outputs s n cs
calm-outputs s n (output y p ∷ cs) = (refl, refl, calm-outputs s n cs)

calm-run : (o : Option Instance) → AreCalm (typed_run o)
calm-run None = tt
calm-run (Some i) = (refl, refl, tt)

calm-invoke : (s : Scope) (n : Named) (cs : List ConnectionData) → AreCalm (typed_invoke s n cs)
calm-invoke s n cs =
    calm-append (typed_inputs s n cs ++ typed_run (s.instance n.text)) (typed_outputs s n cs)
    (calm-append (typed_inputs s n cs) (typed_run (s.instance n.text)) (calm-inputs s n cs) (calm-run (s.instance n.text))) (calm-outputs s n cs)

exits-and_then : (xs : List Statement) (ts : Statements) → AreCalm xs → can_exit_all (and_then xs ts) ≡ can_exit_all ts
exits-and_then [] ts h = refl
exits-and_then (x ∷ xs) ts h = ap (λ (b : Bool). b || can_exit_all (and_then xs ts)) h.0 ∙ exits-and_then xs ts h.2

returns-and_then : (xs : List Statement) (ts : Statements) → AreCalm xs → can_return_all (and_then xs ts) ≡ can_return_all ts
returns-and_then [] ts h = refl
returns-and_then (x ∷ xs) ts h = ap (λ (b : Bool). b || can_return_all (and_then xs ts)) h.1 ∙ returns-and_then xs ts h.2

-- a scope does not say which statements leave
module _ (s t : Scope) where
  mutual
    exits_stmts : (ss : Stmts) → can_exit_all (typed_stmts s ss) ≡ can_exit_all (typed_stmts t ss)
    exits_stmts no_stmts = refl
    exits_stmts (stmt empty ss) = exits_stmts ss
    exits_stmts (stmt (assign p e) ss) = exits_stmts ss
    exits_stmts (stmt (invoke n at cs) ss) =
        exits-and_then (typed_invoke s n cs) (typed_stmts s ss) (calm-invoke s n cs) ∙ exits_stmts ss ∙ sym (exits-and_then (typed_invoke t n cs) (typed_stmts t ss) (calm-invoke t n cs))
    exits_stmts (stmt (branch arms other) ss) = λ i. (exits_arms arms i || exits_else other i) || exits_stmts ss i
    exits_stmts (stmt (cases e es other) ss) = λ i. (exits_entries (type_of s None e) (type_of t None e) es i || exits_else other i) || exits_stmts ss i
    exits_stmts (stmt (iterate it body) ss) = exits_stmts ss
    exits_stmts (stmt (exit at) ss) = refl
    exits_stmts (stmt return ss) = exits_stmts ss

    exits_arms : (arms : Arms) → can_exit_choices (typed_arms s arms) ≡ can_exit_choices (typed_arms t arms)
    exits_arms no_arms = refl
    exits_arms (arm e ss arms) = λ i. exits_stmts ss i || exits_arms arms i

    exits_entries : (j k : DataType) (es : Entries) → can_exit_entries (typed_entries s j es) ≡ can_exit_entries (typed_entries t k es)
    exits_entries j k no_entries = refl
    exits_entries j k (entry ls ss es) = λ i. exits_stmts ss i || exits_entries j k es i

    exits_else : (other : Otherwise) → can_exit_all (typed_else s other) ≡ can_exit_all (typed_else t other)
    exits_else no_else = refl
    exits_else (else_stmts ss) = exits_stmts ss

  mutual
    returns_stmts : (ss : Stmts) → can_return_all (typed_stmts s ss) ≡ can_return_all (typed_stmts t ss)
    returns_stmts no_stmts = refl
    returns_stmts (stmt empty ss) = returns_stmts ss
    returns_stmts (stmt (assign p e) ss) = returns_stmts ss
    returns_stmts (stmt (invoke n at cs) ss) =
        returns-and_then (typed_invoke s n cs) (typed_stmts s ss) (calm-invoke s n cs) ∙ returns_stmts ss ∙ sym (returns-and_then (typed_invoke t n cs) (typed_stmts t ss) (calm-invoke t n cs))
    returns_stmts (stmt (branch arms other) ss) = λ i. (returns_arms arms i || returns_else other i) || returns_stmts ss i
    returns_stmts (stmt (cases e es other) ss) = λ i. (returns_entries (type_of s None e) (type_of t None e) es i || returns_else other i) || returns_stmts ss i
    returns_stmts (stmt (iterate it body) ss) = λ i. returns_stmts body i || returns_stmts ss i
    returns_stmts (stmt (exit at) ss) = returns_stmts ss
    returns_stmts (stmt return ss) = refl

    returns_arms : (arms : Arms) → can_return_choices (typed_arms s arms) ≡ can_return_choices (typed_arms t arms)
    returns_arms no_arms = refl
    returns_arms (arm e ss arms) = λ i. returns_stmts ss i || returns_arms arms i

    returns_entries : (j k : DataType) (es : Entries) → can_return_entries (typed_entries s j es) ≡ can_return_entries (typed_entries t k es)
    returns_entries j k no_entries = refl
    returns_entries j k (entry ls ss es) = λ i. returns_stmts ss i || returns_entries j k es i

    returns_else : (other : Otherwise) → can_return_all (typed_else s other) ≡ can_return_all (typed_else t other)
    returns_else no_else = refl
    returns_else (else_stmts ss) = returns_stmts ss

-- nothing behind a statement is nothing
unless-none : (asks : Bool) → count_unless asks 0 ≡ 0
unless-none true = refl
unless-none false = refl

module _ (c : Counting) where
  -- ---- values

  -- a name is read without a call
  read_place : (p : Place) → count_in c (read_of p) ≡ 0
  read_place (places.Cell k) = refl
  read_place (places.Value v) = refl

  read_name : (o : Option Meaning) → count_in c (meaning_read o) ≡ 0
  read_name None = refl
  read_name (Some m) = read_place m.place

  same_name : (o p : Option Meaning) → count_in c (meaning_read o) ≡ count_in c (meaning_read p)
  same_name o p = read_name o ∙ sym (read_name p)

  same_signed : (j k : DataType) (o : UnaryOperator) (l : Option Literal) (d e : Expression) → count_in c d ≡ count_in c e → count_in c (typed_signed j o l d) ≡ count_in c (typed_signed k o l e)
  same_signed j k o None d e same = same
  same_signed j k o (Some l) d e same = refl

  same_operand : (p : Parameter) (d e : Expression) (ds es : Expressions) → count_in c d ≡ count_in c e → count_in_all c ds ≡ count_in_all c es → count_in_all c (with_operand p d ds) ≡ count_in_all c (with_operand p e es)
  same_operand (fixed k) d e ds es same rest = λ i. same i + rest i
  same_operand common d e ds es same rest = λ i. same i + rest i
  same_operand amount d e ds es same rest = rest

  -- ---- calls, by what each input counts

  abbrev inputs_by : FrameData → ℕ → List ℕ → ℕ
  inputs_by frame place [] = 0
  inputs_by frame place (n ∷ ns) = n + (count_of_start frame place + 1) + inputs_by frame (place + 1) ns

  in_inputs : (frame : FrameData) (place : ℕ) (es : List Expression) → count_in_inputs c frame place (expressions_of es) ≡ inputs_by frame place (map (count_in c) es)
  in_inputs frame place [] = refl
  in_inputs frame place (e ∷ es) = ap (λ (n : ℕ). count_in c e + (count_of_start frame place + 1) + n) (in_inputs frame (place + 1) es)

  arity_by : (es : List Expression) → arity (expressions_of es) ≡ length (map (count_in c) es)
  arity_by [] = refl
  arity_by (e ∷ es) = omega (arith, arity_by es)

  abbrev by_counts : ℕ → List ℕ → ℕ
  by_counts f ns = inputs_by (c.frame f) 2 ns + (others_behind (c.frame f) (length ns) + (1 + c.bodies f))

  answer_by : (f : ℕ) (es : List Expression) → count_in c (call_function f (expressions_of es)) ≡ by_counts f (map (count_in c) es)
  answer_by f es = λ i. in_inputs (c.frame f) 2 es i + (others_behind (c.frame f) (arity_by es i) + (1 + c.bodies f))

  -- what is given counts, at its place
  abbrev given_count : PlacedData → ℕ × ℕ
  given_count g = (g.0, count_in c g.1)

  abbrev placed_counts : List ℕ → List (ℕ × ℕ) → List ℕ
  placed_counts ns [] = ns
  placed_counts ns (g ∷ gs) = placed_counts (set ns g.0 g.1) gs

  placed_by : (es : List Expression) (gs : List PlacedData) → map (count_in c) (placed es gs) ≡ placed_counts (map (count_in c) es) (map given_count gs)
  placed_by es [] = refl
  placed_by es (g ∷ gs) = placed_by (set es g.0 g.1) gs ∙ ap (λ (ns : List ℕ). placed_counts ns (map given_count gs)) (map-set (count_in c) es g.0 g.1)

  answer_placed : (f : ℕ) (es : List Expression) (gs : List PlacedData) → count_in c (call_function f (expressions_of (placed es gs))) ≡ by_counts f (placed_counts (map (count_in c) es) (map given_count gs))
  answer_placed f es gs = answer_by f (placed es gs) ∙ ap (by_counts f) (placed_by es gs)

  same_answer : (o : Option Signature) (gs hs : Signature → List PlacedData) → ((g : Signature) → o ≡ Some g → map given_count (gs g) ≡ map given_count (hs g)) → count_in c (typed_answer o gs) ≡ count_in c (typed_answer o hs)
  same_answer None gs hs same = refl
  same_answer (Some g) gs hs same =
      let zeros = replicate g.count (number (pos 0)) in
      answer_placed g.number zeros (gs g) ∙ ap (λ (ns : List (ℕ × ℕ)). by_counts g.number (placed_counts (map (count_in c) zeros) ns)) (same g refl) ∙ sym (answer_placed g.number zeros (hs g))

  same_result : (s t : Scope) (w v : Option DataType) (f : Option StandardFunction) (o p : Option Signature) (args : Arguments) (ds es : StandardFunction → DataType → Expressions) (gs hs : Signature → List PlacedData)
      → ((x : StandardFunction) (j k : DataType) → count_in_all c (ds x j) ≡ count_in_all c (es x k)) → count_in c (typed_answer o gs) ≡ count_in c (typed_answer p hs)
      → count_in c (typed_result s w f o args ds gs) ≡ count_in c (typed_result t v f p args es hs)
  same_result s t w v None o p args ds es gs hs operands answers = answers
  same_result s t w v (Some f) o p args ds es gs hs operands answers = operands f _ _

  -- ---- lists of statements

  abbrev sum_of : List Statement → ℕ
  sum_of [] = 0
  sum_of (x ∷ xs) = count_of c x + sum_of xs

  sum-and_then : (xs : List Statement) (ts : Statements) → AreCalm xs → count_of_all c (and_then xs ts) ≡ sum_of xs + count_of_all c ts
  sum-and_then [] ts h = omega arith
  sum-and_then (x ∷ xs) ts h =
      let more = sum-and_then xs ts h.2 in
      let here : count_of_all c (and_then (x ∷ xs) ts) ≡ count_of c x + count_of_all c (and_then xs ts) = λ i. count_of c x + count_unless (h.0 i || h.1 i) (count_of_all c (and_then xs ts)) in
      omega (arith, more, here)

  -- a statement alone
  sum-alone : (x : Statement) → count_of_all c (statement x no_statements) ≡ count_of c x + 0
  sum-alone x = ap (λ (n : ℕ). count_of c x + n) (unless-none (can_exit x || can_return x))

  -- statements in a body of their own
  abbrev own_count : Bool → ℕ → ℕ
  own_count true n = 1 + n
  own_count false n = n

  own-by : (returns : Bool) (ts : Statements) → can_return_all ts ≡ returns → count_of_all c (if returns then statement (own_body ts) no_statements else ts) ≡ own_count returns (count_of_all c ts)
  own-by true ts h = let flag = ap count_of_flag h in omega (arith, sum-alone (own_body ts), flag)
  own-by false ts h = refl

  same_own : (ts us : Statements) → can_return_all ts ≡ can_return_all us → count_of_all c ts ≡ count_of_all c us → count_of_all c (in_own_body ts) ≡ count_of_all c (in_own_body us)
  same_own ts us returns same = own-by (can_return_all ts) ts refl ∙ (λ i. own_count (returns i) (same i)) ∙ sym (own-by (can_return_all us) us refl)

  sum-append : (xs ys : List Statement) → sum_of (xs ++ ys) ≡ sum_of xs + sum_of ys
  sum-append [] ys = omega arith
  sum-append (x ∷ xs) ys = omega (arith, sum-append xs ys)

  abbrev run_by : Option ℕ → ℕ
  run_by None = 0
  run_by (Some b) = c.runs b + 0

  sum-run : (o : Option Instance) → sum_of (typed_run o) ≡ run_by (option_map (λ (i : Instance). i.block) o)
  sum-run None = refl
  sum-run (Some i) = refl

  latch_at : (p : Place) → count_of_latch (latch_place p) ≡ count_of_latch (latch_place (unplaced p))
  latch_at (places.Cell k) = refl
  latch_at (places.Value v) = refl

  latch_free : (o : Option Meaning) → count_of_latch (latch_of o) ≡ count_of_latch (latch_of (option_map cleared o))
  latch_free None = refl
  latch_free (Some m) = latch_at m.place

  more_by : (m : ℕ) (b : Bool) (place : ℕ) (e : Expression) (ts : Statements) → m ≤ count_of_all c ts → m ≤ count_of_all c (if b then statement (typed_assign place e) ts else ts)
  more_by m true place e ts h = omega (arith, h)
  more_by m false place e ts h = h

  -- VAR_TEMP variables that begin count, too
  pub less_begun : (f : FileData) (next : Next) (vs : List Variable) (ts : Statements) → count_of_all c ts ≤ count_of_all c (begun f next vs ts)
  less_begun f next [] ts = omega arith
  less_begun f next (v ∷ vs) ts = more_by (count_of_all c ts) (is_temporary v.role) (first_place next v) (number (initial_of f v)) (begun f (places_behind f (sizes_of f) next v) vs ts) (less_begun f (places_behind f (sizes_of f) next v) vs ts)

  module _ (s t : Scope) (alike : AreAlike s t) where
    place_same : (g : Signature) → ((name : List ℕ) → s.input g.function name ≡ t.input g.function name) → (place : ℕ) (n : Option Named) → place_for s g place n ≡ place_for t g place n
    place_same g inputs place None = refl
    place_same g inputs place (Some n) = ap (λ (o : Option ℕ). unwrap_or o g.count) (inputs n.text)

    mutual
      same_in : (w v : Option DataType) (e : Tree) → count_in c (typed s w e) ≡ count_in c (typed t v e)
      same_in w v (literal l) = refl
      same_in w v (path p) = same_name (s.means (by_path p)) (t.means (by_path p))
      same_in w v (enumerator n x) = same_name (s.means (by_value x)) (t.means (by_value x))
      same_in w v (paren at e) = same_in w v e
      same_in w v (unary o at e) = same_signed (type_of s w e) (type_of t v e) o (negative_literal o e) _ _ (same_in (Some (type_of s w e)) (Some (type_of t v e)) e)
      same_in w v (chain e ls) =
          let j = operand_type s w e ls in
          let k = operand_type t v e ls in
          λ i. same_in (Some j) (Some k) e i + same_links j k ls i
      same_in w v (call n at args) =
          let gs = λ (g : Signature). typed_given s g 0 args in
          let hs = λ (g : Signature). typed_given t g 0 args in
          let answers = same_answer (s.signature n.text) gs hs (λ g is. same_given g (alike.input g.function) 0 args) in
          same_result s t w v (standard_function n.text) (s.signature n.text) (t.signature n.text) args (λ f k. typed_operands s f k 0 args) (λ f k. typed_operands t f k 0 args) gs hs (λ f j k. same_operands f j k 0 args)
          (answers ∙ ap (λ (o : Option Signature). count_in c (typed_answer o hs)) (alike.signature n.text))

      same_links : (j k : DataType) (ls : Links) → count_in_operands c (typed_links s j ls) ≡ count_in_operands c (typed_links t k ls)
      same_links j k no_links = refl
      same_links j k (link o at e ls) = λ i. same_in (Some j) (Some k) e i + same_links (next_type o j) (next_type o k) ls i

      same_operands : (f : StandardFunction) (j k : DataType) (place : ℕ) (args : Arguments) → count_in_all c (typed_operands s f j place args) ≡ count_in_all c (typed_operands t f k place args)
      same_operands f j k place no_arguments = refl
      same_operands f j k place (argument n e args) =
          let p = parameter_of f place in
          same_operand p _ _ _ _ (same_in (expected_at p j) (expected_at p k) e) (same_operands f j k (place + 1) args)

      same_given : (g : Signature) → ((name : List ℕ) → s.input g.function name ≡ t.input g.function name) → (place : ℕ) (args : Arguments) → map given_count (typed_given s g place args) ≡ map given_count (typed_given t g place args)
      same_given g inputs place no_arguments = refl
      same_given g inputs place (argument n e args) =
          let here = same_in (expected_by (s.port g.function (place_for s g place n))) (expected_by (t.port g.function (place_for t g place n))) e in
          λ i. (place_same g inputs place n i, here i) ∷ same_given g inputs (place + 1) args i

    -- ---- statements

    same_latch : (n : Named) → count_of_latch (latch_of (s.means (by_path (alone n)))) ≡ count_of_latch (latch_of (t.means (by_path (alone n))))
    same_latch n = latch_free (s.means (by_path (alone n))) ∙ ap (λ (o : Option Meaning). count_of_latch (latch_of o)) (alike.means (by_path (alone n))) ∙ sym (latch_free (t.means (by_path (alone n))))

    same_latches : (ps : List PartData) (actions : List ChartActionData) → count_of_latches (actions_from (map (typed_action s ps) actions)) ≡ count_of_latches (actions_from (map (typed_action t ps) actions))
    same_latches ps [] = refl
    same_latches ps (a ∷ rest) = λ i. same_latch a.name i + same_latches ps rest i

    same_transitions : (ps : List PartData) (ts : List ChartTransitionData) → count_of_transitions c (map (typed_transition s ps) ts) ≡ count_of_transitions c (map (typed_transition t ps) ts)
    same_transitions ps [] = refl
    same_transitions ps (x ∷ xs) = λ i. 2 + same_in None None x.condition i + (length (step_numbers ps x.from) + length (step_numbers ps x.to)) + same_transitions ps xs i

    same_inputs : (n : Named) (cs : List ConnectionData) → sum_of (typed_inputs s n cs) ≡ sum_of (typed_inputs t n cs)
    same_inputs n [] = refl
    same_inputs n (input x e ∷ cs) =
        let r = by_path (member n x) in
        λ i. (same_in (kind_at (s.means r)) (kind_at (t.means r)) e i + 1) + same_inputs n cs i
    same_inputs n (output y p ∷ cs) = same_inputs n cs

    same_outputs : (n : Named) (cs : List ConnectionData) → sum_of (typed_outputs s n cs) ≡ sum_of (typed_outputs t n cs)
    same_outputs n [] = refl
    same_outputs n (input x e ∷ cs) = same_outputs n cs
    same_outputs n (output y p ∷ cs) = λ i. (same_name (s.means (by_path (member n y))) (t.means (by_path (member n y))) i + 1) + same_outputs n cs i

    module _ (instances : (text : List ℕ) → option_map (λ (i : Instance). i.block) (s.instance text) ≡ option_map (λ (i : Instance). i.block) (t.instance text)) where
      same_run : (text : List ℕ) → sum_of (typed_run (s.instance text)) ≡ sum_of (typed_run (t.instance text))
      same_run text = sum-run (s.instance text) ∙ ap run_by (instances text) ∙ sym (sum-run (t.instance text))

      same_invoke : (n : Named) (cs : List ConnectionData) → sum_of (typed_invoke s n cs) ≡ sum_of (typed_invoke t n cs)
      same_invoke n cs =
          let parts = λ (x : Scope). sum-append (typed_inputs x n cs ++ typed_run (x.instance n.text)) (typed_outputs x n cs) ∙ ap (λ (k : ℕ). k + sum_of (typed_outputs x n cs)) (sum-append (typed_inputs x n cs) (typed_run (x.instance n.text))) in
          parts s ∙ (λ i. same_inputs n cs i + same_run n.text i + same_outputs n cs i) ∙ sym (parts t)

      mutual
        same_stmts : (ss : Stmts) → count_of_all c (typed_stmts s ss) ≡ count_of_all c (typed_stmts t ss)
        same_stmts no_stmts = refl
        same_stmts (stmt empty ss) = same_stmts ss
        same_stmts (stmt (assign p e) ss) =
            let r = by_path p in
            λ i. (same_in (kind_at (s.means r)) (kind_at (t.means r)) e i + 1) + same_stmts ss i
        same_stmts (stmt (invoke n at cs) ss) =
            sum-and_then (typed_invoke s n cs) (typed_stmts s ss) (calm-invoke s n cs) ∙ (λ i. same_invoke n cs i + same_stmts ss i) ∙ sym (sum-and_then (typed_invoke t n cs) (typed_stmts t ss) (calm-invoke t n cs))
        same_stmts (stmt (branch arms other) ss) =
            λ i. (same_arms arms i + same_else other i) + count_unless ((exits_arms s t arms i || exits_else s t other i) || (returns_arms s t arms i || returns_else s t other i)) (same_stmts ss i)
        same_stmts (stmt (cases e es other) ss) =
            let j = type_of s None e in
            let k = type_of t None e in
            λ i. (same_in None None e i + 1 + same_entries j k es i + same_else other i)
            + count_unless ((exits_entries s t j k es i || exits_else s t other i) || (returns_entries s t j k es i || returns_else s t other i)) (same_stmts ss i)
        same_stmts (stmt (iterate it body) ss) =
            let exits = exits_stmts s t body in
            let returns = returns_stmts s t body in
            λ i. (count_of_flag (exits i) + (turn_count_alike s t alike it i * count_unless (exits i || returns i) (1 + same_stmts body i) + count_unless (exits i || returns i) 1))
            + count_unless (false || returns i) (same_stmts ss i)
        same_stmts (stmt (exit at) ss) = λ i. 1 + count_unless true (same_stmts ss i)
        same_stmts (stmt return ss) = λ i. 1 + count_unless true (same_stmts ss i)

        same_arms : (arms : Arms) → count_of_choices c (typed_arms s arms) ≡ count_of_choices c (typed_arms t arms)
        same_arms no_arms = refl
        same_arms (arm e ss arms) = λ i. same_in None None e i + (1 + same_stmts ss i) + same_arms arms i

        same_entries : (j k : DataType) (es : Entries) → count_of_entries c (typed_entries s j es) ≡ count_of_entries c (typed_entries t k es)
        same_entries j k no_entries = refl
        same_entries j k (entry ls ss es) = λ i. 1 + same_stmts ss i + same_entries j k es i

        same_else : (other : Otherwise) → count_of_all c (typed_else s other) ≡ count_of_all c (typed_else t other)
        same_else no_else = refl
        same_else (else_stmts ss) = same_stmts ss

      same_list : (ss : Stmts) → count_of_all c (typed_list s ss) ≡ count_of_all c (typed_list t ss)
      same_list ss = same_own (typed_stmts s ss) (typed_stmts t ss) (returns_stmts s t ss) (same_stmts ss)

      same_actions : (ps : List PartData) (actions : List ChartActionData) → count_of_actions c (actions_from (map (typed_action s ps) actions)) ≡ count_of_actions c (actions_from (map (typed_action t ps) actions))
      same_actions ps [] = refl
      same_actions ps (a ∷ rest) = λ i. count_of_associated (associations_of ps a.name.text) (same_list a.body i) + same_actions ps rest i

      same_steps : (ps : List PartData) → length (map (step_cells s) (steps_of ps)) ≡ length (map (step_cells t) (steps_of ps))
      same_steps ps = length-map (steps_of ps) (step_cells s) ∙ sym (length-map (steps_of ps) (step_cells t))

      same_chart : (ps : List PartData) → count_of c (typed_chart s ps) ≡ count_of c (typed_chart t ps)
      same_chart ps = λ i. same_latches ps (actions_of ps) i + (same_actions ps (actions_of ps) i + (4 * same_steps ps i + same_transitions ps (in_firing_order (transitions_of ps)) i))

      pub same_body : (b : BodyData) → count_of_all c (typed_body s b) ≡ count_of_all c (typed_body t b)
      same_body (statements ss) = same_list ss
      same_body (chart_body ps) = sum-alone (typed_chart s ps) ∙ (λ i. same_chart ps i + 0) ∙ sym (sum-alone (typed_chart t ps))
