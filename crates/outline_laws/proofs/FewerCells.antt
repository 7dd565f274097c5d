-- Where no frame has cells, and runs and bodies count less, less is counted, up to the limit. A call of a FUNCTION whose frame is longer than the
-- limit is too long in any case.
use Rattle.std.proofs.Common.{◌≡◌, ◌≤◌, ◌⊎◌, ℕ, zero, suc, ◌+◌, ◌-◌, ◌*◌, Bool, true, false, List, [], ◌∷◌, length, arith, inl, inr}
use Rattle.std.specs.Prelude.{◌||◌}
use Rattle.std.proofs.lemmas.Bool.Decides.{nat_tests}
use Rattle.program_tree.specs.declared.typed.Association.{Association}
use Rattle.program_tree.specs.Tree.{Expression, number, cell, unary, chain, call_standard, call_function, Operands, no_operands, operand, Expressions, no_expressions, expression, Statement, assign, call_block, choice, cases, repeat, chart, exit, return, own_body, Statements, no_statements, statement, Choices, no_choices, choose, Entries, no_entries, entry, TransitionData, Actions, no_actions, action}
use Rattle.program_tree.specs.Leaving.{can_exit, can_exit_all, can_return, can_return_all}
use Rattle.program_tree.specs.OperandTypes.{arity}
use Rattle.meaning.specs.Frames.{FrameData}
use Rattle.flat_form.specs.Frames.{others_behind}
use Rattle.flat_count.specs.Counts.{Counting, count_of_start, count_in, count_in_operands, count_in_all, count_in_inputs, count_of_latches, count_of_transition, count_of_transitions, count_of_associated, count_of_flag, count_unless, count_of, count_of_all, count_of_choices, count_of_entries, count_of_actions, capped}

-- ---- numbers up to the limit

none : capped 0 ≤ 0
none = grind (arith, nat_tests)

same : (n : ℕ) → capped n ≤ n
same n = grind (arith, nat_tests)

sum : (m n x y : ℕ) → capped m ≤ x → capped n ≤ y → capped (m + n) ≤ x + y
sum m n x y h k = grind (arith, nat_tests)

past : (m x : ℕ) → 200001 ≤ x → capped m ≤ x
past m x h = grind (arith, nat_tests)

pub further : (m x y : ℕ) → capped m ≤ x → x ≤ y → capped m ≤ y
further m x y h k = grind (arith, nat_tests)

unless-less : (asks : Bool) (m x : ℕ) → capped m ≤ x → capped (count_unless asks m) ≤ count_unless asks x
unless-less true zero zero h = none
unless-less true zero (suc x) h = further 0 0 (1 + suc x) none (omega arith)
unless-less true (suc m) zero h = absurd (grind (arith, nat_tests, h))
unless-less true (suc m) (suc x) h = sum 1 (suc m) 1 (suc x) (same 1) h
unless-less false m x h = h

turns-less : (n m x end : ℕ) → capped m ≤ x → capped (n * m + end) ≤ n * x + end
turns-less zero m x end h =
    let left : 0 * m + end ≡ end = omega arith in
    let right : 0 * x + end ≡ end = omega arith in
    rw (left, right) (same end)
turns-less (suc n) m x end h =
    let both = sum m (n * m + end) x (n * x + end) h (turns-less n m x end h) in
    let left : suc n * m + end ≡ m + (n * m + end) = omega arith in
    let right : suc n * x + end ≡ x + (n * x + end) = omega arith in
    rw (left, right) both

-- ---- calls

-- each input counts
least : (c : Counting) (frame : FrameData) (place : ℕ) (es : Expressions) → arity es ≤ count_in_inputs c frame place es
least c frame place no_expressions = omega arith
least c frame place (expression e es) = omega (arith, least c frame (place + 1) es)

long_call : (n inputs given body : ℕ) → 200003 ≤ n → inputs ≤ given → 200001 ≤ given + ((n - (2 + inputs)) + (1 + body))
long_call n inputs given body long low = omega (arith, long, low)

module _ (a b : Counting) (no_others : (f inputs : ℕ) → others_behind (a.frame f) inputs ≡ 0) (no_starts : (f place : ℕ) → count_of_start (a.frame f) place ≡ 0)
    (runs : (n : ℕ) → capped (a.runs n) ≤ b.runs n) (calls : (f : ℕ) → (capped (a.bodies f) ≤ b.bodies f) ⊎ (200003 ≤ length (b.frame f).types)) where
  less_start : (f place : ℕ) → capped (count_of_start (a.frame f) place + 1) ≤ count_of_start (b.frame f) place + 1
  less_start f place = sum _ 1 _ 1 (rw (no_starts f place) (past_none (count_of_start (b.frame f) place))) (same 1)
    where
      past_none : (x : ℕ) → capped 0 ≤ x
      past_none x = grind (arith, nat_tests)

  less_others : (f inputs : ℕ) → capped (others_behind (a.frame f) inputs) ≤ others_behind (b.frame f) inputs
  less_others f inputs = rw (no_others f inputs) (further 0 0 (others_behind (b.frame f) inputs) none (omega arith))

  less_answer : (f : ℕ) (es : Expressions) → (capped (a.bodies f) ≤ b.bodies f) ⊎ (200003 ≤ length (b.frame f).types) → capped (count_in_inputs a (a.frame f) 2 es) ≤ count_in_inputs b (b.frame f) 2 es
      → capped (count_in_inputs a (a.frame f) 2 es + (others_behind (a.frame f) (arity es) + (1 + a.bodies f))) ≤ count_in_inputs b (b.frame f) 2 es + (others_behind (b.frame f) (arity es) + (1 + b.bodies f))
  less_answer f es (inl body) inputs = sum _ _ _ _ inputs (sum _ _ _ _ (less_others f (arity es)) (sum 1 _ 1 _ (same 1) body))
  less_answer f es (inr long) inputs = past _ _ (long_call (length (b.frame f).types) (arity es) (count_in_inputs b (b.frame f) 2 es) (b.bodies f) long (least b (b.frame f) 2 es))

  mutual
    less_in : (e : Expression) → capped (count_in a e) ≤ count_in b e
    less_in (number v) = none
    less_in (cell place) = none
    less_in (unary o t e) = less_in e
    less_in (chain e os) = sum _ _ _ _ (less_in e) (less_operands os)
    less_in (call_standard f t es) = less_values es
    less_in (call_function f es) = less_answer f es (calls f) (less_inputs f 2 es)

    less_operands : (os : Operands) → capped (count_in_operands a os) ≤ count_in_operands b os
    less_operands no_operands = none
    less_operands (operand o t e os) = sum _ _ _ _ (less_in e) (less_operands os)

    less_values : (es : Expressions) → capped (count_in_all a es) ≤ count_in_all b es
    less_values no_expressions = none
    less_values (expression e es) = sum _ _ _ _ (less_in e) (less_values es)

    less_inputs : (f place : ℕ) (es : Expressions) → capped (count_in_inputs a (a.frame f) place es) ≤ count_in_inputs b (b.frame f) place es
    less_inputs f place no_expressions = none
    less_inputs f place (expression e es) = sum _ _ _ _ (sum _ _ _ _ (less_in e) (less_start f place)) (less_inputs f (place + 1) es)

  less_transition : (t : TransitionData) → capped (count_of_transition a t) ≤ count_of_transition b t
  less_transition t = sum _ _ _ _ (sum 2 _ 2 _ (same 2) (less_in t.condition)) (same (length t.from + length t.to))

  less_transitions : (ts : List TransitionData) → capped (count_of_transitions a ts) ≤ count_of_transitions b ts
  less_transitions [] = none
  less_transitions (t ∷ ts) = sum _ _ _ _ (less_transition t) (less_transitions ts)

  less_associated : (associations : List Association) (m x : ℕ) → capped m ≤ x → capped (count_of_associated associations m) ≤ count_of_associated associations x
  less_associated [] m x h = none
  less_associated (one ∷ more) m x h = sum 1 m 1 x (same 1) h

  mutual
    less_statement : (t : Statement) → capped (count_of a t) ≤ count_of b t
    less_statement (assign target e) = sum _ 1 _ 1 (less_in e) (same 1)
    less_statement (call_block k offset) = runs k
    less_statement (choice arms other) = sum _ _ _ _ (less_choices arms) (less_of other)
    less_statement (cases kind e es other) = sum _ _ _ _ (sum _ _ _ _ (sum _ 1 _ 1 (less_in e) (same 1)) (less_entries es)) (less_of other)
    less_statement (repeat turns body) =
        let asks = can_exit_all body || can_return_all body in
        let turn = unless-less asks (1 + count_of_all a body) (1 + count_of_all b body) (sum 1 _ 1 _ (same 1) (less_of body)) in
        sum _ _ _ _ (same (count_of_flag (can_exit_all body))) (turns-less turns.count _ _ (count_unless asks 1) turn)
    less_statement (chart steps actions ts) =
        sum _ _ _ _ (same (count_of_latches actions)) (sum _ _ _ _ (less_actions actions) (sum _ _ _ _ (same (4 * length steps)) (less_transitions ts)))
    less_statement exit = same 1
    less_statement return = same 1
    less_statement (own_body ss) = sum _ _ _ _ (same (count_of_flag (can_return_all ss))) (less_of ss)

    pub less_of : (ts : Statements) → capped (count_of_all a ts) ≤ count_of_all b ts
    less_of no_statements = none
    less_of (statement t ts) = sum _ _ _ _ (less_statement t) (unless-less (can_exit t || can_return t) _ _ (less_of ts))

    less_choices : (arms : Choices) → capped (count_of_choices a arms) ≤ count_of_choices b arms
    less_choices no_choices = none
    less_choices (choose e ss arms) = sum _ _ _ _ (sum _ _ _ _ (less_in e) (sum 1 _ 1 _ (same 1) (less_of ss))) (less_choices arms)

    less_entries : (es : Entries) → capped (count_of_entries a es) ≤ count_of_entries b es
    less_entries no_entries = none
    less_entries (entry labels ss es) = sum _ _ _ _ (sum 1 _ 1 _ (same 1) (less_of ss)) (less_entries es)

    less_actions : (actions : Actions) → capped (count_of_actions a actions) ≤ count_of_actions b actions
    less_actions no_actions = none
    less_actions (action latch associations ss rest) = sum _ _ _ _ (less_associated associations _ _ (less_of ss)) (less_actions rest)
