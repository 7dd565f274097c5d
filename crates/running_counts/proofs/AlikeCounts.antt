-- Two countings that say the same of each POU that statements use count the same of them.
use Rattle.std.proofs.Common.{◌≡◌, ℕ, zero, suc, ◌+◌, ◌*◌, Bool, true, false, if◌then◌else◌, Option, Some, None, List, [], ◌∷◌, ◌++◌, length, refl, ap, ◌∙◌, arith}
use Rattle.std.specs.Prelude.{◌==◌, ◌||◌}
use Rattle.std.proofs.lemmas.Bool.Decides.{nat_tests}
use Rattle.call_order.specs.Uses.{is_among}
use Rattle.call_order.proofs.Members.{is_among-left, is_among-right, is_among-head, is_among-tail}
use Rattle.program_tree.specs.declared.typed.Association.{Association}
use Rattle.program_tree.specs.Tree.{Expression, number, cell, unary, chain, call_standard, call_function, Operands, no_operands, operand, Expressions, no_expressions, expression, Statement, assign, call_block, choice, cases, repeat, chart, exit, return, own_body, Statements, no_statements, statement, Choices, no_choices, choose, Entries, no_entries, entry, TransitionData, Actions, no_actions, action}
use Rattle.program_tree.specs.Leaving.{can_exit, can_exit_all, can_return, can_return_all}
use Rattle.program_tree.specs.OperandTypes.{arity}
use Rattle.meaning.specs.Frames.{FrameData}
use Rattle.flat_form.specs.Frames.{others_behind}
use Rattle.flat_count.specs.Counts.{Counting, count_of_start, count_in, count_in_operands, count_in_all, count_in_inputs, count_of_latches, count_of_transitions, count_of_associated, count_of_flag, count_unless, count_of, count_of_all, count_of_choices, count_of_entries, count_of_actions}
use Rattle.running_pous.specs.Uses.{uses_in, uses_in_operands, uses_in_all, uses_of_transitions, uses_of, uses_of_all, uses_of_choices, uses_of_entries, uses_of_action, uses_of_actions}

-- a FOR, whose statements count only where it has turns
turns_alike : (n : ℕ) (asks : Bool) (end x y : ℕ) → ((n == 0) ≡ false → x ≡ y) → n * count_unless asks (1 + x) + end ≡ n * count_unless asks (1 + y) + end
turns_alike zero asks end x y some =
    let left : 0 * count_unless asks (1 + x) + end ≡ end = omega arith in
    let right : 0 * count_unless asks (1 + y) + end ≡ end = omega arith in
    rw (left, right) refl
turns_alike (suc n) asks end x y some =
    let turns : (suc n == 0) ≡ false = grind (arith, nat_tests) in
    ap (λ (m : ℕ). suc n * count_unless asks (1 + m) + end) (some turns)

-- two countings say the same of a POU
pub record IsAlike (a b : Counting) (n : ℕ) : Type 0 where
  pub frame : a.frame n ≡ b.frame n
  pub runs : a.runs n ≡ b.runs n
  pub bodies : a.bodies n ≡ b.bodies n

module _ (a b : Counting) where
  abbrev pub AreAlike : List ℕ → Type 0
  AreAlike ns = (n : ℕ) → is_among n ns ≡ true → IsAlike a b n

  left : (ms ns : List ℕ) → AreAlike (ms ++ ns) → AreAlike ms
  left ms ns all n there = all n (is_among-left n ms ns there)

  right : (ms ns : List ℕ) → AreAlike (ms ++ ns) → AreAlike ns
  right ms ns all n there = all n (is_among-right n ms ns there)

  rest : (k : ℕ) (ns : List ℕ) → AreAlike (k ∷ ns) → AreAlike ns
  rest k ns all n there = all n (is_among-tail n k ns there)

  first : (k : ℕ) (ns : List ℕ) → AreAlike (k ∷ ns) → IsAlike a b k
  first k ns all = all k (is_among-head k ns)

  chosen : (test : Bool) (ns : List ℕ) → test ≡ false → AreAlike (if test then [] else ns) → AreAlike ns
  chosen true ns is all = absurd (let none : ⊥ = cc in none)
  chosen false ns is all = all

  -- the statements of an action count only where a step names it
  action_alike : (latch : Option ℕ) (associations : List Association) (ns : List ℕ) (x y : ℕ) → (AreAlike ns → x ≡ y) → AreAlike (uses_of_action latch associations ns) → count_of_associated associations x ≡ count_of_associated associations y
  action_alike latch [] ns x y same all = refl
  action_alike None (c ∷ more) ns x y same all = ap (λ (n : ℕ). 1 + n) (same all)
  action_alike (Some place) (c ∷ more) ns x y same all = ap (λ (n : ℕ). 1 + n) (same all)

  mutual
    alike_in : (e : Expression) → AreAlike (uses_in e) → count_in a e ≡ count_in b e
    alike_in (number v) all = refl
    alike_in (cell place) all = refl
    alike_in (unary o t e) all = alike_in e all
    alike_in (chain e os) all =
        let one = alike_in e (left (uses_in e) (uses_in_operands os) all) in
        let more = alike_operands os (right (uses_in e) (uses_in_operands os) all) in
        λ i. one i + more i
    alike_in (call_standard f t es) all = alike_values es all
    alike_in (call_function f es) all =
        let here = first f (uses_in_all es) all in
        let inputs = alike_inputs (a.frame f) 2 es (rest f (uses_in_all es) all) in
        let body = here.bodies in
        let counts : count_in_inputs a (a.frame f) 2 es + (others_behind (a.frame f) (arity es) + (1 + a.bodies f)) ≡ count_in_inputs b (a.frame f) 2 es + (others_behind (a.frame f) (arity es) + (1 + b.bodies f))
        = λ i. inputs i + (others_behind (a.frame f) (arity es) + (1 + body i)) in
        counts ∙ ap (λ (frame : FrameData). count_in_inputs b frame 2 es + (others_behind frame (arity es) + (1 + b.bodies f))) here.frame

    alike_operands : (os : Operands) → AreAlike (uses_in_operands os) → count_in_operands a os ≡ count_in_operands b os
    alike_operands no_operands all = refl
    alike_operands (operand o t e os) all =
        let one = alike_in e (left (uses_in e) (uses_in_operands os) all) in
        let more = alike_operands os (right (uses_in e) (uses_in_operands os) all) in
        λ i. one i + more i

    alike_values : (es : Expressions) → AreAlike (uses_in_all es) → count_in_all a es ≡ count_in_all b es
    alike_values no_expressions all = refl
    alike_values (expression e es) all =
        let one = alike_in e (left (uses_in e) (uses_in_all es) all) in
        let more = alike_values es (right (uses_in e) (uses_in_all es) all) in
        λ i. one i + more i

    alike_inputs : (frame : FrameData) (place : ℕ) (es : Expressions) → AreAlike (uses_in_all es) → count_in_inputs a frame place es ≡ count_in_inputs b frame place es
    alike_inputs frame place no_expressions all = refl
    alike_inputs frame place (expression e es) all =
        let one = alike_in e (left (uses_in e) (uses_in_all es) all) in
        let more = alike_inputs frame (place + 1) es (right (uses_in e) (uses_in_all es) all) in
        λ i. one i + (count_of_start frame place + 1) + more i

  alike_transitions : (ts : List TransitionData) → AreAlike (uses_of_transitions ts) → count_of_transitions a ts ≡ count_of_transitions b ts
  alike_transitions [] all = refl
  alike_transitions (t ∷ ts) all =
      let condition = alike_in t.condition (left (uses_in t.condition) (uses_of_transitions ts) all) in
      let more = alike_transitions ts (right (uses_in t.condition) (uses_of_transitions ts) all) in
      λ i. 2 + condition i + (length t.from + length t.to) + more i

  mutual
    alike_of : (t : Statement) → AreAlike (uses_of t) → count_of a t ≡ count_of b t
    alike_of (assign target e) all = ap (λ (n : ℕ). n + 1) (alike_in e all)
    alike_of (call_block k offset) all = (first k [] all).runs
    alike_of (choice arms other) all =
        let one = alike_choices arms (left (uses_of_choices arms) (uses_of_all other) all) in
        let more = alike_all other (right (uses_of_choices arms) (uses_of_all other) all) in
        λ i. one i + more i
    alike_of (cases kind e es other) all =
        let behind = right (uses_in e) (uses_of_entries es ++ uses_of_all other) all in
        let selector = alike_in e (left (uses_in e) (uses_of_entries es ++ uses_of_all other) all) in
        let entries = alike_entries es (left (uses_of_entries es) (uses_of_all other) behind) in
        let more = alike_all other (right (uses_of_entries es) (uses_of_all other) behind) in
        λ i. selector i + 1 + entries i + more i
    alike_of (repeat turns body) all =
        let asks = can_exit_all body || can_return_all body in
        ap (λ (n : ℕ). count_of_flag (can_exit_all body) + n)
        (turns_alike turns.count asks (count_unless asks 1) (count_of_all a body) (count_of_all b body) (λ some. alike_all body (chosen (turns.count == 0) (uses_of_all body) some all)))
    alike_of (chart steps actions ts) all =
        let acting = alike_actions actions (left (uses_of_actions actions) (uses_of_transitions ts) all) in
        let trying = alike_transitions ts (right (uses_of_actions actions) (uses_of_transitions ts) all) in
        λ i. count_of_latches actions + (acting i + (4 * length steps + trying i))
    alike_of exit all = refl
    alike_of return all = refl
    alike_of (own_body ss) all = ap (λ (n : ℕ). count_of_flag (can_return_all ss) + n) (alike_all ss all)

    pub alike_all : (ts : Statements) → AreAlike (uses_of_all ts) → count_of_all a ts ≡ count_of_all b ts
    alike_all no_statements all = refl
    alike_all (statement t ts) all =
        let one = alike_of t (left (uses_of t) (uses_of_all ts) all) in
        let more = alike_all ts (right (uses_of t) (uses_of_all ts) all) in
        λ i. one i + count_unless (can_exit t || can_return t) (more i)

    alike_choices : (arms : Choices) → AreAlike (uses_of_choices arms) → count_of_choices a arms ≡ count_of_choices b arms
    alike_choices no_choices all = refl
    alike_choices (choose e ss arms) all =
        let behind = right (uses_in e) (uses_of_all ss ++ uses_of_choices arms) all in
        let condition = alike_in e (left (uses_in e) (uses_of_all ss ++ uses_of_choices arms) all) in
        let one = alike_all ss (left (uses_of_all ss) (uses_of_choices arms) behind) in
        let more = alike_choices arms (right (uses_of_all ss) (uses_of_choices arms) behind) in
        λ i. condition i + (1 + one i) + more i

    alike_entries : (es : Entries) → AreAlike (uses_of_entries es) → count_of_entries a es ≡ count_of_entries b es
    alike_entries no_entries all = refl
    alike_entries (entry labels ss es) all =
        let one = alike_all ss (left (uses_of_all ss) (uses_of_entries es) all) in
        let more = alike_entries es (right (uses_of_all ss) (uses_of_entries es) all) in
        λ i. 1 + one i + more i

    alike_actions : (actions : Actions) → AreAlike (uses_of_actions actions) → count_of_actions a actions ≡ count_of_actions b actions
    alike_actions no_actions all = refl
    alike_actions (action latch associations ss others) all =
        let one = action_alike latch associations (uses_of_all ss) (count_of_all a ss) (count_of_all b ss) (λ used. alike_all ss used) (left (uses_of_action latch associations (uses_of_all ss)) (uses_of_actions others) all) in
        let more = alike_actions others (right (uses_of_action latch associations (uses_of_all ss)) (uses_of_actions others) all) in
        λ i. one i + more i
