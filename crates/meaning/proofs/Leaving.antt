-- Lists of statements do what their parts do.
use Rattle.std.proofs.Common.{◌≡◌, ℕ, zero, suc, Bool, true, false, List, refl, ap, ◌∙◌, ℤ, ◌+ℤ◌}
use Rattle.std.specs.Prelude.{◌||◌, if◌then◌else◌}
use Rattle.program_tree.specs.plc_types.declared.range.Range.{Range}
use Rattle.program_tree.specs.Tree.{Statement, assign, call_block, choice, cases, repeat, chart, exit, return, own_body, Statements, no_statements, statement, Choices, no_choices, choose, Entries, no_entries, entry}
use Rattle.program_tree.specs.Leaving.{can_exit, can_exit_all, can_exit_choices, can_exit_entries, can_return, can_return_all, can_return_choices, can_return_entries, LeavesNothing}
use Rattle.meaning.specs.Values.{State, Callees, value_of, faults, is_truth}
use Rattle.meaning.specs.Effects.{Effect, on, exited, returned, state_of, followed_by, behind_turn, behind_body, is_labelled, with_fault, stored, effect_of, effect_of_all, effect_of_choices, effect_of_entries, effect_of_turns}
use Rattle.meaning.specs.Laws.{and_then, ListsDoWhatTheirPartsDo, WithoutLeavingAllGoOn, WithoutLeavingEachRuns}
use Rattle.meaning.proofs.Cases.{by_test}

followed-twice : (e : Effect) (f g : State → Effect) → followed_by e (λ s. followed_by (f s) g) ≡ followed_by (followed_by e f) g
followed-twice (on s) f g = refl
followed-twice (exited s) f g = refl
followed-twice (returned s) f g = refl

followed-same : (e : Effect) (f g : State → Effect) → ((s : State) → f s ≡ g s) → followed_by e f ≡ followed_by e g
followed-same (on s) f g h = h s
followed-same (exited s) f g h = refl
followed-same (returned s) f g h = refl

pub parts : ListsDoWhatTheirPartsDo
parts callees rs base no_statements back s = refl
parts callees rs base (statement t ts) back s =
    followed-same (effect_of callees rs base t s) _ (λ x. followed_by (effect_of_all callees rs base ts x) (effect_of_all callees rs base back)) (λ x. parts callees rs base ts back x)
    ∙ followed-twice (effect_of callees rs base t s) (effect_of_all callees rs base ts) (effect_of_all callees rs base back)

-- ---- what leaves no list

-- which outcomes an effect has not
abbrev NoExit : Effect → Type 0
NoExit (on s) = Unit {0}
NoExit (exited s) = ⊥
NoExit (returned s) = Unit {0}

abbrev NoReturn : Effect → Type 0
NoReturn (on s) = Unit {0}
NoReturn (exited s) = Unit {0}
NoReturn (returned s) = ⊥

neither : (a b : Bool) → (a || b) ≡ false → (a ≡ false) × (b ≡ false)
neither false b h = (refl, h)
neither true b h = (h, (let wrong : true ≡ false = h in cc))

no_exit_then : (e : Effect) (f : State → Effect) → NoExit e → ((s : State) → NoExit (f s)) → NoExit (followed_by e f)
no_exit_then (on s) f h k = k s
no_exit_then (exited s) f h k = h
no_exit_then (returned s) f h k = tt

no_return_then : (e : Effect) (f : State → Effect) → NoReturn e → ((s : State) → NoReturn (f s)) → NoReturn (followed_by e f)
no_return_then (on s) f h k = k s
no_return_then (exited s) f h k = tt
no_return_then (returned s) f h k = h

no_exit_behind : (e : Effect) (f : State → Effect) → ((s : State) → NoExit (f s)) → NoExit (behind_turn e f)
no_exit_behind (on s) f k = k s
no_exit_behind (exited s) f k = tt
no_exit_behind (returned s) f k = tt

no_return_behind : (e : Effect) (f : State → Effect) → NoReturn e → ((s : State) → NoReturn (f s)) → NoReturn (behind_turn e f)
no_return_behind (on s) f h k = k s
no_return_behind (exited s) f h k = tt
no_return_behind (returned s) f h k = h

no_exit_of_turns : (rs : List Range) (n control : ℕ) (v step : ℤ) (body : State → Effect) (s : State) → NoExit (effect_of_turns rs n control v step body s)
no_exit_of_turns rs zero control v step body s = tt
no_exit_of_turns rs (suc n) control v step body s = no_exit_behind (body (stored rs control v s)) _ (λ x. no_exit_of_turns rs n control (v +ℤ step) step body x)

no_return_of_turns : (rs : List Range) (n control : ℕ) (v step : ℤ) (body : State → Effect) → ((s : State) → NoReturn (body s)) → (s : State) → NoReturn (effect_of_turns rs n control v step body s)
no_return_of_turns rs zero control v step body h s = tt
no_return_of_turns rs (suc n) control v step body h s =
    no_return_behind (body (stored rs control v s)) _ (h (stored rs control v s)) (λ x. no_return_of_turns rs n control (v +ℤ step) step body h x)

no_exit_of_body : (e : Effect) → NoExit e → NoExit (behind_body e)
no_exit_of_body (on s) h = tt
no_exit_of_body (exited s) h = h
no_exit_of_body (returned s) h = tt

no_return_of_body : (e : Effect) → NoReturn (behind_body e)
no_return_of_body (on s) = tt
no_return_of_body (exited s) = tt
no_return_of_body (returned s) = tt

either_one : (P : Effect → Type 0) (b : Bool) (x y : Effect) → P x → P y → P (if b then x else y)
either_one P true x y h k = h
either_one P false x y h k = k

module _ (callees : Callees) (rs : List Range) (base : ℕ) where
  mutual
    no_exit : (t : Statement) → can_exit t ≡ false → (s : State) → NoExit (effect_of callees rs base t s)
    no_exit (assign target e) h s = tt
    no_exit (call_block b offset) h s = tt
    no_exit (choice arms other) h s =
        let two = neither (can_exit_choices arms) (can_exit_all other) h in
        no_exit_of_choices arms two.0 (effect_of_all callees rs base other) (λ x. no_exit_of_all other two.1 x) s
    no_exit (cases kind e es other) h s =
        let two = neither (can_exit_entries es) (can_exit_all other) h in
        no_exit_of_entries (value_of callees base e s) es two.0 (effect_of_all callees rs base other) (λ x. no_exit_of_all other two.1 x) (with_fault (faults callees base e s) s)
    no_exit (repeat turns body) h s = no_exit_of_turns rs _ _ _ _ (effect_of_all callees rs base body) s
    no_exit (chart steps actions ts) h s = tt
    no_exit exit h s = let wrong : true ≡ false = h in cc
    no_exit return h s = tt
    no_exit (own_body ss) h s = no_exit_of_body (effect_of_all callees rs base ss s) (no_exit_of_all ss h s)

    no_exit_of_all : (ss : Statements) → can_exit_all ss ≡ false → (s : State) → NoExit (effect_of_all callees rs base ss s)
    no_exit_of_all no_statements h s = tt
    no_exit_of_all (statement t ts) h s =
        let two = neither (can_exit t) (can_exit_all ts) h in
        no_exit_then (effect_of callees rs base t s) (effect_of_all callees rs base ts) (no_exit t two.0 s) (λ x. no_exit_of_all ts two.1 x)

    no_exit_of_choices : (arms : Choices) → can_exit_choices arms ≡ false → (other : State → Effect) → ((s : State) → NoExit (other s)) → (s : State) → NoExit (effect_of_choices callees rs base arms other s)
    no_exit_of_choices no_choices h other k s = k s
    no_exit_of_choices (choose e ss arms) h other k s =
        let two = neither (can_exit_all ss) (can_exit_choices arms) h in
        either_one NoExit (is_truth (value_of callees base e s)) _ _ (no_exit_of_all ss two.0 (with_fault (faults callees base e s) s)) (no_exit_of_choices arms two.1 other k (with_fault (faults callees base e s) s))

    no_exit_of_entries : (v : ℤ) (es : Entries) → can_exit_entries es ≡ false → (other : State → Effect) → ((s : State) → NoExit (other s)) → (s : State) → NoExit (effect_of_entries callees rs base v es other s)
    no_exit_of_entries v no_entries h other k s = k s
    no_exit_of_entries v (entry labels ss es) h other k s =
        let two = neither (can_exit_all ss) (can_exit_entries es) h in
        either_one NoExit (is_labelled v labels) _ _ (no_exit_of_all ss two.0 s) (no_exit_of_entries v es two.1 other k s)

  mutual
    no_return : (t : Statement) → can_return t ≡ false → (s : State) → NoReturn (effect_of callees rs base t s)
    no_return (assign target e) h s = tt
    no_return (call_block b offset) h s = tt
    no_return (choice arms other) h s =
        let two = neither (can_return_choices arms) (can_return_all other) h in
        no_return_of_choices arms two.0 (effect_of_all callees rs base other) (λ x. no_return_of_all other two.1 x) s
    no_return (cases kind e es other) h s =
        let two = neither (can_return_entries es) (can_return_all other) h in
        no_return_of_entries (value_of callees base e s) es two.0 (effect_of_all callees rs base other) (λ x. no_return_of_all other two.1 x) (with_fault (faults callees base e s) s)
    no_return (repeat turns body) h s = no_return_of_turns rs _ _ _ _ (effect_of_all callees rs base body) (λ x. no_return_of_all body h x) s
    no_return (chart steps actions ts) h s = tt
    no_return exit h s = tt
    no_return return h s = let wrong : true ≡ false = h in cc
    no_return (own_body ss) h s = no_return_of_body (effect_of_all callees rs base ss s)

    no_return_of_all : (ss : Statements) → can_return_all ss ≡ false → (s : State) → NoReturn (effect_of_all callees rs base ss s)
    no_return_of_all no_statements h s = tt
    no_return_of_all (statement t ts) h s =
        let two = neither (can_return t) (can_return_all ts) h in
        no_return_then (effect_of callees rs base t s) (effect_of_all callees rs base ts) (no_return t two.0 s) (λ x. no_return_of_all ts two.1 x)

    no_return_of_choices : (arms : Choices) → can_return_choices arms ≡ false → (other : State → Effect) → ((s : State) → NoReturn (other s)) → (s : State) → NoReturn (effect_of_choices callees rs base arms other s)
    no_return_of_choices no_choices h other k s = k s
    no_return_of_choices (choose e ss arms) h other k s =
        let two = neither (can_return_all ss) (can_return_choices arms) h in
        either_one NoReturn (is_truth (value_of callees base e s)) _ _ (no_return_of_all ss two.0 (with_fault (faults callees base e s) s)) (no_return_of_choices arms two.1 other k (with_fault (faults callees base e s) s))

    no_return_of_entries : (v : ℤ) (es : Entries) → can_return_entries es ≡ false → (other : State → Effect) → ((s : State) → NoReturn (other s)) → (s : State) → NoReturn (effect_of_entries callees rs base v es other s)
    no_return_of_entries v no_entries h other k s = k s
    no_return_of_entries v (entry labels ss es) h other k s =
        let two = neither (can_return_all ss) (can_return_entries es) h in
        either_one NoReturn (is_labelled v labels) _ _ (no_return_of_all ss two.0 s) (no_return_of_entries v es two.1 other k s)

is_on_alone : (e : Effect) → NoExit e → NoReturn e → e ≡ on (state_of e)
is_on_alone (on s) h k = refl
is_on_alone (exited s) h k = absurd h
is_on_alone (returned s) h k = absurd k

-- a statement that leaves nothing goes on
pub goes_on_of : (callees : Callees) (rs : List Range) (base : ℕ) (t : Statement) → can_exit t ≡ false → can_return t ≡ false → (s : State) → effect_of callees rs base t s ≡ on (state_of (effect_of callees rs base t s))
goes_on_of callees rs base t h k s = is_on_alone (effect_of callees rs base t s) (no_exit callees rs base t h s) (no_return callees rs base t k s)

pub goes_on : WithoutLeavingAllGoOn
goes_on callees rs base ss s h = is_on_alone (effect_of_all callees rs base ss s) (no_exit_of_all callees rs base ss h.0 s) (no_return_of_all callees rs base ss h.1 s)

pub each : WithoutLeavingEachRuns
each callees rs base t ts s h =
    let one = neither (can_exit t) (can_exit_all ts) h.0 in
    let two = neither (can_return t) (can_return_all ts) h.1 in
    ap (λ (e : Effect). state_of (followed_by e (effect_of_all callees rs base ts))) (goes_on_of callees rs base t one.0 two.0 s)
