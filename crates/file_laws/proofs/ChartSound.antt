-- What is read of charts prints the symbols that were taken.
use Rattle.std.proofs.Common.{◌≡◌, ℕ, zero, suc, Bool, true, false, cond, List, [], ◌∷◌, ◌++◌, Option, Some, None, refl, sym, ap, subst, ◌∙◌, append_assoc}
use Rattle.std.specs.Prelude.{codes, bytes_eq}
use Rattle.std.proofs.lemmas.Slice.Eq.{bytes_eq-Decides}
use Rattle.source_tree.specs.declared.token.Mark.TheVariants.{Close, Colon, Semicolon, Assign, From, To, EndTransition, EndAction}
use Rattle.source_tree.specs.declared.token.PartWord.{PartWord}
use Rattle.source_tree.specs.declared.token.PartWord.TheVariants as words
use Rattle.source_tree.specs.Syntax.{Symbol, name, number, opening, part, mark, Named, Tree, Stmts, ChartStepData, StepsData, PriorityData, ChartTransitionData, ChartActionData, PartData, step_part, transition_part, action_part}
use Rattle.source_tree.specs.Prints.{name_symbol, print, print_stmts, print_name, print_steps, print_priority, print_transition, print_chart_action, print_part, print_parts}
use Rattle.grammar.specs.Ends.{begins_part}
use Rattle.grammar.specs.Fits.{Fits, StmtsFit}
use Rattle.grammar.specs.Reading.{◌>>=◌, after, named, numbered, opened, part_word}
use Rattle.grammar.specs.Expressions.{expression}
use Rattle.grammar.specs.Statements.{statements}
use Rattle.grammar.specs.ChartSteps.{name_or_none, chart_step, steps}
use Rattle.grammar.specs.Charts.{priority_word, priority_or, priority, route, condition, transition, chart_action, part_of, chart_part, parts_step, parts, chart}
use Rattle.grammar_laws.proofs.Steps.{bind_some, guard_some, some_is, after_is, named_is, numbered_is, opened_is, part_word_is}
use Rattle.grammar_laws.proofs.Sound.{expression_is}
use Rattle.grammar_laws.proofs.StatementSound.{statements_are}
use Rattle.file_laws.proofs.ChartStepsSound.{step_word, name_or_none_is, chart_step_is, steps_are}

-- ---- charts whose conditions and statements nest within a depth

abbrev pub PartFits : PartData → ℕ → Type 0
PartFits (step_part s) d = Unit {0}
PartFits (transition_part t) d = Fits t.condition d
PartFits (action_part a) d = StmtsFit a.body d

abbrev pub PartsFit : List PartData → ℕ → Type 0
PartsFit [] d = Unit {0}
PartsFit (p ∷ ps) d = PartFits p d × PartsFit ps d

abbrev pub ChartFits : List PartData → ℕ → Type 0
ChartFits [] d = ⊥
ChartFits (p ∷ ps) d = PartFits p d × PartsFit ps d

-- ---- how symbols stand before others

-- the symbols of a condition before others
abbrev pub condition_before : Tree → List Symbol → List Symbol
condition_before e rest = mark Assign ∷ (print e ++ mark Semicolon ∷ mark EndTransition ∷ rest)

-- those of the steps before and behind a transition
abbrev pub route_before : StepsData → StepsData → List Symbol → List Symbol
route_before from to rest = mark From ∷ (print_steps from ++ mark To ∷ (print_steps to ++ rest))

pub transition_shape : (t : ChartTransitionData) (rest : List Symbol)
    → print_transition t ++ rest ≡ part words.Transition t.at ∷ (print_name t.name ++ (print_priority t.priority ++ route_before t.from t.to (condition_before t.condition rest)))
transition_shape t rest =
    let last : List Symbol = print t.condition ++ mark Semicolon ∷ mark EndTransition ∷ [] in
    let behind_to : List Symbol = print_steps t.to ++ mark Assign ∷ last in
    let behind_from : List Symbol = print_steps t.from ++ mark To ∷ behind_to in
    ap (λ (x : List Symbol). part words.Transition t.at ∷ x) (
    append_assoc (print_name t.name) (print_priority t.priority ++ mark From ∷ behind_from) rest
    ∙ ap (λ (x : List Symbol). print_name t.name ++ x) (
    append_assoc (print_priority t.priority) (mark From ∷ behind_from) rest
    ∙ ap (λ (x : List Symbol). print_priority t.priority ++ mark From ∷ x) (
    append_assoc (print_steps t.from) (mark To ∷ behind_to) rest
    ∙ ap (λ (x : List Symbol). print_steps t.from ++ mark To ∷ x) (
    append_assoc (print_steps t.to) (mark Assign ∷ last) rest
    ∙ ap (λ (x : List Symbol). print_steps t.to ++ mark Assign ∷ x) (append_assoc (print t.condition) (mark Semicolon ∷ mark EndTransition ∷ []) rest)))))

pub chart_action_shape : (a : ChartActionData) (rest : List Symbol) → print_chart_action a ++ rest ≡ part words.Action a.at ∷ name_symbol a.name ∷ mark Colon ∷ (print_stmts a.body ++ mark EndAction ∷ rest)
chart_action_shape a rest = ap (λ (x : List Symbol). part words.Action a.at ∷ name_symbol a.name ∷ mark Colon ∷ x) (append_assoc (print_stmts a.body) (mark EndAction ∷ []) rest)

-- ---- a priority

priority_word_is : (ts : List Symbol) (y : ℕ × List Symbol) → priority_word ts ≡ Some y → ts ≡ name (codes "PRIORITY") y.0 ∷ y.1
unfolding priority_word
priority_word_is ts y e =
    let a = bind_some (named ts) _ y e in
    let g = guard_some (bytes_eq a.0.0.text (codes "PRIORITY")) (a.0.0.at, a.0.1) y a.2 in
    let same : a.0.0.text ≡ codes "PRIORITY" = (bytes_eq-Decides a.0.0.text (codes "PRIORITY")).0 g.0 in
    named_is ts a.0.0 a.0.1 a.1 ∙ ap (λ (x : List ℕ). name x a.0.0.at ∷ a.0.1) same ∙ ap (λ (x : ℕ × List Symbol). name (codes "PRIORITY") x.0 ∷ x.1) g.1

abbrev PriorityIs : List Symbol → Option PriorityData × List Symbol → Type 0
PriorityIs ts y = ts ≡ print_priority y.0 ++ y.1

priority_go : (ts : List Symbol) (y : Option PriorityData × List Symbol) (o : Option (ℕ × List Symbol)) → opened ts ≡ o → priority_or ts o ≡ Some y → PriorityIs ts y
priority_go ts y None is e =
    let whole : PriorityIs ts (None, ts) = refl in
    subst (PriorityIs ts) (some_is (None, ts) y e) whole
priority_go ts y (Some o) is e =
    let w = bind_some (priority_word o.1) _ y e in
    let a = bind_some (after Assign w.0.1) _ y w.2 in
    let n = bind_some (numbered a.0) _ y a.2 in
    let c = bind_some (after Close n.0.1) _ y n.2 in
    let found : PriorityData = record { at = o.0; word_at = w.0.0; value = n.0.0.0; value_at = n.0.0.1 } in
    let value : a.0 ≡ number n.0.0.0 n.0.0.1 ∷ mark Close ∷ c.0 =
    numbered_is a.0 n.0.0.0 n.0.0.1 n.0.1 n.1 ∙ ap (λ (x : List Symbol). number n.0.0.0 n.0.0.1 ∷ x) (after_is Close n.0.1 c.0 c.1) in
    let inner : o.1 ≡ name (codes "PRIORITY") w.0.0 ∷ mark Assign ∷ number n.0.0.0 n.0.0.1 ∷ mark Close ∷ c.0 =
    priority_word_is o.1 w.0 w.1 ∙ ap (λ (x : List Symbol). name (codes "PRIORITY") w.0.0 ∷ x) (after_is Assign w.0.1 a.0 a.1 ∙ ap (λ (x : List Symbol). mark Assign ∷ x) value) in
    let whole : PriorityIs ts (Some found, c.0) = opened_is ts o.0 o.1 is ∙ ap (λ (x : List Symbol). opening o.0 ∷ x) inner in
    subst (PriorityIs ts) (some_is (Some found, c.0) y c.2) whole

priority_is : (ts : List Symbol) (y : Option PriorityData × List Symbol) → priority ts ≡ Some y → PriorityIs ts y
unfolding priority
priority_is ts y e = priority_go ts y (opened ts) refl e

module _ (turns depth : ℕ) where
  -- ---- a transition

  abbrev RouteIs : List Symbol → (StepsData × StepsData) × List Symbol → Type 0
  RouteIs ts y = ts ≡ route_before y.0.0 y.0.1 y.1

  route_is : (ts : List Symbol) (y : (StepsData × StepsData) × List Symbol) → route turns depth ts ≡ Some y → RouteIs ts y
  unfolding route
  route_is ts y e =
      let a = bind_some (after From ts) _ y e in
      let f = bind_some (steps turns a.0) _ y a.2 in
      let b = bind_some (after To f.0.1) _ y f.2 in
      let t = bind_some (steps turns b.0) _ y b.2 in
      let behind : f.0.1 ≡ mark To ∷ (print_steps t.0.0 ++ t.0.1) = after_is To f.0.1 b.0 b.1 ∙ ap (λ (x : List Symbol). mark To ∷ x) (steps_are turns b.0 t.0 t.1) in
      let whole : RouteIs ts ((f.0.0, t.0.0), t.0.1) =
      after_is From ts a.0 a.1 ∙ ap (λ (x : List Symbol). mark From ∷ x) (steps_are turns a.0 f.0 f.1 ∙ ap (λ (x : List Symbol). print_steps f.0.0 ++ x) behind) in
      subst (RouteIs ts) (some_is ((f.0.0, t.0.0), t.0.1) y t.2) whole

  abbrev ConditionIs : List Symbol → Tree × List Symbol → Type 0
  ConditionIs ts y = (ts ≡ condition_before y.0 y.1) × Fits y.0 depth

  condition_is : (ts : List Symbol) (y : Tree × List Symbol) → condition turns depth ts ≡ Some y → ConditionIs ts y
  unfolding condition
  condition_is ts y e =
      let a = bind_some (after Assign ts) _ y e in
      let c = bind_some (expression turns depth a.0) _ y a.2 in
      let s = bind_some (after Semicolon c.0.1) _ y c.2 in
      let d = bind_some (after EndTransition s.0) _ y s.2 in
      let f = expression_is turns depth a.0 c.0.0 c.0.1 c.1 in
      let last : c.0.1 ≡ mark Semicolon ∷ mark EndTransition ∷ d.0 = after_is Semicolon c.0.1 s.0 s.1 ∙ ap (λ (x : List Symbol). mark Semicolon ∷ x) (after_is EndTransition s.0 d.0 d.1) in
      let whole : ConditionIs ts (c.0.0, d.0) =
      (after_is Assign ts a.0 a.1 ∙ ap (λ (x : List Symbol). mark Assign ∷ x) (f.0 ∙ ap (λ (x : List Symbol). print c.0.0 ++ x) last), f.1) in
      subst (ConditionIs ts) (some_is (c.0.0, d.0) y d.2) whole

  abbrev TransitionIs : ℕ → List Symbol → ChartTransitionData × List Symbol → Type 0
  TransitionIs at ts y = (part words.Transition at ∷ ts ≡ print_transition y.0 ++ y.1) × Fits y.0.condition depth

  transition_is : (at : ℕ) (ts : List Symbol) (y : ChartTransitionData × List Symbol) → transition turns depth at ts ≡ Some y → TransitionIs at ts y
  unfolding transition
  transition_is at ts y e =
      let n = bind_some (name_or_none ts) _ y e in
      let p = bind_some (priority n.0.1) _ y n.2 in
      let r = bind_some (route turns depth p.0.1) _ y p.2 in
      let c = bind_some (condition turns depth r.0.1) _ y r.2 in
      let f = condition_is r.0.1 c.0 c.1 in
      let found : ChartTransitionData = record { at = at; name = n.0.0; priority = p.0.0; from = r.0.0.0; to = r.0.0.1; condition = c.0.0 } in
      let steps_behind : p.0.1 ≡ route_before r.0.0.0 r.0.0.1 (condition_before c.0.0 c.0.1) = route_is p.0.1 r.0 r.1 ∙ ap (λ (x : List Symbol). route_before r.0.0.0 r.0.0.1 x) f.0 in
      let inner : ts ≡ print_name n.0.0 ++ (print_priority p.0.0 ++ route_before r.0.0.0 r.0.0.1 (condition_before c.0.0 c.0.1)) =
      name_or_none_is ts n.0 n.1 ∙ ap (λ (x : List Symbol). print_name n.0.0 ++ x) (priority_is n.0.1 p.0 p.1 ∙ ap (λ (x : List Symbol). print_priority p.0.0 ++ x) steps_behind) in
      let whole : TransitionIs at ts (found, c.0.1) = (ap (λ (x : List Symbol). part words.Transition at ∷ x) inner ∙ sym (transition_shape found c.0.1), f.1) in
      subst (TransitionIs at ts) (some_is (found, c.0.1) y c.2) whole

  -- ---- an action

  abbrev ActionIs : ℕ → List Symbol → ChartActionData × List Symbol → Type 0
  ActionIs at ts y = (part words.Action at ∷ ts ≡ print_chart_action y.0 ++ y.1) × StmtsFit y.0.body depth

  chart_action_is : (at : ℕ) (ts : List Symbol) (y : ChartActionData × List Symbol) → chart_action turns depth at ts ≡ Some y → ActionIs at ts y
  unfolding chart_action
  chart_action_is at ts y e =
      let n = bind_some (named ts) _ y e in
      let a = bind_some (after Colon n.0.1) _ y n.2 in
      let b = bind_some (statements turns depth false a.0) _ y a.2 in
      let c = bind_some (after EndAction b.0.1) _ y b.2 in
      let f = statements_are turns depth false a.0 b.0.0 b.0.1 b.1 in
      let found : ChartActionData = record { at = at; name = n.0.0; body = b.0.0 } in
      let body : a.0 ≡ print_stmts b.0.0 ++ mark EndAction ∷ c.0 = f.0 ∙ ap (λ (x : List Symbol). print_stmts b.0.0 ++ x) (after_is EndAction b.0.1 c.0 c.1) in
      let inner : ts ≡ name_symbol n.0.0 ∷ mark Colon ∷ (print_stmts b.0.0 ++ mark EndAction ∷ c.0) =
      named_is ts n.0.0 n.0.1 n.1 ∙ ap (λ (x : List Symbol). name_symbol n.0.0 ∷ x) (after_is Colon n.0.1 a.0 a.1 ∙ ap (λ (x : List Symbol). mark Colon ∷ x) body) in
      let whole : ActionIs at ts (found, c.0) = (ap (λ (x : List Symbol). part words.Action at ∷ x) inner ∙ sym (chart_action_shape found c.0), f.1) in
      subst (ActionIs at ts) (some_is (found, c.0) y c.2) whole

  -- ---- a part

  abbrev PartIs : List Symbol → PartData × List Symbol → Type 0
  PartIs ts y = (ts ≡ print_part y.0 ++ y.1) × PartFits y.0 depth

  step_part_is : (is_initial : Bool) (at : ℕ) (ts : List Symbol) (y : PartData × List Symbol) → (chart_step turns is_initial at ts >>= λ s. Some (step_part s.0, s.1)) ≡ Some y
      → PartIs (part (step_word is_initial) at ∷ ts) y
  step_part_is is_initial at ts y e =
      let a = bind_some (chart_step turns is_initial at ts) (λ (s : ChartStepData × List Symbol). Some (step_part s.0, s.1)) y e in
      let whole : PartIs (part (step_word is_initial) at ∷ ts) (step_part a.0.0, a.0.1) = (chart_step_is turns is_initial at ts a.0 a.1, tt) in
      subst (PartIs (part (step_word is_initial) at ∷ ts)) (some_is (step_part a.0.0, a.0.1) y a.2) whole

  part_of_is : (w : PartWord) (at : ℕ) (ts : List Symbol) (y : PartData × List Symbol) → part_of turns depth w at ts ≡ Some y → PartIs (part w at ∷ ts) y
  unfolding part_of
  part_of_is words.InitialStep at ts y e = step_part_is true at ts y e
  part_of_is words.Step at ts y e = step_part_is false at ts y e
  part_of_is words.Transition at ts y e =
      let a = bind_some (transition turns depth at ts) (λ (t : ChartTransitionData × List Symbol). Some (transition_part t.0, t.1)) y e in
      let whole : PartIs (part words.Transition at ∷ ts) (transition_part a.0.0, a.0.1) = transition_is at ts a.0 a.1 in
      subst (PartIs (part words.Transition at ∷ ts)) (some_is (transition_part a.0.0, a.0.1) y a.2) whole
  part_of_is words.Action at ts y e =
      let a = bind_some (chart_action turns depth at ts) (λ (t : ChartActionData × List Symbol). Some (action_part t.0, t.1)) y e in
      let whole : PartIs (part words.Action at ∷ ts) (action_part a.0.0, a.0.1) = chart_action_is at ts a.0 a.1 in
      subst (PartIs (part words.Action at ∷ ts)) (some_is (action_part a.0.0, a.0.1) y a.2) whole

  chart_part_is : (ts : List Symbol) (y : PartData × List Symbol) → chart_part turns depth ts ≡ Some y → PartIs ts y
  unfolding chart_part
  chart_part_is ts y e =
      let w = bind_some (part_word ts) _ y e in
      subst (λ (x : List Symbol). PartIs x y) (sym (part_word_is ts w.0.0.0 w.0.0.1 w.0.1 w.1)) (part_of_is w.0.0.0 w.0.0.1 w.0.1 y w.2)

  -- ---- a chart

  -- parts behind those that were read, of which there is at least one, and no part behind them
  abbrev PartsAre : List PartData → List Symbol → List PartData × List Symbol → Type 0
  PartsAre before ts y =
      (p : PartData) × (more : List PartData) × (y.0 ≡ before ++ p ∷ more) × (ts ≡ print_part p ++ (print_parts more ++ y.1)) × PartFits p depth × PartsFit more depth × (begins_part y.1 ≡ false)

  parts_go : (n : ℕ) (before : List PartData) (p : PartData) (ts next : List Symbol) (y : List PartData × List Symbol) (b : Bool) → ts ≡ print_part p ++ next → PartFits p depth → begins_part next ≡ b
      → parts_step turns depth (parts turns depth n) (before ++ p ∷ []) next b ≡ Some y → ((before : List PartData) (ts : List Symbol) → parts turns depth n before ts ≡ Some y → PartsAre before ts y) → PartsAre before ts y
  parts_go n before p ts next y false printed fits is e below =
      let whole : PartsAre before ts (before ++ p ∷ [], next) = (p, [], refl, printed, fits, tt, is) in
      subst (PartsAre before ts) (some_is (before ++ p ∷ [], next) y e) whole
  parts_go n before p ts next y true printed fits is e below =
      let b = below (before ++ p ∷ []) next e in (
        p,
        b.0 ∷ b.1,
        b.2 ∙ append_assoc before (p ∷ []) (b.0 ∷ b.1),
        printed ∙ ap (λ (x : List Symbol). print_part p ++ x) (b.3 ∙ sym (append_assoc (print_part b.0) (print_parts b.1) y.1)),
        fits,
        (b.4, b.5),
        b.6,
      )

  parts_are : (n : ℕ) (before : List PartData) (ts : List Symbol) (y : List PartData × List Symbol) → parts turns depth n before ts ≡ Some y → PartsAre before ts y
  unfolding parts
  parts_are zero before ts y e = absurd cc
  parts_are (suc n) before ts y e =
      let a = bind_some (chart_part turns depth ts) (λ (p : PartData × List Symbol). parts_step turns depth (parts turns depth n) (before ++ p.0 ∷ []) p.1 (begins_part p.1)) y e in
      let p = chart_part_is ts a.0 a.1 in
      parts_go n before a.0.0 ts a.0.1 y (begins_part a.0.1) p.0 p.1 refl a.2 (λ before ts e. parts_are n before ts y e)

  abbrev pub ChartIs : List Symbol → List PartData × List Symbol → Type 0
  ChartIs ts y = (ts ≡ print_parts y.0 ++ y.1) × ChartFits y.0 depth × (begins_part y.1 ≡ false)

  pub chart_is : (ts : List Symbol) (y : List PartData × List Symbol) → chart turns depth ts ≡ Some y → ChartIs ts y
  unfolding chart
  chart_is ts y e =
      let a = parts_are turns [] ts y e in
      let printed : ts ≡ print_parts (a.0 ∷ a.1) ++ y.1 = a.3 ∙ sym (append_assoc (print_part a.0) (print_parts a.1) y.1) in
      let fits : ChartFits (a.0 ∷ a.1) depth = (a.4, a.5) in
      subst (λ (ps : List PartData). (ts ≡ print_parts ps ++ y.1) × ChartFits ps depth × (begins_part y.1 ≡ false)) (sym a.2) (printed, fits, a.6)
