-- What is read of the steps of charts prints the symbols that were taken.
use Rattle.std.proofs.Common.{◌≡◌, ℕ, zero, suc, Bool, true, false, cond, List, [], ◌∷◌, ◌++◌, Option, Some, None, refl, sym, ap, subst, ◌∙◌, append_assoc}
use Rattle.std.proofs.lemmas.List.{append-nil}
use Rattle.source_tree.specs.declared.token.Mark.TheVariants.{Close, Colon, Semicolon, EndStep}
use Rattle.source_tree.specs.declared.token.PartWord.{PartWord}
use Rattle.source_tree.specs.declared.token.PartWord.TheVariants as words
use Rattle.source_tree.specs.Syntax.{Symbol, name, opening, part, mark, Named, BracketsData, StepActionData, ChartStepData, StepsData, one_step, several_steps}
use Rattle.source_tree.specs.Prints.{name_symbol, print_others, print_name, print_brackets, print_step_actions, print_chart_step, print_steps}
use Rattle.grammar.specs.Reading.{after, named, opened}
use Rattle.grammar.specs.Declarations.{others}
use Rattle.grammar.specs.ChartSteps.{name_or_none, brackets_or, brackets, step_action, step_actions_step, step_actions, chart_step, steps_or, steps}
use Rattle.grammar_laws.proofs.Steps.{bind_some, some_is, after_is, named_is, opened_is}
use Rattle.grammar_laws.proofs.DeclarationSound.{others_are}

-- ---- how symbols stand before others

pub brackets_shape : (b : BracketsData) (rest : List Symbol) → print_brackets (Some b) ++ rest ≡ opening b.at ∷ (print_name b.word ++ mark Close ∷ rest)
brackets_shape b rest = ap (λ (x : List Symbol). opening b.at ∷ x) (append_assoc (print_name b.word) (mark Close ∷ []) rest)

pub step_actions_shape : (a : StepActionData) (more : List StepActionData) (rest : List Symbol)
    → print_step_actions (a ∷ more) ++ rest ≡ name_symbol a.action ∷ (print_brackets a.brackets ++ mark Semicolon ∷ (print_step_actions more ++ rest))
step_actions_shape a more rest = ap (λ (x : List Symbol). name_symbol a.action ∷ x) (append_assoc (print_brackets a.brackets) (mark Semicolon ∷ print_step_actions more) rest)

-- the word that begins a step
abbrev pub step_word : Bool → PartWord
step_word is_initial = cond is_initial words.InitialStep words.Step

pub chart_step_shape : (s : ChartStepData) (rest : List Symbol)
    → print_chart_step s ++ rest ≡ part (step_word s.is_initial) s.at ∷ name_symbol s.name ∷ mark Colon ∷ (print_step_actions s.actions ++ mark EndStep ∷ rest)
chart_step_shape s rest =
    ap (λ (x : List Symbol). part (step_word s.is_initial) s.at ∷ name_symbol s.name ∷ mark Colon ∷ x) (append_assoc (print_step_actions s.actions) (mark EndStep ∷ []) rest)

pub steps_shape : (at : ℕ) (n : Named) (ns : List Named) (rest : List Symbol) → print_steps (several_steps at n ns) ++ rest ≡ opening at ∷ name_symbol n ∷ (print_others ns ++ mark Close ∷ rest)
steps_shape at n ns rest = ap (λ (x : List Symbol). opening at ∷ name_symbol n ∷ x) (append_assoc (print_others ns) (mark Close ∷ []) rest)

-- ---- a name, where one stands

abbrev NameIs : List Symbol → Option Named × List Symbol → Type 0
NameIs ts y = ts ≡ print_name y.0 ++ y.1

no_name_is : (ts : List Symbol) (y : Option Named × List Symbol) → (let o : Option (Option Named × List Symbol) = Some (None, ts) in o) ≡ Some y → NameIs ts y
no_name_is ts y e =
    let whole : NameIs ts (None, ts) = refl in
    subst (NameIs ts) (some_is (None, ts) y e) whole

pub name_or_none_is : (ts : List Symbol) (y : Option Named × List Symbol) → name_or_none ts ≡ Some y → ts ≡ print_name y.0 ++ y.1
unfolding name_or_none
name_or_none_is (name t at ∷ ts) y e =
    let n : Named = record { text = t; at = at } in
    let whole : NameIs (name t at ∷ ts) (Some n, ts) = refl in
    subst (NameIs (name t at ∷ ts)) (some_is (Some n, ts) y e) whole
name_or_none_is ts y e = no_name_is ts y e

-- ---- the actions of a step

abbrev BracketsAre : List Symbol → Option BracketsData × List Symbol → Type 0
BracketsAre ts y = ts ≡ print_brackets y.0 ++ y.1

brackets_go : (ts : List Symbol) (y : Option BracketsData × List Symbol) (o : Option (ℕ × List Symbol)) → opened ts ≡ o → brackets_or ts o ≡ Some y → BracketsAre ts y
brackets_go ts y None is e =
    let whole : BracketsAre ts (None, ts) = refl in
    subst (BracketsAre ts) (some_is (None, ts) y e) whole
brackets_go ts y (Some o) is e =
    let a = bind_some (name_or_none o.1) _ y e in
    let b = bind_some (after Close a.0.1) _ y a.2 in
    let found : BracketsData = record { at = o.0; word = a.0.0 } in
    let inner : o.1 ≡ print_name a.0.0 ++ mark Close ∷ b.0 = name_or_none_is o.1 a.0 a.1 ∙ ap (λ (x : List Symbol). print_name a.0.0 ++ x) (after_is Close a.0.1 b.0 b.1) in
    let whole : BracketsAre ts (Some found, b.0) = opened_is ts o.0 o.1 is ∙ ap (λ (x : List Symbol). opening o.0 ∷ x) inner ∙ sym (brackets_shape found b.0) in
    subst (BracketsAre ts) (some_is (Some found, b.0) y b.2) whole

brackets_are : (ts : List Symbol) (y : Option BracketsData × List Symbol) → brackets ts ≡ Some y → BracketsAre ts y
unfolding brackets
brackets_are ts y e = brackets_go ts y (opened ts) refl e

abbrev StepActionIs : List Symbol → StepActionData × List Symbol → Type 0
StepActionIs ts y = ts ≡ name_symbol y.0.action ∷ (print_brackets y.0.brackets ++ mark Semicolon ∷ y.1)

step_action_is : (ts : List Symbol) (y : StepActionData × List Symbol) → step_action ts ≡ Some y → StepActionIs ts y
unfolding step_action
step_action_is ts y e =
    let a = bind_some (named ts) _ y e in
    let b = bind_some (brackets a.0.1) _ y a.2 in
    let c = bind_some (after Semicolon b.0.1) _ y b.2 in
    let found : StepActionData = record { action = a.0.0; brackets = b.0.0 } in
    let inner : a.0.1 ≡ print_brackets b.0.0 ++ mark Semicolon ∷ c.0 = brackets_are a.0.1 b.0 b.1 ∙ ap (λ (x : List Symbol). print_brackets b.0.0 ++ x) (after_is Semicolon b.0.1 c.0 c.1) in
    let whole : StepActionIs ts (found, c.0) = named_is ts a.0.0 a.0.1 a.1 ∙ ap (λ (x : List Symbol). name_symbol a.0.0 ∷ x) inner in
    subst (StepActionIs ts) (some_is (found, c.0) y c.2) whole

abbrev StepActionsAre : List StepActionData → List Symbol → List StepActionData × List Symbol → Type 0
StepActionsAre before ts y = (extra : List StepActionData) × (y.0 ≡ before ++ extra) × (ts ≡ print_step_actions extra ++ mark EndStep ∷ y.1)

step_actions_go : (n : ℕ) (before : List StepActionData) (ts : List Symbol) (y : List StepActionData × List Symbol) (o : Option (List Symbol)) → after EndStep ts ≡ o → step_actions_step (step_actions n) before ts o ≡ Some y
    → ((before : List StepActionData) (ts : List Symbol) → step_actions n before ts ≡ Some y → StepActionsAre before ts y) → StepActionsAre before ts y
step_actions_go n before ts y (Some r) is e below =
    let whole : StepActionsAre before ts (before, r) = ([], sym (append-nil before), after_is EndStep ts r is) in
    subst (StepActionsAre before ts) (some_is (before, r) y e) whole
step_actions_go n before ts y None is e below =
    let a = bind_some (step_action ts) (λ (a : StepActionData × List Symbol). step_actions n (before ++ a.0 ∷ []) a.1) y e in
    let b = below (before ++ a.0.0 ∷ []) a.0.1 a.2 in (
      a.0.0 ∷ b.0,
      b.1 ∙ append_assoc before (a.0.0 ∷ []) b.0,
      step_action_is ts a.0 a.1 ∙ ap (λ (x : List Symbol). name_symbol a.0.0.action ∷ (print_brackets a.0.0.brackets ++ mark Semicolon ∷ x)) b.2 ∙ sym (step_actions_shape a.0.0 b.0 (mark EndStep ∷ y.1)),
    )

step_actions_are : (n : ℕ) (before : List StepActionData) (ts : List Symbol) (y : List StepActionData × List Symbol) → step_actions n before ts ≡ Some y → StepActionsAre before ts y
unfolding step_actions
step_actions_are zero before ts y e = absurd cc
step_actions_are (suc n) before ts y e = step_actions_go n before ts y (after EndStep ts) refl e (λ before ts e. step_actions_are n before ts y e)

module _ (turns : ℕ) where
  -- ---- a step

  abbrev pub ChartStepIs : Bool → ℕ → List Symbol → ChartStepData × List Symbol → Type 0
  ChartStepIs is_initial at ts y = part (step_word is_initial) at ∷ ts ≡ print_chart_step y.0 ++ y.1

  pub chart_step_is : (is_initial : Bool) (at : ℕ) (ts : List Symbol) (y : ChartStepData × List Symbol) → chart_step turns is_initial at ts ≡ Some y → ChartStepIs is_initial at ts y
  unfolding chart_step
  chart_step_is is_initial at ts y e =
      let a = bind_some (named ts) _ y e in
      let b = bind_some (after Colon a.0.1) _ y a.2 in
      let c = bind_some (step_actions turns [] b.0) _ y b.2 in
      let d = step_actions_are turns [] b.0 c.0 c.1 in
      let found : ChartStepData = record { at = at; is_initial = is_initial; name = a.0.0; actions = c.0.0 } in
      let actions : b.0 ≡ print_step_actions c.0.0 ++ mark EndStep ∷ c.0.1 = d.2 ∙ ap (λ (x : List StepActionData). print_step_actions x ++ mark EndStep ∷ c.0.1) (sym d.1) in
      let inner : ts ≡ name_symbol a.0.0 ∷ mark Colon ∷ (print_step_actions c.0.0 ++ mark EndStep ∷ c.0.1) =
      named_is ts a.0.0 a.0.1 a.1 ∙ ap (λ (x : List Symbol). name_symbol a.0.0 ∷ x) (after_is Colon a.0.1 b.0 b.1 ∙ ap (λ (x : List Symbol). mark Colon ∷ x) actions) in
      let whole : ChartStepIs is_initial at ts (found, c.0.1) = ap (λ (x : List Symbol). part (step_word is_initial) at ∷ x) inner ∙ sym (chart_step_shape found c.0.1) in
      subst (ChartStepIs is_initial at ts) (some_is (found, c.0.1) y c.2) whole

  -- ---- the steps before or behind a transition

  abbrev pub StepsAre : List Symbol → StepsData × List Symbol → Type 0
  StepsAre ts y = ts ≡ print_steps y.0 ++ y.1

  steps_go : (ts : List Symbol) (y : StepsData × List Symbol) (o : Option (ℕ × List Symbol)) → opened ts ≡ o → steps_or turns ts o ≡ Some y → StepsAre ts y
  steps_go ts y None is e =
      let a = bind_some (named ts) (λ (n : Named × List Symbol). Some (one_step n.0, n.1)) y e in
      let whole : StepsAre ts (one_step a.0.0, a.0.1) = named_is ts a.0.0 a.0.1 a.1 in
      subst (StepsAre ts) (some_is (one_step a.0.0, a.0.1) y a.2) whole
  steps_go ts y (Some o) is e =
      let a = bind_some (named o.1) _ y e in
      let b = bind_some (others turns [] a.0.1) _ y a.2 in
      let c = bind_some (after Close b.0.1) _ y b.2 in
      let d = others_are turns [] a.0.1 b.0 b.1 in
      let names : a.0.1 ≡ print_others b.0.0 ++ mark Close ∷ c.0 =
      d.2 ∙ ap (λ (x : List Named). print_others x ++ b.0.1) (sym d.1) ∙ ap (λ (x : List Symbol). print_others b.0.0 ++ x) (after_is Close b.0.1 c.0 c.1) in
      let inner : o.1 ≡ name_symbol a.0.0 ∷ (print_others b.0.0 ++ mark Close ∷ c.0) = named_is o.1 a.0.0 a.0.1 a.1 ∙ ap (λ (x : List Symbol). name_symbol a.0.0 ∷ x) names in
      let whole : StepsAre ts (several_steps o.0 a.0.0 b.0.0, c.0) = opened_is ts o.0 o.1 is ∙ ap (λ (x : List Symbol). opening o.0 ∷ x) inner ∙ sym (steps_shape o.0 a.0.0 b.0.0 c.0) in
      subst (StepsAre ts) (some_is (several_steps o.0 a.0.0 b.0.0, c.0) y c.2) whole

  pub steps_are : (ts : List Symbol) (y : StepsData × List Symbol) → steps turns ts ≡ Some y → StepsAre ts y
  unfolding steps
  steps_are ts y e = steps_go ts y (opened ts) refl e
