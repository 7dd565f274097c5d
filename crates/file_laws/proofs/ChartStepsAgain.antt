-- What the steps of charts print is read as those steps.
use Rattle.std.proofs.Common.{◌≡◌, ℕ, zero, suc, ◌≤◌, List, [], ◌∷◌, ◌++◌, length, Option, Some, None, refl, sym, ap, ◌∙◌, append_assoc, arith, length-append}
use Rattle.std.proofs.lemmas.List.{append-nil}
use Rattle.source_tree.specs.declared.token.Mark.{Mark}
use Rattle.source_tree.specs.declared.token.Mark.TheVariants.{Close, Comma, Colon, Semicolon, EndStep}
use Rattle.source_tree.specs.Syntax.{Symbol, mark, Named, BracketsData, StepActionData, ChartStepData, StepsData, one_step, several_steps}
use Rattle.source_tree.specs.Prints.{name_symbol, print_others, print_name, print_brackets, print_step_actions, print_steps}
use Rattle.grammar.specs.Marks.{same_mark}
use Rattle.grammar.specs.Reading.{after, opened}
use Rattle.grammar.specs.ChartSteps.{name_or_none, brackets, step_action, step_actions, chart_step, steps}
use Rattle.grammar_laws.proofs.DeclarationAgain.{others_again, after_close, after_colon, after_semicolon, step_named}
use Rattle.file_laws.proofs.ChartStepsSound.{brackets_shape, step_actions_shape, steps_shape}

no_comma : (rest : List Symbol) → after Comma (mark Close ∷ rest) ≡ None
unfolding after same_mark
no_comma rest = refl

after_end : (rest : List Symbol) → after EndStep (mark EndStep ∷ rest) ≡ Some rest
unfolding after same_mark
after_end rest = refl

no_end : (n : Named) (rest : List Symbol) → after EndStep (name_symbol n ∷ rest) ≡ None
unfolding after
no_end n rest = refl

-- ---- a name, where one stands

pub name_again : (n : Option Named) (rest : List Symbol) → name_or_none rest ≡ Some (None, rest) → name_or_none (print_name n ++ rest) ≡ Some (n, rest)
unfolding name_or_none
name_again None rest none = none
name_again (Some n) rest none = refl

no_name : (m : Mark) (rest : List Symbol) → name_or_none (mark m ∷ rest) ≡ Some (None, mark m ∷ rest)
unfolding name_or_none
no_name m rest = refl

-- ---- the actions of a step

word_again : (b : BracketsData) (rest : List Symbol) → brackets (print_brackets (Some b) ++ rest) ≡ Some (Some b, rest)
unfolding brackets opened
word_again b rest = ap brackets (brackets_shape b rest) ∙ rw (name_again b.word (mark Close ∷ rest) (no_name Close rest), after_close rest) refl

brackets_again : (b : Option BracketsData) (rest : List Symbol) → brackets (print_brackets b ++ mark Semicolon ∷ rest) ≡ Some (b, mark Semicolon ∷ rest)
unfolding brackets opened
brackets_again None rest = refl
brackets_again (Some b) rest = word_again b (mark Semicolon ∷ rest)

step_action_again : (a : StepActionData) (rest : List Symbol) → step_action (name_symbol a.action ∷ (print_brackets a.brackets ++ mark Semicolon ∷ rest)) ≡ Some (a, rest)
unfolding step_action
step_action_again a rest = rw (step_named a.action (print_brackets a.brackets ++ mark Semicolon ∷ rest), brackets_again a.brackets rest, after_semicolon rest) refl

step_actions_again : (n : ℕ) (before found : List StepActionData) (rest : List Symbol) → length (print_step_actions found ++ mark EndStep ∷ rest) ≤ n → step_actions n before (print_step_actions found ++ mark EndStep ∷ rest) ≡ Some (before ++ found, rest)
unfolding step_actions
step_actions_again zero before found rest le = absurd (omega (arith, length-append (print_step_actions found) (mark EndStep ∷ rest)))
step_actions_again (suc n) before [] rest le = rw (after_end rest) (ap (λ (x : List StepActionData). Some (x, rest)) (sym (append-nil before)))
step_actions_again (suc n) before (a ∷ more) rest le =
    let tail : List Symbol = print_step_actions more ++ mark EndStep ∷ rest in
    let inner : List Symbol = print_brackets a.brackets ++ mark Semicolon ∷ tail in
    let shape : print_step_actions (a ∷ more) ++ mark EndStep ∷ rest ≡ name_symbol a.action ∷ inner = step_actions_shape a more (mark EndStep ∷ rest) in
    let less : length tail ≤ n = omega (arith, ap length shape, length-append (print_brackets a.brackets) (mark Semicolon ∷ tail)) in
    rw (shape, no_end a.action inner, step_action_again a tail)
    (step_actions_again n (before ++ a ∷ []) more rest less ∙ ap (λ (x : List StepActionData). Some (x, rest)) (append_assoc before (a ∷ []) more))

module _ (turns : ℕ) where
  pub chart_step_again : (s : ChartStepData) (rest : List Symbol) → length (print_step_actions s.actions ++ mark EndStep ∷ rest) ≤ turns
      → chart_step turns s.is_initial s.at (name_symbol s.name ∷ mark Colon ∷ (print_step_actions s.actions ++ mark EndStep ∷ rest)) ≡ Some (s, rest)
  unfolding chart_step
  chart_step_again s rest len =
      let inner : List Symbol = print_step_actions s.actions ++ mark EndStep ∷ rest in
      rw (step_named s.name (mark Colon ∷ inner), after_colon inner, step_actions_again turns [] s.actions rest len) refl

  -- ---- the steps before or behind a transition

  one_again : (n : Named) (rest : List Symbol) → steps turns (name_symbol n ∷ rest) ≡ Some (one_step n, rest)
  unfolding steps opened
  one_again n rest = rw (step_named n rest) refl

  several_again : (at : ℕ) (n : Named) (ns : List Named) (rest : List Symbol) → length (print_steps (several_steps at n ns) ++ rest) ≤ turns
      → steps turns (print_steps (several_steps at n ns) ++ rest) ≡ Some (several_steps at n ns, rest)
  unfolding steps opened
  several_again at n ns rest len =
      let shape = steps_shape at n ns rest in
      let enough : length (print_others ns ++ mark Close ∷ rest) ≤ turns = omega (arith, ap length shape) in
      ap (steps turns) shape ∙ rw (step_named n (print_others ns ++ mark Close ∷ rest), others_again turns [] ns (mark Close ∷ rest) (no_comma rest) enough, after_close rest) refl

  pub steps_again : (s : StepsData) (rest : List Symbol) → length (print_steps s ++ rest) ≤ turns → steps turns (print_steps s ++ rest) ≡ Some (s, rest)
  steps_again (one_step n) rest len = one_again n rest
  steps_again (several_steps at n ns) rest len = several_again at n ns rest len
