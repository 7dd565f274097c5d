-- What charts print is read as those charts.
use Rattle.std.proofs.Common.{◌≡◌, ℕ, zero, suc, ◌<◌, ◌≤◌, Bool, true, false, List, [], ◌∷◌, ◌++◌, length, Option, Some, None, refl, sym, ap, ◌∙◌, append_assoc, arith, length-append}
use Rattle.source_tree.specs.declared.token.Mark.TheVariants.{Close, Colon, Semicolon, Assign, From, To, EndStep, EndTransition, EndAction}
use Rattle.source_tree.specs.declared.token.PartWord.TheVariants as words
use Rattle.source_tree.specs.Syntax.{Symbol, part, mark, Tree, ChartStepData, StepsData, PriorityData, ChartTransitionData, ChartActionData, PartData, step_part, transition_part, action_part}
use Rattle.source_tree.specs.Prints.{name_symbol, print, print_stmts, print_name, print_step_actions, print_steps, print_priority, print_part, print_parts}
use Rattle.grammar.specs.Marks.{same_mark}
use Rattle.grammar.specs.Ends.{goes_on, begins, begins_part}
use Rattle.grammar.specs.Fits.{Fits, StmtsFit}
use Rattle.grammar.specs.Reading.{◌>>=◌, after, named, numbered, opened, part_word}
use Rattle.grammar.specs.ChartSteps.{name_or_none, chart_step}
use Rattle.grammar.specs.Charts.{priority_word, priority, route, condition, transition, chart_action, part_of, chart_part, parts, chart}
use Rattle.grammar_laws.proofs.Again.{expression_again}
use Rattle.grammar_laws.proofs.DeclarationAgain.{after_colon, after_semicolon, step_named}
use Rattle.grammar_laws.proofs.StatementAgain.{statements_again}
use Rattle.file_laws.proofs.ChartStepsSound.{step_word, chart_step_shape}
use Rattle.file_laws.proofs.ChartStepsAgain.{name_again, chart_step_again, steps_again}
use Rattle.file_laws.proofs.ChartSound.{PartFits, PartsFit, ChartFits, condition_before, route_before, transition_shape, chart_action_shape}

-- ---- words and signs

after_assign : (rest : List Symbol) → after Assign (mark Assign ∷ rest) ≡ Some rest
unfolding after same_mark
after_assign rest = refl

after_from : (rest : List Symbol) → after From (mark From ∷ rest) ≡ Some rest
unfolding after same_mark
after_from rest = refl

after_to : (rest : List Symbol) → after To (mark To ∷ rest) ≡ Some rest
unfolding after same_mark
after_to rest = refl

after_end_transition : (rest : List Symbol) → after EndTransition (mark EndTransition ∷ rest) ≡ Some rest
unfolding after same_mark
after_end_transition rest = refl

after_end_action : (rest : List Symbol) → after EndAction (mark EndAction ∷ rest) ≡ Some rest
unfolding after same_mark
after_end_action rest = refl

condition_ends : (rest : List Symbol) → goes_on 7 (mark Semicolon ∷ rest) ≡ false
unfolding same_mark
condition_ends rest = refl

action_ends : (rest : List Symbol) → begins (mark EndAction ∷ rest) ≡ false
unfolding same_mark
action_ends rest = refl

-- ---- a priority

priority_again : (p : Option PriorityData) (rest : List Symbol) → priority (print_priority p ++ mark From ∷ rest) ≡ Some (p, mark From ∷ rest)
unfolding priority priority_word after named numbered opened same_mark
priority_again None rest = refl
priority_again (Some p) rest = refl

no_name : (p : Option PriorityData) (rest : List Symbol) → name_or_none (print_priority p ++ mark From ∷ rest) ≡ Some (None, print_priority p ++ mark From ∷ rest)
unfolding name_or_none
no_name None rest = refl
no_name (Some p) rest = refl

module _ (turns depth : ℕ) where
  -- ---- a transition

  route_again : (from to : StepsData) (rest : List Symbol) → length (route_before from to rest) ≤ turns → route turns depth (route_before from to rest) ≡ Some ((from, to), rest)
  unfolding route
  route_again from to rest len =
      let behind : List Symbol = print_steps to ++ rest in
      let enough : length (print_steps from ++ mark To ∷ behind) ≤ turns = omega arith in
      let fewer : length behind ≤ turns = omega (arith, length-append (print_steps from) (mark To ∷ behind)) in
      rw (after_from (print_steps from ++ mark To ∷ behind), steps_again turns from (mark To ∷ behind) enough, after_to behind, steps_again turns to rest fewer) refl

  condition_again : (e : Tree) (rest : List Symbol) → Fits e depth → length (condition_before e rest) ≤ turns → condition turns depth (condition_before e rest) ≡ Some (e, rest)
  unfolding condition
  condition_again e rest fits len =
      let last : List Symbol = mark Semicolon ∷ mark EndTransition ∷ rest in
      let enough : length (print e ++ last) ≤ turns = omega arith in
      rw (after_assign (print e ++ last), expression_again turns e depth last fits (condition_ends (mark EndTransition ∷ rest)) enough, after_semicolon (mark EndTransition ∷ rest), after_end_transition rest) refl

  transition_again : (t : ChartTransitionData) (rest : List Symbol) → Fits t.condition depth
      → length (print_name t.name ++ (print_priority t.priority ++ route_before t.from t.to (condition_before t.condition rest))) ≤ turns
      → transition turns depth t.at (print_name t.name ++ (print_priority t.priority ++ route_before t.from t.to (condition_before t.condition rest))) ≡ Some (t, rest)
  unfolding transition
  transition_again t rest fits len =
      let last : List Symbol = condition_before t.condition rest in
      let behind_to : List Symbol = print_steps t.to ++ last in
      let behind_from : List Symbol = print_steps t.from ++ mark To ∷ behind_to in
      let l1 = length-append (print_name t.name) (print_priority t.priority ++ mark From ∷ behind_from) in
      let l2 = length-append (print_priority t.priority) (mark From ∷ behind_from) in
      let l3 = length-append (print_steps t.from) (mark To ∷ behind_to) in
      let l4 = length-append (print_steps t.to) last in
      let enough : length (route_before t.from t.to last) ≤ turns = omega (arith, l1, l2) in
      let fewer : length last ≤ turns = omega (arith, l1, l2, l3, l4) in
      rw (
        name_again t.name (print_priority t.priority ++ mark From ∷ behind_from) (no_name t.priority behind_from),
        priority_again t.priority behind_from,
        route_again t.from t.to last enough,
        condition_again t.condition rest fits fewer,
      ) refl

  -- ---- an action

  chart_action_again : (a : ChartActionData) (rest : List Symbol) → StmtsFit a.body depth → length (print_stmts a.body ++ mark EndAction ∷ rest) ≤ turns
      → chart_action turns depth a.at (name_symbol a.name ∷ mark Colon ∷ (print_stmts a.body ++ mark EndAction ∷ rest)) ≡ Some (a, rest)
  unfolding chart_action
  chart_action_again a rest fits len =
      let inner : List Symbol = print_stmts a.body ++ mark EndAction ∷ rest in
      rw (
        step_named a.name (mark Colon ∷ inner),
        after_colon inner,
        statements_again turns a.body depth false (mark EndAction ∷ rest) fits (action_ends rest) len,
        after_end_action rest,
      ) refl

  -- ---- a part

  part_of_step : (is_initial : Bool) (at : ℕ) (ts : List Symbol) → part_of turns depth (step_word is_initial) at ts ≡ (chart_step turns is_initial at ts >>= λ s. Some (step_part s.0, s.1))
  unfolding part_of
  part_of_step true at ts = refl
  part_of_step false at ts = refl

  step_again : (s : ChartStepData) (rest : List Symbol) → length (print_step_actions s.actions ++ mark EndStep ∷ rest) ≤ turns
      → chart_part turns depth (part (step_word s.is_initial) s.at ∷ name_symbol s.name ∷ mark Colon ∷ (print_step_actions s.actions ++ mark EndStep ∷ rest)) ≡ Some (step_part s, rest)
  unfolding chart_part part_word
  step_again s rest len =
      part_of_step s.is_initial s.at (name_symbol s.name ∷ mark Colon ∷ (print_step_actions s.actions ++ mark EndStep ∷ rest)) ∙ rw (chart_step_again turns s rest len) refl

  transition_part_again : (t : ChartTransitionData) (rest : List Symbol) → Fits t.condition depth
      → length (print_name t.name ++ (print_priority t.priority ++ route_before t.from t.to (condition_before t.condition rest))) ≤ turns
      → chart_part turns depth (part words.Transition t.at ∷ (print_name t.name ++ (print_priority t.priority ++ route_before t.from t.to (condition_before t.condition rest)))) ≡ Some (transition_part t, rest)
  unfolding chart_part part_word part_of
  transition_part_again t rest fits len = rw (transition_again t rest fits len) refl

  action_part_again : (a : ChartActionData) (rest : List Symbol) → StmtsFit a.body depth → length (print_stmts a.body ++ mark EndAction ∷ rest) ≤ turns
      → chart_part turns depth (part words.Action a.at ∷ name_symbol a.name ∷ mark Colon ∷ (print_stmts a.body ++ mark EndAction ∷ rest)) ≡ Some (action_part a, rest)
  unfolding chart_part part_word part_of
  action_part_again a rest fits len = rw (chart_action_again a rest fits len) refl

  chart_part_again : (p : PartData) (rest : List Symbol) → PartFits p depth → length (print_part p ++ rest) ≤ turns → chart_part turns depth (print_part p ++ rest) ≡ Some (p, rest)
  chart_part_again (step_part s) rest fits len =
      let shape = chart_step_shape s rest in
      ap (chart_part turns depth) shape ∙ step_again s rest (omega (arith, ap length shape))
  chart_part_again (transition_part t) rest fits len =
      let shape = transition_shape t rest in
      ap (chart_part turns depth) shape ∙ transition_part_again t rest fits (omega (arith, ap length shape))
  chart_part_again (action_part a) rest fits len =
      let shape = chart_action_shape a rest in
      ap (chart_part turns depth) shape ∙ action_part_again a rest fits (omega (arith, ap length shape))

  -- ---- a chart

  part_begins : (p : PartData) (ps : List PartData) (rest : List Symbol) → begins_part (print_parts (p ∷ ps) ++ rest) ≡ true
  part_begins (step_part s) ps rest = refl
  part_begins (transition_part t) ps rest = refl
  part_begins (action_part a) ps rest = refl

  parts_behind : (n : ℕ) (before : List PartData) (p : PartData) (more : List PartData) (rest : List Symbol) → PartFits p depth → PartsFit more depth → begins_part rest ≡ false → length more < n
      → length (print_part p ++ (print_parts more ++ rest)) ≤ turns → parts turns depth n before (print_part p ++ (print_parts more ++ rest)) ≡ Some (before ++ p ∷ more, rest)
  unfolding parts
  parts_behind zero before p more rest fits others ends lt len = absurd (omega arith)
  parts_behind (suc n) before p [] rest fits others ends lt len = rw (chart_part_again p rest fits len, ends) refl
  parts_behind (suc n) before p (q ∷ qs) rest fits others ends lt len =
      let tail : List Symbol = print_parts (q ∷ qs) ++ rest in
      let shape : tail ≡ print_part q ++ (print_parts qs ++ rest) = append_assoc (print_part q) (print_parts qs) rest in
      let enough : length (print_part q ++ (print_parts qs ++ rest)) ≤ turns = omega (arith, ap length shape, length-append (print_part p) tail) in
      rw (chart_part_again p tail fits len, part_begins q qs rest, shape)
      (parts_behind n (before ++ p ∷ []) q qs rest others.0 others.1 ends (omega arith) enough ∙ ap (λ (x : List PartData). Some (x, rest)) (append_assoc before (p ∷ []) (q ∷ qs)))

  some_symbols : (p : PartData) → 1 ≤ length (print_part p)
  some_symbols (step_part s) = omega arith
  some_symbols (transition_part t) = omega arith
  some_symbols (action_part a) = omega arith

  length_parts : (ps : List PartData) → length ps ≤ length (print_parts ps)
  length_parts [] = omega arith
  length_parts (p ∷ ps) = omega (arith, length_parts ps, some_symbols p, length-append (print_part p) (print_parts ps))

  pub chart_again : (ps : List PartData) (rest : List Symbol) → ChartFits ps depth → begins_part rest ≡ false → length (print_parts ps ++ rest) ≤ turns → chart turns depth (print_parts ps ++ rest) ≡ Some (ps, rest)
  unfolding chart
  chart_again [] rest fits ends len = absurd fits
  chart_again (p ∷ ps) rest fits ends len =
      let shape : print_parts (p ∷ ps) ++ rest ≡ print_part p ++ (print_parts ps ++ rest) = append_assoc (print_part p) (print_parts ps) rest in
      let whole : length (print_part p ++ (print_parts ps ++ rest)) ≤ turns = omega (arith, ap length shape) in
      let enough : length ps < turns = omega (arith, length_parts ps, some_symbols p, length-append (print_part p) (print_parts ps ++ rest), length-append (print_parts ps) rest) in
      rw shape (parts_behind turns [] p ps rest fits.0 fits.1 ends enough whole)

  -- a chart begins a part
  pub chart_begins : (ps : List PartData) (rest : List Symbol) → ChartFits ps depth → begins_part (print_parts ps ++ rest) ≡ true
  chart_begins [] rest fits = absurd fits
  chart_begins (p ∷ ps) rest fits = part_begins p ps rest
