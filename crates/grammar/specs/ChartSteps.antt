-- Reading the steps of charts, and lists of their names.
use Rattle.std.specs.Prelude.{ℕ, zero, suc, Bool, List, [], ◌∷◌, ◌++◌, Option, Some, None}
use Rattle.source_tree.specs.declared.token.Mark.TheVariants.{Close, Colon, Semicolon, EndStep}
use Rattle.source_tree.specs.Syntax.{Symbol, name, Named, BracketsData, StepActionData, ChartStepData, StepsData, one_step, several_steps}
use Rattle.grammar.specs.Reading.{Read, ◌>>=◌, after, named, opened}
use Rattle.grammar.specs.Declarations.{others}

-- a name, where one stands
unfoldable pub name_or_none : Read (Option Named)
name_or_none (name t at ∷ ts) = Some (Some (record { text = t; at = at }), ts)
name_or_none ts = Some (None, ts)

abbrev pub brackets_or : List Symbol → Option (ℕ × List Symbol) → Option (Option BracketsData × List Symbol)
brackets_or ts (Some o) = name_or_none o.1 >>= λ w. after Close w.1 >>= λ rest. Some (Some (record { at = o.0; word = w.0 }), rest)
brackets_or ts None = Some (None, ts)

-- `(word)` or `()`, or nothing
unfoldable pub brackets : Read (Option BracketsData)
brackets ts = brackets_or ts (opened ts)

-- an action of a step, and `;`
unfoldable pub step_action : Read StepActionData
step_action ts = named ts >>= λ n. brackets n.1 >>= λ b. after Semicolon b.1 >>= λ rest. Some (record { action = n.0; brackets = b.0 }, rest)

abbrev pub step_actions_step : (List StepActionData → Read (List StepActionData)) → List StepActionData → List Symbol → Option (List Symbol) → Option (List StepActionData × List Symbol)
step_actions_step more_of found ts (Some rest) = Some (found, rest)
step_actions_step more_of found ts None = step_action ts >>= λ a. more_of (found ++ a.0 ∷ []) a.1

-- the actions of a step up to END_STEP, after those that were read. The number bounds the turns.
unfoldable pub step_actions : ℕ → List StepActionData → Read (List StepActionData)
step_actions zero found ts = None
step_actions (suc n) found ts = step_actions_step (step_actions n) found ts (after EndStep ts)

-- The first number bounds the turns of each loop: that of the tokens is always enough.
module _ (turns : ℕ) where
  -- a step that is initial or not, behind its word, whose place is given
  unfoldable pub chart_step : Bool → ℕ → Read ChartStepData
  chart_step is_initial at ts =
      named ts >>= λ n. after Colon n.1 >>= λ ts. step_actions turns [] ts >>= λ a.
      Some (record { at = at; is_initial = is_initial; name = n.0; actions = a.0 }, a.1)

  abbrev pub steps_or : List Symbol → Option (ℕ × List Symbol) → Option (StepsData × List Symbol)
  steps_or ts (Some o) = named o.1 >>= λ n. others turns [] n.1 >>= λ ns. after Close ns.1 >>= λ rest. Some (several_steps o.0 n.0 ns.0, rest)
  steps_or ts None = named ts >>= λ n. Some (one_step n.0, n.1)

  -- the name of a step, or names in parentheses
  unfoldable pub steps : Read StepsData
  steps ts = steps_or ts (opened ts)
