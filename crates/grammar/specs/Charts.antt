-- Reading charts.
use Rattle.std.specs.Prelude.{ℕ, zero, suc, Bool, true, false, List, [], ◌∷◌, ◌++◌, codes, bytes_eq, Option, Some, None, if◌then◌else◌}
use Rattle.source_tree.specs.declared.token.PartWord.{PartWord}
use Rattle.source_tree.specs.declared.token.PartWord.TheVariants as words
use Rattle.source_tree.specs.declared.token.Mark.TheVariants.{Close, Colon, Semicolon, Assign, From, To, EndTransition, EndAction}
use Rattle.source_tree.specs.Syntax.{Symbol, Tree, StepsData, PriorityData, ChartTransitionData, ChartActionData, PartData, step_part, transition_part, action_part}
use Rattle.grammar.specs.Ends.{begins_part}
use Rattle.grammar.specs.Reading.{Read, ◌>>=◌, after, named, numbered, opened, part_word}
use Rattle.grammar.specs.Expressions.{expression}
use Rattle.grammar.specs.Statements.{statements}
use Rattle.grammar.specs.ChartSteps.{name_or_none, chart_step, steps}

-- the word PRIORITY, by its place; elsewhere it is a name like any other
unfoldable pub priority_word : Read ℕ
priority_word ts = named ts >>= λ n. if bytes_eq n.0.text (codes "PRIORITY") then Some (n.0.at, n.1) else None

abbrev pub priority_or : List Symbol → Option (ℕ × List Symbol) → Option (Option PriorityData × List Symbol)
priority_or ts (Some o) =
    priority_word o.1 >>= λ w. after Assign w.1 >>= λ ts. numbered ts >>= λ n. after Close n.1 >>= λ rest.
    Some (Some (record { at = o.0; word_at = w.0; value = n.0.0; value_at = n.0.1 }), rest)
priority_or ts None = Some (None, ts)

-- `(PRIORITY := number)`, or nothing
unfoldable pub priority : Read (Option PriorityData)
priority ts = priority_or ts (opened ts)

-- The first number bounds the turns of each loop: that of the tokens is always enough. The second is how deep parentheses and statements nest.
module _ (turns depth : ℕ) where
  -- FROM and the steps before a transition, TO and the steps behind it
  unfoldable pub route : Read (StepsData × StepsData)
  route ts = after From ts >>= λ ts. steps turns ts >>= λ f. after To f.1 >>= λ ts. steps turns ts >>= λ t. Some ((f.0, t.0), t.1)

  -- `:=`, the condition of a transition, `;` and END_TRANSITION
  unfoldable pub condition : Read Tree
  condition ts = after Assign ts >>= λ ts. expression turns depth ts >>= λ c. after Semicolon c.1 >>= λ ts. after EndTransition ts >>= λ rest. Some (c.0, rest)

  -- a transition, behind TRANSITION, whose place is given
  unfoldable pub transition : ℕ → Read ChartTransitionData
  transition at ts =
      name_or_none ts >>= λ n. priority n.1 >>= λ p. route p.1 >>= λ r. condition r.1 >>= λ c.
      Some (record { at = at; name = n.0; priority = p.0; from = r.0.0; to = r.0.1; condition = c.0 }, c.1)

  -- an action, behind ACTION, whose place is given
  unfoldable pub chart_action : ℕ → Read ChartActionData
  chart_action at ts =
      named ts >>= λ n. after Colon n.1 >>= λ ts. statements turns depth false ts >>= λ ss. after EndAction ss.1 >>= λ rest.
      Some (record { at = at; name = n.0; body = ss.0 }, rest)

  -- a part, behind the word that begins it, whose place is given
  unfoldable pub part_of : PartWord → ℕ → Read PartData
  part_of words.InitialStep at ts = chart_step turns true at ts >>= λ s. Some (step_part s.0, s.1)
  part_of words.Step at ts = chart_step turns false at ts >>= λ s. Some (step_part s.0, s.1)
  part_of words.Transition at ts = transition at ts >>= λ t. Some (transition_part t.0, t.1)
  part_of words.Action at ts = chart_action at ts >>= λ a. Some (action_part a.0, a.1)

  -- a part
  unfoldable pub chart_part : Read PartData
  chart_part ts = part_word ts >>= λ w. part_of w.0.0 w.0.1 w.1

  abbrev pub parts_step : (List PartData → Read (List PartData)) → List PartData → List Symbol → Bool → Option (List PartData × List Symbol)
  parts_step more_of ps ts true = more_of ps ts
  parts_step more_of ps ts false = Some (ps, ts)

  -- at least one part, after those that were read
  unfoldable pub parts : ℕ → List PartData → Read (List PartData)
  parts zero ps ts = None
  parts (suc n) ps ts = chart_part ts >>= λ p. parts_step (parts n) (ps ++ p.0 ∷ []) p.1 (begins_part p.1)

  -- a chart, by its parts
  unfoldable pub chart : Read (List PartData)
  chart ts = parts turns [] ts
