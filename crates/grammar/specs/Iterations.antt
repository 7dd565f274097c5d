-- Reading what stands between FOR and DO.
use Rattle.std.specs.Prelude.{ℕ, List, Option, Some, None}
use Rattle.source_tree.specs.declared.token.Mark.TheVariants.{Assign, To, By, Do}
use Rattle.source_tree.specs.Syntax.{Symbol, Tree, IterationData}
use Rattle.grammar.specs.Reading.{Read, ◌>>=◌, after, named}

module _ (expr : Read Tree) where
  abbrev pub step_or : List Symbol → Option (List Symbol) → Option (Option Tree × List Symbol)
  step_or ts (Some rest) = expr rest >>= λ e. Some (Some e.0, e.1)
  step_or ts None = Some (None, ts)

  -- BY and the step, or nothing
  unfoldable pub step : Read (Option Tree)
  step ts = step_or ts (after By ts)

  -- behind FOR, whose place is given, up to DO
  unfoldable pub iteration_from : ℕ → Read IterationData
  iteration_from at ts =
      named ts >>= λ n. after Assign n.1 >>= λ ts. expr ts >>= λ f. after To f.1 >>= λ ts. expr ts >>= λ l. step l.1 >>= λ s. after Do s.1 >>= λ rest.
      Some (record { at = at; control = n.0; first = f.0; last = l.0; step = s.0 }, rest)
