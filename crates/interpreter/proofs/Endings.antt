-- The state that is left, whatever the outcome.
use Rattle.std.proofs.Common.{◌≡◌, ap}
use Rattle.interpreter.specs.declared.outcome.Outcome.{Outcome}
use Rattle.interpreter.specs.declared.outcome.Outcome.TheVariants.{On, Exit, Return}
use Rattle.meaning.specs.Values.{State}
use Rattle.meaning.specs.Effects.{Effect, state_of}
use Rattle.interpreter.specs.Outcomes.{effect_with}

pub state-left : (o : Outcome) (s : State) (e : Effect) → effect_with o s ≡ e → s ≡ state_of e
state-left On s e h = ap state_of h
state-left Exit s e h = ap state_of h
state-left Return s e h = ap state_of h
