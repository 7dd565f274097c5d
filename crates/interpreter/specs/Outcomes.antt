-- What an outcome and the state that is left say.
use Rattle.interpreter.specs.declared.outcome.Outcome.{Outcome}
use Rattle.interpreter.specs.declared.outcome.Outcome.TheVariants.{On, Exit, Return}
use Rattle.meaning.specs.Values.{State}
use Rattle.meaning.specs.Effects.{Effect, on, exited, returned}

abbrev pub effect_with : Outcome → State → Effect
effect_with On s = on s
effect_with Exit s = exited s
effect_with Return s = returned s
