-- The data that parameters of standard functions stand for.
use Rattle.synthesized_types.specs.declared.parameters.Parameter.{Parameter as ParameterValue}
use Rattle.synthesized_types.specs.declared.parameters.Parameter.TheVariants as parameters
use Rattle.typing.specs.Typing.{Parameter, fixed, common, amount}

abbrev pub parameter_view : ParameterValue → Parameter
parameter_view (parameters.Fixed kind) = fixed kind
parameter_view parameters.Common = common
parameter_view parameters.Amount = amount
