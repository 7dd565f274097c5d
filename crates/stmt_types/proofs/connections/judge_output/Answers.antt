use Rattle.std.proofs.Common.{rules}
use Rattle.rules.specs.declared.rule.Rule.TheVariants.{ValueType}
use Rattle.plc_types.specs.DataTypes.{is_same_type}
use Rattle.typing.specs.Typing.{kind_at, or_dint}
use Rattle.typing.specs.Judged.{judged_meaning}
use Rattle.typing.specs.JudgedStatements.{judged_target}
use Rattle.typing_laws.proofs.Judging.{outcome_of-parts}
use Rattle.stmt_types.proofs.connections.judge_output.Goals as goal

pub returns : goal.returns
returns c =
    outcome_of-parts (judged_meaning c.args.meaning) (judged_target c.args.controls.now c.args.target c.args.at) c.judge_meaning.result c.judge_target.result c.and-parts.result c.require.result
    (is_same_type (or_dint (kind_at c.args.target)) (or_dint (kind_at c.args.meaning))) c.is_same-fits.result ValueType c.args.at (search rules) (search rules) (search rules) (search rules) (search rules)
