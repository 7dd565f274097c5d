use Rattle.std.proofs.Common.{ap, sym, ◌∙◌, false, None}
use Rattle.rules.specs.declared.rule.Rule.TheVariants.{ValueType}
use Rattle.source_tree.specs.SyntaxView.{tree_view}
use Rattle.rules.specs.declared.outcome.Outcome.{Outcome}
use Rattle.decl_types.specs.Bodies.{file_in}
use Rattle.typing.specs.Domains.{values_scope}
use Rattle.typing.specs.Judged.{judged}
use Rattle.rules.specs.Outcomes.{tried}
use Rattle.typing_laws.proofs.Judging.{outcome_of-require}
use Rattle.decl_types.proofs.told.judge_given.Goals as goal

pub returns : goal.returns
returns c =
    c.require.ensures ∙ ap (λ (x : Outcome). tried x false ValueType c.args.at) c.in_ok-judged.ensures
    ∙ sym (outcome_of-require (judged (values_scope (file_in c.args.domains.now)) None (tree_view c.args.value.now)) false ValueType c.args.at)
