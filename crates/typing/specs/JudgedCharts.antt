-- The rules on the types of charts: the condition of a transition is BOOL, and no EXIT of an action stands outside a FOR.
use Rattle.std.specs.Prelude.{List, [], ◌∷◌}
use Rattle.rules.specs.declared.rule.Rule.TheVariants.{OperandType}
use Rattle.source_tree.specs.Syntax.{PartData, step_part, transition_part, action_part}
use Rattle.typing.specs.Typing.{Scope}
use Rattle.rules.specs.Judgements.{Judgement, ok, and}
use Rattle.typing.specs.Judged.{judged_condition}
use Rattle.typing.specs.JudgedStatements.{judged_stmts}
use Rattle.typing.specs.JudgedExits.{judged_exits}

abbrev pub judged_part : Scope → PartData → Judgement
judged_part scope (step_part s) = ok
judged_part scope (transition_part t) = judged_condition scope OperandType t.condition
judged_part scope (action_part a) = and (judged_stmts scope [] a.body) (judged_exits a.body)

abbrev pub judged_parts : Scope → List PartData → Judgement
judged_parts scope [] = ok
judged_parts scope (p ∷ ps) = and (judged_part scope p) (judged_parts scope ps)
