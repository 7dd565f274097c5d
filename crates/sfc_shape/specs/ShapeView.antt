-- The data that references to the parts of a chart stand for, and what is kept by a name.
use Rattle.std.specs.Prelude.{ℕ, ◌+◌, List, [], ◌∷◌, map, Option, Some, None, option_map, unwrap_or, if◌then◌else◌, Vec, String}
use Rattle.std.specs.Str.{bytes_eq}
use Rattle.std.specs.HashMap.{HashMap, get_by_text}
use Rattle.std.specs.declared.alloc.Global.{Global}
use denote.Ref.{Bor}
use Rattle.source_tree.specs.declared.syntax.ChartStep.{ChartStep}
use Rattle.source_tree.specs.declared.syntax.ChartTransition.{ChartTransition}
use Rattle.source_tree.specs.declared.syntax.ChartAction.{ChartAction}
use Rattle.program_tree.specs.declared.typed.Association.{Association}
use Rattle.source_tree.specs.Syntax.{ChartStepData, ChartTransitionData, ChartActionData}
use Rattle.source_tree.specs.SyntaxView.{chart_step_view, chart_transition_view, chart_action_view}

abbrev pub seen_steps : List (Bor ChartStep) → List ChartStepData
seen_steps ss = map (λ s. chart_step_view s.now) ss

abbrev pub seen_transitions : List (Bor ChartTransition) → List ChartTransitionData
seen_transitions ts = map (λ t. chart_transition_view t.now) ts

abbrev pub seen_actions : List (Bor ChartAction) → List ChartActionData
seen_actions actions = map (λ a. chart_action_view a.now) actions

-- the number of the first step of a name, where one has it
abbrev pub number_found : ℕ → List ChartStepData → List ℕ → Option ℕ
number_found i [] text = None
number_found i (s ∷ ss) text = if bytes_eq s.name.text text then Some i else number_found (i + 1) ss text

-- the associations that are kept by a name
abbrev pub listed : {S : Type 0} → HashMap (String Global) (Vec Association Global) S → List ℕ → List Association
listed m text = unwrap_or (option_map (λ v. v.items) (get_by_text m text)) []
