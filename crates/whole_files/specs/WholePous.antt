-- What is whole of a POU.
use Rattle.std.specs.Prelude.{◌≡◌, ℕ, List, true, All}
use Rattle.source_tree.specs.Syntax.{PartData, BodyData, statements, chart as chart_body, PouData, FileData}
use Rattle.naming.specs.Scopes.{variables_in_pou}
use Rattle.sfc_shape.specs.Shapes.{transitions_of, actions_of}
use Rattle.typing.specs.Typing.{Scope}
use Rattle.typing.specs.Variables.{judged_variables}
use Rattle.typing.specs.Places.{sizes_of}
use Rattle.typing.specs.Members.{scope_of}
use Rattle.typing.specs.Pous.{judged_body}
use Rattle.alike_scopes.specs.typed_scopes.Charts.{NamesSteps, IsNamedBySteps}

-- its variables, and its body over the scope in which it is typed
pub record IsWholePou (f : FileData) (k : ℕ) (d : PouData) : Type 0 where
  pub variables : (judged_variables f (variables_in_pou d)).whole ≡ true
  pub body : (judged_body (scope_of f (sizes_of f) k) d.body).whole ≡ true

-- the transitions and the actions of a chart name its steps
pub record IsNamedChart (scope : Scope) (ps : List PartData) : Type 0 where
  pub transitions : All (NamesSteps ps) (transitions_of ps)
  pub actions : All (IsNamedBySteps scope ps) (actions_of ps)

abbrev pub IsNamedBody : Scope → BodyData → Type 0
IsNamedBody scope (statements ss) = Unit {0}
IsNamedBody scope (chart_body ps) = IsNamedChart scope ps
