-- Connections one by one.
use Rattle.std.proofs.Common.{◌≡◌, ℕ, Bool, true, false, ◌&&◌, List, ◌∷◌, refl, sym, ap, ◌∙◌}
use Rattle.std.specs.List.{list_all}
use Rattle.source_tree.specs.Syntax.{Named, ConnectionData}
use Rattle.rules.specs.declared.outcome.Outcome.{Outcome}
use Rattle.rules.specs.Outcomes.{outcome_of, both}
use Rattle.typing.specs.Typing.{Scope}
use Rattle.typing.specs.JudgedStatements.{judged_connection}
use Rattle.typing.specs.Outcomes.{connections_outcome}

and_next : (x y z : Bool) → ((x && y) && z) ≡ (x && (y && z))
and_next true y z = refl
and_next false y z = refl

-- one more connection, behind what was judged so far
pub one_connection_more : (scope : Scope) (controls : List ℕ) (n : Named) (o next out all : Outcome) (c : ConnectionData) (left cs : List ConnectionData) → left ≡ c ∷ cs
    → next ≡ outcome_of (judged_connection scope controls n c) → out ≡ both o next → connections_outcome scope controls n o left ≡ all → connections_outcome scope controls n out cs ≡ all
one_connection_more scope controls n o next out all c left cs split told is known =
    ap (λ (x : Outcome). connections_outcome scope controls n x cs) (is ∙ ap (both o) told) ∙ ap (connections_outcome scope controls n o) (sym split) ∙ known

-- and one more arrow
pub one_arrow_more : (f : ConnectionData → Bool) (so_far next out all : Bool) (c : ConnectionData) (left cs : List ConnectionData) → left ≡ c ∷ cs
    → next ≡ f c → out ≡ (so_far && next) → (so_far && list_all f left) ≡ all → (out && list_all f cs) ≡ all
one_arrow_more f so_far next out all c left cs split told is known =
    ap (λ b. b && list_all f cs) (is ∙ ap (λ b. so_far && b) told) ∙ and_next so_far (f c) (list_all f cs) ∙ ap (λ ds. so_far && list_all f ds) (sym split) ∙ known
