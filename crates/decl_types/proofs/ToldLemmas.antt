-- What is told of the variables of a POU.
use Rattle.std.specs.List.{slice_get}
use Rattle.std.proofs.lemmas.Option.{slice_get-map}
use Rattle.std.proofs.Common.{◌≡◌, ℕ, List, [], ◌∷◌, Option, Some, option_map, refl, sym, ap, ◌∙◌}
use Rattle.source_tree.specs.Syntax.{FileData}
use Rattle.naming.specs.declared.variable.Declared.{Declared}
use Rattle.naming.specs.Scopes.{Variable, block_of}
use Rattle.naming.specs.ScopeView.{variable_view, variables_view}
use Rattle.file_bindings.specs.Bindings.{HaveBlocks}
use Rattle.rules.specs.declared.outcome.Outcome.{Outcome}
use Rattle.rules.specs.Outcomes.{outcome_of, both}
use Rattle.typing.specs.Outcomes.{variables_outcome}
use Rattle.typing.specs.Variables.{judged_variable}
use Rattle.decl_types.specs.Told.{told_in, told_outcome}

-- what they break is what their declarations break
pub told_outcome-is : (f : FileData) (o : Outcome) (vs : List Variable) → told_outcome o (told_in f vs) ≡ variables_outcome f o vs
told_outcome-is f o [] = refl
told_outcome-is f o (v ∷ vs) = told_outcome-is f (both o (outcome_of (judged_variable f v))) vs

some_same : {A : Type 0} (a b : A) → Some a ≡ Some b → a ≡ b
some_same a b h = cc

-- the block of a declaration, of one of those of which the blocks are known
pub block_at : (f : FileData) (ds : List Declared) (i : ℕ) (d : Declared) → HaveBlocks f ds → slice_get ds i ≡ Some d → d.block ≡ block_of f (variable_view d)
block_at f ds i d known there =
    some_same d.block (block_of f (variable_view d))
    (ap (option_map (λ (x : Declared). x.block)) (sym there) ∙ sym (slice_get-map (λ (x : Declared). x.block) ds i)
    ∙ ap (λ (bs : List (Option ℕ)). slice_get bs i) known
    ∙ slice_get-map (block_of f) (variables_view ds) i ∙ ap (option_map (block_of f)) (slice_get-map variable_view ds i ∙ ap (option_map variable_view) there))
