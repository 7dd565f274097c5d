-- What is known of each type, by the list of all.
use Rattle.std.proofs.Common.{◌≡◌, ℕ, zero, suc, ◌+◌, List, [], ◌∷◌, add-zero, zero-add, arith, get_or, Bool, false, Option, Some, None, option_map, refl, sym, ap, ◌∙◌, Bor}
use Rattle.std.specs.List.{slice_get}
use Rattle.std.proofs.lemmas.Option.{slice_get-map}
use Rattle.source_tree.specs.declared.syntax.TypeDeclaration.{TypeDeclaration}
use Rattle.source_tree.specs.Syntax.{TypeDeclarationData, SpecificationData, FileData}
use Rattle.source_tree.specs.SyntaxView.{specification_view, type_declaration_view}
use Rattle.naming.specs.declared.shape.Shape.{Shape}
use Rattle.naming.specs.Ends.{shape_of, shapes_from, wholes_from, AreShapes, Marks}
use Rattle.naming.specs.FileScope.{types_of}
use Rattle.naming.specs.ScopeView.{types_view}
use Rattle.naming.specs.Types.{specification_at, is_whole_end}

-- the specification of a type of a list
abbrev pub spelled : Bor TypeDeclaration → SpecificationData
spelled d = specification_view d.now.specification

pub specification_at-listed : (f : FileData) (ds : List (Bor TypeDeclaration)) (t : ℕ) → types_view ds ≡ types_of f → specification_at f t ≡ option_map spelled (slice_get ds t)
specification_at-listed f ds t h =
    ap (λ ts. option_map (λ d. d.specification) (slice_get ts t)) (sym h) ∙ ap (option_map (λ d. d.specification)) (slice_get-map (λ d. type_declaration_view d.now) ds t) ∙ by (slice_get ds t)
  where
    by : (o : Option (Bor TypeDeclaration)) → option_map (λ (d : TypeDeclarationData). d.specification) (option_map (λ d. type_declaration_view d.now) o) ≡ option_map spelled o
    by None = refl
    by (Some d) = refl

module _ (f : FileData) where
  shapes-get : (number : ℕ) (ds : List TypeDeclarationData) (t : ℕ) → slice_get (shapes_from f number ds) t ≡ option_map (λ d. shape_of f (number + t) d.specification) (slice_get ds t)
  shapes-get number [] t = refl
  shapes-get number (d ∷ ds) zero = ap (λ k. Some (shape_of f k d.specification)) (sym (add-zero number))
  shapes-get number (d ∷ ds) (suc t) = shapes-get (number + 1) ds t ∙ ap (λ k. option_map (λ (d : TypeDeclarationData). shape_of f k d.specification) (slice_get ds t)) (omega arith)

  pub shapes_all : (ds : List TypeDeclarationData) (ss : List Shape) → ds ≡ types_of f → ss ≡ shapes_from f 0 ds → AreShapes f ss
  shapes_all ds ss h is t =
      ap (λ xs. slice_get xs t) (is ∙ ap (shapes_from f 0) h) ∙ shapes-get 0 (types_of f) t ∙ ap (λ k. option_map (λ (d : TypeDeclarationData). shape_of f k d.specification) (slice_get (types_of f) t)) (zero-add t) ∙ by (slice_get (types_of f) t)
    where
      by : (o : Option TypeDeclarationData) → option_map (λ (d : TypeDeclarationData). shape_of f t d.specification) o ≡ option_map (shape_of f t) (option_map (λ (d : TypeDeclarationData). d.specification) o)
      by None = refl
      by (Some d) = refl

  wholes-get : (number : ℕ) (ds : List TypeDeclarationData) (t : ℕ) → get_or (wholes_from f number ds) t false ≡ is_whole_end f (number + t) (option_map (λ (d : TypeDeclarationData). d.specification) (slice_get ds t))
  wholes-get number [] t = refl
  wholes-get number (d ∷ ds) zero = ap (λ k. is_whole_end f k (Some d.specification)) (sym (add-zero number))
  wholes-get number (d ∷ ds) (suc t) = wholes-get (number + 1) ds t ∙ ap (λ k. is_whole_end f k (option_map (λ (d : TypeDeclarationData). d.specification) (slice_get ds t))) (omega arith)

  pub wholes_all : (ds : List TypeDeclarationData) (marks : List Bool) → ds ≡ types_of f → marks ≡ wholes_from f 0 ds → Marks marks (λ t. is_whole_end f t (specification_at f t))
  wholes_all ds marks h is t =
      ap (λ xs. get_or xs t false) (is ∙ ap (wholes_from f 0) h) ∙ wholes-get 0 (types_of f) t ∙ ap (λ k. is_whole_end f k (specification_at f t)) (zero-add t)
