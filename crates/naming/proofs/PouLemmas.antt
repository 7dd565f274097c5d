-- What is known of each POU, by the list of all.
use Rattle.std.proofs.Common.{◌≡◌, List, map, Option, Some, None, option_map, refl, sym, ap, ◌∙◌, Bor}
use Rattle.std.specs.List.{slice_get}
use Rattle.std.proofs.lemmas.Option.{slice_get-map}
use Rattle.source_tree.specs.declared.syntax.Pou.{Pou}
use Rattle.source_tree.specs.Syntax.{PouData, FileData}
use Rattle.source_tree.specs.SyntaxView.{pou_type_view, pou_view}
use Rattle.naming.specs.declared.pou_shape.PouShape.{PouShape}
use Rattle.naming.specs.FileScope.{pous_of}
use Rattle.naming.specs.PouShapes.{pou_shape, ArePouShapes}
use Rattle.naming.specs.ScopeView.{pous_view}

pub shapes_listed : (f : FileData) (ps : List (Bor Pou)) (ss : List PouShape) → pous_view ps ≡ pous_of f → ss ≡ map (λ p. pou_shape f (pou_type_view p.now.pou_type)) ps → ArePouShapes f ss
shapes_listed f ps ss listed is number =
    ap (λ xs. slice_get xs number) is ∙ slice_get-map (λ p. pou_shape f (pou_type_view p.now.pou_type)) ps number ∙ by (slice_get ps number)
    ∙ ap (λ o. option_map (pou_shape f) (option_map (λ (p : PouData). p.pou_type) o)) (sym (slice_get-map (λ p. pou_view p.now) ps number))
    ∙ ap (λ xs. option_map (pou_shape f) (option_map (λ (p : PouData). p.pou_type) (slice_get xs number))) listed
  where
    by : (o : Option (Bor Pou)) → option_map (λ p. pou_shape f (pou_type_view p.now.pou_type)) o ≡ option_map (pou_shape f) (option_map (λ (p : PouData). p.pou_type) (option_map (λ p. pou_view p.now) o))
    by None = refl
    by (Some p) = refl
