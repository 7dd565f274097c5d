-- Which types are declared in terms of themselves.
use Rattle.std.proofs.Common.{◌≡◌, ◌<◌, ◌==◌, ◌&&◌, ℕ, suc, ◌+◌, List, [], ◌∷◌, length, get_or, Bool, Some, option_map, is_some, refl, sym, ap, ◌∙◌, arith, add-zero, Bor}
use Rattle.std.specs.List.{list_any}
use Rattle.std.specs.Option.{option_and_then}
use Rattle.std.proofs.lemmas.Option.{slice_get_read}
use Rattle.source_tree.specs.declared.syntax.TypeDeclaration.{TypeDeclaration}
use Rattle.source_tree.specs.Syntax.{TypeDeclarationData, FileData}
use Rattle.naming.specs.Ends.{Leads}
use Rattle.naming.specs.FileScope.{types_of}
use Rattle.naming.specs.ScopeView.{types_view}
use Rattle.naming.specs.Types.{named_type, specification_at, end_of, ends_from, is_circular}
use Rattle.naming.proofs.ShapeLemmas.{spelled, specification_at-listed}

ends_listed : (f : FileData) (number : ℕ) (ds : List TypeDeclarationData) (es : List ℕ) → length es ≡ length ds → ((i : ℕ) → i < length es → get_or es i (number + i) ≡ end_of f (number + i)) → ends_from f number ds ≡ es
ends_listed f number [] [] l h = refl
ends_listed f number [] (e ∷ es) l h = absurd (omega arith)
ends_listed f number (d ∷ ds) [] l h = absurd (omega arith)
ends_listed f number (d ∷ ds) (e ∷ es) l h =
    let here : end_of f number ≡ e = ap (end_of f) (sym (add-zero number)) ∙ sym (h 0 (omega arith)) in
    let rest = ends_listed f (number + 1) ds es (omega arith) (λ i below. let same : number + 1 + i ≡ number + suc i = omega arith in rw same (h (suc i) (omega arith))) in
    rw (here, rest) refl

pub ends_all : (f : FileData) (es : List ℕ) → Leads es (end_of f) → length es ≡ length (types_of f) → ends_from f 0 (types_of f) ≡ es
ends_all f es led l = ends_listed f 0 (types_of f) es l (λ i below. let same : 0 + i ≡ i = omega arith in rw same (led i))

pub circular_is : (f : FileData) (ds : List (Bor TypeDeclaration)) (es : List ℕ) (number : ℕ) (x : Bor TypeDeclaration) (reached : Bool) → types_view ds ≡ types_of f → Leads es (end_of f) → length es ≡ length (types_of f)
    → number < length ds → x ≡ get_or ds number x → reached ≡ list_any (λ e. e == number) es → (is_some (named_type f (spelled x)) && reached) ≡ is_circular f number
circular_is f ds es number x reached listed led l below at marked =
    let there : specification_at f number ≡ Some (spelled x) = specification_at-listed f ds number listed ∙ ap (option_map spelled) (slice_get_read ds (length ds) number x refl below at) in
    ap (λ b. is_some (named_type f (spelled x)) && b) (marked ∙ ap (list_any (λ e. e == number)) (sym (ends_all f es led l)))
    ∙ ap (λ s. is_some (option_and_then (named_type f) s) && list_any (λ e. e == number) (ends_from f 0 (types_of f))) (sym there)
