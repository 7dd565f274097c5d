-- The domain at the end of a type's way.
use Rattle.std.proofs.Common.{◌≡◌, ℕ, zero, suc, ◌+◌, List, [], ◌∷◌, Option, Some, None, option_map, refl, sym, ap, ◌∙◌, add-zero, zero-add, arith}
use Rattle.std.specs.Prelude.{unwrap_or}
use Rattle.std.specs.List.{slice_get}
use Rattle.source_tree.specs.Syntax.{TypeDeclarationData, FileData}
use Rattle.naming.specs.FileScope.{types_of}
use Rattle.naming.specs.Types.{specification_at}
use Rattle.typing.specs.declared.domain.Domain.{Domain}
use Rattle.typing.specs.Domains.{no_domain, end_domain}
use Rattle.typing.specs.OwnDomains.{own_domains}

own_at : (f : FileData) (number : ℕ) (ds : List TypeDeclarationData) (i : ℕ) → slice_get (own_domains f number ds) i ≡ option_map (λ (d : TypeDeclarationData). end_domain f (number + i) (Some d.specification)) (slice_get ds i)
own_at f number [] i = refl
own_at f number (d ∷ ds) zero = ap (λ k. Some (end_domain f k (Some d.specification))) (sym (add-zero number))
own_at f number (d ∷ ds) (suc i) =
    let next : number + 1 + i ≡ number + suc i = omega arith in
    own_at f (number + 1) ds i ∙ ap (λ k. option_map (λ (x : TypeDeclarationData). end_domain f k (Some x.specification)) (slice_get ds i)) next

or_none : (f : FileData) (e : ℕ) (o : Option TypeDeclarationData)
    → unwrap_or (option_map (λ (d : TypeDeclarationData). end_domain f e (Some d.specification)) o) no_domain ≡ end_domain f e (option_map (λ (d : TypeDeclarationData). d.specification) o)
or_none f e None = refl
or_none f e (Some d) = refl

pub end_of_own : (f : FileData) (own : List Domain) (e : ℕ) → own ≡ own_domains f 0 (types_of f) → unwrap_or (slice_get own e) no_domain ≡ end_domain f e (specification_at f e)
end_of_own f own e spelled =
    ap (λ (l : List Domain). unwrap_or (slice_get l e) no_domain) spelled
    ∙ ap (λ (o : Option Domain). unwrap_or o no_domain) (own_at f 0 (types_of f) e ∙ ap (λ k. option_map (λ (d : TypeDeclarationData). end_domain f k (Some d.specification)) (slice_get (types_of f) e)) (zero-add e))
    ∙ or_none f e (slice_get (types_of f) e)
