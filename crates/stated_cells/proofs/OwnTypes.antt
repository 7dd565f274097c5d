-- The type of a variable is elementary, or an enumeration of its file.
use Rattle.std.proofs.Common.{◌≡◌, ℕ, Bool, true, false, true≢false, Option, Some, None, refl}
use Rattle.plc_types.specs.declared.elementary.Elementary.{Elementary}
use Rattle.source_tree.specs.Syntax.{Named, BoundsData, TypeData, of_elementary, of_subrange, of_name, SpecificationData, of_type, of_values, FileData}
use Rattle.naming.specs.declared.standing.Standing.{Standing}
use Rattle.naming.specs.declared.standing.Standing.TheVariants as standings
use Rattle.naming.specs.FileScope.{types_of, standing}
use Rattle.naming.specs.Types.{end_of, specification_at, end_specification}
use Rattle.naming.specs.Scopes.{Variable}
use Rattle.typing.specs.declared.domain.Domain.{Domain}
use Rattle.typing.specs.Typing.{is_unknown}
use Rattle.typing.specs.Domains.{has_few, judged_subrange, no_domain, subrange_domain, enumeration_domain, end_domain, named_domain}
use Rattle.typing.specs.Variables.{domain_if, domain_of_variable}
use Rattle.typing.specs.TypedPrograms.{type_texts}
use Rattle.stated_cells.specs.StatedCells.{IsOfTypes}
use Rattle.stated_cells.proofs.Lasts.{has_those}

IsOf : FileData → Domain → Type 0
IsOf f d = is_unknown d.kind ≡ false → IsOfTypes (type_texts (types_of f)) d.kind

none_of : (f : FileData) → IsOf f no_domain
unfolding IsOf
none_of f known = absurd (true≢false known)

subrange_by : (c : Bool) (f : FileData) (k : Elementary) (at : ℕ) (b : BoundsData) → (judged_subrange f k at b).whole ≡ c → IsOf f (subrange_domain f k at b)
unfolding IsOf
subrange_by true f k at b is = rw is (λ known. tt)
subrange_by false f k at b is = rw is (none_of f)

enumeration_by : (c : Bool) (f : FileData) (t at : ℕ) (first : Named) (others : _) → specification_at f t ≡ Some (of_values at first others) → has_few others ≡ c → IsOf f (enumeration_domain t others)
unfolding IsOf
enumeration_by true f t at first others there is = rw is (λ known. has_those f t at first others there)
enumeration_by false f t at first others there is = rw is (none_of f)

end_of_types : (f : FileData) (t : ℕ) (s : Option SpecificationData) → specification_at f t ≡ s → IsOf f (end_domain f t s)
unfolding IsOf
end_of_types f t None is = none_of f
end_of_types f t (Some (of_values at first others)) is = enumeration_by (has_few others) f t at first others is refl
end_of_types f t (Some (of_type (of_elementary k at))) is = λ known. tt
end_of_types f t (Some (of_type (of_subrange k at b))) is = subrange_by (judged_subrange f k at b).whole f k at b refl
end_of_types f t (Some (of_type (of_name n))) is = none_of f

named_of_types : (f : FileData) (s : Option Standing) → IsOf f (named_domain f s)
named_of_types f None = none_of f
named_of_types f (Some (standings.Type t)) = end_of_types f (end_of f t) (end_specification f t) refl
named_of_types f (Some (standings.Value t k)) = none_of f
named_of_types f (Some (standings.Pou p)) = none_of f

domain_of_types : (f : FileData) (t : Option TypeData) → IsOf f (domain_if f t)
unfolding IsOf
domain_of_types f None = λ known. tt
domain_of_types f (Some (of_elementary k at)) = λ known. tt
domain_of_types f (Some (of_subrange k at b)) = subrange_by (judged_subrange f k at b).whole f k at b refl
domain_of_types f (Some (of_name n)) = named_of_types f (standing f n.text)

pub kind_of_types : (f : FileData) (v : Variable) → is_unknown (domain_of_variable f v).kind ≡ false → IsOfTypes (type_texts (types_of f)) (domain_of_variable f v).kind
unfolding IsOf
kind_of_types f v known = domain_of_types f v.kind known
