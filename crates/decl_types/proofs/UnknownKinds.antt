-- Domains of types that break a rule, or that are those of instances: they have no kind, so that no initial value fits them.
use Rattle.std.proofs.Common.{◌≡◌, ℕ, Bool, true, false, if◌then◌else◌, List, length, Option, Some, None, refl, sym, ap, ◌∙◌}
use Rattle.std.specs.Prelude.{ℤ, pos}
use Rattle.std.proofs.lemmas.Bool.{false≢true}
use Rattle.rules.specs.declared.rule.Rule.{Rule}
use Rattle.rules.specs.declared.rule.Rule.TheVariants.{ValueType, OutsideType}
use Rattle.rules.specs.Judgements.{Judgement, require}
use Rattle.plc_types.specs.declared.data_type.DataType.{DataType}
use Rattle.plc_types.specs.declared.data_type.DataType.TheVariants.{Elementary as OfElementary, Enumeration, Unknown}
use Rattle.plc_types.specs.declared.elementary.Elementary.{Elementary}
use Rattle.plc_types.specs.declared.elementary.Elementary.TheVariants as types
use Rattle.plc_types.specs.DataTypes.{is_same_type}
use Rattle.source_tree.specs.Syntax.{Named, BoundsData, Tree, TypeData, of_elementary, of_subrange, of_name, SpecificationData, of_type, of_values, FileData}
use Rattle.naming.specs.declared.standing.Standing.{Standing}
use Rattle.naming.specs.declared.standing.Standing.TheVariants as standings
use Rattle.naming.specs.FileScope.{standing}
use Rattle.naming.specs.Types.{end_of, end_specification}
use Rattle.typing.specs.declared.domain.Domain.{Domain}
use Rattle.typing.specs.Domains.{no_domain, elementary_domain, has_few, bounds_of, judged_subrange, subrange_domain, enumeration_domain, end_domain, named_domain, values_scope}
use Rattle.typing.specs.Typing.{type_of}
use Rattle.typing.specs.Judged.{judged}
use Rattle.typing.specs.Variables.{domain_if, given_value, judged_initial, start_of}

-- a domain has values, or no kind
abbrev IsKnown : Domain → Type 0
IsKnown d = d.whole ≡ false → d.kind ≡ Unknown

of_whole : (d : Domain) → d.whole ≡ true → IsKnown d
of_whole d whole not = absurd (false≢true (sym not ∙ whole))

of_choice : (x : Bool) (d : Domain) → d.whole ≡ true → IsKnown (if x then d else no_domain)
of_choice true d whole = of_whole d whole
of_choice false d whole = λ not. refl

of_subrange_domain : (f : FileData) (k : Elementary) (at : ℕ) (b : BoundsData) → IsKnown (subrange_domain f k at b)
of_subrange_domain f k at b =
    of_choice (judged_subrange f k at b).whole (record { kind = OfElementary k; range = bounds_of f k b; is_subrange = true; start = (bounds_of f k b).low; whole = true }) refl

of_enumeration : (number : ℕ) (others : List Named) → IsKnown (enumeration_domain number others)
of_enumeration number others =
    of_choice (has_few others) (record { kind = Enumeration number; range = record { low = pos 0; high = pos (length others) }; is_subrange = false; start = pos 0; whole = true }) refl

of_end : (f : FileData) (number : ℕ) (s : Option SpecificationData) → IsKnown (end_domain f number s)
of_end f number None = λ not. refl
of_end f number (Some (of_values at first others)) = of_enumeration number others
of_end f number (Some (of_type (of_elementary k at))) = of_whole (elementary_domain k) refl
of_end f number (Some (of_type (of_subrange k at b))) = of_subrange_domain f k at b
of_end f number (Some (of_type (of_name n))) = λ not. refl

of_named : (f : FileData) (s : Option Standing) → IsKnown (named_domain f s)
of_named f None = λ not. refl
of_named f (Some (standings.Type t)) = of_end f (end_of f t) (end_specification f t)
of_named f (Some (standings.Value t k)) = λ not. refl
of_named f (Some (standings.Pou p)) = λ not. refl

pub unknown_kind : (f : FileData) (t : Option TypeData) → (domain_if f t).whole ≡ false → (domain_if f t).kind ≡ Unknown
unknown_kind f None = of_whole (elementary_domain types.Bool) refl
unknown_kind f (Some (of_elementary k at)) = of_whole (elementary_domain k) refl
unknown_kind f (Some (of_subrange k at b)) = of_subrange_domain f k at b
unknown_kind f (Some (of_name n)) = of_named f (standing f n.text)

no_kind : (t : DataType) → is_same_type t Unknown ≡ false
no_kind (OfElementary k) = refl
no_kind (Enumeration n) = refl
no_kind Unknown = refl

broken : (w holds : Bool) (j : Judgement) (rule : Rule) (at : ℕ) → j.whole ≡ w → holds ≡ false → (require j holds rule at).whole ≡ false
broken true holds j rule at whole not = rw (whole, not) refl
broken false holds j rule at whole not = rw whole refl

broken_again : (holds : Bool) (j : Judgement) (rule : Rule) (at : ℕ) → j.whole ≡ false → (require j holds rule at).whole ≡ false
broken_again holds j rule at whole = rw whole refl

by_whole : (w : Bool) (given start : ℤ) → w ≡ false → (if w then given else start) ≡ start
by_whole true given start not = absurd (false≢true (sym not))
by_whole false given start not = refl

-- a variable of such a domain begins as its type does
pub unknown_start : (f : FileData) (d : Domain) (at : ℕ) (initial : Option Tree) → d.kind ≡ Unknown → d.start ≡ start_of f d at initial
unknown_start f d at None unknown = refl
unknown_start f d at (Some e) unknown =
    let j = judged (values_scope f) (Some d.kind) e in
    let t = type_of (values_scope f) (Some d.kind) e in
    let other : is_same_type t d.kind ≡ false = ap (is_same_type t) unknown ∙ no_kind t in
    sym (by_whole (judged_initial f d at (Some e)).whole (given_value f d (Some e)) d.start
    (broken_again _ (require j (is_same_type t d.kind) ValueType at) OutsideType _ (broken j.whole (is_same_type t d.kind) j ValueType at refl other)))
