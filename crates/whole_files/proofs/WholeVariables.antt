-- Each variable of a file that breaks no rule is whole, and of a known type where it is no instance.
use Rattle.std.proofs.Common.{◌≡◌, ℕ, ◌+◌, List, [], ◌∷◌, Bool, true, false, true≢false, ◌||◌, Option, Some, None, option_map, is_some, if◌then◌else◌, refl, sym, ap, ◌∙◌}
use Rattle.std.specs.List.{list_all}
use Rattle.std.specs.Option.{unwrap_or}
use Rattle.std.proofs.lemmas.Bool.{and_from, and_parts}
use Rattle.plc_types.specs.declared.operator.UnaryOperator.TheVariants as signs
use Rattle.plc_types.specs.DataTypes.{is_same_type}
use Rattle.plc_types.specs.Types.{in_range}
use Rattle.rules.specs.declared.rule.Rule.TheVariants.{ValueType, OutsideType}
use Rattle.rules.specs.Judgements.{ok, suppressed, require}
use Rattle.source_tree.specs.Syntax.{Named, Tree, literal, path, enumerator, paren, unary, chain, call, TypeData, of_elementary, of_subrange, of_name, FileData}
use Rattle.source_tree.specs.Levels.{IsConstant, IsInitialFormed, IsFileLevelled}
use Rattle.naming.specs.Seen.{Seen}
use Rattle.naming.specs.FileScope.{types_of, standing, is_value}
use Rattle.naming.specs.Scopes.{Variable, PouScope, seen_named, is_fault, block_of, is_whole_type, is_typed}
use Rattle.naming.specs.Broken.{misused, in_value_name, in_value, in_declared_constant, in_initial, in_kind, in_declaration, in_declarations, broken_names}
use Rattle.naming.specs.DeclarationUses.{is_circular_variable}
use Rattle.alike_scopes.specs.st_names.Bound.{are_typed}
use Rattle.alike_scopes.proofs.st_names.Clean.{parts, no_doubles}
use Rattle.typing.specs.declared.domain.Domain.{Domain}
use Rattle.typing.specs.Typing.{is_unknown, type_of, place_of}
use Rattle.typing.specs.Judged.{judged}
use Rattle.typing.specs.Typed.{constant_of}
use Rattle.typing.specs.Domains.{values_scope, judged_types}
use Rattle.typing.specs.Variables.{domain_if, domain_of_variable, judged_type_if, judged_initial, judged_value, judged_instance, judged_by_block, judged_variable, judged_variables}
use Rattle.alike_scopes.specs.typed_scopes.Uses.{IsWithin, IsOptionWithin}
use Rattle.alike_scopes.proofs.typed_scopes.Wholes.{whole_and}
use Rattle.alike_scopes.specs.bound_names.BoundNames.{value_uses}
use Rattle.whole_files.proofs.Told.{IsTold, nil_front, nil_behind, told_ok, told_said, told_require}
use Rattle.whole_files.proofs.ToldTrees.{tree_told}
use Rattle.alike_scopes.proofs.bound_names.NameParts.{never, fails_by, value_name_is, enumerator_value}
use Rattle.whole_files.proofs.Formed.{IsKindFormed, AreFormed}
use Rattle.whole_files.proofs.WholeDomains.{IsKnownDomain, values_whole, subrange_told, subrange_known, named_known}

-- a variable is whole, and of a known type where it is no instance
pub record IsWholeVariable (f : FileData) (v : Variable) : Type 0 where
  pub whole : (judged_variable f v).whole ≡ true
  pub known : block_of f v ≡ None → is_unknown (domain_of_variable f v).kind ≡ false

abbrev pub AreWholeVariables : FileData → List Variable → Type 0
AreWholeVariables f [] = Unit {0}
AreWholeVariables f (v ∷ vs) = IsWholeVariable f v × AreWholeVariables f vs

module _ (f : FileData) (none : broken_names f ≡ []) (levels : IsFileLevelled f) (types : (judged_types f (types_of f)).broken ≡ []) where
  module _ (p : PouScope) where
    -- ---- constants in declarations

    value_by : (s : Option Seen) (n : Named) → (in_value f p s n).whole ≡ true → is_value (standing f n.text) ≡ true
    value_by (Some s) n h = absurd (by s.whole h)
      where
        by : (b : Bool) → (if b then misused n else suppressed).whole ≡ true → ⊥
        by true k = true≢false (sym k)
        by false k = true≢false (sym k)
    value_by None n h = value_name_is f n (fails_by (is_fault p.has_fault n.text) (misused n) (in_value_name f n) (never false refl) h).1

    constant_within : (user : ℕ) (e : Tree) → IsConstant e → (in_declared_constant f p user e).whole ≡ true → IsWithin (value_uses f) e
    constant_within user (literal l) formed h = tt
    constant_within user (path q) formed h =
        value_by (seen_named f p q.first.text) q.first (fails_by (is_circular_variable p user q.first) (misused q.first) (in_value f p (seen_named f p q.first.text) q.first) (never false refl) h).1
    constant_within user (enumerator t v) formed h = enumerator_value f (no_doubles f (parts f none).1) t v h
    constant_within user (paren at e) formed h = absurd formed
    constant_within user (unary signs.Minus at (literal l)) formed h = tt
    constant_within user (unary o at e) formed h = absurd formed
    constant_within user (chain e ls) formed h = absurd formed
    constant_within user (call n at args) formed h = absurd formed

    initial_within : (user : ℕ) (e : Option Tree) → IsInitialFormed e → (in_initial f p user e).whole ≡ true → IsOptionWithin (value_uses f) e
    initial_within user None formed h = tt
    initial_within user (Some e) formed h = constant_within user e formed h

    -- ---- types

    pub record IsTypeWhole (k : Option TypeData) : Type 0 where
      pub whole : (judged_type_if f k).whole ≡ true
      pub known : IsKnownDomain (domain_if f k)

    type_whole : (user : ℕ) (v : Variable) (k : Option TypeData) → IsKindFormed k → (in_kind f p user v k).whole ≡ true → unwrap_or (option_map (is_whole_type f) k) true ≡ true → (judged_type_if f k).broken ≡ [] → IsTypeWhole k
    type_whole user v None formed h typed broken = record { whole = refl; known = (refl, refl) }
    type_whole user v (Some (of_elementary k at)) formed h typed broken = record { whole = refl; known = (refl, refl) }
    type_whole user v (Some (of_subrange k at b)) formed h typed broken =
        let two = whole_and (in_declared_constant f p user b.low) (in_declared_constant f p user b.high) h in
        let whole = subrange_told f none levels types k at b (constant_within user b.low formed.0 two.0) (constant_within user b.high formed.1 two.1) broken in
        record { whole = whole; known = subrange_known f none levels types k at b whole }
    type_whole user v (Some (of_name n)) formed h typed broken =
        let known = named_known f none levels types n typed in
        record { whole = ap (λ (w : Bool). (if w then ok else suppressed).whole) known.0; known = known }

    -- ---- initial values

    initial_told : (d : Domain) → is_unknown d.kind ≡ false → (at : ℕ) (e : Option Tree) → IsOptionWithin (value_uses f) e → IsTold (judged_initial f d at e)
    initial_told d known at None within = told_ok
    initial_told d known at (Some e) within =
        let value = judged (values_scope f) (Some d.kind) e in
        let same = is_same_type (type_of (values_scope f) (Some d.kind) e) d.kind in
        told_require (require value same ValueType at) (in_range (constant_of (values_scope f) d.kind e) d.range) OutsideType (place_of e)
        (told_require value same ValueType at (tree_told (values_scope f) (value_uses f) (values_whole f none levels types) (Some d.kind) known e within))

    instance_told : (at : ℕ) (e : Option Tree) → IsOptionWithin (value_uses f) e → IsTold (judged_instance f at e)
    instance_told at None within = told_ok
    instance_told at (Some e) within =
        told_require (judged (values_scope f) None e) false ValueType at (tree_told (values_scope f) (value_uses f) (values_whole f none levels types) None tt e within)

    -- ---- variables

    plain_whole : (user : ℕ) (v : Variable) → IsKindFormed v.kind → IsInitialFormed v.initial → (in_declaration f p user v).whole ≡ true → unwrap_or (option_map (is_whole_type f) v.kind) true ≡ true
        → (judged_by_block f v None).broken ≡ [] → ((judged_by_block f v None).whole ≡ true) × (is_unknown (domain_of_variable f v).kind ≡ false)
    plain_whole user v kind initial h typed broken =
        let d = domain_of_variable f v in
        let value = judged_value f d v.name.at v.initial in
        let two = whole_and (in_kind f p user v v.kind) (in_initial f p user v.initial) h in
        let t = type_whole user v v.kind kind two.0 typed (nil_front (judged_type_if f v.kind).broken value.broken broken) in
        let told = told_said d.whole (judged_initial f d v.name.at v.initial) t.known.0 (initial_told d t.known.1 v.name.at v.initial (initial_within user v.initial initial two.1)) in
        (and_from (judged_type_if f v.kind).whole value.whole t.whole (told (nil_behind (judged_type_if f v.kind).broken value.broken broken)), t.known.1)

    typed_by : (o : Option ℕ) (w : Bool) → o ≡ None → (is_some o || w) ≡ true → w ≡ true
    typed_by None w e h = h
    typed_by (Some b) w e h = absurd (let z : ⊥ = cc in z)

    variable_by : (user : ℕ) (v : Variable) → IsKindFormed v.kind → IsInitialFormed v.initial → (in_declaration f p user v).whole ≡ true → is_typed f v ≡ true
        → (o : Option ℕ) → block_of f v ≡ o → (judged_by_block f v o).broken ≡ [] → ((judged_by_block f v o).whole ≡ true) × (block_of f v ≡ None → is_unknown (domain_of_variable f v).kind ≡ false)
    variable_by user v kind initial h typed None e broken =
        let r = plain_whole user v kind initial h (typed_by (block_of f v) (unwrap_or (option_map (is_whole_type f) v.kind) true) e typed) broken in
        (r.0, λ is. r.1)
    variable_by user v kind initial h typed (Some b) e broken =
        let two = whole_and (in_kind f p user v v.kind) (in_initial f p user v.initial) h in
        (instance_told v.name.at v.initial (initial_within user v.initial initial two.1) broken, λ is. absurd (let same : Some b ≡ None = sym e ∙ is in let z : ⊥ = cc in z))

    pub variables_whole : (number : ℕ) (vs : List Variable) → AreFormed vs → (in_declarations f p number vs).whole ≡ true → are_typed f vs ≡ true → (judged_variables f vs).broken ≡ [] → AreWholeVariables f vs
    variables_whole number [] formed h typed broken = tt
    variables_whole number (v ∷ vs) formed h typed broken =
        let two = whole_and (in_declaration f p number v) (in_declarations f p (number + 1) vs) h in
        let all = and_parts (is_typed f v) (list_all (is_typed f) vs) typed in
        let own = (judged_variable f v).broken in
        let rest = (judged_variables f vs).broken in
        let r = variable_by number v formed.0 formed.1 two.0 all.0 (block_of f v) refl (nil_front own rest broken) in
        (record { whole = r.0; known = r.1 }, variables_whole (number + 1) vs formed.2 two.1 all.1 (nil_behind own rest broken))

pub all_whole : (f : FileData) (vs : List Variable) → AreWholeVariables f vs → (judged_variables f vs).whole ≡ true
all_whole f [] all = refl
all_whole f (v ∷ vs) all = and_from (judged_variable f v).whole (judged_variables f vs).whole all.0.whole (all_whole f vs all.1)
