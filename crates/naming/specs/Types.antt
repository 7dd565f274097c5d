-- Declared types (IEC 61131-3, 2.3.3): where a type by name leads to, and which declarations break no rule on names.
use Rattle.std.specs.Prelude.{ℕ, zero, suc, ◌+◌, List, [], ◌∷◌, Bool, true, false, not, ◌&&◌, ◌==◌, Option, Some, None, is_some, option_map, option_and_then, unwrap_or}
use Rattle.std.specs.List.{list_any, list_all, slice_get}
use Rattle.std.specs.Str.{bytes_eq}
use Rattle.source_tree.specs.Syntax.{Named, Tree, literal, path, enumerator, paren, unary, chain, call, of_elementary, of_subrange, of_name, SpecificationData, of_type, of_values, TypeDeclarationData, FileData}
use Rattle.naming.specs.declared.standing.Standing.{Standing}
use Rattle.naming.specs.declared.standing.Standing.TheVariants as standings
use Rattle.naming.specs.Library.{is_library}
use Rattle.naming.specs.FileScope.{types_of, names_of, first_standing, standing, is_value}

abbrev pub type_number : Option Standing → Option ℕ
type_number None = None
type_number (Some (standings.Type t)) = Some t
type_number (Some (standings.Value t k)) = None
type_number (Some (standings.Pou p)) = None

-- the type that a type by name names, where its file has one of that name, once
abbrev pub named_type : FileData → SpecificationData → Option ℕ
named_type f (of_type (of_name n)) = type_number (standing f n.text)
named_type f (of_type (of_elementary kind at)) = None
named_type f (of_type (of_subrange kind at b)) = None
named_type f (of_values at first others) = None

abbrev pub specification_at : FileData → ℕ → Option SpecificationData
specification_at f t = option_map (λ d. d.specification) (slice_get (types_of f) t)

-- one step from a type to the type that it names; any other type stays where it is
abbrev pub next_of : FileData → ℕ → Option ℕ
next_of f t = option_and_then (named_type f) (specification_at f t)

abbrev pub step_from : FileData → ℕ → ℕ
step_from f t = unwrap_or (next_of f t) t

-- 2 ^ k steps
abbrev pub steps : ℕ → (ℕ → ℕ) → ℕ → ℕ
steps zero step t = step t
steps (suc k) step t = steps k step (steps k step t)

-- A text of at most 2 ^ 20 bytes declares fewer types than the steps that are taken, so that a way that still leads on behind
-- them never ends.
unfoldable pub doublings : ℕ
doublings = 20

-- the type at the end of the way that begins with a type
unfoldable pub end_of : FileData → ℕ → ℕ
end_of f t = steps doublings (step_from f) t

abbrev pub leads_on : FileData → ℕ → Bool
leads_on f t = is_some (next_of f t)

-- the ends of the ways of these types, which are counted from a number on
abbrev pub ends_from : FileData → ℕ → List TypeDeclarationData → List ℕ
ends_from f number [] = []
ends_from f number (d ∷ ds) = end_of f number ∷ ends_from f (number + 1) ds

-- a type is declared in terms of itself: some way never ends, and is there behind all steps
abbrev pub is_circular : FileData → ℕ → Bool
is_circular f t = leads_on f t && list_any (λ e. e == t) (ends_from f 0 (types_of f))

-- what a type is at the end of its way
abbrev pub end_specification : FileData → ℕ → Option SpecificationData
end_specification f t = specification_at f (end_of f t)

abbrev pub is_that_value : ℕ → ℕ → Option Standing → Bool
is_that_value t k None = false
is_that_value t k (Some (standings.Type u)) = false
is_that_value t k (Some (standings.Value u l)) = t == u && k == l
is_that_value t k (Some (standings.Pou p)) = false

-- The values of a type, which are counted from a number on, break no rule by their names: none is a name of the library, or of an
-- earlier declaration.
abbrev pub are_first : FileData → ℕ → ℕ → List Named → Bool
are_first f t number [] = true
are_first f t number (n ∷ ns) = not (is_library n.text) && is_that_value t number (first_standing n.text (names_of f)) && are_first f t (number + 1) ns

-- an enumeration, by its number, that is whole has a value of a name
abbrev pub has_value : FileData → List ℕ → ℕ → Option SpecificationData → Bool
has_value f text t None = false
has_value f text t (Some (of_type k)) = false
has_value f text t (Some (of_values at first others)) = are_first f t 0 (first ∷ others) && list_any (λ n. bytes_eq n.text text) (first ∷ others)

-- `type#value` names a value of the enumeration that the type leads to
abbrev pub has_enumerator : FileData → Named → Named → Bool
has_enumerator f t v = unwrap_or (option_map (λ number. has_value f v.text (end_of f number) (end_specification f number)) (type_number (standing f t.text))) false

-- A constant in the file's scope is a literal or names a value. The grammar has no other, and looks at no names of other expressions.
abbrev pub is_constant_in_file : FileData → Tree → Bool
is_constant_in_file f (literal l) = true
is_constant_in_file f (path p) = is_value (standing f p.first.text)
is_constant_in_file f (enumerator t v) = has_enumerator f t v
is_constant_in_file f (paren at e) = true
is_constant_in_file f (unary o at e) = true
is_constant_in_file f (chain e ls) = true
is_constant_in_file f (call n at args) = true

-- the specification of the type of a number, at the end of a way, breaks no rule; one that names a type that is none is not whole
abbrev pub is_whole_end : FileData → ℕ → Option SpecificationData → Bool
is_whole_end f t None = false
is_whole_end f t (Some (of_values at first others)) = are_first f t 0 (first ∷ others)
is_whole_end f t (Some (of_type (of_elementary kind at))) = true
is_whole_end f t (Some (of_type (of_subrange kind at b))) = is_constant_in_file f b.low && is_constant_in_file f b.high
is_whole_end f t (Some (of_type (of_name n))) = false

-- a type by name is one that is declared once and leads to a specification that breaks no rule
abbrev pub is_whole_type_name : FileData → Named → Bool
is_whole_type_name f n = unwrap_or (option_map (λ t. is_whole_end f (end_of f t) (end_specification f t)) (type_number (standing f n.text))) false

-- every type that is declared leads to an elementary type, a subrange or an enumeration, and its name is declared once
abbrev pub are_whole_types : FileData → List TypeDeclarationData → Bool
are_whole_types f ds = list_all (λ d. is_whole_type_name f d.name) ds
