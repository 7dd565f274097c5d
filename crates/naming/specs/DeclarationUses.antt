-- Which declarations use which (IEC 61131-3, 2.3.3 and 2.4): a type by what its specification names, a FUNCTION by the type of its
-- result, and a variable by its bounds and its initial value.
use Rattle.std.specs.Prelude.{ℕ, ◌+◌, List, [], ◌∷◌, ◌++◌, length, map, Bool, false, Option, Some, None}
use Rattle.call_order.specs.Uses.{Graph, is_in_circle}
use Rattle.source_tree.specs.Syntax.{Named, Tree, literal, path, enumerator, paren, unary, chain, call, TypeData, of_elementary, of_subrange, of_name, SpecificationData, of_type, of_values, PouTypeData, function, function_block, program, FileData}
use Rattle.naming.specs.declared.standing.Standing.{Standing}
use Rattle.naming.specs.declared.standing.Standing.TheVariants as standings
use Rattle.naming.specs.FileScope.{types_of, pous_of, standing}
use Rattle.naming.specs.Scopes.{PouScope}
use Rattle.naming.specs.Slots.{number_by, slot_named}

-- one number, or none
abbrev pub numbers_in : Option ℕ → List ℕ
numbers_in None = []
numbers_in (Some number) = number ∷ []

-- ---- of a file: its types are counted first, and then its POUs

abbrev pub declaration_number : FileData → Option Standing → Option ℕ
declaration_number f None = None
declaration_number f (Some (standings.Type t)) = Some t
declaration_number f (Some (standings.Value t k)) = None
declaration_number f (Some (standings.Pou p)) = Some (length (types_of f) + p)

abbrev pub used_by_name : FileData → Named → List ℕ
used_by_name f n = numbers_in (declaration_number f (standing f n.text))

-- a bound names a value, or `type#value`
abbrev pub used_by_bound : FileData → Tree → List ℕ
used_by_bound f (literal l) = []
used_by_bound f (path p) = used_by_name f p.first
used_by_bound f (enumerator t v) = used_by_name f t
used_by_bound f (paren at e) = []
used_by_bound f (unary o at e) = []
used_by_bound f (chain e ls) = []
used_by_bound f (call n at args) = []

abbrev pub used_by_specification : FileData → SpecificationData → List ℕ
used_by_specification f (of_values at first others) = []
used_by_specification f (of_type (of_elementary kind at)) = []
used_by_specification f (of_type (of_subrange kind at b)) = used_by_bound f b.low ++ used_by_bound f b.high
used_by_specification f (of_type (of_name n)) = used_by_name f n

abbrev pub used_by_result : FileData → PouTypeData → List ℕ
used_by_result f (function (of_elementary kind at)) = []
used_by_result f (function (of_subrange kind at b)) = []
used_by_result f (function (of_name n)) = used_by_name f n
used_by_result f function_block = []
used_by_result f program = []

-- for each declaration of a file those that it uses
unfoldable pub declaration_uses : FileData → Graph
declaration_uses f = map (λ d. used_by_specification f d.specification) (types_of f) ++ map (λ p. used_by_result f p.pou_type) (pous_of f)

abbrev pub is_circular_number : Graph → ℕ → Option ℕ → Bool
is_circular_number g user None = false
is_circular_number g user (Some used) = is_in_circle g user used

-- a name by which a declaration uses another of its circle
abbrev pub is_circular_use : FileData → ℕ → Named → Bool
is_circular_use f user n = is_circular_number (declaration_uses f) user (declaration_number f (standing f n.text))

-- ---- of a POU: its variables, in declared order

-- the variable of a name that is declared once, by its number
abbrev pub variable_number : PouScope → List ℕ → Option ℕ
variable_number p text = number_by (slot_named p text)

abbrev pub used_by_constant : PouScope → Tree → List ℕ
used_by_constant p (literal l) = []
used_by_constant p (path q) = numbers_in (variable_number p q.first.text)
used_by_constant p (enumerator t v) = []
used_by_constant p (paren at e) = []
used_by_constant p (unary o at e) = []
used_by_constant p (chain e ls) = []
used_by_constant p (call n at args) = []

abbrev pub used_by_type : PouScope → Option TypeData → List ℕ
used_by_type p None = []
used_by_type p (Some (of_elementary kind at)) = []
used_by_type p (Some (of_subrange kind at b)) = used_by_constant p b.low ++ used_by_constant p b.high
used_by_type p (Some (of_name n)) = []

abbrev pub used_by_initial : PouScope → Option Tree → List ℕ
used_by_initial p None = []
used_by_initial p (Some e) = used_by_constant p e

-- for each variable of a POU those that it uses
unfoldable pub variable_uses : PouScope → Graph
variable_uses p = map (λ v. used_by_type p v.kind ++ used_by_initial p v.initial) p.variables

-- a name by which a variable's declaration uses another of its circle
abbrev pub is_circular_variable : PouScope → ℕ → Named → Bool
is_circular_variable p user n = is_circular_number (variable_uses p) user (variable_number p n.text)
