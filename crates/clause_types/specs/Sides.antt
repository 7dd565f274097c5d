-- The cells and values of a program by their names.
use Rattle.std.specs.Prelude.{◌≡◌, ℕ, List, true, Option, Some, None, option_map, pos}
use Rattle.std.specs.Str.{bytes_eq}
use denote.Ref.{Bor}
use Rattle.indexmap.specs.IndexMap.{IndexMap, get_by}
use Rattle.plc_types.specs.Enumerations.{value_named}
use Rattle.clause_types.specs.declared.enumeration_values.EnumerationValue.{EnumerationValue}
use Rattle.expr_types.specs.ValueMeanings.{valued}
use Rattle.typing.specs.declared.scope.Meaning.{Meaning}

-- what a value stands for
abbrev pub whole_value : EnumerationValue → Meaning
whole_value v = valued v.kind v.value true

-- a value by the numbers of its type and of itself
abbrev pub kept_value : ℕ × ℕ → EnumerationValue
kept_value v = record { kind = v.0; value = pos v.1 }

-- a value of this type, where it has one of a name, or else what is found
abbrev pub kept_or : Option ℕ → ℕ → Option EnumerationValue → Option EnumerationValue
kept_or (Some k) number later = Some (kept_value (number, k))
kept_or None number later = later

-- a map finds by each name the first value of that name, of types that are counted from a number on
abbrev pub FindsValues : {S : Type 0} → IndexMap (Bor (List ℕ)) EnumerationValue S → ℕ → List (List (List ℕ)) → Type 0
FindsValues found number types = (text : List ℕ) → get_by (λ name. bytes_eq text name.now) found ≡ option_map kept_value (value_named text number types)
