-- Which variables have a type that breaks no rule, and what the answer on a file is.
use Rattle.std.specs.Prelude.{List, Bool}
use Rattle.std.specs.List.{list_all}
use Rattle.rules.specs.Rules.{IsFirst}
use Rattle.rules.specs.declared.fault.Fault.{Fault}
use Rattle.rules.specs.declared.fault.Fault.TheVariants.{Refused, Memory}
use Rattle.source_tree.specs.Syntax.{FileData}
use Rattle.naming.specs.Circles.{IsBroken}
use Rattle.naming.specs.FileScope.{pous_of}
use Rattle.naming.specs.Scopes.{Variable, variables_in_pou, is_typed}
pub use Rattle.file_bindings.specs.Bound.{places_from, program_number, variables_at}

-- each variable is an instance of a block, or its type, where it is one by name, breaks no rule
abbrev pub are_typed : FileData → List Variable → Bool
are_typed f vs = list_all (is_typed f) vs

abbrev pub are_pous_typed : FileData → Bool
are_pous_typed f = list_all (λ p. are_typed f (variables_in_pou p)) (pous_of f)

-- a file is refused by the first rule on names that it breaks
abbrev pub IsFaultOf : FileData → Fault → Type 0
IsFaultOf f (Refused r) = IsFirst (IsBroken f) r
IsFaultOf f Memory = Unit {0}
