-- The operands of a chain, where the synthesized type of the first is known.
use Rattle.std.proofs.Common.{◌≡◌, Bool, true, false, if◌then◌else◌, Option, Some, None, refl, ap, ◌∙◌}
use Rattle.plc_types.specs.declared.data_type.DataType.{DataType}
use Rattle.source_tree.specs.Syntax.{Tree, chain, Links}
use Rattle.typing.specs.Typing.{Scope, bool_type, or_else, or_dint, compares, synthesized, synthesized_of_first, synthesized_of_links, operand_type}
use Rattle.synthesized_types.specs.Operands.{synthesized_of_operands, kind_of_operands, synthesized_of_chain}

or_none : (o : Option DataType) → or_else o None ≡ o
or_none None = refl
or_none (Some t) = refl

kind_for : (b : Bool) (o first links expected : Option DataType) → or_dint (or_else (or_else o (if b then first else links)) (if b then None else expected)) ≡ (if b then or_dint (or_else o first) else or_dint (or_else (or_else o links) expected))
kind_for true o first links expected = ap or_dint (or_none (or_else o first))
kind_for false o first links expected = refl

synthesized_for : (b : Bool) (o first links : Option DataType) → (if b then Some bool_type else or_else o (if b then first else links)) ≡ (if b then Some bool_type else or_else o links)
synthesized_for true o first links = refl
synthesized_for false o first links = refl

module _ (scope : Scope) (e : Tree) (ls : Links) (o p : Option DataType) (of_first : o ≡ synthesized scope e) (of_operands : p ≡ synthesized_of_operands scope o ls) where
  operands : p ≡ synthesized_of_operands scope (synthesized scope e) ls
  operands = of_operands ∙ ap (λ (x : Option DataType). synthesized_of_operands scope x ls) of_first

  pub operand_type-is : (expected : Option DataType) (t : DataType) → t ≡ kind_of_operands expected p ls → t ≡ operand_type scope expected e ls
  operand_type-is expected t is =
      is ∙ ap (λ (x : Option DataType). kind_of_operands expected x ls) operands ∙ kind_for (compares ls) (synthesized scope e) (synthesized_of_first scope ls) (synthesized_of_links scope ls) expected

  pub synthesized-chain : (r : Option DataType) → r ≡ synthesized_of_chain p ls → r ≡ synthesized scope (chain e ls)
  synthesized-chain r is = is ∙ ap (λ (x : Option DataType). synthesized_of_chain x ls) operands ∙ synthesized_for (compares ls) (synthesized scope e) (synthesized_of_first scope ls) (synthesized_of_links scope ls)
