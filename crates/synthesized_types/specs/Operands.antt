-- The operands of a chain, where the synthesized type of the first is known.
use Rattle.std.specs.Prelude.{Option, Some, None, if◌then◌else◌}
use Rattle.plc_types.specs.declared.data_type.DataType.{DataType}
use Rattle.source_tree.specs.Syntax.{Links}
use Rattle.typing.specs.Typing.{Scope, bool_type, or_else, or_dint, compares, synthesized_of_first, synthesized_of_links}

-- their synthesized type
abbrev pub synthesized_of_operands : Scope → Option DataType → Links → Option DataType
synthesized_of_operands scope of_first ls = or_else of_first (if compares ls then synthesized_of_first scope ls else synthesized_of_links scope ls)

-- their type, where a type is expected of the chain, or none
abbrev pub kind_of_operands : Option DataType → Option DataType → Links → DataType
kind_of_operands expected of_operands ls = or_dint (or_else of_operands (if compares ls then None else expected))

-- the synthesized type of the chain
abbrev pub synthesized_of_chain : Option DataType → Links → Option DataType
synthesized_of_chain of_operands ls = if compares ls then Some bool_type else of_operands
