-- The data types of a pair of programs.
use Rattle.plc_types.specs.declared.data_type.DataType.{DataType}
use Rattle.plc_types.specs.Enumerations.{paired_type}
use Rattle.program_tree.specs.View.{program_view}
use Rattle.clause_types.specs.declared.paired_types.PairedTypes.{PairedTypes as Pair}

-- what a data type of NEW is in the pair
abbrev pub paired_in : Pair → DataType → DataType
paired_in s = paired_type (program_view s.old.now).types (program_view s.new.now).types
