-- What is known of the POUs of a file by their numbers.
use Rattle.std.specs.Prelude.{◌≡◌, ℕ, List, option_map}
use Rattle.std.specs.List.{slice_get}
use Rattle.source_tree.specs.Syntax.{PouTypeData, function, function_block, program, FileData}
use Rattle.naming.specs.declared.pou_shape.PouShape.{PouShape}
use Rattle.naming.specs.declared.pou_shape.PouShape.TheVariants as shapes
use Rattle.naming.specs.FileScope.{pou_type_at}
use Rattle.naming.specs.Scopes.{is_whole_type}

-- what a POU is, and of a FUNCTION whether the type of its result breaks no rule
abbrev pub pou_shape : FileData → PouTypeData → PouShape
pou_shape f (function t) = shapes.Function (is_whole_type f t)
pou_shape f function_block = shapes.Block
pou_shape f program = shapes.Program

-- a list has what each POU of a file is
abbrev pub ArePouShapes : FileData → List PouShape → Type 0
ArePouShapes f ss = (number : ℕ) → slice_get ss number ≡ option_map (pou_shape f) (pou_type_at f number)
