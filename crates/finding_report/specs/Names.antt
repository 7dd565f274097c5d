-- The names under which a report gives numbers.
use Rattle.std.specs.Prelude.{ℕ, List, ◌++◌, codes, map}
use Rattle.program_tree.specs.Tree.{CellData}
use Rattle.scan_model.specs.declared.relation.InputLine.{InputLine}
use Rattle.scan_model.specs.declared.relation.InputLine.TheVariants.{Both, Old, New}
use Rattle.scan_model.specs.Candidates.{paths_of, path_at}
use Rattle.queries.specs.Comparisons.{Comparison}

-- `A=B`, `OLD A` or `NEW B`: an input by the paths of the cells that its number is put into
abbrev pub input_name : List CellData → List CellData → InputLine → List ℕ
input_name old new (Both range p q) = path_at (paths_of old) p ++ codes "=" ++ path_at (paths_of new) q
input_name old new (Old range p) = codes "OLD " ++ path_at (paths_of old) p
input_name old new (New range q) = codes "NEW " ++ path_at (paths_of new) q

-- the inputs of a row
abbrev pub input_names : Comparison → List (List ℕ)
input_names c = map (input_name c.old.cells c.new.cells) c.relation.inputs

-- the cells of each program
abbrev pub old_names : Comparison → List (List ℕ)
old_names c = paths_of c.old.cells

abbrev pub new_names : Comparison → List (List ℕ)
new_names c = paths_of c.new.cells
