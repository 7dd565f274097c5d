-- The program that a file states: its typed program, in which a POU that never runs has no statements, and a FUNCTION that never runs keeps only the cells that its
-- callers name. So nothing is asked of the places in such a POU, however many cells its instances have.
use Rattle.std.specs.Prelude.{ℕ, ◌+◌, Bool, true, false, List, [], ◌∷◌, length, map, Option, Some, None}
use Rattle.source_tree.specs.Syntax.{PouTypeData, function, function_block, program, PouData, FileData}
use Rattle.program_tree.specs.Tree.{no_statements, CellData, CalledData, block as typed_block, function as typed_function, ProgramData}
use Rattle.naming.specs.FileScope.{pous_of, pou_at}
use Rattle.naming.specs.Scopes.{variables_in_pou}
use Rattle.typing.specs.Places.{in_front}
use Rattle.typing.specs.Members.{called_order}
use Rattle.typing.specs.TypedPrograms.{cells_of, block_cells, fault_cell, type_of_cell, pou_body, called_if, called_by, typed_program}
use Rattle.running_pous.specs.Running.{may_run}

-- FAULT, what a FUNCTION answers, and its inputs
abbrev pub front_cells : FileData → PouData → List CellData
front_cells f p = fault_cell ∷ cells_of f (block_cells f (length (pous_of f))) false None (in_front true (variables_in_pou p))

-- a POU that never runs
abbrev pub unused_of : FileData → ℕ → PouTypeData → PouData → CalledData
unused_of f k (function t) p =
    typed_function (map type_of_cell (front_cells f p)) (map (λ c. c.range) (front_cells f p)) (map (λ c. c.initial) (front_cells f p)) no_statements
unused_of f k function_block p = typed_block no_statements
unused_of f k program p = typed_block no_statements

abbrev pub unused_if : FileData → ℕ → Option PouData → CalledData
unused_if f k None = typed_block no_statements
unused_if f k (Some p) = unused_of f k p.pou_type p

-- a POU that runs or not
abbrev pub stated_if : FileData → ℕ → Bool → CalledData
stated_if f k true = called_if f k (pou_at f k)
stated_if f k false = unused_if f k (pou_at f k)

-- POUs that stand one behind the other from a number on, of which some run
abbrev pub stated_from : FileData → (ℕ → Bool) → ℕ → List ℕ → List CalledData
stated_from f runs n [] = []
stated_from f runs n (k ∷ ks) = stated_if f k (runs n) ∷ stated_from f runs (n + 1) ks

abbrev pub stated_by : FileData → (ℕ → Bool) → List CalledData
stated_by f runs = stated_from f runs 0 (called_order f)

-- the typed program of a PROGRAM, of whose POUs some run
abbrev pub shortened : FileData → (ℕ → Bool) → ℕ → PouData → ProgramData
shortened f runs k p = let whole = typed_program f k p in record {
  name = whole.name;
  cells = whole.cells;
  charts = whole.charts;
  without_cell = whole.without_cell;
  types = whole.types;
  called = stated_by f runs;
  body = whole.body;
}

-- a PROGRAM, by its number, of whose POUs those run that may
abbrev pub stated_program : FileData → ℕ → PouData → ProgramData
stated_program f k p = shortened f (may_run (called_by f) (pou_body f k p)) k p
