-- The outline of a typed program: its POUs and its body, where each block counts as one without cells. No frame is spread: a FUNCTION of
-- more than 200,001 cells has a body of as many statements in the place of its own.
use Rattle.std.specs.Prelude.{◌≡◌, ℕ, nat_lt, List, [], map, Bool, true, Option, Some, None, if◌then◌else◌, pos}
use Rattle.std.specs.List.{list_any}
use Rattle.source_tree.specs.Syntax.{PouTypeData, function, function_block, program, PouData, FileData}
use Rattle.program_tree.specs.declared.typed.Turns.{Turns}
use Rattle.program_tree.specs.Tree.{repeat, Statements, no_statements, statement, CalledData, block as typed_block, function as typed_function, ProgramData}
use Rattle.naming.specs.FileScope.{pou_at}
use Rattle.file_bindings.specs.Bound.{program_number}
use Rattle.typing.specs.Members.{called_order, scope_of}
use Rattle.typing.specs.Places.{size_among, sizes_of}
use Rattle.typing.specs.Pous.{broken_types, has_room}
use Rattle.typing.specs.TypedPrograms.{typed_body}
use Rattle.pou_cells.specs.Placing.{capped}

abbrev pub many_turns : Turns
many_turns = record { count = 500; control = 0; first = pos 0; step = pos 0 }

-- two nested FORs, which become more than 200,000 flat statements
abbrev pub long_body : Statements
long_body = statement (repeat many_turns (statement (repeat many_turns no_statements) no_statements)) no_statements

abbrev pub outlined_body : FileData → ℕ → PouData → Statements
outlined_body f k p = typed_body (scope_of f [] k) p.body

-- Whether a POU has more than 200,001 cells, where POUs have these sizes.
abbrev pub is_long : List ℕ → ℕ → Bool
is_long sizes k = nat_lt 200001 (size_among sizes (Some k))

-- Whether some POU that may be called has more than 200,001 cells.
abbrev pub has_long : FileData → Bool
has_long f = list_any (is_long (sizes_of f)) (called_order f)

abbrev pub outlined_of : FileData → List ℕ → ℕ → PouTypeData → PouData → CalledData
outlined_of f sizes k (function t) p = typed_function [] [] [] (if is_long sizes k then long_body else outlined_body f k p)
outlined_of f sizes k function_block p = typed_block (outlined_body f k p)
outlined_of f sizes k program p = typed_block (outlined_body f k p)

abbrev pub outlined_if : FileData → List ℕ → ℕ → Option PouData → CalledData
outlined_if f sizes k None = typed_block no_statements
outlined_if f sizes k (Some p) = outlined_of f sizes k p.pou_type p

abbrev pub outlined_by : FileData → List ℕ → List CalledData
outlined_by f sizes = map (λ k. outlined_if f sizes k (pou_at f k)) (called_order f)

abbrev pub outlined_program : FileData → List ℕ → ℕ → PouData → ProgramData
outlined_program f sizes k p =
    record { name = []; cells = []; charts = []; without_cell = []; types = []; called = outlined_by f sizes; body = outlined_body f k p }

-- The outline of the program of a file that breaks no rule on types and whose PROGRAM has room for its cells.
pub record IsOutline (f : FileData) (o : ProgramData) : Type 0 where
  pub number : ℕ
  pub pou : PouData
  pub is : program_number f ≡ Some number
  pub there : pou_at f number ≡ Some pou
  pub typing : broken_types f ≡ []
  pub room : has_room f number ≡ true
  pub outline : o ≡ outlined_program f (map capped (sizes_of f)) number pou
