-- The bodies of POUs of which some run.
use Rattle.std.specs.Prelude.{ℕ, ◌+◌, Bool, true, false, List, [], ◌∷◌, map, Option, Some, None, Vec}
use Rattle.std.specs.declared.alloc.Global.{Global}
use Rattle.source_tree.specs.Syntax.{PouData, FileData}
use Rattle.program_tree.specs.declared.typed.TypedStmt.{TypedStmt}
use Rattle.program_tree.specs.Tree.{Statements, no_statements}
use Rattle.program_tree.specs.View.{stmts_view}
use Rattle.naming.specs.FileScope.{pou_at}
use Rattle.typing.specs.TypedPrograms.{pou_body}

abbrev pub bodies_view : List (Vec TypedStmt Global) → List Statements
bodies_view bodies = map (λ body. stmts_view body.items) bodies

-- the body of the POU of a number
abbrev pub body_if : FileData → ℕ → Option PouData → Statements
body_if f k None = no_statements
body_if f k (Some p) = pou_body f k p

-- that of one that runs; one that never runs has no statements
abbrev pub running_body : FileData → ℕ → Bool → Statements
running_body f k true = body_if f k (pou_at f k)
running_body f k false = no_statements

-- those of POUs that stand one behind the other from a number on, of which some run
abbrev pub bodies_from : FileData → (ℕ → Bool) → ℕ → List ℕ → List Statements
bodies_from f runs n [] = []
bodies_from f runs n (k ∷ ks) = running_body f k (runs n) ∷ bodies_from f runs (n + 1) ks
