-- What a file breaks of the rules on types, POU by POU, and how many cells its PROGRAM has.
use Rattle.std.specs.Prelude.{ℕ, ◌+◌, List, [], ◌∷◌, Bool, nat_le}
use Rattle.rules.specs.declared.rule.Refusal.{Refusal}
use Rattle.source_tree.specs.Syntax.{BodyData, statements, chart as chart_body, PouData, FileData}
use Rattle.naming.specs.FileScope.{types_of, pous_of}
use Rattle.naming.specs.Scopes.{variables_in_pou}
use Rattle.typing.specs.Typing.{Scope}
use Rattle.rules.specs.Judgements.{Judgement, ok, and}
use Rattle.typing.specs.Domains.{judged_types}
use Rattle.typing.specs.JudgedStatements.{judged_stmts}
use Rattle.typing.specs.JudgedExits.{judged_exits}
use Rattle.typing.specs.JudgedCharts.{judged_parts}
use Rattle.typing.specs.Variables.{judged_variables}
use Rattle.typing.specs.Places.{variables_at, sizes_of, count_of_cells}
use Rattle.typing.specs.Members.{scope_of}

abbrev pub judged_body : Scope → BodyData → Judgement
judged_body scope (statements ss) = and (judged_stmts scope [] ss) (judged_exits ss)
judged_body scope (chart_body ps) = judged_parts scope ps

-- The POU of a number: its variables, its result among them, and its body. The rules on types ask for no places, so that no size of a
-- block is told, and each counts as one without cells.
abbrev pub judged_pou : FileData → ℕ → PouData → Judgement
judged_pou f number p = and (judged_variables f (variables_in_pou p)) (judged_body (scope_of f [] number) p.body)

-- POUs that are counted from a number on
abbrev pub judged_pous : FileData → ℕ → List PouData → Judgement
judged_pous f number [] = ok
judged_pous f number (p ∷ ps) = and (judged_pou f number p) (judged_pous f (number + 1) ps)

-- all that a file breaks of the rules on types
abbrev pub broken_types : FileData → List Refusal
broken_types f = (and (judged_types f (types_of f)) (judged_pous f 0 (pous_of f))).broken

-- how many cells a PROGRAM has, FAULT and those of its instances among them
abbrev pub cell_count : FileData → ℕ → ℕ
cell_count f number = 1 + count_of_cells f (sizes_of f) (variables_at f number)

-- M2: at most 4,096 cells
abbrev pub has_room : FileData → ℕ → Bool
has_room f number = nat_le (cell_count f number) 4096
