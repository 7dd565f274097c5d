-- What POUs do that may be called, where each calls only those before it (IEC 61131-3, 2.5.1 and 2.5.2).
use Rattle.std.specs.Prelude.{ℕ, zero, suc, ◌+◌, ◌==◌, List, [], ◌∷◌, ℤ, if◌then◌else◌, slice_index_or}
use Rattle.program_tree.specs.plc_types.declared.range.Range.{Range}
use Rattle.program_tree.specs.Tree.{Statements, no_statements, CalledData, block, function}
use Rattle.meaning.specs.Values.{State, Callees, no_callees}
use Rattle.meaning.specs.Effects.{stored, state_of, effect_of_all}

-- values that are assigned to cells one behind the other, from a place on
abbrev pub given : List Range → ℕ → List ℤ → State → State
given rs place [] s = s
given rs place (v ∷ vs) s = given rs (place + 1) vs (stored rs place v s)

-- A call of a FUNCTION begins with cells of its own at their initial values, assigns its inputs, which stand behind FAULT and what it
-- answers, in declared order, and runs its body, of which it keeps the state whatever ends it.
abbrev pub end_of : Callees → List Range → List ℤ → Statements → List ℤ → State
end_of callees rs start body vs = state_of (effect_of_all callees rs 0 body (given rs 2 vs start))

-- a FUNCTION_BLOCK is no FUNCTION, and a FUNCTION no FUNCTION_BLOCK: what has no meaning changes nothing and answers nothing
abbrev pub run_of : Callees → CalledData → List Range → ℕ → State → State
run_of callees (block body) rs base s = state_of (effect_of_all callees rs base body s)
run_of callees (function types own start body) rs base s = s

abbrev pub ends_of : Callees → CalledData → List ℤ → State
ends_of callees (block body) vs = []
ends_of callees (function types rs start body) vs = end_of callees rs start body vs

-- one POU more, which has a number and may call the others
abbrev pub with_called : Callees → ℕ → CalledData → Callees
with_called callees n p = record {
  runs = λ b rs base s. if b == n then run_of callees p rs base s else callees.runs b rs base s;
  ends = λ f vs. if f == n then ends_of callees p vs else callees.ends f vs;
}

-- where there is no POU of a number
abbrev pub nothing : CalledData
nothing = block no_statements

-- what the first so many POUs do, each of which may call those before it
abbrev pub callees_of : List CalledData → ℕ → Callees
callees_of ps zero = no_callees
callees_of ps (suc n) = with_called (callees_of ps n) n (slice_index_or ps n nothing)
