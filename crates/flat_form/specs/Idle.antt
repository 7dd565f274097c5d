-- FUNCTION_BLOCKs that do nothing. They may run each other, so that one run of theirs reaches very many, and none of these is asked about.
use Rattle.std.specs.Prelude.{◌≡◌, ◌<◌, ℕ, zero, suc, ◌==◌, ◌&&◌, Bool, true, false, List, length, slice_index_or, if◌then◌else◌}
use Rattle.program_tree.specs.Tree.{Statement, assign, call_block, choice, cases, repeat, chart, exit, return, own_body, Statements, no_statements, statement, CalledData}
use Rattle.meaning.specs.Calls.{nothing}
use Rattle.flat_form.specs.Pous.{block_body}

-- no statement is idle but a run of a block that is
abbrev pub is_idle : (ℕ → Bool) → Statement → Bool
is_idle idle (assign target e) = false
is_idle idle (call_block b offset) = idle b
is_idle idle (choice arms other) = false
is_idle idle (cases kind e es other) = false
is_idle idle (repeat turns body) = false
is_idle idle (chart _ _ _) = false
is_idle idle exit = false
is_idle idle return = false
is_idle idle (own_body ss) = false

-- no statements, or idle ones alone
abbrev pub is_idle_all : (ℕ → Bool) → Statements → Bool
is_idle_all idle no_statements = true
is_idle_all idle (statement t ts) = is_idle idle t && is_idle_all idle ts

-- Whether a run of one of the first so many POUs, by its number, does nothing by its text alone. A FUNCTION is not run, and a POU that is
-- none of them does nothing.
abbrev pub idle_of : List CalledData → ℕ → ℕ → Bool
idle_of ps zero b = true
idle_of ps (suc n) b = if b == n then is_idle_all (idle_of ps n) (block_body (slice_index_or ps n nothing)) else idle_of ps n b

-- ---- tables of them

-- by the number of the POU; what is none of them does nothing
abbrev pub idle_in : List Bool → ℕ → Bool
idle_in idle b = slice_index_or idle b true

-- for each POU whether a run of it does nothing
abbrev pub AreIdle : List Bool → List CalledData → Type 0
AreIdle idle ps = (length idle ≡ length ps) × ((b : ℕ) → idle_in idle b ≡ idle_of ps (length ps) b)

-- for each of the first so many POUs
abbrev pub AreIdleBelow : List Bool → List CalledData → ℕ → Type 0
AreIdleBelow idle ps n = (b : ℕ) → b < n → idle_in idle b ≡ idle_of ps n b
