-- Whether a program runs a POU that is too large to be spread: one of more than 2^24 cells, or one with an instance of such a block.
use Rattle.std.specs.Prelude.{◌≡◌, ℕ, ◌+◌, List, [], ◌∷◌, Bool, true, false, ◌&&◌, ◌||◌, not}
use Rattle.rules.specs.declared.rule.Rule.TheVariants.{TooManyStatements}
use Rattle.rules.specs.declared.rule.Refusal.{Refusal}
use Rattle.source_tree.specs.Syntax.{PouData, FileData}
use Rattle.typing.specs.Members.{called_order}
use Rattle.typing.specs.TypedPrograms.{pou_body, called_by}
use Rattle.running_pous.specs.Running.{may_run}
use Rattle.pou_cells.specs.Placing.{is_placed}

-- of POUs that stand one behind the other from a number on one is large that runs
abbrev pub any_large : FileData → (ℕ → Bool) → ℕ → List ℕ → Bool
any_large f runs n [] = false
any_large f runs n (k ∷ ks) = (runs n && not (is_placed f k)) || any_large f runs (n + 1) ks

-- the PROGRAM, by its number, is large, or a POU that may run is
abbrev pub runs_large : FileData → ℕ → PouData → Bool
runs_large f k p = not (is_placed f k) || any_large f (may_run (called_by f) (pou_body f k p)) 0 (called_order f)

-- the refusal where one is large: each call of such a FUNCTION becomes more than 200,000 flat statements
abbrev pub IsRefusedIf : Bool → Refusal → Type 0
IsRefusedIf large r = (large ≡ true) × (r ≡ record { rule = TooManyStatements; at = 0 })
