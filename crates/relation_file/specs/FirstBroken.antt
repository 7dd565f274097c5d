-- What is kept of the lines before a line on the rules that they break.
use Rattle.std.specs.Prelude.{◌≡◌, ℕ, List, ◌++◌}
use Rattle.rules.specs.Rules.{earlier, first_in}
use Rattle.program_tree.specs.Tree.{ProgramData}
use Rattle.relation_lines.specs.Lines.{LineData}
use Rattle.relation_file.specs.declared.broken.FirstBroken.{FirstBroken as Kept}
use Rattle.relation_file.specs.Broken.{broken_behind, broken_lines, broken_clauses}
use Rattle.relation_file.specs.Seen.{Recalls}

-- The first rules that lines break are kept, whatever lines follow: with what those break they are the first that all lines break.
pub record IsFirstBroken (old new : ProgramData) (end : ℕ) (lines : List LineData) (kept : Kept) : Type 0 where
  pub before : List LineData
  pub recalled : Recalls kept.seen before
  pub on_lines : (rest : List LineData) → earlier kept.on_lines (first_in (broken_behind old new end before rest)) ≡ first_in (broken_lines old new end (lines ++ rest))
  pub on_types : (rest : List LineData) → earlier kept.on_types (first_in (broken_clauses old new rest)) ≡ first_in (broken_clauses old new (lines ++ rest))
