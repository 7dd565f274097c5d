-- What is gathered of the lines before a line.
use Rattle.std.specs.Prelude.{◌≡◌, ◌+◌, List, ◌++◌, length, codes, ◌||◌, unwrap_or}
use Rattle.program_tree.specs.Tree.{ProgramData}
use Rattle.program_tree.specs.View.{exprs_view}
use Rattle.scan_model.specs.Pairs.{candidates_view}
use Rattle.scan_model.specs.Candidates.{numbered}
use Rattle.relation_lines.specs.declared.line.Setting.TheVariants as settings
use Rattle.relation_lines.specs.declared.line.Condition.TheVariants as conditions
use Rattle.relation_lines.specs.Lines.{LineData}
use Rattle.relation_file.specs.declared.gathered.Gathered.{Gathered as Kept}
use Rattle.relation_file.specs.Relations.{setting_in, faults_are_equal, inputs_in, clauses_in}

-- What lines state is kept, whatever lines follow: with what those state it is what all lines state.
pub record IsGathered (old new : ProgramData) (lines : List LineData) (kept : Kept) : Type 0 where
  pub depth : (rest : List LineData) → unwrap_or kept.depth (setting_in settings.Depth rest) ≡ setting_in settings.Depth (lines ++ rest)
  pub conflicts : (rest : List LineData) → unwrap_or kept.conflicts (setting_in settings.Conflicts rest) ≡ setting_in settings.Conflicts (lines ++ rest)
  pub equal_faults : (rest : List LineData) → (kept.equal_faults || faults_are_equal rest) ≡ faults_are_equal (lines ++ rest)
  pub inputs : (rest : List LineData) → kept.inputs.items ++ inputs_in old new rest ≡ inputs_in old new (lines ++ rest)
  pub environment : (rest : List LineData) → exprs_view kept.environment.items ++ clauses_in old new conditions.Environment rest ≡ clauses_in old new conditions.Environment (lines ++ rest)
  pub invariants : (rest : List LineData)
      → candidates_view kept.invariants.items ++ numbered (codes "INVARIANT ") (length kept.invariants.items + 1) (clauses_in old new conditions.Invariant rest)
      ≡ numbered (codes "INVARIANT ") 1 (clauses_in old new conditions.Invariant (lines ++ rest))
  pub relates : (rest : List LineData)
      → candidates_view kept.relates.items ++ numbered (codes "RELATE ") (length kept.relates.items + 1) (clauses_in old new conditions.Relate rest)
      ≡ numbered (codes "RELATE ") 1 (clauses_in old new conditions.Relate (lines ++ rest))
