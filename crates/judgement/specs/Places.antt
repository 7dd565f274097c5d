-- Where the lines of a finding lead to, as far as they pass.
use Rattle.std.specs.Prelude.{ℕ}
use Rattle.finding_lines.specs.declared.line.Asked.{Asked}
use Rattle.finding_lines.specs.declared.line.Conclusion.{Conclusion}
use Rattle.derivation_check.specs.Checks.{Derivation}
use Rattle.scan_model.specs.Pairs.{Pair}
use Rattle.scan_model.specs.Verdicts.{CandidateSet}
use Rattle.judgement.specs.declared.answers.Reason.{Reason}
use Rattle.judgement.specs.declared.answers.Reach.{Reach}
use Rattle.judgement.specs.declared.answers.Concluded.{Concluded}
use Rattle.judgement.specs.declared.answers.Reach.TheVariants.{Untold, Unwalked}

-- Most places tell what the finding has said of reach, and so of which version it is.
pub data Place : Type 0 where
  -- before the header, and behind it
  at_top : Place
  at_header : Reach → Place
  -- in version 2, behind a first row: so many rows of an allowed list, and the pair behind them
  at_walks : ℕ → Pair → Place
  -- in a log that is to spend the query for a list of one row more than so many: what is held, and how many steps are to come
  in_walk : ℕ → Derivation → ℕ → Place
  -- behind a first row and the rows that drop candidates: the set that is left
  at_drops : Reach → CandidateSet → Place
  -- behind the log that shows the set inductive
  at_kept : Reach → CandidateSet → Place
  -- behind a row that leads out of the relation, and the logs that show that there is no break of up to so many scans
  at_deep : Reach → CandidateSet → ℕ → Place
  -- in a break of so many scans: as many are to come behind the next, and the pair so far
  at_scans : Reach → ℕ → ℕ → Pair → Place
  -- before the END line of a verdict, and behind it
  at_end : Reach → Conclusion → Place
  finished : Reach → Conclusion → Place
  -- in a log that is to refute its formula: what is held, and the place behind its empty clause
  in_log : Derivation → Place → Place
  -- in a log that is to spend its query: what is held, and how many steps are to come
  in_query : Reach → Asked → Derivation → ℕ → Place

-- behind the END line of a verdict, with what is said of reach
abbrev pub finished_by : Concluded → Place
finished_by c = finished c.reach c.verdict

-- what has been said of reach; the header itself says of which version the finding is
abbrev pub reach_at : Place → Reach
reach_at at_top = Untold
reach_at (at_header reach) = reach
reach_at (at_walks rows pair) = Unwalked
reach_at (in_walk rows d left) = Unwalked
reach_at (at_drops reach set) = reach
reach_at (at_kept reach set) = reach
reach_at (at_deep reach set none) = reach
reach_at (at_scans reach scans more pair) = reach
reach_at (at_end reach verdict) = reach
reach_at (finished reach verdict) = reach
reach_at (in_log d behind) = reach_at behind
reach_at (in_query reach asked d left) = reach

-- a line leads on to a place, or fails a test
pub data Moved : Type 0 where
  goes : Place → Moved
  fails : Reason → Moved
