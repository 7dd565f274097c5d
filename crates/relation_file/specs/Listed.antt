-- Where the clauses of a relation stand among its candidates.
use Rattle.std.specs.Prelude.{◌≡◌, ℕ, List, [], ◌∷◌, ◌++◌, length, codes, Bool, if◌then◌else◌}
use Rattle.program_tree.specs.Tree.{ProgramData}
use Rattle.scan_model.specs.Among.{among}
use Rattle.scan_model.specs.Pairs.{CandidateData, candidates_view, clauses_among}
use Rattle.scan_model.specs.Candidates.{candidates_of}
use Rattle.relation_lines.specs.declared.line.Condition.TheVariants as conditions
use Rattle.relation_lines.specs.Lines.{LineData}
use Rattle.relation_file.specs.declared.listed.Listed.{Listed}
use Rattle.relation_file.specs.Relations.{equal_faults, faults_are_equal, faults_clause, clauses_in, clauses_of}

-- `RELATE FAULTS`, where faults have to agree
abbrev pub on_faults : Bool → ℕ → List CandidateData
on_faults agree old_cells = if agree then record { name = codes "RELATE FAULTS"; clause = equal_faults old_cells } ∷ [] else []

-- the candidates of the relation that lines state, and its INVARIANT and RELATE clauses among them
pub record IsListed (old new : ProgramData) (lines : List LineData) (l : Listed) : Type 0 where
  pub candidates : candidates_view l.candidates.items ≡ candidates_of old new (clauses_of old new lines)
  pub invariants : clauses_among (among 0 l.invariants l.candidates.items) ≡ clauses_in old new conditions.Invariant lines
  pub relates : clauses_among (among l.first_relate l.relates l.candidates.items) ≡ clauses_in old new conditions.Relate lines ++ faults_clause (faults_are_equal lines) (length old.cells)
