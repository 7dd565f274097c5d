use Rattle.std.proofs.Common.{◌≡◌, ◌++◌, drop}
use Rattle.scan_model.specs.Pairs.{clauses_among}
use Rattle.pair_circuits.specs.Views.{clauses_view}
use Rattle.query_formulas.specs.Parts.{clauses_of}
use Rattle.pair_circuits.proofs.parts.candidate_clauses.Given as goal

abbrev pub invariant-loop-candidate : goal.invariant-loop-candidate
invariant-loop-candidate l = clauses_view l.all.items ++ clauses_of l.cells (clauses_among (drop l.candidate-index l.candidates)) ≡ clauses_of l.cells (clauses_among l.candidates)
