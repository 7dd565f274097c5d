use Rattle.std.proofs.Common.{List, ◌+◌, ◌++◌, length, refl, ap}
use Rattle.std.specs.Prelude.{codes}
use Rattle.program_tree.specs.declared.typed.TypedExpr.{TypedExpr}
use Rattle.program_tree.specs.View.{exprs_view}
use Rattle.scan_model.specs.declared.relation.Candidate.{Candidate}
use Rattle.scan_model.specs.declared.relation.InputLine.{InputLine}
use Rattle.scan_model.specs.Pairs.{candidates_view}
use Rattle.scan_model.specs.Candidates.{numbered}
use Rattle.relation_lines.specs.declared.line.Condition.TheVariants.{Environment, Invariant, Relate}
use Rattle.relation_file.specs.Relations.{inputs_in, clauses_in}
use Rattle.relation_file.proofs.gathered.Gathered.new.Goals as goal

pub returns : goal.returns
returns c = λ old new. record {
  depth = λ rest. refl;
  conflicts = λ rest. refl;
  equal_faults = λ rest. refl;
  inputs = λ rest. ap (λ (xs : List InputLine). xs ++ inputs_in old new rest) c.new-inputs.ensures.items;
  environment = λ rest. ap (λ (xs : List TypedExpr). exprs_view xs ++ clauses_in old new Environment rest) c.new-environment.ensures.items;
  invariants = λ rest. ap (λ (xs : List Candidate). candidates_view xs ++ numbered (codes "INVARIANT ") (length xs + 1) (clauses_in old new Invariant rest)) c.new-invariants.ensures.items;
  relates = λ rest. ap (λ (xs : List Candidate). candidates_view xs ++ numbered (codes "RELATE ") (length xs + 1) (clauses_in old new Relate rest)) c.new-relates.ensures.items;
}
