use Rattle.std.proofs.Common.{◌∙◌, ap, length}
use Rattle.clause_core.proofs.Fronts.{first_clauses-begins}
use Rattle.cdcl_core.proofs.decide.decide_by.Goals as goal

pub returns-clause-same : goal.returns-clause-same
returns-clause-same g c =
    c.truncate.ensures ∙ first_clauses-begins c.args.cnf.now c.decide_behind-decided.new.cnf _ (ap length c.clauses-given.ensures.same) c.decide_behind-decided.ensures.begins
