use Rattle.std.proofs.Common.{refl, sym, ◌∙◌}
use Rattle.std.proofs.lemmas.Result.{err_from_is_err_and}
use Rattle.program_tree.specs.View.{program_view}
use Rattle.scan_model.specs.Pairs.{relation_view}
use Rattle.relation_file.specs.Stated.{by_count}
use Rattle.relation_file.proofs.PassLemmas.{small_refused}
use Rattle.relation_file.proofs.read.read_relation.Goals as goal

pub returns-in_err-relation-clause-refused : goal.returns-in_err-relation-clause-refused
returns-in_err-relation-clause-refused c =
    let p = err_from_is_err_and c.from_residual.result c.from_residual.ensures.1 in
    rw (p.1, p.2) (small_refused (program_view c.args.old.now) (program_view c.args.new.now) c.args.end c.args.toks.now c.in_err-relation.field-0.0 c.in_err-relation.ensures.refused)

pub returns-then-not-has_few_candidates-clause-refused : goal.returns-then-not-has_few_candidates-clause-refused
returns-then-not-has_few_candidates-clause-refused c =
    by_count (relation_view c.in_ok-relation.relation) c.in_ok-relation.ensures.read (sym c.has_few_candidates.ensures ∙ c.if-not-has_few_candidates.true) refl
