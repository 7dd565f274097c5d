use Rattle.std.proofs.Common.{◌≡◌, ◌∙◌, subst, length}
use Rattle.std.proofs.lemmas.Result.{err_from_is_err_and}
use Rattle.program_tree.specs.View.{program_view}
use Rattle.scan_model.specs.Pairs.{relation_view}
use Rattle.command_answers.specs.declared.source.Source.TheVariants.{Trace}
use Rattle.replay_command.specs.Accepting.{IsNoTrace}
use Rattle.command_files.specs.Refused.{IfRefusedOf}
use Rattle.replay_command.proofs.Refusals.{at_old, at_new, at_relation, at_trace}
use Rattle.replay_command.proofs.accept.accept.Goals as goal

pub returns-in_err-old-clause-refused : goal.returns-in_err-old-clause-refused
returns-in_err-old-clause-refused c = λ t kept.
    let p = err_from_is_err_and c.from_residual.result c.from_residual.ensures.1 in
    rw (p.1, p.2) (at_old t c.in_err-old.field-0.0 (c.in_err-old.ensures.refused t.old kept.three.old))

pub returns-in_err-new-clause-refused : goal.returns-in_err-new-clause-refused
returns-in_err-new-clause-refused c = λ t kept.
    let p = err_from_is_err_and c.from_residual-in_err-new.result c.from_residual-in_err-new.ensures.1 in
    rw (p.1, p.2) (at_new t (program_view c.in_ok-old.old) c.in_err-new.field-0.0 (c.in_ok-old.ensures.ok t.old kept.three.old) (c.in_err-new.ensures.refused t.new kept.three.new))

pub returns-in_err-relation-clause-refused : goal.returns-in_err-relation-clause-refused
returns-in_err-relation-clause-refused c = λ t kept.
    let p = err_from_is_err_and c.from_residual-in_err-relation.result c.from_residual-in_err-relation.ensures.1 in
    rw (p.1, p.2) (at_relation t (program_view c.in_ok-old.old) (program_view c.in_ok-new.new) c.in_err-relation.field-0.0
    (c.in_ok-old.ensures.ok t.old kept.three.old) (c.in_ok-new.ensures.ok t.new kept.three.new) (c.in_err-relation.ensures.refused t.rel kept.three.rel))

pub returns-in_err-rows-clause-refused : goal.returns-in_err-rows-clause-refused
returns-in_err-rows-clause-refused c = λ t kept.
    let p = err_from_is_err_and c.from_residual-in_err-rows.result c.from_residual-in_err-rows.ensures.1 in
    let width : c.len.result ≡ length c.in_ok-relation.relation.inputs.items = c.len.ensures ∙ c.in_ok-relation.relation.inputs.ok.0 in
    rw (p.1, p.2) (at_trace t (program_view c.in_ok-old.old) (program_view c.in_ok-new.new) (relation_view c.in_ok-relation.relation) c.in_err-rows.field-0.0
    (c.in_ok-old.ensures.ok t.old kept.three.old) (c.in_ok-new.ensures.ok t.new kept.three.new) (c.in_ok-relation.ensures.ok t.rel kept.three.rel)
    (subst (λ n. IfRefusedOf Trace (IsNoTrace n t.trace) c.in_err-rows.field-0.0) width (c.in_err-rows.ensures.refused t.trace kept.trace)))

pub returns-clause-comparable : goal.returns-clause-comparable
returns-clause-comparable c = record {
  old_is_program = c.in_ok-old.ensures.fit;
  new_is_program = c.in_ok-new.ensures.fit;
  belongs = c.in_ok-relation.ensures.belongs;
}
