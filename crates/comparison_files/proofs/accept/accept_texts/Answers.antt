use Rattle.std.proofs.lemmas.Result.{err_from_is_err_and}
use Rattle.program_tree.specs.View.{program_view}
use Rattle.product_build.specs.MadeCircuits.{comparison_between}
use Rattle.typed_relations.proofs.Readings.{is_read}
use Rattle.comparison_files.proofs.Refusals.{at_old, at_new, at_relation}
use Rattle.comparison_files.proofs.accept.accept_texts.Goals as goal

pub returns-in_err-old-clause-refused : goal.returns-in_err-old-clause-refused
returns-in_err-old-clause-refused c = λ t kept.
    let p = err_from_is_err_and c.from_residual.result c.from_residual.ensures.1 in
    rw (p.1, p.2) (at_old t c.in_err-old.field-0.0 (c.in_err-old.ensures.refused t.old kept.old))

pub returns-in_err-new-clause-refused : goal.returns-in_err-new-clause-refused
returns-in_err-new-clause-refused c = λ t kept.
    let p = err_from_is_err_and c.from_residual-in_err-new.result c.from_residual-in_err-new.ensures.1 in
    rw (p.1, p.2) (at_new t (program_view c.in_ok-old.old.program) c.in_err-new.field-0.0 (c.in_ok-old.ensures.ok t.old kept.old) (c.in_err-new.ensures.refused t.new kept.new))

pub returns-in_err-relation-clause-refused : goal.returns-in_err-relation-clause-refused
returns-in_err-relation-clause-refused c = λ t kept.
    let p = err_from_is_err_and c.from_residual-in_err-relation.result c.from_residual-in_err-relation.ensures.1 in
    rw (p.1, p.2) (at_relation t (program_view c.in_ok-old.old.program) (program_view c.in_ok-new.new.program) c.in_err-relation.field-0.0
    (c.in_ok-old.ensures.ok t.old kept.old) (c.in_ok-new.ensures.ok t.new kept.new) (c.in_err-relation.ensures.refused t.rel kept.rel))

pub invariant_of-compared : goal.invariant_of-compared
invariant_of-compared c =
    let read = is_read (comparison_between c.in_ok-old.old.program c.in_ok-new.new.program c.in_ok-relation.relation) (record {
      old = c.in_ok-old.ensures.read;
      new = c.in_ok-new.ensures.read;
      stated = c.in_ok-relation.ensures.stated;
      belongs = c.in_ok-relation.ensures.belongs;
      well_formed = c.in_ok-relation.ensures.well_formed;
      few = c.in_ok-relation.ensures.few;
    }) in
    record { read = read; lines = c.in_ok-relation.ensures.lines }

pub returns-clause-ok : goal.returns-clause-ok
returns-clause-ok c = λ t kept. record {
  old_is = c.in_ok-old.ensures.ok t.old kept.old;
  new_is = c.in_ok-new.ensures.ok t.new kept.new;
  rel_is = c.in_ok-relation.ensures.ok t.rel kept.rel;
}

pub returns-clause-scans : goal.returns-clause-scans
returns-clause-scans c = record {
  old_nodes = c.in_ok-old.ensures.nodes;
  new_nodes = c.in_ok-new.ensures.nodes;
  old_meaning = c.in_ok-old.ensures.meaning;
  new_meaning = c.in_ok-new.ensures.meaning;
}
