use Rattle.std.proofs.lemmas.Result.{err_from_is_err_and}
use Rattle.program_tree.specs.View.{program_view}
use Rattle.scan_model.specs.Pairs.{relation_view}
use Rattle.relation_file.proofs.BelongsLemmas.{relation_belongs}
use Rattle.relation_file.proofs.WellFormedLemmas.{relation_well_formed}
use Rattle.relation_file.proofs.PassLemmas.{rules_refused, grammar_refused}
use Rattle.relation_file.proofs.read.read_lines.Goals as goal

pub returns-in_err-pass-clause-refused : goal.returns-in_err-pass-clause-refused
returns-in_err-pass-clause-refused c =
    let p = err_from_is_err_and c.from_residual-in_err-pass.result c.from_residual-in_err-pass.ensures.1 in
    rw (p.1, p.2) (grammar_refused (program_view c.args.old.now) (program_view c.args.new.now) c.args.end c.args.toks.now c.in_err-pass.field-0.0 c.in_err-pass.ensures.refused)

pub returns-in_err-relation-clause-refused : goal.returns-in_err-relation-clause-refused
returns-in_err-relation-clause-refused c =
    let p = err_from_is_err_and c.from_residual-in_err-relation.result c.from_residual-in_err-relation.ensures.1 in
    let h = c.in_ok-pass.ensures.read in
    let is = c.in_err-relation.ensures.refused h.lines h.passed in
    let first = rw (c.in_ok-pair.ensures.0, c.in_ok-pair.ensures.1) at is in
    rw (p.1, p.2) (rules_refused (program_view c.args.old.now) (program_view c.args.new.now) c.args.end c.args.toks.now h.lines c.in_err-relation.field-0.0 h.read first)

pub returns-clause-belongs : goal.returns-clause-belongs
returns-clause-belongs c =
    let h = c.in_ok-pass.ensures.read in
    let is = c.in_ok-relation.ensures.stated h.lines h.passed in
    let sound = c.in_ok-relation.ensures.sound h.lines h.passed in
    let stated = rw (c.in_ok-pair.ensures.0, c.in_ok-pair.ensures.1) at is in
    let kept = rw (c.in_ok-pair.ensures.0, c.in_ok-pair.ensures.1) at sound in
    relation_belongs (program_view c.args.old.now) (program_view c.args.new.now) c.args.end h.lines (relation_view c.in_ok-relation.relation) kept stated

pub returns-clause-well_formed : goal.returns-clause-well_formed
returns-clause-well_formed c =
    let h = c.in_ok-pass.ensures.read in
    let is = c.in_ok-relation.ensures.stated h.lines h.passed in
    let sound = c.in_ok-relation.ensures.sound h.lines h.passed in
    let stated = rw (c.in_ok-pair.ensures.0, c.in_ok-pair.ensures.1) at is in
    let kept = rw (c.in_ok-pair.ensures.0, c.in_ok-pair.ensures.1) at sound in
    relation_well_formed (program_view c.args.old.now) (program_view c.args.new.now) c.args.end h.lines (relation_view c.in_ok-relation.relation) kept stated

pub returns-clause-read : goal.returns-clause-read
returns-clause-read c =
    let h = c.in_ok-pass.ensures.read in
    let is = c.in_ok-relation.ensures.stated h.lines h.passed in
    let sound = c.in_ok-relation.ensures.sound h.lines h.passed in
    let typing = c.in_ok-relation.ensures.typing h.lines h.passed in
    record {
      lines = h.lines;
      read = h.read;
      sound = rw (c.in_ok-pair.ensures.0, c.in_ok-pair.ensures.1) at sound;
      typing = rw (c.in_ok-pair.ensures.0, c.in_ok-pair.ensures.1) at typing;
      stated = rw (c.in_ok-pair.ensures.0, c.in_ok-pair.ensures.1) at is;
    }
