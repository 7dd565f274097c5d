use Rattle.std.proofs.Common.{Option, ◌+◌, ◌++◌, length, ap, ◌∙◌}
use Rattle.std.specs.Prelude.{codes}
use Rattle.program_tree.specs.Tree.{Expression}
use Rattle.program_tree.specs.View.{exprs_view}
use Rattle.scan_model.specs.declared.relation.InputLine.{InputLine}
use Rattle.scan_model.specs.Pairs.{candidates_view}
use Rattle.scan_model.specs.Candidates.{numbered}
use Rattle.candidates.specs.Candidates.{before}
use Rattle.candidates.specs.PairView.{old_of, new_of}
use Rattle.relation_lines.specs.View.{line_view}
use Rattle.relation_file.proofs.GatheredLemmas.{one_more_gathered}
use Rattle.relation_file.proofs.gathered.Gathered.note.Goals as goal

pub returns : goal.returns
returns c = λ ls w.
    let kept = c.args.self.now in
    one_more_gathered (old_of c.args.pair.now) (new_of c.args.pair.now) ls (line_view c.args.line.now) kept _ w
    c.first_number-depth.ensures
    c.first_number-conflicts.ensures
    c.must_agree-equal_faults.ensures
    (λ rest. c.in_ok-add_input.ensures rest ∙ ap (λ (o : Option InputLine). kept.inputs.items ++ before o rest) c.input_of.ensures)
    (λ rest. c.in_ok-add_clause.ensures rest ∙ ap (λ (o : Option Expression). exprs_view kept.environment.items ++ before o rest) c.in_ok-environment.ensures)
    (λ rest. c.in_ok-add_numbered.ensures rest ∙ ap (λ (o : Option Expression). candidates_view kept.invariants.items ++ numbered (codes "INVARIANT ") (length kept.invariants.items + 1) (before o rest)) c.in_ok-invariant.ensures)
    (λ rest. c.in_ok-add_numbered-2.ensures rest ∙ ap (λ (o : Option Expression). candidates_view kept.relates.items ++ numbered (codes "RELATE ") (length kept.relates.items + 1) (before o rest)) c.in_ok-relate.ensures)
