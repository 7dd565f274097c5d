use Rattle.std.proofs.Common.{◌≡◌, ◌+◌, ◌++◌, Option, option_map, length, ap, sym, ◌∙◌, arith}
use Rattle.program_tree.specs.declared.typed.TypedExpr.{TypedExpr}
use Rattle.program_tree.specs.View.{expr_view}
use Rattle.scan_model.specs.Pairs.{candidates_view}
use Rattle.scan_model.specs.Candidates.{numbered}
use Rattle.candidates.specs.Candidates.{before}
use Rattle.relation_file.proofs.GatheredLemmas.{one_more_numbered}
use Rattle.relation_file.proofs.gathered.add_numbered.Goals as goal

pub returns-in_ok-push-in-Some : goal.returns-in_ok-push-in-Some
returns-in_ok-push-in-Some c = λ rest.
    let found = c.args.found.now.items in
    let next = c.len-number.result + 1 in
    let counted : next ≡ length found + 1 = omega (arith, c.len-number.ensures, c.args.found.now.ok.0) in
    one_more_numbered c.args.word.now found c.push.new.self.items c.in_ok-candidate-in-Some.candidate (expr_view c.in-Some.clause) next rest c.in_ok-push-in-Some.ensures.items c.in_ok-candidate-in-Some.ensures counted
    ∙ ap (λ (o : Option TypedExpr). candidates_view found ++ numbered c.args.word.now (length found + 1) (before (option_map expr_view o) rest)) (sym c.in-Some.is)
