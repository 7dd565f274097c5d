use Rattle.std.proofs.Common.{◌≡◌, ◌+◌, ◌∷◌, ap, sym, ◌∙◌, drop}
use Rattle.source_tree.specs.SyntaxView.{pou_view}
use Rattle.naming.specs.FileScope.{pous_of}
use Rattle.rules.specs.declared.outcome.Outcome.{Outcome}
use Rattle.decl_types.specs.Bodies.{file_in}
use Rattle.rules.specs.Outcomes.{both}
use Rattle.typing.specs.Outcomes.{pous_outcome}
use Rattle.pou_cells.proofs.TableLemmas.{drop_at}
use Rattle.st_types.proofs.bodies.judge_pous.Goals as goal

pub loop-number-preserved : goal.loop-number-preserved
loop-number-preserved c =
    let f = file_in c.args.pous.now.domains in
    let n = c.loop-number.number in
    let ps = pous_of f in
    let here : drop n ps ≡ pou_view c.pou.result.now ∷ drop (n + 1) ps = drop_at ps n (pou_view c.pou.result.now) c.pou.ensures in
    ap (λ (o : Outcome). pous_outcome f (n + 1) o (drop (n + 1) ps)) (c.and-judged.ensures ∙ ap (both c.loop-number.judged) c.in_ok-judge_pou.ensures)
    ∙ sym (ap (pous_outcome f n c.loop-number.judged) here) ∙ c.loop-number.invariant
