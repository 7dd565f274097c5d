use Rattle.std.proofs.Common.{◌≡◌, ap, sym, ◌∙◌, subst}
use Rattle.std.specs.Prelude.{IfOk}
use Rattle.rules.specs.Rules.{first_in}
use Rattle.source_tree.specs.SyntaxView.{tree_view}
use Rattle.typing.specs.Judged.{judged_clause}
use Rattle.typing.specs.Typing.{Scope}
use Rattle.relation_lines.specs.declared.line.Content.{Content}
use Rattle.relation_lines.specs.View.{content_view}
use Rattle.relation_file.specs.Broken.{broken_content}
use Rattle.candidates.specs.PairView.{old_of, new_of}
use Rattle.relation_file.proofs.broken.clause_refusal.Goals as goal

pub returns-in-Clause : goal.returns-in-Clause
returns-in-Clause c =
    let scoped = ap (λ (m : Scope). first_in (judged_clause m (tree_view c.in-Clause.clause)).broken) c.args.pair.now.scoped in
    let clause = ap (λ (x : Content). first_in (broken_content (old_of c.args.pair.now) (new_of c.args.pair.now) (content_view x))) (sym c.in-Clause.is) in
    subst (λ want. IfOk c.judge_clause.result (λ first. first ≡ want)) (scoped ∙ clause) c.judge_clause.ensures
