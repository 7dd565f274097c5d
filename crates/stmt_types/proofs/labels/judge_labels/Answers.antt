use Rattle.std.proofs.Common.{◌≡◌, ◌∙◌, ◌+◌, [], ap, arith, drop}
use Rattle.std.proofs.lemmas.Grind.{common_steps}
use Rattle.source_tree.specs.declared.syntax.Entry.{out-Entry}
use Rattle.source_tree.specs.Syntax.{entry}
use Rattle.source_tree.specs.SyntaxView.{labels_view, stmts_view, entries_view}
use Rattle.rules.specs.declared.outcome.Outcome.{Outcome}
use Rattle.typing.specs.Labels.{seen_behind}
use Rattle.typing.specs.Outcomes.{labels_outcome, all_labels}
use Rattle.typing_laws.proofs.Judging.{labels_outcome-all}
use Rattle.typing_laws.proofs.Labelling.{labels_step, entry_view-out}
use Rattle.stmt_types.proofs.labels.judge_labels.Goals as goal

pub loop-entry-preserved : goal.loop-entry-preserved
loop-entry-preserved g c =
    let now = c.loop-entry.invariant.0 in
    let ls = labels_view c.deref.result.now in
    let rest = entries_view (drop (c.loop-entry.entry-index + 1) c.args.entries.now) in
    let split : entries_view (drop c.loop-entry.entry-index c.args.entries.now) ≡ entry ls (stmts_view (out-Entry c.entry-item.result).body.items) rest = grind (arith, common_steps, entry_view-out) in
    let step = c.in_ok-judged.ensures now c.loop-entry.invariant.1 in
    (seen_behind (g.S.Scope.means c.args.scope.now) c.args.kind now ls, step.1, labels_step (g.S.Scope.means c.args.scope.now) c.args.kind now c.loop-entry.judged c.in_ok-judged.judged _ ls _ _ rest split step.0 c.loop-entry.invariant.2)

pub returns : goal.returns
returns g c =
    let all : c.loop-entry.judged ≡ labels_outcome (g.S.Scope.means c.args.scope.now) c.args.kind [] c.ok-judged.result (all_labels (entries_view c.args.entries.now)) = grind (arith, common_steps, c.loop-entry.invariant.2) in
    all ∙ ap (λ (o : Outcome). labels_outcome (g.S.Scope.means c.args.scope.now) c.args.kind [] o (all_labels (entries_view c.args.entries.now))) c.ok-judged.ensures ∙ labels_outcome-all (g.S.Scope.means c.args.scope.now) c.args.kind (all_labels (entries_view c.args.entries.now))
