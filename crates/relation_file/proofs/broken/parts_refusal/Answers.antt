use Rattle.std.proofs.Common.{ap, sym, ◌∙◌}
use Rattle.rules.specs.Rules.{first_in}
use Rattle.source_tree.specs.SyntaxView.{tree_view}
use Rattle.typing.specs.Typing.{Scope}
use Rattle.relation_lines.specs.declared.line.Content.{Content}
use Rattle.relation_lines.specs.View.{content_view}
use Rattle.relation_file.specs.Broken.{broken_parts}
use Rattle.relation_file.specs.Clauses.{broken_names}
use Rattle.candidates.specs.PairView.{old_of, new_of}
use Rattle.relation_file.proofs.broken.parts_refusal.Goals as goal

pub returns-in-Clause : goal.returns-in-Clause
returns-in-Clause c = λ before recalls.
    c.names_refusal.ensures ∙ ap (λ (m : Scope). first_in (broken_names m (tree_view c.in-Clause.clause))) c.args.pair.now.scoped
    ∙ ap (λ (x : Content). first_in (broken_parts (old_of c.args.pair.now) (new_of c.args.pair.now) before (content_view x))) (sym c.in-Clause.is)
