use Rattle.std.proofs.Common.{None, ap}
use Rattle.source_tree.specs.SyntaxView.{tree_view}
use Rattle.typing.specs.Typed.{typed}
use Rattle.typing.specs.Typing.{Scope}
use Rattle.program_tree.specs.View.{expr_view}
use Rattle.candidates.proofs.PairLemmas.{if_other}
use Rattle.relation_file.proofs.gathered.typed_in.Goals as goal

pub returns : goal.returns
returns c = if_other c.typed_clause.result expr_view _ _ (ap (λ (m : Scope). typed m None (tree_view c.args.clause.now)) c.args.pair.now.scoped) c.typed_clause.ensures
