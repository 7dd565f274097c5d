use Rattle.std.proofs.Common.{◌≡◌, ◌↔◌, drop}
use Rattle.source_tree.specs.SyntaxView.{names_view}
use Rattle.typing.specs.Programs.{joined}
use Rattle.clause_types.proofs.SideLemmas.{behind_points}
use Rattle.clause_types.proofs.sides.is_joined.Given as goal

abbrev pub invariant-loop-member : goal.invariant-loop-member
invariant-loop-member l = (l.text ≡ joined (names_view l.members)) ↔ (l.rest ≡ behind_points (names_view (drop l.member-index l.others)))
