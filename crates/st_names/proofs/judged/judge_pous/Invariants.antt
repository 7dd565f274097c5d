use Rattle.std.proofs.Common.{◌≡◌, ◌++◌, drop, map}
use Rattle.call_order.specs.Uses.{graph_of}
use Rattle.rules.specs.Rules.{earlier, first_in}
use Rattle.source_tree.specs.SyntaxView.{file_view}
use Rattle.naming.specs.Broken.{in_pou, in_pous}
use Rattle.naming.specs.Circles.{uses_in}
use Rattle.pou_scope.specs.NamesView.{pous_named}
use Rattle.st_names.proofs.judged.judge_pous.Given as goal

abbrev pub invariant-loop-own : goal.invariant-loop-own
invariant-loop-own l = record {
  broken :
      earlier l.first (first_in (in_pous (file_view l.file.types.names.file.now) (pous_named (drop l.own-index l.all))))
      ≡ earlier l.fn.first (first_in (in_pous (file_view l.file.types.names.file.now) (pous_named l.all)));
  wholes :
      l.wholes.items ++ map (λ p. (in_pou (file_view l.file.types.names.file.now) p).whole) (pous_named (drop l.own-index l.all))
      ≡ map (λ p. (in_pou (file_view l.file.types.names.file.now) p).whole) (pous_named l.all);
  uses :
      graph_of l.all_uses.items ++ map (uses_in (file_view l.file.types.names.file.now)) (pous_named (drop l.own-index l.all))
      ≡ map (uses_in (file_view l.file.types.names.file.now)) (pous_named l.all);
}
