use Rattle.std.proofs.Common.{◌+◌, length}
use Rattle.call_order.specs.Marks.{unmarked}
use Rattle.program_tree.specs.View.{stmts_view}
use Rattle.decl_types.specs.Bodies.{file_in}
use Rattle.running_pous.specs.Uses.{uses_of_all}
use Rattle.running_pous.specs.Bodies.{bodies_view}
use Rattle.running_pous.proofs.SearchLemmas.{IsUnderWay}
use Rattle.st_types.proofs.LargeLemmas.{AreFew}
use Rattle.st_types.proofs.running.running_bodies.Given as goal

abbrev pub invariant-loop-number : goal.invariant-loop-number
invariant-loop-number l = record {
  search : IsUnderWay (file_in l.placed.pous.domains) (uses_of_all (stmts_view l.body)) l.marks.items l.runs.items (bodies_view l.bodies.items) l.waiting.items;
  few : AreFew (file_in l.placed.pous.domains) l.runs.items;
}

abbrev pub decreases-loop-number : goal.decreases-loop-number
decreases-loop-number l = length l.waiting.items + unmarked l.marks.items
