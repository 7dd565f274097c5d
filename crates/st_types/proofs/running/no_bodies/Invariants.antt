use Rattle.std.proofs.Common.{◌≡◌, ◌++◌, ◌-◌, replicate}
use Rattle.program_tree.specs.Tree.{no_statements}
use Rattle.running_pous.specs.Bodies.{bodies_view}
use Rattle.st_types.proofs.running.no_bodies.Given as goal

abbrev pub invariant-loop : goal.invariant-loop
invariant-loop l = bodies_view l.list.items ++ replicate (l.count - l.counter) no_statements ≡ replicate l.count no_statements
