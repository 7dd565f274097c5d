use Rattle.std.proofs.Common.{◌≡◌, drop}
use Rattle.program_tree.specs.View.{stmts_view}
use Rattle.flat_form.specs.Idle.{is_idle_all, idle_in}
use Rattle.flat_form.proofs.idle.is_idle_all.Given as goal

-- what is left decides
abbrev pub invariant-loop-stmt : goal.invariant-loop-stmt
invariant-loop-stmt l = is_idle_all (idle_in l.idle) (stmts_view (drop l.stmt-index l.list)) ≡ is_idle_all (idle_in l.idle) (stmts_view l.list)
