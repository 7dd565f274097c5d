use Rattle.std.proofs.Common.{◌≡◌, ◌==◌, drop}
use Rattle.std.specs.List.{list_any}
use Rattle.stmt_types.proofs.iteration.is_among.Given as goal

abbrev pub invariant-loop-control : goal.invariant-loop-control
invariant-loop-control l = list_any (λ d. l.cell == d) (drop l.control-index l.controls) ≡ list_any (λ d. l.cell == d) l.controls
