use Rattle.std.proofs.Common.{◌≡◌, map, drop}
use Rattle.decl_types.specs.Told.{told_outcome}
use Rattle.decl_types.specs.ToldView.{told_view}
use Rattle.decl_types.proofs.told.judge_told.Given as goal

abbrev pub invariant-loop-told : goal.invariant-loop-told
invariant-loop-told l =
    told_outcome l.judged (map told_view (drop l.told-index l.tolds)) ≡ told_outcome l.initial.judged (map told_view l.tolds)
