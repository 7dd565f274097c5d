use Rattle.std.proofs.Common.{◌≡◌, drop}
use Rattle.std.specs.List.{position_from}
use Rattle.naming.specs.Broken.{is_program_pou}
use Rattle.naming.specs.ScopeView.{pous_view}
use Rattle.st_names.proofs.resolution.program_number.Given as goal

abbrev pub invariant-loop-number : goal.invariant-loop-number
invariant-loop-number l = position_from is_program_pou l.number (pous_view (drop l.number l.pous)) ≡ position_from is_program_pou 0 (pous_view l.pous)
