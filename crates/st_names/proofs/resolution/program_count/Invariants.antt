use Rattle.std.proofs.Common.{◌≡◌, ◌≤◌, take, count_by}
use Rattle.naming.specs.Broken.{is_program_pou}
use Rattle.naming.specs.ScopeView.{pous_view}
use Rattle.st_names.proofs.resolution.program_count.Given as goal

abbrev pub invariant-loop-pou : goal.invariant-loop-pou
invariant-loop-pou l = record {
  counted : l.count ≡ count_by is_program_pou (pous_view (take l.pou-index l.pous));
  few : l.count ≤ l.pou-index;
}
