use Rattle.std.proofs.Common.{◌≡◌, ◌<◌, ◌^◌, ℕ, [], ◌++◌, map, drop}
use Rattle.decl_types.specs.Bodies.{file_in}
use Rattle.naming.specs.FileScope.{pous_of}
use Rattle.typing.specs.Members.{members_in}
use Rattle.typing.specs.Places.{count_of_cells, variables_at}
use Rattle.pou_cells.specs.PouTables.{all_members}
use Rattle.pou_cells.proofs.tables.all_members.Given as goal

abbrev pub invariant-loop-number : goal.invariant-loop-number
invariant-loop-number l = record {
  made : map (λ v. v.items) l.list.items ++ map (members_in (file_in l.domains) []) (drop l.number (pous_of (file_in l.domains))) ≡ all_members (file_in l.domains) [];
  few : (k : ℕ) → k < l.number → count_of_cells (file_in l.domains) [] (variables_at (file_in l.domains) k) < 2 ^ 62;
}
