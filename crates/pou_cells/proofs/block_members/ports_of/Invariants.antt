use Rattle.std.proofs.Common.{◌≡◌, ◌++◌, drop}
use Rattle.typing.specs.Members.{ports_of}
use Rattle.pou_cells.proofs.block_members.ports_of.Given as goal

abbrev pub invariant-loop-member : goal.invariant-loop-member
invariant-loop-member l =
    l.list.items ++ ports_of (drop l.member-index l.members) ≡ ports_of l.members
