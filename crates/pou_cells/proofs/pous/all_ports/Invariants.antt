use Rattle.std.proofs.Common.{◌≡◌, ◌++◌, map, drop}
use Rattle.typing.specs.Members.{ports_of}
use Rattle.pou_cells.proofs.pous.all_ports.Given as goal

abbrev pub invariant-loop-own : goal.invariant-loop-own
invariant-loop-own l =
    map (λ v. v.items) l.list.items ++ map (λ v. ports_of v.items) (drop l.own-index l.members) ≡ map (λ v. ports_of v.items) l.members
