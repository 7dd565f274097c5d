use Rattle.std.proofs.Common.{◌≡◌, drop}
use Rattle.naming.specs.Library.{conversion_in}
use Rattle.naming.proofs.library.conversion_in.Given as goal

abbrev pub invariant-loop-from : goal.invariant-loop-from
invariant-loop-from l = conversion_in (drop l.from-index l.types) l.text ≡ conversion_in l.types l.text
