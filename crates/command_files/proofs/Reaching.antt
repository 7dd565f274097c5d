-- Reads of files, one after another.
use Rattle.std.proofs.Common.{◌≤◌, ℕ, List, arith}
use Rattle.outside.specs.Reach.{ReachesAtMost}

-- a read behind others, that goes no further
pub reach_on : (count far : ℕ) (first before now : List ℕ → ℕ) → far ≤ count → ReachesAtMost count first before → ReachesAtMost far before now → ReachesAtMost count first now
reach_on count far first before now within earlier more = λ name. omega (arith, within, earlier name, more name)
