use Rattle.std.proofs.Common.{◌≡◌, ◌+◌, drop}
use Rattle.outside.specs.Files.{place_of, file_at}
use Rattle.outside.proofs.files.place.Given as goal

abbrev pub invariant-loop-index : goal.invariant-loop-index
invariant-loop-index l = record {
  at : place_of l.files l.name ≡ place_of (drop l.index l.files) l.name + l.index;
  file : file_at l.files l.name ≡ file_at (drop l.index l.files) l.name;
}
