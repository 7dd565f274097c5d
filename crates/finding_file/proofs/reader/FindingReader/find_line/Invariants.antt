use Rattle.std.proofs.Common.{false, ◌≡◌, ◌+◌, ◌-◌, length, IfSome}
use Rattle.outside.specs.Causes.{NoneFell}
use Rattle.finding_file.specs.Reading.{Agrees, IsSamePlace}
use Rattle.finding_file.proofs.reader.FindingReader.find_line.Given as goal

abbrev pub invariant-pieces : goal.invariant-pieces
invariant-pieces g l = record {
  place : IsSamePlace l.initial.self l.self;
  agrees : IfSome ((g.S.Shelf.state l.initial.shelf).file l.initial.self.name) (Agrees l.self);
  kept : (g.S.Shelf.state l.shelf).file ≡ (g.S.Shelf.state l.initial.shelf).file;
  reads : NoneFell (g.S.Shelf.state l.initial.shelf).read_faults (g.S.Shelf.state l.shelf).read_faults;
  writes : NoneFell (g.S.Shelf.state l.initial.shelf).write_faults (g.S.Shelf.state l.shelf).write_faults;
  unfailed : (g.S.Shelf.state l.shelf).read_failed ≡ false;
}

abbrev pub decreases-pieces : goal.decreases-pieces
decreases-pieces g l = l.self.limit - (l.self.at + length l.self.held)
