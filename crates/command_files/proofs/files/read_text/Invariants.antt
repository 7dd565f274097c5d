use Rattle.std.proofs.Common.{false, ◌≡◌, ◌-◌, length, take, IfSome, vec_len}
use Rattle.outside.specs.Causes.{NoneFell}
use Rattle.outside.specs.Reach.{ReachesAtMost}
use Rattle.command_files.proofs.files.read_text.Given as goal

abbrev pub invariant-parts : goal.invariant-parts
invariant-parts g l = record {
  kept : (g.S.Shelf.state l.shelf).file ≡ (g.S.Shelf.state l.initial.shelf).file;
  read : IfSome ((g.S.Shelf.state l.initial.shelf).file l.name) (λ bytes. l.text.items ≡ take (length l.text.items) bytes);
  reads : NoneFell (g.S.Shelf.state l.initial.shelf).read_faults (g.S.Shelf.state l.shelf).read_faults;
  writes : NoneFell (g.S.Shelf.state l.initial.shelf).write_faults (g.S.Shelf.state l.shelf).write_faults;
  unfailed : (g.S.Shelf.state l.shelf).read_failed ≡ false;
  reach : ReachesAtMost 1048577 (g.S.Shelf.state l.initial.shelf).reach (g.S.Shelf.state l.shelf).reach;
  room : length l.buffer ≡ 65536;
}

abbrev pub decreases-parts : goal.decreases-parts
decreases-parts g l = 1048577 - vec_len l.text
