use Rattle.std.proofs.Common.{false, ◌≡◌, List}
use Rattle.std.specs.Prelude.{IfSome}
use Rattle.outside.specs.Causes.{NoneFell}
use Rattle.finding_lines.specs.declared.line.Line.{Line}
use Rattle.finding_file.specs.Reading.{Agrees}
use Rattle.scan_replay.specs.Duos.{with_pair}
use Rattle.pair_trial.specs.Trials.{setting_in}
use Rattle.finding_explain.specs.Notable.{IsFileOf, IsNotedTo}
use Rattle.finding_explain.proofs.collect.collect.Given as goal

abbrev pub invariant-lines : goal.invariant-lines
invariant-lines g l = record {
  told : IfSome ((g.S.Shelf.state l.fn.shelf).file l.fn.reader.name)
      (λ file. (ls : List Line) → IsFileOf (setting_in l.fn.trial) l.fn.reader.limit file ls
      → IsNotedTo (setting_in l.fn.trial) l.fn.reader.limit file ls l.reader l.before l.notes);
  trial : l.trial ≡ with_pair l.trial.pair l.fn.trial;
  name : l.reader.name ≡ l.fn.reader.name;
  limit : l.reader.limit ≡ l.fn.reader.limit;
  agrees : IfSome ((g.S.Shelf.state l.shelf).file l.reader.name) (Agrees l.reader);
  files : (g.S.Shelf.state l.shelf).file ≡ (g.S.Shelf.state l.fn.shelf).file;
  reads : NoneFell (g.S.Shelf.state l.fn.shelf).read_faults (g.S.Shelf.state l.shelf).read_faults;
  writes : NoneFell (g.S.Shelf.state l.fn.shelf).write_faults (g.S.Shelf.state l.shelf).write_faults;
  unfailed : (g.S.Shelf.state l.shelf).read_failed ≡ false;
}
