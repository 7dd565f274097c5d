use Rattle.std.proofs.Common.{false, ◌≡◌}
use Rattle.std.specs.Prelude.{IfSome}
use Rattle.outside.specs.Causes.{NoneFell}
use Rattle.scan_replay.specs.Duos.{with_pair}
use Rattle.finding_file.specs.Reading.{Agrees}
use Rattle.pair_trial.specs.Trials.{comparison_of, setting_in}
use Rattle.judgement.specs.Known.{Known}
use Rattle.finding_check.specs.Stages.{place_of}
use Rattle.finding_check.specs.Rooms.{HasRoom}
use Rattle.finding_check.specs.Readings.{IsReadTo}
use Rattle.finding_check.proofs.judging.judge.Given as goal

abbrev pub invariant-lines : goal.invariant-lines
invariant-lines g l = record {
  told : IfSome ((g.S.Shelf.state l.initial.shelf).file l.initial.reader.name)
      (λ file. IsReadTo (setting_in l.initial.trial) (g.Q.Queries.formula l.queries) l.initial.reader.limit file l.reader l.before (place_of l.stage l.trial.pair));
  known : Known (comparison_of l.initial.trial) (g.Q.Queries.formula l.queries) (place_of l.stage l.trial.pair);
  room : HasRoom (setting_in l.initial.trial) l.before (place_of l.stage l.trial.pair);
  trial : l.trial ≡ with_pair l.trial.pair l.initial.trial;
  name : l.reader.name ≡ l.initial.reader.name;
  limit : l.reader.limit ≡ l.initial.reader.limit;
  agrees : IfSome ((g.S.Shelf.state l.shelf).file l.reader.name) (Agrees l.reader);
  files : (g.S.Shelf.state l.shelf).file ≡ (g.S.Shelf.state l.initial.shelf).file;
  reads : NoneFell (g.S.Shelf.state l.initial.shelf).read_faults (g.S.Shelf.state l.shelf).read_faults;
  writes : NoneFell (g.S.Shelf.state l.initial.shelf).write_faults (g.S.Shelf.state l.shelf).write_faults;
  unfailed : (g.S.Shelf.state l.shelf).read_failed ≡ false;
}
