use Rattle.std.proofs.Common.{◌≡◌, ◌∙◌, ℕ, List, ◌++◌, ap, sym, subst, arith, refl}
use Rattle.std.specs.Prelude.{Option, Some, Ok, Err, IfSome, IfOk, MatchOption, MatchResult}
use Rattle.outside.specs.Causes.{Rose}
use Rattle.finding_lines.specs.declared.line.Line.{Line}
use Rattle.finding_lines.specs.Spelling.{written}
use Rattle.finding_file.specs.Ahead.{ahead}
use Rattle.finding_file.specs.declared.errors.ReadErr.TheVariants.{Fault, Memory}
use Rattle.finding_file.specs.Answering.{IsAnswer}
use Rattle.finding_file.specs.Reading.{rest_of, Agrees, IsSamePlace, IsPast}
use Rattle.scan_replay.specs.Duos.{Compared, with_pair}
use Rattle.pair_trial.specs.Trials.{setting_in}
use Rattle.finding_check.proofs.Standing.{IfSome-all, Rose-before}
use Rattle.finding_report.specs.Noted.{left_behind}
use Rattle.finding_explain.specs.Notable.{IsFileOf, IsNotedTo}
use Rattle.finding_explain.proofs.NoteLemmas.{NotesLine, noted_none, told_end, told_stopped, told_never, told_on}
use Rattle.finding_explain.proofs.collect.collect.Goals as goal

pub lines-init : goal.lines-init
lines-init g c = record {
  told = IfSome-all
      {P = λ (file : List ℕ). (ls : List Line) → IsFileOf (setting_in c.args.trial.now) c.args.reader.now.limit file ls
      → IsNotedTo (setting_in c.args.trial.now) c.args.reader.now.limit file ls c.args.reader.now 0 c.in_ok-notes.notes}
      ((g.S.Shelf.state c.args.shelf.now).file c.args.reader.now.name)
      (λ file ls f.
      noted_none (setting_in c.args.trial.now) c.args.reader.now.limit file ls c.args.reader.now c.in_ok-notes.notes f c.requires.first_byte
      (ap (λ x. left_behind (setting_in c.args.trial.now) x ls) c.in_ok-notes.ensures.set) c.in_ok-notes.ensures.pair c.in_ok-notes.ensures.scans);
  trial = c.first_notes.ensures.kept;
  name = refl;
  limit = refl;
  agrees = c.requires.agrees;
  files = refl;
  reads = λ name. omega arith;
  writes = λ name. omega arith;
  unfailed = c.requires.unfailed;
}

pub returns-in-Err-clause-noted : goal.returns-in-Err-clause-noted
returns-in-Err-clause-noted g c =
    let s = setting_in c.args.trial.now in
    let limit = c.args.reader.now.limit in
    let told = (g.S.Shelf.state c.args.shelf.now).file c.args.reader.now.name in
    let same_file : (g.S.Shelf.state c.lines.shelf).file c.lines.reader.name ≡ told =
    ap (λ files. files c.lines.reader.name) c.lines.invariant.files ∙ ap (g.S.Shelf.state c.args.shelf.now).file c.lines.invariant.name
    in
    let answered = subst (λ (o : Option (List ℕ)). IfSome o (λ file. IsAnswer c.lines.reader (ahead (rest_of c.lines.reader file)) c.next.result)) same_file c.next.ensures.answer in
    told_stopped s limit told c.lines.reader c.lines.before c.lines.notes c.next.result c.in-Err.error c.lines.invariant.told c.lines.invariant.limit answered c.in-Err.is

pub returns-in-Err-clause-cause : goal.returns-in-Err-clause-cause
returns-in-Err-clause-cause g c = record {
  later = λ name. let first = c.lines.invariant.reads name in let more = c.next.ensures.cause.later name in omega (arith, first, more);
  failed = λ e.
      let fault : c.in-Err.error ≡ Fault = cc in
      let rose = c.next.ensures.cause.failed (c.in-Err.is ∙ ap Err fault) in
      Rose-before _ _ _ (c.lines.invariant.reads c.args.reader.now.name)
      (subst (λ (name : List ℕ). Rose ((g.S.Shelf.state c.lines.shelf).read_faults name) ((g.S.Shelf.state c.next.new.shelf).read_faults name)) c.lines.invariant.name rose);
}

pub returns-in_default-clause-noted : goal.returns-in_default-clause-noted
returns-in_default-clause-noted g c =
    let s = setting_in c.args.trial.now in
    let limit = c.args.reader.now.limit in
    let told = (g.S.Shelf.state c.args.shelf.now).file c.args.reader.now.name in
    let same_file : (g.S.Shelf.state c.lines.shelf).file c.lines.reader.name ≡ told =
    ap (λ files. files c.lines.reader.name) c.lines.invariant.files ∙ ap (g.S.Shelf.state c.args.shelf.now).file c.lines.invariant.name
    in
    let answered = subst (λ (o : Option (List ℕ)). IfSome o (λ file. IsAnswer c.lines.reader (ahead (rest_of c.lines.reader file)) c.next.result)) same_file c.next.ensures.answer in
    told_end s limit told c.lines.reader c.lines.before c.lines.notes c.next.result c.lines.invariant.told answered (c.in-Ok.is ∙ ap Ok c.in_default.is)

pub returns-clause-noted : goal.returns-clause-noted
returns-clause-noted g c =
    let s = setting_in c.args.trial.now in
    let limit = c.args.reader.now.limit in
    let told = (g.S.Shelf.state c.args.shelf.now).file c.args.reader.now.name in
    told_never s limit told c.lines.reader c.lines.before c.lines.notes (Err Memory) c.lines.invariant.told (omega (arith, c.requires.limit))

pub lines-preserved : goal.lines-preserved
lines-preserved g c =
    let s = setting_in c.args.trial.now in
    let limit = c.args.reader.now.limit in
    let told = (g.S.Shelf.state c.args.shelf.now).file c.args.reader.now.name in
    let line = c.in-Some.line in
    let same_file : (g.S.Shelf.state c.lines.shelf).file c.lines.reader.name ≡ told =
    ap (λ files. files c.lines.reader.name) c.lines.invariant.files ∙ ap (g.S.Shelf.state c.args.shelf.now).file c.lines.invariant.name
    in
    let is : c.next.result ≡ Ok (Some line) = c.in-Ok.is ∙ ap Ok c.in-Some.is in
    let answered = subst (λ (o : Option (List ℕ)). IfSome o (λ file. IsAnswer c.lines.reader (ahead (rest_of c.lines.reader file)) c.next.result)) same_file c.next.ensures.answer in
    let rest = subst (λ (o : Option (List ℕ)). IfSome o (λ file. IfOk c.next.result (λ answer. IfSome answer (λ next. rest_of c.lines.reader file ≡ written next ++ rest_of c.next.new.self file)))) same_file c.next.ensures.rest in
    let past : IsPast c.lines.reader c.next.new.self line =
    subst (λ r. MatchResult r (λ answer. MatchOption answer (IsSamePlace c.lines.reader c.next.new.self) (λ next. IsPast c.lines.reader c.next.new.self next)) (λ e. IsSamePlace c.lines.reader c.next.new.self)) is c.next.ensures.place
    in
    let noted : NotesLine s line c.lines.notes c.note.new.notes =
    subst (λ (d : Compared). NotesLine (setting_in d) line c.lines.notes c.note.new.notes) c.lines.invariant.trial
    (record { set = c.in_ok-note.ensures.set; pair = c.in_ok-note.ensures.pair; scans = c.in_ok-note.ensures.scans })
    in
    record {
      told = told_on s limit told c.lines.reader c.lines.before c.lines.notes c.next.result c.next.new.self line c.note.new.notes c.lines.invariant.told answered is rest past.at noted;
      trial = c.note.ensures.kept ∙ ap (with_pair c.note.new.trial.pair) c.lines.invariant.trial;
      name = past.name ∙ c.lines.invariant.name;
      limit = past.limit ∙ c.lines.invariant.limit;
      agrees = subst (λ (o : Option (List ℕ)). IfSome o (Agrees c.next.new.self)) (sym (ap (λ files. files c.next.new.self.name) c.next.ensures.kept ∙ ap (g.S.Shelf.state c.lines.shelf).file past.name)) c.next.ensures.agrees;
      files = c.next.ensures.kept ∙ c.lines.invariant.files;
      reads = λ name. let first = c.lines.invariant.reads name in let more = c.next.ensures.cause.later name in omega (arith, first, more);
      writes = λ name. let first = c.lines.invariant.writes name in let more = c.next.ensures.writes name in omega (arith, first, more);
      unfailed = c.next.ensures.unfailed (λ e. cc) (λ e. cc);
    }
