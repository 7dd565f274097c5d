use Rattle.std.proofs.Common.{false, ◌≡◌, ◌∙◌, ℕ, ◌+◌, ◌<◌, ◌^◌, List, ◌++◌, length, ap, sym, subst, arith, refl}
use Rattle.std.specs.Prelude.{Option, Some, Ok, Err, IfSome, IfOk, OnOk, MatchOption, MatchResult}
use Rattle.outside.specs.Causes.{Rose}
use Rattle.finding_lines.specs.Spelling.{written}
use Rattle.finding_file.specs.Ahead.{ahead}
use Rattle.finding_file.specs.declared.errors.ReadErr.TheVariants.{Fault, Memory}
use Rattle.judgement.specs.declared.answers.JudgeErr.TheVariants.{M8}
use Rattle.finding_file.specs.Answering.{IsAnswer}
use Rattle.finding_file.specs.Reading.{rest_of, Agrees, IsSamePlace, IsPast}
use Rattle.scan_replay.specs.Duos.{Compared, with_pair}
use Rattle.queries.specs.Comparisons.{Comparison}
use Rattle.queries.specs.Questions.{QueryData, IsQueryOf}
use Rattle.queries.specs.Meaning.{Means}
use Rattle.pair_trial.specs.Trials.{comparison_of, setting_in}
use Rattle.judgement.specs.Places.{goes, fails}
use Rattle.judgement.specs.Tests.{Moves}
use Rattle.judgement.specs.Findings.{IsJudged}
use Rattle.judgement.specs.Shown.{ShowsVerdict}
use Rattle.judgement.proofs.Soundness.{known_moved}
use Rattle.finding_check.specs.Rooms.{IsSmall, HasRoomAfter}
use Rattle.finding_check.specs.Stages.{place_of, moved_of}
use Rattle.finding_check.proofs.RoomLemmas.{small, room_next}
use Rattle.finding_check.proofs.Standing.{IfSome-all, read_none, told_end, told_stopped, told_fails, told_on, told_never, shows_end, shows_stopped, stopped-fault, stopped-unfailed, Rose-before}
use Rattle.finding_check.proofs.judging.judge.Goals as goal

pub lines-init : goal.lines-init
lines-init g c = record {
  told = IfSome-all _ (λ file. read_none (setting_in c.args.trial.now) (g.Q.Queries.formula c.args.queries.now) c.args.reader.now.limit file c.args.reader.now c.requires.first_byte);
  known = tt;
  room = tt;
  trial = refl;
  name = refl;
  limit = refl;
  agrees = c.requires.agrees;
  files = refl;
  reads = λ name. omega arith;
  writes = λ name. omega arith;
  unfailed = c.requires.unfailed;
}

pub judge_line-requires-clause-small : goal.judge_line-requires-clause-small
judge_line-requires-clause-small g c = subst (λ (d : Compared). IsSmall (setting_in d)) (sym c.lines.invariant.trial) (small (comparison_of c.args.trial.now) c.requires.comparison)

pub returns-in-Err-clause-exact : goal.returns-in-Err-clause-exact
returns-in-Err-clause-exact g c =
    let s = setting_in c.args.trial.now in
    let f = g.Q.Queries.formula c.args.queries.now in
    let limit = c.args.reader.now.limit in
    let told = (g.S.Shelf.state c.args.shelf.now).file c.args.reader.now.name in
    let place = place_of c.lines.stage c.lines.trial.pair in
    let same_file : (g.S.Shelf.state c.lines.shelf).file c.lines.reader.name ≡ told =
    ap (λ files. files c.lines.reader.name) c.lines.invariant.files ∙ ap (g.S.Shelf.state c.args.shelf.now).file c.lines.invariant.name
    in
    let answered = subst (λ (o : Option (List ℕ)). IfSome o (λ file. IsAnswer c.lines.reader (ahead (rest_of c.lines.reader file)) c.next.result)) same_file c.next.ensures.answer in
    subst (λ r. IfSome told (λ file. IsJudged s f limit file r)) (sym (c.stopped.ensures c.lines.trial.pair))
    (told_stopped s f limit told c.lines.reader c.lines.before place c.next.result c.in-Err.error c.lines.invariant.told c.lines.invariant.limit answered c.in-Err.is)

pub returns-in-Err-clause-sound : goal.returns-in-Err-clause-sound
returns-in-Err-clause-sound g c =
    let k = comparison_of c.args.trial.now in
    let f = g.Q.Queries.formula c.args.queries.now in
    subst (ShowsVerdict k f) (sym (c.stopped.ensures c.lines.trial.pair)) (shows_stopped k f (place_of c.lines.stage c.lines.trial.pair) (c.lines.before + 1) c.in-Err.error)

pub returns-in-Err-clause-cause : goal.returns-in-Err-clause-cause
returns-in-Err-clause-cause g c = record {
  later = λ name. let first = c.lines.invariant.reads name in let more = c.next.ensures.cause.later name in omega (arith, first, more);
  failed = λ e.
      let fault = stopped-fault (place_of c.lines.stage c.lines.trial.pair) (c.lines.before + 1) c.in-Err.error (sym (c.stopped.ensures c.lines.trial.pair) ∙ e) in
      let rose = c.next.ensures.cause.failed (c.in-Err.is ∙ ap Err fault) in
      Rose-before _ _ _ (c.lines.invariant.reads c.args.reader.now.name)
      (subst (λ (name : List ℕ). Rose ((g.S.Shelf.state c.lines.shelf).read_faults name) ((g.S.Shelf.state c.next.new.shelf).read_faults name)) c.lines.invariant.name rose);
}

pub returns-in-Err-clause-unfailed : goal.returns-in-Err-clause-unfailed
returns-in-Err-clause-unfailed g c =
    subst (λ r. OnOk r ((g.S.Shelf.state c.next.new.shelf).read_failed ≡ false)) (sym (c.stopped.ensures c.lines.trial.pair))
    (stopped-unfailed (place_of c.lines.stage c.lines.trial.pair) (c.lines.before + 1) c.in-Err.error
    (λ fault memory. c.next.ensures.unfailed
    (λ e. let both : Err c.in-Err.error ≡ Err Fault = sym c.in-Err.is ∙ e in let same : c.in-Err.error ≡ Fault = cc in fault same)
    (λ e. let both : Err c.in-Err.error ≡ Err Memory = sym c.in-Err.is ∙ e in let same : c.in-Err.error ≡ Memory = cc in memory same)))

pub returns-in_default-clause-exact : goal.returns-in_default-clause-exact
returns-in_default-clause-exact g c =
    let s = setting_in c.args.trial.now in
    let f = g.Q.Queries.formula c.args.queries.now in
    let limit = c.args.reader.now.limit in
    let told = (g.S.Shelf.state c.args.shelf.now).file c.args.reader.now.name in
    let place = place_of c.lines.stage c.lines.trial.pair in
    let same_file : (g.S.Shelf.state c.lines.shelf).file c.lines.reader.name ≡ told =
    ap (λ files. files c.lines.reader.name) c.lines.invariant.files ∙ ap (g.S.Shelf.state c.args.shelf.now).file c.lines.invariant.name
    in
    let answered = subst (λ (o : Option (List ℕ)). IfSome o (λ file. IsAnswer c.lines.reader (ahead (rest_of c.lines.reader file)) c.next.result)) same_file c.next.ensures.answer in
    subst (λ j. IfSome told (λ file. IsJudged s f limit file (Ok j))) (sym (c.end_of_file.ensures c.lines.trial.pair))
    (told_end s f limit told c.lines.reader c.lines.before place c.next.result c.lines.invariant.told c.lines.invariant.limit answered (c.in-Ok.is ∙ ap Ok c.in_default.is))

pub returns-in_default-clause-sound : goal.returns-in_default-clause-sound
returns-in_default-clause-sound g c =
    let k = comparison_of c.args.trial.now in
    let f = g.Q.Queries.formula c.args.queries.now in
    subst (λ j. ShowsVerdict k f (Ok j)) (sym (c.end_of_file.ensures c.lines.trial.pair))
    (shows_end k f (place_of c.lines.stage c.lines.trial.pair) (c.lines.before + 1) c.lines.invariant.known)

pub returns-in-Fails-clause-exact : goal.returns-in-Fails-clause-exact
returns-in-Fails-clause-exact g c =
    let s = setting_in c.args.trial.now in
    let f = g.Q.Queries.formula c.args.queries.now in
    let limit = c.args.reader.now.limit in
    let told = (g.S.Shelf.state c.args.shelf.now).file c.args.reader.now.name in
    let place = place_of c.lines.stage c.lines.trial.pair in
    let same_file : (g.S.Shelf.state c.lines.shelf).file c.lines.reader.name ≡ told =
    ap (λ files. files c.lines.reader.name) c.lines.invariant.files ∙ ap (g.S.Shelf.state c.args.shelf.now).file c.lines.invariant.name
    in
    let answered = subst (λ (o : Option (List ℕ)). IfSome o (λ file. IsAnswer c.lines.reader (ahead (rest_of c.lines.reader file)) c.next.result)) same_file c.next.ensures.answer in
    let moves : Moves s f place c.in-Some.line (fails c.in-Fails.reason) =
    subst (λ m. Moves s f place c.in-Some.line (moved_of m c.judge_line.new.trial.pair)) c.in-Fails.is
    (subst (λ (d : Compared). Moves (setting_in d) f place c.in-Some.line (moved_of c.in_ok-then.field-0 c.judge_line.new.trial.pair)) c.lines.invariant.trial c.in_ok-then.ensures.moved)
    in
    told_fails s f limit told c.lines.reader c.lines.before place c.next.result c.in-Some.line c.in-Fails.reason c.lines.invariant.told c.lines.invariant.limit answered
    (c.in-Ok.is ∙ ap Ok c.in-Some.is) moves

pub returns-clause-exact : goal.returns-clause-exact
returns-clause-exact g c =
    let s = setting_in c.args.trial.now in
    let f = g.Q.Queries.formula c.args.queries.now in
    let limit = c.args.reader.now.limit in
    let told = (g.S.Shelf.state c.args.shelf.now).file c.args.reader.now.name in
    let place = place_of c.lines.stage c.lines.trial.pair in
    told_never s f limit told c.lines.reader c.lines.before place (Err Memory) c.lines.invariant.told (omega (arith, c.requires.limit)) (λ file. IsJudged s f limit file (Err M8))

pub lines-preserved : goal.lines-preserved
lines-preserved g c =
    let k = comparison_of c.args.trial.now in
    let s = setting_in c.args.trial.now in
    let f = g.Q.Queries.formula c.args.queries.now in
    let limit = c.args.reader.now.limit in
    let told = (g.S.Shelf.state c.args.shelf.now).file c.args.reader.now.name in
    let place = place_of c.lines.stage c.lines.trial.pair in
    let after = place_of c.in-Goes.then c.judge_line.new.trial.pair in
    let line = c.in-Some.line in
    let same_file : (g.S.Shelf.state c.lines.shelf).file c.lines.reader.name ≡ told =
    ap (λ files. files c.lines.reader.name) c.lines.invariant.files ∙ ap (g.S.Shelf.state c.args.shelf.now).file c.lines.invariant.name
    in
    let is : c.next.result ≡ Ok (Some line) = c.in-Ok.is ∙ ap Ok c.in-Some.is in
    let answered = subst (λ (o : Option (List ℕ)). IfSome o (λ file. IsAnswer c.lines.reader (ahead (rest_of c.lines.reader file)) c.next.result)) same_file c.next.ensures.answer in
    let rest = subst (λ (o : Option (List ℕ)). IfSome o (λ file. IfOk c.next.result (λ answer. IfSome answer (λ next. rest_of c.lines.reader file ≡ written next ++ rest_of c.next.new.self file)))) same_file c.next.ensures.rest in
    let past : IsPast c.lines.reader c.next.new.self line =
    subst (λ r. MatchResult r (λ answer. MatchOption answer (IsSamePlace c.lines.reader c.next.new.self) (λ next. IsPast c.lines.reader c.next.new.self next)) (λ e. IsSamePlace c.lines.reader c.next.new.self)) is c.next.ensures.place
    in
    let moves : Moves s f place line (goes after) =
    subst (λ m. Moves s f place line (moved_of m c.judge_line.new.trial.pair)) c.in-Goes.is
    (subst (λ (d : Compared). Moves (setting_in d) f place line (moved_of c.in_ok-then.field-0 c.judge_line.new.trial.pair)) c.lines.invariant.trial c.in_ok-then.ensures.moved)
    in
    let means : (query : QueryData) → IsQueryOf k query → Means k query (f query) = λ query is_query.
    subst (λ (x : Comparison). Means x query (f query)) c.requires.compared (c.laws.ensures.means query (subst (λ (x : Comparison). IsQueryOf x query) (sym c.requires.compared) is_query))
    in
    let few : (query : QueryData) → IsQueryOf k query → length (f query).clauses < 2 ^ 31 = λ query is_query.
    c.laws.ensures.few query (subst (λ (x : Comparison). IsQueryOf x query) (sym c.requires.compared) is_query)
    in
    record {
      told = told_on s f limit told c.lines.reader c.lines.before place c.next.result c.next.new.self after line c.lines.invariant.told c.lines.invariant.limit answered is rest past.at moves;
      known = known_moved k f c.requires.comparison means place line (goes after) moves c.lines.invariant.known;
      room = subst (HasRoomAfter s (c.lines.before + 1)) (sym moves.2) (room_next k f c.requires.comparison few c.lines.before place moves.0 line c.lines.invariant.room);
      trial = c.in_ok-then.ensures.kept ∙ ap (with_pair c.judge_line.new.trial.pair) c.lines.invariant.trial;
      name = past.name ∙ c.lines.invariant.name;
      limit = past.limit ∙ c.lines.invariant.limit;
      agrees = subst (λ (o : Option (List ℕ)). IfSome o (Agrees c.next.new.self)) (sym (ap (λ files. files c.next.new.self.name) c.next.ensures.kept ∙ ap (g.S.Shelf.state c.lines.shelf).file past.name)) c.next.ensures.agrees;
      files = c.next.ensures.kept ∙ c.lines.invariant.files;
      reads = λ name. let first = c.lines.invariant.reads name in let more = c.next.ensures.cause.later name in omega (arith, first, more);
      writes = λ name. let first = c.lines.invariant.writes name in let more = c.next.ensures.writes name in omega (arith, first, more);
      unfailed = c.next.ensures.unfailed (λ e. cc) (λ e. cc);
    }
