use Rattle.std.proofs.Common.{◌≡◌, ◌<◌, ◌∙◌, ◌++◌, ℕ, Option, Some, Ok, Err, IfSome, length, take, ap, sym, subst, arith}
use Rattle.std.specs.Prelude.{MatchOption}
use Rattle.std.proofs.lemmas.Bool.{eqb-false}
use Rattle.finding_lines.specs.declared.line.Line.{Line}
use Rattle.finding_lines.specs.Reading.{ReadsLine}
use Rattle.finding_lines.specs.Spelling.{written}
use Rattle.finding_file.specs.declared.reader.Found.{Found}
use Rattle.finding_file.specs.declared.errors.ReadErr.TheVariants.{M8, Spelling, Unended}
use Rattle.finding_file.specs.Ahead.{ahead}
use Rattle.finding_file.specs.Answering.{IsAnswer}
use Rattle.finding_file.specs.Reading.{Reading, Agrees, rest_of}
use Rattle.finding_file.specs.Places.{IsFound, MeetsFound, IsSkipped}
use Rattle.finding_file.proofs.AnswerLemmas.{answer-past, answer-unended, answer-line, answer-misspelled, agrees-past, rest-past}
use Rattle.finding_file.proofs.ReaderLemmas.{told-one, told-both}
use Rattle.finding_file.proofs.reader.FindingReader.next.Goals as goal

pub returns-in-Past-clause-answer : goal.returns-in-Past-clause-answer
returns-in-Past-clause-answer g c =
    let found = c.in_ok-find_line.ensures in
    let old = c.args.self.now in
    let mid = c.find_line.new.self in
    let file = (g.S.Shelf.state c.args.shelf.now).file c.args.self.now.name in
    let held = subst (IsFound mid) c.in-Past.is found.found in
    let met = subst (λ (f : Found). IfSome file (λ bytes. MeetsFound mid bytes f)) c.in-Past.is found.met in
    told-both file (Agrees mid) (λ bytes. length mid.held < length (rest_of mid bytes)) (λ bytes. IsAnswer old (ahead (rest_of old bytes)) (Err M8)) found.agrees met
    (λ bytes a m. answer-past old mid bytes found.place a held.0 held.1 m)

pub returns-else-holds_nothing-clause-answer : goal.returns-else-holds_nothing-clause-answer
returns-else-holds_nothing-clause-answer g c =
    let found = c.in_ok-find_line.ensures in
    let old = c.args.self.now in
    let mid = c.find_line.new.self in
    let file = (g.S.Shelf.state c.args.shelf.now).file c.args.self.now.name in
    let lacks = subst (IsFound mid) c.in-End.is found.found in
    let met = subst (λ (f : Found). IfSome file (λ bytes. MeetsFound mid bytes f)) c.in-End.is found.met in
    let apart = eqb-false (length mid.held) 0 (sym c.holds_nothing.ensures ∙ c.if-holds_nothing.false) in
    let some : 0 < length mid.held = omega (arith, apart) in
    told-one file (λ bytes. rest_of mid bytes ≡ mid.held) (λ bytes. IsAnswer old (ahead (rest_of old bytes)) (Err (Unended c.number.result))) met
    (λ bytes m. subst (λ (n : ℕ). IsAnswer old (ahead (rest_of old bytes)) (Err (Unended n))) (sym c.number.ensures) (answer-unended old mid bytes found.place m found.within lacks some))

pub returns-in-Some-clause-answer : goal.returns-in-Some-clause-answer
returns-in-Some-clause-answer g c =
    let found = c.in_ok-find_line.ensures in
    let old = c.args.self.now in
    let mid = c.find_line.new.self in
    let new = c.take_line.new.self in
    let file = (g.S.Shelf.state c.args.shelf.now).file c.args.self.now.name in
    let first = subst (IsFound mid) c.in-Feed.is found.found in
    let read = subst (ReadsLine (take c.in-Feed.end mid.held)) c.in-Some.is c.in_ok-line-in-Feed.ensures.read in
    told-one file (Agrees mid) (λ bytes. IsAnswer old (ahead (rest_of old bytes)) (Ok (Some c.in-Some.line))) found.agrees
    (λ bytes a. answer-line old mid bytes c.in-Feed.end c.in-Some.line found.place a first found.within read.0 read.1)

pub returns-in-Some-clause-rest : goal.returns-in-Some-clause-rest
returns-in-Some-clause-rest g c =
    let found = c.in_ok-find_line.ensures in
    let old = c.args.self.now in
    let mid = c.find_line.new.self in
    let new = c.take_line.new.self in
    let file = (g.S.Shelf.state c.args.shelf.now).file c.args.self.now.name in
    let skipped = subst (λ (o : Option Line). MatchOption o (new ≡ mid) (λ line. IsSkipped mid new line)) c.in-Some.is c.in_ok-line-in-Feed.ensures.stays in
    told-one file (Agrees mid) (λ bytes. rest_of old bytes ≡ written c.in-Some.line ++ rest_of new bytes) found.agrees
    (λ bytes a. rest-past old mid new bytes c.in-Some.line found.place a skipped)

pub returns-in-Some-clause-agrees : goal.returns-in-Some-clause-agrees
returns-in-Some-clause-agrees g c =
    let found = c.in_ok-find_line.ensures in
    let mid = c.find_line.new.self in
    let new = c.take_line.new.self in
    let file = (g.S.Shelf.state c.args.shelf.now).file c.args.self.now.name in
    let skipped = subst (λ (o : Option Line). MatchOption o (new ≡ mid) (λ line. IsSkipped mid new line)) c.in-Some.is c.in_ok-line-in-Feed.ensures.stays in
    told-one file (Agrees mid) (Agrees new) found.agrees (λ bytes a. agrees-past mid new bytes c.in-Some.line a skipped)

pub returns-in-None-clause-answer : goal.returns-in-None-clause-answer
returns-in-None-clause-answer g c =
    let found = c.in_ok-find_line.ensures in
    let old = c.args.self.now in
    let mid = c.find_line.new.self in
    let new = c.take_line.new.self in
    let file = (g.S.Shelf.state c.args.shelf.now).file c.args.self.now.name in
    let first = subst (IsFound mid) c.in-Feed.is found.found in
    let none = subst (ReadsLine (take c.in-Feed.end mid.held)) c.in-None.is c.in_ok-line-in-Feed.ensures.read in
    let stays = subst (λ (o : Option Line). MatchOption o (new ≡ mid) (λ line. IsSkipped mid new line)) c.in-None.is c.in_ok-line-in-Feed.ensures.stays in
    let number : c.number-in-None.result ≡ mid.number = c.number-in-None.ensures ∙ ap (λ (r : Reading). r.number) stays in
    told-one file (Agrees mid) (λ bytes. IsAnswer old (ahead (rest_of old bytes)) (Err (Spelling c.number-in-None.result))) found.agrees
    (λ bytes a. subst (λ (n : ℕ). IsAnswer old (ahead (rest_of old bytes)) (Err (Spelling n))) (sym number) (answer-misspelled old mid bytes c.in-Feed.end found.place a first found.within none))
