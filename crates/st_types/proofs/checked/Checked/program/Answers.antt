use Rattle.std.proofs.Common.{◌≡◌, ℕ, Option, Some, Result, Ok, Err, true, false, sym, subst}
use Rattle.std.specs.Prelude.{IfOk, IfErr, OnOk}
use Rattle.rules.specs.Faults.{IfRefused}
use Rattle.source_tree.specs.Syntax.{PouData, FileData}
use Rattle.source_tree.specs.SyntaxView.{pou_view}
use Rattle.program_tree.specs.View.{program_view}
use Rattle.scan_model.specs.InRange.{IsFitToRun}
use Rattle.file_bindings.specs.Bound.{program_number}
use Rattle.naming.specs.Broken.{is_program_pou}
use Rattle.naming.specs.FileScope.{pous_of, pou_at}
use Rattle.decl_types.specs.Bodies.{file_in}
use Rattle.typing.specs.Pous.{has_room}
use Rattle.typing_laws.proofs.OnlyPou.{if_each, position_inside}
use Rattle.typing_laws.proofs.FitLemmas.{typed_program-fit}
use Rattle.running_pous.specs.Stated.{stated_program}
use Rattle.st_types.specs.LargePous.{runs_large, IsRefusedIf}
use Rattle.st_types.proofs.checked.Checked.program.Goals as goal

-- the cells are those of the whole program
stated-fit : (f : FileData) (k : ℕ) (p : PouData) → IsFitToRun (stated_program f k p)
stated-fit f k p = let whole = typed_program-fit f k p in record { begins_with_fault = whole.begins_with_fault; start_in_range = whole.start_in_range }

-- facts of what is given, and of each number of a file's PROGRAM
ok_more : {A E : Type 0} (r : Result A E) (P Q : A → Type 0) → ((a : A) → P a → Q a) → IfOk r P → IfOk r Q
ok_more (Ok a) P Q each h = each a h
ok_more (Err e) P Q each h = h

on_each : {A E : Type 0} (r : Result A E) (P : ℕ → PouData → Type 0) (o : Option ℕ) (at : ℕ → Option PouData) (l : ℕ) (q : PouData) → o ≡ Some l → at l ≡ Some q → OnOk r (P l q)
    → OnOk r ((k : ℕ) (p : PouData) → o ≡ Some k → at k ≡ Some p → P k p)
on_each {E = E} (Ok a) P o at l q only here h = if_each {E = E} (Ok a) (λ x k p. P k p) o at l q only here h
on_each (Err e) P o at l q only here h = h

err_each : {A E : Type 0} (r : Result A E) (P : E → ℕ → PouData → Type 0) (o : Option ℕ) (at : ℕ → Option PouData) (l : ℕ) (q : PouData) → o ≡ Some l → at l ≡ Some q → IfErr r (λ e. P e l q)
    → IfErr r (λ e. (k : ℕ) (p : PouData) → o ≡ Some k → at k ≡ Some p → P e k p)
err_each (Ok a) P o at l q only here h = h
err_each {A = A} (Err e) P o at l q only here h = if_each {E = A} (Ok e) P o at l q only here h

pub returns-clause-typed : goal.returns-clause-typed
returns-clause-typed c =
    let f = file_in c.args.self.pous.domains in
    let k = c.args.self.number in
    let p = pou_view c.pou-program.result.now in
    if_each c.type_program.result (λ r n q. program_view r ≡ stated_program f n q) (program_number f) (pou_at f) k p c.args.self.one c.pou-program.ensures
    (subst (λ (g : FileData). IfOk c.type_program.result (λ r. program_view r ≡ stated_program g k p)) c.in_ok-placed.ensures c.type_program.ensures.typed)

pub returns-clause-fit : goal.returns-clause-fit
returns-clause-fit c =
    let f = file_in c.in_ok-placed.placed.pous.domains in
    let k = c.args.self.number in
    let p = pou_view c.pou-program.result.now in
    ok_more c.type_program.result (λ r. program_view r ≡ stated_program f k p) (λ r. IsFitToRun (program_view r)) (λ r is. subst IsFitToRun (sym is) (stated-fit f k p)) c.type_program.ensures.typed

pub returns-clause-few : goal.returns-clause-few
returns-clause-few c =
    let f = file_in c.args.self.pous.domains in
    let k = c.args.self.number in
    let p = pou_view c.pou-program.result.now in
    on_each c.type_program.result (λ n q. runs_large f n q ≡ false) (program_number f) (pou_at f) k p c.args.self.one c.pou-program.ensures
    (subst (λ (g : FileData). OnOk c.type_program.result (runs_large g k p ≡ false)) c.in_ok-placed.ensures c.type_program.ensures.few)

pub returns-clause-refused : goal.returns-clause-refused
returns-clause-refused c =
    let f = file_in c.args.self.pous.domains in
    let k = c.args.self.number in
    let p = pou_view c.pou-program.result.now in
    err_each c.type_program.result (λ e n q. IfRefused (IsRefusedIf (runs_large f n q)) e) (program_number f) (pou_at f) k p c.args.self.one c.pou-program.ensures
    (subst (λ (g : FileData). IfErr c.type_program.result (IfRefused (IsRefusedIf (runs_large g k p)))) c.in_ok-placed.ensures c.type_program.ensures.refused)

pub pou-program-requires : goal.pou-program-requires
pou-program-requires c = position_inside is_program_pou c.args.self.number (pous_of (file_in c.args.self.pous.domains)) c.args.self.one

pub type_program-requires-clause-room : goal.type_program-requires-clause-room
type_program-requires-clause-room c = subst (λ (f : FileData). has_room f c.args.self.number ≡ true) (sym c.in_ok-placed.ensures) c.args.self.room
