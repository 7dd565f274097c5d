-- Command lines that `verify` refuses by itself, and commands that change no file.
use Rattle.std.proofs.Common.{◌≡◌, ◌≢◌, ◌≤◌, inr, true, false, if◌then◌else◌, refl, sym, ◌∙◌, ap, arith}
use Rattle.outside.specs.Causes.{Rose}
use Rattle.outside.specs.States.{ShelfState, SinkState, Change, change}
use Rattle.command_line.specs.Asked.{Asked, check, explain, gen, replay, verify, usage}
use Rattle.command_answers.specs.declared.status.Status.{Status}
use Rattle.command_answers.specs.declared.status.Status.TheVariants.{Usage, ReadFault, WriteFault, Memory}
use Rattle.command_answers.specs.Reports.{usage_report}
use Rattle.command_answers.specs.Answers.{HasPut, memory_line}
use Rattle.command_answers.specs.Ends.{Ends}
use Rattle.command_answers.proofs.AnswerLemmas.{answered, memory_at_once}
use Rattle.finding_commands.specs.Texts.{Texts}
use Rattle.gen_command.specs.verify_command.Reports.{as_before}
use Rattle.gen_command.proofs.Since.{files_kept}
use Rattle.regver_top.specs.Asking.{is_refused, settled, number, asking, asking_for_usage}

pub settled_usage : (a : Asked) → is_refused a ≡ true → settled a ≡ usage
settled_usage a e = ap (λ b. if b then usage else a) e

pub settled_same : (a : Asked) → is_refused a ≡ false → settled a ≡ a
settled_same a e = ap (λ b. if b then usage else a) e

-- where no file changes none but the finding does, and that is as before
kept_same : (k : Change) (a : Asked) → k.after.file ≡ k.before.file → (asking a).Keeps k
kept_same k (check old new rel finding) e = e
kept_same k (explain old new rel finding) e = e
kept_same k (replay old new rel trace) e = e
kept_same k (verify old new rel finding) e = λ other differs. ap (λ f. f other) e
kept_same k (gen count) e = λ other a b d h. ap (λ f. f other) e
kept_same k usage e = e

left_same : (k : Change) (a : Asked) (t : Texts) → k.after.file ≡ k.before.file → (asking a).Leaves k t
left_same k (check old new rel finding) t e = tt
left_same k (explain old new rel finding) t e = tt
left_same k (replay old new rel trace) t e = tt
left_same k (verify old new rel finding) t e = as_before (ap (λ f. f finding) e)
left_same k (gen count) t e = files_kept (number count) k e
left_same k usage t e = tt

-- a last text was put whose status is another than that of a read that failed
no_read_fault : (status result : Status) → status ≢ ReadFault → (result ≢ WriteFault → result ≢ Memory → result ≡ status) → result ≢ ReadFault
no_read_fault status result other ends e =
    other (sym (ends (λ w. let g : ReadFault ≡ WriteFault = sym e ∙ w in cc) (λ m. let g : ReadFault ≡ Memory = sym e ∙ m in cc)) ∙ e)

module _ (result : Status) (shelf : ShelfState) (old new : SinkState) (later : old.faults ≤ new.faults) where
  -- the line on how the program is used was put
  pub usage_ends : HasPut usage_report.text Usage result old.taken new.taken → (result ≢ WriteFault → result ≢ Memory → result ≡ Usage)
      → (result ≡ WriteFault → Usage ≢ WriteFault → Rose old.faults new.faults) → Ends asking_for_usage result (change shelf shelf) old new
  usage_ends put ends cause = record {
    kept = refl;
    untouched = λ _. refl;
    left = λ t told. tt;
    answer = λ t told. answered (λ r. r ≡ usage_report) ⊥ usage_report result old.taken new.taken refl refl put;
    read_fault = no_read_fault Usage result (λ e. cc) ends;
    write_fault = λ e. inr (cause e (λ w. cc));
    reads = λ name. omega arith;
    writes = λ name. omega arith;
    faults = later;
  }

  -- the line on memory that was wanting was put
  pub memory_ends : (a : Asked) → HasPut memory_line Memory result old.taken new.taken → (result ≢ WriteFault → result ≢ Memory → result ≡ Memory)
      → (result ≡ WriteFault → Memory ≢ WriteFault → Rose old.faults new.faults) → Ends (asking a) result (change shelf shelf) old new
  memory_ends a put ends cause = record {
    kept = kept_same (change shelf shelf) a refl;
    untouched = λ _. refl;
    left = λ t told. left_same (change shelf shelf) a t refl;
    answer = λ t told. memory_at_once ((asking a).Reports (change shelf shelf) t) ((asking a).ReadRose (change shelf shelf)) result old.taken new.taken put;
    read_fault = λ e. absurd (no_read_fault Memory result (λ f. cc) ends e);
    write_fault = λ e. inr (cause e (λ w. cc));
    reads = λ name. omega arith;
    writes = λ name. omega arith;
    faults = later;
  }
