-- How a command ends, by what is before it and after it.
use Rattle.std.specs.Prelude.{◌≡◌, ◌≢◌, ◌≤◌, ◌⊎◌, Option, List, ℕ}
use Rattle.outside.specs.Causes.{Rose, NoneFell}
use Rattle.outside.specs.States.{ShelfState, SinkState, Change}
use Rattle.command_answers.specs.declared.status.Status.{Status}
use Rattle.command_answers.specs.declared.status.Status.TheVariants.{Usage, ReadFault, WriteFault, Memory}
use Rattle.command_answers.specs.Reports.{Report}
use Rattle.command_answers.specs.Answers.{Answers, IsExact}

-- What is asked for, by the texts of the files that are read: whether a shelf tells them, which reports may be put on them, whether a count of
-- reads or of writes rose for a file that is read or written, whether no file changes but those that are written, and what is left of these.
pub record Asking (Texts : Type 0) : Type 1 where
  pub Tells : ShelfState → Texts → Type 0
  pub Reports : Change → Texts → Report → Type 0
  pub ReadRose : Change → Type 0
  pub WriteRose : Change → Type 0
  pub Keeps : Change → Type 0
  pub Leaves : Change → Texts → Type 0

-- The change of the shelf, and the sink before and after, are those of what is asked for, with this status.
pub record Ends {Texts : Type 0} (asked : Asking Texts) (status : Status) (k : Change) (old new : SinkState) : Type 0 where
  -- no file changes but those that are written, and none where a read failed or the command line is none that there is
  pub kept : asked.Keeps k
  pub untouched : (status ≡ ReadFault) ⊎ (status ≡ Usage) → k.after.file ≡ k.before.file
  -- what is left of those that are written
  pub left : (t : Texts) → asked.Tells k.before t → asked.Leaves k t
  -- the bytes on the sink and the status are those of a report on the texts, where these are told
  pub answer : (t : Texts) → asked.Tells k.before t → Answers (asked.Reports k t) (asked.ReadRose k) status old.taken new.taken
  -- a fault comes only where a count rose, and no count falls
  pub read_fault : status ≡ ReadFault → asked.ReadRose k
  pub write_fault : status ≡ WriteFault → asked.WriteRose k ⊎ Rose old.faults new.faults
  pub reads : NoneFell k.before.read_faults k.after.read_faults
  pub writes : NoneFell k.before.write_faults k.after.write_faults
  pub faults : old.faults ≤ new.faults

-- where no count rose, the answer is the whole of a report, or memory was wanting
abbrev pub IsComplete : {Texts : Type 0} → Asking Texts → Status → Change → SinkState → SinkState → Type 0
IsComplete asked status k old new =
    (t : _) → asked.Tells k.before t → ¬ asked.ReadRose k → ¬ asked.WriteRose k → ¬ Rose old.faults new.faults
    → status ≢ Memory → IsExact (asked.Reports k t) status old.taken new.taken
