-- What follows from how a command ends.
use Rattle.std.proofs.Common.{◌≡◌, ◌⊎◌, inl, inr}
use Rattle.outside.specs.Causes.{Rose}
use Rattle.outside.specs.States.{SinkState, Change}
use Rattle.command_answers.specs.declared.status.Status.{Status}
use Rattle.command_answers.specs.declared.status.Status.TheVariants.{WriteFault}
use Rattle.command_answers.specs.Answers.{Answers}
use Rattle.command_answers.specs.Ends.{Asking, IsComplete}
use Rattle.command_answers.proofs.AnswerLemmas.{exact_of}

pub by_either : {A B C : Type 0} → (A → C) → (B → C) → A ⊎ B → C
by_either f g (inl h) = f h
by_either f g (inr h) = g h

neither : (A B : Type 0) → (A → ⊥) → (B → ⊥) → A ⊎ B → ⊥
neither A B a b (inl h) = a h
neither A B a b (inr h) = b h

pub complete_of : {Texts : Type 0} (asked : Asking Texts) (status : Status) (k : Change) (old new : SinkState)
    → ((t : Texts) → asked.Tells k.before t → Answers (asked.Reports k t) (asked.ReadRose k) status old.taken new.taken)
    → (status ≡ WriteFault → asked.WriteRose k ⊎ Rose old.faults new.faults) → IsComplete asked status k old new
complete_of asked status k old new answer write_fault = λ t told reads writes sink memory.
    exact_of (asked.Reports k t) (asked.ReadRose k) status old.taken new.taken (answer t told) reads (λ e. neither (asked.WriteRose k) (Rose old.faults new.faults) writes sink (write_fault e)) memory
