-- Answers behind a line that was put.
use Rattle.std.proofs.Common.{◌≡◌, ◌∙◌, ℕ, List, ◌++◌, Option, refl, sym, ap, append_assoc}
use Rattle.outside.specs.Contents.{extended}
use Rattle.command_answers.specs.declared.status.Status.{Status}
use Rattle.command_answers.specs.Puts.{PutsPart}
use Rattle.command_answers.specs.Reports.{Report}
use Rattle.command_answers.specs.Answers.{Answers, AnswersSoFar, Extent, part_put, fault_told, all_put, extent_of, PutsFront, MayPut, a_report, a_read_fault, no_memory, no_memory_behind, memory_line}
use Rattle.command_answers.proofs.PutLemmas.{extended-twice}
use Rattle.gen_command.specs.Lines.{behind, memory_report}

module _ (line : List ℕ) (told old new : Option (List ℕ)) (W V : Report → Type 0) (wider : (r : Report) → W r → V (behind line r)) (wanting : V (behind line memory_report)) where
  may_behind : (text : List ℕ) → MayPut W ⊥ text → MayPut V ⊥ (line ++ text)
  may_behind text (a_report r w e) = a_report (behind line r) (wider r w) (ap (λ l. line ++ l) e)
  may_behind text (a_read_fault h e) = absurd h
  may_behind text (no_memory e) = a_report (behind line memory_report) wanting (ap (λ l. line ++ l) e)
  may_behind text (no_memory_behind r kept rest w cut e) =
      no_memory_behind (behind line r) (line ++ kept) rest (wider r w) (ap (λ l. line ++ l) cut ∙ sym (append_assoc line kept rest)) (ap (λ l. line ++ l) e ∙ sym (append_assoc line kept memory_line))

  part_behind : (text : List ℕ) → old ≡ extended told line → PutsPart old new text → PutsPart told new (line ++ text)
  part_behind text e h = record {
    kept = line ++ h.kept;
    rest = h.rest;
    whole = ap (λ l. line ++ l) h.whole ∙ sym (append_assoc line h.kept h.rest);
    put = h.put ∙ ap (λ o. extended o h.kept) e ∙ extended-twice told line h.kept;
  }

  so_far_behind : (x : Extent) (status : Status) → old ≡ extended told line → AnswersSoFar x W ⊥ status old new → AnswersSoFar x V ⊥ status told new
  so_far_behind part_put status e (text, m, p) = (line ++ text, may_behind text m, part_behind text e p)
  so_far_behind fault_told status e h = absurd h.0
  so_far_behind all_put status e (r, w, is, put) = (behind line r, wider r w, is, put ∙ ap (λ o. extended o r.text) e ∙ extended-twice told line r.text)

  -- the line was put, and then what is asked for
  pub answers_behind : (status : Status) → old ≡ extended told line → Answers W ⊥ status old new → Answers V ⊥ status told new
  answers_behind status e a = so_far_behind (extent_of status) status e a

-- a front of the line was put
pub line_given_up : (line : List ℕ) (V : Report → Type 0) (old new : Option (List ℕ)) → V (behind line memory_report) → PutsPart old new line → PutsFront V ⊥ old new
line_given_up line V old new wanting p = (
  line ++ memory_line,
  a_report (behind line memory_report) wanting refl,
  record {
    kept = p.kept;
    rest = p.rest ++ memory_line;
    whole = ap (λ l. l ++ memory_line) p.whole ∙ append_assoc p.kept p.rest memory_line;
    put = p.put;
  },
)
