-- How a run ends.
use Rattle.std.proofs.Common.{◌≡◌, ◌≢◌, ℕ, List, ◌++◌, ◌⊎◌, inl, inr, Option, refl, sym, ap, ◌∙◌, append_assoc}
use Rattle.outside.specs.Contents.{extended}
use Rattle.command_answers.specs.declared.status.Status.{Status}
use Rattle.command_answers.specs.declared.status.Status.TheVariants.{Related, Different, Open, Vacuous, Spent, Valid, Invalid, Replayed, Unrelated, NotAllowed, Usage, Refused, ReadFault, WriteFault, Memory}
use Rattle.command_answers.specs.Puts.{PutsPart}
use Rattle.command_answers.specs.Reports.{Report}
use Rattle.command_answers.specs.Answers.{Answers, AnswersSoFar, Extent, part_put, fault_told, all_put, extent_of, HasPut, IsExact, MayPut, a_report, a_read_fault, no_memory, no_memory_behind, memory_line, read_fault_line}
use Rattle.command_answers.proofs.PutLemmas.{extended-twice}

-- ---- the statuses behind which only a front is put

-- a status of another extent is none of those two
not_write_fault : (s : Status) → extent_of s ≢ part_put → s ≢ WriteFault
not_write_fault s e f = e (ap extent_of f)

not_memory : (s : Status) → extent_of s ≢ part_put → s ≢ Memory
not_memory s e f = e (ap extent_of f)

gives_up : (s : Status) → extent_of s ≡ part_put → (s ≡ WriteFault) ⊎ (s ≡ Memory)
gives_up WriteFault e = inl refl
gives_up Memory e = inr refl
gives_up ReadFault e = absurd (let f : fault_told ≡ part_put = e in cc)
gives_up Related e = absurd (let f : all_put ≡ part_put = e in cc)
gives_up Different e = absurd (let f : all_put ≡ part_put = e in cc)
gives_up Open e = absurd (let f : all_put ≡ part_put = e in cc)
gives_up Vacuous e = absurd (let f : all_put ≡ part_put = e in cc)
gives_up Spent e = absurd (let f : all_put ≡ part_put = e in cc)
gives_up Valid e = absurd (let f : all_put ≡ part_put = e in cc)
gives_up Invalid e = absurd (let f : all_put ≡ part_put = e in cc)
gives_up Replayed e = absurd (let f : all_put ≡ part_put = e in cc)
gives_up Unrelated e = absurd (let f : all_put ≡ part_put = e in cc)
gives_up NotAllowed e = absurd (let f : all_put ≡ part_put = e in cc)
gives_up Usage e = absurd (let f : all_put ≡ part_put = e in cc)
gives_up Refused e = absurd (let f : all_put ≡ part_put = e in cc)

-- a text that was put whole, as its status is of another extent than a front
put_whole : (text : List ℕ) (status result : Status) (old new : Option (List ℕ)) → HasPut text status result old new → extent_of result ≢ part_put → (result ≡ status) × (new ≡ extended old text)
put_whole text status result old new h e = h.whole (not_write_fault result e) (not_memory result e)

-- ---- texts behind others

-- a text behind one that was put whole
pub put_behind : (first text : List ℕ) (status result : Status) (told old new : Option (List ℕ)) → old ≡ extended told first → HasPut text status result old new → HasPut (first ++ text) status result told new
put_behind first text status result told old new e h = record {
  whole = λ w m. let k = h.whole w m in (k.0, k.1 ∙ ap (λ o. extended o text) e ∙ extended-twice told first text);
  part = record {
    kept = first ++ h.part.kept;
    rest = h.part.rest;
    whole = ap (λ l. first ++ l) h.part.whole ∙ sym (append_assoc first h.part.kept h.part.rest);
    put = h.part.put ∙ ap (λ o. extended o h.part.kept) e ∙ extended-twice told first h.part.kept;
  };
}

-- a front of a text is one of a longer text
pub part_longer : (old new : Option (List ℕ)) (text more : List ℕ) → PutsPart old new text → PutsPart old new (text ++ more)
part_longer old new text more h = record { kept = h.kept; rest = h.rest ++ more; whole = ap (λ l. l ++ more) h.whole ∙ append_assoc h.kept h.rest more; put = h.put }

-- ---- answers by how much was put

answered_so_far : (Wanted : Report → Type 0) (faulted : Type 0) (x : Extent) (r : Report) (result : Status) (old new : Option (List ℕ))
    → x ≡ extent_of result → Wanted r → extent_of r.status ≡ all_put → HasPut r.text r.status result old new → AnswersSoFar x Wanted faulted result old new
answered_so_far Wanted faulted part_put r result old new x w p h = (r.text, a_report r w refl, h.part)
answered_so_far Wanted faulted fault_told r result old new x w p h =
    let e = put_whole r.text r.status result old new h (λ f. let g : fault_told ≡ part_put = x ∙ f in cc) in
    absurd (let g : fault_told ≡ all_put = x ∙ ap extent_of e.0 ∙ p in cc)
answered_so_far Wanted faulted all_put r result old new x w p h =
    let e = put_whole r.text r.status result old new h (λ f. let g : all_put ≡ part_put = x ∙ f in cc) in
    (r, w, e.0, e.1)

-- a report was put that is asked for
pub answered : (Wanted : Report → Type 0) (faulted : Type 0) (r : Report) (result : Status) (old new : Option (List ℕ))
    → Wanted r → extent_of r.status ≡ all_put → HasPut r.text r.status result old new → Answers Wanted faulted result old new
answered Wanted faulted r result old new w p h = answered_so_far Wanted faulted (extent_of result) r result old new refl w p h

memory_so_far : (Wanted : Report → Type 0) (faulted : Type 0) (x : Extent) (result : Status) (text : List ℕ) (old new : Option (List ℕ))
    → x ≡ extent_of result → MayPut Wanted faulted text → HasPut text Memory result old new → AnswersSoFar x Wanted faulted result old new
memory_so_far Wanted faulted part_put result text old new x m h = (text, m, h.part)
memory_so_far Wanted faulted fault_told result text old new x m h =
    let e = put_whole text Memory result old new h (λ f. let g : fault_told ≡ part_put = x ∙ f in cc) in
    absurd (let g : fault_told ≡ part_put = x ∙ ap extent_of e.0 in cc)
memory_so_far Wanted faulted all_put result text old new x m h =
    let e = put_whole text Memory result old new h (λ f. let g : all_put ≡ part_put = x ∙ f in cc) in
    absurd (let g : all_put ≡ part_put = x ∙ ap extent_of e.0 in cc)

-- the line on want of memory was put
memory_put : (Wanted : Report → Type 0) (faulted : Type 0) (result : Status) (text : List ℕ) (old new : Option (List ℕ))
    → MayPut Wanted faulted text → HasPut text Memory result old new → Answers Wanted faulted result old new
memory_put Wanted faulted result text old new m h = memory_so_far Wanted faulted (extent_of result) result text old new refl m h

pub memory_at_once : (Wanted : Report → Type 0) (faulted : Type 0) (result : Status) (old new : Option (List ℕ)) → HasPut memory_line Memory result old new → Answers Wanted faulted result old new
memory_at_once Wanted faulted result old new h = memory_put Wanted faulted result memory_line old new (no_memory refl) h

pub memory_behind : (Wanted : Report → Type 0) (faulted : Type 0) (r : Report) (kept rest : List ℕ) (result : Status) (told old new : Option (List ℕ))
    → Wanted r → r.text ≡ kept ++ rest → old ≡ extended told kept → HasPut memory_line Memory result old new → Answers Wanted faulted result told new
memory_behind Wanted faulted r kept rest result told old new w cut e h =
    memory_put Wanted faulted result (kept ++ memory_line) told new (no_memory_behind r kept rest w cut refl) (put_behind kept memory_line Memory result told old new e h)

fault_so_far : (Wanted : Report → Type 0) (faulted : Type 0) (x : Extent) (result : Status) (old new : Option (List ℕ))
    → x ≡ extent_of result → faulted → HasPut read_fault_line ReadFault result old new → AnswersSoFar x Wanted faulted result old new
fault_so_far Wanted faulted part_put result old new x f h = (read_fault_line, a_read_fault f refl, h.part)
fault_so_far Wanted faulted fault_told result old new x f h = (f, (put_whole read_fault_line ReadFault result old new h (λ e. let g : fault_told ≡ part_put = x ∙ e in cc)).1)
fault_so_far Wanted faulted all_put result old new x f h =
    let e = put_whole read_fault_line ReadFault result old new h (λ k. let g : all_put ≡ part_put = x ∙ k in cc) in
    absurd (let g : all_put ≡ fault_told = x ∙ ap extent_of e.0 in cc)

-- the line on a read that failed was put
pub fault_answered : (Wanted : Report → Type 0) (faulted : Type 0) (result : Status) (old new : Option (List ℕ))
    → faulted → HasPut read_fault_line ReadFault result old new → Answers Wanted faulted result old new
fault_answered Wanted faulted result old new f h = fault_so_far Wanted faulted (extent_of result) result old new refl f h

-- ---- what is asked for is among what is asked for elsewhere

may_wider : (W V : Report → Type 0) (F G : Type 0) (text : List ℕ) → ((r : Report) → W r → V r) → (F → G) → MayPut W F text → MayPut V G text
may_wider W V F G text w f (a_report r h e) = a_report r (w r h) e
may_wider W V F G text w f (a_read_fault h e) = a_read_fault (f h) e
may_wider W V F G text w f (no_memory e) = no_memory e
may_wider W V F G text w f (no_memory_behind r kept rest h cut e) = no_memory_behind r kept rest (w r h) cut e

exact_wider : (W V : Report → Type 0) (status : Status) (old new : Option (List ℕ)) → ((r : Report) → W r → V r) → IsExact W status old new → IsExact V status old new
exact_wider W V status old new w (r, h, s, e) = (r, w r h, s, e)

so_far_wider : (W V : Report → Type 0) (F G : Type 0) (x : Extent) (status : Status) (old new : Option (List ℕ)) → ((r : Report) → W r → V r) → (F → G)
    → AnswersSoFar x W F status old new → AnswersSoFar x V G status old new
so_far_wider W V F G part_put status old new w f (text, m, p) = (text, may_wider W V F G text w f m, p)
so_far_wider W V F G fault_told status old new w f h = (f h.0, h.1)
so_far_wider W V F G all_put status old new w f h = exact_wider W V status old new w h

pub answers-wider : (W V : Report → Type 0) (F G : Type 0) (status : Status) (old new : Option (List ℕ)) → ((r : Report) → W r → V r) → (F → G) → Answers W F status old new → Answers V G status old new
answers-wider W V F G status old new w f h = so_far_wider W V F G (extent_of status) status old new w f h

gives_no_more : (s : Status) → (s ≡ WriteFault) ⊎ (s ≡ Memory) → s ≢ WriteFault → s ≢ Memory → ⊥
gives_no_more s (inl h) w m = w h
gives_no_more s (inr h) w m = m h

so_far_exact : (Wanted : Report → Type 0) (faulted : Type 0) (x : Extent) (status : Status) (old new : Option (List ℕ))
    → AnswersSoFar x Wanted faulted status old new → x ≡ extent_of status → (faulted → ⊥) → status ≢ WriteFault → status ≢ Memory → IsExact Wanted status old new
so_far_exact Wanted faulted part_put status old new a e f w m = absurd (gives_no_more status (gives_up status (sym e)) w m)
so_far_exact Wanted faulted fault_told status old new a e f w m = absurd (f a.0)
so_far_exact Wanted faulted all_put status old new a e f w m = a

-- with no fault and no want of memory the answer is exact
pub exact_of : (Wanted : Report → Type 0) (faulted : Type 0) (status : Status) (old new : Option (List ℕ))
    → Answers Wanted faulted status old new → (faulted → ⊥) → status ≢ WriteFault → status ≢ Memory → IsExact Wanted status old new
exact_of Wanted faulted status old new a f w m = so_far_exact Wanted faulted (extent_of status) status old new a refl f w m

-- the line on want of memory was put behind a front of a report's lines
pub memory_behind_part : (Wanted : Report → Type 0) (faulted : Type 0) (r : Report) (lines more : List ℕ) (result : Status) (told old new : Option (List ℕ))
    → Wanted r → r.text ≡ lines ++ more → PutsPart told old lines → HasPut memory_line Memory result old new → Answers Wanted faulted result told new
memory_behind_part Wanted faulted r lines more result told old new w cut p h =
    memory_behind Wanted faulted r p.kept (p.rest ++ more) result told old new w (cut ∙ ap (λ l. l ++ more) p.whole ∙ append_assoc p.kept p.rest more) p.put h
