-- The status of VALID comes from `check` and `explain` alone, and a verdict from `verify` alone.
use Rattle.std.proofs.Common.{◌≡◌, ℕ, List, Option, sym, ap, ◌∙◌, subst}
use Rattle.outside.specs.States.{Change}
use Rattle.scan_model.specs.declared.relation.Ending.{Ending}
use Rattle.scan_model.specs.declared.relation.Ending.TheVariants.{Related, Unrelated as UnrelatedAt, NotAllowed as NotAllowedAt}
use Rattle.judgement.specs.declared.answers.Judged.{Judged}
use Rattle.judgement.specs.declared.answers.Judged.TheVariants as judgements
use Rattle.command_answers.specs.declared.status.Status.{Status}
use Rattle.command_answers.specs.declared.status.Status.TheVariants.{Valid, Usage, Refused, Replayed, Unrelated, NotAllowed, WriteFault, Memory}
use Rattle.command_answers.specs.Answers.{Answers, AnswersSoFar, IsExact}
use Rattle.command_answers.specs.Reports.{Report}
use Rattle.finding_commands.specs.Texts.{Texts}
use Rattle.command_line.specs.Asked.{Asked, check, explain, gen, replay, verify, usage}
use Rattle.finding_answers.specs.Verdicts.{IsOfVerdict}
use Rattle.finding_answers.specs.Lines.{judged_status}
use Rattle.finding_answers.proofs.VerdictLemmas.{of_verdict, whole_of}
use Rattle.finding_commands.specs.Refusals.{ReportsRefusal}
use Rattle.finding_commands.proofs.RefusalLemmas.{refusal_status}
use Rattle.finding_commands.specs.Reports.{not_compared as not_to_judge, on_finding}
use Rattle.finding_commands.specs.Checks.{CheckReports, judged, too_long}
use Rattle.finding_commands.proofs.CheckAnswers.{exact_shown}
use Rattle.finding_commands.specs.Explanations.{ExplainReports, explained, invalid, too_long as explained_too_long}
use Rattle.finding_commands.proofs.ExplanationAnswers.{exact_shown as exact_explained}
use Rattle.replay_command.specs.Reports.{Reports, refused, replayed, ending_status}
use Rattle.gen_command.specs.verify_command.Reports.{VerifyReports, not_compared, on_pair, ReportsVerdict, decided, too_long as finding_too_long, not_written}
use Rattle.gen_command.proofs.verify_command.Answering.{saved_of}
use Rattle.generated_texts.specs.Names.{finding_name}
use Rattle.gen_command.specs.Made.{texts_of}
use Rattle.gen_command.specs.Reports.{GenReports, not_compared as not_made, on_pair as made, not_saved, saved as all_saved, verified, no_memory}
use Rattle.gen_command.proofs.Shown.{saved_of as made_of}
use Rattle.clause_core.specs.Formula.{Formula}
use Rattle.queries.specs.Comparisons.{Comparison}
use Rattle.queries.specs.Questions.{QueryData}
use Rattle.regver_top.specs.Asking.{number, asking, IsShownBy, IsSavedBy}

-- ---- VALID

not_of_ending : (e : Ending) → Valid ≡ ending_status e → ⊥
not_of_ending (Related n) h = let g : Valid ≡ Replayed = h in cc
not_of_ending (UnrelatedAt k) h = let g : Valid ≡ Unrelated = h in cc
not_of_ending (NotAllowedAt k) h = let g : Valid ≡ NotAllowed = h in cc

not_of_replay : (t : Texts) (r : Report) → Reports t r → Valid ≡ r.status → ⊥
not_of_replay t r (refused file refusal h e) s = let g : Valid ≡ Refused = s ∙ ap (λ x. x.status) e in cc
not_of_replay t r (replayed old new rel rows run ending accepted is e) s = not_of_ending ending (s ∙ ap (λ x. x.status) e)

not_of_verdict : (c : Comparison) (formula : QueryData → Formula) (k : Change) (name : List ℕ) (r : Report) → ReportsVerdict c formula k name r → Valid ≡ r.status → ⊥
not_of_verdict c formula k name r (decided a saved shown e) v = subst IsOfVerdict (sym (v ∙ ap (λ x. x.status) e)) (of_verdict a.verdict)
not_of_verdict c formula k name r (finding_too_long full e) v = let g : Valid ≡ Refused = v ∙ ap (λ x. x.status) e in cc
not_of_verdict c formula k name r (not_written failed e) v = let g : Valid ≡ WriteFault = v ∙ ap (λ x. x.status) e in cc

not_of_gen : (count : ℕ) (k : Change) (r : Report) → GenReports count k r → Valid ≡ r.status → ⊥
not_of_gen count k r (not_made h same) v = let g : Valid ≡ Refused = v ∙ refusal_status (texts_of count) r h in cc
not_of_gen count k r (made c h (not_saved failed e)) v = let g : Valid ≡ WriteFault = v ∙ ap (λ x. x.status) e in cc
not_of_gen count k r (made c h (all_saved hold (verified last l e))) v = not_of_verdict c _ k (finding_name count) last l (v ∙ ap (λ x. x.status) e)
not_of_gen count k r (made c h (all_saved hold (no_memory e))) v = let g : Valid ≡ Memory = v ∙ ap (λ x. x.status) e in cc

not_of_verify : (t : Texts) (k : Change) (name : List ℕ) (r : Report) → VerifyReports t k name r → Valid ≡ r.status → ⊥
not_of_verify t k name r (not_compared h same) v = let g : Valid ≡ Refused = v ∙ refusal_status t r h in cc
not_of_verify t k name r (on_pair c h reports) v = not_of_verdict c _ k name r reports v

pub shown_of : (k : Change) (a : Asked) (t : Texts) (before now : Option (List ℕ)) → IsExact ((asking a).Reports k t) Valid before now → IsShownBy a t before now
shown_of k (check old new rel finding) t before now h = exact_shown t before now h
shown_of k (explain old new rel finding) t before now h = exact_explained t before now h
shown_of k (replay old new rel trace) t before now (r, h, s, put) = not_of_replay t r h s
shown_of k (verify old new rel finding) t before now (r, h, s, put) = not_of_verify t k finding r h s
shown_of k (gen count) t before now (r, h, s, put) = not_of_gen (number count) k r h s
shown_of k usage t before now (r, h, s, put) = let g : Valid ≡ Usage = s ∙ ap (λ x. x.status) h in cc

-- ---- verdicts

-- a report is no other one, of a status that is no verdict's
no_verdict : (status : Status) (r x : Report) → IsOfVerdict status → status ≡ r.status → r ≡ x → (IsOfVerdict x.status → ⊥) → ⊥
no_verdict status r x v s e h = h (subst IsOfVerdict (s ∙ ap (λ y. y.status) e) v)

not_judged : (j : Judged) → IsOfVerdict (judged_status j) → ⊥
not_judged (judgements.Valid verdict reach) v = v
not_judged (judgements.Bad line reason) v = v

not_ended : (e : Ending) → IsOfVerdict (ending_status e) → ⊥
not_ended (Related n) v = v
not_ended (UnrelatedAt k) v = v
not_ended (NotAllowedAt k) v = v

none_of_refusal : (t : Texts) (status : Status) (r : Report) → IsOfVerdict status → ReportsRefusal t r → status ≡ r.status → ⊥
none_of_refusal t status r v h s = subst IsOfVerdict (s ∙ refusal_status t r h) v

none_of_check : (t : Texts) (status : Status) (r : Report) → IsOfVerdict status → CheckReports t r → status ≡ r.status → ⊥
none_of_check t status r v (not_to_judge h) s = none_of_refusal t status r v h s
none_of_check t status r v (on_finding c h (judged said is shown e)) s = no_verdict status r _ v s e (not_judged said)
none_of_check t status r v (on_finding c h (too_long is e)) s = no_verdict status r _ v s e (λ x. x)

none_of_explain : (t : Texts) (status : Status) (r : Report) → IsOfVerdict status → ExplainReports t r → status ≡ r.status → ⊥
none_of_explain t status r v (not_to_judge h) s = none_of_refusal t status r v h s
none_of_explain t status r v (on_finding c h (explained ls verdict reach stands shown e)) s = no_verdict status r _ v s e (λ x. x)
none_of_explain t status r v (on_finding c h (invalid line reason is e)) s = no_verdict status r _ v s e (λ x. x)
none_of_explain t status r v (on_finding c h (explained_too_long is e)) s = no_verdict status r _ v s e (λ x. x)

none_of_replay : (t : Texts) (status : Status) (r : Report) → IsOfVerdict status → Reports t r → status ≡ r.status → ⊥
none_of_replay t status r v (refused file refusal h e) s = no_verdict status r _ v s e (λ x. x)
none_of_replay t status r v (replayed old new rel rows run ending accepted is e) s = no_verdict status r _ v s e (not_ended ending)

-- behind the status of a verdict all was put
exact_by : (Wanted : Report → Type 0) (faulted : Type 0) (status : Status) (before now : Option (List ℕ)) → IsOfVerdict status → Answers Wanted faulted status before now → IsExact Wanted status before now
exact_by Wanted faulted status before now v a = subst (λ x. AnswersSoFar x Wanted faulted status before now) (whole_of status v) a

pub saved_by : (k : Change) (a : Asked) (t : Texts) (faulted : Type 0) (status : Status) (before now : Option (List ℕ)) → IsOfVerdict status → Answers ((asking a).Reports k t) faulted status before now
    → IsSavedBy k a t status before now
saved_by k (check old new rel finding) t faulted status before now v a =
    let x = exact_by ((asking (check old new rel finding)).Reports k t) faulted status before now v a in
    none_of_check t status x.0 v x.1 x.2
saved_by k (explain old new rel finding) t faulted status before now v a =
    let x = exact_by ((asking (explain old new rel finding)).Reports k t) faulted status before now v a in
    none_of_explain t status x.0 v x.1 x.2
saved_by k (replay old new rel trace) t faulted status before now v a =
    let x = exact_by ((asking (replay old new rel trace)).Reports k t) faulted status before now v a in
    none_of_replay t status x.0 v x.1 x.2
saved_by k (verify old new rel finding) t faulted status before now v a = saved_of t k finding faulted status before now v a
saved_by k (gen count) t faulted status before now v a = made_of (number count) k status before now v faulted a
saved_by k usage t faulted status before now v a =
    let x = exact_by ((asking usage).Reports k t) faulted status before now v a in
    no_verdict status x.0 _ v x.2 x.1 (λ y. y)
