-- There is one report on four texts, the place of G1 apart.
use Rattle.std.proofs.Common.{◌≡◌, ℕ, List, length, sym, ap, ◌∙◌, subst, arith, inl, inr}
use Rattle.rules.specs.declared.rule.Refusal.{Refusal}
use Rattle.rules.specs.Rules.{IsSame}
use Rattle.program_tree.specs.Tree.{ProgramData}
use Rattle.grammar_laws.proofs.Steps.{some_is}
use Rattle.command_files.specs.front_end.Texts.{StatesProgram}
use Rattle.command_files.proofs.front_end.OneProgram.{one_program, no_program_too, one_refusal}
use Rattle.command_files.proofs.Once.{states_once, not_stated_too, not_stated_once}
use Rattle.scan_model.specs.declared.relation.Ending.{Ending}
use Rattle.scan_model.specs.InRange.{Row}
use Rattle.scan_model.specs.Pairs.{RelationData, start}
use Rattle.scan_model.specs.Runs.{IsRun}
use Rattle.command_answers.specs.declared.source.Source.{Source}
use Rattle.trace_rows.specs.Traces.{IsTrace}
use Rattle.replay_command.specs.Accepting.{Accepts, IsNoTrace, IsAccepted, IsRefused, old_refused, new_refused, rel_refused, trace_refused}
use Rattle.command_files.specs.Stating.{StatesRelation, StatesNoRelation}
use Rattle.command_files.specs.Texts.{Texts}
use Rattle.replay_command.specs.Outcomes.{outcome_of}
use Rattle.replay_command.specs.Played.{outcome_report}
use Rattle.command_answers.specs.Reports.{Report}
use Rattle.replay_command.specs.Reports.{Reports, refused, replayed, run_report}
use Rattle.command_answers.specs.Alike.{AreAlike, same}
use Rattle.command_answers.proofs.AlikeLemmas.{alike}
use Rattle.replay_command.proofs.RunLemmas.{outcome_of-run}

-- ---- one trace

trace_once : (width : ℕ) (text : List ℕ) (p q : List Row) → IsTrace width text p → IsTrace width text q → p ≡ q
unfolding IsTrace
trace_once width text p q (u, e) (v, f) = some_is p q (sym e ∙ f)

no_trace_too : (width : ℕ) (text : List ℕ) (rows : List Row) (r : Refusal) → Accepts (IsTrace width text) text rows → IsNoTrace width text r → ⊥
no_trace_too width text rows r h (inl k) = let s = h.short in omega (arith, s, k.0)
no_trace_too width text rows r h (inr k) = k.1 rows h.is

no_trace_once : (width : ℕ) (text : List ℕ) (r s : Refusal) → IsNoTrace width text r → IsNoTrace width text s → r ≡ s
no_trace_once width text r s (inl h) (inl k) = h.1 ∙ sym k.1
no_trace_once width text r s (inl h) (inr k) = absurd (omega (arith, h.0, k.0))
no_trace_once width text r s (inr h) (inl k) = absurd (omega (arith, h.0, k.0))
no_trace_once width text r s (inr h) (inr k) = h.2 ∙ sym k.2

-- ---- the same facts of what is accepted twice

-- a fact of two programs at the same ones
moved : (P : ProgramData → ProgramData → Type 0) (o o' n n' : ProgramData) → o ≡ o' → n ≡ n' → P o n → P o' n'
moved P o o' n n' e f h = subst (λ x. P o' x) f (subst (λ x. P x n) e h)

abbrev RelStated : Texts → RelationData → ProgramData → ProgramData → Type 0
RelStated t l o n = StatesRelation o n t.rel l

abbrev RelBroken : Texts → Refusal → ProgramData → ProgramData → Type 0
RelBroken t r o n = StatesNoRelation o n t.rel r

abbrev TraceBroken : Texts → Refusal → RelationData → Type 0
TraceBroken t r l = IsNoTrace (length l.inputs) t.trace r

rel_once : (t : Texts) (o o' n n' : ProgramData) (l l' : RelationData) → o ≡ o' → n ≡ n' → RelStated t l o n → RelStated t l' o' n' → l ≡ l'
rel_once t o o' n n' l l' e f h k = states_once o' n' t.rel l l' (moved (RelStated t l) o o' n n' e f h) k

-- what is stated by the same texts is not refused
rel_apart : (t : Texts) (o o' n n' : ProgramData) (l : RelationData) (r : Refusal) → StatesProgram t.old o → StatesProgram t.old o' → StatesProgram t.new n → StatesProgram t.new n'
    → RelStated t l o n → RelBroken t r o' n' → ⊥
rel_apart t o o' n n' l r a b c d h k =
    not_stated_too o' n' t.rel l r (moved (RelStated t l) o o' n n' (one_program t.old o o' a b) (one_program t.new n n' c d) h) k

not_both : (t : Texts) (o n : ProgramData) (l : RelationData) (rows : List Row) (file : Source) (r : Refusal) → IsAccepted t o n l rows → IsRefused t file r → ⊥
not_both t o n l rows file r h (old_refused b e) = no_program_too t.old o r h.old_is b
not_both t o n l rows file r h (new_refused o' a b e) = no_program_too t.new n r h.new_is b
not_both t o n l rows file r h (rel_refused o' n' a a' b e) = rel_apart t o o' n n' l r h.old_is a h.new_is a' h.rel_is b
not_both t o n l rows file r h (trace_refused o' n' l' a a' a'' b e) =
    let one = rel_once t o' o n' n l' l (one_program t.old o' o a h.old_is) (one_program t.new n' n a' h.new_is) a'' h.rel_is in
    no_trace_too (length l.inputs) t.trace rows r h.trace_is (subst (TraceBroken t r) one b)

-- one file is refused, and by one rule
refused_once : (t : Texts) (f g : Source) (r s : Refusal) → IsRefused t f r → IsRefused t g s → (f ≡ g) × IsSame r s
refused_once t f g r s (old_refused b e) (old_refused b' e') = (e ∙ sym e', one_refusal t.old r s b b')
refused_once t f g r s (old_refused b e) (new_refused o a b' e') = absurd (no_program_too t.old o r a b)
refused_once t f g r s (old_refused b e) (rel_refused o n a a' b' e') = absurd (no_program_too t.old o r a b)
refused_once t f g r s (old_refused b e) (trace_refused o n l a a' a'' b' e') = absurd (no_program_too t.old o r a b)
refused_once t f g r s (new_refused o a b e) (old_refused b' e') = absurd (no_program_too t.old o s a b')
refused_once t f g r s (new_refused o a b e) (new_refused o' a' b' e') = (e ∙ sym e', one_refusal t.new r s b b')
refused_once t f g r s (new_refused o a b e) (rel_refused o' n' k k' b' e') = absurd (no_program_too t.new n' r k' b)
refused_once t f g r s (new_refused o a b e) (trace_refused o' n' l' k k' k'' b' e') = absurd (no_program_too t.new n' r k' b)
refused_once t f g r s (rel_refused o n a a' b e) (old_refused b' e') = absurd (no_program_too t.old o s a b')
refused_once t f g r s (rel_refused o n a a' b e) (new_refused o' k b' e') = absurd (no_program_too t.new n s a' b')
refused_once t f g r s (rel_refused o n a a' b e) (rel_refused o' n' k k' b' e') =
    (e ∙ sym e', not_stated_once o' n' t.rel r s (moved (RelBroken t r) o o' n n' (one_program t.old o o' a k) (one_program t.new n n' a' k') b) b')
refused_once t f g r s (rel_refused o n a a' b e) (trace_refused o' n' l' k k' k'' b' e') = absurd (rel_apart t o' o n' n l' r k a k' a' k'' b)
refused_once t f g r s (trace_refused o n l a a' a'' b e) (old_refused b' e') = absurd (no_program_too t.old o s a b')
refused_once t f g r s (trace_refused o n l a a' a'' b e) (new_refused o' k b' e') = absurd (no_program_too t.new n s a' b')
refused_once t f g r s (trace_refused o n l a a' a'' b e) (rel_refused o' n' k k' b' e') = absurd (rel_apart t o o' n n' l s a k a' k' a'' b')
refused_once t f g r s (trace_refused o n l a a' a'' b e) (trace_refused o' n' l' k k' k'' b' e') =
    let one = rel_once t o o' n n' l l' (one_program t.old o o' a k) (one_program t.new n n' a' k') a'' k'' in
    (e ∙ sym e', inl (no_trace_once (length l'.inputs) t.trace r s (subst (TraceBroken t r) one b) b'))

-- ---- one report

-- one run of the rows, and so one report on it
run_once : (o n : ProgramData) (l : RelationData) (rows run : List Row) (e : Ending) → IsRun o n l (start o n) rows run e → run_report o n l run e ≡ outcome_report (outcome_of o n l rows)
run_once o n l rows run e h = sym (ap outcome_report (outcome_of-run o n l rows run e h))

outcome_once : (t : Texts) (o n : ProgramData) (l : RelationData) (rows : List Row) (o' n' : ProgramData) (l' : RelationData) (rows' : List Row)
    → IsAccepted t o n l rows → IsAccepted t o' n' l' rows' → outcome_of o n l rows ≡ outcome_of o' n' l' rows'
outcome_once t o n l rows o' n' l' rows' h k =
    let so = one_program t.old o o' h.old_is k.old_is in
    let sn = one_program t.new n n' h.new_is k.new_is in
    let sl = rel_once t o o' n n' l l' so sn h.rel_is k.rel_is in
    let sr = trace_once (length l'.inputs) t.trace rows rows' (subst (λ m. Accepts (IsTrace (length m.inputs) t.trace) t.trace rows) sl h.trace_is).is k.trace_is.is in
    ap (λ x. outcome_of x n l rows) so ∙ ap (λ x. outcome_of o' x l rows) sn ∙ ap (λ x. outcome_of o' n' x rows) sl ∙ ap (outcome_of o' n' l') sr

pub reports_once : (t : Texts) (r s : Report) → Reports t r → Reports t s → AreAlike r s
reports_once t r s (refused f x h e) (refused g y k d) = let one = refused_once t f g x y h k in alike r s f g x y e d one.0 one.1
reports_once t r s (refused f x h e) (replayed o n l rows run ending k w d) = absurd (not_both t o n l rows f x k h)
reports_once t r s (replayed o n l rows run ending k w d) (refused f x h e) = absurd (not_both t o n l rows f x k h)
reports_once t r s (replayed o n l rows run ending h w e) (replayed o' n' l' rows' run' ending' k v d) =
    same (e ∙ run_once o n l rows run ending w ∙ ap outcome_report (outcome_once t o n l rows o' n' l' rows' h k) ∙ sym (run_once o' n' l' rows' run' ending' v) ∙ sym d)
