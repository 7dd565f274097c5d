-- Changes that are taken back and done again.
use Rattle.std.proofs.Common.{◌≡◌, ℕ, zero, suc, ◌+◌, ◌<◌, ◌≤◌, refl, sym, ◌∙◌, ap, List, [], ◌∷◌, ◌++◌, length, take, drop, Option, None, arith, length-append}
use Rattle.std.specs.Prelude.{slice_set, slice_index_or}
use Rattle.std.proofs.lemmas.List.{set-set, set-get_or, drop-append-le, take-take, take-append-le, take_all, drop_all, length-take-le, take-append-drop, take_more}
use Rattle.node_core.specs.Words.{Store}
use Rattle.scan_ssa.specs.declared.trail.Change.{Change}
use Rattle.scan_ssa.specs.declared.trail.Trail.{Trail}
use Rattle.scan_ssa.specs.Trails.{with_changes, store_at, Keeps}

pub changes_push : (cs : List Change) (c : Change) (s : Store) → with_changes (cs ++ c ∷ []) s ≡ with_changes cs (slice_set s c.place c.word)
changes_push [] c s = refl
changes_push (x ∷ cs) c s = ap (λ (t : Store). slice_set t x.place x.word) (changes_push cs c s)

-- what a place held, put back
pub put_back : (s : Store) (place : ℕ) (w : Option ℕ) → slice_set (slice_set s place w) place (slice_index_or s place None) ≡ s
put_back s place w = set-set s place w (slice_index_or s place None) ∙ set-get_or s place None

-- the last change, where a mark stands before it
pub last_change : (mark : ℕ) (log : List Change) (c : Change) (s : Store) → mark ≤ length log → with_changes (drop mark (log ++ c ∷ [])) s ≡ with_changes (drop mark log) (slice_set s c.place c.word)
last_change mark log c s h = ap (λ l. with_changes l s) (drop-append-le mark log (c ∷ []) h) ∙ changes_push (drop mark log) c s

pub keeps_set : (old new : Trail) (place : ℕ) (w before : Option ℕ) → before ≡ slice_index_or old.store.items place None → new.store.items ≡ slice_set old.store.items place w
    → new.log.items ≡ old.log.items ++ record { place = place; word = before } ∷ [] → Keeps (length old.log.items) old new
keeps_set old new place w before e stored logged = record {
  longer = omega (arith, ap length logged, length-append old.log.items (record { place = place; word = before } ∷ []));
  same = λ m h. ap (λ l. with_changes (drop m l) new.store.items) logged ∙ ap (λ (s : Store). with_changes (drop m (old.log.items ++ record { place = place; word = before } ∷ [])) s) stored
      ∙ last_change m old.log.items (record { place = place; word = before }) (slice_set old.store.items place w) h
      ∙ ap (λ (s : Store). with_changes (drop m old.log.items) s) (ap (λ (v : Option ℕ). slice_set (slice_set old.store.items place w) place v) e ∙ put_back old.store.items place w);
}

pub keeps_none : (trail : Trail) → Keeps (length trail.log.items) trail trail
keeps_none trail = record { longer = omega arith; same = λ m h. refl }

pub keeps_both : (mark later : ℕ) (a b c : Trail) → mark ≤ later → Keeps mark a b → Keeps later b c → Keeps mark a c
keeps_both mark later a b c h p q = record { longer = omega (arith, q.longer); same = λ m k. q.same m (omega arith) ∙ p.same m k }

pub keeps_less : (mark later : ℕ) (a b : Trail) → mark ≤ later → Keeps later a b → Keeps mark a b
keeps_less mark later a b h p = record { longer = omega (arith, p.longer); same = λ m k. p.same m (omega arith) }

pub same_default : (s : Store) (place : ℕ) (d e : Option ℕ) → place < length s → slice_index_or s place d ≡ slice_index_or s place e
same_default [] place d e h = absurd (omega arith)
same_default (w ∷ s) zero d e h = refl
same_default (w ∷ s) (suc place) d e h = same_default s place d e (omega arith)

-- ---- the last change of the log is taken back

pub pop_below : (mark : ℕ) (log before : List Change) (c : Change) → log ≡ before ++ c ∷ [] → mark < length log → mark ≤ length before
pop_below mark log before c is h = omega (arith, ap length is, length-append before (c ∷ []))

pub pop_front : (first log before : List Change) (c : Change) → log ≡ before ++ c ∷ [] → log ≡ take (length log) first → before ≡ take (length before) first
pop_front first log before c is front =
    sym (take-append-le (length before) before (c ∷ []) (omega arith) ∙ take_all (length before) before (omega arith))
    ∙ ap (take (length before)) (sym is ∙ front) ∙ take-take (length before) (length log) first (omega (arith, ap length is, length-append before (c ∷ [])))

pub pop_store : (mark : ℕ) (log before : List Change) (c : Change) (s s' : Store) → log ≡ before ++ c ∷ [] → mark ≤ length before → s' ≡ slice_set s c.place c.word → with_changes (drop mark before) s' ≡ with_changes (drop mark log) s
pop_store mark log before c s s' is h e = ap (λ (t : Store). with_changes (drop mark before) t) e ∙ sym (last_change mark before c s h) ∙ ap (λ l. with_changes (drop mark l) s) (sym is)

pub pop_changes : (cs cs' : List Change) (c : Change) (held : Option ℕ) (s s' : Store) → cs' ≡ cs ++ record { place = c.place; word = held } ∷ [] → held ≡ slice_index_or s c.place None → s' ≡ slice_set s c.place c.word → with_changes cs' s' ≡ with_changes cs s
pop_changes cs cs' c held s s' is e f =
    ap (λ l. with_changes l s') is ∙ changes_push cs (record { place = c.place; word = held }) s'
    ∙ ap (λ (t : Store). with_changes cs t) (ap (λ (t : Store). slice_set t c.place held) f ∙ ap (λ (v : Option ℕ). slice_set (slice_set s c.place c.word) c.place v) e ∙ put_back s c.place c.word)

-- ---- marks

pub store_now : (trail : Trail) → store_at trail (length trail.log.items) ≡ trail.store.items
store_now trail = ap (λ l. with_changes l trail.store.items) (drop_all (length trail.log.items) trail.log.items (omega arith))

changes_append : (a b : List Change) (s : Store) → with_changes (a ++ b) s ≡ with_changes a (with_changes b s)
changes_append [] b s = refl
changes_append (c ∷ a) b s = ap (λ (t : Store). slice_set t c.place c.word) (changes_append a b s)

-- what is taken back to a mark is at earlier marks as it was
taken_at : (m mark : ℕ) (log : List Change) (s : Store) → m ≤ mark → mark ≤ length log → with_changes (drop m (take mark log)) (with_changes (drop mark log) s) ≡ with_changes (drop m log) s
taken_at m mark log s h k =
    let long : length (take mark log) ≡ mark = length-take-le mark log k in
    sym (changes_append (drop m (take mark log)) (drop mark log) s)
    ∙ ap (λ l. with_changes l s) (sym (drop-append-le m (take mark log) (drop mark log) (omega (arith, long))) ∙ ap (drop m) (take-append-drop mark log))

pub keeps_undo : (mark : ℕ) (old later new : Trail) → Keeps mark old later → new.store.items ≡ store_at later mark → new.log.items ≡ take mark later.log.items → Keeps mark old new
keeps_undo mark old later new kept store log = record {
  longer = omega (arith, ap length log, length-take-le mark later.log.items kept.longer);
  same = λ m h. ap (λ l. with_changes (drop m l) new.store.items) log ∙ ap (λ (s : Store). with_changes (drop m (take mark later.log.items)) s) store ∙ taken_at m mark later.log.items later.store.items h kept.longer ∙ kept.same m h;
}

pub undone_is : (old later new : Trail) → Keeps (length old.log.items) old later → new.store.items ≡ store_at later (length old.log.items) → new.store.items ≡ old.store.items
undone_is old later new kept store = store ∙ kept.same (length old.log.items) (omega arith) ∙ store_now old

-- ---- changes that are made, from the last to the first

pub made_one : (left : ℕ) (cs : List Change) (s s' first : Store) (c d : Change) → left < length cs → c ≡ slice_index_or cs left d → s' ≡ slice_set s c.place c.word → with_changes (take (left + 1) cs) s ≡ first → with_changes (take left cs) s' ≡ first
made_one left cs s s' first c d h is e f =
    ap (λ (t : Store). with_changes (take left cs) t) (e ∙ ap (λ (x : Change). slice_set s x.place x.word) is) ∙ sym (changes_push (take left cs) (slice_index_or cs left d) s)
    ∙ ap (λ l. with_changes l s) (sym (take_more cs left d h)) ∙ f
