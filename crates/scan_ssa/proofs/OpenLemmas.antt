-- Sides that are opened one after the other and closed from the last to the first make what nested IFs make.
use Rattle.std.proofs.Common.{◌≡◌, ℕ, zero, suc, ◌+◌, ◌<◌, ◌≤◌, refl, sym, ◌∙◌, ap, subst, List, [], ◌∷◌, ◌++◌, length, drop, arith, get_or}
use Rattle.std.proofs.lemmas.List.{map-append}
use Rattle.program_tree.specs.declared.scratch.Scratch.{Scratch}
use Rattle.flat_core.specs.declared.flat_tree.FlatStmt.{FlatStmt}
use Rattle.flat_core.specs.FlatTree.{FlatStatement, branch}
use Rattle.flat_core.specs.FlatView.{FlatArmData, nested, flats_of, flat_view, flats_view}
use Rattle.node_core.specs.Words.{NodeList, Store}
use Rattle.node_core.specs.Stores.{MadeStore, merged, store_of, store_of_all}
use Rattle.node_core.proofs.Growth.{Grows, grows_none, grows_both, grows_merged, grows_all}
use Rattle.scan_ssa.specs.declared.merging.OpenArm.{OpenArm}
use Rattle.scan_ssa.specs.declared.trail.Trail.{Trail}
use Rattle.scan_ssa.specs.Trails.{with_changes, Keeps}
use Rattle.scan_ssa.specs.OpenArms.{OpenData, opened, closed, open_view, open_views, AreMarks}
use Rattle.scan_ssa.proofs.TrailLemmas.{keeps_none, keeps_both, keeps_less}

-- ---- statements, one behind the other

pub all_append : (ps : List Scratch) (xs ys : List FlatStatement) (store : Store) (n : NodeList)
    → store_of_all ps (flats_of (xs ++ ys)) store n ≡ (let r = store_of_all ps (flats_of xs) store n in store_of_all ps (flats_of ys) r.store r.list)
all_append ps [] ys store n = refl
all_append ps (x ∷ xs) ys store n = all_append ps xs ys (store_of ps x store n).store (store_of ps x store n).list

flats_view-drop : (list : List FlatStmt) (i : ℕ) (d x : FlatStmt) → i < length list → get_or list i d ≡ x → flats_view (drop i list) ≡ flat_view x ++ flats_view (drop (i + 1) list)
flats_view-drop [] i d x h is = absurd (omega (arith, h))
flats_view-drop (y ∷ list) zero d x h is = ap (λ z. flat_view z ++ flats_view list) is
flats_view-drop (y ∷ list) (suc i) d x h is = let e : suc i + 1 ≡ suc (i + 1) = omega arith in rw e (flats_view-drop list i d x (omega (arith, h)) is)

-- one statement, and those behind it
pub left_statements : (ps : List Scratch) (list : List FlatStmt) (i : ℕ) (x : FlatStmt) (store : Store) (n : NodeList) → i < length list → get_or list i x ≡ x
    → store_of_all ps (flats_of (flats_view (drop i list))) store n
    ≡ (let r = store_of_all ps (flats_of (flat_view x)) store n in store_of_all ps (flats_of (flats_view (drop (i + 1) list))) r.store r.list)
left_statements ps list i x store n h is = ap (λ l. store_of_all ps (flats_of l) store n) (flats_view-drop list i x x h is) ∙ all_append ps (flat_view x) (flats_view (drop (i + 1) list)) store n

pub behind_statement : (ps : List Scratch) (list : List FlatStmt) (i : ℕ) (x : FlatStmt) (store : Store) (n : NodeList) (whole : MadeStore) → i < length list → get_or list i x ≡ x → store_of_all ps (flats_of (flats_view (drop i list))) store n ≡ whole
    → Grows (store_of_all ps (flats_of (flat_view x)) store n).list whole.list
behind_statement ps list i x store n whole h is e =
    let r = store_of_all ps (flats_of (flat_view x)) store n in
    subst (λ (m : MadeStore). Grows r.list m.list) (sym (left_statements ps list i x store n h is) ∙ e) (grows_all ps (flats_of (flats_view (drop (i + 1) list))) r.store r.list)

-- ---- arms

pub nested_step : (ps : List Scratch) (a : FlatArmData) (arms : List FlatArmData) (rest : List FlatStatement) (store : Store) (n : NodeList)
    → store_of_all ps (flats_of (nested (a ∷ arms) rest)) store n ≡ (let o = opened ps a store n in closed ps (o.arm ∷ []) (store_of_all ps (flats_of (nested arms rest)) o.arm.begun o.list))
nested_step ps a arms rest store n = all_append ps a.0 (branch a.1 (flats_of a.2) (flats_of (nested arms rest)) ∷ []) store n

closed-append : (ps : List Scratch) (os : List OpenData) (o : OpenData) (r : MadeStore) → closed ps (os ++ o ∷ []) r ≡ closed ps os (closed ps (o ∷ []) r)
closed-append ps [] o r = refl
closed-append ps (x ∷ os) o r = ap (λ (m : MadeStore). merged ps x.condition x.on m.store 0 x.begun m.list) (closed-append ps os o r)

pub grows_closed : (ps : List Scratch) (os : List OpenData) (r : MadeStore) → Grows r.list (closed ps os r).list
grows_closed ps [] r = grows_none r.list
grows_closed ps (o ∷ os) r =
    let inner = closed ps os r in
    grows_both r.list inner.list _ (grows_closed ps os r) (grows_merged ps o.condition o.on inner.store 0 o.begun inner.list)

-- ---- marks

pub marks_below : (low : ℕ) (os : List OpenArm) (high : ℕ) → AreMarks low os high → low ≤ high
marks_below low [] high are = are
marks_below low (o ∷ os) high are = let h = marks_below o.mark os high are.1 in omega (arith, are.0, h)

pub marks_higher : (low : ℕ) (os : List OpenArm) (high higher : ℕ) → high ≤ higher → AreMarks low os high → AreMarks low os higher
marks_higher low [] high higher h are = omega (arith, are)
marks_higher low (o ∷ os) high higher h are = (are.0, marks_higher o.mark os high higher h are.1)

pub marks_lower : (lower low : ℕ) (os : List OpenArm) (high : ℕ) → lower ≤ low → AreMarks low os high → AreMarks lower os high
marks_lower lower low [] high h are = omega (arith, are)
marks_lower lower low (o ∷ os) high h are = (omega (arith, are.0), are.1)

pub marks_push : (low : ℕ) (os : List OpenArm) (o : OpenArm) (high higher : ℕ) → AreMarks low os high → high ≤ o.mark → o.mark ≤ higher → AreMarks low (os ++ o ∷ []) higher
marks_push low [] o high higher are h k = (omega (arith, are), k)
marks_push low (x ∷ os) o high higher are h k = (are.0, marks_push x.mark os o high higher are.1 h k)

pub marks_pop : (low : ℕ) (os : List OpenArm) (o : OpenArm) (high : ℕ) → AreMarks low (os ++ o ∷ []) high → AreMarks low os o.mark × (o.mark ≤ high)
marks_pop low [] o high are = (are.0, are.1)
marks_pop low (x ∷ os) o high are = let h = marks_pop x.mark os o high are.1 in ((are.0, h.0), h.1)

-- what is open stays as it is while its marks are kept
pub views_kept : (low : ℕ) (os : List OpenArm) (high : ℕ) (old new : Trail) → AreMarks low os high → Keeps high old new → open_views new os ≡ open_views old os
views_kept low [] high old new are kept = refl
views_kept low (o ∷ os) high old new are kept =
    ap (λ (s : Store). (let d : OpenData = record { condition = o.condition; on = with_changes o.changes.items s; begun = s } in d) ∷ open_views new os) (kept.same o.mark (marks_below o.mark os high are.1))
    ∙ ap (λ ds. open_view old o ∷ ds) (views_kept o.mark os high old new are.1 kept)

views-push : (trail : Trail) (os : List OpenArm) (o : OpenArm) → open_views trail (os ++ o ∷ []) ≡ open_views trail os ++ open_view trail o ∷ []
views-push trail os o = map-append (open_view trail) os (o ∷ [])

-- one side more is open: whatever stands behind it, closing gives the same
pub one_opened : (ps : List Scratch) (low high : ℕ) (os : List OpenArm) (o : OpenArm) (old new : Trail) (a : FlatArmData) (arms : List FlatArmData) (rest : List FlatStatement) (n list : NodeList) (whole : MadeStore)
    → AreMarks low os high → Keeps high old new → open_view new o ≡ (opened ps a old.store.items n).arm → new.store.items ≡ (opened ps a old.store.items n).arm.begun → list ≡ (opened ps a old.store.items n).list
    → closed ps (open_views old os) (store_of_all ps (flats_of (nested (a ∷ arms) rest)) old.store.items n) ≡ whole
    → closed ps (open_views new (os ++ o ∷ [])) (store_of_all ps (flats_of (nested arms rest)) new.store.items list) ≡ whole
one_opened ps low high os o old new a arms rest n list whole are kept is_arm is_store is_list e =
    let x = opened ps a old.store.items n in
    ap (λ ds. closed ps ds (store_of_all ps (flats_of (nested arms rest)) new.store.items list)) (views-push new os o)
    ∙ closed-append ps (open_views new os) (open_view new o) (store_of_all ps (flats_of (nested arms rest)) new.store.items list)
    ∙ ap (λ d. closed ps (open_views new os) (closed ps (d ∷ []) (store_of_all ps (flats_of (nested arms rest)) new.store.items list))) is_arm
    ∙ ap (λ (s : Store). closed ps (open_views new os) (closed ps (x.arm ∷ []) (store_of_all ps (flats_of (nested arms rest)) s list))) is_store
    ∙ ap (λ (m : NodeList). closed ps (open_views new os) (closed ps (x.arm ∷ []) (store_of_all ps (flats_of (nested arms rest)) x.arm.begun m))) is_list
    ∙ ap (λ ds. closed ps ds (closed ps (x.arm ∷ []) (store_of_all ps (flats_of (nested arms rest)) x.arm.begun x.list))) (views_kept low os high old new are kept)
    ∙ ap (closed ps (open_views old os)) (sym (nested_step ps a arms rest old.store.items n)) ∙ e

-- what an arm makes is in front of the whole
pub behind_arm : (ps : List Scratch) (ds : List OpenData) (a : FlatArmData) (arms : List FlatArmData) (rest : List FlatStatement) (store : Store) (n : NodeList) (whole : MadeStore) → closed ps ds (store_of_all ps (flats_of (nested (a ∷ arms) rest)) store n) ≡ whole
    → Grows (opened ps a store n).list whole.list
behind_arm ps ds a arms rest store n whole e =
    let x = opened ps a store n in
    let inner = store_of_all ps (flats_of (nested arms rest)) x.arm.begun x.list in
    let one = closed ps (x.arm ∷ []) inner in
    subst (λ (m : MadeStore). Grows x.list m.list) (ap (closed ps ds) (sym (nested_step ps a arms rest store n)) ∙ e)
    (grows_both x.list inner.list (closed ps ds one).list (grows_all ps (flats_of (nested arms rest)) x.arm.begun x.list)
    (grows_both inner.list one.list (closed ps ds one).list (grows_closed ps (x.arm ∷ []) inner) (grows_closed ps ds one)))

-- the last of the sides is closed
pub one_closed : (ps : List Scratch) (low high : ℕ) (os : List OpenArm) (o : OpenArm) (old new : Trail) (r s whole : MadeStore) → AreMarks low (os ++ o ∷ []) high → Keeps o.mark old new → s ≡ closed ps (open_view old o ∷ []) r
    → closed ps (open_views old (os ++ o ∷ [])) r ≡ whole → closed ps (open_views new os) s ≡ whole
one_closed ps low high os o old new r s whole are kept is e =
    ap (closed ps (open_views new os)) is ∙ ap (λ ds. closed ps ds (closed ps (open_view old o ∷ []) r)) (views_kept low os o.mark old new (marks_pop low os o high are).0 kept)
    ∙ sym (closed-append ps (open_views old os) (open_view old o) r) ∙ ap (λ ds. closed ps ds r) (sym (views-push old os o)) ∙ e

pub behind_closed : (ps : List Scratch) (os : List OpenArm) (o : OpenArm) (trail : Trail) (r whole : MadeStore) → closed ps (open_views trail (os ++ o ∷ [])) r ≡ whole → Grows (closed ps (open_view trail o ∷ []) r).list whole.list
behind_closed ps os o trail r whole e =
    subst (λ (m : MadeStore). Grows (closed ps (open_view trail o ∷ []) r).list m.list) (sym (closed-append ps (open_views trail os) (open_view trail o) r) ∙ ap (λ ds. closed ps ds r) (sym (views-push trail os o)) ∙ e)
    (grows_closed ps (open_views trail os) (closed ps (open_view trail o ∷ []) r))

-- ---- closing, step by step

pub made_store : (s : Store) (l : NodeList) (r : MadeStore) → s ≡ r.store → l ≡ r.list → (let m : MadeStore = record { store = s; list = l } in m) ≡ r
made_store s l r e f = ap (λ (t : Store). let m : MadeStore = record { store = t; list = l } in m) e ∙ ap (λ (k : NodeList). let m : MadeStore = record { store = r.store; list = k } in m) f

pub marks_begin : (low : ℕ) (os : List OpenArm) (trail : Trail) → AreMarks low os (length trail.log.items) → AreMarks low os (length trail.log.items) × Keeps low trail trail
marks_begin low os trail are = (are, keeps_less low (length trail.log.items) trail trail (marks_below low os (length trail.log.items) are) (keeps_none trail))

pub marks_next : (low : ℕ) (os : List OpenArm) (o : OpenArm) (first old new : Trail) → AreMarks low (os ++ o ∷ []) (length old.log.items) × Keeps low first old → Keeps o.mark old new
    → AreMarks low os (length new.log.items) × Keeps low first new
marks_next low os o first old new h kept =
    let p = marks_pop low os o (length old.log.items) h.0 in
    (marks_higher low os o.mark (length new.log.items) kept.longer p.0, keeps_both low o.mark first old new (marks_below low os o.mark p.0) h.1 kept)
