-- Statements and arms, as the code goes through them.
use Rattle.std.proofs.Common.{◌≡◌, ℕ, zero, suc, ◌+◌, ◌<◌, refl, sym, ◌∙◌, ap, subst, List, [], ◌∷◌, length, take, drop, arith, get_or, Result}
use Rattle.std.specs.Prelude.{IfErr, Err}
use Rattle.plc_types.specs.declared.elementary.Elementary.TheVariants as types
use Rattle.program_tree.specs.Tree.{Expression}
use Rattle.program_tree.specs.View.{expr_view}
use Rattle.program_tree.specs.declared.scratch.Scratch.{Scratch}
use Rattle.flat_core.specs.declared.flat_tree.FlatStmt.{FlatStmt}
use Rattle.flat_core.specs.declared.flat_tree.FlatStmt.TheFolds.{fold_out-FlatArm}
use Rattle.flat_core.specs.declared.flat_tree.FlatArm.{FlatArm, out-FlatArm}
use Rattle.flat_core.specs.FlatTree.{FlatStatement}
use Rattle.flat_core.specs.FlatView.{FlatArmData, flats_of, nested, flat_step, flat_arm_step, flat_view, flats_view, flat_arm_view, flat_arms_view}
use Rattle.node_core.specs.Words.{NodeList, Store, word_of}
use Rattle.node_core.specs.Stores.{MadeStore, with_fault_of, with_word, store_of_all}
use Rattle.node_core.proofs.Growth.{Grows, grows_none, grows_both, grows_word, grows_from, grows_all, longer}
use Rattle.scan_ssa.specs.declared.fault.NodeFault.{NodeFault}
use Rattle.scan_ssa.specs.declared.fault.NodeFault.TheVariants.{TooMany}
use Rattle.scan_ssa.specs.declared.merging.OpenArm.{OpenArm}
use Rattle.scan_ssa.specs.declared.trail.Change.{Change}
use Rattle.scan_ssa.specs.declared.trail.Trail.{Trail}
use Rattle.scan_ssa.specs.Making.{IsOver}
use Rattle.scan_ssa.specs.Trails.{with_changes, store_at, Keeps}
use Rattle.scan_ssa.specs.OpenArms.{OpenData, opened, closed, open_views, AreMarks}
use Rattle.scan_ssa.proofs.Faults.{over_later}
use Rattle.scan_ssa.proofs.OpenLemmas.{left_statements, grows_closed, made_store, views_kept}
use Rattle.scan_ssa.proofs.TrailLemmas.{keeps_both, keeps_undo, store_now}

-- what a step hands on, where the whole is any of many
pub handed_on_any : {T R : Type 0} (result : Result T NodeFault) (given fault : NodeFault) (limit here : _) (small : NodeList) (large : R → NodeList) → result ≡ Err given → given ≡ fault → here ≡ limit
    → (fault ≡ TooMany → IsOver here (length small.nodes)) → ((r : R) → Grows small (large r)) → IfErr result (λ f. f ≡ TooMany → (r : R) → IsOver limit (length (large r).nodes))
handed_on_any result given fault limit here small large e f same over grows =
    rw (e, f) (λ many r. over_later limit (length small.nodes) (length (large r).nodes) (longer small (large r) (grows r)) (subst (λ k. IsOver k (length small.nodes)) same (over many)))

-- one statement more
pub next_statements : (ps : List Scratch) (list : List FlatStmt) (i : ℕ) (x : FlatStmt) (s s' : Store) (n n' : NodeList) (whole : MadeStore) → i < length list → get_or list i x ≡ x
    → s' ≡ (store_of_all ps (flats_of (flat_view x)) s n).store → n' ≡ (store_of_all ps (flats_of (flat_view x)) s n).list
    → store_of_all ps (flats_of (flats_view (drop i list))) s n ≡ whole → store_of_all ps (flats_of (flats_view (drop (i + 1) list))) s' n' ≡ whole
next_statements ps list i x s s' n n' whole h is stored made e = rw (stored, made) (sym (left_statements ps list i x s n h is) ∙ e)

-- ---- one arm

pub arm_is : (a : FlatArm) → flat_arm_view a ≡ (flats_view (out-FlatArm a).before.items, expr_view (out-FlatArm a).condition, flats_view (out-FlatArm a).body.items)
arm_is = fold_out-FlatArm (List FlatStatement) FlatArmData flat_step flat_arm_step

pub behind_before : (ps : List Scratch) (a : FlatArmData) (before body : List FlatStatement) (e : Expression) (s : Store) (n : NodeList) → a ≡ (before, e, body)
    → Grows (store_of_all ps (flats_of before) s n).list (opened ps a s n).list
behind_before ps a before body e s n is =
    let b = store_of_all ps (flats_of before) s n in
    let m = word_of b.store types.Bool e (with_fault_of b.store b.list) in
    subst (λ (x : FlatArmData). Grows b.list (opened ps x s n).list) (sym is)
    (grows_both b.list m.list _ (grows_from b.store b.list m.list (grows_word b.store types.Bool e (with_fault_of b.store b.list))) (grows_all ps (flats_of body) (with_word 0 m.list.fault b.store) m.list))

pub behind_test : (ps : List Scratch) (a : FlatArmData) (before body : List FlatStatement) (e : Expression) (s s1 : Store) (n n1 : NodeList) → a ≡ (before, e, body)
    → s1 ≡ (store_of_all ps (flats_of before) s n).store → n1 ≡ (store_of_all ps (flats_of before) s n).list → Grows (word_of s1 types.Bool e (with_fault_of s1 n1)).list (opened ps a s n).list
behind_test ps a before body e s s1 n n1 is stored made =
    let b = store_of_all ps (flats_of before) s n in
    let m = word_of b.store types.Bool e (with_fault_of b.store b.list) in
    rw (is, stored, made) (grows_all ps (flats_of body) (with_word 0 m.list.fault b.store) m.list)

arm_parts : (ps : List Scratch) (before body : List FlatStatement) (e : Expression) (s s1 s2 s3 : Store) (n n1 n2 : NodeList) (word : ℕ)
    → s1 ≡ (store_of_all ps (flats_of before) s n).store → n1 ≡ (store_of_all ps (flats_of before) s n).list
    → word ≡ (word_of s1 types.Bool e (with_fault_of s1 n1)).word → s2 ≡ with_word 0 (word_of s1 types.Bool e (with_fault_of s1 n1)).list.fault s1 → n2 ≡ (word_of s1 types.Bool e (with_fault_of s1 n1)).list
    → s3 ≡ (store_of_all ps (flats_of body) s2 n2).store → (let d : OpenData = record { condition = word; on = s3; begun = s2 } in d) ≡ (opened ps (before, e, body) s n).arm
arm_parts ps before body e s s1 s2 s3 n n1 n2 word e1 e2 e3 e4 e5 e6 = rw (e6, e3, e4, e5, e1, e2) refl

-- an arm that was run and taken back is open
pub arm_opened : (ps : List Scratch) (a : FlatArmData) (before body : List FlatStatement) (e : Expression) (s s1 : Store) (n n1 n2 : NodeList) (t2 t3 t4 : Trail) (word mark : ℕ) (changes : List Change) → a ≡ (before, e, body)
    → s1 ≡ (store_of_all ps (flats_of before) s n).store → n1 ≡ (store_of_all ps (flats_of before) s n).list
    → word ≡ (word_of s1 types.Bool e (with_fault_of s1 n1)).word → t2.store.items ≡ with_word 0 (word_of s1 types.Bool e (with_fault_of s1 n1)).list.fault s1 → n2 ≡ (word_of s1 types.Bool e (with_fault_of s1 n1)).list
    → t3.store.items ≡ (store_of_all ps (flats_of body) t2.store.items n2).store → Keeps (length t2.log.items) t2 t3 → mark ≡ length t2.log.items
    → t4.store.items ≡ store_at t3 mark → t4.log.items ≡ take mark t3.log.items → with_changes changes (store_at t3 mark) ≡ t3.store.items
    → (let d : OpenData = record { condition = word; on = with_changes changes (store_at t4 mark); begun = store_at t4 mark } in d) ≡ (opened ps a s n).arm
arm_opened ps a before body e s s1 n n1 n2 t2 t3 t4 word mark changes is e1 e2 e3 e4 e5 e6 kept at stored logged changed =
    let kept_to : Keeps mark t2 t3 = subst (λ m. Keeps m t2 t3) (sym at) kept in
    let back = keeps_undo mark t2 t3 t4 kept_to stored logged in
    let now : store_at t2 mark ≡ t2.store.items = ap (store_at t2) at ∙ store_now t2 in
    let begun : store_at t4 mark ≡ t2.store.items = back.same mark (omega arith) ∙ now in
    let on : with_changes changes (store_at t4 mark) ≡ t3.store.items = ap (with_changes changes) (begun ∙ sym (kept_to.same mark (omega arith) ∙ now)) ∙ changed in
    ap (λ (x : Store). let d : OpenData = record { condition = word; on = x; begun = store_at t4 mark } in d) on
    ∙ ap (λ (x : Store). let d : OpenData = record { condition = word; on = t3.store.items; begun = x } in d) begun
    ∙ arm_parts ps before body e s s1 t2.store.items t3.store.items n n1 n2 word e1 e2 e3 e4 e5 e6
    ∙ ap (λ (x : FlatArmData). (opened ps x s n).arm) (sym is)

-- and the store is again the one that its statements began with
pub arm_begun : (ps : List Scratch) (a : FlatArmData) (before body : List FlatStatement) (e : Expression) (s s1 : Store) (n n1 n2 : NodeList) (t2 t3 : Trail) (s4 : Store) (word mark : ℕ) → a ≡ (before, e, body)
    → s1 ≡ (store_of_all ps (flats_of before) s n).store → n1 ≡ (store_of_all ps (flats_of before) s n).list
    → word ≡ (word_of s1 types.Bool e (with_fault_of s1 n1)).word → t2.store.items ≡ with_word 0 (word_of s1 types.Bool e (with_fault_of s1 n1)).list.fault s1 → n2 ≡ (word_of s1 types.Bool e (with_fault_of s1 n1)).list
    → Keeps (length t2.log.items) t2 t3 → mark ≡ length t2.log.items → s4 ≡ store_at t3 mark → s4 ≡ (opened ps a s n).arm.begun
arm_begun ps a before body e s s1 n n1 n2 t2 t3 s4 word mark is e1 e2 e3 e4 e5 kept at stored =
    stored ∙ ap (store_at t3) at ∙ kept.same (length t2.log.items) (omega arith) ∙ store_now t2
    ∙ ap (λ (d : OpenData). d.begun) (arm_parts ps before body e s s1 t2.store.items (store_of_all ps (flats_of body) t2.store.items n2).store n n1 n2 word e1 e2 e3 e4 e5 refl)
    ∙ ap (λ (x : FlatArmData). (opened ps x s n).arm.begun) (sym is)

pub arm_kept : (t t1 t2 t3 t4 : Trail) (mark : ℕ) → Keeps (length t.log.items) t t1 → Keeps (length t1.log.items) t1 t2 → Keeps (length t2.log.items) t2 t3 → mark ≡ length t2.log.items
    → t4.store.items ≡ store_at t3 mark → t4.log.items ≡ take mark t3.log.items → Keeps (length t.log.items) t t4
arm_kept t t1 t2 t3 t4 mark p q r at stored logged =
    let both = keeps_both (length t.log.items) (length t1.log.items) t t1 t2 p.longer p q in
    keeps_both (length t.log.items) mark t t2 t4 (omega (arith, both.longer, at)) both (keeps_undo mark t2 t3 t4 (subst (λ m. Keeps m t2 t3) (sym at) r) stored logged)

-- ---- arms

pub arms_view-drop : (arms : List FlatArm) (i : ℕ) (d x : FlatArm) → i < length arms → get_or arms i d ≡ x → flat_arms_view (drop i arms) ≡ flat_arm_view x ∷ flat_arms_view (drop (i + 1) arms)
arms_view-drop [] i d x h is = absurd (omega (arith, h))
arms_view-drop (y ∷ arms) zero d x h is = ap (λ z. flat_arm_view z ∷ flat_arms_view arms) is
arms_view-drop (y ∷ arms) (suc i) d x h is = let e : suc i + 1 ≡ suc (i + 1) = omega arith in rw e (arms_view-drop arms i d x (omega (arith, h)) is)

-- ---- an IF

-- the arms and the rest, each read as a slice
pub if_is : (whole : List FlatStatement) (arms arms' : List FlatArm) (rest rest' : List FlatStmt) → whole ≡ nested (flat_arms_view arms) (flats_view rest) → arms' ≡ arms → rest' ≡ rest → whole ≡ nested (flat_arms_view arms') (flats_view rest')
if_is whole arms arms' rest rest' is e f = rw (e, f) is

pub if_begins : (ps : List Scratch) (arms : List FlatArmData) (rest whole : List FlatStatement) (s : Store) (n : NodeList) → whole ≡ nested arms rest → Grows (store_of_all ps (flats_of (nested arms rest)) s n).list (store_of_all ps (flats_of whole) s n).list
if_begins ps arms rest whole s n is = rw is (grows_none _)

-- the sides that are open, what runs where no condition is TRUE, and the end
pub arms_closed : (ps : List Scratch) (low : ℕ) (os : List OpenArm) (t1 t2 : Trail) (arms : List FlatArmData) (rest whole : List FlatStatement) (s : Store) (n n1 n2 : NodeList) → AreMarks low os (length t1.log.items) → Keeps (length t1.log.items) t1 t2
    → whole ≡ nested arms rest → t2.store.items ≡ (store_of_all ps (flats_of rest) t1.store.items n1).store → n2 ≡ (store_of_all ps (flats_of rest) t1.store.items n1).list
    → closed ps (open_views t1 os) (store_of_all ps (flats_of rest) t1.store.items n1) ≡ store_of_all ps (flats_of (nested arms rest)) s n
    → closed ps (open_views t2 os) (record { store = t2.store.items; list = n2 }) ≡ store_of_all ps (flats_of whole) s n
arms_closed ps low os t1 t2 arms rest whole s n n1 n2 are kept is stored made e =
    ap (closed ps (open_views t2 os)) (made_store t2.store.items n2 (store_of_all ps (flats_of rest) t1.store.items n1) stored made)
    ∙ ap (λ ds. closed ps ds (store_of_all ps (flats_of rest) t1.store.items n1)) (views_kept low os (length t1.log.items) t1 t2 are kept)
    ∙ e ∙ ap (λ ts. store_of_all ps (flats_of ts) s n) (sym is)

pub behind_rest : (ps : List Scratch) (ds : List OpenData) (arms : List FlatArmData) (rest whole : List FlatStatement) (r : MadeStore) (s : Store) (n : NodeList) → whole ≡ nested arms rest
    → closed ps ds r ≡ store_of_all ps (flats_of (nested arms rest)) s n → Grows r.list (store_of_all ps (flats_of whole) s n).list
behind_rest ps ds arms rest whole r s n is e = subst (λ (m : MadeStore). Grows r.list m.list) (e ∙ ap (λ ts. store_of_all ps (flats_of ts) s n) (sym is)) (grows_closed ps ds r)
