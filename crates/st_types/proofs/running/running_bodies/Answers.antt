use Rattle.std.proofs.Common.{rules, ◌≡◌, ℕ, suc, ◌+◌, ◌<◌, ◌∙◌, Bool, true, false, List, [], ◌∷◌, ◌++◌, length, replicate, take, drop, get_or, set, arith, refl, ap, sym, subst, Vec, Global}
use Rattle.std.proofs.lemmas.List.{take_at, length-map, map-set}
use Rattle.call_order.specs.Marks.{GetMarks}
use Rattle.program_tree.specs.declared.typed.TypedStmt.{TypedStmt}
use Rattle.program_tree.specs.Tree.{no_statements}
use Rattle.program_tree.specs.View.{stmts_view}
use Rattle.naming.specs.FileScope.{pou_at}
use Rattle.decl_types.specs.Bodies.{file_in}
use Rattle.typing.specs.Members.{called_order}
use Rattle.running_pous.specs.Uses.{uses_of_all}
use Rattle.running_pous.specs.Bodies.{bodies_view, body_if, bodies_from}
use Rattle.running_pous.specs.Running.{may_run}
use Rattle.running_pous.proofs.SearchLemmas.{IsUnderWay, search-begun, waiting-low, waiting-runs, search-more, search-ended}
use Rattle.rules.specs.Faults.{IfRefused}
use Rattle.typing.specs.TypedPrograms.{called_by}
use Rattle.pou_cells.specs.Placing.{is_placed}
use Rattle.st_types.specs.LargePous.{any_large, IsRefusedIf}
use Rattle.st_types.proofs.LargeLemmas.{large_at, none_large, few-begun, few-more}
use Rattle.call_order.specs.Marks.{is_marked}
use Rattle.source_tree.specs.Syntax.{FileData}
use Rattle.st_types.proofs.running.running_bodies.Goals as goal

pub loop-number-init : goal.loop-number-init
loop-number-init c =
    let f = file_in c.args.placed.now.pous.domains in
    let n = length (called_order f) in
    let starts = uses_of_all (stmts_view c.args.body.now) in
    let numbers : length c.as_slice-called.result.now ≡ n = ap length c.as_slice-called.ensures.value ∙ ap length c.args.placed.now.pous.ordered in
    let old : c.in_ok-marks.marks.items ≡ replicate n false = c.in_ok-marks.ensures.items_if_clones_equal (λ y h. search rules) ∙ ap (λ (m : ℕ). replicate m false) numbers in
    let none : c.in_ok-runs.runs.items ≡ replicate n false = c.in_ok-runs.ensures.items_if_clones_equal (λ y h. search rules) ∙ ap (λ (m : ℕ). replicate m false) numbers in
    let empty : bodies_view c.in_ok-bodies.bodies.items ≡ replicate n no_statements = c.in_ok-bodies.ensures ∙ ap (λ (m : ℕ). replicate m no_statements) numbers in
    let start : c.deref_mut.result.now ≡ replicate n false = c.deref_mut.ensures.value ∙ old in
    let used : c.deref.result.now ≡ starts = c.deref.ensures.value ∙ c.in_ok-first.ensures in
    let got : GetMarks starts (replicate n false) c.mark.new.marks [] c.mark.new.waiting.items =
    subst (λ (ns : List ℕ). GetMarks ns (replicate n false) c.mark.new.marks [] c.mark.new.waiting.items) used
    (subst (λ (ms : List Bool). GetMarks c.deref.result.now ms c.mark.new.marks [] c.mark.new.waiting.items) start
    (subst (λ (ws : List ℕ). GetMarks c.deref.result.now c.deref_mut.result.now c.mark.new.marks ws c.mark.new.waiting.items) c.new-waiting.ensures.items c.in_ok-mark.ensures)) in
    let marks : take c.in_ok-marks.marks.len (c.mark.new.marks ++ drop (length c.mark.new.marks) c.in_ok-marks.marks.items) ≡ c.mark.new.marks =
    take_at c.mark.new.marks (drop (length c.mark.new.marks) c.in_ok-marks.marks.items) c.in_ok-marks.marks.len
    (let s = got.size in let o = c.in_ok-marks.marks.ok in let l = ap length old in omega arith) in
    record {
      search = subst (λ (ms : List Bool). IsUnderWay f starts ms c.in_ok-runs.runs.items (bodies_view c.in_ok-bodies.bodies.items) c.mark.new.waiting.items) (sym marks)
          (search-begun f starts c.mark.new.marks c.in_ok-runs.runs.items (bodies_view c.in_ok-bodies.bodies.items) c.mark.new.waiting.items got none empty);
      few = few-begun f c.in_ok-runs.runs.items n none;
    }

length_from : (f : FileData) (runs : ℕ → Bool) (n : ℕ) (ks : List ℕ) → length (bodies_from f runs n ks) ≡ length ks
length_from f runs n [] = refl
length_from f runs n (k ∷ ks) = ap (λ (m : ℕ). suc m) (length_from f runs (n + 1) ks)

-- what waited is the number of a POU
below : (f : FileData) (starts : List ℕ) (marks runs : List Bool) (bodies : List (Vec TypedStmt Global)) (rest waiting : List ℕ) (number : ℕ)
    → IsUnderWay f starts marks runs (bodies_view bodies) waiting → waiting ≡ rest ++ number ∷ [] → number < length (called_order f)
below f starts marks runs bodies rest waiting number is e = waiting-low f starts marks runs (bodies_view bodies) rest number (subst (λ (ws : List ℕ). IsUnderWay f starts marks runs (bodies_view bodies) ws) e is)

pub index_mut-requires : goal.index_mut-requires
index_mut-requires c =
    let f = file_in c.args.placed.now.pous.domains in
    let i = c.loop-number.invariant.search in
    let low = below f (uses_of_all (stmts_view c.args.body.now)) c.loop-number.marks.items c.loop-number.runs.items c.loop-number.bodies.items c.pop.new.self.items c.loop-number.waiting.items c.in-Some.number i c.in-Some.ensures.items in
    let long = i.long in
    let o = c.loop-number.runs.ok in
    let number_low : c.in-Some.number < length c.loop-number.runs.items = omega arith in
    search rules

pub index_mut-requires-in-Some : goal.index_mut-requires-in-Some
index_mut-requires-in-Some c =
    let f = file_in c.args.placed.now.pous.domains in
    let i = c.loop-number.invariant.search in
    let low = below f (uses_of_all (stmts_view c.args.body.now)) c.loop-number.marks.items c.loop-number.runs.items c.loop-number.bodies.items c.pop.new.self.items c.loop-number.waiting.items c.in-Some.number i c.in-Some.ensures.items in
    let all = ap length i.typed in
    let each = length-map c.loop-number.bodies.items (λ body. stmts_view body.items) in
    let many = length_from f (is_marked c.loop-number.runs.items) 0 (called_order f) in
    let o = c.loop-number.bodies.ok in
    let number_low : c.in-Some.number < length c.loop-number.bodies.items = omega arith in
    search rules

pub loop-number-preserved : goal.loop-number-preserved
loop-number-preserved c =
    let f = file_in c.args.placed.now.pous.domains in
    let order = called_order f in
    let number = c.in-Some.number in
    let starts = uses_of_all (stmts_view c.args.body.now) in
    let i = c.loop-number.invariant.search in
    let bodies = bodies_view c.loop-number.bodies.items in
    let is = subst (λ (ws : List ℕ). IsUnderWay f starts c.loop-number.marks.items c.loop-number.runs.items bodies ws) c.in-Some.ensures.items i in
    let called : c.number_of-pou.result ≡ get_or order number 0 = c.number_of-pou.ensures ∙ ap (λ (ns : List ℕ). get_or ns number 0) (c.as_slice-called.ensures.value ∙ c.args.placed.now.pous.ordered) in
    let body : stmts_view c.in_ok-body.body.items ≡ body_if f (get_or order number 0) (pou_at f (get_or order number 0)) = c.in_ok-body.ensures ∙ ap (λ (k : ℕ). body_if f k (pou_at f k)) called in
    let used : c.deref-in-Some-2.result.now ≡ uses_of_all (body_if f (get_or order number 0) (pou_at f (get_or order number 0))) =
    c.deref-in-Some-2.ensures.value ∙ c.in_ok-uses.ensures ∙ ap (λ l. uses_of_all (stmts_view l)) c.deref-in-Some.ensures.value ∙ ap uses_of_all body in
    let got : GetMarks (uses_of_all (body_if f (get_or order number 0) (pou_at f (get_or order number 0)))) c.loop-number.marks.items c.mark-in-Some.new.marks c.pop.new.self.items c.mark-in-Some.new.waiting.items =
    subst (λ (ns : List ℕ). GetMarks ns c.loop-number.marks.items c.mark-in-Some.new.marks c.pop.new.self.items c.mark-in-Some.new.waiting.items) used
    (subst (λ (ms : List Bool). GetMarks c.deref-in-Some-2.result.now ms c.mark-in-Some.new.marks c.pop.new.self.items c.mark-in-Some.new.waiting.items) c.deref_mut-in-Some.ensures.value c.in_ok-mark-2.ensures) in
    let marks : take c.loop-number.marks.len (c.mark-in-Some.new.marks ++ drop (length c.mark-in-Some.new.marks) c.loop-number.marks.items) ≡ c.mark-in-Some.new.marks =
    take_at c.mark-in-Some.new.marks (drop (length c.mark-in-Some.new.marks) c.loop-number.marks.items) c.loop-number.marks.len
    (let s = got.size in let o = c.loop-number.marks.ok in omega arith) in
    let typed : bodies_view (set c.loop-number.bodies.items number c.in_ok-body.body) ≡ set bodies number (body_if f (get_or order number 0) (pou_at f (get_or order number 0))) =
    map-set (λ v. stmts_view v.items) c.loop-number.bodies.items number c.in_ok-body.body ∙ ap (set bodies number) body in
    let placed : is_placed f (get_or order number 0) ≡ true = subst (λ (k : ℕ). is_placed f k ≡ true) called (sym c.is_placed.ensures ∙ c.if-not-is_placed.false) in
    record {
      search = subst (λ (ms : List Bool). IsUnderWay f starts ms (set c.loop-number.runs.items number true) (bodies_view (set c.loop-number.bodies.items number c.in_ok-body.body)) c.mark-in-Some.new.waiting.items) (sym marks)
          (search-more f starts c.loop-number.marks.items c.loop-number.runs.items c.mark-in-Some.new.marks (set c.loop-number.runs.items number true) bodies
          (bodies_view (set c.loop-number.bodies.items number c.in_ok-body.body)) c.pop.new.self.items c.mark-in-Some.new.waiting.items number is got refl typed);
      few = few-more f c.loop-number.runs.items number c.loop-number.invariant.few placed;
    }

pub body_if-requires : goal.body_if-requires
body_if-requires c = sym c.is_placed.ensures ∙ c.if-not-is_placed.false

empty_list : (xs : List ℕ) → length xs ≡ 0 → xs ≡ []
empty_list [] e = refl
empty_list (x ∷ xs) e = absurd (omega arith)

pub returns-clause-runs : goal.returns-clause-runs
returns-clause-runs c =
    let f = file_in c.args.placed.now.pous.domains in
    let none : c.loop-number.waiting.items ≡ [] = empty_list c.loop-number.waiting.items (let o = c.loop-number.waiting.ok in let n = c.in_default.ensures.cases in omega arith) in
    search-ended f (stmts_view c.args.body.now) c.loop-number.marks.items c.loop-number.runs.items (bodies_view c.loop-number.bodies.items)
    (subst (λ (ws : List ℕ). IsUnderWay f (uses_of_all (stmts_view c.args.body.now)) c.loop-number.marks.items c.loop-number.runs.items (bodies_view c.loop-number.bodies.items) ws) none c.loop-number.invariant.search)

pub returns-clause-few : goal.returns-clause-few
returns-clause-few c =
    let f = file_in c.args.placed.now.pous.domains in
    let body = stmts_view c.args.body.now in
    let none : c.loop-number.waiting.items ≡ [] = empty_list c.loop-number.waiting.items (let o = c.loop-number.waiting.ok in let n = c.in_default.ensures.cases in omega arith) in
    none_large f (may_run (called_by f) body) 0 (called_order f) (λ i low run.
    let same : 0 + i ≡ i = omega arith in
    let ran = search-ended f body c.loop-number.marks.items c.loop-number.runs.items (bodies_view c.loop-number.bodies.items)
    (subst (λ (ws : List ℕ). IsUnderWay f (uses_of_all body) c.loop-number.marks.items c.loop-number.runs.items (bodies_view c.loop-number.bodies.items) ws) none c.loop-number.invariant.search) i low in
    c.loop-number.invariant.few i (ran ∙ subst (λ (k : ℕ). may_run (called_by f) body k ≡ true) same run))

pub returns-then-not-is_placed-clause-refused : goal.returns-then-not-is_placed-clause-refused
returns-then-not-is_placed-clause-refused c =
    let f = file_in c.args.placed.now.pous.domains in
    let order = called_order f in
    let number = c.in-Some.number in
    let body = stmts_view c.args.body.now in
    let bodies = bodies_view c.loop-number.bodies.items in
    let is = subst (λ (ws : List ℕ). IsUnderWay f (uses_of_all body) c.loop-number.marks.items c.loop-number.runs.items bodies ws) c.in-Some.ensures.items c.loop-number.invariant.search in
    let low = waiting-low f (uses_of_all body) c.loop-number.marks.items c.loop-number.runs.items bodies c.pop.new.self.items number is in
    let same : number ≡ 0 + number = omega arith in
    let run = subst (λ (k : ℕ). may_run (called_by f) body k ≡ true) same (waiting-runs f body c.loop-number.marks.items c.loop-number.runs.items bodies c.pop.new.self.items number is) in
    let called : c.number_of-pou.result ≡ get_or order number 0 = c.number_of-pou.ensures ∙ ap (λ (ns : List ℕ). get_or ns number 0) (c.as_slice-called.ensures.value ∙ c.args.placed.now.pous.ordered) in
    let large : is_placed f (get_or order number 0) ≡ false = subst (λ (k : ℕ). is_placed f k ≡ false) called (sym c.is_placed.ensures ∙ c.if-not-is_placed.true) in
    subst (IfRefused (IsRefusedIf (any_large f (may_run (called_by f) body) 0 order))) (sym c.too_large.ensures) (large_at f (may_run (called_by f) body) 0 order number low run large, refl)
