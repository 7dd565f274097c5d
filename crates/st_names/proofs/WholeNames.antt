-- The names of a POU whose file breaks no rule on names are whole.
use Rattle.std.proofs.Common.{◌≡◌, ℕ, zero, suc, ◌+◌, List, [], ◌∷◌, ◌++◌, Bool, true, false, ◌||◌, nat_lt, Option, Some, None, count_by, refl, sym, ap, ◌∙◌, subst, if◌then◌else◌, arith, add-zero, append_assoc}
use Rattle.std.specs.List.{list_any, list_all, slice_get}
use Rattle.std.proofs.lemmas.Bool.{or_parts, and_parts}
use Rattle.std.specs.Cmp.Lexicographic.{bytes_decides}
use Rattle.std.proofs.Math.Bool.{or-true}
use Rattle.std.proofs.lemmas.List.Folds.{list_any-append}
use Rattle.std.proofs.lemmas.Bool.Decides.{nat_tests}
use Rattle.std.proofs.lemmas.List.{append-nil}
use Rattle.source_tree.specs.Syntax.{Named, PartData, step_part, transition_part, action_part, BodyData, statements, chart as chart_body, PouData, FileData}
use Rattle.naming.specs.declared.role.Role.TheVariants as roles
use Rattle.naming.specs.ChartWords.{is_stored}
use Rattle.naming.specs.Broken.{twice, in_pou, in_pou_scope, in_body, in_declarations, variables_twice, broken_names}
use Rattle.naming.specs.FileScope.{pous_of, pou_at}
use Rattle.naming.specs.Scopes.{Variable, PouScope, scope_of, is_of_name, variable_named, variables_of, result_of, of_chart, step_role, action_role, transition_named, declared_by_part, declared_by_parts, names_in_body, variables_in_pou, is_fault, is_doubled, is_whole}
use Rattle.rules.specs.Judgements.{ok}
use Rattle.st_names.specs.Bound.{are_typed}
use Rattle.naming.proofs.CountLemmas.{count-push, any-count}
use Rattle.naming.proofs.SlotLemmas.{same_name}
use Rattle.st_names.proofs.Clean.{nil_left, nil_right, parts, no_doubles}
use Rattle.st_names.proofs.Kept.{clean_pou, declarations_of, typed_pous}
use Rattle.st_names.proofs.WholeDeclarations.{whole_type_named, no_broken_name, enumerator_clean, whole_end}
use Rattle.st_names.proofs.WholeVariables.{whole_variable}
use Rattle.st_names.proofs.WholePous.{IsDeclared, IsDeclaredIf, HasName, HaveNames, HasNames, pou_sound}

-- ---- no name of a POU is declared twice

abbrev counted : List ℕ → List Variable → ℕ
counted q vs = count_by (is_of_name q) vs

abbrev IsOnce : Bool → List Variable → Type 0
IsOnce fault vs = ((q : List ℕ) → nat_lt 1 (counted q vs) ≡ false) × ((k : ℕ) (v : Variable) → slice_get vs k ≡ Some v → is_fault fault v.name.text ≡ false)

not_own : (v : Variable) (b : Bool) → (if b then twice v.name else ok).broken ≡ [] → b ≡ false
not_own v true h = absurd (let e : ⊥ = cc in e)
not_own v false h = refl

push_counted : (before : List Variable) (v : Variable) → ((q : List ℕ) → nat_lt 1 (counted q before) ≡ false) → list_any (is_of_name v.name.text) before ≡ false → (q : List ℕ) → nat_lt 1 (counted q (before ++ v ∷ [])) ≡ false
push_counted before v once new q = ap (nat_lt 1) (count-push (is_of_name q) before v) ∙ by (is_of_name q v) refl
  where
    by : (b : Bool) → is_of_name q v ≡ b → nat_lt 1 (counted q before + (if b then 1 else 0)) ≡ false
    by true e =
        let same : v.name.text ≡ q = same_name v q e in
        let none : nat_lt 0 (counted q before) ≡ false = sym (any-count (is_of_name q) before) ∙ ap (λ t. list_any (is_of_name t) before) (sym same) ∙ new in
        let zero_count : counted q before ≡ 0 = grind (arith, nat_tests) in
        rw zero_count refl
    by false e = ap (nat_lt 1) (add-zero (counted q before)) ∙ once q

push_fault : (fault : Bool) (before : List Variable) (v : Variable) → ((k : ℕ) (w : Variable) → slice_get before k ≡ Some w → is_fault fault w.name.text ≡ false) → is_fault fault v.name.text ≡ false → (k : ℕ) (w : Variable) → slice_get (before ++ v ∷ []) k ≡ Some w → is_fault fault w.name.text ≡ false
push_fault fault [] v all own zero w at = let e : v ≡ w = cc in subst (λ (x : Variable). is_fault fault x.name.text ≡ false) e own
push_fault fault [] v all own (suc k) w at = absurd (let e : ⊥ = cc in e)
push_fault fault (x ∷ before) v all own zero w at = all 0 w at
push_fault fault (x ∷ before) v all own (suc k) w at = push_fault fault before v (λ j y e. all (suc j) y e) own k w at

once_all : (fault : Bool) (before vs : List Variable) → IsOnce fault before → (variables_twice fault before vs).broken ≡ [] → IsOnce fault (before ++ vs)
once_all fault before [] once h = subst (IsOnce fault) (sym (append-nil before)) once
once_all fault before (v ∷ vs) once h =
    let test = is_fault fault v.name.text || list_any (is_of_name v.name.text) before in
    let rest = (variables_twice fault (before ++ v ∷ []) vs).broken in
    let none : test ≡ false = not_own v test (nil_left (if test then twice v.name else ok).broken rest h) in
    let new = or_parts (is_fault fault v.name.text) (list_any (is_of_name v.name.text) before) none in
    let more : IsOnce fault (before ++ v ∷ []) = (push_counted before v once.0 new.1, push_fault fault before v once.1 new.0) in
    subst (IsOnce fault) (append_assoc before (v ∷ []) vs) (once_all fault (before ++ v ∷ []) vs more (nil_right (if test then twice v.name else ok).broken rest h))

twice_of : (f : FileData) (s : PouScope) (body : BodyData) → (in_pou_scope f s body).broken ≡ [] → (variables_twice s.has_fault [] s.variables).broken ≡ []
unfolding in_pou_scope
twice_of f s body h =
    let first = (variables_twice s.has_fault [] s.variables).broken in
    let declared = (in_declarations f s 0 s.variables).broken in
    nil_left first declared (nil_left (first ++ declared) (in_body f s body).broken h)

-- ---- the names of a chart are among those of its POU

named_some : (q : List ℕ) (vs : List Variable) → list_any (is_of_name q) vs ≡ true → (v : Variable) × (variable_named q vs ≡ Some v)
named_some q [] h = absurd (let e : ⊥ = cc in e)
named_some q (v ∷ vs) h = by (is_of_name q v) (named_some q vs) h
  where
    by : (b : Bool) → (list_any (is_of_name q) vs ≡ true → (w : Variable) × (variable_named q vs ≡ Some w)) → (b || list_any (is_of_name q) vs) ≡ true → (w : Variable) × ((if b then Some v else variable_named q vs) ≡ Some w)
    by true rest k = (v, refl)
    by false rest k = rest k

-- the variable of a name stands at some place
stands_at : (q : List ℕ) (vs : List Variable) (v : Variable) → variable_named q vs ≡ Some v → (k : ℕ) × (slice_get vs k ≡ Some v) × (v.name.text ≡ q)
stands_at q [] v h = absurd (let e : ⊥ = cc in e)
stands_at q (x ∷ vs) v h = by (is_of_name q x) refl (stands_at q vs v) h
  where
    by : (b : Bool) → is_of_name q x ≡ b → (variable_named q vs ≡ Some v → (k : ℕ) × (slice_get vs k ≡ Some v) × (v.name.text ≡ q)) → (if b then Some x else variable_named q vs) ≡ Some v → (k : ℕ) × (slice_get (x ∷ vs) k ≡ Some v) × (v.name.text ≡ q)
    by true e rest k = let same : x ≡ v = cc in (0, k, ap (λ (w : Variable). w.name.text) (sym same) ∙ same_name x q e)
    by false e rest k = let r = rest k in (suc r.0, r.1, r.2)

module _ (p : PouScope) where
  declared_at : (n : Named) (v : Variable) (before rest : List Variable) → v.name ≡ n → p.variables ≡ before ++ v ∷ rest → IsDeclared p n
  declared_at n v before rest is all =
      let here : is_of_name n.text v ≡ true = (bytes_decides v.name.text n.text).1 (ap (λ (x : Named). x.text) is) in
      let met : list_any (is_of_name n.text) (before ++ v ∷ rest) ≡ true =
      list_any-append (is_of_name n.text) before (v ∷ rest) ∙ ap (λ b. list_any (is_of_name n.text) before || (b || list_any (is_of_name n.text) rest)) here ∙ or-true (list_any (is_of_name n.text) before) in
      named_some n.text p.variables (ap (list_any (is_of_name n.text)) all ∙ met)

  parts_named : (stored : List ℕ → Bool) (before : List Variable) (qs : List PartData) → p.variables ≡ before ++ declared_by_parts stored qs → HaveNames p qs
  parts_named stored before [] all = tt
  parts_named stored before (q ∷ qs) all =
      (own q all, parts_named stored (before ++ declared_by_part stored q) qs (all ∙ sym (append_assoc before (declared_by_part stored q) (declared_by_parts stored qs))))
    where
      own : (q : PartData) → p.variables ≡ before ++ (declared_by_part stored q ++ declared_by_parts stored qs) → HasName p q
      own (step_part s) e = declared_at s.name (of_chart (step_role s.is_initial) s.name) before (declared_by_parts stored qs) refl e
      own (action_part a) e = declared_at a.name (of_chart (action_role (stored a.name.text)) a.name) before (declared_by_parts stored qs) refl e
      own (transition_part t) e = by t.name e
        where
          by : (n : Option Named) → p.variables ≡ before ++ (transition_named n ++ declared_by_parts stored qs) → IsDeclaredIf p n
          by None i = tt
          by (Some n) i = declared_at n (of_chart roles.Transition n) before (declared_by_parts stored qs) refl i

names_of_chart : (d : PouData) → HasNames (scope_of d) d.body
names_of_chart d = by d.body refl
  where
    by : (b : BodyData) → d.body ≡ b → HasNames (scope_of d) b
    by (statements ss) e = tt
    by (chart_body qs) e = parts_named (scope_of d) (is_stored qs) (result_of d.pou_type d.name ++ variables_of d.variables) qs (ap (λ (b : BodyData). result_of d.pou_type d.name ++ variables_of d.variables ++ names_in_body b) e)

-- ---- a POU that breaks nothing is whole

module _ (f : FileData) (none : broken_names f ≡ []) where
  pub pou_typed : (i : ℕ) (d : PouData) → pou_at f i ≡ Some d → are_typed f (variables_in_pou d) ≡ true
  pou_typed i d at = got (pous_of f) i (typed_pous f none) at
    where
      got : (ps : List PouData) (i : ℕ) → list_all (λ p. are_typed f (variables_in_pou p)) ps ≡ true → slice_get ps i ≡ Some d → are_typed f (variables_in_pou d) ≡ true
      got [] i h k = absurd (let e : ⊥ = cc in e)
      got (x ∷ ps) zero h k = let e : x ≡ d = cc in subst (λ y. are_typed f (variables_in_pou y) ≡ true) e (and_parts (are_typed f (variables_in_pou x)) (list_all (λ p. are_typed f (variables_in_pou p)) ps) h).0
      got (x ∷ ps) (suc i) h k = got ps i (and_parts (are_typed f (variables_in_pou x)) (list_all (λ p. are_typed f (variables_in_pou p)) ps) h).1 k

  pub clean_at : (i : ℕ) (d : PouData) → pou_at f i ≡ Some d → (in_pou f d).broken ≡ []
  clean_at i d at = clean_pou f (pous_of f) i d (parts f none).4 at

  pou_once : (i : ℕ) (d : PouData) → pou_at f i ≡ Some d → IsOnce (scope_of d).has_fault (variables_in_pou d)
  pou_once i d at =
      once_all (scope_of d).has_fault [] (variables_in_pou d) ((λ q. refl), (λ k v e. absurd (let n : ⊥ = cc in n))) (twice_of f (scope_of d) d.body (clean_at i d at))

  pub single_at : (i : ℕ) (d : PouData) → pou_at f i ≡ Some d → (k : ℕ) (v : Variable) → slice_get (variables_in_pou d) k ≡ Some v → is_doubled (scope_of d) v.name.text ≡ false
  single_at i d at k v there =
      let o = pou_once i d at in
      rw (o.1 k v there, o.0 v.name.text) refl

  pub variable_whole : (i : ℕ) (d : PouData) → pou_at f i ≡ Some d → (q : List ℕ) (v : Variable) → variable_named q (variables_in_pou d) ≡ Some v → is_whole f (scope_of d) v ≡ true
  variable_whole i d at q v h =
      let r = parts f none in
      let once = no_doubles f r.1 in
      whole_variable f (no_broken_name f once r.2 r.3) (enumerator_clean f once r.2 r.3) once (scope_of d) (single_at i d at) (pou_typed i d at) (declarations_of f (scope_of d) d.body (clean_at i d at)) q v h

  single_named : (i : ℕ) (d : PouData) → pou_at f i ≡ Some d → (q : List ℕ) (v : Variable) → variable_named q (variables_in_pou d) ≡ Some v → is_doubled (scope_of d) q ≡ false
  single_named i d at q v h =
      let r = stands_at q (variables_in_pou d) v h in
      subst (λ (t : List ℕ). is_doubled (scope_of d) t ≡ false) r.2 (single_at i d at r.0 v r.1)

  pub pou_whole : (i : ℕ) (d : PouData) → pou_at f i ≡ Some d → (in_pou f d).whole ≡ true
  pou_whole i d at =
      let r = parts f none in
      let once = no_doubles f r.1 in
      pou_sound f once (no_broken_name f once r.2 r.3) (whole_type_named f once r.2 r.3) (whole_end f once r.2 r.3) variable_whole (scope_of d) (variable_whole i d at) (single_named i d at) (pou_typed i d at)
      d.body (names_of_chart d) (clean_at i d at)
