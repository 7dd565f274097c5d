-- What the names of a POU stand for is whole, and so are the FUNCTIONs that may be called.
use Rattle.std.proofs.Common.{◌≡◌, ℕ, zero, suc, List, [], ◌∷◌, ◌++◌, map, filter, Bool, true, false, true≢false, not, ◌&&◌, ◌||◌, Option, Some, None, option_map, option_and_then, if◌then◌else◌, refl, sym, ap, ◌∙◌, subst}
use Rattle.std.specs.List.{slice_get}
use Rattle.std.specs.Option.{unwrap_or}
use Rattle.std.proofs.lemmas.Bool.{and_from, and_parts}
use Rattle.rules.specs.Judgements.{ok, suppressed}
use Rattle.source_tree.specs.Syntax.{Named, PathData, PouTypeData, function, function_block, program, PouData, FileData}
use Rattle.naming.specs.declared.role.Role.TheVariants as roles
use Rattle.naming.specs.FileScope.{pou_at, standing, is_value}
use Rattle.naming.specs.Scopes.{Variable, PouScope, variables_of, result_of as own_result, names_in_body, variables_in_pou, is_local, is_input, is_seen, is_step, is_action, is_transition, is_of_name, variable_named, is_fault, is_whole_type, block_of_type, block_of, seen, seen_named}
use Rattle.naming.specs.Scopes as naming
use Rattle.naming.specs.Broken.{misused, too_deep, member_by, in_member, in_parts, in_flag, in_named, in_outer, in_path, callee_of}
use Rattle.typing.specs.declared.scope.Port.{Port}
use Rattle.typing.specs.declared.next.Next.{Next}
use Rattle.typing.specs.declared.member.Member.{Member}
use Rattle.typing.specs.Typing.{Reference, by_path, by_value, is_unknown}
use Rattle.typing.specs.Domains.{value_at}
use Rattle.typing.specs.Variables.{domain_of_variable, judged_variable}
use Rattle.typing.specs.Places.{first_places, first_place, places_behind}
use Rattle.typing.specs.Members.{member_of, members_of, members_in, member_among, member_in, seen_from, in_instance, meant_by, variable_or_value, named_in, port_of, ports_of, result_of, members_if, signature_of, is_function, scope_of}
use Rattle.whole_files.specs.WholeScopes.{is_whole_meaning, is_whole_port, IsWholeScope, IsWholeFunction}
use Rattle.alike_scopes.specs.bound_names.BoundNames.{is_bound, is_function_called, bound_uses}
use Rattle.alike_scopes.proofs.bound_names.CalledFunctions.{function_of, function_is, callee_some}
use Rattle.alike_scopes.proofs.bound_names.Roles.{seen_only, step_only, input_only, no_block}
use Rattle.alike_scopes.proofs.bound_names.NameParts.{never, holds_by, fails_by, outer_never}
use Rattle.whole_files.proofs.WholeVariables.{IsWholeVariable, AreWholeVariables}

-- ---- the variable of a name

pub named_whole : (f : FileData) (text : List ℕ) (vs : List Variable) (v : Variable) → AreWholeVariables f vs → variable_named text vs ≡ Some v → IsWholeVariable f v
named_whole f text [] v all h = absurd (let e : ⊥ = cc in e)
named_whole f text (x ∷ vs) v all h = by (is_of_name text x) (named_whole f text vs v all.1) h
  where
    by : (b : Bool) → (variable_named text vs ≡ Some v → IsWholeVariable f v) → (if b then Some x else variable_named text vs) ≡ Some v → IsWholeVariable f v
    by true rest k = let same : x ≡ v = cc in subst (IsWholeVariable f) same all.0
    by false rest k = rest k

pub member_found : (f : FileData) (sizes text : List ℕ) (next : Next) (vs : List Variable) (v : Variable) → variable_named text vs ≡ Some v → (c : ℕ) × (member_among f sizes text next vs ≡ Some (member_of f c v))
member_found f sizes text next [] v h = absurd (let e : ⊥ = cc in e)
member_found f sizes text next (x ∷ vs) v h = by (is_of_name text x) (member_found f sizes text (places_behind f sizes next x) vs v) h
  where
    by : (b : Bool) → (variable_named text vs ≡ Some v → (c : ℕ) × (member_among f sizes text (places_behind f sizes next x) vs ≡ Some (member_of f c v))) → (if b then Some x else variable_named text vs) ≡ Some v
        → (c : ℕ) × ((if b then Some (member_of f (first_place next x) x) else member_among f sizes text (places_behind f sizes next x) vs) ≡ Some (member_of f c v))
    by true rest k = let same : x ≡ v = cc in (first_place next x, ap (λ (y : Variable). Some (member_of f (first_place next x) y)) same)
    by false rest k = rest k

pub member_none : (f : FileData) (sizes text : List ℕ) (next : Next) (vs : List Variable) → variable_named text vs ≡ None → member_among f sizes text next vs ≡ None
member_none f sizes text next [] h = refl
member_none f sizes text next (x ∷ vs) h = by (is_of_name text x) (member_none f sizes text (places_behind f sizes next x) vs) h
  where
    by : (b : Bool) → (variable_named text vs ≡ None → member_among f sizes text (places_behind f sizes next x) vs ≡ None) → (if b then Some x else variable_named text vs) ≡ None
        → (if b then Some (member_of f (first_place next x) x) else member_among f sizes text (places_behind f sizes next x) vs) ≡ None
    by true rest k = absurd (let e : ⊥ = cc in e)
    by false rest k = rest k

-- ---- a variable that is whole

module _ (f : FileData) (v : Variable) (whole : IsWholeVariable f v) where
  known_whole : block_of f v ≡ None → ((judged_variable f v).whole && not (is_unknown (domain_of_variable f v).kind)) ≡ true
  known_whole none = and_from (judged_variable f v).whole (not (is_unknown (domain_of_variable f v).kind)) whole.whole (ap not (whole.known none))

  pub port_whole : (c : ℕ) → is_local v.role ≡ false → is_whole_port (port_of (member_of f c v)) ≡ true
  port_whole c h = known_whole (no_block f v h)

module _ (f : FileData) (wholes : (i : ℕ) (d : PouData) → pou_at f i ≡ Some d → AreWholeVariables f (variables_in_pou d)) (values : (q : List ℕ) → is_value (standing f q) ≡ true → is_whole_meaning (value_at f (standing f q)) ≡ true) (sizes : List ℕ) where
  -- ---- names

  -- a member of an instance
  module _ (b : ℕ) (n : Named) (cell : ℕ) where
    seen_by : (x : PouData) → pou_at f b ≡ Some x → (o : Option Variable) → variable_named n.text (variables_in_pou x) ≡ o → (member_by (option_map (seen f (naming.scope_of x)) o) n).whole ≡ true
        → is_whole_meaning (option_map (seen_from cell) (member_in f sizes n.text x)) ≡ true
    seen_by x at None e h = absurd (never false refl h)
    seen_by x at (Some w) e h =
        let s = seen f (naming.scope_of x) w in
        let two = holds_by s.whole (if is_seen w.role then ok else misused n) suppressed (never false refl) h in
        let outer = (holds_by (is_seen w.role) ok (misused n) (never false refl) two.1).0 in
        let vs = variables_in_pou x in
        let r = member_found f sizes n.text (first_places f sizes x.pou_type vs) vs w e in
        let whole = named_whole f n.text vs w (wholes b x at) e in
        ap (λ (m : Option Member). is_whole_meaning (option_map (seen_from cell) m)) r.1 ∙ known_whole f w whole (no_block f w (seen_only w.role outer))

    member_by_pou : (o : Option PouData) → pou_at f b ≡ o → (unwrap_or (option_map (λ p. member_by (seen_named f (naming.scope_of p) n.text) n) o) suppressed).whole ≡ true
        → is_whole_meaning (option_map (seen_from cell) (option_and_then (member_in f sizes n.text) o)) ≡ true
    member_by_pou None e h = absurd (never false refl h)
    member_by_pou (Some x) e h = seen_by x e (variable_named n.text (variables_in_pou x)) refl h

    member_whole : (in_member f b n).whole ≡ true → is_whole_meaning (in_instance f sizes cell n (Some b)) ≡ true
    member_whole h = member_by_pou (pou_at f b) refl h

  module _ (p : PouScope) (v : Variable) (whole : IsWholeVariable f v) (cell : ℕ) (first : Named) where
    members_by : (w : Bool) (b : ℕ) (n : Named) (ns : List Named) → (in_member f b n).whole ≡ w → (if w then too_deep ns else in_member f b n).whole ≡ true → (in_member f b n).whole ≡ true
    members_by true b n ns e h = e
    members_by false b n ns e h = h

    -- what stands behind a variable that is no step
    parts_by : (ns : List Named) (o : Option ℕ) → block_of f v ≡ o → (in_parts f o (record { first = first; members = ns })).whole ≡ true → is_step v.role ≡ false → is_whole_meaning (meant_by f sizes ns (member_of f cell v)) ≡ true
    parts_by [] None e h no_step = known_whole f v whole e
    parts_by [] (Some b) e h no_step = absurd (never false refl h)
    parts_by (n ∷ ns) None e h no_step = absurd (never false refl h)
    parts_by (n ∷ ns) (Some b) e h no_step =
        let m = member_of f cell v in
        ap (λ (s : Bool). is_whole_meaning (if s then Some m.meaning else in_instance f sizes cell n (block_of f v))) no_step
        ∙ ap (λ (o : Option ℕ). is_whole_meaning (in_instance f sizes cell n o)) e
        ∙ member_whole b n cell (members_by (in_member f b n).whole b n ns refl h)

    step_whole : (ns : List Named) → is_step v.role ≡ true → (in_flag first ns).whole ≡ true → is_whole_meaning (meant_by f sizes ns (member_of f cell v)) ≡ true
    step_whole [] step h = absurd (never false refl h)
    step_whole (n ∷ ns) step h =
        let m = member_of f cell v in
        ap (λ (s : Bool). is_whole_meaning (if s then Some m.meaning else in_instance f sizes cell n (block_of f v))) step ∙ known_whole f v whole (no_block f v (step_only v.role step))

    named_by : (ns : List Named) (s : Bool) → is_step v.role ≡ s
        → (if s then in_flag first ns else (if is_action v.role || is_transition v.role then misused first else in_parts f (block_of f v) (record { first = first; members = ns }))).whole ≡ true
        → is_whole_meaning (meant_by f sizes ns (member_of f cell v)) ≡ true
    named_by ns true e h = step_whole ns e h
    named_by ns false e h =
        parts_by ns (block_of f v) refl (fails_by (is_action v.role || is_transition v.role) (misused first) (in_parts f (block_of f v) (record { first = first; members = ns })) (never false refl) h).1 e

  module _ (k : ℕ) (d : PouData) (at : pou_at f k ≡ Some d) where
    path_by : (first : Named) (ns : List Named) (o : Option Variable) → variable_named first.text (variables_in_pou d) ≡ o
        → (in_path f (naming.scope_of d) (option_map (seen f (naming.scope_of d)) o) (record { first = first; members = ns })).whole ≡ true
        → is_whole_meaning (variable_or_value f sizes first.text ns (member_in f sizes first.text d)) ≡ true
    path_by first ns None e h =
        let p = naming.scope_of d in
        let vs = variables_in_pou d in
        let test = not (is_fault p.has_fault first.text) && is_value (standing f first.text) in
        let two = holds_by test (too_deep ns) (in_outer f p first) (outer_never f p first) h in
        let value = (and_parts (not (is_fault p.has_fault first.text)) (is_value (standing f first.text)) two.0).1 in
        ap (λ (m : Option Member). is_whole_meaning (variable_or_value f sizes first.text ns m)) (member_none f sizes first.text (first_places f sizes d.pou_type vs) vs e) ∙ values first.text value
    path_by first ns (Some v) e h =
        let p = naming.scope_of d in
        let vs = variables_in_pou d in
        let s = seen f p v in
        let q : PathData = record { first = first; members = ns } in
        let two = holds_by s.whole (in_named f s q) suppressed (never false refl) h in
        let r = member_found f sizes first.text (first_places f sizes d.pou_type vs) vs v e in
        let whole = named_whole f first.text vs v (wholes k d at) e in
        ap (λ (m : Option Member). is_whole_meaning (variable_or_value f sizes first.text ns m)) r.1 ∙ named_by p v whole r.0 first ns (is_step v.role) refl two.1

    path_whole : (q : PathData) → is_bound f (naming.scope_of d) (by_path q) ≡ true → is_whole_meaning (named_in f sizes k (by_path q)) ≡ true
    path_whole q h =
        ap (λ (o : Option PouData). is_whole_meaning (variable_or_value f sizes q.first.text q.members (option_and_then (member_in f sizes q.first.text) o))) at
        ∙ path_by q.first q.members (variable_named q.first.text (variables_in_pou d)) refl h

    names_whole : (r : Reference) → is_bound f (naming.scope_of d) r ≡ true → is_whole_meaning (named_in f sizes k r) ≡ true
    names_whole (by_path q) h = path_whole q h
    names_whole (by_value n) h = values n.text h

  -- ---- FUNCTIONs

  -- the first variable of a FUNCTION is what it answers
  first_is : (k : PouTypeData) (n : Named) → is_function k ≡ true → (v : Variable) × (own_result k n ≡ v ∷ []) × (is_local v.role ≡ false)
  first_is (function t) n h = (record { name = n; role = roles.Result; kind = Some t; initial = None }, refl, refl)
  first_is function_block n h = absurd (true≢false (sym h))
  first_is program n h = absurd (true≢false (sym h))

  answer_by : (next : Next) (vs rest : List Variable) (v : Variable) → vs ≡ v ∷ rest → AreWholeVariables f vs → is_local v.role ≡ false → is_whole_port (result_of (members_of f sizes next vs)) ≡ true
  answer_by next [] rest v is all local = absurd (let z : ⊥ = cc in z)
  answer_by next (x ∷ vs) rest v is all local =
      let same : x ≡ v = cc in
      port_whole f x all.0 (first_place next x) (subst (λ (y : Variable). is_local y.role ≡ false) (sym same) local)

  answer_whole : (x : PouData) → AreWholeVariables f (variables_in_pou x) → is_function x.pou_type ≡ true → is_whole_port (result_of (members_in f sizes x)) ≡ true
  answer_whole x all is =
      let vs = variables_in_pou x in
      let r = first_is x.pou_type x.name is in
      answer_by (first_places f sizes x.pou_type vs) vs (variables_of x.variables ++ names_in_body x.body) r.0 (ap (λ (l : List Variable). l ++ variables_of x.variables ++ names_in_body x.body) r.1) all r.2

  ports_whole : (next : Next) (vs : List Variable) → AreWholeVariables f vs → (place : ℕ) (p : Port) → slice_get (ports_of (members_of f sizes next vs)) place ≡ Some p → is_whole_port p ≡ true
  ports_whole next [] all place p h = absurd (let z : ⊥ = cc in z)
  ports_whole next (v ∷ vs) all place p h = by (is_input v.role) refl place h (λ i k. ports_whole (places_behind f sizes next v) vs all.1 i p k)
    where
      m : Member
      m = member_of f (first_place next v) v

      rest : List Member
      rest = filter (λ x. is_input x.role) (members_of f sizes (places_behind f sizes next v) vs)

      by : (b : Bool) → is_input v.role ≡ b → (i : ℕ) → slice_get (map port_of (if b then m ∷ rest else rest)) i ≡ Some p → ((j : ℕ) → slice_get (map port_of rest) j ≡ Some p → is_whole_port p ≡ true) → is_whole_port p ≡ true
      by false e i k more = more i k
      by true e zero k more =
          let same : port_of m ≡ p = cc in
          subst (λ (y : Port). is_whole_port y ≡ true) same (port_whole f v all.0 (first_place next v) (input_only v.role e))
      by true e (suc i) k more = more i k

  function_whole : (k : ℕ) (text : List ℕ) → is_function_called (callee_of f text) ≡ true → IsWholeFunction (scope_of f sizes k) text
  function_whole k text h =
      let c = callee_some (callee_of f text) h in
      let number = c.0 in
      let r = function_of f text number c.1 in
      let s = signature_of f sizes number in
      let all = wholes number r.pou r.there in
      let answered = answer_whole r.pou all r.is in record {
        signature = s;
        there = ap (option_map (signature_of f sizes)) (function_is f text number r);
        answer = ap (λ (o : Option PouData). is_whole_port (result_of (members_if f sizes o))) r.there ∙ answered;
        inputs = λ place p there.
            let vs = variables_in_pou r.pou in
            ports_whole (first_places f sizes r.pou.pou_type vs) vs all place p (ap (λ (o : Option PouData). slice_get (ports_of (members_if f sizes o)) place) (sym r.there) ∙ there);
      }

  pub scope_whole : (k : ℕ) (d : PouData) → pou_at f k ≡ Some d → IsWholeScope (scope_of f sizes k) (bound_uses f (naming.scope_of d))
  scope_whole k d at = record { names = names_whole k d at; functions = function_whole k }
