-- What a file keeps that breaks no rule on names.
use Rattle.std.proofs.Common.{◌≡◌, ℕ, zero, suc, ◌+◌, List, [], ◌∷◌, ◌++◌, length, map, Bool, true, false, ◌||◌, not, Option, Some, None, option_map, is_some, refl, ap, ◌∙◌, subst, if◌then◌else◌}
use Rattle.std.specs.List.{list_all, slice_get}
use Rattle.std.specs.Option.{unwrap_or}
use Rattle.std.proofs.lemmas.Bool.{and_parts, not-false}
use Rattle.std.proofs.Math.Bool.{or-true}
use Rattle.source_tree.specs.declared.syntax.Section.{Section}
use Rattle.source_tree.specs.declared.syntax.Section.TheVariants as sections
use Rattle.source_tree.specs.Syntax.{Named, TypeData, of_elementary, of_subrange, of_name, DeclarationData, VariablesData, PartData, step_part, transition_part, action_part, BodyData, statements, chart, PouTypeData, function, function_block, program, PouData, FileData}
use Rattle.naming.specs.declared.standing.Standing.{Standing}
use Rattle.naming.specs.declared.standing.Standing.TheVariants as standings
use Rattle.st_names.specs.Bound.{are_typed, are_pous_typed}
use Rattle.naming.specs.ChartWords.{is_stored}
use Rattle.naming.specs.Broken.{misused, in_file, is_broken_name, in_type_name, is_whole_result, is_broken_function, in_types, in_results, in_named_type, in_type, in_kind, in_initial, in_declarations, in_body, in_pou_scope, in_pou, in_pous, variables_twice, broken_names}
use Rattle.naming.specs.FileScope.{types_of, pous_of, pou_at, is_doubled_in_file, standing, is_type}
use Rattle.rules.specs.Judgements.{ok, suppressed, whole_if}
use Rattle.naming.specs.Scopes.{Variable, PouScope, scope_of, role_of, declared_by, declared_in, variables_of, result_of, of_chart, step_role, action_role, transition_named, declared_by_part, declared_by_parts, names_in_body, variables_in_pou, is_local, is_result, block_of_type, block_of, is_whole_type, is_typed}
use Rattle.naming.specs.Types.{is_whole_type_name, are_whole_types}
use Rattle.naming.proofs.ValueLemmas.{type_in, stands_for}
use Rattle.st_names.proofs.Clean.{nil_left, nil_right, parts, no_doubles, some_name}
use Rattle.st_names.proofs.WholeDeclarations.{whole_type_named, no_broken_function}

module _ (f : FileData) (once : (q : List ℕ) → is_doubled_in_file f q ≡ false) (clean : in_types f 0 (types_of f) ≡ []) (results : in_results f (length (types_of f)) (pous_of f) ≡ []) where
  -- a type breaks no rule, where there is one
  abbrev whole_type : Option TypeData → Bool
  whole_type k = unwrap_or (option_map (is_whole_type f) k) true

  whole_or : (b : Bool) (k : Option TypeData) → whole_type k ≡ true → (b || whole_type k) ≡ true
  whole_or b k h = ap (λ w. b || w) h ∙ or-true b

  -- a variable whose type is one by name
  named_kind : (v : Variable) (n : Named) → v.kind ≡ Some (of_name n) → (not (is_result v.role) || is_typed f v) ≡ true → (in_named_type f v n).broken ≡ [] → is_typed f v ≡ true
  named_kind v n is own h = by (is_result v.role) (is_some (block_of_type f (of_name n))) (is_local v.role) refl refl refl own h
    where
      outer : (o : Option Standing) → standing f n.text ≡ o → (if is_type o then whole_if (is_whole_type_name f n) else (if is_broken_name f o then suppressed else in_file f n)).broken ≡ [] → is_whole_type_name f n ≡ true
      outer None e k = absurd (some_name f once n k)
      outer (Some (standings.Type t)) e k = whole_type_named f once clean results n t e
      outer (Some (standings.Value t u)) e k = absurd (some_name f once n k)
      outer (Some (standings.Pou p)) e k = absurd (let i = rw (no_broken_function f once clean results p) at k in some_name f once n i)

      by : (r b l : Bool) → is_result v.role ≡ r → is_some (block_of_type f (of_name n)) ≡ b → is_local v.role ≡ l → (not r || is_typed f v) ≡ true
          → (if r then whole_if (is_typed f v) else (if b then (if l then ok else misused v.name) else in_type_name f n)).broken ≡ [] → is_typed f v ≡ true
      by true b l er eb el w k = w
      by false true true er eb el w k =
          let block : is_some (block_of f v) ≡ true = rw (el, is) eb in
          ap (λ x. x || whole_type v.kind) block
      by false true false er eb el w k = absurd (let e : ⊥ = cc in e)
      by false false l er eb el w k =
          let type : whole_type v.kind ≡ true = ap whole_type is ∙ outer (standing f n.text) refl k in
          whole_or (is_some (block_of f v)) v.kind type

  whole_kind : (p : PouScope) (user : ℕ) (v : Variable) (k : TypeData) → v.kind ≡ Some k → (not (is_result v.role) || is_typed f v) ≡ true → (in_type f p user v k).broken ≡ [] → is_typed f v ≡ true
  whole_kind p user v (of_elementary kind at) is own h = whole_or (is_some (block_of f v)) v.kind (ap whole_type is)
  whole_kind p user v (of_subrange kind at b) is own h = whole_or (is_some (block_of f v)) v.kind (ap whole_type is)
  whole_kind p user v (of_name n) is own h = named_kind v n is own h

  whole_if_any : (p : PouScope) (user : ℕ) (v : Variable) (k : Option TypeData) → v.kind ≡ k → (not (is_result v.role) || is_typed f v) ≡ true → (in_kind f p user v k).broken ≡ [] → is_typed f v ≡ true
  whole_if_any p user v None is own h = whole_or (is_some (block_of f v)) v.kind (ap whole_type is)
  whole_if_any p user v (Some t) is own h = whole_kind p user v t is own h

  kinds : (p : PouScope) (number : ℕ) (rest : List Variable) → list_all (λ v. not (is_result v.role) || is_typed f v) rest ≡ true → (in_declarations f p number rest).broken ≡ [] → are_typed f rest ≡ true
  kinds p number [] own h = refl
  kinds p number (v ∷ rest) own h =
      let type = (in_kind f p number v v.kind).broken in
      let value = (in_initial f p number v.initial).broken in
      let more = (in_declarations f p (number + 1) rest).broken in
      let front = nil_left (type ++ value) more h in
      let owns = and_parts (not (is_result v.role) || is_typed f v) (list_all (λ w. not (is_result w.role) || is_typed f w) rest) own in
      let first : is_typed f v ≡ true = whole_if_any p number v v.kind refl owns.0 (nil_left type value front) in
      rw first (kinds p (number + 1) rest owns.1 (nil_right (type ++ value) more h))

pub all_at : {A : Type 0} (p : A → Bool) (xs : List A) → ((i : ℕ) (x : A) → slice_get xs i ≡ Some x → p x ≡ true) → list_all p xs ≡ true
all_at p [] h = refl
all_at p (x ∷ xs) h = rw (h 0 x refl) (all_at p xs (λ i y e. h (suc i) y e))

-- every type that is declared is whole
pub whole_types : (f : FileData) → broken_names f ≡ [] → are_whole_types f (types_of f) ≡ true
whole_types f h =
    let r = parts f h in
    let once = no_doubles f r.1 in
    all_at (λ d. is_whole_type_name f d.name) (types_of f) (λ i d at.
    let stands : standing f d.name.text ≡ Some (standings.Type (0 + i)) = stands_for f (d.name, standings.Type (0 + i)) (type_in 0 i (types_of f) d at) (once d.name.text) in
    whole_type_named f once r.2 r.3 d.name (0 + i) stands)

-- ---- variables of POUs

all_append : {A : Type 0} (p : A → Bool) (xs ys : List A) → list_all p xs ≡ true → list_all p ys ≡ true → list_all p (xs ++ ys) ≡ true
all_append p [] ys h k = k
all_append p (x ∷ xs) ys h k = let two = and_parts (p x) (list_all p xs) h in rw two.0 (all_append p xs ys two.1 k)

no_result : (s : Section) → is_result (role_of s) ≡ false
no_result sections.Input = refl
no_result sections.Output = refl
no_result sections.Local = refl
no_result sections.Temporary = refl
no_result sections.Constant = refl

-- variables that are declared are no results
module _ (f : FileData) where
  abbrev own_typed : Variable → Bool
  own_typed v = not (is_result v.role) || is_typed f v

  declared_by_name : (s : Section) (d : DeclarationData) (ns : List Named) → list_all own_typed (map (λ n. record { name = n; role = role_of s; kind = Some d.kind; initial = d.initial }) ns) ≡ true
  declared_by_name s d [] = refl
  declared_by_name s d (n ∷ ns) = rw (no_result s) (declared_by_name s d ns)

  declared_all : (s : Section) (ds : List DeclarationData) → list_all own_typed (declared_in (role_of s) ds) ≡ true
  declared_all s [] = refl
  declared_all s (d ∷ ds) = all_append own_typed (declared_by (role_of s) d) (declared_in (role_of s) ds) (declared_by_name s d (d.first ∷ d.others)) (declared_all s ds)

  variables_all : (vs : List VariablesData) → list_all own_typed (variables_of vs) ≡ true
  variables_all [] = refl
  variables_all (v ∷ vs) = all_append own_typed (declared_in (role_of v.section) v.declarations) (variables_of vs) (declared_all v.section v.declarations) (variables_all vs)

  result_all : (k : PouTypeData) (n : Named) → is_whole_result f k ≡ true → list_all own_typed (result_of k n) ≡ true
  result_all (function t) n h = rw h refl
  result_all function_block n h = refl
  result_all program n h = refl

  -- the names of a chart
  step_typed : (initial : Bool) (n : Named) → own_typed (of_chart (step_role initial) n) ≡ true
  step_typed true n = refl
  step_typed false n = refl

  action_typed : (stored : Bool) (n : Named) → own_typed (of_chart (action_role stored) n) ≡ true
  action_typed true n = refl
  action_typed false n = refl

  transition_typed : (n : Option Named) → list_all own_typed (transition_named n) ≡ true
  transition_typed None = refl
  transition_typed (Some n) = refl

  part_typed : (stored : List ℕ → Bool) (q : PartData) → list_all own_typed (declared_by_part stored q) ≡ true
  part_typed stored (step_part s) = rw (step_typed s.is_initial s.name) refl
  part_typed stored (transition_part t) = transition_typed t.name
  part_typed stored (action_part a) = rw (action_typed (stored a.name.text) a.name) refl

  parts_typed : (stored : List ℕ → Bool) (qs : List PartData) → list_all own_typed (declared_by_parts stored qs) ≡ true
  parts_typed stored [] = refl
  parts_typed stored (q ∷ qs) = all_append own_typed (declared_by_part stored q) (declared_by_parts stored qs) (part_typed stored q) (parts_typed stored qs)

  body_typed : (b : BodyData) → list_all own_typed (names_in_body b) ≡ true
  body_typed (statements ss) = refl
  body_typed (chart qs) = parts_typed (is_stored qs) qs

whole_at : (f : FileData) (i : ℕ) (p : PouData) → pou_at f i ≡ Some p → is_broken_function f i ≡ false → is_whole_result f p.pou_type ≡ true
whole_at f i p at h = not-false (is_whole_result f p.pou_type) (rw at at h)

pub clean_pou : (f : FileData) (ps : List PouData) (i : ℕ) (p : PouData) → in_pous f ps ≡ [] → slice_get ps i ≡ Some p → (in_pou f p).broken ≡ []
clean_pou f [] i p h at = absurd (let e : ⊥ = cc in e)
clean_pou f (x ∷ ps) zero p h at =
    let e : x ≡ p = cc in
    subst (λ y. (in_pou f y).broken ≡ []) e (nil_left (in_pou f x).broken (in_pous f ps) h)
clean_pou f (x ∷ ps) (suc i) p h at = clean_pou f ps i p (nil_right (in_pou f x).broken (in_pous f ps) h) at

pub declarations_of : (f : FileData) (s : PouScope) (body : BodyData) → (in_pou_scope f s body).broken ≡ [] → (in_declarations f s 0 s.variables).broken ≡ []
unfolding in_pou_scope
declarations_of f s body h =
    let twice_broken = (variables_twice s.has_fault [] s.variables).broken in
    let declared = (in_declarations f s 0 s.variables).broken in
    nil_right twice_broken declared (nil_left (twice_broken ++ declared) (in_body f s body).broken h)

-- and each variable of a POU is an instance, or its type is whole
pub typed_pous : (f : FileData) → broken_names f ≡ [] → are_pous_typed f ≡ true
typed_pous f h =
    let r = parts f h in
    let once = no_doubles f r.1 in
    all_at (λ p. are_typed f (variables_in_pou p)) (pous_of f) (λ i p at.
    let result = result_all f p.pou_type p.name (whole_at f i p at (no_broken_function f once r.2 r.3 i)) in
    let declared = all_append (own_typed f) (result_of p.pou_type p.name) (variables_of p.variables) result (variables_all f p.variables) in
    let own = all_append (own_typed f) (result_of p.pou_type p.name ++ variables_of p.variables) (names_in_body p.body) declared (body_typed f p.body) in
    kinds f once r.2 r.3 (scope_of p) 0 (variables_in_pou p) own (declarations_of f (scope_of p) p.body (clean_pou f (pous_of f) i p r.4 at)))
