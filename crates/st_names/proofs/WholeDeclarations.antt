-- Where the declarations of a file break no rule, none of them stands in a circle, and each type and each result is whole.
use Rattle.std.proofs.Common.{◌≡◌, ◌⊎◌, inl, inr, ⊎_elim, ℕ, zero, suc, ◌+◌, ◌*◌, ◌<◌, ◌≤◌, List, [], ◌∷◌, ◌++◌, length, map, get_or, Bool, true, false, true≢false, ◌&&◌, not, Option, Some, None, option_map, refl, sym, ap, ◌∙◌, subst, if◌then◌else◌, arith, length-append, append_assoc, zero-add, add-zero}
use Rattle.std.specs.List.{list_any, slice_get}
use Rattle.std.proofs.lemmas.Option.{slice_get_within}
use Rattle.std.specs.Option.{option_and_then, unwrap_or}
use Rattle.std.specs.Str.{bytes_eq}
use Rattle.std.proofs.lemmas.Bool.{and_from, cases_lt}
use Rattle.std.proofs.lemmas.List.{length-map, get_or_append_left, get_or-append-add, append-nil}
use Rattle.std.proofs.lemmas.Map.Steps.{length-le_from_distinct_below}
use Rattle.call_order.specs.Uses.{Graph, uses_at, is_among, Reaches, directly, through, is_in_circle, order_of}
use Rattle.call_order.proofs.Circles.{some_reaches, reaches-step}
use Rattle.call_order.proofs.Members.{below-from_use, is_among-head, is_among-cases, is_among-either, is_among-left, is_among-right}
use Rattle.call_order.proofs.Orders.{below_length, order_of-distinct, behind_uses, each_in}
use Rattle.call_order.proofs.Ways.{leads_reaches, more_by}
use Rattle.source_tree.specs.Syntax.{Named, Tree, literal, path, enumerator, paren, unary, chain, call, of_elementary, of_subrange, of_name, SpecificationData, of_type, of_values, TypeDeclarationData, PouTypeData, function, function_block, program, PouData, FileData}
use Rattle.naming.specs.declared.standing.Standing.{Standing}
use Rattle.naming.specs.declared.standing.Standing.TheVariants as standings
use Rattle.naming.specs.Broken.{unknown, in_file, is_broken_name, is_broken_function, is_whole_result, unless_circular, in_bound, in_value_name, in_enumeration, in_enumerator, in_declared_type, in_specification, in_result, in_types, in_results}
use Rattle.naming.specs.DeclarationUses.{numbers_in, declaration_number, used_by_name, used_by_bound, used_by_specification, used_by_result, declaration_uses, is_circular_number, is_circular_use}
use Rattle.naming.specs.FileScope.{types_of, pous_of, pou_at, standing, is_type, is_value, is_doubled_in_file}
use Rattle.naming.specs.Types.{type_number, named_type, specification_at, next_of, step_from, steps, doublings, end_of, end_specification, are_first, has_value, has_enumerator, is_constant_in_file, is_whole_end, is_whole_type_name}
use Rattle.naming.proofs.DeclarationLemmas.{standing_pou}
use Rattle.naming.proofs.ValueLemmas.{standing_type}
use Rattle.st_names.proofs.Clean.{some_name, values_first, specification_some, specified, step_below, clean_type, stays, nil_left, nil_right}
use Rattle.rules.specs.Judgements.{Judgement, ok, suppressed, whole_if}

-- ---- an order of numbers that use one another, without circles

abbrev pub AllBefore : (ℕ → Type 0) → List ℕ → Type 0
AllBefore P ks = (u : ℕ) → is_among u ks ≡ true → P u

module _ (g : Graph) (P : ℕ → Type 0) (step : (k : ℕ) → AllBefore P (uses_at g k) → P k) where
  onward : (before behind : List ℕ) → order_of g ≡ before ++ behind → AllBefore P before → AllBefore P (before ++ behind)
  onward before [] all known u m = known u (subst (λ (xs : List ℕ). is_among u xs ≡ true) (append-nil before) m)
  onward before (k ∷ ks) all known u m =
      let own : P k = step k (λ v w. known v (behind_uses g before ks k v all w)) in
      let more : AllBefore P (before ++ k ∷ []) =
      λ (v : ℕ) w. ⊎_elim (λ b. known v b) (λ last. ⊎_elim (λ (e : v ≡ k). subst P (sym e) own) (λ none. absurd (let e : ⊥ = cc in e)) (is_among-cases v k [] last)) (is_among-either v before (k ∷ []) w) in
      let same = append_assoc before (k ∷ []) ks in
      onward (before ++ k ∷ []) ks (all ∙ sym same) more u (subst (λ (xs : List ℕ). is_among u xs ≡ true) (sym same) m)

  pub by_order : length (order_of g) ≡ length g → (k : ℕ) → k < length g → P k
  by_order full k below = onward [] (order_of g) refl (λ u m. absurd (let e : ⊥ = cc in e)) k (each_in g full k below)

-- where no number reaches itself, the order has each
pub complete : (g : Graph) → ((k used : ℕ) → is_among used (uses_at g k) ≡ true → used < length g) → ((k : ℕ) → ¬ Reaches g k k) → length (order_of g) ≡ length g
complete g all none =
    let most : length (order_of g) ≤ length g = length-le_from_distinct_below (order_of g) (length g) (order_of-distinct g) (below_length g) in
    ⊎_elim (λ (less : length (order_of g) < length g). let c = some_reaches g all less in absurd (none c.0 c.2)) (λ (more : length g ≤ length (order_of g)). omega arith) (cases_lt (length (order_of g)) (length g))

-- ---- ways

reaches_on : (g : Graph) (a b c : ℕ) → Reaches g a b → Reaches g b c → Reaches g a c
reaches_on g a b c (directly _ _ u) r = through a b c u r
reaches_on g a b c (through _ d _ u q) r = through a d c u (reaches_on g d b c q r)

-- the last number of a way before its end
last_of : (g : Graph) (a b : ℕ) → Reaches g a b → (c : ℕ) × (is_among b (uses_at g c) ≡ true) × ((c ≡ a) ⊎ Reaches g a c)
last_of g a b (directly _ _ u) = (a, u, inl refl)
last_of g a b (through _ d _ u r) =
    let l = last_of g d b r in
    (l.0, l.1, inr (elim l.2 as (λ _. Reaches g a l.0) [ inl e ↦ directly a l.0 (subst (λ (n : ℕ). is_among n (uses_at g a) ≡ true) (sym e) u) | inr q ↦ through a d l.0 u q ]))

-- ---- so many steps

iterate : (ℕ → ℕ) → ℕ → ℕ → ℕ
iterate step zero t = t
iterate step (suc n) t = iterate step n (step t)

module _ (step : ℕ → ℕ) where
  iterate-add : (a b t : ℕ) → iterate step (a + b) t ≡ iterate step b (iterate step a t)
  unfolding iterate
  iterate-add zero b t = ap (λ n. iterate step n t) (zero-add b)
  iterate-add (suc a) b t = let e : suc a + b ≡ suc (a + b) = omega arith in ap (λ n. iterate step n t) e ∙ iterate-add a b (step t)

  iterate-step : (n t : ℕ) → iterate step n (step t) ≡ step (iterate step n t)
  unfolding iterate
  iterate-step zero t = refl
  iterate-step (suc n) t = iterate-step n (step t)

  iterate-times : (m t : ℕ) → iterate step m t ≡ t → (n : ℕ) → iterate step (n * m) t ≡ t
  unfolding iterate
  iterate-times m t round zero = let e : zero * m ≡ zero = omega arith in ap (λ n. iterate step n t) e
  iterate-times m t round (suc n) =
      let e : suc n * m ≡ m + n * m = omega arith in
      ap (λ k. iterate step k t) e ∙ iterate-add m (n * m) t ∙ ap (iterate step (n * m)) round ∙ iterate-times m t round n

  iterate_below : (bound : ℕ) → ((t : ℕ) → t < bound → step t < bound) → (n t : ℕ) → t < bound → iterate step n t < bound
  unfolding iterate
  iterate_below bound h zero t below = below
  iterate_below bound h (suc n) t below = iterate_below bound h n (step t) (h t below)

  iterate_fixed : (n t : ℕ) → step t ≡ t → iterate step n t ≡ t
  unfolding iterate
  iterate_fixed zero t e = refl
  iterate_fixed (suc n) t e = ap (iterate step n) e ∙ iterate_fixed n t e

-- 2 ^ k
power : ℕ → ℕ
power zero = 1
power (suc k) = power k + power k

steps-iterate : (k : ℕ) (step : ℕ → ℕ) (t : ℕ) → steps k step t ≡ iterate step (power k) t
unfolding power iterate
steps-iterate zero step t = refl
steps-iterate (suc k) step t =
    steps-iterate k step (steps k step t) ∙ ap (iterate step (power k)) (steps-iterate k step t) ∙ sym (iterate-add step (power k) (power k) t)

end-iterate : (f : FileData) (t : ℕ) → end_of f t ≡ iterate (step_from f) (power doublings) t
unfolding end_of
end-iterate f t = steps-iterate doublings (step_from f) t

-- ---- which declarations use which

pub read_map : {A : Type 0} (h : A → List ℕ) (xs : List A) (i : ℕ) (x : A) → slice_get xs i ≡ Some x → get_or (map h xs) i [] ≡ h x
read_map h [] i x e = absurd (let n : ⊥ = cc in n)
read_map h (y ∷ ys) zero x e = let same : y ≡ x = cc in ap h same
read_map h (y ∷ ys) (suc i) x e = read_map h ys i x e

module _ (f : FileData) where
  uses-type : (t : ℕ) (s : SpecificationData) → specification_at f t ≡ Some s → uses_at (declaration_uses f) t ≡ used_by_specification f s
  unfolding declaration_uses
  uses-type t s is =
      let r = specification_some f t s is in
      let below = slice_get_within (types_of f) t r.0 r.1 in
      let of_type : TypeDeclarationData → List ℕ = λ d. used_by_specification f d.specification in
      let long = length-map (types_of f) of_type in
      get_or_append_left (map of_type (types_of f)) (map (λ (p : PouData). used_by_result f p.pou_type) (pous_of f)) [] t (omega arith)
      ∙ read_map of_type (types_of f) t r.0 r.1 ∙ ap (used_by_specification f) r.2

  uses-pou : (p : ℕ) (d : PouData) → pou_at f p ≡ Some d → uses_at (declaration_uses f) (length (types_of f) + p) ≡ used_by_result f d.pou_type
  unfolding declaration_uses
  uses-pou p d is =
      let of_type : TypeDeclarationData → List ℕ = λ x. used_by_specification f x.specification in
      let of_pou : PouData → List ℕ = λ x. used_by_result f x.pou_type in
      let long = length-map (types_of f) of_type in
      ap (λ n. get_or (map of_type (types_of f) ++ map of_pou (pous_of f)) (n + p) []) (sym long)
      ∙ get_or-append-add (map of_type (types_of f)) (map of_pou (pous_of f)) p [] ∙ read_map of_pou (pous_of f) p d is

  uses-size : length (declaration_uses f) ≡ length (types_of f) + length (pous_of f)
  unfolding declaration_uses
  uses-size =
      length-append (map (λ (d : TypeDeclarationData). used_by_specification f d.specification) (types_of f)) (map (λ (p : PouData). used_by_result f p.pou_type) (pous_of f))
      ∙ ap (λ n. n + length (map (λ (p : PouData). used_by_result f p.pou_type) (pous_of f))) (length-map (types_of f) (λ (d : TypeDeclarationData). used_by_specification f d.specification))
      ∙ ap (λ n. length (types_of f) + n) (length-map (pous_of f) (λ (p : PouData). used_by_result f p.pou_type))

  -- a declaration is a type or a POU
  declared : (k : ℕ) → k < length (declaration_uses f) → (k < length (types_of f)) ⊎ ((p : ℕ) × (k ≡ length (types_of f) + p) × ((d : PouData) × (pou_at f p ≡ Some d)))
  declared k below = ⊎_elim (λ (less : k < length (types_of f)). inl less) (λ (more : length (types_of f) ≤ k). let s = uses-size in let d = more_by (length (types_of f)) k more in let there : d.0 < length (pous_of f) = omega arith in inr (d.0, sym d.1, got (pous_of f) d.0 there)) (cases_lt k (length (types_of f)))
    where
      got : (ps : List PouData) (i : ℕ) → i < length ps → (d : PouData) × (slice_get ps i ≡ Some d)
      got [] i b = absurd (omega arith)
      got (p ∷ ps) zero b = (p, refl)
      got (p ∷ ps) (suc i) b = got ps i (omega arith)

  number_used : (k : ℕ) (o : Option ℕ) → is_among k (numbers_in o) ≡ true → o ≡ Some k
  number_used k None m = absurd (let e : ⊥ = cc in e)
  number_used k (Some n) m = ⊎_elim (λ (e : k ≡ n). ap (λ (x : ℕ). Some x) (sym e)) (λ none. absurd (let e : ⊥ = cc in e)) (is_among-cases k n [] m)

  -- what a name stands for that a declaration uses
  data Used (k : ℕ) (o : Option Standing) : Type 0 where
    a_type : o ≡ Some (standings.Type k) → k < length (types_of f) → Used k o
    a_pou : (p : ℕ) → o ≡ Some (standings.Pou p) → k ≡ length (types_of f) + p → p < length (pous_of f) → Used k o

  used_name : (k : ℕ) (n : Named) → is_among k (used_by_name f n) ≡ true → Used k (standing f n.text)
  used_name k n m = by (standing f n.text) refl (number_used k (declaration_number f (standing f n.text)) m)
    where
      by : (o : Option Standing) → standing f n.text ≡ o → declaration_number f o ≡ Some k → Used k o
      by None e h = absurd (let i : ⊥ = cc in i)
      by (Some (standings.Type t)) e h = let same : t ≡ k = cc in a_type (ap (λ x. Some (standings.Type x)) same) (subst (λ x. x < length (types_of f)) same (standing_type f n.text t e))
      by (Some (standings.Value t v)) e h = absurd (let i : ⊥ = cc in i)
      by (Some (standings.Pou p)) e h = let same : length (types_of f) + p ≡ k = cc in a_pou p refl (sym same) (standing_pou f n.text p e)

  -- and the other way round
  type_used : (k t : ℕ) (n : Named) → standing f n.text ≡ Some (standings.Type t) → is_among t (used_by_name f n) ≡ true
  type_used k t n e = ap (λ o. is_among t (numbers_in (declaration_number f o))) e ∙ is_among-head t []

  pou_used : (p : ℕ) (n : Named) → standing f n.text ≡ Some (standings.Pou p) → is_among (length (types_of f) + p) (used_by_name f n) ≡ true
  pou_used p n e = ap (λ o. is_among (length (types_of f) + p) (numbers_in (declaration_number f o))) e ∙ is_among-head (length (types_of f) + p) []

  -- ---- circles

  module _ (once : (q : List ℕ) → is_doubled_in_file f q ≡ false) (clean : in_types f 0 (types_of f) ≡ []) (results : in_results f (length (types_of f)) (pous_of f) ≡ []) where
    result_at : (number i : ℕ) (ps : List PouData) (p : PouData) → in_results f number ps ≡ [] → slice_get ps i ≡ Some p → (in_result f (number + i) p.pou_type).broken ≡ []
    result_at number i [] p h at = absurd (let e : ⊥ = cc in e)
    result_at number zero (x ∷ ps) p h at =
        let e : x ≡ p = cc in
        rw add-zero (subst (λ y. (in_result f number y.pou_type).broken ≡ []) e (nil_left (in_result f number x.pou_type).broken (in_results f (number + 1) ps) h))
    result_at number (suc i) (x ∷ ps) p h at =
        let same : number + suc i ≡ number + 1 + i = omega arith in
        rw same (result_at (number + 1) i ps p (nil_right (in_result f number x.pou_type).broken (in_results f (number + 1) ps) h) at)

    pub clean_result : (p : ℕ) (d : PouData) → pou_at f p ≡ Some d → (in_result f (length (types_of f) + p) d.pou_type).broken ≡ []
    clean_result p d at = result_at (length (types_of f)) p (pous_of f) d results at

    -- a use inside a circle is broken, but for that of a type where a type is wanted
    in_circle : (user used : ℕ) (n : Named) (o : Option ℕ) (j : Judgement) → o ≡ Some used → is_in_circle (declaration_uses f) user used ≡ true → (unless_circular (is_circular_number (declaration_uses f) user o) n j).broken ≡ [] → ⊥
    in_circle user used n o j e round h =
        let k = rw (e, round) at h in
        let i : ⊥ = cc in i

    bound_apart : (user used : ℕ) (b : Tree) → is_among used (used_by_bound f b) ≡ true → is_in_circle (declaration_uses f) user used ≡ true → (in_bound f user b).broken ≡ [] → ⊥
    bound_apart user used (literal l) m round h = cc
    bound_apart user used (path p) m round h =
        in_circle user used p.first (declaration_number f (standing f p.first.text)) (in_value_name f p.first) (number_used used (declaration_number f (standing f p.first.text)) m) round h
    bound_apart user used (enumerator t v) m round h =
        in_circle user used t (declaration_number f (standing f t.text)) (in_enumerator f t v (standing f t.text)) (number_used used (declaration_number f (standing f t.text)) m) round h
    bound_apart user used (paren at e) m round h = cc
    bound_apart user used (unary o at e) m round h = cc
    bound_apart user used (chain e ls) m round h = cc
    bound_apart user used (call n at args) m round h = cc

    -- a name of a type in a circle, where a type is wanted
    name_in_circle : (user used : ℕ) (n : Named) → is_among used (used_by_name f n) ≡ true → is_in_circle (declaration_uses f) user used ≡ true → (in_declared_type f user n).broken ≡ [] → standing f n.text ≡ Some (standings.Type used)
    name_in_circle user used n m round h = by (standing f n.text) refl (used_name used n m) h
      where
        by : (o : Option Standing) → standing f n.text ≡ o → Used used o → (if is_type o then whole_if (is_whole_type_name f n) else unless_circular (is_circular_number (declaration_uses f) user (declaration_number f o)) n (if is_broken_name f o then suppressed else in_file f n)).broken ≡ [] → o ≡ Some (standings.Type used)
        by o e (a_type is below) k = is
        by o e (a_pou p is same below) k =
            let i = rw (is) at k in
            absurd (in_circle user used n (Some (length (types_of f) + p)) (if is_broken_name f (Some (standings.Pou p)) then suppressed else in_file f n) (ap (λ (x : ℕ). Some x) (sym same)) round i)

    -- so a use inside a circle is that of a type
    data Round (user used : ℕ) : Type 0 where
      of_type_by : (n : Named) → specification_at f user ≡ Some (of_type (of_name n)) → standing f n.text ≡ Some (standings.Type used) → Round user used
      of_result_by : (n : Named) → length (types_of f) ≤ user → standing f n.text ≡ Some (standings.Type used) → Round user used

    round_type : (user used : ℕ) (s : SpecificationData) → specification_at f user ≡ Some s → is_among used (used_by_specification f s) ≡ true → is_in_circle (declaration_uses f) user used ≡ true → (in_specification f user s).broken ≡ [] → Round user used
    round_type user used (of_values at first others) is m round h = absurd (let e : ⊥ = cc in e)
    round_type user used (of_type (of_elementary kind at)) is m round h = absurd (let e : ⊥ = cc in e)
    round_type user used (of_type (of_subrange kind at b)) is m round h =
        absurd (⊎_elim (λ low. bound_apart user used b.low low round (nil_left (in_bound f user b.low).broken (in_bound f user b.high).broken h))
        (λ high. bound_apart user used b.high high round (nil_right (in_bound f user b.low).broken (in_bound f user b.high).broken h))
        (is_among-either used (used_by_bound f b.low) (used_by_bound f b.high) m))
    round_type user used (of_type (of_name n)) is m round h = of_type_by n is (name_in_circle user used n m round h)

    round_result : (user used : ℕ) (k : PouTypeData) → length (types_of f) ≤ user → is_among used (used_by_result f k) ≡ true → is_in_circle (declaration_uses f) user used ≡ true → (in_result f user k).broken ≡ [] → Round user used
    round_result user used function_block low m round h = absurd (let e : ⊥ = cc in e)
    round_result user used program low m round h = absurd (let e : ⊥ = cc in e)
    round_result user used (function (of_elementary kind at)) low m round h = absurd (let e : ⊥ = cc in e)
    round_result user used (function (of_subrange kind at b)) low m round h = absurd (let e : ⊥ = cc in e)
    round_result user used (function (of_name n)) low m round h = of_result_by n low (name_in_circle user used n m round h)

    round_use : (user used : ℕ) → is_among used (uses_at (declaration_uses f) user) ≡ true → Reaches (declaration_uses f) used user → Round user used
    round_use user used m back =
        let round : is_in_circle (declaration_uses f) user used ≡ true = and_from _ _ m ((leads_reaches (declaration_uses f) used user).1 back) in
        elim (declared user (below-from_use (declaration_uses f) user used m)) as (λ _. Round user used) [
          | inl below ↦ let s = specified f user below in
              round_type user used s.0 s.1 (subst (λ (us : List ℕ). is_among used us ≡ true) (uses-type user s.0 s.1) m) round (clean_type f clean user s.0 s.1).1
          | inr p ↦ of_pou p.0 p.1 p.2.0 p.2.1 round
        ]
      where
        of_pou : (p : ℕ) → user ≡ length (types_of f) + p → (d : PouData) → pou_at f p ≡ Some d → is_in_circle (declaration_uses f) user used ≡ true → Round user used
        of_pou p is d there round =
            let uses : uses_at (declaration_uses f) user ≡ used_by_result f d.pou_type = ap (uses_at (declaration_uses f)) is ∙ uses-pou p d there in
            round_result user used d.pou_type (omega arith) (subst (λ (us : List ℕ). is_among used us ≡ true) uses m) round (subst (λ (n : ℕ). (in_result f n d.pou_type).broken ≡ []) (sym is) (clean_result p d there))

    -- what is used inside a circle is a type
    used_type : (user used : ℕ) → Round user used → used < length (types_of f)
    used_type user used (of_type_by n is e) = standing_type f n.text used e
    used_type user used (of_result_by n low e) = standing_type f n.text used e

    -- and so all of a circle is
    circle_type : (k : ℕ) → Reaches (declaration_uses f) k k → k < length (types_of f)
    circle_type k r =
        let l = last_of (declaration_uses f) k k r in
        let back : Reaches (declaration_uses f) k l.0 = elim l.2 as (λ _. Reaches (declaration_uses f) k l.0) [ inl e ↦ subst (λ (n : ℕ). Reaches (declaration_uses f) k n) (sym e) r | inr q ↦ q ] in
        used_type l.0 k (round_use l.0 k l.1 back)

    next : (a b : ℕ) → is_among b (uses_at (declaration_uses f) a) ≡ true → Reaches (declaration_uses f) b a → next_of f a ≡ Some b
    next a b u back = by (circle_type a (through a b a u back)) (round_use a b u back)
      where
        by : a < length (types_of f) → Round a b → next_of f a ≡ Some b
        by below (of_type_by n is e) = ap (option_and_then (named_type f)) is ∙ ap type_number e
        by below (of_result_by n low e) = absurd (omega arith)

    -- a way inside a circle goes step by step
    walked : (a k : ℕ) → Reaches (declaration_uses f) a k → Reaches (declaration_uses f) k a → (m : ℕ) × (iterate (step_from f) (suc m) a ≡ k)
    unfolding iterate
    walked a k (directly _ _ u) back = (0, ap (λ o. unwrap_or o a) (next a k u back))
    walked a k (through _ c _ u r) back =
        let step : step_from f a ≡ c = ap (λ o. unwrap_or o a) (next a c u (reaches_on (declaration_uses f) c k a r back)) in
        let more = walked c k r (reaches-step (declaration_uses f) k a c back u) in
        (suc more.0, ap (iterate (step_from f) (suc more.0)) step ∙ more.1)

    pub none_round : (k : ℕ) → ¬ Reaches (declaration_uses f) k k
    none_round k r =
        let w = walked k k r r in
        let n = power doublings in
        let m = w.0 in
        let step = step_from f in
        let start = iterate step (n * m) k in
        let all : n * m + n ≡ n * suc m = omega arith in
        let end : end_of f start ≡ k = end-iterate f start ∙ sym (iterate-add step (n * m) n k) ∙ ap (λ j. iterate step j k) all ∙ iterate-times step (suc m) k w.1 n in
        let below : start < length (types_of f) = iterate_below step (length (types_of f)) (step_below f) (n * m) k (circle_type k r) in
        let stop : next_of f k ≡ None = subst (λ (j : ℕ). next_of f j ≡ None) end (stays f clean start below) in
        leads (r) stop
      where
        leads : Reaches (declaration_uses f) k k → next_of f k ≡ None → ⊥
        leads (directly _ _ u) none = let e = sym (next k k u (directly k k u)) ∙ none in cc
        leads (through _ c _ u q) none = let e = sym (next k c u q) ∙ none in cc

    -- ---- each declaration is whole

    abbrev pub whole_at : ℕ → Bool
    whole_at t = is_whole_end f (end_of f t) (end_specification f t)

    record IsWhole (k : ℕ) : Type 0 where
      type : k < length (types_of f) → whole_at k ≡ true
      pou : (p : ℕ) → k ≡ length (types_of f) + p → is_broken_function f p ≡ false

    scope_known : (n : Named) (broken : Bool) → broken ≡ false → (if broken then suppressed else in_file f n).broken ≡ [] → ⊥
    scope_known n broken e h = some_name f once n (rw e at h)

    not_round : (round : Bool) (n : Named) (j : Judgement) → (unless_circular round n j).broken ≡ [] → j.broken ≡ []
    not_round true n j h = absurd (let e : ⊥ = cc in e)
    not_round false n j h = h

    -- what a name that is used stands for is whole
    whole_used : (n : Named) → AllBefore IsWhole (used_by_name f n) → is_broken_name f (standing f n.text) ≡ false
    whole_used n known = by (standing f n.text) refl
      where
        by : (o : Option Standing) → standing f n.text ≡ o → is_broken_name f o ≡ false
        by None e = refl
        by (Some (standings.Type t)) e = ap not ((known t (type_used t t n e)).type (standing_type f n.text t e))
        by (Some (standings.Value t v)) e = refl
        by (Some (standings.Pou p)) e = (known (length (types_of f) + p) (pou_used p n e)).pou p refl

    type_whole : (user : ℕ) (n : Named) → AllBefore IsWhole (used_by_name f n) → (in_declared_type f user n).broken ≡ [] → (t : ℕ) × (standing f n.text ≡ Some (standings.Type t)) × (whole_at t ≡ true)
    type_whole user n known h = by (standing f n.text) refl (whole_used n known) h
      where
        by : (o : Option Standing) → standing f n.text ≡ o → is_broken_name f o ≡ false
            → (if is_type o then whole_if (is_whole_type_name f n) else unless_circular (is_circular_number (declaration_uses f) user (declaration_number f o)) n (if is_broken_name f o then suppressed else in_file f n)).broken ≡ []
            → (t : ℕ) × (o ≡ Some (standings.Type t)) × (whole_at t ≡ true)
        by None e w k = absurd (scope_known n false refl k)
        by (Some (standings.Type t)) e w k = (t, refl, (known t (type_used t t n e)).type (standing_type f n.text t e))
        by (Some (standings.Value t v)) e w k = absurd (scope_known n false refl k)
        by (Some (standings.Pou p)) e w k =
            let round = is_circular_number (declaration_uses f) user (Some (length (types_of f) + p)) in
            absurd (scope_known n (is_broken_function f p) w (not_round round n (if is_broken_function f p then suppressed else in_file f n) k))

    whole_name : (n : Named) (t : ℕ) → standing f n.text ≡ Some (standings.Type t) → whole_at t ≡ true → is_whole_type_name f n ≡ true
    whole_name n t e w = ap (λ o. unwrap_or (option_map whole_at (type_number o)) false) e ∙ w

    -- a bound names a value
    valued : (n : Named) (o : Option Standing) → standing f n.text ≡ o → is_broken_name f o ≡ false → (if is_value o then ok else (if is_broken_name f o then suppressed else in_file f n)).broken ≡ [] → is_value o ≡ true
    valued n None e w h = absurd (scope_known n false refl h)
    valued n (Some (standings.Value u k)) e w h = refl
    valued n (Some (standings.Type t)) e w h = absurd (scope_known n (not (whole_at t)) w h)
    valued n (Some (standings.Pou p)) e w h = absurd (scope_known n (is_broken_function f p) w h)

    enumerated : (single among : Bool) (v : Named) → single ≡ true → (if single then (if among then ok else unknown v) else suppressed).broken ≡ [] → (single && among) ≡ true
    enumerated true true v s h = refl
    enumerated true false v s h = absurd (let e : ⊥ = cc in e)
    enumerated false among v s h = absurd (true≢false (sym s))

    ended : (t v : Named) (e : ℕ) (o : Option SpecificationData) → is_whole_end f e o ≡ true → (in_enumeration f e t v o).broken ≡ [] → has_value f v.text e o ≡ true
    ended t v e None w h = absurd (true≢false (sym w))
    ended t v e (Some (of_values at first others)) w h = enumerated (are_first f e 0 (first ∷ others)) (list_any (λ n. bytes_eq n.text v.text) (first ∷ others)) v w h
    ended t v e (Some (of_type (of_elementary kind at))) w h = absurd (let k : ⊥ = cc in k)
    ended t v e (Some (of_type (of_name n))) w h = absurd (true≢false (sym w))
    ended t v e (Some (of_type (of_subrange kind at b))) w h = absurd (let i = rw w at h in let k : ⊥ = cc in k)

    enumerator_whole : (t v : Named) → AllBefore IsWhole (used_by_name f t) → (in_enumerator f t v (standing f t.text)).broken ≡ [] → has_enumerator f t v ≡ true
    enumerator_whole t v known h = by (standing f t.text) refl (whole_used t known) h
      where
        scope : (o : Option Standing) → standing f t.text ≡ o → is_broken_name f o ≡ false → (if is_broken_name f (standing f t.text) then suppressed else in_file f t).broken ≡ [] → ⊥
        scope o e w k = scope_known t (is_broken_name f (standing f t.text)) (ap (is_broken_name f) e ∙ w) k

        by : (o : Option Standing) → standing f t.text ≡ o → is_broken_name f o ≡ false → (in_enumerator f t v o).broken ≡ [] → unwrap_or (option_map (λ number. has_value f v.text (end_of f number) (end_specification f number)) (type_number o)) false ≡ true
        by None e w k = absurd (scope None e w k)
        by (Some (standings.Value u x)) e w k = absurd (scope (Some (standings.Value u x)) e w k)
        by (Some (standings.Pou p)) e w k = absurd (scope (Some (standings.Pou p)) e w k)
        by (Some (standings.Type number)) e w k = ended t v (end_of f number) (end_specification f number) ((known number (type_used number number t e)).type (standing_type f t.text number e)) k

    constant : (user : ℕ) (b : Tree) → AllBefore IsWhole (used_by_bound f b) → (in_bound f user b).broken ≡ [] → is_constant_in_file f b ≡ true
    constant user (literal l) known h = refl
    constant user (path p) known h =
        valued p.first (standing f p.first.text) refl (whole_used p.first known) (not_round (is_circular_use f user p.first) p.first (in_value_name f p.first) h)
    constant user (enumerator t v) known h = enumerator_whole t v known (not_round (is_circular_use f user t) t (in_enumerator f t v (standing f t.text)) h)
    constant user (paren at e) known h = refl
    constant user (unary o at e) known h = refl
    constant user (chain e ls) known h = refl
    constant user (call n at args) known h = refl

    -- the end of a type that leads on nowhere is itself, and of another that of the next
    own_end : (t : ℕ) → next_of f t ≡ None → end_of f t ≡ t
    own_end t none = end-iterate f t ∙ iterate_fixed (step_from f) (power doublings) t (ap (λ o. unwrap_or o t) none)

    end-next : (t u : ℕ) → t < length (types_of f) → next_of f t ≡ Some u → end_of f t ≡ end_of f u
    end-next t u below some =
        let n = power doublings in
        let step = step_from f in
        let next_is : step t ≡ u = ap (λ o. unwrap_or o t) some in
        let still : step (end_of f t) ≡ end_of f t = ap (λ o. unwrap_or o (end_of f t)) (stays f clean t below) in
        sym still ∙ ap step (end-iterate f t) ∙ sym (iterate-step step n t) ∙ ap (iterate step n) next_is ∙ sym (end-iterate f u)

    whole_own : (t : ℕ) (s : SpecificationData) → specification_at f t ≡ Some s → next_of f t ≡ None → is_whole_end f t (Some s) ≡ true → whole_at t ≡ true
    whole_own t s is none w = ap (λ e. is_whole_end f e (specification_at f e)) (own_end t none) ∙ ap (is_whole_end f t) is ∙ w

    whole_type_at : (t : ℕ) (s : SpecificationData) → t < length (types_of f) → specification_at f t ≡ Some s → AllBefore IsWhole (used_by_specification f s) → (in_specification f t s).broken ≡ [] → whole_at t ≡ true
    whole_type_at t (of_values at first others) below is known h = whole_own t (of_values at first others) is (ap (option_and_then (named_type f)) is) (values_first f once t at first others is)
    whole_type_at t (of_type (of_elementary kind at)) below is known h = whole_own t (of_type (of_elementary kind at)) is (ap (option_and_then (named_type f)) is) refl
    whole_type_at t (of_type (of_subrange kind at b)) below is known h =
        let low = constant t b.low (λ u m. known u (is_among-left u (used_by_bound f b.low) (used_by_bound f b.high) m)) (nil_left (in_bound f t b.low).broken (in_bound f t b.high).broken h) in
        let high = constant t b.high (λ u m. known u (is_among-right u (used_by_bound f b.low) (used_by_bound f b.high) m)) (nil_right (in_bound f t b.low).broken (in_bound f t b.high).broken h) in
        whole_own t (of_type (of_subrange kind at b)) is (ap (option_and_then (named_type f)) is) (and_from _ _ low high)
    whole_type_at t (of_type (of_name n)) below is known h =
        let w = type_whole t n known h in
        let some : next_of f t ≡ Some w.0 = ap (option_and_then (named_type f)) is ∙ ap type_number w.1 in
        ap (λ e. is_whole_end f e (specification_at f e)) (end-next t w.0 below some) ∙ w.2

    whole_result_at : (user : ℕ) (k : PouTypeData) → AllBefore IsWhole (used_by_result f k) → (in_result f user k).broken ≡ [] → is_whole_result f k ≡ true
    whole_result_at user function_block known h = refl
    whole_result_at user program known h = refl
    whole_result_at user (function (of_elementary kind at)) known h = refl
    whole_result_at user (function (of_subrange kind at b)) known h = refl
    whole_result_at user (function (of_name n)) known h = let w = type_whole user n known h in whole_name n w.0 w.1 w.2

    whole_pou_at : (p : ℕ) (o : Option PouData) → pou_at f p ≡ o → AllBefore IsWhole (uses_at (declaration_uses f) (length (types_of f) + p)) → not (unwrap_or (option_map (is_whole_result f) (option_map (λ d. d.pou_type) o)) true) ≡ false
    whole_pou_at p None e known = refl
    whole_pou_at p (Some d) e known = ap not (whole_result_at (length (types_of f) + p) d.pou_type (λ u m. known u (subst (λ (us : List ℕ). is_among u us ≡ true) (sym (uses-pou p d e)) m)) (clean_result p d e))

    whole_step : (k : ℕ) → AllBefore IsWhole (uses_at (declaration_uses f) k) → IsWhole k
    whole_step k known = record {
      type = λ below.
          let s = specified f k below in
          whole_type_at k s.0 below s.1 (λ u m. known u (subst (λ (us : List ℕ). is_among u us ≡ true) (sym (uses-type k s.0 s.1)) m)) (clean_type f clean k s.0 s.1).1;
      pou = λ p is. whole_pou_at p (pou_at f p) refl (subst (λ (n : ℕ). AllBefore IsWhole (uses_at (declaration_uses f) n)) is known);
    }

    -- what a declaration uses is one
    name_below : (u : ℕ) (n : Named) → is_among u (used_by_name f n) ≡ true → u < length (declaration_uses f)
    name_below u n m = by (standing f n.text) (used_name u n m)
      where
        by : (o : Option Standing) → Used u o → u < length (declaration_uses f)
        by o (a_type is below) = let s = uses-size in omega arith
        by o (a_pou p is same below) = let s = uses-size in omega arith

    bound_below : (u : ℕ) (b : Tree) → is_among u (used_by_bound f b) ≡ true → u < length (declaration_uses f)
    bound_below u (literal l) m = absurd (let e : ⊥ = cc in e)
    bound_below u (path p) m = name_below u p.first m
    bound_below u (enumerator t v) m = name_below u t m
    bound_below u (paren at e) m = absurd (let e : ⊥ = cc in e)
    bound_below u (unary o at e) m = absurd (let e : ⊥ = cc in e)
    bound_below u (chain e ls) m = absurd (let e : ⊥ = cc in e)
    bound_below u (call n at args) m = absurd (let e : ⊥ = cc in e)

    specification_below : (u : ℕ) (s : SpecificationData) → is_among u (used_by_specification f s) ≡ true → u < length (declaration_uses f)
    specification_below u (of_values at first others) m = absurd (let e : ⊥ = cc in e)
    specification_below u (of_type (of_elementary kind at)) m = absurd (let e : ⊥ = cc in e)
    specification_below u (of_type (of_subrange kind at b)) m = ⊎_elim (λ low. bound_below u b.low low) (λ high. bound_below u b.high high) (is_among-either u (used_by_bound f b.low) (used_by_bound f b.high) m)
    specification_below u (of_type (of_name n)) m = name_below u n m

    result_below : (u : ℕ) (k : PouTypeData) → is_among u (used_by_result f k) ≡ true → u < length (declaration_uses f)
    result_below u function_block m = absurd (let e : ⊥ = cc in e)
    result_below u program m = absurd (let e : ⊥ = cc in e)
    result_below u (function (of_elementary kind at)) m = absurd (let e : ⊥ = cc in e)
    result_below u (function (of_subrange kind at b)) m = absurd (let e : ⊥ = cc in e)
    result_below u (function (of_name n)) m = name_below u n m

    used_below : (k u : ℕ) → is_among u (uses_at (declaration_uses f) k) ≡ true → u < length (declaration_uses f)
    used_below k u m = elim (declared k (below-from_use (declaration_uses f) k u m)) as (λ _. u < length (declaration_uses f)) [
      | inl below ↦ let s = specified f k below in specification_below u s.0 (subst (λ (us : List ℕ). is_among u us ≡ true) (uses-type k s.0 s.1) m)
      | inr p ↦ let uses : uses_at (declaration_uses f) k ≡ used_by_result f p.2.0.pou_type = ap (uses_at (declaration_uses f)) p.1 ∙ uses-pou p.0 p.2.0 p.2.1 in
          result_below u p.2.0.pou_type (subst (λ (us : List ℕ). is_among u us ≡ true) uses m)
    ]

    whole_all : (k : ℕ) → k < length (declaration_uses f) → IsWhole k
    whole_all k below = by_order (declaration_uses f) IsWhole whole_step (complete (declaration_uses f) used_below none_round) k below

    pub whole_type_named : (n : Named) (t : ℕ) → standing f n.text ≡ Some (standings.Type t) → is_whole_type_name f n ≡ true
    whole_type_named n t e =
        let below = standing_type f n.text t e in
        let s = uses-size in
        whole_name n t e ((whole_all t (omega arith)).type below)

    pub no_broken_function : (p : ℕ) → is_broken_function f p ≡ false
    no_broken_function p = by (pou_at f p) refl
      where
        by : (o : Option PouData) → pou_at f p ≡ o → not (unwrap_or (option_map (is_whole_result f) (option_map (λ d. d.pou_type) o)) true) ≡ false
        by None e = refl
        by (Some d) e =
            let below = slice_get_within (pous_of f) p d e in
            let s = uses-size in
            whole_pou_at p (Some d) e (λ u m. whole_all u (used_below (length (types_of f) + p) u m))

    all_before : (ks : List ℕ) → ((u : ℕ) → is_among u ks ≡ true → u < length (declaration_uses f)) → AllBefore IsWhole ks
    all_before ks below u m = whole_all u (below u m)

    -- no name is that of a broken declaration
    pub no_broken_name : (n : Named) → is_broken_name f (standing f n.text) ≡ false
    no_broken_name n = whole_used n (all_before (used_by_name f n) (λ u m. name_below u n m))

    pub enumerator_clean : (t v : Named) → (in_enumerator f t v (standing f t.text)).broken ≡ [] → has_enumerator f t v ≡ true
    enumerator_clean t v h = enumerator_whole t v (all_before (used_by_name f t) (λ u m. name_below u t m)) h

    -- the end of each type is whole
    pub whole_end : (n : Named) (t : ℕ) → standing f n.text ≡ Some (standings.Type t) → whole_at t ≡ true
    whole_end n t e = let below = standing_type f n.text t e in let s = uses-size in (whole_all t (omega arith)).type below
