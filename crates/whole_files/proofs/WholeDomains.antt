-- The types of a file that breaks no rule allow some values: each type by name has a domain.
use Rattle.std.proofs.Common.{◌≡◌, ℕ, zero, suc, ◌+◌, List, [], ◌∷◌, ◌++◌, length, Bool, true, false, true≢false, Option, Some, None, option_map, if◌then◌else◌, refl, sym, subst}
use Rattle.std.specs.Prelude.{int_le, pos}
use Rattle.std.specs.List.{list_any, slice_get}
use Rattle.std.specs.Option.{unwrap_or}
use Rattle.std.specs.Str.{bytes_eq}
use Rattle.std.proofs.lemmas.Bool.{and_from, and_parts}
use Rattle.plc_types.specs.declared.elementary.Elementary.{Elementary as ElementaryType}
use Rattle.plc_types.specs.declared.data_type.DataType.TheVariants.{Elementary, Enumeration}
use Rattle.plc_types.specs.declared.operator.UnaryOperator.TheVariants as signs
use Rattle.plc_types.specs.DataTypes.{is_same_type}
use Rattle.plc_types.specs.Types.{is_integer}
use Rattle.rules.specs.declared.rule.Rule.TheVariants.{OperandType, OutsideType, TooManyValues}
use Rattle.rules.specs.Judgements.{Judgement, ok, suppressed, and, breaks, require}
use Rattle.source_tree.specs.Syntax.{Named, Tree, literal, path, enumerator, paren, unary, chain, call, BoundsData, of_elementary, of_subrange, of_name, SpecificationData, of_type, of_values, TypeDeclarationData, FileData}
use Rattle.source_tree.specs.Levels.{IsConstant, IsSpecificationFormed, IsFileLevelled}
use Rattle.naming.specs.declared.standing.Standing.{Standing}
use Rattle.naming.specs.declared.standing.Standing.TheVariants as standings
use Rattle.naming.specs.FileScope.{types_of, pous_of, standing, is_value, is_doubled_in_file}
use Rattle.naming.specs.Types.{type_number, specification_at, end_of, end_specification, are_first, has_value, is_whole_end, is_whole_type_name, is_circular}
use Rattle.naming.specs.Broken.{circular, in_file, in_scope, in_value_name, in_enumerator, unless_circular, in_bound, in_specification, in_types, in_results, broken_names}
use Rattle.naming.specs.DeclarationUses.{is_circular_use}
use Rattle.naming.proofs.ValueLemmas.{names_value, standing_value}
use Rattle.alike_scopes.proofs.st_names.Clean.{parts, no_doubles, some_name, specification_some}
use Rattle.alike_scopes.proofs.st_names.WholeDeclarations.{no_broken_name, enumerator_clean}
use Rattle.typing.specs.declared.domain.Domain.{Domain}
use Rattle.typing.specs.Typing.{Reference, by_path, by_value, is_unknown, type_of, place_of}
use Rattle.typing.specs.Judged.{judged}
use Rattle.typing.specs.Domains.{has_few, is_few, value_at, values_scope, bounds_of, judged_bound_of, judged_subrange, no_domain, subrange_domain, end_domain, named_domain, judged_specification, judged_types}
use Rattle.alike_scopes.specs.typed_scopes.Uses.{IsWithin}
use Rattle.whole_files.specs.WholeScopes.{is_whole_meaning, IsWholeScope}
use Rattle.alike_scopes.specs.bound_names.BoundNames.{value_uses}
use Rattle.whole_files.proofs.Told.{IsTold, nil_front, nil_behind, told_and, told_require}
use Rattle.whole_files.proofs.ToldTrees.{tree_told}
use Rattle.alike_scopes.proofs.bound_names.NameParts.{named_value}
use Rattle.whole_files.proofs.Formed.{types_formed, type_formed}

-- a type allows some values
abbrev pub IsKnownDomain : Domain → Type 0
IsKnownDomain d = (d.whole ≡ true) × (is_unknown d.kind ≡ false)

if_known : (w : Bool) (d : Domain) → w ≡ true → IsKnownDomain d → IsKnownDomain (if w then d else no_domain)
if_known true d e known = known
if_known false d e known = absurd (true≢false (sym e))

broken_if : (b : Bool) (j k : Judgement) → ((k.broken ≡ []) → ⊥) → (if b then j else k).broken ≡ [] → b ≡ true
broken_if true j k some none = refl
broken_if false j k some none = absurd (some none)

module _ (f : FileData) (none : broken_names f ≡ []) (levels : IsFileLevelled f) (types : (judged_types f (types_of f)).broken ≡ []) where
  once : (q : List ℕ) → is_doubled_in_file f q ≡ false
  once = no_doubles f (parts f none).1

  clean : in_types f 0 (types_of f) ≡ []
  clean = (parts f none).2

  results : in_results f (length (types_of f)) (pous_of f) ≡ []
  results = (parts f none).3

  -- ---- what each type breaks

  judged_at : (ds : List TypeDeclarationData) (i : ℕ) (d : TypeDeclarationData) → (judged_types f ds).broken ≡ [] → slice_get ds i ≡ Some d → (judged_specification f d.name d.specification).broken ≡ []
  judged_at [] i d h at = absurd (let e : ⊥ = cc in e)
  judged_at (x ∷ ds) zero d h at =
      let same : x ≡ d = cc in
      subst (λ (y : TypeDeclarationData). (judged_specification f y.name y.specification).broken ≡ []) same (nil_front (judged_specification f x.name x.specification).broken (judged_types f ds).broken h)
  judged_at (x ∷ ds) (suc i) d h at = judged_at ds i d (nil_behind (judged_specification f x.name x.specification).broken (judged_types f ds).broken h) at

  specified : (t : ℕ) (s : SpecificationData) → specification_at f t ≡ Some s → (n : Named) × ((judged_specification f n s).broken ≡ [])
  specified t s is =
      let r = specification_some f t s is in
      (r.0.name, subst (λ (x : SpecificationData). (judged_specification f r.0.name x).broken ≡ []) r.2 (judged_at (types_of f) t r.0 types r.1))

  named_at : (number : ℕ) (ds : List TypeDeclarationData) (i : ℕ) (d : TypeDeclarationData) → in_types f number ds ≡ [] → slice_get ds i ≡ Some d → (user : ℕ) × ((in_specification f user d.specification).broken ≡ [])
  named_at number [] i d h at = absurd (let e : ⊥ = cc in e)
  named_at number (x ∷ ds) zero d h at =
      let same : x ≡ d = cc in
      let own = (if is_circular f number then circular x.name else ok).broken in
      let here = (in_specification f number x.specification).broken in
      (number, subst (λ (y : TypeDeclarationData). (in_specification f number y.specification).broken ≡ []) same (nil_behind own here (nil_front (own ++ here) (in_types f (number + 1) ds) h)))
  named_at number (x ∷ ds) (suc i) d h at =
      let own = (if is_circular f number then circular x.name else ok).broken in
      let here = (in_specification f number x.specification).broken in
      named_at (number + 1) ds i d (nil_behind (own ++ here) (in_types f (number + 1) ds) h) at

  -- ---- values

  few_if : (n : Named) (s : SpecificationData) (q : List ℕ) → (judged_specification f n s).broken ≡ [] → names_value q (Some s) ≡ true → is_few (Some s) ≡ true
  few_if n (of_type k) q h named = absurd (true≢false (sym named))
  few_if n (of_values at first others) q h named = broken_if (has_few others) ok (breaks TooManyValues n.at) (λ e. let z : ⊥ = cc in z) h

  few_by : (q : List ℕ) (t : ℕ) (s : Option SpecificationData) → specification_at f t ≡ s → names_value q s ≡ true → is_few s ≡ true
  few_by q t None e named = absurd (true≢false (sym named))
  few_by q t (Some s) e named = let r = specified t s e in few_if r.0 s q r.1 named

  value_by : (q : List ℕ) (s : Option Standing) → standing f q ≡ s → is_value s ≡ true → is_whole_meaning (value_at f s) ≡ true
  value_by q None e h = absurd (true≢false (sym h))
  value_by q (Some (standings.Type t)) e h = absurd (true≢false (sym h))
  value_by q (Some (standings.Value t k)) e h = and_from (is_few (specification_at f t)) true (few_by q t (specification_at f t) refl (standing_value f q t k e)) refl
  value_by q (Some (standings.Pou p)) e h = absurd (true≢false (sym h))

  pub value_whole : (q : List ℕ) → is_value (standing f q) ≡ true → is_whole_meaning (value_at f (standing f q)) ≡ true
  value_whole q h = value_by q (standing f q) refl h

  values_named : (r : Reference) → (value_uses f).names r ≡ true → is_whole_meaning ((values_scope f).means r) ≡ true
  values_named (by_path q) h = value_whole q.first.text h
  values_named (by_value n) h = value_whole n.text h

  pub values_whole : IsWholeScope (values_scope f) (value_uses f)
  values_whole = record { names = values_named; functions = λ text h. absurd (true≢false (sym h)) }

  -- ---- bounds

  bound_told : (k : ElementaryType) (e : Tree) → IsWithin (value_uses f) e → IsTold (judged_bound_of f k e)
  bound_told k e within =
      told_require (judged (values_scope f) (Some (Elementary k)) e) (is_same_type (type_of (values_scope f) (Some (Elementary k)) e) (Elementary k)) OperandType (place_of e)
      (tree_told (values_scope f) (value_uses f) values_whole (Some (Elementary k)) refl e within)

  pub subrange_told : (k : ElementaryType) (at : ℕ) (b : BoundsData) → IsWithin (value_uses f) b.low → IsWithin (value_uses f) b.high → IsTold (judged_subrange f k at b)
  subrange_told k at b low high =
      let both = and (judged_bound_of f k b.low) (judged_bound_of f k b.high) in
      told_require (require both (is_integer k) OperandType at) (int_le (bounds_of f k b).low (bounds_of f k b).high) OutsideType (place_of b.low)
      (told_require both (is_integer k) OperandType at (told_and (judged_bound_of f k b.low) (judged_bound_of f k b.high) (bound_told k b.low low) (bound_told k b.high high)))

  value_name_clean : (n : Named) → (in_value_name f n).broken ≡ [] → is_value (standing f n.text) ≡ true
  value_name_clean n h = broken_if (is_value (standing f n.text)) ok (in_scope f n) (λ e. some_name f once n (subst (λ (b : Bool). (if b then suppressed else in_file f n).broken ≡ []) (no_broken_name f once clean results n) e)) h

  unless_clean : (c : Bool) (n : Named) (j : Judgement) → (unless_circular c n j).broken ≡ [] → j.broken ≡ []
  unless_clean true n j h = absurd (let e : ⊥ = cc in e)
  unless_clean false n j h = h

  valued : (text : List ℕ) (e : ℕ) (s : Option SpecificationData) → has_value f text e s ≡ true → is_value (standing f text) ≡ true
  valued text e None h = absurd (true≢false (sym h))
  valued text e (Some (of_type k)) h = absurd (true≢false (sym h))
  valued text e (Some (of_values at first others)) h =
      let two = and_parts (are_first f e 0 (first ∷ others)) (list_any (λ n. bytes_eq n.text text) (first ∷ others)) h in
      named_value f once e 0 text (first ∷ others) two.0 two.1

  has_by : (v : Named) (o : Option ℕ) → unwrap_or (option_map (λ number. has_value f v.text (end_of f number) (end_specification f number)) o) false ≡ true → is_value (standing f v.text) ≡ true
  has_by v None h = absurd (true≢false (sym h))
  has_by v (Some number) h = valued v.text (end_of f number) (end_specification f number) h

  bound_within : (user : ℕ) (e : Tree) → IsConstant e → (in_bound f user e).broken ≡ [] → IsWithin (value_uses f) e
  bound_within user (literal l) formed h = tt
  bound_within user (path q) formed h = value_name_clean q.first (unless_clean (is_circular_use f user q.first) q.first (in_value_name f q.first) h)
  bound_within user (enumerator t v) formed h =
      has_by v (type_number (standing f t.text)) (enumerator_clean f once clean results t v (unless_clean (is_circular_use f user t) t (in_enumerator f t v (standing f t.text)) h))
  bound_within user (paren at e) formed h = absurd formed
  bound_within user (unary signs.Minus at (literal l)) formed h = tt
  bound_within user (unary o at e) formed h = absurd formed
  bound_within user (chain e ls) formed h = absurd formed
  bound_within user (call n at args) formed h = absurd formed

  -- a subrange that is declared
  subrange_at : (t : ℕ) (k : ElementaryType) (at : ℕ) (b : BoundsData) → specification_at f t ≡ Some (of_type (of_subrange k at b)) → (judged_subrange f k at b).whole ≡ true
  subrange_at t k at b is =
      let r = specification_some f t (of_type (of_subrange k at b)) is in
      let formed : IsSpecificationFormed (of_type (of_subrange k at b)) = subst IsSpecificationFormed r.2 (type_formed (types_of f) t r.0 (types_formed f levels) r.1) in
      let named = named_at 0 (types_of f) t r.0 clean r.1 in
      let broken : (in_specification f named.0 (of_type (of_subrange k at b))).broken ≡ [] = subst (λ (s : SpecificationData). (in_specification f named.0 s).broken ≡ []) r.2 named.1 in
      let low = bound_within named.0 b.low formed.0 (nil_front (in_bound f named.0 b.low).broken (in_bound f named.0 b.high).broken broken) in
      let high = bound_within named.0 b.high formed.1 (nil_behind (in_bound f named.0 b.low).broken (in_bound f named.0 b.high).broken broken) in
      subrange_told k at b low high (specified t (of_type (of_subrange k at b)) is).1

  -- ---- domains

  pub subrange_known : (k : ElementaryType) (at : ℕ) (b : BoundsData) → (judged_subrange f k at b).whole ≡ true → IsKnownDomain (subrange_domain f k at b)
  subrange_known k at b h =
      if_known (judged_subrange f k at b).whole (record { kind = Elementary k; range = bounds_of f k b; is_subrange = true; start = (bounds_of f k b).low; whole = true }) h (refl, refl)

  end_known : (t : ℕ) (s : Option SpecificationData) → specification_at f t ≡ s → is_whole_end f t s ≡ true → IsKnownDomain (end_domain f t s)
  end_known t None e h = absurd (true≢false (sym h))
  end_known t (Some (of_values at first others)) e h =
      let r = specified t (of_values at first others) e in
      let few = broken_if (has_few others) ok (breaks TooManyValues r.0.at) (λ k. let z : ⊥ = cc in z) r.1 in
      if_known (has_few others) (record { kind = Enumeration t; range = record { low = pos 0; high = pos (length others) }; is_subrange = false; start = pos 0; whole = true }) few (refl, refl)
  end_known t (Some (of_type (of_elementary k at))) e h = (refl, refl)
  end_known t (Some (of_type (of_subrange k at b))) e h = subrange_known k at b (subrange_at t k at b e)
  end_known t (Some (of_type (of_name n))) e h = absurd (true≢false (sym h))

  named_by : (n : Named) (s : Option Standing) → standing f n.text ≡ s → unwrap_or (option_map (λ t. is_whole_end f (end_of f t) (end_specification f t)) (type_number s)) false ≡ true → IsKnownDomain (named_domain f s)
  named_by n None e h = absurd (true≢false (sym h))
  named_by n (Some (standings.Type t)) e h = end_known (end_of f t) (end_specification f t) refl h
  named_by n (Some (standings.Value t k)) e h = absurd (true≢false (sym h))
  named_by n (Some (standings.Pou p)) e h = absurd (true≢false (sym h))

  pub named_known : (n : Named) → is_whole_type_name f n ≡ true → IsKnownDomain (named_domain f (standing f n.text))
  named_known n h = named_by n (standing f n.text) refl h
