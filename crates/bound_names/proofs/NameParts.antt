-- What the judgements of names tell that are whole.
use Rattle.std.proofs.Common.{◌≡◌, ℕ, ◌+◌, List, [], ◌∷◌, Bool, true, false, true≢false, not, ◌&&◌, ◌||◌, Option, Some, None, option_map, option_and_then, is_some, if◌then◌else◌, refl, sym, ap, ◌∙◌, subst}
use Rattle.std.specs.List.{list_any}
use Rattle.std.specs.Str.{bytes_eq}
use Rattle.std.specs.Cmp.Lexicographic.{bytes_decides}
use Rattle.std.proofs.lemmas.Bool.{and_from, and_parts}
use Rattle.rules.specs.Judgements.{Judgement, ok, suppressed}
use Rattle.source_tree.specs.Syntax.{Named, PathData, TypeData, of_elementary, of_subrange, of_name, SpecificationData, of_type, of_values, FileData}
use Rattle.naming.specs.declared.role.Role.{Role}
use Rattle.naming.specs.declared.role.Role.TheVariants as roles
use Rattle.naming.specs.declared.callee.Callee.{Callee}
use Rattle.naming.specs.declared.callee.Callee.TheVariants as callees
use Rattle.naming.specs.Seen.{Seen}
use Rattle.naming.specs.declared.standing.Standing.{Standing}
use Rattle.naming.specs.declared.standing.Standing.TheVariants as standings
use Rattle.naming.specs.Library.{standard_function, is_library}
use Rattle.naming.specs.FileScope.{standing, first_standing, names_of, is_value, is_known, is_doubled_in_file, number_if, pou_number}
use Rattle.naming.specs.Scopes.{Variable, PouScope, is_local, is_step, is_action, is_transition, variable_named, is_fault, block_of_type, block_of, seen, seen_named}
use Rattle.naming.specs.Types.{is_that_value, are_first, end_of, end_specification, is_whole_end}
use Rattle.naming.specs.Broken.{unknown, misused, in_file, is_broken_name, in_scope, in_value_name, in_enumeration, in_enumerator, too_deep, in_member, in_members, in_parts, in_flag, in_named, in_variable, in_outer, in_target, in_path, is_callable, function_or_unknown, callee_of, in_called, in_value, in_instance, instance_of, in_connected, alone}
use Rattle.naming.proofs.ValueLemmas.{standing_first}
use Rattle.typing.specs.Typing.{by_path}
use Rattle.typing.specs.JudgedStatements.{member}
use Rattle.bound_names.specs.BoundNames.{is_bound}

-- what is never whole
abbrev pub IsNever : Judgement → Type 0
IsNever j = j.whole ≡ true → ⊥

pub never : (b : Bool) → b ≡ false → b ≡ true → ⊥
never b f t = true≢false (sym t ∙ f)

never_if : (b : Bool) (j k : Judgement) → IsNever j → IsNever k → IsNever (if b then j else k)
never_if true j k x y = x
never_if false j k x y = y

pub file_never : (f : FileData) (n : Named) → IsNever (in_file f n)
file_never f n = never_if (is_known f n.text) (if is_doubled_in_file f n.text then suppressed else misused n) (unknown n) (never_if (is_doubled_in_file f n.text) suppressed (misused n) (never false refl) (never false refl)) (never false refl)

pub scope_never : (f : FileData) (n : Named) → IsNever (in_scope f n)
scope_never f n = never_if (is_broken_name f (standing f n.text)) suppressed (in_file f n) (never false refl) (file_never f n)

pub outer_never : (f : FileData) (p : PouScope) (n : Named) → IsNever (in_outer f p n)
outer_never f p n = never_if (is_fault p.has_fault n.text) (misused n) (in_scope f n) (never false refl) (scope_never f n)

-- a test of a judgement that is whole, where what stands behind it is never
pub holds_by : (b : Bool) (j k : Judgement) → IsNever k → (if b then j else k).whole ≡ true → (b ≡ true) × (j.whole ≡ true)
holds_by true j k none h = (refl, h)
holds_by false j k none h = absurd (none h)

pub fails_by : (b : Bool) (j k : Judgement) → IsNever j → (if b then j else k).whole ≡ true → (b ≡ false) × (k.whole ≡ true)
fails_by true j k none h = absurd (none h)
fails_by false j k none h = (refl, h)

pub value_name_is : (f : FileData) (n : Named) → (in_value_name f n).whole ≡ true → is_value (standing f n.text) ≡ true
value_name_is f n h = (holds_by (is_value (standing f n.text)) ok (in_scope f n) (scope_never f n) h).0

-- ---- values of enumerations

that_is_value : (t k : ℕ) (s : Option Standing) → is_that_value t k s ≡ true → is_value s ≡ true
that_is_value t k None h = absurd (true≢false (sym h))
that_is_value t k (Some (standings.Type u)) h = absurd (true≢false (sym h))
that_is_value t k (Some (standings.Value u l)) h = refl
that_is_value t k (Some (standings.Pou p)) h = absurd (true≢false (sym h))

module _ (f : FileData) (once : (q : List ℕ) → is_doubled_in_file f q ≡ false) where
  pub named_value : (e number : ℕ) (text : List ℕ) (ns : List Named) → are_first f e number ns ≡ true → list_any (λ n. bytes_eq n.text text) ns ≡ true → is_value (standing f text) ≡ true
  named_value e number text [] first among = absurd (true≢false (sym among))
  named_value e number text (n ∷ ns) first among = by (bytes_eq n.text text) refl (λ k. named_value e (number + 1) text ns (and_parts (not (is_library n.text) && is_that_value e number (first_standing n.text (names_of f))) (are_first f e (number + 1) ns) first).1 k) among
    where
      own : (not (is_library n.text) && is_that_value e number (first_standing n.text (names_of f))) ≡ true
      own = (and_parts (not (is_library n.text) && is_that_value e number (first_standing n.text (names_of f))) (are_first f e (number + 1) ns) first).0

      by : (b : Bool) → bytes_eq n.text text ≡ b → (list_any (λ m. bytes_eq m.text text) ns ≡ true → is_value (standing f text) ≡ true) → (b || list_any (λ m. bytes_eq m.text text) ns) ≡ true → is_value (standing f text) ≡ true
      by true same rest k =
          let there = that_is_value e number (first_standing n.text (names_of f)) (and_parts (not (is_library n.text)) (is_that_value e number (first_standing n.text (names_of f))) own).1 in
          let here : is_value (standing f n.text) ≡ true = ap is_value (standing_first f n.text (once n.text)) ∙ there in
          subst (λ (q : List ℕ). is_value (standing f q) ≡ true) ((bytes_decides n.text text).0 same) here
      by false same rest k = rest k

  enumeration_value : (e : ℕ) (t v : Named) (s : Option SpecificationData) → (in_enumeration f e t v s).whole ≡ true → is_value (standing f v.text) ≡ true
  enumeration_value e t v None h = absurd (true≢false (sym h))
  enumeration_value e t v (Some (of_values at first others)) h =
      let listed = list_any (λ n. bytes_eq n.text v.text) (first ∷ others) in
      let two = holds_by (are_first f e 0 (first ∷ others)) (if listed then ok else unknown v) suppressed (never false refl) h in
      named_value e 0 v.text (first ∷ others) two.0 (holds_by listed ok (unknown v) (never false refl) two.1).0
  enumeration_value e t v (Some (of_type (of_elementary kind at))) h = absurd (true≢false (sym h))
  enumeration_value e t v (Some (of_type (of_subrange kind at b))) h =
      absurd (never_if (is_whole_end f e (Some (of_type (of_subrange kind at b)))) (misused t) suppressed (never false refl) (never false refl) h)
  enumeration_value e t v (Some (of_type (of_name n))) h = absurd (true≢false (sym h))

  enumerator_by : (t v : Named) (s : Option Standing) → (in_enumerator f t v s).whole ≡ true → is_value (standing f v.text) ≡ true
  enumerator_by t v (Some (standings.Type number)) h = enumeration_value (end_of f number) t v (end_specification f number) h
  enumerator_by t v (Some (standings.Value e k)) h = absurd (scope_never f t h)
  enumerator_by t v (Some (standings.Pou p)) h = absurd (scope_never f t h)
  enumerator_by t v None h = absurd (scope_never f t h)

  pub enumerator_value : (t v : Named) → (in_enumerator f t v (standing f t.text)).whole ≡ true → is_value (standing f v.text) ≡ true
  enumerator_value t v h = enumerator_by t v (standing f t.text) h

-- ---- paths

module _ (f : FileData) (p : PouScope) where
  target_by : (s : Option Seen) (q : PathData) → (in_target f p s q).whole ≡ true → (in_path f p s q).whole ≡ true
  target_by (Some s) q h = h
  target_by None q h = absurd (outer_never f p q.first h)

  pub target_bound : (q : PathData) → (in_target f p (seen_named f p q.first.text) q).whole ≡ true → is_bound f p (by_path q) ≡ true
  target_bound q h = target_by (seen_named f p q.first.text) q h

  value_by : (s : Option Seen) (q : PathData) → q.members ≡ [] → (in_value f p s q.first).whole ≡ true → (in_path f p s q).whole ≡ true
  value_by (Some s) q alone h = absurd (never_if s.whole (misused q.first) suppressed (never false refl) (never false refl) h)
  value_by None q alone h =
      let two = fails_by (is_fault p.has_fault q.first.text) (misused q.first) (in_value_name f q.first) (never false refl) h in
      let value = value_name_is f q.first two.1 in
      let no : not (is_fault p.has_fault q.first.text) ≡ true = ap not two.0 in
      let whole : (too_deep q.members).whole ≡ true = ap (λ (ns : List Named). (too_deep ns).whole) alone in
      ap (λ (b : Bool). (if b then too_deep q.members else in_outer f p q.first).whole) (and_from (not (is_fault p.has_fault q.first.text)) (is_value (standing f q.first.text)) no value) ∙ whole

  -- a label names a value
  pub label_bound : (q : PathData) → q.members ≡ [] → (in_value f p (seen_named f p q.first.text) q.first).whole ≡ true → is_bound f p (by_path q) ≡ true
  label_bound q alone h = value_by (seen_named f p q.first.text) q alone h

  -- ---- connections

  local_only : (r : Role) → is_local r ≡ true → (is_step r ≡ false) × ((is_action r || is_transition r) ≡ false)
  local_only roles.Input h = absurd (true≢false (sym h))
  local_only roles.Output h = absurd (true≢false (sym h))
  local_only roles.Local h = (refl, refl)
  local_only roles.Temporary h = absurd (true≢false (sym h))
  local_only roles.Constant h = absurd (true≢false (sym h))
  local_only roles.Result h = absurd (true≢false (sym h))
  local_only roles.Step h = absurd (true≢false (sym h))
  local_only roles.InitialStep h = absurd (true≢false (sym h))
  local_only roles.Action h = absurd (true≢false (sym h))
  local_only roles.StoredAction h = absurd (true≢false (sym h))
  local_only roles.Transition h = absurd (true≢false (sym h))

  local_by : (l : Bool) (t : Option TypeData) (b : ℕ) → (if l then option_and_then (block_of_type f) t else None) ≡ Some b → l ≡ true
  local_by true t b h = refl
  local_by false t b h = absurd (let e : ⊥ = cc in e)

  instance_local : (text : List ℕ) (s : Seen) (b : ℕ) → seen_named f p text ≡ Some s → s.block ≡ Some b → is_local s.role ≡ true
  instance_local text s b h is = by (variable_named text p.variables) h
    where
      by : (o : Option Variable) → option_map (seen f p) o ≡ Some s → is_local s.role ≡ true
      by None k = absurd (let e : ⊥ = cc in e)
      by (Some v) k =
          let same : seen f p v ≡ s = cc in
          let block : block_of f v ≡ Some b = ap (λ (x : Seen). x.block) same ∙ is in
          subst (λ (x : Seen). is_local x.role ≡ true) same (local_by (is_local v.role) v.kind b block)

  member_path : (s : Seen) (b : ℕ) (n x : Named) → s.whole ≡ true → s.block ≡ Some b → is_local s.role ≡ true → (in_member f b x).whole ≡ true → (in_variable f s (member n x)).whole ≡ true
  member_path s b n x whole is local h =
      let no = local_only s.role local in
      let q = member n x in
      let inner : (in_members f b n (x ∷ [])).whole ≡ true = ap (λ (w : Bool). (if w then too_deep [] else in_member f b x).whole) h in
      ap (λ (w : Bool). (if w then in_named f s q else suppressed).whole) whole
      ∙ ap (λ (w : Bool). (if w then in_flag n (x ∷ []) else (if is_action s.role || is_transition s.role then misused n else in_parts f s.block q)).whole) no.0
      ∙ ap (λ (w : Bool). (if w then misused n else in_parts f s.block q).whole) no.1
      ∙ ap (λ (o : Option ℕ). (in_parts f o q).whole) is
      ∙ inner

  block_there : (o : Option ℕ) → is_some o ≡ true → (b : ℕ) × (o ≡ Some b)
  block_there None h = absurd (true≢false (sym h))
  block_there (Some b) h = (b, refl)

  -- what is known of the instance of a call
  pub record IsInstance (n : Named) : Type 0 where
    pub seen : Seen
    pub block : ℕ
    pub there : seen_named f p n.text ≡ Some seen
    pub whole : seen.whole ≡ true
    pub is : seen.block ≡ Some block

  instance_by : (n : Named) (o : Option Seen) → seen_named f p n.text ≡ o → (in_instance f p o n).whole ≡ true → IsInstance n
  instance_by n None e h = absurd (outer_never f p n h)
  instance_by n (Some s) e h =
      let two = holds_by s.whole (if is_some s.block then ok else misused n) suppressed (never false refl) h in
      let b = block_there s.block (holds_by (is_some s.block) ok (misused n) (never false refl) two.1).0 in
      record { seen = s; block = b.0; there = e; whole = two.0; is = b.1 }

  pub instance_is : (n : Named) → (in_instance f p (seen_named f p n.text) n).whole ≡ true → IsInstance n
  instance_is n h = instance_by n (seen_named f p n.text) refl h

  instance_block : (n : Named) (i : IsInstance n) → instance_of (seen_named f p n.text) ≡ Some i.block
  instance_block n i = ap instance_of i.there ∙ ap (λ (w : Bool). if w then i.seen.block else None) i.whole ∙ i.is

  pub member_bound : (n : Named) → IsInstance n → (x : Named) → (in_connected f (instance_of (seen_named f p n.text)) x).whole ≡ true → is_bound f p (by_path (member n x)) ≡ true
  member_bound n i x h =
      let w : (in_member f i.block x).whole ≡ true = subst (λ (o : Option ℕ). (in_connected f o x).whole ≡ true) (instance_block n i) h in
      ap (λ (o : Option Seen). (in_path f p o (member n x)).whole) i.there ∙ member_path i.seen i.block n x i.whole i.is (instance_local n.text i.seen i.block i.there i.is) w

-- ---- calls

-- what is called by a name that is none of the library
pub record IsCalled (f : FileData) (text : List ℕ) : Type 0 where
  pub number : ℕ
  pub is : callee_of f text ≡ callees.Function number

not_standard : (o : Option ℕ) → function_or_unknown o ≡ callees.Standard → ⊥
not_standard None h = let e : ⊥ = cc in e
not_standard (Some number) h = let e : ⊥ = cc in e

none_is : (text : List ℕ) → standard_function text ≡ None → is_library text ≡ false
none_is text none = ap is_some none

called_by : (f : FileData) (n : Named) (c : Callee) → callee_of f n.text ≡ c → (in_called f c n).whole ≡ true → standard_function n.text ≡ None → IsCalled f n.text
called_by f n callees.Standard e h none =
    let other = function_or_unknown (option_and_then (number_if f (is_callable f)) (pou_number (standing f n.text))) in
    let is : other ≡ callees.Standard = sym (ap (λ (l : Bool). if l && not (is_doubled_in_file f n.text) then callees.Standard else other) (none_is n.text none)) ∙ e in
    absurd (not_standard (option_and_then (number_if f (is_callable f)) (pou_number (standing f n.text))) is)
called_by f n (callees.Function number) e h none = record { number = number; is = e }
called_by f n callees.Unknown e h none = absurd (scope_never f n h)

pub called_is : (f : FileData) (n : Named) → (in_called f (callee_of f n.text) n).whole ≡ true → standard_function n.text ≡ None → IsCalled f n.text
called_is f n h none = called_by f n (callee_of f n.text) refl h none
