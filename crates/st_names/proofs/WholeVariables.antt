-- Where the declarations of a POU break no rule, each of them is whole.
use Rattle.std.proofs.Common.{◌≡◌, ⊎_elim, ℕ, zero, suc, ◌+◌, ◌-◌, ◌<◌, List, [], ◌∷◌, ◌++◌, length, Bool, true, false, ◌&&◌, not, Option, Some, None, option_map, is_some, refl, sym, ap, ◌∙◌, subst, if◌then◌else◌, arith, add-zero}
use Rattle.std.specs.List.{slice_get}
use Rattle.std.specs.Option.{unwrap_or}
use Rattle.std.proofs.lemmas.Bool.{and_from, and_parts}
use Rattle.std.proofs.lemmas.List.{length-map}
use Rattle.std.proofs.lemmas.Option.{slice_get_within}
use Rattle.call_order.specs.Uses.{uses_at, is_among, Reaches, directly, through, is_in_circle}
use Rattle.call_order.proofs.Members.{below-from_use, is_among-head, is_among-cases, is_among-either, is_among-left, is_among-right}
use Rattle.call_order.proofs.Ways.{leads_reaches}
use Rattle.source_tree.specs.Syntax.{Named, Tree, literal, path, enumerator, paren, unary, chain, call, TypeData, of_elementary, of_subrange, of_name, FileData}
use Rattle.naming.specs.declared.slot.Slot.{Slot}
use Rattle.naming.specs.Broken.{misused, is_broken_name, in_scope, in_value_name, in_value, unless_circular, in_enumerator, in_declared_constant, in_initial, in_kind, in_declaration, in_declarations}
use Rattle.naming.specs.DeclarationUses.{numbers_in, variable_number, used_by_constant, used_by_type, used_by_initial, variable_uses, is_circular_variable}
use Rattle.naming.specs.FileScope.{standing, is_value, is_doubled_in_file}
use Rattle.naming.specs.Scopes.{Variable, PouScope, variable_named, is_fault, is_doubled, is_typed, is_value_name, is_constant, are_bounds_constant, is_initial_constant, has_constants, is_whole, seen, seen_named}
use Rattle.naming.specs.Slots.{found, slot_of, slot_named, number_by}
use Rattle.naming.specs.Types.{has_enumerator}
use Rattle.naming.proofs.UseLemmas.{variable_named-found, found_name, slot_says}
use Rattle.rules.specs.Judgements.{Judgement, ok}
use Rattle.st_names.specs.Bound.{are_typed}
use Rattle.st_names.proofs.Clean.{some_name, nil_left, nil_right}
use Rattle.st_names.proofs.WholeDeclarations.{AllBefore, by_order, complete, read_map}

-- ---- each declaration of a list breaks nothing

clean_declaration : (f : FileData) (p : PouScope) (number i : ℕ) (vs : List Variable) (v : Variable) → (in_declarations f p number vs).broken ≡ [] → slice_get vs i ≡ Some v → (in_declaration f p (number + i) v).broken ≡ []
clean_declaration f p number i [] v h at = absurd (let e : ⊥ = cc in e)
clean_declaration f p number zero (x ∷ vs) v h at =
    let e : x ≡ v = cc in
    rw add-zero (subst (λ y. (in_declaration f p number y).broken ≡ []) e (nil_left (in_declaration f p number x).broken (in_declarations f p (number + 1) vs).broken h))
clean_declaration f p number (suc i) (x ∷ vs) v h at =
    let same : number + suc i ≡ number + 1 + i = omega arith in
    rw same (clean_declaration f p (number + 1) i vs v (nil_right (in_declaration f p number x).broken (in_declarations f p (number + 1) vs).broken h) at)

typed_at : (f : FileData) (vs : List Variable) (i : ℕ) (v : Variable) → are_typed f vs ≡ true → slice_get vs i ≡ Some v → is_typed f v ≡ true
typed_at f [] i v h at = absurd (let e : ⊥ = cc in e)
typed_at f (x ∷ vs) zero v h at = let e : x ≡ v = cc in subst (λ y. is_typed f y ≡ true) e (and_parts (is_typed f x) (are_typed f vs) h).0
typed_at f (x ∷ vs) (suc i) v h at = typed_at f vs i v (and_parts (is_typed f x) (are_typed f vs) h).1 at

module _ (f : FileData) (known : (n : Named) → is_broken_name f (standing f n.text) ≡ false) (enumerated : (t v : Named) → (in_enumerator f t v (standing f t.text)).broken ≡ [] → has_enumerator f t v ≡ true)
    (once : (q : List ℕ) → is_doubled_in_file f q ≡ false) (p : PouScope) (single : (k : ℕ) (v : Variable) → slice_get p.variables k ≡ Some v → is_doubled p v.name.text ≡ false) (typed : are_typed f p.variables ≡ true) (clean : (in_declarations f p 0 p.variables).broken ≡ []) where
  clean_at : (k : ℕ) (v : Variable) → slice_get p.variables k ≡ Some v → (in_declaration f p k v).broken ≡ []
  clean_at k v at = let same : 0 + k ≡ k = omega arith in subst (λ n. (in_declaration f p n v).broken ≡ []) same (clean_declaration f p 0 k p.variables v clean at)

  uses-variable : (k : ℕ) (v : Variable) → slice_get p.variables k ≡ Some v → uses_at (variable_uses p) k ≡ used_by_type p v.kind ++ used_by_initial p v.initial
  unfolding variable_uses
  uses-variable k v at = read_map (λ (w : Variable). used_by_type p w.kind ++ used_by_initial p w.initial) p.variables k v at

  uses-size : length (variable_uses p) ≡ length p.variables
  unfolding variable_uses
  uses-size = length-map p.variables (λ (w : Variable). used_by_type p w.kind ++ used_by_initial p w.initial)

  -- the variable of a number
  record IsNamed (q : List ℕ) (k : ℕ) : Type 0 where
    variable : Variable
    named : variable_named q p.variables ≡ Some variable
    at : slice_get p.variables k ≡ Some variable

  slot_some : (q : List ℕ) (k : ℕ) (o : Option Slot) → slot_named p q ≡ o → number_by o ≡ Some k → (s : Slot) × (slot_named p q ≡ Some s) × (s.number - 1 ≡ k)
  slot_some q k None e h = absurd (let n : ⊥ = cc in n)
  slot_some q k (Some s) e h = (s, e, by s.is_doubled h)
    where
      by : (b : Bool) → (if b then None else Some (s.number - 1)) ≡ Some k → s.number - 1 ≡ k
      by true n = absurd (let i : ⊥ = cc in i)
      by false n = cc

  named : (q : List ℕ) (k : ℕ) → variable_number p q ≡ Some k → IsNamed q k
  named q k h =
      let s = slot_some q k (slot_named p q) refl h in
      let r = slot_says p.has_fault p.variables q s.0 s.1 in
      record {
        variable = r.0;
        named = variable_named-found q 1 p.variables ∙ ap (option_map (λ (x : ℕ × Variable). x.1)) r.1.found;
        at = subst (λ (n : ℕ). slice_get p.variables n ≡ Some r.0) s.2 r.1.at;
      }

  -- and the number of a variable
  numbered : (q : List ℕ) (v : Variable) → variable_named q p.variables ≡ Some v → (k : ℕ) × (variable_number p q ≡ Some k) × (slice_get p.variables k ≡ Some v)
  numbered q v h = by (found q 1 p.variables) refl (sym (variable_named-found q 1 p.variables) ∙ h)
    where
      by : (o : Option (ℕ × Variable)) → found q 1 p.variables ≡ o → option_map (λ (x : ℕ × Variable). x.1) o ≡ Some v → (k : ℕ) × (variable_number p q ≡ Some k) × (slice_get p.variables k ≡ Some v)
      by None e k = absurd (let n : ⊥ = cc in n)
      by (Some g) e k =
          let slot : slot_named p q ≡ Some (slot_of (is_doubled p q) g) = ap (option_map (slot_of (is_doubled p q))) e in
          let r = slot_says p.has_fault p.variables q (slot_of (is_doubled p q) g) slot in
          let text : r.0.name.text ≡ q = found_name q 1 p.variables (g.0, r.0) r.1.found in
          let one : is_doubled p q ≡ false = subst (λ (t : List ℕ). is_doubled p t ≡ false) text (single (g.0 - 1) r.0 r.1.at) in
          let number : variable_number p q ≡ Some (g.0 - 1) = ap number_by slot ∙ ap (λ (b : Bool). if b then None else Some (g.0 - 1)) one in
          let same : r.0 ≡ v = (let i = sym (variable_named-found q 1 p.variables ∙ ap (option_map (λ (x : ℕ × Variable). x.1)) r.1.found) ∙ h in cc) in
          (g.0 - 1, number, r.1.at ∙ ap (λ (w : Variable). Some w) same)

  number_used : (k : ℕ) (o : Option ℕ) → is_among k (numbers_in o) ≡ true → o ≡ Some k
  number_used k None m = absurd (let e : ⊥ = cc in e)
  number_used k (Some n) m = ⊎_elim (λ (e : k ≡ n). ap (λ (x : ℕ). Some x) (sym e)) (λ none. absurd (let e : ⊥ = cc in e)) (is_among-cases k n [] m)

  constant_below : (u : ℕ) (e : Tree) → is_among u (used_by_constant p e) ≡ true → u < length p.variables
  constant_below u (literal l) m = absurd (let e : ⊥ = cc in e)
  constant_below u (path q) m = let r = named q.first.text u (number_used u (variable_number p q.first.text) m) in slice_get_within p.variables u r.variable r.at
  constant_below u (enumerator t v) m = absurd (let e : ⊥ = cc in e)
  constant_below u (paren at e) m = absurd (let e : ⊥ = cc in e)
  constant_below u (unary o at e) m = absurd (let e : ⊥ = cc in e)
  constant_below u (chain e ls) m = absurd (let e : ⊥ = cc in e)
  constant_below u (call n at args) m = absurd (let e : ⊥ = cc in e)

  -- no constant uses a variable of its circle
  constant_apart : (k u : ℕ) (e : Tree) → is_among u (used_by_constant p e) ≡ true → is_in_circle (variable_uses p) k u ≡ true → (in_declared_constant f p k e).broken ≡ [] → ⊥
  constant_apart k u (literal l) m round h = cc
  constant_apart k u (path q) m round h =
      let number = number_used u (variable_number p q.first.text) m in
      let i = rw (number, round) at h in
      let e : ⊥ = cc in e
  constant_apart k u (enumerator t v) m round h = cc
  constant_apart k u (paren at e) m round h = cc
  constant_apart k u (unary o at e) m round h = cc
  constant_apart k u (chain e ls) m round h = cc
  constant_apart k u (call n at args) m round h = cc

  -- what holds of each constant that uses a number holds of the declaration
  module _ (k : ℕ) (v : Variable) (u : ℕ) (Holds : Type 0) (each : (e : Tree) → is_among u (used_by_constant p e) ≡ true → (in_declared_constant f p k e).broken ≡ [] → Holds) where
    in_types : (t : Option TypeData) → is_among u (used_by_type p t) ≡ true → (in_kind f p k v t).broken ≡ [] → Holds
    in_types None m h = absurd (let e : ⊥ = cc in e)
    in_types (Some (of_elementary kind at)) m h = absurd (let e : ⊥ = cc in e)
    in_types (Some (of_subrange kind at b)) m h =
        ⊎_elim (λ low. each b.low low (nil_left (in_declared_constant f p k b.low).broken (in_declared_constant f p k b.high).broken h))
        (λ high. each b.high high (nil_right (in_declared_constant f p k b.low).broken (in_declared_constant f p k b.high).broken h))
        (is_among-either u (used_by_constant p b.low) (used_by_constant p b.high) m)
    in_types (Some (of_name n)) m h = absurd (let e : ⊥ = cc in e)

    in_values : (i : Option Tree) → is_among u (used_by_initial p i) ≡ true → (in_initial f p k i).broken ≡ [] → Holds
    in_values None m h = absurd (let e : ⊥ = cc in e)
    in_values (Some e) m h = each e m h

    in_uses : is_among u (used_by_type p v.kind ++ used_by_initial p v.initial) ≡ true → (in_declaration f p k v).broken ≡ [] → Holds
    in_uses m h =
        ⊎_elim (λ type. in_types v.kind type (nil_left (in_kind f p k v v.kind).broken (in_initial f p k v.initial).broken h))
        (λ value. in_values v.initial value (nil_right (in_kind f p k v v.kind).broken (in_initial f p k v.initial).broken h))
        (is_among-either u (used_by_type p v.kind) (used_by_initial p v.initial) m)

  at_number : (k : ℕ) → k < length (variable_uses p) → (v : Variable) × (slice_get p.variables k ≡ Some v)
  at_number k below = let s = uses-size in got p.variables k (omega arith)
    where
      got : (vs : List Variable) (i : ℕ) → i < length vs → (v : Variable) × (slice_get vs i ≡ Some v)
      got [] i b = absurd (omega arith)
      got (x ∷ vs) zero b = (x, refl)
      got (x ∷ vs) (suc i) b = got vs i (omega arith)

  use_below : (k u : ℕ) → is_among u (uses_at (variable_uses p) k) ≡ true → u < length (variable_uses p)
  use_below k u m =
      let v = at_number k (below-from_use (variable_uses p) k u m) in
      let s = uses-size in
      let low = in_uses k v.0 u (u < length p.variables) (λ e n h. constant_below u e n) (subst (λ (us : List ℕ). is_among u us ≡ true) (uses-variable k v.0 v.1) m) (clean_at k v.0 v.1) in
      omega arith

  no_round : (k u : ℕ) → is_among u (uses_at (variable_uses p) k) ≡ true → ¬ Reaches (variable_uses p) u k
  no_round k u m back =
      let v = at_number k (below-from_use (variable_uses p) k u m) in
      let round : is_in_circle (variable_uses p) k u ≡ true = and_from _ _ m ((leads_reaches (variable_uses p) u k).1 back) in
      in_uses k v.0 u ⊥ (λ e n h. constant_apart k u e n round h) (subst (λ (us : List ℕ). is_among u us ≡ true) (uses-variable k v.0 v.1) m) (clean_at k v.0 v.1)

  none_round : (k : ℕ) → ¬ Reaches (variable_uses p) k k
  none_round k (directly _ _ u) = no_round k k u (directly k k u)
  none_round k (through _ c _ u r) = no_round k c u r

  -- ---- each constant names a value

  abbrev IsConstant : ℕ → Type 0
  IsConstant k = (v : Variable) → slice_get p.variables k ≡ Some v → has_constants f p v ≡ true

  whole_by : (v : Variable) (k : ℕ) → slice_get p.variables k ≡ Some v → IsConstant k → is_whole f p v ≡ true
  whole_by v k at constant = rw (single k v at, typed_at f p.variables k v typed at, constant v at) refl

  not_round : (round : Bool) (n : Named) (j : Judgement) → (unless_circular round n j).broken ≡ [] → j.broken ≡ []
  not_round true n j h = absurd (let e : ⊥ = cc in e)
  not_round false n j h = h

  valued : (n : Named) → (in_value_name f n).broken ≡ [] → is_value (standing f n.text) ≡ true
  valued n h = by (is_value (standing f n.text)) h
    where
      by : (b : Bool) → (if b then ok else in_scope f n).broken ≡ [] → b ≡ true
      by true k = refl
      by false k = absurd (some_name f once n (rw (known n) at k))

  named_value : (n : Named) → AllBefore IsConstant (numbers_in (variable_number p n.text)) → (in_value f p (seen_named f p n.text) n).broken ≡ [] → is_value_name f p n.text ≡ true
  named_value n before h = by (variable_named n.text p.variables) refl h
    where
      by : (o : Option Variable) → variable_named n.text p.variables ≡ o → (in_value f p (option_map (seen f p) o) n).broken ≡ [] → (not (is_some o) && not (is_fault p.has_fault n.text) && is_value (standing f n.text)) ≡ true
      by (Some v) e k =
          let r = numbered n.text v e in
          let there : is_among r.0 (numbers_in (variable_number p n.text)) ≡ true = ap (λ o. is_among r.0 (numbers_in o)) r.1 ∙ is_among-head r.0 [] in
          let whole : is_whole f p v ≡ true = whole_by v r.0 r.2 (before r.0 there) in
          absurd (let i = rw whole at k in let j : ⊥ = cc in j)
      by None e k = on (is_fault p.has_fault n.text) k
        where
          on : (b : Bool) → (if b then misused n else in_value_name f n).broken ≡ [] → (not b && is_value (standing f n.text)) ≡ true
          on true m = absurd (let i : ⊥ = cc in i)
          on false m = valued n m

  constant : (k : ℕ) (e : Tree) → AllBefore IsConstant (used_by_constant p e) → (in_declared_constant f p k e).broken ≡ [] → is_constant f p e ≡ true
  constant k (literal l) before h = refl
  constant k (path q) before h =
      named_value q.first before (not_round (is_circular_variable p k q.first) q.first (in_value f p (seen_named f p q.first.text) q.first) h)
  constant k (enumerator t v) before h = enumerated t v h
  constant k (paren at e) before h = refl
  constant k (unary o at e) before h = refl
  constant k (chain e ls) before h = refl
  constant k (call n at args) before h = refl

  bounds : (k : ℕ) (v : Variable) (t : Option TypeData) → AllBefore IsConstant (used_by_type p t) → (in_kind f p k v t).broken ≡ [] → unwrap_or (option_map (are_bounds_constant f p) t) true ≡ true
  bounds k v None before h = refl
  bounds k v (Some (of_elementary kind at)) before h = refl
  bounds k v (Some (of_name n)) before h = refl
  bounds k v (Some (of_subrange kind at b)) before h =
      and_from _ _
      (constant k b.low (λ u m. before u (is_among-left u (used_by_constant p b.low) (used_by_constant p b.high) m)) (nil_left (in_declared_constant f p k b.low).broken (in_declared_constant f p k b.high).broken h))
      (constant k b.high (λ u m. before u (is_among-right u (used_by_constant p b.low) (used_by_constant p b.high) m)) (nil_right (in_declared_constant f p k b.low).broken (in_declared_constant f p k b.high).broken h))

  initial : (k : ℕ) (i : Option Tree) → AllBefore IsConstant (used_by_initial p i) → (in_initial f p k i).broken ≡ [] → is_initial_constant f p i ≡ true
  initial k None before h = refl
  initial k (Some e) before h = constant k e before h

  constants : (k : ℕ) → AllBefore IsConstant (uses_at (variable_uses p) k) → IsConstant k
  constants k before v at =
      let h = clean_at k v at in
      let all : AllBefore IsConstant (used_by_type p v.kind ++ used_by_initial p v.initial) = λ u m. before u (subst (λ (us : List ℕ). is_among u us ≡ true) (sym (uses-variable k v at)) m) in
      and_from _ _
      (bounds k v v.kind (λ u m. all u (is_among-left u (used_by_type p v.kind) (used_by_initial p v.initial) m)) (nil_left (in_kind f p k v v.kind).broken (in_initial f p k v.initial).broken h))
      (initial k v.initial (λ u m. all u (is_among-right u (used_by_type p v.kind) (used_by_initial p v.initial) m)) (nil_right (in_kind f p k v v.kind).broken (in_initial f p k v.initial).broken h))

  -- each variable is whole
  pub whole_variable : (q : List ℕ) (v : Variable) → variable_named q p.variables ≡ Some v → is_whole f p v ≡ true
  whole_variable q v h =
      let r = numbered q v h in
      let s = uses-size in
      let below = slice_get_within p.variables r.0 v r.2 in
      whole_by v r.0 r.2 (by_order (variable_uses p) IsConstant constants (complete (variable_uses p) use_below none_round) r.0 (omega arith))
