-- Where nothing in a POU breaks a rule on names, and all declarations around it are whole, the POU is whole.
use Rattle.std.proofs.Common.{◌≡◌, ℕ, ◌+◌, List, [], ◌∷◌, ◌++◌, codes, Bool, true, false, true≢false, ◌&&◌, ◌||◌, not, ◌==◌, Option, Some, None, option_map, is_some, refl, sym, ap, ◌∙◌, subst, if◌then◌else◌, count_by}
use Rattle.std.specs.List.{list_any}
use Rattle.std.specs.Option.{option_and_then, unwrap_or}
use Rattle.std.specs.Str.{bytes_eq}
use Rattle.std.proofs.lemmas.Bool.{and_from, and_parts}
use Rattle.rules.specs.declared.rule.Rule.{Rule}
use Rattle.rules.specs.declared.rule.Rule.TheVariants.{UnknownStep, UnknownAction, StepTwice, UnknownQualifier, NotOneInitialStep}
use Rattle.source_tree.specs.Syntax.{Named, PathData, Tree, literal, path, enumerator, paren, unary, chain, call, Links, no_links, link, Arguments, no_arguments, argument, ConnectionData, input, output, Stmt, empty, assign, invoke, branch, cases, iterate, exit, return, Stmts, no_stmts, stmt, Arms, no_arms, arm, Entries, no_entries, entry, Otherwise, no_else, else_stmts, LabelData, IterationData, TypeData, of_elementary, of_subrange, of_name, SpecificationData, of_type, of_values, StepActionData, PartData, step_part, transition_part, action_part, BodyData, statements, chart as chart_body, PouTypeData, PouData, FileData}
use Rattle.naming.specs.declared.callee.Callee.{Callee}
use Rattle.naming.specs.declared.callee.Callee.TheVariants as callees
use Rattle.naming.specs.Seen.{Seen}
use Rattle.naming.specs.declared.standing.Standing.{Standing}
use Rattle.naming.specs.declared.standing.Standing.TheVariants as standings
use Rattle.naming.specs.Broken.{twice, unknown, misused, is_broken_name, in_scope, in_type_name, in_value_name, in_enumeration, in_enumerator, too_deep, member_by, in_member, in_members, in_parts, in_flag, in_named, in_variable, in_outer, in_target, in_path, is_callable, function_or_unknown, callee_of, in_called, argument_by, in_argument_name, in_tree, in_links, in_arguments, in_value, in_constant, in_constant_if, in_declared_constant, in_initial, in_kind, in_label, in_labels, alone, in_step, in_iteration, in_instance, instance_of, in_connected, in_connection, in_connections, in_stmt, in_stmts, in_arms, in_entries, in_else, in_declaration, in_declarations, in_own_name, in_own_name_if, action_by, in_word, in_association, in_associations, step_by, in_listed, in_listed_from, steps_in, in_steps, in_part, in_chart_parts, is_initial_part, place_of_chart, in_body, in_pou_scope, variables_twice}
use Rattle.naming.specs.ChartWords.{qualifier_named, word_of}
use Rattle.naming.specs.DeclarationUses.{is_circular_variable}
use Rattle.naming.specs.FileScope.{pou_at, number_if, pou_number, is_block, standing, is_type, is_value, is_doubled_in_file}
use Rattle.naming.specs.Library.{is_library}
use Rattle.naming.specs.Scopes.{Variable, PouScope, scope_of, is_local, is_input, is_seen, is_result, is_step, is_action, is_transition, is_of_name, variable_named, is_fault, is_doubled, block_of_type, block_of, is_typed, is_whole, seen, seen_named}
use Rattle.naming.specs.Types.{end_of, end_specification, are_first, is_whole_end, is_whole_type_name}
use Rattle.rules.specs.Judgements.{Judgement, ok, suppressed, whole_if, and, breaks}
use Rattle.st_names.specs.Bound.{are_typed}
use Rattle.st_names.proofs.Clean.{some_name, nil_left, nil_right}

-- what breaks nothing is whole
abbrev pub IsWholeIfSound : Judgement → Type 0
IsWholeIfSound j = j.broken ≡ [] → j.whole ≡ true

both_sound : (j k : Judgement) → IsWholeIfSound j → IsWholeIfSound k → IsWholeIfSound (and j k)
both_sound j k a b h = and_from j.whole k.whole (a (nil_left j.broken k.broken h)) (b (nil_right j.broken k.broken h))

broken_sound : (rule : Rule) (at : ℕ) → IsWholeIfSound (breaks rule at)
broken_sound rule at h = absurd (let e : ⊥ = cc in e)

deep_sound : (ns : List Named) → IsWholeIfSound (too_deep ns)
deep_sound [] h = refl
deep_sound (n ∷ ns) h = absurd (let e : ⊥ = cc in e)

either_sound : (b : Bool) (j k : Judgement) → IsWholeIfSound j → IsWholeIfSound k → IsWholeIfSound (if b then j else k)
either_sound true j k a c = a
either_sound false j k a c = c

typed_first : (f : FileData) (v : Variable) (vs : List Variable) → are_typed f (v ∷ vs) ≡ true → (is_typed f v ≡ true) × (are_typed f vs ≡ true)
typed_first f v vs w = and_parts (is_typed f v) (are_typed f vs) w

-- where what is known of a name is whole
known_sound : (b : Bool) (j : Judgement) → b ≡ true → IsWholeIfSound j → IsWholeIfSound (if b then j else suppressed)
known_sound true j e a = a
known_sound false j e a = absurd (true≢false (sym e))

-- ---- the POU of a number that was looked for

if_there : (f : FileData) (test : PouTypeData → Bool) (number k : ℕ) → number_if f test number ≡ Some k → (d : PouData) × (pou_at f k ≡ Some d)
if_there f test number k h = by (pou_at f number) refl h
  where
    by : (o : Option PouData) → pou_at f number ≡ o → (if unwrap_or (option_map test (option_map (λ d. d.pou_type) o)) false then Some number else None) ≡ Some k → (d : PouData) × (pou_at f k ≡ Some d)
    by None e i = absurd (let n : ⊥ = cc in n)
    by (Some d) e i = on (test d.pou_type) i
      where
        on : (b : Bool) → (if b then Some number else None) ≡ Some k → (x : PouData) × (pou_at f k ≡ Some x)
        on true j = let same : number ≡ k = cc in (d, ap (pou_at f) (sym same) ∙ e)
        on false j = absurd (let n : ⊥ = cc in n)

then_there : (f : FileData) (test : PouTypeData → Bool) (o : Option ℕ) (k : ℕ) → option_and_then (number_if f test) o ≡ Some k → (d : PouData) × (pou_at f k ≡ Some d)
then_there f test None k h = absurd (let n : ⊥ = cc in n)
then_there f test (Some number) k h = if_there f test number k h

type_there : (f : FileData) (t : TypeData) (k : ℕ) → block_of_type f t ≡ Some k → (d : PouData) × (pou_at f k ≡ Some d)
type_there f (of_elementary kind at) k h = absurd (let n : ⊥ = cc in n)
type_there f (of_subrange kind at b) k h = absurd (let n : ⊥ = cc in n)
type_there f (of_name n) k h = then_there f is_block (pou_number (standing f n.text)) k h

pub block_there : (f : FileData) (v : Variable) (k : ℕ) → block_of f v ≡ Some k → (d : PouData) × (pou_at f k ≡ Some d)
block_there f v k h = by (is_local v.role) v.kind h
  where
    by : (b : Bool) (t : Option TypeData) → (if b then option_and_then (block_of_type f) t else None) ≡ Some k → (d : PouData) × (pou_at f k ≡ Some d)
    by false t i = absurd (let n : ⊥ = cc in n)
    by true None i = absurd (let n : ⊥ = cc in n)
    by true (Some t) i = type_there f t k i

pub callee_there : (f : FileData) (text : List ℕ) (k : ℕ) → callee_of f text ≡ callees.Function k → (d : PouData) × (pou_at f k ≡ Some d)
callee_there f text k h = by (is_library text && not (is_doubled_in_file f text)) h
  where
    on : (o : Option ℕ) → option_and_then (number_if f (is_callable f)) (pou_number (standing f text)) ≡ o → function_or_unknown o ≡ callees.Function k → (d : PouData) × (pou_at f k ≡ Some d)
    on None e i = absurd (let n : ⊥ = cc in n)
    on (Some number) e i = let same : number ≡ k = cc in then_there f (is_callable f) (pou_number (standing f text)) k (e ∙ ap (λ (n : ℕ). Some n) same)

    by : (b : Bool) → (if b then callees.Standard else function_or_unknown (option_and_then (number_if f (is_callable f)) (pou_number (standing f text)))) ≡ callees.Function k → (d : PouData) × (pou_at f k ≡ Some d)
    by true i = absurd (let n : ⊥ = cc in n)
    by false i = on (option_and_then (number_if f (is_callable f)) (pou_number (standing f text))) refl i

-- ---- the names of a chart

-- a name that a POU declares
abbrev pub IsDeclared : PouScope → Named → Type 0
IsDeclared p n = (v : Variable) × (variable_named n.text p.variables ≡ Some v)

abbrev pub IsDeclaredIf : PouScope → Option Named → Type 0
IsDeclaredIf p None = Unit {0}
IsDeclaredIf p (Some n) = IsDeclared p n

abbrev pub HasName : PouScope → PartData → Type 0
HasName p (step_part s) = IsDeclared p s.name
HasName p (transition_part t) = IsDeclaredIf p t.name
HasName p (action_part a) = IsDeclared p a.name

abbrev pub HaveNames : PouScope → List PartData → Type 0
HaveNames p [] = Unit {0}
HaveNames p (q ∷ qs) = HasName p q × HaveNames p qs

abbrev pub HasNames : PouScope → BodyData → Type 0
HasNames p (statements ss) = Unit {0}
HasNames p (chart_body qs) = HaveNames p qs

module _ (f : FileData) (once : (q : List ℕ) → is_doubled_in_file f q ≡ false) (known : (n : Named) → is_broken_name f (standing f n.text) ≡ false)
    (typed_name : (n : Named) (t : ℕ) → standing f n.text ≡ Some (standings.Type t) → is_whole_type_name f n ≡ true) (ended : (n : Named) (t : ℕ) → standing f n.text ≡ Some (standings.Type t) → is_whole_end f (end_of f t) (end_specification f t) ≡ true)
    (others : (i : ℕ) (d : PouData) → pou_at f i ≡ Some d → (q : List ℕ) (v : Variable) → variable_named q (scope_of d).variables ≡ Some v → is_whole f (scope_of d) v ≡ true) where
  scope_sound : (n : Named) → IsWholeIfSound (in_scope f n)
  scope_sound n h = absurd (some_name f once n (rw (known n) at h))

  type_sound : (n : Named) → IsWholeIfSound (in_type_name f n)
  type_sound n = by (standing f n.text) refl
    where
      by : (o : Option Standing) → standing f n.text ≡ o → IsWholeIfSound (if is_type o then whole_if (is_whole_type_name f n) else in_scope f n)
      by None e = scope_sound n
      by (Some (standings.Type t)) e = λ h. typed_name n t e
      by (Some (standings.Value t k)) e = scope_sound n
      by (Some (standings.Pou p)) e = scope_sound n

  value_sound : (n : Named) → IsWholeIfSound (in_value_name f n)
  value_sound n = either_sound (is_value (standing f n.text)) ok (in_scope f n) (λ h. refl) (scope_sound n)

  enumerator_sound : (t v : Named) → IsWholeIfSound (in_enumerator f t v (standing f t.text))
  enumerator_sound t v = by (standing f t.text) refl
    where
      at : (e : ℕ) (s : Option SpecificationData) → is_whole_end f e s ≡ true → IsWholeIfSound (in_enumeration f e t v s)
      at e None w = absurd (true≢false (sym w))
      at e (Some (of_values place first more)) w =
          known_sound (are_first f e 0 (first ∷ more)) (if list_any (λ n. bytes_eq n.text v.text) (first ∷ more) then ok else unknown v) w
          (either_sound (list_any (λ n. bytes_eq n.text v.text) (first ∷ more)) ok (unknown v) (λ h. refl) (λ h. absurd (let i : ⊥ = cc in i)))
      at e (Some (of_type (of_elementary kind place))) w = λ h. absurd (let i : ⊥ = cc in i)
      at e (Some (of_type (of_subrange kind place b))) w = known_sound (is_whole_end f e (Some (of_type (of_subrange kind place b)))) (misused t) w (λ h. absurd (let i : ⊥ = cc in i))
      at e (Some (of_type (of_name n))) w = absurd (true≢false (sym w))

      by : (o : Option Standing) → standing f t.text ≡ o → IsWholeIfSound (in_enumerator f t v o)
      by None e = scope_sound t
      by (Some (standings.Value u k)) e = scope_sound t
      by (Some (standings.Pou p)) e = scope_sound t
      by (Some (standings.Type number)) e = at (end_of f number) (end_specification f number) (ended t number e)

  -- ---- what is known of names

  seen_whole : (p : PouScope) → ((q : List ℕ) (v : Variable) → variable_named q p.variables ≡ Some v → is_whole f p v ≡ true) → (q : List ℕ) (s : Seen) → seen_named f p q ≡ Some s → s.whole ≡ true
  seen_whole p own q s h = by (variable_named q p.variables) refl h
    where
      by : (o : Option Variable) → variable_named q p.variables ≡ o → option_map (seen f p) o ≡ Some s → s.whole ≡ true
      by None e k = absurd (let n : ⊥ = cc in n)
      by (Some v) e k = let same : seen f p v ≡ s = cc in ap (λ x. x.whole) (sym same) ∙ own q v e

  seen_block : (p : PouScope) (q : List ℕ) (s : Seen) (b : ℕ) → seen_named f p q ≡ Some s → s.block ≡ Some b → (d : PouData) × (pou_at f b ≡ Some d)
  seen_block p q s b h is = by (variable_named q p.variables) h
    where
      by : (o : Option Variable) → option_map (seen f p) o ≡ Some s → (d : PouData) × (pou_at f b ≡ Some d)
      by None k = absurd (let n : ⊥ = cc in n)
      by (Some v) k = let same : seen f p v ≡ s = cc in block_there f v b (ap (λ x. x.block) same ∙ is)

  of_pou_whole : (i : ℕ) (d : PouData) → pou_at f i ≡ Some d → (q : List ℕ) (s : Seen) → seen_named f (scope_of d) q ≡ Some s → s.whole ≡ true
  of_pou_whole i d at = seen_whole (scope_of d) (others i d at)

  member_sound : (b : ℕ) (d : PouData) → pou_at f b ≡ Some d → (n : Named) → IsWholeIfSound (in_member f b n)
  member_sound b d at n = subst (λ o. IsWholeIfSound (unwrap_or (option_map (λ p. member_by (seen_named f (scope_of p) n.text) n) o) suppressed)) (sym at) (by (seen_named f (scope_of d) n.text) refl)
    where
      by : (o : Option Seen) → seen_named f (scope_of d) n.text ≡ o → IsWholeIfSound (member_by o n)
      by None e = λ h. absurd (let i : ⊥ = cc in i)
      by (Some s) e = known_sound s.whole (if is_seen s.role then ok else misused n) (of_pou_whole b d at n.text s e) (either_sound (is_seen s.role) ok (misused n) (λ h. refl) (λ h. absurd (let i : ⊥ = cc in i)))

  members_sound : (b : ℕ) (d : PouData) → pou_at f b ≡ Some d → (first : Named) (ns : List Named) → IsWholeIfSound (in_members f b first ns)
  members_sound b d at first [] = λ h. absurd (let i : ⊥ = cc in i)
  members_sound b d at first (n ∷ ns) = either_sound (in_member f b n).whole (too_deep ns) (in_member f b n) (deep_sound ns) (member_sound b d at n)

  argument_sound : (callee : Callee) (text : List ℕ) → callee_of f text ≡ callee → (n : Option Named) → IsWholeIfSound (in_argument_name f callee n)
  argument_sound callee text is None = λ h. refl
  argument_sound callees.Standard text is (Some n) = λ h. absurd (let i : ⊥ = cc in i)
  argument_sound callees.Unknown text is (Some n) = λ h. refl
  argument_sound (callees.Function number) text is (Some n) =
      let d = callee_there f text number is in
      subst (λ o. IsWholeIfSound (unwrap_or (option_map (λ p. argument_by (seen_named f (scope_of p) n.text) n) o) suppressed)) (sym d.1) (by d.0 d.1 (seen_named f (scope_of d.0) n.text) refl)
    where
      by : (d : PouData) → pou_at f number ≡ Some d → (o : Option Seen) → seen_named f (scope_of d) n.text ≡ o → IsWholeIfSound (argument_by o n)
      by d at None e = λ h. absurd (let i : ⊥ = cc in i)
      by d at (Some s) e = known_sound s.whole (if is_input s.role then ok else misused n) (of_pou_whole number d at n.text s e) (either_sound (is_input s.role) ok (misused n) (λ h. refl) (λ h. absurd (let i : ⊥ = cc in i)))

  called_sound : (callee : Callee) (n : Named) → IsWholeIfSound (in_called f callee n)
  called_sound callees.Standard n = λ h. refl
  called_sound (callees.Function number) n = λ h. refl
  called_sound callees.Unknown n = scope_sound n

  module _ (p : PouScope) (own : (q : List ℕ) (v : Variable) → variable_named q p.variables ≡ Some v → is_whole f p v ≡ true) (single : (q : List ℕ) (v : Variable) → variable_named q p.variables ≡ Some v → is_doubled p q ≡ false) (typed : are_typed f p.variables ≡ true) where
    -- ---- paths

    flag_sound : (first : Named) (ns : List Named) → IsWholeIfSound (in_flag first ns)
    flag_sound first [] = λ h. absurd (let i : ⊥ = cc in i)
    flag_sound first (n ∷ ns) = either_sound (bytes_eq n.text (codes "X")) (too_deep ns) (unknown n) (deep_sound ns) (λ h. absurd (let i : ⊥ = cc in i))

    parts_sound : (b : Option ℕ) → ((k : ℕ) → b ≡ Some k → (d : PouData) × (pou_at f k ≡ Some d)) → (q : PathData) → IsWholeIfSound (in_parts f b q)
    parts_sound None there q = deep_sound q.members
    parts_sound (Some k) there q = let d = there k refl in members_sound k d.0 d.1 q.first q.members

    variable_sound : (text : List ℕ) (s : Seen) → seen_named f p text ≡ Some s → (q : PathData) → IsWholeIfSound (in_variable f s q)
    variable_sound text s e q =
        known_sound s.whole (in_named f s q) (seen_whole p own text s e)
        (either_sound (is_step s.role) (in_flag q.first q.members) (if is_action s.role || is_transition s.role then misused q.first else in_parts f s.block q) (flag_sound q.first q.members)
        (either_sound (is_action s.role || is_transition s.role) (misused q.first) (in_parts f s.block q) (λ h. absurd (let i : ⊥ = cc in i)) (parts_sound s.block (λ k is. seen_block p text s k e is) q)))

    outer_sound : (n : Named) → IsWholeIfSound (in_outer f p n)
    outer_sound n = either_sound (is_fault p.has_fault n.text) (misused n) (in_scope f n) (λ h. absurd (let i : ⊥ = cc in i)) (scope_sound n)

    target_sound : (q : PathData) → IsWholeIfSound (in_target f p (seen_named f p q.first.text) q)
    target_sound q = by (seen_named f p q.first.text) refl
      where
        by : (o : Option Seen) → seen_named f p q.first.text ≡ o → IsWholeIfSound (in_target f p o q)
        by None e = outer_sound q.first
        by (Some s) e = variable_sound q.first.text s e q

    path_sound : (q : PathData) → IsWholeIfSound (in_path f p (seen_named f p q.first.text) q)
    path_sound q = by (seen_named f p q.first.text) refl
      where
        by : (o : Option Seen) → seen_named f p q.first.text ≡ o → IsWholeIfSound (in_path f p o q)
        by None e = either_sound (not (is_fault p.has_fault q.first.text) && is_value (standing f q.first.text)) (too_deep q.members) (in_outer f p q.first) (deep_sound q.members) (outer_sound q.first)
        by (Some s) e = variable_sound q.first.text s e q

    -- ---- expressions

    mutual
      tree_sound : (e : Tree) → IsWholeIfSound (in_tree f p e)
      tree_sound (literal l) = λ h. refl
      tree_sound (path q) = path_sound q
      tree_sound (enumerator t v) = enumerator_sound t v
      tree_sound (paren at e) = tree_sound e
      tree_sound (unary o at e) = tree_sound e
      tree_sound (chain e ls) = both_sound (in_tree f p e) (in_links f p ls) (tree_sound e) (links_sound ls)
      tree_sound (call n at args) = both_sound (in_called f (callee_of f n.text) n) (in_arguments f p (callee_of f n.text) args) (called_sound (callee_of f n.text) n) (arguments_sound (callee_of f n.text) n.text refl args)

      links_sound : (ls : Links) → IsWholeIfSound (in_links f p ls)
      links_sound no_links = λ h. refl
      links_sound (link o at e ls) = both_sound (in_tree f p e) (in_links f p ls) (tree_sound e) (links_sound ls)

      arguments_sound : (callee : Callee) (text : List ℕ) → callee_of f text ≡ callee → (args : Arguments) → IsWholeIfSound (in_arguments f p callee args)
      arguments_sound callee text is no_arguments = λ h. refl
      arguments_sound callee text is (argument n e args) =
          both_sound (and (in_argument_name f callee n) (in_tree f p e)) (in_arguments f p callee args)
          (both_sound (in_argument_name f callee n) (in_tree f p e) (argument_sound callee text is n) (tree_sound e)) (arguments_sound callee text is args)

    -- ---- constants

    named_sound : (n : Named) → IsWholeIfSound (in_value f p (seen_named f p n.text) n)
    named_sound n = by (seen_named f p n.text) refl
      where
        by : (o : Option Seen) → seen_named f p n.text ≡ o → IsWholeIfSound (in_value f p o n)
        by None e = either_sound (is_fault p.has_fault n.text) (misused n) (in_value_name f n) (λ h. absurd (let i : ⊥ = cc in i)) (value_sound n)
        by (Some s) e = known_sound s.whole (misused n) (seen_whole p own n.text s e) (λ h. absurd (let i : ⊥ = cc in i))

    constant_sound : (e : Tree) → IsWholeIfSound (in_constant f p e)
    constant_sound (literal l) = λ h. refl
    constant_sound (path q) = named_sound q.first
    constant_sound (enumerator t v) = enumerator_sound t v
    constant_sound (paren at e) = λ h. refl
    constant_sound (unary o at e) = λ h. refl
    constant_sound (chain e ls) = λ h. refl
    constant_sound (call n at args) = λ h. refl

    constant_if_sound : (e : Option Tree) → IsWholeIfSound (in_constant_if f p e)
    constant_if_sound None = λ h. refl
    constant_if_sound (Some e) = constant_sound e

    declared_sound : (k : ℕ) (e : Tree) → IsWholeIfSound (in_declared_constant f p k e)
    declared_sound k (literal l) = λ h. refl
    declared_sound k (path q) = either_sound (is_circular_variable p k q.first) (misused q.first) (in_value f p (seen_named f p q.first.text) q.first) (λ h. absurd (let i : ⊥ = cc in i)) (named_sound q.first)
    declared_sound k (enumerator t v) = enumerator_sound t v
    declared_sound k (paren at e) = λ h. refl
    declared_sound k (unary o at e) = λ h. refl
    declared_sound k (chain e ls) = λ h. refl
    declared_sound k (call n at args) = λ h. refl

    initial_sound : (k : ℕ) (e : Option Tree) → IsWholeIfSound (in_initial f p k e)
    initial_sound k None = λ h. refl
    initial_sound k (Some e) = declared_sound k e

    kind_sound : (k : ℕ) (v : Variable) → is_typed f v ≡ true → (t : Option TypeData) → IsWholeIfSound (in_kind f p k v t)
    kind_sound k v w None = λ h. refl
    kind_sound k v w (Some (of_elementary kind at)) = λ h. refl
    kind_sound k v w (Some (of_subrange kind at b)) = both_sound (in_declared_constant f p k b.low) (in_declared_constant f p k b.high) (declared_sound k b.low) (declared_sound k b.high)
    kind_sound k v w (Some (of_name n)) =
        either_sound (is_result v.role) (whole_if (is_typed f v)) (if is_some (block_of_type f (of_name n)) then (if is_local v.role then ok else misused v.name) else in_type_name f n) (λ h. w)
        (either_sound (is_some (block_of_type f (of_name n))) (if is_local v.role then ok else misused v.name) (in_type_name f n) (either_sound (is_local v.role) ok (misused v.name) (λ h. refl) (λ h. absurd (let i : ⊥ = cc in i))) (type_sound n))

    declarations_sound : (number : ℕ) (vs : List Variable) → are_typed f vs ≡ true → IsWholeIfSound (in_declarations f p number vs)
    declarations_sound number [] w = λ h. refl
    declarations_sound number (v ∷ vs) w =
        let two = typed_first f v vs w in
        both_sound (in_declaration f p number v) (in_declarations f p (number + 1) vs) (both_sound (in_kind f p number v v.kind) (in_initial f p number v.initial) (kind_sound number v two.0 v.kind) (initial_sound number v.initial)) (declarations_sound (number + 1) vs two.1)

    twice_sound : (before vs : List Variable) → IsWholeIfSound (variables_twice p.has_fault before vs)
    twice_sound before [] = λ h. refl
    twice_sound before (v ∷ vs) =
        both_sound (if is_fault p.has_fault v.name.text || list_any (is_of_name v.name.text) before then twice v.name else ok) (variables_twice p.has_fault (before ++ v ∷ []) vs)
        (either_sound (is_fault p.has_fault v.name.text || list_any (is_of_name v.name.text) before) (twice v.name) ok (λ h. absurd (let i : ⊥ = cc in i)) (λ h. refl))
        (twice_sound (before ++ v ∷ []) vs)

    -- ---- statements

    labels_sound : (ls : List LabelData) → IsWholeIfSound (in_labels f p ls)
    labels_sound [] = λ h. refl
    labels_sound (l ∷ ls) = both_sound (in_label f p l) (in_labels f p ls) (both_sound (in_constant f p l.low) (in_constant_if f p l.high) (constant_sound l.low) (constant_if_sound l.high)) (labels_sound ls)

    step_sound : (e : Option Tree) → IsWholeIfSound (in_step f p e)
    step_sound None = λ h. refl
    step_sound (Some e) = tree_sound e

    iteration_sound : (i : IterationData) → IsWholeIfSound (in_iteration f p i)
    iteration_sound i =
        let control = in_target f p (seen_named f p i.control.text) (alone i.control) in
        both_sound (and (and control (in_tree f p i.first)) (in_tree f p i.last)) (in_step f p i.step)
        (both_sound (and control (in_tree f p i.first)) (in_tree f p i.last) (both_sound control (in_tree f p i.first) (target_sound (alone i.control)) (tree_sound i.first)) (tree_sound i.last)) (step_sound i.step)

    instance_sound : (n : Named) → IsWholeIfSound (in_instance f p (seen_named f p n.text) n)
    instance_sound n = by (seen_named f p n.text) refl
      where
        by : (o : Option Seen) → seen_named f p n.text ≡ o → IsWholeIfSound (in_instance f p o n)
        by None e = outer_sound n
        by (Some s) e = known_sound s.whole (if is_some s.block then ok else misused n) (seen_whole p own n.text s e) (either_sound (is_some s.block) ok (misused n) (λ h. refl) (λ h. absurd (let i : ⊥ = cc in i)))

    instance_there : (text : List ℕ) (o : Option Seen) → seen_named f p text ≡ o → (k : ℕ) → instance_of o ≡ Some k → (d : PouData) × (pou_at f k ≡ Some d)
    instance_there text None e k h = absurd (let n : ⊥ = cc in n)
    instance_there text (Some s) e k h = seen_block p text s k e (by s.whole h)
      where
        by : (b : Bool) → (if b then s.block else None) ≡ Some k → s.block ≡ Some k
        by true i = i
        by false i = absurd (let n : ⊥ = cc in n)

    module _ (block : Option ℕ) (there : (k : ℕ) → block ≡ Some k → (d : PouData) × (pou_at f k ≡ Some d)) where
      connected_sound : (n : Named) → IsWholeIfSound (in_connected f block n)
      connected_sound n = by block there
        where
          by : (o : Option ℕ) → ((k : ℕ) → o ≡ Some k → (d : PouData) × (pou_at f k ≡ Some d)) → IsWholeIfSound (in_connected f o n)
          by None t = λ h. refl
          by (Some k) t = let d = t k refl in member_sound k d.0 d.1 n

      connections_sound : (cs : List ConnectionData) → IsWholeIfSound (in_connections f p block cs)
      connections_sound [] = λ h. refl
      connections_sound (input n e ∷ cs) =
          both_sound (in_connection f p block (input n e)) (in_connections f p block cs) (both_sound (in_connected f block n) (in_tree f p e) (connected_sound n) (tree_sound e)) (connections_sound cs)
      connections_sound (output n q ∷ cs) =
          both_sound (in_connection f p block (output n q)) (in_connections f p block cs) (both_sound (in_connected f block n) (in_target f p (seen_named f p q.first.text) q) (connected_sound n) (target_sound q)) (connections_sound cs)

    mutual
      stmt_sound : (s : Stmt) → IsWholeIfSound (in_stmt f p s)
      stmt_sound empty = λ h. refl
      stmt_sound (assign q e) = both_sound (in_target f p (seen_named f p q.first.text) q) (in_tree f p e) (target_sound q) (tree_sound e)
      stmt_sound (invoke n at cs) =
          let s = seen_named f p n.text in
          both_sound (in_instance f p s n) (in_connections f p (instance_of s) cs) (instance_sound n) (connections_sound (instance_of s) (instance_there n.text s refl) cs)
      stmt_sound (branch arms other) = both_sound (in_arms f p arms) (in_else f p other) (arms_sound arms) (else_sound other)
      stmt_sound (cases e es other) = both_sound (and (in_tree f p e) (in_entries f p es)) (in_else f p other) (both_sound (in_tree f p e) (in_entries f p es) (tree_sound e) (entries_sound es)) (else_sound other)
      stmt_sound (iterate i ss) = both_sound (in_iteration f p i) (in_stmts f p ss) (iteration_sound i) (stmts_sound ss)
      stmt_sound (exit at) = λ h. refl
      stmt_sound return = λ h. refl

      stmts_sound : (ss : Stmts) → IsWholeIfSound (in_stmts f p ss)
      stmts_sound no_stmts = λ h. refl
      stmts_sound (stmt s ss) = both_sound (in_stmt f p s) (in_stmts f p ss) (stmt_sound s) (stmts_sound ss)

      arms_sound : (arms : Arms) → IsWholeIfSound (in_arms f p arms)
      arms_sound no_arms = λ h. refl
      arms_sound (arm e ss arms) = both_sound (and (in_tree f p e) (in_stmts f p ss)) (in_arms f p arms) (both_sound (in_tree f p e) (in_stmts f p ss) (tree_sound e) (stmts_sound ss)) (arms_sound arms)

      entries_sound : (es : Entries) → IsWholeIfSound (in_entries f p es)
      entries_sound no_entries = λ h. refl
      entries_sound (entry ls ss es) = both_sound (and (in_labels f p ls) (in_stmts f p ss)) (in_entries f p es) (both_sound (in_labels f p ls) (in_stmts f p ss) (labels_sound ls) (stmts_sound ss)) (entries_sound es)

      else_sound : (other : Otherwise) → IsWholeIfSound (in_else f p other)
      else_sound no_else = λ h. refl
      else_sound (else_stmts ss) = stmts_sound ss

    -- ---- charts

    own_name_sound : (n : Named) → IsDeclared p n → IsWholeIfSound (in_own_name p n)
    own_name_sound n there = λ h. ap not (single n.text there.0 there.1)

    own_name_if_sound : (n : Option Named) → IsDeclaredIf p n → IsWholeIfSound (in_own_name_if p n)
    own_name_if_sound None there = λ h. refl
    own_name_if_sound (Some n) there = own_name_sound n there

    action_by_sound : (n : Named) → IsWholeIfSound (action_by (seen_named f p n.text) n)
    action_by_sound n = by (seen_named f p n.text) refl
      where
        by : (o : Option Seen) → seen_named f p n.text ≡ o → IsWholeIfSound (action_by o n)
        by None e = broken_sound UnknownAction n.at
        by (Some s) e = known_sound s.whole (if is_action s.role then ok else breaks UnknownAction n.at) (seen_whole p own n.text s e) (either_sound (is_action s.role) ok (breaks UnknownAction n.at) (λ h. refl) (broken_sound UnknownAction n.at))

    word_sound : (n : Option Named) → IsWholeIfSound (in_word n)
    word_sound None = λ h. refl
    word_sound (Some n) = either_sound (is_some (qualifier_named n.text)) ok (breaks UnknownQualifier n.at) (λ h. refl) (broken_sound UnknownQualifier n.at)

    associations_sound : (actions : List StepActionData) → IsWholeIfSound (in_associations f p actions)
    associations_sound [] = λ h. refl
    associations_sound (a ∷ rest) =
        both_sound (in_association f p a) (in_associations f p rest) (both_sound (action_by (seen_named f p a.action.text) a.action) (in_word (word_of a.brackets)) (action_by_sound a.action) (word_sound (word_of a.brackets))) (associations_sound rest)

    step_by_sound : (n : Named) → IsWholeIfSound (step_by (seen_named f p n.text) n)
    step_by_sound n = by (seen_named f p n.text) refl
      where
        by : (o : Option Seen) → seen_named f p n.text ≡ o → IsWholeIfSound (step_by o n)
        by None e = broken_sound UnknownStep n.at
        by (Some s) e = known_sound s.whole (if is_step s.role then ok else breaks UnknownStep n.at) (seen_whole p own n.text s e) (either_sound (is_step s.role) ok (breaks UnknownStep n.at) (λ h. refl) (broken_sound UnknownStep n.at))

    listed_sound : (before : List (List ℕ)) (n : Named) → IsWholeIfSound (in_listed f p before n)
    listed_sound before n =
        let step = step_by (seen_named f p n.text) n in
        either_sound (step.whole && list_any (λ text. bytes_eq text n.text) before) (breaks StepTwice n.at) step (broken_sound StepTwice n.at) (step_by_sound n)

    listed_from_sound : (before : List (List ℕ)) (ns : List Named) → IsWholeIfSound (in_listed_from f p before ns)
    listed_from_sound before [] = λ h. refl
    listed_from_sound before (n ∷ ns) = both_sound (in_listed f p before n) (in_listed_from f p (before ++ n.text ∷ []) ns) (listed_sound before n) (listed_from_sound (before ++ n.text ∷ []) ns)

    part_sound : (q : PartData) → HasName p q → IsWholeIfSound (in_part f p q)
    part_sound (step_part s) there = both_sound (in_own_name p s.name) (in_associations f p s.actions) (own_name_sound s.name there) (associations_sound s.actions)
    part_sound (transition_part t) there =
        both_sound (in_own_name_if p t.name) (and (in_steps f p t.from) (and (in_steps f p t.to) (in_tree f p t.condition))) (own_name_if_sound t.name there)
        (both_sound (in_steps f p t.from) (and (in_steps f p t.to) (in_tree f p t.condition)) (listed_from_sound [] (steps_in t.from))
        (both_sound (in_steps f p t.to) (in_tree f p t.condition) (listed_from_sound [] (steps_in t.to)) (tree_sound t.condition)))
    part_sound (action_part a) there = both_sound (in_own_name p a.name) (in_stmts f p a.body) (own_name_sound a.name there) (stmts_sound a.body)

    chart_parts_sound : (qs : List PartData) → HaveNames p qs → IsWholeIfSound (in_chart_parts f p qs)
    chart_parts_sound [] there = λ h. refl
    chart_parts_sound (q ∷ qs) there = both_sound (in_part f p q) (in_chart_parts f p qs) (part_sound q there.0) (chart_parts_sound qs there.1)

    body_sound : (b : BodyData) → HasNames p b → IsWholeIfSound (in_body f p b)
    body_sound (statements ss) there = stmts_sound ss
    body_sound (chart_body qs) there =
        either_sound ((in_chart_parts f p qs).whole && not (count_by is_initial_part qs == 1)) (breaks NotOneInitialStep (place_of_chart qs)) (in_chart_parts f p qs) (broken_sound NotOneInitialStep (place_of_chart qs)) (chart_parts_sound qs there)

    pub pou_sound : (b : BodyData) → HasNames p b → IsWholeIfSound (in_pou_scope f p b)
    unfolding in_pou_scope
    pou_sound b there =
        both_sound (and (variables_twice p.has_fault [] p.variables) (in_declarations f p 0 p.variables)) (in_body f p b)
        (both_sound (variables_twice p.has_fault [] p.variables) (in_declarations f p 0 p.variables) (twice_sound [] p.variables) (declarations_sound 0 p.variables typed)) (body_sound b there)
