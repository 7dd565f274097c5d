-- The transitions of a chart whose names are whole name its steps, and so do its stored actions' associations.
use Rattle.std.proofs.Common.{◌≡◌, ℕ, ◌+◌, ◌<◌, List, [], ◌∷◌, ◌++◌, length, map, Bool, true, false, true≢false, not, ◌&&◌, ◌||◌, ◌==◌, Option, Some, None, option_map, option_and_then, if◌then◌else◌, count_by, refl, sym, ap, ◌∙◌, subst, append_assoc, arith}
use Rattle.std.specs.Prelude.{All}
use Rattle.std.specs.List.{list_any}
use Rattle.std.specs.Str.{bytes_eq}
use Rattle.std.proofs.lemmas.Bool.{not-true}
use Rattle.std.proofs.lemmas.List.Folds.{list_any-append}
use Rattle.std.proofs.lemmas.List.Elements.{All-nil, All-cons}
use Rattle.program_tree.specs.declared.typed.Qualifier.{Qualifier}
use Rattle.program_tree.specs.declared.typed.Association.{Association}
use Rattle.rules.specs.declared.rule.Rule.TheVariants.{UnknownStep, StepTwice, NotOneInitialStep}
use Rattle.rules.specs.Judgements.{ok, suppressed, and, breaks}
use Rattle.source_tree.specs.declared.syntax.Section.{Section}
use Rattle.source_tree.specs.declared.syntax.Section.TheVariants as sections
use Rattle.source_tree.specs.Syntax.{Named, DeclarationData, VariablesData, StepActionData, ChartStepData, PartData, step_part, transition_part, action_part, BodyData, statements, chart as chart_body, PouTypeData, function, function_block, program, PouData, FileData}
use Rattle.program_tree.specs.ChartPlaces.{AreSteps, NameSteps, IsAssociated}
use Rattle.naming.specs.declared.role.Role.TheVariants as roles
use Rattle.naming.specs.ChartWords.{qualifier_of, is_storing, stores, is_stored}
use Rattle.naming.specs.FileScope.{pou_at}
use Rattle.naming.specs.Scopes.{Variable, role_of, declared_by, declared_in, variables_of, result_of, of_chart, step_role, action_role, transition_named, declared_by_part, declared_by_parts, names_in_body, variables_in_pou, is_step, is_of_name, variable_named, is_doubled, seen, seen_named, scope_of as names_of}
use Rattle.naming.specs.Broken.{alone, in_tree, in_own_name, in_own_name_if, in_stmts, step_by, in_listed, in_listed_from, steps_in, in_steps, in_part, in_chart_parts, is_initial_part, place_of_chart, in_chart, in_body}
use Rattle.sfc_shape.specs.Shapes.{steps_of, transitions_of, actions_of, step_number, association_with, associated, associated_from, associations_of}
use Rattle.typing.specs.declared.scope.Place.{Place}
use Rattle.typing.specs.declared.scope.Place.TheVariants as places
use Rattle.typing.specs.declared.member.Member.{Member}
use Rattle.typing.specs.Typing.{by_path}
use Rattle.typing.specs.Variables.{initial_of}
use Rattle.typing.specs.Places.{has_cell, first_places}
use Rattle.typing.specs.Members.{place_at, member_in, variable_or_value, scope_of}
use Rattle.typing.specs.TypedCharts.{latch_place, latch_of}
use Rattle.alike_scopes.specs.typed_scopes.Charts.{NamesSteps, IsNamedBySteps}
use Rattle.alike_scopes.proofs.typed_scopes.Wholes.{whole_and}
use Rattle.whole_files.specs.WholePous.{IsNamedChart, IsNamedBody}
use Rattle.alike_scopes.proofs.bound_names.NameParts.{never, holds_by, fails_by}
use Rattle.alike_scopes.proofs.bound_names.SingleNames.{single_named}
use Rattle.whole_files.proofs.WholeMembers.{member_found}

-- ---- a name of a step is that of a step of the chart

-- a step of a name
abbrev is_step_named : List ℕ → Variable → Bool
is_step_named text v = is_of_name text v && is_step v.role

step_among : (text : List ℕ) (vs : List Variable) (v : Variable) → variable_named text vs ≡ Some v → is_step v.role ≡ true → list_any (is_step_named text) vs ≡ true
step_among text [] v h step = absurd (let e : ⊥ = cc in e)
step_among text (x ∷ vs) v h step = by (is_of_name text x) h (λ k. step_among text vs v k step)
  where
    by : (b : Bool) → (if b then Some x else variable_named text vs) ≡ Some v → (variable_named text vs ≡ Some v → list_any (is_step_named text) vs ≡ true) → ((b && is_step x.role) || list_any (is_step_named text) vs) ≡ true
    by true k rest = let same : x ≡ v = cc in ap (λ (y : Variable). is_step y.role || list_any (is_step_named text) vs) same ∙ ap (λ (b : Bool). b || list_any (is_step_named text) vs) step
    by false k rest = rest k

no_step : (text : List ℕ) (v : Variable) → is_step v.role ≡ false → is_step_named text v ≡ false
no_step text v h = by (is_of_name text v) (is_step v.role) h
  where
    by : (b s : Bool) → s ≡ false → (b && s) ≡ false
    by true s e = e
    by false s e = refl

abbrev HasNoStep : List ℕ → List Variable → Type 0
HasNoStep text vs = list_any (is_step_named text) vs ≡ false

none_either : (text : List ℕ) (vs ws : List Variable) → HasNoStep text vs → HasNoStep text ws → HasNoStep text (vs ++ ws)
none_either text vs ws a b = list_any-append (is_step_named text) vs ws ∙ (λ i. a i || b i)

section_no_step : (s : Section) → is_step (role_of s) ≡ false
section_no_step sections.Input = refl
section_no_step sections.Output = refl
section_no_step sections.Local = refl
section_no_step sections.Temporary = refl
section_no_step sections.Constant = refl

names_no_step : (text : List ℕ) (s : Section) (d : DeclarationData) (ns : List Named) → HasNoStep text (map (λ n. record { name = n; role = role_of s; kind = Some d.kind; initial = d.initial }) ns)
names_no_step text s d [] = refl
names_no_step text s d (n ∷ ns) =
    let v : Variable = record { name = n; role = role_of s; kind = Some d.kind; initial = d.initial } in
    λ i. no_step text v (section_no_step s) i || names_no_step text s d ns i

declared_no_step : (text : List ℕ) (s : Section) (ds : List DeclarationData) → HasNoStep text (declared_in (role_of s) ds)
declared_no_step text s [] = refl
declared_no_step text s (d ∷ ds) = none_either text (declared_by (role_of s) d) (declared_in (role_of s) ds) (names_no_step text s d (d.first ∷ d.others)) (declared_no_step text s ds)

variables_no_step : (text : List ℕ) (vs : List VariablesData) → HasNoStep text (variables_of vs)
variables_no_step text [] = refl
variables_no_step text (v ∷ vs) = none_either text (declared_in (role_of v.section) v.declarations) (variables_of vs) (declared_no_step text v.section v.declarations) (variables_no_step text vs)

result_no_step : (text : List ℕ) (k : PouTypeData) (n : Named) → HasNoStep text (result_of k n)
result_no_step text (function t) n = let v : Variable = record { name = n; role = roles.Result; kind = Some t; initial = None } in λ i. no_step text v refl i || false
result_no_step text function_block n = refl
result_no_step text program n = refl

-- a step of a name among those of a chart
abbrev is_text : List ℕ → ChartStepData → Bool
is_text text s = bytes_eq s.name.text text

step_is : (initial : Bool) → is_step (step_role initial) ≡ true
step_is true = refl
step_is false = refl

action_is : (stored : Bool) → is_step (action_role stored) ≡ false
action_is true = refl
action_is false = refl

named_step : (text : List ℕ) (s : ChartStepData) → is_step_named text (of_chart (step_role s.is_initial) s.name) ≡ is_text text s
named_step text s = by (is_text text s) (is_step (step_role s.is_initial)) (step_is s.is_initial)
  where
    by : (b c : Bool) → c ≡ true → (b && c) ≡ b
    by true c e = e
    by false c e = refl

transition_no_step : (text : List ℕ) (n : Option Named) → HasNoStep text (transition_named n)
transition_no_step text None = refl
transition_no_step text (Some n) = λ i. no_step text (of_chart roles.Transition n) refl i || false

or_none : (a b : Bool) → a ≡ false → (a || b) ≡ b
or_none true b e = absurd (true≢false e)
or_none false b e = refl

steps_named : (text : List ℕ) (stored : List ℕ → Bool) (qs : List PartData) → list_any (is_step_named text) (declared_by_parts stored qs) ≡ list_any (is_text text) (steps_of qs)
steps_named text stored [] = refl
steps_named text stored (step_part s ∷ qs) = λ i. named_step text s i || steps_named text stored qs i
steps_named text stored (transition_part t ∷ qs) =
    list_any-append (is_step_named text) (transition_named t.name) (declared_by_parts stored qs)
    ∙ or_none (list_any (is_step_named text) (transition_named t.name)) (list_any (is_step_named text) (declared_by_parts stored qs)) (transition_no_step text t.name)
    ∙ steps_named text stored qs
steps_named text stored (action_part a ∷ qs) =
    or_none (is_step_named text (of_chart (action_role (stored a.name.text)) a.name)) (list_any (is_step_named text) (declared_by_parts stored qs)) (no_step text (of_chart (action_role (stored a.name.text)) a.name) (action_is (stored a.name.text)))
    ∙ steps_named text stored qs

numbered : (text : List ℕ) (i : ℕ) (ss : List ChartStepData) → list_any (is_text text) ss ≡ true → step_number i ss text < i + length ss
numbered text i [] h = absurd (true≢false (sym h))
numbered text i (s ∷ ss) h = by (is_text text s) h (numbered text (i + 1) ss)
  where
    by : (b : Bool) → (b || list_any (is_text text) ss) ≡ true → (list_any (is_text text) ss ≡ true → step_number (i + 1) ss text < i + 1 + length ss) → (if b then i else step_number (i + 1) ss text) < i + length (s ∷ ss)
    by true k rest = omega arith
    by false k rest = let r = rest k in omega arith

-- ---- associations

module _ (text : List ℕ) where
  name_append : (n : ℕ) (xs ys : List Association) → NameSteps n xs → NameSteps n ys → NameSteps n (xs ++ ys)
  name_append n [] ys a b = b
  name_append n (x ∷ xs) ys a b = (a.0, name_append n xs ys a.1 b)

  with_step : (n i : ℕ) (q : Option Qualifier) → i < n → NameSteps n (association_with i q)
  with_step n i None below = tt
  with_step n i (Some q) below = (below, tt)

  names_of_step : (n i : ℕ) (actions : List StepActionData) → i < n → NameSteps n (associated text i actions)
  names_of_step n i [] below = tt
  names_of_step n i (a ∷ rest) below = name_append n (if bytes_eq a.action.text text then association_with i (qualifier_of a) else []) (associated text i rest) (by (bytes_eq a.action.text text)) (names_of_step n i rest below)
    where
      by : (b : Bool) → NameSteps n (if b then association_with i (qualifier_of a) else [])
      by true = with_step n i (qualifier_of a) below
      by false = tt

  names_from : (n i : ℕ) (ss : List ChartStepData) → i + length ss ≡ n → NameSteps n (associated_from text i ss)
  names_from n i [] fits = tt
  names_from n i (s ∷ ss) fits = name_append n (associated text i s.actions) (associated_from text (i + 1) ss) (names_of_step n i s.actions (omega arith)) (names_from n (i + 1) ss (omega arith))

  -- an action that is stored has an association
  module _ (c : ℕ) where
    first_some : (xs ys : List Association) → IsAssociated (Some c) xs → IsAssociated (Some c) (xs ++ ys)
    first_some [] ys h = absurd h
    first_some (x ∷ xs) ys h = tt

    behind_some : (xs ys : List Association) → IsAssociated (Some c) ys → IsAssociated (Some c) (xs ++ ys)
    behind_some [] ys h = h
    behind_some (x ∷ xs) ys h = tt

    storing_some : (i : ℕ) (q : Option Qualifier) → is_storing q ≡ true → IsAssociated (Some c) (association_with i q)
    storing_some i None h = absurd (true≢false (sym h))
    storing_some i (Some q) h = tt

    stored_step : (i : ℕ) (actions : List StepActionData) → list_any (stores text) actions ≡ true → IsAssociated (Some c) (associated text i actions)
    stored_step i [] h = absurd (true≢false (sym h))
    stored_step i (a ∷ rest) h = by (bytes_eq a.action.text text) (is_storing (qualifier_of a)) refl h (stored_step i rest)
      where
        by : (b s : Bool) → is_storing (qualifier_of a) ≡ s → ((b && s) || list_any (stores text) rest) ≡ true → (list_any (stores text) rest ≡ true → IsAssociated (Some c) (associated text i rest))
            → IsAssociated (Some c) ((if b then association_with i (qualifier_of a) else []) ++ associated text i rest)
        by true true e k more = first_some (association_with i (qualifier_of a)) (associated text i rest) (storing_some i (qualifier_of a) e)
        by true false e k more = behind_some (association_with i (qualifier_of a)) (associated text i rest) (more k)
        by false s e k more = more k

    stored_from : (i : ℕ) (qs : List PartData) → is_stored qs text ≡ true → IsAssociated (Some c) (associated_from text i (steps_of qs))
    stored_from i [] h = absurd (true≢false (sym h))
    stored_from i (step_part s ∷ qs) h = by (list_any (stores text) s.actions) refl h (stored_from (i + 1) qs)
      where
        by : (b : Bool) → list_any (stores text) s.actions ≡ b → (b || is_stored qs text) ≡ true → (is_stored qs text ≡ true → IsAssociated (Some c) (associated_from text (i + 1) (steps_of qs)))
            → IsAssociated (Some c) (associated text i s.actions ++ associated_from text (i + 1) (steps_of qs))
        by true e k more = first_some (associated text i s.actions) (associated_from text (i + 1) (steps_of qs)) (stored_step i s.actions e)
        by false e k more = behind_some (associated text i s.actions) (associated_from text (i + 1) (steps_of qs)) (more k)
    stored_from i (transition_part t ∷ qs) h = stored_from i qs h
    stored_from i (action_part a ∷ qs) h = stored_from i qs h

action_cell : (stored : Bool) → has_cell (action_role stored) ≡ stored
action_cell true = refl
action_cell false = refl

module _ (f : FileData) (k : ℕ) (d : PouData) (at : pou_at f k ≡ Some d) (ps : List PartData) (is : d.body ≡ chart_body ps) (sizes : List ℕ) where
  all_are : variables_in_pou d ≡ result_of d.pou_type d.name ++ variables_of d.variables ++ declared_by_parts (is_stored ps) ps
  all_are = ap (λ (b : BodyData). result_of d.pou_type d.name ++ variables_of d.variables ++ names_in_body b) is

  -- ---- transitions

  step_there : (text : List ℕ) (v : Variable) → variable_named text (variables_in_pou d) ≡ Some v → is_step v.role ≡ true → list_any (is_text text) (steps_of ps) ≡ true
  step_there text v named step =
      let front = result_of d.pou_type d.name ++ variables_of d.variables in
      let own = declared_by_parts (is_stored ps) ps in
      let none = none_either text (result_of d.pou_type d.name) (variables_of d.variables) (result_no_step text d.pou_type d.name) (variables_no_step text d.variables) in
      sym (steps_named text (is_stored ps) ps)
      ∙ sym (or_none (list_any (is_step_named text) front) (list_any (is_step_named text) own) none)
      ∙ sym (list_any-append (is_step_named text) front own)
      ∙ ap (list_any (is_step_named text)) (sym all_are)
      ∙ step_among text (variables_in_pou d) v named step

  step_by_whole : (n : Named) (o : Option Variable) → variable_named n.text (variables_in_pou d) ≡ o → (step_by (option_map (seen f (names_of d)) o) n).whole ≡ true → list_any (is_text n.text) (steps_of ps) ≡ true
  step_by_whole n None e h = absurd (never false refl h)
  step_by_whole n (Some v) e h =
      let s = seen f (names_of d) v in
      let two = holds_by s.whole (if is_step v.role then ok else breaks UnknownStep n.at) suppressed (never false refl) h in
      step_there n.text v e (holds_by (is_step v.role) ok (breaks UnknownStep n.at) (never false refl) two.1).0

  listed_number : (before : List (List ℕ)) (n : Named) → (in_listed f (names_of d) before n).whole ≡ true → step_number 0 (steps_of ps) n.text < length (steps_of ps)
  listed_number before n h =
      let step = step_by (seen_named f (names_of d) n.text) n in
      let whole = (fails_by (step.whole && list_any (λ text. bytes_eq text n.text) before) (breaks StepTwice n.at) step (never false refl) h).1 in
      let r = numbered n.text 0 (steps_of ps) (step_by_whole n (variable_named n.text (variables_in_pou d)) refl whole) in
      omega arith

  listed_numbers : (before : List (List ℕ)) (ns : List Named) → (in_listed_from f (names_of d) before ns).whole ≡ true → AreSteps (length (steps_of ps)) (map (λ n. step_number 0 (steps_of ps) n.text) ns)
  listed_numbers before [] h = tt
  listed_numbers before (n ∷ ns) h =
      let two = whole_and (in_listed f (names_of d) before n) (in_listed_from f (names_of d) (before ++ n.text ∷ []) ns) h in
      (listed_number before n two.0, listed_numbers (before ++ n.text ∷ []) ns two.1)

  transitions_named : (qs : List PartData) → (in_chart_parts f (names_of d) qs).whole ≡ true → All (NamesSteps ps) (transitions_of qs)
  transitions_named [] h = All-nil (NamesSteps ps)
  transitions_named (step_part s ∷ qs) h = transitions_named qs (whole_and (in_part f (names_of d) (step_part s)) (in_chart_parts f (names_of d) qs) h).1
  transitions_named (transition_part t ∷ qs) h =
      let p = names_of d in
      let two = whole_and (in_part f p (transition_part t)) (in_chart_parts f p qs) h in
      let own = whole_and (in_own_name_if p t.name) (and (in_steps f p t.from) (and (in_steps f p t.to) (in_tree f p t.condition))) two.0 in
      let from = whole_and (in_steps f p t.from) (and (in_steps f p t.to) (in_tree f p t.condition)) own.1 in
      let to = whole_and (in_steps f p t.to) (in_tree f p t.condition) from.1 in
      All-cons (NamesSteps ps) t (transitions_of qs) (listed_numbers [] (steps_in t.from) from.0, listed_numbers [] (steps_in t.to) to.0) (transitions_named qs two.1)
  transitions_named (action_part a ∷ qs) h = transitions_named qs (whole_and (in_part f (names_of d) (action_part a)) (in_chart_parts f (names_of d) qs) h).1

  -- ---- actions

  latch_is : (n : Named) (v : Variable) → variable_named n.text (variables_in_pou d) ≡ Some v → (c : ℕ) × (latch_of ((scope_of f sizes k).means (by_path (alone n))) ≡ latch_place (place_at f c v))
  latch_is n v named =
      let vs = variables_in_pou d in
      let r = member_found f sizes n.text (first_places f sizes d.pou_type vs) vs v named in
      (r.0, ap (λ (o : Option PouData). latch_of (variable_or_value f sizes n.text [] (option_and_then (member_in f sizes n.text) o))) at ∙ ap (λ (m : Option Member). latch_of (variable_or_value f sizes n.text [] m)) r.1)

  associated_by : (n : Named) (stored : Bool) → is_stored ps n.text ≡ stored → (c : ℕ) (initial : Place) → IsAssociated (latch_place (if stored then places.Cell c else places.Value (initial_of f (of_chart (action_role (is_stored ps n.text)) n)))) (associations_of ps n.text)
  associated_by n true e c initial = stored_from n.text c 0 ps e
  associated_by n false e c initial = tt

  action_associated : (n : Named) → variable_named n.text (variables_in_pou d) ≡ Some (of_chart (action_role (is_stored ps n.text)) n) → IsAssociated (latch_of ((scope_of f sizes k).means (by_path (alone n)))) (associations_of ps n.text)
  action_associated n named =
      let stored = is_stored ps n.text in
      let v = of_chart (action_role stored) n in
      let r = latch_is n v named in
      let place : place_at f r.0 v ≡ (if stored then places.Cell r.0 else places.Value (initial_of f v)) = ap (λ (h : Bool). if h then places.Cell r.0 else places.Value (initial_of f v)) (action_cell stored) in
      subst (λ (o : Option ℕ). IsAssociated o (associations_of ps n.text)) (sym (r.1 ∙ ap latch_place place)) (associated_by n stored refl r.0 (places.Cell 0))

  actions_named : (before : List Variable) (qs : List PartData) → variables_in_pou d ≡ before ++ declared_by_parts (is_stored ps) qs → (in_chart_parts f (names_of d) qs).whole ≡ true → All (IsNamedBySteps (scope_of f sizes k) ps) (actions_of qs)
  actions_named before [] all h = All-nil (IsNamedBySteps (scope_of f sizes k) ps)
  actions_named before (step_part s ∷ qs) all h =
      let own = declared_by_part (is_stored ps) (step_part s) in
      actions_named (before ++ own) qs (all ∙ sym (append_assoc before own (declared_by_parts (is_stored ps) qs))) (whole_and (in_part f (names_of d) (step_part s)) (in_chart_parts f (names_of d) qs) h).1
  actions_named before (transition_part t ∷ qs) all h =
      let own = declared_by_part (is_stored ps) (transition_part t) in
      actions_named (before ++ own) qs (all ∙ sym (append_assoc before own (declared_by_parts (is_stored ps) qs))) (whole_and (in_part f (names_of d) (transition_part t)) (in_chart_parts f (names_of d) qs) h).1
  actions_named before (action_part a ∷ qs) all h =
      let p = names_of d in
      let own = declared_by_part (is_stored ps) (action_part a) in
      let v = of_chart (action_role (is_stored ps a.name.text)) a.name in
      let rest = declared_by_parts (is_stored ps) qs in
      let two = whole_and (in_part f p (action_part a)) (in_chart_parts f p qs) h in
      let single = not-true (is_doubled p a.name.text) (whole_and (in_own_name p a.name) (in_stmts f p a.body) two.0).0 in
      let named = single_named p before rest v all single in
      All-cons (IsNamedBySteps (scope_of f sizes k) ps) a (actions_of qs) (action_associated a.name named, names_from a.name.text (length (steps_of ps)) 0 (steps_of ps) (omega arith))
      (actions_named (before ++ own) qs (all ∙ sym (append_assoc before own rest)) two.1)

  pub chart_named : (in_chart f (names_of d) ps).whole ≡ true → IsNamedChart (scope_of f sizes k) ps
  chart_named h =
      let parts = in_chart_parts f (names_of d) ps in
      let whole = (fails_by (parts.whole && not (count_by is_initial_part ps == 1)) (breaks NotOneInitialStep (place_of_chart ps)) parts (never false refl) h).1 in
      record { transitions = transitions_named ps whole; actions = actions_named (result_of d.pou_type d.name ++ variables_of d.variables) ps all_are whole }

pub body_named : (f : FileData) (sizes : List ℕ) (k : ℕ) (d : PouData) → pou_at f k ≡ Some d → (in_body f (names_of d) d.body).whole ≡ true → IsNamedBody (scope_of f sizes k) d.body
body_named f sizes k d at h = by d.body refl h
  where
    by : (b : BodyData) → d.body ≡ b → (in_body f (names_of d) b).whole ≡ true → IsNamedBody (scope_of f sizes k) b
    by (statements ss) e whole = tt
    by (chart_body ps) e whole = chart_named f k d at ps e sizes whole
