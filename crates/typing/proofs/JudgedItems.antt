-- The rules on types ask of a body what they ask of each of its items, and of its EXITs.
use Rattle.std.proofs.Common.{◌≡◌, ℕ, Bool, true, false, true≢false, List, [], ◌∷◌, Option, Some, None, if◌then◌else◌, refl, ap, ◌∙◌, sym}
use Rattle.std.proofs.lemmas.Bool.{and_parts, and_from}
use Rattle.plc_types.specs.declared.data_type.DataType.{DataType}
use Rattle.rules.specs.declared.rule.Rule.{Rule}
use Rattle.rules.specs.declared.rule.Rule.TheVariants.{OperandType, ExitOutsideFor}
use Rattle.rules.specs.Judgements.{Judgement, ok, and, breaks}
use Rattle.source_tree.specs.Syntax.{IterationData, Tree, LabelData, Stmt, empty, assign, invoke, branch, cases, iterate, exit, return, Stmts, no_stmts, stmt, Arms, no_arms, arm, Entries, no_entries, entry, Otherwise, no_else, else_stmts, PartData, step_part, transition_part, action_part, BodyData, statements, chart}
use Rattle.source_tree.specs.StatementItems.{StatementItem, condition, selector, labels, iteration, every, folded, folded_stmts, folded_arms, folded_entries, folded_else, folded_parts, folded_body}
use Rattle.naming.specs.Broken.{alone}
use Rattle.typing.specs.Typing.{Scope, by_path, type_of}
use Rattle.typing.specs.Judged.{judged_condition}
use Rattle.typing.specs.JudgedStatements.{judged_iteration, turns_rule, broken_by, with_control, judged_selector, judged_labels_if, judged_stmt, judged_stmts, judged_arms, judged_entries, judged_else}
use Rattle.typing.specs.JudgedExits.{judged_exit, judged_exits, judged_exits_of_arms, judged_exits_of_entries, judged_exits_of_else}
use Rattle.typing.specs.JudgedCharts.{judged_part, judged_parts}
use Rattle.typing.specs.Pous.{judged_body}
use Rattle.typing.specs.JudgedItems.{controls_in, seen_in, judged_item, IsWholeItem}

-- A property of judgements that the parts of a body give to the body. A FOR may break a rule of its own behind its statements.
pub record IsGiven (T : Judgement → Type 0) : Type 0 where
  pub none : T ok
  pub both : (j k : Judgement) → T j → T k → T (and j k)
  pub behind : (j k : Judgement) (rule : Option Rule) (at : ℕ) → T (broken_by j rule at) → T k → T (broken_by (and j k) rule at)

-- a property that a body gives to its parts
pub record IsShared (T : Judgement → Type 0) : Type 0 where
  pub both : (j k : Judgement) → T (and j k) → T j × T k
  pub behind : (j k : Judgement) (rule : Option Rule) (at : ℕ) → T (broken_by (and j k) rule at) → T (broken_by j rule at) × T k

module _ (scope : Scope) (outer : List ℕ) (T : Judgement → Type 0) where
  -- the judgement of an item has the property
  abbrev pub Judges : List IterationData → StatementItem → Type 0
  Judges around i = T (judged_item scope outer around i)

  module _ (given : IsGiven T) where
    mutual
      given_item : (around : List IterationData) (s : Stmt) → folded (every Judges) around s → T (judged_stmt scope (controls_in scope outer around) s)
      given_item around empty h = given.none
      given_item around (assign p e) h = h
      given_item around (invoke n at cs) h = h
      given_item around (branch arms other) h = given.both (judged_arms scope (controls_in scope outer around) arms) (judged_else scope (controls_in scope outer around) other) (given_arms around arms h.0) (given_else around other h.1)
      given_item around (cases e es other) h =
          let controls = controls_in scope outer around in
          let entries = judged_entries scope controls (judged_selector scope e).whole (type_of scope None e) [] es in
          given.both (judged_selector scope e) (and entries (judged_else scope controls other)) h.0 (given.both entries (judged_else scope controls other) (given_entries around e [] es h.1.0) (given_else around other h.1.1))
      given_item around (iterate i ss) h =
          given.behind (judged_iteration scope (controls_in scope outer around) i) (judged_stmts scope (controls_in scope outer (i ∷ around)) ss) (turns_rule scope i) i.at h.0 (given_items (i ∷ around) ss h.1)
      given_item around (exit at) h = given.none
      given_item around return h = given.none

      pub given_items : (around : List IterationData) (ss : Stmts) → folded_stmts (every Judges) around ss → T (judged_stmts scope (controls_in scope outer around) ss)
      given_items around no_stmts h = given.none
      given_items around (stmt s ss) h = given.both (judged_stmt scope (controls_in scope outer around) s) (judged_stmts scope (controls_in scope outer around) ss) (given_item around s h.0) (given_items around ss h.1)

      given_arms : (around : List IterationData) (arms : Arms) → folded_arms (every Judges) around arms → T (judged_arms scope (controls_in scope outer around) arms)
      given_arms around no_arms h = given.none
      given_arms around (arm e ss arms) h =
          let controls = controls_in scope outer around in
          given.both (judged_condition scope OperandType e) (and (judged_stmts scope controls ss) (judged_arms scope controls arms)) h.0
          (given.both (judged_stmts scope controls ss) (judged_arms scope controls arms) (given_items around ss h.1.0) (given_arms around arms h.1.1))

      given_entries : (around : List IterationData) (e : Tree) (before : List (List LabelData)) (es : Entries) → folded_entries (every Judges) around e before es
          → T (judged_entries scope (controls_in scope outer around) (judged_selector scope e).whole (type_of scope None e) (seen_in scope (type_of scope None e) before) es)
      given_entries around e before no_entries h = given.none
      given_entries around e before (entry ls ss es) h =
          let controls = controls_in scope outer around in
          let w = (judged_selector scope e).whole in
          let t = type_of scope None e in
          let rest = judged_entries scope controls w t (seen_in scope t (ls ∷ before)) es in
          given.both (judged_labels_if scope w t (seen_in scope t before) ls) (and (judged_stmts scope controls ss) rest) h.0
          (given.both (judged_stmts scope controls ss) rest (given_items around ss h.1.0) (given_entries around e (ls ∷ before) es h.1.1))

      given_else : (around : List IterationData) (other : Otherwise) → folded_else (every Judges) around other → T (judged_else scope (controls_in scope outer around) other)
      given_else around no_else h = given.none
      given_else around (else_stmts ss) h = given_items around ss h

  module _ (shared : IsShared T) where
    mutual
      shared_item : (around : List IterationData) (s : Stmt) → T (judged_stmt scope (controls_in scope outer around) s) → folded (every Judges) around s
      shared_item around empty h = tt
      shared_item around (assign p e) h = h
      shared_item around (invoke n at cs) h = h
      shared_item around (branch arms other) h =
          let two = shared.both (judged_arms scope (controls_in scope outer around) arms) (judged_else scope (controls_in scope outer around) other) h in
          (shared_arms around arms two.0, shared_else around other two.1)
      shared_item around (cases e es other) h =
          let controls = controls_in scope outer around in
          let entries = judged_entries scope controls (judged_selector scope e).whole (type_of scope None e) [] es in
          let two = shared.both (judged_selector scope e) (and entries (judged_else scope controls other)) h in
          let more = shared.both entries (judged_else scope controls other) two.1 in
          (two.0, (shared_entries around e [] es more.0, shared_else around other more.1))
      shared_item around (iterate i ss) h =
          let two = shared.behind (judged_iteration scope (controls_in scope outer around) i) (judged_stmts scope (controls_in scope outer (i ∷ around)) ss) (turns_rule scope i) i.at h in
          (two.0, shared_items (i ∷ around) ss two.1)
      shared_item around (exit at) h = tt
      shared_item around return h = tt

      pub shared_items : (around : List IterationData) (ss : Stmts) → T (judged_stmts scope (controls_in scope outer around) ss) → folded_stmts (every Judges) around ss
      shared_items around no_stmts h = tt
      shared_items around (stmt s ss) h =
          let two = shared.both (judged_stmt scope (controls_in scope outer around) s) (judged_stmts scope (controls_in scope outer around) ss) h in
          (shared_item around s two.0, shared_items around ss two.1)

      shared_arms : (around : List IterationData) (arms : Arms) → T (judged_arms scope (controls_in scope outer around) arms) → folded_arms (every Judges) around arms
      shared_arms around no_arms h = tt
      shared_arms around (arm e ss arms) h =
          let controls = controls_in scope outer around in
          let two = shared.both (judged_condition scope OperandType e) (and (judged_stmts scope controls ss) (judged_arms scope controls arms)) h in
          let more = shared.both (judged_stmts scope controls ss) (judged_arms scope controls arms) two.1 in
          (two.0, (shared_items around ss more.0, shared_arms around arms more.1))

      shared_entries : (around : List IterationData) (e : Tree) (before : List (List LabelData)) (es : Entries)
          → T (judged_entries scope (controls_in scope outer around) (judged_selector scope e).whole (type_of scope None e) (seen_in scope (type_of scope None e) before) es) → folded_entries (every Judges) around e before es
      shared_entries around e before no_entries h = tt
      shared_entries around e before (entry ls ss es) h =
          let controls = controls_in scope outer around in
          let w = (judged_selector scope e).whole in
          let t = type_of scope None e in
          let rest = judged_entries scope controls w t (seen_in scope t (ls ∷ before)) es in
          let two = shared.both (judged_labels_if scope w t (seen_in scope t before) ls) (and (judged_stmts scope controls ss) rest) h in
          let more = shared.both (judged_stmts scope controls ss) rest two.1 in
          (two.0, (shared_items around ss more.0, shared_entries around e (ls ∷ before) es more.1))

      shared_else : (around : List IterationData) (other : Otherwise) → T (judged_else scope (controls_in scope outer around) other) → folded_else (every Judges) around other
      shared_else around no_else h = tt
      shared_else around (else_stmts ss) h = shared_items around ss h

-- ---- EXITs

-- the judgement of the EXITs of a body, or of those of each action of a chart, has a property
abbrev pub HaveExits : (Judgement → Type 0) → List PartData → Type 0
HaveExits T [] = Unit {0}
HaveExits T (step_part s ∷ ps) = HaveExits T ps
HaveExits T (transition_part t ∷ ps) = HaveExits T ps
HaveExits T (action_part a ∷ ps) = T (judged_exits a.body) × HaveExits T ps

abbrev pub HasExits : (Judgement → Type 0) → BodyData → Type 0
HasExits T (statements ss) = T (judged_exits ss)
HasExits T (chart ps) = HaveExits T ps

-- a property that an EXIT outside of a FOR has too
module _ (T : Judgement → Type 0) (given : IsGiven T) (broken : (at : ℕ) → T (breaks ExitOutsideFor at)) where
  mutual
    given_exit : (s : Stmt) → T (judged_exit s)
    given_exit empty = given.none
    given_exit (assign p e) = given.none
    given_exit (invoke n at cs) = given.none
    given_exit (branch arms other) = given.both (judged_exits_of_arms arms) (judged_exits_of_else other) (given_exits_of_arms arms) (given_exits_of_else other)
    given_exit (cases e es other) = given.both (judged_exits_of_entries es) (judged_exits_of_else other) (given_exits_of_entries es) (given_exits_of_else other)
    given_exit (iterate i ss) = given.none
    given_exit (exit at) = broken at
    given_exit return = given.none

    given_exits : (ss : Stmts) → T (judged_exits ss)
    given_exits no_stmts = given.none
    given_exits (stmt s ss) = given.both (judged_exit s) (judged_exits ss) (given_exit s) (given_exits ss)

    given_exits_of_arms : (arms : Arms) → T (judged_exits_of_arms arms)
    given_exits_of_arms no_arms = given.none
    given_exits_of_arms (arm e ss arms) = given.both (judged_exits ss) (judged_exits_of_arms arms) (given_exits ss) (given_exits_of_arms arms)

    given_exits_of_entries : (es : Entries) → T (judged_exits_of_entries es)
    given_exits_of_entries no_entries = given.none
    given_exits_of_entries (entry ls ss es) = given.both (judged_exits ss) (judged_exits_of_entries es) (given_exits ss) (given_exits_of_entries es)

    given_exits_of_else : (other : Otherwise) → T (judged_exits_of_else other)
    given_exits_of_else no_else = given.none
    given_exits_of_else (else_stmts ss) = given_exits ss

  have_exits : (ps : List PartData) → HaveExits T ps
  have_exits [] = tt
  have_exits (step_part s ∷ ps) = have_exits ps
  have_exits (transition_part t ∷ ps) = have_exits ps
  have_exits (action_part a ∷ ps) = (given_exits a.body, have_exits ps)

  pub has_exits : (b : BodyData) → HasExits T b
  has_exits (statements ss) = given_exits ss
  has_exits (chart ps) = have_exits ps

-- in bodies no FOR is around
module _ (scope : Scope) (T : Judgement → Type 0) where
  module _ (given : IsGiven T) where
    given_list : (ss : Stmts) → T (judged_exits ss) → folded_stmts (every (Judges scope [] T)) [] ss → T (and (judged_stmts scope [] ss) (judged_exits ss))
    given_list ss exits h = given.both (judged_stmts scope [] ss) (judged_exits ss) (given_items scope [] T given [] ss h) exits

    pub given_parts : (ps : List PartData) → HaveExits T ps → folded_parts (every (Judges scope [] T)) ps → T (judged_parts scope ps)
    given_parts [] exits h = given.none
    given_parts (step_part s ∷ ps) exits h = given.both ok (judged_parts scope ps) given.none (given_parts ps exits h)
    given_parts (transition_part t ∷ ps) exits h = given.both (judged_part scope (transition_part t)) (judged_parts scope ps) h.0 (given_parts ps exits h.1)
    given_parts (action_part a ∷ ps) exits h = given.both (judged_part scope (action_part a)) (judged_parts scope ps) (given_list a.body exits.0 h.0) (given_parts ps exits.1 h.1)

    pub given_body : (b : BodyData) → HasExits T b → folded_body (every (Judges scope [] T)) b → T (judged_body scope b)
    given_body (statements ss) exits h = given_list ss exits h
    given_body (chart ps) exits h = given_parts ps exits h

  module _ (shared : IsShared T) where
    pub shared_parts : (ps : List PartData) → T (judged_parts scope ps) → folded_parts (every (Judges scope [] T)) ps
    shared_parts [] h = tt
    shared_parts (step_part s ∷ ps) h = shared_parts ps (shared.both (judged_part scope (step_part s)) (judged_parts scope ps) h).1
    shared_parts (transition_part t ∷ ps) h =
        let two = shared.both (judged_part scope (transition_part t)) (judged_parts scope ps) h in
        (two.0, shared_parts ps two.1)
    shared_parts (action_part a ∷ ps) h =
        let two = shared.both (judged_part scope (action_part a)) (judged_parts scope ps) h in
        (shared_items scope [] T shared [] a.body (shared.both (judged_stmts scope [] a.body) (judged_exits a.body) two.0).0, shared_parts ps two.1)

    pub shared_body : (b : BodyData) → T (judged_body scope b) → folded_body (every (Judges scope [] T)) b
    shared_body (statements ss) h = shared_items scope [] T shared [] ss (shared.both (judged_stmts scope [] ss) (judged_exits ss) h).0
    shared_body (chart ps) h = shared_parts ps h

    shared_exits_of_parts : (ps : List PartData) → T (judged_parts scope ps) → HaveExits T ps
    shared_exits_of_parts [] h = tt
    shared_exits_of_parts (step_part s ∷ ps) h = shared_exits_of_parts ps (shared.both (judged_part scope (step_part s)) (judged_parts scope ps) h).1
    shared_exits_of_parts (transition_part t ∷ ps) h = shared_exits_of_parts ps (shared.both (judged_part scope (transition_part t)) (judged_parts scope ps) h).1
    shared_exits_of_parts (action_part a ∷ ps) h =
        let two = shared.both (judged_part scope (action_part a)) (judged_parts scope ps) h in
        ((shared.both (judged_stmts scope [] a.body) (judged_exits a.body) two.0).1, shared_exits_of_parts ps two.1)

    pub shared_exits : (b : BodyData) → T (judged_body scope b) → HasExits T b
    shared_exits (statements ss) h = (shared.both (judged_stmts scope [] ss) (judged_exits ss) h).1
    shared_exits (chart ps) h = shared_exits_of_parts ps h

-- ---- what is whole

abbrev pub IsWhole : Judgement → Type 0
IsWhole j = j.whole ≡ true

ruled : (j : Judgement) (w : Bool) (rule : Rule) (at : ℕ) → j.whole ≡ w → (if w then (if false then j else and j (breaks rule at)) else j).whole ≡ true → ⊥
ruled j true rule at is whole = true≢false (sym (and_parts j.whole false whole).1)
ruled j false rule at is whole = true≢false (sym whole ∙ is)

-- a construct that is whole has whole parts, and breaks no rule of its own
pub whole_broken_by : (j : Judgement) (rule : Option Rule) (at : ℕ) → IsWhole (broken_by j rule at) → IsWhole j × (rule ≡ None)
whole_broken_by j None at whole = (whole, refl)
whole_broken_by j (Some rule) at whole = absurd (ruled j j.whole rule at refl whole)

broken_by_whole : (j : Judgement) (rule : Option Rule) (at : ℕ) → rule ≡ None → IsWhole j → IsWhole (broken_by j rule at)
broken_by_whole j rule at none whole = ap (λ r. (broken_by j r at).whole) none ∙ whole

pub whole_given : IsGiven IsWhole
whole_given = record {
  none = refl;
  both = λ j k a b. and_from j.whole k.whole a b;
  behind = λ j k rule at a b. let own = whole_broken_by j rule at a in broken_by_whole (and j k) rule at own.1 (and_from j.whole k.whole own.0 b);
}

pub whole_shared : IsShared IsWhole
whole_shared = record {
  both = λ j k h. and_parts j.whole k.whole h;
  behind = λ j k rule at h. let own = whole_broken_by (and j k) rule at h in let two = and_parts j.whole k.whole own.0 in (broken_by_whole j rule at own.1 two.0, two.1);
}
