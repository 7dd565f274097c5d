-- What the parts of typed constructs are typed over.
use Rattle.std.proofs.Common.{◌≡◌, ℕ, zero, suc, ◌+◌, ◌*◌, ◌^◌, ◌<◌, ◌-◌, true, List, [], ◌∷◌, length, map, get_or, ℤ, pos, neg_ℤ, ◌+ℤ◌, ◌≤ℤ◌, sym, ap, ◌∙◌, subst, arith}
use Rattle.std.specs.Prelude.{All, Option, None, Some, IfSome, slice_index_or}
use Rattle.std.proofs.lemmas.List.Elements.{All-nil, All-cons, All-head, All-tail, All-weaker, All-map}
use Rattle.std.proofs.lemmas.List.{length-map}
use Rattle.plc_types.specs.declared.elementary.Elementary.{Elementary}
use Rattle.plc_types.specs.declared.function.Function.{Function}
use Rattle.plc_types.specs.declared.operator.UnaryOperator.{UnaryOperator}
use Rattle.plc_types.specs.declared.range.Range.{Range}
use Rattle.program_tree.specs.declared.typed.TypedExpr.{TypedExpr}
use Rattle.program_tree.specs.declared.typed.Operand.{Operand}
use Rattle.program_tree.specs.declared.typed.TypedStmt.{TypedStmt}
use Rattle.program_tree.specs.declared.typed.TypedArm.{TypedArm}
use Rattle.program_tree.specs.declared.typed.TypedEntry.{TypedEntry}
use Rattle.program_tree.specs.declared.typed.TypedAction.{TypedAction}
use Rattle.program_tree.specs.declared.typed.TypedTransition.{TypedTransition}
use Rattle.program_tree.specs.declared.typed.StepCells.{StepCells}
use Rattle.program_tree.specs.declared.typed.Association.{Association}
use Rattle.program_tree.specs.declared.typed.Called.{Called}
use Rattle.program_tree.specs.declared.typed.CellType.{CellType}
use Rattle.program_tree.specs.declared.typed.Turns.{Turns}
use Rattle.program_tree.specs.Tree.{Expression, cell, unary, chain, call_standard, call_function, Operands, Expressions, TransitionData, Statement, assign, call_block, choice, cases, repeat, chart, exit, return, own_body, Statements, no_statements, statement, Actions, action, CalledData, block, function, ProgramData}
use Rattle.program_tree.specs.View.{expr_view, operand_view, operands_view, arguments_view, stmt_view, stmts_view, arm_view, choices_view, entry_view, entries_view, action_view, actions_view, transition_view, transitions_view, all_called_view}
use Rattle.program_tree.specs.ChartPlaces.{chart_places, latch_places, AreSteps}
use Rattle.program_tree.specs.Places.{of_cell, place_at, IsTypedPlace}
use Rattle.meaning.specs.Calls.{nothing}
use Rattle.meaning.specs.Frames.{FrameData, frame_of, frames_of}
use Rattle.meaning.specs.StaysIn.{turns_stay}
use Rattle.flat_charts.specs.declared.scope.FlatScope.{FlatScope}
use Rattle.flat_charts.specs.Views.{HasPlace, StepsHavePlaces, FlagsHavePlaces}
use Rattle.flat_form.specs.FlatCharts.{entered_flag}
use Rattle.flat_laws.proofs.TurnValues.{stay_from}
use Rattle.typed_programs.specs.Scopes.{Pous, BodyScope}
use Rattle.typed_programs.specs.Expressions.{Join, AreOf, AreInputs}
use Rattle.typed_programs.specs.Statements.{IsFlagOf, IsTyped, AreTyped, AreTypedChoices, AreTypedEntries, AreTypedActions, AreTypedTransitions, IsTypedChart, IsTypedPart, AreTypedParts}
use Rattle.typed_programs.specs.Programs.{frame_places, IsTypedPou, IsTypedCell, IsTypedProgram}
use Rattle.typed_flat_laws.proofs.FramePlaces.{frame-length}
use Rattle.typed_flat_laws.proofs.TypedLists.{typed_at}
use Rattle.fb_inline.specs.TypedScopes.{FitsScope, Typing, SomeTyping, IsTypedOver, HasType, AreOperands, HaveTypes}
use Rattle.fb_inline.proofs.TurnLemmas.{next-bounds}

-- what a construct is typed over, and the other way round
pub opened : {scope : FlatScope} {P : Pous → BodyScope → Type 0} → IsTypedOver scope P → Typing scope P
unfolding SomeTyping
opened h = h.typing

pub shut : {scope : FlatScope} {P : Pous → BodyScope → Type 0} → Typing scope P → IsTypedOver scope P
unfolding SomeTyping
shut t = record { typing = t }

-- a claim that follows, over the same
pub mapped : {scope : FlatScope} {P Q : Pous → BodyScope → Type 0} → IsTypedOver scope P → ((pous : Pous) (b : BodyScope) → P pous b → Q pous b) → IsTypedOver scope Q
mapped h follows = let t = opened h in shut (record { pous = t.pous; b = t.b; fits = t.fits; claim = follows t.pous t.b t.claim })

-- ---- one of a list

module _ (pous : Pous) (b : BodyScope) where
  pub operand-typed : (os : List Operand) (i : ℕ) (d : Operand) (left kind : Elementary) → i < length os → Join pous b left kind (operands_view os) → HasType pous b (operand_view (get_or os i d)).2
  operand-typed [] i d left kind low h = absurd (omega (arith, low))
  operand-typed (o ∷ os) zero d left kind low h = (_, h.2)
  operand-typed (o ∷ os) (suc i) d left kind low h = operand-typed os i d _ kind (omega (arith, low)) h.3

  pub expression-typed : (es : List TypedExpr) (i : ℕ) (d : TypedExpr) (first others : Elementary) → i < length es → AreOf pous b first others (arguments_view es) → HasType pous b (expr_view (get_or es i d))
  expression-typed [] i d first others low h = absurd (omega (arith, low))
  expression-typed (e ∷ es) zero d first others low h = (first, h.0)
  expression-typed (e ∷ es) (suc i) d first others low h = expression-typed es i d others others (omega (arith, low)) h.1

  pub input-typed : (es : List TypedExpr) (i : ℕ) (d : TypedExpr) (frame : FrameData) (place : ℕ) → i < length es → AreInputs pous b frame place (arguments_view es) → HasType pous b (expr_view (get_or es i d))
  input-typed [] i d frame place low h = absurd (omega (arith, low))
  input-typed (e ∷ es) zero d frame place low h = (_, h.0)
  input-typed (e ∷ es) (suc i) d frame place low h = input-typed es i d frame (place + 1) (omega (arith, low)) h.2

  pub statement-typed : (list : List TypedStmt) (i : ℕ) (d : TypedStmt) → i < length list → AreTypedParts pous b (stmts_view list) → IsTypedPart pous b (stmt_view (get_or list i d))
  statement-typed [] i d low h = absurd (omega (arith, low))
  statement-typed (t ∷ list) zero d low h = h.0
  statement-typed (t ∷ list) (suc i) d low h = statement-typed list i d (omega (arith, low)) h.1

  pub arm-typed : (arms : List TypedArm) (i : ℕ) (d : TypedArm) → i < length arms → AreTypedChoices pous b (choices_view arms) → HasType pous b (arm_view (get_or arms i d)).0 × AreTyped pous b (arm_view (get_or arms i d)).1
  arm-typed [] i d low h = absurd (omega (arith, low))
  arm-typed (a ∷ arms) zero d low h = ((_, h.0), h.1)
  arm-typed (a ∷ arms) (suc i) d low h = arm-typed arms i d (omega (arith, low)) h.2

  pub entry-typed : (entries : List TypedEntry) (i : ℕ) (d : TypedEntry) (kind : Elementary) → i < length entries → AreTypedEntries pous b kind (entries_view entries) → AreTyped pous b (entry_view (get_or entries i d)).1
  entry-typed [] i d kind low h = absurd (omega (arith, low))
  entry-typed (e ∷ entries) zero d kind low h = h.1
  entry-typed (e ∷ entries) (suc i) d kind low h = entry-typed entries i d kind (omega (arith, low)) h.2

  pub action-typed : (actions : List TypedAction) (i : ℕ) (d : TypedAction) (n : ℕ) → i < length actions → AreTypedActions pous b n (actions_view actions) → AreTyped pous b (action_view (get_or actions i d)).2
  action-typed [] i d n low h = absurd (omega (arith, low))
  action-typed (a ∷ actions) zero d n low h = h.2
  action-typed (a ∷ actions) (suc i) d n low h = action-typed actions i d n (omega (arith, low)) h.3

  pub transition-typed : (ts : List TypedTransition) (i : ℕ) (d : TypedTransition) (n : ℕ) → i < length ts → AreTypedTransitions pous b n (transitions_view ts)
      → HasType pous b (transition_view (get_or ts i d)).condition × AreSteps n (transition_view (get_or ts i d)).from × AreSteps n (transition_view (get_or ts i d)).to
  transition-typed [] i d n low h = absurd (omega (arith, low))
  transition-typed (t ∷ ts) zero d n low h = ((_, h.0), h.1, h.2)
  transition-typed (t ∷ ts) (suc i) d n low h = transition-typed ts i d n (omega (arith, low)) h.3

  -- ---- a list of statements without charts is one of the parts of a body

  part-typed : (t : Statement) → IsTyped pous b t → IsTypedPart pous b t
  part-typed (assign target e) h = h
  part-typed (call_block i offset) h = h
  part-typed (choice arms other) h = h
  part-typed (cases kind e es other) h = h
  part-typed (repeat turns body) h = h
  part-typed (chart _ _ _) h = absurd h
  part-typed exit h = h
  part-typed return h = h
  part-typed (own_body ss) h = h

  pub parts-typed : (ts : Statements) → AreTyped pous b ts → AreTypedParts pous b ts
  parts-typed no_statements h = tt
  parts-typed (statement t ts) h = (part-typed t h.0, parts-typed ts h.1)

-- ---- places

module _ (scope : FlatScope) (pous : Pous) (b : BodyScope) (fits : FitsScope scope pous b) where
  pub named-place : (place : ℕ) → place < length b.places → HasPlace scope.base place
  named-place place low = let room = fits.room in omega (arith, room)

  flag-place : (place : ℕ) → IsFlagOf b place → HasPlace scope.base place
  flag-place place h = named-place place h.0.1

  pub steps-placed : (steps : List StepCells) (list : Actions) → All (IsFlagOf b) (chart_places steps list) → StepsHavePlaces scope.base steps
  steps-placed [] list h step = let room = fits.room in (omega (arith, room), omega (arith, room))
  steps-placed (p ∷ steps) list h zero =
      let more = All-tail (IsFlagOf b) p.active (p.before ∷ chart_places steps list) h in
      (flag-place p.active (All-head (IsFlagOf b) p.active (p.before ∷ chart_places steps list) h), flag-place p.before (All-head (IsFlagOf b) p.before (chart_places steps list) more))
  steps-placed (p ∷ steps) list h (suc step) =
      let more = All-tail (IsFlagOf b) p.active (p.before ∷ chart_places steps list) h in
      steps-placed steps list (All-tail (IsFlagOf b) p.before (chart_places steps list) more) step

  pub latches-placed : (steps : List StepCells) (list : Actions) → All (IsFlagOf b) (chart_places steps list) → All (HasPlace scope.base) (latch_places list)
  latches-placed [] list h = All-weaker (IsFlagOf b) (HasPlace scope.base) flag-place (latch_places list) h
  latches-placed (p ∷ steps) list h =
      let more = All-tail (IsFlagOf b) p.active (p.before ∷ chart_places steps list) h in
      latches-placed steps list (All-tail (IsFlagOf b) p.before (chart_places steps list) more)

module _ (P : ℕ → Type 0) where
  latch-first : (latch : Option ℕ) (associations : List Association) (ss : Statements) (rest : Actions) → All P (latch_places (action latch associations ss rest)) → IfSome latch P × All P (latch_places rest)
  latch-first None associations ss rest h = (tt, h)
  latch-first (Some place) associations ss rest h = (All-head P place (latch_places rest) h, All-tail P place (latch_places rest) h)

  pub latch-placed : (actions : List TypedAction) (i : ℕ) (d : TypedAction) → i < length actions → All P (latch_places (actions_view actions)) → IfSome (action_view (get_or actions i d)).0 P
  latch-placed [] i d low h = absurd (omega (arith, low))
  latch-placed (a ∷ actions) zero d low h = (latch-first (action_view a).0 (action_view a).1 (action_view a).2 (actions_view actions) h).0
  latch-placed (a ∷ actions) (suc i) d low h = latch-placed actions i d (omega (arith, low)) (latch-first (action_view a).0 (action_view a).1 (action_view a).2 (actions_view actions) h).1

-- the flags of steps of a chart, whose last stands at a place of 64 bits
pub flags-placed : (flags n : ℕ) (list : List ℕ) → flags + 2 * n < 2 ^ 64 → AreSteps n list → FlagsHavePlaces flags list
flags-placed flags n [] room h = All-nil (λ step. entered_flag flags step < 2 ^ 64)
flags-placed flags n (i ∷ list) room h =
    let low = h.0 in
    All-cons (λ step. entered_flag flags step < 2 ^ 64) i list (omega (arith, room, low)) (flags-placed flags n list room h.1)

-- ---- the parts of an expression

abbrev pub TypedExpression : FlatScope → Expression → Type 0
TypedExpression scope e = IsTypedOver scope (λ pous b. HasType pous b e)

abbrev pub TypedPart : FlatScope → Statement → Type 0
TypedPart scope s = IsTypedOver scope (λ pous b. IsTypedPart pous b s)

module _ (scope : FlatScope) where
  pub cell-placed : (place : ℕ) → TypedExpression scope (cell place) → HasPlace scope.base place
  cell-placed place h = let t = opened h in named-place scope t.pous t.b t.fits place t.claim.1.0.1

  pub unary-typed : (o : UnaryOperator) (kind : Elementary) (e : Expression) → TypedExpression scope (unary o kind e) → TypedExpression scope e
  unary-typed o kind e h = mapped h (λ pous b g. (kind, g.1.1))

  pub first-typed : (e : Expression) (os : Operands) → TypedExpression scope (chain e os) → TypedExpression scope e
  first-typed e os h = mapped h (λ pous b g. (_, g.1.0))

  pub operands-typed : (e : Expression) (os : Operands) → TypedExpression scope (chain e os) → IsTypedOver scope (λ pous b. AreOperands pous b os)
  operands-typed e os h = mapped h (λ pous b g. (_, _, g.1.1))

  pub standard-typed : (f : Function) (kind : Elementary) (es : Expressions) → TypedExpression scope (call_standard f kind es) → IsTypedOver scope (λ pous b. HaveTypes pous b es)
  standard-typed f kind es h = mapped h (λ pous b g. (_, _, g.1.2))

  -- ---- a call of a FUNCTION

  module _ (f : ℕ) (es : Expressions) (h : TypedExpression scope (call_function f es)) where
    pub call-known : f < scope.below
    call-known = let t = opened h in let before = t.fits.before in let low = t.claim.1.0 in omega (arith, before, low)

    module _ (p : CalledData) (is : slice_index_or (all_called_view scope.called.now) f nothing ≡ p) where
      frame-is : (pous : Pous) → pous.frames ≡ frames_of (all_called_view scope.called.now) → pous.frames f ≡ frame_of p
      frame-is pous frames = ap (λ (fs : ℕ → FrameData). fs f) frames ∙ ap frame_of is

      -- its inputs are typed for its frame
      pub inputs-typed : IsTypedOver scope (λ pous b. AreInputs pous b (frame_of p) 2 es)
      inputs-typed =
          let t = opened h in
          shut (record { pous = t.pous; b = t.b; fits = t.fits; claim = subst (λ (frame : FrameData). AreInputs t.pous t.b frame 2 es) (frame-is t.pous t.fits.frames) t.claim.1.3 })

    -- it is no FUNCTION_BLOCK
    pub no-block : (body : Statements) → slice_index_or (all_called_view scope.called.now) f nothing ≡ block body → ⊥
    no-block body is = let t = opened h in let some = t.claim.1.1 in omega (arith, some, ap (λ (frame : FrameData). length frame.types) (frame-is (block body) is t.pous t.fits.frames))

    -- its body is typed over the cells of its frame
    pub function-typed : (types : List CellType) (ranges : List Range) (start : List ℤ) (body list : Statements) → slice_index_or (all_called_view scope.called.now) f nothing ≡ function types ranges start body → list ≡ body
        → length types < 2 ^ 64 → (inner : FlatScope) → inner.base ≡ 0 → inner.below ≡ f → inner.called.now ≡ scope.called.now → IsTypedOver inner (λ pous b. AreTypedParts pous b list)
    function-typed types ranges start body list is same few inner is_base is_below is_called =
        let t = opened h in
        let frame = frame-is (function types ranges start body) is t.pous t.fits.frames in
        let pou = subst (λ (p : CalledData). IsTypedPou t.pous f p) is (t.fits.called f call-known) in
        let many : length (frame_places (t.pous.frames f)) ≡ length types = frame-length (t.pous.frames f) ∙ ap (λ (fr : FrameData). length fr.types) frame in
        let low = call-known in
        shut (record {
          pous = t.pous;
          b = record { first = 1; places = frame_places (t.pous.frames f); settable = pou.1.settable; pous = f };
          fits = record {
            before = sym is_below;
            frames = t.fits.frames ∙ ap (λ (ps : List Called). frames_of (all_called_view ps)) (sym is_called);
            called = λ n less. subst (λ (ps : List Called). IsTypedPou t.pous n (slice_index_or (all_called_view ps) n nothing)) (sym is_called) (t.fits.called n (omega (arith, less, is_below, low)));
            within = pou.1.within;
            places = pou.0.places;
            room = omega (arith, many, few, is_base);
          };
          claim = subst (λ (ss : Statements). AreTypedParts t.pous (record { first = 1; places = frame_places (t.pous.frames f); settable = pou.1.settable; pous = f }) ss) (sym same) pou.1.typed;
        })

  -- ---- a run of a FUNCTION_BLOCK

  module _ (i offset : ℕ) (h : IsTypedOver scope (λ pous b. IsTyped pous b (call_block i offset))) where
    pub run-known : i < scope.below
    run-known = let t = opened h in let before = t.fits.before in let low = t.claim.0 in omega (arith, before, low)

    pub run-placed : HasPlace scope.base offset
    run-placed = let t = opened h in let room = t.fits.room in let within = t.fits.within in let low = t.claim.2 in omega (arith, room, within, low)

    -- its body is typed over the cells of an instance
    pub block-typed : (body list : Statements) → slice_index_or (all_called_view scope.called.now) i nothing ≡ block body → list ≡ body
        → (inner : FlatScope) → inner.base ≡ scope.base + offset → inner.below ≡ i → inner.called.now ≡ scope.called.now → IsTypedOver inner (λ pous b. AreTypedParts pous b list)
    block-typed body list is same inner is_base is_below is_called =
        let t = opened h in
        let pou = subst (λ (p : CalledData). IsTypedPou t.pous i p) is (t.fits.called i run-known) in
        let low = run-known in
        let room = t.fits.room in
        let within = t.fits.within in
        let stands = t.claim.2 in
        shut (record {
          pous = t.pous;
          b = record { first = 0; places = t.pous.instances i; settable = pou.1.settable; pous = i };
          fits = record {
            before = sym is_below;
            frames = t.fits.frames ∙ ap (λ (ps : List Called). frames_of (all_called_view ps)) (sym is_called);
            called = λ n less. subst (λ (ps : List Called). IsTypedPou t.pous n (slice_index_or (all_called_view ps) n nothing)) (sym is_called) (t.fits.called n (omega (arith, less, is_below, low)));
            within = pou.1.within;
            places = pou.0;
            room = omega (arith, room, within, stands, is_base);
          };
          claim = subst (λ (ss : Statements). AreTypedParts t.pous (record { first = 0; places = t.pous.instances i; settable = pou.1.settable; pous = i }) ss) (sym same) pou.1.typed;
        })

  -- ---- the parts of a statement

  pub target-placed : (target : ℕ) (e : Expression) → IsTypedOver scope (λ pous b. IsTypedPart pous b (assign target e)) → HasPlace scope.base target
  target-placed target e h = let t = opened h in let within = t.fits.within in let low = t.claim.0.1 in named-place scope t.pous t.b t.fits target (omega (arith, within, low))

  module _ (turns : Turns) (body : Statements) (h : IsTypedOver scope (λ pous b. IsTyped pous b (repeat turns body))) where
    pub control-placed : HasPlace scope.base turns.control
    control-placed = let t = opened h in let within = t.fits.within in let low = t.claim.0.1 in named-place scope t.pous t.b t.fits turns.control (omega (arith, within, low))

    pub turn-bounds : (counter : ℕ) (v : ℤ) → counter < turns.count → ((r : Range) → turns_stay turns r ≡ true → stay_from (turns.count - counter) v turns.step r ≡ true)
        → (neg_ℤ (pos (2 ^ 64)) ≤ℤ (v +ℤ turns.step)) × ((v +ℤ turns.step) ≤ℤ pos (2 ^ 64))
    turn-bounds counter v below stays =
        let t = opened h in
        let p = place_at t.b.places turns.control in
        next-bounds p turns.count counter v turns.step (typed_at t.b.places turns.control t.fits.places) below (stays p.range t.claim.1)

  -- ---- the cells of a chart

  module _ (steps : List StepCells) (list : Actions) (ts : List TransitionData) (h : IsTypedOver scope (λ pous b. IsTypedChart pous b steps list ts)) where
    pub chart-steps-placed : StepsHavePlaces scope.base steps
    chart-steps-placed = let t = opened h in steps-placed scope t.pous t.b t.fits steps list t.claim.0

    pub chart-latches-placed : All (HasPlace scope.base) (latch_places list)
    chart-latches-placed = let t = opened h in latches-placed scope t.pous t.b t.fits steps list t.claim.0

-- the body of a typed program is typed over its cells
pub program-typed : (p : ProgramData) → IsTypedProgram p → (list : Statements) → list ≡ p.body → length p.cells < 2 ^ 64 → (scope : FlatScope) → scope.base ≡ 0 → scope.below ≡ length p.called → all_called_view scope.called.now ≡ p.called
    → IsTypedOver scope (λ pous b. AreTypedParts pous b list)
program-typed p typed list same few scope is_base is_below is_called =
    let pous : Pous = record { frames = frames_of p.called; instances = typed.instances } in
    let b : BodyScope = record { first = 1; places = map of_cell p.cells; settable = typed.body.settable; pous = length p.called } in
    shut (record {
      pous = pous;
      b = b;
      fits = record {
        before = sym is_below;
        frames = ap frames_of (sym is_called);
        called = λ n less. subst (λ (ps : List CalledData). IsTypedPou pous n (slice_index_or ps n nothing)) (sym is_called) (typed.called n (omega (arith, less, is_below)));
        within = typed.body.within;
        places = All-map IsTypedPlace of_cell p.cells (All-weaker IsTypedCell (λ c. IsTypedPlace (of_cell c)) (λ c h. h.place) p.cells typed.cells);
        room = omega (arith, length-map p.cells of_cell, few, is_base);
      };
      claim = subst (λ (ss : Statements). AreTypedParts pous b ss) (sym same) typed.body.typed;
    })
