-- The count of statements is the size of their flat list.
use Rattle.std.proofs.Common.{◌≡◌, ℕ, zero, suc, ◌+◌, ◌*◌, List, [], ◌∷◌, ◌++◌, map, length, Option, None, Some, ℤ, ◌+ℤ◌, Bool, true, false, ◌≤◌, slice_index_or, refl, sym, ap, ◌∙◌, arith, rules, tests, Vec, Global}
use Rattle.std.specs.Prelude.{◌==◌, ◌||◌, nat_lt, nat_le, if◌then◌else◌}
use Rattle.std.proofs.lemmas.Bool.Decides.{nat_tests}
use Rattle.plc_types.specs.declared.elementary.Elementary.{Elementary}
use Rattle.program_tree.specs.declared.typed.StepCells.{StepCells}
use Rattle.program_tree.specs.declared.typed.Association.{Association}
use Rattle.program_tree.specs.Tree.{Expression, number, cell, unary, chain, call_standard, call_function, Operands, no_operands, operand, Expressions, no_expressions, expression, Statement, assign, call_block, choice, cases, repeat, chart, exit, return, own_body, Statements, no_statements, statement, Choices, no_choices, choose, Entries, no_entries, entry, TransitionData, Actions, no_actions, action, CalledData, ProgramData}
use Rattle.std.proofs.lemmas.List.{length-map}
use Rattle.program_tree.specs.declared.typed.Called.{Called}
use Rattle.program_tree.specs.declared.typed.Turns.{Turns}
use Rattle.program_tree.specs.declared.typed.TypedStmt.{TypedStmt, the_lemmas as stmt_lemmas}
use Rattle.program_tree.specs.declared.typed.TypedStmt.TheVariants as variants
use Rattle.program_tree.specs.View.{stmt_view, stmts_view, called_view, all_called_view}
use Rattle.program_tree.specs.OperandTypes.{arity}
use Rattle.program_tree.specs.Leaving.{can_exit, can_exit_all, can_return, can_return_all}
use Rattle.meaning.specs.Calls.{nothing}
use Rattle.meaning.specs.Frames.{FrameData, frames_of, function_body, type_at, initial_at}
use Rattle.flat_core.specs.FlatTree.{FlatStatement, set, branch, no_flats, size_of_all}
use Rattle.flat_core.specs.FlatView.{flats_of, nested}
use Rattle.flat_form.specs.Frames.{input_start, others_behind, other_starts, places_of}
use Rattle.flat_form.specs.Owners.{OwnerData, program_owner, call_owner}
use Rattle.flat_form.specs.Bodies.{Bodies}
use Rattle.flat_form.specs.Calls.{rest_list, scratch_in, input_scratch, input_places, moved, before, operands_before, all_before, inputs_before}
use Rattle.flat_form.specs.FlatCharts.{latch_set, latch_list, runs_test, of_associated, flags_of, clear_flags, exited_set, entered_set, fired_list, ready_test, condition_list, flat_transition, flat_transitions, mark_list, flat_moves}
use Rattle.flat_form.specs.Unless.{Flags, without_flags, was_left, guarded, unless_left, flag_scratch, flag_start, turn_flags, body_flags}
use Rattle.flat_form.specs.FlatLists.{scratch_of, scratch_of_all, scratch_of_choices, scratch_of_entries, scratch_of_actions, unrolled, flat_of, flat_of_all, flat_choices, flat_entries, flat_actions}
use Rattle.flat_count.specs.Counts.{Counting, count_of_start, count_in, count_in_operands, count_in_all, count_in_inputs, count_of_latch, count_of_latches, count_of_transition, count_of_transitions, count_of_associated, count_of_flag, count_unless, count_of, count_of_all, count_of_choices, count_of_entries, count_of_actions, counting_of, counting, counted, capped, AreCounts}
use Rattle.flat_form.specs.Pous.{block_body, bodies_of}
use Rattle.flat_form.specs.FlatPrograms.{bodies_in, is_short}
use Rattle.flat_form.proofs.FrameLemmas.{frames-here}

abbrev size : List FlatStatement → ℕ
size ts = size_of_all (flats_of ts)

size-append : (a b : List FlatStatement) → size (a ++ b) ≡ size a + size b
size-append [] b = omega arith
size-append (t ∷ a) b = omega (arith, size-append a b)

size-if : (test : Bool) (a b : List FlatStatement) (m n : ℕ) → size a ≡ m → size b ≡ n → size (if test then a else b) ≡ (if test then m else n)
size-if true a b m n p q = p
size-if false a b m n p q = q

-- what stands behind statements that may leave
unless-some : (n m : ℕ) → n ≡ suc m → count_unless true n ≡ 1 + n
unless-some n m h = rw h refl

size-guarded : (e : Expression) (ts : List FlatStatement) → size (guarded e ts) ≡ count_unless true (size ts)
size-guarded e [] = refl
size-guarded e (set place v ∷ ts) =
    let some : size (set place v ∷ ts) ≡ suc (size ts) = omega arith in
    omega (arith, unless-some (size (set place v ∷ ts)) (size ts) some)
size-guarded e (branch f here other ∷ ts) =
    let rest = size_of_all here + size_of_all other + size ts in
    let some : size (branch f here other ∷ ts) ≡ suc rest = omega arith in
    omega (arith, unless-some (size (branch f here other ∷ ts)) rest some)

size-left : (exits returns : Bool) (flags : Flags) (ts : List FlatStatement) (n : ℕ) → size ts ≡ n → size (unless_left exits returns flags ts) ≡ count_unless (exits || returns) n
size-left true returns flags ts n h = size-guarded (was_left true returns flags) ts ∙ ap (count_unless true) h
size-left false true flags ts n h = size-guarded (was_left false true flags) ts ∙ ap (count_unless true) h
size-left false false flags ts n h = h

size-flag : (clears : Bool) (k : ℕ) → size (flag_start clears k) ≡ count_of_flag clears
size-flag true k = refl
size-flag false k = refl

module _ (exits returns : Bool) (flags : Flags) where
  size-unrolled : (n control : ℕ) (v step : ℤ) (m count : ℕ) (body : ℕ → List FlatStatement) → ((k : ℕ) → size (body k) ≡ count) → (k : ℕ)
      → size (unrolled (unless_left exits returns flags) n control v step m body k) ≡ n * count_unless (exits || returns) (1 + count) + count_unless (exits || returns) 1
  size-unrolled zero control v step m count body each k =
      let last = size-left exits returns flags (set control (number v) ∷ []) 1 refl in
      omega (arith, last)
  size-unrolled (suc n) control v step m count body each k =
      let turn : size (set control (number v) ∷ body k) ≡ 1 + count = omega (arith, each k) in
      let here = size-left exits returns flags (set control (number v) ∷ body k) (1 + count) turn in
      let more = size-unrolled n control (v +ℤ step) step m count body each (k + m) in
      let whole = size-append (unless_left exits returns flags (set control (number v) ∷ body k)) (unrolled (unless_left exits returns flags) n control (v +ℤ step) step m body (k + m)) in
      let product : suc n * count_unless (exits || returns) (1 + count) ≡ count_unless (exits || returns) (1 + count) + n * count_unless (exits || returns) (1 + count) = omega arith in
      omega (arith, whole, here, more, product)

size-starts : (frame : FrameData) (place n k : ℕ) → size (other_starts frame place n k) ≡ n
size-starts frame place zero k = refl
size-starts frame place (suc n) k = omega (arith, size-starts frame (place + 1) n (k + 1))

size-start : (frame : FrameData) (place t : ℕ) → size (input_start frame place t) ≡ count_of_start frame place
size-start frame place t = size-if (type_at frame.types place).is_subrange (set t (number (initial_at frame place)) ∷ []) [] 1 0 refl refl

-- ---- charts

size-latch : (owner : OwnerData) (base : ℕ) (steps : List StepCells) (latch : Option ℕ) (associations : List Association) → size (latch_set owner base steps latch associations) ≡ count_of_latch latch
size-latch owner base steps None associations = refl
size-latch owner base steps (Some place) associations = refl

size-latches : (owner : OwnerData) (base : ℕ) (steps : List StepCells) (actions : Actions) → size (latch_list owner base steps actions) ≡ count_of_latches actions
size-latches owner base steps no_actions = refl
size-latches owner base steps (action latch associations ss rest) =
    omega (arith, size-append (latch_set owner base steps latch associations) (latch_list owner base steps rest), size-latch owner base steps latch associations, size-latches owner base steps rest)

size-flags : (steps : List StepCells) (k : ℕ) → size (clear_flags steps k) ≡ 2 * length steps
size-flags [] k = refl
size-flags (p ∷ ps) k = omega (arith, size-flags ps (k + 2))

size-marks : (owner : OwnerData) (base : ℕ) (steps : List StepCells) (k : ℕ) → size (mark_list owner base steps k) ≡ 2 * length steps
size-marks owner base [] k = refl
size-marks owner base (p ∷ ps) k = omega (arith, size-marks owner base ps (k + 2))

size-exited : (k : ℕ) (list : List ℕ) → size (map (exited_set k) list) ≡ length list
size-exited k [] = refl
size-exited k (i ∷ list) = omega (arith, size-exited k list)

size-entered : (k : ℕ) (list : List ℕ) → size (map (entered_set k) list) ≡ length list
size-entered k [] = refl
size-entered k (i ∷ list) = omega (arith, size-entered k list)

size-fired : (k : ℕ) (from to : List ℕ) → size (fired_list k from to) ≡ length from + length to
size-fired k from to = omega (arith, size-append (map (exited_set k) from) (map (entered_set k) to), size-exited k from, size-entered k to)

-- statements behind a test
size-branch : (e : Expression) (a : List FlatStatement) (n : ℕ) → size a ≡ n → size (branch e (flats_of a) no_flats ∷ []) ≡ 1 + n
size-branch e a n h = omega (arith, h)

size-associated : (associations : List Association) (e : Expression) (a : List FlatStatement) (n : ℕ) → size a ≡ n → size (of_associated associations (branch e (flats_of a) no_flats ∷ [])) ≡ count_of_associated associations n
size-associated [] e a n h = refl
size-associated (x ∷ more) e a n h = size-branch e a n h

module _ (bodies : Bodies) (counts : Counting) (same : (f : ℕ) → bodies.frame f ≡ counts.frame f)
    (each_run : (owner : OwnerData) (b base k : ℕ) → size (bodies.run_list owner b base k) ≡ counts.runs b)
    (each_call : (f call_function : ℕ) (places : List ℕ) (k : ℕ) → size (bodies.call_list f call_function places k) ≡ counts.bodies f) where
  size-rest : (frame : FrameData) (f inputs : ℕ) (places : List ℕ) (k : ℕ) → size (rest_list bodies frame f inputs places k) ≡ others_behind frame inputs + (1 + counts.bodies f)
  size-rest frame f inputs places k =
      let others = others_behind frame inputs in
      let starts = other_starts frame (2 + inputs) others k in
      let called = bodies.call_list f (k + others) (places_of places k others) (k + others + 1) in
      omega (arith, size-append starts (set (k + others) (number (initial_at frame 1)) ∷ called), size-starts frame (2 + inputs) others k, each_call f (k + others) (places_of places k others) (k + others + 1))

  module _ (owner : OwnerData) (base : ℕ) where
    mutual
      size-before : (e : Expression) (k : ℕ) → size (before bodies owner base e k) ≡ count_in counts e
      size-before (number v) k = refl
      size-before (cell place) k = refl
      size-before (unary o t e) k = size-before e k
      size-before (chain e os) k =
          omega (arith, size-append (before bodies owner base e k) (operands_before bodies owner base os (k + length (scratch_in bodies e))), size-before e k, size-operands os (k + length (scratch_in bodies e)))
      size-before (call_standard f t es) k = size-all es k
      size-before (call_function f es) k =
          let inputs = inputs_before bodies owner base (bodies.frame f) 2 es k in
          let later = k + length (input_scratch bodies (bodies.frame f) 2 es) in
          let whole : size (before bodies owner base (call_function f es) k) ≡ count_in_inputs counts (bodies.frame f) 2 es + (others_behind (bodies.frame f) (arity es) + (1 + counts.bodies f))
          = omega (arith, size-append inputs (rest_list bodies (bodies.frame f) f (arity es) (input_places bodies es k) later), size-inputs (bodies.frame f) 2 es k, size-rest (bodies.frame f) f (arity es) (input_places bodies es k) later) in
          whole ∙ ap (λ (frame : FrameData). count_in_inputs counts frame 2 es + (others_behind frame (arity es) + (1 + counts.bodies f))) (same f)

      size-operands : (os : Operands) (k : ℕ) → size (operands_before bodies owner base os k) ≡ count_in_operands counts os
      size-operands no_operands k = refl
      size-operands (operand o t e os) k =
          omega (arith, size-append (before bodies owner base e k) (operands_before bodies owner base os (k + length (scratch_in bodies e))), size-before e k, size-operands os (k + length (scratch_in bodies e)))

      size-all : (es : Expressions) (k : ℕ) → size (all_before bodies owner base es k) ≡ count_in_all counts es
      size-all no_expressions k = refl
      size-all (expression e es) k =
          omega (arith, size-append (before bodies owner base e k) (all_before bodies owner base es (k + length (scratch_in bodies e))), size-before e k, size-all es (k + length (scratch_in bodies e)))

      size-inputs : (frame : FrameData) (place : ℕ) (es : Expressions) (k : ℕ) → size (inputs_before bodies owner base frame place es k) ≡ count_in_inputs counts frame place es
      size-inputs frame place no_expressions k = refl
      size-inputs frame place (expression e es) k =
          let t = k + length (scratch_in bodies e) in
          let rest = set t (moved bodies owner base e k) ∷ inputs_before bodies owner base frame (place + 1) es (t + 1) in
          omega (arith, size-append (before bodies owner base e k) (input_start frame place t ++ rest), size-append (input_start frame place t) rest, size-start frame place t, size-before e k, size-inputs frame (place + 1) es (t + 1))

  module _ (owner : OwnerData) (base : ℕ) (steps : List StepCells) (k : ℕ) where
    size-condition : (t : TransitionData) (j : ℕ) → size (condition_list bodies owner base k t j) ≡ count_in counts t.condition + (1 + (length t.from + length t.to))
    size-condition t j =
        let fired = fired_list k t.from t.to in
        omega (arith, size-append (before bodies owner base t.condition j) (branch (moved bodies owner base t.condition j) (flats_of fired) no_flats ∷ []), size-before owner base t.condition j, size-branch (moved bodies owner base t.condition j) fired _ (size-fired k t.from t.to))

    size-transition : (t : TransitionData) (j : ℕ) → size (flat_transition bodies owner base steps k t j ∷ []) ≡ count_of_transition counts t
    size-transition t j = omega (arith, size-branch (ready_test owner base steps k t.from) (condition_list bodies owner base k t j) _ (size-condition t j))

    size-transitions : (ts : List TransitionData) (j : ℕ) → size (flat_transitions bodies owner base steps k ts j) ≡ count_of_transitions counts ts
    size-transitions [] j = refl
    size-transitions (t ∷ ts) j =
        let rest = flat_transitions bodies owner base steps k ts (j + length (scratch_in bodies t.condition)) in
        omega (arith, size-append (flat_transition bodies owner base steps k t j ∷ []) rest, size-transition t j, size-transitions ts (j + length (scratch_in bodies t.condition)))

    size-moves : (ts : List TransitionData) → size (flat_moves bodies owner base steps ts k) ≡ 4 * length steps + count_of_transitions counts ts
    size-moves ts =
        let j = k + length (flags_of steps) in
        let trying = flat_transitions bodies owner base steps k ts j in
        let marking = mark_list owner base steps k in
        omega (arith, size-append (clear_flags steps k) (trying ++ marking), size-append trying marking, size-flags steps k, size-transitions ts j, size-marks owner base steps k)

  module _ (owner : OwnerData) where
    mutual
      size_of-statement : (base : ℕ) (flags : Flags) (t : Statement) (k : ℕ) → size (flat_of bodies owner base flags t k) ≡ count_of counts t
      size_of-statement base flags (assign target e) k =
          omega (arith, size-append (before bodies owner base e k) (set (owner (base + target)) (moved bodies owner base e k) ∷ []), size-before owner base e k)
      size_of-statement base flags (call_block b offset) k = each_run owner b (base + offset) k
      size_of-statement base flags (choice arms other) k =
          size_of-choices base flags arms k (flat_of_all bodies owner base flags other (k + length (scratch_of_choices bodies arms))) _ (size_of-all base flags other _)
      size_of-statement base flags (cases kind e es other) k =
          let t = k + length (scratch_in bodies e) in
          let rest = flat_of_all bodies owner base flags other (t + 1 + length (scratch_of_entries bodies es)) in
          omega (arith, size-append (before bodies owner base e k) (set t (moved bodies owner base e k) ∷ nested (flat_entries bodies owner base flags kind t es (t + 1)) rest), size-before owner base e k, size_of-entries base flags kind t es (t + 1) rest _ (size_of-all base flags other (t + 1 + length (scratch_of_entries bodies es))))
      size_of-statement base flags (repeat turns body) k =
          let exits = can_exit_all body in
          let inner = turn_flags exits flags k in
          let list = unrolled (unless_left exits (can_return_all body) inner) turns.count (owner (base + turns.control)) turns.first turns.step (length (scratch_of_all bodies body)) (flat_of_all bodies owner base inner body) (k + length (flag_scratch exits)) in
          let turning : size list ≡ turns.count * count_unless (exits || can_return_all body) (1 + count_of_all counts body) + count_unless (exits || can_return_all body) 1
          = size-unrolled exits (can_return_all body) inner turns.count (owner (base + turns.control)) turns.first turns.step (length (scratch_of_all bodies body)) (count_of_all counts body) (flat_of_all bodies owner base inner body) (λ j. size_of-all base inner body j) (k + length (flag_scratch exits)) in
          omega (arith, size-append (flag_start exits k) list, size-flag exits k, turning)
      size_of-statement base flags (chart steps actions ts) k =
          let latches = latch_list owner base steps actions in
          let acting = flat_actions bodies owner base steps actions k in
          let later = k + length (scratch_of_actions bodies actions) in
          let moves = flat_moves bodies owner base steps ts later in
          omega (arith, size-append latches (acting ++ moves), size-append acting moves, size-latches owner base steps actions, size_of-actions base steps actions k, size-moves owner base steps later ts)
      size_of-statement base flags exit k = refl
      size_of-statement base flags return k = refl
      size_of-statement base flags (own_body ss) k =
          let returns = can_return_all ss in
          let inner = body_flags returns flags k in
          let list = flat_of_all bodies owner base inner ss (k + length (flag_scratch returns)) in
          omega (arith, size-append (flag_start returns k) list, size-flag returns k, size_of-all base inner ss (k + length (flag_scratch returns)))

      pub size_of-all : (base : ℕ) (flags : Flags) (ts : Statements) (k : ℕ) → size (flat_of_all bodies owner base flags ts k) ≡ count_of_all counts ts
      size_of-all base flags no_statements k = refl
      size_of-all base flags (statement t ts) k =
          let rest = flat_of_all bodies owner base flags ts (k + length (scratch_of bodies t)) in
          let behind = size-left (can_exit t) (can_return t) flags rest (count_of_all counts ts) (size_of-all base flags ts (k + length (scratch_of bodies t))) in
          omega (arith, size-append (flat_of bodies owner base flags t k) (unless_left (can_exit t) (can_return t) flags rest), size_of-statement base flags t k, behind)

      size_of-choices : (base : ℕ) (flags : Flags) (arms : Choices) (k : ℕ) (rest : List FlatStatement) (count : ℕ) → size rest ≡ count → size (nested (flat_choices bodies owner base flags arms k) rest) ≡ count_of_choices counts arms + count
      size_of-choices base flags no_choices k rest count h = omega (arith, h)
      size_of-choices base flags (choose e ss arms) k rest count h =
          let j = k + length (scratch_in bodies e) in
          let i = j + length (scratch_of_all bodies ss) in
          let here = branch (moved bodies owner base e k) (flats_of (flat_of_all bodies owner base flags ss j)) (flats_of (nested (flat_choices bodies owner base flags arms i) rest)) in
          omega (arith, size-append (before bodies owner base e k) (here ∷ []), size-before owner base e k, size_of-all base flags ss j, size_of-choices base flags arms i rest count h)

      size_of-entries : (base : ℕ) (flags : Flags) (kind : Elementary) (t : ℕ) (es : Entries) (k : ℕ) (rest : List FlatStatement) (count : ℕ) → size rest ≡ count → size (nested (flat_entries bodies owner base flags kind t es k) rest) ≡ count_of_entries counts es + count
      size_of-entries base flags kind t no_entries k rest count h = omega (arith, h)
      size_of-entries base flags kind t (entry labels ss es) k rest count h =
          omega (arith, size_of-all base flags ss k, size_of-entries base flags kind t es (k + length (scratch_of_all bodies ss)) rest count h)

      size_of-actions : (base : ℕ) (steps : List StepCells) (actions : Actions) (k : ℕ) → size (flat_actions bodies owner base steps actions k) ≡ count_of_actions counts actions
      size_of-actions base steps no_actions k = refl
      size_of-actions base steps (action latch associations ss rest) k =
          let body = flat_of_all bodies owner base without_flags ss k in
          let test = runs_test owner base steps latch associations in
          let here = of_associated associations (branch test (flats_of body) no_flats ∷ []) in
          let j = k + length (of_associated associations (scratch_of_all bodies ss)) in
          omega (arith, size-append here (flat_actions bodies owner base steps rest j), size-associated associations test body _ (size_of-all base without_flags ss k), size_of-actions base steps rest j)

-- ---- POUs

counting-frames : (ps : List CalledData) (n f : ℕ) → (counting_of ps n).frame f ≡ frames_of ps f
counting-frames ps zero f = refl
counting-frames ps (suc n) f = refl

same-frames : (ps : List CalledData) (n f : ℕ) → (bodies_of ps n).frame f ≡ (counting_of ps n).frame f
same-frames ps n f = ap (λ (g : ℕ → FrameData). g f) (frames-here ps n) ∙ sym (counting-frames ps n f)

module _ (ps : List CalledData) where
  mutual
    size-run : (n : ℕ) (owner : OwnerData) (b base k : ℕ) → size ((bodies_of ps n).run_list owner b base k) ≡ (counting_of ps n).runs b
    size-run zero owner b base k = refl
    size-run (suc n) owner b base k =
        size-if (b == n) _ _ _ _ (size_of-all (bodies_of ps n) (counting_of ps n) (same-frames ps n) (λ o c at j. size-run n o c at j) (λ f a places j. size-call n f a places j) owner base without_flags (block_body (slice_index_or ps n nothing)) k) (size-run n owner b base k)

    size-call : (n f a : ℕ) (places : List ℕ) (k : ℕ) → size ((bodies_of ps n).call_list f a places k) ≡ (counting_of ps n).bodies f
    size-call zero f a places k = refl
    size-call (suc n) f a places k =
        size-if (f == n) _ _ _ _ (size_of-all (bodies_of ps n) (counting_of ps n) (same-frames ps n) (λ o c at j. size-run n o c at j) (λ g b there j. size-call n g b there j) (call_owner a places) 0 without_flags (function_body (slice_index_or ps n nothing)) k) (size-call n f a places k)

-- ---- counts that are the same up to the limit give counts that are

same_sum : (a b c d : ℕ) → capped a ≡ capped c → capped b ≡ capped d → capped (a + b) ≡ capped (c + d)
same_sum a b c d p q = grind (arith, nat_tests)

same_unless : (asks : Bool) (a b : ℕ) → capped a ≡ capped b → capped (count_unless asks a) ≡ capped (count_unless asks b)
same_unless true zero zero p = refl
same_unless true zero (suc b) p = absurd (grind (arith, nat_tests, p))
same_unless true (suc a) zero p = absurd (grind (arith, nat_tests, p))
same_unless true (suc a) (suc b) p = same_sum 1 (suc a) 1 (suc b) refl p
same_unless false a b p = p

same_turns : (n a b x y : ℕ) → capped a ≡ capped b → capped x ≡ capped y → capped (n * a + x) ≡ capped (n * b + y)
same_turns zero a b x y p q =
    let left : 0 * a + x ≡ x = omega arith in
    let right : 0 * b + y ≡ y = omega arith in
    rw (left, right) q
same_turns (suc n) a b x y p q =
    let both = same_sum a (n * a + x) b (n * b + y) p (same_turns n a b x y p q) in
    let left : suc n * a + x ≡ a + (n * a + x) = omega arith in
    let right : suc n * b + y ≡ b + (n * b + y) = omega arith in
    rw (left, right) both

capped_twice : (n : ℕ) → capped (capped n) ≡ capped n
capped_twice n = grind (arith, nat_tests)

-- a FOR, by the count of its body
pub turns-counted : (c : Counting) (turns : Turns) (list : Vec TypedStmt Global) (exits returns : Bool) (n whole : ℕ)
    → exits ≡ can_exit_all (stmts_view list.items) → returns ≡ can_return_all (stmts_view list.items) → n ≡ capped (count_of_all c (stmts_view list.items))
    → whole ≡ capped (count_of_flag exits + (turns.count * count_unless (exits || returns) (1 + n) + count_unless (exits || returns) 1))
    → whole ≡ capped (count_of c (stmt_view (variants.For turns list)))
turns-counted c turns list exits returns n whole is_exits is_returns is_n is_whole =
    let body = stmts_view list.items in
    let asks = can_exit_all body || can_return_all body in
    let view : stmt_view (variants.For turns list) ≡ repeat turns body = simp stmt_lemmas in
    let one = same_sum 1 (capped (count_of_all c body)) 1 (count_of_all c body) refl (capped_twice (count_of_all c body)) in
    let turn = same_unless asks (1 + capped (count_of_all c body)) (1 + count_of_all c body) one in
    let all = same_turns turns.count (count_unless asks (1 + capped (count_of_all c body))) (count_unless asks (1 + count_of_all c body)) (count_unless asks 1) (count_unless asks 1) turn refl in
    let same = same_sum (count_of_flag (can_exit_all body)) _ (count_of_flag (can_exit_all body)) _ refl all in
    rw (view, is_whole, is_n, is_exits, is_returns) same

module _ (f g : Counting) (frames : (n : ℕ) → f.frame n ≡ g.frame n) (same_runs : (n : ℕ) → capped (f.runs n) ≡ capped (g.runs n)) (same_bodies : (n : ℕ) → capped (f.bodies n) ≡ capped (g.bodies n)) where
  mutual
    same_in : (e : Expression) → capped (count_in f e) ≡ capped (count_in g e)
    same_in (number v) = refl
    same_in (cell place) = refl
    same_in (unary o t e) = same_in e
    same_in (chain e os) = same_sum _ _ _ _ (same_in e) (same_operands os)
    same_in (call_standard h t es) = same_in_all es
    same_in (call_function h es) =
        same_sum (count_in_inputs f (f.frame h) 2 es) (others_behind (f.frame h) (arity es) + (1 + f.bodies h)) (count_in_inputs g (f.frame h) 2 es) (others_behind (f.frame h) (arity es) + (1 + g.bodies h)) (same_inputs (f.frame h) 2 es)
        (same_sum (others_behind (f.frame h) (arity es)) (1 + f.bodies h) (others_behind (f.frame h) (arity es)) (1 + g.bodies h) refl (same_sum 1 _ 1 _ refl (same_bodies h)))
        ∙ ap (λ (frame : FrameData). capped (count_in_inputs g frame 2 es + (others_behind frame (arity es) + (1 + g.bodies h)))) (frames h)

    same_operands : (os : Operands) → capped (count_in_operands f os) ≡ capped (count_in_operands g os)
    same_operands no_operands = refl
    same_operands (operand o t e os) = same_sum _ _ _ _ (same_in e) (same_operands os)

    same_in_all : (es : Expressions) → capped (count_in_all f es) ≡ capped (count_in_all g es)
    same_in_all no_expressions = refl
    same_in_all (expression e es) = same_sum _ _ _ _ (same_in e) (same_in_all es)

    same_inputs : (frame : FrameData) (place : ℕ) (es : Expressions) → capped (count_in_inputs f frame place es) ≡ capped (count_in_inputs g frame place es)
    same_inputs frame place no_expressions = refl
    same_inputs frame place (expression e es) =
        same_sum _ _ _ _ (same_sum (count_in f e) (count_of_start frame place + 1) (count_in g e) (count_of_start frame place + 1) (same_in e) refl) (same_inputs frame (place + 1) es)

  same_transition : (t : TransitionData) → capped (count_of_transition f t) ≡ capped (count_of_transition g t)
  same_transition t = same_sum (2 + count_in f t.condition) (length t.from + length t.to) (2 + count_in g t.condition) (length t.from + length t.to) (same_sum 2 _ 2 _ refl (same_in t.condition)) refl

  same_transitions : (ts : List TransitionData) → capped (count_of_transitions f ts) ≡ capped (count_of_transitions g ts)
  same_transitions [] = refl
  same_transitions (t ∷ ts) = same_sum _ _ _ _ (same_transition t) (same_transitions ts)

  same_associated : (associations : List Association) (a b : ℕ) → capped a ≡ capped b → capped (count_of_associated associations a) ≡ capped (count_of_associated associations b)
  same_associated [] a b p = refl
  same_associated (x ∷ more) a b p = same_sum 1 a 1 b refl p

  mutual
    same_count : (t : Statement) → capped (count_of f t) ≡ capped (count_of g t)
    same_count (assign target e) = same_sum _ 1 _ 1 (same_in e) refl
    same_count (call_block b offset) = same_runs b
    same_count (choice arms other) = same_sum _ _ _ _ (same_choices arms) (same_all other)
    same_count (cases kind e es other) = same_sum _ _ _ _ (same_sum _ _ _ _ (same_sum _ 1 _ 1 (same_in e) refl) (same_entries es)) (same_all other)
    same_count (repeat turns body) =
        let asks = can_exit_all body || can_return_all body in
        same_sum (count_of_flag (can_exit_all body)) _ (count_of_flag (can_exit_all body)) _ refl
        (same_turns turns.count _ _ (count_unless asks 1) (count_unless asks 1) (same_unless asks (1 + count_of_all f body) (1 + count_of_all g body) (same_sum 1 _ 1 _ refl (same_all body))) refl)
    same_count (chart steps actions ts) =
        same_sum (count_of_latches actions) _ (count_of_latches actions) _ refl (same_sum _ _ _ _ (same_actions actions) (same_sum (4 * length steps) _ (4 * length steps) _ refl (same_transitions ts)))
    same_count exit = refl
    same_count return = refl
    same_count (own_body ss) = same_sum (count_of_flag (can_return_all ss)) _ (count_of_flag (can_return_all ss)) _ refl (same_all ss)

    pub same_all : (ts : Statements) → capped (count_of_all f ts) ≡ capped (count_of_all g ts)
    same_all no_statements = refl
    same_all (statement t ts) = same_sum _ _ _ _ (same_count t) (same_unless (can_exit t || can_return t) (count_of_all f ts) (count_of_all g ts) (same_all ts))

    same_choices : (arms : Choices) → capped (count_of_choices f arms) ≡ capped (count_of_choices g arms)
    same_choices no_choices = refl
    same_choices (choose e ss arms) = same_sum _ _ _ _ (same_sum _ _ _ _ (same_in e) (same_sum 1 _ 1 _ refl (same_all ss))) (same_choices arms)

    same_entries : (es : Entries) → capped (count_of_entries f es) ≡ capped (count_of_entries g es)
    same_entries no_entries = refl
    same_entries (entry labels ss es) = same_sum _ _ _ _ (same_sum 1 _ 1 _ refl (same_all ss)) (same_entries es)

    same_actions : (actions : Actions) → capped (count_of_actions f actions) ≡ capped (count_of_actions g actions)
    same_actions no_actions = refl
    same_actions (action latch associations ss rest) = same_sum _ _ _ _ (same_associated associations _ _ (same_all ss)) (same_actions rest)

-- ---- programs

below_the_limit : (count : ℕ) → nat_lt (capped count) 200000 ≡ nat_le (1 + count) 200000
below_the_limit count = grind (arith, nat_tests)

-- counts in lists count as those of the POUs do
counts-same : (runs bodies : List ℕ) (ps : List CalledData) (i : ℕ) → ((n : ℕ) → (capped (counted runs n) ≡ capped ((counting_of ps i).runs n)) × (capped (counted bodies n) ≡ capped ((counting_of ps i).bodies n)))
    → (ts : Statements) → capped (count_of_all (counting ps runs bodies) ts) ≡ capped (count_of_all (counting_of ps i) ts)
counts-same runs bodies ps i are ts = same_all (counting ps runs bodies) (counting_of ps i) (λ n. sym (counting-frames ps i n)) (λ n. (are n).0) (λ n. (are n).1) ts

pub is_short-count : (p : ProgramData) (body : Statements) (runs bodies : List ℕ) (ps : List CalledData) (n : ℕ) → n ≡ capped (count_of_all (counting ps runs bodies) body) → AreCounts runs bodies ps → ps ≡ p.called → body ≡ p.body → nat_lt n 200000 ≡ is_short p
is_short-count p body runs bodies ps n counts are called same =
    let m = length p.called in
    let equal : n ≡ capped (count_of_all (counting_of p.called m) p.body)
    = counts ∙ counts-same runs bodies ps (length ps) are body ∙ ap (λ q. capped (count_of_all (counting_of q (length q)) body)) called ∙ ap (λ b. capped (count_of_all (counting_of p.called m) b)) same in
    let whole = size_of-all (bodies_in p) (counting_of p.called m) (same-frames p.called m) (λ o b base k. size-run p.called m o b base k) (λ f a places k. size-call p.called m f a places k) program_owner 0 without_flags p.body (length p.cells) in
    rw (equal, whole) (below_the_limit (count_of_all (counting_of p.called m) p.body))

-- ---- the counts of POUs, one after the other

-- the counts so far, of the first so many POUs
abbrev pub CountFirst : List ℕ → List ℕ → List CalledData → ℕ → Type 0
CountFirst runs bodies ps i = (n : ℕ) → (capped (counted runs n) ≡ capped ((counting_of ps i).runs n)) × (capped (counted bodies n) ≡ capped ((counting_of ps i).bodies n))

none_counted : (ns : List ℕ) (b : ℕ) → length ns ≤ b → counted ns b ≡ 0
none_counted [] b h = refl
none_counted (n ∷ ns) zero h = absurd (omega arith)
none_counted (n ∷ ns) (suc b) h = none_counted ns b (omega arith)

counted-append : (ns : List ℕ) (n b : ℕ) → counted (ns ++ n ∷ []) b ≡ (if b == length ns then n else counted ns b)
counted-append [] n zero = refl
counted-append [] n (suc b) = let other : (suc b == 0) ≡ false = search (rules, tests) in rw other refl
counted-append (m ∷ ns) n zero = let other : (0 == suc (length ns)) ≡ false = search (rules, tests) in rw other refl
counted-append (m ∷ ns) n (suc b) = let e : (suc b == suc (length ns)) ≡ (b == length ns) = search (rules, tests) in rw e (counted-append ns n b)

capped-if : (test : Bool) (n m a b : ℕ) → capped n ≡ capped m → capped a ≡ capped b → capped (if test then n else a) ≡ capped (if test then m else b)
capped-if true n m a b p q = p
capped-if false n m a b p q = q

-- one count more
counted-more : (ns more : List ℕ) (i n m b rest : ℕ) → length ns ≡ i → more ≡ ns ++ n ∷ [] → capped n ≡ capped m → capped (counted ns b) ≡ capped rest → capped (counted more b) ≡ capped (if b == i then m else rest)
counted-more ns more i n m b rest long is here first = rw (is, counted-append ns n b, long) (capped-if (b == i) n m (counted ns b) rest here first)

pub counts-more : (runs bodies more_runs more_bodies : List ℕ) (ps : List CalledData) (i r b : ℕ) → length runs ≡ i → length bodies ≡ i → more_runs ≡ runs ++ r ∷ [] → more_bodies ≡ bodies ++ b ∷ [] → CountFirst runs bodies ps i
    → capped r ≡ capped (count_of_all (counting ps runs bodies) (block_body (slice_index_or ps i nothing))) → capped b ≡ capped (count_of_all (counting ps runs bodies) (function_body (slice_index_or ps i nothing)))
    → CountFirst more_runs more_bodies ps (i + 1)
counts-more runs bodies more_runs more_bodies ps i r b long_runs long_bodies is_runs is_bodies first run_here body_here n =
    let one : i + 1 ≡ suc i = omega arith in
    rw one (
      counted-more runs more_runs i r _ n _ long_runs is_runs (run_here ∙ counts-same runs bodies ps i first (block_body (slice_index_or ps i nothing))) (first n).0,
      counted-more bodies more_bodies i b _ n _ long_bodies is_bodies (body_here ∙ counts-same runs bodies ps i first (function_body (slice_index_or ps i nothing))) (first n).1,
    )

-- what is read of lists
pub counting-same : (ps : List CalledData) (runs known_runs bodies known_bodies : List ℕ) → runs ≡ known_runs → bodies ≡ known_bodies → counting ps runs bodies ≡ counting ps known_runs known_bodies
counting-same ps runs known_runs bodies known_bodies p q = ap (λ (l : List ℕ). counting ps l bodies) p ∙ ap (λ (l : List ℕ). counting ps known_runs l) q

pub counting-same-of : (ps known : List CalledData) (runs known_runs bodies known_bodies : List ℕ) → ps ≡ known → runs ≡ known_runs → bodies ≡ known_bodies → counting ps runs bodies ≡ counting known known_runs known_bodies
counting-same-of ps known runs known_runs bodies known_bodies h p q = counting-same ps runs known_runs bodies known_bodies p q ∙ ap (λ (l : List CalledData). counting l known_runs known_bodies) h

pub counts-all : (runs bodies : List ℕ) (called : List Called) (i : ℕ) → i ≡ length called → CountFirst runs bodies (all_called_view called) i → AreCounts runs bodies (all_called_view called)
counts-all runs bodies called i all first n =
    let m : length (all_called_view called) ≡ i = length-map called called_view ∙ sym all in
    rw m (first n)

-- what is counted of the next POU
pub body-counted : (n : ℕ) (counts known : Counting) (ts us : Statements) → n ≡ capped (count_of_all counts ts) → counts ≡ known → ts ≡ us → capped n ≡ capped (count_of_all known us)
body-counted n counts known ts us e same is = rw (e, same, is) (capped_twice (count_of_all known us))

-- ---- a call

capped_right : (a b : ℕ) → capped (a + capped b) ≡ capped (a + b)
capped_right a b = grind (arith, nat_tests)

capped_both : (a b : ℕ) → capped (capped a + capped b) ≡ capped (a + b)
capped_both a b = grind (arith, nat_tests)

pub answer-counted : (whole before rest others body at x y z b : ℕ) → whole ≡ capped (before + rest) → before ≡ capped x → rest ≡ capped (others + body) → others ≡ capped y → body ≡ capped (1 + at) → at ≡ capped b → y ≡ z
    → whole ≡ capped (x + (z + (1 + b)))
answer-counted whole before rest others body at x y z b is_whole is_before is_rest is_others is_body is_at same =
    let body_counted : body ≡ capped (1 + b) = is_body ∙ ap (λ (n : ℕ). capped (1 + n)) is_at ∙ capped_right 1 b in
    let rest_counted : rest ≡ capped (y + (1 + b)) = is_rest ∙ ap (λ (n : ℕ). capped (n + body)) is_others ∙ ap (λ (n : ℕ). capped (capped y + n)) body_counted ∙ capped_both y (1 + b) in
    is_whole ∙ ap (λ (n : ℕ). capped (n + rest)) is_before ∙ ap (λ (n : ℕ). capped (capped x + n)) rest_counted ∙ capped_both x (y + (1 + b)) ∙ ap (λ (n : ℕ). capped (x + (n + (1 + b)))) same
