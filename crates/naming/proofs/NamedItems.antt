-- The rules on names ask of a body what they ask of each of its items, and a body calls what its items call.
use Rattle.std.proofs.Common.{◌≡◌, ℕ, Bool, true, false, not, ◌&&◌, ◌==◌, if◌then◌else◌, List, [], ◌∷◌, ◌++◌, refl, ap, ap₂, ◌∙◌, sym}
use Rattle.std.specs.List.{count_by}
use Rattle.std.proofs.lemmas.Bool.{and_parts}
use Rattle.std.proofs.lemmas.List.{append-nil, append_assoc}
use Rattle.rules.specs.declared.rule.Rule.TheVariants.{NotOneInitialStep}
use Rattle.rules.specs.Judgements.{Judgement, and, breaks}
use Rattle.source_tree.specs.Syntax.{IterationData, Tree, LabelData, Stmt, empty, assign, invoke, branch, cases, iterate, exit, return, Stmts, no_stmts, stmt, Arms, no_arms, arm, Entries, no_entries, entry, Otherwise, no_else, else_stmts, PartData, step_part, transition_part, action_part, BodyData, statements, chart, FileData}
use Rattle.source_tree.specs.StatementItems.{StatementItem, every, listed, folded, folded_stmts, folded_arms, folded_entries, folded_else, folded_parts, folded_body}
use Rattle.naming.specs.Scopes.{PouScope}
use Rattle.naming.specs.Broken.{in_tree, in_labels, in_iteration, in_stmt, in_stmts, in_arms, in_entries, in_else, in_own_name, in_own_name_if, in_steps, in_part, in_chart_parts, is_initial_part, place_of_chart, in_body}
use Rattle.naming.specs.Circles.{calls_in, calls_in_iteration, calls_in_stmt, calls_in_stmts, calls_in_arms, calls_in_entries, calls_in_else, calls_in_part, calls_in_parts, calls_in_body}
use Rattle.naming.specs.NamedItems.{in_item, calls_in_item}

both_whole : (j k : Judgement) → (and j k).whole ≡ true → (j.whole ≡ true) × (k.whole ≡ true)
both_whole j k whole = and_parts j.whole k.whole whole

module _ (f : FileData) (p : PouScope) where
  -- the rules on names are kept at an item
  abbrev pub IsNamedItem : List IterationData → StatementItem → Type 0
  IsNamedItem around i = (in_item f p i).whole ≡ true

  mutual
    named_item : (around : List IterationData) (s : Stmt) → (in_stmt f p s).whole ≡ true → folded (every IsNamedItem) around s
    named_item around empty h = tt
    named_item around (assign q e) h = h
    named_item around (invoke n at cs) h = h
    named_item around (branch arms other) h =
        let two = both_whole (in_arms f p arms) (in_else f p other) h in
        (named_arms around arms two.0, named_else around other two.1)
    named_item around (cases e es other) h =
        let two = both_whole (and (in_tree f p e) (in_entries f p es)) (in_else f p other) h in
        let one = both_whole (in_tree f p e) (in_entries f p es) two.0 in
        (one.0, (named_entries around e [] es one.1, named_else around other two.1))
    named_item around (iterate i ss) h =
        let two = both_whole (in_iteration f p i) (in_stmts f p ss) h in
        (two.0, named_items (i ∷ around) ss two.1)
    named_item around (exit at) h = tt
    named_item around return h = tt

    pub named_items : (around : List IterationData) (ss : Stmts) → (in_stmts f p ss).whole ≡ true → folded_stmts (every IsNamedItem) around ss
    named_items around no_stmts h = tt
    named_items around (stmt s ss) h =
        let two = both_whole (in_stmt f p s) (in_stmts f p ss) h in
        (named_item around s two.0, named_items around ss two.1)

    named_arms : (around : List IterationData) (arms : Arms) → (in_arms f p arms).whole ≡ true → folded_arms (every IsNamedItem) around arms
    named_arms around no_arms h = tt
    named_arms around (arm e ss arms) h =
        let two = both_whole (and (in_tree f p e) (in_stmts f p ss)) (in_arms f p arms) h in
        let one = both_whole (in_tree f p e) (in_stmts f p ss) two.0 in
        (one.0, (named_items around ss one.1, named_arms around arms two.1))

    named_entries : (around : List IterationData) (e : Tree) (before : List (List LabelData)) (es : Entries) → (in_entries f p es).whole ≡ true → folded_entries (every IsNamedItem) around e before es
    named_entries around e before no_entries h = tt
    named_entries around e before (entry ls ss es) h =
        let two = both_whole (and (in_labels f p ls) (in_stmts f p ss)) (in_entries f p es) h in
        let one = both_whole (in_labels f p ls) (in_stmts f p ss) two.0 in
        (one.0, (named_items around ss one.1, named_entries around e (ls ∷ before) es two.1))

    named_else : (around : List IterationData) (other : Otherwise) → (in_else f p other).whole ≡ true → folded_else (every IsNamedItem) around other
    named_else around no_else h = tt
    named_else around (else_stmts ss) h = named_items around ss h

  pub named_parts : (ps : List PartData) → (in_chart_parts f p ps).whole ≡ true → folded_parts (every IsNamedItem) ps
  named_parts [] h = tt
  named_parts (step_part s ∷ ps) h = named_parts ps (both_whole (in_part f p (step_part s)) (in_chart_parts f p ps) h).1
  named_parts (transition_part t ∷ ps) h =
      let two = both_whole (in_part f p (transition_part t)) (in_chart_parts f p ps) h in
      let tree = in_tree f p t.condition in
      let one = both_whole (in_own_name_if p t.name) (and (in_steps f p t.from) (and (in_steps f p t.to) tree)) two.0 in
      let more = both_whole (in_steps f p t.from) (and (in_steps f p t.to) tree) one.1 in
      ((both_whole (in_steps f p t.to) tree more.1).1, named_parts ps two.1)
  named_parts (action_part a ∷ ps) h =
      let two = both_whole (in_part f p (action_part a)) (in_chart_parts f p ps) h in
      (named_items [] a.body (both_whole (in_own_name p a.name) (in_stmts f p a.body) two.0).1, named_parts ps two.1)

  -- a chart without one initial step breaks a rule
  whole_chart : (j : Judgement) (w b : Bool) (at : ℕ) → j.whole ≡ w → (if w && b then breaks NotOneInitialStep at else j).whole ≡ true → j.whole ≡ true
  whole_chart j true b at is whole = is
  whole_chart j false b at is whole = whole

  pub named_body : (b : BodyData) → (in_body f p b).whole ≡ true → folded_body (every IsNamedItem) b
  named_body (statements ss) h = named_items [] ss h
  named_body (chart ps) h = named_parts ps (whole_chart (in_chart_parts f p ps) (in_chart_parts f p ps).whole (not (count_by is_initial_part ps == 1)) (place_of_chart ps) refl h)

module _ (f : FileData) where
  -- what an item calls, wherever it stands
  abbrev pub given_calls : List IterationData → StatementItem → List ℕ
  given_calls around i = calls_in_item f i

  mutual
    calls_of_item : (around : List IterationData) (s : Stmt) → calls_in_stmt f s ≡ folded (listed given_calls) around s
    calls_of_item around empty = refl
    calls_of_item around (assign q e) = refl
    calls_of_item around (invoke n at cs) = refl
    calls_of_item around (branch arms other) = ap₂ (λ xs ys. xs ++ ys) (calls_of_arms around arms) (calls_of_else around other)
    calls_of_item around (cases e es other) =
        append_assoc (calls_in f e) (calls_in_entries f es) (calls_in_else f other)
        ∙ ap (λ zs. calls_in f e ++ zs) (ap₂ (λ xs ys. xs ++ ys) (calls_of_entries around e [] es) (calls_of_else around other))
    calls_of_item around (iterate i ss) = ap (λ zs. calls_in_iteration f i ++ zs) (calls_of_items (i ∷ around) ss)
    calls_of_item around (exit at) = refl
    calls_of_item around return = refl

    pub calls_of_items : (around : List IterationData) (ss : Stmts) → calls_in_stmts f ss ≡ folded_stmts (listed given_calls) around ss
    calls_of_items around no_stmts = refl
    calls_of_items around (stmt s ss) = ap₂ (λ xs ys. xs ++ ys) (calls_of_item around s) (calls_of_items around ss)

    calls_of_arms : (around : List IterationData) (arms : Arms) → calls_in_arms f arms ≡ folded_arms (listed given_calls) around arms
    calls_of_arms around no_arms = refl
    calls_of_arms around (arm e ss arms) =
        append_assoc (calls_in f e) (calls_in_stmts f ss) (calls_in_arms f arms)
        ∙ ap (λ zs. calls_in f e ++ zs) (ap₂ (λ xs ys. xs ++ ys) (calls_of_items around ss) (calls_of_arms around arms))

    calls_of_entries : (around : List IterationData) (e : Tree) (before : List (List LabelData)) (es : Entries) → calls_in_entries f es ≡ folded_entries (listed given_calls) around e before es
    calls_of_entries around e before no_entries = refl
    calls_of_entries around e before (entry ls ss es) = ap₂ (λ xs ys. xs ++ ys) (calls_of_items around ss) (calls_of_entries around e (ls ∷ before) es)

    calls_of_else : (around : List IterationData) (other : Otherwise) → calls_in_else f other ≡ folded_else (listed given_calls) around other
    calls_of_else around no_else = refl
    calls_of_else around (else_stmts ss) = calls_of_items around ss

  pub calls_of_parts : (ps : List PartData) → calls_in_parts f ps ≡ folded_parts (listed given_calls) ps
  calls_of_parts [] = refl
  calls_of_parts (step_part s ∷ ps) = calls_of_parts ps
  calls_of_parts (transition_part t ∷ ps) = ap (λ zs. calls_in f t.condition ++ zs) (calls_of_parts ps)
  calls_of_parts (action_part a ∷ ps) = ap₂ (λ xs ys. xs ++ ys) (calls_of_items [] a.body) (calls_of_parts ps)

  pub calls_of_body : (b : BodyData) → calls_in_body f b ≡ folded_body (listed given_calls) b
  calls_of_body (statements ss) = calls_of_items [] ss
  calls_of_body (chart ps) = calls_of_parts ps
