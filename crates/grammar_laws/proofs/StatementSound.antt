-- Statements that are read are fitting ones that print the symbols that were taken.
use Rattle.std.proofs.Common.{◌≡◌, ℕ, zero, suc, Bool, true, false, cond, ◌&&◌, List, [], ◌∷◌, ◌++◌, Option, Some, None, refl, sym, ap, subst, ◌∙◌, append_assoc}
use Rattle.source_tree.specs.declared.token.Mark.{Mark}
use Rattle.source_tree.specs.declared.token.Mark.TheVariants.{Semicolon, Colon, Assign, If, Then, Elsif, Else, EndIf, Case, Of, EndCase, EndFor, Return}
use Rattle.source_tree.specs.Syntax.{Symbol, name, iteration, exit_word, mark, Named, PathData, Tree, LabelData, IterationData, Stmt, empty, assign, branch, cases, iterate, exit, return, Stmts, no_stmts, stmt, Arms, no_arms, arm, Entries, no_entries, entry, Otherwise, no_else, else_stmts}
use Rattle.source_tree.specs.Prints.{name_symbol, print_path, print, print_labels, print_iteration, print_stmt, print_stmts, print_arms, print_entries, print_otherwise}
use Rattle.source_tree.specs.Levels.{AreLabels}
use Rattle.grammar.specs.Marks.{same_mark}
use Rattle.grammar.specs.Ends.{is_label, begins_where, ends_entries}
use Rattle.grammar.specs.Fits.{Fits, StmtFits, StmtsFit, ArmsFit, EntriesFit, ElseFits}
use Rattle.grammar.specs.declared.opener.Opener.{Opener}
use Rattle.grammar.specs.declared.opener.Opener.TheVariants as openers
use Rattle.grammar.specs.Reading.{Read, ◌>>=◌, after, opened as parenthesis}
use Rattle.grammar.specs.Expressions.{path_from, inside, expression}
use Rattle.grammar.specs.Labels.{labels}
use Rattle.grammar.specs.Iterations.{iteration_from}
use Rattle.grammar.specs.Statements.{add_stmt, add_arm, add_entry, assigned, simple_or, simple, ended, Begun, marked, begun, statements_step, statements_from, arms_step, arms_from, otherwise_or, otherwise, branched, repeated, entries_step, entries_from, selected, opened, nested, statements}
use Rattle.grammar_laws.proofs.Steps.{bind_some, some_is, after_is, same_mark-is, opened_is as parenthesis_is}
use Rattle.grammar_laws.proofs.Sound.{path_from_is, inside_is, expression_is}
use Rattle.grammar_laws.proofs.Selections.{labels_is}
use Rattle.grammar_laws.proofs.Iterations.{iteration_is}
use Rattle.grammar_laws.proofs.Connections.{invoked_is}

-- ---- lists behind lists

abbrev pub join_stmts : Stmts → Stmts → Stmts
join_stmts no_stmts ys = ys
join_stmts (stmt x xs) ys = stmt x (join_stmts xs ys)

pub join_stmts-none : (xs : Stmts) → join_stmts xs no_stmts ≡ xs
join_stmts-none no_stmts = refl
join_stmts-none (stmt x xs) = ap (stmt x) (join_stmts-none xs)

pub join_stmts-add : (xs : Stmts) (s : Stmt) (ys : Stmts) → join_stmts (add_stmt xs s) ys ≡ join_stmts xs (stmt s ys)
join_stmts-add no_stmts s ys = refl
join_stmts-add (stmt x xs) s ys = ap (stmt x) (join_stmts-add xs s ys)

abbrev pub join_arms : Arms → Arms → Arms
join_arms no_arms ys = ys
join_arms (arm e ss xs) ys = arm e ss (join_arms xs ys)

pub join_arms-none : (xs : Arms) → join_arms xs no_arms ≡ xs
join_arms-none no_arms = refl
join_arms-none (arm e ss xs) = ap (arm e ss) (join_arms-none xs)

pub join_arms-add : (xs : Arms) (e : Tree) (ss : Stmts) (ys : Arms) → join_arms (add_arm xs e ss) ys ≡ join_arms xs (arm e ss ys)
join_arms-add no_arms e ss ys = refl
join_arms-add (arm x xs arms) e ss ys = ap (arm x xs) (join_arms-add arms e ss ys)

abbrev pub join_entries : Entries → Entries → Entries
join_entries no_entries ys = ys
join_entries (entry ls ss xs) ys = entry ls ss (join_entries xs ys)

pub join_entries-none : (xs : Entries) → join_entries xs no_entries ≡ xs
join_entries-none no_entries = refl
join_entries-none (entry ls ss xs) = ap (entry ls ss) (join_entries-none xs)

pub join_entries-add : (xs : Entries) (ls : List LabelData) (ss : Stmts) (ys : Entries) → join_entries (add_entry xs ls ss) ys ≡ join_entries xs (entry ls ss ys)
join_entries-add no_entries ls ss ys = refl
join_entries-add (entry k xs es) ls ss ys = ap (entry k xs) (join_entries-add es ls ss ys)

-- ---- parts of a statement, one behind the other

pub arm_shape : (e : Tree) (ss : Stmts) (arms : Arms) (rest : List Symbol)
    → (print e ++ mark Then ∷ (print_stmts ss ++ print_arms Elsif arms)) ++ rest ≡ print e ++ mark Then ∷ (print_stmts ss ++ (print_arms Elsif arms ++ rest))
arm_shape e ss arms rest =
    append_assoc (print e) (mark Then ∷ (print_stmts ss ++ print_arms Elsif arms)) rest ∙ ap (λ (r : List Symbol). print e ++ mark Then ∷ r) (append_assoc (print_stmts ss) (print_arms Elsif arms) rest)

pub branch_shape : (e : Tree) (ss : Stmts) (arms : Arms) (other : Otherwise) (rest : List Symbol)
    → print_stmt (branch (arm e ss arms) other) ++ rest ≡ mark If ∷ (print e ++ mark Then ∷ (print_stmts ss ++ (print_arms Elsif arms ++ (print_otherwise EndIf other ++ rest))))
branch_shape e ss arms other rest =
    ap (λ (r : List Symbol). mark If ∷ r) (append_assoc (print e ++ mark Then ∷ (print_stmts ss ++ print_arms Elsif arms)) (print_otherwise EndIf other) rest ∙ arm_shape e ss arms (print_otherwise EndIf other ++ rest))

pub entry_shape : (ls : List LabelData) (ss : Stmts) (es : Entries) (rest : List Symbol) → print_entries (entry ls ss es) ++ rest ≡ print_labels ls ++ mark Colon ∷ (print_stmts ss ++ (print_entries es ++ rest))
entry_shape ls ss es rest =
    append_assoc (print_labels ls) (mark Colon ∷ (print_stmts ss ++ print_entries es)) rest ∙ ap (λ (r : List Symbol). print_labels ls ++ mark Colon ∷ r) (append_assoc (print_stmts ss) (print_entries es) rest)

pub cases_shape : (e : Tree) (es : Entries) (other : Otherwise) (rest : List Symbol) → print_stmt (cases e es other) ++ rest ≡ mark Case ∷ (print e ++ mark Of ∷ (print_entries es ++ (print_otherwise EndCase other ++ rest)))
cases_shape e es other rest =
    ap (λ (r : List Symbol). mark Case ∷ r) (
    append_assoc (print e) (mark Of ∷ (print_entries es ++ print_otherwise EndCase other)) rest
    ∙ ap (λ (r : List Symbol). print e ++ mark Of ∷ r) (append_assoc (print_entries es) (print_otherwise EndCase other) rest))

pub iterate_shape : (i : IterationData) (ss : Stmts) (rest : List Symbol) → print_stmt (iterate i ss) ++ rest ≡ print_iteration i ++ (print_stmts ss ++ mark EndFor ∷ rest)
iterate_shape i ss rest =
    append_assoc (print_iteration i) (print_stmts ss ++ mark EndFor ∷ []) rest ∙ ap (λ (r : List Symbol). print_iteration i ++ r) (append_assoc (print_stmts ss) (mark EndFor ∷ []) rest)

pub assign_shape : (p : PathData) (e : Tree) (rest : List Symbol) → print_stmt (assign p e) ++ rest ≡ print_path p ++ mark Assign ∷ (print e ++ mark Semicolon ∷ rest)
assign_shape p e rest =
    append_assoc (print_path p) (mark Assign ∷ (print e ++ mark Semicolon ∷ [])) rest ∙ ap (λ (r : List Symbol). print_path p ++ mark Assign ∷ r) (append_assoc (print e) (mark Semicolon ∷ []) rest)

-- ---- what is begun

-- what is begun is a statement, and nothing is where no statement begins
abbrev BegunIs : Bool → ℕ → List Symbol → Begun → Type 0
BegunIs labelled d ts None = begins_where labelled ts ≡ false
BegunIs labelled d ts (Some None) = Unit {0}
BegunIs labelled d ts (Some (Some s)) = (ts ≡ print_stmt s.0 ++ s.1) × StmtFits s.0 d

abbrev opener_symbol : Opener → Symbol
opener_symbol openers.If = mark If
opener_symbol openers.Case = mark Case
opener_symbol (openers.For at) = iteration at

-- the same for a statement that holds others, behind the word that begins it
abbrev NestedIs : ℕ → Opener → List Symbol → Stmt → List Symbol → Type 0
NestedIs d o ts s rest = (opener_symbol o ∷ ts ≡ print_stmt s ++ rest) × StmtFits s d

-- the same for a statement that a name begins, behind the name
abbrev SimpleIs : ℕ → Named → List Symbol → Stmt × List Symbol → Type 0
SimpleIs d n ts s = (name_symbol n ∷ ts ≡ print_stmt s.0 ++ s.1) × StmtFits s.0 d

module _ (turns d : ℕ) where
  assigned_is : (n : Named) (ts : List Symbol) (s : Stmt × List Symbol) → assigned turns (expression turns d) n ts ≡ Some s → SimpleIs d n ts s
  unfolding assigned
  assigned_is n ts s e =
      let p = bind_some (path_from turns n ts) (λ (p : PathData × List Symbol). after Assign p.1 >>= λ (ts : List Symbol). expression turns d ts >>= λ (e : Tree × List Symbol). after Semicolon e.1 >>= λ (rest : List Symbol). Some (assign p.0 e.0, rest)) s e in
      let a = bind_some (after Assign p.0.1) (λ (ts : List Symbol). expression turns d ts >>= λ (e : Tree × List Symbol). after Semicolon e.1 >>= λ (rest : List Symbol). Some (assign p.0.0 e.0, rest)) s p.2 in
      let b = bind_some (expression turns d a.0) (λ (e : Tree × List Symbol). after Semicolon e.1 >>= λ (rest : List Symbol). Some (assign p.0.0 e.0, rest)) s a.2 in
      let c = bind_some (after Semicolon b.0.1) (λ (rest : List Symbol). Some (assign p.0.0 b.0.0, rest)) s b.2 in
      let f = expression_is turns d a.0 b.0.0 b.0.1 b.1 in
      let value : a.0 ≡ print b.0.0 ++ mark Semicolon ∷ c.0 = f.0 ∙ ap (λ (r : List Symbol). print b.0.0 ++ r) (after_is Semicolon b.0.1 c.0 c.1) in
      let all : name_symbol n ∷ ts ≡ print_path p.0.0 ++ mark Assign ∷ (print b.0.0 ++ mark Semicolon ∷ c.0) =
      path_from_is turns n ts p.0 p.1 ∙ ap (λ (r : List Symbol). print_path p.0.0 ++ r) (after_is Assign p.0.1 a.0 a.1 ∙ ap (λ (r : List Symbol). mark Assign ∷ r) value) in
      subst (SimpleIs d n ts) (some_is (assign p.0.0 b.0.0, c.0) s c.2) (all ∙ sym (assign_shape p.0.0 b.0.0 c.0), f.1)

  simple_go : (n : Named) (ts : List Symbol) (s : Stmt × List Symbol) (o : Option (ℕ × List Symbol)) → parenthesis ts ≡ o → simple_or turns d n ts o ≡ Some s → SimpleIs d n ts s
  simple_go n ts s None is e = assigned_is n ts s e
  simple_go n ts s (Some p) is e =
      let f = invoked_is turns d (inside turns d) (inside_is turns d) n p.0 p.1 s e in
      (ap (λ (r : List Symbol). name_symbol n ∷ r) (parenthesis_is ts p.0 p.1 is) ∙ f.0, f.1)

  simple_is : (n : Named) (ts : List Symbol) (s : Stmt × List Symbol) → simple turns d n ts ≡ Some s → SimpleIs d n ts s
  unfolding simple
  simple_is n ts s e = simple_go n ts s (parenthesis ts) refl e

module _ (labelled : Bool) (simple_of : Named → Read Stmt) (other : Opener → Read Stmt) (d : ℕ)
    (simply : (n : Named) (ts : List Symbol) (s : Stmt × List Symbol) → simple_of n ts ≡ Some s → SimpleIs d n ts s)
    (inner : (o : Opener) (ts : List Symbol) (s : Stmt) (rest : List Symbol) → other o ts ≡ Some (s, rest) → NestedIs d o ts s rest) where
  simple_begun : (n : Named) (ts : List Symbol) (r : Option (Stmt × List Symbol)) → simple_of n ts ≡ r → BegunIs labelled d (name_symbol n ∷ ts) (Some r)
  simple_begun n ts None e = tt
  simple_begun n ts (Some s) e = simply n ts s e

  name_begun : (n : Named) (ts : List Symbol) (follows : Bool) → (labelled && is_label ts) ≡ follows → BegunIs labelled d (name_symbol n ∷ ts) (cond follows None (Some (simple_of n ts)))
  name_begun n ts true p = rw p refl
  name_begun n ts false p = simple_begun n ts (simple_of n ts) refl

  nested_begun : (o : Opener) (ts : List Symbol) (r : Option (Stmt × List Symbol)) → other o ts ≡ r → BegunIs labelled d (opener_symbol o ∷ ts) (Some r)
  nested_begun o ts None e = tt
  nested_begun o ts (Some s) e = inner o ts s.0 s.1 e

  -- a statement that is one word and `;`
  ended_go : (word : Symbol) (s : Stmt) (ts : List Symbol) (r : Option (Stmt × List Symbol)) → print_stmt s ≡ word ∷ mark Semicolon ∷ [] → StmtFits s d → ended s ts ≡ r → BegunIs labelled d (word ∷ ts) (Some r)
  unfolding ended
  ended_go word s ts None shape fits e = tt
  ended_go word s ts (Some y) shape fits e =
      let a = bind_some (after Semicolon ts) (λ (rest : List Symbol). Some (s, rest)) y e in
      let printed : word ∷ ts ≡ print_stmt s ++ a.0 = ap (λ (r : List Symbol). word ∷ r) (after_is Semicolon ts a.0 a.1) ∙ sym (ap (λ (r : List Symbol). r ++ a.0) shape) in
      subst (λ (x : Stmt × List Symbol). (word ∷ ts ≡ print_stmt x.0 ++ x.1) × StmtFits x.0 d) (some_is (s, a.0) y a.2) (printed, fits)

  ended_begun : (word : Symbol) (s : Stmt) (ts : List Symbol) → print_stmt s ≡ word ∷ mark Semicolon ∷ [] → StmtFits s d → BegunIs labelled d (word ∷ ts) (Some (ended s ts))
  ended_begun word s ts shape fits = ended_go word s ts (ended s ts) shape fits refl

  mark_begun : (m : Mark) (ts : List Symbol) (ends branches selects returns : Bool) → same_mark m Semicolon ≡ ends → same_mark m If ≡ branches → same_mark m Case ≡ selects → same_mark m Return ≡ returns
      → BegunIs labelled d (mark m ∷ ts) (cond ends (Some (Some (empty, ts))) (cond branches (Some (other openers.If ts)) (cond selects (Some (other openers.Case ts)) (cond returns (Some (ended return ts)) None))))
  mark_begun m ts true branches selects returns p q r s = (ap (λ (k : Mark). mark k ∷ ts) (same_mark-is m Semicolon p), tt)
  mark_begun m ts false true selects returns p q r s = subst (λ (k : Mark). BegunIs labelled d (mark k ∷ ts) (Some (other openers.If ts))) (sym (same_mark-is m If q)) (nested_begun openers.If ts (other openers.If ts) refl)
  mark_begun m ts false false true returns p q r s = subst (λ (k : Mark). BegunIs labelled d (mark k ∷ ts) (Some (other openers.Case ts))) (sym (same_mark-is m Case r)) (nested_begun openers.Case ts (other openers.Case ts) refl)
  mark_begun m ts false false false true p q r s = subst (λ (k : Mark). BegunIs labelled d (mark k ∷ ts) (Some (ended return ts))) (sym (same_mark-is m Return s)) (ended_begun (mark Return) return ts refl tt)
  mark_begun m ts false false false false p q r s = rw (p, q, r, s) refl

  begun_is : (ts : List Symbol) → BegunIs labelled d ts (begun labelled simple_of other ts)
  unfolding begun marked
  begun_is (name t at ∷ ts) = name_begun (record { text = t; at = at }) ts (labelled && is_label ts) refl
  begun_is (iteration at ∷ ts) = nested_begun (openers.For at) ts (other (openers.For at) ts) refl
  begun_is (exit_word at ∷ ts) = ended_begun (exit_word at) (exit at) ts refl tt
  begun_is (mark m ∷ ts) = mark_begun m ts (same_mark m Semicolon) (same_mark m If) (same_mark m Case) (same_mark m Return) refl refl refl refl
  begun_is ts = refl

  abbrev Listed : Stmts → List Symbol → Stmts → List Symbol → Type 0
  Listed before ts ss rest = (xs : Stmts) × (ss ≡ join_stmts before xs) × (ts ≡ print_stmts xs ++ rest) × StmtsFit xs d

  listed_stop : (before : Stmts) (ts : List Symbol) (ss : Stmts) (rest : List Symbol) → (let o : Option (Stmts × List Symbol) = Some (before, ts) in o) ≡ Some (ss, rest) → Listed before ts ss rest
  listed_stop before ts ss rest e =
      let p = some_is (before, ts) (ss, rest) e in (no_stmts, sym (ap (λ (x : Stmts × List Symbol). x.0) p) ∙ sym (join_stmts-none before), ap (λ (x : Stmts × List Symbol). x.1) p, tt)

  step_is : (n : ℕ) (before : Stmts) (ts : List Symbol) (ss : Stmts) (rest : List Symbol) (o : Begun) → BegunIs labelled d ts o → statements_step (statements_from labelled simple_of other n) before ts o ≡ Some (ss, rest)
      → ((before : Stmts) (ts : List Symbol) → statements_from labelled simple_of other n before ts ≡ Some (ss, rest) → Listed before ts ss rest) → Listed before ts ss rest
  step_is n before ts ss rest None is e below = listed_stop before ts ss rest e
  step_is n before ts ss rest (Some None) is e below = absurd cc
  step_is n before ts ss rest (Some (Some s)) is e below =
      let b = below (add_stmt before s.0) s.1 e in
      (stmt s.0 b.0, b.1 ∙ join_stmts-add before s.0 b.0, is.0 ∙ ap (λ (r : List Symbol). print_stmt s.0 ++ r) b.2 ∙ sym (append_assoc (print_stmt s.0) (print_stmts b.0) rest), (is.1, b.3))

  statements_from_are : (n : ℕ) (before : Stmts) (ts : List Symbol) (ss : Stmts) (rest : List Symbol) → statements_from labelled simple_of other n before ts ≡ Some (ss, rest) → Listed before ts ss rest
  unfolding statements_from
  statements_from_are zero before ts ss rest e = listed_stop before ts ss rest e
  statements_from_are (suc n) before ts ss rest e = step_is n before ts ss rest (begun labelled simple_of other ts) (begun_is ts) e (λ before ts e. statements_from_are n before ts ss rest e)

-- ---- IF

module _ (turns d : ℕ) (expr : Read Tree) (body : Read Stmts)
    (sound : (ts : List Symbol) (e : Tree) (rest : List Symbol) → expr ts ≡ Some (e, rest) → (ts ≡ print e ++ rest) × Fits e d)
    (bodies : (ts : List Symbol) (ss : Stmts) (rest : List Symbol) → body ts ≡ Some (ss, rest) → (ts ≡ print_stmts ss ++ rest) × StmtsFit ss d) where
  record ArmsAre (before : Arms) (ts : List Symbol) (all : Arms) (rest : List Symbol) : Type 0 where
    e : Tree
    ss : Stmts
    others : Arms
    joined : all ≡ join_arms before (arm e ss others)
    parts : ts ≡ print e ++ mark Then ∷ (print_stmts ss ++ (print_arms Elsif others ++ rest))
    fits : Fits e d × StmtsFit ss d × ArmsFit others d

  arms_go : (n : ℕ) (before : Arms) (e : Tree) (ss : Stmts) (ts next : List Symbol) (all : Arms) (rest : List Symbol) (o : Option (List Symbol)) → ts ≡ print e ++ mark Then ∷ (print_stmts ss ++ next) → Fits e d → StmtsFit ss d
      → after Elsif next ≡ o → arms_step turns expr body (arms_from turns expr body n) (add_arm before e ss) next o ≡ Some (all, rest)
      → ((before : Arms) (ts : List Symbol) → arms_from turns expr body n before ts ≡ Some (all, rest) → ArmsAre before ts all rest) → ArmsAre before ts all rest
  arms_go n before e ss ts next all rest None parts fe fs is eq below =
      let p = some_is (add_arm before e ss, next) (all, rest) eq in record {
        e = e;
        ss = ss;
        others = no_arms;
        joined = sym (ap (λ (x : Arms × List Symbol). x.0) p) ∙ sym (join_arms-none (add_arm before e ss)) ∙ join_arms-add before e ss no_arms;
        parts = parts ∙ ap (λ (x : Arms × List Symbol). print e ++ mark Then ∷ (print_stmts ss ++ x.1)) p;
        fits = (fe, fs, tt);
      }
  arms_go n before e ss ts next all rest (Some ahead) parts fe fs is eq below =
      let b = below (add_arm before e ss) ahead eq in record {
        e = e;
        ss = ss;
        others = arm b.e b.ss b.others;
        joined = b.joined ∙ join_arms-add before e ss (arm b.e b.ss b.others);
        parts = parts ∙ ap (λ (r : List Symbol). print e ++ mark Then ∷ (print_stmts ss ++ r)) (after_is Elsif next ahead is ∙ ap (λ (r : List Symbol). mark Elsif ∷ r) (b.parts ∙ sym (arm_shape b.e b.ss b.others rest)));
        fits = (fe, fs, b.fits);
      }

  arms_are : (n : ℕ) (before : Arms) (ts : List Symbol) (all : Arms) (rest : List Symbol) → arms_from turns expr body n before ts ≡ Some (all, rest) → ArmsAre before ts all rest
  unfolding arms_from
  arms_are zero before ts all rest e = absurd cc
  arms_are (suc n) before ts all rest e =
      let a = bind_some (expr ts) (λ (e : Tree × List Symbol). after Then e.1 >>= λ (r : List Symbol). body r >>= λ (ss : Stmts × List Symbol). arms_step turns expr body (arms_from turns expr body n) (add_arm before e.0 ss.0) ss.1 (after Elsif ss.1)) (all, rest) e in
      let b = bind_some (after Then a.0.1) (λ (r : List Symbol). body r >>= λ (ss : Stmts × List Symbol). arms_step turns expr body (arms_from turns expr body n) (add_arm before a.0.0 ss.0) ss.1 (after Elsif ss.1)) (all, rest) a.2 in
      let c = bind_some (body b.0) (λ (ss : Stmts × List Symbol). arms_step turns expr body (arms_from turns expr body n) (add_arm before a.0.0 ss.0) ss.1 (after Elsif ss.1)) (all, rest) b.2 in
      let f = sound ts a.0.0 a.0.1 a.1 in
      let g = bodies b.0 c.0.0 c.0.1 c.1 in
      arms_go n before a.0.0 c.0.0 ts c.0.1 all rest (after Elsif c.0.1) (f.0 ∙ ap (λ (r : List Symbol). print a.0.0 ++ r) (after_is Then a.0.1 b.0 b.1 ∙ ap (λ (r : List Symbol). mark Then ∷ r) g.0)) f.1 g.1 refl c.2
      (λ before ts e. arms_are n before ts all rest e)

  otherwise_go : (closing : Mark) (ts : List Symbol) (x : Otherwise) (rest : List Symbol) (o : Option (List Symbol)) → after Else ts ≡ o → otherwise_or turns expr body closing ts o ≡ Some (x, rest) → (ts ≡ print_otherwise closing x ++ rest) × ElseFits x d
  otherwise_go closing ts x rest None is e =
      let a = bind_some (after closing ts) (λ (r : List Symbol). Some (no_else, r)) (x, rest) e in
      subst (λ (y : Otherwise × List Symbol). (ts ≡ print_otherwise closing y.0 ++ y.1) × ElseFits y.0 d) (some_is (no_else, a.0) (x, rest) a.2) (after_is closing ts a.0 a.1, tt)
  otherwise_go closing ts x rest (Some next) is e =
      let a = bind_some (body next) (λ (ss : Stmts × List Symbol). after closing ss.1 >>= λ (r : List Symbol). Some (else_stmts ss.0, r)) (x, rest) e in
      let b = bind_some (after closing a.0.1) (λ (r : List Symbol). Some (else_stmts a.0.0, r)) (x, rest) a.2 in
      let g = bodies next a.0.0 a.0.1 a.1 in
      subst (λ (y : Otherwise × List Symbol). (ts ≡ print_otherwise closing y.0 ++ y.1) × ElseFits y.0 d) (some_is (else_stmts a.0.0, b.0) (x, rest) b.2) (
        after_is Else ts next is ∙ ap (λ (r : List Symbol). mark Else ∷ r) (g.0 ∙ ap (λ (r : List Symbol). print_stmts a.0.0 ++ r) (after_is closing a.0.1 b.0 b.1) ∙ sym (append_assoc (print_stmts a.0.0) (mark closing ∷ []) b.0)),
        g.1,
      )

  otherwise_is : (closing : Mark) (ts : List Symbol) (x : Otherwise) (rest : List Symbol) → otherwise turns expr body closing ts ≡ Some (x, rest) → (ts ≡ print_otherwise closing x ++ rest) × ElseFits x d
  unfolding otherwise
  otherwise_is closing ts x rest e = otherwise_go closing ts x rest (after Else ts) refl e

  branched_is : (ts : List Symbol) (s : Stmt) (rest : List Symbol) → branched turns expr body ts ≡ Some (s, rest) → NestedIs (suc d) openers.If ts s rest
  unfolding branched
  branched_is ts s rest e =
      let a = bind_some (arms_from turns expr body turns no_arms ts) (λ (a : Arms × List Symbol). otherwise turns expr body EndIf a.1 >>= λ (o : Otherwise × List Symbol). Some (branch a.0 o.0, o.1)) (s, rest) e in
      let b = bind_some (otherwise turns expr body EndIf a.0.1) (λ (o : Otherwise × List Symbol). Some (branch a.0.0 o.0, o.1)) (s, rest) a.2 in
      let f = arms_are turns no_arms ts a.0.0 a.0.1 a.1 in
      let g = otherwise_is EndIf a.0.1 b.0.0 b.0.1 b.1 in
      let parts : mark If ∷ ts ≡ mark If ∷ (print f.e ++ mark Then ∷ (print_stmts f.ss ++ (print_arms Elsif f.others ++ (print_otherwise EndIf b.0.0 ++ b.0.1)))) =
      ap (λ (r : List Symbol). mark If ∷ r) (f.parts ∙ ap (λ (r : List Symbol). print f.e ++ mark Then ∷ (print_stmts f.ss ++ (print_arms Elsif f.others ++ r))) g.0) in
      let whole : NestedIs (suc d) openers.If ts (branch (arm f.e f.ss f.others) b.0.0) b.0.1 = (
        parts ∙ sym (branch_shape f.e f.ss f.others b.0.0 b.0.1),
        (f.fits.0, f.fits.1, f.fits.2, g.1),
      ) in
      let found : NestedIs (suc d) openers.If ts (branch a.0.0 b.0.0) b.0.1 = subst (λ (x : Arms). NestedIs (suc d) openers.If ts (branch x b.0.0) b.0.1) (sym f.joined) whole in
      subst (λ (y : Stmt × List Symbol). NestedIs (suc d) openers.If ts y.0 y.1) (some_is (branch a.0.0 b.0.0, b.0.1) (s, rest) b.2) found

  -- ---- FOR

  repeated_is : (at : ℕ) (ts : List Symbol) (s : Stmt) (rest : List Symbol) → repeated turns expr body at ts ≡ Some (s, rest) → NestedIs (suc d) (openers.For at) ts s rest
  unfolding repeated
  repeated_is at ts s rest e =
      let a = bind_some (iteration_from expr at ts) (λ (i : IterationData × List Symbol). body i.1 >>= λ (ss : Stmts × List Symbol). after EndFor ss.1 >>= λ (r : List Symbol). Some (iterate i.0 ss.0, r)) (s, rest) e in
      let b = bind_some (body a.0.1) (λ (ss : Stmts × List Symbol). after EndFor ss.1 >>= λ (r : List Symbol). Some (iterate a.0.0 ss.0, r)) (s, rest) a.2 in
      let c = bind_some (after EndFor b.0.1) (λ (r : List Symbol). Some (iterate a.0.0 b.0.0, r)) (s, rest) b.2 in
      let f = iteration_is expr d sound at ts a.0 a.1 in
      let g = bodies a.0.1 b.0.0 b.0.1 b.1 in
      let parts : iteration at ∷ ts ≡ print_iteration a.0.0 ++ (print_stmts b.0.0 ++ mark EndFor ∷ c.0) =
      f.0 ∙ ap (λ (r : List Symbol). print_iteration a.0.0 ++ r) (g.0 ∙ ap (λ (r : List Symbol). print_stmts b.0.0 ++ r) (after_is EndFor b.0.1 c.0 c.1)) in
      let whole : NestedIs (suc d) (openers.For at) ts (iterate a.0.0 b.0.0) c.0 = (parts ∙ sym (iterate_shape a.0.0 b.0.0 c.0), (f.1, g.1)) in
      subst (λ (y : Stmt × List Symbol). NestedIs (suc d) (openers.For at) ts y.0 y.1) (some_is (iterate a.0.0 b.0.0, c.0) (s, rest) c.2) whole

-- ---- CASE

module _ (turns d : ℕ) (expr : Read Tree) (body : Bool → Read Stmts)
    (sound : (ts : List Symbol) (e : Tree) (rest : List Symbol) → expr ts ≡ Some (e, rest) → (ts ≡ print e ++ rest) × Fits e d)
    (bodies : (labelled : Bool) (ts : List Symbol) (ss : Stmts) (rest : List Symbol) → body labelled ts ≡ Some (ss, rest) → (ts ≡ print_stmts ss ++ rest) × StmtsFit ss d) where
  record EntriesAre (before : Entries) (ts : List Symbol) (all : Entries) (rest : List Symbol) : Type 0 where
    ls : List LabelData
    ss : Stmts
    others : Entries
    joined : all ≡ join_entries before (entry ls ss others)
    parts : ts ≡ print_labels ls ++ mark Colon ∷ (print_stmts ss ++ (print_entries others ++ rest))
    fits : AreLabels ls × StmtsFit ss d × EntriesFit others d

  entries_go : (n : ℕ) (before : Entries) (ls : List LabelData) (ss : Stmts) (ts next : List Symbol) (all : Entries) (rest : List Symbol) (ended : Bool) → ts ≡ print_labels ls ++ mark Colon ∷ (print_stmts ss ++ next) → AreLabels ls → StmtsFit ss d
      → entries_step turns expr body (entries_from turns expr body n) (add_entry before ls ss) next ended ≡ Some (all, rest)
      → ((before : Entries) (ts : List Symbol) → entries_from turns expr body n before ts ≡ Some (all, rest) → EntriesAre before ts all rest) → EntriesAre before ts all rest
  entries_go n before ls ss ts next all rest true parts fl fs eq below =
      let p = some_is (add_entry before ls ss, next) (all, rest) eq in record {
        ls = ls;
        ss = ss;
        others = no_entries;
        joined = sym (ap (λ (x : Entries × List Symbol). x.0) p) ∙ sym (join_entries-none (add_entry before ls ss)) ∙ join_entries-add before ls ss no_entries;
        parts = parts ∙ ap (λ (x : Entries × List Symbol). print_labels ls ++ mark Colon ∷ (print_stmts ss ++ x.1)) p;
        fits = (fl, fs, tt);
      }
  entries_go n before ls ss ts next all rest false parts fl fs eq below =
      let b = below (add_entry before ls ss) next eq in record {
        ls = ls;
        ss = ss;
        others = entry b.ls b.ss b.others;
        joined = b.joined ∙ join_entries-add before ls ss (entry b.ls b.ss b.others);
        parts = parts ∙ ap (λ (r : List Symbol). print_labels ls ++ mark Colon ∷ (print_stmts ss ++ r)) (b.parts ∙ sym (entry_shape b.ls b.ss b.others rest));
        fits = (fl, fs, b.fits);
      }

  entries_are : (n : ℕ) (before : Entries) (ts : List Symbol) (all : Entries) (rest : List Symbol) → entries_from turns expr body n before ts ≡ Some (all, rest) → EntriesAre before ts all rest
  unfolding entries_from
  entries_are zero before ts all rest e = absurd cc
  entries_are (suc n) before ts all rest e =
      let a = bind_some (labels turns [] ts) (λ (ls : List LabelData × List Symbol). after Colon ls.1 >>= λ (r : List Symbol). body true r >>= λ (ss : Stmts × List Symbol). entries_step turns expr body (entries_from turns expr body n) (add_entry before ls.0 ss.0) ss.1 (ends_entries ss.1)) (all, rest) e in
      let b = bind_some (after Colon a.0.1) (λ (r : List Symbol). body true r >>= λ (ss : Stmts × List Symbol). entries_step turns expr body (entries_from turns expr body n) (add_entry before a.0.0 ss.0) ss.1 (ends_entries ss.1)) (all, rest) a.2 in
      let c = bind_some (body true b.0) (λ (ss : Stmts × List Symbol). entries_step turns expr body (entries_from turns expr body n) (add_entry before a.0.0 ss.0) ss.1 (ends_entries ss.1)) (all, rest) b.2 in
      let f = labels_is turns ts a.0 a.1 in
      let g = bodies true b.0 c.0.0 c.0.1 c.1 in
      entries_go n before a.0.0 c.0.0 ts c.0.1 all rest (ends_entries c.0.1) (f.0 ∙ ap (λ (r : List Symbol). print_labels a.0.0 ++ r) (after_is Colon a.0.1 b.0 b.1 ∙ ap (λ (r : List Symbol). mark Colon ∷ r) g.0)) f.1 g.1 c.2
      (λ before ts e. entries_are n before ts all rest e)

  selected_is : (ts : List Symbol) (s : Stmt) (rest : List Symbol) → selected turns expr body ts ≡ Some (s, rest) → NestedIs (suc d) openers.Case ts s rest
  unfolding selected
  selected_is ts s rest e =
      let a = bind_some (expr ts) (λ (e : Tree × List Symbol). after Of e.1 >>= λ (r : List Symbol). entries_from turns expr body turns no_entries r >>= λ (es : Entries × List Symbol). otherwise turns expr (body false) EndCase es.1 >>= λ (o : Otherwise × List Symbol). Some (cases e.0 es.0 o.0, o.1)) (s, rest) e in
      let b = bind_some (after Of a.0.1) (λ (r : List Symbol). entries_from turns expr body turns no_entries r >>= λ (es : Entries × List Symbol). otherwise turns expr (body false) EndCase es.1 >>= λ (o : Otherwise × List Symbol). Some (cases a.0.0 es.0 o.0, o.1)) (s, rest) a.2 in
      let c = bind_some (entries_from turns expr body turns no_entries b.0) (λ (es : Entries × List Symbol). otherwise turns expr (body false) EndCase es.1 >>= λ (o : Otherwise × List Symbol). Some (cases a.0.0 es.0 o.0, o.1)) (s, rest) b.2 in
      let o = bind_some (otherwise turns expr (body false) EndCase c.0.1) (λ (o : Otherwise × List Symbol). Some (cases a.0.0 c.0.0 o.0, o.1)) (s, rest) c.2 in
      let f = sound ts a.0.0 a.0.1 a.1 in
      let g = entries_are turns no_entries b.0 c.0.0 c.0.1 c.1 in
      let h = otherwise_is turns d expr (body false) sound (bodies false) EndCase c.0.1 o.0.0 o.0.1 o.1 in
      let entries : b.0 ≡ print_entries (entry g.ls g.ss g.others) ++ (print_otherwise EndCase o.0.0 ++ o.0.1) =
      g.parts ∙ sym (entry_shape g.ls g.ss g.others c.0.1) ∙ ap (λ (r : List Symbol). print_entries (entry g.ls g.ss g.others) ++ r) h.0 in
      let parts : mark Case ∷ ts ≡ mark Case ∷ (print a.0.0 ++ mark Of ∷ (print_entries (entry g.ls g.ss g.others) ++ (print_otherwise EndCase o.0.0 ++ o.0.1))) =
      ap (λ (r : List Symbol). mark Case ∷ r) (f.0 ∙ ap (λ (r : List Symbol). print a.0.0 ++ r) (after_is Of a.0.1 b.0 b.1 ∙ ap (λ (r : List Symbol). mark Of ∷ r) entries)) in
      let whole : NestedIs (suc d) openers.Case ts (cases a.0.0 (entry g.ls g.ss g.others) o.0.0) o.0.1 = (
        parts ∙ sym (cases_shape a.0.0 (entry g.ls g.ss g.others) o.0.0 o.0.1),
        (f.1, g.fits.0, g.fits.1, g.fits.2, h.1),
      ) in
      let found : NestedIs (suc d) openers.Case ts (cases a.0.0 c.0.0 o.0.0) o.0.1 = subst (λ (x : Entries). NestedIs (suc d) openers.Case ts (cases a.0.0 x o.0.0) o.0.1) (sym g.joined) whole in
      subst (λ (y : Stmt × List Symbol). NestedIs (suc d) openers.Case ts y.0 y.1) (some_is (cases a.0.0 c.0.0 o.0.0, o.0.1) (s, rest) o.2) found

  opened_is : (o : Opener) (ts : List Symbol) (s : Stmt) (rest : List Symbol) → opened turns expr body o ts ≡ Some (s, rest) → NestedIs (suc d) o ts s rest
  unfolding opened
  opened_is openers.If ts s rest e = branched_is turns d expr (body false) sound (bodies false) ts s rest e
  opened_is openers.Case ts s rest e = selected_is ts s rest e
  opened_is (openers.For at) ts s rest e = repeated_is turns d expr (body false) sound (bodies false) at ts s rest e

-- ---- statements in statements

list_is : (turns d : ℕ) → ((o : Opener) (ts : List Symbol) (s : Stmt) (rest : List Symbol) → nested turns d o ts ≡ Some (s, rest) → NestedIs d o ts s rest)
    → (labelled : Bool) (ts : List Symbol) (ss : Stmts) (rest : List Symbol) → statements_from labelled (simple turns d) (nested turns d) turns no_stmts ts ≡ Some (ss, rest) → (ts ≡ print_stmts ss ++ rest) × StmtsFit ss d
list_is turns d inner labelled ts ss rest e =
    let l = statements_from_are labelled (simple turns d) (nested turns d) d (simple_is turns d) inner turns no_stmts ts ss rest e in
    subst (λ (x : Stmts). (ts ≡ print_stmts x ++ rest) × StmtsFit x d) (sym l.1) (l.2, l.3)

nested_is : (turns d : ℕ) (o : Opener) (ts : List Symbol) (s : Stmt) (rest : List Symbol) → nested turns d o ts ≡ Some (s, rest) → NestedIs d o ts s rest
unfolding nested
nested_is turns zero o ts s rest e = absurd cc
nested_is turns (suc d) o ts s rest e =
    opened_is turns d (expression turns d) (λ labelled ts. statements_from labelled (simple turns d) (nested turns d) turns no_stmts ts) (expression_is turns d) (list_is turns d (nested_is turns d)) o ts s rest e

-- statements that are read
pub statements_are : (turns d : ℕ) (labelled : Bool) (ts : List Symbol) (ss : Stmts) (rest : List Symbol) → statements turns d labelled ts ≡ Some (ss, rest) → (ts ≡ print_stmts ss ++ rest) × StmtsFit ss d
unfolding statements
statements_are turns d labelled ts ss rest e = list_is turns d (nested_is turns d) labelled ts ss rest e
