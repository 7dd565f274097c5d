-- What fitting statements print is read as those statements, where no statement begins behind them.
use Rattle.std.proofs.Common.{◌≡◌, ℕ, zero, suc, ◌≤◌, Bool, true, false, ◌||◌, ◌&&◌, List, [], ◌∷◌, ◌++◌, length, Option, Some, None, refl, sym, ap, subst, ◌∙◌, append_assoc, arith, length-append}
use Rattle.std.proofs.lemmas.Bool.{not-false, or_parts}
use Rattle.std.proofs.Math.Bool.{and-false}
use Rattle.source_tree.specs.declared.token.Mark.{Mark}
use Rattle.source_tree.specs.declared.token.Mark.TheVariants.{Close, Semicolon, Colon, Assign, If, Then, Elsif, Else, EndIf, Case, Of, EndCase, EndFor, Return, Do, To, Point}
use Rattle.source_tree.specs.Syntax.{Symbol, name, opening, iteration, exit_word, mark, Named, PathData, Tree, ConnectionData, LabelData, IterationData, Stmt, empty, assign, invoke, branch, cases, iterate, exit, return, Stmts, no_stmts, stmt, Arms, no_arms, arm, Entries, no_entries, entry, Otherwise, no_else, else_stmts}
use Rattle.source_tree.specs.Prints.{name_symbol, print_members, print_path, print, print_labels, print_step, print_connections, print_stmt, print_stmts, print_arms, print_entries, print_otherwise}
use Rattle.source_tree.specs.Levels.{AreLabels}
use Rattle.grammar.specs.Marks.{same_mark}
use Rattle.grammar.specs.Ends.{is_label, goes_on, begins_where, ends_entries}
use Rattle.grammar.specs.Fits.{Fits, ConnectionsFit, StmtFits, StmtsFit, ArmsFit, EntriesFit, ElseFits}
use Rattle.grammar.specs.declared.opener.Opener.{Opener}
use Rattle.grammar.specs.Reading.{Read, after, opened as parenthesis}
use Rattle.grammar.specs.Expressions.{expression}
use Rattle.grammar.specs.Statements.{add_stmt, add_arm, add_entry, assigned, simple, ended, marked, begun, statements_from, arms_from, otherwise, branched, repeated, entries_from, selected, opened, nested, statements}
use Rattle.grammar_laws.proofs.Again.{path_again, expression_again}
use Rattle.grammar_laws.proofs.Selections.{labels_again, labels_begin, labels_end}
use Rattle.grammar_laws.proofs.Iterations.{iteration_shape, iteration_again}
use Rattle.grammar_laws.proofs.Connections.{invoke_shape, invoked_again}
use Rattle.grammar_laws.proofs.StatementSound.{join_stmts, join_stmts-none, join_stmts-add, join_arms, join_arms-none, join_arms-add, join_entries, join_entries-none, join_entries-add, arm_shape, branch_shape, entry_shape, cases_shape, iterate_shape, assign_shape}

-- ---- single marks

after_assign : (rest : List Symbol) → after Assign (mark Assign ∷ rest) ≡ Some rest
unfolding after same_mark
after_assign rest = refl

no_member : (rest : List Symbol) → after Point (mark Assign ∷ rest) ≡ None
unfolding after same_mark
no_member rest = refl

after_semicolon : (rest : List Symbol) → after Semicolon (mark Semicolon ∷ rest) ≡ Some rest
unfolding after same_mark
after_semicolon rest = refl

ends_semicolon : (rest : List Symbol) → goes_on 7 (mark Semicolon ∷ rest) ≡ false
unfolding same_mark
ends_semicolon rest = refl

after_then : (rest : List Symbol) → after Then (mark Then ∷ rest) ≡ Some rest
unfolding after same_mark
after_then rest = refl

ends_then : (rest : List Symbol) → goes_on 7 (mark Then ∷ rest) ≡ false
unfolding same_mark
ends_then rest = refl

after_elsif : (rest : List Symbol) → after Elsif (mark Elsif ∷ rest) ≡ Some rest
unfolding after same_mark
after_elsif rest = refl

ends_elsif : (rest : List Symbol) → begins_where false (mark Elsif ∷ rest) ≡ false
unfolding same_mark
ends_elsif rest = refl

after_else : (rest : List Symbol) → after Else (mark Else ∷ rest) ≡ Some rest
unfolding after same_mark
after_else rest = refl

after_of : (rest : List Symbol) → after Of (mark Of ∷ rest) ≡ Some rest
unfolding after same_mark
after_of rest = refl

ends_of : (rest : List Symbol) → goes_on 7 (mark Of ∷ rest) ≡ false
unfolding same_mark
ends_of rest = refl

after_colon : (rest : List Symbol) → after Colon (mark Colon ∷ rest) ≡ Some rest
unfolding after same_mark
after_colon rest = refl

after_end_for : (rest : List Symbol) → after EndFor (mark EndFor ∷ rest) ≡ Some rest
unfolding after same_mark
after_end_for rest = refl

ends_end_for : (rest : List Symbol) → begins_where false (mark EndFor ∷ rest) ≡ false
unfolding same_mark
ends_end_for rest = refl

-- a word that closes an IF or a CASE: it is found, is no ELSE and begins no statement
record IsClosing (closing : Mark) : Type 0 where
  found : (rest : List Symbol) → after closing (mark closing ∷ rest) ≡ Some rest
  no_else_here : (rest : List Symbol) → after Else (mark closing ∷ rest) ≡ None
  ends : (rest : List Symbol) → begins_where false (mark closing ∷ rest) ≡ false

closing_if : IsClosing EndIf
unfolding after same_mark
closing_if = record { found = λ rest. refl; no_else_here = λ rest. refl; ends = λ rest. refl }

closing_case : IsClosing EndCase
unfolding after same_mark
closing_case = record { found = λ rest. refl; no_else_here = λ rest. refl; ends = λ rest. refl }

no_elsif : (other : Otherwise) (rest : List Symbol) → after Elsif (print_otherwise EndIf other ++ rest) ≡ None
unfolding after same_mark
no_elsif no_else rest = refl
no_elsif (else_stmts ss) rest = refl

begins_otherwise : (other : Otherwise) (rest : List Symbol) → begins_where false (print_otherwise EndIf other ++ rest) ≡ false
unfolding same_mark
begins_otherwise no_else rest = refl
begins_otherwise (else_stmts ss) rest = refl

-- what stands behind the entries of a CASE ends them, and begins no statement
ends_otherwise : (other : Otherwise) (rest : List Symbol) → ends_entries (print_otherwise EndCase other ++ rest) ≡ true
unfolding same_mark
ends_otherwise no_else rest = refl
ends_otherwise (else_stmts ss) rest = refl

begins_last : (other : Otherwise) (rest : List Symbol) → begins_where true (print_otherwise EndCase other ++ rest) ≡ false
unfolding same_mark
begins_last no_else rest = refl
begins_last (else_stmts ss) rest = refl

-- ---- counts

abbrev pub count_stmts : Stmts → ℕ
count_stmts no_stmts = 0
count_stmts (stmt s ss) = suc (count_stmts ss)

abbrev count_arms : Arms → ℕ
count_arms no_arms = 0
count_arms (arm e ss arms) = suc (count_arms arms)

abbrev count_entries : Entries → ℕ
count_entries no_entries = 0
count_entries (entry ls ss es) = suc (count_entries es)

otherwise_some : (m : Mark) (o : Otherwise) → 1 ≤ length (print_otherwise m o)
otherwise_some m no_else = omega arith
otherwise_some m (else_stmts ss) = omega arith

stmt_some : (s : Stmt) → 1 ≤ length (print_stmt s)
stmt_some empty = omega arith
stmt_some (assign p e) = omega arith
stmt_some (invoke n at cs) = omega arith
stmt_some (branch arms other) = omega (arith, length-append (print_arms If arms) (print_otherwise EndIf other), otherwise_some EndIf other)
stmt_some (cases e es other) = omega arith
stmt_some (iterate i ss) = omega arith
stmt_some (exit at) = omega arith
stmt_some return = omega arith

pub count_stmts-le : (ss : Stmts) → count_stmts ss ≤ length (print_stmts ss)
count_stmts-le no_stmts = omega arith
count_stmts-le (stmt s ss) = omega (arith, stmt_some s, count_stmts-le ss, length-append (print_stmt s) (print_stmts ss))

count_arms-le : (m : Mark) (arms : Arms) → count_arms arms ≤ length (print_arms m arms)
count_arms-le m no_arms = omega arith
count_arms-le m (arm e ss arms) = omega (arith, count_arms-le Elsif arms, length-append (print e) (mark Then ∷ (print_stmts ss ++ print_arms Elsif arms)), length-append (print_stmts ss) (print_arms Elsif arms))

count_entries-le : (es : Entries) → count_entries es ≤ length (print_entries es)
count_entries-le no_entries = omega arith
count_entries-le (entry ls ss es) = omega (arith, count_entries-le es, length-append (print_labels ls) (mark Colon ∷ (print_stmts ss ++ print_entries es)), length-append (print_stmts ss) (print_entries es))

-- where no statement begins, none is begun
no_mark_begun : (labelled : Bool) (simple_of : Named → Read Stmt) (other : Opener → Read Stmt) (m : Mark) (ts : List Symbol) → (same_mark m Semicolon || same_mark m If || same_mark m Case || same_mark m Return) ≡ false → begun labelled simple_of other (mark m ∷ ts) ≡ None
unfolding begun marked
no_mark_begun labelled simple_of other m ts h =
    let all = or_parts (same_mark m Semicolon || same_mark m If || same_mark m Case) (same_mark m Return) h in
    let some = or_parts (same_mark m Semicolon || same_mark m If) (same_mark m Case) all.0 in
    let first = or_parts (same_mark m Semicolon) (same_mark m If) some.0 in
    rw (first.0, first.1, some.1, all.1) refl

no_name_begun : (labelled : Bool) (simple_of : Named → Read Stmt) (other : Opener → Read Stmt) (n : Named) (ts : List Symbol) → (labelled && is_label ts) ≡ true → begun labelled simple_of other (name_symbol n ∷ ts) ≡ None
unfolding begun
no_name_begun labelled simple_of other n ts h = rw h refl

pub none_begun : (labelled : Bool) (simple_of : Named → Read Stmt) (other : Opener → Read Stmt) (ts : List Symbol) → begins_where labelled ts ≡ false → begun labelled simple_of other ts ≡ None
unfolding begun
none_begun labelled simple_of other (name t at ∷ ts) h = no_name_begun labelled simple_of other (record { text = t; at = at }) ts (not-false (labelled && is_label ts) h)
none_begun labelled simple_of other (iteration at ∷ ts) h = absurd cc
none_begun labelled simple_of other (exit_word at ∷ ts) h = absurd cc
none_begun labelled simple_of other (mark m ∷ ts) h = no_mark_begun labelled simple_of other m ts h
none_begun labelled simple_of other ts h = refl

-- behind the first name of a target no label's sign stands
target_is_none : (ns : List Named) (rest : List Symbol) → is_label (print_members ns ++ mark Assign ∷ rest) ≡ false
unfolding same_mark
target_is_none [] rest = refl
target_is_none (n ∷ ns) rest = refl

name_begun : (labelled : Bool) (simple_of : Named → Read Stmt) (other : Opener → Read Stmt) (n : Named) (ts : List Symbol) → is_label ts ≡ false → begun labelled simple_of other (name_symbol n ∷ ts) ≡ Some (simple_of n ts)
unfolding begun
name_begun labelled simple_of other n ts h = rw (h, and-false labelled) refl

-- ---- the round trip

module _ (turns : ℕ) where
  unfoldable pub E : ℕ → Read Tree
  E d = expression turns d

  unfoldable pub S : ℕ → Named → Read Stmt
  S d = simple turns d

  unfoldable pub C : ℕ → Opener → Read Stmt
  C d = nested turns d

  value_again : (e : Tree) (d : ℕ) (rest : List Symbol) → Fits e d → goes_on 7 rest ≡ false → length (print e ++ rest) ≤ turns → E d (print e ++ rest) ≡ Some (e, rest)
  unfolding E
  value_again e d rest fits h len = expression_again turns e d rest fits h len

  abbrev StmtAgain : Stmt → Type 0
  StmtAgain s = (labelled : Bool) (d : ℕ) (rest : List Symbol) → StmtFits s d → length (print_stmt s ++ rest) ≤ turns → begun labelled (S d) (C d) (print_stmt s ++ rest) ≡ Some (Some (s, rest))

  abbrev StmtsAgain : Stmts → Type 0
  StmtsAgain ss = (labelled : Bool) (d n : ℕ) (before : Stmts) (rest : List Symbol) → StmtsFit ss d → begins_where labelled rest ≡ false → count_stmts ss ≤ n → length (print_stmts ss ++ rest) ≤ turns
      → statements_from labelled (S d) (C d) n before (print_stmts ss ++ rest) ≡ Some (join_stmts before ss, rest)

  body_again : (ss : Stmts) (labelled : Bool) (d : ℕ) (rest : List Symbol) → StmtsAgain ss → StmtsFit ss d → begins_where labelled rest ≡ false → length (print_stmts ss ++ rest) ≤ turns → statements turns d labelled (print_stmts ss ++ rest) ≡ Some (ss, rest)
  unfolding statements S C
  body_again ss labelled d rest a fits ends len = a labelled d turns no_stmts rest fits ends (omega (arith, count_stmts-le ss, length-append (print_stmts ss) rest)) len

  empty_again : StmtAgain empty
  unfolding begun marked same_mark
  empty_again labelled d rest fits len = refl

  exit_again : (at : ℕ) → StmtAgain (exit at)
  unfolding begun ended after same_mark
  exit_again at labelled d rest fits len = refl

  return_again : StmtAgain return
  unfolding begun marked ended after same_mark
  return_again labelled d rest fits len = refl

  assigned_again : (p : PathData) (e : Tree) (d : ℕ) (rest : List Symbol) → Fits e d → length (print_path p ++ mark Assign ∷ (print e ++ mark Semicolon ∷ rest)) ≤ turns
      → assigned turns (E d) p.first (print_members p.members ++ mark Assign ∷ (print e ++ mark Semicolon ∷ rest)) ≡ Some (assign p e, rest)
  unfolding assigned
  assigned_again p e d rest fits len =
      let shorter : length (print e ++ mark Semicolon ∷ rest) ≤ turns = omega (arith, length-append (print_path p) (mark Assign ∷ (print e ++ mark Semicolon ∷ rest))) in
      rw (
        path_again turns p (mark Assign ∷ (print e ++ mark Semicolon ∷ rest)) (no_member (print e ++ mark Semicolon ∷ rest)) len,
        after_assign,
        value_again e d (mark Semicolon ∷ rest) fits (ends_semicolon rest) shorter,
        after_semicolon,
      ) refl

  no_parenthesis : (ns : List Named) (rest : List Symbol) → parenthesis (print_members ns ++ mark Assign ∷ rest) ≡ None
  unfolding parenthesis
  no_parenthesis [] rest = refl
  no_parenthesis (n ∷ ns) rest = refl

  plain_again : (d : ℕ) (n : Named) (ts : List Symbol) → parenthesis ts ≡ None → S d n ts ≡ assigned turns (E d) n ts
  unfolding S E simple
  plain_again d n ts none = rw none refl

  assign_again : (p : PathData) (e : Tree) → StmtAgain (assign p e)
  assign_again p e labelled d rest fits len =
      let behind : List Symbol = mark Assign ∷ (print e ++ mark Semicolon ∷ rest) in
      let shape : print_stmt (assign p e) ++ rest ≡ print_path p ++ behind = assign_shape p e rest in
      let longer : length (print_path p ++ behind) ≤ turns = omega (arith, ap length shape) in
      ap (begun labelled (S d) (C d)) shape
      ∙ name_begun labelled (S d) (C d) p.first (print_members p.members ++ behind) (target_is_none p.members (print e ++ mark Semicolon ∷ rest))
      ∙ ap (λ (x : Option (Stmt × List Symbol)). Some x) (plain_again d p.first (print_members p.members ++ behind) (no_parenthesis p.members (print e ++ mark Semicolon ∷ rest)) ∙ assigned_again p e d rest fits longer)

  here : (at : ℕ) (ts : List Symbol) → parenthesis (opening at ∷ ts) ≡ Some (at, ts)
  unfolding parenthesis
  here at ts = refl

  call_again : (n : Named) (at : ℕ) (cs : List ConnectionData) (d : ℕ) (rest : List Symbol) → ConnectionsFit cs d → length (print_connections cs ++ mark Close ∷ mark Semicolon ∷ rest) ≤ turns
      → S d n (opening at ∷ (print_connections cs ++ mark Close ∷ mark Semicolon ∷ rest)) ≡ Some (invoke n at cs, rest)
  unfolding S simple
  call_again n at cs d rest fits len = rw (here at (print_connections cs ++ mark Close ∷ mark Semicolon ∷ rest)) (invoked_again turns d n at cs rest fits len)

  invoke_again : (n : Named) (at : ℕ) (cs : List ConnectionData) → StmtAgain (invoke n at cs)
  invoke_again n at cs labelled d rest fits len =
      let behind : List Symbol = opening at ∷ (print_connections cs ++ mark Close ∷ mark Semicolon ∷ rest) in
      let shape : print_stmt (invoke n at cs) ++ rest ≡ name_symbol n ∷ behind = invoke_shape n at cs rest in
      let shorter : length (print_connections cs ++ mark Close ∷ mark Semicolon ∷ rest) ≤ turns = omega (arith, ap length shape) in
      ap (begun labelled (S d) (C d)) shape ∙ name_begun labelled (S d) (C d) n behind refl ∙ ap (λ (x : Option (Stmt × List Symbol)). Some x) (call_again n at cs d rest fits shorter)

  stmts_none : StmtsAgain no_stmts
  unfolding statements_from
  stmts_none labelled d zero before rest fits ends le len = ap (λ (x : Stmts). Some (x, rest)) (sym (join_stmts-none before))
  stmts_none labelled d (suc n) before rest fits ends le len = rw (none_begun labelled (S d) (C d) rest ends) (ap (λ (x : Stmts). Some (x, rest)) (sym (join_stmts-none before)))

  stmts_more : (s : Stmt) (ss : Stmts) → StmtAgain s → StmtsAgain ss → StmtsAgain (stmt s ss)
  unfolding statements_from
  stmts_more s ss a b labelled d zero before rest fits ends le len = absurd (omega arith)
  stmts_more s ss a b labelled d (suc n) before rest fits ends le len =
      let shape : (print_stmt s ++ print_stmts ss) ++ rest ≡ print_stmt s ++ (print_stmts ss ++ rest) = append_assoc (print_stmt s) (print_stmts ss) rest in
      let shorter : length (print_stmt s ++ (print_stmts ss ++ rest)) ≤ turns = omega (arith, ap length shape) in
      let last : length (print_stmts ss ++ rest) ≤ turns = omega (arith, length-append (print_stmt s) (print_stmts ss ++ rest)) in
      rw (shape, a labelled d (print_stmts ss ++ rest) fits.0 shorter) (b labelled d n (add_stmt before s) rest fits.1 ends (omega arith) last ∙ ap (λ (x : Stmts). Some (x, rest)) (join_stmts-add before s ss))

  abbrev OtherwiseAgain : Otherwise → Type 0
  OtherwiseAgain o = (closing : Mark) (d : ℕ) (rest : List Symbol) → IsClosing closing → ElseFits o d → length (print_otherwise closing o ++ rest) ≤ turns → otherwise turns (E d) (statements turns d false) closing (print_otherwise closing o ++ rest) ≡ Some (o, rest)

  no_else_again : OtherwiseAgain no_else
  unfolding otherwise
  no_else_again closing d rest is fits len = rw (is.no_else_here rest, is.found rest) refl

  else_again : (ss : Stmts) → StmtsAgain ss → OtherwiseAgain (else_stmts ss)
  unfolding otherwise
  else_again ss a closing d rest is fits len =
      let shape : (print_stmts ss ++ mark closing ∷ []) ++ rest ≡ print_stmts ss ++ mark closing ∷ rest = append_assoc (print_stmts ss) (mark closing ∷ []) rest in
      let shorter : length (print_stmts ss ++ mark closing ∷ rest) ≤ turns = omega (arith, ap length shape) in
      rw (after_else, shape, body_again ss false d (mark closing ∷ rest) a fits (is.ends rest) shorter, is.found rest) refl

  -- arms behind the word that begins the first
  abbrev ArmsAgain : Arms → Type 0
  ArmsAgain arms = (e : Tree) (ss : Stmts) (d n : ℕ) (before : Arms) (rest : List Symbol) → StmtsAgain ss → Fits e d → StmtsFit ss d → ArmsFit arms d → begins_where false rest ≡ false → after Elsif rest ≡ None → suc (count_arms arms) ≤ n
      → length (print e ++ mark Then ∷ (print_stmts ss ++ (print_arms Elsif arms ++ rest))) ≤ turns
      → arms_from turns (E d) (statements turns d false) n before (print e ++ mark Then ∷ (print_stmts ss ++ (print_arms Elsif arms ++ rest))) ≡ Some (join_arms before (arm e ss arms), rest)

  arms_none : ArmsAgain no_arms
  unfolding arms_from
  arms_none e ss d zero before rest a fits body arms ends last le len = absurd (omega arith)
  arms_none e ss d (suc n) before rest a fits body arms ends last le len =
      let shorter : length (print_stmts ss ++ rest) ≤ turns = omega (arith, length-append (print e) (mark Then ∷ (print_stmts ss ++ rest))) in
      rw (value_again e d (mark Then ∷ (print_stmts ss ++ rest)) fits (ends_then (print_stmts ss ++ rest)) len, after_then, body_again ss false d rest a body ends shorter, last) (ap (λ (x : Arms). Some (x, rest)) (sym (join_arms-none (add_arm before e ss)) ∙ join_arms-add before e ss no_arms))

  arms_more : (x : Tree) (xs : Stmts) (arms : Arms) → StmtsAgain xs → ArmsAgain arms → ArmsAgain (arm x xs arms)
  unfolding arms_from
  arms_more x xs arms ax b e ss d zero before rest a fits body more ends last le len = absurd (omega arith)
  arms_more x xs arms ax b e ss d (suc n) before rest a fits body more ends last le len =
      let others : List Symbol = print x ++ mark Then ∷ (print_stmts xs ++ (print_arms Elsif arms ++ rest)) in
      let shape : print_arms Elsif (arm x xs arms) ++ rest ≡ mark Elsif ∷ others = ap (λ (ts : List Symbol). mark Elsif ∷ ts) (arm_shape x xs arms rest) in
      let len' : length (print e ++ mark Then ∷ (print_stmts ss ++ mark Elsif ∷ others)) ≤ turns = subst (λ (ts : List Symbol). length (print e ++ mark Then ∷ (print_stmts ss ++ ts)) ≤ turns) shape len in
      let shorter : length (print_stmts ss ++ mark Elsif ∷ others) ≤ turns = omega (arith, length-append (print e) (mark Then ∷ (print_stmts ss ++ mark Elsif ∷ others))) in
      let least : length others ≤ turns = omega (arith, length-append (print_stmts ss) (mark Elsif ∷ others)) in
      rw (shape, value_again e d (mark Then ∷ (print_stmts ss ++ mark Elsif ∷ others)) fits (ends_then (print_stmts ss ++ mark Elsif ∷ others)) len', after_then, body_again ss false d (mark Elsif ∷ others) a body (ends_elsif others) shorter, after_elsif)
      (b x xs d n (add_arm before e ss) rest ax more.0 more.1 more.2 ends last (omega arith) least ∙ ap (λ (y : Arms). Some (y, rest)) (join_arms-add before e ss (arm x xs arms)))

  branch_again : (e : Tree) (ss : Stmts) (arms : Arms) (other : Otherwise) → StmtsAgain ss → ArmsAgain arms → OtherwiseAgain other → StmtAgain (branch (arm e ss arms) other)
  unfolding begun marked same_mark nested opened branched E S C statements
  branch_again e ss arms other a b o labelled zero rest fits len = absurd fits
  branch_again e ss arms other a b o labelled (suc d) rest fits len =
      let end : List Symbol = print_otherwise EndIf other ++ rest in
      let shape = branch_shape e ss arms other rest in
      let body : List Symbol = print e ++ mark Then ∷ (print_stmts ss ++ (print_arms Elsif arms ++ end)) in
      let shorter : length body ≤ turns = omega (arith, ap length shape) in
      let l1 = length-append (print e) (mark Then ∷ (print_stmts ss ++ (print_arms Elsif arms ++ end))) in
      let l2 = length-append (print_stmts ss) (print_arms Elsif arms ++ end) in
      let l3 = length-append (print_arms Elsif arms) end in
      let enough : suc (count_arms arms) ≤ turns = omega (arith, count_arms-le Elsif arms, l1, l2, l3) in
      let last : length end ≤ turns = omega (arith, l1, l2, l3) in
      ap (begun labelled (S (suc d)) (C (suc d))) shape ∙ rw (b e ss d turns no_arms end a fits.0 fits.1 fits.2 (begins_otherwise other rest) (no_elsif other rest) enough shorter, o EndIf d rest closing_if fits.3 last) refl

  -- entries from the labels of the first on
  abbrev EntriesAgain : Entries → Type 0
  EntriesAgain es = (ls : List LabelData) (ss : Stmts) (d n : ℕ) (before : Entries) (rest : List Symbol) → StmtsAgain ss → AreLabels ls → StmtsFit ss d → EntriesFit es d → begins_where true rest ≡ false → ends_entries rest ≡ true → suc (count_entries es) ≤ n
      → length (print_labels ls ++ mark Colon ∷ (print_stmts ss ++ (print_entries es ++ rest))) ≤ turns
      → entries_from turns (E d) (statements turns d) n before (print_labels ls ++ mark Colon ∷ (print_stmts ss ++ (print_entries es ++ rest))) ≡ Some (join_entries before (entry ls ss es), rest)

  entries_none : EntriesAgain no_entries
  unfolding entries_from
  entries_none ls ss d zero before rest a is body es ends last le len = absurd (omega arith)
  entries_none ls ss d (suc n) before rest a is body es ends last le len =
      let shorter : length (print_stmts ss ++ rest) ≤ turns = omega (arith, length-append (print_labels ls) (mark Colon ∷ (print_stmts ss ++ rest))) in
      rw (labels_again turns ls (print_stmts ss ++ rest) is len, after_colon, body_again ss true d rest a body ends shorter, last) (ap (λ (x : Entries). Some (x, rest)) (sym (join_entries-none (add_entry before ls ss)) ∙ join_entries-add before ls ss no_entries))

  entries_more : (ks : List LabelData) (xs : Stmts) (es : Entries) → StmtsAgain xs → EntriesAgain es → EntriesAgain (entry ks xs es)
  unfolding entries_from
  entries_more ks xs es ax b ls ss d zero before rest a is body more ends last le len = absurd (omega arith)
  entries_more ks xs es ax b ls ss d (suc n) before rest a is body more ends last le len =
      let tail : List Symbol = print_stmts xs ++ (print_entries es ++ rest) in
      let others : List Symbol = print_labels ks ++ mark Colon ∷ tail in
      let shape : print_entries (entry ks xs es) ++ rest ≡ others = entry_shape ks xs es rest in
      let len' : length (print_labels ls ++ mark Colon ∷ (print_stmts ss ++ others)) ≤ turns = subst (λ (ts : List Symbol). length (print_labels ls ++ mark Colon ∷ (print_stmts ss ++ ts)) ≤ turns) shape len in
      let shorter : length (print_stmts ss ++ others) ≤ turns = omega (arith, length-append (print_labels ls) (mark Colon ∷ (print_stmts ss ++ others))) in
      let least : length others ≤ turns = omega (arith, length-append (print_stmts ss) others) in
      rw (shape, labels_again turns ls (print_stmts ss ++ others) is len', after_colon, body_again ss true d others a body (labels_begin ks tail more.0) shorter, labels_end ks tail more.0)
      (b ks xs d n (add_entry before ls ss) rest ax more.0 more.1 more.2 ends last (omega arith) least ∙ ap (λ (y : Entries). Some (y, rest)) (join_entries-add before ls ss (entry ks xs es)))

  cases_again : (e : Tree) (ls : List LabelData) (ss : Stmts) (es : Entries) (other : Otherwise) → StmtsAgain ss → EntriesAgain es → OtherwiseAgain other → StmtAgain (cases e (entry ls ss es) other)
  unfolding begun marked same_mark nested opened selected E S C statements
  cases_again e ls ss es other a b o labelled zero rest fits len = absurd fits
  cases_again e ls ss es other a b o labelled (suc d) rest fits len =
      let end : List Symbol = print_otherwise EndCase other ++ rest in
      let tail : List Symbol = print_labels ls ++ mark Colon ∷ (print_stmts ss ++ (print_entries es ++ end)) in
      let entries : print_entries (entry ls ss es) ++ end ≡ tail = entry_shape ls ss es end in
      let shape : print_stmt (cases e (entry ls ss es) other) ++ rest ≡ mark Case ∷ (print e ++ mark Of ∷ tail) =
      cases_shape e (entry ls ss es) other rest ∙ ap (λ (x : List Symbol). mark Case ∷ (print e ++ mark Of ∷ x)) entries in
      let longer : length (print e ++ mark Of ∷ tail) ≤ turns = omega (arith, ap length shape) in
      let l1 = length-append (print e) (mark Of ∷ tail) in
      let l2 = length-append (print_labels ls) (mark Colon ∷ (print_stmts ss ++ (print_entries es ++ end))) in
      let l3 = length-append (print_stmts ss) (print_entries es ++ end) in
      let l4 = length-append (print_entries es) end in
      let shorter : length tail ≤ turns = omega (arith, l1) in
      let enough : suc (count_entries es) ≤ turns = omega (arith, count_entries-le es, l1, l2, l3, l4) in
      let last : length end ≤ turns = omega (arith, l1, l2, l3, l4) in
      ap (begun labelled (S (suc d)) (C (suc d))) shape ∙ rw (
        value_again e d (mark Of ∷ tail) fits.0 (ends_of tail) longer,
        after_of tail,
        b ls ss d turns no_entries end a fits.1 fits.2 fits.3 (begins_last other rest) (ends_otherwise other rest) enough shorter,
        o EndCase d rest closing_case fits.4 last,
      ) refl

  iterate_again : (i : IterationData) (ss : Stmts) → StmtsAgain ss → StmtAgain (iterate i ss)
  unfolding begun nested opened repeated E S C statements
  iterate_again i ss a labelled zero rest fits len = absurd fits
  iterate_again i ss a labelled (suc d) rest fits len =
      let end : List Symbol = print_stmts ss ++ mark EndFor ∷ rest in
      let front : List Symbol = print i.first ++ mark To ∷ (print i.last ++ (print_step i.step ++ mark Do ∷ end)) in
      let shape : print_stmt (iterate i ss) ++ rest ≡ iteration i.at ∷ name_symbol i.control ∷ mark Assign ∷ front = iterate_shape i ss rest ∙ iteration_shape i end in
      let l1 = length-append (print i.first) (mark To ∷ (print i.last ++ (print_step i.step ++ mark Do ∷ end))) in
      let l2 = length-append (print i.last) (print_step i.step ++ mark Do ∷ end) in
      let l3 = length-append (print_step i.step) (mark Do ∷ end) in
      let longer : length front ≤ turns = omega (arith, ap length shape) in
      let shorter : length end ≤ turns = omega (arith, l1, l2, l3) in
      ap (begun labelled (S (suc d)) (C (suc d))) shape ∙ rw (
        iteration_again (E d) turns d (λ e rest fits h len. value_again e d rest fits h len) i end fits.0 longer,
        body_again ss false d (mark EndFor ∷ rest) a fits.1 (ends_end_for rest) shorter,
        after_end_for rest,
      ) refl

  mutual
    pub stmt_again : (s : Stmt) → StmtAgain s
    stmt_again empty = empty_again
    stmt_again (assign p e) = assign_again p e
    stmt_again (invoke n at cs) = invoke_again n at cs
    stmt_again (branch no_arms other) = λ labelled d rest fits len. absurd fits
    stmt_again (branch (arm e ss arms) other) = branch_again e ss arms other (stmts_again ss) (arms_again arms) (otherwise_again other)
    stmt_again (cases e no_entries other) = λ labelled d rest fits len. absurd fits
    stmt_again (cases e (entry ls ss es) other) = cases_again e ls ss es other (stmts_again ss) (entries_again es) (otherwise_again other)
    stmt_again (iterate i ss) = iterate_again i ss (stmts_again ss)
    stmt_again (exit at) = exit_again at
    stmt_again return = return_again

    pub stmts_again : (ss : Stmts) → StmtsAgain ss
    stmts_again no_stmts = stmts_none
    stmts_again (stmt s ss) = stmts_more s ss (stmt_again s) (stmts_again ss)

    arms_again : (arms : Arms) → ArmsAgain arms
    arms_again no_arms = arms_none
    arms_again (arm e ss arms) = arms_more e ss arms (stmts_again ss) (arms_again arms)

    entries_again : (es : Entries) → EntriesAgain es
    entries_again no_entries = entries_none
    entries_again (entry ls ss es) = entries_more ls ss es (stmts_again ss) (entries_again es)

    otherwise_again : (o : Otherwise) → OtherwiseAgain o
    otherwise_again no_else = no_else_again
    otherwise_again (else_stmts ss) = else_again ss (stmts_again ss)

-- what fitting statements print is read as those statements
pub statements_again : (turns : ℕ) (ss : Stmts) (d : ℕ) (labelled : Bool) (rest : List Symbol) → StmtsFit ss d → begins_where labelled rest ≡ false → length (print_stmts ss ++ rest) ≤ turns → statements turns d labelled (print_stmts ss ++ rest) ≡ Some (ss, rest)
statements_again turns ss d labelled rest fits ends len = body_again turns ss labelled d rest (stmts_again turns ss) fits ends len
