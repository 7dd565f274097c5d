-- A levelled tree fits the depth that is left where the symbols that it prints nest within a limit.
use Rattle.std.proofs.Common.{◌≡◌, ℕ, zero, suc, ◌+◌, ◌-◌, ◌≤◌, Bool, List, [], ◌∷◌, ◌++◌, length, Option, Some, None, is_some, refl, sym, subst, ◌∙◌, append_assoc, arith}
use Rattle.plc_types.specs.declared.operator.Operator.{Operator}
use Rattle.source_tree.specs.declared.token.Mark.{Mark}
use Rattle.source_tree.specs.declared.token.Mark.TheVariants.{Close, Comma, Semicolon, Colon, Assign, Arrow, Range, If, Then, Elsif, Else, EndIf, Case, Of, EndCase, To, By, Do, EndFor, Return}
use Rattle.plc_types.specs.declared.operator.UnaryOperator.{UnaryOperator}
use Rattle.plc_types.specs.declared.operator.UnaryOperator.TheVariants as signs
use Rattle.source_tree.specs.declared.syntax.Literal.{Literal}
use Rattle.source_tree.specs.declared.syntax.Literal.TheVariants as literals
use Rattle.source_tree.specs.Syntax.{Symbol, opening, iteration, exit_word, mark, Named, PathData, Tree, literal, path, enumerator, paren, unary, chain, call, Links, no_links, link, LabelData, IterationData, Arguments, no_arguments, argument, ConnectionData, input, output, Stmt, empty, assign, invoke, branch, cases, iterate, exit, return, Stmts, no_stmts, stmt, Arms, no_arms, arm, Entries, no_entries, entry, Otherwise, no_else, else_stmts}
use Rattle.source_tree.specs.Prints.{unary_symbol, print_members, print_path, print_literal, print_argument_name, print, print_links, print_high, print_label, print_more_labels, print_labels, print_step, print_arguments, print_more_arguments, print_connection, print_more_connections, print_connections, print_stmt, print_stmts, print_arms, print_entries, print_otherwise, name_symbol}
use Rattle.source_tree.specs.Levels.{level_of, IsLevelled, AreOfLevel, IsConstant, IsInitialFormed, IsLabelFormed, AreLabelsFormed, AreLabels, IsStepLevelled, IsIterationLevelled, are_named, AreOfForm, AreConnectionsLevelled, IsStmtLevelled, AreStmtsLevelled, AreArmsLevelled, AreEntriesLevelled, IsElseLevelled}
use Rattle.grammar.specs.Marks.{same_mark}
use Rattle.grammar.specs.Fits.{Fits, LinksFit, StepFits, IterationFits, ArgumentsFit, ConnectionsFit, StmtFits, StmtsFit, ArmsFit, EntriesFit, ElseFits}
use Rattle.grammar.specs.declared.open.Open.{Open}
use Rattle.grammar.specs.Nesting.{open_parentheses, open_ifs, open_cases, open_iterations, nothing_open, total, behind, NestsWithin, Shallow}
use Rattle.grammar_laws.proofs.ArgumentsSound.{argument_shape}
use Rattle.grammar_laws.proofs.Iterations.{iteration_shape}
use Rattle.grammar_laws.proofs.Connections.{invoke_shape}
use Rattle.grammar_laws.proofs.StatementSound.{arm_shape, branch_shape, entry_shape, cases_shape, iterate_shape, assign_shape}
use Rattle.grammar_laws.proofs.Nests.{nests-length}

module _ (limit : ℕ) where
  abbrev Within : Open → List Symbol → Type 0
  Within o ts = NestsWithin limit o ts

  abbrev left : Open → ℕ
  left o = limit - total o

  -- where one more is open
  one_less : (o p : Open) → total p ≡ total o + 1 → total p ≤ limit → left o ≡ suc (left p)
  one_less o p more h = omega arith

  -- one more is open
  abbrev in_parentheses : Open → Open
  in_parentheses o = record { parentheses = o.parentheses + 1; ifs = o.ifs; cases = o.cases; iterations = o.iterations }

  abbrev in_if : Open → Open
  in_if o = record { parentheses = o.parentheses; ifs = o.ifs + 1; cases = o.cases; iterations = o.iterations }

  abbrev in_case : Open → Open
  in_case o = record { parentheses = o.parentheses; ifs = o.ifs; cases = o.cases + 1; iterations = o.iterations }

  abbrev in_iteration : Open → Open
  in_iteration o = record { parentheses = o.parentheses; ifs = o.ifs; cases = o.cases; iterations = o.iterations + 1 }

  less_one : (n : ℕ) → n + 1 - 1 ≡ n
  less_one n = omega arith

  closed : (o : Open) (rest : List Symbol) → Within (in_parentheses o) (mark Close ∷ rest) → Within o rest
  unfolding open_parentheses open_ifs open_cases open_iterations same_mark
  closed o rest h = subst (λ (n : ℕ). Within (record { parentheses = n; ifs = o.ifs; cases = o.cases; iterations = o.iterations }) rest) (less_one o.parentheses) h.1

  literal_nested : (l : Literal) (o : Open) (rest : List Symbol) → Within o (print_literal l ++ rest) → Within o rest
  unfolding open_parentheses open_ifs open_cases open_iterations same_mark
  literal_nested (literals.Number value at) o rest h = h.1
  literal_nested (literals.Truth value at) o rest h = h.1
  literal_nested (literals.TypedNumber kind at None value value_at) o rest h = h.1.1.1
  literal_nested (literals.TypedNumber kind at (Some minus_at) value value_at) o rest h = h.1.1.1.1
  literal_nested (literals.TypedTruth kind at value value_at) o rest h = h.1.1.1

  members_nested : (ns : List Named) (o : Open) (rest : List Symbol) → Within o (print_members ns ++ rest) → Within o rest
  unfolding open_parentheses open_ifs open_cases open_iterations same_mark
  members_nested [] o rest h = h
  members_nested (n ∷ ns) o rest h = members_nested ns o rest h.1.1

  path_nested : (p : PathData) (o : Open) (rest : List Symbol) → Within o (print_path p ++ rest) → Within o rest
  unfolding open_parentheses open_ifs open_cases open_iterations
  path_nested p o rest h = members_nested p.members o rest h.1

  unary_nested : (u : UnaryOperator) (at : ℕ) (o : Open) (ts : List Symbol) → Within o (unary_symbol u at ∷ ts) → Within o ts
  unfolding open_parentheses open_ifs open_cases open_iterations
  unary_nested signs.Minus at o ts h = h.1
  unary_nested signs.Not at o ts h = h.1

  abbrev Nested : Tree → Type 0
  Nested t = (o : Open) (rest : List Symbol) → IsLevelled t → Within o (print t ++ rest) → Fits t (left o) × Within o rest

  abbrev LinksNested : Links → Type 0
  LinksNested ls = (k : ℕ) (o : Open) (rest : List Symbol) → AreOfLevel k ls → Within o (print_links ls ++ rest) → LinksFit ls k (left o) × Within o rest

  enumerator_nested : (n v : Named) → Nested (enumerator n v)
  unfolding open_parentheses open_ifs open_cases open_iterations same_mark
  enumerator_nested n v o rest l h = (tt, h.1.1.1)

  behind_opening : (at : ℕ) (o : Open) (ts : List Symbol) → Within o (opening at ∷ ts) → (total (in_parentheses o) ≤ limit) × Within (in_parentheses o) ts
  unfolding open_parentheses open_ifs open_cases open_iterations
  behind_opening at o ts h = h

  paren_nested : (at : ℕ) (e : Tree) → Nested e → Nested (paren at e)
  paren_nested at e p o rest l h =
      let opened = behind_opening at o ((print e ++ mark Close ∷ []) ++ rest) h in
      let inner = p (in_parentheses o) (mark Close ∷ rest) l (subst (Within (in_parentheses o)) (append_assoc (print e) (mark Close ∷ []) rest) opened.1) in
      let found : Fits (paren at e) (suc (left (in_parentheses o))) = inner.0 in
      (subst (Fits (paren at e)) (sym (one_less o (in_parentheses o) (omega arith) opened.0)) found, closed o rest inner.1)

  link_nested : (p : Operator) (at : ℕ) (e : Tree) (ls : Links) → Nested e → LinksNested ls → LinksNested (link p at e ls)
  unfolding open_parentheses open_ifs open_cases open_iterations
  link_nested p at e ls a b k o rest l h =
      let first = a o (print_links ls ++ rest) l.2 (subst (Within o) (append_assoc (print e) (print_links ls) rest) h.1) in
      let others = b k o rest l.3 first.1 in
      ((l.0, l.1, first.0, others.0), others.1)

  -- arguments behind a first one, inside parentheses
  abbrev ArgumentsNested : Arguments → Type 0
  ArgumentsNested args = (by_name : Bool) (o : Open) (rest : List Symbol) → AreOfForm by_name args → Within o (print_more_arguments args ++ rest) → ArgumentsFit by_name args (suc (left o)) × Within o rest

  abbrev ArgumentNested : Option Named → Tree → Arguments → Type 0
  ArgumentNested n e args = (by_name : Bool) (o : Open) (rest : List Symbol) → AreOfForm by_name (argument n e args) → Within o (print_argument_name n ++ (print e ++ (print_more_arguments args ++ rest)))
      → ArgumentsFit by_name (argument n e args) (suc (left o)) × Within o rest

  abbrev CallNested : Arguments → Type 0
  CallNested args = (o : Open) (rest : List Symbol) → AreOfForm (are_named args) args → Within o (print_arguments args ++ rest) → ArgumentsFit (are_named args) args (suc (left o)) × Within o rest

  name_nested : (n : Option Named) (o : Open) (rest : List Symbol) → Within o (print_argument_name n ++ rest) → Within o rest
  unfolding open_parentheses open_ifs open_cases open_iterations same_mark
  name_nested None o rest h = h
  name_nested (Some n) o rest h = h.1.1

  behind_comma : (o : Open) (rest : List Symbol) → Within o (mark Comma ∷ rest) → Within o rest
  unfolding open_parentheses open_ifs open_cases open_iterations same_mark
  behind_comma o rest h = h.1

  behind_name : (n : Named) (o : Open) (rest : List Symbol) → Within o (name_symbol n ∷ rest) → Within o rest
  unfolding open_parentheses open_ifs open_cases open_iterations
  behind_name n o rest h = h.1

  argument_nested : (n : Option Named) (e : Tree) (args : Arguments) → Nested e → ArgumentsNested args → ArgumentNested n e args
  argument_nested n e args p q by_name o rest l h =
      let first = p o (print_more_arguments args ++ rest) l.1 (name_nested n o (print e ++ (print_more_arguments args ++ rest)) h) in
      let others = q by_name o rest l.2 first.1 in
      ((l.0, first.0, others.0), others.1)

  call_nested : (n : Named) (at : ℕ) (args : Arguments) → CallNested args → Nested (call n at args)
  call_nested n at args p o rest l h =
      let opened = behind_opening at o ((print_arguments args ++ mark Close ∷ []) ++ rest) (behind_name n o (opening at ∷ ((print_arguments args ++ mark Close ∷ []) ++ rest)) h) in
      let inner = p (in_parentheses o) (mark Close ∷ rest) l (subst (Within (in_parentheses o)) (append_assoc (print_arguments args) (mark Close ∷ []) rest) opened.1) in
      (subst (ArgumentsFit (are_named args) args) (sym (one_less o (in_parentheses o) (omega arith) opened.0)) inner.0, closed o rest inner.1)

  mutual
    pub nested : (t : Tree) → Nested t
    nested (literal l) = λ o rest is h. (tt, literal_nested l o rest h)
    nested (path p) = λ o rest is h. (tt, path_nested p o rest h)
    nested (enumerator n v) = enumerator_nested n v
    nested (paren at e) = paren_nested at e (nested e)
    nested (unary u at e) = λ o rest l h.
        let inner = nested e o rest l.1 (unary_nested u at o (print e ++ rest) h) in
        ((l.0, inner.0), inner.1)
    nested (chain e no_links) = λ o rest l h. absurd l
    nested (chain e (link p at f ls)) = λ o rest l h.
        let first = nested e o (print_links (link p at f ls) ++ rest) l.1 (subst (Within o) (append_assoc (print e) (print_links (link p at f ls)) rest) h) in
        let others = link_nested p at f ls (nested f) (links_nested ls) (level_of p) o rest (refl, l.2, l.3, l.4) first.1 in
        ((l.0, first.0, l.2, others.0.2, others.0.3), others.1)
    nested (call n at no_arguments) = call_nested n at no_arguments (λ o rest l h. (tt, h))
    nested (call n at (argument m e args)) =
        call_nested n at (argument m e args) (λ o rest l h. argument_nested m e args (nested e) (arguments_nested args) (is_some m) o rest l (subst (Within o) (argument_shape m e args rest) h))

    links_nested : (ls : Links) → LinksNested ls
    links_nested no_links = λ k o rest l h. (tt, h)
    links_nested (link p at e ls) = link_nested p at e ls (nested e) (links_nested ls)

    arguments_nested : (args : Arguments) → ArgumentsNested args
    arguments_nested no_arguments = λ by_name o rest l h. (tt, h)
    arguments_nested (argument n e args) = λ by_name o rest l h.
        let parts = behind_comma o (print_argument_name n ++ (print e ++ (print_more_arguments args ++ rest))) (subst (λ (ts : List Symbol). Within o (mark Comma ∷ ts)) (argument_shape n e args rest) h) in
        argument_nested n e args (nested e) (arguments_nested args) by_name o rest l parts

  -- ---- words and signs

  -- a mark that neither opens nor closes
  abbrev IsPlain : Mark → Type 0
  IsPlain m = (o : Open) → behind o (mark m) ≡ o

  past : (m : Mark) (o : Open) (rest : List Symbol) → IsPlain m → Within o (mark m ∷ rest) → Within o rest
  past m o rest plain h = subst (λ (p : Open). Within p rest) (plain o) h.1

  plain_semicolon : IsPlain Semicolon
  unfolding open_parentheses open_ifs open_cases open_iterations same_mark
  plain_semicolon o = refl

  plain_assign : IsPlain Assign
  unfolding open_parentheses open_ifs open_cases open_iterations same_mark
  plain_assign o = refl

  plain_arrow : IsPlain Arrow
  unfolding open_parentheses open_ifs open_cases open_iterations same_mark
  plain_arrow o = refl

  plain_comma : IsPlain Comma
  unfolding open_parentheses open_ifs open_cases open_iterations same_mark
  plain_comma o = refl

  plain_colon : IsPlain Colon
  unfolding open_parentheses open_ifs open_cases open_iterations same_mark
  plain_colon o = refl

  plain_range : IsPlain Range
  unfolding open_parentheses open_ifs open_cases open_iterations same_mark
  plain_range o = refl

  plain_then : IsPlain Then
  unfolding open_parentheses open_ifs open_cases open_iterations same_mark
  plain_then o = refl

  plain_elsif : IsPlain Elsif
  unfolding open_parentheses open_ifs open_cases open_iterations same_mark
  plain_elsif o = refl

  plain_else : IsPlain Else
  unfolding open_parentheses open_ifs open_cases open_iterations same_mark
  plain_else o = refl

  plain_of : IsPlain Of
  unfolding open_parentheses open_ifs open_cases open_iterations same_mark
  plain_of o = refl

  plain_to : IsPlain To
  unfolding open_parentheses open_ifs open_cases open_iterations same_mark
  plain_to o = refl

  plain_by : IsPlain By
  unfolding open_parentheses open_ifs open_cases open_iterations same_mark
  plain_by o = refl

  plain_do : IsPlain Do
  unfolding open_parentheses open_ifs open_cases open_iterations same_mark
  plain_do o = refl

  plain_return : IsPlain Return
  unfolding open_parentheses open_ifs open_cases open_iterations same_mark
  plain_return o = refl

  behind_exit : (at : ℕ) (o : Open) (rest : List Symbol) → Within o (exit_word at ∷ rest) → Within o rest
  unfolding open_parentheses open_ifs open_cases open_iterations
  behind_exit at o rest h = h.1

  behind_if : (o : Open) (rest : List Symbol) → Within o (mark If ∷ rest) → (total (in_if o) ≤ limit) × Within (in_if o) rest
  unfolding open_parentheses open_ifs open_cases open_iterations same_mark
  behind_if o rest h = h

  ended_if : (o : Open) (rest : List Symbol) → Within (in_if o) (mark EndIf ∷ rest) → Within o rest
  unfolding open_parentheses open_ifs open_cases open_iterations same_mark
  ended_if o rest h = subst (λ (n : ℕ). Within (record { parentheses = o.parentheses; ifs = n; cases = o.cases; iterations = o.iterations }) rest) (less_one o.ifs) h.1

  behind_case : (o : Open) (rest : List Symbol) → Within o (mark Case ∷ rest) → (total (in_case o) ≤ limit) × Within (in_case o) rest
  unfolding open_parentheses open_ifs open_cases open_iterations same_mark
  behind_case o rest h = h

  ended_case : (o : Open) (rest : List Symbol) → Within (in_case o) (mark EndCase ∷ rest) → Within o rest
  unfolding open_parentheses open_ifs open_cases open_iterations same_mark
  ended_case o rest h = subst (λ (n : ℕ). Within (record { parentheses = o.parentheses; ifs = o.ifs; cases = n; iterations = o.iterations }) rest) (less_one o.cases) h.1

  behind_for : (at : ℕ) (n : Named) (o : Open) (rest : List Symbol) → Within o (iteration at ∷ name_symbol n ∷ rest) → (total (in_iteration o) ≤ limit) × Within (in_iteration o) rest
  unfolding open_parentheses open_ifs open_cases open_iterations
  behind_for at n o rest h = (h.0, h.1.1)

  ended_for : (o : Open) (rest : List Symbol) → Within (in_iteration o) (mark EndFor ∷ rest) → Within o rest
  unfolding open_parentheses open_ifs open_cases open_iterations same_mark
  ended_for o rest h = subst (λ (n : ℕ). Within (record { parentheses = o.parentheses; ifs = o.ifs; cases = o.cases; iterations = n }) rest) (less_one o.iterations) h.1

  -- ---- labels

  constant_levelled : (e : Tree) → IsConstant e → IsLevelled e
  constant_levelled (literal l) is = tt
  constant_levelled (path p) is = tt
  constant_levelled (enumerator n v) is = tt
  constant_levelled (paren at e) is = absurd is
  constant_levelled (unary signs.Minus at (literal l)) is = (tt, tt)
  constant_levelled (unary signs.Minus at (path p)) is = absurd is
  constant_levelled (unary signs.Minus at (enumerator n v)) is = absurd is
  constant_levelled (unary signs.Minus at (paren place e)) is = absurd is
  constant_levelled (unary signs.Minus at (unary o place e)) is = absurd is
  constant_levelled (unary signs.Minus at (chain e ls)) is = absurd is
  constant_levelled (unary signs.Minus at (call n place args)) is = absurd is
  constant_levelled (unary signs.Not at e) is = absurd is
  constant_levelled (chain e ls) is = absurd is
  constant_levelled (call n at args) is = absurd is

  constant_nested : (e : Tree) (o : Open) (rest : List Symbol) → IsConstant e → Within o (print e ++ rest) → Within o rest
  constant_nested e o rest is h = (nested e o rest (constant_levelled e is) h).1

  high_nested : (e : Option Tree) (o : Open) (rest : List Symbol) → IsInitialFormed e → Within o (print_high e ++ rest) → Within o rest
  high_nested None o rest is h = h
  high_nested (Some e) o rest is h = constant_nested e o rest is (past Range o (print e ++ rest) plain_range h)

  label_nested : (l : LabelData) (o : Open) (rest : List Symbol) → IsLabelFormed l → Within o (print_label l ++ rest) → Within o rest
  label_nested l o rest is h =
      high_nested l.high o rest is.1 (constant_nested l.low o (print_high l.high ++ rest) is.0 (subst (Within o) (append_assoc (print l.low) (print_high l.high) rest) h))

  more_labels_nested : (ls : List LabelData) (o : Open) (rest : List Symbol) → AreLabelsFormed ls → Within o (print_more_labels ls ++ rest) → Within o rest
  more_labels_nested [] o rest is h = h
  more_labels_nested (l ∷ ls) o rest is h =
      let parts = past Comma o ((print_label l ++ print_more_labels ls) ++ rest) plain_comma h in
      more_labels_nested ls o rest is.1 (label_nested l o (print_more_labels ls ++ rest) is.0 (subst (Within o) (append_assoc (print_label l) (print_more_labels ls) rest) parts))

  labels_nested : (ls : List LabelData) (o : Open) (rest : List Symbol) → AreLabels ls → Within o (print_labels ls ++ rest) → Within o rest
  labels_nested [] o rest is h = absurd is
  labels_nested (l ∷ ls) o rest is h =
      more_labels_nested ls o rest is.1 (label_nested l o (print_more_labels ls ++ rest) is.0 (subst (Within o) (append_assoc (print_label l) (print_more_labels ls) rest) h))

  -- ---- connections, inside parentheses

  abbrev ConnectionsNested : List ConnectionData → Type 0
  ConnectionsNested cs = (o : Open) (rest : List Symbol) → AreConnectionsLevelled cs → Within o (print_more_connections cs ++ rest) → ConnectionsFit cs (suc (left o)) × Within o rest

  connection_nested : (c : ConnectionData) (cs : List ConnectionData) → ConnectionsNested cs → (o : Open) (rest : List Symbol) → AreConnectionsLevelled (c ∷ cs) → Within o ((print_connection c ++ print_more_connections cs) ++ rest)
      → ConnectionsFit (c ∷ cs) (suc (left o)) × Within o rest
  connection_nested (input n e) cs p o rest l h =
      let value = past Assign o ((print e ++ print_more_connections cs) ++ rest) plain_assign (behind_name n o (mark Assign ∷ ((print e ++ print_more_connections cs) ++ rest)) h) in
      let first = nested e o (print_more_connections cs ++ rest) l.0 (subst (Within o) (append_assoc (print e) (print_more_connections cs) rest) value) in
      let others = p o rest l.1 first.1 in
      ((first.0, others.0), others.1)
  connection_nested (output n v) cs p o rest l h =
      let target = past Arrow o ((print_path v ++ print_more_connections cs) ++ rest) plain_arrow (behind_name n o (mark Arrow ∷ ((print_path v ++ print_more_connections cs) ++ rest)) h) in
      let behind_target = path_nested v o (print_more_connections cs ++ rest) (subst (Within o) (append_assoc (print_path v) (print_more_connections cs) rest) target) in
      let others = p o rest l behind_target in
      ((tt, others.0), others.1)

  more_connections_nested : (cs : List ConnectionData) → ConnectionsNested cs
  more_connections_nested [] o rest l h = (tt, h)
  more_connections_nested (c ∷ cs) o rest l h = connection_nested c cs (more_connections_nested cs) o rest l (behind_comma o ((print_connection c ++ print_more_connections cs) ++ rest) h)

  connections_nested : (cs : List ConnectionData) (o : Open) (rest : List Symbol) → AreConnectionsLevelled cs → Within o (print_connections cs ++ rest) → ConnectionsFit cs (suc (left o)) × Within o rest
  connections_nested [] o rest l h = (tt, h)
  connections_nested (c ∷ cs) o rest l h = connection_nested c cs (more_connections_nested cs) o rest l h

  -- ---- statements

  abbrev StmtNested : Stmt → Type 0
  StmtNested s = (o : Open) (rest : List Symbol) → IsStmtLevelled s → Within o (print_stmt s ++ rest) → StmtFits s (left o) × Within o rest

  abbrev StmtsNested : Stmts → Type 0
  StmtsNested ss = (o : Open) (rest : List Symbol) → AreStmtsLevelled ss → Within o (print_stmts ss ++ rest) → StmtsFit ss (left o) × Within o rest

  abbrev ArmsNested : Arms → Type 0
  ArmsNested arms = (o : Open) (rest : List Symbol) → AreArmsLevelled arms → Within o (print_arms Elsif arms ++ rest) → ArmsFit arms (left o) × Within o rest

  -- an IF from its first condition on
  abbrev ArmNested : Tree → Stmts → Arms → Type 0
  ArmNested e ss arms = (o : Open) (rest : List Symbol) → IsLevelled e → AreStmtsLevelled ss → AreArmsLevelled arms → Within o (print e ++ mark Then ∷ (print_stmts ss ++ (print_arms Elsif arms ++ rest)))
      → Fits e (left o) × StmtsFit ss (left o) × ArmsFit arms (left o) × Within o rest

  abbrev EntriesNested : Entries → Type 0
  EntriesNested es = (o : Open) (rest : List Symbol) → AreEntriesLevelled es → Within o (print_entries es ++ rest) → EntriesFit es (left o) × Within o rest

  -- what stands before the word that closes
  abbrev OtherwiseNested : Otherwise → Type 0
  OtherwiseNested other = (closing : Mark) (o : Open) (rest : List Symbol) → IsElseLevelled other → Within o (print_otherwise closing other ++ rest) → ElseFits other (left o) × Within o (mark closing ∷ rest)

  arm_nested : (e : Tree) (ss : Stmts) (arms : Arms) → StmtsNested ss → ArmsNested arms → ArmNested e ss arms
  arm_nested e ss arms p q o rest le ls la h =
      let first = nested e o (mark Then ∷ (print_stmts ss ++ (print_arms Elsif arms ++ rest))) le h in
      let second = p o (print_arms Elsif arms ++ rest) ls (past Then o (print_stmts ss ++ (print_arms Elsif arms ++ rest)) plain_then first.1) in
      let third = q o rest la second.1 in
      (first.0, second.0, third.0, third.1)

  assign_nested : (p : PathData) (e : Tree) → StmtNested (assign p e)
  assign_nested p e o rest l h =
      let parts = subst (Within o) (assign_shape p e rest) h in
      let value = past Assign o (print e ++ mark Semicolon ∷ rest) plain_assign (path_nested p o (mark Assign ∷ (print e ++ mark Semicolon ∷ rest)) parts) in
      let found = nested e o (mark Semicolon ∷ rest) l value in
      (found.0, past Semicolon o rest plain_semicolon found.1)

  invoke_nested : (n : Named) (at : ℕ) (cs : List ConnectionData) → StmtNested (invoke n at cs)
  invoke_nested n at cs o rest l h =
      let end : List Symbol = mark Close ∷ mark Semicolon ∷ rest in
      let parts = behind_name n o (opening at ∷ (print_connections cs ++ end)) (subst (Within o) (invoke_shape n at cs rest) h) in
      let body = behind_opening at o (print_connections cs ++ end) parts in
      let inner = connections_nested cs (in_parentheses o) end l body.1 in
      let found : StmtFits (invoke n at cs) (suc (left (in_parentheses o))) = inner.0 in
      (subst (StmtFits (invoke n at cs)) (sym (one_less o (in_parentheses o) (omega arith) body.0)) found, past Semicolon o rest plain_semicolon (closed o (mark Semicolon ∷ rest) inner.1))

  branch_nested : (e : Tree) (ss : Stmts) (arms : Arms) (other : Otherwise) → StmtsNested ss → ArmsNested arms → OtherwiseNested other → StmtNested (branch (arm e ss arms) other)
  branch_nested e ss arms other p q r o rest l h =
      let end : List Symbol = print_otherwise EndIf other ++ rest in
      let body = behind_if o (print e ++ mark Then ∷ (print_stmts ss ++ (print_arms Elsif arms ++ end))) (subst (Within o) (branch_shape e ss arms other rest) h) in
      let first = arm_nested e ss arms p q (in_if o) end l.0 l.1 l.2 body.1 in
      let last = r EndIf (in_if o) rest l.3 first.3 in
      let found : StmtFits (branch (arm e ss arms) other) (suc (left (in_if o))) = (first.0, first.1, first.2, last.0) in
      (subst (StmtFits (branch (arm e ss arms) other)) (sym (one_less o (in_if o) (omega arith) body.0)) found, ended_if o rest last.1)

  entry_nested : (ls : List LabelData) (ss : Stmts) (es : Entries) → StmtsNested ss → EntriesNested es → EntriesNested (entry ls ss es)
  entry_nested ls ss es p q o rest l h =
      let labels = labels_nested ls o (mark Colon ∷ (print_stmts ss ++ (print_entries es ++ rest))) l.0 (subst (Within o) (entry_shape ls ss es rest) h) in
      let first = p o (print_entries es ++ rest) l.1 (past Colon o (print_stmts ss ++ (print_entries es ++ rest)) plain_colon labels) in
      let others = q o rest l.2 first.1 in
      ((l.0, first.0, others.0), others.1)

  cases_nested : (e : Tree) (ls : List LabelData) (ss : Stmts) (es : Entries) (other : Otherwise) → EntriesNested (entry ls ss es) → OtherwiseNested other → StmtNested (cases e (entry ls ss es) other)
  cases_nested e ls ss es other p r o rest l h =
      let end : List Symbol = print_otherwise EndCase other ++ rest in
      let all : List Symbol = print_entries (entry ls ss es) ++ end in
      let body = behind_case o (print e ++ mark Of ∷ all) (subst (Within o) (cases_shape e (entry ls ss es) other rest) h) in
      let first = nested e (in_case o) (mark Of ∷ all) l.0 body.1 in
      let entries = p (in_case o) end (l.1, l.2, l.3) (past Of (in_case o) all plain_of first.1) in
      let last = r EndCase (in_case o) rest l.4 entries.1 in
      let found : StmtFits (cases e (entry ls ss es) other) (suc (left (in_case o))) = (first.0, l.1, entries.0.1, entries.0.2, last.0) in
      (subst (StmtFits (cases e (entry ls ss es) other)) (sym (one_less o (in_case o) (omega arith) body.0)) found, ended_case o rest last.1)

  step_nested : (s : Option Tree) (o : Open) (rest : List Symbol) → IsStepLevelled s → Within o (print_step s ++ rest) → StepFits s (left o) × Within o rest
  step_nested None o rest l h = (tt, h)
  step_nested (Some e) o rest l h = nested e o rest l (past By o (print e ++ rest) plain_by h)

  iterate_nested : (i : IterationData) (ss : Stmts) → StmtsNested ss → StmtNested (iterate i ss)
  iterate_nested i ss p o rest l h =
      let end : List Symbol = print_stmts ss ++ mark EndFor ∷ rest in
      let by : List Symbol = print_step i.step ++ mark Do ∷ end in
      let to : List Symbol = print i.last ++ by in
      let body = behind_for i.at i.control o (mark Assign ∷ (print i.first ++ mark To ∷ to)) (subst (Within o) (iterate_shape i ss rest ∙ iteration_shape i end) h) in
      let first = nested i.first (in_iteration o) (mark To ∷ to) l.0.0 (past Assign (in_iteration o) (print i.first ++ mark To ∷ to) plain_assign body.1) in
      let last = nested i.last (in_iteration o) by l.0.1 (past To (in_iteration o) to plain_to first.1) in
      let steps = step_nested i.step (in_iteration o) (mark Do ∷ end) l.0.2 last.1 in
      let inner = p (in_iteration o) (mark EndFor ∷ rest) l.1 (past Do (in_iteration o) end plain_do steps.1) in
      let found : StmtFits (iterate i ss) (suc (left (in_iteration o))) = ((first.0, last.0, steps.0), inner.0) in
      (subst (StmtFits (iterate i ss)) (sym (one_less o (in_iteration o) (omega arith) body.0)) found, ended_for o rest inner.1)

  mutual
    stmt_nested : (s : Stmt) → StmtNested s
    stmt_nested empty = λ o rest l h. (tt, past Semicolon o rest plain_semicolon h)
    stmt_nested (assign p e) = assign_nested p e
    stmt_nested (invoke n at cs) = invoke_nested n at cs
    stmt_nested (branch no_arms other) = λ o rest l h. absurd l
    stmt_nested (branch (arm e ss arms) other) = branch_nested e ss arms other (stmts_nested ss) (arms_nested arms) (otherwise_nested other)
    stmt_nested (cases e no_entries other) = λ o rest l h. absurd l
    stmt_nested (cases e (entry ls ss es) other) = cases_nested e ls ss es other (entry_nested ls ss es (stmts_nested ss) (entries_nested es)) (otherwise_nested other)
    stmt_nested (iterate i ss) = iterate_nested i ss (stmts_nested ss)
    stmt_nested (exit at) = λ o rest l h. (tt, past Semicolon o rest plain_semicolon (behind_exit at o (mark Semicolon ∷ rest) h))
    stmt_nested return = λ o rest l h. (tt, past Semicolon o rest plain_semicolon (past Return o (mark Semicolon ∷ rest) plain_return h))

    pub stmts_nested : (ss : Stmts) → StmtsNested ss
    stmts_nested no_stmts = λ o rest l h. (tt, h)
    stmts_nested (stmt s ss) = λ o rest l h.
        let first = stmt_nested s o (print_stmts ss ++ rest) l.0 (subst (Within o) (append_assoc (print_stmt s) (print_stmts ss) rest) h) in
        let others = stmts_nested ss o rest l.1 first.1 in
        ((first.0, others.0), others.1)

    arms_nested : (arms : Arms) → ArmsNested arms
    arms_nested no_arms = λ o rest l h. (tt, h)
    arms_nested (arm e ss arms) = λ o rest l h.
        let parts = past Elsif o (print e ++ mark Then ∷ (print_stmts ss ++ (print_arms Elsif arms ++ rest))) plain_elsif (subst (λ (ts : List Symbol). Within o (mark Elsif ∷ ts)) (arm_shape e ss arms rest) h) in
        let all = arm_nested e ss arms (stmts_nested ss) (arms_nested arms) o rest l.0 l.1 l.2 parts in
        ((all.0, all.1, all.2), all.3)

    entries_nested : (es : Entries) → EntriesNested es
    entries_nested no_entries = λ o rest l h. (tt, h)
    entries_nested (entry ls ss es) = entry_nested ls ss es (stmts_nested ss) (entries_nested es)

    otherwise_nested : (other : Otherwise) → OtherwiseNested other
    otherwise_nested no_else = λ closing o rest l h. (tt, h)
    otherwise_nested (else_stmts ss) = λ closing o rest l h.
        let parts = past Else o (print_stmts ss ++ mark closing ∷ rest) plain_else (subst (λ (ts : List Symbol). Within o (mark Else ∷ ts)) (append_assoc (print_stmts ss) (mark closing ∷ []) rest) h) in
        stmts_nested ss o (mark closing ∷ rest) l parts

-- ---- fitting trees are levelled

mutual
  pub fits_levelled : (t : Tree) (d : ℕ) → Fits t d → IsLevelled t
  fits_levelled (literal l) d h = tt
  fits_levelled (path p) d h = tt
  fits_levelled (enumerator n v) d h = tt
  fits_levelled (paren at e) zero h = absurd h
  fits_levelled (paren at e) (suc d) h = fits_levelled e d h
  fits_levelled (unary o at e) d h = (h.0, fits_levelled e d h.1)
  fits_levelled (chain e no_links) d h = absurd h
  fits_levelled (chain e (link o at f ls)) d h = (h.0, fits_levelled e d h.1, h.2, fits_levelled f d h.3, links_levelled ls (level_of o) d h.4)
  fits_levelled (call n at args) d h = arguments_levelled args (are_named args) d h

  links_levelled : (ls : Links) (k d : ℕ) → LinksFit ls k d → AreOfLevel k ls
  links_levelled no_links k d h = tt
  links_levelled (link o at e ls) k d h = (h.0, h.1, fits_levelled e d h.2, links_levelled ls k d h.3)

  arguments_levelled : (args : Arguments) (by_name : Bool) (d : ℕ) → ArgumentsFit by_name args d → AreOfForm by_name args
  arguments_levelled no_arguments by_name d h = tt
  arguments_levelled (argument n e args) by_name zero h = absurd h
  arguments_levelled (argument n e args) by_name (suc d) h = (h.0, fits_levelled e d h.1, arguments_levelled args by_name (suc d) h.2)

step_levelled : (s : Option Tree) (d : ℕ) → StepFits s d → IsStepLevelled s
step_levelled None d h = tt
step_levelled (Some e) d h = fits_levelled e d h

iteration_levelled : (i : IterationData) (d : ℕ) → IterationFits i d → IsIterationLevelled i
iteration_levelled i d h = (fits_levelled i.first d h.0, fits_levelled i.last d h.1, step_levelled i.step d h.2)

connections_levelled : (cs : List ConnectionData) (d : ℕ) → ConnectionsFit cs d → AreConnectionsLevelled cs
connections_levelled [] d h = tt
connections_levelled (input n e ∷ cs) zero h = absurd h.0
connections_levelled (input n e ∷ cs) (suc d) h = (fits_levelled e d h.0, connections_levelled cs (suc d) h.1)
connections_levelled (output n p ∷ cs) d h = connections_levelled cs d h.1

mutual
  stmt_levelled : (s : Stmt) (d : ℕ) → StmtFits s d → IsStmtLevelled s
  stmt_levelled empty d h = tt
  stmt_levelled (assign p e) d h = fits_levelled e d h
  stmt_levelled (invoke n at cs) d h = connections_levelled cs d h
  stmt_levelled (branch no_arms other) d h = absurd h
  stmt_levelled (branch (arm e ss arms) other) zero h = absurd h
  stmt_levelled (branch (arm e ss arms) other) (suc d) h = (fits_levelled e d h.0, stmts_levelled ss d h.1, arms_levelled arms d h.2, else_levelled other d h.3)
  stmt_levelled (cases e no_entries other) d h = absurd h
  stmt_levelled (cases e (entry ls ss es) other) zero h = absurd h
  stmt_levelled (cases e (entry ls ss es) other) (suc d) h = (fits_levelled e d h.0, h.1, stmts_levelled ss d h.2, entries_levelled es d h.3, else_levelled other d h.4)
  stmt_levelled (iterate i ss) zero h = absurd h
  stmt_levelled (iterate i ss) (suc d) h = (iteration_levelled i d h.0, stmts_levelled ss d h.1)
  stmt_levelled (exit at) d h = tt
  stmt_levelled return d h = tt

  pub stmts_levelled : (ss : Stmts) (d : ℕ) → StmtsFit ss d → AreStmtsLevelled ss
  stmts_levelled no_stmts d h = tt
  stmts_levelled (stmt s ss) d h = (stmt_levelled s d h.0, stmts_levelled ss d h.1)

  arms_levelled : (arms : Arms) (d : ℕ) → ArmsFit arms d → AreArmsLevelled arms
  arms_levelled no_arms d h = tt
  arms_levelled (arm e ss arms) d h = (fits_levelled e d h.0, stmts_levelled ss d h.1, arms_levelled arms d h.2)

  entries_levelled : (es : Entries) (d : ℕ) → EntriesFit es d → AreEntriesLevelled es
  entries_levelled no_entries d h = tt
  entries_levelled (entry ls ss es) d h = (h.0, stmts_levelled ss d h.1, entries_levelled es d h.2)

  else_levelled : (o : Otherwise) (d : ℕ) → ElseFits o d → IsElseLevelled o
  else_levelled no_else d h = tt
  else_levelled (else_stmts ss) d h = stmts_levelled ss d h
