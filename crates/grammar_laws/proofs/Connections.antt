-- Calls of blocks that are read print the symbols that were taken, and what they print is read as those calls.
use Rattle.std.proofs.Common.{◌≡◌, ℕ, zero, suc, ◌<◌, ◌≤◌, false, List, [], ◌∷◌, ◌++◌, length, Option, Some, None, refl, sym, ap, subst, ◌∙◌, append_assoc, arith, length-append}
use Rattle.source_tree.specs.declared.token.Mark.TheVariants.{Assign, Arrow, Close, Comma, Semicolon}
use Rattle.source_tree.specs.Syntax.{Symbol, opening, mark, Named, PathData, Tree, ConnectionData, input, output, Stmt, invoke}
use Rattle.source_tree.specs.Prints.{name_symbol, print_members, print_path, print, print_connection, print_more_connections, print_connections, print_stmt}
use Rattle.grammar.specs.Marks.{same_mark}
use Rattle.grammar.specs.Ends.{goes_on}
use Rattle.grammar.specs.Fits.{ConnectionFits, ConnectionsFit, StmtFits}
use Rattle.grammar.specs.Reading.{Read, ◌>>=◌, after, named}
use Rattle.grammar.specs.Expressions.{path_from, inside, expression}
use Rattle.grammar.specs.Connections.{target, connection_or, connected, connection, connections_step, connections_from, connections_or, connections, invoked}
use Rattle.grammar_laws.proofs.Steps.{bind_some, some_is, after_is, named_is}
use Rattle.grammar_laws.proofs.Sound.{path_from_is}
use Rattle.grammar_laws.proofs.ArgumentsSound.{InsideIs, printed}
use Rattle.grammar_laws.proofs.Fronts.{no_point}
use Rattle.grammar_laws.proofs.Again.{path_again, expression_again}
use Rattle.grammar_laws.proofs.DeclarationAgain.{after_close, after_semicolon, step_named}

-- how a call's symbols stand before others
pub invoke_shape : (n : Named) (at : ℕ) (cs : List ConnectionData) (rest : List Symbol) → print_stmt (invoke n at cs) ++ rest ≡ name_symbol n ∷ opening at ∷ (print_connections cs ++ mark Close ∷ mark Semicolon ∷ rest)
invoke_shape n at cs rest = ap (λ (x : List Symbol). name_symbol n ∷ opening at ∷ x) (append_assoc (print_connections cs) (mark Close ∷ mark Semicolon ∷ []) rest)

-- ---- what is read

target_is : (turns : ℕ) (ts : List Symbol) (y : PathData × List Symbol) → target turns ts ≡ Some y → ts ≡ print_path y.0 ++ y.1
unfolding target
target_is turns ts y e =
    let a = bind_some (named ts) (λ (n : Named × List Symbol). path_from turns n.0 n.1) y e in
    named_is ts a.0.0 a.0.1 a.1 ∙ path_from_is turns a.0.0 a.0.1 y a.2

fits_input : (d : ℕ) (n : Named) (ts : List Symbol) (e : Tree) (rest : List Symbol) → InsideIs d ts e rest → ConnectionFits (input n e) d
fits_input zero n ts e rest i = absurd i
fits_input (suc d) n ts e rest i = i.1

module _ (turns d : ℕ) (inner : Read Tree) (sound : (ts : List Symbol) (t : Tree) (rest : List Symbol) → inner ts ≡ Some (t, rest) → InsideIs d ts t rest) where
  abbrev ConnectionIs : List Symbol → ConnectionData × List Symbol → Type 0
  ConnectionIs ts y = (ts ≡ print_connection y.0 ++ y.1) × ConnectionFits y.0 d

  connected_go : (n : Named) (ts : List Symbol) (y : ConnectionData × List Symbol) (o : Option (List Symbol)) → after Assign ts ≡ o → connection_or turns inner n ts o ≡ Some y → ConnectionIs (name_symbol n ∷ ts) y
  connected_go n ts y (Some r) is e =
      let a = bind_some (inner r) (λ (v : Tree × List Symbol). Some (input n v.0, v.1)) y e in
      let i = sound r a.0.0 a.0.1 a.1 in
      let parts = ap (λ (x : List Symbol). name_symbol n ∷ x) (after_is Assign ts r is ∙ ap (λ (x : List Symbol). mark Assign ∷ x) (printed d r a.0.0 a.0.1 i)) in
      let whole : ConnectionIs (name_symbol n ∷ ts) (input n a.0.0, a.0.1) = (parts, fits_input d n r a.0.0 a.0.1 i) in
      subst (ConnectionIs (name_symbol n ∷ ts)) (some_is (input n a.0.0, a.0.1) y a.2) whole
  connected_go n ts y None is e =
      let a = bind_some (after Arrow ts) (λ (r : List Symbol). target turns r >>= λ (p : PathData × List Symbol). Some (output n p.0, p.1)) y e in
      let b = bind_some (target turns a.0) (λ (p : PathData × List Symbol). Some (output n p.0, p.1)) y a.2 in
      let parts = ap (λ (x : List Symbol). name_symbol n ∷ x) (after_is Arrow ts a.0 a.1 ∙ ap (λ (x : List Symbol). mark Arrow ∷ x) (target_is turns a.0 b.0 b.1)) in
      let whole : ConnectionIs (name_symbol n ∷ ts) (output n b.0.0, b.0.1) = (parts, tt) in
      subst (ConnectionIs (name_symbol n ∷ ts)) (some_is (output n b.0.0, b.0.1) y b.2) whole

  connection_is : (ts : List Symbol) (y : ConnectionData × List Symbol) → connection turns inner ts ≡ Some y → ConnectionIs ts y
  unfolding connection connected
  connection_is ts y e =
      let a = bind_some (named ts) (λ (n : Named × List Symbol). connection_or turns inner n.0 n.1 (after Assign n.1)) y e in
      let c = connected_go a.0.0 a.0.1 y (after Assign a.0.1) refl a.2 in
      (named_is ts a.0.0 a.0.1 a.1 ∙ c.0, c.1)

  -- connections behind those that were read, of which there is at least one
  abbrev ConnectionsAre : List ConnectionData → List Symbol → List ConnectionData × List Symbol → Type 0
  ConnectionsAre before ts y =
      (c : ConnectionData) × (more : List ConnectionData) × (y.0 ≡ before ++ c ∷ more) × (ts ≡ print_connection c ++ (print_more_connections more ++ y.1)) × ConnectionFits c d × ConnectionsFit more d

  connections_go : (n : ℕ) (before : List ConnectionData) (c : ConnectionData) (ts next : List Symbol) (y : List ConnectionData × List Symbol) (o : Option (List Symbol)) → ts ≡ print_connection c ++ next → ConnectionFits c d → after Comma next ≡ o
      → connections_step turns inner (connections_from turns inner n) (before ++ c ∷ []) next o ≡ Some y
      → ((before : List ConnectionData) (ts : List Symbol) → connections_from turns inner n before ts ≡ Some y → ConnectionsAre before ts y) → ConnectionsAre before ts y
  connections_go n before c ts next y None parts fits is e below =
      let whole : ConnectionsAre before ts (before ++ c ∷ [], next) = (c, [], refl, parts, fits, tt) in
      subst (ConnectionsAre before ts) (some_is (before ++ c ∷ [], next) y e) whole
  connections_go n before c ts next y (Some r) parts fits is e below =
      let b = below (before ++ c ∷ []) r e in (
        c,
        b.0 ∷ b.1,
        b.2 ∙ append_assoc before (c ∷ []) (b.0 ∷ b.1),
        parts ∙ ap (λ (x : List Symbol). print_connection c ++ x) (after_is Comma next r is ∙ ap (λ (x : List Symbol). mark Comma ∷ x) (b.3 ∙ sym (append_assoc (print_connection b.0) (print_more_connections b.1) y.1))),
        fits,
        (b.4, b.5),
      )

  connections_are : (n : ℕ) (before : List ConnectionData) (ts : List Symbol) (y : List ConnectionData × List Symbol) → connections_from turns inner n before ts ≡ Some y → ConnectionsAre before ts y
  unfolding connections_from
  connections_are zero before ts y e = absurd cc
  connections_are (suc n) before ts y e =
      let a = bind_some (connection turns inner ts) (λ (c : ConnectionData × List Symbol). connections_step turns inner (connections_from turns inner n) (before ++ c.0 ∷ []) c.1 (after Comma c.1)) y e in
      let c = connection_is ts a.0 a.1 in
      connections_go n before a.0.0 ts a.0.1 y (after Comma a.0.1) c.0 c.1 refl a.2 (λ before ts e. connections_are n before ts y e)

  -- connections and the parenthesis behind them
  abbrev AllAre : List Symbol → List ConnectionData × List Symbol → Type 0
  AllAre ts y = (ts ≡ print_connections y.0 ++ mark Close ∷ y.1) × ConnectionsFit y.0 d

  connections_or_are : (ts : List Symbol) (y : List ConnectionData × List Symbol) (o : Option (List Symbol)) → after Close ts ≡ o → connections_or turns inner ts o ≡ Some y → AllAre ts y
  connections_or_are ts y (Some r) is e =
      let whole : AllAre ts ([], r) = (after_is Close ts r is, tt) in
      subst (AllAre ts) (some_is ([], r) y e) whole
  connections_or_are ts y None is e =
      let a = bind_some (connections_from turns inner turns [] ts) (λ (cs : List ConnectionData × List Symbol). after Close cs.1 >>= λ (r : List Symbol). Some (cs.0, r)) y e in
      let b = bind_some (after Close a.0.1) (λ (r : List Symbol). Some (a.0.0, r)) y a.2 in
      let f = connections_are turns [] ts a.0 a.1 in
      let parts : ts ≡ print_connections (f.0 ∷ f.1) ++ mark Close ∷ b.0 =
      f.3 ∙ ap (λ (x : List Symbol). print_connection f.0 ++ (print_more_connections f.1 ++ x)) (after_is Close a.0.1 b.0 b.1) ∙ sym (append_assoc (print_connection f.0) (print_more_connections f.1) (mark Close ∷ b.0)) in
      let whole : AllAre ts (f.0 ∷ f.1, b.0) = (parts, (f.4, f.5)) in
      subst (AllAre ts) (ap (λ (x : List ConnectionData). (x, b.0)) (sym f.2) ∙ some_is (a.0.0, b.0) y b.2) whole

  abbrev InvokedIs : Named → ℕ → List Symbol → Stmt × List Symbol → Type 0
  InvokedIs n at ts s = (name_symbol n ∷ opening at ∷ ts ≡ print_stmt s.0 ++ s.1) × StmtFits s.0 d

  -- a call that is read
  pub invoked_is : (n : Named) (at : ℕ) (ts : List Symbol) (s : Stmt × List Symbol) → invoked turns inner n at ts ≡ Some s → InvokedIs n at ts s
  unfolding invoked connections
  invoked_is n at ts s e =
      let a = bind_some (connections turns inner ts) (λ (cs : List ConnectionData × List Symbol). after Semicolon cs.1 >>= λ (r : List Symbol). Some (invoke n at cs.0, r)) s e in
      let b = bind_some (after Semicolon a.0.1) (λ (r : List Symbol). Some (invoke n at a.0.0, r)) s a.2 in
      let f = connections_or_are ts a.0 (after Close ts) refl a.1 in
      let parts = ap (λ (x : List Symbol). name_symbol n ∷ opening at ∷ x) (f.0 ∙ ap (λ (x : List Symbol). print_connections a.0.0 ++ mark Close ∷ x) (after_is Semicolon a.0.1 b.0 b.1)) in
      let whole : InvokedIs n at ts (invoke n at a.0.0, b.0) = (parts ∙ sym (invoke_shape n at a.0.0 b.0), f.1) in
      subst (InvokedIs n at ts) (some_is (invoke n at a.0.0, b.0) s b.2) whole

-- ---- what is printed

after_assign : (rest : List Symbol) → after Assign (mark Assign ∷ rest) ≡ Some rest
unfolding after same_mark
after_assign rest = refl

not_assigned : (rest : List Symbol) → after Assign (mark Arrow ∷ rest) ≡ None
unfolding after same_mark
not_assigned rest = refl

after_arrow : (rest : List Symbol) → after Arrow (mark Arrow ∷ rest) ≡ Some rest
unfolding after same_mark
after_arrow rest = refl

after_comma : (rest : List Symbol) → after Comma (mark Comma ∷ rest) ≡ Some rest
unfolding after same_mark
after_comma rest = refl

no_comma : (rest : List Symbol) → after Comma (mark Close ∷ rest) ≡ None
unfolding after same_mark
no_comma rest = refl

-- what stands behind a connection does not go on with it
connection_ends : (cs : List ConnectionData) (rest : List Symbol) → goes_on 7 (print_more_connections cs ++ mark Close ∷ rest) ≡ false
unfolding same_mark
connection_ends [] rest = refl
connection_ends (c ∷ cs) rest = refl

-- no connection begins with `)`
not_closed : (c : ConnectionData) (rest : List Symbol) → after Close (print_connection c ++ rest) ≡ None
unfolding after
not_closed (input n e) rest = refl
not_closed (output n p) rest = refl

target_again : (turns : ℕ) (p : PathData) (rest : List Symbol) → goes_on 7 rest ≡ false → length (print_path p ++ rest) ≤ turns → target turns (print_path p ++ rest) ≡ Some (p, rest)
unfolding target
target_again turns p rest h len = rw (step_named p.first (print_members p.members ++ rest)) (path_again turns p rest (no_point 7 rest h) len)

module _ (turns : ℕ) where
  value_again : (d : ℕ) (n : Named) (e : Tree) (rest : List Symbol) → ConnectionFits (input n e) d → goes_on 7 rest ≡ false → length (print e ++ rest) ≤ turns → inside turns d (print e ++ rest) ≡ Some (e, rest)
  unfolding inside expression
  value_again zero n e rest fits h len = absurd fits
  value_again (suc d) n e rest fits h len = expression_again turns e d rest fits h len

  connection_again : (d : ℕ) (c : ConnectionData) (rest : List Symbol) → ConnectionFits c d → goes_on 7 rest ≡ false → length (print_connection c ++ rest) ≤ turns → connection turns (inside turns d) (print_connection c ++ rest) ≡ Some (c, rest)
  unfolding connection connected
  connection_again d (input n e) rest fits h len = rw (step_named n (mark Assign ∷ (print e ++ rest)), after_assign (print e ++ rest), value_again d n e rest fits h (omega arith)) refl
  connection_again d (output n p) rest fits h len =
      rw (step_named n (mark Arrow ∷ (print_path p ++ rest)), not_assigned (print_path p ++ rest), after_arrow (print_path p ++ rest), target_again turns p rest h (omega arith)) refl

  connections_behind : (d n : ℕ) (before : List ConnectionData) (c : ConnectionData) (more : List ConnectionData) (rest : List Symbol) → ConnectionFits c d → ConnectionsFit more d → length more < n
      → length (print_connection c ++ (print_more_connections more ++ mark Close ∷ rest)) ≤ turns
      → connections_from turns (inside turns d) n before (print_connection c ++ (print_more_connections more ++ mark Close ∷ rest)) ≡ Some (before ++ c ∷ more, mark Close ∷ rest)
  unfolding connections_from
  connections_behind d zero before c more rest is are lt len = absurd (omega arith)
  connections_behind d (suc n) before c [] rest is are lt len = rw (connection_again d c (mark Close ∷ rest) is (connection_ends [] rest) len, no_comma rest) refl
  connections_behind d (suc n) before c (k ∷ ks) rest is are lt len =
      let tail : List Symbol = print_more_connections ks ++ mark Close ∷ rest in
      let next : List Symbol = print_connection k ++ tail in
      let shape : print_more_connections (k ∷ ks) ++ mark Close ∷ rest ≡ mark Comma ∷ next = ap (λ (x : List Symbol). mark Comma ∷ x) (append_assoc (print_connection k) (print_more_connections ks) (mark Close ∷ rest)) in
      let shorter : length next ≤ turns = omega (arith, ap length shape, length-append (print_connection c) (print_more_connections (k ∷ ks) ++ mark Close ∷ rest)) in
      rw (connection_again d c (print_more_connections (k ∷ ks) ++ mark Close ∷ rest) is (connection_ends (k ∷ ks) rest) len, shape, after_comma next)
      (connections_behind d n (before ++ c ∷ []) k ks rest are.0 are.1 (omega arith) shorter ∙ ap (λ (x : List ConnectionData). Some (x, mark Close ∷ rest)) (append_assoc before (c ∷ []) (k ∷ ks)))

  length_more : (cs : List ConnectionData) → length cs ≤ length (print_more_connections cs)
  length_more [] = omega arith
  length_more (c ∷ cs) = omega (arith, length_more cs, length-append (print_connection c) (print_more_connections cs))

  connections_again : (d : ℕ) (cs : List ConnectionData) (rest : List Symbol) → ConnectionsFit cs d → length (print_connections cs ++ mark Close ∷ rest) ≤ turns → connections turns (inside turns d) (print_connections cs ++ mark Close ∷ rest) ≡ Some (cs, rest)
  unfolding connections
  connections_again d [] rest fits len = rw (after_close rest) refl
  connections_again d (c ∷ cs) rest fits len =
      let tail : List Symbol = print_more_connections cs ++ mark Close ∷ rest in
      let shape : print_connections (c ∷ cs) ++ mark Close ∷ rest ≡ print_connection c ++ tail = append_assoc (print_connection c) (print_more_connections cs) (mark Close ∷ rest) in
      let longer : length (print_connection c ++ tail) ≤ turns = omega (arith, ap length shape) in
      let enough : length cs < turns = omega (arith, ap length shape, length-append (print_connection c) tail, length-append (print_more_connections cs) (mark Close ∷ rest), length_more cs) in
      rw (shape, not_closed c tail, connections_behind d turns [] c cs rest fits.0 fits.1 enough longer, after_close rest) refl

  -- what a call prints is read as that call
  pub invoked_again : (d : ℕ) (n : Named) (at : ℕ) (cs : List ConnectionData) (rest : List Symbol) → ConnectionsFit cs d → length (print_connections cs ++ mark Close ∷ mark Semicolon ∷ rest) ≤ turns
      → invoked turns (inside turns d) n at (print_connections cs ++ mark Close ∷ mark Semicolon ∷ rest) ≡ Some (invoke n at cs, rest)
  unfolding invoked
  invoked_again d n at cs rest fits len = rw (connections_again d cs (mark Semicolon ∷ rest) fits len, after_semicolon rest) refl
