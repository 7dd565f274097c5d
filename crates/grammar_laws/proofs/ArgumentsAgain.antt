-- What fitting arguments print is read as those arguments.
use Rattle.std.proofs.Common.{◌≡◌, ℕ, zero, suc, ◌≤◌, Bool, true, false, List, [], ◌∷◌, ◌++◌, length, Option, Some, None, is_some, refl, sym, ap, subst, ◌∙◌, append_assoc, arith, length-append}
use Rattle.source_tree.specs.declared.token.Mark.TheVariants.{Assign, Close, Comma}
use Rattle.plc_types.specs.declared.operator.UnaryOperator.TheVariants as signs
use Rattle.source_tree.specs.declared.syntax.Literal.TheVariants as literals
use Rattle.source_tree.specs.Syntax.{Symbol, mark, Named, Tree, literal, path, enumerator, paren, unary, chain, call, Links, no_links, link, Arguments, no_arguments, argument}
use Rattle.source_tree.specs.Prints.{print_members, print_argument_name, print, print_links, print_arguments, print_more_arguments}
use Rattle.source_tree.specs.Levels.{are_named}
use Rattle.grammar.specs.Marks.{same_mark}
use Rattle.grammar.specs.Ends.{goes_on}
use Rattle.grammar.specs.Fits.{Fits, ArgumentsFit}
use Rattle.grammar.specs.Reading.{after, named}
use Rattle.grammar.specs.Expressions.{is_by_name, argument_name, add_argument, arguments_from, arguments, inside}
use Rattle.grammar_laws.proofs.ArgumentsSound.{join_arguments, join_arguments-none, join_arguments-add, argument_shape}

-- ---- single symbols

pub step_close : (ts : List Symbol) → after Close (mark Close ∷ ts) ≡ Some ts
unfolding after same_mark
step_close ts = refl

step_comma : (ts : List Symbol) → after Comma (mark Comma ∷ ts) ≡ Some ts
unfolding after same_mark
step_comma ts = refl

no_comma : (ts : List Symbol) → after Comma (mark Close ∷ ts) ≡ None
unfolding after same_mark
no_comma ts = refl

argument_name_again : (by_name : Bool) (n : Option Named) (rest : List Symbol) → is_some n ≡ by_name → argument_name by_name (print_argument_name n ++ rest) ≡ Some (n, rest)
unfolding argument_name named after same_mark
argument_name_again true (Some n) rest is = refl
argument_name_again true None rest is = absurd cc
argument_name_again false (Some n) rest is = absurd cc
argument_name_again false None rest is = refl

-- what stands behind the value of an argument does not go on with it
value_ends : (args : Arguments) (rest : List Symbol) → goes_on 7 (print_more_arguments args ++ mark Close ∷ rest) ≡ false
unfolding same_mark
value_ends no_arguments rest = refl
value_ends (argument n e args) rest = refl

not_assigned : (args : Arguments) (rest : List Symbol) → after Assign (print_more_arguments args ++ mark Close ∷ rest) ≡ None
unfolding after same_mark
not_assigned no_arguments rest = refl
not_assigned (argument n e args) rest = refl

-- ---- what an expression begins with

-- no expression begins with `)`
not_closed : (t : Tree) (rest : List Symbol) → after Close (print t ++ rest) ≡ None
unfolding after
not_closed (literal (literals.Number value at)) rest = refl
not_closed (literal (literals.Truth value at)) rest = refl
not_closed (literal (literals.TypedNumber kind at m value value_at)) rest = refl
not_closed (literal (literals.TypedTruth kind at value value_at)) rest = refl
not_closed (path p) rest = refl
not_closed (enumerator n v) rest = refl
not_closed (paren at e) rest = refl
not_closed (unary signs.Minus at e) rest = refl
not_closed (unary signs.Not at e) rest = refl
not_closed (chain e ls) rest = ap (after Close) (append_assoc (print e) (print_links ls) rest) ∙ not_closed e (print_links ls ++ rest)
not_closed (call n at args) rest = refl

links_unassigned : (ls : Links) (rest : List Symbol) → after Assign rest ≡ None → after Assign (print_links ls ++ rest) ≡ None
unfolding after
links_unassigned no_links rest h = h
links_unassigned (link o at e ls) rest h = refl

path_not_named : (n : Named) (ns : List Named) (rest : List Symbol) → after Assign rest ≡ None → is_some (after Assign (print_members ns ++ rest)) ≡ false
unfolding after same_mark
path_not_named n [] rest h = ap is_some h
path_not_named n (m ∷ ns) rest h = refl

-- what an expression prints begins no argument by name
not_named : (t : Tree) (rest : List Symbol) → after Assign rest ≡ None → is_by_name (print t ++ rest) ≡ false
unfolding after same_mark
not_named (literal (literals.Number value at)) rest h = refl
not_named (literal (literals.Truth value at)) rest h = refl
not_named (literal (literals.TypedNumber kind at m value value_at)) rest h = refl
not_named (literal (literals.TypedTruth kind at value value_at)) rest h = refl
not_named (path p) rest h = path_not_named p.first p.members rest h
not_named (enumerator n v) rest h = refl
not_named (paren at e) rest h = refl
not_named (unary signs.Minus at e) rest h = refl
not_named (unary signs.Not at e) rest h = refl
not_named (chain e ls) rest h = ap is_by_name (append_assoc (print e) (print_links ls) rest) ∙ not_named e (print_links ls ++ rest) (links_unassigned ls rest h)
not_named (call n at args) rest h = refl

first_not_closed : (n : Option Named) (e : Tree) (rest : List Symbol) → after Close (print_argument_name n ++ (print e ++ rest)) ≡ None
unfolding after
first_not_closed None e rest = not_closed e rest
first_not_closed (Some n) e rest = refl

first_by_name : (n : Option Named) (e : Tree) (rest : List Symbol) → after Assign rest ≡ None → is_by_name (print_argument_name n ++ (print e ++ rest)) ≡ is_some n
unfolding after same_mark
first_by_name None e rest h = not_named e rest h
first_by_name (Some n) e rest h = refl

-- ---- the round trip

abbrev count : Arguments → ℕ
count no_arguments = 0
count (argument n e args) = suc (count args)

count-le : (args : Arguments) → count args ≤ length (print_more_arguments args)
count-le no_arguments = omega arith
count-le (argument n e args) =
    let h = count-le args in omega (arith, length-append (print_argument_name n ++ print e) (print_more_arguments args), length-append (print_argument_name n) (print e))

module _ (turns : ℕ) where
  -- what a tree prints is read inside parentheses
  abbrev pub InsideAgain : Tree → Type 0
  InsideAgain e = (d : ℕ) (rest : List Symbol) → Fits e d → goes_on 7 rest ≡ false → length (print e ++ rest) ≤ turns → inside turns (suc d) (print e ++ rest) ≡ Some (e, rest)

  -- arguments behind a first one
  unfoldable pub ArgumentsAgain : Arguments → Type 0
  ArgumentsAgain args = (by_name : Bool) (n : Option Named) (e : Tree) (d fuel : ℕ) (before : Arguments) (rest : List Symbol) → InsideAgain e → is_some n ≡ by_name → Fits e d → ArgumentsFit by_name args (suc d) → suc (count args) ≤ fuel
      → length (print_argument_name n ++ (print e ++ (print_more_arguments args ++ mark Close ∷ rest))) ≤ turns
      → arguments_from turns (inside turns (suc d)) by_name fuel before (print_argument_name n ++ (print e ++ (print_more_arguments args ++ mark Close ∷ rest))) ≡ Some (join_arguments before (argument n e args), mark Close ∷ rest)

  pub arguments_none : ArgumentsAgain no_arguments
  unfolding arguments_from ArgumentsAgain
  arguments_none by_name n e d zero before rest a is fits others le len = absurd (omega arith)
  arguments_none by_name n e d (suc fuel) before rest a is fits others le len =
      let shorter : length (print e ++ mark Close ∷ rest) ≤ turns = omega (arith, length-append (print_argument_name n) (print e ++ mark Close ∷ rest)) in
      rw (argument_name_again by_name n (print e ++ mark Close ∷ rest) is, a d (mark Close ∷ rest) fits (value_ends no_arguments rest) shorter, no_comma)
      (ap (λ (x : Arguments). Some (x, mark Close ∷ rest)) (sym (join_arguments-none (add_argument before n e)) ∙ join_arguments-add before n e no_arguments))

  pub arguments_more : (m : Option Named) (f : Tree) (args : Arguments) → InsideAgain f → ArgumentsAgain args → ArgumentsAgain (argument m f args)
  unfolding arguments_from ArgumentsAgain
  arguments_more m f args af b by_name n e d zero before rest a is fits others le len = absurd (omega arith)
  arguments_more m f args af b by_name n e d (suc fuel) before rest a is fits others le len =
      let more : List Symbol = print_argument_name m ++ (print f ++ (print_more_arguments args ++ mark Close ∷ rest)) in
      let shape : print_more_arguments (argument m f args) ++ mark Close ∷ rest ≡ mark Comma ∷ more = ap (λ (ts : List Symbol). mark Comma ∷ ts) (argument_shape m f args (mark Close ∷ rest)) in
      let len' : length (print_argument_name n ++ (print e ++ mark Comma ∷ more)) ≤ turns = subst (λ (ts : List Symbol). length (print_argument_name n ++ (print e ++ ts)) ≤ turns) shape len in
      let shorter : length (print e ++ mark Comma ∷ more) ≤ turns = omega (arith, length-append (print_argument_name n) (print e ++ mark Comma ∷ more)) in
      let least : length more ≤ turns = omega (arith, length-append (print e) (mark Comma ∷ more)) in
      let ends : goes_on 7 (mark Comma ∷ more) ≡ false = ap (goes_on 7) (sym shape) ∙ value_ends (argument m f args) rest in
      rw (shape, argument_name_again by_name n (print e ++ mark Comma ∷ more) is, a d (mark Comma ∷ more) fits ends shorter, step_comma)
      (b by_name m f d fuel (add_argument before n e) rest af others.0 others.1 others.2 (omega arith) least ∙ ap (λ (x : Arguments). Some (x, mark Close ∷ rest)) (join_arguments-add before n e (argument m f args)))

  -- arguments and the parenthesis behind them
  unfoldable pub CallAgain : Arguments → Type 0
  CallAgain args = (d : ℕ) (rest : List Symbol) → ArgumentsFit (are_named args) args d → length (print_arguments args ++ mark Close ∷ rest) ≤ turns
      → arguments turns (inside turns d) (print_arguments args ++ mark Close ∷ rest) ≡ Some (args, rest)

  pub call_none : CallAgain no_arguments
  unfolding arguments after same_mark CallAgain
  call_none d rest fits len = refl

  pub call_some : (n : Option Named) (e : Tree) (args : Arguments) → InsideAgain e → ArgumentsAgain args → CallAgain (argument n e args)
  unfolding arguments ArgumentsAgain CallAgain
  call_some n e args a b zero rest fits len = absurd fits
  call_some n e args a b (suc d) rest fits len =
      let more : List Symbol = print_more_arguments args ++ mark Close ∷ rest in
      let shape : print_arguments (argument n e args) ++ mark Close ∷ rest ≡ print_argument_name n ++ (print e ++ (print_more_arguments args ++ mark Close ∷ rest)) = argument_shape n e args (mark Close ∷ rest) in
      let longer : length (print_argument_name n ++ (print e ++ (print_more_arguments args ++ mark Close ∷ rest))) ≤ turns = omega (arith, ap length shape) in
      let l1 = length-append (print_argument_name n) (print e ++ (print_more_arguments args ++ mark Close ∷ rest)) in
      let l2 = length-append (print e) (print_more_arguments args ++ mark Close ∷ rest) in
      let l3 = length-append (print_more_arguments args) (mark Close ∷ rest) in
      let enough : suc (count args) ≤ turns = omega (arith, count-le args, l1, l2, l3) in
      rw (
        shape,
        first_not_closed n e (print_more_arguments args ++ mark Close ∷ rest),
        first_by_name n e (print_more_arguments args ++ mark Close ∷ rest) (not_assigned args rest),
        b (is_some n) n e d turns no_arguments rest a refl fits.1 fits.2 enough longer,
        step_close,
      ) refl
