-- Arguments that are read are fitting ones that print the symbols that were taken.
use Rattle.std.proofs.Common.{◌≡◌, ℕ, zero, suc, Bool, true, false, List, ◌∷◌, ◌++◌, Option, Some, None, is_some, refl, sym, ap, subst, ◌∙◌, append_assoc}
use Rattle.source_tree.specs.declared.token.Mark.TheVariants.{Assign, Close, Comma}
use Rattle.source_tree.specs.Syntax.{Symbol, mark, Named, Tree, paren, Arguments, no_arguments, argument}
use Rattle.source_tree.specs.Prints.{name_symbol, print_argument_name, print, print_arguments, print_more_arguments}
use Rattle.source_tree.specs.Levels.{are_named}
use Rattle.grammar.specs.Reading.{Read, ◌>>=◌, after, named}
use Rattle.grammar.specs.Fits.{Fits, ArgumentsFit}
use Rattle.grammar.specs.Expressions.{is_by_name, argument_name, add_argument, arguments_step, arguments_from, arguments_or, arguments}
use Rattle.grammar_laws.proofs.Steps.{bind_some, some_is, after_is, named_is}

-- ---- what is read inside parentheses

abbrev pub InsideIs : ℕ → List Symbol → Tree → List Symbol → Type 0
InsideIs zero ts t rest = ⊥
InsideIs (suc d) ts t rest = (ts ≡ print t ++ rest) × Fits t d

pub printed : (d : ℕ) (ts : List Symbol) (t : Tree) (rest : List Symbol) → InsideIs d ts t rest → ts ≡ print t ++ rest
printed zero ts t rest i = absurd i
printed (suc d) ts t rest i = i.0

pub fits_paren : (d at : ℕ) (ts : List Symbol) (t : Tree) (rest : List Symbol) → InsideIs d ts t rest → Fits (paren at t) d
fits_paren zero at ts t rest i = absurd i
fits_paren (suc d) at ts t rest i = i.1

fits_argument : (d : ℕ) (by_name : Bool) (n : Option Named) (ts : List Symbol) (e : Tree) (rest : List Symbol) (args : Arguments) → is_some n ≡ by_name → InsideIs d ts e rest → ArgumentsFit by_name args d → ArgumentsFit by_name (argument n e args) d
fits_argument zero by_name n ts e rest args is i fits = absurd i
fits_argument (suc d) by_name n ts e rest args is i fits = (is, i.1, fits)

-- the first argument is of the form of all
first_form : (d : ℕ) (by_name : Bool) (n : Option Named) (e : Tree) (args : Arguments) → ArgumentsFit by_name (argument n e args) d → is_some n ≡ by_name
first_form zero by_name n e args fits = absurd fits
first_form (suc d) by_name n e args fits = fits.0

-- ---- arguments behind arguments

abbrev pub join_arguments : Arguments → Arguments → Arguments
join_arguments no_arguments ys = ys
join_arguments (argument n e xs) ys = argument n e (join_arguments xs ys)

pub join_arguments-none : (xs : Arguments) → join_arguments xs no_arguments ≡ xs
join_arguments-none no_arguments = refl
join_arguments-none (argument n e xs) = ap (argument n e) (join_arguments-none xs)

pub join_arguments-add : (xs : Arguments) (n : Option Named) (e : Tree) (ys : Arguments) → join_arguments (add_argument xs n e) ys ≡ join_arguments xs (argument n e ys)
join_arguments-add no_arguments n e ys = refl
join_arguments-add (argument m f xs) n e ys = ap (argument m f) (join_arguments-add xs n e ys)

pub argument_shape : (n : Option Named) (e : Tree) (args : Arguments) (rest : List Symbol)
    → (print_argument_name n ++ print e ++ print_more_arguments args) ++ rest ≡ print_argument_name n ++ (print e ++ (print_more_arguments args ++ rest))
argument_shape n e args rest =
    append_assoc (print_argument_name n ++ print e) (print_more_arguments args) rest ∙ append_assoc (print_argument_name n) (print e) (print_more_arguments args ++ rest)

abbrev NameIs : Bool → List Symbol → Option Named × List Symbol → Type 0
NameIs by_name ts x = (is_some x.0 ≡ by_name) × (ts ≡ print_argument_name x.0 ++ x.1)

argument_name_is : (by_name : Bool) (ts : List Symbol) (found : Option Named × List Symbol) → argument_name by_name ts ≡ Some found → NameIs by_name ts found
unfolding argument_name
argument_name_is true ts found e =
    let a = bind_some (named ts) (λ (n : Named × List Symbol). after Assign n.1 >>= λ (rest : List Symbol). Some (Some n.0, rest)) found e in
    let b = bind_some (after Assign a.0.1) (λ (rest : List Symbol). Some (Some a.0.0, rest)) found a.2 in
    let all : ts ≡ name_symbol a.0.0 ∷ mark Assign ∷ b.0 = named_is ts a.0.0 a.0.1 a.1 ∙ ap (λ (r : List Symbol). name_symbol a.0.0 ∷ r) (after_is Assign a.0.1 b.0 b.1) in
    subst (NameIs true ts) (some_is (Some a.0.0, b.0) found b.2) (refl, all)
argument_name_is false ts found e = subst (NameIs false ts) (some_is (None, ts) found e) (refl, refl)

module _ (turns d : ℕ) (inner : Read Tree) (sound : (ts : List Symbol) (t : Tree) (rest : List Symbol) → inner ts ≡ Some (t, rest) → InsideIs d ts t rest) where
  record ArgumentsAre (by_name : Bool) (before : Arguments) (ts : List Symbol) (all : Arguments) (rest : List Symbol) : Type 0 where
    n : Option Named
    e : Tree
    others : Arguments
    joined : all ≡ join_arguments before (argument n e others)
    parts : ts ≡ print_argument_name n ++ (print e ++ (print_more_arguments others ++ rest))
    fits : ArgumentsFit by_name (argument n e others) d

  arguments_go : (by_name : Bool) (fuel : ℕ) (before : Arguments) (n : Option Named) (e : Tree) (ts next : List Symbol) (all : Arguments) (rest : List Symbol) (o : Option (List Symbol)) → ts ≡ print_argument_name n ++ (print e ++ next)
      → ((args : Arguments) → ArgumentsFit by_name args d → ArgumentsFit by_name (argument n e args) d)
      → after Comma next ≡ o → arguments_step turns (arguments_from turns inner by_name fuel) (add_argument before n e) next o ≡ Some (all, rest)
      → ((before : Arguments) (ts : List Symbol) → arguments_from turns inner by_name fuel before ts ≡ Some (all, rest) → ArgumentsAre by_name before ts all rest) → ArgumentsAre by_name before ts all rest
  arguments_go by_name fuel before n e ts next all rest None parts fit is eq below =
      let p = some_is (add_argument before n e, next) (all, rest) eq in record {
        n = n;
        e = e;
        others = no_arguments;
        joined = sym (ap (λ (x : Arguments × List Symbol). x.0) p) ∙ sym (join_arguments-none (add_argument before n e)) ∙ join_arguments-add before n e no_arguments;
        parts = parts ∙ ap (λ (x : Arguments × List Symbol). print_argument_name n ++ (print e ++ x.1)) p;
        fits = fit no_arguments tt;
      }
  arguments_go by_name fuel before n e ts next all rest (Some ahead) parts fit is eq below =
      let b = below (add_argument before n e) ahead eq in record {
        n = n;
        e = e;
        others = argument b.n b.e b.others;
        joined = b.joined ∙ join_arguments-add before n e (argument b.n b.e b.others);
        parts = parts
            ∙ ap (λ (r : List Symbol). print_argument_name n ++ (print e ++ r)) (after_is Comma next ahead is ∙ ap (λ (r : List Symbol). mark Comma ∷ r) (b.parts ∙ sym (argument_shape b.n b.e b.others rest)));
        fits = fit (argument b.n b.e b.others) b.fits;
      }

  arguments_from_are : (by_name : Bool) (fuel : ℕ) (before : Arguments) (ts : List Symbol) (all : Arguments) (rest : List Symbol) → arguments_from turns inner by_name fuel before ts ≡ Some (all, rest) → ArgumentsAre by_name before ts all rest
  unfolding arguments_from
  arguments_from_are by_name zero before ts all rest e = absurd cc
  arguments_from_are by_name (suc n) before ts all rest e =
      let a = bind_some (argument_name by_name ts)
      (λ (m : Option Named × List Symbol). inner m.1 >>= λ (e : Tree × List Symbol). arguments_step turns (arguments_from turns inner by_name n) (add_argument before m.0 e.0) e.1 (after Comma e.1)) (all, rest) e in
      let b = bind_some (inner a.0.1) (λ (e : Tree × List Symbol). arguments_step turns (arguments_from turns inner by_name n) (add_argument before a.0.0 e.0) e.1 (after Comma e.1)) (all, rest) a.2 in
      let p = argument_name_is by_name ts a.0 a.1 in
      let i = sound a.0.1 b.0.0 b.0.1 b.1 in
      let parts : ts ≡ print_argument_name a.0.0 ++ (print b.0.0 ++ b.0.1) = p.1 ∙ ap (λ (r : List Symbol). print_argument_name a.0.0 ++ r) (printed d a.0.1 b.0.0 b.0.1 i) in
      arguments_go by_name n before a.0.0 b.0.0 ts b.0.1 all rest (after Comma b.0.1) parts (λ args fits. fits_argument d by_name a.0.0 a.0.1 b.0.0 b.0.1 args p.0 i fits) refl b.2
      (λ before ts e. arguments_from_are by_name n before ts all rest e)

  -- arguments and the parenthesis behind them
  abbrev pub AreArguments : List Symbol → Arguments × List Symbol → Type 0
  AreArguments ts x = (ts ≡ print_arguments x.0 ++ mark Close ∷ x.1) × ArgumentsFit (are_named x.0) x.0 d

  arguments_or_are : (ts : List Symbol) (found : Arguments × List Symbol) (o : Option (List Symbol)) → after Close ts ≡ o → arguments_or turns inner ts o ≡ Some found → AreArguments ts found
  arguments_or_are ts found (Some next) is e = subst (AreArguments ts) (some_is (no_arguments, next) found e) (after_is Close ts next is, tt)
  arguments_or_are ts found None is e =
      let a = bind_some (arguments_from turns inner (is_by_name ts) turns no_arguments ts) (λ (args : Arguments × List Symbol). after Close args.1 >>= λ (rest : List Symbol). Some (args.0, rest)) found e in
      let b = bind_some (after Close a.0.1) (λ (rest : List Symbol). Some (a.0.0, rest)) found a.2 in
      let f = arguments_from_are (is_by_name ts) turns no_arguments ts a.0.0 a.0.1 a.1 in
      let all : Arguments = argument f.n f.e f.others in
      let parts : ts ≡ print_arguments (argument f.n f.e f.others) ++ mark Close ∷ b.0 =
      f.parts ∙ ap (λ (r : List Symbol). print_argument_name f.n ++ (print f.e ++ (print_more_arguments f.others ++ r))) (after_is Close a.0.1 b.0 b.1) ∙ sym (argument_shape f.n f.e f.others (mark Close ∷ b.0)) in
      let form : is_by_name ts ≡ is_some f.n = sym (first_form d (is_by_name ts) f.n f.e f.others f.fits) in
      let whole : AreArguments ts (argument f.n f.e f.others, b.0) = (parts, subst (λ (x : Bool). ArgumentsFit x (argument f.n f.e f.others) d) form f.fits) in
      subst (AreArguments ts) (ap (λ (x : Arguments). (x, b.0)) (sym f.joined) ∙ some_is (a.0.0, b.0) found b.2) whole

  pub arguments_are : (ts : List Symbol) (found : Arguments × List Symbol) → arguments turns inner ts ≡ Some found → AreArguments ts found
  unfolding arguments
  arguments_are ts found e = arguments_or_are ts found (after Close ts) refl e
