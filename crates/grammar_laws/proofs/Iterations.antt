-- What is read behind FOR prints the symbols that were taken, and what it prints is read again.
use Rattle.std.proofs.Common.{◌≡◌, ℕ, ◌≤◌, false, List, [], ◌∷◌, ◌++◌, length, Option, Some, None, refl, sym, ap, subst, ◌∙◌, append_assoc, arith, length-append}
use Rattle.source_tree.specs.declared.token.Mark.TheVariants.{Assign, To, By, Do}
use Rattle.source_tree.specs.Syntax.{Symbol, iteration, mark, Tree, IterationData}
use Rattle.source_tree.specs.Prints.{name_symbol, print, print_step, print_iteration}
use Rattle.grammar.specs.Marks.{same_mark}
use Rattle.grammar.specs.Ends.{goes_on}
use Rattle.grammar.specs.Fits.{Fits, StepFits, IterationFits}
use Rattle.grammar.specs.Reading.{Read, after, named}
use Rattle.grammar.specs.Iterations.{step_or, step, iteration_from}
use Rattle.grammar_laws.proofs.Steps.{bind_some, some_is, after_is, named_is}
use Rattle.grammar_laws.proofs.Again.{step_named}

-- how the symbols from FOR to DO stand before others
pub iteration_shape : (i : IterationData) (rest : List Symbol)
    → print_iteration i ++ rest ≡ iteration i.at ∷ name_symbol i.control ∷ mark Assign ∷ (print i.first ++ mark To ∷ (print i.last ++ (print_step i.step ++ mark Do ∷ rest)))
iteration_shape i rest =
    ap (λ (x : List Symbol). iteration i.at ∷ name_symbol i.control ∷ mark Assign ∷ x) (
    append_assoc (print i.first) (mark To ∷ (print i.last ++ print_step i.step ++ mark Do ∷ [])) rest
    ∙ ap (λ (x : List Symbol). print i.first ++ mark To ∷ x) (append_assoc (print i.last ++ print_step i.step) (mark Do ∷ []) rest ∙ append_assoc (print i.last) (print_step i.step) (mark Do ∷ rest)))

-- ---- what is read

module _ (expr : Read Tree) (d : ℕ) (sound : (ts : List Symbol) (e : Tree) (rest : List Symbol) → expr ts ≡ Some (e, rest) → (ts ≡ print e ++ rest) × Fits e d) where
  abbrev StepIs : List Symbol → Option Tree × List Symbol → Type 0
  StepIs ts y = (ts ≡ print_step y.0 ++ y.1) × StepFits y.0 d

  step_go : (ts : List Symbol) (y : Option Tree × List Symbol) (o : Option (List Symbol)) → after By ts ≡ o → step_or expr ts o ≡ Some y → StepIs ts y
  step_go ts y None is e =
      let whole : StepIs ts (None, ts) = (refl, tt) in
      subst (StepIs ts) (some_is (None, ts) y e) whole
  step_go ts y (Some r) is e =
      let a = bind_some (expr r) (λ (v : Tree × List Symbol). Some (Some v.0, v.1)) y e in
      let c = sound r a.0.0 a.0.1 a.1 in
      let whole : StepIs ts (Some a.0.0, a.0.1) = (after_is By ts r is ∙ ap (λ (x : List Symbol). mark By ∷ x) c.0, c.1) in
      subst (StepIs ts) (some_is (Some a.0.0, a.0.1) y a.2) whole

  step_is : (ts : List Symbol) (y : Option Tree × List Symbol) → step expr ts ≡ Some y → StepIs ts y
  unfolding step
  step_is ts y e = step_go ts y (after By ts) refl e

  abbrev pub IterationIs : ℕ → List Symbol → IterationData × List Symbol → Type 0
  IterationIs at ts y = (iteration at ∷ ts ≡ print_iteration y.0 ++ y.1) × IterationFits y.0 d

  pub iteration_is : (at : ℕ) (ts : List Symbol) (y : IterationData × List Symbol) → iteration_from expr at ts ≡ Some y → IterationIs at ts y
  unfolding iteration_from
  iteration_is at ts y e =
      let a = bind_some (named ts) _ y e in
      let b = bind_some (after Assign a.0.1) _ y a.2 in
      let f = bind_some (expr b.0) _ y b.2 in
      let t = bind_some (after To f.0.1) _ y f.2 in
      let l = bind_some (expr t.0) _ y t.2 in
      let s = bind_some (step expr l.0.1) _ y l.2 in
      let c = bind_some (after Do s.0.1) _ y s.2 in
      let first = sound b.0 f.0.0 f.0.1 f.1 in
      let last = sound t.0 l.0.0 l.0.1 l.1 in
      let by = step_is l.0.1 s.0 s.1 in
      let found : IterationData = record { at = at; control = a.0.0; first = f.0.0; last = l.0.0; step = s.0.0 } in
      let behind_to : t.0 ≡ print l.0.0 ++ (print_step s.0.0 ++ mark Do ∷ c.0) =
      last.0 ∙ ap (λ (x : List Symbol). print l.0.0 ++ x) (by.0 ∙ ap (λ (x : List Symbol). print_step s.0.0 ++ x) (after_is Do s.0.1 c.0 c.1)) in
      let behind_assign : b.0 ≡ print f.0.0 ++ mark To ∷ (print l.0.0 ++ (print_step s.0.0 ++ mark Do ∷ c.0)) =
      first.0 ∙ ap (λ (x : List Symbol). print f.0.0 ++ x) (after_is To f.0.1 t.0 t.1 ∙ ap (λ (x : List Symbol). mark To ∷ x) behind_to) in
      let all = named_is ts a.0.0 a.0.1 a.1 ∙ ap (λ (x : List Symbol). name_symbol a.0.0 ∷ x) (after_is Assign a.0.1 b.0 b.1 ∙ ap (λ (x : List Symbol). mark Assign ∷ x) behind_assign) in
      let whole : IterationIs at ts (found, c.0) = (ap (λ (x : List Symbol). iteration at ∷ x) all ∙ sym (iteration_shape found c.0), (first.1, last.1, by.1)) in
      subst (IterationIs at ts) (some_is (found, c.0) y c.2) whole

-- ---- what is printed

after_assign : (rest : List Symbol) → after Assign (mark Assign ∷ rest) ≡ Some rest
unfolding after same_mark
after_assign rest = refl

after_to : (rest : List Symbol) → after To (mark To ∷ rest) ≡ Some rest
unfolding after same_mark
after_to rest = refl

ends_to : (rest : List Symbol) → goes_on 7 (mark To ∷ rest) ≡ false
unfolding same_mark
ends_to rest = refl

after_by : (rest : List Symbol) → after By (mark By ∷ rest) ≡ Some rest
unfolding after same_mark
after_by rest = refl

no_by : (rest : List Symbol) → after By (mark Do ∷ rest) ≡ None
unfolding after same_mark
no_by rest = refl

after_do : (rest : List Symbol) → after Do (mark Do ∷ rest) ≡ Some rest
unfolding after same_mark
after_do rest = refl

ends_do : (rest : List Symbol) → goes_on 7 (mark Do ∷ rest) ≡ false
unfolding same_mark
ends_do rest = refl

ends_step : (s : Option Tree) (rest : List Symbol) → goes_on 7 (print_step s ++ mark Do ∷ rest) ≡ false
unfolding same_mark
ends_step None rest = refl
ends_step (Some e) rest = refl

module _ (expr : Read Tree) (turns d : ℕ) (again : (e : Tree) (rest : List Symbol) → Fits e d → goes_on 7 rest ≡ false → length (print e ++ rest) ≤ turns → expr (print e ++ rest) ≡ Some (e, rest)) where
  step_again : (s : Option Tree) (rest : List Symbol) → StepFits s d → length (print_step s ++ mark Do ∷ rest) ≤ turns → step expr (print_step s ++ mark Do ∷ rest) ≡ Some (s, mark Do ∷ rest)
  unfolding step
  step_again None rest fits len = rw (no_by rest) refl
  step_again (Some e) rest fits len = rw (after_by (print e ++ mark Do ∷ rest), again e (mark Do ∷ rest) fits (ends_do rest) (omega arith)) refl

  pub iteration_again : (i : IterationData) (rest : List Symbol) → IterationFits i d → length (print i.first ++ mark To ∷ (print i.last ++ (print_step i.step ++ mark Do ∷ rest))) ≤ turns
      → iteration_from expr i.at (name_symbol i.control ∷ mark Assign ∷ (print i.first ++ mark To ∷ (print i.last ++ (print_step i.step ++ mark Do ∷ rest)))) ≡ Some (i, rest)
  unfolding iteration_from
  iteration_again i rest fits len =
      let by : List Symbol = print_step i.step ++ mark Do ∷ rest in
      let to : List Symbol = print i.last ++ by in
      let shorter : length to ≤ turns = omega (arith, length-append (print i.first) (mark To ∷ to)) in
      let least : length by ≤ turns = omega (arith, length-append (print i.last) by) in
      rw (
        step_named i.control (mark Assign ∷ (print i.first ++ mark To ∷ to)),
        after_assign (print i.first ++ mark To ∷ to),
        again i.first (mark To ∷ to) fits.0 (ends_to to) len,
        after_to to,
        again i.last by fits.1 (ends_step i.step rest) shorter,
        step_again i.step rest fits.2 least,
        after_do rest,
      ) refl
