-- A log that grows by one good step, or by deletions.
use Rattle.std.proofs.Common.{◌≡◌, ◌≢◌, ℕ, ◌<◌, ◌≤◌, ◌+◌, ◌-◌, Bool, true, List, [], ◌∷◌, ◌++◌, length, refl, sym, ◌∙◌, ap, subst, arith, length-append, append_assoc, append-nil}
use Rattle.clause_core.specs.declared.literal.Lit.{Lit}
use Rattle.clause_core.specs.declared.step.Step.{Step}
use Rattle.clause_core.specs.Satisfaction.{formula_true, clause_true}
use Rattle.clause_core.specs.Deletions.{always, IsDeletion, without_number, without_clause}
use Rattle.clause_core.specs.Logs.{IsGoodStep, IsGoodLog, IsFreshLog, held_after, steps_of}
use Rattle.clause_core.specs.Freshness.{IsFresh}
use Rattle.clause_core.specs.Formula.{Formula, BeginsWith}
use Rattle.clause_core.specs.Decisions.{IsRefutation, IsSpent}
use Rattle.clause_core.specs.declared.log.Entry.{Entry}
use Rattle.clause_core.specs.declared.log.Entry.TheVariants.{Derived, Deleted}
use Rattle.std.proofs.lemmas.List.{length-set, set-append_right}
use Rattle.std.proofs.lemmas.List.Folds.{list_all-append}
use Rattle.std.proofs.lemmas.Bool.{and_parts}
use Rattle.cdcl_core.specs.Deleting.{Deletes}

pub record Grown (variables : ℕ) (formula held : List (List Lit)) (log : List Entry) : Type 0 where
  pub good : IsGoodLog variables (length formula) formula log
  pub fresh : IsFreshLog formula log
  pub same : held ≡ held_after formula log
  pub many : length held ≡ length formula + length (steps_of log)

-- ---- one log behind another

good-append : (variables given : ℕ) (f : List (List Lit)) (log more : List Entry) → IsGoodLog variables given f log → IsGoodLog variables given (held_after f log) more
    → IsGoodLog variables given f (log ++ more)
good-append variables given f [] more g h = h
good-append variables given f (Derived t ∷ ts) more g h = (g.0, good-append variables given (f ++ t.clause ∷ []) ts more g.1 h)
good-append variables given f (Deleted n ∷ ts) more g h = (g.0, good-append variables given (without_number n f) ts more g.1 h)

fresh-append : (f : List (List Lit)) (log more : List Entry) → IsFreshLog f log → IsFreshLog (held_after f log) more → IsFreshLog f (log ++ more)
fresh-append f [] more g h = h
fresh-append f (Derived t ∷ ts) more g h = (g.0, fresh-append (f ++ t.clause ∷ []) ts more g.1 h)
fresh-append f (Deleted n ∷ ts) more g h = fresh-append (without_number n f) ts more g h

after-append : (f : List (List Lit)) (log more : List Entry) → held_after f (log ++ more) ≡ held_after (held_after f log) more
after-append f [] more = refl
after-append f (Derived t ∷ ts) more = after-append (f ++ t.clause ∷ []) ts more
after-append f (Deleted n ∷ ts) more = after-append (without_number n f) ts more

steps-append : (log more : List Entry) → steps_of (log ++ more) ≡ steps_of log ++ steps_of more
steps-append [] more = refl
steps-append (Derived t ∷ ts) more = ap (λ (ss : List Step). t ∷ ss) (steps-append ts more)
steps-append (Deleted n ∷ ts) more = steps-append ts more

pub steps-push : (log log' : List Entry) (s : Step) → log' ≡ log ++ Derived s ∷ [] → length (steps_of log') ≡ length (steps_of log) + 1
steps-push log log' s e = omega (arith, ap (λ (es : List Entry). length (steps_of es)) e, ap length (steps-append log (Derived s ∷ [])), length-append (steps_of log) (s ∷ []))

pub steps-deletes : (given : ℕ) (before after : Formula) (was now : List Entry) → Deletes given before after was now → length (steps_of now) ≡ length (steps_of was)
steps-deletes given before after was now d =
    omega (arith, ap (λ (es : List Entry). length (steps_of es)) d.logged, ap length (steps-append was d.more), ap length d.none, length-append (steps_of was) (steps_of d.more))

-- deletions alone are fresh
fresh-none : (f : List (List Lit)) (more : List Entry) → steps_of more ≡ [] → IsFreshLog f more
fresh-none f [] e = tt
fresh-none f (Derived t ∷ ts) e = absurd (let h : ⊥ = cc in h)
fresh-none f (Deleted n ∷ ts) e = fresh-none (without_number n f) ts e

-- ---- a log that is good, and what is held behind it

pub Grown-start : (variables : ℕ) (f held : List (List Lit)) → held ≡ f → Grown variables f held []
Grown-start variables f held e = record { good = tt; fresh = tt; same = e; many = omega (arith, ap length e) }

pub Grown-push : (variables : ℕ) (f held held' : List (List Lit)) (log log' : List Entry) (s : Step) → Grown variables f held log → IsGoodStep variables held s → IsFresh held s.clause → s.clause ≢ [] → held' ≡ held ++ s.clause ∷ [] → log' ≡ log ++ Derived s ∷ [] → Grown variables f held' log'
Grown-push variables f held held' log log' s g h fr n eh el =
    subst (Grown variables f held') (sym el) (subst (λ z. Grown variables f z (log ++ Derived s ∷ [])) (sym eh)
    (record {
      good = good-append variables (length f) f log (Derived s ∷ []) g.good (subst (λ z. IsGoodStep variables z s) g.same h, tt);
      fresh = fresh-append f log (Derived s ∷ []) g.fresh ((subst (λ z. IsFresh z s.clause) g.same fr, n), tt);
      same = ap (λ z. z ++ s.clause ∷ []) g.same ∙ sym (after-append f log (Derived s ∷ []));
      many = omega (arith, g.many, length-append held (s.clause ∷ []), ap length (steps-append log (Derived s ∷ [])), length-append (steps_of log) (s ∷ []));
    }))

-- where some clauses are held no more
pub Grown-deletes : (variables : ℕ) (f : List (List Lit)) (before after : Formula) (was now : List Entry) → Grown variables f before.clauses was → before.variables ≡ variables
    → Deletes (length f) before after was now → Grown variables f after.clauses now
Grown-deletes variables f before after was now g same d =
    subst (Grown variables f after.clauses) (sym d.logged)
    (record {
      good = good-append variables (length f) f was d.more g.good
          (subst (λ z. IsGoodLog variables (length f) z d.more) g.same (subst (λ n. IsGoodLog n (length f) before.clauses d.more) same d.good));
      fresh = fresh-append f was d.more g.fresh (fresh-none (held_after f was) d.more d.none);
      same = d.held ∙ ap (λ z. held_after z d.more) g.same ∙ sym (after-append f was d.more);
      many = omega (arith, g.many, d.size, ap length (steps-append was d.more), ap length d.none, length-append (steps_of was) (steps_of d.more));
    })

pub IsRefutation-push : (limit : ℕ) (f : Formula) (held : List (List Lit)) (log log' : List Entry) (s : Step) → Grown f.variables f.clauses held log → IsGoodStep f.variables held s → s.clause ≡ [] → log' ≡ log ++ Derived s ∷ [] → length (steps_of log) < limit → IsRefutation f limit log'
IsRefutation-push limit f held log log' s g h e el lt =
    subst (IsRefutation f limit) (sym el)
    (record {
      few = omega (arith, ap length (steps-append log (Derived s ∷ [])), length-append (steps_of log) (s ∷ []));
      good = good-append f.variables (length f.clauses) f.clauses log (Derived s ∷ []) g.good (subst (λ z. IsGoodStep f.variables z s) g.same h, tt);
      ends = (log, s, refl, e, g.fresh);
    })

pub IsSpent-grown : (limit : ℕ) (f : Formula) (held : List (List Lit)) (log : List Entry) → Grown f.variables f.clauses held log → length (steps_of log) ≡ limit → IsSpent f limit log
IsSpent-grown limit f held log g e = record { all = e; good = g.good; fresh = g.fresh }

-- a solution of what is held is one of the formula
pub formula_true-begins : (v : ℕ → Bool) (f later : Formula) → BeginsWith f later → formula_true v later.clauses ≡ true → formula_true v f.clauses ≡ true
formula_true-begins v f later b h =
    (and_parts (formula_true v f.clauses) (formula_true v b.more) (sym (list_all-append (clause_true v) f.clauses b.more) ∙ ap (formula_true v) (sym b.clauses) ∙ h)).0

-- ---- deletions, one after the other

pub Deletes-none : (given : ℕ) (f : Formula) (log : List Entry) → Deletes given f f log log
Deletes-none given f log = record { more = []; logged = sym (append-nil log); none = refl; good = tt; held = refl; variables = refl; size = refl }

pub Deletes-more : (given place number : ℕ) (before f after : Formula) (was log now : List Entry) → Deletes given before f was log → IsDeletion f.variables given f.clauses number
    → number ≡ place + 1 → after ≡ without_clause place f → now ≡ log ++ Deleted number ∷ [] → Deletes given before after was now
Deletes-more given place number before f after was log now d is n e l =
    let left : after.clauses ≡ without_number number f.clauses =
    ap (λ (g : Formula). g.clauses) e ∙ ap (λ p. (without_clause p f).clauses) (let p : place ≡ number - 1 = omega (arith, n) in p)
    in
    record {
      more = d.more ++ Deleted number ∷ [];
      logged = l ∙ ap (λ es. es ++ Deleted number ∷ []) d.logged ∙ append_assoc was d.more (Deleted number ∷ []);
      none = steps-append d.more (Deleted number ∷ []) ∙ append-nil (steps_of d.more) ∙ d.none;
      good = good-append before.variables given before.clauses d.more (Deleted number ∷ []) d.good
          (subst (λ z. IsDeletion before.variables given z number) d.held (subst (λ m. IsDeletion m given f.clauses number) d.variables is), tt);
      held = left ∙ ap (without_number number) d.held ∙ sym (after-append before.clauses d.more (Deleted number ∷ []));
      variables = ap (λ (g : Formula). g.variables) e ∙ d.variables;
      size = ap length left ∙ length-set f.clauses (number - 1) _ ∙ d.size;
    }

-- a formula that is begun with keeps its clauses
pub BeginsWith-without : (f g after : Formula) (place : ℕ) → length f.clauses ≤ place → after ≡ without_clause place g → BeginsWith f g → BeginsWith f after
BeginsWith-without f g after place le e b = record {
  variables = ap (λ (h : Formula). h.variables) e ∙ b.variables;
  more = (without_clause (place - length f.clauses) (record { variables = 0; clauses = b.more })).clauses;
  clauses = ap (λ (h : Formula). h.clauses) e ∙ ap (λ cs. (without_clause place (record { variables = 0; clauses = cs })).clauses) b.clauses
      ∙ set-append_right f.clauses b.more (length f.clauses) place always refl le;
}
