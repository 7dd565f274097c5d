-- What a search has taken in, clause by clause, and what stays while it goes on.
use Rattle.std.proofs.Common.{◌≡◌, ℕ, ◌<◌, ◌≤◌, ◌+◌, List, [], ◌∷◌, ◌++◌, length, take, set, get_or, Some, refl, sym, ◌∙◌, ap, subst, arith, length-append}
use Rattle.std.proofs.lemmas.List.{take-append-le, take_all, take_more, length-set}
use Rattle.std.proofs.lemmas.List.Elements.{All-nil, All-push, All-pop, All-set}
use Rattle.clause_core.specs.declared.literal.Lit.{Lit}
use Rattle.clause_core.specs.declared.status.Status.TheVariants.{Neither}
use Rattle.clause_core.specs.declared.truth.Truth.{Truth}
use Rattle.clause_core.specs.Deletions.{always}
use Rattle.clause_core.specs.Propagation.{IsClosed}
use Rattle.clause_core.specs.Steps.{clause_status}
use Rattle.clause_core.proofs.Always.{clause_status-always}
use Rattle.watched_propagation.specs.Propagations.{Propagation}
use Rattle.cdcl_watch.specs.Kept.{Keeps, HasTaken}

pub Keeps-refl : (p : Propagation) → Keeps p p
Keeps-refl p = record { held = refl; size = refl }

pub Keeps-trans : (p q r : Propagation) → Keeps p q → Keeps q r → Keeps p r
Keeps-trans p q r one two = record { held = two.held ∙ one.held; size = two.size ∙ one.size }

-- where the first clauses are among what a propagator holds
abbrev pub Leaves : Propagation → List (List Lit) → Type 0
Leaves p taken = (values : List Truth) → IsClosed p.held values → IsClosed taken values

pub Leaves-kept : (p q : Propagation) (taken : List (List Lit)) → Keeps p q → Leaves p taken → Leaves q taken
Leaves-kept p q taken k h values closed = h values (subst (λ held. IsClosed held values) k.held closed)

pub HasTaken-kept : (p q : Propagation) (count : ℕ) (taken : List (List Lit)) → Keeps p q → HasTaken p count taken → HasTaken q count taken
HasTaken-kept p q count taken k h = record { closed = Leaves-kept p q taken k h.closed; many = h.many }

pub HasTaken-none : (p : Propagation) → HasTaken p 0 []
HasTaken-none p = record { closed = λ values closed. All-nil (λ c. clause_status values c ≡ Neither); many = refl }

-- those that were taken in are the first of all
pub taken-first : (p : Propagation) (count : ℕ) (taken more held : List (List Lit)) → HasTaken p count taken → held ≡ taken ++ more → Leaves p (take count held)
taken-first p count taken more held h e =
    let n = h.many in
    let first : take count held ≡ taken = ap (take count) e ∙ take-append-le count taken more (omega arith) ∙ take_all count taken (omega arith) in
    subst (Leaves p) (sym first) h.closed

-- no more than there are
pub taken-few : (p : Propagation) (count : ℕ) (taken more held : List (List Lit)) → HasTaken p count taken → held ≡ taken ++ more → count ≤ length held
taken-few p count taken more held h e = let n = h.many in omega (arith, ap length e, length-append taken more)

pub taken-next : (p next : Propagation) (held : List (List Lit)) (i : ℕ) (c : List Lit) → Leaves p (take i held) → next.held ≡ p.held ++ c ∷ [] → i < length held → c ≡ get_or held i c
    → Leaves next (take (i + 1) held)
taken-next p next held i c h f lt is values closed =
    let parts = All-pop (λ d. clause_status values d ≡ Neither) next.held p.held (Some c) f closed in
    subst (λ cs. IsClosed cs values) (ap (λ z. take i held ++ z ∷ []) is ∙ sym (take_more held i c lt))
    (All-push (λ d. clause_status values d ≡ Neither) (take i held) c (h values parts.0) parts.1)

pub taken-all : (p : Propagation) (held : List (List Lit)) (i : ℕ) → Leaves p (take i held) → length held ≤ i → HasTaken p (length held) held
taken-all p held i h le = record { closed = subst (Leaves p) (take_all i held le) h; many = refl }

-- a clause is held no more
pub HasTaken-gone : (p : Propagation) (count : ℕ) (taken : List (List Lit)) (place : ℕ) → HasTaken p count taken → HasTaken p count (set taken place always)
HasTaken-gone p count taken place h = record {
  closed = λ values closed. All-set (λ c. clause_status values c ≡ Neither) taken place always (clause_status-always values) (h.closed values closed);
  many = h.many ∙ sym (length-set taken place always);
}
