use Rattle.std.proofs.Common.{◌≡◌, [], length, inl, inr, sym, ◌∙◌, subst}
use Rattle.std.proofs.lemmas.List.{length-map}
use Rattle.call_order.specs.Uses.{order_of}
use Rattle.call_order.proofs.Orders.{none_reaches}
use Rattle.rules.specs.declared.rule.Refusal.{Refusal}
use Rattle.source_tree.specs.Syntax.{FileData}
use Rattle.source_tree.specs.SyntaxView.{file_view}
use Rattle.naming.specs.Broken.{broken_names}
use Rattle.naming.specs.Circles.{uses_in, uses_of, IsBroken}
use Rattle.naming.specs.FileScope.{pous_of}
use Rattle.naming.specs.FirstOf.{IsFirstOf}
use Rattle.naming.proofs.CircleLemmas.{nothing_left}
use Rattle.st_names.proofs.Clean.{one_program}
use Rattle.st_names.proofs.Kept.{whole_types, typed_pous}
use Rattle.st_names.proofs.PouUses.{ordered}
use Rattle.st_names.proofs.resolution.resolve.Goals as goal

-- nothing is broken
abbrev Unbroken : FileData → Type 0
Unbroken f = (r : Refusal) → ¬ (IsBroken f r)

nothing : (f : FileData) → Unbroken f → broken_names f ≡ []
nothing f none = nothing_left (broken_names f) (λ r h. none r (inl h))

all_ordered : (f : FileData) → Unbroken f → length (order_of (uses_of f)) ≡ length (pous_of f)
all_ordered f none = ordered f (nothing f none) (λ r c. none r (inr c))

pub new-requires-clause-unbroken : goal.new-requires-clause-unbroken
new-requires-clause-unbroken c = subst (IsFirstOf (IsBroken (file_view c.args.file.now))) c.in-None.is c.in_ok-first.ensures.broken

pub new-requires-clause-one : goal.new-requires-clause-one
new-requires-clause-one c =
    let f = file_view c.args.file.now in
    one_program f (nothing f (subst (IsFirstOf (IsBroken f)) c.in-None.is c.in_ok-first.ensures.broken))

pub returns-clause-kept : goal.returns-clause-kept
returns-clause-kept c =
    let f = file_view c.args.file.now in
    nothing f (subst (IsFirstOf (IsBroken f)) c.in-None.is c.in_ok-first.ensures.broken)

pub returns-clause-ordered : goal.returns-clause-ordered
returns-clause-ordered c =
    let f = file_view c.args.file.now in
    all_ordered f (subst (IsFirstOf (IsBroken f)) c.in-None.is c.in_ok-first.ensures.broken)

pub returns-clause-acyclic : goal.returns-clause-acyclic
returns-clause-acyclic c =
    let f = file_view c.args.file.now in
    none_reaches (uses_of f) (all_ordered f (subst (IsFirstOf (IsBroken f)) c.in-None.is c.in_ok-first.ensures.broken) ∙ sym (length-map (pous_of f) (uses_in f)))

pub returns-clause-types : goal.returns-clause-types
returns-clause-types c =
    let f = file_view c.args.file.now in
    whole_types f (nothing f (subst (IsFirstOf (IsBroken f)) c.in-None.is c.in_ok-first.ensures.broken))

pub returns-clause-typed : goal.returns-clause-typed
returns-clause-typed c =
    let f = file_view c.args.file.now in
    typed_pous f (nothing f (subst (IsFirstOf (IsBroken f)) c.in-None.is c.in_ok-first.ensures.broken))
