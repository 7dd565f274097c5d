use Rattle.std.proofs.Common.{◌≡◌, ◌≢◌, ℕ, true, false, ◌==◌, nat_lt, length, get_or, sym, ◌∙◌, ap, arith, List}
use Rattle.std.proofs.lemmas.Bool.Decides.{nat_tests}
use Rattle.clause_core.specs.declared.literal.Lit.{Lit}
use Rattle.clause_core.proofs.Sets.{inserted-past, inserted-there, inserted-other}
use Rattle.clause_core.proofs.clause.Clause.has_at.Goals as goal

same : (a b : ℕ) → (a == b) ≡ true → a ≡ b
same a b h = grind (arith, nat_tests)

other : (a b : ℕ) → (a == b) ≡ false → a ≢ b
other a b h e = absurd (grind (arith, nat_tests))

pub returns-in-None-clause-absent : goal.returns-in-None-clause-absent
returns-in-None-clause-absent c = λ _.
    let items : c.as_slice.result.now ≡ c.args.self.now = c.as_slice.ensures ∙ c.self.view_is in
    inserted-past c.args.literal c.args.self.now c.args.place c.requires (c.in-None.ensures.lookup.0 ∙ ap (λ (z : List Lit). nat_lt c.args.place (length z)) items)

pub returns-in-Some-clause-present : goal.returns-in-Some-clause-present
returns-in-Some-clause-present c = λ h.
    let m = c.in-Some.other.now in
    let items : c.as_slice.result.now ≡ c.args.self.now = c.as_slice.ensures ∙ c.self.view_is in
    let inside : true ≡ nat_lt c.args.place (length c.args.self.now) = c.in-Some.ensures.lookup.0 ∙ ap (λ (z : List Lit). nat_lt c.args.place (length z)) items in
    let is : m ≡ get_or c.args.self.now c.args.place m = c.in-Some.ensures.lookup.1 ∙ ap (λ (z : List Lit). get_or z c.args.place m) items in
    inserted-there c.args.literal m c.args.self.now c.args.place m c.requires inside is (sym c.rank.ensures ∙ same c.rank.result c.rank-in-Some.result h ∙ c.rank-in-Some.ensures)

pub returns-in-Some-clause-absent : goal.returns-in-Some-clause-absent
returns-in-Some-clause-absent c = λ h.
    let items : c.as_slice.result.now ≡ c.args.self.now = c.as_slice.ensures ∙ c.self.view_is in
    let m = c.in-Some.other.now in
    let is : m ≡ get_or c.args.self.now c.args.place m = c.in-Some.ensures.lookup.1 ∙ ap (λ (z : List Lit). get_or z c.args.place m) items in
    inserted-other c.args.literal m c.args.self.now c.args.place m c.requires is (λ e. other c.rank.result c.rank-in-Some.result h (c.rank.ensures ∙ e ∙ sym c.rank-in-Some.ensures))
