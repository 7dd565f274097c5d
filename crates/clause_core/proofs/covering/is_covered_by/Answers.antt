use Rattle.std.proofs.Common.{◌≡◌, ◌<◌, ℕ, true, nat_lt, length, Some, refl, sym, arith}
use Rattle.std.specs.Prelude.{slice_get}
use Rattle.std.proofs.lemmas.Bool.Decides.{nat_tests}
use Rattle.std.proofs.lemmas.Option.{slice_get_read}
use Rattle.clause_core.proofs.Always.{is_covered-from}
use Rattle.clause_core.proofs.covering.is_covered_by.Goals as goal

lower : (a b : ℕ) → nat_lt a b ≡ true → a < b
lower a b h = grind (arith, nat_tests)

pub returns-then-place-number : goal.returns-then-place-number
returns-then-place-number c = λ h.
    let held = c.args.held.now in
    let part = c.in-Some.other.now in
    let inside : c.args.place < length held = lower c.args.place (length held) (sym c.in-Some.ensures.lookup.0) in
    let is : slice_get held c.args.place ≡ Some part = slice_get_read held (length held) c.args.place part refl inside c.in-Some.ensures.lookup.1 in
    let other = c.if-place-number.true in
    is_covered-from held c.args.place c.args.number part c.args.literals.now is (λ e. absurd (grind (arith, nat_tests))) (cc (h, c.is_held_part.ensures, c.literals.ensures))
