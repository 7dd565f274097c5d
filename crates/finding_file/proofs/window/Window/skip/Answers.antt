use Rattle.std.proofs.Common.{◌≤◌, ℕ, List, length, sym, subst}
use Rattle.finding_file.proofs.WindowLemmas.{searched-skip}
use Rattle.finding_file.proofs.window.Window.skip.Goals as goal

pub invariant_of-self : goal.invariant_of-self
invariant_of-self c =
    searched-skip c.self.inside.bytes.items c.self.inside.begin c.self.inside.searched c.args.count c.self.invariant
    (subst (λ (w : List ℕ). c.args.count ≤ length w) (sym c.self.view_is) c.requires)
