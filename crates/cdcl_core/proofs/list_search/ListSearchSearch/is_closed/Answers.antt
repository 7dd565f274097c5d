use Rattle.std.proofs.Common.{◌≡◌, length, subst, arith}
use Rattle.clause_core.specs.Steps.{AllVariablesBelow}
use Rattle.cdcl_core.proofs.list_search.ListSearchSearch.is_closed.Goals as goal

pub all_closed-requires : goal.all_closed-requires
all_closed-requires c =
    let n : c.args.self.now.places ≡ length c.values-values.result.now = omega arith in
    subst (λ m. AllVariablesBelow m c.args.held.now) n c.requires.within
