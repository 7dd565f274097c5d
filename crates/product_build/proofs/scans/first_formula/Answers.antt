use Rattle.std.proofs.Common.{◌≡◌, ◌∙◌}
use Rattle.std.proofs.lemmas.Result.{IfOk-weaker}
use Rattle.clause_core.specs.Formula.{Formula}
use Rattle.pair_circuits.specs.Views.{breaks_view}
use Rattle.query_formulas.specs.QueryClauses.{first_formula, walk_formula}
use Rattle.query_formula_laws.proofs.FromStart.{walked_one}
use Rattle.product_build.proofs.scans.first_formula.Goals as goal

pub returns : goal.returns
returns c =
    let b = breaks_view c.args.breaks.now in
    IfOk-weaker c.walk_formula.result (λ (f : Formula). f ≡ walk_formula b 1) (λ (f : Formula). f ≡ first_formula b) (λ f e. e ∙ walked_one b.net b.scans) c.walk_formula.ensures
