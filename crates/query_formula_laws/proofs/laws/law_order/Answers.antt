use Rattle.query_formula_laws.proofs.Orders.{product_in_order}
use Rattle.query_formula_laws.proofs.Runs.{breaks_in_order}
use Rattle.query_formula_laws.proofs.laws.law_order.Goals as law

pub returns-clause-product : law.returns-clause-product
returns-clause-product g = λ parts limit. product_in_order parts limit

pub returns-clause-breaks : law.returns-clause-breaks
returns-clause-breaks g = λ parts limit. breaks_in_order parts limit
