use Rattle.query_formula_laws.proofs.Meanings.{query_decoded}
use Rattle.query_formula_laws.proofs.laws.law_decoded.Goals as law

pub returns : law.returns
returns g = λ c old new limit q values typed is_old is_new h s. query_decoded c typed old new is_old is_new limit q h values s
