use Rattle.query_formula_laws.proofs.Meanings.{query_means}
use Rattle.query_formula_laws.proofs.laws.law_means.Goals as law

pub returns : law.returns
returns g = λ c old new limit q typed is_old is_new h. query_means c typed old new is_old is_new limit q h
