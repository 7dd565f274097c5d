-- How a formula is kept.
use Rattle.std.specs.Prelude.{◌<◌, ◌-◌, ◌^◌, IsTrue}
use Rattle.std.specs.List.{list_all}
use Rattle.clause_core.specs.declared.cnf.Cnf.TheInside.{Inside}
use Rattle.clause_core.specs.Clauses.{is_within, is_set}
use Rattle.clause_core.specs.Formula.{Formula}

abbrev pub formula_of : Inside → Formula
formula_of c = record { variables = c.variables; clauses = c.clauses.items }

pub record IsSound (c : Inside) : Type 0 where
  pub few : c.variables < 2 ^ 32 - 1
  pub within : IsTrue (list_all (is_within c.variables) c.clauses.items)
  pub sets : IsTrue (list_all is_set c.clauses.items)
