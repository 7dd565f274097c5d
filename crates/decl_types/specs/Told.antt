-- What is told of the declarations of POUs.
use Rattle.std.specs.Prelude.{ℕ, ℤ, List, [], ◌∷◌, map, Option}
use Rattle.source_tree.specs.Syntax.{Named, FileData}
use Rattle.naming.specs.declared.role.Role.{Role}
use Rattle.naming.specs.Scopes.{Variable, block_of}
use Rattle.rules.specs.declared.outcome.Outcome.{Outcome}
use Rattle.rules.specs.Outcomes.{outcome_of, both}
use Rattle.typing.specs.declared.domain.Domain.{Domain}
use Rattle.typing.specs.Variables.{domain_of_variable, judged_variable, initial_of}

-- a declaration that was judged: its name and what it is for, the values that its type allows, the one that it begins with, what it breaks,
-- and of an instance its block
pub record ToldData : Type 0 where
  pub name : Named
  pub role : Role
  pub domain : Domain
  pub initial : ℤ
  pub judged : Outcome
  pub block : Option ℕ

abbrev pub told_of : FileData → Variable → ToldData
told_of f v = record {
  name = v.name;
  role = v.role;
  domain = domain_of_variable f v;
  initial = initial_of f v;
  judged = outcome_of (judged_variable f v);
  block = block_of f v;
}

abbrev pub told_in : FileData → List Variable → List ToldData
told_in f vs = map (told_of f) vs

-- what declarations break, behind what was judged so far
abbrev pub told_outcome : Outcome → List ToldData → Outcome
told_outcome o [] = o
told_outcome o (t ∷ ts) = told_outcome (both o t.judged) ts
