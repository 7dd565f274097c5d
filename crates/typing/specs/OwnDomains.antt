-- The types of a file, each as it is spelled.
use Rattle.std.specs.Prelude.{ℕ, ◌+◌, List, [], ◌∷◌, length, Some}
use Rattle.source_tree.specs.Syntax.{SpecificationData, of_type, of_values, TypeDeclarationData, FileData}
use Rattle.typing.specs.declared.domain.Domain.{Domain}
use Rattle.typing.specs.Domains.{end_domain}

-- the domains of types that are counted from a number on; one that names another has none of its own
abbrev pub own_domains : FileData → ℕ → List TypeDeclarationData → List Domain
own_domains f number [] = []
own_domains f number (d ∷ ds) = end_domain f number (Some d.specification) ∷ own_domains f (number + 1) ds

-- how many values a type has by names
abbrev pub count_of_values : SpecificationData → ℕ
count_of_values (of_type t) = 0
count_of_values (of_values at first others) = length (first ∷ others)
