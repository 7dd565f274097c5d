-- Reading declarations of types.
use Rattle.std.specs.Prelude.{ℕ, zero, suc, List, [], ◌∷◌, ◌++◌, Option, Some, None}
use Rattle.source_tree.specs.declared.token.Mark.TheVariants.{Close, Colon, Semicolon, EndType}
use Rattle.source_tree.specs.Syntax.{Symbol, SpecificationData, of_type, of_values, TypeDeclarationData}
use Rattle.grammar.specs.Reading.{Read, ◌>>=◌, after, named, opened}
use Rattle.grammar.specs.Declarations.{type_of, others}

-- The first number bounds the turns of each loop: that of the tokens is always enough.
module _ (turns : ℕ) where
  -- the names of an enumeration, behind the parenthesis, whose place is given
  unfoldable pub values : ℕ → Read SpecificationData
  values at ts = named ts >>= λ n. others turns [] n.1 >>= λ ns. after Close ns.1 >>= λ rest. Some (of_values at n.0 ns.0, rest)

  abbrev pub specification_or : List Symbol → Option (ℕ × List Symbol) → Option (SpecificationData × List Symbol)
  specification_or ts (Some o) = values o.0 o.1
  specification_or ts None = type_of ts >>= λ t. Some (of_type t.0, t.1)

  -- what a declared type is: an enumeration, or a type as that of a variable
  unfoldable pub specification : Read SpecificationData
  specification ts = specification_or ts (opened ts)

  -- a declaration of a type
  unfoldable pub type_declaration : Read TypeDeclarationData
  type_declaration ts =
      named ts >>= λ n. after Colon n.1 >>= λ ts. specification ts >>= λ s. after Semicolon s.1 >>= λ rest.
      Some (record { name = n.0; specification = s.0 }, rest)

  abbrev pub types_step : (List TypeDeclarationData → Read (List TypeDeclarationData)) → List TypeDeclarationData → List Symbol → Option (List Symbol) → Option (List TypeDeclarationData × List Symbol)
  types_step more_of ds ts (Some rest) = Some (ds, rest)
  types_step more_of ds ts None = type_declaration ts >>= λ d. more_of (ds ++ d.0 ∷ []) d.1

  -- the declarations up to END_TYPE, after those that were read
  unfoldable pub types : ℕ → List TypeDeclarationData → Read (List TypeDeclarationData)
  types zero ds ts = None
  types (suc n) ds ts = types_step (types n) ds ts (after EndType ts)
