-- Reading declarations of variables, the types that are spelled there, and sections of declarations.
use Rattle.std.specs.Prelude.{ℕ, zero, suc, List, [], ◌∷◌, ◌++◌, Bool, ◌&&◌, not, Option, Some, None, if◌then◌else◌}
use Rattle.plc_types.specs.declared.elementary.Elementary.{Elementary}
use Rattle.source_tree.specs.declared.token.Mark.TheVariants.{Close, Comma, Colon, Semicolon, Assign, Range, Hash, Var, VarInput, VarOutput, VarTemp, Constant, EndVar}
use Rattle.plc_types.specs.declared.operator.UnaryOperator.TheVariants as signs
use Rattle.source_tree.specs.declared.syntax.Section.{Section}
use Rattle.source_tree.specs.declared.syntax.Section.TheVariants as sections
use Rattle.source_tree.specs.Syntax.{Symbol, name, elementary, mark, Named, Tree, literal, path, enumerator, unary, BoundsData, TypeData, of_elementary, of_subrange, of_name, DeclarationData, VariablesData}
use Rattle.source_tree.specs.Levels.{is_section_of_function}
use Rattle.grammar.specs.Marks.{same_mark}
use Rattle.grammar.specs.Reading.{Read, ◌>>=◌, after, named, minus, opened}
use Rattle.grammar.specs.Expressions.{constant}

-- an initial value that is a name, or `type#value`
abbrev pub named_or : Named → List Symbol → Option (List Symbol) → Option (Tree × List Symbol)
named_or n ts (Some rest) = named rest >>= λ v. Some (enumerator n v.0, v.1)
named_or n ts None = Some (path (record { first = n; members = [] }), ts)

unfoldable pub named_value : Named → Read Tree
named_value n ts = named_or n ts (after Hash ts)

abbrev pub literal_or : List Symbol → Option (ℕ × List Symbol) → Option (Tree × List Symbol)
literal_or ts (Some m) = constant m.1 >>= λ l. Some (unary signs.Minus m.0 (literal l.0), l.1)
literal_or ts None = constant ts >>= λ l. Some (literal l.0, l.1)

-- an initial value that is a literal, or `-` and a literal
unfoldable pub literal_value : Read Tree
literal_value ts = literal_or ts (minus ts)

-- an initial value
unfoldable pub initial_value : Read Tree
initial_value (name t at ∷ ts) = named_value (record { text = t; at = at }) ts
initial_value ts = literal_value ts

abbrev pub initial_or : List Symbol → Option (List Symbol) → Option (Option Tree × List Symbol)
initial_or ts (Some rest) = initial_value rest >>= λ e. Some (Some e.0, e.1)
initial_or ts None = Some (None, ts)

-- `:=` and an initial value, or nothing
unfoldable pub initial : Read (Option Tree)
initial ts = initial_or ts (after Assign ts)

-- the bounds of a subrange, behind the parenthesis, whose place is given
unfoldable pub bounds : ℕ → Read BoundsData
bounds at ts =
    initial_value ts >>= λ low. after Range low.1 >>= λ ts. initial_value ts >>= λ high. after Close high.1 >>= λ rest.
    Some (record { at = at; low = low.0; high = high.0 }, rest)

abbrev pub ranged_or : Elementary → ℕ → List Symbol → Option (ℕ × List Symbol) → Option (TypeData × List Symbol)
ranged_or kind at ts (Some o) = bounds o.0 o.1 >>= λ b. Some (of_subrange kind at b.0, b.1)
ranged_or kind at ts None = Some (of_elementary kind at, ts)

-- behind an elementary type, whose place is given: a subrange of it, or itself
unfoldable pub ranged : Elementary → ℕ → Read TypeData
ranged kind at ts = ranged_or kind at ts (opened ts)

-- a type: an elementary one, a subrange of one, or one by name
unfoldable pub type_of : Read TypeData
type_of (elementary kind at ∷ ts) = ranged kind at ts
type_of (name t at ∷ ts) = Some (of_name (record { text = t; at = at }), ts)
type_of ts = None

abbrev pub others_step : (List Named → Read (List Named)) → List Named → List Symbol → Option (List Symbol) → Option (List Named × List Symbol)
others_step more_of ns ts None = Some (ns, ts)
others_step more_of ns ts (Some rest) = named rest >>= λ n. more_of (ns ++ n.0 ∷ []) n.1

-- the names behind commas, after those that were read. The number bounds the turns.
unfoldable pub others : ℕ → List Named → Read (List Named)
others zero ns ts = Some (ns, ts)
others (suc turns) ns ts = others_step (others turns) ns ts (after Comma ts)

-- behind VAR, where CONSTANT may stand
abbrev pub local_or : List Symbol → Option (List Symbol) → Section × List Symbol
local_or ts (Some rest) = (sections.Constant, rest)
local_or ts None = (sections.Local, ts)

unfoldable pub local : List Symbol → Section × List Symbol
local ts = local_or ts (after Constant ts)

-- the section that a word begins
unfoldable pub section_of : Read Section
section_of (mark m ∷ ts) =
    if same_mark m VarInput then Some (sections.Input, ts)
    else (if same_mark m VarOutput then Some (sections.Output, ts)
    else (if same_mark m VarTemp then Some (sections.Temporary, ts)
    else (if same_mark m Var then Some (local ts) else None)))
section_of ts = None

abbrev pub section_or : Bool → Option (Section × List Symbol) → Option (Section × List Symbol)
section_or of_function None = None
section_or of_function (Some s) = if of_function && not (is_section_of_function s.0) then None else Some s

-- the section that a word begins, but none that a FUNCTION may not have, where it is of one
unfoldable pub section_where : Bool → Read Section
section_where of_function ts = section_or of_function (section_of ts)

-- The first number bounds the turns of each loop: that of the tokens is always enough.
module _ (turns : ℕ) where
  -- what stands behind the names of a declaration
  unfoldable pub declared : Named → List Named → Read DeclarationData
  declared n ns ts =
      after Colon ts >>= λ ts. type_of ts >>= λ k. initial k.1 >>= λ i. after Semicolon i.1 >>= λ rest.
      Some (record { first = n; others = ns; kind = k.0; initial = i.0 }, rest)

  -- a declaration
  unfoldable pub declaration : Read DeclarationData
  declaration ts = named ts >>= λ n. others turns [] n.1 >>= λ ns. declared n.0 ns.0 ns.1

  abbrev pub declarations_step : (List DeclarationData → Read (List DeclarationData)) → List DeclarationData → List Symbol → Option (List Symbol) → Option (List DeclarationData × List Symbol)
  declarations_step more_of ds ts (Some rest) = Some (ds, rest)
  declarations_step more_of ds ts None = declaration ts >>= λ d. more_of (ds ++ d.0 ∷ []) d.1

  -- the declarations up to END_VAR, after those that were read
  unfoldable pub declarations : ℕ → List DeclarationData → Read (List DeclarationData)
  declarations zero ds ts = None
  declarations (suc n) ds ts = declarations_step (declarations n) ds ts (after EndVar ts)

  abbrev pub variables_step : (List VariablesData → Read (List VariablesData)) → List VariablesData → List Symbol → Option (Section × List Symbol) → Option (List VariablesData × List Symbol)
  variables_step more_of vs ts None = Some (vs, ts)
  variables_step more_of vs ts (Some s) = declarations turns [] s.1 >>= λ ds. more_of (vs ++ record { section = s.0; declarations = ds.0 } ∷ []) ds.1

  -- the sections, after those that were read. The truth value is whether they are of a FUNCTION.
  unfoldable pub variables : Bool → ℕ → List VariablesData → Read (List VariablesData)
  variables of_function zero vs ts = Some (vs, ts)
  variables of_function (suc n) vs ts = variables_step (variables of_function n) vs ts (section_where of_function ts)
