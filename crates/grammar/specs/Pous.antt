-- Reading POUs.
use Rattle.std.specs.Prelude.{ℕ, Bool, true, false, ◌&&◌, not, List, [], ◌∷◌, Option, Some, None}
use Rattle.source_tree.specs.declared.token.Mark.TheVariants.{Colon, Function, FunctionBlock, Program}
use Rattle.source_tree.specs.Syntax.{Symbol, name, elementary, Named, TypeData, of_elementary, of_name, BodyData, statements as statement_body, chart as chart_body, PouTypeData, function, function_block, program, PouData}
use Rattle.source_tree.specs.Prints.{end_of}
use Rattle.grammar.specs.Ends.{begins_part}
use Rattle.grammar.specs.Reading.{Read, ◌>>=◌, after, named}
use Rattle.grammar.specs.Statements.{statements}
use Rattle.grammar.specs.Declarations.{variables}
use Rattle.grammar.specs.Charts.{chart}

-- the type of a FUNCTION's result: an elementary one, or one by name
unfoldable pub answered : Read TypeData
answered (elementary kind at ∷ ts) = Some (of_elementary kind at, ts)
answered (name t at ∷ ts) = Some (of_name (record { text = t; at = at }), ts)
answered ts = None

abbrev pub is_function : PouTypeData → Bool
is_function (function t) = true
is_function function_block = false
is_function program = false

-- The first number bounds the turns of each loop: that of the tokens is always enough. The second is how deep parentheses and statements nest.
module _ (turns depth : ℕ) where
  abbrev pub body_or : List Symbol → Bool → Option (BodyData × List Symbol)
  body_or ts true = chart turns depth ts >>= λ ps. Some (chart_body ps.0, ps.1)
  body_or ts false = statements turns depth false ts >>= λ ss. Some (statement_body ss.0, ss.1)

  -- what a POU does: a chart where a part of one begins, but not where it is of a FUNCTION; else statements
  unfoldable pub body : Bool → Read BodyData
  body of_function ts = body_or ts (not of_function && begins_part ts)

  -- a POU of this type and name, behind them: its sections, what it does, and the word that closes
  unfoldable pub pou_of : PouTypeData → Named → Read PouData
  pou_of k n ts =
      variables turns (is_function k) turns [] ts >>= λ vs. body (is_function k) vs.1 >>= λ b. after (end_of k) b.1 >>= λ rest.
      Some (record { pou_type = k; name = n; variables = vs.0; body = b.0 }, rest)

  -- behind FUNCTION
  unfoldable pub function_pou : Read PouData
  function_pou ts = named ts >>= λ n. after Colon n.1 >>= λ ts. answered ts >>= λ t. pou_of (function t.0) n.0 t.1

  -- behind FUNCTION_BLOCK or PROGRAM
  unfoldable pub other_pou : PouTypeData → Read PouData
  other_pou k ts = named ts >>= λ n. pou_of k n.0 n.1

  abbrev pub pou_or : Option (List Symbol) → Option (List Symbol) → Option (List Symbol) → Option (Option (PouData × List Symbol))
  pou_or (Some rest) b p = Some (function_pou rest)
  pou_or None (Some rest) p = Some (other_pou function_block rest)
  pou_or None None (Some rest) = Some (other_pou program rest)
  pou_or None None None = None

  -- a POU that is read or not, behind the word that begins it; or None where no such word stands
  unfoldable pub pou_begun : List Symbol → Option (Option (PouData × List Symbol))
  pou_begun ts = pou_or (after Function ts) (after FunctionBlock ts) (after Program ts)
