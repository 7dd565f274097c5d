-- Reading expressions.
use Rattle.std.specs.Prelude.{ℕ, zero, suc, Bool, true, false, List, [], ◌∷◌, ◌++◌, Option, Some, None, is_some}
use Rattle.plc_types.specs.declared.elementary.Elementary.{Elementary}
use Rattle.plc_types.specs.declared.operator.Operator.{Operator}
use Rattle.source_tree.specs.declared.token.Mark.TheVariants.{Assign, Close, Comma, Point, Hash}
use Rattle.plc_types.specs.declared.operator.UnaryOperator.{UnaryOperator}
use Rattle.source_tree.specs.declared.syntax.Literal.{Literal}
use Rattle.source_tree.specs.declared.syntax.Literal.TheVariants as literals
use Rattle.source_tree.specs.Syntax.{Symbol, name, number, truth, elementary, opening, Named, PathData, Tree, literal, path, enumerator, paren, unary, chain, call, Links, no_links, link, Arguments, no_arguments, argument}
use Rattle.grammar.specs.Reading.{Read, ◌>>=◌, after, named, numbered, minus, opened, operator_of, sign}

-- what may stand behind `type#`, with no minus sign before it
unfoldable pub typed_value : Elementary → ℕ → Read Literal
typed_value kind at (number value value_at ∷ ts) = Some (literals.TypedNumber kind at None value value_at, ts)
typed_value kind at (truth value value_at ∷ ts) = Some (literals.TypedTruth kind at value value_at, ts)
typed_value kind at ts = None

abbrev pub typed_or : Elementary → ℕ → List Symbol → Option (ℕ × List Symbol) → Option (Literal × List Symbol)
typed_or kind at ts (Some m) = numbered m.1 >>= λ n. Some (literals.TypedNumber kind at (Some m.0) n.0.0 n.0.1, n.1)
typed_or kind at ts None = typed_value kind at ts

-- behind an elementary type
unfoldable pub typed : Elementary → ℕ → Read Literal
typed kind at ts = after Hash ts >>= λ rest. typed_or kind at rest (minus rest)

unfoldable pub constant : Read Literal
constant (number value at ∷ ts) = Some (literals.Number value at, ts)
constant (truth value at ∷ ts) = Some (literals.Truth value at, ts)
constant (elementary kind at ∷ ts) = typed kind at ts
constant ts = None

abbrev pub members_step : (List Named → Read (List Named)) → List Named → List Symbol → Option (List Symbol) → Option (List Named × List Symbol)
members_step more_of ns ts None = Some (ns, ts)
members_step more_of ns ts (Some rest) = named rest >>= λ n. more_of (ns ++ n.0 ∷ []) n.1

-- the names behind points, after those that were read. The number bounds the turns.
unfoldable pub members : ℕ → List Named → Read (List Named)
members zero ns ts = Some (ns, ts)
members (suc turns) ns ts = members_step (members turns) ns ts (after Point ts)

-- an argument by name stands in front: a name, and `:=`
abbrev pub is_by_name : List Symbol → Bool
is_by_name (name t at ∷ ts) = is_some (after Assign ts)
is_by_name ts = false

-- what stands before the value of an argument: a name and `:=` where it is by name
unfoldable pub argument_name : Bool → Read (Option Named)
argument_name true ts = named ts >>= λ n. after Assign n.1 >>= λ rest. Some (Some n.0, rest)
argument_name false ts = Some (None, ts)

abbrev pub add_argument : Arguments → Option Named → Tree → Arguments
add_argument no_arguments n e = argument n e no_arguments
add_argument (argument m f args) n e = argument m f (add_argument args n e)

-- The first number bounds the turns of each loop: that of the tokens is always enough.
module _ (turns : ℕ) where
  -- the path that begins with this name
  unfoldable pub path_from : Named → Read PathData
  path_from n ts = members turns [] ts >>= λ ns. Some (record { first = n; members = ns.0 }, ns.1)

  abbrev pub arguments_step : (Arguments → Read Arguments) → Arguments → List Symbol → Option (List Symbol) → Option (Arguments × List Symbol)
  arguments_step more_of args ts None = Some (args, ts)
  arguments_step more_of args ts (Some rest) = more_of args rest

  -- arguments, all by name or all by place, after those that were read. The second number bounds the turns.
  unfoldable pub arguments_from : Read Tree → Bool → ℕ → Arguments → Read Arguments
  arguments_from inner by_name zero args ts = None
  arguments_from inner by_name (suc n) args ts =
      argument_name by_name ts >>= λ m. inner m.1 >>= λ e. arguments_step (arguments_from inner by_name n) (add_argument args m.0 e.0) e.1 (after Comma e.1)

  abbrev pub arguments_or : Read Tree → List Symbol → Option (List Symbol) → Option (Arguments × List Symbol)
  arguments_or inner ts (Some rest) = Some (no_arguments, rest)
  arguments_or inner ts None = arguments_from inner (is_by_name ts) turns no_arguments ts >>= λ args. after Close args.1 >>= λ rest. Some (args.0, rest)

  -- the arguments of a call and `)`, behind `(`
  unfoldable pub arguments : Read Tree → Read Arguments
  arguments inner ts = arguments_or inner ts (after Close ts)

  abbrev pub called_or : Read Tree → Named → List Symbol → Option (ℕ × List Symbol) → Option (Tree × List Symbol)
  called_or inner n ts (Some o) = arguments inner o.1 >>= λ args. Some (call n o.0 args.0, args.1)
  called_or inner n ts None = path_from n ts >>= λ p. Some (path p.0, p.1)

  -- behind a name, a call or a path
  unfoldable pub called : Read Tree → Named → Read Tree
  called inner n ts = called_or inner n ts (opened ts)

  abbrev pub referred_or : Read Tree → Named → List Symbol → Option (List Symbol) → Option (Tree × List Symbol)
  referred_or inner n ts (Some rest) = named rest >>= λ v. Some (enumerator n v.0, v.1)
  referred_or inner n ts None = called inner n ts

  -- behind a name
  unfoldable pub referred : Read Tree → Named → Read Tree
  referred inner n ts = referred_or inner n ts (after Hash ts)

  unfoldable pub primary : Read Tree → Read Tree
  primary inner (name t at ∷ ts) = referred inner (record { text = t; at = at }) ts
  primary inner (opening at ∷ ts) = inner ts >>= λ e. after Close e.1 >>= λ rest. Some (paren at e.0, rest)
  primary inner ts = constant ts >>= λ l. Some (literal l.0, l.1)

  abbrev pub signed_or : Read Tree → List Symbol → Option ((UnaryOperator × ℕ) × List Symbol) → Option (Tree × List Symbol)
  signed_or inner ts (Some s) = primary inner s.1 >>= λ e. Some (unary s.0.0 s.0.1 e.0, e.1)
  signed_or inner ts None = primary inner ts

  unfoldable pub signed : Read Tree → Read Tree
  signed inner ts = signed_or inner ts (sign ts)

abbrev pub add_link : Links → Operator → ℕ → Tree → Links
add_link no_links o at e = link o at e no_links
add_link (link p place f ls) o at e = link p place f (add_link ls o at e)

abbrev pub links_step : Read Tree → (Links → Read Links) → Links → List Symbol → Option ((Operator × ℕ) × List Symbol) → Option (Links × List Symbol)
links_step operand more_of ls ts None = Some (ls, ts)
links_step operand more_of ls ts (Some o) = operand o.1 >>= λ right. more_of (add_link ls o.0.0 o.0.1 right.0) right.1

-- the operators of this level and their operands, after those that were read. The second number bounds the turns.
unfoldable pub links : Read Tree → ℕ → ℕ → Links → Read Links
links operand k zero ls ts = Some (ls, ts)
links operand k (suc n) ls ts = links_step operand (links operand k n) ls ts (operator_of k ts)

-- an operand with what is linked to it, itself where that is nothing
abbrev pub joined : Tree → Links → Tree
joined e no_links = e
joined e (link o at f ls) = chain e (link o at f ls)

-- an expression whose operators are of this level or tighter
unfoldable pub levelled : ℕ → Read Tree → ℕ → Read Tree
levelled turns inner zero ts = signed turns inner ts
levelled turns inner (suc k) ts =
    levelled turns inner k ts >>= λ e. links (levelled turns inner k) (suc k) turns no_links e.1 >>= λ ls. Some (joined e.0 ls.0, ls.1)

-- an expression inside parentheses, which nest no deeper than the second number
unfoldable pub inside : ℕ → ℕ → Read Tree
inside turns zero ts = None
inside turns (suc depth) ts = levelled turns (inside turns depth) 7 ts

-- an expression in which parentheses nest no deeper than the second number
unfoldable pub expression : ℕ → ℕ → Read Tree
expression turns depth ts = levelled turns (inside turns depth) 7 ts
