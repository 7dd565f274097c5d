-- Reading symbols: what stands at their front and the symbols behind it, or nothing where it does not stand there.
use Rattle.std.specs.Prelude.{◌≡◌, ◌≢◌, ℕ, List, ◌∷◌, drop, Option, Some, None, option_and_then, option_map, if◌then◌else◌, ◌==◌, Result, Ok, Err}
use Rattle.source_tree.specs.declared.token.Tok.{Tok}
use Rattle.plc_types.specs.declared.operator.Operator.{Operator}
use Rattle.plc_types.specs.declared.operator.Operator.TheVariants.{Minus}
use Rattle.source_tree.specs.declared.token.Mark.{Mark}
use Rattle.source_tree.specs.declared.token.PartWord.{PartWord}
use Rattle.plc_types.specs.declared.operator.UnaryOperator.{UnaryOperator}
use Rattle.plc_types.specs.declared.operator.UnaryOperator.TheVariants as signs
use Rattle.source_tree.specs.Syntax.{Symbol, name, number, negation, operator, opening, part, mark, Named}
use Rattle.source_tree.specs.SyntaxView.{symbols}
use Rattle.source_tree.specs.Levels.{level_of}
use Rattle.grammar.specs.Marks.{same_mark}
use Rattle.grammar.specs.declared.fault.Stop.{Stop}
use Rattle.grammar.specs.declared.fault.Stop.TheVariants.{Memory}

abbrev pub Read : Type 0 → Type 0
Read A = List Symbol → Option (A × List Symbol)

-- the symbols from a place on
unfoldable pub ahead : List Tok → ℕ → List Symbol
ahead toks at = symbols (drop at toks)

infixl 10 ◌>>=◌
abbrev pub ◌>>=◌ : {A B : Type 0} → Option A → (A → Option B) → Option B
o >>= f = option_and_then f o

-- the symbols behind this mark, where it stands in front
unfoldable pub after : Mark → List Symbol → Option (List Symbol)
after m (mark k ∷ ts) = if same_mark k m then Some ts else None
after m ts = None

-- a name
unfoldable pub named : Read Named
named (name t at ∷ ts) = Some (record { text = t; at = at }, ts)
named ts = None

-- a number, by its value and its place
unfoldable pub numbered : Read (ℕ × ℕ)
numbered (number value at ∷ ts) = Some ((value, at), ts)
numbered ts = None

-- a minus sign, by its place
unfoldable pub minus : Read ℕ
minus (operator Minus at ∷ ts) = Some (at, ts)
minus ts = None

-- a parenthesis that opens, by its place
unfoldable pub opened : Read ℕ
opened (opening at ∷ ts) = Some (at, ts)
opened ts = None

-- a word that begins a part of a chart, and its place
unfoldable pub part_word : Read (PartWord × ℕ)
part_word (part w at ∷ ts) = Some ((w, at), ts)
part_word ts = None

-- an operator of this level, and its place
unfoldable pub operator_of : ℕ → Read (Operator × ℕ)
operator_of k (operator o at ∷ ts) = if level_of o == k then Some ((o, at), ts) else None
operator_of k ts = None

-- a unary operator, and its place
unfoldable pub sign : Read (UnaryOperator × ℕ)
sign (negation at ∷ ts) = Some ((signs.Not, at), ts)
sign (operator Minus at ∷ ts) = Some ((signs.Minus, at), ts)
sign ts = None

-- What a function that reads tokens answers, a value and the place behind it: what reading gives, the value seen by view, unless memory ran out.
abbrev pub Gives : {X Y : Type 0} → (X → Y) → List Tok → Result (X × ℕ) Stop → Option (Y × List Symbol) → Type 0
Gives view toks (Ok x) read = read ≡ Some (view x.0, ahead toks x.1)
Gives view toks (Err e) read = e ≢ Memory → read ≡ None

-- the same for a place alone
abbrev pub GivesPlace : List Tok → Result ℕ Stop → Option (List Symbol) → Type 0
GivesPlace toks (Ok at) read = read ≡ Some (ahead toks at)
GivesPlace toks (Err e) read = e ≢ Memory → read ≡ None

-- the same where memory cannot run out
abbrev pub given : {X Y : Type 0} → (X → Y) → List Tok → Option (X × ℕ) → Option (Y × List Symbol)
given view toks o = option_map (λ x. (view x.0, ahead toks x.1)) o

-- the same where nothing may begin in front: then there is nothing to read
abbrev pub Begins : {X Y : Type 0} → (X → Y) → List Tok → Result (Option (X × ℕ)) Stop → Option (Option (Y × List Symbol)) → Type 0
Begins view toks (Ok None) begun = begun ≡ None
Begins view toks (Ok (Some x)) begun = begun ≡ Some (Some (view x.0, ahead toks x.1))
Begins view toks (Err e) begun = e ≢ Memory → begun ≡ Some None
