-- What tokens are for the grammar (IEC 61131-3, annexes B and C).
use Rattle.std.specs.Prelude.{◌≡◌, ℕ, List, [], ◌∷◌, ◌++◌, map, codes, bytes_eq, true, false, unwrap_or, if◌then◌else◌}
use Rattle.plc_types.specs.declared.operator.Operator.TheVariants as operators
use Rattle.plc_types.specs.Types.{elementary_types, type_name}
use Rattle.source_tree.specs.declared.token.Mark.TheVariants as marks
use Rattle.source_tree.specs.declared.token.PartWord.TheVariants as part_words
use Rattle.source_tree.specs.declared.token.TokenClass.{TokenClass}
use Rattle.source_tree.specs.declared.token.TokenClass.TheVariants as classes
use Rattle.source_tree.specs.declared.token.Terminal.{Terminal}
use Rattle.source_tree.specs.declared.token.Terminal.TheVariants as terminals
use Rattle.source_tree.specs.declared.token.Tok.{Tok}
use Rattle.source_tree.specs.Numbers.{value_of, in_64_bits}
use Rattle.source_tree.specs.SyntaxView.{upper}

-- a text, and what a token with it is
abbrev pub Entry : Type 0
Entry = List ℕ × Terminal

-- reserved words of which trees keep neither the spelling nor the place
abbrev pub mark_words : List Entry
mark_words =
    (codes "TYPE", terminals.Mark marks.Type)
    ∷ (codes "END_TYPE", terminals.Mark marks.EndType)
    ∷ (codes "PROGRAM", terminals.Mark marks.Program)
    ∷ (codes "END_PROGRAM", terminals.Mark marks.EndProgram)
    ∷ (codes "FUNCTION", terminals.Mark marks.Function)
    ∷ (codes "END_FUNCTION", terminals.Mark marks.EndFunction)
    ∷ (codes "FUNCTION_BLOCK", terminals.Mark marks.FunctionBlock)
    ∷ (codes "END_FUNCTION_BLOCK", terminals.Mark marks.EndFunctionBlock)
    ∷ (codes "VAR", terminals.Mark marks.Var)
    ∷ (codes "VAR_INPUT", terminals.Mark marks.VarInput)
    ∷ (codes "VAR_OUTPUT", terminals.Mark marks.VarOutput)
    ∷ (codes "VAR_TEMP", terminals.Mark marks.VarTemp)
    ∷ (codes "CONSTANT", terminals.Mark marks.Constant)
    ∷ (codes "END_VAR", terminals.Mark marks.EndVar)
    ∷ (codes "IF", terminals.Mark marks.If)
    ∷ (codes "THEN", terminals.Mark marks.Then)
    ∷ (codes "ELSIF", terminals.Mark marks.Elsif)
    ∷ (codes "ELSE", terminals.Mark marks.Else)
    ∷ (codes "END_IF", terminals.Mark marks.EndIf)
    ∷ (codes "CASE", terminals.Mark marks.Case)
    ∷ (codes "END_CASE", terminals.Mark marks.EndCase)
    ∷ (codes "OF", terminals.Mark marks.Of)
    ∷ (codes "TO", terminals.Mark marks.To)
    ∷ (codes "BY", terminals.Mark marks.By)
    ∷ (codes "DO", terminals.Mark marks.Do)
    ∷ (codes "END_FOR", terminals.Mark marks.EndFor)
    ∷ (codes "RETURN", terminals.Mark marks.Return)
    ∷ (codes "FROM", terminals.Mark marks.From)
    ∷ (codes "END_STEP", terminals.Mark marks.EndStep)
    ∷ (codes "END_TRANSITION", terminals.Mark marks.EndTransition)
    ∷ (codes "END_ACTION", terminals.Mark marks.EndAction)
    ∷ []

-- the words that begin the parts of charts
abbrev pub chart_words : List Entry
chart_words =
    (codes "INITIAL_STEP", terminals.Part part_words.InitialStep)
    ∷ (codes "STEP", terminals.Part part_words.Step)
    ∷ (codes "TRANSITION", terminals.Part part_words.Transition)
    ∷ (codes "ACTION", terminals.Part part_words.Action)
    ∷ []

-- reserved words that are operators or values, FOR and EXIT
abbrev pub operator_words : List Entry
operator_words =
    (codes "AND", terminals.Operator operators.And)
    ∷ (codes "OR", terminals.Operator operators.Or)
    ∷ (codes "XOR", terminals.Operator operators.Xor)
    ∷ (codes "MOD", terminals.Operator operators.Mod)
    ∷ (codes "NOT", terminals.Not)
    ∷ (codes "FOR", terminals.For)
    ∷ (codes "EXIT", terminals.Exit)
    ∷ (codes "TRUE", terminals.Truth true)
    ∷ (codes "FALSE", terminals.Truth false)
    ∷ []

-- words that are left out of the language
abbrev pub left_out_words : List (List ℕ)
left_out_words =
    codes "REAL" ∷ codes "LREAL" ∷ codes "STRING" ∷ codes "WSTRING"
    ∷ codes "DATE" ∷ codes "TIME" ∷ codes "TIME_OF_DAY" ∷ codes "TOD" ∷ codes "DATE_AND_TIME" ∷ codes "DT"
    ∷ codes "ARRAY" ∷ codes "STRUCT"
    ∷ codes "WHILE" ∷ codes "REPEAT"
    ∷ codes "VAR_IN_OUT" ∷ codes "VAR_EXTERNAL" ∷ codes "VAR_ACCESS" ∷ codes "VAR_GLOBAL" ∷ codes "VAR_CONFIG"
    ∷ codes "RETAIN" ∷ codes "NON_RETAIN" ∷ codes "AT"
    ∷ codes "CONFIGURATION" ∷ codes "RESOURCE" ∷ codes "TASK" ∷ codes "R_EDGE" ∷ codes "F_EDGE"
    ∷ []

abbrev pub left_out : List (List ℕ) → List Entry
left_out ws = map (λ w. (w, terminals.LeftOut)) ws

-- the words that are no names, but for those of the elementary types
unfoldable pub fixed_words : List Entry
fixed_words = mark_words ++ chart_words ++ operator_words ++ left_out left_out_words

-- the elementary types
unfoldable pub type_words : List Entry
type_words = map (λ t. (type_name t, terminals.Type t)) elementary_types

-- all words that are no names
unfoldable pub words : List Entry
words = fixed_words ++ type_words

-- the signs
unfoldable pub signs : List Entry
signs =
    (codes ":=", terminals.Mark marks.Assign)
    ∷ (codes "=>", terminals.Mark marks.Arrow)
    ∷ (codes "<>", terminals.Operator operators.NotEqual)
    ∷ (codes "<=", terminals.Operator operators.LessEqual)
    ∷ (codes ">=", terminals.Operator operators.GreaterEqual)
    ∷ (codes "..", terminals.Mark marks.Range)
    ∷ (codes "(", terminals.Open)
    ∷ (codes ")", terminals.Mark marks.Close)
    ∷ (codes ",", terminals.Mark marks.Comma)
    ∷ (codes ";", terminals.Mark marks.Semicolon)
    ∷ (codes ":", terminals.Mark marks.Colon)
    ∷ (codes ".", terminals.Mark marks.Point)
    ∷ (codes "#", terminals.Mark marks.Hash)
    ∷ (codes "+", terminals.Operator operators.Plus)
    ∷ (codes "-", terminals.Operator operators.Minus)
    ∷ (codes "*", terminals.Operator operators.Times)
    ∷ (codes "/", terminals.Operator operators.Divide)
    ∷ (codes "<", terminals.Operator operators.Less)
    ∷ (codes ">", terminals.Operator operators.Greater)
    ∷ (codes "=", terminals.Operator operators.Equal)
    ∷ (codes "&", terminals.Operator operators.And)
    ∷ []

-- what a table says of a text, or what the token is where the text is not in the table
abbrev pub entry_or : Terminal → List Entry → List ℕ → Terminal
entry_or other [] text = other
entry_or other (e ∷ es) text = if bytes_eq text e.0 then e.1 else entry_or other es text

-- What a token of a class and a slice is. A word is taken in upper case, and is a name where the tables do not
-- have it. A number has its value, or 0 where it has none in 64 bits.
unfoldable pub terminal_of : TokenClass → List ℕ → Terminal
terminal_of classes.Word slice = entry_or terminals.Name words (upper slice)
terminal_of classes.Number slice = terminals.Number (unwrap_or (in_64_bits (value_of slice)) 0)
terminal_of classes.Sign slice = entry_or terminals.LeftOut signs slice

-- a token's terminal is that of its class and slice
abbrev pub IsClassified : Tok → Type 0
IsClassified t = t.terminal ≡ terminal_of t.class t.slice.now
