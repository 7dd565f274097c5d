-- Reading the lines of a relation file.
use Rattle.std.specs.Prelude.{◌≡◌, ◌≢◌, ℕ, zero, suc, Bool, true, false, if◌then◌else◌, List, [], ◌∷◌, ◌++◌, Option, Some, None, Result, Ok, Err, Vec}
use Rattle.std.specs.declared.alloc.Global.{Global}
use Rattle.plc_types.specs.declared.operator.Operator.TheVariants.{Equal}
use Rattle.source_tree.specs.declared.token.Mark.TheVariants.{Semicolon}
use Rattle.source_tree.specs.Syntax.{Symbol, operator, Named}
use Rattle.grammar.specs.declared.fault.Stop.{Stop}
use Rattle.grammar.specs.declared.fault.Stop.TheVariants.{Memory}
use Rattle.grammar.specs.Reading.{Read, ◌>>=◌, after, named, numbered}
use Rattle.grammar.specs.Expressions.{expression}
use Rattle.relation_lines.specs.declared.line.Setting.{Setting}
use Rattle.relation_lines.specs.declared.line.Condition.{Condition}
use Rattle.relation_lines.specs.declared.line.Line.{Line}
use Rattle.relation_lines.specs.declared.word.FirstWord.{FirstWord}
use Rattle.relation_lines.specs.declared.word.FirstWord.TheVariants as words
use Rattle.relation_lines.specs.Lines.{ContentData, setting, faults, paired, single, clause, LineData}
use Rattle.relation_lines.specs.Words.{first_word_of, agreement_of, side_of}
use Rattle.relation_lines.specs.View.{lines_view}

-- `=`, by its place
unfoldable pub equal_sign : Read ℕ
equal_sign (operator Equal at ∷ ts) = Some (at, ts)
equal_sign ts = None

abbrev pub has_ended : List Symbol → Bool
has_ended [] = true
has_ended (s ∷ ts) = false

-- behind RELATION, DEPTH or CONFLICTS
unfoldable pub set_to : Setting → Read ContentData
set_to s ts = numbered ts >>= λ n. Some (setting s n.0.0 n.0.1, n.1)

-- behind FAULTS
unfoldable pub agreed : Read ContentData
agreed ts = named ts >>= λ n. agreement_of n.0.text >>= λ equal. Some (faults equal n.0.at, n.1)

-- behind INPUT and a name that is followed by `=` or not
abbrev pub input_or : Named → List Symbol → Option (ℕ × List Symbol) → Option (ContentData × List Symbol)
input_or first ts (Some sign) = named sign.1 >>= λ second. Some (paired first sign.0 second.0, second.1)
input_or first ts None = side_of first.text >>= λ side. named ts >>= λ n. Some (single side first.at n.0, n.1)

-- behind INPUT
unfoldable pub input : Read ContentData
input ts = named ts >>= λ first. input_or first.0 first.1 (equal_sign first.1)

-- The first number bounds the turns of each loop: that of the tokens is always enough. The second is how deep parentheses nest.
module _ (turns depth : ℕ) where
  -- behind ENV, RELATE or INVARIANT
  unfoldable pub condition : Condition → Read ContentData
  condition c ts = expression turns depth ts >>= λ e. Some (clause c e.0, e.1)

  -- behind a first word
  unfoldable pub content : FirstWord → Read ContentData
  content (words.Setting s) ts = set_to s ts
  content words.Faults ts = agreed ts
  content words.Input ts = input ts
  content (words.Clause c) ts = condition c ts

  unfoldable pub line : Read LineData
  line ts =
      named ts >>= λ word. first_word_of word.0.text >>= λ first. content first word.1 >>= λ c. after Semicolon c.1 >>= λ rest.
      Some (record { at = word.0.at; content = c.0 }, rest)

  -- the lines, after those that were read
  unfoldable pub lines : ℕ → List LineData → Read (List LineData)
  lines zero ls ts = Some (ls, ts)
  lines (suc n) ls ts = if has_ended ts then Some (ls, ts) else (line ts >>= λ l. lines n (ls ++ l.0 ∷ []) l.1)

  abbrev pub ended : List LineData → List Symbol → Option (List LineData)
  ended ls [] = Some ls
  ended ls (s ∷ ts) = None

  -- lines, and nothing behind them
  unfoldable pub file : List Symbol → Option (List LineData)
  file ts = lines turns [] ts >>= λ ls. ended ls.0 ls.1

-- what a function that reads a whole file answers
abbrev pub GivesLines : Result (Vec Line Global) Stop → Option (List LineData) → Type 0
GivesLines (Ok ls) read = read ≡ Some (lines_view ls.items)
GivesLines (Err e) read = e ≢ Memory → read ≡ None
