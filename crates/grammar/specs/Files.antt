-- Reading whole files.
use Rattle.std.specs.Prelude.{◌≡◌, ◌≢◌, ℕ, zero, suc, List, [], ◌∷◌, ◌++◌, Option, Some, None, Result, Ok, Err}
use Rattle.source_tree.specs.declared.syntax.SourceFile.{SourceFile}
use Rattle.source_tree.specs.SyntaxView.{file_view}
use Rattle.grammar.specs.declared.fault.Stop.{Stop}
use Rattle.grammar.specs.declared.fault.Stop.TheVariants.{Memory}
use Rattle.source_tree.specs.declared.token.Mark.TheVariants as marks
use Rattle.source_tree.specs.Syntax.{Symbol, PouData, ItemData, types as types_item, pou as pou_item, FileData}
use Rattle.grammar.specs.Reading.{Read, ◌>>=◌, after}
use Rattle.grammar.specs.Pous.{pou_begun}
use Rattle.grammar.specs.Types.{types}

-- The first number bounds the turns of each loop: that of the tokens is always enough. The second is how deep parentheses and statements nest.
module _ (turns depth : ℕ) where
  abbrev pub item_or : Option (List Symbol) → Option (Option (PouData × List Symbol)) → Option (Option (ItemData × List Symbol))
  item_or (Some rest) p = Some (types turns turns [] rest >>= λ ds. Some (types_item ds.0, ds.1))
  item_or None (Some p) = Some (p >>= λ p. Some (pou_item p.0, p.1))
  item_or None None = None

  -- types behind TYPE, or a POU behind its word, which is read or not; or None where no such word stands
  unfoldable pub item : List Symbol → Option (Option (ItemData × List Symbol))
  item ts = item_or (after marks.Type ts) (pou_begun turns depth ts)

  abbrev pub items_step : (FileData → Read FileData) → FileData → List Symbol → Option (Option (ItemData × List Symbol)) → Option (FileData × List Symbol)
  items_step more_of found ts None = Some (found, ts)
  items_step more_of found ts (Some i) = i >>= λ i. more_of (found ++ i.0 ∷ []) i.1

  -- the items, after those that were read
  unfoldable pub items : ℕ → FileData → Read FileData
  items zero found ts = Some (found, ts)
  items (suc n) found ts = items_step (items n) found ts (item ts)

  abbrev pub ended : FileData → List Symbol → Option FileData
  ended found [] = Some found
  ended found (s ∷ ts) = None

  -- items, and nothing behind them
  unfoldable pub file : List Symbol → Option FileData
  file ts = items turns [] ts >>= λ f. ended f.0 f.1

-- what a function that reads a whole file answers
abbrev pub GivesFile : Result SourceFile Stop → Option FileData → Type 0
GivesFile (Ok f) read = read ≡ Some (file_view f)
GivesFile (Err e) read = e ≢ Memory → read ≡ None
