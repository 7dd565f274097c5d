-- Reading the labels of a CASE.
use Rattle.std.specs.Prelude.{ℕ, zero, suc, List, [], ◌∷◌, ◌++◌, Option, Some, None}
use Rattle.source_tree.specs.declared.token.Mark.TheVariants.{Comma, Range}
use Rattle.source_tree.specs.Syntax.{Symbol, Tree, LabelData}
use Rattle.grammar.specs.Reading.{Read, ◌>>=◌, after}
use Rattle.grammar.specs.Declarations.{initial_value}

abbrev pub high_or : List Symbol → Option (List Symbol) → Option (Option Tree × List Symbol)
high_or ts (Some rest) = initial_value rest >>= λ e. Some (Some e.0, e.1)
high_or ts None = Some (None, ts)

-- `..` and the last value of a range, or nothing
unfoldable pub high : Read (Option Tree)
high ts = high_or ts (after Range ts)

-- a label
unfoldable pub label : Read LabelData
label ts = initial_value ts >>= λ low. high low.1 >>= λ h. Some (record { low = low.0; high = h.0 }, h.1)

abbrev pub labels_step : (List LabelData → Read (List LabelData)) → List LabelData → List Symbol → Option (List Symbol) → Option (List LabelData × List Symbol)
labels_step more_of ls ts None = Some (ls, ts)
labels_step more_of ls ts (Some rest) = more_of ls rest

-- labels with commas between them, after those that were read. The number bounds the turns.
unfoldable pub labels : ℕ → List LabelData → Read (List LabelData)
labels zero ls ts = None
labels (suc n) ls ts = label ts >>= λ l. labels_step (labels n) (ls ++ l.0 ∷ []) l.1 (after Comma l.1)
