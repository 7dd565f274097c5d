-- The words of a pair of programs: free ones, whose bits are variables, and those of the first values. Each cell has a word as wide as its type.
use Rattle.std.specs.Prelude.{ℕ, zero, suc, ◌+◌, List, [], ◌∷◌, ◌++◌, map, slice_set}
use Rattle.clause_core.specs.declared.literal.Lit.{Lit}
use Rattle.scan_model.specs.declared.relation.InputLine.{InputLine}
use Rattle.scan_model.specs.declared.relation.InputLine.TheVariants.{Both, Old, New}
use Rattle.gates.specs.Literals.{plain, false_lit}
use Rattle.word_circuits.specs.Words.{constant_of}
use Rattle.node_circuits.specs.NodeWords.{Words}
use Rattle.query_formulas.specs.declared.shapes.CellShape.{CellShape}
use Rattle.query_formulas.specs.CellShapes.{width_of_cell}

-- the words of both programs
pub record PairWords : Type 0 where
  pub old : Words
  pub new : Words

-- the words that a clause starts with: OLD's, then NEW's, and one that is FALSE
abbrev pub clause_words : PairWords → Words
clause_words pair = (pair.old ++ pair.new) ++ (false_lit ∷ []) ∷ []

-- ---- free words

-- so many variables from one on, the lowest bit first
abbrev pub free_word : ℕ → ℕ → List Lit
free_word v zero = []
free_word v (suc width) = plain v ∷ free_word (v + 1) width

-- a word for each cell, one behind the other
abbrev pub free_words : ℕ → List CellShape → Words
free_words v [] = []
free_words v (c ∷ cs) = free_word v (width_of_cell c) ∷ free_words (v + width_of_cell c) cs

-- ---- first values

abbrev pub initial_word : CellShape → List Lit
initial_word c = constant_of (width_of_cell c) c.initial

abbrev pub initial_words : List CellShape → Words
initial_words cells = map initial_word cells

-- ---- inputs

-- a word put into the cells that its line names
abbrev pub loaded_word : InputLine → List Lit → PairWords → PairWords
loaded_word (Both range p q) w pair = record { old = slice_set pair.old p w; new = slice_set pair.new q w }
loaded_word (Old range p) w pair = record { old = slice_set pair.old p w; new = pair.new }
loaded_word (New range q) w pair = record { old = pair.old; new = slice_set pair.new q w }

abbrev pub loaded_words : List InputLine → Words → PairWords → PairWords
loaded_words [] ws pair = pair
loaded_words (l ∷ ls) [] pair = pair
loaded_words (l ∷ ls) (w ∷ ws) pair = loaded_words ls ws (loaded_word l w pair)
