-- How deep parentheses and statements nest in a list of symbols.
use Rattle.std.specs.Prelude.{◌≤◌, ℕ, ◌+◌, ◌-◌, List, [], ◌∷◌, if◌then◌else◌}
use Rattle.source_tree.specs.declared.token.Mark.TheVariants.{Close, If, EndIf, Case, EndCase, EndFor}
use Rattle.source_tree.specs.Syntax.{Symbol, opening, iteration, mark}
use Rattle.grammar.specs.Marks.{same_mark}
use Rattle.grammar.specs.declared.open.Open.{Open}

-- How many parentheses are open behind a symbol: `)` closes one, or nothing where none is open.
unfoldable pub open_parentheses : ℕ → Symbol → ℕ
open_parentheses open_so_far (opening at) = open_so_far + 1
open_parentheses open_so_far (mark m) = if same_mark m Close then open_so_far - 1 else open_so_far
open_parentheses open_so_far s = open_so_far

-- how many IFs are open behind a symbol
unfoldable pub open_ifs : ℕ → Symbol → ℕ
open_ifs open_so_far (mark m) = if same_mark m If then open_so_far + 1 else (if same_mark m EndIf then open_so_far - 1 else open_so_far)
open_ifs open_so_far s = open_so_far

-- how many CASEs are open behind a symbol
unfoldable pub open_cases : ℕ → Symbol → ℕ
open_cases open_so_far (mark m) = if same_mark m Case then open_so_far + 1 else (if same_mark m EndCase then open_so_far - 1 else open_so_far)
open_cases open_so_far s = open_so_far

-- how many FORs are open behind a symbol
unfoldable pub open_iterations : ℕ → Symbol → ℕ
open_iterations open_so_far (iteration at) = open_so_far + 1
open_iterations open_so_far (mark m) = if same_mark m EndFor then open_so_far - 1 else open_so_far
open_iterations open_so_far s = open_so_far

abbrev pub nothing_open : Open
nothing_open = record { parentheses = 0; ifs = 0; cases = 0; iterations = 0 }

-- how many are open in all
abbrev pub total : Open → ℕ
total o = o.parentheses + o.ifs + o.cases + o.iterations

-- what is open behind a symbol
abbrev pub behind : Open → Symbol → Open
behind o s = record {
  parentheses = open_parentheses o.parentheses s;
  ifs = open_ifs o.ifs s;
  cases = open_cases o.cases s;
  iterations = open_iterations o.iterations s;
}

-- where so much is open before symbols, no more than the limit are open behind each of them
abbrev pub NestsWithin : ℕ → Open → List Symbol → Type 0
NestsWithin limit o [] = Unit {0}
NestsWithin limit o (s ∷ ts) = (total (behind o s) ≤ limit) × NestsWithin limit (behind o s) ts

-- no more than 64 parentheses and statements are ever open
abbrev pub Shallow : List Symbol → Type 0
Shallow ts = NestsWithin 64 nothing_open ts
