-- What the reader of whole relation files says of lines.
use Rattle.std.proofs.Common.{◌≡◌, ◌≢◌, ℕ, ◌≤◌, List, length, Some, None, refl, sym, ap, subst, ◌∙◌, arith, inr}
use Rattle.std.proofs.lemmas.List.{length-map}
use Rattle.source_tree.specs.declared.token.Tok.{Tok}
use Rattle.source_tree.specs.Syntax.{Symbol}
use Rattle.source_tree.specs.SyntaxView as view
use Rattle.grammar.specs.declared.fault.Stop.{Stop}
use Rattle.grammar.specs.declared.fault.Stop.TheVariants as stops
use Rattle.grammar.specs.Faults.{fault_of}
use Rattle.grammar.specs.Nesting.{nothing_open, NestsWithin, Shallow}
use Rattle.grammar.specs.Reading.{ahead}
use Rattle.grammar.specs.FirstFault.{AreSoundTokens}
use Rattle.grammar_laws.proofs.Steps.{some_is}
use Rattle.grammar_laws.proofs.Nests.{nests-length}
use Rattle.relation_lines.specs.Lines.{LineData}
use Rattle.relation_lines.specs.Prints.{print_lines}
use Rattle.relation_lines.specs.Levels.{AreLinesLevelled}
use Rattle.relation_lines.specs.Reading.{file}
use Rattle.relation_lines.specs.Whole.{AreLines, IsLinesFault}
use Rattle.relation_lines.proofs.Fits.{lines_fit, lines_levelled}
use Rattle.relation_lines.proofs.Sound.{file_is}
use Rattle.relation_lines.proofs.Again.{file_again}

-- ---- what is read, and what is not

length_symbols : (toks : List Tok) → length (view.symbols toks) ≤ length toks
length_symbols toks = omega (arith, length-map toks view.symbol)

file_read : (n limit : ℕ) (ls : List LineData) → length (print_lines ls) ≤ n → NestsWithin limit nothing_open (print_lines ls) → AreLinesLevelled ls → file n limit (print_lines ls) ≡ Some ls
file_read n limit ls len within levelled = file_again n limit ls (lines_fit limit ls levelled within) len

no_lines_are : (n : ℕ) (ts : List Symbol) (ls : List LineData) → length ts ≤ n → Shallow ts → file n 64 ts ≡ None → AreLinesLevelled ls → ts ≡ print_lines ls → ⊥
no_lines_are n ts ls len shallow none levelled printed =
    let h = file_read n 64 ls (subst (λ (x : List Symbol). length x ≤ n) printed len) (subst Shallow printed shallow) levelled in
    let both : None ≡ Some ls = sym none ∙ ap (file n 64) printed ∙ h in
    cc

ahead_start : (toks : List Tok) → ahead toks 0 ≡ view.symbols toks
unfolding ahead
ahead_start toks = refl

pub lines_found : (toks : List Tok) (ls : List LineData) → AreSoundTokens toks → file (length toks) 64 (ahead toks 0) ≡ Some ls → AreLines toks ls
lines_found toks ls sound e =
    let found = file_is (length toks) 64 (view.symbols toks) ls (ap (file (length toks) 64) (sym (ahead_start toks)) ∙ e) in
    record { sound = sound; printed = found.0; levelled = lines_levelled ls 64 found.1 }

pub lines_fault : (toks : List Tok) (stop : Stop) → AreSoundTokens toks → Shallow (view.symbols toks) → (stop ≢ stops.Memory → file (length toks) 64 (ahead toks 0) ≡ None) → IsLinesFault toks (fault_of stop)
lines_fault toks (stops.NoTree at) sound shallow none =
    inr (record {
      sound = sound;
      rule = refl;
      none = λ ls levelled printed. no_lines_are (length toks) (view.symbols toks) ls (length_symbols toks) shallow (ap (file (length toks) 64) (sym (ahead_start toks)) ∙ none (λ e. cc)) levelled printed;
    })
lines_fault toks stops.Memory sound shallow none = tt

-- ---- one list of lines at most

file_whole : (n : ℕ) (ls : List LineData) → length (print_lines ls) ≤ n → AreLinesLevelled ls → file n n (print_lines ls) ≡ Some ls
file_whole n ls len levelled = file_read n n ls len (nests-length n (print_lines ls) nothing_open (omega arith)) levelled

pub one_lines : (ls ms : List LineData) → AreLinesLevelled ls → AreLinesLevelled ms → print_lines ls ≡ print_lines ms → ls ≡ ms
one_lines ls ms levelled other same =
    let n = length (print_lines ls) in
    let first = file_whole n ls (omega arith) levelled in
    let second = file_whole n ms (omega (arith, ap length same)) other in
    some_is ls ms (sym first ∙ ap (file n n) same ∙ second)
