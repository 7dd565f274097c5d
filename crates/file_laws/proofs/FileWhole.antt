-- What the reader of whole files says of trees.
use Rattle.std.proofs.Common.{◌≡◌, ◌≢◌, ℕ, ◌-◌, ◌≤◌, List, [], ◌∷◌, ◌++◌, length, Some, None, refl, sym, ap, subst, ◌∙◌, arith, inr}
use Rattle.std.proofs.lemmas.List.{length-map}
use Rattle.source_tree.specs.declared.token.Tok.{Tok}
use Rattle.source_tree.specs.Syntax.{Symbol, mark, BodyData, statements as statement_body, chart as chart_body, ItemData, types as types_item, pou as pou_item, FileData}
use Rattle.source_tree.specs.SyntaxView as view
use Rattle.source_tree.specs.Prints.{name_symbol, print_variables, print_body, beginning_of, end_of, print_result, print_item, print_file}
use Rattle.source_tree.specs.Levels.{IsBodyLevelled, IsItemLevelled, IsFileLevelled}
use Rattle.grammar.specs.declared.fault.Stop.{Stop}
use Rattle.grammar.specs.declared.fault.Stop.TheVariants as stops
use Rattle.grammar.specs.Faults.{fault_of}
use Rattle.grammar.specs.Fits.{StmtsFit}
use Rattle.grammar.specs.Nesting.{nothing_open, NestsWithin, Shallow}
use Rattle.grammar.specs.Reading.{ahead}
use Rattle.grammar.specs.Files.{file}
use Rattle.grammar.specs.FirstFault.{AreSoundTokens}
use Rattle.grammar.specs.WholeFile.{IsFile, IsFileFault}
use Rattle.grammar_laws.proofs.Steps.{some_is}
use Rattle.grammar_laws.proofs.Nests.{nests-behind, nests-length}
use Rattle.grammar_laws.proofs.Nested.{stmts_nested, stmts_levelled}
use Rattle.file_laws.proofs.ChartNesting.{chart_fits, chart_levelled}
use Rattle.file_laws.proofs.PouSound.{BodyFits, pou_shape}
use Rattle.file_laws.proofs.FileSound.{ItemFits, FileFits, file_is}
use Rattle.file_laws.proofs.FileAgain.{file_again}

-- ---- a levelled file fits what its symbols nest within

body_fits : (limit : ℕ) (b : BodyData) (rest : List Symbol) → IsBodyLevelled b → NestsWithin limit nothing_open (print_body b ++ rest) → BodyFits b limit
body_fits limit (statement_body ss) rest levelled h =
    let all : limit - 0 ≡ limit = omega arith in
    subst (StmtsFit ss) all (stmts_nested limit ss nothing_open rest levelled h).0
body_fits limit (chart_body ps) rest levelled h = chart_fits limit ps rest levelled h

-- types fit any depth
item_fits : (limit : ℕ) (i : ItemData) (rest : List Symbol) → IsItemLevelled i → NestsWithin limit nothing_open (print_item i ++ rest) → ItemFits i limit
item_fits limit (types_item ds) rest levelled h = levelled
item_fits limit (pou_item p) rest levelled h =
    let heading : List Symbol = mark (beginning_of p.pou_type) ∷ name_symbol p.name ∷ print_result p.pou_type in
    let last : List Symbol = mark (end_of p.pou_type) ∷ rest in
    let behind_heading = nests-behind limit heading (print_variables p.variables ++ (print_body p.body ++ last)) nothing_open (subst (NestsWithin limit nothing_open) (pou_shape p rest) h) in
    let inner = nests-behind limit (print_variables p.variables) (print_body p.body ++ last) nothing_open behind_heading in
    (levelled.0, levelled.1, levelled.2, levelled.3, body_fits limit p.body last levelled.4 inner)

file_fits : (limit : ℕ) (f : FileData) → IsFileLevelled f → NestsWithin limit nothing_open (print_file f) → FileFits f limit
file_fits limit [] levelled h = tt
file_fits limit (i ∷ is) levelled h =
    (item_fits limit i (print_file is) levelled.0 h, file_fits limit is levelled.1 (nests-behind limit (print_item i) (print_file is) nothing_open h))

body_levelled : (b : BodyData) (d : ℕ) → BodyFits b d → IsBodyLevelled b
body_levelled (statement_body ss) d fits = stmts_levelled ss d fits
body_levelled (chart_body ps) d fits = chart_levelled ps d fits

item_levelled : (i : ItemData) (d : ℕ) → ItemFits i d → IsItemLevelled i
item_levelled (types_item ds) d fits = fits
item_levelled (pou_item p) d fits = (fits.0, fits.1, fits.2, fits.3, body_levelled p.body d fits.4)

file_levelled : (f : FileData) (d : ℕ) → FileFits f d → IsFileLevelled f
file_levelled [] d fits = tt
file_levelled (i ∷ is) d fits = (item_levelled i d fits.0, file_levelled is d fits.1)

-- ---- what is read, and what is not

length_symbols : (toks : List Tok) → length (view.symbols toks) ≤ length toks
length_symbols toks = omega (arith, length-map toks view.symbol)

file_read : (n limit : ℕ) (f : FileData) → length (print_file f) ≤ n → NestsWithin limit nothing_open (print_file f) → IsFileLevelled f → file n limit (print_file f) ≡ Some f
file_read n limit f len within levelled = file_again n limit f (file_fits limit f levelled within) len

no_file_is : (n : ℕ) (ts : List Symbol) (f : FileData) → length ts ≤ n → Shallow ts → file n 64 ts ≡ None → IsFileLevelled f → ts ≡ print_file f → ⊥
no_file_is n ts f len shallow none levelled printed =
    let h = file_read n 64 f (subst (λ (x : List Symbol). length x ≤ n) printed len) (subst Shallow printed shallow) levelled in
    let both : None ≡ Some f = sym none ∙ ap (file n 64) printed ∙ h in
    cc

ahead_start : (toks : List Tok) → ahead toks 0 ≡ view.symbols toks
unfolding ahead
ahead_start toks = refl

pub file_found : (toks : List Tok) (f : FileData) → AreSoundTokens toks → file (length toks) 64 (ahead toks 0) ≡ Some f → IsFile toks f
file_found toks f sound e =
    let found = file_is (length toks) 64 (view.symbols toks) f (ap (file (length toks) 64) (sym (ahead_start toks)) ∙ e) in
    record { sound = sound; printed = found.0; levelled = file_levelled f 64 found.1 }

pub file_fault : (toks : List Tok) (stop : Stop) → AreSoundTokens toks → Shallow (view.symbols toks) → (stop ≢ stops.Memory → file (length toks) 64 (ahead toks 0) ≡ None) → IsFileFault toks (fault_of stop)
file_fault toks (stops.NoTree at) sound shallow none =
    inr (record {
      sound = sound;
      rule = refl;
      none = λ f levelled printed. no_file_is (length toks) (view.symbols toks) f (length_symbols toks) shallow (ap (file (length toks) 64) (sym (ahead_start toks)) ∙ none (λ e. cc)) levelled printed;
    })
file_fault toks stops.Memory sound shallow none = tt

-- ---- one file at most

file_whole : (n : ℕ) (f : FileData) → length (print_file f) ≤ n → IsFileLevelled f → file n n (print_file f) ≡ Some f
file_whole n f len levelled = file_read n n f len (nests-length n (print_file f) nothing_open (omega arith)) levelled

pub one_file : (f g : FileData) → IsFileLevelled f → IsFileLevelled g → print_file f ≡ print_file g → f ≡ g
one_file f g lf lg same =
    let n = length (print_file f) in
    let first = file_whole n f (omega arith) lf in
    let second = file_whole n g (omega (arith, ap length same)) lg in
    some_is f g (sym first ∙ ap (file n n) same ∙ second)
