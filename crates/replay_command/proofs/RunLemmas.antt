-- A replay row by row is the run of the rows.
use Rattle.std.proofs.Common.{◌≡◌, ℕ, suc, ◌+◌, List, [], ◌∷◌, ◌++◌, length, Bool, true, false, refl, sym, ap, ◌∙◌, arith, append_assoc, append-nil, add-zero, zero-add}
use Rattle.program_tree.specs.Tree.{ProgramData}
use Rattle.scan_model.specs.declared.relation.Ending.{Ending}
use Rattle.scan_model.specs.declared.relation.Ending.TheVariants.{Related, Unrelated, NotAllowed}
use Rattle.scan_model.specs.InRange.{Row}
use Rattle.scan_model.specs.Pairs.{RelationData, Pair, start, is_allowed, is_related, after_row}
use Rattle.scan_model.specs.Runs.{after_rows, AllRelated, IsRun, all_related, first_unrelated, first_not_allowed}
use Rattle.replay_command.specs.Lines.{scan_line, scan_lines}
use Rattle.replay_command.specs.Outcomes.{Outcome, ended, with_line, outcome_from, outcome_of}

-- what a row gives, by the two tests
row_allowed : (old new : ProgramData) (rel : RelationData) (k : ℕ) (pair : Pair) (row : Row) (rows : List Row)
    → is_allowed rel row pair ≡ true → is_related rel (after_row old new rel row pair) ≡ true
    → outcome_from old new rel k pair (row ∷ rows) ≡ with_line (scan_line old new (k + 1) (after_row old new rel row pair)) (outcome_from old new rel (k + 1) (after_row old new rel row pair) rows)
row_allowed old new rel k pair row rows a r = rw (a, r) refl

row_unrelated : (old new : ProgramData) (rel : RelationData) (k : ℕ) (pair : Pair) (row : Row) (rows : List Row)
    → is_allowed rel row pair ≡ true → is_related rel (after_row old new rel row pair) ≡ false
    → outcome_from old new rel k pair (row ∷ rows) ≡ with_line (scan_line old new (k + 1) (after_row old new rel row pair)) (ended (Unrelated (k + 1)))
row_unrelated old new rel k pair row rows a r = rw (a, r) refl

row_not_allowed : (old new : ProgramData) (rel : RelationData) (k : ℕ) (pair : Pair) (row : Row) (rows : List Row)
    → is_allowed rel row pair ≡ false → outcome_from old new rel k pair (row ∷ rows) ≡ ended (NotAllowed (k + 1))
row_not_allowed old new rel k pair row rows a = rw a refl

two_lines : (a b : List ℕ) (o : Outcome) → with_line a (with_line b o) ≡ with_line (a ++ b) o
two_lines a b o = ap (λ l. record { lines = l; ending = o.ending }) (sym (append_assoc a b o.lines))

-- rows that are allowed and leave related pairs give their lines, and then the rows behind them go on
outcome-before : (old new : ProgramData) (rel : RelationData) (before tail : List Row) (k : ℕ) (pair : Pair) → AllRelated old new rel before pair
    → outcome_from old new rel k pair (before ++ tail) ≡ with_line (scan_lines old new rel k pair before) (outcome_from old new rel (k + length before) (after_rows old new rel before pair) tail)
outcome-before old new rel [] tail k pair h = ap (λ n. outcome_from old new rel n pair tail) (sym (add-zero k))
outcome-before old new rel (row ∷ before) tail k pair h =
    let next = after_row old new rel row pair in
    row_allowed old new rel k pair row (before ++ tail) h.0 h.1
    ∙ ap (with_line (scan_line old new (k + 1) next)) (outcome-before old new rel before tail (k + 1) next h.2)
    ∙ two_lines (scan_line old new (k + 1) next) (scan_lines old new rel (k + 1) next before) _
    ∙ ap (λ n. with_line (scan_lines old new rel k pair (row ∷ before)) (outcome_from old new rel n (after_rows old new rel before next) tail)) (let e : (k + 1) + length before ≡ k + suc (length before) = omega arith in e)

-- one line more
scan_lines-snoc : (old new : ProgramData) (rel : RelationData) (before : List Row) (row : Row) (k : ℕ) (pair : Pair)
    → scan_lines old new rel k pair (before ++ row ∷ []) ≡ scan_lines old new rel k pair before ++ scan_line old new (k + length before + 1) (after_row old new rel row (after_rows old new rel before pair))
scan_lines-snoc old new rel [] row k pair = append-nil _ ∙ ap (λ n. scan_line old new (n + 1) (after_row old new rel row pair)) (sym (add-zero k))
scan_lines-snoc old new rel (r ∷ before) row k pair =
    let next = after_row old new rel r pair in
    ap (λ l. scan_line old new (k + 1) next ++ l) (scan_lines-snoc old new rel before row (k + 1) next)
    ∙ sym (append_assoc (scan_line old new (k + 1) next) (scan_lines old new rel (k + 1) next before) _)
    ∙ ap (λ n. scan_lines old new rel k pair (r ∷ before) ++ scan_line old new (n + 1) (after_row old new rel row (after_rows old new rel before next))) (let e : (k + 1) + length before ≡ k + suc (length before) = omega arith in e)

abbrev outcome_by : List ℕ → Ending → Outcome
outcome_by lines ending = record { lines = lines; ending = ending }

-- the run of rows is what the replay row by row gives
pub outcome_of-run : (old new : ProgramData) (rel : RelationData) (rows run : List Row) (ending : Ending) → IsRun old new rel (start old new) rows run ending
    → outcome_of old new rel rows ≡ record { lines = scan_lines old new rel 0 (start old new) run; ending = ending }
outcome_of-run old new rel rows run ending (all_related h same e) =
    let from = start old new in
    ap (outcome_from old new rel 0 from) (sym (append-nil rows))
    ∙ outcome-before old new rel rows [] 0 from h
    ∙ ap (λ l. outcome_by l (Related (0 + length rows))) (append-nil (scan_lines old new rel 0 from rows))
    ∙ ap (λ n. outcome_by (scan_lines old new rel 0 from rows) (Related n)) (zero-add (length rows))
    ∙ ap (λ r. outcome_by (scan_lines old new rel 0 from r) (Related (length rows))) (sym same)
    ∙ ap (outcome_by (scan_lines old new rel 0 from run)) (sym e)
outcome_of-run old new rel rows run ending (first_unrelated before rest row cut h a r same e) =
    let from = start old new in
    let last = after_rows old new rel before from in
    ap (outcome_from old new rel 0 from) cut
    ∙ outcome-before old new rel before (row ∷ rest) 0 from h
    ∙ ap (with_line (scan_lines old new rel 0 from before)) (row_unrelated old new rel (0 + length before) last row rest a r)
    ∙ ap (λ l. outcome_by (scan_lines old new rel 0 from before ++ l) (Unrelated (0 + length before + 1))) (append-nil (scan_line old new (0 + length before + 1) (after_row old new rel row last)))
    ∙ ap (λ l. outcome_by l (Unrelated (0 + length before + 1))) (sym (scan_lines-snoc old new rel before row 0 from))
    ∙ ap (λ n. outcome_by (scan_lines old new rel 0 from (before ++ row ∷ [])) (Unrelated (n + 1))) (zero-add (length before))
    ∙ ap (λ r. outcome_by (scan_lines old new rel 0 from r) (Unrelated (length before + 1))) (sym same)
    ∙ ap (outcome_by (scan_lines old new rel 0 from run)) (sym e)
outcome_of-run old new rel rows run ending (first_not_allowed before rest row cut h a same e) =
    let from = start old new in
    let last = after_rows old new rel before from in
    ap (outcome_from old new rel 0 from) cut
    ∙ outcome-before old new rel before (row ∷ rest) 0 from h
    ∙ ap (with_line (scan_lines old new rel 0 from before)) (row_not_allowed old new rel (0 + length before) last row rest a)
    ∙ ap (λ l. outcome_by l (NotAllowed (0 + length before + 1))) (append-nil (scan_lines old new rel 0 from before))
    ∙ ap (λ n. outcome_by (scan_lines old new rel 0 from before) (NotAllowed (n + 1))) (zero-add (length before))
    ∙ ap (λ r. outcome_by (scan_lines old new rel 0 from r) (NotAllowed (length before + 1))) (sym same)
    ∙ ap (outcome_by (scan_lines old new rel 0 from run)) (sym e)

-- ---- each list of rows has its run

pub record HasRun (old new : ProgramData) (rel : RelationData) (pair : Pair) (rows : List Row) : Type 0 where
  pub run : List Row
  pub ending : Ending
  pub is : IsRun old new rel pair rows run ending

-- a row before the others, which is allowed and leaves a related pair
run_behind : (old new : ProgramData) (rel : RelationData) (pair : Pair) (row : Row) (rows run : List Row) (ending : Ending)
    → is_allowed rel row pair ≡ true → is_related rel (after_row old new rel row pair) ≡ true
    → IsRun old new rel (after_row old new rel row pair) rows run ending → HasRun old new rel pair (row ∷ rows)
run_behind old new rel pair row rows run ending a r (all_related h same e) =
    record { run = row ∷ rows; ending = Related (length (row ∷ rows)); is = all_related (a, r, h) refl refl }
run_behind old new rel pair row rows run ending a r (first_unrelated before rest bad cut h b q same e) =
    record { run = (row ∷ before) ++ bad ∷ []; ending = Unrelated (length (row ∷ before) + 1); is = first_unrelated (row ∷ before) rest bad (ap (λ l. row ∷ l) cut) (a, r, h) b q refl refl }
run_behind old new rel pair row rows run ending a r (first_not_allowed before rest bad cut h b same e) =
    record { run = row ∷ before; ending = NotAllowed (length (row ∷ before) + 1); is = first_not_allowed (row ∷ before) rest bad (ap (λ l. row ∷ l) cut) (a, r, h) b refl refl }

by_tests : (old new : ProgramData) (rel : RelationData) (pair : Pair) (row : Row) (rows : List Row) (allowed related : Bool)
    → is_allowed rel row pair ≡ allowed → is_related rel (after_row old new rel row pair) ≡ related
    → HasRun old new rel (after_row old new rel row pair) rows → HasRun old new rel pair (row ∷ rows)
by_tests old new rel pair row rows true true a r more = run_behind old new rel pair row rows more.run more.ending a r more.is
by_tests old new rel pair row rows true false a r more =
    record { run = row ∷ []; ending = Unrelated (0 + 1); is = first_unrelated [] rows row refl tt a r refl refl }
by_tests old new rel pair row rows false related a r more =
    record { run = []; ending = NotAllowed (0 + 1); is = first_not_allowed [] rows row refl tt a refl refl }

pub has_run : (old new : ProgramData) (rel : RelationData) (pair : Pair) (rows : List Row) → HasRun old new rel pair rows
has_run old new rel pair [] = record { run = []; ending = Related 0; is = all_related tt refl refl }
has_run old new rel pair (row ∷ rows) =
    by_tests old new rel pair row rows (is_allowed rel row pair) (is_related rel (after_row old new rel row pair)) refl refl (has_run old new rel (after_row old new rel row pair) rows)
