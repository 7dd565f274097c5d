-- What has been put of a replay while it goes on.
use Rattle.std.proofs.Common.{Bool, ◌≡◌, ℕ, ◌+◌, List, [], ◌∷◌, ◌++◌, drop, true, false, if◌then◌else◌, Option, Some, Result, Ok, Err, OnErr, refl, sym, ap, ◌∙◌, subst, append_assoc, append-nil}
use Rattle.std.specs.Prelude.{slice_get}
use Rattle.std.proofs.lemmas.List.{drop_more}
use Rattle.std.proofs.lemmas.Option.{slice_get_within, get_or_from_slice_get}
use Rattle.program_tree.specs.declared.typed.Program.{Program}
use Rattle.program_tree.specs.View.{program_view}
use Rattle.scan_model.specs.declared.relation.Relation.{Relation}
use Rattle.scan_replay.specs.Duos.{Compared, with_pair, allows, pair_after, is_pair_related}
use Rattle.outside.specs.Contents.{extended}
use Rattle.program_tree.specs.Tree.{ProgramData}
use Rattle.scan_model.specs.declared.relation.Ending.{Ending}
use Rattle.scan_model.specs.declared.relation.Ending.TheVariants.{Unrelated, NotAllowed}
use Rattle.scan_model.specs.InRange.{Row}
use Rattle.scan_model.specs.Pairs.{RelationData, Pair, relation_view, is_allowed, is_related, after_row}
use Rattle.replay_command.specs.Lines.{scan_line}
use Rattle.replay_command.specs.Outcomes.{Outcome, ended, with_line, outcome_from}
use Rattle.command_answers.specs.Puts.{PutsPart}
use Rattle.command_answers.proofs.PutLemmas.{extended-twice, extended-nothing}

-- these bytes were put of a whole replay, and the rest of it is still to come
pub record HasPlayed (old now : Option (List ℕ)) (all rest : Outcome) : Type 0 where
  pub done : List ℕ
  pub put : now ≡ extended old done
  pub lines : all.lines ≡ done ++ rest.lines
  pub ending : all.ending ≡ rest.ending

pub nothing_played : (told : Option (List ℕ)) (all : Outcome) → HasPlayed told told all all
nothing_played told all = record { done = []; put = sym (extended-nothing told); lines = refl; ending = refl }

-- a line more was put
pub line_played : (old now next : Option (List ℕ)) (all rest : Outcome) (line : List ℕ)
    → HasPlayed old now all (with_line line rest) → next ≡ extended now line → HasPlayed old next all rest
line_played old now next all rest line h e = record {
  done = h.done ++ line;
  put = e ∙ ap (λ o. extended o line) h.put ∙ extended-twice old h.done line;
  lines = h.lines ∙ sym (append_assoc h.done line rest.lines);
  ending = h.ending;
}

-- a part of the next line was put
pub part_played : (old now next : Option (List ℕ)) (all rest : Outcome) (line : List ℕ)
    → HasPlayed old now all (with_line line rest) → PutsPart now next line → PutsPart old next all.lines
part_played old now next all rest line h p = record {
  kept = h.done ++ p.kept;
  rest = p.rest ++ rest.lines;
  whole = h.lines ∙ ap (λ l. h.done ++ (l ++ rest.lines)) p.whole ∙ ap (λ l. h.done ++ l) (append_assoc p.kept p.rest rest.lines) ∙ sym (append_assoc h.done p.kept (p.rest ++ rest.lines));
  put = p.put ∙ ap (λ o. extended o p.kept) h.put ∙ extended-twice old h.done p.kept;
}

-- all was put
pub all_played : (old now : Option (List ℕ)) (all : Outcome) (ending : Ending) → HasPlayed old now all (ended ending) → (now ≡ extended old all.lines) × (ending ≡ all.ending)
all_played old now all ending h = (h.put ∙ ap (extended old) (sym (append-nil h.done) ∙ sym h.lines), sym h.ending)

-- ---- two programs that are compared

-- they are these, under this relation
pub record AreOf (old new : Program) (rel : Relation) (d : Compared) : Type 0 where
  pub old_is : d.old_program ≡ old
  pub new_is : d.new_program ≡ new
  pub relation_is : d.relation ≡ rel

pub are_allowed : (old new : Program) (rel : Relation) (d : Compared) (row : Row) (b c : Bool) → AreOf old new rel d → b ≡ allows d row → b ≡ c
    → is_allowed (relation_view rel) row d.pair ≡ c
are_allowed old new rel d row b c h e may = ap (λ r. is_allowed (relation_view r) row d.pair) (sym h.relation_is) ∙ sym e ∙ may

pub are_related : (old new : Program) (rel : Relation) (d : Compared) (b c : Bool) → AreOf old new rel d → b ≡ is_pair_related d → b ≡ c → is_related (relation_view rel) d.pair ≡ c
are_related old new rel d b c h e is = ap (λ r. is_related (relation_view r) d.pair) (sym h.relation_is) ∙ sym e ∙ is

-- a step leaves the programs and the relation
pub are_still : (old new : Program) (rel : Relation) (d now next : Compared) (pair : Pair) → AreOf old new rel d → now ≡ d → next ≡ with_pair pair now → AreOf old new rel next
are_still old new rel d now next pair h e step = record {
  old_is = ap (λ x. x.old_program) step ∙ ap (λ x. x.old_program) e ∙ h.old_is;
  new_is = ap (λ x. x.new_program) step ∙ ap (λ x. x.new_program) e ∙ h.new_is;
  relation_is = ap (λ x. x.relation) step ∙ ap (λ x. x.relation) e ∙ h.relation_is;
}

pub pair_stepped : (old new : Program) (rel : Relation) (d now next : Compared) (row : Row) → AreOf old new rel d → now ≡ d → next ≡ with_pair (pair_after now row) now
    → next.pair ≡ after_row (program_view old) (program_view new) (relation_view rel) row d.pair
pair_stepped old new rel d now next row h e step =
    ap (λ x. x.pair) step
    ∙ ap (λ x. pair_after x row) e
    ∙ ap (λ p. after_row (program_view p) (program_view d.new_program) (relation_view d.relation) row d.pair) h.old_is
    ∙ ap (λ p. after_row (program_view old) (program_view p) (relation_view d.relation) row d.pair) h.new_is
    ∙ ap (λ r. after_row (program_view old) (program_view new) (relation_view r) row d.pair) h.relation_is

-- ---- one row

outcome-row : (old new : ProgramData) (rel : RelationData) (k : ℕ) (pair : Pair) (row : Row) (rows : List Row) → is_allowed rel row pair ≡ true
    → outcome_from old new rel k pair (row ∷ rows) ≡ with_line (scan_line old new (k + 1) (after_row old new rel row pair))
    (if is_related rel (after_row old new rel row pair) then outcome_from old new rel (k + 1) (after_row old new rel row pair) rows else ended (Unrelated (k + 1)))
outcome-row old new rel k pair row rows a = rw a refl

next_row : (rows : List Row) (done : ℕ) (row : Row) → slice_get rows done ≡ Some row → drop done rows ≡ row ∷ drop (done + 1) rows
next_row rows done row at = drop_more rows done row (slice_get_within rows done row at) ∙ ap (λ r. r ∷ drop (done + 1) rows) (get_or_from_slice_get rows done row row at)

-- what is to come after a row that is allowed: its line, and then by the pair that it leaves
abbrev to_come : ProgramData → ProgramData → RelationData → ℕ → Pair → List Row → Outcome
to_come old new rel done next rows = if is_related rel next then outcome_from old new rel (done + 1) next rows else ended (Unrelated (done + 1))

-- a row was run, and its line is to be put
pub record HasRunRow (old new : ProgramData) (rel : RelationData) (told now : Option (List ℕ)) (all : Outcome) (done : ℕ) (next : Pair) (rows : List Row) : Type 0 where
  pub played : HasPlayed told now all (with_line (scan_line old new (done + 1) next) (to_come old new rel done next rows))

pub row_run : (old new : ProgramData) (rel : RelationData) (told now : Option (List ℕ)) (all : Outcome) (done : ℕ) (pair next : Pair) (rows : List Row) (row : Row)
    → HasPlayed told now all (outcome_from old new rel done pair (drop done rows))
    → slice_get rows done ≡ Some row → is_allowed rel row pair ≡ true → next ≡ after_row old new rel row pair
    → HasRunRow old new rel told now all done next (drop (done + 1) rows)
row_run old new rel told now all done pair next rows row h at allowed stepped =
    let more = drop (done + 1) rows in
    let cut : drop done rows ≡ row ∷ more = next_row rows done row at in
    let first = subst (λ r. HasPlayed told now all (outcome_from old new rel done pair r)) cut h in
    let then_line = subst (HasPlayed told now all) (outcome-row old new rel done pair row more allowed) first in
    record { played = subst (λ p. HasPlayed told now all (with_line (scan_line old new (done + 1) p) (to_come old new rel done p more))) (sym stepped) then_line }

-- a row that is allowed was run by a step
pub step_run : (old new : Program) (rel : Relation) (told now : Option (List ℕ)) (all : Outcome) (done : ℕ) (d held next : Compared) (rows : List Row) (row : Row) (b : Bool)
    → AreOf old new rel d → HasPlayed told now all (outcome_from (program_view old) (program_view new) (relation_view rel) done d.pair (drop done rows))
    → slice_get rows done ≡ Some row → b ≡ allows d row → b ≡ true → held ≡ d → next ≡ with_pair (pair_after held row) held
    → HasRunRow (program_view old) (program_view new) (relation_view rel) told now all done next.pair (drop (done + 1) rows)
step_run old new rel told now all done d held next rows row b are h at e may still step =
    row_run (program_view old) (program_view new) (relation_view rel) told now all done d.pair next.pair rows row h at (are_allowed old new rel d row b true are e may)
    (pair_stepped old new rel d held next row are still step)

outcome-not_allowed : (old new : ProgramData) (rel : RelationData) (k : ℕ) (pair : Pair) (row : Row) (rows : List Row) → is_allowed rel row pair ≡ false
    → outcome_from old new rel k pair (row ∷ rows) ≡ ended (NotAllowed (k + 1))
outcome-not_allowed old new rel k pair row rows a = rw a refl

-- a row that is not allowed ends the replay
pub row_refused : (old new : Program) (rel : Relation) (told now : Option (List ℕ)) (all : Outcome) (done : ℕ) (d : Compared) (rows : List Row) (row : Row) (b : Bool)
    → AreOf old new rel d → HasPlayed told now all (outcome_from (program_view old) (program_view new) (relation_view rel) done d.pair (drop done rows))
    → slice_get rows done ≡ Some row → b ≡ allows d row → b ≡ false
    → (now ≡ extended told all.lines) × (NotAllowed (done + 1) ≡ all.ending)
row_refused old new rel told now all done d rows row b are h at e not =
    let more = drop (done + 1) rows in
    let cut : drop done rows ≡ row ∷ more = next_row rows done row at in
    let first = subst (λ r. HasPlayed told now all (outcome_from (program_view old) (program_view new) (relation_view rel) done d.pair r)) cut h in
    let last = outcome-not_allowed (program_view old) (program_view new) (relation_view rel) done d.pair row more (are_allowed old new rel d row b false are e not) in
    all_played told now all (NotAllowed (done + 1)) (subst (HasPlayed told now all) last first)

-- its line was put, and the pair is related
pub row_related : (old new : ProgramData) (rel : RelationData) (told now put : Option (List ℕ)) (all : Outcome) (done : ℕ) (next : Pair) (rows : List Row)
    → HasRunRow old new rel told now all done next rows → put ≡ extended now (scan_line old new (done + 1) next) → is_related rel next ≡ true
    → HasPlayed told put all (outcome_from old new rel (done + 1) next rows)
row_related old new rel told now put all done next rows h e r =
    let line = scan_line old new (done + 1) next in
    line_played told now put all (outcome_from old new rel (done + 1) next rows) line
    (subst (λ b. HasPlayed told now all (with_line line (if b then outcome_from old new rel (done + 1) next rows else ended (Unrelated (done + 1))))) r h.played) e

-- its line was put, and the pair is not related
pub row_unrelated : (old new : ProgramData) (rel : RelationData) (told now put : Option (List ℕ)) (all : Outcome) (done : ℕ) (next : Pair) (rows : List Row)
    → HasRunRow old new rel told now all done next rows → put ≡ extended now (scan_line old new (done + 1) next) → is_related rel next ≡ false
    → (put ≡ extended told all.lines) × (Unrelated (done + 1) ≡ all.ending)
row_unrelated old new rel told now put all done next rows h e r =
    let line = scan_line old new (done + 1) next in
    all_played told put all (Unrelated (done + 1)) (line_played told now put all (ended (Unrelated (done + 1))) line
    (subst (λ b. HasPlayed told now all (with_line line (if b then outcome_from old new rel (done + 1) next rows else ended (Unrelated (done + 1))))) r h.played) e)

-- a part of its line was put
pub row_part : (old new : ProgramData) (rel : RelationData) (told now put : Option (List ℕ)) (all : Outcome) (done : ℕ) (next : Pair) (rows : List Row)
    → HasRunRow old new rel told now all done next rows → PutsPart now put (scan_line old new (done + 1) next) → PutsPart told put all.lines
row_part old new rel told now put all done next rows h p =
    part_played told now put all (to_come old new rel done next rows) (scan_line old new (done + 1) next) h.played p

pub on_err : {T E : Type 0} (r : Result T E) (P : Type 0) → P → OnErr r P
on_err (Ok v) P h = tt
on_err (Err e) P h = h
