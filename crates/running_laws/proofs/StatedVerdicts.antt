-- Programs that differ in their POUs alone, and leave the same pair after each row, have the same verdicts, and their replays end alike.
use Rattle.std.proofs.Common.{◌≡◌, ℕ, ◌+◌, List, [], ◌∷◌, ◌↔◌, refl, sym, ap, subst, ◌∙◌}
use Rattle.source_tree.specs.Syntax.{PouData, FileData}
use Rattle.program_tree.specs.Tree.{CalledData, ProgramData}
use Rattle.scan_model.specs.declared.verdict.Verdict.{Verdict}
use Rattle.scan_model.specs.declared.verdict.Verdict.TheVariants.{Vacuous, Related, Different, Open}
use Rattle.scan_model.specs.declared.relation.Ending.{Ending}
use Rattle.scan_model.specs.InRange.{Row}
use Rattle.scan_model.specs.Pairs.{RelationData, Pair, start, is_allowed, is_related, after_row}
use Rattle.scan_model.specs.Runs.{after_rows, AllRelated, IsRun, all_related, first_unrelated, first_not_allowed}
use Rattle.scan_model.specs.Verdicts.{CandidateSet, Meets, IsInductive, IsKept, IsGreatest, IsSizeOfGreatest, Proves, IsProved, IsBreakFrom, HasBreak, NoBreakBelow, IsVerdict}
use Rattle.typing.specs.TypedPrograms.{pou_body, called_by, typed_program}
use Rattle.running_pous.specs.Running.{may_run}
use Rattle.running_pous.specs.Stated.{stated_by, stated_program}
use Rattle.running_laws.proofs.StatedScans.{rows_same}

-- a program with these POUs
abbrev pub calling : ProgramData → List CalledData → ProgramData
calling p cs = record p { called = cs }

-- two programs leave the same pair after each row with some POUs as with others
abbrev pub LeaveSame : ProgramData → ProgramData → List CalledData → List CalledData → List CalledData → List CalledData → RelationData → Type 0
LeaveSame old new cs ds es fs rel =
    (row : Row) (pair : Pair) → after_row (calling old cs) (calling new ds) rel row pair ≡ after_row (calling old es) (calling new fs) rel row pair

turned : (old new : ProgramData) (cs ds es fs : List CalledData) (rel : RelationData) → LeaveSame old new cs ds es fs rel → LeaveSame old new es fs cs ds rel
turned old new cs ds es fs rel same row pair = sym (same row pair)

-- ---- what holds with the ones holds with the others

module _ (old new : ProgramData) (cs ds es fs : List CalledData) (rel : RelationData) (same : LeaveSame old new cs ds es fs rel) where
  inductive_too : (set : CandidateSet) → IsInductive (calling old cs) (calling new ds) rel set → IsInductive (calling old es) (calling new fs) rel set
  inductive_too set is = record {
    starts = is.starts;
    steps = λ pair row range meets ok.
        subst (λ (after : Pair). Meets (calling old es) (calling new fs) rel set after) (same row pair) (is.steps pair row range meets ok);
  }

  kept_too : (n : ℕ) → IsKept (calling old cs) (calling new ds) rel n → IsKept (calling old es) (calling new fs) rel n
  kept_too n kept = (kept.0, inductive_too kept.0 kept.1, kept.2)

  related_same : (row : Row) (pair : Pair) → is_related rel (after_row (calling old es) (calling new fs) rel row pair) ≡ is_related rel (after_row (calling old cs) (calling new ds) rel row pair)
  related_same row pair = sym (ap (λ (after : Pair). is_related rel after) (same row pair))

  proves_too : (set : CandidateSet) → Proves (calling old cs) (calling new ds) rel set → Proves (calling old es) (calling new fs) rel set
  proves_too set proves pair row range meets ok = related_same row pair ∙ proves pair row range meets ok

  broken_too : (pair : Pair) (rows : List Row) → IsBreakFrom (calling old cs) (calling new ds) rel pair rows → IsBreakFrom (calling old es) (calling new fs) rel pair rows
  broken_too pair [] broken = broken
  broken_too pair (row ∷ []) broken = (broken.0, related_same row pair ∙ broken.1)
  broken_too pair (row ∷ next ∷ rows) broken =
      let rest = broken_too (after_row (calling old cs) (calling new ds) rel row pair) (next ∷ rows) broken.2 in (
        broken.0,
        related_same row pair ∙ broken.1,
        subst (λ (after : Pair). IsBreakFrom (calling old es) (calling new fs) rel after (next ∷ rows)) (same row pair) rest,
      )

  break_too : (d : ℕ) → HasBreak (calling old cs) (calling new ds) rel d → HasBreak (calling old es) (calling new fs) rel d
  break_too d broken = (broken.0, broken.1, broken_too (start old new) broken.0 broken.2)

  related_too : (rows : List Row) (pair : Pair) → AllRelated (calling old cs) (calling new ds) rel rows pair → AllRelated (calling old es) (calling new fs) rel rows pair
  related_too [] pair all = tt
  related_too (row ∷ rows) pair all =
      let rest = related_too rows (after_row (calling old cs) (calling new ds) rel row pair) all.2 in
      (all.0, related_same row pair ∙ all.1, subst (λ (after : Pair). AllRelated (calling old es) (calling new fs) rel rows after) (same row pair) rest)

  after_same : (rows : List Row) (pair : Pair) → after_rows (calling old cs) (calling new ds) rel rows pair ≡ after_rows (calling old es) (calling new fs) rel rows pair
  after_same [] pair = refl
  after_same (row ∷ rows) pair =
      after_same rows (after_row (calling old cs) (calling new ds) rel row pair)
      ∙ ap (λ (after : Pair). after_rows (calling old es) (calling new fs) rel rows after) (same row pair)

  allowed_same : (rows : List Row) (row : Row) (pair : Pair)
      → is_allowed rel row (after_rows (calling old es) (calling new fs) rel rows pair) ≡ is_allowed rel row (after_rows (calling old cs) (calling new ds) rel rows pair)
  allowed_same rows row pair = sym (ap (λ (after : Pair). is_allowed rel row after) (after_same rows pair))

  last_same : (rows : List Row) (row : Row) (pair : Pair)
      → is_related rel (after_row (calling old es) (calling new fs) rel row (after_rows (calling old es) (calling new fs) rel rows pair))
      ≡ is_related rel (after_row (calling old cs) (calling new ds) rel row (after_rows (calling old cs) (calling new ds) rel rows pair))
  last_same rows row pair =
      sym (ap (λ (after : Pair). is_related rel (after_row (calling old es) (calling new fs) rel row after)) (after_same rows pair))
      ∙ related_same row (after_rows (calling old cs) (calling new ds) rel rows pair)

  run_too : (pair : Pair) (rows run : List Row) (ending : Ending) → IsRun (calling old cs) (calling new ds) rel pair rows run ending → IsRun (calling old es) (calling new fs) rel pair rows run ending
  run_too pair rows run ending (all_related all is ends) = all_related (related_too rows pair all) is ends
  run_too pair rows run ending (first_unrelated before rest row split all allowed unrelated is ends) =
      first_unrelated before rest row split (related_too before pair all) (allowed_same before row pair ∙ allowed) (last_same before row pair ∙ unrelated) is ends
  run_too pair rows run ending (first_not_allowed before rest row split all refused is ends) =
      first_not_allowed before rest row split (related_too before pair all) (allowed_same before row pair ∙ refused) is ends

-- ---- what asks for both directions

module _ (old new : ProgramData) (cs ds es fs : List CalledData) (rel : RelationData) (same : LeaveSame old new cs ds es fs rel) where
  greatest_too : (set : CandidateSet) → IsGreatest (calling old cs) (calling new ds) rel set → IsGreatest (calling old es) (calling new fs) rel set
  greatest_too set great n below = (
    λ inside. kept_too old new cs ds es fs rel same n ((great n below).0 inside),
    λ kept. (great n below).1 (kept_too old new es fs cs ds rel (turned old new cs ds es fs rel same) n kept),
  )

  size_too : (k : ℕ) → IsSizeOfGreatest (calling old cs) (calling new ds) rel k → IsSizeOfGreatest (calling old es) (calling new fs) rel k
  size_too k size = (size.0, greatest_too size.0 size.1, size.2)

  proved_too : IsProved (calling old cs) (calling new ds) rel → IsProved (calling old es) (calling new fs) rel
  proved_too proved = (proved.0, greatest_too proved.0 proved.1, proves_too old new cs ds es fs rel same proved.0 proved.2)

  unbroken_too : (d : ℕ) → NoBreakBelow (calling old cs) (calling new ds) rel d → NoBreakBelow (calling old es) (calling new fs) rel d
  unbroken_too d none e below broken = none e below (break_too old new es fs cs ds rel (turned old new cs ds es fs rel same) e broken)

module _ (old new : ProgramData) (cs ds es fs : List CalledData) (rel : RelationData) (same : LeaveSame old new cs ds es fs rel) where
  unproved_too : (¬ IsProved (calling old cs) (calling new ds) rel) → ¬ IsProved (calling old es) (calling new fs) rel
  unproved_too none proved = none (proved_too old new es fs cs ds rel (turned old new cs ds es fs rel same) proved)

  verdict_too : (v : Verdict) → IsVerdict (calling old cs) (calling new ds) rel v → IsVerdict (calling old es) (calling new fs) rel v
  verdict_too Vacuous is = is
  verdict_too (Related kept candidates) is = (is.0, proved_too old new cs ds es fs rel same is.1, size_too old new cs ds es fs rel same kept is.2, is.3)
  verdict_too (Different scans) is =
      (is.0, unproved_too is.1, break_too old new cs ds es fs rel same scans is.2, unbroken_too old new cs ds es fs rel same scans is.3, is.4)
  verdict_too (Open kept candidates depth) is =
      (is.0, unproved_too is.1, unbroken_too old new cs ds es fs rel same (depth + 1) is.2, size_too old new cs ds es fs rel same kept is.3, is.4, is.5)

-- ---- the programs that files state

module _ (f g : FileData) (k l : ℕ) (p q : PouData) (rel : RelationData) where
  abbrev old_runs : List CalledData
  old_runs = stated_by f (may_run (called_by f) (pou_body f k p))

  abbrev new_runs : List CalledData
  new_runs = stated_by g (may_run (called_by g) (pou_body g l q))

  stated_same : LeaveSame (typed_program f k p) (typed_program g l q) old_runs new_runs (called_by f) (called_by g) rel
  stated_same row pair = rows_same f g k l p q rel row pair

  typed_same : LeaveSame (typed_program f k p) (typed_program g l q) (called_by f) (called_by g) old_runs new_runs rel
  typed_same row pair = sym (rows_same f g k l p q rel row pair)

  pub verdicts_same : (v : Verdict) → IsVerdict (stated_program f k p) (stated_program g l q) rel v ↔ IsVerdict (typed_program f k p) (typed_program g l q) rel v
  verdicts_same v = (
    λ is. verdict_too (typed_program f k p) (typed_program g l q) old_runs new_runs (called_by f) (called_by g) rel stated_same v is,
    λ is. verdict_too (typed_program f k p) (typed_program g l q) (called_by f) (called_by g) old_runs new_runs rel typed_same v is,
  )

  pub replays_same : (pair : Pair) (rows run : List Row) (ending : Ending)
      → IsRun (stated_program f k p) (stated_program g l q) rel pair rows run ending ↔ IsRun (typed_program f k p) (typed_program g l q) rel pair rows run ending
  replays_same pair rows run ending = (
    λ is. run_too (typed_program f k p) (typed_program g l q) old_runs new_runs (called_by f) (called_by g) rel stated_same pair rows run ending is,
    λ is. run_too (typed_program f k p) (typed_program g l q) (called_by f) (called_by g) old_runs new_runs rel typed_same pair rows run ending is,
  )
