-- What the code relies on is kept by each line.
use Rattle.std.proofs.Common.{◌≡◌, ℕ, zero, suc, ◌+◌, ◌^◌, ◌<◌, ◌≤◌, Bool, true, false, not, ◌&&◌, List, [], ◌∷◌, length, refl, sym, ap, ◌∙◌, arith, ℤ, append-nil, append_assoc, length-append}
use Rattle.std.specs.Prelude.{nat_lt, ◌==◌, if◌then◌else◌}
use Rattle.std.proofs.lemmas.Bool.{ltb-true}
use Rattle.std.proofs.lemmas.List.{length-set}
use Rattle.clause_core.specs.declared.literal.Lit.{Lit}
use Rattle.clause_core.specs.Formula.{Formula}
use Rattle.clause_core.specs.Clauses.{rises}
use Rattle.clause_core.specs.Deletions.{always}
use Rattle.finding_lines.specs.declared.line.Asked.{Asked}
use Rattle.finding_lines.specs.declared.line.Asked.TheVariants.{First, Step, Goal}
use Rattle.finding_lines.specs.declared.line.Conclusion.{Conclusion}
use Rattle.finding_lines.specs.declared.line.Line.{Line}
use Rattle.finding_lines.specs.declared.line.Line.TheVariants as lines
use Rattle.derivation_check.specs.Checks.{Derivation, held_of}
use Rattle.derivation_check.specs.Deletions.{derived_place, may_delete_all, without, without_all}
use Rattle.scan_model.specs.Pairs.{Pair}
use Rattle.scan_model.specs.InRange.{Row}
use Rattle.scan_model.specs.Verdicts.{CandidateSet}
use Rattle.queries.specs.Comparisons.{Comparison, IsComparison}
use Rattle.queries.specs.Settings.{Setting, setting_of, meets, first_set}
use Rattle.queries.specs.Questions.{QueryData, first, step, goal, deep, walk, IsQueryOf}
use Rattle.judgement.specs.Steps.{clause_of, hints_of, step_of, opened, with_derived, accepts, is_empty}
use Rattle.judgement.specs.Places.{Place, at_top, at_header, at_walks, in_walk, at_drops, at_kept, at_deep, at_scans, at_end, finished, in_log, in_query, Moved, goes, fails}
use Rattle.judgement.specs.declared.answers.Reason.{Reason}
use Rattle.judgement.specs.declared.answers.Reason.TheVariants.{B1, B9}
use Rattle.judgement.specs.declared.answers.Reach.{Reach}
use Rattle.judgement.specs.declared.answers.Reach.TheVariants.{Untold, Unwalked, Greatest, AtLeast}
use Rattle.judgement.specs.Tests.{when, is_deep, is_walk, is_of_second, drop_row, pair_row, scan_row, first_row, walk_row, deleting, at_top_next, at_header_next, at_walks_next, in_walk_next, at_drops_next, at_kept_next, at_deep_next, at_scans_next, at_end_next, in_log_next, in_query_next, after_deep, after_first, after_walk, open_by, when_spent, has_form_at, next_by, next}
use Rattle.finding_check.specs.Rooms.{IsSmall, HasRoom, HasRoomAfter}

pub small : (c : Comparison) → IsComparison c → IsSmall (setting_of c)
unfolding setting_of
small c is = record { candidates = is.few; depth = is.depth; conflicts = is.conflicts }

-- one row more than allowed so far
pub IsQueryOf-walk : (c : Comparison) (rows : ℕ) → rows < (setting_of c).depth → IsQueryOf c (walk (suc rows))
unfolding setting_of
IsQueryOf-walk c rows less = ((omega arith), (omega arith))

-- there is room for fewer lines where there is for more
pub HasRoom-more : (s : Setting) (lines more : ℕ) → lines ≤ more → (place : Place) → HasRoom s lines place → HasRoom s more place
HasRoom-more s lines more le (at_walks rows pair) r = r
HasRoom-more s lines more le (in_walk rows d left) r = omega (arith, r, le)
HasRoom-more s lines more le (at_deep reach set none) r = r
HasRoom-more s lines more le (at_scans reach scans rest pair) r = r
HasRoom-more s lines more le (in_log d behind) r = ((let few = r.0 in omega (arith, few, le)), HasRoom-more s lines more le behind r.1)
HasRoom-more s lines more le (in_query reach asked d left) r = omega (arith, r, le)
HasRoom-more s lines more le at_top r = tt
HasRoom-more s lines more le (at_header reach) r = tt
HasRoom-more s lines more le (at_drops reach set) r = tt
HasRoom-more s lines more le (at_kept reach set) r = tt
HasRoom-more s lines more le (at_end reach verdict) r = tt
HasRoom-more s lines more le (finished reach verdict) r = tt

length-with_derived : (d : Derivation) (clause : List Lit) → length (held_of (with_derived d clause)) ≡ length (held_of d) + 1
length-with_derived d clause =
    ap length (sym (append_assoc d.formula.clauses d.derived (clause ∷ []))) ∙ length-append (held_of d) (clause ∷ [])

-- as many clauses are numbered as before
length-without : (d : Derivation) (number : ℕ) → length (held_of (without d number)) ≡ length (held_of d)
length-without d number =
    let all = length-append d.formula.clauses d.derived in
    let left = length-append d.formula.clauses (without d number).derived in
    let same : length (without d number).derived ≡ length d.derived = length-set d.derived (derived_place d number) always in
    omega (arith, all, left, same)

length-without_all : (d : Derivation) (numbers : List ℕ) → length (held_of (without_all d numbers)) ≡ length (held_of d)
length-without_all d [] = refl
length-without_all d (n ∷ ns) = length-without_all (without d n) ns ∙ length-without d n

length-opened : (f : Formula) → length (held_of (opened f)) ≡ length f.clauses
length-opened f = ap length (append-nil f.clauses)

module _ (s : Setting) (lines : ℕ) where
  room_when : (b : Bool) (r : Reason) (m : Moved) → (b ≡ true → HasRoomAfter s lines m) → HasRoomAfter s lines (when b r m)
  room_when true r m h = h refl
  room_when false r m h = tt

  room_either : (b : Bool) (p q : Place) → (b ≡ true → HasRoom s lines p) → (b ≡ false → HasRoom s lines q) → HasRoom s lines (if b then p else q)
  room_either true p q f g = f refl
  room_either false p q f g = g refl

  room_opened : (f : Formula) → length f.clauses < 2 ^ 31 → length (held_of (opened f)) < 2 ^ 31 + lines
  room_opened f few = omega (arith, few, length-opened f)

  room_after_first : (reach : Reach) → 0 < s.depth → HasRoom s lines (after_first s reach)
  room_after_first Untold some_depth = tt
  room_after_first Unwalked some_depth = some_depth
  room_after_first (Greatest rows) some_depth = some_depth
  room_after_first (AtLeast rows) some_depth = some_depth

  room_first : (reach : Reach) (row : Row) → 0 < s.depth → HasRoomAfter s lines (first_row s reach row)
  room_first reach row some_depth = room_when (s.fits row) _ _ (λ fits. room_when (s.allowed row s.start) _ _ (λ ok. room_after_first reach some_depth))

  room_after_walk : (rows : ℕ) (pair : Pair) → HasRoom s lines (after_walk s rows pair)
  room_after_walk rows pair = room_either (nat_lt rows s.depth) (at_walks rows pair) (at_drops (Greatest rows) (first_set s)) (λ less. ltb-true rows s.depth less) (λ more. tt)

  room_walk : (rows : ℕ) (pair : Pair) (row : Row) → HasRoomAfter s lines (walk_row s rows pair row)
  room_walk rows pair row = room_when (s.fits row) _ _ (λ fits. room_when (s.allowed row pair) _ _ (λ ok. room_after_walk (suc rows) (s.after row pair)))

  room_spent : (left : ℕ) (moved : Moved) → HasRoomAfter s lines moved → HasRoomAfter s lines (when_spent left moved)
  room_spent left (goes place) r = room_when (left == 0) _ _ (λ none. r)
  room_spent left (fails reason) r = tt

  room_deleting : (d : Derivation) (ids : List ℤ) (place : Derivation → Place) → ((e : Derivation) → length (held_of e) ≡ length (held_of d) → HasRoom s lines (place e))
      → HasRoomAfter s lines (deleting d ids place)
  room_deleting d ids place h = room_when (may_delete_all d (hints_of ids)) _ _ (λ may. h (without_all d (hints_of ids)) (length-without_all d (hints_of ids)))

  room_drop : (reach : Reach) (set : CandidateSet) (pair : Pair) (row : Row) → HasRoomAfter s lines (drop_row s reach set pair row)
  room_drop reach set pair row =
      room_when (s.in_range pair && s.fits row) _ _ (λ fits. room_when (s.allowed row pair) _ _ (λ ok. room_when (meets s set pair) _ _ (λ met.
      room_when (not (meets s set (s.after row pair))) _ _ (λ some. tt))))

  room_pair : (reach : Reach) (set : CandidateSet) (pair : Pair) (row : Row) → 0 < s.depth → HasRoomAfter s lines (pair_row s reach set pair row)
  room_pair reach set pair row some_depth =
      room_when (s.in_range pair && s.fits row) _ _ (λ fits. room_when (s.allowed row pair) _ _ (λ ok. room_when (meets s set pair) _ _ (λ met.
      room_when (not (s.related (s.after row pair))) _ _ (λ ends. some_depth))))

  room_scan : (reach : Reach) (scans more : ℕ) (pair : Pair) (row : Row) → scans ≤ s.depth → HasRoomAfter s lines (scan_row s reach scans more pair row)
  room_scan reach scans zero pair row most =
      room_when (s.fits row) _ _ (λ fits. room_when (s.allowed row pair) _ _ (λ ok. room_when (not (s.related (s.after row pair))) _ _ (λ ends. tt)))
  room_scan reach scans (suc more) pair row most =
      room_when (s.fits row) _ _ (λ fits. room_when (s.allowed row pair) _ _ (λ ok. room_when (s.related (s.after row pair)) _ _ (λ related. most)))

  room_deep : (reach : Reach) (set : CandidateSet) (scans : ℕ) → HasRoom s lines (after_deep s reach set scans)
  room_deep reach set scans = room_either (nat_lt scans s.depth) (at_deep reach set scans) (at_end reach (open_by s set)) (λ less. ltb-true scans s.depth less) (λ more. tt)

module _ (c : Comparison) (formula : QueryData → Formula) (is : IsComparison c) (few : (query : QueryData) → IsQueryOf c query → length (formula query).clauses < 2 ^ 31) (count : ℕ) where
  room_header : (reach : Reach) (line : Line) → HasRoomAfter (setting_of c) count (at_header_next (setting_of c) formula reach line)
  unfolding setting_of
  room_header reach (lines.Seen row) = room_first (setting_of c) count reach row is.some_depth
  room_header reach (lines.Log First) = (room_opened (setting_of c) count (formula first) (few first tt), tt)
  room_header reach (lines.Query First) = room_opened (setting_of c) count (formula first) (few first tt)
  room_header reach line = tt

  room_walks : (rows : ℕ) (pair : Pair) (line : Line) → rows < (setting_of c).depth → HasRoomAfter (setting_of c) count (at_walks_next (setting_of c) formula rows pair line)
  room_walks rows pair (lines.Walk row) less = room_walk (setting_of c) count rows pair row
  room_walks rows pair (lines.Log asked) less =
      room_when (setting_of c) count (nat_lt 0 rows && is_walk (suc rows) asked) _ _
      (λ same. (room_opened (setting_of c) count (formula (walk (suc rows))) (few (walk (suc rows)) (IsQueryOf-walk c rows less)), tt))
  room_walks rows pair (lines.Query asked) less =
      room_when (setting_of c) count (nat_lt 0 rows && is_walk (suc rows) asked) _ _
      (λ same. room_opened (setting_of c) count (formula (walk (suc rows))) (few (walk (suc rows)) (IsQueryOf-walk c rows less)))
  room_walks rows pair line less = tt

  room_drops : (reach : Reach) (set : CandidateSet) (line : Line) → HasRoomAfter (setting_of c) count (at_drops_next (setting_of c) formula reach set line)
  room_drops reach set (lines.Dropping numbers) = room_drop (setting_of c) count reach set _ _
  room_drops reach set (lines.Log Step) = (room_opened (setting_of c) count (formula (step set)) (few (step set) tt), tt)
  room_drops reach set (lines.Query Step) = room_opened (setting_of c) count (formula (step set)) (few (step set) tt)
  room_drops reach set line = tt

  room_kept : (reach : Reach) (set : CandidateSet) (line : Line) → HasRoomAfter (setting_of c) count (at_kept_next (setting_of c) formula reach set line)
  unfolding setting_of
  room_kept reach set (lines.Pair numbers) = room_pair (setting_of c) count reach set _ _ is.some_depth
  room_kept reach set (lines.Log Goal) = (room_opened (setting_of c) count (formula (goal set)) (few (goal set) tt), tt)
  room_kept reach set (lines.Query Goal) = room_opened (setting_of c) count (formula (goal set)) (few (goal set) tt)
  room_kept reach set line = tt

  room_in_deep : (reach : Reach) (set : CandidateSet) (none : ℕ) (line : Line) → none < (setting_of c).depth → HasRoomAfter (setting_of c) count (at_deep_next (setting_of c) formula reach set none line)
  unfolding setting_of
  room_in_deep reach set none (lines.Scan row) less = room_scan (setting_of c) count reach (none + 1) none _ row (omega arith)
  room_in_deep reach set none (lines.Log asked) less =
      room_when (setting_of c) count (is_deep (none + 1) asked) _ _
      (λ same. (room_opened (setting_of c) count (formula (deep (none + 1))) (few (deep (none + 1)) ((omega arith), (omega arith))), room_deep (setting_of c) count reach set (none + 1)))
  room_in_deep reach set none (lines.Query asked) less =
      room_when (setting_of c) count (is_deep (none + 1) asked) _ _
      (λ same. room_opened (setting_of c) count (formula (deep (none + 1))) (few (deep (none + 1)) ((omega arith), (omega arith))))
  room_in_deep reach set none line less = tt

  room_scans : (reach : Reach) (scans more : ℕ) (pair : Pair) (line : Line) → scans ≤ (setting_of c).depth → HasRoomAfter (setting_of c) count (at_scans_next (setting_of c) reach scans more pair line)
  room_scans reach scans more pair (lines.Scan row) most = room_scan (setting_of c) count reach scans more pair row most
  room_scans reach scans more pair line most = tt

-- behind a line there is room for one more
module _ (c : Comparison) (formula : QueryData → Formula) (is : IsComparison c) (few : (query : QueryData) → IsQueryOf c query → length (formula query).clauses < 2 ^ 31) (count : ℕ) where
  room_log : (d : Derivation) (behind : Place) (line : Line) → HasRoom (setting_of c) count (in_log d behind) → HasRoomAfter (setting_of c) (count + 1) (in_log_next d behind line)
  room_log d behind (lines.Derived literals hints) r =
      room_when (setting_of c) (count + 1) (rises d.formula.variables (clause_of literals)) _ _ (λ ordered. room_when (setting_of c) (count + 1) (accepts d (step_of literals hints)) _ _ (λ ok.
      room_either (setting_of c) (count + 1) (is_empty (clause_of literals)) behind (in_log (with_derived d (clause_of literals)) behind)
      (λ empty. HasRoom-more (setting_of c) count (count + 1) (omega arith) behind r.1)
      (λ some. ((let before = r.0 in omega (arith, before, length-with_derived d (clause_of literals))), HasRoom-more (setting_of c) count (count + 1) (omega arith) behind r.1))))
  room_log d behind (lines.Deleted ids) r =
      room_deleting (setting_of c) (count + 1) d ids (λ held. in_log held behind)
      (λ held same. ((let before = r.0 in omega (arith, before, same)), HasRoom-more (setting_of c) count (count + 1) (omega arith) behind r.1))
  room_log d behind line r = tt

  room_in_walk : (rows : ℕ) (d : Derivation) (left : ℕ) (told : Bool) (line : Line) → length (held_of d) < 2 ^ 31 + count
      → HasRoomAfter (setting_of c) (count + 1) (in_walk_next (setting_of c) formula rows d left told line)
  room_in_walk rows d left told (lines.Derived literals hints) before =
      room_when (setting_of c) (count + 1) (rises d.formula.variables (clause_of literals)) _ _ (λ ordered. room_when (setting_of c) (count + 1) (accepts d (step_of literals hints)) _ _ (λ ok.
      room_when (setting_of c) (count + 1) (not (is_empty (clause_of literals)) && (told && nat_lt 0 left)) _ _ (λ more. omega (arith, before, length-with_derived d (clause_of literals)))))
  room_in_walk rows d left told (lines.Deleted ids) before =
      room_deleting (setting_of c) (count + 1) d ids (λ held. in_walk rows held left) (λ held same. omega (arith, before, same))
  room_in_walk rows d left told line before =
      room_spent (setting_of c) (count + 1) left (at_drops_next (setting_of c) formula (AtLeast rows) (first_set (setting_of c)) line)
      (room_drops c formula is few (count + 1) (AtLeast rows) (first_set (setting_of c)) line)

  room_query : (reach : Reach) (asked : Asked) (d : Derivation) (left : ℕ) (told : Bool) (line : Line) → length (held_of d) < 2 ^ 31 + count
      → HasRoomAfter (setting_of c) (count + 1) (in_query_next (setting_of c) reach asked d left told line)
  room_query reach asked d left told (lines.Derived literals hints) before =
      room_when (setting_of c) (count + 1) (rises d.formula.variables (clause_of literals)) _ _ (λ ordered. room_when (setting_of c) (count + 1) (accepts d (step_of literals hints)) _ _ (λ ok.
      room_when (setting_of c) (count + 1) (not (is_empty (clause_of literals)) && (told && nat_lt 0 left)) _ _ (λ more. omega (arith, before, length-with_derived d (clause_of literals)))))
  room_query reach asked d left told (lines.Deleted ids) before =
      room_deleting (setting_of c) (count + 1) d ids (λ held. in_query reach asked held left) (λ held same. omega (arith, before, same))
  room_query reach asked d left told (lines.End conclusion) before =
      room_when (setting_of c) (count + 1) (left == 0) _ _ (λ all. room_when (setting_of c) (count + 1) told _ _ (λ same. tt))
  room_query reach asked d left told line before = tt

  room_top : (line : Line) → HasRoomAfter (setting_of c) (count + 1) (at_top_next line)
  room_top (lines.Header version) = tt
  room_top line = room_when (setting_of c) (count + 1) (not (is_of_second line)) B1 (fails B9) (λ first. tt {0})

  room_end : (reach : Reach) (verdict : Conclusion) (told : Bool) (line : Line) → HasRoomAfter (setting_of c) (count + 1) (at_end_next reach verdict told line)
  room_end reach verdict told (lines.End conclusion) = room_when (setting_of c) (count + 1) told _ _ (λ same. tt)
  room_end reach verdict told line = tt

  room_next_by : (place : Place) (told : Bool) (line : Line) → HasRoom (setting_of c) count place → HasRoomAfter (setting_of c) (count + 1) (next_by (setting_of c) formula place told line)
  room_next_by at_top told line r = room_top line
  room_next_by (at_header reach) told line r = room_header c formula is few (count + 1) reach line
  room_next_by (at_walks rows pair) told line r = room_walks c formula is few (count + 1) rows pair line r
  room_next_by (in_walk rows d left) told line r = room_in_walk rows d left told line r
  room_next_by (at_drops reach set) told line r = room_drops c formula is few (count + 1) reach set line
  room_next_by (at_kept reach set) told line r = room_kept c formula is few (count + 1) reach set line
  room_next_by (at_deep reach set none) told line r = room_in_deep c formula is few (count + 1) reach set none line r
  room_next_by (at_scans reach scans more pair) told line r = room_scans c formula is few (count + 1) reach scans more pair line r
  room_next_by (at_end reach verdict) told line r = room_end reach verdict told line
  room_next_by (finished reach verdict) told line r = tt
  room_next_by (in_log d behind) told line r = room_log d behind line r
  room_next_by (in_query reach asked d left) told line r = room_query reach asked d left told line r

  pub room_next : (place : Place) (told : Bool) (line : Line) → HasRoom (setting_of c) count place → HasRoomAfter (setting_of c) (count + 1) (next (setting_of c) formula place told line)
  room_next place told line r = room_when (setting_of c) (count + 1) (has_form_at (setting_of c) formula place line) _ _ (λ form. room_next_by place told line r)
