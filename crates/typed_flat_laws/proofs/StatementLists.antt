-- The flat lists of typed statements are typed.
use Rattle.std.proofs.Common.{◌≡◌, ℕ, ◌+◌, ◌<◌, List, ◌∷◌, ◌++◌, length, pos, refl, ap, ◌∙◌, arith}
use Rattle.plc_types.specs.declared.elementary.Elementary.{Elementary}
use Rattle.plc_types.specs.declared.elementary.Elementary.TheVariants as types
use Rattle.program_tree.specs.Tree.{Expression, number, Statement, assign, call_block, choice, cases, repeat, chart, exit, return, own_body, Statements, no_statements, statement, Choices, no_choices, choose, Entries, no_entries, entry}
use Rattle.program_tree.specs.Leaving.{can_exit, can_exit_all, can_return, can_return_all}
use Rattle.program_tree.specs.declared.scratch.Scratch.{Scratch}
use Rattle.program_tree.specs.Places.{whole_cell, place_at}
use Rattle.meaning.specs.StaysIn.{turns_stay}
use Rattle.flat_core.specs.FlatTree.{FlatStatement}
use Rattle.flat_core.specs.FlatView.{nested}
use Rattle.flat_form.specs.Calls.{scratch_in, before}
use Rattle.flat_form.specs.Unless.{Flags, flag_scratch, flag_start, turn_flags, body_flags}
use Rattle.flat_form.specs.FlatLists.{repeated, scratch_of, scratch_of_all, scratch_of_choices, scratch_of_entries, flat_of, flat_of_all, flat_choices, flat_entries}
use Rattle.typed_programs.specs.Scopes.{IsSettable}
use Rattle.typed_programs.specs.Expressions.{Takes}
use Rattle.typed_programs.specs.Statements.{IsTyped, AreTyped, AreTypedChoices, AreTypedEntries}
use Rattle.typed_flat_laws.proofs.TypedLists.{typed_both, takes_at, whole_takes, stand_front, stand_back}
use Rattle.typed_flat_laws.proofs.Standing.{Standing, pous_of}
use Rattle.typed_flat_laws.proofs.Moved.{Stand, left, moved-is, moved-taken}
use Rattle.typed_flat_laws.proofs.CallLists.{Lists, before-typed}
use Rattle.typed_flat_laws.proofs.LabelTests.{labels_test-is}
use Rattle.typed_flat_laws.proofs.ChartCells.{flag-set}
use Rattle.typed_flat_laws.proofs.Leaving.{AreMarks, unless_left-typed, flag_start-typed, turn_flags-are, body_flags-are}
use Rattle.typed_flat_laws.proofs.Turns.{turns-typed}

module _ (s : Standing) where
  -- a cell that statements may set stands at its place
  pub settable-stands : (n : ℕ) → IsSettable s.scope n → place_at s.places (s.owner (s.base + n)) ≡ place_at s.scope.places n
  settable-stands n h = let most = s.within in let low = h.0 in let high = h.1 in s.owns n low (omega arith)

  assign-typed : (flags : Flags) (target : ℕ) (e : Expression) (k : ℕ) → IsSettable s.scope target → Takes (pous_of s) s.scope (place_at s.scope.places target) e → Stand s k (scratch_in s.bodies e) → Lists s (flat_of s.bodies s.owner s.base flags (assign target e) k)
  assign-typed flags target e k settable taken stands =
      typed_both s.places (before s.bodies s.owner s.base e k) _ (before-typed s (place_at s.scope.places target).kind e k taken.0 stands)
      (takes_at s.places (s.owner (s.base + target)) (place_at s.scope.places target) (left s e k) (settable-stands target settable) (moved-taken s (place_at s.scope.places target) e k taken stands), tt)

  run-typed : (flags : Flags) (block offset k : ℕ) → IsTyped (pous_of s) s.scope (call_block block offset) → Stand s k (scratch_of s.bodies (call_block block offset)) → Lists s (flat_of s.bodies s.owner s.base flags (call_block block offset) k)
  run-typed flags block offset k h stands =
      let first = h.1 in
      let room = h.2 in
      let most = s.within in
      let there = λ (n : ℕ) (low : n < length (s.instances block)).
      let e : s.base + offset + n ≡ s.base + (offset + n) = omega arith in
      ap (λ j. place_at s.places (s.owner j)) e ∙ s.owns (offset + n) (omega arith) (omega arith) ∙ h.3 n low in
      s.before.runs block h.0 s.owner (s.base + offset) k there stands

  mutual
    pub statement-typed : (flags : Flags) (t : Statement) (k : ℕ) → IsTyped (pous_of s) s.scope t → AreMarks s.places flags → Stand s k (scratch_of s.bodies t) → Lists s (flat_of s.bodies s.owner s.base flags t k)
    statement-typed flags (assign target e) k h m stands = assign-typed flags target e k h.0 h.1 stands
    statement-typed flags (call_block block offset) k h m stands = run-typed flags block offset k h stands
    statement-typed flags (choice arms other) k h m stands =
        let made = scratch_of_choices s.bodies arms in
        let rest = scratch_of_all s.bodies other in
        choices-typed flags arms k (flat_of_all s.bodies s.owner s.base flags other (k + length made)) h.0 m (stand_front s.places made rest k stands) (list-typed flags other (k + length made) h.1 m (stand_back s.places made rest k stands))
    statement-typed flags (cases kind e es other) k h m stands =
        let mine = scratch_in s.bodies e in
        let j = k + length mine in
        let entries = scratch_of_entries s.bodies es in
        let others = scratch_of_all s.bodies other in
        let front = stand_front s.places mine (whole_cell kind ∷ (entries ++ others)) k stands in
        let back = stand_back s.places mine (whole_cell kind ∷ (entries ++ others)) k stands in
        typed_both s.places (before s.bodies s.owner s.base e k) _ (before-typed s kind e k h.0 front) (
          takes_at s.places j (whole_cell kind) (left s e k) back.0 (whole_takes s.places s.typed (whole_cell kind) (left s e k) refl (moved-is s kind e k h.0 front)),
          entries-typed flags kind j (ap (λ (p : Scratch). p.kind) back.0) es (j + 1) (flat_of_all s.bodies s.owner s.base flags other (j + 1 + length entries)) h.1 m (stand_front s.places entries others (j + 1) back.1)
              (list-typed flags other (j + 1 + length entries) h.2 m (stand_back s.places entries others (j + 1) back.1)),
        )
    statement-typed flags (repeat turns body) k h m stands =
        let exits = can_exit_all body in
        let mine = flag_scratch exits in
        let made = scratch_of_all s.bodies body in
        let rest = repeated turns.count made in
        let front = stand_front s.places mine rest k stands in
        let inside = turn_flags exits flags k in
        let marks = turn_flags-are s.places exits flags k front m in
        typed_both s.places (flag_start exits k) _ (flag_start-typed s.places s.typed exits k front)
        (turns-typed s.places s.typed exits (can_return_all body) inside marks (s.owner (s.base + turns.control)) turns.count turns.first turns.step made (flat_of_all s.bodies s.owner s.base inside body)
        (ap (λ (p : Scratch). turns_stay turns p.range) (settable-stands turns.control h.0) ∙ h.1) (λ j r. list-typed inside body j h.2 marks r) (k + length mine) (stand_back s.places mine rest k stands))
    statement-typed flags (chart _ _ _) k h m stands = absurd h
    statement-typed flags exit k h m stands = (flag-set s.places s.typed flags.exit (number (pos 1)) m.0 refl, tt)
    statement-typed flags return k h m stands = (flag-set s.places s.typed flags.returning (number (pos 1)) m.1 refl, tt)
    statement-typed flags (own_body ss) k h m stands =
        let returns = can_return_all ss in
        let mine = flag_scratch returns in
        let rest = scratch_of_all s.bodies ss in
        let front = stand_front s.places mine rest k stands in
        typed_both s.places (flag_start returns k) _ (flag_start-typed s.places s.typed returns k front)
        (list-typed (body_flags returns flags k) ss (k + length mine) h (body_flags-are s.places returns flags k front m) (stand_back s.places mine rest k stands))

    pub list-typed : (flags : Flags) (ts : Statements) (k : ℕ) → AreTyped (pous_of s) s.scope ts → AreMarks s.places flags → Stand s k (scratch_of_all s.bodies ts) → Lists s (flat_of_all s.bodies s.owner s.base flags ts k)
    list-typed flags no_statements k h m stands = tt
    list-typed flags (statement t ts) k h m stands =
        let made = scratch_of s.bodies t in
        let rest = scratch_of_all s.bodies ts in
        let others = flat_of_all s.bodies s.owner s.base flags ts (k + length made) in
        typed_both s.places (flat_of s.bodies s.owner s.base flags t k) _ (statement-typed flags t k h.0 m (stand_front s.places made rest k stands))
        (unless_left-typed s.places (can_exit t) (can_return t) flags others m (list-typed flags ts (k + length made) h.1 m (stand_back s.places made rest k stands)))

    choices-typed : (flags : Flags) (arms : Choices) (k : ℕ) (rest : List FlatStatement) → AreTypedChoices (pous_of s) s.scope arms → AreMarks s.places flags → Stand s k (scratch_of_choices s.bodies arms) → Lists s rest → Lists s (nested (flat_choices s.bodies s.owner s.base flags arms k) rest)
    choices-typed flags no_choices k rest h m stands others = others
    choices-typed flags (choose e ss arms) k rest h m stands others =
        let mine = scratch_in s.bodies e in
        let body = scratch_of_all s.bodies ss in
        let more = scratch_of_choices s.bodies arms in
        let j = k + length mine in
        let front = stand_front s.places mine (body ++ more) k stands in
        let back = stand_back s.places mine (body ++ more) k stands in
        typed_both s.places (before s.bodies s.owner s.base e k) _ (before-typed s types.Bool e k h.0 front)
        ((moved-is s types.Bool e k h.0 front, list-typed flags ss j h.1 m (stand_front s.places body more j back), choices-typed flags arms (j + length body) rest h.2 m (stand_back s.places body more j back) others), tt)

    entries-typed : (flags : Flags) (kind : Elementary) (t : ℕ) → (place_at s.places t).kind ≡ kind → (es : Entries) (k : ℕ) (rest : List FlatStatement) → AreTypedEntries (pous_of s) s.scope kind es → AreMarks s.places flags → Stand s k (scratch_of_entries s.bodies es) → Lists s rest
        → Lists s (nested (flat_entries s.bodies s.owner s.base flags kind t es k) rest)
    entries-typed flags kind t is no_entries k rest h m stands others = others
    entries-typed flags kind t is (entry labels ss es) k rest h m stands others =
        let body = scratch_of_all s.bodies ss in
        let more = scratch_of_entries s.bodies es in
        ((labels_test-is s.places kind t is labels h.0, list-typed flags ss k h.1 m (stand_front s.places body more k stands), entries-typed flags kind t is es (k + length body) rest h.2 m (stand_back s.places body more k stands) others), tt)
