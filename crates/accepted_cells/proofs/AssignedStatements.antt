-- Where a body breaks no rule on types and uses only what it may, so does each of its assignments.
use Rattle.std.proofs.Common.{◌≡◌, ℕ, true, List, [], subst}
use Rattle.source_tree.specs.Syntax.{PathData, Tree, IterationData, BodyData}
use Rattle.source_tree.specs.StatementItems.{StatementItem, assignment, invocation, condition, selector, labels, iteration, every, some}
use Rattle.source_tree.proofs.StatementInduction.{related_body}
use Rattle.source_tree.proofs.EveryItem.{IsFound, found}
use Rattle.typing.specs.Typing.{Scope, by_path}
use Rattle.typing.specs.JudgedStatements.{judged_assign}
use Rattle.typing.specs.JudgedItems.{controls_in, IsWholeItem}
use Rattle.typing.specs.Pous.{judged_body}
use Rattle.typing.proofs.JudgedItems.{IsWhole, whole_shared, shared_body}
use Rattle.typed_files.specs.typed_scopes.Uses.{Usable, IsItemWithin}
use Rattle.typed_files.proofs.typed_scopes.EveryItem.{both_body}
use Rattle.typed_files.specs.bound_names.BoundNames.{IsBodyWithin}
use Rattle.accepted_cells.specs.Assignments.{IsAssignment, IsAssigned}

module _ (scope : Scope) (uses : Usable) (q : PathData) (e : Tree) where
  -- the target may be used, and the assignment is whole inside some FORs
  pub record IsSoundAssign : Type 0 where
    pub named : uses.names (by_path q) ≡ true
    pub controls : List ℕ
    pub whole : (judged_assign scope controls q e).whole ≡ true

  itself : (controls : List ℕ) (p : PathData) (x : Tree) → p ≡ q → x ≡ e → uses.names (by_path p) ≡ true → (judged_assign scope controls p x).whole ≡ true → IsSoundAssign
  itself controls p x path value named whole =
      let at_path : (judged_assign scope controls q x).whole ≡ true = subst (λ (r : PathData). (judged_assign scope controls r x).whole ≡ true) path whole in
      record {
        named = subst (λ (r : PathData). uses.names (by_path r) ≡ true) path named;
        controls = controls;
        whole = subst (λ (y : Tree). (judged_assign scope controls q y).whole ≡ true) value at_path;
      }

  -- an item uses what it may, and breaks no rule on types
  abbrev IsSoundItem : List IterationData → StatementItem → Type 0
  IsSoundItem around i = IsItemWithin uses around i × IsWholeItem scope [] around i

  at_item : (around : List IterationData) (i : StatementItem) → IsSoundItem around i → IsAssignment q e around i → IsSoundAssign
  at_item around (assignment p x) sound is = itself (controls_in scope [] around) p x is.0 is.1 sound.0.0 sound.1
  at_item around (invocation n at cs) sound is = absurd is
  at_item around (condition x) sound is = absurd is
  at_item around (selector x) sound is = absurd is
  at_item around (labels x before ls) sound is = absurd is
  at_item around (iteration i) sound is = absurd is

  pub in_body : (b : BodyData) → IsBodyWithin uses b → (judged_body scope b).whole ≡ true → IsAssigned q e b → IsSoundAssign
  in_body b within whole is =
      let sound = both_body (IsItemWithin uses) (IsWholeItem scope []) b within (shared_body scope IsWhole whole_shared b whole) in
      let Q = IsAssignment q e in
      let here = related_body (every IsSoundItem) (some Q) (some Q) (λ around A B C. A → B → IsFound IsSoundItem Q) (found IsSoundItem Q) b sound is in
      at_item here.around here.item here.has here.has_too
