-- What a flat list is made over fits what its POU is typed over.
use Rattle.std.specs.Prelude.{◌≡◌, ◌≤◌, ◌<◌, ◌+◌, ◌^◌, ℕ, length, slice_index_or, All}
use Rattle.plc_types.specs.declared.elementary.Elementary.{Elementary}
use Rattle.program_tree.specs.Tree.{Expression, Operands, Expressions}
use Rattle.program_tree.specs.View.{all_called_view}
use Rattle.program_tree.specs.Places.{IsTypedPlace}
use Rattle.meaning.specs.Calls.{nothing}
use Rattle.meaning.specs.Frames.{frames_of}
use Rattle.flat_charts.specs.declared.scope.FlatScope.{FlatScope}
use Rattle.typed_programs.specs.Scopes.{Pous, BodyScope}
use Rattle.typed_programs.specs.Expressions.{IsOf, Join, AreOf}
use Rattle.typed_programs.specs.Programs.{IsTypedPou}

-- The body may run and call the POUs that the flat list may, which are typed. Each place of the body takes numbers of its type, and has a
-- place of 64 bits among its owner's cells.
pub record FitsScope (scope : FlatScope) (pous : Pous) (b : BodyScope) : Type 0 where
  pub before : b.pous ≡ scope.below
  pub frames : pous.frames ≡ frames_of (all_called_view scope.called.now)
  pub called : (n : ℕ) → n < scope.below → IsTypedPou pous n (slice_index_or (all_called_view scope.called.now) n nothing)
  pub within : b.settable ≤ length b.places
  pub places : All IsTypedPlace b.places
  pub room : scope.base + length b.places < 2 ^ 64

-- some POUs and some scope of a body that fit, and a claim over them
pub record Typing (scope : FlatScope) (Claim : Pous → BodyScope → Type 0) : Type 0 where
  pub pous : Pous
  pub b : BodyScope
  pub fits : FitsScope scope pous b
  pub claim : Claim pous b

-- The same, shut: a proof that does not open it does not look into it.
unfoldable pub SomeTyping : FlatScope → (Pous → BodyScope → Type 0) → Type 0
SomeTyping scope Claim = Typing scope Claim

-- A claim holds over some POUs and some scope of a body that fit.
pub record IsTypedOver (scope : FlatScope) (Claim : Pous → BodyScope → Type 0) : Type 0 where
  pub typing : SomeTyping scope Claim

module _ (pous : Pous) (b : BodyScope) where
  -- an expression of some type; operands behind a value of some type; the operands of some function
  abbrev pub HasType : Expression → Type 0
  HasType e = (kind : Elementary) × IsOf pous b kind e

  abbrev pub AreOperands : Operands → Type 0
  AreOperands os = (left : Elementary) × (kind : Elementary) × Join pous b left kind os

  abbrev pub HaveTypes : Expressions → Type 0
  HaveTypes es = (first : Elementary) × (others : Elementary) × AreOf pous b first others es
