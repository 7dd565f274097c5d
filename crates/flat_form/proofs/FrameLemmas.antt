-- The frames of FUNCTIONs, and how many inputs a call has.
use Rattle.std.proofs.Common.{◌≡◌, ℕ, zero, suc, List, [], ◌∷◌, length, refl, arith}
use Rattle.program_tree.specs.declared.typed.TypedExpr.{TypedExpr}
use Rattle.program_tree.specs.Tree.{CalledData}
use Rattle.program_tree.specs.View.{arguments_view}
use Rattle.program_tree.specs.OperandTypes.{arity}
use Rattle.meaning.specs.Frames.{frames_of}
use Rattle.flat_form.specs.Pous.{bodies_of}

pub frames-here : (ps : List CalledData) (n : ℕ) → (bodies_of ps n).frame ≡ frames_of ps
frames-here ps zero = refl
frames-here ps (suc n) = frames-here ps n

pub arity-length : (es : List TypedExpr) → arity (arguments_view es) ≡ length es
arity-length [] = refl
arity-length (e ∷ es) = omega (arith, arity-length es)
