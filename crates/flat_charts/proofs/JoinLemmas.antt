-- Tests that are joined by an operator.
use Rattle.std.proofs.Common.{◌≡◌, ℕ, false, List, [], ◌∷◌, length, map, refl, ap}
use Rattle.std.specs.Prelude.{◌==◌}
use Rattle.plc_types.specs.declared.operator.Operator.{Operator}
use Rattle.plc_types.specs.declared.elementary.Elementary.TheVariants as types
use Rattle.program_tree.specs.declared.typed.Operand.{Operand}
use Rattle.program_tree.specs.Tree.{Expression, chain, operand}
use Rattle.program_tree.specs.View.{operands_of, operands_view}
use Rattle.flat_form.specs.FlatCharts.{operands_by, joining, joined_to}

-- some operands behind the first
pub joined_to-some : (e : Expression) (os : List Operand) → (length os == 0) ≡ false → chain e (operands_view os) ≡ joined_to e (operands_view os)
joined_to-some e [] h = cc
joined_to-some e (o ∷ os) h = refl

pub operands_by-all : (o : Operator) (es : List Expression) → operands_of (map (joining o) es) ≡ operands_by o es
operands_by-all o [] = refl
operands_by-all o (e ∷ es) = ap (operand o types.Bool e) (operands_by-all o es)

pub operands_by-map : (o : Operator) (f : ℕ → Expression) (list : List ℕ) → operands_of (map (λ i. joining o (f i)) list) ≡ operands_by o (map f list)
operands_by-map o f [] = refl
operands_by-map o f (i ∷ list) = ap (operand o types.Bool (f i)) (operands_by-map o f list)
