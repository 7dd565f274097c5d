-- MIN and MAX of two words.
use Rattle.std.specs.Prelude.{ℕ, Bool, true, false}
use Rattle.plc_types.specs.declared.elementary.Elementary.{Elementary}
use Rattle.node_core.specs.declared.node.Node.{Node}
use Rattle.node_core.specs.declared.node.Node.TheVariants.{Minimum, Maximum}

abbrev pub fold_node : Bool → Elementary → ℕ → ℕ → Node
fold_node true t a b = Minimum t a b
fold_node false t a b = Maximum t a b
