-- What is made, as the definitions see it.
use Rattle.std.specs.Prelude.{◌<◌, ℕ, Option, None, Some}
use Rattle.node_core.specs.Words.{NodeList}
use Rattle.scan_ssa.specs.declared.nodes.Making.{Making}

abbrev pub list_view : Making → NodeList
list_view m = record { starts = m.starts; nodes = m.nodes.items; fault = m.fault }

-- there are more than there may be
abbrev pub IsOver : Option ℕ → ℕ → Type 0
IsOver None n = ⊥
IsOver (Some limit) n = limit < n
