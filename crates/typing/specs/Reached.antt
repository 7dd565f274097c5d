-- The POUs that are reached from the PROGRAMs of a file: these themselves, and what a POU that is reached uses.
use Rattle.std.specs.Prelude.{ℕ, List, [], ◌∷◌, map, filter, Bool, true, if◌then◌else◌, slice_set}
use Rattle.call_order.specs.Marks.{is_marked}
use Rattle.call_order.specs.Uses.{Graph, uses_at, order_of}
use Rattle.source_tree.specs.Syntax.{FileData}
use Rattle.naming.specs.Broken.{is_program_pou}
use Rattle.naming.specs.Circles.{uses_of}
use Rattle.naming.specs.FileScope.{pous_of}

-- some numbers get marks
abbrev pub with_marks : List Bool → List ℕ → List Bool
with_marks marks [] = marks
with_marks marks (k ∷ ks) = with_marks (slice_set marks k true) ks

-- what a number with a mark uses gets marks too
abbrev pub mark_uses : Graph → ℕ → List Bool → List Bool
mark_uses g k marks = if is_marked marks k then with_marks marks (uses_at g k) else marks

-- The last number comes first: in an order in which each stands behind those that it uses, all that use a number have then been seen.
abbrev pub marks_along : Graph → List Bool → List ℕ → List Bool
marks_along g marks [] = marks
marks_along g marks (k ∷ ks) = mark_uses g k (marks_along g marks ks)

-- for each POU whether it is reached
unfoldable pub reached : FileData → List Bool
reached f = marks_along (uses_of f) (map is_program_pou (pous_of f)) (order_of (uses_of f))

-- those that are, in the order in which each stands behind those that it uses
unfoldable pub reached_order : FileData → List ℕ
reached_order f = filter (is_marked (reached f)) (order_of (uses_of f))
