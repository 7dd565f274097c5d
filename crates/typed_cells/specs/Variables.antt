-- What the cells of a name take, and those of names one after the other.
use Rattle.std.specs.Prelude.{ℕ, ◌==◌, List, [], ◌∷◌, ◌++◌, Option, Some, None, if◌then◌else◌}
use Rattle.plc_types.specs.declared.elementary.Elementary.TheVariants as types
use Rattle.plc_types.specs.DataTypes.{carrier}
use Rattle.source_tree.specs.Syntax.{FileData}
use Rattle.program_tree.specs.declared.scratch.Scratch.{Scratch}
use Rattle.program_tree.specs.Places.{whole_cell}
use Rattle.naming.specs.Scopes.{Variable, is_step, block_of}
use Rattle.typing.specs.declared.domain.Domain.{Domain}
use Rattle.typing.specs.Variables.{domain_of_variable}
use Rattle.typing.specs.Places.{has_cell, is_stored_action, size_among, sizes_of}
use Rattle.typed_cells.specs.Places.{block_places}

abbrev pub place_for : Domain → Scratch
place_for d = record { kind = carrier d.kind; range = d.range; is_subrange = d.is_subrange }

-- of a name that is no instance: of a step its two flags, of a stored action its latch
abbrev pub plain_places : FileData → Variable → List Scratch
plain_places f v =
    if is_step v.role then whole_cell types.Bool ∷ whole_cell types.Bool ∷ []
    else (if is_stored_action v.role then whole_cell types.Bool ∷ [] else place_for (domain_of_variable f v) ∷ [])

-- of an instance those of its block
abbrev pub own_places : FileData → Variable → Option ℕ → List Scratch
own_places f v None = plain_places f v
own_places f v (Some b) = if size_among (sizes_of f) (Some b) == 0 then [] else block_places f b

abbrev pub variable_places : FileData → Variable → List Scratch
variable_places f v = if has_cell v.role then own_places f v (block_of f v) else []

abbrev pub variables_places : FileData → List Variable → List Scratch
variables_places f [] = []
variables_places f (v ∷ vs) = variable_places f v ++ variables_places f vs
