-- Sizes that no number of 64 bits passes, and which POUs have so few cells that their variables are placed.
use Rattle.std.specs.Prelude.{ℕ, ◌+◌, ◌-◌, ◌^◌, List, [], ◌∷◌, map, min, nat_le, slice_set, Bool, true, ◌&&◌, if◌then◌else◌, Option, Some, None, is_some, option_and_then}
use Rattle.std.specs.List.{list_all}
use Rattle.source_tree.specs.Syntax.{PouData, FileData}
use Rattle.naming.specs.FileScope.{pous_of, pou_at}
use Rattle.naming.specs.Scopes.{variables_in_pou}
use Rattle.typing.specs.declared.member.Member.{Member}
use Rattle.typing.specs.Places.{count_of_cells, sizes_of}
use Rattle.typing.specs.Members.{members_in}
use Rattle.decl_types.specs.Told.{ToldData}
use Rattle.pou_cells.specs.ToldPlaces.{told_at, told_cells}

-- the greatest number of 64 bits stands for itself and for any greater one
abbrev pub capped : ℕ → ℕ
capped n = min n (2 ^ 64 - 1)

abbrev pub capped_cells : List ℕ → List ToldData → ℕ
capped_cells sizes [] = 0
capped_cells sizes (t ∷ ts) = capped (told_cells sizes t + capped_cells sizes ts)

-- the sizes of POUs along numbers
abbrev pub capped_along : FileData → List ℕ → List ℕ → List ℕ
capped_along f sizes [] = sizes
capped_along f sizes (k ∷ ks) = capped_along f (slice_set sizes k (capped_cells sizes (told_at f k))) ks

-- a POU of at most 2^24 cells, where blocks have their sizes
abbrev pub is_few : FileData → PouData → Bool
is_few f p = nat_le (count_of_cells f (sizes_of f) (variables_in_pou p)) 16777216

-- its variables at their places; those of a larger POU are not placed
abbrev pub placed_in : FileData → PouData → Option (List Member)
placed_in f p = if is_few f p then Some (members_in f (sizes_of f) p) else None

abbrev pub all_placed : FileData → List (Option (List Member))
all_placed f = map (placed_in f) (pous_of f)

-- those of the POU of a number
abbrev pub placed_at : FileData → ℕ → Option (List Member)
placed_at f number = option_and_then (placed_in f) (pou_at f number)

-- the variables of the block of an instance are placed
abbrev pub is_placed_block : FileData → Option ℕ → Bool
is_placed_block f None = true
is_placed_block f (Some block) = is_some (placed_at f block)

-- the variables of a POU are placed, and so are those of the blocks of its instances
abbrev pub is_placed : FileData → ℕ → Bool
is_placed f number = is_some (placed_at f number) && list_all (λ t. is_placed_block f t.block) (told_at f number)
