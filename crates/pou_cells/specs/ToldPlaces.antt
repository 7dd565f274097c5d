-- Where the cells of a POU's names stand, by what is told of their declarations.
use Rattle.std.specs.Prelude.{ℕ, ◌+◌, ◌<◌, ◌^◌, List, [], ◌∷◌, filter, Bool, true, false, if◌then◌else◌}
use Rattle.source_tree.specs.Syntax.{PouTypeData, function, function_block, program, FileData}
use Rattle.naming.specs.Scopes.{is_step}
use Rattle.typing.specs.declared.next.Next.{Next}
use Rattle.typing.specs.Places.{has_cell, size_among, is_front, variables_at}
use Rattle.decl_types.specs.Told.{ToldData, told_in}

-- what is told of the variables of the POU of a number
abbrev pub told_at : FileData → ℕ → List ToldData
told_at f number = told_in f (variables_at f number)

abbrev pub told_cells : List ℕ → ToldData → ℕ
told_cells sizes t = if has_cell t.role then (if is_step t.role then 2 else size_among sizes t.block) else 0

abbrev pub told_count : List ℕ → List ToldData → ℕ
told_count sizes [] = 0
told_count sizes (t ∷ ts) = told_cells sizes t + told_count sizes ts

-- those whose cells stand before all others
abbrev pub told_front : Bool → List ToldData → List ToldData
told_front of_function ts = filter (λ t. is_front of_function t.role) ts

abbrev pub told_places_from : List ℕ → Bool → ℕ → List ToldData → Next
told_places_from sizes of_function first ts =
    record { of_function = of_function; front = first; rest = first + told_count sizes (told_front of_function ts) }

-- where the cells of a POU begin
abbrev pub told_first_places : List ℕ → PouTypeData → List ToldData → Next
told_first_places sizes (function t) ts = told_places_from sizes true 1 ts
told_first_places sizes function_block ts = told_places_from sizes false 0 ts
told_first_places sizes program ts = told_places_from sizes false 1 ts

abbrev pub told_first_place : Next → ToldData → ℕ
told_first_place next t = if is_front next.of_function t.role then next.front else next.rest

-- the next places behind a variable
abbrev pub told_places_behind : List ℕ → Next → ToldData → Next
told_places_behind sizes next t =
    if is_front next.of_function t.role then record { of_function = next.of_function; front = next.front + told_cells sizes t; rest = next.rest }
    else record { of_function = next.of_function; front = next.front; rest = next.rest + told_cells sizes t }

-- behind these places the cells of variables stand at numbers of 64 bits
pub record HavePlaces (sizes : List ℕ) (next : Next) (ts : List ToldData) : Type 0 where
  pub front : next.front + told_count sizes ts < 2 ^ 64
  pub rest : next.rest + told_count sizes ts < 2 ^ 64
