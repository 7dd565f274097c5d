-- The first cell of a name takes what the name's type allows.
use Rattle.std.proofs.Common.{◌≡◌, ℕ, ◌≤◌, Bool, true, false, if◌then◌else◌, List, [], ◌∷◌, length, Option, Some, None, option_and_then, refl, ap, ◌∙◌, arith}
use Rattle.std.proofs.lemmas.Bool.{both_ways}
use Rattle.plc_types.specs.declared.elementary.Elementary.TheVariants as types
use Rattle.plc_types.specs.declared.data_type.DataType.TheVariants as kinds
use Rattle.source_tree.specs.Syntax.{TypeData, of_elementary, of_subrange, of_name, FileData}
use Rattle.program_tree.specs.declared.scratch.Scratch.{Scratch}
use Rattle.program_tree.specs.Places.{whole_cell, place_at}
use Rattle.naming.specs.declared.standing.Standing.{Standing}
use Rattle.naming.specs.declared.standing.Standing.TheVariants as standings
use Rattle.naming.specs.FileScope.{standing, block_number}
use Rattle.naming.specs.Scopes.{Variable, is_local, is_step, block_of, block_of_type}
use Rattle.typing.specs.Typing.{is_unknown}
use Rattle.typing.specs.Domains.{named_domain, domain_of}
use Rattle.typing.specs.Variables.{domain_if, domain_of_variable}
use Rattle.typing.specs.Places.{has_cell, is_stored_action}
use Rattle.typed_cells.specs.Variables.{place_for, plain_places, variable_places}
use Rattle.typed_cells.proofs.Occurrences.{Occurs, occurs_first, occurs_same}
use Rattle.typed_cells.proofs.Names.{HasKind}
use Rattle.typed_cells.proofs.Roles.{step_chart, stored_chart}

-- ---- an instance is of no known type

unknown_standing : (f : FileData) (s : Option Standing) (q : ℕ) → block_number f s ≡ Some q → (named_domain f s).kind ≡ kinds.Unknown
unknown_standing f None q is = absurd (let h : ⊥ = cc in h)
unknown_standing f (Some (standings.Type t)) q is = absurd (let h : ⊥ = cc in h)
unknown_standing f (Some (standings.Value t n)) q is = absurd (let h : ⊥ = cc in h)
unknown_standing f (Some (standings.Pou p)) q is = refl

unknown_type : (f : FileData) (t : TypeData) (q : ℕ) → block_of_type f t ≡ Some q → (domain_of f t).kind ≡ kinds.Unknown
unknown_type f (of_elementary kind at) q is = absurd (let h : ⊥ = cc in h)
unknown_type f (of_subrange kind at b) q is = absurd (let h : ⊥ = cc in h)
unknown_type f (of_name n) q is = unknown_standing f (standing f n.text) q is

unknown_kind : (f : FileData) (k : Option TypeData) (q : ℕ) → option_and_then (block_of_type f) k ≡ Some q → (domain_if f k).kind ≡ kinds.Unknown
unknown_kind f None q is = absurd (let h : ⊥ = cc in h)
unknown_kind f (Some t) q is = unknown_type f t q is

local_passes : (b : Bool) (o : Option ℕ) (q : ℕ) → (if b then o else None) ≡ Some q → o ≡ Some q
local_passes true o q is = is
local_passes false o q is = absurd (let h : ⊥ = cc in h)

pub instance_unknown : (f : FileData) (v : Variable) (q : ℕ) → block_of f v ≡ Some q → (domain_of_variable f v).kind ≡ kinds.Unknown
instance_unknown f v q is = unknown_kind f v.kind q (local_passes (is_local v.role) (option_and_then (block_of_type f) v.kind) q is)

no_block_by : (f : FileData) (v : Variable) (o : Option ℕ) → block_of f v ≡ o → is_unknown (domain_of_variable f v).kind ≡ false → block_of f v ≡ None
no_block_by f v None is known = is
no_block_by f v (Some q) is known = absurd (both_ways (is_unknown (domain_of_variable f v).kind) known (ap is_unknown (instance_unknown f v q is)))

pub no_block : (f : FileData) (v : Variable) → is_unknown (domain_of_variable f v).kind ≡ false → block_of f v ≡ None
no_block f v known = no_block_by f v (block_of f v) refl known

-- ---- the first cell

record Begins (xs : List Scratch) (x : Scratch) : Type 0 where
  others : List Scratch
  is : xs ≡ x ∷ others

flag_is : (f : FileData) (v : Variable) → v.kind ≡ None → whole_cell types.Bool ≡ place_for (domain_of_variable f v)
flag_is f v none = rw none refl

plain_begins : (f : FileData) (v : Variable) (step stored : Bool) → is_step v.role ≡ step → is_stored_action v.role ≡ stored → HasKind v → Begins (plain_places f v) (place_for (domain_of_variable f v))
plain_begins f v true stored is told kind =
    let same = flag_is f v (kind (step_chart v.role is)) in
    let two : plain_places f v ≡ whole_cell types.Bool ∷ whole_cell types.Bool ∷ [] = rw is refl in
    record { others = whole_cell types.Bool ∷ []; is = two ∙ ap (λ (x : Scratch). x ∷ whole_cell types.Bool ∷ []) same }
plain_begins f v false true is told kind =
    let same = flag_is f v (kind (stored_chart v.role told)) in
    let one : plain_places f v ≡ whole_cell types.Bool ∷ [] = rw (is, told) refl in
    record { others = []; is = one ∙ ap (λ (x : Scratch). x ∷ []) same }
plain_begins f v false false is told kind = record { others = []; is = rw (is, told) refl }

places_plain : (f : FileData) (v : Variable) → has_cell v.role ≡ true → block_of f v ≡ None → variable_places f v ≡ plain_places f v
places_plain f v has none = rw (has, none) refl

pub record IsFirstCell (f : FileData) (v : Variable) (owner : List Scratch) (c : ℕ) : Type 0 where
  pub takes : place_at owner c ≡ place_for (domain_of_variable f v)
  pub some : 1 ≤ length (variable_places f v)

pub first_cell : (f : FileData) (v : Variable) (owner : List Scratch) (c : ℕ) → has_cell v.role ≡ true → block_of f v ≡ None → HasKind v → Occurs (variable_places f v) owner c → IsFirstCell f v owner c
first_cell f v owner c has none kind at =
    let b = plain_begins f v (is_step v.role) (is_stored_action v.role) refl refl kind in
    let same : variable_places f v ≡ place_for (domain_of_variable f v) ∷ b.others = places_plain f v has none ∙ b.is in
    let long = ap (λ (l : List Scratch). length l) same in
    record { takes = occurs_first (place_for (domain_of_variable f v)) b.others owner c (occurs_same (variable_places f v) _ owner c same at); some = omega (arith, long) }
