-- The cells of an instance stand among those of its owner.
use Rattle.std.proofs.Common.{◌≡◌, ℕ, ◌<◌, Bool, true, false, if◌then◌else◌, List, [], ◌∷◌, length, get_or, Option, Some, None, option_map, option_and_then, refl, sym, ap, ◌∙◌, arith, subst}
use Rattle.std.specs.Prelude.{◌==◌, unwrap_or}
use Rattle.std.specs.List.{AllByRecursion}
use Rattle.std.proofs.lemmas.Bool.{eqb-true}
use Rattle.call_order.specs.Marks.{is_marked}
use Rattle.call_order.specs.Uses.{uses_at, is_among}
use Rattle.source_tree.specs.Syntax.{TypeData, of_elementary, of_subrange, of_name, PouTypeData, function, function_block, program, PouData, FileData}
use Rattle.program_tree.specs.declared.scratch.Scratch.{Scratch}
use Rattle.naming.specs.Circles.{uses_of}
use Rattle.naming.specs.FileScope.{pous_of, pou_at, pou_type_at, standing, is_block, pou_number, number_if}
use Rattle.naming.specs.Scopes.{Variable, variables_in_pou, variable_named, is_local, block_of, block_of_type}
use Rattle.typing.specs.declared.member.Member.{Member}
use Rattle.typing.specs.declared.scope.Instance.{Instance}
use Rattle.typing.specs.Reached.{reached}
use Rattle.typing.specs.Places.{has_cell, size_among, cells_taken, sizes_of}
use Rattle.typing.specs.Members.{may_be_called, called_order, called_number, member_at, instance_of, scope_of, is_function}
use Rattle.typed_programs.specs.Statements.{StandAt}
use Rattle.typed_scopes.specs.Fitting.{InstanceFits}
use Rattle.typed_cells.specs.Places.{block_places, pou_places, before_pou, scope_over, pous}
use Rattle.typed_cells.specs.Variables.{variable_places}
use Rattle.typed_cells.specs.Premises.{IsUsedBlock, UsesItsBlocks, IsOrdered}
use Rattle.typed_cells.proofs.Occurrences.{occurs_same, occurs_stands}
use Rattle.typed_cells.proofs.Lengths.{length_block, used_below, has_size, instance_local}
use Rattle.typing_laws.proofs.CellCounts.{size_is}
use Rattle.typed_cells.proofs.Walks.{named_all}
use Rattle.typed_cells.proofs.Numbers.{used_reached, is_called, number_before}
use Rattle.typed_cells.proofs.Bounds.{from_first, before_chart}
use Rattle.typed_cells.proofs.Owners.{low, same_variables, member_is, at_name}
use Rattle.typed_cells.proofs.Roles.{local_plain, local_cell}

-- ---- the number of a block is that of one

passing : (b : Bool) (n q : ℕ) → (if b then Some n else None) ≡ Some q → (b ≡ true) × (n ≡ q)
passing true n q is = (refl, cc)
passing false n q is = absurd (let h : ⊥ = cc in h)

pub number_passes : (f : FileData) (test : PouTypeData → Bool) (o : Option ℕ) (q : ℕ) → option_and_then (number_if f test) o ≡ Some q → unwrap_or (option_map test (pou_type_at f q)) false ≡ true
number_passes f test None q is = absurd (let h : ⊥ = cc in h)
number_passes f test (Some n) q is =
    let p = passing (unwrap_or (option_map test (pou_type_at f n)) false) n q is in subst (λ (m : ℕ). unwrap_or (option_map test (pou_type_at f m)) false ≡ true) p.1 p.0

block_passes : (f : FileData) (t : TypeData) (q : ℕ) → block_of_type f t ≡ Some q → unwrap_or (option_map is_block (pou_type_at f q)) false ≡ true
block_passes f (of_elementary kind at) q is = absurd (let h : ⊥ = cc in h)
block_passes f (of_subrange kind at b) q is = absurd (let h : ⊥ = cc in h)
block_passes f (of_name n) q is = number_passes f is_block (pou_number (standing f n.text)) q is

type_passes : (f : FileData) (k : Option TypeData) (q : ℕ) → option_and_then (block_of_type f) k ≡ Some q → unwrap_or (option_map is_block (pou_type_at f q)) false ≡ true
type_passes f None q is = absurd (let h : ⊥ = cc in h)
type_passes f (Some t) q is = block_passes f t q is

local_passes : (b : Bool) (o : Option ℕ) (q : ℕ) → (if b then o else None) ≡ Some q → o ≡ Some q
local_passes true o q is = is
local_passes false o q is = absurd (let h : ⊥ = cc in h)

pub instance_block : (f : FileData) (v : Variable) (q : ℕ) → block_of f v ≡ Some q → unwrap_or (option_map is_block (pou_type_at f q)) false ≡ true
instance_block f v q is = type_passes f v.kind q (local_passes (is_local v.role) (option_and_then (block_of_type f) v.kind) q is)

block_may : (o : Option PouTypeData) → unwrap_or (option_map is_block o) false ≡ true → may_be_called o ≡ true
block_may None is = absurd (let h : ⊥ = cc in h)
block_may (Some (function t)) is = absurd (let h : ⊥ = cc in h)
block_may (Some function_block) is = refl
block_may (Some program) is = absurd (let h : ⊥ = cc in h)

pub function_may : (o : Option PouTypeData) → unwrap_or (option_map is_function o) false ≡ true → may_be_called o ≡ true
function_may None is = absurd (let h : ⊥ = cc in h)
function_may (Some (function t)) is = refl
function_may (Some function_block) is = absurd (let h : ⊥ = cc in h)
function_may (Some program) is = absurd (let h : ⊥ = cc in h)

pub instance_may : (f : FileData) (v : Variable) (q : ℕ) → block_of f v ≡ Some q → may_be_called (pou_type_at f q) ≡ true
instance_may f v q is = block_may (pou_type_at f q) (instance_block f v q is)

-- ---- the cells of an instance

empty_list : (xs : List Scratch) → length xs ≡ 0 → [] ≡ xs
empty_list [] none = refl
empty_list (x ∷ xs) none = absurd (omega (arith, none))

whole_list : (n : ℕ) (xs : List Scratch) (b : Bool) → (n == 0) ≡ b → length xs ≡ n → (if b then [] else xs) ≡ xs
whole_list n xs true is long = let none = eqb-true n 0 is in empty_list xs (long ∙ none)
whole_list n xs false is long = refl

module _ (f : FileData) (used : UsesItsBlocks f) (ordered : IsOrdered f) (k : ℕ) (p : PouData) (there : pou_at f k ≡ Some p) (is : is_marked (reached f) k ≡ true) where
  pub used_block : (text : List ℕ) (v : Variable) → variable_named text (variables_in_pou p) ≡ Some v → IsUsedBlock f k v
  used_block text v named = named_all (IsUsedBlock f k) text (variables_in_pou p) (subst (λ (vs : List Variable). AllByRecursion (IsUsedBlock f k) vs) (same_variables f used ordered k p there) (used k)) v named

  pub record IsInstance (v : Variable) (b : ℕ) : Type 0 where
    pub below : b < length (pous_of f)
    pub marked : is_marked (reached f) b ≡ true
    pub callable : may_be_called (pou_type_at f b) ≡ true
    pub places : variable_places f v ≡ block_places f b
    pub size : length (block_places f b) ≡ cells_taken f (sizes_of f) v

  pub is_instance : (v : Variable) (b : ℕ) → IsUsedBlock f k v → block_of f v ≡ Some b → IsInstance v b
  is_instance v b use_of block =
      let uses = use_of b block in
      let at = used_below f used ordered k b (low f used ordered k p there) uses in
      let marked = used_reached f ordered k b is uses in
      let long : length (block_places f b) ≡ size_among (sizes_of f) (Some b) = length_block f used ordered b at.1 ∙ sym (size_is f used b at.0 marked) in
      let has : has_cell v.role ≡ true = local_cell v.role (instance_local f v b block) in
      let same : variable_places f v ≡ block_places f b = rw (has, block) (whole_list (size_among (sizes_of f) (Some b)) (block_places f b) (size_among (sizes_of f) (Some b) == 0) refl long) in
      record {
        below = at.1;
        marked = marked;
        callable = instance_may f v b block;
        places = same;
        size = sym (ap (λ (l : List Scratch). length l) same) ∙ has_size f used ordered k (low f used ordered k p there) v use_of;
      }

  pou_type_is : pou_type_at f k ≡ Some p.pou_type
  pou_type_is = ap (λ (o : Option PouData). option_map (λ (q : PouData). q.pou_type) o) there

  before_as : (pou_type : PouTypeData) → pou_type_at f k ≡ Some pou_type → (u : ℕ) → u < length (pous_of f) → is_among u (uses_at (uses_of f) k) ≡ true → may_be_called (pou_type_at f u) ≡ true → called_number f u < before_pou f k pou_type
  before_as (function t) same u below uses callable = number_before f ordered k u (low f used ordered k p there) is (ap may_be_called same) uses callable
  before_as function_block same u below uses callable = number_before f ordered k u (low f used ordered k p there) is (ap may_be_called same) uses callable
  before_as program same u below uses callable = (is_called f ordered u below (used_reached f ordered k u is uses) callable).below

  -- what a POU uses stands before it
  pub stands_before : (u : ℕ) → u < length (pous_of f) → is_among u (uses_at (uses_of f) k) ≡ true → may_be_called (pou_type_at f u) ≡ true → called_number f u < before_pou f k p.pou_type
  stands_before u below uses callable = before_as p.pou_type pou_type_is u below uses callable

  module _ (runs : ℕ → Bool) where
    instance_at : (text : List ℕ) (m : Member) (b : ℕ) → member_at f (sizes_of f) k text ≡ Some m → m.block ≡ Some b → InstanceFits (pous f runs) (scope_over f k p) (let i : Instance = record { block = called_number f b; offset = m.cell } in i)
    instance_at text m b found block =
        let at = at_name f used ordered k p there text m found in
        let v = at.variable in
        let of_v : block_of f v ≡ Some b = sym (ap (λ (x : Member). x.block) at.is) ∙ block in
        let use_of = used_block text v at.named in
        let i = is_instance v b use_of of_v in
        let called = is_called f ordered b i.below i.marked i.callable in
        let same : block_places f (get_or (called_order f) (called_number f b) 0) ≡ block_places f b = ap (block_places f) called.there in
        let among = sym (member_is f used ordered k p there (sizes_of f) text) ∙ found in
        let bound = before_chart f text p m among v at.named (local_plain v.role (instance_local f v b of_v)) in
        let size = i.size in
        let size_here = ap (λ (l : List Scratch). length l) same in
        record {
          before = stands_before b i.below (use_of b of_v) i.callable;
          named = from_first f text p.pou_type (variables_in_pou p) m among;
          within = omega (arith, bound, size, size_here);
          stands = subst (λ (l : List Scratch). StandAt l (pou_places f k p.pou_type p) m.cell) (sym same)
              (occurs_stands (block_places f b) (pou_places f k p.pou_type p) m.cell (occurs_same (variable_places f v) (block_places f b) (pou_places f k p.pou_type p) m.cell i.places at.stands));
        }

    instance_by : (text : List ℕ) (m : Member) (o : Option ℕ) → m.block ≡ o → member_at f (sizes_of f) k text ≡ Some m → (i : Instance) → option_map (λ b. let j : Instance = record { block = called_number f b; offset = m.cell } in j) o ≡ Some i
        → InstanceFits (pous f runs) (scope_over f k p) i
    instance_by text m None block found i same = absurd (let h : ⊥ = cc in h)
    instance_by text m (Some b) block found i same =
        let e : (let j : Instance = record { block = called_number f b; offset = m.cell } in j) ≡ i = cc in
        subst (λ (j : Instance). InstanceFits (pous f runs) (scope_over f k p) j) e (instance_at text m b found block)

    instance_of_member : (text : List ℕ) (o : Option Member) → member_at f (sizes_of f) k text ≡ o → (i : Instance) → option_and_then (instance_of f) o ≡ Some i → InstanceFits (pous f runs) (scope_over f k p) i
    instance_of_member text None found i same = absurd (let h : ⊥ = cc in h)
    instance_of_member text (Some m) found i same = instance_by text m m.block refl found i same

    pub instances_fit : (text : List ℕ) (i : Instance) → (scope_of f (sizes_of f) k).instance text ≡ Some i → InstanceFits (pous f runs) (scope_over f k p) i
    instances_fit text i same = instance_of_member text (member_at f (sizes_of f) k text) refl i same
