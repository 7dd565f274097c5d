-- A typed program is fit to run: FAULT comes first, and each cell begins in its range, since each start lies in the range of its domain.
use Rattle.std.proofs.Common.{◌≡◌, ℕ, zero, suc, ◌==◌, ◌++◌, length, Bool, true, false, ◌&&◌, if◌then◌else◌, List, [], ◌∷◌, Option, Some, None, refl, arith}
use Rattle.std.proofs.Math.IntN.{ℤ, pos}
use Rattle.std.specs.Prelude.{codes, int_le}
use Rattle.std.proofs.lemmas.Int.{ints}
use Rattle.std.proofs.lemmas.Bool.{and_parts}
use Rattle.std.proofs.Math.Bool.{and-false}
use Rattle.num_core.specs.Ranges.{Fits}
use Rattle.plc_types.specs.declared.elementary.Elementary.{Elementary as ElementaryType}
use Rattle.plc_types.specs.declared.elementary.Elementary.TheVariants as types
use Rattle.rules.specs.declared.rule.Rule.{Rule}
use Rattle.rules.specs.declared.rule.Rule.TheVariants.{ValueType, OutsideType, OperandType}
use Rattle.plc_types.specs.DataTypes.{is_same_type}
use Rattle.plc_types.specs.Types.{is_integer, least_of, greatest_of, in_range}
use Rattle.plc_types.proofs.InRange.{le_from, bounds}
use Rattle.plc_types.proofs.TypeRanges.{zero_fits_type}
use Rattle.source_tree.specs.Syntax.{Named, Tree, BoundsData, TypeData, of_elementary, of_subrange, of_name, SpecificationData, of_type, of_values, PouData, FileData}
use Rattle.naming.specs.declared.standing.Standing.{Standing}
use Rattle.naming.specs.declared.standing.Standing.TheVariants as standings
use Rattle.naming.specs.Types.{end_of, end_specification}
use Rattle.naming.specs.FileScope.{pous_of, standing}
use Rattle.naming.specs.declared.role.Role.{Role}
use Rattle.naming.specs.declared.role.Role.TheVariants as roles
use Rattle.naming.specs.Scopes.{Variable, variables_in_pou, is_step, block_of}
use Rattle.typing.specs.Typing.{type_of, place_of}
use Rattle.rules.specs.Judgements.{Judgement, and, breaks, require}
use Rattle.typing.specs.Judged.{judged}
use Rattle.typing.specs.Typed.{constant_of}
use Rattle.typing.specs.declared.domain.Domain.{Domain}
use Rattle.typing.specs.Domains.{has_few, values_scope, bounds_of, judged_bound_of, judged_subrange, no_domain, enumeration_domain, end_domain, named_domain, domain_of}
use Rattle.program_tree.specs.Tree.{CellData}
use Rattle.typing.specs.Variables.{domain_if, domain_of_variable, judged_initial, given_value, start_of}
use Rattle.typing.specs.Places.{has_cell, is_stored_action, in_order, size_among, sizes_of, variables_at}
use Rattle.typing.specs.TypedPrograms.{path_behind, cell_for, flag_cell, active_first, cells_for, cells_of_variable, cells_of, block_cells, cells_in, fault_cell, typed_program}
use Rattle.scan_model.specs.Scans.{ranges_of, initial}
use Rattle.scan_model.specs.InRange.{IsInRange, IsFitToRun}

-- what is whole passes its test
by_parts : (w b : Bool) (j k : Judgement) → j.whole ≡ w → k.whole ≡ false → (if w then (if b then j else k) else j).whole ≡ true → b ≡ true
by_parts true true j k parts none e = refl
by_parts true false j k parts none e = absurd (let n : ⊥ = cc in n)
by_parts false b j k parts none e = absurd (let n : ⊥ = cc in n)

test_of : (j : Judgement) (b : Bool) (rule : Rule) (at : ℕ) → (require j b rule at).whole ≡ true → b ≡ true
test_of j b rule at e = by_parts j.whole b j (and j (breaks rule at)) refl (and-false j.whole) e

-- ---- what a variable of a domain begins with

StartFits : Domain → Type 0
StartFits d = Fits d.range.low d.range.high d.start

no_domain-fits : StartFits no_domain
unfolding StartFits
no_domain-fits = zero_fits_type types.Bool

elementary-fits : (f : FileData) (k : ElementaryType) (at : ℕ) → StartFits (domain_of f (of_elementary k at))
unfolding StartFits
elementary-fits f k at = zero_fits_type k

in_order-fits : (low high : ℤ) → int_le low high ≡ true → Fits low high low
in_order-fits low high e = let h = le_from low high e in (omega (arith, ints), omega (arith, ints, h))

subrange_by : (b : Bool) (f : FileData) (k : ElementaryType) (at : ℕ) (bounds : BoundsData) → (judged_subrange f k at bounds).whole ≡ b → StartFits (domain_of f (of_subrange k at bounds))
unfolding StartFits
subrange_by true f k at bounds e =
    rw e (in_order-fits (bounds_of f k bounds).low (bounds_of f k bounds).high
    (test_of (require (and (judged_bound_of f k bounds.low) (judged_bound_of f k bounds.high)) (is_integer k) OperandType at) (int_le (bounds_of f k bounds).low (bounds_of f k bounds).high) OutsideType (place_of bounds.low) e))
subrange_by false f k at bounds e = rw e (zero_fits_type types.Bool)

enumeration_by : (b : Bool) (t : ℕ) (others : List Named) → has_few others ≡ b → StartFits (enumeration_domain t others)
unfolding StartFits
enumeration_by true t others e = rw e (omega (arith, ints), omega (arith, ints))
enumeration_by false t others e = rw e (zero_fits_type types.Bool)

end-fits : (f : FileData) (t : ℕ) (s : Option SpecificationData) → StartFits (end_domain f t s)
end-fits f t None = no_domain-fits
end-fits f t (Some (of_values at first others)) = enumeration_by (has_few others) t others refl
end-fits f t (Some (of_type (of_elementary k at))) = elementary-fits f k at
end-fits f t (Some (of_type (of_subrange k at b))) = subrange_by (judged_subrange f k at b).whole f k at b refl
end-fits f t (Some (of_type (of_name n))) = no_domain-fits

named-fits : (f : FileData) (s : Option Standing) → StartFits (named_domain f s)
named-fits f None = no_domain-fits
named-fits f (Some (standings.Type t)) = end-fits f (end_of f t) (end_specification f t)
named-fits f (Some (standings.Value t k)) = no_domain-fits
named-fits f (Some (standings.Pou p)) = no_domain-fits

domain-fits : (f : FileData) (t : TypeData) → StartFits (domain_of f t)
domain-fits f (of_elementary k at) = elementary-fits f k at
domain-fits f (of_subrange k at b) = subrange_by (judged_subrange f k at b).whole f k at b refl
domain-fits f (of_name n) = named-fits f (standing f n.text)

domain_if-fits : (f : FileData) (t : Option TypeData) → StartFits (domain_if f t)
unfolding StartFits
domain_if-fits f None = zero_fits_type types.Bool
domain_if-fits f (Some t) = domain-fits f t

-- ---- what a variable begins with

-- an initial value that breaks no rule is in range
given-fits : (f : FileData) (d : Domain) (at : ℕ) (initial : Option Tree) → StartFits d → (judged_initial f d at initial).whole ≡ true → Fits d.range.low d.range.high (given_value f d initial)
unfolding StartFits
given-fits f d at None fits e = fits
given-fits f d at (Some v) fits e =
    bounds (constant_of (values_scope f) d.kind v) d.range
    (test_of (require (judged (values_scope f) (Some d.kind) v) (is_same_type (type_of (values_scope f) (Some d.kind) v) d.kind) ValueType at) (in_range (constant_of (values_scope f) d.kind v) d.range) OutsideType (place_of v) e)

start_by : (b : Bool) (f : FileData) (d : Domain) (at : ℕ) (initial : Option Tree) → (judged_initial f d at initial).whole ≡ b → StartFits d → Fits d.range.low d.range.high (start_of f d at initial)
unfolding StartFits
start_by true f d at initial e fits = rw e (given-fits f d at initial fits e)
start_by false f d at initial e fits = rw e fits

-- a cell begins in its range
StartsInRange : CellData → Type 0
StartsInRange c = Fits c.range.low c.range.high c.initial

cell-fits : (f : FileData) (inside : Bool) (before : Option (List ℕ)) (v : Variable) → StartsInRange (cell_for f inside before v)
unfolding StartsInRange
cell-fits f inside before v =
    start_by (judged_initial f (domain_of_variable f v) v.name.at v.initial).whole f (domain_of_variable f v) v.name.at v.initial refl (domain_if-fits f v.kind)

-- ---- the cells of a chart

active_first-fits : (role : Role) → Fits (least_of types.Bool) (greatest_of types.Bool) (active_first role)
active_first-fits roles.Input = (omega (arith, ints), omega (arith, ints))
active_first-fits roles.Output = (omega (arith, ints), omega (arith, ints))
active_first-fits roles.Local = (omega (arith, ints), omega (arith, ints))
active_first-fits roles.Temporary = (omega (arith, ints), omega (arith, ints))
active_first-fits roles.Constant = (omega (arith, ints), omega (arith, ints))
active_first-fits roles.Result = (omega (arith, ints), omega (arith, ints))
active_first-fits roles.Step = (omega (arith, ints), omega (arith, ints))
active_first-fits roles.InitialStep = (omega (arith, ints), omega (arith, ints))
active_first-fits roles.Action = (omega (arith, ints), omega (arith, ints))
active_first-fits roles.StoredAction = (omega (arith, ints), omega (arith, ints))
active_first-fits roles.Transition = (omega (arith, ints), omega (arith, ints))

flag-fits : (before : Option (List ℕ)) (n : Named) (text : List ℕ) (initial : ℤ) → Fits (least_of types.Bool) (greatest_of types.Bool) initial → StartsInRange (flag_cell before n text initial)
unfolding StartsInRange
flag-fits before n text initial fits = fits

-- ---- the cells of instances too

AllFit : List CellData → Type 0
AllFit cs = IsInRange (ranges_of cs) (initial cs)

one_more_fits : (c : CellData) (cs : List CellData) → StartsInRange c → AllFit cs → AllFit (c ∷ cs)
unfolding AllFit StartsInRange
one_more_fits c cs fits all = (fits.0, fits.1, all)

one_fits : (c : CellData) → StartsInRange c → AllFit (c ∷ [])
unfolding AllFit StartsInRange
one_fits c fits = (fits.0, fits.1, tt)

append_fit : (cs ds : List CellData) → AllFit cs → AllFit ds → AllFit (cs ++ ds)
unfolding AllFit
append_fit [] ds a b = b
append_fit (c ∷ cs) ds a b = (a.0, a.1, append_fit cs ds a.2 b)

if_fit : (b : Bool) (cs : List CellData) → AllFit cs → AllFit (if b then cs else [])
unfolding AllFit
if_fit true cs all = all
if_fit false cs all = tt

unless_fit : (b : Bool) (cs : List CellData) → AllFit cs → AllFit (if b then [] else cs)
unfolding AllFit
unless_fit true cs all = tt
unless_fit false cs all = all

else_fit : (b : Bool) (cs ds : List CellData) → AllFit cs → AllFit ds → AllFit (if b then cs else ds)
unfolding AllFit
else_fit true cs ds all others = all
else_fit false cs ds all others = others

cells_for-fit : (f : FileData) (inside : Bool) (before : Option (List ℕ)) (v : Variable) → AllFit (cells_for f inside before v)
cells_for-fit f inside before v =
    let active = flag_cell before v.name (codes "X") (active_first v.role) in
    let latest = flag_cell before v.name (codes "L") (pos 0) in
    let stored = flag_cell before v.name (codes "S") (pos 0) in
    let latest_fits = flag-fits before v.name (codes "L") (pos 0) (zero_fits_type types.Bool) in
    let stored_fits = flag-fits before v.name (codes "S") (pos 0) (zero_fits_type types.Bool) in
    else_fit (is_step v.role) (active ∷ latest ∷ []) (if is_stored_action v.role then stored ∷ [] else cell_for f inside before v ∷ [])
    (one_more_fits active (latest ∷ []) (flag-fits before v.name (codes "X") (active_first v.role) (active_first-fits v.role)) (one_fits latest latest_fits))
    (else_fit (is_stored_action v.role) (stored ∷ []) (cell_for f inside before v ∷ []) (one_fits stored stored_fits) (one_fits (cell_for f inside before v) (cell-fits f inside before v)))

BlocksFit : (Option (List ℕ) → ℕ → List CellData) → Type 0
BlocksFit of_block = (before : Option (List ℕ)) (b : ℕ) → AllFit (of_block before b)

variable_fit : (f : FileData) (of_block : Option (List ℕ) → ℕ → List CellData) (inside : Bool) (before : Option (List ℕ)) (v : Variable) (block : Option ℕ) → BlocksFit of_block
    → AllFit (cells_of_variable f of_block inside before v block)
unfolding AllFit BlocksFit
variable_fit f of_block inside before v None blocks = cells_for-fit f inside before v
variable_fit f of_block inside before v (Some b) blocks =
    unless_fit (size_among (sizes_of f) (Some b) == 0) (of_block (path_behind before v.name) b) (blocks (path_behind before v.name) b)

all_fit : (f : FileData) (of_block : Option (List ℕ) → ℕ → List CellData) (inside : Bool) (before : Option (List ℕ)) (vs : List Variable) → BlocksFit of_block
    → AllFit (cells_of f of_block inside before vs)
unfolding AllFit
all_fit f of_block inside before [] blocks = tt
all_fit f of_block inside before (v ∷ vs) blocks =
    append_fit (if has_cell v.role then cells_of_variable f of_block inside before v (block_of f v) else []) (cells_of f of_block inside before vs)
    (if_fit (has_cell v.role) (cells_of_variable f of_block inside before v (block_of f v)) (variable_fit f of_block inside before v (block_of f v) blocks))
    (all_fit f of_block inside before vs blocks)

blocks_fit : (f : FileData) (depth : ℕ) → BlocksFit (block_cells f depth)
unfolding AllFit BlocksFit
blocks_fit f zero before b = tt
blocks_fit f (suc depth) before b = all_fit f (block_cells f depth) true before (in_order false (variables_at f b)) (blocks_fit f depth)

pub typed_program-fit : (f : FileData) (k : ℕ) (p : PouData) → IsFitToRun (typed_program f k p)
unfolding AllFit StartsInRange
typed_program-fit f k p = record {
  begins_with_fault = (refl, refl, refl);
  start_in_range = one_more_fits fault_cell (cells_in f (Some []) false (variables_in_pou p)) (zero_fits_type types.Bool)
      (all_fit f (block_cells f (length (pous_of f))) false (Some []) (in_order false (variables_in_pou p)) (blocks_fit f (length (pous_of f))));
}
