-- What the names of a POU stand for fits its cells.
use Rattle.std.proofs.Common.{◌≡◌, ℕ, ◌+◌, ◌≤◌, ◌<◌, Bool, true, false, if◌then◌else◌, List, [], ◌∷◌, length, Option, Some, None, option_map, refl, sym, ap, ◌∙◌, arith, subst}
use Rattle.std.specs.Prelude.{unwrap_or}
use Rattle.std.proofs.lemmas.Bool.{false≢true}
use Rattle.plc_types.proofs.InRange.{covers_in}
use Rattle.call_order.specs.Marks.{is_marked}
use Rattle.source_tree.specs.Syntax.{Named, PouTypeData, function, function_block, program, PouData, FileData}
use Rattle.program_tree.specs.declared.scratch.Scratch.{Scratch}
use Rattle.program_tree.specs.Places.{place_at}
use Rattle.naming.specs.FileScope.{pou_at, is_block}
use Rattle.naming.specs.Scopes.{Variable, variables_in_pou, variable_named, is_seen, is_step, block_of}
use Rattle.typing.specs.declared.member.Member.{Member}
use Rattle.typing.specs.declared.scope.Meaning.{Meaning}
use Rattle.typing.specs.declared.scope.Place.{Place}
use Rattle.typing.specs.declared.scope.Place.TheVariants as places
use Rattle.typing.specs.Reached.{reached}
use Rattle.typing.specs.Typing.{Reference, by_path, by_value, is_unknown}
use Rattle.typing.specs.Variables.{domain_of_variable, initial_of}
use Rattle.typing.specs.Places.{has_cell, cells_taken, sizes_of, variables_at}
use Rattle.typing.specs.Members.{place_at as place_of_name, meaning_of, member_of, member_at, seen_from, in_instance, variable_or_value, named_in}
use Rattle.typed_programs.specs.Scopes.{BodyScope}
use Rattle.typed_scopes.specs.Types.{range_of_type, IsPlaceOf}
use Rattle.typed_scopes.specs.Fitting.{IsAt, MeaningFits}
use Rattle.typed_cells.specs.Uses.{is_seen_variable, is_seen_member, are_seen_behind, is_seen_by}
use Rattle.typed_cells.specs.Places.{last, block_places, pou_places, first_of, chart_place, scope_over}
use Rattle.typed_cells.specs.Variables.{variable_places}
use Rattle.typed_cells.specs.Premises.{UsesItsBlocks, IsOrdered}
use Rattle.typed_cells.proofs.Occurrences.{Occurs, occurs_in, occurs_within, occurs_same}
use Rattle.typed_cells.proofs.Walks.{IsAtName, named_all}
use Rattle.typed_cells.proofs.Names.{HasKind, kinds_known}
use Rattle.typed_cells.proofs.Domains.{variable_sound, initial_in}
use Rattle.typed_cells.proofs.Values.{value_fits}
use Rattle.typed_cells.proofs.Lengths.{HasSize, instance_local}
use Rattle.typed_cells.proofs.Cells.{no_block, IsFirstCell, first_cell}
use Rattle.typed_cells.proofs.Bounds.{from_first, before_chart}
use Rattle.typed_cells.proofs.Owners.{same_variables, sizes_known, member_is, at_name}
use Rattle.typed_cells.proofs.Instances.{instance_block, used_block, IsInstance, is_instance}
use Rattle.typed_cells.proofs.Roles.{no_cell_kept, seen_cell, assigned_plain, local_plain}

-- ---- a name with a cell, and one with a value

name_of_cell : (f : FileData) (c : ℕ) (v : Variable) → has_cell v.role ≡ true → place_of_name f c v ≡ places.Cell c
name_of_cell f c v has = rw has refl

name_of_value : (f : FileData) (c : ℕ) (v : Variable) → has_cell v.role ≡ false → place_of_name f c v ≡ places.Value (initial_of f v)
name_of_value f c v none = rw none refl

module _ (f : FileData) (b : BodyScope) where
  -- a cell of a variable that may be assigned under some condition
  cell_at : (v : Variable) (c : ℕ) (m : Meaning) → IsFirstCell f v b.places c → b.first ≤ c → c < length b.places → m.kind ≡ (domain_of_variable f v).kind → m.range ≡ (domain_of_variable f v).range
      → (m.assignable ≡ true → c < b.settable) → is_unknown m.kind ≡ false → IsAt b (last f) m (places.Cell c)
  cell_at v c m cell first within kind range settable known =
      let d = domain_of_variable f v in
      let sound = (variable_sound f v).place (subst (λ t. is_unknown t ≡ false) kind known) in
      let takes : IsPlaceOf (last f) m.kind (place_at b.places c) = subst (λ t. IsPlaceOf (last f) t (place_at b.places c)) (sym kind) (subst (λ (p : Scratch). IsPlaceOf (last f) d.kind p) (sym cell.takes) sound) in
      ((first, within), takes, ap (λ (p : Scratch). p.range) cell.takes ∙ sym range, settable)

  value_at_name : (v : Variable) (c : ℕ) → has_cell v.role ≡ false → is_unknown (domain_of_variable f v).kind ≡ false → IsAt b (last f) (meaning_of f c v) (places.Value (initial_of f v))
  value_at_name v c none known =
      let d = domain_of_variable f v in
      let sound = (variable_sound f v).place known in
      (sound.known, covers_in (range_of_type (last f) d.kind) d.range (initial_of f v) sound.within (initial_in f v), no_cell_kept v.role none)

module _ (f : FileData) (used : UsesItsBlocks f) (ordered : IsOrdered f) (k : ℕ) (p : PouData) (there : pou_at f k ≡ Some p) (is : is_marked (reached f) k ≡ true) where
  abbrev scope : BodyScope
  scope = scope_over f k p

  own_by : (text : List ℕ) (m : Member) (found : member_at f (sizes_of f) k text ≡ Some m) (at : IsAtName f (pou_places f k p.pou_type p) text (variables_in_pou p) m) (has : Bool) → has_cell at.variable.role ≡ has
      → MeaningFits scope (last f) (meaning_of f m.cell at.variable)
  own_by text m found at true has whole known =
      let v = at.variable in
      let among = sym (member_is f used ordered k p there (sizes_of f) text) ∙ found in
      let cell = first_cell f v (pou_places f k p.pou_type p) m.cell has (no_block f v known) (named_all HasKind text (variables_in_pou p) (kinds_known p) v at.named) at.stands in
      let size = named_all (HasSize f) text (variables_in_pou p) (sizes_known f used ordered k p there) v at.named in
      let bound = occurs_within (variable_places f v) (pou_places f k p.pou_type p) m.cell at.stands in
      let some = cell.some in
      subst (λ (q : Place). IsAt scope (last f) (meaning_of f m.cell v) q) (sym (name_of_cell f m.cell v has))
      (cell_at f scope v m.cell (meaning_of f m.cell v) cell (from_first f text p.pou_type (variables_in_pou p) m among) (omega (arith, bound, some)) refl refl
      (λ assigned. let before = before_chart f text p m among v at.named (assigned_plain v.role assigned) in omega (arith, before, size, some)) known)
  own_by text m found at false has whole known = subst (λ (q : Place). IsAt scope (last f) (meaning_of f m.cell at.variable) q) (sym (name_of_value f m.cell at.variable has)) (value_at_name f scope at.variable m.cell has known)

  name_fits : (text : List ℕ) (m : Member) → member_at f (sizes_of f) k text ≡ Some m → MeaningFits scope (last f) m.meaning
  name_fits text m found =
      let at = at_name f used ordered k p there text m found in
      subst (λ (x : Member). MeaningFits scope (last f) x.meaning) (sym at.is) (own_by text m found at (has_cell at.variable.role) refl)

  -- ---- a member of an instance

  block_pou : (o : Option PouData) → unwrap_or (option_map is_block (option_map (λ (q : PouData). q.pou_type) o)) false ≡ true → (q : PouData) × (o ≡ Some q) × (q.pou_type ≡ function_block)
  block_pou None passes = absurd (false≢true passes)
  block_pou (Some q) passes = (q, refl, only q.pou_type passes)
    where
      only : (pou_type : PouTypeData) → is_block pou_type ≡ true → pou_type ≡ function_block
      only (function t) passes = absurd (false≢true passes)
      only function_block passes = refl
      only program passes = absurd (false≢true passes)

  -- of a member that is seen, at its place in its block
  module _ (b : ℕ) (q : PouData) (at_b : pou_at f b ≡ Some q) (block : q.pou_type ≡ function_block) (m : Member) (v : Variable) (i : IsInstance f used ordered k p there is v b) (stands : Occurs (variable_places f v) (pou_places f k p.pou_type p) m.cell)
      (first : first_of p.pou_type ≤ m.cell) (before : m.cell + cells_taken f (sizes_of f) v ≤ chart_place f p) where
    seen_at : (text : List ℕ) (inner : Member) → IsAtName f (pou_places f b q.pou_type q) text (variables_in_pou q) inner → (w : Variable) → inner ≡ member_of f inner.cell w → HasKind w → is_seen w.role ≡ true
        → Occurs (variable_places f w) (block_places f b) inner.cell → MeaningFits scope (last f) (seen_from m.cell (member_of f inner.cell w))
    seen_at text inner at w same kind seen inside whole known =
        let has : has_cell w.role ≡ true = seen_cell w.role seen in
        let outer : Occurs (block_places f b) (pou_places f k p.pou_type p) m.cell = occurs_same (variable_places f v) (block_places f b) (pou_places f k p.pou_type p) m.cell i.places stands in
        let all : Occurs (variable_places f w) (pou_places f k p.pou_type p) (m.cell + inner.cell) = occurs_in (variable_places f w) (block_places f b) (pou_places f k p.pou_type p) m.cell inner.cell outer inside in
        let cell = first_cell f w (pou_places f k p.pou_type p) (m.cell + inner.cell) has (no_block f w known) kind all in
        let bound = occurs_within (variable_places f w) (pou_places f k p.pou_type p) (m.cell + inner.cell) all in
        let bound_inside = occurs_within (variable_places f w) (block_places f b) inner.cell inside in
        let some = cell.some in
        let size = i.size in
        cell_at f scope w (m.cell + inner.cell) (seen_from m.cell (member_of f inner.cell w)) cell (omega (arith, first)) (omega (arith, bound, some)) refl refl (λ assigned. omega (arith, before, size, bound_inside, some)) known

    seen_member : (n : Named) (inner : Member) → member_at f (sizes_of f) b n.text ≡ Some inner → is_seen_variable (variable_named n.text (variables_at f b)) ≡ true → MeaningFits scope (last f) (seen_from m.cell inner)
    seen_member n inner found seen =
        let at = at_name f used ordered b q at_b n.text inner found in
        let w = at.variable in
        let named : variable_named n.text (variables_at f b) ≡ Some w = ap (variable_named n.text) (same_variables f used ordered b q at_b) ∙ at.named in
        let is_seen_w : is_seen w.role ≡ true = subst (λ (o : Option Variable). is_seen_variable o ≡ true) named seen in
        let places : pou_places f b q.pou_type q ≡ block_places f b = ap (λ (pou_type : PouTypeData). pou_places f b pou_type q) block in
        subst (λ (x : Member). MeaningFits scope (last f) (seen_from m.cell x)) (sym at.is)
        (seen_at n.text inner at w at.is (named_all HasKind n.text (variables_in_pou q) (kinds_known q) w at.named) is_seen_w (subst (λ (l : List Scratch). Occurs (variable_places f w) l inner.cell) places at.stands))

    seen_option : (n : Named) (o : Option Member) → member_at f (sizes_of f) b n.text ≡ o → is_seen_variable (variable_named n.text (variables_at f b)) ≡ true → (x : Meaning) → option_map (seen_from m.cell) o ≡ Some x → MeaningFits scope (last f) x
    seen_option n None found seen x same = absurd (let h : ⊥ = cc in h)
    seen_option n (Some inner) found seen x same =
        let e : seen_from m.cell inner ≡ x = cc in subst (λ (y : Meaning). MeaningFits scope (last f) y) e (seen_member n inner found seen)

  behind_by : (text : List ℕ) (m : Member) → member_at f (sizes_of f) k text ≡ Some m → (n : Named) (block : Option ℕ) → m.block ≡ block → (at : IsAtName f (pou_places f k p.pou_type p) text (variables_in_pou p) m) → is_seen_member f n (block_of f at.variable) ≡ true
      → (x : Meaning) → in_instance f (sizes_of f) m.cell n block ≡ Some x → MeaningFits scope (last f) x
  behind_by text m found n None block at seen x same = absurd (let h : ⊥ = cc in h)
  behind_by text m found n (Some b) block at seen x same =
      let v = at.variable in
      let of_v : block_of f v ≡ Some b = sym (ap (λ (y : Member). y.block) at.is) ∙ block in
      let i = is_instance f used ordered k p there is v b (used_block f used ordered k p there is text v at.named) of_v in
      let pou = block_pou (pou_at f b) (instance_block f v b of_v) in
      let among = sym (member_is f used ordered k p there (sizes_of f) text) ∙ found in
      let bound = before_chart f text p m among v at.named (local_plain v.role (instance_local f v b of_v)) in
      let seen_b : is_seen_variable (variable_named n.text (variables_at f b)) ≡ true = subst (λ (o : Option ℕ). is_seen_member f n o ≡ true) of_v seen in
      seen_option b pou.0 pou.1 pou.2 m v i at.stands (from_first f text p.pou_type (variables_in_pou p) m among) bound n (member_at f (sizes_of f) b n.text) refl seen_b x same

  -- a step stands for its first cell
  by_step : (text : List ℕ) (m : Member) → member_at f (sizes_of f) k text ≡ Some m → (n : Named) (ns : List Named) → are_seen_behind f (n ∷ ns) (variable_named text (variables_at f k)) ≡ true → (step : Bool) (x : Meaning)
      → (if step then Some m.meaning else in_instance f (sizes_of f) m.cell n m.block) ≡ Some x → MeaningFits scope (last f) x
  by_step text m found n ns seen true x same = let e : m.meaning ≡ x = cc in subst (λ (y : Meaning). MeaningFits scope (last f) y) e (name_fits text m found)
  by_step text m found n ns seen false x same =
      let at = at_name f used ordered k p there text m found in
      let named : variable_named text (variables_at f k) ≡ Some at.variable = ap (variable_named text) (same_variables f used ordered k p there) ∙ at.named in
      behind_by text m found n m.block refl at (subst (λ (o : Option Variable). are_seen_behind f (n ∷ ns) o ≡ true) named seen) x same

  path_fits : (text : List ℕ) (ns : List Named) (o : Option Member) → member_at f (sizes_of f) k text ≡ o → are_seen_behind f ns (variable_named text (variables_at f k)) ≡ true → (x : Meaning) → variable_or_value f (sizes_of f) text ns o ≡ Some x
      → MeaningFits scope (last f) x
  path_fits text ns None found seen x same = value_fits f text scope x same
  path_fits text [] (Some m) found seen x same = let e : m.meaning ≡ x = cc in subst (λ (y : Meaning). MeaningFits scope (last f) y) e (name_fits text m found)
  path_fits text (n ∷ ns) (Some m) found seen x same = by_step text m found n ns seen (is_step m.role) x same

  -- what a reference stands for that may be used
  pub names_fit : (r : Reference) → is_seen_by f k r ≡ true → (x : Meaning) → named_in f (sizes_of f) k r ≡ Some x → MeaningFits scope (last f) x
  names_fit (by_path q) seen x same = path_fits q.first.text q.members (member_at f (sizes_of f) k q.first.text) refl seen x same
  names_fit (by_value n) seen x same = value_fits f n.text scope x same
