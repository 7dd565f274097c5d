-- What may be assigned in a PROGRAM has a cell, and its path breaks no rule on names.
use Rattle.std.proofs.Common.{◌≡◌, ℕ, ◌+◌, Bool, true, false, not, ◌||◌, if◌then◌else◌, List, [], ◌∷◌, Option, Some, None, option_map, refl, sym, ap, ◌∙◌}
use Rattle.std.specs.Prelude.{ℤ}
use Rattle.std.proofs.lemmas.Bool.{and_parts, false≢true}
use Rattle.plc_types.specs.DataTypes.{is_same_type}
use Rattle.rules.specs.declared.rule.Rule.TheVariants.{ValueType, NotAssignable}
use Rattle.rules.specs.Judgements.{and}
use Rattle.source_tree.specs.Syntax.{Named, PathData, Tree, program, PouData, FileData}
use Rattle.naming.specs.declared.role.Role.{Role}
use Rattle.naming.specs.declared.role.Role.TheVariants as roles
use Rattle.naming.specs.Seen.{Seen}
use Rattle.naming.specs.declared.standing.Standing.{Standing}
use Rattle.naming.specs.declared.standing.Standing.TheVariants as standings
use Rattle.naming.specs.Broken.{in_path}
use Rattle.naming.specs.FileScope.{pou_at, standing}
use Rattle.naming.specs.Types.{specification_at}
use Rattle.naming.specs.Scopes.{Variable, scope_of as names_of, seen, seen_named, is_step}
use Rattle.typing.specs.declared.scope.Place.{Place}
use Rattle.typing.specs.declared.scope.Place.TheVariants as places
use Rattle.typing.specs.declared.scope.Meaning.{Meaning}
use Rattle.typing.specs.declared.member.Member.{Member}
use Rattle.typing.specs.Domains.{value_meaning, is_few, value_at}
use Rattle.typing.specs.Variables.{initial_of}
use Rattle.typing.specs.Typing.{Scope, by_path, kind_at, or_dint, type_of}
use Rattle.typing.specs.Judged.{judged, judged_meaning}
use Rattle.typing.specs.JudgedStatements.{is_free, is_assignable, judged_target, judged_assign}
use Rattle.typing.specs.Places.{has_cell, sizes_of}
use Rattle.typing.specs.Members.{may_be_assigned, member_of, member_at, seen_from, in_instance, meant_by, variable_or_value, scope_of}
use Rattle.typed_files.proofs.typed_scopes.Wholes.{whole_require, whole_and}
use Rattle.typed_files.specs.typed_cells.Premises.{UsesItsBlocks, IsOrdered}
use Rattle.found_cells.proofs.cell_paths.Owners.{program_name}
use Rattle.found_cells.specs.Clauses.{IsWholePath}

-- ---- what an assignment that breaks no rule says of its target

pub record IsTarget (scope : Scope) (q : PathData) : Type 0 where
  pub meaning : Meaning
  pub means : scope.means (by_path q) ≡ Some meaning
  pub assignable : meaning.assignable ≡ true

target_by : (scope : Scope) (q : PathData) (controls : List ℕ) (o : Option Meaning) → scope.means (by_path q) ≡ o → is_assignable controls o ≡ true → IsTarget scope q
target_by scope q controls None means is = absurd (false≢true is)
target_by scope q controls (Some m) means is = record { meaning = m; means = means; assignable = (and_parts m.assignable (not m.control || is_free controls m.place) is).0 }

pub target_of : (scope : Scope) (controls : List ℕ) (q : PathData) (e : Tree) → (judged_assign scope controls q e).whole ≡ true → IsTarget scope q
target_of scope controls q e whole =
    let m = scope.means (by_path q) in
    let at = q.first.at in
    let fitting = whole_require (and (judged_target controls m at) (judged scope (kind_at m) e)) (is_same_type (type_of scope (kind_at m) e) (or_dint (kind_at m))) ValueType at whole in
    let both = whole_and (judged_target controls m at) (judged scope (kind_at m) e) fitting.0 in
    let target = whole_require (judged_meaning m) (is_assignable controls m) NotAssignable at both.0 in
    target_by scope q controls m refl target.1

-- ---- its cell

assignable_cell : (r : Role) → may_be_assigned r ≡ true → has_cell r ≡ true
assignable_cell roles.Output is = refl
assignable_cell roles.Local is = refl
assignable_cell roles.Temporary is = refl
assignable_cell roles.Result is = refl
assignable_cell _ is = absurd (false≢true is)

placed_by : (b : Bool) (cell : ℕ) (v : ℤ) → b ≡ true → (let p : Place = if b then places.Cell cell else places.Value v in p) ≡ places.Cell cell
placed_by true cell v is = refl
placed_by false cell v is = absurd (false≢true is)

no_value : (f : FileData) (s : Option Standing) (m : Meaning) → m.assignable ≡ true → value_at f s ≡ Some m → ⊥
no_value f None m may found = let h : ⊥ = cc in h
no_value f (Some (standings.Type t)) m may found = let h : ⊥ = cc in h
no_value f (Some (standings.Value t n)) m may found =
    let same : value_meaning t n (is_few (specification_at f t)) ≡ m = cc in
    false≢true (ap (λ (x : Meaning). x.assignable) same ∙ may)
no_value f (Some (standings.Pou q)) m may found = let h : ⊥ = cc in h

record IsInCell (m : Meaning) : Type 0 where
  cell : ℕ
  is : m.place ≡ places.Cell cell

-- a target in a PROGRAM
pub record IsCellTarget (f : FileData) (p : PouData) (q : PathData) (m : Meaning) : Type 0 where
  pub whole : IsWholePath f p q
  pub cell : ℕ
  pub at : m.place ≡ places.Cell cell

module _ (f : FileData) (m : Meaning) (may : m.assignable ≡ true) where
  -- a name alone
  own_cell : (b : Member) (v : Variable) → b ≡ member_of f b.cell v → b.meaning ≡ m → IsInCell m
  own_cell b v is same =
      let role : may_be_assigned v.role ≡ true = sym (ap (λ (x : Member). x.meaning.assignable) is) ∙ ap (λ (x : Meaning). x.assignable) same ∙ may in
      let place : b.meaning.place ≡ places.Cell b.cell = ap (λ (x : Member). x.meaning.place) is ∙ placed_by (has_cell v.role) b.cell (initial_of f v) (assignable_cell v.role role) in
      record { cell = b.cell; is = sym (ap (λ (x : Meaning). x.place) same) ∙ place }

  -- a name of an instance
  inner_cell : (cell : ℕ) (o : Option Member) → option_map (seen_from cell) o ≡ Some m → IsInCell m
  inner_cell cell None means = absurd (let h : ⊥ = cc in h)
  inner_cell cell (Some w) means =
      let alone : (let o : Option Meaning = Some (seen_from cell w) in o) ≡ Some m = means in
      let same : seen_from cell w ≡ m = cc in
      record { cell = cell + w.cell; is = sym (ap (λ (x : Meaning). x.place) same) }

  instance_cell : (cell : ℕ) (n : Named) (o : Option ℕ) → in_instance f (sizes_of f) cell n o ≡ Some m → IsInCell m
  instance_cell cell n None means = absurd (let h : ⊥ = cc in h)
  instance_cell cell n (Some b) means = inner_cell cell (member_at f (sizes_of f) b n.text) means

  step_or_instance : (s : Bool) (b : Member) (v : Variable) → b ≡ member_of f b.cell v → (n : Named)
      → (let o : Option Meaning = if s then Some b.meaning else in_instance f (sizes_of f) b.cell n b.block in o) ≡ Some m → IsInCell m
  step_or_instance true b v is n means =
      let alone : (let o : Option Meaning = Some b.meaning in o) ≡ Some m = means in
      let same : b.meaning ≡ m = cc in
      own_cell b v is same
  step_or_instance false b v is n means = instance_cell b.cell n b.block means

  cell_meant : (b : Member) (v : Variable) → b ≡ member_of f b.cell v → (ns : List Named) → meant_by f (sizes_of f) ns b ≡ Some m → IsInCell m
  cell_meant b v is [] means =
      let alone : (let o : Option Meaning = Some b.meaning in o) ≡ Some m = means in
      let same : b.meaning ≡ m = cc in
      own_cell b v is same
  cell_meant b v is (n ∷ ns) means = step_or_instance (is_step b.role) b v is n means

module _ (f : FileData) (used : UsesItsBlocks f) (ordered : IsOrdered f) (k : ℕ) (p : PouData) (there : pou_at f k ≡ Some p) (as_program : p.pou_type ≡ program) (q : PathData) (m : Meaning) (may : m.assignable ≡ true)
    (named : (in_path f (names_of p) (seen_named f (names_of p) q.first.text) q).whole ≡ true) where
  by_member : (o : Option Member) → member_at f (sizes_of f) k q.first.text ≡ o → variable_or_value f (sizes_of f) q.first.text q.members o ≡ Some m → IsCellTarget f p q m
  by_member None found means = absurd (no_value f (standing f q.first.text) m may means)
  by_member (Some b) found means =
      let name = program_name f used ordered k p there as_program q.first.text b found in
      let v = name.at.variable in
      let known : seen_named f (names_of p) q.first.text ≡ Some (seen f (names_of p) v) = ap (λ (o : Option Variable). option_map (seen f (names_of p)) o) name.at.named in
      let whole = sym (ap (λ (o : Option Seen). (in_path f (names_of p) o q).whole) known) ∙ named in
      let cell = cell_meant f m may b v name.at.is q.members means in
      record { whole = record { seen = seen f (names_of p) v; known = known; whole = whole }; cell = cell.cell; at = cell.is }

  pub target_cell : (scope_of f (sizes_of f) k).means (by_path q) ≡ Some m → IsCellTarget f p q m
  target_cell means = by_member (member_at f (sizes_of f) k q.first.text) refl means
