-- The cells of what names stand for have the paths of the names, and their types and ranges.
use Rattle.std.proofs.Common.{◌≡◌, ℕ, zero, suc, ◌+◌, Bool, true, false, List, [], ◌∷◌, ◌++◌, Option, Some, None, refl, sym, ap, ◌∙◌, subst, append_assoc}
use Rattle.std.specs.Prelude.{codes, ℤ, pos}
use Rattle.std.specs.List.{slice_get}
use Rattle.std.proofs.lemmas.Option.{slice_get_within}
use Rattle.plc_types.specs.declared.data_type.DataType.{DataType}
use Rattle.plc_types.specs.declared.range.Range.{Range}
use Rattle.source_tree.specs.Syntax.{program, PouData, FileData}
use Rattle.program_tree.specs.Tree.{CellData}
use Rattle.naming.specs.FileScope.{pou_at}
use Rattle.naming.specs.Scopes.{Variable, is_step, block_of}
use Rattle.typing.specs.declared.domain.Domain.{Domain}
use Rattle.typing.specs.declared.member.Member.{Member}
use Rattle.typing.specs.Variables.{domain_if, domain_of_variable}
use Rattle.typing.specs.Places.{has_cell, is_stored_action, sizes_of}
use Rattle.typing.specs.Members.{member_of, member_at}
use Rattle.typing.specs.TypedPrograms.{active_first, cell_for, flag_cell, typed_program}
use Rattle.typed_cells.specs.Premises.{IsUsedBlock, UsesItsBlocks, IsOrdered}
use Rattle.typed_cells.proofs.Lengths.{instance_local}
use Rattle.typed_cells.proofs.Owners.{low}
use Rattle.typed_cells.proofs.Roles.{local_cell, step_cell, step_chart, step_not_local, stored_cell, stored_chart, stored_not_local, stored_no_step}
use Rattle.typed_cells.proofs.Names.{HasKind}
use Rattle.cell_paths.specs.Paths.{named_cells, cells_by, StandAmong, HasNamedCells, StandsFor, paths_behind, IsCellAt, HasPaths}
use Rattle.cell_paths.proofs.Occurrences.{stands_same, stands_among}
use Rattle.cell_paths.proofs.Lengths.{cells_at}
use Rattle.cell_paths.proofs.Owners.{program_name}
use Rattle.cell_paths.proofs.Located.{program_reached, IsLocated, is_instance, located}

-- ---- cells of paths

-- each path is that of the cell at its place
abbrev AreCells : DataType → Range → List CellData → List (List ℕ) → Type 0
AreCells kind range cs [] = Unit {0}
AreCells kind range [] (q ∷ qs) = ⊥
AreCells kind range (c ∷ cs) (q ∷ qs) = ((c.path ≡ q) × (c.kind ≡ kind) × (c.range ≡ range)) × AreCells kind range cs qs

each_cell : (kind : DataType) (range : Range) (cs : List CellData) (qs : List (List ℕ)) → AreCells kind range cs qs → (n : ℕ) (q : List ℕ) → slice_get qs n ≡ Some q → IsCellAt cs n q kind range
each_cell kind range cs [] all n q is = absurd (let h : ⊥ = cc in h)
each_cell kind range [] (x ∷ qs) all n q is = absurd all
each_cell kind range (c ∷ cs) (x ∷ qs) all zero q is =
    let same : x ≡ q = cc in
    record { cell = c; there = refl; named = all.0.0 ∙ same; typed = all.0.1; ranged = all.0.2 }
each_cell kind range (c ∷ cs) (x ∷ qs) all (suc n) q is =
    let rest = each_cell kind range cs qs all.1 n q is in
    record { cell = rest.cell; there = rest.there; named = rest.named; typed = rest.typed; ranged = rest.ranged }

moved_cell : (xs owner : List CellData) (place : ℕ) → StandAmong xs owner place → (n : ℕ) (q : List ℕ) (kind : DataType) (range : Range) → IsCellAt xs n q kind range → IsCellAt owner (place + n) q kind range
moved_cell xs owner place stand n q kind range at =
    record { cell = at.cell; there = stand n (slice_get_within xs n at.cell at.there) ∙ at.there; named = at.named; typed = at.typed; ranged = at.ranged }

-- ---- the cells of a name

module _ (f : FileData) (inside : Bool) (before : List ℕ) (v : Variable) (known : HasKind v) where
  abbrev flag : List ℕ → ℤ → CellData
  flag text initial = flag_cell (Some before) v.name text initial

  step_cells : is_step v.role ≡ true → cells_at f inside before v ≡ flag (codes "X") (active_first v.role) ∷ flag (codes "L") (pos 0) ∷ []
  step_cells is =
      let has = step_cell v.role is in
      let other = step_not_local v.role is in
      let none : block_of f v ≡ None = rw other refl in
      rw (has, none, is) refl

  stored_cells : is_stored_action v.role ≡ true → cells_at f inside before v ≡ flag (codes "S") (pos 0) ∷ []
  stored_cells is =
      let has = stored_cell v.role is in
      let other = stored_not_local v.role is in
      let plain = stored_no_step v.role is in
      let none : block_of f v ≡ None = rw other refl in
      rw (has, none, plain, is) refl

  plain_cells : has_cell v.role ≡ true → block_of f v ≡ None → is_step v.role ≡ false → is_stored_action v.role ≡ false → cells_at f inside before v ≡ cell_for f inside (Some before) v ∷ []
  plain_cells has none plain other = rw (has, none, plain, other) refl

  abbrev own_path : List ℕ
  own_path = before ++ v.name.text

  -- a flag has the own_path of its name, a point and a letter
  flag_path : (text : List ℕ) → own_path ++ codes "." ++ text ≡ own_path ++ (codes "." ++ text)
  flag_path text = append_assoc own_path (codes ".") text

  abbrev of_none : Domain
  of_none = domain_if f None

  domain_is : v.kind ≡ None → of_none ≡ domain_of_variable f v
  domain_is none = rw none refl

  abbrev AreOf : List CellData → List (List ℕ) → Type 0
  AreOf cs qs = AreCells (domain_of_variable f v).kind (domain_of_variable f v).range cs qs

  module _ (c : ℕ) where
    abbrev member : Member
    member = member_of f c v

    step_paths : is_step v.role ≡ true → paths_behind own_path member ≡ (own_path ++ codes ".X") ∷ (own_path ++ codes ".L") ∷ []
    step_paths is = rw is refl

    stored_paths : is_step v.role ≡ false → is_stored_action v.role ≡ true → paths_behind own_path member ≡ (own_path ++ codes ".S") ∷ []
    stored_paths plain is = rw (plain, is) refl

    plain_paths : has_cell v.role ≡ true → block_of f v ≡ None → is_step v.role ≡ false → is_stored_action v.role ≡ false → paths_behind own_path member ≡ own_path ∷ []
    plain_paths has none plain other = rw (plain, other, has, none) refl

    no_paths : has_cell v.role ≡ false → is_step v.role ≡ false → is_stored_action v.role ≡ false → paths_behind own_path member ≡ []
    no_paths has plain other = rw (plain, other, has) refl

    instance_paths : (b : ℕ) → has_cell v.role ≡ true → block_of f v ≡ Some b → is_step v.role ≡ false → is_stored_action v.role ≡ false → paths_behind own_path member ≡ []
    instance_paths b has block plain other = rw (plain, other, has, block) refl

    such : (cs ds : List CellData) (qs rs : List (List ℕ)) → cs ≡ ds → qs ≡ rs → AreOf ds rs → AreOf cs qs
    such cs ds qs rs same alike all = subst (λ (l : List CellData). AreOf l qs) (sym same) (subst (λ (l : List (List ℕ)). AreOf ds l) (sym alike) all)

    kind_by : (step stored has : Bool) (o : Option ℕ) → is_step v.role ≡ step → is_stored_action v.role ≡ stored → has_cell v.role ≡ has → block_of f v ≡ o → AreOf (cells_at f inside before v) (paths_behind own_path member)
    kind_by true stored has o is other cell block =
        let same = domain_is (known (step_chart v.role is)) in
        let kind = ap (λ (d : Domain). d.kind) same in
        let range = ap (λ (d : Domain). d.range) same in
        such _ _ _ _ (step_cells is) (step_paths is) ((flag_path (codes "X"), kind, range), ((flag_path (codes "L"), kind, range), tt))
    kind_by false true has o plain is cell block =
        let same = domain_is (known (stored_chart v.role is)) in
        such _ _ _ _ (stored_cells is) (stored_paths plain is) ((flag_path (codes "S"), ap (λ (d : Domain). d.kind) same, ap (λ (d : Domain). d.range) same), tt)
    kind_by false false true None plain other has none = such _ _ _ _ (plain_cells has none plain other) (plain_paths has none plain other) ((refl, refl, refl), tt)
    kind_by false false true (Some b) plain other has block = such _ _ _ _ refl (instance_paths b has block plain other) tt
    kind_by false false false o plain other has block = such _ _ _ _ refl (no_paths has plain other) tt

    pub are_cells : AreOf (cells_at f inside before v) (paths_behind own_path member)
    are_cells = kind_by (is_step v.role) (is_stored_action v.role) (has_cell v.role) (block_of f v) refl refl refl refl

module _ (f : FileData) (used : UsesItsBlocks f) (ordered : IsOrdered f) (k : ℕ) (p : PouData) (there : pou_at f k ≡ Some p) (as_program : p.pou_type ≡ program) where
  abbrev cells : List CellData
  cells = (typed_program f k p).cells

  paths_of_variable : (path : List ℕ) (place : ℕ) (m : Member) (at : IsLocated f used ordered cells path place m) → HasPaths cells (at.before ++ at.variable.name.text) place (member_of f m.cell at.variable)
  paths_of_variable path place m at n q is_q =
      let v = at.variable in
      let d = domain_of_variable f v in
      let own = cells_at f at.inside at.before v in
      let here = each_cell d.kind d.range own (paths_behind (at.before ++ v.name.text) (member_of f m.cell v)) (are_cells f at.inside at.before v at.kind m.cell) n q is_q in
      moved_cell own cells place (stands_among own cells place at.stands) n q d.kind d.range here

  pub paths_stand : (path : List ℕ) (place : ℕ) (m : Member) → StandsFor f k path place m → HasPaths cells path place m
  paths_stand path place m leads =
      let at = located f used ordered k p there as_program path place m leads in
      subst (λ (x : Member). HasPaths cells path place x) (sym at.is) (subst (λ (l : List ℕ). HasPaths cells l place (member_of f m.cell at.variable)) (sym at.spelt) (paths_of_variable path place m at))

  -- ---- the cells of a name of the PROGRAM

  named_by : (v : Variable) → IsUsedBlock f k v → (o : Option ℕ) → block_of f v ≡ o → cells_at f false [] v ≡ named_cells f v
  named_by v uses None block = rw block refl
  named_by v uses (Some b) block =
      let i = is_instance f used ordered k (low f used ordered k p there) (program_reached f ordered k p there as_program) false [] v uses b block in
      let has : has_cell v.role ≡ true = local_cell v.role (instance_local f v b block) in
      let named : named_cells f v ≡ cells_by f v (Some b) = rw (has, block) refl in
      i.cells ∙ sym named

  pub cells_stand : (text : List ℕ) (m : Member) → member_at f (sizes_of f) k text ≡ Some m → HasNamedCells f p cells text m
  cells_stand text m found =
      let name = program_name f used ordered k p there as_program text m found in
      let v = name.at.variable in
      let same = named_by v name.uses (block_of f v) refl in
      record {
        variable = v;
        named = name.at.named;
        is = name.at.is;
        stand = stands_among (named_cells f v) cells m.cell (stands_same (cells_at f false [] v) (named_cells f v) cells m.cell same name.at.stands);
      }
