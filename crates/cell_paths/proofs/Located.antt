-- Where the cells stand of what names stand for that are joined by points.
use Rattle.std.proofs.Common.{◌≡◌, ℕ, zero, suc, ◌+◌, ◌<◌, Bool, true, false, List, [], ◌∷◌, ◌++◌, length, map, Some, refl, sym, ap, ◌∙◌, inl}
use Rattle.std.specs.Prelude.{codes}
use Rattle.std.specs.List.{slice_get}
use Rattle.call_order.specs.Marks.{is_marked}
use Rattle.source_tree.specs.Syntax.{program, PouData, FileData}
use Rattle.program_tree.specs.Tree.{CellData}
use Rattle.naming.specs.Broken.{is_program_pou}
use Rattle.naming.specs.FileScope.{pous_of, pou_at, is_program}
use Rattle.naming.specs.Scopes.{Variable, block_of}
use Rattle.typing.specs.declared.member.Member.{Member}
use Rattle.reach_laws.proofs.ReachedLaws.{reached_exact}
use Rattle.typing.specs.Reached.{reached}
use Rattle.typing.specs.Places.{has_cell, sizes_of}
use Rattle.typing.specs.Members.{member_of, member_at}
use Rattle.typing.specs.TypedPrograms.{cells_of_variable, typed_program}
use Rattle.typed_cells.specs.Premises.{IsUsedBlock, UsesItsBlocks, IsOrdered}
use Rattle.typed_cells.proofs.Roles.{local_cell}
use Rattle.typed_cells.proofs.Lengths.{used_below, instance_local}
use Rattle.typed_cells.proofs.Owners.{low}
use Rattle.typed_cells.proofs.Numbers.{used_reached}
use Rattle.typed_cells.proofs.Names.{HasKind}
use Rattle.cell_paths.specs.Paths.{StandsFor, own, behind}
use Rattle.cell_paths.proofs.Occurrences.{Stands, stands_in, stands_same}
use Rattle.cell_paths.proofs.Lengths.{own_blocks, cells_at, instance_cells}
use Rattle.cell_paths.proofs.Owners.{program_name, block_name, block_there}

-- a PROGRAM is reached
marked_at : (ps : List PouData) (k : ℕ) (p : PouData) → slice_get ps k ≡ Some p → is_program_pou p ≡ true → is_marked (map is_program_pou ps) k ≡ true
marked_at [] k p at is = absurd (let h : ⊥ = cc in h)
marked_at (x ∷ ps) zero p at is = let same : x ≡ p = cc in ap is_program_pou same ∙ is
marked_at (x ∷ ps) (suc k) p at is = marked_at ps k p at is

pub program_reached : (f : FileData) → IsOrdered f → (k : ℕ) (p : PouData) → pou_at f k ≡ Some p → p.pou_type ≡ program → is_marked (reached f) k ≡ true
program_reached f ordered k p there as_program = (reached_exact f ordered k).1 (inl (marked_at (pous_of f) k p there (ap is_program as_program)))

module _ (f : FileData) (used : UsesItsBlocks f) (ordered : IsOrdered f) where
  -- a variable of a POU that is reached, whose cells stand among others at a place
  pub record IsLocated (cells : List CellData) (path : List ℕ) (place : ℕ) (m : Member) : Type 0 where
    pub number : ℕ
    pub inside : Bool
    pub before : List ℕ
    pub variable : Variable
    pub below : number < length (pous_of f)
    pub marked : is_marked (reached f) number ≡ true
    pub uses : IsUsedBlock f number variable
    pub kind : HasKind variable
    pub spelt : path ≡ before ++ variable.name.text
    pub is : m ≡ member_of f m.cell variable
    pub stands : Stands (cells_at f inside before variable) cells place

  -- what is known of the block of an instance
  pub record IsInstance (inside : Bool) (before : List ℕ) (v : Variable) (b : ℕ) : Type 0 where
    pub below : b < length (pous_of f)
    pub marked : is_marked (reached f) b ≡ true
    pub cells : cells_at f inside before v ≡ own_blocks f (Some (before ++ v.name.text ++ codes ".")) b

  pub is_instance : (k : ℕ) → k < length (pous_of f) → is_marked (reached f) k ≡ true → (inside : Bool) (before : List ℕ) (v : Variable) → IsUsedBlock f k v → (b : ℕ) → block_of f v ≡ Some b → IsInstance inside before v b
  is_instance k there is inside before v uses b block =
      let used_here = uses b block in
      let at = used_below f used ordered k b there used_here in
      let marked = used_reached f ordered k b is used_here in
      let has : has_cell v.role ≡ true = local_cell v.role (instance_local f v b block) in
      let whole : cells_at f inside before v ≡ cells_of_variable f (own_blocks f) inside (Some before) v (Some b) = rw (has, block) refl in
      record { below = at.1; marked = marked; cells = whole ∙ instance_cells f used ordered inside (Some before) v b at.1 marked }

  module _ (k : ℕ) (p : PouData) (there : pou_at f k ≡ Some p) (as_program : p.pou_type ≡ program) where
    abbrev cells : List CellData
    cells = (typed_program f k p).cells

    own_located : (text : List ℕ) (m : Member) → member_at f (sizes_of f) k text ≡ Some m → IsLocated cells text m.cell m
    own_located text m found =
        let name = program_name f used ordered k p there as_program text m found in
        record {
          number = k;
          inside = false;
          before = [];
          variable = name.at.variable;
          below = low f used ordered k p there;
          marked = program_reached f ordered k p there as_program;
          uses = name.uses;
          kind = name.kind;
          spelt = sym name.spelt;
          is = name.at.is;
          stands = name.at.stands;
        }

    behind_located : (path : List ℕ) (place : ℕ) (m : Member) (b : ℕ) (text : List ℕ) (n : Member) → IsLocated cells path place m → m.block ≡ Some b → member_at f (sizes_of f) b text ≡ Some n
        → IsLocated cells (path ++ codes "." ++ text) (place + n.cell) n
    behind_located path place m b text n outer block found =
        let v = outer.variable in
        let of_v : block_of f v ≡ Some b = sym (ap (λ (x : Member). x.block) outer.is) ∙ block in
        let i = is_instance outer.number outer.below outer.marked outer.inside outer.before v outer.uses b of_v in
        let before = outer.before ++ v.name.text ++ codes "." in
        let pou = block_there f used ordered v b of_v in
        let name = block_name f used ordered b pou.pou pou.there pou.as_block before text n found in
        let w = name.at.variable in
        let path_is : path ++ codes "." ++ text ≡ before ++ w.name.text = ap (λ (l : List ℕ). l ++ codes "." ++ text) outer.spelt ∙ ap (λ (l : List ℕ). before ++ l) (sym name.spelt) in
        record {
          number = b;
          inside = true;
          before = before;
          variable = w;
          below = i.below;
          marked = i.marked;
          uses = name.uses;
          kind = name.kind;
          spelt = path_is;
          is = name.at.is;
          stands = stands_in (cells_at f true before w) (own_blocks f (Some before) b) cells place n.cell
              (stands_same (cells_at f outer.inside outer.before v) (own_blocks f (Some before) b) cells place i.cells outer.stands) name.at.stands;
        }

    pub located : (path : List ℕ) (place : ℕ) (m : Member) → StandsFor f k path place m → IsLocated cells path place m
    located path place m (own text n found) = own_located text n found
    located path place m (behind outer at i b text n leads block found) = behind_located outer at i b text n (located outer at i leads) block found
