-- The cells at the names of a PROGRAM and of a block.
use Rattle.std.proofs.Common.{◌≡◌, ℕ, Bool, true, false, if◌then◌else◌, List, [], ◌∷◌, ◌++◌, length, Option, Some, None, option_map, refl, sym, ap, ◌∙◌, subst}
use Rattle.std.specs.Prelude.{unwrap_or}
use Rattle.std.specs.List.{AllByRecursion}
use Rattle.std.proofs.lemmas.Slice.Eq.{bytes_eq-Decides}
use Rattle.source_tree.specs.Syntax.{PouTypeData, function, function_block, program, PouData, FileData}
use Rattle.program_tree.specs.Tree.{CellData}
use Rattle.naming.specs.FileScope.{pou_at, is_block}
use Rattle.naming.specs.Scopes.{Variable, variables_in_pou, is_of_name, variable_named, block_of}
use Rattle.typing.specs.declared.next.Next.{Next}
use Rattle.typing.specs.declared.member.Member.{Member}
use Rattle.typing.specs.Places.{in_order, sizes_of, places_from, first_places}
use Rattle.typing.specs.Members.{member_among, member_at}
use Rattle.typing.specs.TypedPrograms.{fault_cell, typed_program}
use Rattle.typed_cells.specs.Premises.{IsUsedBlock, UsesItsBlocks, IsOrdered}
use Rattle.typed_cells.proofs.Walks.{named_all}
use Rattle.typed_cells.proofs.Owners.{low, same_variables, member_is}
use Rattle.typed_cells.proofs.Names.{HasKind, kinds_known}
use Rattle.typed_cells.proofs.Instances.{instance_block}
use Rattle.cell_paths.proofs.Blocks.{block_is}
use Rattle.cell_paths.proofs.Lengths.{own_blocks, HasLength, have_lengths}
use Rattle.cell_paths.proofs.Walks.{all_cells, IsAtName, at_name}

-- the text of a name that is found is the one that is looked for
text_by : (b : Bool) (text : List ℕ) (v w : Variable) (rest : Option Variable) → is_of_name text v ≡ b → (if b then Some v else rest) ≡ Some w → (rest ≡ Some w → w.name.text ≡ text) → w.name.text ≡ text
text_by true text v w rest is found behind = let same : v ≡ w = cc in subst (λ (u : Variable). u.name.text ≡ text) same ((bytes_eq-Decides v.name.text text).0 is)
text_by false text v w rest is found behind = behind found

pub text_named : (text : List ℕ) (vs : List Variable) (w : Variable) → variable_named text vs ≡ Some w → w.name.text ≡ text
text_named text [] w found = absurd (let h : ⊥ = cc in h)
text_named text (v ∷ vs) w found = text_by (is_of_name text v) text v w (variable_named text vs) refl found (text_named text vs w)

type_of_block : (pou_type : PouTypeData) → is_block pou_type ≡ true → pou_type ≡ function_block
type_of_block (function t) is = absurd (let h : ⊥ = cc in h)
type_of_block function_block is = refl
type_of_block program is = absurd (let h : ⊥ = cc in h)

module _ (f : FileData) (used : UsesItsBlocks f) (ordered : IsOrdered f) where
  -- the variable of a name of the POU of a number, whose cells stand among others at a place
  pub record IsName (k : ℕ) (inside : Bool) (before : List ℕ) (owner : List CellData) (p : PouData) (text : List ℕ) (m : Member) : Type 0 where
    pub at : IsAtName f inside before owner text (variables_in_pou p) m
    pub spelt : at.variable.name.text ≡ text
    pub uses : IsUsedBlock f k at.variable
    pub kind : HasKind at.variable

  module _ (k : ℕ) (p : PouData) (there : pou_at f k ≡ Some p) where
    abbrev vs : List Variable
    vs = variables_in_pou p

    uses_known : AllByRecursion (IsUsedBlock f k) vs
    uses_known = subst (λ (ws : List Variable). AllByRecursion (IsUsedBlock f k) ws) (same_variables f used ordered k p there) (used k)

    lengths_known : (inside : Bool) (before : List ℕ) → AllByRecursion (HasLength f inside before) vs
    lengths_known inside before =
        subst (λ (ws : List Variable). AllByRecursion (HasLength f inside before) ws) (same_variables f used ordered k p there) (have_lengths f used ordered k (low f used ordered k p there) inside before)

    named_by : (o inside : Bool) (before : List ℕ) (head : List CellData) → first_places f (sizes_of f) p.pou_type vs ≡ places_from f (sizes_of f) o (length head) vs → (text : List ℕ) (m : Member)
        → member_at f (sizes_of f) k text ≡ Some m → IsName k inside before (head ++ all_cells f inside before (in_order o vs)) p text m
    named_by o inside before head same text m found =
        let among : member_among f (sizes_of f) text (places_from f (sizes_of f) o (length head) vs) vs ≡ Some m =
        ap (λ (next : Next). member_among f (sizes_of f) text next vs) (sym same) ∙ sym (member_is f used ordered k p there (sizes_of f) text) ∙ found in
        let at = at_name f inside before o head vs (lengths_known inside before) text m among in
        record {
          at = at;
          spelt = text_named text vs at.variable at.named;
          uses = named_all (IsUsedBlock f k) text vs uses_known at.variable at.named;
          kind = named_all HasKind text vs (kinds_known p) at.variable at.named;
        }

    pub program_name : p.pou_type ≡ program → (text : List ℕ) (m : Member) → member_at f (sizes_of f) k text ≡ Some m → IsName k false [] (typed_program f k p).cells p text m
    program_name as_program text m found = named_by false false [] (fault_cell ∷ []) (ap (λ (q : PouTypeData). first_places f (sizes_of f) q vs) as_program) text m found

    pub block_name : p.pou_type ≡ function_block → (before : List ℕ) (text : List ℕ) (m : Member) → member_at f (sizes_of f) k text ≡ Some m → IsName k true before (own_blocks f (Some before) k) p text m
    block_name as_block before text m found =
        let cells : own_blocks f (Some before) k ≡ all_cells f true before (in_order false vs) =
        block_is f used ordered k (low f used ordered k p there) (Some before) ∙ ap (λ (ws : List Variable). all_cells f true before (in_order false ws)) (same_variables f used ordered k p there) in
        subst (λ (owner : List CellData). IsName k true before owner p text m) (sym cells) (named_by false true before [] (ap (λ (q : PouTypeData). first_places f (sizes_of f) q vs) as_block) text m found)

  -- the block of an instance
  pub record IsBlock (b : ℕ) : Type 0 where
    pub pou : PouData
    pub there : pou_at f b ≡ Some pou
    pub as_block : pou.pou_type ≡ function_block

  block_by : (b : ℕ) (o : Option PouData) → pou_at f b ≡ o → unwrap_or (option_map is_block (option_map (λ (p : PouData). p.pou_type) o)) false ≡ true → IsBlock b
  block_by b None there is = absurd (let h : ⊥ = cc in h)
  block_by b (Some p) there is = record { pou = p; there = there; as_block = type_of_block p.pou_type is }

  pub block_there : (v : Variable) (b : ℕ) → block_of f v ≡ Some b → IsBlock b
  block_there v b is = block_by b (pou_at f b) refl (instance_block f v b is)
