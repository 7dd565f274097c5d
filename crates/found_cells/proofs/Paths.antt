-- No two cells of a PROGRAM have one path.
use Rattle.std.proofs.Common.{◌≡◌, ℕ, zero, suc, Bool, true, false, if◌then◌else◌, List, [], ◌∷◌, ◌++◌, length, Option, Some, None, refl, sym, ap, ◌∙◌, subst, append_assoc}
use Rattle.std.specs.Prelude.{◌==◌, codes, pos}
use Rattle.std.specs.List.{AllByRecursion, IsDistinct}
use Rattle.std.specs.Str.{bytes_eq}
use Rattle.std.proofs.lemmas.Bool.{false≢true}
use Rattle.std.proofs.lemmas.List.{append-nil, append_cancel_left}
use Rattle.std.proofs.lemmas.Map.Keys.{IsDistinct-head, IsDistinct-tail, IsDistinct-cons}
use Rattle.std.proofs.lemmas.Slice.Eq.{bytes_eq-Decides}
use Rattle.source_tree.specs.Syntax.{PouTypeData, program, PouData, FileData}
use Rattle.program_tree.specs.Tree.{CellData}
use Rattle.naming.specs.FileScope.{pous_of, pou_at, is_program}
use Rattle.naming.specs.Broken.{variables_twice}
use Rattle.naming.specs.Scopes.{Variable, variables_in_pou, is_step, block_of}
use Rattle.scan_model.specs.Candidates.{paths_of}
use Rattle.typing.specs.Places.{has_cell, is_stored_action, in_order, size_among, sizes_of, variables_in, variables_at}
use Rattle.typing.specs.TypedPrograms.{fault_cell, flag_cell, active_first, cell_for, cells_for, cells_of_variable, cells_of, block_cells, typed_program}
use Rattle.cell_paths.proofs.typed_cells.Lists.{all-in_order}
use Rattle.found_cells.specs.Names.{HasNoPoint, AreNamedOnce, HaveNoPoints}
use Rattle.cell_paths.proofs.Blocks.{Blocks}
use Rattle.found_cells.proofs.Apart.{same_name, names_differ, none_fault, bytes_flip, order_differs, IsOf, apart_by, paths_differ}

-- ---- lists of cells

all_append : (P : CellData → Type 0) (cs ds : List CellData) → AllByRecursion P cs → AllByRecursion P ds → AllByRecursion P (cs ++ ds)
all_append P [] ds a b = b
all_append P (c ∷ cs) ds a b = (a.0, all_append P cs ds a.1 b)

all_more : (P Q : CellData → Type 0) → ((c : CellData) → P c → Q c) → (cs : List CellData) → AllByRecursion P cs → AllByRecursion Q cs
all_more P Q each [] all = tt
all_more P Q each (c ∷ cs) all = (each c all.0, all_more P Q each cs all.1)

all_if : (P : CellData → Type 0) (b : Bool) (cs ds : List CellData) → AllByRecursion P cs → AllByRecursion P ds → AllByRecursion P (if b then cs else ds)
all_if P true cs ds a b = a
all_if P false cs ds a b = b

abbrev IsOther : CellData → CellData → Type 0
IsOther c d = bytes_eq c.path d.path ≡ false

-- no cell has the path of one before it
abbrev pub Apart : List CellData → Type 0
Apart [] = Unit {0}
Apart (c ∷ cs) = AllByRecursion (IsOther c) cs × Apart cs

apart_append : (cs ds : List CellData) → Apart cs → Apart ds → AllByRecursion (λ c. AllByRecursion (IsOther c) ds) cs → Apart (cs ++ ds)
apart_append [] ds one other all = other
apart_append (c ∷ cs) ds one other all = (all_append (IsOther c) cs ds one.0 all.0, apart_append cs ds one.1 other all.1)

apart_if : (b : Bool) (cs ds : List CellData) → Apart cs → Apart ds → Apart (if b then cs else ds)
apart_if true cs ds one other = one
apart_if false cs ds one other = other

paths_others : (c : CellData) (cs : List CellData) → AllByRecursion (IsOther c) cs → AllByRecursion (λ q. bytes_eq c.path q ≡ false) (paths_of cs)
paths_others c [] all = tt
paths_others c (d ∷ cs) all = (all.0, paths_others c cs all.1)

paths_distinct : (cs : List CellData) → Apart cs → IsDistinct bytes_eq (paths_of cs)
unfolding IsDistinct
paths_distinct [] all = tt
paths_distinct (c ∷ cs) all = IsDistinct-cons bytes_eq c.path (paths_of cs) (paths_others c cs all.0) (paths_distinct cs all.1)

-- ---- the cells of names

-- a path begins with another
pub record Begins (before path : List ℕ) : Type 0 where
  pub rest : List ℕ
  pub is : path ≡ before ++ rest

abbrev IsNamed : Variable → Type 0
IsNamed v = HasNoPoint v.name.text

-- letters behind a name and a point
flag_of : (before text letter : List ℕ) → IsOf before text (before ++ text ++ codes "." ++ letter)
flag_of before text letter = record { tail = codes "." ++ letter; is = append_assoc (before ++ text) (codes ".") letter ∙ append_assoc before text (codes "." ++ letter); ends = refl }

own_of : (before text : List ℕ) → IsOf before text (before ++ text)
own_of before text = record { tail = []; is = ap (λ (l : List ℕ). before ++ l) (sym (append-nil text)); ends = tt }

behind_of : (before text path : List ℕ) → Begins (before ++ text ++ codes ".") path → IsOf before text path
behind_of before text path begins =
    let flag = flag_of before text begins.rest in record { tail = flag.tail; is = begins.is ∙ flag.is; ends = flag.ends }

abbrev OfName : List ℕ → Variable → CellData → Type 0
OfName before v c = IsOf before v.name.text c.path

-- a cell is that of one of some variables
record IsOne (before : List ℕ) (P : Variable → Type 0) (c : CellData) : Type 0 where
  variable : Variable
  holds : P variable
  of_name : OfName before variable c

-- a name without a point that passes no test
abbrev IsOut : (Variable → Bool) → Variable → Type 0
IsOut test v = IsNamed v × (test v ≡ false)

all_out : (test : Variable → Bool) (vs : List Variable) → AllByRecursion IsNamed vs → AllByRecursion (λ v. test v ≡ false) vs → AllByRecursion (IsOut test) vs
all_out test [] named out = tt
all_out test (v ∷ vs) named out = ((named.0, out.0), all_out test vs named.1 out.1)

abbrev is_fault_name : Variable → Bool
is_fault_name v = bytes_eq v.name.text (codes "FAULT")

-- two flags of a step have different letters
letters_differ : (text : List ℕ) → bytes_eq (text ++ codes "X") (text ++ codes "L") ≡ false
letters_differ text =
    apart_by (bytes_eq (text ++ codes "X") (text ++ codes "L")) (text ++ codes "X") (text ++ codes "L") refl
    (λ same. absurd (false≢true ((bytes_eq-Decides (codes "X") (codes "L")).1 (append_cancel_left text (codes "X") (codes "L") same))))

fault_of : IsOf [] (codes "FAULT") (codes "FAULT")
fault_of = record { tail = []; is = refl; ends = tt }

module _ (f : FileData) (once : (b : ℕ) → IsDistinct same_name (variables_at f b)) (no_points : HaveNoPoints f) where
  abbrev AreBegun : Blocks → Type 0
  AreBegun of_block = (before : List ℕ) (b : ℕ) → AllByRecursion (λ c. Begins before c.path) (of_block (Some before) b)

  abbrev AreApart : Blocks → Type 0
  AreApart of_block = (before : List ℕ) (b : ℕ) → Apart (of_block (Some before) b)

  module _ (of_block : Blocks) (begun : AreBegun of_block) (inside : Bool) (before : List ℕ) where
    abbrev own : Variable → List CellData
    own v = if has_cell v.role then cells_of_variable f of_block inside (Some before) v (block_of f v) else []

    plain_of : (v : Variable) → AllByRecursion (OfName before v) (cells_for f inside (Some before) v)
    plain_of v =
        let text = v.name.text in
        let active = flag_cell (Some before) v.name (codes "X") (active_first v.role) in
        let latest = flag_cell (Some before) v.name (codes "L") (pos 0) in
        let stored = flag_cell (Some before) v.name (codes "S") (pos 0) in
        all_if (OfName before v) (is_step v.role) (active ∷ latest ∷ []) (if is_stored_action v.role then stored ∷ [] else cell_for f inside (Some before) v ∷ [])
        (flag_of before text (codes "X"), (flag_of before text (codes "L"), tt))
        (all_if (OfName before v) (is_stored_action v.role) (stored ∷ []) (cell_for f inside (Some before) v ∷ []) (flag_of before text (codes "S"), tt) (own_of before text, tt))

    variable_of : (v : Variable) (o : Option ℕ) → AllByRecursion (OfName before v) (cells_of_variable f of_block inside (Some before) v o)
    variable_of v None = plain_of v
    variable_of v (Some b) =
        let path = before ++ v.name.text ++ codes "." in
        all_if (OfName before v) (size_among (sizes_of f) (Some b) == 0) [] (of_block (Some path) b) tt
        (all_more (λ c. Begins path c.path) (OfName before v) (λ c begins. behind_of before v.name.text c.path begins) (of_block (Some path) b) (begun path b))

    cells_of_name : (v : Variable) → AllByRecursion (OfName before v) (own v)
    cells_of_name v = all_if (OfName before v) (has_cell v.role) (cells_of_variable f of_block inside (Some before) v (block_of f v)) [] (variable_of v (block_of f v)) tt

    -- each cell of names is that of one of them
    each_one : (P : Variable → Type 0) (vs : List Variable) → AllByRecursion P vs → AllByRecursion (IsOne before P) (cells_of f of_block inside (Some before) vs)
    each_one P [] all = tt
    each_one P (v ∷ vs) all =
        all_append (IsOne before P) (own v) (cells_of f of_block inside (Some before) vs)
        (all_more (OfName before v) (IsOne before P) (λ c of_v. record { variable = v; holds = all.0; of_name = of_v }) (own v) (cells_of_name v)) (each_one P vs all.1)

    module _ (apart : AreApart of_block) where
      plain_apart : (v : Variable) → Apart (cells_for f inside (Some before) v)
      plain_apart v =
          let active = flag_cell (Some before) v.name (codes "X") (active_first v.role) in
          let latest = flag_cell (Some before) v.name (codes "L") (pos 0) in
          let stored = flag_cell (Some before) v.name (codes "S") (pos 0) in
          apart_if (is_step v.role) (active ∷ latest ∷ []) (if is_stored_action v.role then stored ∷ [] else cell_for f inside (Some before) v ∷ [])
          ((letters_differ (before ++ v.name.text ++ codes "."), tt), (tt, tt))
          (apart_if (is_stored_action v.role) (stored ∷ []) (cell_for f inside (Some before) v ∷ []) (tt, tt) (tt, tt))

      variable_apart : (v : Variable) (o : Option ℕ) → Apart (cells_of_variable f of_block inside (Some before) v o)
      variable_apart v None = plain_apart v
      variable_apart v (Some b) =
          let path = before ++ v.name.text ++ codes "." in
          apart_if (size_among (sizes_of f) (Some b) == 0) [] (of_block (Some path) b) tt (apart path b)

      own_apart : (v : Variable) → Apart (own v)
      own_apart v = apart_if (has_cell v.role) (cells_of_variable f of_block inside (Some before) v (block_of f v)) [] (variable_apart v (block_of f v)) tt

      pub cells_apart : (vs : List Variable) → AllByRecursion IsNamed vs → IsDistinct same_name vs → Apart (cells_of f of_block inside (Some before) vs)
      cells_apart [] named differ = tt
      cells_apart (v ∷ vs) named differ =
          let rest = cells_of f of_block inside (Some before) vs in
          let out = IsOut (same_name v) in
          let others = each_one out vs (all_out (same_name v) vs named.1 (IsDistinct-head same_name v vs differ)) in
          apart_append (own v) rest (own_apart v) (cells_apart vs named.1 (IsDistinct-tail same_name v vs differ))
          (all_more (OfName before v) (λ c. AllByRecursion (IsOther c) rest)
          (λ c of_v. all_more (IsOne before out) (IsOther c)
          (λ d one. paths_differ before v.name.text one.variable.name.text c.path d.path named.0 one.holds.0 one.holds.1 of_v one.of_name) rest others) (own v) (cells_of_name v))

  -- ---- the cells of blocks

  any_name : (vs : List Variable) → AllByRecursion (λ v. Unit {0}) vs
  any_name [] = tt
  any_name (v ∷ vs) = (tt, any_name vs)

  blocks_begun : (depth : ℕ) → AreBegun (block_cells f depth)
  blocks_begun zero before b = tt
  blocks_begun (suc depth) before b =
      let vs = in_order false (variables_at f b) in
      let of_block = block_cells f depth in
      all_more (IsOne before (λ v. Unit {0})) (λ c. Begins before c.path)
      (λ c one. record { rest = one.variable.name.text ++ one.of_name.tail; is = one.of_name.is }) (cells_of f of_block true (Some before) vs)
      (each_one of_block (blocks_begun depth) true before (λ v. Unit {0}) vs (any_name vs))

  blocks_apart : (depth : ℕ) → AreApart (block_cells f depth)
  blocks_apart zero before b = tt
  blocks_apart (suc depth) before b =
      cells_apart (block_cells f depth) (blocks_begun depth) true before (blocks_apart depth) (in_order false (variables_at f b))
      (all-in_order IsNamed false (variables_at f b) (no_points b)) (order_differs (variables_at f b) (once b))

  -- ---- the cells of a PROGRAM

  module _ (k : ℕ) (p : PouData) (there : pou_at f k ≡ Some p) (as_program : p.pou_type ≡ program) (whole : (variables_twice (is_program p.pou_type) [] (variables_in_pou p)).whole ≡ true) where
    abbrev vs : List Variable
    vs = variables_in_pou p

    abbrev depth : ℕ
    depth = length (pous_of f)

    named : AllByRecursion IsNamed vs
    named = subst (λ (ws : List Variable). AllByRecursion IsNamed ws) (ap variables_in there) (no_points k)

    no_fault : AllByRecursion (λ v. is_fault_name v ≡ false) vs
    no_fault = none_fault [] vs (subst (λ (q : PouTypeData). (variables_twice (is_program q) [] vs).whole ≡ true) as_program whole)

    pub program_apart : Apart (typed_program f k p).cells
    program_apart =
        let of_block = block_cells f depth in
        let ordered = in_order false vs in
        let cells = cells_of f of_block false (Some []) ordered in
        let out = IsOut is_fault_name in
        let names = all-in_order out false vs (all_out is_fault_name vs named no_fault) in
        let differ = order_differs vs (names_differ (is_program p.pou_type) [] vs whole) in
        let begun = blocks_begun depth in (
          all_more (IsOne [] out) (IsOther fault_cell)
              (λ c one. paths_differ [] (codes "FAULT") one.variable.name.text (codes "FAULT") c.path refl one.holds.0
              (bytes_flip (codes "FAULT") one.variable.name.text ∙ one.holds.1) fault_of one.of_name) cells (each_one of_block begun false [] out ordered names),
          cells_apart of_block begun false [] (blocks_apart depth) ordered (all-in_order IsNamed false vs named) differ,
        )

    pub program_distinct : IsDistinct bytes_eq (paths_of (typed_program f k p).cells)
    program_distinct = paths_distinct (typed_program f k p).cells program_apart

-- ---- from what is asked of a file

pub each_once : (f : FileData) → AreNamedOnce f → (b : ℕ) → IsDistinct same_name (variables_at f b)
unfolding IsDistinct
each_once f once b = by (pou_at f b) refl
  where
    by : (o : Option PouData) → pou_at f b ≡ o → IsDistinct same_name (variables_in o)
    by None e = tt
    by (Some p) e = names_differ (is_program p.pou_type) [] (variables_in_pou p) (once b p e)
