-- The cells of names stand where their places say, as names are passed in declared order.
use Rattle.std.proofs.Common.{◌≡◌, ℕ, ◌+◌, Bool, true, false, List, [], ◌∷◌, ◌++◌, length, Option, Some, refl, sym, ap, ◌∙◌, arith, subst, append_assoc}
use Rattle.std.specs.List.{AllByRecursion}
use Rattle.std.proofs.lemmas.List.{length-append, append-nil}
use Rattle.source_tree.specs.Syntax.{FileData}
use Rattle.program_tree.specs.Tree.{CellData}
use Rattle.naming.specs.Scopes.{Variable, is_of_name, variable_named}
use Rattle.typing.specs.declared.next.Next.{Next}
use Rattle.typing.specs.declared.member.Member.{Member}
use Rattle.typing.specs.Places.{is_front, in_front, behind_front, in_order, count_of_cells, sizes_of, places_from, first_place, places_behind}
use Rattle.typing.specs.Members.{member_of, member_among}
use Rattle.typing.specs.TypedPrograms.{cells_of}
use Rattle.typed_cells.proofs.Lists.{all-filter}
use Rattle.typed_cells.proofs.Walks.{front_first, behind_none, front_none, behind_first, place_front, place_rest, passed_front, passed_rest, named_here, named_other, among_here, among_other}
use Rattle.cell_paths.proofs.Occurrences.{Stands, stands_left, stands_right, stands_same, stands_at}
use Rattle.cell_paths.proofs.Lengths.{own_blocks, cells_at, HasLength}

-- the cells of names one after the other
abbrev pub all_cells : FileData → Bool → List ℕ → List Variable → List CellData
all_cells f inside before vs = cells_of f (own_blocks f) inside (Some before) vs

module _ (f : FileData) (inside : Bool) (before : List ℕ) where
  cells_append : (vs ws : List Variable) → all_cells f inside before (vs ++ ws) ≡ all_cells f inside before vs ++ all_cells f inside before ws
  cells_append [] ws = refl
  cells_append (v ∷ vs) ws =
      ap (λ (l : List CellData). cells_at f inside before v ++ l) (cells_append vs ws) ∙ sym (append_assoc (cells_at f inside before v) (all_cells f inside before vs) (all_cells f inside before ws))

  length_all : (vs : List Variable) → AllByRecursion (HasLength f inside before) vs → length (all_cells f inside before vs) ≡ count_of_cells f (sizes_of f) vs
  length_all [] all = refl
  length_all (v ∷ vs) all =
      let here = all.0 in
      let rest = length_all vs all.1 in
      length-append (cells_at f inside before v) (all_cells f inside before vs) ∙ omega (arith, here, rest)

  module _ (owner : List CellData) where
    -- the cells of the names that are left stand from the next places on
    record IsNext (next : Next) (vs : List Variable) : Type 0 where
      front : Stands (all_cells f inside before (in_front next.of_function vs)) owner next.front
      rest : Stands (all_cells f inside before (behind_front next.of_function vs)) owner next.rest

    record IsPassed (next : Next) (v : Variable) (vs : List Variable) : Type 0 where
      here : Stands (cells_at f inside before v) owner (first_place next v)
      behind : IsNext (places_behind f (sizes_of f) next v) vs

    passed_by : (b : Bool) (next : Next) (v : Variable) (vs : List Variable) → is_front next.of_function v.role ≡ b → HasLength f inside before v → IsNext next (v ∷ vs) → IsPassed next v vs
    passed_by true next v vs is size now =
        let o = next.of_function in
        let own = cells_at f inside before v in
        let others = all_cells f inside before (in_front o vs) in
        let all : Stands (own ++ others) owner next.front = stands_same _ _ owner next.front (ap (all_cells f inside before) (front_first o v vs is)) now.front in
        record {
          here = stands_at own owner next.front (first_place next v) (sym (place_front next v is)) (stands_left own others owner next.front all);
          behind = subst (λ (n : Next). IsNext n vs) (sym (passed_front f (sizes_of f) next v is))
              (record {
                front = stands_at others owner _ _ (ap (λ (n : ℕ). next.front + n) size) (stands_right own others owner next.front all);
                rest = stands_same _ _ owner next.rest (ap (all_cells f inside before) (behind_none o v vs is)) now.rest;
              });
        }
    passed_by false next v vs is size now =
        let o = next.of_function in
        let own = cells_at f inside before v in
        let others = all_cells f inside before (behind_front o vs) in
        let all : Stands (own ++ others) owner next.rest = stands_same _ _ owner next.rest (ap (all_cells f inside before) (behind_first o v vs is)) now.rest in
        record {
          here = stands_at own owner next.rest (first_place next v) (sym (place_rest next v is)) (stands_left own others owner next.rest all);
          behind = subst (λ (n : Next). IsNext n vs) (sym (passed_rest f (sizes_of f) next v is))
              (record {
                front = stands_same _ _ owner next.front (ap (all_cells f inside before) (front_none o v vs is)) now.front;
                rest = stands_at others owner _ _ (ap (λ (n : ℕ). next.rest + n) size) (stands_right own others owner next.rest all);
              });
        }

    -- ---- the name that is looked for

    -- a member is the variable of a name, and the variable's cells stand at its place
    pub record IsAtName (text : List ℕ) (vs : List Variable) (m : Member) : Type 0 where
      pub variable : Variable
      pub named : variable_named text vs ≡ Some variable
      pub is : m ≡ member_of f m.cell variable
      pub stands : Stands (cells_at f inside before variable) owner m.cell

    found_by : (b : Bool) (text : List ℕ) (next : Next) (v : Variable) (vs : List Variable) (m : Member) → is_of_name text v ≡ b → Stands (cells_at f inside before v) owner (first_place next v)
        → (member_among f (sizes_of f) text (places_behind f (sizes_of f) next v) vs ≡ Some m → IsAtName text vs m) → member_among f (sizes_of f) text next (v ∷ vs) ≡ Some m → IsAtName text (v ∷ vs) m
    found_by true text next v vs m is here behind found =
        let at : (let o : Option Member = Some (member_of f (first_place next v) v) in o) ≡ Some m = sym (among_here f (sizes_of f) text next v vs is) ∙ found in
        let same : member_of f (first_place next v) v ≡ m = cc in
        let cell : first_place next v ≡ m.cell = ap (λ (x : Member). x.cell) same in
        record {
          variable = v;
          named = named_here text v vs is;
          is = sym same ∙ ap (λ (c : ℕ). member_of f c v) cell;
          stands = stands_at (cells_at f inside before v) owner (first_place next v) m.cell cell here;
        }
    found_by false text next v vs m is here behind found =
        let rest = behind (sym (among_other f (sizes_of f) text next v vs is) ∙ found) in
        record { variable = rest.variable; named = named_other text v vs is ∙ rest.named; is = rest.is; stands = rest.stands }

    find : (text : List ℕ) (next : Next) (vs : List Variable) → AllByRecursion (HasLength f inside before) vs → IsNext next vs → (m : Member) → member_among f (sizes_of f) text next vs ≡ Some m → IsAtName text vs m
    find text next [] sizes now m found = absurd (let h : ⊥ = cc in h)
    find text next (v ∷ vs) sizes now m found =
        let p = passed_by (is_front next.of_function v.role) next v vs refl sizes.0 now in
        found_by (is_of_name text v) text next v vs m refl p.here (λ rest. find text (places_behind f (sizes_of f) next v) vs sizes.1 p.behind m rest) found

  -- ---- all names of a POU

  begin_next : (o : Bool) (head : List CellData) (first : ℕ) (vs : List Variable) → length head ≡ first → AllByRecursion (HasLength f inside before) vs
      → IsNext (head ++ all_cells f inside before (in_order o vs)) (places_from f (sizes_of f) o first vs) vs
  begin_next o head first vs long sizes =
      let fronts = all_cells f inside before (in_front o vs) in
      let others = all_cells f inside before (behind_front o vs) in
      let split : all_cells f inside before (in_order o vs) ≡ fronts ++ others = cells_append (in_front o vs) (behind_front o vs) in
      let counted = length_all (in_front o vs) (all-filter (HasLength f inside before) (λ v. is_front o v.role) vs sizes) in
      record {
        front = record { before = head; behind = others; is = ap (λ (l : List CellData). head ++ l) split; long = long };
        rest = record {
          before = head ++ fronts;
          behind = [];
          is = ap (λ (l : List CellData). head ++ l) (split ∙ ap (λ (l : List CellData). fronts ++ l) (sym (append-nil others))) ∙ sym (append_assoc head fronts (others ++ []));
          long = length-append head fronts ∙ omega (arith, long, counted);
        };
      }

  -- the cells of a name stand at its place, behind some others
  pub at_name : (o : Bool) (head : List CellData) (vs : List Variable) → AllByRecursion (HasLength f inside before) vs → (text : List ℕ) (m : Member)
      → member_among f (sizes_of f) text (places_from f (sizes_of f) o (length head) vs) vs ≡ Some m → IsAtName (head ++ all_cells f inside before (in_order o vs)) text vs m
  at_name o head vs sizes text m found =
      find (head ++ all_cells f inside before (in_order o vs)) text (places_from f (sizes_of f) o (length head) vs) vs sizes (begin_next o head (length head) vs refl sizes) m found
