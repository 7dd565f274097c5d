-- The path of a cell in the statements of a PROGRAM is that of the same cell in clauses.
use Rattle.std.proofs.Common.{◌≡◌, ℕ, ◌+◌, Bool, true, false, ◌||◌, if◌then◌else◌, List, [], ◌∷◌, ◌++◌, length, Option, Some, None, option_map, refl, sym, ap, ◌∙◌, arith, subst, append_assoc}
use Rattle.std.specs.Prelude.{codes, unwrap_or, ℤ, pos}
use Rattle.std.specs.List.{slice_get}
use Rattle.std.specs.Str.{bytes_eq}
use Rattle.std.proofs.lemmas.Bool.{false≢true}
use Rattle.std.proofs.lemmas.Slice.Eq.{bytes_eq-Decides}
use Rattle.plc_types.specs.declared.data_type.DataType.{DataType}
use Rattle.plc_types.specs.Enumerations.{paired_type}
use Rattle.rules.specs.Judgements.{Judgement, ok, suppressed}
use Rattle.source_tree.specs.Syntax.{Named, PathData, program, PouData, FileData}
use Rattle.program_tree.specs.Tree.{ProgramData}
use Rattle.naming.specs.declared.role.Role.{Role}
use Rattle.naming.specs.declared.role.Role.TheVariants as roles
use Rattle.naming.specs.Seen.{Seen}
use Rattle.naming.specs.Broken.{misused, unknown, too_deep, member_by, in_member, in_members, in_parts, in_flag, in_named, in_variable}
use Rattle.naming.specs.FileScope.{pou_at, standing}
use Rattle.naming.specs.Types.{specification_at}
use Rattle.naming.specs.Scopes.{Variable, PouScope, variables_in_pou, scope_of as names_of, seen, seen_named, variable_named, is_seen, is_local, is_step, is_action, is_transition, block_of}
use Rattle.naming.specs.declared.standing.Standing.{Standing}
use Rattle.naming.specs.declared.standing.Standing.TheVariants as standings
use Rattle.typing.specs.declared.scope.Place.{Place}
use Rattle.typing.specs.declared.scope.Place.TheVariants as places
use Rattle.typing.specs.declared.scope.Meaning.{Meaning}
use Rattle.typing.specs.declared.member.Member.{Member}
use Rattle.typing.specs.Domains.{value_meaning, is_few, value_at}
use Rattle.typing.specs.Typing.{by_path}
use Rattle.typing.specs.Programs.{or_meaning, joined, cell_among, value_among, member_of as member_by_path, own_type, pair_means}
use Rattle.typing.specs.Places.{has_cell, is_stored_action, sizes_of}
use Rattle.typing.specs.Members.{member_of, member_at, seen_from, meant_by, variable_or_value, scope_of}
use Rattle.typing.specs.TypedPrograms.{typed_program}
use Rattle.cell_paths.specs.typed_cells.Premises.{UsesItsBlocks, IsOrdered}
use Rattle.cell_paths.proofs.typed_cells.Roles.{seen_cell}
use Rattle.cell_paths.specs.Paths.{StandsFor, own, behind, paths_behind}
use Rattle.found_cells.specs.Names.{AreNamedOnce, HaveNoPoints}
use Rattle.found_cells.specs.Clauses.{IsWholePath, of_program, in_clause}
use Rattle.cell_paths.proofs.Owners.{program_name, block_name, block_there}
use Rattle.found_cells.proofs.Found.{cells_found}

-- ---- judgements that are whole

whole_then : (b : Bool) (j : Judgement) → (if b then j else suppressed).whole ≡ true → j.whole ≡ true
whole_then true j whole = whole
whole_then false j whole = absurd (false≢true whole)

not_deep : (ns : List Named) → (too_deep ns).whole ≡ true → ns ≡ []
not_deep [] whole = refl
not_deep (n ∷ ns) whole = absurd (false≢true whole)

-- behind a step stands `X` alone
record IsFlagName (ns : List Named) : Type 0 where
  name : Named
  text : name.text ≡ codes "X"
  is : ns ≡ name ∷ []

flag_by : (b : Bool) (n : Named) (ns : List Named) → bytes_eq n.text (codes "X") ≡ b → (if b then too_deep ns else unknown n).whole ≡ true → IsFlagName (n ∷ ns)
flag_by true n ns is whole = record { name = n; text = (bytes_eq-Decides n.text (codes "X")).0 is; is = ap (λ (l : List Named). n ∷ l) (not_deep ns whole) }
flag_by false n ns is whole = absurd (false≢true whole)

flag_name : (first : Named) (ns : List Named) → (in_flag first ns).whole ≡ true → IsFlagName ns
flag_name first [] whole = absurd (false≢true whole)
flag_name first (n ∷ ns) whole = flag_by (bytes_eq n.text (codes "X")) n ns refl whole

-- behind an instance stands the name of an input or an output alone
record IsMemberName (f : FileData) (block : ℕ) (ns : List Named) : Type 0 where
  name : Named
  is : ns ≡ name ∷ []
  whole : (in_member f block name).whole ≡ true

member_when : (f : FileData) (block : ℕ) (b : Bool) (n : Named) (ns : List Named) → (in_member f block n).whole ≡ b → (if b then too_deep ns else in_member f block n).whole ≡ true → IsMemberName f block (n ∷ ns)
member_when f block true n ns is whole = record { name = n; is = ap (λ (l : List Named). n ∷ l) (not_deep ns whole); whole = is }
member_when f block false n ns is whole = absurd (false≢true (sym is ∙ whole))

member_name : (f : FileData) (block : ℕ) (first : Named) (ns : List Named) → (in_members f block first ns).whole ≡ true → IsMemberName f block ns
member_name f block first [] whole = absurd (false≢true whole)
member_name f block first (n ∷ ns) whole = member_when f block (in_member f block n).whole n ns refl whole

seen_when : (b s : Bool) (n : Named) → (if b then (if s then ok else misused n) else suppressed).whole ≡ true → s ≡ true
seen_when true true n whole = refl
seen_when true false n whole = absurd (false≢true whole)
seen_when false s n whole = absurd (false≢true whole)

seen_by : (f : FileData) (p : PouScope) (n : Named) (o : Option Variable) → (member_by (option_map (seen f p) o) n).whole ≡ true → (v : Variable) → o ≡ Some v → is_seen v.role ≡ true
seen_by f p n None whole v is = absurd (false≢true whole)
seen_by f p n (Some w) whole v is = let same : w ≡ v = cc in subst (λ (u : Variable). is_seen u.role ≡ true) same (seen_when (seen f p w).whole (is_seen w.role) n whole)

-- the variable of that name is seen
member_seen : (f : FileData) (block : ℕ) (n : Named) (p : PouData) → pou_at f block ≡ Some p → (in_member f block n).whole ≡ true → (v : Variable) → variable_named n.text (variables_in_pou p) ≡ Some v → is_seen v.role ≡ true
member_seen f block n p there whole v named =
    let here : (member_by (seen_named f (names_of p) n.text) n).whole ≡ true =
    subst (λ (o : Option PouData). (unwrap_or (option_map (λ (q : PouData). member_by (seen_named f (names_of q) n.text) n) o) suppressed).whole ≡ true) there whole in
    seen_by f (names_of p) n (variable_named n.text (variables_in_pou p)) here v named

-- ---- roles

no_action : (r : Role) → (is_action r || is_transition r) ≡ false → is_stored_action r ≡ false
no_action roles.StoredAction none = absurd (let h : ⊥ = cc in h)
no_action _ none = refl

seen_no_step : (r : Role) → is_seen r ≡ true → is_step r ≡ false
seen_no_step roles.Input is = refl
seen_no_step roles.Output is = refl
seen_no_step _ is = absurd (false≢true is)

seen_no_action : (r : Role) → is_seen r ≡ true → is_stored_action r ≡ false
seen_no_action roles.Input is = refl
seen_no_action roles.Output is = refl
seen_no_action _ is = absurd (false≢true is)

seen_no_local : (r : Role) → is_seen r ≡ true → is_local r ≡ false
seen_no_local roles.Input is = refl
seen_no_local roles.Output is = refl
seen_no_local _ is = absurd (false≢true is)

-- ---- the paths of cells

step_path : (path : List ℕ) (m : Member) → is_step m.role ≡ true → slice_get (paths_behind path m) 0 ≡ Some (path ++ codes ".X")
step_path path m is = rw is refl

plain_path : (path : List ℕ) (m : Member) → is_step m.role ≡ false → is_stored_action m.role ≡ false → has_cell m.role ≡ true → m.block ≡ None → slice_get (paths_behind path m) 0 ≡ Some path
plain_path path m plain other has none = rw (plain, other, has, none) refl

-- a name with a cell has a place
cell_by : (b : Bool) (cell c : ℕ) (v : ℤ) → (let p : Place = if b then places.Cell cell else places.Value v in p) ≡ places.Cell c → (b ≡ true) × (cell ≡ c)
cell_by true cell c v is = (refl, cc)
cell_by false cell c v is = absurd (let h : ⊥ = cc in h)

no_value : (f : FileData) (s : Option Standing) (m : Meaning) (c : ℕ) → value_at f s ≡ Some m → m.place ≡ places.Cell c → ⊥
no_value f None m c found is = let h : ⊥ = cc in h
no_value f (Some (standings.Type t)) m c found is = let h : ⊥ = cc in h
no_value f (Some (standings.Value t n)) m c found is =
    let same : value_meaning t n (is_few (specification_at f t)) ≡ m = cc in
    let place : (let x : Place = places.Value (pos n) in x) ≡ places.Cell c = ap (λ (x : Meaning). x.place) same ∙ is in
    let h : ⊥ = cc in h
no_value f (Some (standings.Pou q)) m c found is = let h : ⊥ = cc in h

-- what a path stands for: one of the cells of names that are joined by points
record IsCellOf (f : FileData) (k : ℕ) (q : PathData) (m : Meaning) (c : ℕ) : Type 0 where
  path : List ℕ
  place : ℕ
  member : Member
  stands : StandsFor f k path place member
  first : slice_get (paths_behind path member) 0 ≡ Some (joined (q.first ∷ q.members))
  at : place ≡ c
  kind : member.meaning.kind ≡ m.kind
  range : member.meaning.range ≡ m.range

module _ (f : FileData) (used : UsesItsBlocks f) (ordered : IsOrdered f) (k : ℕ) (p : PouData) (there : pou_at f k ≡ Some p) (as_program : p.pou_type ≡ program) where
  module _ (first : Named) (b : Member) (found : member_at f (sizes_of f) k first.text ≡ Some b) (v : Variable) (is_v : b ≡ member_of f b.cell v) (m : Meaning) (c : ℕ) (at : m.place ≡ places.Cell c) where
    abbrev IsCell : List Named → Type 0
    IsCell ns = let q : PathData = record { first = first; members = ns } in IsCellOf f k q m c

    abbrev sizes : List ℕ
    sizes = sizes_of f

    role_is : b.role ≡ v.role
    role_is = ap (λ (x : Member). x.role) is_v

    -- a name alone
    own_place : b.meaning ≡ m → (has_cell v.role ≡ true) × (b.cell ≡ c)
    own_place same = cell_by (has_cell v.role) b.cell c _ (sym (ap (λ (x : Member). x.meaning.place) is_v) ∙ ap (λ (x : Meaning). x.place) same ∙ at)

    step_cell_of : is_step v.role ≡ true → (ns : List Named) → IsFlagName ns → meant_by f sizes ns b ≡ Some m → IsCell ns
    step_cell_of is ns flag means =
        let step : is_step b.role ≡ true = ap is_step role_is ∙ is in
        let meant : meant_by f sizes (flag.name ∷ []) b ≡ Some b.meaning = rw step refl in
        let alone : Some b.meaning ≡ Some m = sym meant ∙ subst (λ (l : List Named). meant_by f sizes l b ≡ Some m) flag.is means in
        let same : b.meaning ≡ m = cc in
        let place = own_place same in
        subst IsCell (sym flag.is)
        (record {
          path = first.text;
          place = b.cell;
          member = b;
          stands = own first.text b found;
          first = step_path first.text b step ∙ ap (λ (l : List ℕ). Some (first.text ++ 46 ∷ l)) (sym flag.text);
          at = place.1;
          kind = ap (λ (x : Meaning). x.kind) same;
          range = ap (λ (x : Meaning). x.range) same;
        })

    plain_cell_of : is_step v.role ≡ false → is_stored_action v.role ≡ false → block_of f v ≡ None → (ns : List Named) → ns ≡ [] → meant_by f sizes ns b ≡ Some m → IsCell ns
    plain_cell_of plain other none ns is means =
        let alone : Some b.meaning ≡ Some m = subst (λ (l : List Named). meant_by f sizes l b ≡ Some m) is means in
        let same : b.meaning ≡ m = cc in
        let place = own_place same in
        subst IsCell (sym is)
        (record {
          path = first.text;
          place = b.cell;
          member = b;
          stands = own first.text b found;
          first = plain_path first.text b (ap is_step role_is ∙ plain) (ap is_stored_action role_is ∙ other) (ap has_cell role_is ∙ place.0) (ap (λ (x : Member). x.block) is_v ∙ none);
          at = place.1;
          kind = ap (λ (x : Meaning). x.kind) same;
          range = ap (λ (x : Meaning). x.range) same;
        })

    -- a name of the block of an instance
    inner_cell : (block : ℕ) → b.block ≡ Some block → block_of f v ≡ Some block → (n : Named) → (in_member f block n).whole ≡ true → (w : Member) → member_at f sizes block n.text ≡ Some w
        → (let o : Option Meaning = Some (seen_from b.cell w) in o) ≡ Some m → IsCell (n ∷ [])
    inner_cell block is_block of_v n whole w inner means =
        let same : seen_from b.cell w ≡ m = cc in
        let pou = block_there f used ordered v block of_v in
        let name = block_name f used ordered block pou.pou pou.there pou.as_block [] n.text w inner in
        let u = name.at.variable in
        let role : w.role ≡ u.role = ap (λ (x : Member). x.role) name.at.is in
        let seen_u = member_seen f block n pou.pou pou.there whole u name.at.named in
        let outer = seen_no_local u.role seen_u in
        let none : block_of f u ≡ None = rw outer refl in
        let cell : (let x : Place = places.Cell (b.cell + w.cell) in x) ≡ places.Cell c = ap (λ (x : Meaning). x.place) same ∙ at in
        record {
          path = first.text ++ codes "." ++ n.text;
          place = b.cell + w.cell;
          member = w;
          stands = behind first.text b.cell b block n.text w (own first.text b found) is_block inner;
          first = plain_path (first.text ++ codes "." ++ n.text) w (ap is_step role ∙ seen_no_step u.role seen_u) (ap is_stored_action role ∙ seen_no_action u.role seen_u) (ap has_cell role ∙ seen_cell u.role seen_u)
              (ap (λ (x : Member). x.block) name.at.is ∙ none)
              ∙ ap (λ (l : List ℕ). Some l) (append_assoc first.text (codes ".") n.text);
          at = cc;
          kind = ap (λ (x : Meaning). x.kind) same;
          range = ap (λ (x : Meaning). x.range) same;
        }

    inner_by : (block : ℕ) → b.block ≡ Some block → block_of f v ≡ Some block → (n : Named) → (in_member f block n).whole ≡ true → (o : Option Member) → member_at f sizes block n.text ≡ o
        → option_map (seen_from b.cell) o ≡ Some m → IsCell (n ∷ [])
    inner_by block is_block of_v n whole None inner means = absurd (let h : ⊥ = cc in h)
    inner_by block is_block of_v n whole (Some w) inner means = inner_cell block is_block of_v n whole w inner means

    instance_cell_of : is_step v.role ≡ false → (block : ℕ) → block_of f v ≡ Some block → (ns : List Named) → IsMemberName f block ns → meant_by f sizes ns b ≡ Some m → IsCell ns
    instance_cell_of plain block of_v ns name means =
        let is_block : b.block ≡ Some block = ap (λ (x : Member). x.block) is_v ∙ of_v in
        let step : is_step b.role ≡ false = ap is_step role_is ∙ plain in
        let meant : meant_by f sizes (name.name ∷ []) b ≡ option_map (seen_from b.cell) (member_at f sizes block name.name.text) = rw (step, is_block) refl in
        subst IsCell (sym name.is)
        (inner_by block is_block of_v name.name name.whole (member_at f sizes block name.name.text) refl (sym meant ∙ subst (λ (l : List Named). meant_by f sizes l b ≡ Some m) name.is means))

    parts_by : is_step v.role ≡ false → is_stored_action v.role ≡ false → (o : Option ℕ) → block_of f v ≡ o → (ns : List Named) → (let q : PathData = record { first = first; members = ns } in in_parts f o q).whole ≡ true
        → meant_by f sizes ns b ≡ Some m → IsCell ns
    parts_by plain other None none ns whole means = plain_cell_of plain other none ns (not_deep ns whole) means
    parts_by plain other (Some block) of_v ns whole means = instance_cell_of plain block of_v ns (member_name f block first ns whole) means

    other_by : (t : Bool) → (is_action v.role || is_transition v.role) ≡ t → is_step v.role ≡ false → (ns : List Named)
        → (if t then misused first else (let q : PathData = record { first = first; members = ns } in in_parts f (block_of f v) q)).whole ≡ true → meant_by f sizes ns b ≡ Some m → IsCell ns
    other_by true is plain ns whole means = absurd (false≢true whole)
    other_by false is plain ns whole means = parts_by plain (no_action v.role is) (block_of f v) refl ns whole means

    cell_of_name : (t : Bool) → is_step v.role ≡ t → (ns : List Named)
        → (if t then in_flag first ns else (if is_action v.role || is_transition v.role then misused first else (let q : PathData = record { first = first; members = ns } in in_parts f (block_of f v) q))).whole ≡ true
        → meant_by f sizes ns b ≡ Some m → IsCell ns
    cell_of_name true is ns whole means = step_cell_of is ns (flag_name first ns whole) means
    cell_of_name false is ns whole means = other_by (is_action v.role || is_transition v.role) refl is ns whole means

  cell_by_member : (q : PathData) (m : Meaning) (c : ℕ) → IsWholePath f p q → m.place ≡ places.Cell c → (o : Option Member) → member_at f (sizes_of f) k q.first.text ≡ o
      → variable_or_value f (sizes_of f) q.first.text q.members o ≡ Some m → IsCellOf f k q m c
  cell_by_member q m c is at None found means = absurd (no_value f (standing f q.first.text) m c means at)
  cell_by_member q m c is at (Some b) found means =
      let name = program_name f used ordered k p there as_program q.first.text b found in
      let v = name.at.variable in
      let known : Some (seen f (names_of p) v) ≡ Some is.seen = sym (ap (λ (o : Option Variable). option_map (seen f (names_of p)) o) name.at.named) ∙ is.known in
      let same : is.seen ≡ seen f (names_of p) v = cc in
      let whole = subst (λ (s : Seen). (in_variable f s q).whole ≡ true) same is.whole in
      cell_of_name q.first b found v name.at.is m c at (is_step v.role) refl q.members
      (whole_then (seen f (names_of p) v).whole (in_named f (seen f (names_of p) v) q) whole) means

  module _ (once : AreNamedOnce f) (no_points : HaveNoPoints f) (q : PathData) (m : Meaning) (c : ℕ) (is : IsWholePath f p q)
      (means : (scope_of f (sizes_of f) k).means (by_path q) ≡ Some m) (at : m.place ≡ places.Cell c) where
    abbrev own_program : ProgramData
    own_program = typed_program f k p

    abbrev names : List Named
    names = q.first ∷ q.members

    clause_same : (paired : DataType → DataType) (place other : ℕ) (a : Meaning) → place ≡ other → a.kind ≡ m.kind → a.range ≡ m.range → in_clause paired place a ≡ in_clause paired other m
    clause_same paired place other a here kind range = rw (here, kind, range) refl

    found_by_path : (paired : DataType → DataType) (start : ℕ) → cell_among paired (joined names) start own_program.cells ≡ Some (in_clause paired (start + c) m)
    found_by_path paired start =
        let cell = cell_by_member q m c is at (member_at f (sizes_of f) k q.first.text) refl means in
        let here = cell.at in
        let place : start + (cell.place + 0) ≡ start + c = omega (arith, here) in
        cells_found f used ordered once no_points k p there as_program cell.path cell.place cell.member cell.stands 0 (joined names) cell.first paired start
        ∙ ap (λ (x : Meaning). Some x) (clause_same paired (start + (cell.place + 0)) (start + c) cell.member.meaning place cell.kind cell.range)

    member_found : (paired : DataType → DataType) (start : ℕ) → member_by_path paired start own_program names ≡ Some (in_clause paired (start + c) m)
    member_found paired start = ap (λ (o : Option Meaning). or_meaning o (value_among paired names own_program.types)) (found_by_path paired start)

    module _ (other : ProgramData) (n : Named) where
      pub as_old : n.text ≡ codes "OLD" → pair_means own_program other (by_path (of_program n q)) ≡ Some (in_clause own_type c m)
      as_old word =
          let test : bytes_eq n.text (codes "OLD") ≡ true = (bytes_eq-Decides n.text (codes "OLD")).1 word in
          let clause : pair_means own_program other (by_path (of_program n q)) ≡ member_by_path own_type 0 own_program names = rw test refl in
          let first : 0 + c ≡ c = omega arith in
          clause ∙ member_found own_type 0 ∙ ap (λ (place : ℕ). Some (in_clause own_type place m)) first

      pub as_new : n.text ≡ codes "NEW" → pair_means other own_program (by_path (of_program n q)) ≡ Some (in_clause (paired_type other.types own_program.types) (length other.cells + c) m)
      as_new word =
          let paired = paired_type other.types own_program.types in
          let none : bytes_eq n.text (codes "OLD") ≡ false = ap (λ (text : List ℕ). bytes_eq text (codes "OLD")) word in
          let test : bytes_eq n.text (codes "NEW") ≡ true = (bytes_eq-Decides n.text (codes "NEW")).1 word in
          let clause : pair_means other own_program (by_path (of_program n q)) ≡ member_by_path paired (length other.cells) own_program names = rw (none, test) refl in
          clause ∙ member_found paired (length other.cells)
