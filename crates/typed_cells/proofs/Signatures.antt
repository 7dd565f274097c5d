-- The FUNCTIONs that a POU calls stand before it, and their answers and inputs at their places.
use Rattle.std.proofs.Common.{◌≡◌, ℕ, zero, suc, ◌+◌, ◌≤◌, ◌<◌, Bool, true, false, if◌then◌else◌, List, [], ◌∷◌, ◌++◌, length, map, Option, Some, None, option_map, refl, sym, ap, ◌∙◌, arith, subst}
use Rattle.std.specs.Prelude.{unwrap_or}
use Rattle.std.specs.List.{AllByRecursion, slice_get}
use Rattle.std.proofs.lemmas.Bool.{false≢true}
use Rattle.std.proofs.lemmas.List.{length-append, length-map}
use Rattle.call_order.specs.Marks.{is_marked}
use Rattle.call_order.specs.Uses.{uses_at, is_among}
use Rattle.source_tree.specs.Syntax.{TypeData, PouTypeData, function, function_block, program, PouData, FileData}
use Rattle.program_tree.specs.Tree.{CellData}
use Rattle.program_tree.specs.declared.scratch.Scratch.{Scratch}
use Rattle.program_tree.specs.Places.{of_cell, place_at}
use Rattle.naming.specs.declared.role.Role.{Role}
use Rattle.naming.specs.declared.role.Role.TheVariants as roles
use Rattle.naming.specs.Circles.{uses_of}
use Rattle.naming.specs.FileScope.{pous_of, pou_at, pou_type_at, standing, pou_number}
use Rattle.naming.specs.Scopes.{Variable, result_of as result_variable, variables_of, names_in_body, variables_in_pou, is_local, is_input, is_result, is_step, block_of}
use Rattle.meaning.specs.Frames.{FrameData, frames_of, scratch_at}
use Rattle.typing.specs.declared.next.Next.{Next}
use Rattle.typing.specs.declared.member.Member.{Member}
use Rattle.typing.specs.declared.scope.Port.{Port}
use Rattle.typing.specs.declared.scope.Signature.{Signature}
use Rattle.typing.specs.Reached.{reached}
use Rattle.typing.specs.Typing.{is_unknown}
use Rattle.typing.specs.Variables.{domain_of_variable}
use Rattle.typing.specs.Places.{has_cell, is_front, in_front, size_among, cells_taken, sizes_of, places_from, first_places, first_place, places_behind}
use Rattle.typing.specs.Members.{member_of, members_of, members_if, members_at, port_of, ports_of, result_of, called_number, is_function, function_number, signature_of, signature_at, scope_of}
use Rattle.typing.specs.TypedPrograms.{fault_cell, cell_for, cells_of_variable, cells_of, block_cells, frame_cells}
use Rattle.running_pous.specs.Stated.{front_cells, stated_by}
use Rattle.typed_scopes.specs.Types.{IsPlaceOf}
use Rattle.typed_scopes.specs.Fitting.{InputFits, SignatureFits}
use Rattle.typed_cells.specs.Uses.{is_called_by}
use Rattle.typed_cells.specs.Places.{last, pou_places, scope_over, pous, frame_for}
use Rattle.typed_cells.specs.Variables.{variable_places, variables_places}
use Rattle.typed_cells.specs.Premises.{UsesItsBlocks, IsOrdered}
use Rattle.typed_cells.proofs.Occurrences.{Occurs, occurs_within, occurs_at}
use Rattle.typed_cells.proofs.Lengths.{HasSize, used_below}
use Rattle.typed_cells.proofs.Walks.{IsNext, pass, front_first, front_none, place_front, passed_front, passed_rest}
use Rattle.typed_cells.proofs.Names.{IsOther, HasKind, others_known}
use Rattle.typed_cells.proofs.Domains.{variable_sound}
use Rattle.typed_cells.proofs.Cells.{no_block, first_cell}
use Rattle.typed_cells.proofs.Numbers.{used_reached, IsCalled, is_called}
use Rattle.typed_cells.proofs.Owners.{low, sizes_known, begins}
use Rattle.typed_cells.proofs.Instances.{number_passes, function_may, stands_before}
use Rattle.typed_cells.proofs.Frames.{kept_cells, front_within, kept_at, frame_is}
use Rattle.typed_cells.proofs.Roles.{input_cell, input_front, input_plain, input_not_local, input_no_step, input_not_stored, other_front}

-- ---- an input

input_taken : (s : List ℕ) (r : Role) (o : Option ℕ) → is_input r ≡ true → (if has_cell r then (if is_step r then 2 else size_among s (if is_local r then o else None)) else 0) ≡ 1
input_taken s roles.Input o is = refl
input_taken s _ o is = absurd (false≢true is)

-- ---- the inputs of a FUNCTION

-- the port of a number stands at a place of an owner
record IsPortAt (f : FileData) (owner : List Scratch) (place : ℕ) (ports : List Port) (i : ℕ) : Type 0 where
  port : Port
  there : slice_get ports i ≡ Some port
  fits : port.whole ≡ true → is_unknown port.kind ≡ false → IsPlaceOf (last f) port.kind (place_at owner place)

record ArePorts (f : FileData) (owner : List Scratch) (first : ℕ) (ports : List Port) : Type 0 where
  room : first + length ports ≤ length owner
  each : (i : ℕ) → i < length ports → IsPortAt f owner (first + i) ports i

member_fits : (f : FileData) (owner : List Scratch) (v : Variable) (c : ℕ) → has_cell v.role ≡ true → HasKind v → Occurs (variable_places f v) owner c
    → is_unknown (domain_of_variable f v).kind ≡ false → IsPlaceOf (last f) (domain_of_variable f v).kind (place_at owner c)
member_fits f owner v c has kind at known =
    let cell = first_cell f v owner c has (no_block f v known) kind at in
    subst (λ (p : Scratch). IsPlaceOf (last f) (domain_of_variable f v).kind p) (sym cell.takes) ((variable_sound f v).place known)

first_kept : (m : Member) (ms : List Member) → is_input m.role ≡ true → ports_of (m ∷ ms) ≡ port_of m ∷ ports_of ms
first_kept m ms is = rw is refl

first_left : (m : Member) (ms : List Member) → is_input m.role ≡ false → ports_of (m ∷ ms) ≡ ports_of ms
first_left m ms is = rw is refl

one_port : (f : FileData) (owner : List Scratch) (first : ℕ) (x : Port) (ports : List Port) → (x.whole ≡ true → is_unknown x.kind ≡ false → IsPlaceOf (last f) x.kind (place_at owner first)) → ArePorts f owner (first + 1) ports
    → ArePorts f owner first (x ∷ ports)
one_port f owner first x ports here rest = record { room = let r = rest.room in omega (arith, r); each = each }
  where
    each : (i : ℕ) → i < length (x ∷ ports) → IsPortAt f owner (first + i) (x ∷ ports) i
    each zero small = record { port = x; there = refl; fits = subst (λ (n : ℕ). x.whole ≡ true → is_unknown x.kind ≡ false → IsPlaceOf (last f) x.kind (place_at owner n)) (omega arith) here }
    each (suc i) small =
        let p = rest.each i (omega (arith, small)) in
        record { port = p.port; there = p.there; fits = subst (λ (n : ℕ). p.port.whole ≡ true → is_unknown p.port.kind ≡ false → IsPlaceOf (last f) p.port.kind (place_at owner n)) (omega arith) p.fits }

module _ (f : FileData) (owner : List Scratch) where
  ports_by : (b : Bool) (next : Next) (v : Variable) (vs : List Variable) → next.of_function ≡ true → is_input v.role ≡ b → is_result v.role ≡ false → HasSize f v → IsNext f owner next (v ∷ vs)
      → ((n : Next) → n.of_function ≡ true → IsNext f owner n vs → ArePorts f owner n.front (ports_of (members_of f (sizes_of f) n vs))) → ArePorts f owner next.front (ports_of (members_of f (sizes_of f) next (v ∷ vs)))
  ports_by true next v vs of_function is other size now rest =
      let front : is_front next.of_function v.role ≡ true = subst (λ (o : Bool). is_front o v.role ≡ true) (sym of_function) (input_front v.role is) in
      let p = pass f owner next v vs size now in
      let behind = places_behind f (sizes_of f) next v in
      let moved = passed_front f (sizes_of f) next v front in
      let one : cells_taken f (sizes_of f) v ≡ 1 = input_taken (sizes_of f) v.role _ is in
      let step : behind.front ≡ next.front + 1 = ap (λ (n : Next). n.front) moved ∙ ap (λ (n : ℕ). next.front + n) one in
      let more = rest behind (ap (λ (n : Next). n.of_function) moved ∙ of_function) p.behind in
      let here = occurs_at (variable_places f v) owner (first_place next v) next.front (place_front next v front) p.here in
      let plain = input_plain v.role is in
      subst (λ (ports : List Port). ArePorts f owner next.front ports) (sym (first_kept (member_of f (first_place next v) v) (members_of f (sizes_of f) behind vs) is))
      (one_port f owner next.front (port_of (member_of f (first_place next v) v)) (ports_of (members_of f (sizes_of f) behind vs))
      (λ whole known. member_fits f owner v next.front (input_cell v.role is) (λ chart. absurd (let h : ⊥ = cc in h)) here known)
      (subst (λ (n : ℕ). ArePorts f owner n (ports_of (members_of f (sizes_of f) behind vs))) step more))
  ports_by false next v vs of_function is other size now rest =
      let front : is_front next.of_function v.role ≡ false = subst (λ (o : Bool). is_front o v.role ≡ false) (sym of_function) (other_front v.role is other) in
      let p = pass f owner next v vs size now in
      let behind = places_behind f (sizes_of f) next v in
      let moved = passed_rest f (sizes_of f) next v front in
      let same : behind.front ≡ next.front = ap (λ (n : Next). n.front) moved in
      let more = rest behind (ap (λ (n : Next). n.of_function) moved ∙ of_function) p.behind in
      subst (λ (ports : List Port). ArePorts f owner next.front ports) (sym (first_left (member_of f (first_place next v) v) (members_of f (sizes_of f) behind vs) is))
      (subst (λ (n : ℕ). ArePorts f owner n (ports_of (members_of f (sizes_of f) behind vs))) same more)

  ports : (vs : List Variable) → AllByRecursion IsOther vs → AllByRecursion (HasSize f) vs → (next : Next) → next.of_function ≡ true → IsNext f owner next vs → ArePorts f owner next.front (ports_of (members_of f (sizes_of f) next vs))
  ports [] others sizes next of_function now =
      let within = occurs_within (variables_places f (in_front next.of_function [])) owner next.front now.front in record { room = omega (arith, within); each = λ i small. absurd (omega (arith, small)) }
  ports (v ∷ vs) others sizes next of_function now =
      ports_by (is_input v.role) next v vs of_function refl others.0 sizes.0 now (λ n of_f behind. ports vs others.1 sizes.1 n of_f behind)

-- ---- the cells of the inputs

abbrev Blocks : Type 0
Blocks = Option (List ℕ) → ℕ → List CellData

module _ (f : FileData) (of_block : Blocks) where
  abbrev own_cells : Variable → List CellData
  own_cells v = if has_cell v.role then cells_of_variable f of_block false None v (block_of f v) else []

  abbrev fronts : List Variable → List CellData
  fronts vs = cells_of f of_block false None (in_front true vs)

  one_cell : (v : Variable) → is_input v.role ≡ true → length (own_cells v) ≡ 1
  one_cell v is =
      let has = input_cell v.role is in
      let none : block_of f v ≡ None = let other = input_not_local v.role is in rw other refl in
      let step = input_no_step v.role is in
      let stored = input_not_stored v.role is in
      rw (has, none, step, stored) refl

  abbrev AreFew : Next → List Variable → Type 0
  AreFew next vs = length (ports_of (members_of f (sizes_of f) next vs)) ≤ length (fronts vs)

  few_by : (b : Bool) (next : Next) (v : Variable) (vs : List Variable) → is_input v.role ≡ b → is_result v.role ≡ false → AreFew (places_behind f (sizes_of f) next v) vs → AreFew next (v ∷ vs)
  few_by true next v vs is other rest =
      let m = member_of f (first_place next v) v in
      let ms = members_of f (sizes_of f) (places_behind f (sizes_of f) next v) vs in
      let more : length (ports_of (members_of f (sizes_of f) next (v ∷ vs))) ≡ length (port_of m ∷ ports_of ms) = ap (λ (l : List Port). length l) (first_kept m ms is) in
      let front : length (fronts (v ∷ vs)) ≡ length (own_cells v ++ fronts vs) = ap (λ (l : List Variable). length (cells_of f of_block false None l)) (front_first true v vs (input_front v.role is)) in
      let parts = length-append (own_cells v) (fronts vs) in
      let one = one_cell v is in
      omega (arith, more, front, parts, one, rest)
  few_by false next v vs is other rest =
      let m = member_of f (first_place next v) v in
      let ms = members_of f (sizes_of f) (places_behind f (sizes_of f) next v) vs in
      let same : length (ports_of (members_of f (sizes_of f) next (v ∷ vs))) ≡ length (ports_of ms) = ap (λ (l : List Port). length l) (first_left m ms is) in
      let front : length (fronts (v ∷ vs)) ≡ length (fronts vs) = ap (λ (l : List Variable). length (cells_of f of_block false None l)) (front_none true v vs (other_front v.role is other)) in
      omega (arith, same, front, rest)

  -- each input has a cell
  inputs_few : (vs : List Variable) → AllByRecursion IsOther vs → (next : Next) → AreFew next vs
  inputs_few [] others next = omega arith
  inputs_few (v ∷ vs) others next = few_by (is_input v.role) next v vs refl others.0 (inputs_few vs others.1 (places_behind f (sizes_of f) next v))

-- ---- a FUNCTION

abbrev own_name : TypeData → PouData → Variable
own_name t q = record { name = q.name; role = roles.Result; kind = Some t; initial = None }

abbrev other_names : PouData → List Variable
other_names q = variables_of q.variables ++ names_in_body q.body

names_of_function : (t : TypeData) (q : PouData) → q.pou_type ≡ function t → variables_in_pou q ≡ own_name t q ∷ other_names q
names_of_function t q as_function = ap (λ (k : PouTypeData). result_variable k q.name ++ variables_of q.variables ++ names_in_body q.body) as_function

-- what is known of a FUNCTION's frame: its answer and its inputs
record IsFrame (f : FileData) (owner : List Scratch) (ms : List Member) : Type 0 where
  answer : (result_of ms).whole ≡ true → is_unknown (result_of ms).kind ≡ false → IsPlaceOf (last f) (result_of ms).kind (place_at owner 1)
  answers : 2 ≤ length owner
  inputs : ArePorts f owner 2 (ports_of ms)

frame_from : (f : FileData) (owner : List Scratch) (t : TypeData) (q : PouData) → AllByRecursion IsOther (other_names q) → AllByRecursion (HasSize f) (own_name t q ∷ other_names q)
    → IsNext f owner (places_from f (sizes_of f) true 1 (own_name t q ∷ other_names q)) (own_name t q ∷ other_names q)
    → IsFrame f owner (members_of f (sizes_of f) (places_from f (sizes_of f) true 1 (own_name t q ∷ other_names q)) (own_name t q ∷ other_names q))
frame_from f owner t q others sizes now =
    let v = own_name t q in
    let next = places_from f (sizes_of f) true 1 (v ∷ other_names q) in
    let p = pass f owner next v (other_names q) sizes.0 now in
    let rest = ports f owner (other_names q) others sizes.1 (places_behind f (sizes_of f) next v) refl p.behind in
    let within = occurs_within (variable_places f v) owner 1 p.here in
    let size = sizes.0 in
    record { answer = λ whole known. member_fits f owner v 1 refl (λ chart. absurd (false≢true chart)) p.here known; answers = let r = rest.room in omega (arith, r); inputs = rest }

module _ (f : FileData) (runs : ℕ → Bool) (used : UsesItsBlocks f) (ordered : IsOrdered f) where
  module _ (n : ℕ) (t : TypeData) (q : PouData) (there : pou_at f n ≡ Some q) (as_function : q.pou_type ≡ function t) where
    owner_is : pou_places f n q.pou_type q ≡ map of_cell (frame_cells f q)
    owner_is = ap (λ (k : PouTypeData). pou_places f n k q) as_function

    abbrev members : List Variable → List Member
    members vs = members_of f (sizes_of f) (places_from f (sizes_of f) true 1 vs) vs

    members_are : members_at f (sizes_of f) n ≡ members (own_name t q ∷ other_names q)
    members_are =
        ap (λ (o : Option PouData). members_if f (sizes_of f) o) there ∙ ap (λ (k : PouTypeData). members_of f (sizes_of f) (first_places f (sizes_of f) k (variables_in_pou q)) (variables_in_pou q)) as_function
        ∙ ap members (names_of_function t q as_function)

    starts : IsNext f (map of_cell (frame_cells f q)) (places_from f (sizes_of f) true 1 (own_name t q ∷ other_names q)) (own_name t q ∷ other_names q)
    starts =
        subst (λ (vs : List Variable). IsNext f (map of_cell (frame_cells f q)) (places_from f (sizes_of f) true 1 vs) vs) (names_of_function t q as_function)
        (subst (λ (k : PouTypeData). IsNext f (map of_cell (frame_cells f q)) (first_places f (sizes_of f) k (variables_in_pou q)) (variables_in_pou q)) as_function
        (subst (λ (l : List Scratch). IsNext f l (first_places f (sizes_of f) q.pou_type (variables_in_pou q)) (variables_in_pou q)) owner_is (begins f used ordered n q there)))

    frame_known : IsFrame f (map of_cell (frame_cells f q)) (members_at f (sizes_of f) n)
    frame_known =
        subst (λ (ms : List Member). IsFrame f (map of_cell (frame_cells f q)) ms) (sym members_are)
        (frame_from f (map of_cell (frame_cells f q)) t q (others_known q) (subst (λ (vs : List Variable). AllByRecursion (HasSize f) vs) (names_of_function t q as_function) (sizes_known f used ordered n q there)) starts)

    abbrev of_block : Blocks
    of_block = block_cells f (length (pous_of f))

    -- FAULT, the answer and the inputs have cells
    front_room : 2 + length (ports_of (members_at f (sizes_of f) n)) ≤ length (front_cells f q)
    front_room =
        let others = other_names q in
        let behind = places_behind f (sizes_of f) (places_from f (sizes_of f) true 1 (own_name t q ∷ others)) (own_name t q) in
        let few = inputs_few f of_block others (others_known q) behind in
        let inputs : length (ports_of (members_at f (sizes_of f) n)) ≡ length (ports_of (members_of f (sizes_of f) behind others)) = ap (λ (ms : List Member). length (ports_of ms)) members_are in
        let cells : length (front_cells f q) ≡ length (fault_cell ∷ cell_for f false None (own_name t q) ∷ fronts f of_block others) =
        ap (λ (vs : List Variable). length (fault_cell ∷ fronts f of_block vs)) (names_of_function t q as_function) in
        omega (arith, few, inputs, cells)

    pub kept_room : (b : Bool) → 2 ≤ length (kept_cells f b q)
    kept_room b = let room = front_room in let within = front_within f q b in omega (arith, room, within)

    module _ (called : IsCalled f ordered n) where
      abbrev kept : List CellData
      kept = kept_cells f (runs (called_number f n)) q

      frame : frames_of (stated_by f runs) (called_number f n) ≡ frame_for kept
      frame = frame_is f runs ordered n t q there as_function called

      place_is : (place : ℕ) → place < length (front_cells f q) → place_at (map of_cell (frame_cells f q)) place ≡ scratch_at (frames_of (stated_by f runs) (called_number f n)) place
      place_is place small = kept_at f q (runs (called_number f n)) place small ∙ ap (λ (d : FrameData). scratch_at d place) (sym frame)

      input_fits : (i : ℕ) → i < length (ports_of (members_at f (sizes_of f) n)) → (k : ℕ) → InputFits (pous f runs) (last f) (scope_of f (sizes_of f) k) (signature_of f (sizes_of f) n) i
      input_fits i small k =
          let known = frame_known in
          let p = known.inputs.each i small in
          let room = front_room in
          record {
            port = p.port;
            there = p.there;
            place = λ whole kind_known. subst (λ (s : Scratch). IsPlaceOf (last f) p.port.kind s) (place_is (2 + i) (omega (arith, room, small))) (p.fits whole kind_known);
          }

      room_for : 2 + length (ports_of (members_at f (sizes_of f) n)) ≤ length (frames_of (stated_by f runs) (called_number f n)).types
      room_for =
          let room = front_room in
          let within = front_within f q (runs (called_number f n)) in
          let types : length (frames_of (stated_by f runs) (called_number f n)).types ≡ length kept = ap (λ (d : FrameData). length d.types) frame ∙ length-map kept _ in
          omega (arith, room, within, types)

      answer_fits : (result_of (members_at f (sizes_of f) n)).whole ≡ true → is_unknown (result_of (members_at f (sizes_of f) n)).kind ≡ false
          → IsPlaceOf (last f) (result_of (members_at f (sizes_of f) n)).kind (scratch_at (frames_of (stated_by f runs) (called_number f n)) 1)
      answer_fits whole kind_known =
          let known = frame_known in
          let room = front_room in
          subst (λ (s : Scratch). IsPlaceOf (last f) (result_of (members_at f (sizes_of f) n)).kind s) (place_is 1 (omega (arith, room))) (known.answer whole kind_known)

  -- ---- the FUNCTIONs that a POU calls

  function_pou : (o : Option PouData) → unwrap_or (option_map is_function (option_map (λ (q : PouData). q.pou_type) o)) false ≡ true → (t : TypeData) × (q : PouData) × (o ≡ Some q) × (q.pou_type ≡ function t)
  function_pou None passes = absurd (false≢true passes)
  function_pou (Some q) passes = let only = only_of q.pou_type passes in (only.0, q, refl, only.1)
    where
      only_of : (pou_type : PouTypeData) → is_function pou_type ≡ true → (t : TypeData) × (pou_type ≡ function t)
      only_of (function t) passes = (t, refl)
      only_of function_block passes = absurd (false≢true passes)
      only_of program passes = absurd (false≢true passes)

  module _ (k : ℕ) (p : PouData) (there : pou_at f k ≡ Some p) (is : is_marked (reached f) k ≡ true) where
    signature_at_number : (n : ℕ) → unwrap_or (option_map is_function (pou_type_at f n)) false ≡ true → is_among n (uses_at (uses_of f) k) ≡ true → SignatureFits (pous f runs) (scope_over f k p) (last f) (scope_of f (sizes_of f) k) (signature_of f (sizes_of f) n)
    signature_at_number n passes uses =
        let at = used_below f used ordered k n (low f used ordered k p there) uses in
        let callable = function_may (pou_type_at f n) passes in
        let called = is_called f ordered n at.1 (used_reached f ordered k n is uses) callable in
        let pou = function_pou (pou_at f n) passes in
        record {
          before = stands_before f used ordered k p there is n at.1 uses callable;
          room = room_for n pou.0 pou.1 pou.2 pou.3 called;
          answer = answer_fits n pou.0 pou.1 pou.2 pou.3 called;
          inputs = λ i small. input_fits n pou.0 pou.1 pou.2 pou.3 called i small k;
        }

    signature_by : (text : List ℕ) (o : Option ℕ) → function_number f (standing f text) ≡ o → is_called_by f k o ≡ true → (s : Signature) → option_map (signature_of f (sizes_of f)) o ≡ Some s
        → SignatureFits (pous f runs) (scope_over f k p) (last f) (scope_of f (sizes_of f) k) s
    signature_by text None found uses s same = absurd (let h : ⊥ = cc in h)
    signature_by text (Some n) found uses s same =
        let e : signature_of f (sizes_of f) n ≡ s = cc in
        subst (λ (x : Signature). SignatureFits (pous f runs) (scope_over f k p) (last f) (scope_of f (sizes_of f) k) x) e (signature_at_number n (number_passes f is_function (pou_number (standing f text)) n found) uses)

    pub signatures_fit : (text : List ℕ) → is_called_by f k (function_number f (standing f text)) ≡ true → (s : Signature) → signature_at f (sizes_of f) text ≡ Some s
        → SignatureFits (pous f runs) (scope_over f k p) (last f) (scope_of f (sizes_of f) k) s
    signatures_fit text uses s same = signature_by text (function_number f (standing f text)) refl uses s same
