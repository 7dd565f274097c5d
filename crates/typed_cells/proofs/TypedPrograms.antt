-- A program is typed whose bodies are typed over their cells.
use Rattle.std.proofs.Common.{◌≡◌, ℕ, ◌+◌, ◌≤◌, ◌<◌, Bool, true, false, List, length, map, get_or, Option, Some, None, option_map, refl, sym, ap, ◌∙◌, arith, subst}
use Rattle.std.specs.Prelude.{All}
use Rattle.std.proofs.lemmas.List.{length-append}
use Rattle.std.proofs.lemmas.Bool.{false≢true}
use Rattle.call_order.specs.Marks.{is_marked}
use Rattle.source_tree.specs.Syntax.{TypeData, PouTypeData, function, function_block, program, PouData, FileData}
use Rattle.program_tree.specs.Tree.{Statements, no_statements, CalledData}
use Rattle.program_tree.specs.Leaving.{LeavesNothing}
use Rattle.program_tree.specs.declared.scratch.Scratch.{Scratch}
use Rattle.program_tree.specs.Places.{of_cell, IsTypedPlace}
use Rattle.naming.specs.FileScope.{pou_at}
use Rattle.naming.specs.Scopes.{names_in_body, variables_in_pou}
use Rattle.meaning.specs.Calls.{nothing}
use Rattle.meaning.specs.Frames.{FrameData, frames_of}
use Rattle.typing.specs.Reached.{reached}
use Rattle.typing.specs.Places.{in_order, count_of_cells, sizes_of, first_places}
use Rattle.typing.specs.Members.{may_be_called, called_order, is_function}
use Rattle.typing.specs.TypedPrograms.{frame_cells, pou_body, called_of, called_if}
use Rattle.running_pous.specs.Stated.{unused_of, unused_if, stated_if, stated_by, shortened}
use Rattle.typing_laws.proofs.CellCounts.{count-in_order}
use Rattle.typed_programs.specs.Scopes.{Pous, BodyScope}
use Rattle.typed_programs.specs.Statements.{AreTypedParts}
use Rattle.typed_programs.specs.Programs.{frame_places, IsTypedFrame, IsTypedBody, IsTypedPou, IsTypedProgram}
use Rattle.typed_cells.specs.Places.{block_places, pou_places, first_of, before_pou, declared_names, chart_place, scope_over, pous, frame_for}
use Rattle.typed_cells.specs.Variables.{variables_places}
use Rattle.typed_cells.specs.Premises.{UsesItsBlocks, IsOrdered, AreWhole}
use Rattle.typed_cells.specs.Bodies.{IsTypedIn}
use Rattle.typed_cells.proofs.Lists.{all-in_order}
use Rattle.typed_cells.proofs.Lengths.{HasSize, length_all}
use Rattle.typed_cells.proofs.Bounds.{count_append}
use Rattle.typed_cells.proofs.Owners.{head_of, length_head, places_are, sizes_known}
use Rattle.typed_cells.proofs.Numbers.{is_called, IsNumbered, numbered_pou}
use Rattle.running_pous.proofs.StatedPous.{stated_at, length_stated}
use Rattle.typed_cells.proofs.Frames.{kept_cells, frame_is}
use Rattle.typed_cells.proofs.Signatures.{kept_room}
use Rattle.typed_cells.proofs.TypedFrames.{frame_places_are, instance_typed, frame_typed, program_typed}
use Rattle.typed_cells.proofs.Beginnings.{begun_is, begun_leaves}

body_in : (ps : Pous) (b : BodyScope) (body : Statements) → b.settable ≤ length b.places → AreTypedParts ps b body → LeavesNothing body → IsTypedBody ps b.first b.places b.pous body
body_in ps b body within typed leaves = record { settable = b.settable; within = within; typed = typed; leaves_nothing = leaves }

no_body : (ps : Pous) (first : ℕ) (places : List Scratch) (before : ℕ) → IsTypedBody ps first places before no_statements
no_body ps first places before = record { settable = 0; within = omega arith; typed = tt; leaves_nothing = (refl, refl) }

module _ (f : FileData) (runs : ℕ → Bool) (used : UsesItsBlocks f) (ordered : IsOrdered f) (whole : AreWhole f) (bodies : (k : ℕ) (p : PouData) → pou_at f k ≡ Some p → is_marked (reached f) k ≡ true → IsTypedIn f runs k p) where
  module _ (k : ℕ) (p : PouData) (there : pou_at f k ≡ Some p) where
    -- the cells of the chart end among the POU's
    settable_within : chart_place f p ≤ length (pou_places f k p.pou_type p)
    settable_within =
        let o = is_function p.pou_type in
        let vs = variables_in_pou p in
        let cells = variables_places f (in_order o vs) in
        let all : length (pou_places f k p.pou_type p) ≡ length (head_of p.pou_type) + length cells = ap (λ (l : List Scratch). length l) (places_are f used ordered k p there p.pou_type) ∙ length-append (head_of p.pou_type) cells in
        let counted : length cells ≡ count_of_cells f (sizes_of f) vs =
        length_all f (in_order o vs) (all-in_order (HasSize f) o vs (sizes_known f used ordered k p there)) ∙ count-in_order f (sizes_of f) o vs in
        let parts = count_append f (sizes_of f) (declared_names p) (names_in_body p.body) in
        let head = length_head p.pou_type in
        omega (arith, all, counted, parts, head)

    body_at : is_marked (reached f) k ≡ true → IsTypedBody (pous f runs) (first_of p.pou_type) (pou_places f k p.pou_type p) (before_pou f k p.pou_type) (pou_body f k p)
    body_at is =
        let body = bodies k p there is in
        body_in (pous f runs) (scope_over f k p) (pou_body f k p) settable_within (begun_is f runs used ordered whole k p there _ body.0)
        (begun_leaves f (first_places f (sizes_of f) p.pou_type (variables_in_pou p)) (variables_in_pou p) _ body.1)

    -- by what the POU is
    body_as : (pou_type : PouTypeData) → p.pou_type ≡ pou_type → is_marked (reached f) k ≡ true → IsTypedBody (pous f runs) (first_of pou_type) (pou_places f k pou_type p) (before_pou f k pou_type) (pou_body f k p)
    body_as pou_type same is = subst (λ (x : PouTypeData). IsTypedBody (pous f runs) (first_of x) (pou_places f k x p) (before_pou f k x) (pou_body f k p)) same (body_at is)

    module _ (n : ℕ) (at : get_or (called_order f) n 0 ≡ k) (number : IsNumbered f ordered n k) where
      module _ (t : TypeData) (same : p.pou_type ≡ function t) (b : Bool) (is : runs n ≡ b) where
        frame : (pous f runs).frames n ≡ frame_for (kept_cells f b p)
        frame =
            let called = is_called f ordered k number.below number.marked number.callable in
            ap (λ (m : ℕ). frames_of (stated_by f runs) m) (sym number.number) ∙ frame_is f runs ordered k t p there same called ∙ ap (λ (m : ℕ). frame_for (kept_cells f (runs m) p)) number.number
            ∙ ap (λ (r : Bool). frame_for (kept_cells f r p)) is

        frame_known : IsTypedFrame ((pous f runs).frames n)
        frame_known = subst (λ (d : FrameData). IsTypedFrame d) (sym frame) (frame_typed f whole k p there b (kept_room f runs used ordered k t p there same b))

      function_as : (t : TypeData) → p.pou_type ≡ function t → runs n ≡ true → IsTypedPou (pous f runs) n (called_of f k (function t) p)
      function_as t same is =
          let places : frame_places ((pous f runs).frames n) ≡ map of_cell (frame_cells f p) = ap frame_places (frame t same true is) ∙ frame_places_are (frame_cells f p) in (
            frame_known t same true is,
            subst (λ (l : List Scratch). IsTypedBody (pous f runs) 1 l n (pou_body f k p)) (sym places)
                (subst (λ (m : ℕ). IsTypedBody (pous f runs) 1 (map of_cell (frame_cells f p)) m (pou_body f k p)) number.number (body_as (function t) same number.marked)),
          )

      places : (pous f runs).instances n ≡ block_places f k
      places = ap (block_places f) at

      places_typed : All IsTypedPlace ((pous f runs).instances n)
      places_typed = subst (λ (l : List Scratch). All IsTypedPlace l) (sym places) (instance_typed f whole k)

      block_as : p.pou_type ≡ function_block → IsTypedPou (pous f runs) n (called_of f k function_block p)
      block_as same = (
        places_typed,
        subst (λ (l : List Scratch). IsTypedBody (pous f runs) 0 l n (pou_body f k p)) (sym places)
            (subst (λ (m : ℕ). IsTypedBody (pous f runs) 0 (block_places f k) m (pou_body f k p)) number.number (body_as function_block same number.marked)),
      )

      no_program : p.pou_type ≡ program → ⊥
      no_program same =
          let h : may_be_called (Some p.pou_type) ≡ true = subst (λ (o : Option PouData). may_be_called (option_map (λ (q : PouData). q.pou_type) o) ≡ true) there number.callable in
          false≢true (subst (λ (pou_type : PouTypeData). may_be_called (Some pou_type) ≡ true) same h)

      -- one that runs
      runs_as : (pou_type : PouTypeData) → p.pou_type ≡ pou_type → runs n ≡ true → IsTypedPou (pous f runs) n (called_of f k pou_type p)
      runs_as (function t) same is = function_as t same is
      runs_as function_block same is = block_as same
      runs_as program same is = absurd (no_program same)

      -- and one that never does
      rests_as : (pou_type : PouTypeData) → p.pou_type ≡ pou_type → runs n ≡ false → IsTypedPou (pous f runs) n (unused_of f k pou_type p)
      rests_as (function t) same is = (frame_known t same false is, no_body (pous f runs) 1 (frame_places ((pous f runs).frames n)) n)
      rests_as function_block same is = (places_typed, no_body (pous f runs) 0 ((pous f runs).instances n) n)
      rests_as program same is = absurd (no_program same)

  module _ (n k : ℕ) (at : get_or (called_order f) n 0 ≡ k) (number : IsNumbered f ordered n k) where
    no_pou : pou_at f k ≡ None → ⊥
    no_pou there = false≢true (subst (λ (o : Option PouData). may_be_called (option_map (λ (q : PouData). q.pou_type) o) ≡ true) there number.callable)

    running : (o : Option PouData) → pou_at f k ≡ o → runs n ≡ true → IsTypedPou (pous f runs) n (called_if f k o)
    running None there is = absurd (no_pou there)
    running (Some p) there is = runs_as k p there n at number p.pou_type refl is

    resting : (o : Option PouData) → pou_at f k ≡ o → runs n ≡ false → IsTypedPou (pous f runs) n (unused_if f k o)
    resting None there is = absurd (no_pou there)
    resting (Some p) there is = rests_as k p there n at number p.pou_type refl is

    stated_typed : (b : Bool) → runs n ≡ b → IsTypedPou (pous f runs) n (stated_if f k b)
    stated_typed true is = running (pou_at f k) refl is
    stated_typed false is = resting (pou_at f k) refl is

  called_typed : (n : ℕ) → n < length (stated_by f runs) → IsTypedPou (pous f runs) n (get_or (stated_by f runs) n nothing)
  called_typed n low =
      let long = length_stated f runs in
      let below : n < length (called_order f) = omega (arith, low, long) in
      subst (λ (c : CalledData). IsTypedPou (pous f runs) n c) (sym (stated_at f runs n below)) (stated_typed n (get_or (called_order f) n 0) refl (numbered_pou f ordered n below) (runs n) refl)

  pub program_is_typed : (k : ℕ) (p : PouData) → pou_at f k ≡ Some p → p.pou_type ≡ program → is_marked (reached f) k ≡ true → IsTypedProgram (shortened f runs k p)
  program_is_typed k p there as_program is = record {
    instances = (pous f runs).instances;
    fault = (refl, refl, refl);
    whole_fault = refl;
    cells = program_typed f whole k p there;
    called = called_typed;
    body = subst (λ (m : ℕ). IsTypedBody (pous f runs) 1 (pou_places f k program p) m (pou_body f k p)) (sym (length_stated f runs)) (body_as k p there program as_program is);
  }
