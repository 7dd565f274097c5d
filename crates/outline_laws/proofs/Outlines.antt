-- Where the outline of a file's program is too long, the program is too long.
use Rattle.std.proofs.Common.{◌≡◌, ◌≤◌, ◌<◌, ◌⊎◌, ℕ, zero, suc, List, [], ◌∷◌, length, map, get_or, Bool, true, false, if◌then◌else◌, Option, Some, None, refl, sym, ap, ◌∙◌, arith, subst, inl, inr, ⊎_elim}
use Rattle.std.specs.Prelude.{◌==◌, nat_lt, slice_index_or}
use Rattle.std.proofs.lemmas.Bool.{cases_Bool, eqb-true}
use Rattle.std.proofs.lemmas.Bool.Decides.{nat_tests}
use Rattle.std.proofs.lemmas.List.{length-map}
use Rattle.std.proofs.lemmas.Option.{slice_get_within}
use Rattle.call_order.specs.Marks.{is_marked}
use Rattle.call_order.specs.Uses.{is_among, order_of}
use Rattle.call_order.proofs.Orders.{each_in}
use Rattle.rules.specs.declared.rule.Refusal.{Refusal}
use Rattle.source_tree.specs.Syntax.{TypeData, PouTypeData, function, function_block, program, PouData, FileData}
use Rattle.program_tree.specs.Tree.{Statements, CalledData}
use Rattle.naming.specs.Broken.{broken_names}
use Rattle.naming.specs.Circles.{uses_in, uses_of, IsBroken}
use Rattle.naming.specs.FileScope.{pous_of, pou_at}
use Rattle.naming.specs.Scopes.{variables_in_pou}
use Rattle.naming.proofs.CircleLemmas.{nothing_left}
use Rattle.meaning.specs.Calls.{nothing}
use Rattle.meaning.specs.Frames.{FrameData, frame_of, frames_of, function_body}
use Rattle.flat_form.specs.Frames.{others_behind}
use Rattle.flat_form.specs.Pous.{block_body}
use Rattle.flat_form.specs.FlatPrograms.{is_short}
use Rattle.flat_count.specs.Counts.{Counting, count_of_start, count_of_all, counting_of, capped}
use Rattle.typing.specs.Members.{called_order, scope_of}
use Rattle.typing.specs.Places.{first_places, variables_in, variables_at, sizes_of}
use Rattle.typing.specs.Reached.{reached}
use Rattle.typing.specs.TypedPrograms.{cells_in, frame_cells, type_of_cell, typed_body, pou_body, called_of, called_if, called_by, typed_program}
use Rattle.typing_laws.proofs.CellCounts.{UsesItsBlocks, size_is, no_size, length-cells_in}
use Rattle.pou_cells.specs.Placing.{capped as word}
use Rattle.running_counts.proofs.Shortness.{frames_counted, short_by, longer}
use Rattle.alike_scopes.proofs.bound_names.UsedBlocks.{used_blocks, all_ordered}
use Rattle.alike_scopes.proofs.PlacedScopes.{scopes_alike, blocks_alike}
use Rattle.st_types.specs.Outlines.{is_long, outlined_body, outlined_of, outlined_if, outlined_by, outlined_program}
use Rattle.outline_laws.proofs.FewerCells.{further, less_of}
use Rattle.outline_laws.proofs.AlikeCounts.{less_begun, same_body}

abbrev no_frame : FrameData
no_frame = record { types = []; ranges = []; start = [] }

-- a POU, and its outline
record IsOutlined (p q : CalledData) : Type 0 where
  frame : frame_of p ≡ no_frame
  runs : (c : Counting) → count_of_all c (block_body p) ≤ count_of_all c (block_body q)
  calls : ((c : Counting) → count_of_all c (function_body p) ≤ count_of_all c (function_body q)) ⊎ (200003 ≤ length (frame_of q).types)

-- ---- the POUs of a file

sizes_least : (s : List ℕ) (k : ℕ) → get_or (map word s) k 0 ≤ get_or s k 0
sizes_least [] k = omega arith
sizes_least (n ∷ s) zero = grind (arith, nat_tests)
sizes_least (n ∷ s) (suc k) = sizes_least s k

module _ (f : FileData) (used : UsesItsBlocks f) (ordered : length (order_of (uses_of f)) ≡ length (pous_of f)) where
  abbrev sizes : List ℕ
  sizes = map word (sizes_of f)

  body_less : (k : ℕ) (p : PouData) (c : Counting) → count_of_all c (outlined_body f k p) ≤ count_of_all c (pou_body f k p)
  body_less k p c =
      let vs = variables_in_pou p in
      let t = scope_of f (sizes_of f) k in
      let same = same_body c (scope_of f [] k) t (scopes_alike f [] (sizes_of f) k) (blocks_alike f [] (sizes_of f) k) p.body in
      subst (λ (n : ℕ). n ≤ count_of_all c (pou_body f k p)) (sym same) (less_begun c f (first_places f (sizes_of f) p.pou_type vs) vs (typed_body t p.body))

  frame_length : (k : ℕ) (p : PouData) → pou_at f k ≡ Some p → 200001 < get_or (sizes_of f) k 0 → 200003 ≤ length (map type_of_cell (frame_cells f p))
  frame_length k p at long = ⊎_elim marked unmarked (cases_Bool (is_marked (reached f) k))
    where
      below : k < length (pous_of f)
      below = slice_get_within (pous_of f) k p at

      here : is_among k (order_of (uses_of f)) ≡ true
      here =
          let graph : length (uses_of f) ≡ length (pous_of f) = length-map (pous_of f) (uses_in f) in
          each_in (uses_of f) (ordered ∙ sym graph) k (omega (arith, graph, below))

      marked : is_marked (reached f) k ≡ true → 200003 ≤ length (map type_of_cell (frame_cells f p))
      marked is =
          let own : variables_at f k ≡ variables_in_pou p = ap variables_in at in
          let size = size_is f used k here is in
          let cells = length-cells_in f used ordered k below None true in
          let spread = ap (λ vs. length (cells_in f None true vs)) own in
          let types = length-map (frame_cells f p) type_of_cell in
          omega (arith, long, size, cells, spread, types)

      unmarked : is_marked (reached f) k ≡ false → 200003 ≤ length (map type_of_cell (frame_cells f p))
      unmarked out = let none = no_size f used k out in absurd (omega (arith, none, long))

  function_outlined : (k : ℕ) (t : TypeData) (p : PouData) → pou_at f k ≡ Some p → (b : Bool) → is_long sizes k ≡ b → IsOutlined (outlined_of f sizes k (function t) p) (called_of f k (function t) p)
  function_outlined k t p at true is =
      let low = sizes_least (sizes_of f) k in
      let long : 200001 < get_or (map word (sizes_of f)) k 0 = grind (arith, nat_tests) in
      record { frame = refl; runs = λ c. omega arith; calls = inr (frame_length k p at (omega (arith, low, long))) }
  function_outlined k t p at false is = record { frame = refl; runs = λ c. omega arith; calls = inl (λ c. rw is (body_less k p c)) }

  by_type : (k : ℕ) (p : PouData) → pou_at f k ≡ Some p → (pou_type : PouTypeData) → IsOutlined (outlined_of f sizes k pou_type p) (called_of f k pou_type p)
  by_type k p at (function t) = function_outlined k t p at (is_long sizes k) refl
  by_type k p at function_block = record { frame = refl; runs = body_less k p; calls = inl (λ c. omega arith) }
  by_type k p at program = record { frame = refl; runs = body_less k p; calls = inl (λ c. omega arith) }

  pou_outlined : (k : ℕ) → IsOutlined (outlined_if f sizes k (pou_at f k)) (called_if f k (pou_at f k))
  pou_outlined k = by (pou_at f k) refl
    where
      by : (o : Option PouData) → pou_at f k ≡ o → IsOutlined (outlined_if f sizes k o) (called_if f k o)
      by None at = record { frame = refl; runs = λ c. omega arith; calls = inl (λ c. omega arith) }
      by (Some p) at = by_type k p at p.pou_type

  each_outlined : (ks : List ℕ) (n : ℕ) → IsOutlined (slice_index_or (map (λ k. outlined_if f sizes k (pou_at f k)) ks) n nothing) (slice_index_or (map (λ k. called_if f k (pou_at f k)) ks) n nothing)
  each_outlined [] n = record { frame = refl; runs = λ c. omega arith; calls = inl (λ c. omega arith) }
  each_outlined (k ∷ ks) zero = pou_outlined k
  each_outlined (k ∷ ks) (suc n) = each_outlined ks n

-- ---- counts

choose_run : (b : Bool) (x y u v : ℕ) → capped x ≤ u → capped y ≤ v → capped (if b then x else y) ≤ (if b then u else v)
choose_run true x y u v h k = h
choose_run false x y u v h k = k

choose_call : (b : Bool) (x y u v : ℕ) (Long : Type 0) → (b ≡ true → (capped x ≤ u) ⊎ Long) → (capped y ≤ v) ⊎ Long → (capped (if b then x else y) ≤ (if b then u else v)) ⊎ Long
choose_call true x y u v Long h k = h refl
choose_call false x y u v Long h k = k

module _ (ps qs : List CalledData) (each : (n : ℕ) → IsOutlined (slice_index_or ps n nothing) (slice_index_or qs n nothing)) where
  no_others : (n f inputs : ℕ) → others_behind ((counting_of ps n).frame f) inputs ≡ 0
  no_others n f inputs = rw (frames_counted ps n f, (each f).frame) (omega arith)

  no_starts : (n f place : ℕ) → count_of_start ((counting_of ps n).frame f) place ≡ 0
  no_starts n f place = rw (frames_counted ps n f, (each f).frame) refl

  abbrev Calls : ℕ → ℕ → Type 0
  Calls n f = (capped ((counting_of ps n).bodies f) ≤ (counting_of qs n).bodies f) ⊎ (200003 ≤ length (frames_of qs f).types)

  call_here : (n f : ℕ) → ((ts : Statements) → capped (count_of_all (counting_of ps n) ts) ≤ count_of_all (counting_of qs n) ts) → f ≡ n
      → (capped (count_of_all (counting_of ps n) (function_body (slice_index_or ps n nothing))) ≤ count_of_all (counting_of qs n) (function_body (slice_index_or qs n nothing))) ⊎ (200003 ≤ length (frames_of qs f).types)
  call_here n f counts same =
      ⊎_elim (λ less. inl (further _ _ _ (counts (function_body (slice_index_or ps n nothing))) (less (counting_of qs n)))) (λ long. inr (subst (λ (m : ℕ). 200003 ≤ length (frames_of qs m).types) (sym same) long)) (each n).calls

  -- what the first so many POUs count
  abbrev AreLess : ℕ → Type 0
  AreLess n = ((b : ℕ) → capped ((counting_of ps n).runs b) ≤ (counting_of qs n).runs b) × ((f : ℕ) → Calls n f)

  counts_by : (n : ℕ) → AreLess n → (ts : Statements) → capped (count_of_all (counting_of ps n) ts) ≤ count_of_all (counting_of qs n) ts
  counts_by n less ts =
      less_of (counting_of ps n) (counting_of qs n) (no_others n) (no_starts n) less.0
      (λ f. subst (λ (frame : FrameData). (capped ((counting_of ps n).bodies f) ≤ (counting_of qs n).bodies f) ⊎ (200003 ≤ length frame.types)) (sym (frames_counted qs n f)) (less.1 f)) ts

  are_less : (n : ℕ) → AreLess n
  are_less zero = (λ b. grind (arith, nat_tests), λ f. inl (grind (arith, nat_tests)))
  are_less (suc n) =
      let less = are_less n in
      let counts = counts_by n less in (
        λ b. choose_run (b == n) _ _ _ _ (further _ _ _ (counts (block_body (slice_index_or ps n nothing))) ((each n).runs (counting_of qs n))) (less.0 b),
        λ f. choose_call (f == n) _ _ _ _ (200003 ≤ length (frames_of qs f).types) (λ is. call_here n f counts (eqb-true f n is)) (less.1 f),
      )

  counts_less : (n : ℕ) (ts : Statements) → capped (count_of_all (counting_of ps n) ts) ≤ count_of_all (counting_of qs n) ts
  counts_less n ts = counts_by n (are_less n) ts

-- In a file that breaks no rule on names, a program whose outline is too long is too long.
pub program_long : (f : FileData) → ((r : Refusal) → IsBroken f r → ⊥) → (k : ℕ) (p : PouData) → is_short (outlined_program f (map word (sizes_of f)) k p) ≡ false → is_short (typed_program f k p) ≡ false
program_long f names k p long =
    let none = nothing_left (broken_names f) (λ r among. names r (inl among)) in
    let used = used_blocks f none in
    let ordered = all_ordered f none names in
    let s = map word (sizes_of f) in
    let ks = called_order f in
    let ps = outlined_by f s in
    let qs = called_by f in
    let few : length ps ≡ length ks = length-map ks (λ k. outlined_if f s k (pou_at f k)) in
    let many : length qs ≡ length ks = length-map ks (λ k. called_if f k (pou_at f k)) in
    let whole = counts_less ps qs (each_outlined f used ordered ks) (length ks) (outlined_body f k p) in
    let less = further _ _ _ whole (body_less f used ordered k p (counting_of qs (length ks))) in
    let outline : nat_lt (capped (count_of_all (counting_of ps (length ks)) (outlined_body f k p))) 200000 ≡ false
    = ap (λ (n : ℕ). nat_lt (capped (count_of_all (counting_of ps n) (outlined_body f k p))) 200000) (sym few) ∙ short_by (outlined_program f s k p) ∙ long in
    sym (short_by (typed_program f k p)) ∙ ap (λ (n : ℕ). nat_lt (capped (count_of_all (counting_of qs n) (pou_body f k p))) 200000) many ∙ longer _ _ less outline
