-- The POU at the number of a file's PROGRAM is a PROGRAM, and is marked.
use Rattle.std.proofs.Common.{◌≡◌, ◌<◌, ℕ, zero, suc, List, [], ◌∷◌, length, map, get_or, Bool, true, false, Option, Some, None, sym, ap, ◌∙◌, refl, rules, tests}
use Rattle.std.specs.List.{position_from, position_or_len, slice_get}
use Rattle.std.proofs.lemmas.Iterator.Adapters.{position_from-zero}
use Rattle.std.proofs.lemmas.List.Sums.{passes_at_first}
use Rattle.std.proofs.lemmas.Option.{unwrap_or-slice_get}
use Rattle.std.specs.Prelude.{cond, nat_lt, unwrap_or}
use Rattle.call_order.specs.Marks.{is_marked}
use Rattle.source_tree.specs.Syntax.{PouTypeData, function, function_block, program, PouData, FileData}
use Rattle.naming.specs.Broken.{is_program_pou}
use Rattle.naming.specs.FileScope.{pous_of, pou_at, is_program}
use Rattle.whole_files.specs.st_names.Bound.{program_number}

found_at : (place size k : ℕ) (b : Bool) → nat_lt place size ≡ b → cond b (Some place) None ≡ Some k → (place < size) × (place ≡ k)
found_at place size k true e h = (search (rules, tests), cc)
found_at place size k false e h = absurd (let e : ⊥ = cc in e)

-- what stands where a search ends passes its test
passes_there : (test : PouData → Bool) (ps : List PouData) (k : ℕ) (p : PouData) → position_from test 0 ps ≡ Some k → slice_get ps k ≡ Some p → test p ≡ true
passes_there test ps k p h at =
    let place = position_or_len test ps in
    let r = found_at place (length ps) k (nat_lt place (length ps)) refl (position_from-zero test ps ∙ h) in
    let here : get_or ps k p ≡ p = sym (unwrap_or-slice_get ps k p) ∙ ap (λ (o : Option PouData). unwrap_or o p) at in
    ap test (sym here) ∙ ap (λ (n : ℕ). test (get_or ps n p)) (sym r.1) ∙ passes_at_first test ps p r.0

marked_at : (ps : List PouData) (k : ℕ) (p : PouData) → slice_get ps k ≡ Some p → is_program_pou p ≡ true → is_marked (map is_program_pou ps) k ≡ true
marked_at [] k p at is = absurd (let e : ⊥ = cc in e)
marked_at (x ∷ ps) zero p at is = let same : x ≡ p = cc in ap is_program_pou same ∙ is
marked_at (x ∷ ps) (suc k) p at is = marked_at ps k p at is

pou_type_is : (k : PouTypeData) → is_program k ≡ true → k ≡ program
pou_type_is (function t) h = absurd (let e : ⊥ = cc in e)
pou_type_is function_block h = absurd (let e : ⊥ = cc in e)
pou_type_is program h = refl

pub is_program_there : (f : FileData) (k : ℕ) (p : PouData) → program_number f ≡ Some k → pou_at f k ≡ Some p → p.pou_type ≡ program
is_program_there f k p one at = pou_type_is p.pou_type (passes_there is_program_pou (pous_of f) k p one at)

pub is_marked_there : (f : FileData) (k : ℕ) (p : PouData) → program_number f ≡ Some k → pou_at f k ≡ Some p → is_marked (map is_program_pou (pous_of f)) k ≡ true
is_marked_there f k p one at = marked_at (pous_of f) k p at (passes_there is_program_pou (pous_of f) k p one at)
