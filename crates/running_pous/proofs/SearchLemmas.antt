-- The search for the POUs that may run, which types the body of each of them once it is found.
use Rattle.std.proofs.Common.{◌≡◌, ℕ, ◌+◌, ◌<◌, ◌≤◌, Bool, true, false, not, List, [], ◌∷◌, ◌++◌, length, get_or, set, replicate, ◌⊎◌, inl, inr, ⊎_elim, sym, ap, subst, ◌∙◌, arith}
use Rattle.std.proofs.lemmas.Bool.{cases_lt, cases_eq, cases_Bool, both_ways, or_cases, or_left, or_right, and_from}
use Rattle.std.proofs.lemmas.List.{length-set, length-replicate, get_or-replicate, get_or_past, get_or-set_same, get_or-set_other}
use Rattle.call_order.specs.Uses.{Graph, uses_at, is_among}
use Rattle.call_order.specs.Marks.{is_marked, GetMarks}
use Rattle.call_order.proofs.Counts.{same_test}
use Rattle.call_order.proofs.Exploring.{Explores, explores-begun, explores-more, explored, below-from_mark}
use Rattle.call_order.proofs.Members.{is_among-right, is_among-head, is_among-cases, is_among-either}
use Rattle.source_tree.specs.Syntax.{FileData}
use Rattle.program_tree.specs.Tree.{Statements, no_statements}
use Rattle.naming.specs.FileScope.{pou_at}
use Rattle.typing.specs.Members.{called_order}
use Rattle.typing.specs.TypedPrograms.{called_by}
use Rattle.running_pous.specs.Uses.{uses_of_all}
use Rattle.running_pous.specs.Running.{uses_by, may_run}
use Rattle.running_pous.specs.Bodies.{body_if, bodies_from}
use Rattle.running_pous.proofs.RunningLaws.{led_exact}
use Rattle.running_pous.proofs.StatedLemmas.{body-uses, length-uses, no-bodies, one-body}

-- what a POU of a number uses
abbrev used_by : FileData → ℕ → List ℕ
used_by f n = uses_of_all (body_if f (get_or (called_order f) n 0) (pou_at f (get_or (called_order f) n 0)))

-- what has a mark waits or has its body, and nothing else has one
pub record IsUnderWay (f : FileData) (starts : List ℕ) (marks runs : List Bool) (bodies : List Statements) (waiting : List ℕ) : Type 0 where
  pub explores : Explores (uses_by (called_by f)) starts marks waiting
  pub long : length runs ≡ length (called_order f)
  pub typed : bodies ≡ bodies_from f (is_marked runs) 0 (called_order f)
  pub within : (k : ℕ) → is_marked runs k ≡ true → is_marked marks k ≡ true
  pub behind : (k : ℕ) → is_marked marks k ≡ true → (is_marked runs k ≡ true) ⊎ (is_among k waiting ≡ true)

pub none_marked : (n k : ℕ) → is_marked (replicate n false) k ≡ false
none_marked n k =
    let long = length-replicate n false in
    ⊎_elim (λ (low : k < n). get_or-replicate n k false false low) (λ (high : n ≤ k). get_or_past (replicate n false) k false (omega (arith, long, high))) (cases_lt k n)

-- the search begins
pub search-begun : (f : FileData) (starts : List ℕ) (marks runs : List Bool) (bodies : List Statements) (waiting : List ℕ)
    → GetMarks starts (replicate (length (called_order f)) false) marks [] waiting → runs ≡ replicate (length (called_order f)) false → bodies ≡ replicate (length (called_order f)) no_statements
    → IsUnderWay f starts marks runs bodies waiting
search-begun f starts marks runs bodies waiting got none empty =
    let n = length (called_order f) in
    let nothing : (k : ℕ) → is_marked runs k ≡ false = λ k. ap (λ (ms : List Bool). is_marked ms k) none ∙ none_marked n k in
    let long = length-uses f in
    record {
      explores = explores-begun (uses_by (called_by f)) starts marks waiting (subst (λ (m : ℕ). GetMarks starts (replicate m false) marks [] waiting) (sym long) got);
      long = ap length none ∙ length-replicate n false;
      typed = empty ∙ no-bodies f (is_marked runs) 0 (called_order f) nothing;
      within = λ k is. absurd (both_ways _ (nothing k) is);
      behind = λ k is.
          let shown : is_among k waiting ≡ true = got.waits k ∙ or_right (is_among k []) _ (and_from (is_marked marks k) (not (is_marked (replicate n false) k)) is (ap not (none_marked n k))) in
          inr shown;
    }

-- what waits is the number of a POU
pub waiting-low : (f : FileData) (starts : List ℕ) (marks runs : List Bool) (bodies : List Statements) (rest : List ℕ) (number : ℕ)
    → IsUnderWay f starts marks runs bodies (rest ++ number ∷ []) → number < length (called_order f)
waiting-low f starts marks runs bodies rest number is =
    let among : is_among number (rest ++ number ∷ []) ≡ true = is_among-right number rest (number ∷ []) (is_among-head number []) in
    let below = below-from_mark marks number (is.explores.waits number among) in
    let size = is.explores.size in
    let long = length-uses f in
    omega (arith, below, size, long)

-- what waits may run
pub waiting-runs : (f : FileData) (body : Statements) (marks runs : List Bool) (bodies : List Statements) (rest : List ℕ) (number : ℕ)
    → IsUnderWay f (uses_of_all body) marks runs bodies (rest ++ number ∷ []) → may_run (called_by f) body number ≡ true
waiting-runs f body marks runs bodies rest number is =
    let among : is_among number (rest ++ number ∷ []) ≡ true = is_among-right number rest (number ∷ []) (is_among-head number []) in
    (led_exact (uses_by (called_by f)) (uses_of_all body) number).1 (is.explores.reached number (is.explores.waits number among))

-- the body of one that waited is typed, and what it uses waits, where it had no mark
pub search-more : (f : FileData) (starts : List ℕ) (marks runs marks' runs' : List Bool) (bodies bodies' : List Statements) (rest waiting : List ℕ) (number : ℕ)
    → IsUnderWay f starts marks runs bodies (rest ++ number ∷ []) → GetMarks (used_by f number) marks marks' rest waiting → runs' ≡ set runs number true
    → bodies' ≡ set bodies number (body_if f (get_or (called_order f) number 0) (pou_at f (get_or (called_order f) number 0)))
    → IsUnderWay f starts marks' runs' bodies' waiting
search-more f starts marks runs marks' runs' bodies bodies' rest waiting number is got run typed =
    record {
      explores = explores-more g starts number marks marks' rest waiting is.explores (subst (λ (ns : List ℕ). GetMarks ns marks marks' rest waiting) (sym (body-uses f number low)) got);
      long = ap length run ∙ length-set runs number true ∙ is.long;
      typed = typed ∙ ap (λ (ss : List Statements). set ss number (body_if f (get_or order number 0) (pou_at f (get_or order number 0)))) is.typed
          ∙ one-body f (is_marked runs) (is_marked runs') 0 order number low (let zero-number : 0 + number ≡ number = omega arith in ap (is_marked runs') zero-number ∙ here)
          (λ k other. let same : 0 + k ≡ k = omega arith in ap (is_marked runs) same ∙ sym (elsewhere k other) ∙ sym (ap (is_marked runs') same));
      within = λ k h. ⊎_elim (λ (e : k ≡ number). kept k (subst (λ (n : ℕ). is_marked marks n ≡ true) (sym e) marked)) (λ other. kept k (is.within k (sym (elsewhere k other) ∙ h))) (cases_eq k number);
      behind = λ k h. ⊎_elim (λ (was : is_marked marks k ≡ true). older k was) (λ (new : is_marked marks k ≡ false). inr (got.waits k ∙ or_right (is_among k rest) _ (and_from (is_marked marks' k) (not (is_marked marks k)) h (ap not new)))) (cases_Bool (is_marked marks k));
    }
  where
    g : Graph
    g = uses_by (called_by f)

    order : List ℕ
    order = called_order f

    low : number < length (called_order f)
    low = waiting-low f starts marks runs bodies rest number is

    marked : is_marked marks number ≡ true
    marked = is.explores.waits number (is_among-right number rest (number ∷ []) (is_among-head number []))

    here : is_marked runs' number ≡ true
    here = let long = is.long in ap (λ (ms : List Bool). is_marked ms number) run ∙ get_or-set_same runs number true false (omega (arith, long, low))

    elsewhere : (k : ℕ) → (k ≡ number → ⊥) → is_marked runs' k ≡ is_marked runs k
    elsewhere k other = ap (λ (ms : List Bool). is_marked ms k) run ∙ get_or-set_other runs number k true false other

    kept : (k : ℕ) → is_marked marks k ≡ true → is_marked marks' k ≡ true
    kept k h = got.marks k ∙ or_left (is_marked marks k) _ h

    older : (k : ℕ) → is_marked marks k ≡ true → (is_marked runs' k ≡ true) ⊎ (is_among k waiting ≡ true)
    older k was =
        ⊎_elim (λ (e : k ≡ number). inl (ap (is_marked runs') e ∙ here))
        (λ other. ⊎_elim (λ (ran : is_marked runs k ≡ true). inl (elsewhere k other ∙ ran))
        (λ there. ⊎_elim (λ (early : is_among k rest ≡ true). inr (got.waits k ∙ or_left (is_among k rest) _ early)) (λ last. ⊎_elim (λ (e : k ≡ number). absurd (other e)) (λ none. absurd (let h : ⊥ = cc in h)) (is_among-cases k number [] last))
        (is_among-either k rest (number ∷ []) there))
        (is.behind k was))
        (cases_eq k number)

-- where nothing waits those run that may
pub search-ended : (f : FileData) (body : Statements) (marks runs : List Bool) (bodies : List Statements) → IsUnderWay f (uses_of_all body) marks runs bodies []
    → (k : ℕ) → k < length (called_order f) → is_marked runs k ≡ may_run (called_by f) body k
search-ended f body marks runs bodies is k low =
    let g = uses_by (called_by f) in
    let starts = uses_of_all body in
    let long = length-uses f in
    let both = explored g starts marks is.explores k (omega (arith, low, long)) in
    let led = led_exact g starts k in
    let ran : is_marked marks k ≡ true → is_marked runs k ≡ true =
    λ h. ⊎_elim (λ (r : is_marked runs k ≡ true). r) (λ none. absurd (let z : ⊥ = cc in z)) (is.behind k h) in
    same_test _ _ (λ h. led.1 (both.0 (is.within k h))) (λ h. ran (both.1 (led.0 h)))
