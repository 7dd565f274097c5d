-- Clauses that stand one behind the other, when one is added.
use Rattle.std.proofs.Common.{◌≡◌, ℕ, ◌-◌, List, [], ◌∷◌, ◌++◌, length, take, drop, Result, Ok, Err, refl, sym, ◌∙◌, ap, arith}
use Rattle.std.specs.List.{All}
use Rattle.std.specs.Result.{OnErr, OnOk}
use Rattle.std.proofs.lemmas.List.{map_push, drop_at, drop-append-le, take-append-le, take_all, length-append, length-drop}
use Rattle.std.proofs.lemmas.List.Elements.{All-head, All-tail, All-push, All-weaker}
use Rattle.watched_propagation.specs.declared.arena.Span.{Span}
use Rattle.watched_propagation.specs.Arenas.{span_of, clauses_of, IsSpan}

pub on_err : {T E P : Type 0} (r : Result T E) → P → OnErr r P
on_err (Ok x) p = tt
on_err (Err e) p = p

pub on_ok : {T E P : Type 0} (r : Result T E) → P → OnOk r P
on_ok (Ok x) p = p
on_ok (Err e) p = tt

span-more : (codes more : List ℕ) (s : Span) → IsSpan (length codes) s → span_of (codes ++ more) s ≡ span_of codes s
span-more codes more s h =
    let a = h.ordered in
    let b = h.within in
    let size = length-drop s.start codes in
    ap (take (s.end - s.start)) (drop-append-le s.start codes more (omega arith)) ∙ take-append-le (s.end - s.start) (drop s.start codes) more (omega arith)

pub clauses-more : (codes more : List ℕ) (spans : List Span) → All (IsSpan (length codes)) spans → clauses_of (codes ++ more) spans ≡ clauses_of codes spans
clauses-more codes more [] h = refl
clauses-more codes more (s ∷ ss) h =
    ap (λ z. z ∷ clauses_of (codes ++ more) ss) (span-more codes more s (All-head (IsSpan (length codes)) s ss h))
    ∙ ap (λ z. span_of codes s ∷ z) (clauses-more codes more ss (All-tail (IsSpan (length codes)) s ss h))

pub spans-more : (codes more : List ℕ) (spans : List Span) → All (IsSpan (length codes)) spans → All (IsSpan (length (codes ++ more))) spans
spans-more codes more spans h =
    let size = length-append codes more in
    All-weaker (IsSpan (length codes)) (IsSpan (length (codes ++ more))) (λ s p. record { ordered = p.ordered; within = let b = p.within in omega arith }) spans h

pub spans-push : (codes c : List ℕ) (spans : List Span) (start end : ℕ) → start ≡ length codes → end ≡ length (codes ++ c) → All (IsSpan (length codes)) spans → All (IsSpan (length (codes ++ c))) (spans ++ (record { start = start; end = end }) ∷ [])
spans-push codes c spans start end first last h =
    let size = length-append codes c in
    All-push (IsSpan (length (codes ++ c))) spans (record { start = start; end = end }) (spans-more codes c spans h) (record { ordered = omega arith; within = omega arith })

span-new : (codes c : List ℕ) (start end : ℕ) → start ≡ length codes → end ≡ length (codes ++ c) → span_of (codes ++ c) (record { start = start; end = end }) ≡ c
span-new codes c start end first last =
    let size = length-append codes c in
    ap (take (end - start)) (drop_at codes c start (sym first)) ∙ take_all (end - start) c (omega arith)

pub clauses-push : (codes c : List ℕ) (spans : List Span) (start end : ℕ) → start ≡ length codes → end ≡ length (codes ++ c) → All (IsSpan (length codes)) spans → clauses_of (codes ++ c) (spans ++ (record { start = start; end = end }) ∷ []) ≡ clauses_of codes spans ++ c ∷ []
clauses-push codes c spans start end first last h =
    map_push (span_of (codes ++ c)) spans (record { start = start; end = end })
    ∙ ap (λ z. z ++ span_of (codes ++ c) (record { start = start; end = end }) ∷ []) (clauses-more codes c spans h)
    ∙ ap (λ z. clauses_of codes spans ++ z ∷ []) (span-new codes c start end first last)
