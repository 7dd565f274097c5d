-- What a create and an append leave of a file.
use Rattle.std.proofs.Common.{◌≡◌, ◌⊎◌, inl, inr, ◌∙◌, ℕ, List, [], ◌++◌, take, drop, Option, Some, None, IfSome, Result, Ok, Err, OnOk, OnErr, refl, sym, ap, append-nil}
use Rattle.std.proofs.lemmas.List.{take-append-drop}
use Rattle.outside.specs.declared.OutErr.{OutErr}
use Rattle.outside.specs.Contents.{extended, emptied, Empties, Adds}
use Rattle.generated_texts.specs.Files.{HoldsText, LeavesText, as_before, a_front}

-- a file that was made has no byte, where it is told
empty_front : (before after : Option (List ℕ)) (text : List ℕ) → after ≡ emptied before → LeavesText before after text
empty_front None after text e = rw e (a_front tt)
empty_front (Some bytes) after text e = rw e (a_front (text, refl))

-- a create that failed
pub left_by_create : (before after : Option (List ℕ)) (text : List ℕ) → (after ≡ before) ⊎ (after ≡ emptied before) → LeavesText before after text
left_by_create before after text (inl e) = as_before e
left_by_create before after text (inr e) = empty_front before after text e

-- a text behind nothing
pub held_by_append : (before made after : Option (List ℕ)) (text : List ℕ) → made ≡ emptied before → after ≡ extended made text → HoldsText after text
held_by_append None made after text e f = rw (f, e) tt
held_by_append (Some bytes) made after text e f = rw (f, e) refl

-- a front of it
pub left_by_append : (before made after : Option (List ℕ)) (text : List ℕ) (count : ℕ) → made ≡ emptied before → after ≡ extended made (take count text) → LeavesText before after text
left_by_append None made after text count e f = rw (f, e) (a_front tt)
left_by_append (Some bytes) made after text count e f = rw (f, e) (a_front (drop count text, sym (take-append-drop count text)))

held_is_front : (after : Option (List ℕ)) (text : List ℕ) → HoldsText after text → IfSome after (λ bytes. (rest : List ℕ) × (text ≡ bytes ++ rest))
held_is_front None text h = tt
held_is_front (Some bytes) text h = ([], rw h (sym (append-nil text)))

-- what holds a text is left so
pub left_held : (before after : Option (List ℕ)) (text : List ℕ) → HoldsText after text → LeavesText before after text
left_held before after text h = a_front (held_is_front after text h)

-- an append, behind a create that did not fail
pub left_by_both : {T : Type 0} (result : Result T OutErr) (before made after : Option (List ℕ)) (text : List ℕ) → made ≡ emptied before → Adds made after text result → LeavesText before after text
left_by_both (Ok v) before made after text e h = left_held before after text (held_by_append before made after text e h.all)
left_by_both (Err v) before made after text e h = left_by_append before made after text h.part.0 e h.part.1
