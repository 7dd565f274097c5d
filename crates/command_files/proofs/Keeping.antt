-- What is told of a file is what is kept of it.
use Rattle.std.proofs.Common.{◌≡◌, ◌≤◌, ◌+◌, ◌++◌, ℕ, List, length, take, drop, Some, None, Option, IfSome, Vec, ap, sym, subst, ◌∙◌}
use Rattle.std.proofs.lemmas.List.{length-append, length-take-le, take-append-le}
use Rattle.std.proofs.Math.Seq.{take-add}
use Rattle.std.specs.declared.alloc.Global.{Global}
use Rattle.outside.specs.Contents.{IsRead}
use Rattle.command_files.specs.Kept.{IsKept}

pub kept_of : (file : Option (List ℕ)) (bytes : List ℕ) (o : Option (Vec ℕ Global)) → file ≡ Some bytes → IfSome file (λ b. IsKept o b) → IsKept o bytes
kept_of file bytes o e h = let P : Option (List ℕ) → Type 0 = λ f. IfSome f (λ b. IsKept o b) in subst P e h

-- a text and the bytes that are read next, into a part of a buffer, are again a front of the file
pub read_on : (file : Option (List ℕ)) (text part rest new : List ℕ) (from count : ℕ) → from ≡ length text → count ≤ length part → new ≡ text ++ take count (part ++ rest)
    → IfSome file (λ bytes. text ≡ take (length text) bytes) → IfSome file (λ bytes. IsRead bytes from part count) → IfSome file (λ bytes. new ≡ take (length new) bytes)
read_on None text part rest new from count at fits is kept read = tt
read_on (Some bytes) text part rest new from count at fits is kept read =
    let in_part : take count (part ++ rest) ≡ take count part = take-append-le count part rest fits in
    let long : length new ≡ length text + count =
    ap length is ∙ (length-append text (take count (part ++ rest)) ∙ ap (λ n. length text + n) (ap length in_part ∙ length-take-le count part fits)) in
    is ∙ (ap (λ more. text ++ more) (in_part ∙ (read.front ∙ ap (λ n. take count (drop n bytes)) at))
    ∙ (ap (λ front. front ++ take count (drop (length text) bytes)) kept ∙ (sym (take-add (length text) count bytes) ∙ ap (λ n. take n bytes) (sym long))))
