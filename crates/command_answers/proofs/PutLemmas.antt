-- Bytes that were put one after another.
use Rattle.std.proofs.Common.{◌≡◌, ℕ, List, [], ◌++◌, take, drop, Option, Some, None, Result, Ok, Err, OnErr, refl, sym, ap, subst, append_assoc, append-nil}
use Rattle.std.proofs.lemmas.List.{take-append-drop}
use Rattle.outside.specs.declared.OutErr.{OutErr}
use Rattle.outside.specs.Contents.{extended, Adds}
use Rattle.command_answers.specs.Puts.{PutsPart}

pub extended-twice : (told : Option (List ℕ)) (a b : List ℕ) → extended (extended told a) b ≡ extended told (a ++ b)
extended-twice None a b = refl
extended-twice (Some bytes) a b = ap Some (append_assoc bytes a b)

pub extended-nothing : (told : Option (List ℕ)) → extended told [] ≡ told
extended-nothing None = refl
extended-nothing (Some bytes) = ap Some (append-nil bytes)

-- nothing was put of what was to come
pub nothing_put : (told : Option (List ℕ)) (text : List ℕ) → PutsPart told told text
nothing_put told text = record { kept = []; rest = text; whole = refl; put = sym (extended-nothing told) }

-- what an error of the sink leaves
pub adds_part : {T : Type 0} (result : Result T OutErr) (old new : Option (List ℕ)) (bytes text : List ℕ) → bytes ≡ text → Adds old new bytes result → OnErr result (PutsPart old new text)
adds_part (Ok v) old new bytes text same h = tt
adds_part (Err e) old new bytes text same h =
    let count = h.part.0 in
    subst (PutsPart old new) same (record { kept = take count bytes; rest = drop count bytes; whole = sym (take-append-drop count bytes); put = h.part.1 })
