-- A finding is read from its first byte on.
use Rattle.std.proofs.Common.{◌≡◌, ℕ, List, Option, Some, None, IfSome, refl, sym, subst}
use Rattle.finding_file.specs.Reading.{Reading, reading_at_start, Agrees}

-- a reader that has read nothing agrees with any file
pub agrees_at_start : (file : Option (List ℕ)) (r : Reading) (name : List ℕ) (limit : ℕ) → r ≡ reading_at_start name limit → IfSome file (Agrees r)
agrees_at_start None r name limit e = tt
agrees_at_start (Some bytes) r name limit e = subst (λ x. Agrees x bytes) (sym e) (bytes, refl)
