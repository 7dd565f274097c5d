-- Which POUs are long, by sizes that no number of 64 bits passes.
use Rattle.std.proofs.Common.{◌≡◌, ℕ, Bool, ◌||◌, List, [], ◌∷◌, map, Some, refl, ap, ◌∙◌, arith}
use Rattle.std.specs.Prelude.{nat_lt}
use Rattle.std.specs.List.{list_any}
use Rattle.typing.specs.Places.{size_among}
use Rattle.pou_cells.specs.Placing.{capped}
use Rattle.pou_cells.proofs.SizeLemmas.{capped_size, capped_past}
use Rattle.st_types.specs.Outlines.{is_long}

long_capped : (s : List ℕ) (k : ℕ) → is_long (map capped s) k ≡ is_long s k
long_capped s k = ap (nat_lt 200001) (capped_size s (Some k)) ∙ capped_past 200001 (size_among s (Some k)) (omega arith)

pub any_long : (s ks : List ℕ) → list_any (is_long (map capped s)) ks ≡ list_any (is_long s) ks
any_long s [] = refl
any_long s (k ∷ ks) = ap (λ (x : Bool). x || list_any (is_long (map capped s)) ks) (long_capped s k) ∙ ap (λ (x : Bool). is_long s k || x) (any_long s ks)
