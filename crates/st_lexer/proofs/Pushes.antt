-- One more token.
use Rattle.std.proofs.Common.{◌≡◌, ℕ, ◌+◌, ◌<◌, ◌≤◌, List, [], ◌∷◌, ◌++◌, All, sym, subst, arith}
use Rattle.std.proofs.lemmas.List.Elements.{All-same, All-push}
use Rattle.source_tree.specs.declared.token.Tok.{Tok}
use Rattle.source_tree.specs.Terminals.{IsClassified}
use Rattle.source_tree.specs.Places.{ArePlaced}

pub classified_push : (tokens tokens' : List Tok) (t : Tok) → tokens' ≡ tokens ++ t ∷ [] → IsClassified t → All IsClassified tokens → All IsClassified tokens'
classified_push tokens tokens' t e k h = All-same IsClassified tokens' (tokens ++ t ∷ []) e (All-push IsClassified tokens t h k)

-- an end may lie behind
pub placed_on : (from end end' : ℕ) (tokens : List Tok) → end ≤ end' → ArePlaced from end tokens → ArePlaced from end' tokens
placed_on from end end' [] l h = tt
placed_on from end end' (t ∷ ts) l h = (h.0, omega arith, placed_on (t.at + 1) end end' ts l h.2)

placed_more : (from end : ℕ) (tokens : List Tok) (t : Tok) → from ≤ t.at → t.at < end → ArePlaced from t.at tokens → ArePlaced from end (tokens ++ t ∷ [])
placed_more from end [] t l k h = (l, k, tt)
placed_more from end (s ∷ ss) t l k h = (h.0, omega arith, placed_more (s.at + 1) end ss t (omega arith) k h.2)

pub placed_push : (end : ℕ) (tokens tokens' : List Tok) (t : Tok) → tokens' ≡ tokens ++ t ∷ [] → t.at < end → ArePlaced 0 t.at tokens → ArePlaced 0 end tokens'
placed_push end tokens tokens' t e k h = subst (ArePlaced 0 end) (sym e) (placed_more 0 end tokens t (omega arith) k h)
