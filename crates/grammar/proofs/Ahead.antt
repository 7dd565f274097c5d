-- The symbols from a place on.
use Rattle.std.proofs.Common.{◌≡◌, ℕ, ◌+◌, ◌<◌, ◌≤◌, List, [], ◌∷◌, length, get_or, drop, ap, add-one, drop-cons}
use Rattle.std.proofs.lemmas.List.{drop_all}
use Rattle.source_tree.specs.declared.token.Tok.{Tok}
use Rattle.source_tree.specs.SyntaxView as view
use Rattle.grammar.specs.Reading.{ahead}

pub ahead_first : (toks : List Tok) (at : ℕ) (d : Tok) → at < length toks → ahead toks at ≡ view.symbol (get_or toks at d) ∷ ahead toks (at + 1)
unfolding ahead
ahead_first toks at d lt =
    let cut : drop at toks ≡ get_or toks at d ∷ drop (at + 1) toks = rw add-one (drop-cons toks at d lt) in
    ap view.symbols cut

pub ahead_none : (toks : List Tok) (at : ℕ) → length toks ≤ at → ahead toks at ≡ []
unfolding ahead
ahead_none toks at le = ap view.symbols (drop_all at toks le)
