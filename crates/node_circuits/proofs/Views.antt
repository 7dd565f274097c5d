-- The words that vectors hold, by their numbers.
use Rattle.std.proofs.Common.{◌≡◌, ℕ, ◌<◌, ◌≤◌, refl, ◌∙◌, ap, List, [], length, get_or}
use Rattle.std.specs.Prelude.{Option, unwrap_or, Vec}
use Rattle.std.specs.Option.{option_map}
use Rattle.std.specs.declared.alloc.Global.{Global}
use Rattle.std.proofs.lemmas.Option.{slice_get-map, slice_get_read, slice_get_past}
use Rattle.clause_core.specs.declared.literal.Lit.{Lit}
use Rattle.node_circuits.specs.NodeWords.{words_view, word_in}

pub word_in-view : (ws : List (Vec Lit Global)) (i : ℕ) (w : Vec Lit Global) → i < length ws → w ≡ get_or ws i w → word_in (words_view ws) i ≡ w.items
word_in-view ws i w h e =
    ap (λ (o : Option (List Lit)). unwrap_or o [])
    (slice_get-map (λ (x : Vec Lit Global). x.items) ws i ∙ ap (option_map (λ (x : Vec Lit Global). x.items)) (slice_get_read ws (length ws) i w refl h e))

pub word_in-past : (ws : List (Vec Lit Global)) (i : ℕ) → length ws ≤ i → word_in (words_view ws) i ≡ []
word_in-past ws i h =
    ap (λ (o : Option (List Lit)). unwrap_or o [])
    (slice_get-map (λ (x : Vec Lit Global). x.items) ws i ∙ ap (option_map (λ (x : Vec Lit Global). x.items)) (slice_get_past ws i h))
