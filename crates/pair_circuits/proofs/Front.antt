-- Nodes put their words behind those that are there.
use Rattle.std.proofs.Common.{◌≡◌, ℕ, ◌≤◌, refl, sym, ◌∙◌, ap, List, [], ◌∷◌, ◌++◌, length, take, arith, length-append}
use Rattle.std.proofs.lemmas.List.{take-append-le, take_all, length-map}
use Rattle.std.specs.Prelude.{Vec}
use Rattle.std.specs.List.{take-map}
use Rattle.std.specs.declared.alloc.Global.{Global}
use Rattle.clause_core.specs.declared.literal.Lit.{Lit}
use Rattle.node_core.specs.declared.node.Node.{Node}
use Rattle.gates.specs.Netlists.{Netlist}
use Rattle.node_circuits.specs.NodeWords.{Words, words_view, node_of, words_of_nodes}

front_of_nodes : (xs : List Node) (words : Words) (n : Netlist) (k : ℕ) → k ≤ length words → take k (words_of_nodes xs words n).words ≡ take k words
front_of_nodes [] words n k h = refl
front_of_nodes (x ∷ xs) words n k h =
    let m = node_of words x n in
    front_of_nodes xs (words ++ m.word ∷ []) m.net k (omega (arith, length-append words (m.word ∷ []))) ∙ take-append-le k words (m.word ∷ []) h

-- the words that were there, behind nodes cut away
pub starts_back : (xs : List Node) (starts all : List (Vec Lit Global)) (n : Netlist) (k : ℕ) → k ≡ length starts → words_view all ≡ (words_of_nodes xs (words_view starts) n).words → words_view (take k all) ≡ words_view starts
starts_back xs starts all n k h e =
    let few : k ≡ length (words_view starts) = h ∙ sym (length-map starts (λ (w : Vec Lit Global). w.items)) in
    sym (take-map (λ (w : Vec Lit Global). w.items) k all) ∙ ap (take k) e ∙ front_of_nodes xs (words_view starts) n k (omega (arith, few)) ∙ take_all k (words_view starts) (omega (arith, few))
