-- Choices between words: MUX and SEL, MIN, MAX and ABS.
use Rattle.std.specs.Prelude.{ℕ, Bool, true, false, List, [], ◌∷◌}
use Rattle.clause_core.specs.declared.literal.Lit.{Lit}
use Rattle.gates.specs.Netlists.{Netlist}
use Rattle.gates.specs.Rules.{mux_of}
use Rattle.word_circuits.specs.Words.{MadeWord, ready, top_of}
use Rattle.word_circuits.specs.Sums.{neg_of}
use Rattle.word_circuits.specs.Comparisons.{lt_of}

-- c ? a : b, bit by bit
abbrev pub choose_of : Lit → List Lit → List Lit → Netlist → MadeWord
choose_of c [] bs n = ready [] n
choose_of c (a ∷ as') [] n = ready [] n
choose_of c (a ∷ as') (b ∷ bs) n =
    let x = mux_of c a b n in
    let r = choose_of c as' bs x.net in
    record { word = x.lit ∷ r.word; net = r.net }

-- SEL: its second input where g is true, else its first
abbrev pub sel_of : Lit → List Lit → List Lit → Netlist → MadeWord
sel_of g a b n = choose_of g b a n

-- MIN: the second where it is less than the first
abbrev pub min_of : Bool → List Lit → List Lit → Netlist → MadeWord
min_of signed a b n =
    let less = lt_of signed b a n in
    choose_of less.lit b a less.net

-- MAX: the second where the first is less
abbrev pub max_of : Bool → List Lit → List Lit → Netlist → MadeWord
max_of signed a b n =
    let less = lt_of signed a b n in
    choose_of less.lit b a less.net

-- a word negated where the literal is true
abbrev pub negated_where : Lit → List Lit → Netlist → MadeWord
negated_where c a n =
    let g = neg_of a n in
    choose_of c g.word a g.net

-- ABS: a signed word negated where its top bit is set; an unsigned one as it is
abbrev pub abs_of : Bool → List Lit → Netlist → MadeWord
abs_of true a n = negated_where (top_of a) a n
abs_of false a n = ready a n
