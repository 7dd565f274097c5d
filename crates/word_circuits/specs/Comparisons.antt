-- Comparisons of words.
use Rattle.std.specs.Prelude.{ℕ, Bool, true, false, List, [], ◌∷◌, length, ℤ}
use Rattle.clause_core.specs.declared.literal.Lit.{Lit}
use Rattle.clause_core.specs.Values.{negation}
use Rattle.gates.specs.Literals.{true_lit, false_lit}
use Rattle.gates.specs.Netlists.{Netlist, Made}
use Rattle.gates.specs.Rules.{and_of, or_of, xor_of}
use Rattle.word_circuits.specs.declared.comparisons.Comparison.{Comparison}
use Rattle.word_circuits.specs.declared.comparisons.Comparison.TheVariants.{Equal, NotEqual, Less, Greater, LessOrEqual, GreaterOrEqual}
use Rattle.word_circuits.specs.Words.{zeros, constant_of}
use Rattle.word_circuits.specs.Sums.{sub_of}

-- so far the same, and this bit too
unfoldable pub same_step_of : Lit → Lit → Lit → Netlist → Made
same_step_of r a b n =
    let x = xor_of a b n in
    and_of r (negation x.lit) x.net

abbrev pub eq_from : Lit → List Lit → List Lit → Netlist → Made
eq_from r [] bs n = record { lit = r; net = n }
eq_from r (a ∷ as') [] n = record { lit = r; net = n }
eq_from r (a ∷ as') (b ∷ bs) n =
    let k = same_step_of r a b n in
    eq_from k.lit as' bs k.net

abbrev pub eq_of : List Lit → List Lit → Netlist → Made
eq_of a b n = eq_from true_lit a b n

abbrev pub is_zero_of : List Lit → Netlist → Made
is_zero_of b n = eq_of b (zeros (length b)) n

-- the word with its top literal negated
abbrev pub flip_top : List Lit → List Lit
flip_top [] = []
flip_top (l ∷ []) = negation l ∷ []
flip_top (l ∷ m ∷ ls) = l ∷ flip_top (m ∷ ls)

-- the word whose unsigned order is the word's order: a signed one with its top literal negated
abbrev pub biased : Bool → List Lit → List Lit
biased true a = flip_top a
biased false a = a

-- a < b: something is borrowed
abbrev pub lt_of : Bool → List Lit → List Lit → Netlist → Made
lt_of signed a b n =
    let d = sub_of (biased signed a) (biased signed b) n in
    record { lit = negation d.carry; net = d.net }

-- the negative of what was made
abbrev pub negative_of : Made → Made
negative_of m = record { lit = negation m.lit; net = m.net }

-- the six comparisons by two
abbrev pub comparison_of : Comparison → Bool → List Lit → List Lit → Netlist → Made
comparison_of Equal signed a b n = eq_of a b n
comparison_of NotEqual signed a b n = negative_of (eq_of a b n)
comparison_of Less signed a b n = lt_of signed a b n
comparison_of Greater signed a b n = lt_of signed b a n
comparison_of LessOrEqual signed a b n = negative_of (lt_of signed b a n)
comparison_of GreaterOrEqual signed a b n = negative_of (lt_of signed a b n)

-- the word lies below the first constant or above the second
unfoldable pub outside_of : Bool → List Lit → ℤ → ℤ → Netlist → Made
outside_of signed v low high n =
    let below = lt_of signed v (constant_of (length v) low) n in
    let above = lt_of signed (constant_of (length v) high) v below.net in
    or_of below.lit above.lit above.net
