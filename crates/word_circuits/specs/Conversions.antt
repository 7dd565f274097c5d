-- Conversions between widths, and to BOOL.
use Rattle.std.specs.Prelude.{ℕ, ◌-◌, min, Bool, true, false, List, [], ◌∷◌, ◌++◌, length, take, replicate}
use Rattle.clause_core.specs.declared.literal.Lit.{Lit}
use Rattle.gates.specs.Literals.{false_lit}
use Rattle.gates.specs.Netlists.{Netlist, Made}
use Rattle.gates.specs.Rules.{or_of}
use Rattle.word_circuits.specs.Words.{top_of}

-- what a source is extended by: the sign of a signed one, else FALSE
abbrev pub filler : Bool → List Lit → Lit
filler true a = top_of a
filler false a = false_lit

-- the lowest bits that are kept, and as many of the others as the width lacks
abbrev pub kept_below : ℕ → ℕ → Lit → List Lit → List Lit
kept_below kept width fill a = take kept a ++ replicate (width - kept) fill

-- cut, or extended
abbrev pub resized : Bool → ℕ → List Lit → List Lit
resized signed width a = kept_below (min width (length a)) width (filler signed a) a

-- the OR of all bits
abbrev pub any_from : Lit → List Lit → Netlist → Made
any_from r [] n = record { lit = r; net = n }
any_from r (a ∷ as') n =
    let x = or_of r a n in
    any_from x.lit as' x.net

abbrev pub any_of : List Lit → Netlist → Made
any_of a n = any_from false_lit a n
