-- AND, OR, XOR and MUX, and one operation after another.
use Rattle.std.proofs.Common.{List}
use Rattle.clause_core.specs.declared.literal.Lit.{Lit}
use Rattle.gates.specs.Netlists.{Netlist, Made, IsExtensionOf}
use Rattle.gates.specs.Order.{IsOrdered, IsLiteralOf}
use Rattle.gates.specs.Rules.{and_of, or_of, xor_of, mux_of}
use Rattle.gates.proofs.Growth.{extends_self, extends_then, extends_and, extends_or, extends_xor, extends_mux}
use Rattle.gates.proofs.Ordered.{ordered_and, ordered_or, ordered_xor, ordered_mux}
use Rattle.word_circuits.specs.Words.{MadeWord}
use Rattle.word_circuits.specs.Sums.{MadeSum}
use Rattle.word_circuits.specs.Comparisons.{negative_of}
use Rattle.word_orders.specs.Orders.{IsWordOf, MakesLiteral, MakesWord, MakesSum}
use Rattle.word_orders.proofs.Literals.{IsLiteralOf-negation}

pub makes_and : (a b : Lit) (n : Netlist) → IsOrdered n → IsLiteralOf n a → IsLiteralOf n b → MakesLiteral n (and_of a b n)
makes_and a b n h ha hb =
    let after = ordered_and a b n h ha hb in
    record { extends = extends_and a b n; ordered = after.ordered; literal = after.literal }

pub makes_or : (a b : Lit) (n : Netlist) → IsOrdered n → IsLiteralOf n a → IsLiteralOf n b → MakesLiteral n (or_of a b n)
makes_or a b n h ha hb =
    let after = ordered_or a b n h ha hb in
    record { extends = extends_or a b n; ordered = after.ordered; literal = after.literal }

pub makes_xor : (a b : Lit) (n : Netlist) → IsOrdered n → IsLiteralOf n a → IsLiteralOf n b → MakesLiteral n (xor_of a b n)
makes_xor a b n h ha hb =
    let after = ordered_xor a b n h ha hb in
    record { extends = extends_xor a b n; ordered = after.ordered; literal = after.literal }

pub makes_mux : (c a b : Lit) (n : Netlist) → IsOrdered n → IsLiteralOf n c → IsLiteralOf n a → IsLiteralOf n b → MakesLiteral n (mux_of c a b n)
makes_mux c a b n h hc ha hb =
    let after = ordered_mux c a b n h hc ha hb in
    record { extends = extends_mux c a b n; ordered = after.ordered; literal = after.literal }

pub MakesLiteral-then : (n m : Netlist) (made : Made) → IsExtensionOf n m → MakesLiteral m made → MakesLiteral n made
MakesLiteral-then n m made e h = record { extends = extends_then n m made.net e h.extends; ordered = h.ordered; literal = h.literal }

pub MakesWord-then : (n m : Netlist) (made : MadeWord) → IsExtensionOf n m → MakesWord m made → MakesWord n made
MakesWord-then n m made e h = record { extends = extends_then n m made.net e h.extends; ordered = h.ordered; word = h.word }

pub MakesSum-then : (n m : Netlist) (made : MadeSum) → IsExtensionOf n m → MakesSum m made → MakesSum n made
MakesSum-then n m made e h = record { extends = extends_then n m made.net e h.extends; ordered = h.ordered; word = h.word; carry = h.carry }

-- nothing was made
pub makes_ready : (l : Lit) (n : Netlist) → IsOrdered n → IsLiteralOf n l → MakesLiteral n (record { lit = l; net = n })
makes_ready l n h k = record { extends = extends_self n; ordered = h; literal = k }

pub makes_ready_word : (w : List Lit) (n : Netlist) → IsOrdered n → IsWordOf n w → MakesWord n (record { word = w; net = n })
makes_ready_word w n h k = record { extends = extends_self n; ordered = h; word = k }

pub makes_negative : (n : Netlist) (made : Made) → MakesLiteral n made → MakesLiteral n (negative_of made)
makes_negative n made h = record { extends = h.extends; ordered = h.ordered; literal = IsLiteralOf-negation made.net made.lit h.literal }
