use Rattle.std.proofs.Common.{◌≡◌}
use Rattle.std.proofs.lemmas.Result.{err_from_is_err_and}
use Rattle.clause_core.specs.declared.literal.Lit.{Lit}
use Rattle.gates.specs.Netlists.{Netlist, IsExtensionOf}
use Rattle.gates.specs.Rules.{xor_of}
use Rattle.gates.proofs.Growth.{extends_then, extends_xor, extends_mux}
use Rattle.word_circuits.specs.Sums.{full_adder_of}
use Rattle.word_circuits.proofs.Growth.{handed_on}
use Rattle.word_circuits.proofs.sums.full_adder.Goals as goal

-- what follows the first gate, and the second
after_first : (a b c : Lit) (n : Netlist) → IsExtensionOf (xor_of a b n).net (full_adder_of a b c n).net
unfolding full_adder_of
after_first a b c n = extends_then _ _ _ (extends_xor (xor_of a b n).lit c (xor_of a b n).net) (extends_mux _ c a _)

after_second : (a b c x : Lit) (n m : Netlist) → x ≡ (xor_of a b n).lit → m ≡ (xor_of a b n).net → IsExtensionOf (xor_of x c m).net (full_adder_of a b c n).net
unfolding full_adder_of
after_second a b c x n m e f = rw (e, f) (extends_mux _ c a _)

pub returns-in_err-x-clause-too_many : goal.returns-in_err-x-clause-too_many
returns-in_err-x-clause-too_many c =
    let p = err_from_is_err_and c.from_residual.result c.from_residual.ensures.1 in
    handed_on c.from_residual.result p.0 _ _ _ p.1 p.2 c.in_err-x.ensures.too_many (after_first c.args.a c.args.b c.args.c c.args.circuit.now)

pub returns-in_err-sum-clause-too_many : goal.returns-in_err-sum-clause-too_many
returns-in_err-sum-clause-too_many c =
    let p = err_from_is_err_and c.from_residual-in_err-sum.result c.from_residual-in_err-sum.ensures.1 in
    handed_on c.from_residual-in_err-sum.result p.0 _ _ _ p.1 p.2 c.in_err-sum.ensures.too_many (after_second c.args.a c.args.b c.args.c c.in_ok-x.x c.args.circuit.now c.xor.new.self c.in_ok-x.ensures.lit c.in_ok-x.ensures.net)
