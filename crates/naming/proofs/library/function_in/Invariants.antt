use Rattle.std.proofs.Common.{◌≡◌, drop, map}
use Rattle.naming.specs.Library.{function_in}
use Rattle.naming.proofs.library.function_in.Given as goal

abbrev pub invariant-loop-name : goal.invariant-loop-name
invariant-loop-name l = function_in (map (λ e. (e.0.now, e.1)) (drop l.name-index l.functions)) l.text ≡ function_in (map (λ e. (e.0.now, e.1)) l.functions) l.text
