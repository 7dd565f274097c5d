-- When all that a body may use of a scope is whole and of a known type.
use Rattle.std.specs.Prelude.{◌≡◌, ℕ, List, Bool, true, false, not, ◌&&◌, Option, Some, None}
use Rattle.typing.specs.declared.scope.Meaning.{Meaning}
use Rattle.typing.specs.declared.scope.Port.{Port}
use Rattle.typing.specs.declared.scope.Signature.{Signature}
use Rattle.typing.specs.Typing.{Reference, Scope, is_unknown}
use Rattle.alike_scopes.specs.typed_scopes.Uses.{Usable}

-- a name stands for something, which is whole and of a known type
abbrev pub is_whole_meaning : Option Meaning → Bool
is_whole_meaning None = false
is_whole_meaning (Some m) = m.whole && not (is_unknown m.kind)

abbrev pub is_whole_port : Port → Bool
is_whole_port p = p.whole && not (is_unknown p.kind)

-- a FUNCTION is there, and its answer and its inputs are whole
pub record IsWholeFunction (scope : Scope) (text : List ℕ) : Type 0 where
  pub signature : Signature
  pub there : scope.signature text ≡ Some signature
  pub answer : is_whole_port signature.result ≡ true
  pub inputs : (place : ℕ) (p : Port) → scope.port signature.function place ≡ Some p → is_whole_port p ≡ true

pub record IsWholeScope (scope : Scope) (uses : Usable) : Type 0 where
  pub names : (r : Reference) → uses.names r ≡ true → is_whole_meaning (scope.means r) ≡ true
  pub functions : (text : List ℕ) → uses.functions text ≡ true → IsWholeFunction scope text
