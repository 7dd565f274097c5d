-- Which fault a file leads to.
use Rattle.std.specs.Prelude.{◌≡◌, ◌⊎◌, ℕ, [], false}
use Rattle.rules.specs.declared.rule.Rule.TheVariants.{TooManyCells}
use Rattle.rules.specs.Rules.{IsAmong, IsFirst}
use Rattle.source_tree.specs.Syntax.{FileData}
use Rattle.rules.specs.declared.fault.Fault.{Fault}
use Rattle.rules.specs.declared.fault.Fault.TheVariants.{Refused, Memory}
use Rattle.typing.specs.Pous.{broken_types, has_room}

-- a file is refused by the first rule on types that it breaks, or, where it breaks none, by M2 at 0 where its PROGRAM, of this
-- number, has no room
abbrev pub IsFaultOf : FileData → ℕ → Fault → Type 0
IsFaultOf f number (Refused r) =
    IsFirst (λ x. IsAmong x (broken_types f)) r
    ⊎ ((broken_types f ≡ []) × (has_room f number ≡ false) × (r ≡ record { rule = TooManyCells; at = 0 }))
IsFaultOf f number Memory = Unit {0}
