-- Lists of typed statements, wherever they stand.
use Rattle.std.proofs.Common.{List, [], ◌∷◌, ◌++◌}
use Rattle.program_tree.specs.declared.typed.Turns.{Turns}
use Rattle.program_tree.specs.Tree.{Statement, Statements}
use Rattle.program_tree.specs.StatementItems.{every, folded, folded_all}
use Rattle.typing.specs.TypedStatements.{and_then}
use Rattle.typed_programs.specs.Scopes.{Pous, BodyScope}
use Rattle.typed_programs.specs.TypedItems.{IsTypedItem}

module _ (pous : Pous) (b : BodyScope) where
  abbrev pub AllTyped : List Statement → Type 0
  AllTyped [] = Unit {0}
  AllTyped (s ∷ ss) = ((around : List Turns) → folded (every (IsTypedItem pous b)) around s) × AllTyped ss

  pub typed-append : (ss ts : List Statement) → AllTyped ss → AllTyped ts → AllTyped (ss ++ ts)
  typed-append [] ts h k = k
  typed-append (s ∷ ss) ts h k = (h.0, typed-append ss ts h.1 k)

  pub typed-before : (around : List Turns) (ss : List Statement) (behind : Statements) → AllTyped ss → folded_all (every (IsTypedItem pous b)) around behind
      → folded_all (every (IsTypedItem pous b)) around (and_then ss behind)
  typed-before around [] behind h k = k
  typed-before around (s ∷ ss) behind h k = (h.0 around, typed-before around ss behind h.1 k)
