-- What an item of statements owes.
use Rattle.std.specs.Prelude.{List, All}
use Rattle.plc_types.specs.declared.elementary.Elementary.TheVariants as types
use Rattle.program_tree.specs.declared.typed.Turns.{Turns}
use Rattle.program_tree.specs.Tree.{assign, call_block, repeat, no_statements}
use Rattle.program_tree.specs.StatementItems.{StatementItem, assignment, invocation, condition, selector, labels, iteration, steps, associated, transition, enclosed}
use Rattle.typed_programs.specs.Scopes.{Pous, BodyScope}
use Rattle.typed_programs.specs.Expressions.{IsOf}
use Rattle.typed_programs.specs.Statements.{IsLabelOf, IsTyped}

-- a chart stands in no other statement
abbrev pub IsTypedItem : Pous → BodyScope → List Turns → StatementItem → Type 0
IsTypedItem pous b around (assignment target e) = IsTyped pous b (assign target e)
IsTypedItem pous b around (invocation block offset) = IsTyped pous b (call_block block offset)
IsTypedItem pous b around (condition e) = IsOf pous b types.Bool e
IsTypedItem pous b around (selector kind e) = IsOf pous b kind e
IsTypedItem pous b around (labels kind ls) = All (IsLabelOf kind) ls
IsTypedItem pous b around (iteration turns) = IsTyped pous b (repeat turns no_statements)
IsTypedItem pous b around (steps cells) = ⊥
IsTypedItem pous b around (associated latch associations) = ⊥
IsTypedItem pous b around (transition t) = ⊥
IsTypedItem pous b around (enclosed ss) = Unit {0}
