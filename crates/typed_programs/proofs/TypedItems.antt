-- Statements are typed where each of their items is; and they are then a body, also where a RETURN makes them a body of their own.
use Rattle.std.proofs.Common.{List, [], ◌∷◌, Bool, true, false, if◌then◌else◌}
use Rattle.plc_types.specs.declared.elementary.Elementary.{Elementary}
use Rattle.program_tree.specs.declared.typed.Turns.{Turns}
use Rattle.program_tree.specs.Tree.{Statement, assign, call_block, choice, cases, repeat, chart, exit, return, own_body, Statements, no_statements, statement, Choices, no_choices, choose, Entries, no_entries, entry}
use Rattle.program_tree.specs.Leaving.{can_return_all, in_own_body}
use Rattle.program_tree.specs.StatementItems.{every, folded, folded_all, folded_choices, folded_entries}
use Rattle.typed_programs.specs.Scopes.{Pous, BodyScope}
use Rattle.typed_programs.specs.Statements.{IsTyped, AreTyped, AreTypedChoices, AreTypedEntries, IsTypedPart, AreTypedParts}
use Rattle.typed_programs.specs.TypedItems.{IsTypedItem}

module _ (pous : Pous) (b : BodyScope) where
  mutual
    typed_statement : (around : List Turns) (t : Statement) → folded (every (IsTypedItem pous b)) around t → IsTyped pous b t
    typed_statement around (assign target e) h = h
    typed_statement around (call_block block offset) h = h
    typed_statement around (choice arms other) h = (typed_choices around arms h.0, typed_statements around other h.1)
    typed_statement around (cases kind e es other) h = (h.0, typed_entries around kind es h.1.0, typed_statements around other h.1.1)
    typed_statement around (repeat turns body) h = (h.0.0, h.0.1, typed_statements (turns ∷ around) body h.1)
    typed_statement around (chart _ _ _) h = absurd h.0
    typed_statement around exit h = tt
    typed_statement around return h = tt
    typed_statement around (own_body ss) h = typed_statements around ss h.1

    pub typed_statements : (around : List Turns) (ts : Statements) → folded_all (every (IsTypedItem pous b)) around ts → AreTyped pous b ts
    typed_statements around no_statements h = tt
    typed_statements around (statement t ts) h = (typed_statement around t h.0, typed_statements around ts h.1)

    typed_choices : (around : List Turns) (arms : Choices) → folded_choices (every (IsTypedItem pous b)) around arms → AreTypedChoices pous b arms
    typed_choices around no_choices h = tt
    typed_choices around (choose e ss arms) h = (h.0, typed_statements around ss h.1.0, typed_choices around arms h.1.1)

    typed_entries : (around : List Turns) (kind : Elementary) (es : Entries) → folded_entries (every (IsTypedItem pous b)) around kind es → AreTypedEntries pous b kind es
    typed_entries around kind no_entries h = tt
    typed_entries around kind (entry ls ss es) h = (h.0, typed_statements around ss h.1.0, typed_entries around kind es h.1.1)

  typed_part : (t : Statement) → IsTyped pous b t → IsTypedPart pous b t
  typed_part (assign target e) h = h
  typed_part (call_block block offset) h = h
  typed_part (choice arms other) h = h
  typed_part (cases kind e es other) h = h
  typed_part (repeat turns body) h = h
  typed_part (chart _ _ _) h = absurd h
  typed_part exit h = tt
  typed_part return h = tt
  typed_part (own_body ss) h = h

  pub typed_parts : (ts : Statements) → AreTyped pous b ts → AreTypedParts pous b ts
  typed_parts no_statements h = tt
  typed_parts (statement t ts) h = (typed_part t h.0, typed_parts ts h.1)

  in_own_body_by : (returns : Bool) (ts : Statements) → AreTyped pous b ts → AreTyped pous b (if returns then statement (own_body ts) no_statements else ts)
  in_own_body_by true ts h = (h, tt)
  in_own_body_by false ts h = h

  pub typed_in_own_body : (ts : Statements) → AreTyped pous b ts → AreTyped pous b (in_own_body ts)
  typed_in_own_body ts h = in_own_body_by (can_return_all ts) ts h
