-- What the body of a POU may use where its names break no rule: the names and the FUNCTIONs that the rules on names let pass.
use Rattle.std.specs.Prelude.{Bool, true, false}
use Rattle.source_tree.specs.Syntax.{BodyData, FileData}
use Rattle.source_tree.specs.StatementItems.{every, folded_body}
use Rattle.naming.specs.declared.callee.Callee.{Callee}
use Rattle.naming.specs.declared.callee.Callee.TheVariants as callees
use Rattle.naming.specs.FileScope.{standing, is_value}
use Rattle.naming.specs.Scopes.{PouScope, seen_named}
use Rattle.naming.specs.Broken.{in_path, callee_of}
use Rattle.typing.specs.Typing.{Reference, by_path, by_value}
use Rattle.typed_scopes.specs.Uses.{Usable, IsItemWithin}

abbrev pub is_bound : FileData → PouScope → Reference → Bool
is_bound f p (by_path q) = (in_path f p (seen_named f p q.first.text) q).whole
is_bound f p (by_value n) = is_value (standing f n.text)

abbrev pub is_function_called : Callee → Bool
is_function_called callees.Standard = false
is_function_called (callees.Function number) = true
is_function_called callees.Unknown = false

abbrev pub bound_uses : FileData → PouScope → Usable
bound_uses f p = record { names = is_bound f p; functions = λ text. is_function_called (callee_of f text) }

-- a constant in a declaration names values alone, and calls nothing
abbrev pub is_value_named : FileData → Reference → Bool
is_value_named f (by_path q) = is_value (standing f q.first.text)
is_value_named f (by_value n) = is_value (standing f n.text)

abbrev pub value_uses : FileData → Usable
value_uses f = record { names = is_value_named f; functions = λ text. false }

-- a body uses nothing but what may be used
abbrev pub IsBodyWithin : Usable → BodyData → Type 0
IsBodyWithin uses b = folded_body (every (IsItemWithin uses)) b
