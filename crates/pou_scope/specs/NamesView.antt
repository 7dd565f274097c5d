-- What the names of a POU stand for: a file, and the POU's scope.
use Rattle.std.specs.Prelude.{◌≡◌, ◌-◌, ℕ, List, Option, map, option_map, option_and_then}
use Rattle.std.specs.HashMap.{get_by_text}
use Rattle.std.specs.List.{slice_get}
use Rattle.source_tree.specs.Syntax.{PouData, FileData}
use Rattle.source_tree.specs.SyntaxView.{file_view, pou_view}
use Rattle.pou_scope.specs.declared.pou_names.NamesOfPou.{NamesOfPou}
use Rattle.pou_scope.specs.declared.names.Names.{Names}
use Rattle.naming.specs.Seen.{Seen}
use Rattle.naming.specs.FileScope.{pou_at}
use Rattle.naming.specs.Scopes.{PouScope, scope_of, seen_named}
use Rattle.naming.specs.ScopeView.{variables_view, seen_view}

abbrev pub file_in : Names → FileData
file_in names = file_view names.file.now.types.names.file.now

abbrev pub scope_named : NamesOfPou → PouScope
scope_named n = record { has_fault = n.has_fault; variables = variables_view n.variables.items }

abbrev pub pou_in : Names → PouScope
pou_in names = scope_named names.own.now

abbrev pub pous_named : List NamesOfPou → List PouData
pous_named ns = map (λ n. pou_view n.pou.now) ns

abbrev pub scopes_named : List NamesOfPou → List PouScope
scopes_named ns = map scope_named ns

-- what is known of the variables of a POU
abbrev pub known_in : NamesOfPou → List Seen
known_in n = map seen_view n.variables.items

abbrev pub seens_named : List NamesOfPou → List (List Seen)
seens_named ns = map known_in ns

-- what is known of the variable of a name
abbrev pub seen_by : NamesOfPou → List ℕ → Option Seen
seen_by n text = option_and_then (λ s. option_map seen_view (slice_get n.variables.items (s.number - 1))) (get_by_text n.slots text)

-- of the names of each POU of a file the same is known as in the file
abbrev pub AreNamesOf : FileData → List NamesOfPou → Type 0
AreNamesOf f ns = (number : ℕ) → (text : List ℕ) → option_map (λ n. seen_by n text) (slice_get ns number) ≡ option_map (λ p. seen_named f (scope_of p) text) (pou_at f number)
