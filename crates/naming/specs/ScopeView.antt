-- The data that variables and POUs stand for.
use Rattle.std.specs.Prelude.{List, map, Option, option_map}
use denote.Ref.{Bor}
use Rattle.source_tree.specs.Syntax.{TypeDeclarationData, PouData}
use Rattle.source_tree.specs.declared.syntax.TypeDeclaration.{TypeDeclaration}
use Rattle.source_tree.specs.declared.syntax.Pou.{Pou}
use Rattle.source_tree.specs.SyntaxView.{name_view, type_view, tree_view, type_declaration_view, pou_view}
use Rattle.naming.specs.declared.variable.Declared.{Declared}
use Rattle.naming.specs.Scopes.{Variable}
use Rattle.naming.specs.Seen.{Seen}

abbrev pub variable_view : Declared → Variable
variable_view d = record { name = name_view d.name.now; role = d.role; kind = option_map (λ t. type_view t.now) d.kind; initial = option_map (λ e. tree_view e.now) d.initial }

abbrev pub variables_view : List Declared → List Variable
variables_view ds = map variable_view ds

-- what is known of a declaration that was looked at
abbrev pub seen_view : Declared → Seen
seen_view d = record { whole = d.whole; role = d.role; block = d.block }

abbrev pub seen_if : Option (Bor Declared) → Option Seen
seen_if d = option_map (λ d. seen_view d.now) d

abbrev pub types_view : List (Bor TypeDeclaration) → List TypeDeclarationData
types_view ds = map (λ d. type_declaration_view d.now) ds

abbrev pub pous_view : List (Bor Pou) → List PouData
pous_view ps = map (λ p. pou_view p.now) ps
