-- The names of clauses.
use Rattle.std.specs.Prelude.{ℕ, List, [], ◌∷◌, ◌++◌, codes, Bool, ◌||◌, Option, Some, None, if◌then◌else◌}
use Rattle.std.specs.Str.{bytes_eq}
use Rattle.rules.specs.declared.rule.Rule.TheVariants.{NoSide, UnknownName}
use Rattle.rules.specs.declared.rule.Refusal.{Refusal}
use Rattle.source_tree.specs.Syntax.{Named, PathData, Tree, literal, path, enumerator, paren, unary, chain, call, Links, no_links, link, Arguments, no_arguments, argument}
use Rattle.naming.specs.Library.{is_library}
use Rattle.typing.specs.declared.scope.Meaning.{Meaning}
use Rattle.typing.specs.Typing.{Scope, by_path}
use Rattle.relation_file.specs.Refusals.{breaks}

abbrev pub is_side : List ℕ → Bool
is_side text = bytes_eq text (codes "OLD") || bytes_eq text (codes "NEW")

abbrev pub no_side : ℕ → List Refusal
no_side at = breaks NoSide at

abbrev pub unknown_unless : ℕ → Option Meaning → List Refusal
unknown_unless at None = breaks UnknownName at
unknown_unless at (Some m) = []

-- A path has `old` or `new` before it (R3), and names a cell (N2, at the name behind).
abbrev pub broken_members : Scope → PathData → List Named → List Refusal
broken_members scope p [] = no_side p.first.at
broken_members scope p (n ∷ ns) = if is_side p.first.text then unknown_unless n.at (scope.means (by_path p)) else no_side p.first.at

abbrev pub broken_path : Scope → PathData → List Refusal
broken_path scope p = broken_members scope p p.members

-- a called name is that of a standard function (N2)
abbrev pub broken_called : Named → List Refusal
broken_called n = if is_library n.text then [] else breaks UnknownName n.at

-- standard functions have no argument names (N2)
abbrev pub broken_argument : Bool → Option Named → List Refusal
broken_argument known None = []
broken_argument known (Some n) = if known then breaks UnknownName n.at else []

-- all that the names of an expression break
abbrev mutual
  pub broken_names : Scope → Tree → List Refusal
  broken_names scope (literal l) = []
  broken_names scope (path p) = broken_path scope p
  broken_names scope (enumerator t v) = no_side t.at
  broken_names scope (paren at e) = broken_names scope e
  broken_names scope (unary o at e) = broken_names scope e
  broken_names scope (chain e ls) = broken_names scope e ++ broken_links scope ls
  broken_names scope (call n at args) = broken_called n ++ broken_arguments scope (is_library n.text) args

  pub broken_links : Scope → Links → List Refusal
  broken_links scope no_links = []
  broken_links scope (link o at e ls) = broken_names scope e ++ broken_links scope ls

  -- the arguments of a function that is known, or of a name that is not
  pub broken_arguments : Scope → Bool → Arguments → List Refusal
  broken_arguments scope known no_arguments = []
  broken_arguments scope known (argument n e args) = broken_argument known n ++ broken_names scope e ++ broken_arguments scope known args
