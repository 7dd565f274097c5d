-- Arguments that the code holds, beside arguments that are read.
use Rattle.std.proofs.Common.{◌≡◌, ℕ, List, [], ◌∷◌, ◌++◌, map, refl, ap, ◌∙◌, Option, option_map}
use Rattle.std.specs.Prelude.{Vec}
use Rattle.std.specs.declared.alloc.Global.{Global}
use Rattle.std.proofs.lemmas.List.{map_push}
use Rattle.source_tree.specs.Syntax.{call, argument}
use Rattle.source_tree.specs.declared.syntax.Name.{Name}
use Rattle.source_tree.specs.declared.syntax.Expr.{Expr, the_lemmas}
use Rattle.source_tree.specs.declared.syntax.Expr.TheVariants.{Call}
use Rattle.source_tree.specs.declared.syntax.Argument.{Argument, the_lemmas as argument_lemmas}
use Rattle.source_tree.specs.SyntaxView.{ArgumentData, arguments_of, argument_view, arguments_view, name_view, tree_view}
use Rattle.grammar.specs.Expressions.{add_argument}

arguments_of-push : (args : List ArgumentData) (a : ArgumentData) → arguments_of (args ++ a ∷ []) ≡ add_argument (arguments_of args) a.0 a.1
arguments_of-push [] a = refl
arguments_of-push (x ∷ args) a = ap (argument x.0 x.1) (arguments_of-push args a)

argument_seen : (name : Option Name) (value : Expr) → argument_view (record { name = name; value = value }) ≡ (option_map name_view name, tree_view value)
argument_seen name value = simp argument_lemmas

pub arguments-push : (args : List Argument) (name : Option Name) (value : Expr) → arguments_view (args ++ record { name = name; value = value } ∷ []) ≡ add_argument (arguments_view args) (option_map name_view name) (tree_view value)
arguments-push args name value =
    let a : Argument = record { name = name; value = value } in
    ap arguments_of (map_push argument_view args a) ∙ arguments_of-push (map argument_view args) (argument_view a) ∙ ap (λ (x : ArgumentData). add_argument (arguments_view args) x.0 x.1) (argument_seen name value)

pub tree_call : (name : Name) (at : ℕ) (args : Vec Argument Global) → tree_view (Call name at args) ≡ call (name_view name) at (arguments_view args.items)
tree_call name at args = simp the_lemmas
