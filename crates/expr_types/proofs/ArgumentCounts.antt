-- How many arguments a call has.
use Rattle.std.proofs.Common.{◌≡◌, ℕ, suc, length, map, arith, ◌+◌, List, [], ◌∷◌, refl, ap, ◌∙◌}
use Rattle.std.proofs.lemmas.List.{length-map}
use Rattle.source_tree.specs.declared.syntax.Argument.{Argument}
use Rattle.source_tree.specs.SyntaxView.{ArgumentData, argument_view, arguments_view, arguments_of}
use Rattle.typing.specs.Typing.{count_of}

count_of-list : (args : List ArgumentData) → count_of (arguments_of args) ≡ length args
count_of-list [] = refl
count_of-list (a ∷ args) = ap (λ n. n + 1) (count_of-list args) ∙ one_more (length args)
  where
    one_more : (n : ℕ) → n + 1 ≡ suc n
    one_more n = omega arith

-- how many arguments there are
pub count_of_arguments : (args : List Argument) → count_of (arguments_view args) ≡ length args
count_of_arguments args = count_of-list (map argument_view args) ∙ length-map args argument_view
