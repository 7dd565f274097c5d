-- What is asked of the names of a file, so that no two cells of its PROGRAM have one path.
use Rattle.std.specs.Prelude.{◌≡◌, ℕ, ◌==◌, List, [], true, false, Some}
use Rattle.std.specs.List.{AllByRecursion, list_any}
use Rattle.source_tree.specs.Syntax.{PouData, FileData}
use Rattle.naming.specs.Broken.{variables_twice}
use Rattle.naming.specs.FileScope.{pou_at, is_program}
use Rattle.naming.specs.Scopes.{variables_in_pou}
use Rattle.typing.specs.Places.{variables_at}

-- each name of a POU is declared once, and none of a PROGRAM is FAULT
abbrev pub AreNamedOnce : FileData → Type 0
AreNamedOnce f = (k : ℕ) (p : PouData) → pou_at f k ≡ Some p → (variables_twice (is_program p.pou_type) [] (variables_in_pou p)).whole ≡ true

-- a name without a point, as each name of a text is
abbrev pub HasNoPoint : List ℕ → Type 0
HasNoPoint text = list_any (λ c. c == 46) text ≡ false

abbrev pub HaveNoPoints : FileData → Type 0
HaveNoPoints f = (k : ℕ) → AllByRecursion (λ v. HasNoPoint v.name.text) (variables_at f k)
