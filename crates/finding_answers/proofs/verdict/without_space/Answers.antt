use Rattle.std.proofs.Common.{◌≡◌, ◌∷◌, ℕ, List, arith}
use Rattle.std.proofs.lemmas.Str.Pattern.{strip_prefix_char}
use Rattle.finding_answers.proofs.verdict.without_space.Goals as goal

pub returns-in-None : goal.returns-in-None
returns-in-None c =
    let none = strip_prefix_char 32 c.args.text.now c.strip_prefix.result c.strip_prefix.ensures.cases (omega arith) in
    let no : (rest : List ℕ) → c.args.text.now ≡ 32 ∷ rest → ⊥ = rw c.in-None.is at none in
    absurd (no c.requires.0 c.requires.1)
