-- Numbers shown one after another.
use Rattle.std.proofs.Common.{◌≡◌, ℤ, ℕ, List, ◌++◌, ap, ◌∙◌, append_assoc}
use Rattle.finding_lines.specs.Spelling.{spaced}

pub three-shown : (text old first second third : List ℕ) (a b c k m n : ℤ) → k ≡ a → m ≡ b → n ≡ c → text ≡ old ++ (first ++ spaced k)
    → text ++ (second ++ (spaced m ++ (third ++ spaced n))) ≡ old ++ (first ++ (spaced a ++ (second ++ (spaced b ++ (third ++ spaced c)))))
three-shown text old first second third a b c k m n one two three whole =
    ap (λ t. t ++ (second ++ (spaced m ++ (third ++ spaced n)))) whole
    ∙ append_assoc old (first ++ spaced k) (second ++ (spaced m ++ (third ++ spaced n)))
    ∙ ap (λ r. old ++ r) (append_assoc first (spaced k) (second ++ (spaced m ++ (third ++ spaced n)))
    ∙ ap (λ z. first ++ (spaced z ++ (second ++ (spaced m ++ (third ++ spaced n))))) one
    ∙ ap (λ z. first ++ (spaced a ++ (second ++ (spaced z ++ (third ++ spaced n))))) two
    ∙ ap (λ z. first ++ (spaced a ++ (second ++ (spaced b ++ (third ++ spaced z))))) three)
