-- Statuses and texts that were put.
use Rattle.std.proofs.Common.{◌≡◌, ◌≢◌, ◌==◌, ℕ, List, [], ◌∷◌, true, length, refl, sym, ◌∙◌, arith}
use Rattle.command_answers.specs.declared.status.Status.{Status}
use Rattle.command_answers.specs.declared.status.Status.TheVariants.{WriteFault, Memory}

-- the status of what was put is no other than the one that was meant, where the sink and memory did not give up
pub no_other : (status result other : Status) → (result ≢ WriteFault → result ≢ Memory → result ≡ status) → other ≢ WriteFault → other ≢ Memory → status ≢ other → result ≢ other
no_other status result other ends w m a e = a (sym (ends (λ h. w (sym e ∙ h)) (λ h. m (sym e ∙ h))) ∙ e)

pub nil-test : (text : List ℕ) → (length text == 0) ≡ true → text ≡ []
nil-test [] h = refl
nil-test (x ∷ xs) h = absurd (grind arith)
