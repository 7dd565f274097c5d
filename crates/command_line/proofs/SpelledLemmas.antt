-- One number more.
use Rattle.std.proofs.Common.{◌≡◌, ◌∙◌, ◌<◌, ◌-◌, ◌+◌, ℕ, false, suc, List, Some, decimal, bytes_eq, if◌then◌else◌, sym, ap, arith}
use Rattle.command_line.specs.Counts.{first_spelled}

one_more : (less most : ℕ) → less < most → most - less ≡ suc (most - (less + 1))
one_more less most lt = omega (arith, lt)

next : (less : ℕ) → less + 1 ≡ suc less
next less = omega arith

-- it is none so far
pub passed : (less most : ℕ) (word : List ℕ) → less < most → bytes_eq (decimal (less + 1)) word ≡ false → first_spelled (less + 1) (most - (less + 1)) word ≡ first_spelled less (most - less) word
passed less most word lt e =
    ap (λ n. first_spelled n (most - (less + 1)) word) (next less)
    ∙ sym (ap (λ n. first_spelled less n word) (one_more less most lt)
    ∙ ap (λ b. if b then Some (suc less) else first_spelled (suc less) (most - (less + 1)) word) (sym (ap (λ n. bytes_eq (decimal n) word) (next less)) ∙ e))
