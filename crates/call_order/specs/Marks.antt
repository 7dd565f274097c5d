-- Marks on numbers, and the numbers whose uses are still to be marked.
use Rattle.std.specs.Prelude.{◌≡◌, ℕ, ◌+◌, nat_lt, Bool, false, not, ◌&&◌, ◌||◌, List, length, slice_index_or}
use Rattle.std.specs.List.{count_by}
use Rattle.call_order.specs.Uses.{is_among}

-- whether a number has a mark; from the length on none has
abbrev pub is_marked : List Bool → ℕ → Bool
is_marked marks k = slice_index_or marks k false

-- how many have none
abbrev pub unmarked : List Bool → ℕ
unmarked marks = count_by (λ mark. not mark) marks

-- some numbers get marks, and those of them that had none wait
pub record GetMarks (numbers : List ℕ) (old new : List Bool) (waited waiting : List ℕ) : Type 0 where
  pub size : length new ≡ length old
  pub marks : (k : ℕ) → is_marked new k ≡ (is_marked old k || (nat_lt k (length old) && is_among k numbers))
  pub waits : (k : ℕ) → is_among k waiting ≡ (is_among k waited || (is_marked new k && not (is_marked old k)))
  pub work : length waiting + unmarked new ≡ length waited + unmarked old
