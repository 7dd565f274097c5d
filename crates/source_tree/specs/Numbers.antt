-- Numbers: their forms and their values (IEC 61131-3, 2.2.1).
use Rattle.std.specs.Prelude.{ℕ, ◌+◌, ◌*◌, ◌-◌, ◌^◌, ◌==◌, ◌&&◌, nat_lt, nat_eq, Bool, false, if◌then◌else◌, List, [], ◌∷◌, drop, codes, Option, Some, None}
use Rattle.std.specs.List.{starts_with}
use Rattle.source_tree.specs.Bytes.{is_digit, is_between}

-- what a byte stands for as a digit, in either case; 16 where it is none of `0` to `9` and `A` to `F`
abbrev pub digit : ℕ → ℕ
digit b = if is_digit b then b - 48 else (if is_between 65 70 b then b - 55 else (if is_between 97 102 b then b - 87 else 16))

abbrev pub is_digit_of : ℕ → ℕ → Bool
is_digit_of base b = nat_lt (digit b) base

-- digits of a base, with single underscores between them
unfoldable pub are_digits : ℕ → List ℕ → Bool
are_digits base [] = false
are_digits base (b ∷ []) = is_digit_of base b
are_digits base (b ∷ c ∷ bs) = is_digit_of base b && (if c == 95 then are_digits base bs else are_digits base (c ∷ bs))

-- the value of digits behind a value; underscores count for nothing
unfoldable pub value_after : ℕ → ℕ → List ℕ → ℕ
value_after base value [] = value
value_after base value (b ∷ bs) = if b == 95 then value_after base value bs else value_after base (value * base + digit b) bs

-- the value of digits of a base, where they are of their form
abbrev pub based : ℕ → List ℕ → Option ℕ
based base bs = if are_digits base bs then Some (value_after base 0 bs) else None

-- the value of a number, where it has one of the forms
unfoldable pub value_of : List ℕ → Option ℕ
value_of bs =
    if starts_with nat_eq bs (codes "2#") then based 2 (drop 2 bs)
    else (if starts_with nat_eq bs (codes "8#") then based 8 (drop 2 bs)
    else (if starts_with nat_eq bs (codes "16#") then based 16 (drop 3 bs)
    else based 10 bs))

-- a value, where it is in 64 bits
abbrev pub in_64_bits : Option ℕ → Option ℕ
in_64_bits None = None
in_64_bits (Some value) = if nat_lt value (2 ^ 64) then Some value else None
