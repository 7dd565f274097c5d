-- Lines that are read one by one.
use Rattle.std.proofs.Common.{◌≡◌, ℕ, suc, true, false, List, [], ◌∷◌, ◌++◌, Option, Some, None, refl, sym, ap}
use Rattle.source_tree.specs.Syntax.{Symbol}
use Rattle.grammar.specs.Reading.{◌>>=◌}
use Rattle.relation_lines.specs.Lines.{LineData}
use Rattle.relation_lines.specs.Reading.{has_ended, line, lines, ended, file}
use Rattle.relation_file.specs.LinePass.{lines_on}

module _ (turns depth : ℕ) where
  -- a file is its lines from the first one on
  pub from_first : (n : ℕ) (ts : List Symbol) → n ≡ turns → file turns depth ts ≡ lines_on turns depth n [] ts
  unfolding file
  from_first n ts e = ap (λ (k : ℕ). lines_on turns depth k [] ts) (sym e)

  -- no line is left
  pub all_read : (n : ℕ) (ls : List LineData) (ts : List Symbol) → has_ended ts ≡ true → lines_on turns depth (suc n) ls ts ≡ Some ls
  unfolding lines
  all_read n ls [] e = refl
  all_read n ls (s ∷ ts) e = absurd (let none : ⊥ = cc in none)

  pub all_read_last : (ls : List LineData) (ts : List Symbol) → has_ended ts ≡ true → lines_on turns depth 0 ls ts ≡ Some ls
  unfolding lines
  all_read_last ls [] e = refl
  all_read_last ls (s ∷ ts) e = absurd (let none : ⊥ = cc in none)

  pub more_left : (ls : List LineData) (ts : List Symbol) → has_ended ts ≡ false → lines_on turns depth 0 ls ts ≡ None
  unfolding lines
  more_left ls [] e = absurd (let none : ⊥ = cc in none)
  more_left ls (s ∷ ts) e = refl

  -- one more line
  pub one_read : (n : ℕ) (ls : List LineData) (ts rest : List Symbol) (l : LineData) → has_ended ts ≡ false → line turns depth ts ≡ Some (l, rest)
      → lines_on turns depth (suc n) ls ts ≡ lines_on turns depth n (ls ++ l ∷ []) rest
  unfolding lines
  one_read n ls [] rest l e read = absurd (let none : ⊥ = cc in none)
  one_read n ls (s ∷ ts) rest l e read =
      ap (λ (o : Option (LineData × List Symbol)). (o >>= λ x. lines turns depth n (ls ++ x.0 ∷ []) x.1) >>= λ r. ended turns depth r.0 r.1) read

  pub none_read : (n : ℕ) (ls : List LineData) (ts : List Symbol) → has_ended ts ≡ false → line turns depth ts ≡ None → lines_on turns depth (suc n) ls ts ≡ None
  unfolding lines
  none_read n ls [] e read = absurd (let none : ⊥ = cc in none)
  none_read n ls (s ∷ ts) e read =
      ap (λ (o : Option (LineData × List Symbol)). (o >>= λ x. lines turns depth n (ls ++ x.0 ∷ []) x.1) >>= λ r. ended turns depth r.0 r.1) read
