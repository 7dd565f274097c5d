-- A text of a relation with INVARIANT lines behind it.
use Rattle.std.specs.Prelude.{ℕ, Bool, List, [], ◌∷◌, ◌++◌, if◌then◌else◌, codes, map, string_bytes}
use Rattle.line_trials.specs.declared.line.InvariantLine.{InvariantLine}

-- the clause of an INVARIANT line, the text of a comment behind it, and whether the line stands there as a line or in a comment
pub record LineData : Type 0 where
  pub clause : List ℕ
  pub note : List ℕ
  pub is_kept : Bool

abbrev pub line_view : InvariantLine → LineData
line_view l = record { clause = string_bytes l.clause; note = string_bytes l.note; is_kept = l.is_kept }

abbrev pub lines_view : List InvariantLine → List LineData
lines_view ls = map line_view ls

-- a clause and a note between three texts, the last of which ends a comment and the line
abbrev pub noted : List ℕ → LineData → List ℕ → List ℕ
noted before l between = before ++ l.clause ++ between ++ l.note ++ codes " *)\n"

-- `INVARIANT clause; (* note *)`, and the end of the line; or `(* INVARIANT clause; note *)` where it is in a comment
abbrev pub line_text : LineData → List ℕ
line_text l = if l.is_kept then noted (codes "INVARIANT ") l (codes "; (* ") else noted (codes "(* INVARIANT ") l (codes "; ")

abbrev pub lines_text : List LineData → List ℕ
lines_text [] = []
lines_text (l ∷ ls) = line_text l ++ lines_text ls

-- the text itself where there is no line, else the text, the end of its last line, and the lines
abbrev pub with_lines : List ℕ → List LineData → List ℕ
with_lines text [] = text
with_lines text (l ∷ ls) = text ++ codes "\n" ++ lines_text (l ∷ ls)
