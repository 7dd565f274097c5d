-- What clap's walk makes of the words of each subcommand.
use Rattle.std.proofs.Common.{◌≡◌, ◌∙◌, ◌<◌, ◌≤◌, ◌+◌, ◌⊎◌, inl, inr, Bool, true, false, refl, sym, ap, arith, List, [], ◌∷◌, ◌++◌, length, Option, Some, None}
use Rattle.std.specs.Prelude.{codes}
use Rattle.clap.specs.Walk.{Row, Text, arg_by_index, finished, nothing_held, rows_after, to_positional, walked}
use Rattle.clap.specs.Takes.{level_passes, turn_passes}
use Rattle.clap.specs.declared.error.ErrorKind.TheVariants.{MissingRequiredArgument, UnknownArgument}
use Rattle.clap.specs.Faults.{defaults_fault, level_fault, turn_fault}
use Rattle.clap.specs.Simple.{Shape, built_leaf, inherited, marked_built, with_leaf_noted}
use Rattle.command_line.specs.Subcommands.{Subcommand, checks, explains, generates, replays, verifies}
use Rattle.command_line.specs.Grammar.{grammar, files_app, count_app}
use Rattle.command_line.specs.Asked.{asked_of, asked_by, usage}
use Rattle.command_line.proofs.WalkLaws.{Places, IsWalked, at, row, placed, end_passes, end_fault, leaf_runs}
use Rattle.command_line.proofs.WalkLaws.{Refuses as RefusesIn}

-- ---- four files, by any name

abbrev four : Places
four = record {
  leaf = built_leaf (inherited (with_leaf_noted (marked_built grammar.top)) (files_app (codes "replay")).top);
  names = codes "OLD" ∷ codes "NEW" ∷ codes "REL" ∷ codes "LAST" ∷ [];
}

four_step_trailing : (given : List Text) (w : Text) → length given < 4 → walked four.leaf.rules [] (at four true given) w ≡ at four true (given ++ w ∷ [])
unfolding walked
four_step_trailing [] w lt = refl
four_step_trailing (a ∷ []) w lt = refl
four_step_trailing (a ∷ b ∷ []) w lt = refl
four_step_trailing (a ∷ b ∷ c ∷ []) w lt = refl
four_step_trailing (a ∷ b ∷ c ∷ d ∷ rest) w lt = absurd (omega (arith, lt))

four_turn_trailing : (given : List Text) (w : Text) → length given < 4 → (turn_passes four.leaf [] (at four true given) w ≡ true) × (turn_fault four.leaf [] (at four true given) w ≡ [])
four_turn_trailing [] w lt = (refl, refl)
four_turn_trailing (a ∷ []) w lt = (refl, refl)
four_turn_trailing (a ∷ b ∷ []) w lt = (refl, refl)
four_turn_trailing (a ∷ b ∷ c ∷ []) w lt = (refl, refl)
four_turn_trailing (a ∷ b ∷ c ∷ d ∷ rest) w lt = absurd (omega (arith, lt))

four_step_by_place : (given : List Text) (w : Text) → length given < 4
    → to_positional four.leaf.rules (arg_by_index four.leaf.rules (length given + 1)) w (at four false given) (at four false given).held ≡ at four false (given ++ w ∷ [])
four_step_by_place [] w lt = refl
four_step_by_place (a ∷ []) w lt = refl
four_step_by_place (a ∷ b ∷ []) w lt = refl
four_step_by_place (a ∷ b ∷ c ∷ []) w lt = refl
four_step_by_place (a ∷ b ∷ c ∷ d ∷ rest) w lt = absurd (omega (arith, lt))

four_turn_over : (given : List Text) (w : Text) → length given ≤ 4 → 4 ≤ length given
    → (turn_passes four.leaf [] (at four true given) w ≡ false) × (turn_fault four.leaf [] (at four true given) w ≡ UnknownArgument ∷ [])
four_turn_over [] w le ge = absurd (omega (arith, ge))
four_turn_over (a ∷ []) w le ge = absurd (omega (arith, ge))
four_turn_over (a ∷ b ∷ []) w le ge = absurd (omega (arith, ge))
four_turn_over (a ∷ b ∷ c ∷ []) w le ge = absurd (omega (arith, ge))
four_turn_over (a ∷ b ∷ c ∷ d ∷ []) w le ge = (refl, refl)
four_turn_over (a ∷ b ∷ c ∷ d ∷ e ∷ rest) w le ge = absurd (omega (arith, le))

four_too_few : (t : Bool) (all : List Text) → length all < 4 → (end_passes four.leaf (at four t all).held ≡ false) × (end_fault four.leaf (at four t all).held ≡ MissingRequiredArgument ∷ [])
unfolding defaults_fault
four_too_few t [] lt = (refl, refl)
four_too_few t (a ∷ []) lt = (refl, refl)
four_too_few t (a ∷ b ∷ []) lt = (refl, refl)
four_too_few t (a ∷ b ∷ c ∷ []) lt = (refl, refl)
four_too_few t (a ∷ b ∷ c ∷ d ∷ rest) lt = absurd (omega (arith, lt))

four_walked : IsWalked four
four_walked = record {
  places = record { long = λ name. refl; short = λ x. refl };
  step_trailing = four_step_trailing;
  turn_trailing = four_turn_trailing;
  step_by_place = four_step_by_place;
  turn_over = four_turn_over;
  too_few = four_too_few;
}

-- ---- one number

abbrev one : Places
one = record {
  leaf = built_leaf (inherited (with_leaf_noted (marked_built grammar.top)) count_app.top);
  names = codes "N" ∷ [];
}

one_step_trailing : (given : List Text) (w : Text) → length given < 1 → walked one.leaf.rules [] (at one true given) w ≡ at one true (given ++ w ∷ [])
unfolding walked
one_step_trailing [] w lt = refl
one_step_trailing (a ∷ rest) w lt = absurd (omega (arith, lt))

one_turn_trailing : (given : List Text) (w : Text) → length given < 1 → (turn_passes one.leaf [] (at one true given) w ≡ true) × (turn_fault one.leaf [] (at one true given) w ≡ [])
one_turn_trailing [] w lt = (refl, refl)
one_turn_trailing (a ∷ rest) w lt = absurd (omega (arith, lt))

one_step_by_place : (given : List Text) (w : Text) → length given < 1
    → to_positional one.leaf.rules (arg_by_index one.leaf.rules (length given + 1)) w (at one false given) (at one false given).held ≡ at one false (given ++ w ∷ [])
one_step_by_place [] w lt = refl
one_step_by_place (a ∷ rest) w lt = absurd (omega (arith, lt))

one_turn_over : (given : List Text) (w : Text) → length given ≤ 1 → 1 ≤ length given
    → (turn_passes one.leaf [] (at one true given) w ≡ false) × (turn_fault one.leaf [] (at one true given) w ≡ UnknownArgument ∷ [])
one_turn_over [] w le ge = absurd (omega (arith, ge))
one_turn_over (a ∷ []) w le ge = (refl, refl)
one_turn_over (a ∷ b ∷ rest) w le ge = absurd (omega (arith, le))

one_too_few : (t : Bool) (all : List Text) → length all < 1 → (end_passes one.leaf (at one t all).held ≡ false) × (end_fault one.leaf (at one t all).held ≡ MissingRequiredArgument ∷ [])
unfolding defaults_fault
one_too_few t [] lt = (refl, refl)
one_too_few t (a ∷ rest) lt = absurd (omega (arith, lt))

one_walked : IsWalked one
one_walked = record {
  places = record { long = λ name. refl; short = λ x. refl };
  step_trailing = one_step_trailing;
  turn_trailing = one_turn_trailing;
  step_by_place = one_step_by_place;
  turn_over = one_turn_over;
  too_few = one_too_few;
}

-- ---- each subcommand

-- a subcommand as it is built
abbrev pub leaf_of : Subcommand → Shape
leaf_of generates = one.leaf
leaf_of _ = four.leaf

-- what is found for its words
abbrev pub rows_of : Subcommand → List Text → List Row
rows_of generates (count ∷ []) = row (codes "N") count ∷ []
rows_of generates _ = []
rows_of _ (old ∷ new ∷ relation ∷ last ∷ []) = row (codes "OLD") old ∷ row (codes "NEW") new ∷ row (codes "REL") relation ∷ row (codes "LAST") last ∷ []
rows_of _ _ = []

-- it takes the words after its name, and asks for something by them
pub record Asks (s : Subcommand) (words : List Text) : Type 0 where
  pub all : List Text
  pub placed : placed words ≡ Some all
  pub passes : level_passes (leaf_of s) [] nothing_held words false ≡ true
  pub rows : rows_after (leaf_of s).rules [] words ≡ rows_of s all
  pub asks : asked_of s all ≡ usage → ⊥

-- or refuses them
pub record Refuses (s : Subcommand) (words : List Text) : Type 0 where
  pub other : asked_by s (placed words) ≡ usage
  pub refused : level_passes (leaf_of s) [] nothing_held words false ≡ false
  pub faulty : level_fault (leaf_of s) [] nothing_held words false [] ≡ [] → ⊥

module _ (s : Subcommand) (leaf_is : leaf_of s ≡ four.leaf)
    (rows_are : (a b c d : Text) → rows_of s (a ∷ b ∷ c ∷ d ∷ []) ≡ row (codes "OLD") a ∷ row (codes "NEW") b ∷ row (codes "REL") c ∷ row (codes "LAST") d ∷ [])
    (asks : (a b c d : Text) → asked_of s (a ∷ b ∷ c ∷ d ∷ []) ≡ usage → ⊥)
    (no_other : (o : Option (List Text)) → ((all : List Text) → o ≡ Some all → length all ≡ 4 → ⊥) → asked_by s o ≡ usage) where
  four_asks : (words all : List Text) (t : Bool) → length all ≤ 4 → 4 ≤ length all → placed words ≡ Some all
      → level_passes four.leaf [] nothing_held words false ≡ end_passes four.leaf (at four t all).held → rows_after four.leaf.rules [] words ≡ finished four.leaf.rules (at four t all).held → Asks s words
  unfolding defaults_fault
  four_asks words [] t le ge is passes rows = absurd (omega (arith, ge))
  four_asks words (a ∷ []) t le ge is passes rows = absurd (omega (arith, ge))
  four_asks words (a ∷ b ∷ []) t le ge is passes rows = absurd (omega (arith, ge))
  four_asks words (a ∷ b ∷ c ∷ []) t le ge is passes rows = absurd (omega (arith, ge))
  four_asks words (a ∷ b ∷ c ∷ d ∷ e ∷ rest) t le ge is passes rows = absurd (omega (arith, le))
  four_asks words (a ∷ b ∷ c ∷ d ∷ []) t le ge is passes rows = record {
    all = a ∷ b ∷ c ∷ d ∷ [];
    placed = is;
    passes = ap (λ (l : Shape). level_passes l [] nothing_held words false) leaf_is ∙ passes;
    rows = ap (λ (l : Shape). rows_after l.rules [] words) leaf_is ∙ rows ∙ sym (rows_are a b c d);
    asks = asks a b c d;
  }

  four_refuses : (words : List Text) → RefusesIn four words → Refuses s words
  four_refuses words r = record {
    other = no_other (placed words) r.other;
    refused = ap (λ (l : Shape). level_passes l [] nothing_held words false) leaf_is ∙ r.refused;
    faulty = λ e. r.faulty (sym (ap (λ (l : Shape). level_fault l [] nothing_held words false []) leaf_is) ∙ e);
  }

  four_runs : (words : List Text) → Asks s words ⊎ Refuses s words
  four_runs words = elim (leaf_runs four four_walked words) [
    | inl a ↦ inl (four_asks words a.all a.trailing a.fits a.full a.placed a.passes a.rows)
    | inr r ↦ inr (four_refuses words r)
  ]

abbrev Fours : Option (List Text) → Type 0
Fours o = (all : List Text) → o ≡ Some all → length all ≡ 4 → ⊥

no_check : (o : Option (List Text)) → Fours o → asked_by checks o ≡ usage
no_check None other = refl
no_check (Some []) other = refl
no_check (Some (a ∷ [])) other = refl
no_check (Some (a ∷ b ∷ [])) other = refl
no_check (Some (a ∷ b ∷ c ∷ [])) other = refl
no_check (Some (a ∷ b ∷ c ∷ d ∷ [])) other = absurd (other (a ∷ b ∷ c ∷ d ∷ []) refl refl)
no_check (Some (a ∷ b ∷ c ∷ d ∷ e ∷ rest)) other = refl

no_explain : (o : Option (List Text)) → Fours o → asked_by explains o ≡ usage
no_explain None other = refl
no_explain (Some []) other = refl
no_explain (Some (a ∷ [])) other = refl
no_explain (Some (a ∷ b ∷ [])) other = refl
no_explain (Some (a ∷ b ∷ c ∷ [])) other = refl
no_explain (Some (a ∷ b ∷ c ∷ d ∷ [])) other = absurd (other (a ∷ b ∷ c ∷ d ∷ []) refl refl)
no_explain (Some (a ∷ b ∷ c ∷ d ∷ e ∷ rest)) other = refl

no_replay : (o : Option (List Text)) → Fours o → asked_by replays o ≡ usage
no_replay None other = refl
no_replay (Some []) other = refl
no_replay (Some (a ∷ [])) other = refl
no_replay (Some (a ∷ b ∷ [])) other = refl
no_replay (Some (a ∷ b ∷ c ∷ [])) other = refl
no_replay (Some (a ∷ b ∷ c ∷ d ∷ [])) other = absurd (other (a ∷ b ∷ c ∷ d ∷ []) refl refl)
no_replay (Some (a ∷ b ∷ c ∷ d ∷ e ∷ rest)) other = refl

no_verify : (o : Option (List Text)) → Fours o → asked_by verifies o ≡ usage
no_verify None other = refl
no_verify (Some []) other = refl
no_verify (Some (a ∷ [])) other = refl
no_verify (Some (a ∷ b ∷ [])) other = refl
no_verify (Some (a ∷ b ∷ c ∷ [])) other = refl
no_verify (Some (a ∷ b ∷ c ∷ d ∷ [])) other = absurd (other (a ∷ b ∷ c ∷ d ∷ []) refl refl)
no_verify (Some (a ∷ b ∷ c ∷ d ∷ e ∷ rest)) other = refl

one_asks : (words all : List Text) (t : Bool) → length all ≤ 1 → 1 ≤ length all → placed words ≡ Some all
    → level_passes one.leaf [] nothing_held words false ≡ end_passes one.leaf (at one t all).held → rows_after one.leaf.rules [] words ≡ finished one.leaf.rules (at one t all).held → Asks generates words
unfolding defaults_fault
one_asks words [] t le ge is passes rows = absurd (omega (arith, ge))
one_asks words (a ∷ b ∷ rest) t le ge is passes rows = absurd (omega (arith, le))
one_asks words (a ∷ []) t le ge is passes rows = record { all = a ∷ []; placed = is; passes = passes; rows = rows; asks = λ e. cc }

no_generate : (o : Option (List Text)) → ((all : List Text) → o ≡ Some all → length all ≡ 1 → ⊥) → asked_by generates o ≡ usage
no_generate None other = refl
no_generate (Some []) other = refl
no_generate (Some (a ∷ [])) other = absurd (other (a ∷ []) refl refl)
no_generate (Some (a ∷ b ∷ rest)) other = refl

one_runs : (words : List Text) → Asks generates words ⊎ Refuses generates words
one_runs words = elim (leaf_runs one one_walked words) [
  | inl a ↦ inl (one_asks words a.all a.trailing a.fits a.full a.placed a.passes a.rows)
  | inr r ↦ inr (record { other = no_generate (placed words) r.other; refused = r.refused; faulty = r.faulty })
]

-- a subcommand takes the words after its name, or refuses them
pub runs : (s : Subcommand) (words : List Text) → Asks s words ⊎ Refuses s words
runs checks words = four_runs checks refl (λ a b c d. refl) (λ a b c d e. cc) no_check words
runs explains words = four_runs explains refl (λ a b c d. refl) (λ a b c d e. cc) no_explain words
runs generates words = one_runs words
runs replays words = four_runs replays refl (λ a b c d. refl) (λ a b c d e. cc) no_replay words
runs verifies words = four_runs verifies refl (λ a b c d. refl) (λ a b c d e. cc) no_verify words
