-- What clap's walk makes of the words after the program's name.
use Rattle.std.proofs.lemmas.Bool.{cases_Bool}
use Rattle.std.proofs.Common.{true≢false, ◌≡◌, ◌∙◌, ◌&&◌, ◌⊎◌, inl, inr, suc, Bool, true, false, refl, sym, ap, arith, append_assoc, List, [], ◌∷◌, ◌++◌, length, Option, Some, None, is_some, option_map, codes, drop}
use Rattle.std.proofs.Math.Bool.{and-true, and-false}
use Rattle.std.proofs.lemmas.List.{append-nil}
use Rattle.std.specs.List.{fold, list_all, slice_index_or}
use Rattle.clap.specs.declared.error.ErrorKind.{ErrorKind}
use Rattle.clap.specs.declared.error.ErrorKind.TheVariants.{InvalidSubcommand, MissingSubcommand, UnknownArgument}
use Rattle.std.specs.Str.{bytes_eq}
use Rattle.clap.specs.Walk.{Held, Step, Text, Walk, after_step, finished, settled, subcommand_or_other, nothing_held, subcommand_met, idle, rows_after, walk, walk_from, walked}
use Rattle.clap.specs.Simple.{Shape, built, entered, is_simple, names_of}
use Rattle.clap.specs.Takes.{built_takes, default_passes, entered_passes, is_valid, level_passes, other_passes, settle_passes, step_passes, turn_passes, walk_passes}
use Rattle.clap.specs.Kinds.{Kinds, or_else}
use Rattle.clap.specs.Faults.{built_fault, check_fault, defaults_fault, level_fault, other_fault, settle_fault, step_fault, entered_fault, is_simple_and_free, turn_fault, walk_fault}
use Rattle.command_line.specs.Subcommands.{Subcommand, checks, explains, generates, replays, verifies, name_of, named}
use Rattle.command_line.specs.Grammar.{grammar}
use Rattle.command_line.proofs.Steps.{IsByPlace, dashes, dashes_turn, flag_like, flag_turn, value_turn}
use Rattle.command_line.specs.Asked.{Asked, asked_by, usage}
use Rattle.std.specs.Option.{option_map_or}
use Rattle.command_line.proofs.WalkLaws.{placed}
use Rattle.command_line.proofs.Walks.{Asks, Refuses, leaf_of, rows_of, runs}

pub grammar_simple : is_simple grammar ≡ true
grammar_simple = refl

pub grammar_free : is_simple_and_free grammar ≡ true
grammar_free = refl

abbrev pub top : Shape
top = (built grammar).top

abbrev names : List (Text × List Text)
names = (name_of checks, []) ∷ (name_of explains, []) ∷ (name_of generates, []) ∷ (name_of replays, []) ∷ (name_of verifies, []) ∷ []

names_are : names_of (built grammar) ≡ names
names_are = refl

top_places : IsByPlace top.rules
top_places = record { long = λ name. refl; short = λ x. refl }

-- ---- a subcommand

abbrev stopped : Subcommand → List Text → Walk
stopped s words = record (walk_from nothing_held) { stopped = Some (name_of s, words) }

met_is : (w : Text) → subcommand_met names idle w ≡ option_map name_of (named w)
met_is w = elim (cases_Bool (bytes_eq (codes "check") w)) [
  | inl e ↦ rw e refl
  | inr e ↦ elim (cases_Bool (bytes_eq (codes "explain") w)) [
    | inl d ↦ rw (e, d) refl
    | inr d ↦ elim (cases_Bool (bytes_eq (codes "gen") w)) [
      | inl g ↦ rw (e, d, g) refl
      | inr g ↦ elim (cases_Bool (bytes_eq (codes "replay") w)) [
        | inl f ↦ rw (e, d, g, f) refl
        | inr f ↦ elim (cases_Bool (bytes_eq (codes "verify") w)) [
          | inl h ↦ rw (e, d, g, f, h) refl
          | inr h ↦ rw (e, d, g, f, h) refl
        ]
      ]
    ]
  ]
]

met_some : (w : Text) (s : Subcommand) → named w ≡ Some s → subcommand_met names idle w ≡ Some (name_of s)
met_some w s e = met_is w ∙ ap (option_map name_of) e

met_none : (w : Text) → named w ≡ None → subcommand_met names idle w ≡ None
met_none w e = met_is w ∙ ap (option_map name_of) e

walk_stopped : (s : Subcommand) (given rest : List Text) → fold (walked top.rules names) (stopped s given) rest ≡ stopped s (given ++ rest)
unfolding walked
walk_stopped s given [] = ap (stopped s) (sym (append-nil given))
walk_stopped s given (w ∷ rest) = walk_stopped s (given ++ w ∷ []) rest ∙ ap (stopped s) (append_assoc given (w ∷ []) rest)

passes_stopped : (s : Subcommand) (given rest : List Text) → walk_passes top names (stopped s given) rest ≡ true
unfolding walk_passes walked
passes_stopped s given [] = refl
passes_stopped s given (w ∷ rest) = passes_stopped s (given ++ w ∷ []) rest

clean_stopped : (s : Subcommand) (given rest : List Text) → walk_fault top names (stopped s given) rest ≡ []
unfolding walk_fault walked
clean_stopped s given [] = refl
clean_stopped s given (w ∷ rest) = clean_stopped s (given ++ w ∷ []) rest

abbrev first_met : Text → Option Text → Held × Step
first_met w name = subcommand_or_other top.rules name idle 1 w nothing_held

-- its name passes as a word
passes_named : (s : Subcommand) (w : Text) → (other_passes top (Some (name_of s)) w nothing_held && step_passes top 1 (first_met w (Some (name_of s))).0 (first_met w (Some (name_of s))).1) ≡ true
passes_named checks w = refl
passes_named explains w = refl
passes_named generates w = refl
passes_named replays w = refl
passes_named verifies w = refl

clean_named : (s : Subcommand) (w : Text) → or_else (other_fault top (Some (name_of s)) w nothing_held) (step_fault top 1 (first_met w (Some (name_of s))).0 (first_met w (Some (name_of s))).1) ≡ []
clean_named checks w = refl
clean_named explains w = refl
clean_named generates w = refl
clean_named replays w = refl
clean_named verifies w = refl

module _ (w : Text) (s : Subcommand) (e : named w ≡ Some s) where
  first_step : walked top.rules names (walk_from nothing_held) w ≡ stopped s []
  unfolding walked
  first_step = let m = met_some w s e in λ i. after_step top.rules w (walk_from nothing_held) (first_met w (m i)).0 (first_met w (m i)).1

  first_passes : turn_passes top names (walk_from nothing_held) w ≡ true
  first_passes =
      let m = met_some w s e in
      (λ i. other_passes top (m i) w nothing_held && step_passes top 1 (first_met w (m i)).0 (first_met w (m i)).1) ∙ passes_named s w

  first_clean : turn_fault top names (walk_from nothing_held) w ≡ []
  first_clean =
      let m = met_some w s e in
      (λ i. or_else (other_fault top (m i) w nothing_held) (step_fault top 1 (first_met w (m i)).0 (first_met w (m i)).1)) ∙ clean_named s w

  walk_is : (rest : List Text) → walk top.rules names nothing_held (w ∷ rest) ≡ stopped s rest
  walk_is rest = ap (λ v. fold (walked top.rules names) v rest) first_step ∙ walk_stopped s [] rest

  walk_passes_is : (rest : List Text) → walk_passes top names (walk_from nothing_held) (w ∷ rest) ≡ true
  unfolding walk_passes
  walk_passes_is rest = (λ i. first_passes i && walk_passes top names (first_step i) rest) ∙ passes_stopped s [] rest

  walk_clean_is : (rest : List Text) → walk_fault top names (walk_from nothing_held) (w ∷ rest) ≡ []
  unfolding walk_fault
  walk_clean_is rest = (λ i. or_else (first_clean i) (walk_fault top names (first_step i) rest)) ∙ clean_stopped s [] rest

-- ---- the whole command line

-- whether the words are taken, by the walk over them
abbrev takes_by : Bool → Walk → Bool
takes_by passes v = entered_passes (built grammar) v.stopped
    && (passes && (settle_passes top.rules top.args_override_self v.held && (list_all default_passes top.rules && is_valid top (finished top.rules v.held) (is_some (entered (built grammar) v.stopped)))))

abbrev fault_by : Kinds → Walk → Kinds
fault_by fault v = or_else fault (or_else (entered_fault (built grammar) v.stopped) (or_else (settle_fault top.rules top.args_override_self v.held)
    (or_else (defaults_fault (settled top.rules v.held).rows top.rules) (check_fault top (finished top.rules v.held) (is_some (entered (built grammar) v.stopped))))))

takes_is : (body : List Text) → built_takes (built grammar) nothing_held body ≡ takes_by (walk_passes top names (walk_from nothing_held) body) (walk top.rules names nothing_held body)
takes_is body = refl

fault_is : (body : List Text) → built_fault (built grammar) nothing_held body ≡ fault_by (walk_fault top names (walk_from nothing_held) body) (walk top.rules names nothing_held body)
fault_is body = refl

or_first : (a b : Kinds) → or_else a b ≡ [] → a ≡ []
or_first [] b e = refl
or_first (k ∷ ks) b e = e

-- a subcommand is built as any other, but for its name
entered_at : (s : Subcommand) (rest : List Text) → entered (built grammar) (Some (name_of s, rest)) ≡ Some (name_of s, rows_after (leaf_of s).rules [] rest)
entered_at checks rest = refl
entered_at explains rest = refl
entered_at generates rest = refl
entered_at replays rest = refl
entered_at verifies rest = refl

takes_at : (s : Subcommand) (rest : List Text) → takes_by true (stopped s rest) ≡ (level_passes (leaf_of s) [] nothing_held rest false && true)
unfolding walk_passes
takes_at checks rest = refl
takes_at explains rest = refl
takes_at generates rest = refl
takes_at replays rest = refl
takes_at verifies rest = refl

fault_at : (s : Subcommand) (rest : List Text) → entered_fault (built grammar) (Some (name_of s, rest)) ≡ level_fault (leaf_of s) [] nothing_held rest false []
unfolding walk_fault defaults_fault
fault_at checks rest = refl
fault_at explains rest = refl
fault_at generates rest = refl
fault_at replays rest = refl
fault_at verifies rest = refl

-- the words after the program's name are a subcommand's
pub record AsksAll (body : List Text) : Type 0 where
  pub name : Text
  pub rest : List Text
  pub parts : body ≡ name ∷ rest
  pub subcommand : Subcommand
  pub is : named name ≡ Some subcommand
  pub asks : Asks subcommand rest
  pub taken : built_takes (built grammar) nothing_held body ≡ true
  pub met : entered (built grammar) (walk top.rules names nothing_held body).stopped ≡ Some (name_of subcommand, rows_of subcommand asks.all)

pub record RefusesAll (body : List Text) : Type 0 where
  pub other : (name : Text) (rest : List Text) (s : Subcommand) → body ≡ name ∷ rest → named name ≡ Some s → asked_by s (placed rest) ≡ usage
  pub taken : built_takes (built grammar) nothing_held body ≡ false
  pub faulty : built_fault (built grammar) nothing_held body ≡ [] → ⊥

asked_first : (w : Text) (rest : List Text) (s : Subcommand) → named w ≡ Some s → Asks s rest → AsksAll (w ∷ rest)
unfolding walk_passes walk_fault
asked_first w rest s e asks = record {
  name = w;
  rest = rest;
  parts = refl;
  subcommand = s;
  is = e;
  asks = asks;
  taken = (λ i. takes_by (walk_passes_is w s e rest i) (walk_is w s e rest i)) ∙ takes_at s rest ∙ and-true (level_passes (leaf_of s) [] nothing_held rest false) ∙ asks.passes;
  met = ap (λ v. entered (built grammar) v.stopped) (walk_is w s e rest) ∙ entered_at s rest ∙ ap (λ rows. Some (name_of s, rows)) asks.rows;
}

-- what a subcommand that was named asks for
abbrev by_subcommand : Option Subcommand → List Text → Asked
by_subcommand o rest = option_map_or (λ s. asked_by s (placed rest)) o usage

refused_first : (w : Text) (rest : List Text) (s : Subcommand) → named w ≡ Some s → Refuses s rest → RefusesAll (w ∷ rest)
refused_first w rest s e refuses = record {
  other = λ name after t parts is.
      let same : rest ≡ after = ap (drop 1) parts in
      let first : w ≡ name = ap (λ ws. slice_index_or ws 0 w) parts in
      let one : ◌≡◌ {A = Option Subcommand} (Some s) (Some t) = sym e ∙ ap named first ∙ is in
      sym (λ i. by_subcommand (one i) (same i)) ∙ refuses.other;
  taken = (λ i. takes_by (walk_passes_is w s e rest i) (walk_is w s e rest i)) ∙ takes_at s rest ∙ and-true (level_passes (leaf_of s) [] nothing_held rest false) ∙ refuses.refused;
  faulty = λ h.
      let first : entered_fault (built grammar) (Some (name_of s, rest)) ≡ [] =
      or_first _ _ (sym (λ i. fault_by (walk_clean_is w s e rest i) (walk_is w s e rest i)) ∙ h) in
      refuses.faulty (sym (fault_at s rest) ∙ first);
}

-- a first word that names no subcommand
not_first : (w : Text) (rest : List Text) → named w ≡ None → built_takes (built grammar) nothing_held (w ∷ rest) ≡ false
    → (built_fault (built grammar) nothing_held (w ∷ rest) ≡ [] → ⊥) → RefusesAll (w ∷ rest)
not_first w rest e taken faulty = record {
  other = λ name after s parts is.
      let same : w ≡ name = ap (λ ws. slice_index_or ws 0 w) parts in
      absurd (true≢false (ap is_some (sym is ∙ sym (ap named same) ∙ e)));
  taken = taken;
  faulty = faulty;
}

walk_refused : (w : Text) (rest : List Text) → named w ≡ None → walk_passes top names (walk_from nothing_held) (w ∷ rest) ≡ false
    → (walk_fault top names (walk_from nothing_held) (w ∷ rest) ≡ [] → ⊥) → RefusesAll (w ∷ rest)
walk_refused w rest e refused faulty =
    let v = walk top.rules names nothing_held (w ∷ rest) in
    not_first w rest e (ap (λ b. takes_by b v) refused ∙ and-false (entered_passes (built grammar) v.stopped)) (λ h. faulty (or_first _ _ h))

no_kinds : (k : ErrorKind) (ks : Kinds) → k ∷ ks ≡ [] → ⊥
no_kinds k ks e = let bad : suc (length ks) ≡ 0 = ap length e in omega (arith, bad)

-- its turn fails
turn_refused : (w : Text) (rest : List Text) (k : ErrorKind) (ks : Kinds) → named w ≡ None → turn_passes top names (walk_from nothing_held) w ≡ false
    → turn_fault top names (walk_from nothing_held) w ≡ k ∷ ks → RefusesAll (w ∷ rest)
unfolding walk_passes walk_fault
turn_refused w rest k ks e refused fault =
    let after = walked top.rules names (walk_from nothing_held) w in
    walk_refused w rest e (ap (λ b. b && walk_passes top names after rest) refused)
    (λ h. no_kinds k ks (sym (ap (λ f. or_else f (walk_fault top names after rest)) fault) ∙ h))

-- `--` before a subcommand
dashes_refused : (w : Text) (rest : List Text) → named w ≡ None → bytes_eq w dashes ≡ true → RefusesAll (w ∷ rest)
unfolding walk_passes walk_fault walked defaults_fault
dashes_refused w [] e is =
    let turn = dashes_turn top names top_places [] None 1 w (met_none w e) is in
    not_first w [] e (λ i. takes_by (turn.passes i && true) (turn.step i))
    (λ h. no_kinds MissingSubcommand [] (sym (λ i. fault_by (or_else (turn.clean i) []) (turn.step i)) ∙ h))
dashes_refused w (x ∷ rest) e is =
    let turn = dashes_turn top names top_places [] None 1 w (met_none w e) is in
    walk_refused w (x ∷ rest) e (λ i. turn.passes i && walk_passes top names (turn.step i) (x ∷ rest))
    (λ h. no_kinds UnknownArgument (InvalidSubcommand ∷ []) (sym (λ i. or_else (turn.clean i) (walk_fault top names (turn.step i) (x ∷ rest))) ∙ h))

not_named : (w : Text) (rest : List Text) → named w ≡ None → RefusesAll (w ∷ rest)
not_named w rest e = elim (cases_Bool (bytes_eq w dashes)) [
  | inl is ↦ dashes_refused w rest e is
  | inr is ↦ elim (cases_Bool (flag_like w)) [
    | inl f ↦
        let turn = flag_turn top names top_places [] None 1 w (met_none w e) is f in
        turn_refused w rest UnknownArgument [] e turn.0 turn.1
    | inr f ↦
        let turn = value_turn top names top_places [] None 1 w (met_none w e) is f in
        turn_refused w rest UnknownArgument (InvalidSubcommand ∷ []) e turn.passes turn.fault
  ]
]

by_name : (w : Text) (rest : List Text) (o : Option Subcommand) → named w ≡ o → AsksAll (w ∷ rest) ⊎ RefusesAll (w ∷ rest)
by_name w rest None e = inr (not_named w rest e)
by_name w rest (Some s) e = elim (runs s rest) [
  | inl asks ↦ inl (asked_first w rest s e asks)
  | inr refuses ↦ inr (refused_first w rest s e refuses)
]

-- clap takes the words after the program's name, or refuses them
pub top_runs : (body : List Text) → AsksAll body ⊎ RefusesAll body
unfolding defaults_fault walk_passes walk_fault
top_runs [] = inr (record {
  other = λ name rest s parts is. absurd (let bad : 0 ≡ suc (length rest) = ap length parts in omega (arith, bad));
  taken = refl;
  faulty = λ h. no_kinds MissingSubcommand [] h;
})
top_runs (w ∷ rest) = by_name w rest (named w) refl
