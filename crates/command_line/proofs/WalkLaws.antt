-- What clap's walk makes of the words of a subcommand with so many required words by place.
use Rattle.std.proofs.lemmas.Bool.{cases_Bool}
use Rattle.std.proofs.lemmas.List.{append-nil}
use Rattle.std.proofs.Common.{unwrap_or, cond, true≢false, ◌≡◌, ◌∙◌, ◌<◌, ◌≤◌, ◌+◌, ◌&&◌, ◌⊎◌, inl, inr, ℕ, Bool, true, false, zero, suc, refl, sym, ap, arith, append_assoc, List, [], ◌∷◌, ◌++◌, length, length-append, Option, Some, None, is_some, option_map}
use Rattle.std.specs.List.{fold, list_all}
use Rattle.std.specs.Str.{bytes_eq}
use Rattle.clap.specs.Values.{reading_of}
use Rattle.clap.specs.declared.builder.ValueParser.TheVariants as parser
use Rattle.clap.specs.declared.parser.ValueSource.TheVariants.{CommandLine}
use Rattle.clap.specs.Walk.{Held, Row, Text, Walk, arg_by_index, finished, nothing_held, rows_after, settled, to_positional, walk, walked}
use Rattle.clap.specs.Takes.{default_passes, is_valid, level_passes, settle_passes, turn_passes, walk_passes}
use Rattle.clap.specs.Kinds.{Kinds, or_else}
use Rattle.clap.specs.declared.error.ErrorKind.TheVariants.{MissingRequiredArgument, UnknownArgument}
use Rattle.clap.specs.Faults.{check_fault, defaults_fault, level_fault, settle_fault, turn_fault, walk_fault}
use Rattle.clap.specs.Simple.{Shape}
use Rattle.command_line.proofs.Steps.{IsByPlace, between, dashes, dashes_turn, flag_like, flag_turn, value_turn}

-- ---- words by place

-- the words by place, where none is a flag
abbrev pub placed : List Text → Option (List Text)
placed [] = Some []
placed (w ∷ rest) = cond (bytes_eq w dashes) (Some rest) (cond (flag_like w) None (option_map (λ ws. w ∷ ws) (placed rest)))

abbrev pub placed_after : List Text → Bool → List Text → Option (List Text)
placed_after given true words = Some (given ++ words)
placed_after given false words = option_map (λ ws. given ++ ws) (placed words)

some_of : (xs ys : List Text) → ◌≡◌ {A = Option (List Text)} (Some xs) (Some ys) → xs ≡ ys
some_of xs ys e = ap (λ o. unwrap_or o []) e

more_of : (given : List Text) (w : Text) (o : Option (List Text)) → option_map (λ ws. given ++ ws) (option_map (λ ws. w ∷ ws) o) ≡ option_map (λ ws. (given ++ w ∷ []) ++ ws) o
more_of given w None = refl
more_of given w (Some ws) = ap Some (sym (append_assoc given (w ∷ []) ws))

nothing_before : (o : Option (List Text)) → option_map (λ ws. [] ++ ws) o ≡ o
nothing_before None = refl
nothing_before (Some ws) = refl

by_room : (n limit : ℕ) (P : Type 0) → (n < limit → P) → (limit ≤ n → P) → P
by_room n zero P room full = full (omega arith)
by_room zero (suc limit) P room full = room (omega arith)
by_room (suc n) (suc limit) P room full = by_room n limit P (λ h. room (omega (arith, h))) (λ h. full (omega (arith, h)))

longer : (given : List Text) (w : Text) (limit : ℕ) → length given < limit → length (given ++ w ∷ []) ≤ limit
longer given w limit lt = omega (arith, length-append given (w ∷ []), lt)

too_long : (given : List Text) (w : Text) (o : Option (List Text)) (all : List Text) (limit : ℕ) → limit ≤ length given → option_map (λ ws. given ++ ws) (option_map (λ ws. w ∷ ws) o) ≡ Some all → limit < length all
too_long given w None all limit ge e = absurd (true≢false (sym (ap is_some e)))
too_long given w (Some ws) all limit ge e = let whole = some_of (given ++ w ∷ ws) all e in rw (← whole) (omega (arith, length-append given (w ∷ ws), ge))

-- ---- the walk after the words of so many places

-- a subcommand as it is built, and the names of its words by place
pub record Places : Type 0 where
  pub leaf : Shape
  pub names : List Text

-- what is found for a word that was given
abbrev pub row : Text → Text → Row
row name word = record { id = name; values = word ∷ []; count = None; source = Some CommandLine; reading = reading_of parser.String }

-- the rows of all words but the last, which is pending
abbrev pub rows_at : List Text → List Text → List Row
rows_at [] names = []
rows_at (a ∷ []) names = []
rows_at (a ∷ b ∷ more) [] = []
rows_at (a ∷ b ∷ more) (n ∷ names) = row n a ∷ rows_at (b ∷ more) names

abbrev pub pending_at : List Text → List Text → Option (Text × List Text)
pending_at [] names = None
pending_at (a ∷ more) [] = None
pending_at (a ∷ []) (n ∷ names) = Some (n, a ∷ [])
pending_at (a ∷ b ∷ more) (n ∷ names) = pending_at (b ∷ more) names

abbrev pub at : Places → Bool → List Text → Walk
at p t given = between t (rows_at given p.names) (pending_at given p.names) (length given + 1)

-- what follows the walk
abbrev pub end_passes : Shape → Held → Bool
end_passes leaf h = settle_passes leaf.rules leaf.args_override_self h && (list_all default_passes leaf.rules && is_valid leaf (finished leaf.rules h) false)

abbrev pub end_fault : Shape → Held → Kinds
end_fault leaf h = or_else (settle_fault leaf.rules leaf.args_override_self h) (or_else (defaults_fault (settled leaf.rules h).rows leaf.rules) (check_fault leaf (finished leaf.rules h) false))

-- what one word more does, as it is computed for each number of words, and that none may be wanting
pub record IsWalked (p : Places) : Type 0 where
  pub places : IsByPlace p.leaf.rules
  pub step_trailing : (given : List Text) (w : Text) → length given < length p.names → walked p.leaf.rules [] (at p true given) w ≡ at p true (given ++ w ∷ [])
  pub turn_trailing : (given : List Text) (w : Text) → length given < length p.names → (turn_passes p.leaf [] (at p true given) w ≡ true) × (turn_fault p.leaf [] (at p true given) w ≡ [])
  pub step_by_place : (given : List Text) (w : Text) → length given < length p.names
      → to_positional p.leaf.rules (arg_by_index p.leaf.rules (length given + 1)) w (at p false given) (at p false given).held ≡ at p false (given ++ w ∷ [])
  pub turn_over : (given : List Text) (w : Text) → length given ≤ length p.names → length p.names ≤ length given
      → (turn_passes p.leaf [] (at p true given) w ≡ false) × (turn_fault p.leaf [] (at p true given) w ≡ UnknownArgument ∷ [])
  pub too_few : (t : Bool) (all : List Text) → length all < length p.names → (end_passes p.leaf (at p t all).held ≡ false) × (end_fault p.leaf (at p t all).held ≡ MissingRequiredArgument ∷ [])

-- ---- the whole walk

pub record Reaches (p : Places) (t : Bool) (given words : List Text) : Type 0 where
  pub passes : walk_passes p.leaf [] (at p t given) words ≡ true
  pub clean : walk_fault p.leaf [] (at p t given) words ≡ []
  pub all : List Text
  pub trailing : Bool
  pub ends : fold (walked p.leaf.rules []) (at p t given) words ≡ at p trailing all
  pub fits : length all ≤ length p.names
  pub placed : placed_after given t words ≡ Some all

pub record Fails (p : Places) (t : Bool) (given words : List Text) : Type 0 where
  pub refused : walk_passes p.leaf [] (at p t given) words ≡ false
  pub faulty : walk_fault p.leaf [] (at p t given) words ≡ [] → ⊥
  pub over : (all : List Text) → placed_after given t words ≡ Some all → length p.names < length all

abbrev pub Runs : Places → Bool → List Text → List Text → Type 0
Runs p t given words = Reaches p t given words ⊎ Fails p t given words

-- the words are as many as there are places
pub record Asks (p : Places) (words : List Text) : Type 0 where
  pub all : List Text
  pub trailing : Bool
  pub fits : length all ≤ length p.names
  pub full : length p.names ≤ length all
  pub placed : placed words ≡ Some all
  pub passes : level_passes p.leaf [] nothing_held words false ≡ end_passes p.leaf (at p trailing all).held
  pub rows : rows_after p.leaf.rules [] words ≡ finished p.leaf.rules (at p trailing all).held

pub record Refuses (p : Places) (words : List Text) : Type 0 where
  pub other : (all : List Text) → placed words ≡ Some all → length all ≡ length p.names → ⊥
  pub refused : level_passes p.leaf [] nothing_held words false ≡ false
  pub faulty : level_fault p.leaf [] nothing_held words false [] ≡ [] → ⊥

or_first : (a b : Kinds) → or_else a b ≡ [] → a ≡ []
or_first [] b e = refl
or_first (k ∷ ks) b e = e

module _ (p : Places) (law : IsWalked p) where
  abbrev limit : ℕ
  limit = length p.names

  goes_on : (t u : Bool) (given more : List Text) (w : Text) (rest : List Text) → turn_passes p.leaf [] (at p t given) w ≡ true → turn_fault p.leaf [] (at p t given) w ≡ []
      → walked p.leaf.rules [] (at p t given) w ≡ at p u more → placed_after given t (w ∷ rest) ≡ placed_after more u rest → Runs p u more rest → Runs p t given (w ∷ rest)
  unfolding walk_passes walk_fault
  goes_on t u given more w rest passes clean step same runs = elim runs [
    | inl r ↦ inl (record {
      passes = (λ i. passes i && walk_passes p.leaf [] (step i) rest) ∙ r.passes;
      clean = (λ i. or_else (clean i) (walk_fault p.leaf [] (step i) rest)) ∙ r.clean;
      all = r.all;
      trailing = r.trailing;
      ends = ap (λ v. fold (walked p.leaf.rules []) v rest) step ∙ r.ends;
      fits = r.fits;
      placed = same ∙ r.placed;
    })
    | inr f ↦ inr (record {
      refused = (λ i. passes i && walk_passes p.leaf [] (step i) rest) ∙ f.refused;
      faulty = λ e. f.faulty (sym (λ i. or_else (clean i) (walk_fault p.leaf [] (step i) rest)) ∙ e);
      over = λ all e. f.over all (sym same ∙ e);
    })
  ]

  stops : (t : Bool) (given : List Text) (w : Text) (rest : List Text) → turn_passes p.leaf [] (at p t given) w ≡ false → turn_fault p.leaf [] (at p t given) w ≡ UnknownArgument ∷ []
      → ((all : List Text) → placed_after given t (w ∷ rest) ≡ Some all → limit < length all) → Runs p t given (w ∷ rest)
  unfolding walk_passes walk_fault
  stops t given w rest refused fault over = inr (record {
    refused = ap (λ b. b && walk_passes p.leaf [] (walked p.leaf.rules [] (at p t given) w) rest) refused;
    faulty = λ e.
        let bad : UnknownArgument ∷ [] ≡ [] = sym (ap (λ k. or_else k (walk_fault p.leaf [] (walked p.leaf.rules [] (at p t given) w) rest)) fault) ∙ e in
        let lengths : 1 ≡ 0 = ap length bad in
        omega (arith, lengths);
    over = over;
  })

  -- a word past `--`
  next_trailing : (given : List Text) (w : Text) (rest : List Text) → length given ≤ limit → (length given < limit → Runs p true (given ++ w ∷ []) rest) → Runs p true given (w ∷ rest)
  next_trailing given w rest le later =
      by_room (length given) limit (Runs p true given (w ∷ rest))
      (λ lt.
      let turn = law.turn_trailing given w lt in
      goes_on true true given (given ++ w ∷ []) w rest turn.0 turn.1 (law.step_trailing given w lt) (ap Some (sym (append_assoc given (w ∷ []) rest))) (later lt))
      (λ ge.
      let turn = law.turn_over given w le ge in
      stops true given w rest turn.0 turn.1 (λ all e. let whole = some_of (given ++ w ∷ rest) all e in rw (← whole) (omega (arith, length-append given (w ∷ rest), ge))))

  -- a word that is no flag
  next_by_place : (given : List Text) (w : Text) (rest : List Text) → length given ≤ limit → bytes_eq w dashes ≡ false → flag_like w ≡ false
      → (length given < limit → Runs p false (given ++ w ∷ []) rest) → Runs p false given (w ∷ rest)
  next_by_place given w rest le e f later =
      let quiet = value_turn p.leaf [] law.places (rows_at given p.names) (pending_at given p.names) (length given + 1) w refl e f in
      let words_are : placed (w ∷ rest) ≡ option_map (λ ws. w ∷ ws) (placed rest) =
      (λ i. cond (e i) (Some rest) (cond (f i) None (option_map (λ ws. w ∷ ws) (placed rest)))) in
      by_room (length given) limit (Runs p false given (w ∷ rest))
      (λ lt.
      let turn = law.turn_trailing given w lt in
      goes_on false false given (given ++ w ∷ []) w rest (quiet.passes ∙ turn.0) (quiet.fault ∙ turn.1) (quiet.step ∙ law.step_by_place given w lt)
      (ap (option_map (λ ws. given ++ ws)) words_are ∙ more_of given w (placed rest)) (later lt))
      (λ ge.
      let turn = law.turn_over given w le ge in
      stops false given w rest (quiet.passes ∙ turn.0) (quiet.fault ∙ turn.1)
      (λ all h. too_long given w (placed rest) all limit ge (sym (ap (option_map (λ ws. given ++ ws)) words_are) ∙ h)))

  next_dashes : (given : List Text) (w : Text) (rest : List Text) → bytes_eq w dashes ≡ true → Runs p true given rest → Runs p false given (w ∷ rest)
  next_dashes given w rest e later =
      let turn = dashes_turn p.leaf [] law.places (rows_at given p.names) (pending_at given p.names) (length given + 1) w refl e in
      goes_on false true given given w rest turn.passes turn.clean turn.step
      (λ i. option_map (λ ws. given ++ ws) (cond (e i) (Some rest) (cond (flag_like w) None (option_map (λ ws. w ∷ ws) (placed rest))))) later

  next_flag : (given : List Text) (w : Text) (rest : List Text) → bytes_eq w dashes ≡ false → flag_like w ≡ true → Runs p false given (w ∷ rest)
  next_flag given w rest e f =
      let turn = flag_turn p.leaf [] law.places (rows_at given p.names) (pending_at given p.names) (length given + 1) w refl e f in
      let none : placed_after given false (w ∷ rest) ≡ None =
      (λ i. option_map (λ ws. given ++ ws) (cond (e i) (Some rest) (cond (f i) None (option_map (λ ws. w ∷ ws) (placed rest))))) in
      stops false given w rest turn.0 turn.1
      (λ all h. let bad : false ≡ true = ap is_some (sym none ∙ h) in absurd (true≢false (sym bad)))

  run : (t : Bool) (given words : List Text) → length given ≤ limit → Runs p t given words
  unfolding walk_passes walk_fault
  run true given [] le = inl (record { passes = refl; clean = refl; all = given; trailing = true; ends = refl; fits = le; placed = ap Some (append-nil given) })
  run false given [] le = inl (record { passes = refl; clean = refl; all = given; trailing = false; ends = refl; fits = le; placed = ap Some (append-nil given) })
  run true given (w ∷ rest) le = next_trailing given w rest le (λ lt. run true (given ++ w ∷ []) rest (longer given w limit lt))
  run false given (w ∷ rest) le = elim (cases_Bool (bytes_eq w dashes)) [
    | inl e ↦ next_dashes given w rest e (run true given rest le)
    | inr e ↦ elim (cases_Bool (flag_like w)) [
      | inl f ↦ next_flag given w rest e f
      | inr f ↦ next_by_place given w rest le e f (λ lt. run false (given ++ w ∷ []) rest (longer given w limit lt))
    ]
  ]

  -- ---- the level of the subcommand

  past_walk : (words : List Text) (r : Reaches p false [] words) → level_fault p.leaf [] nothing_held words false [] ≡ end_fault p.leaf (at p r.trailing r.all).held
  past_walk words r = (λ i. or_else (r.clean i) (end_fault p.leaf (r.ends i).held))

  passes_walk : (words : List Text) (r : Reaches p false [] words) → level_passes p.leaf [] nothing_held words false ≡ end_passes p.leaf (at p r.trailing r.all).held
  passes_walk words r = (λ i. r.passes i && end_passes p.leaf (r.ends i).held)

  few_refused : (words : List Text) (r : Reaches p false [] words) → length r.all < limit → Refuses p words
  few_refused words r lt =
      let few = law.too_few r.trailing r.all lt in
      record {
        other = λ all e same.
            let whole = some_of r.all all (sym r.placed ∙ nothing_before (placed words) ∙ e) in
            let lengths : length r.all ≡ length all = ap length whole in
            omega (arith, lengths, same, lt);
        refused = passes_walk words r ∙ few.0;
        faulty = λ e.
            let bad : 1 ≡ 0 = ap length (sym (past_walk words r ∙ few.1) ∙ e) in
            omega (arith, bad);
      }

  all_asked : (words : List Text) (r : Reaches p false [] words) → limit ≤ length r.all → Asks p words
  all_asked words r ge = record {
    all = r.all;
    trailing = r.trailing;
    fits = r.fits;
    full = ge;
    placed = sym (nothing_before (placed words)) ∙ r.placed;
    passes = passes_walk words r;
    rows = ap (λ v. finished p.leaf.rules v.held) r.ends;
  }

  fails_refused : (words : List Text) → Fails p false [] words → Refuses p words
  fails_refused words f = record {
    other = λ all e same.
        let over : limit < length all = f.over all (ap (option_map (λ ws. [] ++ ws)) e) in
        omega (arith, over, same);
    refused = ap (λ b. b && end_passes p.leaf (walk p.leaf.rules [] nothing_held words).held) f.refused;
    faulty = λ e. f.faulty (or_first _ _ e);
  }

  -- the subcommand takes the words after its name, or refuses them
  pub leaf_runs : (words : List Text) → Asks p words ⊎ Refuses p words
  leaf_runs words = elim (run false [] words (omega arith)) [
    | inl r ↦ by_room (length r.all) limit (Asks p words ⊎ Refuses p words) (λ lt. inr (few_refused words r lt)) (λ ge. inl (all_asked words r ge))
    | inr f ↦ inr (fails_refused words f)
  ]
