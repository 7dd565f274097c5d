-- What clap's walk makes of one word, at a command whose arguments are all by place.
use Rattle.std.proofs.Common.{cond, true≢false, ◌≡◌, ◌∙◌, ◌<◌, ◌&&◌, ◌||◌, ℕ, Bool, true, false, zero, suc, refl, sym, ap, arith, List, [], ◌∷◌, length, Option, Some, None, is_some}
use Rattle.std.specs.Prelude.{drop, encode_utf8, slice_get}
use Rattle.std.specs.Option.{option_map_or}
use Rattle.std.specs.Str.{bytes_eq, chars}
use Rattle.clap.specs.Lexer.{long_of, short_of}
use Rattle.clap.specs.Walk.{Held, Names, Row, Rule, Step, Text, Walk, after_flag, after_step, arg_by_index, arg_by_long, arg_by_short, bundle_met, bundle_step, idle, long_or_other, long_word, plain, short_or_plain, subcommand_met, subcommand_or_other, to_positional, trailing, value, walked}
use Rattle.clap.specs.Simple.{Shape}
use Rattle.clap.specs.Takes.{bundle_passes, bundle_step_passes, flag_word_passes, flags_pass, long_passes, other_passes, short_passes, step_passes, turn_passes}
use Rattle.clap.specs.Kinds.{Kinds, or_else}
use Rattle.clap.specs.declared.error.ErrorKind.TheVariants.{UnknownArgument}
use Rattle.clap.specs.Faults.{bundle_fault, bundle_step_fault, flag_word_fault, flags_fault, long_fault, other_fault, short_fault, step_fault, turn_fault}

-- the walk between two words
abbrev pub between : Bool → List Row → Option (Text × List Text) → ℕ → Walk
between t rows pending position = record {
  held = record { rows = rows; pending = pending; skip = 0 };
  waiting = idle;
  position = position;
  is_trailing = t;
  stopped = None;
}

abbrev pub held : List Row → Option (Text × List Text) → Held
held rows pending = record { rows = rows; pending = pending; skip = 0 }

abbrev pub dashes : Text
dashes = 45 ∷ 45 ∷ []

abbrev pub has_first_char : Text → Bool
has_first_char flags = is_some (slice_get (chars flags) 0)

-- the word is a flag to clap, by its two forms
abbrev flag_by : Option (Text × Option Text) → Option Text → Bool
flag_by long short = is_some long || option_map_or has_first_char short false

abbrev pub flag_like : Text → Bool
flag_like w = is_some (long_of w) || option_map_or has_first_char (short_of w) false

some_length : (flags : Text) (x : ℕ) → slice_get (chars flags) 0 ≡ Some x → 0 < length flags
unfolding chars
some_length [] x e = absurd (true≢false (sym (ap is_some e)))
some_length (y ∷ ys) x e = omega arith

first_char : (o : Option ℕ) → is_some o ≡ true → (x : ℕ) × (o ≡ Some x)
first_char None e = absurd (true≢false (sym e))
first_char (Some x) e = (x, refl)

none_left : (o : Option ℕ) → is_some o ≡ false → o ≡ None
none_left None e = refl
none_left (Some x) e = absurd (true≢false e)

-- no argument has a name
pub record IsByPlace (c : List Rule) : Type 0 where
  pub long : (name : Text) → arg_by_long c name ≡ None
  pub short : (x : ℕ) → arg_by_short c x ≡ None

module _ (c : List Rule) (again : Bool) (by_place : IsByPlace c) where
  -- what clap makes of a word that is not `--`, by its two forms
  abbrev forms_pass : Option (Text × Option Text) → Option Text → Held → Bool
  forms_pass (Some p) short h = long_passes c again (arg_by_long c p.0) p.1 h
  forms_pass None short h = option_map_or (λ flags. bundle_passes c again flags h) short true

  abbrev forms_fault : Option (Text × Option Text) → Option Text → Held → Kinds
  forms_fault (Some p) short h = long_fault c again (arg_by_long c p.0) p.1 h
  forms_fault None short h = option_map_or (λ flags. bundle_fault c again flags h) short []

  abbrev forms_met : Option (Text × Option Text) → Option Text → Text → Held → Held × Step
  forms_met (Some p) short w h = long_word c idle w p.0 p.1 h
  forms_met None short w h = short_or_plain c idle w short h

  passes_as : (long : Option (Text × Option Text)) (w : Text) (h : Held) → flag_word_passes c again long w h ≡ forms_pass long (short_of w) h
  passes_as (Some p) w h = refl
  passes_as None w h = refl

  fault_as : (long : Option (Text × Option Text)) (w : Text) (h : Held) → flag_word_fault c again long w h ≡ forms_fault long (short_of w) h
  fault_as (Some p) w h = refl
  fault_as None w h = refl

  met_as : (long : Option (Text × Option Text)) (w : Text) (h : Held) → long_or_other c idle w long h ≡ forms_met long (short_of w) w h
  met_as (Some p) w h = refl
  met_as None w h = refl

  flags_refused : (k : ℕ) (flags : Text) (x : ℕ) (h : Held) → 0 < k → slice_get (chars flags) 0 ≡ Some x
      → (flags_pass c again k flags 0 h ≡ false) × (flags_fault c again k flags 0 h ≡ UnknownArgument ∷ [])
  unfolding flags_pass flags_fault
  flags_refused zero flags x h lt e = absurd (omega (arith, lt))
  flags_refused (suc k) flags x h lt e =
      let rest = drop (length (encode_utf8 x)) flags in (
        ap (λ o. bundle_step_passes c again o flags 0 h (flags_pass c again k)) e ∙ ap (λ a. short_passes c again a rest h (flags_pass c again k rest 0)) (by_place.short x),
        ap (λ o. bundle_step_fault c again o flags 0 h (flags_fault c again k)) e ∙ ap (λ a. short_fault c again a rest h (flags_fault c again k rest 0)) (by_place.short x),
      )

  word_refused : (rows : List Row) (pending : Option (Text × List Text)) (long : Option (Text × Option Text)) (short : Option Text) → flag_by long short ≡ true
      → (forms_pass long short (held rows pending) ≡ false) × (forms_fault long short (held rows pending) ≡ UnknownArgument ∷ [])
  word_refused rows pending (Some p) short e =
      (ap (λ a. long_passes c again a p.1 (held rows pending)) (by_place.long p.0), ap (λ a. long_fault c again a p.1 (held rows pending)) (by_place.long p.0))
  word_refused rows pending None None e = absurd (true≢false (sym e))
  word_refused rows pending None (Some flags) e =
      let first = first_char (slice_get (chars flags) 0) e in
      flags_refused (length flags) flags first.0 (held rows pending) (some_length flags first.0 first.1) first.1

  quiet_bundle : (k : ℕ) (flags : Text) (h : Held) → slice_get (chars flags) 0 ≡ None
      → (bundle_met c k flags 0 plain h ≡ (h, plain)) × (flags_pass c again k flags 0 h ≡ true) × (flags_fault c again k flags 0 h ≡ [])
  unfolding bundle_met flags_pass flags_fault
  quiet_bundle zero flags h e = (refl, refl, refl)
  quiet_bundle (suc k) flags h e = (
    ap (λ o. bundle_step c o flags 0 plain h (bundle_met c k)) e,
    ap (λ o. bundle_step_passes c again o flags 0 h (flags_pass c again k)) e,
    ap (λ o. bundle_step_fault c again o flags 0 h (flags_fault c again k)) e,
  )

  record IsQuiet (long : Option (Text × Option Text)) (short : Option Text) (w : Text) (h : Held) : Type 0 where
    passes : forms_pass long short h ≡ true
    clean : forms_fault long short h ≡ []
    met : forms_met long short w h ≡ (h, value)

  word_quiet : (rows : List Row) (pending : Option (Text × List Text)) (w : Text) (long : Option (Text × Option Text)) (short : Option Text) → flag_by long short ≡ false
      → IsQuiet long short w (held rows pending)
  word_quiet rows pending w (Some p) short e = absurd (true≢false e)
  word_quiet rows pending w None None e = record { passes = refl; clean = refl; met = refl }
  word_quiet rows pending w None (Some flags) e =
      let quiet = quiet_bundle (length flags) flags (held rows pending) (none_left _ e) in
      record { passes = quiet.1; clean = quiet.2; met = ap (λ p. after_flag c idle w p.0 p.1) quiet.0 }

module _ (s : Shape) (names : Names) (by_place : IsByPlace s.rules) (rows : List Row) (pending : Option (Text × List Text)) (n : ℕ) (w : Text)
    (not_met : subcommand_met names idle w ≡ None) where
  abbrev start : Walk
  start = between false rows pending n

  -- what the walk asks, by the name of a subcommand that was met and by the word's three tests
  abbrev met_by : Option Text → Held × Step
  met_by name = subcommand_or_other s.rules name idle n w (held rows pending)

  abbrev passes_by : Bool → Bool → Held × Step → Bool
  passes_by is_dashes flag met = (is_dashes || flag) && step_passes s n met.0 met.1

  abbrev fault_by : Bool → Kinds → Held × Step → Kinds
  fault_by is_dashes flag met = or_else (cond is_dashes [] flag) (step_fault s n met.0 met.1)

  abbrev of_dashes : Bool → Held × Step → Held × Step
  of_dashes is_dashes other = cond is_dashes (held rows pending, trailing n) other

  abbrev flag_passes : Bool
  flag_passes = flag_word_passes s.rules s.args_override_self (long_of w) w (held rows pending)

  abbrev flag_faults : Kinds
  flag_faults = flag_word_fault s.rules s.args_override_self (long_of w) w (held rows pending)

  abbrev other : Held × Step
  other = long_or_other s.rules idle w (long_of w) (held rows pending)

  passes_is : turn_passes s names start w ≡ passes_by (bytes_eq w dashes) flag_passes (of_dashes (bytes_eq w dashes) other)
  passes_is = λ i. other_passes s (not_met i) w (held rows pending) && step_passes s n (met_by (not_met i)).0 (met_by (not_met i)).1

  fault_is : turn_fault s names start w ≡ fault_by (bytes_eq w dashes) flag_faults (of_dashes (bytes_eq w dashes) other)
  fault_is = λ i. or_else (other_fault s (not_met i) w (held rows pending)) (step_fault s n (met_by (not_met i)).0 (met_by (not_met i)).1)

  step_is : walked s.rules names start w ≡ after_step s.rules w start (of_dashes (bytes_eq w dashes) other).0 (of_dashes (bytes_eq w dashes) other).1
  unfolding walked
  step_is = λ i. after_step s.rules w start (met_by (not_met i)).0 (met_by (not_met i)).1

  pub record IsDashesTurn : Type 0 where
    pub passes : turn_passes s names (between false rows pending n) w ≡ true
    pub clean : turn_fault s names (between false rows pending n) w ≡ []
    pub step : walked s.rules names (between false rows pending n) w ≡ between true rows pending n

  pub dashes_turn : bytes_eq w dashes ≡ true → IsDashesTurn
  dashes_turn e = record {
    passes = passes_is ∙ (λ i. passes_by (e i) flag_passes (of_dashes (e i) other));
    clean = fault_is ∙ (λ i. fault_by (e i) flag_faults (of_dashes (e i) other));
    step = step_is ∙ (λ i. after_step s.rules w start (of_dashes (e i) other).0 (of_dashes (e i) other).1);
  }

  -- a flag is unknown
  pub flag_turn : bytes_eq w dashes ≡ false → flag_like w ≡ true
      → (turn_passes s names (between false rows pending n) w ≡ false) × (turn_fault s names (between false rows pending n) w ≡ UnknownArgument ∷ [])
  flag_turn e f =
      let refused = word_refused s.rules s.args_override_self by_place rows pending (long_of w) (short_of w) f in
      let passes = passes_as s.rules s.args_override_self by_place (long_of w) w (held rows pending) ∙ refused.0 in
      let fault = fault_as s.rules s.args_override_self by_place (long_of w) w (held rows pending) ∙ refused.1 in (
        passes_is ∙ (λ i. passes_by (e i) (passes i) (of_dashes (bytes_eq w dashes) other)),
        fault_is ∙ (λ i. fault_by (e i) (fault i) (of_dashes (bytes_eq w dashes) other)),
      )

  pub record IsValueTurn : Type 0 where
    pub passes : turn_passes s names (between false rows pending n) w ≡ step_passes s n (held rows pending) value
    pub fault : turn_fault s names (between false rows pending n) w ≡ step_fault s n (held rows pending) value
    pub step : walked s.rules names (between false rows pending n) w ≡ to_positional s.rules (arg_by_index s.rules n) w (between false rows pending n) (held rows pending)

  -- a word that is no flag goes to the next place
  pub value_turn : bytes_eq w dashes ≡ false → flag_like w ≡ false → IsValueTurn
  value_turn e f =
      let quiet = word_quiet s.rules s.args_override_self by_place rows pending w (long_of w) (short_of w) f in
      let passes = passes_as s.rules s.args_override_self by_place (long_of w) w (held rows pending) ∙ quiet.passes in
      let clean = fault_as s.rules s.args_override_self by_place (long_of w) w (held rows pending) ∙ quiet.clean in
      let met = met_as s.rules s.args_override_self by_place (long_of w) w (held rows pending) ∙ quiet.met in
      record {
        passes = passes_is ∙ (λ i. passes_by (e i) (passes i) (of_dashes (e i) (met i)));
        fault = fault_is ∙ (λ i. fault_by (e i) (clean i) (of_dashes (e i) (met i)));
        step = step_is ∙ (λ i. after_step s.rules w start (of_dashes (e i) (met i)).0 (of_dashes (e i) (met i)).1);
      }
