-- What the words of the command line ask for, by clap's definitions.
use Rattle.std.proofs.Common.{subst, Result, Ok, Err, IfOk, IsErr, true≢false, if◌then◌else◌, ◌≡◌, ◌∙◌, ◌⊎◌, inl, inr, true, false, refl, sym, ap, List, [], ◌∷◌, Option, Some, None, is_some, drop}
use Rattle.std.specs.List.{All}
use Rattle.std.specs.Option.{option_map_or}
use Rattle.std.specs.Str.{IsUtf8}
use Rattle.std.specs.declared.alloc.AllocError.{AllocError}
use Rattle.command_line.specs.declared.Command.{Command}
use Rattle.clap.specs.Walk.{Row, Text}
use Rattle.clap.specs.Simple.{subcommand_of}
use Rattle.clap.specs.Takes.{takes}
use Rattle.clap.specs.Faults.{fault_of}
use Rattle.command_line.specs.Subcommands.{Subcommand, checks, explains, generates, replays, verifies, name_of, named}
use Rattle.command_line.specs.Asked.{Asked, asked, asked_by, asked_of, read_as, subcommand_asked, usage}
use Rattle.command_line.specs.Grammar.{grammar}
use Rattle.command_line.specs.Plain.{by_place, command_asked, plainly_asked}
use Rattle.command_line.proofs.Plainly.{placed_is, utf8_after}
use Rattle.command_line.proofs.Tops.{AsksAll, RefusesAll, top_runs}
use Rattle.command_line.proofs.Walks.{rows_of}

-- what is found for the words asks for what the words do
asked_at : (s : Subcommand) (all : List Text) → subcommand_asked (name_of s, rows_of s all) ≡ asked_of s all
asked_at checks [] = refl
asked_at checks (a ∷ []) = refl
asked_at checks (a ∷ b ∷ []) = refl
asked_at checks (a ∷ b ∷ c ∷ []) = refl
asked_at checks (a ∷ b ∷ c ∷ d ∷ []) = refl
asked_at checks (a ∷ b ∷ c ∷ d ∷ e ∷ rest) = refl
asked_at explains [] = refl
asked_at explains (a ∷ []) = refl
asked_at explains (a ∷ b ∷ []) = refl
asked_at explains (a ∷ b ∷ c ∷ []) = refl
asked_at explains (a ∷ b ∷ c ∷ d ∷ []) = refl
asked_at explains (a ∷ b ∷ c ∷ d ∷ e ∷ rest) = refl
asked_at replays [] = refl
asked_at replays (a ∷ []) = refl
asked_at replays (a ∷ b ∷ []) = refl
asked_at replays (a ∷ b ∷ c ∷ []) = refl
asked_at replays (a ∷ b ∷ c ∷ d ∷ []) = refl
asked_at replays (a ∷ b ∷ c ∷ d ∷ e ∷ rest) = refl
asked_at verifies [] = refl
asked_at verifies (a ∷ []) = refl
asked_at verifies (a ∷ b ∷ []) = refl
asked_at verifies (a ∷ b ∷ c ∷ []) = refl
asked_at verifies (a ∷ b ∷ c ∷ d ∷ []) = refl
asked_at verifies (a ∷ b ∷ c ∷ d ∷ e ∷ rest) = refl
asked_at generates [] = refl
asked_at generates (a ∷ []) = refl
asked_at generates (a ∷ b ∷ rest) = refl

-- clap takes the words, as a subcommand's
pub record Takes (words : List Text) : Type 0 where
  pub subcommand : Subcommand
  pub all : List Text
  pub taken : takes grammar words ≡ true
  pub read : subcommand_of grammar words ≡ Some (name_of subcommand, rows_of subcommand all)
  pub asks : asked words ≡ asked_of subcommand all
  pub plain : All IsUtf8 words → plainly_asked words ≡ asked_of subcommand all
  pub some : asked_of subcommand all ≡ usage → ⊥

-- clap refuses the words
pub record Refuses (words : List Text) : Type 0 where
  pub refused : takes grammar words ≡ false
  pub faulty : fault_of grammar words ≡ [] → ⊥
  pub asks : asked words ≡ usage
  pub plain : All IsUtf8 words → plainly_asked words ≡ usage

abbrev by_subcommand : Option Subcommand → List Text → Asked
by_subcommand o rest = option_map_or (λ s. asked_by s (by_place rest)) o usage

plain_asked : (body : List Text) (r : AsksAll body) → All IsUtf8 body → command_asked body ≡ asked_of r.subcommand r.asks.all
plain_asked body r utf8 =
    let rest_utf8 : All IsUtf8 r.rest = subst (λ ws. All IsUtf8 (drop 1 ws)) r.parts (utf8_after body utf8) in
    ap command_asked r.parts ∙ ap (λ o. by_subcommand o r.rest) r.is
    ∙ ap (asked_by r.subcommand) (sym (placed_is r.rest rest_utf8) ∙ r.asks.placed)

plain_other : (name : Text) (rest : List Text) (o : Option Subcommand) → named name ≡ o → RefusesAll (name ∷ rest) → All IsUtf8 (name ∷ rest) → command_asked (name ∷ rest) ≡ usage
plain_other name rest None e f utf8 = ap (λ o. by_subcommand o rest) e
plain_other name rest (Some s) e f utf8 =
    ap (λ o. by_subcommand o rest) e ∙ ap (asked_by s) (sym (placed_is rest (utf8_after (name ∷ rest) utf8))) ∙ f.other name rest s refl e

plain_usage : (body : List Text) → RefusesAll body → All IsUtf8 body → command_asked body ≡ usage
plain_usage [] f utf8 = refl
plain_usage (name ∷ rest) f utf8 = plain_other name rest (named name) refl f utf8

pub reading : (words : List Text) → Takes words ⊎ Refuses words
unfolding asked plainly_asked
reading words = elim (top_runs (drop 1 words)) [
  | inl r ↦ inl (record {
    subcommand = r.subcommand;
    all = r.asks.all;
    taken = r.taken;
    read = r.met;
    asks = (λ i. if r.taken i then option_map_or subcommand_asked (r.met i) usage else usage) ∙ asked_at r.subcommand r.asks.all;
    plain = λ utf8. plain_asked (drop 1 words) r (utf8_after words utf8);
    some = r.asks.asks;
  })
  | inr f ↦ inr (record {
    refused = f.taken;
    faulty = f.faulty;
    asks = λ i. if f.taken i then option_map_or subcommand_asked (subcommand_of grammar words) usage else usage;
    plain = λ utf8. plain_usage (drop 1 words) f (utf8_after words utf8);
  })
]

not_usage : (command : Option Command) (s : Subcommand) (all : List Text) → read_as command ≡ asked_of s all → (asked_of s all ≡ usage → ⊥) → is_some command ≡ true
not_usage None s all e some = absurd (some (sym e))
not_usage (Some command) s all e some = refl

-- where clap found no fault, what it read is what the words ask for
pub ok_asked : (words : List Text) (rows : Option (Text × List Row)) → fault_of grammar words ≡ [] → rows ≡ subcommand_of grammar words
    → option_map_or subcommand_asked rows usage ≡ asked words
ok_asked words rows clean same = elim (reading words) [
  | inl t ↦ ap (λ o. option_map_or subcommand_asked o usage) (same ∙ t.read) ∙ asked_at t.subcommand t.all ∙ sym t.asks
  | inr f ↦ absurd (f.faulty clean)
]

pub ok_taken : (words : List Text) (command : Option Command) (rows : Option (Text × List Row)) → fault_of grammar words ≡ [] → rows ≡ subcommand_of grammar words
    → read_as command ≡ option_map_or subcommand_asked rows usage → is_some command ≡ takes grammar words
ok_taken words command rows clean same is = elim (reading words) [
  | inl t ↦ not_usage command t.subcommand t.all
      (is ∙ ap (λ o. option_map_or subcommand_asked o usage) (same ∙ t.read) ∙ asked_at t.subcommand t.all) t.some ∙ sym t.taken
  | inr f ↦ absurd (f.faulty clean)
]

-- where clap refused them, and not for want of memory, they ask for none
pub refused_taken : (words : List Text) (r : Result (Option Command) AllocError) → (takes grammar words ≡ true → IsErr r) → IfOk r (λ command. command ≡ None)
    → IfOk r (λ command. is_some command ≡ takes grammar words)
refused_taken words (Err e) memory none = tt
refused_taken words (Ok command) memory none = elim (reading words) [
  | inl t ↦ absurd (true≢false (sym (memory t.taken)))
  | inr f ↦ ap is_some none ∙ sym f.refused
]

pub refused_asked : (words : List Text) (r : Result (Option Command) AllocError) → (takes grammar words ≡ true → IsErr r) → IfOk r (λ command. command ≡ None)
    → IfOk r (λ command. read_as command ≡ asked words)
refused_asked words (Err e) memory none = tt
refused_asked words (Ok command) memory none = elim (reading words) [
  | inl t ↦ absurd (true≢false (sym (memory t.taken)))
  | inr f ↦ ap read_as none ∙ sym f.asks
]

-- on texts, clap's rules are the plain ones
pub asked_plainly : (words : List Text) → All IsUtf8 words → asked words ≡ plainly_asked words
asked_plainly words utf8 = elim (reading words) [
  | inl t ↦ t.asks ∙ sym (t.plain utf8)
  | inr f ↦ f.asks ∙ sym (f.plain utf8)
]
