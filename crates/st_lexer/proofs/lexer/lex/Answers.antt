use Rattle.std.proofs.Common.{◌≡◌, ◌<◌, length, refl, ap, ◌∙◌, sym, None, arith}
use Rattle.std.proofs.lemmas.List.Elements.{All-nil}
use Rattle.std.proofs.lemmas.Grind.{common_steps}
use Rattle.source_tree.specs.Terminals.{IsClassified}
use Rattle.st_lexer.specs.Parts.{KeepsRules}
use Rattle.std.proofs.lemmas.Bool.Decides.{nat_tests}
use Rattle.std.proofs.lemmas.List.{map-append}
use Rattle.st_lexer.specs.declared.front.Front.TheVariants.{Gap, Token}
use Rattle.st_lexer.specs.Lexing.{lexeme_of, lexemes_of}
use Rattle.st_lexer.proofs.Beginnings.{IsFront, front_formed}
use Rattle.st_lexer.proofs.Blanks.{read_gap, lexed_blanks}
use Rattle.st_lexer.proofs.Spellings.{lexed_start, lexed_token_at, lexed_end}
use Rattle.st_lexer.proofs.Breaks.{read_start, read_front, read_broken, read_stuck, read_end, token_says, kept_push, right_fault}
use Rattle.st_lexer.proofs.Pushes.{classified_push, placed_on, placed_push}
use Rattle.st_lexer.proofs.lexer.lex.Goals as goal

pub loop-rest-init : goal.loop-rest-init
loop-rest-init c =
    let s = c.split_at.ensures.back in
    let e = c.new-tokens.ensures.items in
    let m = c.mark_len-at.ensures.len in
    record {
      place = omega arith;
      read = rw (s, m) (read_start c.args.text.now);
      kept = rw e (All-nil KeepsRules);
      classified = rw e (All-nil IsClassified);
      placed = rw e tt;
      lexed = rw (s, e, m) (lexed_start c.args.text.now);
    }

pub returns-in-None-clause-refused : goal.returns-in-None-clause-refused
returns-in-None-clause-refused c =
    let left : 0 < length c.loop-rest.rest.now = grind (arith, nat_tests) in
    let first = read_stuck c.args.text.now c.loop-rest.at c.loop-rest.rest.now left (sym c.in-None.ensures.front) c.loop-rest.invariant.read in
    right_fault c.args.text.now _ _ c.loop-rest.at _ c.refused.ensures c.stuck_rule.ensures first

pub loop-rest-preserved-in-Some-Gap : goal.loop-rest-preserved-in-Some-Gap
loop-rest-preserved-in-Some-Gap c =
    let size = rw c.in-Some-Gap.field-0-is at c.in-Some-Gap.ensures.size in
    let f : IsFront c.loop-rest.rest.now (Gap c.in-Some-Gap.size) = record { front = (cc); some = size.0; within = size.1 } in
    record {
      place = omega arith;
      read = read_gap _ _ c.in-Some-Gap.size c.gap_len-size.result _ _ f c.gap_len-size.ensures.len c.split_at-in-Some-Gap.ensures.back c.loop-rest.invariant.read;
      kept = c.loop-rest.invariant.kept;
      classified = c.loop-rest.invariant.classified;
      placed = placed_on 0 _ _ _ (omega arith) c.loop-rest.invariant.placed;
      lexed = lexed_blanks _ _ c.in-Some-Gap.size c.gap_len-size.result _ _ _ f c.gap_len-size.ensures.len c.split_at-in-Some-Gap.ensures.back c.loop-rest.invariant.lexed;
    }

pub returns-in-Err-clause-refused : goal.returns-in-Err-clause-refused
returns-in-Err-clause-refused c =
    let size = rw c.in-Some-Token.field-0-is at c.in-Some-Token.ensures.size in
    let f : IsFront c.loop-rest.rest.now (Token c.in-Some-Token.class c.in-Some-Token.size) = record { front = (cc); some = size.0; within = size.1 } in
    let slice = c.token_text-slice.ensures ∙ c.split_at-in-Some-Token.ensures.front in
    let says = token_says c.in-Some-Token.class c.in-Some-Token.size c.loop-rest.rest.now _ _ _ slice refl c.in-Err.ensures.broken in
    let first = read_broken c.args.text.now c.loop-rest.at c.loop-rest.rest.now _ c.in-Err.rule f says c.loop-rest.invariant.read in
    right_fault c.args.text.now _ _ c.loop-rest.at _ c.refused-in-Err.ensures refl first

pub loop-rest-preserved : goal.loop-rest-preserved
loop-rest-preserved c =
    let size = rw c.in-Some-Token.field-0-is at c.in-Some-Token.ensures.size in
    let f : IsFront c.loop-rest.rest.now (Token c.in-Some-Token.class c.in-Some-Token.size) = record { front = (cc); some = size.0; within = size.1 } in
    let slice = c.token_text-slice.ensures ∙ c.split_at-in-Some-Token.ensures.front in
    let items = ap lexemes_of c.in_ok-push-in-Some-Token.ensures.items ∙ map-append lexeme_of c.loop-rest.tokens.items _ in
    let none = c.in-Ok.ensures.kept in
    let says = token_says c.in-Some-Token.class c.in-Some-Token.size c.loop-rest.rest.now _ _ None slice refl none in
    record {
      place = omega arith;
      read = read_front _ _ _ (Token c.in-Some-Token.class c.in-Some-Token.size) _ f c.split_at-in-Some-Token.ensures.back says c.loop-rest.invariant.read;
      kept = kept_push _ _ _ items none c.loop-rest.invariant.kept;
      classified = classified_push _ _ _ c.in_ok-push-in-Some-Token.ensures.items c.in-Ok.ensures.value c.loop-rest.invariant.classified;
      placed = placed_push _ _ _ _ c.in_ok-push-in-Some-Token.ensures.items (omega (arith, f.some)) c.loop-rest.invariant.placed;
      lexed = lexed_token_at _ _ c.in-Some-Token.size c.in-Some-Token.class _ _ _ _ _ f c.split_at-in-Some-Token.ensures.back slice items c.loop-rest.invariant.lexed;
    }

pub returns-clause-spelled : goal.returns-clause-spelled
returns-clause-spelled c =
    let none : length c.loop-rest.rest.now ≡ 0 = grind (arith, nat_tests) in
    lexed_end c.args.text.now _ _ _ none c.loop-rest.invariant.lexed

pub returns-clause-sound : goal.returns-clause-sound
returns-clause-sound c =
    let none : length c.loop-rest.rest.now ≡ 0 = grind (arith, nat_tests) in
    read_end c.args.text.now _ _ none c.loop-rest.invariant.read

pub returns-clause-placed : goal.returns-clause-placed
returns-clause-placed c =
    let none : length c.loop-rest.rest.now ≡ 0 = grind (arith, nat_tests) in
    placed_on 0 _ _ _ (omega arith) c.loop-rest.invariant.placed

pub token_text-slice-requires : goal.token_text-slice-requires
token_text-slice-requires c =
    let size = rw c.in-Some-Token.field-0-is at c.in-Some-Token.ensures.size in
    let f : IsFront c.loop-rest.rest.now (Token c.in-Some-Token.class c.in-Some-Token.size) = record { front = (cc); some = size.0; within = size.1 } in
    rw c.split_at-in-Some-Token.ensures.front (front_formed c.loop-rest.rest.now _ f)
