use Rattle.std.proofs.Common.{ℕ, [], ◌∷◌, ◌++◌, length, sym, ◌∙◌, arith}
use Rattle.std.proofs.lemmas.Result.{err_from_is_err_and}
use Rattle.grammar.specs.Reading.{ahead}
use Rattle.grammar.proofs.Turns.{one_more, no_more}
use Rattle.candidates.specs.PairView.{old_of, new_of}
use Rattle.relation_lines.specs.View.{line_view}
use Rattle.relation_file.specs.LinePass.{lines_on}
use Rattle.relation_file.proofs.LinePassLemmas.{from_first, all_read, all_read_last, more_left, one_read, none_read}
use Rattle.relation_file.proofs.line_pass.pass_lines.Goals as goal

pub loop-turn-init : goal.loop-turn-init
loop-turn-init c =
    record { lines = []; read = from_first (length c.args.toks.now) 64 _ (ahead c.args.toks.now 0) (omega arith); passed = c.new-pass.ensures (old_of c.args.pair.now) (new_of c.args.pair.now) c.args.end }

pub returns-then-has_ended : goal.returns-then-has_ended
returns-then-has_ended c =
    let n = length c.args.toks.now in
    let w = c.loop-turn.invariant in
    let ts = ahead c.args.toks.now c.loop-turn.at in
    record {
      lines = w.lines;
      read =
          one_more (λ (k : ℕ). lines_on n 64 k w.lines ts) _ c.loop-turn._turn c.loop-turn-test.true w.read
          ∙ all_read n 64 _ w.lines ts (sym c.has_ended.ensures ∙ c.if-has_ended.true);
      passed = w.passed;
    }

pub returns-in_err-next : goal.returns-in_err-next
returns-in_err-next c =
    let n = length c.args.toks.now in
    let w = c.loop-turn.invariant in
    let ts = ahead c.args.toks.now c.loop-turn.at in
    let p = err_from_is_err_and c.from_residual.result c.from_residual.ensures.1 in
    rw (p.1, p.2) (λ h.
    one_more (λ (k : ℕ). lines_on n 64 k w.lines ts) _ c.loop-turn._turn c.loop-turn-test.true w.read
    ∙ none_read n 64 _ w.lines ts (sym c.has_ended.ensures ∙ c.if-has_ended.false) (c.in_err-next.ensures h))

pub loop-turn-preserved : goal.loop-turn-preserved
loop-turn-preserved c =
    let n = length c.args.toks.now in
    let w = c.loop-turn.invariant in
    let ts = ahead c.args.toks.now c.loop-turn.at in
    let l = line_view c.in_ok-next.next in
    record {
      lines = w.lines ++ l ∷ [];
      read =
          one_more (λ (k : ℕ). lines_on n 64 k w.lines ts) _ c.loop-turn._turn c.loop-turn-test.true w.read
          ∙ one_read n 64 _ w.lines ts (ahead c.args.toks.now c.in_ok-next.behind) l (sym c.has_ended.ensures ∙ c.if-has_ended.false) c.in_ok-next.ensures;
      passed = c.in_ok-note.ensures c.args.end w.lines w.passed;
    }

pub returns-then-has_ended-2 : goal.returns-then-has_ended-2
returns-then-has_ended-2 c =
    let n = length c.args.toks.now in
    let w = c.loop-turn.invariant in
    let ts = ahead c.args.toks.now c.loop-turn.at in
    record {
      lines = w.lines;
      read =
          no_more (λ (k : ℕ). lines_on n 64 k w.lines ts) _ c.loop-turn._turn c.loop-turn-test.false w.read
          ∙ all_read_last n 64 w.lines ts (sym c.has_ended-2.ensures ∙ c.if-has_ended-2.true);
      passed = w.passed;
    }

pub returns-else-has_ended-2 : goal.returns-else-has_ended-2
returns-else-has_ended-2 c = λ h.
    let n = length c.args.toks.now in
    let w = c.loop-turn.invariant in
    let ts = ahead c.args.toks.now c.loop-turn.at in
    no_more (λ (k : ℕ). lines_on n 64 k w.lines ts) _ c.loop-turn._turn c.loop-turn-test.false w.read
    ∙ more_left n 64 w.lines ts (sym c.has_ended-2.ensures ∙ c.if-has_ended-2.false)
