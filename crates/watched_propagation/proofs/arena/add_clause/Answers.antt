use Rattle.std.proofs.Common.{◌≡◌, ◌++◌, map, length, ◌∙◌, ap, arith}
use Rattle.clause_core.specs.Clauses.{rank}
use Rattle.watched_propagation.specs.Arenas.{clauses_of}
use Rattle.watched_propagation.proofs.Spans.{on_err, clauses-more, spans-more, spans-push, clauses-push}
use Rattle.watched_propagation.proofs.arena.add_clause.Goals as goal

pub returns-in_err-push_ranks-clause-spans : goal.returns-in_err-push_ranks-clause-spans
returns-in_err-push_ranks-clause-spans c =
    let m = c.push_ranks.ensures.more in
    rw m.1 (spans-more c.args.codes.now.items m.0 c.args.spans.now.items c.requires.spans)

pub returns-in_err-push_ranks-clause-err : goal.returns-in_err-push_ranks-clause-err
returns-in_err-push_ranks-clause-err c =
    let m = c.push_ranks.ensures.more in
    on_err c.from_residual.result (ap (λ z. clauses_of z c.args.spans.now.items) m.1 ∙ clauses-more c.args.codes.now.items m.0 c.args.spans.now.items c.requires.spans)

pub returns-in_err-push-clause-spans : goal.returns-in_err-push-clause-spans
returns-in_err-push-clause-spans c =
    let m = c.push_ranks.ensures.more in
    rw (c.in_err-push.ensures.items, m.1) (spans-more c.args.codes.now.items m.0 c.args.spans.now.items c.requires.spans)

pub returns-in_err-push-clause-err : goal.returns-in_err-push-clause-err
returns-in_err-push-clause-err c =
    let m = c.push_ranks.ensures.more in
    on_err c.from_residual-in_err-push.result (ap (λ z. clauses_of c.push_ranks.new.codes.items z) c.in_err-push.ensures.items ∙ ap (λ z. clauses_of z c.args.spans.now.items) m.1 ∙ clauses-more c.args.codes.now.items m.0 c.args.spans.now.items c.requires.spans)

pub returns-clause-spans : goal.returns-clause-spans
returns-clause-spans c =
    let codes = c.args.codes.now in
    let ranks = map rank c.args.literals.now in
    let grown : c.push_ranks.new.codes.items ≡ codes.items ++ ranks = c.in_ok-push_ranks.ensures.ok in
    let first : c.len-start.result ≡ length codes.items = let o = codes.ok.0 in let e = c.len-start.ensures in omega arith in
    let last : c.len-end.result ≡ length (codes.items ++ ranks) = let o = c.push_ranks.new.codes.ok.0 in let e = c.len-end.ensures in let s = ap length grown in omega arith in
    rw (c.in_ok-push.ensures.items, grown) (spans-push codes.items ranks c.args.spans.now.items c.len-start.result c.len-end.result first last c.requires.spans)

pub returns-clause-ok : goal.returns-clause-ok
returns-clause-ok c =
    let codes = c.args.codes.now in
    let ranks = map rank c.args.literals.now in
    let grown : c.push_ranks.new.codes.items ≡ codes.items ++ ranks = c.in_ok-push_ranks.ensures.ok in
    let first : c.len-start.result ≡ length codes.items = let o = codes.ok.0 in let e = c.len-start.ensures in omega arith in
    let last : c.len-end.result ≡ length (codes.items ++ ranks) = let o = c.push_ranks.new.codes.ok.0 in let e = c.len-end.ensures in let s = ap length grown in omega arith in
    rw (c.in_ok-push.ensures.items, grown) (clauses-push codes.items ranks c.args.spans.now.items c.len-start.result c.len-end.result first last c.requires.spans)
