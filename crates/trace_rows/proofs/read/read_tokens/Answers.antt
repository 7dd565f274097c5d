use Rattle.std.proofs.Common.{◌≡◌, Some, ◌^◌, ◌<◌, length, sym, ap, ◌∙◌, arith}
use Rattle.json.specs.Lex.{tokens}
use Rattle.trace_rows.specs.Reading.{after_begin_array}
use Rattle.trace_rows.proofs.ReadLemmas.{array_shorter, no_trace, no_rows, more_behind, whole_trace, a_token_behind, nothing_behind}
use Rattle.trace_rows.proofs.TokenLemmas.{few_tokens}
use Rattle.trace_rows.proofs.read.read_tokens.Goals as goal

pub returns-then-not-begin_array : goal.returns-then-not-begin_array
returns-then-not-begin_array c = sym (no_trace c.args.width c.args.text.now (ap after_begin_array (sym c.in_ok-reader.ensures.ok) ∙ c.if-not-begin_array.ensures))

pub read_rows-requires : goal.read_rows-requires
read_rows-requires c =
    omega (arith, array_shorter c.in_ok-reader.reader c.begin_array.new.reader c.if-not-begin_array.ensures, ap length c.in_ok-reader.ensures.ok, few_tokens c.args.text.now)

pub returns-in_default : goal.returns-in_default
returns-in_default c =
    let opened : after_begin_array (tokens c.args.text.now) ≡ Some c.begin_array.new.reader = ap after_begin_array (sym c.in_ok-reader.ensures.ok) ∙ c.if-not-begin_array.ensures in
    sym (no_rows c.args.width c.args.text.now c.begin_array.new.reader opened (rw c.in_default.is at c.in_ok-rows.ensures))

pub returns-then-is_some : goal.returns-then-is_some
returns-then-is_some c =
    let opened : after_begin_array (tokens c.args.text.now) ≡ Some c.begin_array.new.reader = ap after_begin_array (sym c.in_ok-reader.ensures.ok) ∙ c.if-not-begin_array.ensures in
    let more = a_token_behind c.next.result c.read_rows.new.reader c.next.new.self c.if-is_some.ensures c.next.ensures.value in
    sym (more_behind c.args.width c.args.text.now c.begin_array.new.reader c.read_rows.new.reader c.in-Some.rows more.0 c.next.new.self opened (rw c.in-Some.is at c.in_ok-rows.ensures) more.1)

pub returns : goal.returns
returns c =
    let opened : after_begin_array (tokens c.args.text.now) ≡ Some c.begin_array.new.reader = ap after_begin_array (sym c.in_ok-reader.ensures.ok) ∙ c.if-not-begin_array.ensures in
    let over = nothing_behind c.next.result c.read_rows.new.reader c.next.new.self c.if-is_some.ensures c.next.ensures.value in
    sym (whole_trace c.args.width c.args.text.now c.begin_array.new.reader c.read_rows.new.reader c.in-Some.rows opened (rw c.in-Some.is at c.in_ok-rows.ensures) over)
