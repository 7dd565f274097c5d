use Rattle.std.proofs.Common.{◌≡◌, ◌∷◌, [], ◌++◌, length, sym, ap, ◌∙◌, arith, rules}
use Rattle.trace_rows.specs.Reading.{number_read}
use Rattle.trace_rows.proofs.ReadLemmas.{one_more_number, numbers_refused, numbers_closed}
use Rattle.trace_rows.proofs.read.read_numbers.Goals as goal

pub returns-in_default-clause-value : goal.returns-in_default-clause-value
returns-in_default-clause-value c =
    let l = c.loop-reader in
    let going = c.loop-reader-test.ensures in
    numbers_refused c.args.reader.now l.reader c.args.numbers.now.items l.numbers.items l.invariant going.0 (ap number_read (sym going.1) ∙ c.in_default.ensures.value)

pub loop-reader-preserved : goal.loop-reader-preserved
loop-reader-preserved c =
    let l = c.loop-reader in
    let going = c.loop-reader-test.ensures in
    let read = c.in-Some.ensures in
    let pushed : c.push.new.self.items ≡ l.numbers.items ++ c.in-Some.number ∷ [] = search rules in
    one_more_number c.args.reader.now l.reader c.read_number.new.reader c.args.numbers.now.items l.numbers.items c.push.new.self.items c.in-Some.number
    l.invariant going.0 (ap number_read (sym going.1) ∙ read.value) (omega (arith, ap length going.1, read.shorter)) pushed

pub returns-clause-value : goal.returns-clause-value
returns-clause-value c = numbers_closed c.args.reader.now c.loop-reader.reader c.take_end_array.new.self c.args.numbers.now.items c.loop-reader.numbers.items c.loop-reader.invariant c.loop-reader-test.ensures
