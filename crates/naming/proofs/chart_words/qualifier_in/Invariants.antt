use Rattle.std.proofs.Common.{◌≡◌, drop, map}
use Rattle.naming.specs.ChartWords.{qualifier_in}
use Rattle.naming.proofs.chart_words.qualifier_in.Given as goal

abbrev pub invariant-loop-word : goal.invariant-loop-word
invariant-loop-word l = qualifier_in (map (λ e. (e.0.now, e.1)) (drop l.word-index l.qualifiers)) l.text ≡ qualifier_in (map (λ e. (e.0.now, e.1)) l.qualifiers) l.text
