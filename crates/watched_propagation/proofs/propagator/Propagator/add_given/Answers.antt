use Rattle.std.proofs.Common.{◌++◌, ◌∷◌, [], ◌∙◌, ap}
use Rattle.watched_propagation.specs.Propagations.{Propagation, literals_of}
use Rattle.watched_propagation.proofs.Ranks.{literals_of-push}
use Rattle.watched_propagation.proofs.Spans.{on_ok}
use Rattle.watched_propagation.proofs.propagator.Propagator.add_given.Goals as goal

pub returns-clause-held : goal.returns-clause-held
returns-clause-held c = on_ok c.match-conflict.result (ap literals_of c.in_ok-conflict.ensures.clauses ∙ literals_of-push c.self.inside.arena c.args.literals.now ∙ ap (λ z. z ++ c.args.literals.now ∷ []) (ap (λ (p : Propagation). p.held) c.self.view_is))
