use Rattle.std.proofs.Common.{◌++◌, ◌∷◌, [], ◌∙◌, ap}
use Rattle.std.proofs.lemmas.Result.{on_ok_weaker}
use Rattle.watched_propagation.specs.Propagations.{Propagation, literals_of}
use Rattle.watched_propagation.proofs.Ranks.{literals_of-push}
use Rattle.watched_propagation.proofs.propagator.Propagator.add_learned.Goals as goal

pub returns-clause-held : goal.returns-clause-held
returns-clause-held c = on_ok_weaker c.add_learned.result (λ e. ap literals_of e ∙ literals_of-push c.self.inside.arena c.args.literals.now ∙ ap (λ z. z ++ c.args.literals.now ∷ []) (ap (λ (p : Propagation). p.held) c.self.view_is)) c.add_learned.ensures.clauses
