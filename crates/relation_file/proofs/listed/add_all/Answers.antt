use Rattle.std.proofs.Common.{ap, ◌∙◌}
use Rattle.std.proofs.lemmas.List.{map-append}
use Rattle.scan_model.specs.Pairs.{candidate_view, candidates_view}
use Rattle.relation_file.proofs.listed.add_all.Goals as goal

pub returns : goal.returns
returns c = ap candidates_view c.in_ok-append.ensures.items ∙ map-append candidate_view c.args.found.now.items c.args.more.items
