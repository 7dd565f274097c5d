use Rattle.std.proofs.Common.{◌∙◌, ap}
use Rattle.std.specs.Prelude.{not, ◌&&◌, ◌||◌}
use Rattle.judgement.specs.Places.{reach_at}
use Rattle.judgement.specs.Tests.{is_outside, is_first_version}
use Rattle.finding_check.specs.Stages.{place_of}
use Rattle.finding_check.proofs.versions.has_form.Goals as goal

pub returns : goal.returns
returns c s formula pair =
    let place = place_of c.args.stage.now pair in
    c.is_form.ensures
    ∙ ap (λ out. out || not (c.is_first_version.result && c.is_of_second.result)) (c.is_outside.ensures s formula pair)
    ∙ ap (λ first. is_outside s formula place || not (first && c.is_of_second.result)) (c.is_first_version.ensures ∙ ap is_first_version (c.reach_at.ensures pair))
    ∙ ap (λ second. is_outside s formula place || not (is_first_version (reach_at place) && second)) c.is_of_second.ensures
