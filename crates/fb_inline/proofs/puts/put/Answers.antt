use Rattle.fb_inline.proofs.ViewLemmas.{flats_view-push}
use Rattle.fb_inline.proofs.puts.put.Goals as goal

pub returns : goal.returns
returns c = rw c.in_ok-push.ensures.items (flats_view-push _ _)
