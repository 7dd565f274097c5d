use Rattle.std.proofs.Common.{ap, ◌∙◌}
use Rattle.command_files.proofs.Keeping.{kept_of}
use Rattle.command_files.proofs.texts.read_texts.Goals as goal

pub returns-clause-texts : goal.returns-clause-texts
returns-clause-texts g c = λ t told.
    let first = c.in_ok-old.ensures.kept in
    let second = c.in_ok-new.ensures.kept ∙ first in
    record {
      old = kept_of _ t.old c.in_ok-old.old told.old_told c.in_ok-old.ensures.text;
      new = kept_of _ t.new c.in_ok-new.new (ap (λ f. f c.args.new.now) first ∙ told.new_told) c.in_ok-new.ensures.text;
      rel = kept_of _ t.rel c.in_ok-relation.relation (ap (λ f. f c.args.relation.now) second ∙ told.rel_told) c.in_ok-relation.ensures.text;
    }
