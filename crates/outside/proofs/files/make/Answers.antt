use Rattle.std.proofs.Common.{◌∙◌, ap, Some}
use Rattle.outside.proofs.Places.{file_at-push, file_at-push_other}
use Rattle.outside.proofs.files.make.Goals as goal

pub returns-clause-ok : goal.returns-clause-ok
returns-clause-ok c = rw c.in_ok-push.ensures.items (file_at-push c.args.files.now.items _ c.args.name.now c.in_ok-from_str.ensures.ok c.requires ∙ ap Some (rw c.new.ensures.items at c.in_ok-extend_from_slice.ensures.items))

pub returns-clause-others : goal.returns-clause-others
returns-clause-others c = λ other n. rw c.in_ok-push.ensures.items (file_at-push_other c.args.files.now.items _ c.args.name.now other c.in_ok-from_str.ensures.ok n)
