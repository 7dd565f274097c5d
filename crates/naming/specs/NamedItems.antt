-- What the rules on names ask of an item of statements, and the FUNCTIONs that it calls.
use Rattle.std.specs.Prelude.{ℕ, List, []}
use Rattle.rules.specs.Judgements.{Judgement, and}
use Rattle.source_tree.specs.Syntax.{FileData}
use Rattle.source_tree.specs.StatementItems.{StatementItem, assignment, invocation, condition, selector, labels, iteration}
use Rattle.naming.specs.Scopes.{PouScope, seen_named}
use Rattle.naming.specs.Broken.{in_target, in_tree, in_instance, instance_of, in_connections, in_labels, in_iteration}
use Rattle.naming.specs.Circles.{calls_in, calls_in_connections, calls_in_iteration}

abbrev pub in_item : FileData → PouScope → StatementItem → Judgement
in_item f p (assignment q e) = and (in_target f p (seen_named f p q.first.text) q) (in_tree f p e)
in_item f p (invocation n at cs) =
    let s = seen_named f p n.text in
    and (in_instance f p s n) (in_connections f p (instance_of s) cs)
in_item f p (condition e) = in_tree f p e
in_item f p (selector e) = in_tree f p e
in_item f p (labels e before ls) = in_labels f p ls
in_item f p (iteration i) = in_iteration f p i

abbrev pub calls_in_item : FileData → StatementItem → List ℕ
calls_in_item f (assignment q e) = calls_in f e
calls_in_item f (invocation n at cs) = calls_in_connections f cs
calls_in_item f (condition e) = calls_in f e
calls_in_item f (selector e) = calls_in f e
calls_in_item f (labels e before ls) = []
calls_in_item f (iteration i) = calls_in_iteration f i
