use Rattle.std.proofs.Common.{◌≡◌, [], ◌∷◌, ℕ, List, take, drop}
use Rattle.std.specs.List.{list_any}
use Rattle.std.specs.Str.{bytes_eq}
use Rattle.source_tree.specs.SyntaxView.{name_view, names_view}
use Rattle.naming.specs.Broken.{in_listed_from}
use Rattle.pou_scope.specs.NamesView.{file_in, pou_in}
use Rattle.rules.specs.Outcomes.{outcome_of, both}
use Rattle.naming.specs.TextSets.{has}
use Rattle.naming.proofs.ChartLemmas.{texts_of}
use Rattle.name_uses.proofs.step_lists.walk_others.Given as goal

abbrev pub invariant-loop-name : goal.invariant-loop-name
invariant-loop-name l = record {
  held : (text : List ℕ) → has l.met text ≡ list_any (λ t. bytes_eq t text) ((name_view l.first).text ∷ texts_of (names_view (take l.name-index l.others)));
  judged : both l.outcome (outcome_of (in_listed_from (file_in l.scope.names) (pou_in l.scope.names) ((name_view l.first).text ∷ texts_of (names_view (take l.name-index l.others))) (names_view (drop l.name-index l.others))))
      ≡ both l.fn.outcome (outcome_of (in_listed_from (file_in l.scope.names) (pou_in l.scope.names) ((name_view l.first).text ∷ []) (names_view l.others)));
}
