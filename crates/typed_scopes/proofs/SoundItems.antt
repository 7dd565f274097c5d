-- Items that use what they may, are levelled and break no rule.
use Rattle.std.proofs.Common.{◌≡◌, ℕ, List, [], true}
use Rattle.source_tree.specs.Syntax.{IterationData, Stmts, PartData}
use Rattle.source_tree.specs.Levels.{AreStmtsLevelled, ArePartsLevelled}
use Rattle.source_tree.specs.StatementItems.{StatementItem, every, folded_stmts, folded_parts}
use Rattle.source_tree.specs.LevelledItems.{IsLevelledItem}
use Rattle.source_tree.proofs.LevelledItems.{levelled_items, levelled_parts}
use Rattle.typing.specs.Typing.{Scope}
use Rattle.typing.specs.JudgedStatements.{judged_stmts}
use Rattle.typing.specs.JudgedCharts.{judged_parts}
use Rattle.typing.specs.JudgedItems.{IsWholeItem}
use Rattle.typing.proofs.JudgedItems.{IsWhole, whole_shared, shared_items, shared_parts}
use Rattle.typed_scopes.specs.Uses.{Usable, IsItemWithin, AreStmtsWithin, ArePartsWithin}
use Rattle.typed_scopes.proofs.EveryItem.{both_items, both_parts}
use Rattle.typed_scopes.proofs.Selectors.{WithSelector, with_selectors, parts_with_selectors}

module _ (scope : Scope) (uses : Usable) (outer : List ℕ) where
  abbrev pub IsFittingItem : List IterationData → StatementItem → Type 0
  IsFittingItem around i = IsItemWithin uses around i × IsLevelledItem around i

  abbrev pub IsSoundItem : List IterationData → StatementItem → Type 0
  IsSoundItem around i = IsFittingItem around i × IsWholeItem scope outer around i

  -- labels with their selector
  abbrev pub IsSoundWithSelector : List IterationData → StatementItem → Type 0
  IsSoundWithSelector around i = WithSelector IsSoundItem around i

  pub sound_items : (ss : Stmts) → AreStmtsWithin uses ss → AreStmtsLevelled ss → (judged_stmts scope outer ss).whole ≡ true → folded_stmts (every IsSoundWithSelector) [] ss
  sound_items ss within levels whole =
      let fitting = both_items (IsItemWithin uses) IsLevelledItem ss within (levelled_items [] ss levels) in
      with_selectors IsSoundItem [] ss (both_items IsFittingItem (IsWholeItem scope outer) ss fitting (shared_items scope outer IsWhole whole_shared [] ss whole))

module _ (scope : Scope) (uses : Usable) where
  pub sound_parts : (ps : List PartData) → ArePartsWithin uses ps → ArePartsLevelled ps → (judged_parts scope ps).whole ≡ true → folded_parts (every (IsSoundWithSelector scope uses [])) ps
  sound_parts ps within levels whole =
      let fitting = both_parts (IsItemWithin uses) IsLevelledItem ps within (levelled_parts ps levels) in
      parts_with_selectors (IsSoundItem scope uses []) ps (both_parts (IsFittingItem scope uses []) (IsWholeItem scope []) ps fitting (shared_parts scope IsWhole whole_shared ps whole))
