-- Properties of every item: what one makes, and what two make together.
use Rattle.std.proofs.Common.{List, []}
use Rattle.source_tree.specs.Syntax.{IterationData, Stmts, PartData, BodyData}
use Rattle.source_tree.specs.StatementItems.{StatementItem, every, folded_stmts, folded_parts, folded_body}
use Rattle.source_tree.proofs.StatementInduction.{AreRelated, related_stmts, related_parts, related_body}
use Rattle.source_tree.proofs.EveryItem.{carried}

-- two properties of every item are one
paired : (P Q : List IterationData → StatementItem → Type 0) → AreRelated (every P) (every Q) (every (λ around i. P around i × Q around i)) (λ around A B C. Unit {0} → A → B → C)
paired P Q = carried (λ around. Unit {0}) P Q (λ around i. P around i × Q around i) (λ around i h p q. tt) (λ around i h p q. (p, q))

module _ (P Q : List IterationData → StatementItem → Type 0) where
  abbrev Both : List IterationData → StatementItem → Type 0
  Both around i = P around i × Q around i

  pub both_items : (ss : Stmts) → folded_stmts (every P) [] ss → folded_stmts (every Q) [] ss → folded_stmts (every Both) [] ss
  both_items ss p q = related_stmts (every P) (every Q) (every Both) (λ around A B C. Unit {0} → A → B → C) (paired P Q) [] ss tt p q

  pub both_body : (b : BodyData) → folded_body (every P) b → folded_body (every Q) b → folded_body (every Both) b
  both_body b p q = related_body (every P) (every Q) (every Both) (λ around A B C. Unit {0} → A → B → C) (paired P Q) b tt p q

  pub both_parts : (ps : List PartData) → folded_parts (every P) ps → folded_parts (every Q) ps → folded_parts (every Both) ps
  both_parts ps p q = related_parts (every P) (every Q) (every Both) (λ around A B C. Unit {0} → A → B → C) (paired P Q) ps tt p q

-- where a property makes another, it does so for every item
pub body_mapped : (P Q : List IterationData → StatementItem → Type 0) → ((around : List IterationData) (i : StatementItem) → P around i → Q around i) → (b : BodyData) → folded_body (every P) b → folded_body (every Q) b
body_mapped P Q make b p =
    related_body (every P) (every P) (every Q) (λ around A B C. Unit {0} → A → B → C) (carried (λ around. Unit {0}) P P Q (λ around i h x y. tt) (λ around i h x y. make around i x)) b tt p p
