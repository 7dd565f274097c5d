-- Properties of every item of statements: carried from two to a third, found at some item, and read off from lists.
use Rattle.std.proofs.Common.{◌⊎◌, inl, inr, List, [], ◌∷◌, ◌++◌}
use Rattle.source_tree.specs.Syntax.{IterationData}
use Rattle.source_tree.specs.StatementItems.{StatementItem, iteration, every, some, listed}
use Rattle.source_tree.proofs.StatementInduction.{AreRelated}

-- What is so around statements, and two properties of an item there, make a third; and the item of a FOR makes so what is around its statements.
pub carried : (Around : List IterationData → Type 0) (P Q S : List IterationData → StatementItem → Type 0)
    → ((around : List IterationData) (i : IterationData) → Around around → P around (iteration i) → Q around (iteration i) → Around (i ∷ around))
    → ((around : List IterationData) (i : StatementItem) → Around around → P around i → Q around i → S around i)
    → AreRelated (every P) (every Q) (every S) (λ around A B C. Around around → A → B → C)
carried Around P Q S inside own = record {
  none = λ around h a b. tt;
  both = λ around A A' B B' C C' f g h a b. (f h a.0 b.0, g h a.1 b.1);
  own = own;
  inside = λ around i A B C f h a b. (own around (iteration i) h a.0 b.0, f (inside around i h a.0 b.0) a.1 b.1);
}

-- an item with a property, which has a second as every item does
pub record IsFound (P Q : List IterationData → StatementItem → Type 0) : Type 0 where
  pub around : List IterationData
  pub item : StatementItem
  pub has : P around item
  pub has_too : Q around item

pub found : (P Q : List IterationData → StatementItem → Type 0) → AreRelated (every P) (some Q) (some Q) (λ around A B C. A → B → IsFound P Q)
found P Q = record {
  none = λ around a b. absurd b;
  both = λ around A A' B B' C C' f g a b. elim b [ inl x ↦ f a.0 x | inr y ↦ g a.1 y ];
  own = λ around i a b. record { around = around; item = i; has = a; has_too = b };
  inside = λ around i A B C f a b. elim b [ inl x ↦ record { around = around; item = iteration i; has = a.0; has_too = x } | inr y ↦ f a.1 y ];
}

-- A property of lists that a list gives to its parts, and that makes something of what one item gives.
pub from_lists {ℓ} : {A : Type ℓ} (Over : List A → Type 0) → ((xs ys : List A) → Over (xs ++ ys) → Over xs × Over ys)
    → (P Q : List IterationData → StatementItem → Type 0) (given : List IterationData → StatementItem → List A) → ((around : List IterationData) (i : StatementItem) → P around i → Over (given around i) → Q around i)
    → AreRelated (every P) (listed given) (every Q) (λ around A xs C. A → Over xs → C)
from_lists Over parts P Q given own = record {
  none = λ around a h. tt;
  both = λ around A A' xs ys C C' f g a h. let two = parts xs ys h in (f a.0 two.0, g a.1 two.1);
  own = own;
  inside = λ around i A xs C f a h. let two = parts (given around (iteration i)) xs h in (own around (iteration i) a.0 two.0, f a.1 two.1);
}
