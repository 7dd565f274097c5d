-- Loops over cells.
use Rattle.std.proofs.Common.{◌≡◌, List, ◌∷◌, Bool, true, false, ◌&&◌, sym, ap, ◌∙◌}
use Rattle.std.specs.List.{list_all}

module _ {A : Type 0} (f : A → Bool) (x : A) (left rest all : List A) (b : Bool) where
  pub all_failed : left ≡ x ∷ rest → list_all f left ≡ list_all f all → b ≡ f x → b ≡ false → false ≡ list_all f all
  all_failed more same is h = sym (ap (λ t. t && list_all f rest) (sym is ∙ h)) ∙ sym (ap (list_all f) more) ∙ same

  pub all_left : left ≡ x ∷ rest → list_all f left ≡ list_all f all → b ≡ f x → b ≡ true → list_all f rest ≡ list_all f all
  all_left more same is h = sym (ap (λ t. t && list_all f rest) (sym is ∙ h)) ∙ sym (ap (list_all f) more) ∙ same
