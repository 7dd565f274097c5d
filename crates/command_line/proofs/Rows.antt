-- What the values of a parse come to.
use Rattle.std.proofs.Common.{◌≡◌, sym, ap, [], ◌∷◌, Option, Some, None, option_map}
use Rattle.clap.specs.Words.{Text}
use Rattle.command_line.specs.Asked.{words_given}

pub no_old : (old new relation last : Option Text) → old ≡ None → None ≡ words_given old new relation last
no_old old new relation last none = ap (λ v. words_given v new relation last) (sym none)

pub no_new : (old new relation last : Option Text) (a : Text) → old ≡ Some a → new ≡ None → None ≡ words_given old new relation last
no_new old new relation last a is none = λ i. words_given (sym is i) (sym none i) relation last

pub no_relation : (old new relation last : Option Text) (a b : Text) → old ≡ Some a → new ≡ Some b → relation ≡ None → None ≡ words_given old new relation last
no_relation old new relation last a b first second none = λ i. words_given (sym first i) (sym second i) (sym none i) last

pub no_last : (old new relation last : Option Text) (a b c : Text) → old ≡ Some a → new ≡ Some b → relation ≡ Some c → last ≡ None → None ≡ words_given old new relation last
no_last old new relation last a b c first second third none = λ i. words_given (sym first i) (sym second i) (sym third i) (sym none i)

pub all_given : (old new relation last : Option Text) (a b c d : Text) → old ≡ Some a → new ≡ Some b → relation ≡ Some c → last ≡ Some d
    → Some (a ∷ b ∷ c ∷ d ∷ []) ≡ words_given old new relation last
all_given old new relation last a b c d first second third fourth = λ i. words_given (sym first i) (sym second i) (sym third i) (sym fourth i)

pub no_count : (count : Option Text) → count ≡ None → None ≡ option_map (λ word. word ∷ []) count
no_count count none = ap (option_map (λ word. word ∷ [])) (sym none)

pub count_given : (count : Option Text) (a : Text) → count ≡ Some a → Some (a ∷ []) ≡ option_map (λ word. word ∷ []) count
count_given count a is = ap (option_map (λ word. word ∷ [])) (sym is)
