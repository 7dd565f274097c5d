-- A spelled line holds no line feed.
use Rattle.std.proofs.Common.{◌≡◌, ◌≢◌, ℕ, suc, ℤ, pos, negsuc, List, [], ◌∷◌, ◌++◌, Bool, true, ◌&&◌, not, eqb, refl, ap, sym, ◌∙◌, arith}
use Rattle.std.specs.Prelude.{codes}
use Rattle.std.specs.Fmt.{decimal, signed_decimal}
use Rattle.std.specs.Str.Parse.{AllDigits}
use Rattle.std.proofs.lemmas.Bool.{and_parts, false≢true}
use Rattle.std.proofs.lemmas.List.Elements.{All-nil, All-cons, All-head, All-tail, All-append}
use Rattle.std.proofs.lemmas.Str.Parse.{digit_from_value}
use Rattle.std.proofs.lemmas.Fmt.{decimal_is_IsNumeral}
use Rattle.finding_lines.specs.declared.line.Asked.{Asked}
use Rattle.finding_lines.specs.declared.line.Asked.TheVariants as questions
use Rattle.finding_lines.specs.declared.line.Conclusion.{Conclusion}
use Rattle.finding_lines.specs.declared.line.Conclusion.TheVariants.{Vacuous, Related, Different, Open, Spent}
use Rattle.finding_lines.specs.declared.line.Version.TheVariants.{One, Two}
use Rattle.finding_lines.specs.declared.line.Line.{Line}
use Rattle.finding_lines.specs.declared.line.Line.TheVariants.{Header, Seen, Walk, Dropping, Pair, Scan, Log, Query, Derived, Deleted, End}
use Rattle.finding_lines.specs.Numbers.{IsNumber, AreNumbers}
use Rattle.finding_lines.specs.Form.{AskedFits, ConclusionFits, IsLine}
use Rattle.finding_lines.specs.Spelling.{spaced, spaced_all, asked, concluded, ended, derived, spelled}
use Rattle.finding_lines.specs.Reading.{LacksFeed}
use Rattle.finding_lines.proofs.NumberLemmas.{number-below, number-from}

-- a test of literals
has_none : List ℕ → Bool
has_none [] = true
has_none (b ∷ bs) = not (eqb b 10) && has_none bs

literal : (bs : List ℕ) → has_none bs ≡ true → LacksFeed bs
unfolding has_none
literal [] h = All-nil _
literal (b ∷ bs) h =
    let parts = and_parts (not (eqb b 10)) (has_none bs) h in
    All-cons (λ k. k ≢ 10) b bs (λ e. false≢true (sym (ap (λ k. not (eqb k 10)) e) ∙ parts.0)) (literal bs parts.1)

joined : (xs ys : List ℕ) → LacksFeed xs → LacksFeed ys → LacksFeed (xs ++ ys)
joined xs ys lx ly = All-append (λ k. k ≢ 10) xs ys lx ly

digits : (ds : List ℕ) → AllDigits 10 ds → LacksFeed ds
digits [] h = All-nil _
digits (d ∷ ds) h =
    let at = digit_from_value d h.0 in
    All-cons (λ b. b ≢ 10) d ds (λ e. omega (arith, at, e)) (digits ds h.1)

number : (n : ℤ) → IsNumber n → LacksFeed (signed_decimal n)
number (pos n) h = digits (decimal n) (decimal_is_IsNumeral n (number-below n h)).0.1
number (negsuc n) h =
    let from = number-from n h in
    All-cons (λ b. b ≢ 10) 45 (decimal (suc n)) (λ e. omega (arith, e)) (digits (decimal (suc n)) (decimal_is_IsNumeral (suc n) (omega arith)).0.1)

spaced-lacks : (n : ℤ) → IsNumber n → LacksFeed (spaced n)
unfolding has_none
spaced-lacks n fits = joined (codes " ") (signed_decimal n) (literal (codes " ") refl) (number n fits)

all-lacks : (ns : List ℤ) → AreNumbers ns → LacksFeed (spaced_all ns)
all-lacks [] good = All-nil _
all-lacks (n ∷ ns) good = joined (spaced n) (spaced_all ns) (spaced-lacks n (All-head IsNumber n ns good)) (all-lacks ns (All-tail IsNumber n ns good))

asked-lacks : (q : Asked) → AskedFits q → LacksFeed (asked q)
unfolding has_none
asked-lacks questions.First fits = literal (codes " FIRST") refl
asked-lacks questions.Step fits = literal (codes " STEP") refl
asked-lacks questions.Goal fits = literal (codes " GOAL") refl
asked-lacks (questions.Deep d) fits = joined (codes " DEEP") (spaced d) (literal (codes " DEEP") refl) (spaced-lacks d fits)
asked-lacks (questions.Walk r) fits = joined (codes " WALK") (spaced r) (literal (codes " WALK") refl) (spaced-lacks r fits)

concluded-lacks : (v : Conclusion) → ConclusionFits v → LacksFeed (concluded v)
unfolding has_none
concluded-lacks Vacuous fits = literal (codes " VACUOUS") refl
concluded-lacks (Related k c) fits =
    joined (codes " RELATED kept") (spaced k ++ (codes " of" ++ spaced c)) (literal (codes " RELATED kept") refl)
    (joined (spaced k) (codes " of" ++ spaced c) (spaced-lacks k fits.0)
    (joined (codes " of") (spaced c) (literal (codes " of") refl) (spaced-lacks c fits.1)))
concluded-lacks (Different d) fits = joined (codes " DIFFERENT scans") (spaced d) (literal (codes " DIFFERENT scans") refl) (spaced-lacks d fits)
concluded-lacks (Open k c n) fits =
    joined (codes " OPEN kept") (spaced k ++ (codes " of" ++ (spaced c ++ (codes " depth" ++ spaced n)))) (literal (codes " OPEN kept") refl)
    (joined (spaced k) (codes " of" ++ (spaced c ++ (codes " depth" ++ spaced n))) (spaced-lacks k fits.0)
    (joined (codes " of") (spaced c ++ (codes " depth" ++ spaced n)) (literal (codes " of") refl)
    (joined (spaced c) (codes " depth" ++ spaced n) (spaced-lacks c fits.1)
    (joined (codes " depth") (spaced n) (literal (codes " depth") refl) (spaced-lacks n fits.2)))))
concluded-lacks (Spent q n) fits =
    joined (codes " SPENT query") (asked q ++ (codes " conflicts" ++ spaced n)) (literal (codes " SPENT query") refl)
    (joined (asked q) (codes " conflicts" ++ spaced n) (asked-lacks q fits.0)
    (joined (codes " conflicts") (spaced n) (literal (codes " conflicts") refl) (spaced-lacks n fits.1)))

ended-lacks : (ns : List ℤ) → AreNumbers ns → LacksFeed (ended ns)
unfolding has_none
ended-lacks ns good = joined (spaced_all ns) (codes " 0") (all-lacks ns good) (literal (codes " 0") refl)

pub spelled-lacks_feed : (l : Line) → IsLine l → LacksFeed (spelled l)
unfolding has_none
spelled-lacks_feed (Header One) good = literal (codes "REGVER FINDING 1") refl
spelled-lacks_feed (Header Two) good = literal (codes "REGVER FINDING 2") refl
spelled-lacks_feed (Seen ns) good = joined (codes "SEEN") (spaced_all ns) (literal (codes "SEEN") refl) (all-lacks ns good.fits)
spelled-lacks_feed (Walk ns) good = joined (codes "WALK") (spaced_all ns) (literal (codes "WALK") refl) (all-lacks ns good.fits)
spelled-lacks_feed (Dropping ns) good = joined (codes "DROP") (spaced_all ns) (literal (codes "DROP") refl) (all-lacks ns good.fits)
spelled-lacks_feed (Pair ns) good = joined (codes "PAIR") (spaced_all ns) (literal (codes "PAIR") refl) (all-lacks ns good.fits)
spelled-lacks_feed (Scan ns) good = joined (codes "SCAN") (spaced_all ns) (literal (codes "SCAN") refl) (all-lacks ns good.fits)
spelled-lacks_feed (Log q) good = joined (codes "LOG") (asked q) (literal (codes "LOG") refl) (asked-lacks q good.fits)
spelled-lacks_feed (Query q) good = joined (codes "QUERY") (asked q) (literal (codes "QUERY") refl) (asked-lacks q good.fits)
spelled-lacks_feed (Derived ls hs) good =
    joined (codes "D") (derived ls hs) (literal (codes "D") refl)
    (joined (ended ls) (ended hs) (ended-lacks ls good.fits.0) (ended-lacks hs good.fits.1))
spelled-lacks_feed (Deleted ids) good = joined (codes "X") (ended ids) (literal (codes "X") refl) (ended-lacks ids good.fits)
spelled-lacks_feed (End v) good = joined (codes "END") (concluded v) (literal (codes "END") refl) (concluded-lacks v good.fits)
