-- Where a part of a line is not read, no line has it.
use Rattle.std.proofs.Common.{◌≡◌, ◌≢◌, ℕ, ℤ, ◌<◌, List, [], ◌∷◌, ◌++◌, length, get_or, eqb, Bool, true, false, Option, Some, None, refl, ap, sym, ◌∙◌, subst, arith}
use Rattle.std.specs.Prelude.{codes, IsTrue, MatchOption}
use Rattle.std.specs.Fmt.{signed_decimal}
use Rattle.std.proofs.lemmas.Bool.{eqb-false}
use Rattle.std.proofs.lemmas.Bool.Decides.{Decides-eqb}
use Rattle.std.proofs.lemmas.List.{append-nil, append_cancel_left, nil_from_length}
use Rattle.finding_lines.specs.declared.line.Asked.{Asked}
use Rattle.finding_lines.specs.declared.line.Asked.TheVariants as questions
use Rattle.finding_lines.specs.declared.line.Conclusion.{Conclusion}
use Rattle.finding_lines.specs.declared.line.Conclusion.TheVariants.{Vacuous, Related, Different, Open, Spent}
use Rattle.finding_lines.specs.declared.line.Version.TheVariants.{One, Two}
use Rattle.finding_lines.specs.declared.line.Line.{Line}
use Rattle.finding_lines.specs.declared.line.Line.TheVariants.{Header, Seen, Walk, Dropping, Pair, Scan, Log, Query, Derived, Deleted, End}
use Rattle.finding_lines.specs.Numbers.{IsNumber, AreNumbers}
use Rattle.finding_lines.specs.Form.{AskedFits, ConclusionFits, IsEnding, IsLine, rises_from, all_positive, are_ids}
use Rattle.finding_lines.specs.Spelling.{spaced, spaced_all, asked, concluded, ended, derived, spelled}
use Rattle.finding_lines.specs.Reading.{Opens, IsLabel, IsTaken, NoneTaken, AreNonzero, HasNoRow, Reads}
use Rattle.finding_lines.proofs.SpellingLemmas.{spaced-split, spaced-alone, Opens-label, asked-split, asked-alone}
use Rattle.finding_lines.proofs.RowLemmas.{Opens-ended, ended-split, literals-nonzero, hints-nonzero, ids-nonzero}
use Rattle.finding_lines.proofs.LineLemmas.{concluded-one}

-- whether something is left
pub some-left : (rest : List ℕ) (b : Bool) → b ≡ eqb (length rest) 0 → b ≡ false → 0 < length rest
some-left rest b is more =
    let apart : length rest ≢ 0 = eqb-false (length rest) 0 (sym is ∙ more) in
    omega arith

pub none-left : (rest : List ℕ) (b : Bool) → b ≡ eqb (length rest) 0 → b ≡ true → rest ≡ []
none-left rest b is all = nil_from_length rest ((Decides-eqb (length rest) 0).0 (sym is ∙ all))

shut : (bs : List ℕ) → 0 < length bs → get_or bs 0 0 ≢ 32 → Opens bs → ⊥
shut [] some apart opens = omega arith
shut (b ∷ bs) some apart opens = apart opens

pub label-shut : (bytes label rest : List ℕ) → bytes ≡ label ++ rest → 0 < length rest → get_or rest 0 0 ≢ 32 → (more : List ℕ) → Opens more → bytes ≢ label ++ more
label-shut bytes label rest whole some apart more opens e =
    shut rest some apart (subst Opens (sym (append_cancel_left label rest more (sym whole ∙ e))) opens)

-- a number behind a space
pub number-none : (bytes rest : List ℕ) → bytes ≡ 32 ∷ rest → NoneTaken IsNumber signed_decimal rest → NoneTaken IsNumber spaced bytes
number-none bytes rest whole none n more fits opens e =
    let tails : rest ≡ signed_decimal n ++ more = cc in
    none n more fits opens tails

pub number-taken : (bytes rest back : List ℕ) (n : ℤ) → bytes ≡ 32 ∷ rest → IsTaken IsNumber signed_decimal rest n back → IsTaken IsNumber spaced bytes n back
number-taken bytes rest back n whole taken = record {
  good = taken.good;
  opens = taken.opens;
  whole = whole ∙ ap (λ r. 32 ∷ r) taken.whole;
}

-- a number behind a label
pub labelled-none : (bytes label rest : List ℕ) → bytes ≡ label ++ rest → NoneTaken IsNumber spaced rest → (n : ℤ) (more : List ℕ) → IsNumber n → Opens more → bytes ≢ label ++ (spaced n ++ more)
labelled-none bytes label rest whole none n more fits opens e = none n more fits opens (append_cancel_left label rest (spaced n ++ more) (sym whole ∙ e))

-- and nothing behind it
pub alone-first : (bytes label : List ℕ) → ((n : ℤ) (more : List ℕ) → IsNumber n → Opens more → bytes ≢ label ++ (spaced n ++ more)) → (n : ℤ) → IsNumber n → bytes ≢ label ++ spaced n
alone-first bytes label none n fits e = none n [] fits tt (e ∙ ap (λ s. label ++ s) (sym (append-nil (spaced n))))

pub alone-more : (bytes label rest : List ℕ) (n : ℤ) → bytes ≡ label ++ (spaced n ++ rest) → IsNumber n → Opens rest → 0 < length rest → (m : ℤ) → IsNumber m → bytes ≢ label ++ spaced m
alone-more bytes label rest n whole fits opens some m also e =
    let tails = append_cancel_left label (spaced n ++ rest) (spaced m) (sym whole ∙ e) in
    let none = ap length (spaced-alone n m rest fits also opens tails).1 in
    omega (arith, none, some)

pub alone-some : (bytes label rest : List ℕ) (n : ℤ) → bytes ≡ label ++ (spaced n ++ rest) → rest ≡ [] → bytes ≡ label ++ spaced n
alone-some bytes label rest n whole e = whole ∙ ap (λ r. label ++ (spaced n ++ r)) e ∙ ap (λ s. label ++ s) (append-nil (spaced n))

-- two numbers behind their labels
pub two-first : (bytes first second : List ℕ) → IsLabel second → ((n : ℤ) (more : List ℕ) → IsNumber n → Opens more → bytes ≢ first ++ (spaced n ++ more)) → (m n : ℤ) → IsNumber m → IsNumber n → bytes ≢ first ++ (spaced m ++ (second ++ spaced n))
two-first bytes first second label none m n fm fn e = none m (second ++ spaced n) fm (Opens-label second (spaced n) label) e

pub two-second : (bytes first second rest : List ℕ) (k : ℤ) → IsLabel second → bytes ≡ first ++ (spaced k ++ rest) → IsNumber k → Opens rest → ((n : ℤ) → IsNumber n → rest ≢ second ++ spaced n) → (m n : ℤ) → IsNumber m → IsNumber n → bytes ≢ first ++ (spaced m ++ (second ++ spaced n))
two-second bytes first second rest k label whole fk opens none m n fm fn e =
    let tails = append_cancel_left first (spaced k ++ rest) (spaced m ++ (second ++ spaced n)) (sym whole ∙ e) in
    none n fn (spaced-split k m rest (second ++ spaced n) fk fm opens (Opens-label second (spaced n) label) tails).1

pub two-some : (bytes first second rest : List ℕ) (k c : ℤ) → bytes ≡ first ++ (spaced k ++ rest) → rest ≡ second ++ spaced c → bytes ≡ first ++ (spaced k ++ (second ++ spaced c))
two-some bytes first second rest k c whole e = whole ∙ ap (λ r. first ++ (spaced k ++ r)) e

-- a query
pub asked-none : (bytes : List ℕ)
    → ((more : List ℕ) → Opens more → bytes ≢ codes " FIRST" ++ more)
    → ((more : List ℕ) → Opens more → bytes ≢ codes " STEP" ++ more)
    → ((more : List ℕ) → Opens more → bytes ≢ codes " GOAL" ++ more)
    → ((n : ℤ) (more : List ℕ) → IsNumber n → Opens more → bytes ≢ codes " DEEP" ++ (spaced n ++ more))
    → ((n : ℤ) (more : List ℕ) → IsNumber n → Opens more → bytes ≢ codes " WALK" ++ (spaced n ++ more))
    → NoneTaken AskedFits asked bytes
asked-none bytes first step goal deep walk questions.First more fits opens e = first more opens e
asked-none bytes first step goal deep walk questions.Step more fits opens e = step more opens e
asked-none bytes first step goal deep walk questions.Goal more fits opens e = goal more opens e
asked-none bytes first step goal deep walk (questions.Deep d) more fits opens e = deep d more fits opens e
asked-none bytes first step goal deep walk (questions.Walk r) more fits opens e = walk r more fits opens e

pub query-none : (bytes keyword rest : List ℕ) → bytes ≡ keyword ++ rest → NoneTaken AskedFits asked rest → (q : Asked) → AskedFits q → bytes ≢ keyword ++ asked q
query-none bytes keyword rest whole none q fits e =
    none q [] fits tt (append_cancel_left keyword rest (asked q) (sym whole ∙ e) ∙ sym (append-nil (asked q)))

pub query-more : (bytes keyword rest more : List ℕ) (p : Asked) → bytes ≡ keyword ++ rest → IsTaken AskedFits asked rest p more → 0 < length more → (q : Asked) → AskedFits q → bytes ≢ keyword ++ asked q
query-more bytes keyword rest more p whole taken some q fits e =
    let tails = append_cancel_left keyword rest (asked q) (sym whole ∙ e) in
    let none = ap length (asked-alone p q more taken.good fits taken.opens (sym taken.whole ∙ tails)).1 in
    omega (arith, none, some)

pub query-some : (bytes keyword rest more : List ℕ) (p : Asked) → bytes ≡ keyword ++ rest → IsTaken AskedFits asked rest p more → more ≡ [] → bytes ≡ keyword ++ asked p
query-some bytes keyword rest more p whole taken e =
    whole ∙ ap (λ r. keyword ++ r) (taken.whole ∙ ap (λ m. asked p ++ m) e ∙ append-nil (asked p))

-- a query that was spent
pub spent-query : (bytes rest : List ℕ) → bytes ≡ codes " SPENT query" ++ rest → NoneTaken AskedFits asked rest → (q : Asked) (n : ℤ) → AskedFits q → IsNumber n → bytes ≢ concluded (Spent q n)
spent-query bytes rest whole none q n fq fn e =
    none q (codes " conflicts" ++ spaced n) fq refl (append_cancel_left (codes " SPENT query") rest (asked q ++ (codes " conflicts" ++ spaced n)) (sym whole ∙ e))

pub spent-number : (bytes rest more : List ℕ) (p : Asked) → bytes ≡ codes " SPENT query" ++ rest → IsTaken AskedFits asked rest p more → ((n : ℤ) → IsNumber n → more ≢ codes " conflicts" ++ spaced n) → (q : Asked) (n : ℤ) → AskedFits q → IsNumber n → bytes ≢ concluded (Spent q n)
spent-number bytes rest more p whole taken none q n fq fn e =
    let tails = append_cancel_left (codes " SPENT query") rest (asked q ++ (codes " conflicts" ++ spaced n)) (sym whole ∙ e) in
    none n fn (asked-split p q more (codes " conflicts" ++ spaced n) taken.good fq taken.opens refl (sym taken.whole ∙ tails)).1

pub spent-some : (bytes rest more : List ℕ) (p : Asked) (n : ℤ) → bytes ≡ codes " SPENT query" ++ rest → IsTaken AskedFits asked rest p more → more ≡ codes " conflicts" ++ spaced n → bytes ≡ concluded (Spent p n)
spent-some bytes rest more p n whole taken e =
    whole ∙ ap (λ r. codes " SPENT query" ++ r) (taken.whole ∙ ap (λ m. asked p ++ m) e)

-- an open verdict
pub open-first : (bytes : List ℕ) → ((n : ℤ) (more : List ℕ) → IsNumber n → Opens more → bytes ≢ codes " OPEN kept" ++ (spaced n ++ more)) → (k c n : ℤ) → IsNumber k → IsNumber c → IsNumber n → bytes ≢ concluded (Open k c n)
open-first bytes none k c n fk fc fn e = none k (codes " of" ++ (spaced c ++ (codes " depth" ++ spaced n))) fk refl e

pub open-others : (bytes rest : List ℕ) (l : ℤ) → bytes ≡ codes " OPEN kept" ++ (spaced l ++ rest) → IsNumber l → Opens rest → ((m n : ℤ) → IsNumber m → IsNumber n → rest ≢ codes " of" ++ (spaced m ++ (codes " depth" ++ spaced n))) → (k c n : ℤ) → IsNumber k → IsNumber c → IsNumber n → bytes ≢ concluded (Open k c n)
open-others bytes rest l whole fl opens none k c n fk fc fn e =
    let tails = append_cancel_left (codes " OPEN kept") (spaced l ++ rest) (spaced k ++ (codes " of" ++ (spaced c ++ (codes " depth" ++ spaced n)))) (sym whole ∙ e) in
    none c n fc fn (spaced-split l k rest (codes " of" ++ (spaced c ++ (codes " depth" ++ spaced n))) fl fk opens refl tails).1

pub open-some : (bytes rest : List ℕ) (k c n : ℤ) → bytes ≡ codes " OPEN kept" ++ (spaced k ++ rest) → rest ≡ codes " of" ++ (spaced c ++ (codes " depth" ++ spaced n)) → bytes ≡ concluded (Open k c n)
open-some bytes rest k c n whole e = whole ∙ ap (λ r. codes " OPEN kept" ++ (spaced k ++ r)) e

-- no verdict
pub conclusion-none : (bytes : List ℕ)
    → bytes ≢ codes " VACUOUS"
    → ((m n : ℤ) → IsNumber m → IsNumber n → bytes ≢ codes " RELATED kept" ++ (spaced m ++ (codes " of" ++ spaced n)))
    → ((n : ℤ) → IsNumber n → bytes ≢ codes " DIFFERENT scans" ++ spaced n)
    → ((k c n : ℤ) → IsNumber k → IsNumber c → IsNumber n → bytes ≢ concluded (Open k c n))
    → ((q : Asked) (n : ℤ) → AskedFits q → IsNumber n → bytes ≢ concluded (Spent q n))
    → (v : Conclusion) → ConclusionFits v → bytes ≢ concluded v
conclusion-none bytes vacuous related different opened spent Vacuous fits e = vacuous e
conclusion-none bytes vacuous related different opened spent (Related k c) fits e = related k c fits.0 fits.1 e
conclusion-none bytes vacuous related different opened spent (Different d) fits e = different d fits e
conclusion-none bytes vacuous related different opened spent (Open k c n) fits e = opened k c n fits.0 fits.1 fits.2 e
conclusion-none bytes vacuous related different opened spent (Spent q n) fits e = spent q n fits.0 fits.1 e

-- a verdict that was read and cannot stand in an END line
pub ending-none : (bytes rest : List ℕ) (w : Conclusion) → bytes ≡ codes "END" ++ rest → ConclusionFits w → rest ≡ concluded w → (IsEnding w → ⊥) → (v : Conclusion) → ConclusionFits v → IsEnding v → bytes ≢ codes "END" ++ concluded v
ending-none bytes rest w whole good is apart v fits ends e =
    let tails = append_cancel_left (codes "END") rest (concluded v) (sym whole ∙ e) in
    apart (subst IsEnding (concluded-one v w fits good (sym tails ∙ is)) ends)

pub conclusion-behind : (bytes rest : List ℕ) → bytes ≡ codes "END" ++ rest → ((v : Conclusion) → ConclusionFits v → rest ≢ concluded v) → (v : Conclusion) → ConclusionFits v → IsEnding v → bytes ≢ codes "END" ++ concluded v
conclusion-behind bytes rest whole none v fits ends e = none v fits (append_cancel_left (codes "END") rest (concluded v) (sym whole ∙ e))

-- what a reader of a row of numbers answers
abbrev pub ReadsRow : List ℕ → List ℕ → Option (List ℤ) → Type 0
ReadsRow bytes keyword o = MatchOption o ((ns : List ℤ) → AreNumbers ns → bytes ≢ keyword ++ spaced_all ns) (λ ns. AreNumbers ns × (bytes ≡ keyword ++ spaced_all ns))

pub row-behind : (bytes keyword rest : List ℕ) → bytes ≡ keyword ++ rest → (o : Option (List ℤ)) → Reads AreNumbers spaced_all rest o → ReadsRow bytes keyword o
row-behind bytes keyword rest whole None none = λ ns good e. none ns good (append_cancel_left keyword rest (spaced_all ns) (sym whole ∙ e))
row-behind bytes keyword rest whole (Some ns) some = (some.0, whole ∙ ap (λ r. keyword ++ r) some.1)

-- literals and hints
pub derived-literals : (bytes rest : List ℕ) → bytes ≡ codes "D" ++ rest → NoneTaken AreNonzero ended rest → (ls hs : List ℤ) → AreNumbers ls → AreNumbers hs → IsTrue (rises_from 0 ls) → IsTrue (all_positive hs) → bytes ≢ codes "D" ++ derived ls hs
derived-literals bytes rest whole none ls hs gl gh rises positive e =
    none ls (ended hs) (literals-nonzero ls gl rises) (Opens-ended hs) (append_cancel_left (codes "D") rest (derived ls hs) (sym whole ∙ e))

-- the lists that a D line has are those that were taken
pub derived-taken : (bytes rest back end : List ℕ) (ks gs : List ℤ) → bytes ≡ codes "D" ++ rest → IsTaken AreNonzero ended rest ks back → IsTaken AreNonzero ended back gs end → (ls hs : List ℤ) → AreNumbers ls → AreNumbers hs → IsTrue (rises_from 0 ls) → IsTrue (all_positive hs) → bytes ≡ codes "D" ++ derived ls hs → (ks ≡ ls) × (gs ≡ hs) × (end ≡ [])
derived-taken bytes rest back end ks gs whole first second ls hs gl gh rises positive e =
    let tails = append_cancel_left (codes "D") rest (derived ls hs) (sym whole ∙ e) in
    let one = ended-split ks ls back (ended hs) first.good (literals-nonzero ls gl rises) first.opens (Opens-ended hs) (sym first.whole ∙ tails) in
    let two = ended-split gs hs end [] second.good (hints-nonzero hs gh positive) second.opens tt (sym second.whole ∙ one.1 ∙ sym (append-nil (ended hs))) in
    (one.0, two.0, two.1)

pub derived-hints : (bytes rest back : List ℕ) (ks : List ℤ) → bytes ≡ codes "D" ++ rest → IsTaken AreNonzero ended rest ks back → NoneTaken AreNonzero ended back → (ls hs : List ℤ) → AreNumbers ls → AreNumbers hs → IsTrue (rises_from 0 ls) → IsTrue (all_positive hs) → bytes ≢ codes "D" ++ derived ls hs
derived-hints bytes rest back ks whole first none ls hs gl gh rises positive e =
    let tails = append_cancel_left (codes "D") rest (derived ls hs) (sym whole ∙ e) in
    let one = ended-split ks ls back (ended hs) first.good (literals-nonzero ls gl rises) first.opens (Opens-ended hs) (sym first.whole ∙ tails) in
    none hs [] (hints-nonzero hs gh positive) tt (one.1 ∙ sym (append-nil (ended hs)))

pub derived-some : (bytes rest back end : List ℕ) (ls hs : List ℤ) → bytes ≡ codes "D" ++ rest → IsTaken AreNonzero ended rest ls back → IsTaken AreNonzero ended back hs end → end ≡ [] → bytes ≡ codes "D" ++ derived ls hs
derived-some bytes rest back end ls hs whole first second e =
    whole ∙ ap (λ r. codes "D" ++ r) (first.whole ∙ ap (λ b. ended ls ++ b) (second.whole ∙ ap (λ m. ended hs ++ m) e ∙ append-nil (ended hs)))

-- the numbers of clauses
pub deleted-list : (bytes rest : List ℕ) → bytes ≡ codes "X" ++ rest → NoneTaken AreNonzero ended rest → (ns : List ℤ) → AreNumbers ns → IsTrue (are_ids ns) → bytes ≢ codes "X" ++ ended ns
deleted-list bytes rest whole none ns good form e =
    none ns [] (ids-nonzero ns good form) tt (append_cancel_left (codes "X") rest (ended ns) (sym whole ∙ e) ∙ sym (append-nil (ended ns)))

pub deleted-taken : (bytes rest end : List ℕ) (ms : List ℤ) → bytes ≡ codes "X" ++ rest → IsTaken AreNonzero ended rest ms end → (ns : List ℤ) → AreNumbers ns → IsTrue (are_ids ns) → bytes ≡ codes "X" ++ ended ns → (ms ≡ ns) × (end ≡ [])
deleted-taken bytes rest end ms whole taken ns good form e =
    let tails = append_cancel_left (codes "X") rest (ended ns) (sym whole ∙ e) in
    ended-split ms ns end [] taken.good (ids-nonzero ns good form) taken.opens tt (sym taken.whole ∙ tails ∙ sym (append-nil (ended ns)))

pub deleted-some : (bytes rest end : List ℕ) (ns : List ℤ) → bytes ≡ codes "X" ++ rest → IsTaken AreNonzero ended rest ns end → end ≡ [] → bytes ≡ codes "X" ++ ended ns
deleted-some bytes rest end ns whole taken e = whole ∙ ap (λ r. codes "X" ++ r) (taken.whole ∙ ap (λ m. ended ns ++ m) e ∙ append-nil (ended ns))

-- no line without a row
pub short-none : (bytes : List ℕ)
    → bytes ≢ codes "REGVER FINDING 1"
    → bytes ≢ codes "REGVER FINDING 2"
    → ((q : Asked) → AskedFits q → bytes ≢ codes "LOG" ++ asked q)
    → ((q : Asked) → AskedFits q → bytes ≢ codes "QUERY" ++ asked q)
    → ((v : Conclusion) → ConclusionFits v → IsEnding v → bytes ≢ codes "END" ++ concluded v)
    → (l : Line) → IsLine l → HasNoRow l → bytes ≢ spelled l
short-none bytes header second logged queried ends (Header One) good bare e = header e
short-none bytes header second logged queried ends (Header Two) good bare e = second e
short-none bytes header second logged queried ends (Seen ns) good bare e = absurd bare
short-none bytes header second logged queried ends (Walk ns) good bare e = absurd bare
short-none bytes header second logged queried ends (Dropping ns) good bare e = absurd bare
short-none bytes header second logged queried ends (Pair ns) good bare e = absurd bare
short-none bytes header second logged queried ends (Scan ns) good bare e = absurd bare
short-none bytes header second logged queried ends (Log q) good bare e = logged q good.fits e
short-none bytes header second logged queried ends (Query q) good bare e = queried q good.fits e
short-none bytes header second logged queried ends (Derived ls hs) good bare e = absurd bare
short-none bytes header second logged queried ends (Deleted ns) good bare e = absurd bare
short-none bytes header second logged queried ends (End v) good bare e = ends v good.fits good.form e

-- no line
pub line-none : (bytes : List ℕ)
    → ((ls hs : List ℤ) → AreNumbers ls → AreNumbers hs → IsTrue (rises_from 0 ls) → IsTrue (all_positive hs) → bytes ≢ codes "D" ++ derived ls hs)
    → ((ns : List ℤ) → AreNumbers ns → bytes ≢ codes "DROP" ++ spaced_all ns)
    → ((ns : List ℤ) → AreNumbers ns → bytes ≢ codes "SCAN" ++ spaced_all ns)
    → ((ns : List ℤ) → AreNumbers ns → bytes ≢ codes "SEEN" ++ spaced_all ns)
    → ((ns : List ℤ) → AreNumbers ns → bytes ≢ codes "PAIR" ++ spaced_all ns)
    → ((ns : List ℤ) → AreNumbers ns → bytes ≢ codes "WALK" ++ spaced_all ns)
    → ((ns : List ℤ) → AreNumbers ns → IsTrue (are_ids ns) → bytes ≢ codes "X" ++ ended ns)
    → ((l : Line) → IsLine l → HasNoRow l → bytes ≢ spelled l)
    → (l : Line) → IsLine l → bytes ≢ spelled l
line-none bytes derives drops scans sees pairs walks deletes short (Header version) good e = short (Header version) good tt e
line-none bytes derives drops scans sees pairs walks deletes short (Seen ns) good e = sees ns good.fits e
line-none bytes derives drops scans sees pairs walks deletes short (Walk ns) good e = walks ns good.fits e
line-none bytes derives drops scans sees pairs walks deletes short (Dropping ns) good e = drops ns good.fits e
line-none bytes derives drops scans sees pairs walks deletes short (Pair ns) good e = pairs ns good.fits e
line-none bytes derives drops scans sees pairs walks deletes short (Scan ns) good e = scans ns good.fits e
line-none bytes derives drops scans sees pairs walks deletes short (Log q) good e = short (Log q) good tt e
line-none bytes derives drops scans sees pairs walks deletes short (Query q) good e = short (Query q) good tt e
line-none bytes derives drops scans sees pairs walks deletes short (Derived ls hs) good e = derives ls hs good.fits.0 good.fits.1 good.form.0 good.form.1 e
line-none bytes derives drops scans sees pairs walks deletes short (Deleted ns) good e = deletes ns good.fits good.form e
line-none bytes derives drops scans sees pairs walks deletes short (End v) good e = short (End v) good tt e
