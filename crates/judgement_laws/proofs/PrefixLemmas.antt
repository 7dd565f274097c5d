-- A finding that is cut off before its end lacks the end of a line.
use Rattle.std.proofs.Common.{◌≡◌, ◌≢◌, ◌⊎◌, inl, inr, ⊎_elim, ℕ, ◌+◌, List, [], ◌∷◌, ◌++◌, length, refl, sym, ap, ◌∙◌, subst, arith, append-nil, length-append}
use Rattle.std.specs.Prelude.{Ok}
use Rattle.std.proofs.lemmas.List.Elements.{All-nil, All-cons, All-head, All-tail}
use Rattle.clause_core.specs.Formula.{Formula}
use Rattle.finding_lines.specs.declared.line.Line.{Line}
use Rattle.finding_lines.specs.declared.line.Conclusion.{Conclusion}
use Rattle.finding_lines.specs.Form.{IsLine}
use Rattle.finding_lines.specs.Reading.{LacksFeed}
use Rattle.finding_lines.specs.Spelling.{spelled, written}
use Rattle.finding_lines.proofs.FeedLemmas.{spelled-lacks_feed}
use Rattle.finding_file.specs.Ahead.{nothing, unended, ahead, size}
use Rattle.finding_file.specs.Writing.{all_written}
use Rattle.finding_file.proofs.AheadLemmas.{ahead-unended}
use Rattle.finding_file.proofs.WritingLemmas.{all_written-append}
use Rattle.queries.specs.Settings.{Setting}
use Rattle.queries.specs.Questions.{QueryData}
use Rattle.judgement.specs.Places.{Place, finished, goes}
use Rattle.judgement.specs.Tests.{Moves}
use Rattle.judgement.specs.Findings.{Leads, nowhere, on, Fails, IsJudged}
use Rattle.judgement.specs.declared.answers.Reach.{Reach}
use Rattle.judgement.specs.declared.answers.Reason.TheVariants.{B13}
use Rattle.judgement.specs.declared.answers.Judged.TheVariants.{Valid, Bad}
use Rattle.judgement_laws.specs.Laws.{PrefixIsCutOff}
use Rattle.judgement_laws.proofs.MoveLemmas.{nothing_behind}

-- two ways to part a list: one front is within the other
Within : List ℕ → List ℕ → List ℕ → List ℕ → Type 0
Within xs ys zs ws = (mid : List ℕ) × (zs ≡ xs ++ mid) × (ys ≡ mid ++ ws)

parted : (xs ys zs ws : List ℕ) → xs ++ ys ≡ zs ++ ws → Within xs ys zs ws ⊎ Within zs ws xs ys
unfolding Within
parted [] ys zs ws same = inl (zs, refl, same)
parted (x ∷ xs) ys [] ws same = inr (x ∷ xs, refl, sym same)
parted (x ∷ xs) ys (z ∷ zs) ws same =
    let head : x ≡ z = cc in
    let rest : xs ++ ys ≡ zs ++ ws = cc in
    ⊎_elim
    (λ w. inl (w.0, ap (λ (l : List ℕ). z ∷ l) w.1 ∙ ap (λ (y : ℕ). y ∷ (xs ++ w.0)) (sym head), w.2))
    (λ w. inr (w.0, ap (λ (l : List ℕ). x ∷ l) w.1 ∙ ap (λ (y : ℕ). y ∷ (zs ++ w.0)) head, w.2))
    (parted xs ys zs ws rest)

lacks-left : (xs ys : List ℕ) → LacksFeed (xs ++ ys) → LacksFeed xs
lacks-left [] ys lacks = All-nil _
lacks-left (x ∷ xs) ys lacks =
    All-cons (λ k. k ≢ 10) x xs (All-head (λ k. k ≢ 10) x (xs ++ ys) lacks) (lacks-left xs ys (All-tail (λ k. k ≢ 10) x (xs ++ ys) lacks))

none_behind : (ms behind : List ℕ) → [] ≡ ms ++ behind → behind ≡ []
none_behind [] behind same = sym same
none_behind (m ∷ ms) behind same = absurd (let h : ⊥ = cc in h)

-- a part of a line that lacks its end has no line feed
part_lacks : (line : Line) (part behind : List ℕ) → IsLine line → written line ≡ part ++ behind → behind ≢ [] → LacksFeed part
unfolding Within
part_lacks line part behind form same some =
    ⊎_elim
    (λ w. lacks-left part w.0 (subst LacksFeed w.1 (spelled-lacks_feed line form)))
    (λ w. longer w.0 w.1 w.2)
    (parted part behind (spelled line) (10 ∷ []) (sym same))
  where
    longer : (mid : List ℕ) → part ≡ spelled line ++ mid → (let end : List ℕ = 10 ∷ [] in end) ≡ mid ++ behind → LacksFeed part
    longer [] whole rest = subst LacksFeed (sym (whole ∙ append-nil (spelled line))) (spelled-lacks_feed line form)
    longer (m ∷ ms) whole rest = absurd (some (none_behind ms behind (let tail : [] ≡ ms ++ behind = cc in tail)))

-- what stands ahead of it is no line
ahead_of_part : (part : List ℕ) → LacksFeed part → (ahead part ≡ nothing) ⊎ (ahead part ≡ unended part)
ahead_of_part [] lacks = inl refl
ahead_of_part (b ∷ bs) lacks = inr (ahead-unended b bs lacks)

size_of_part : (part : List ℕ) → LacksFeed part → size (ahead part) ≡ length part
size_of_part [] lacks = refl
size_of_part (b ∷ bs) lacks = ap size (ahead-unended b bs lacks)

module _ (s : Setting) (formula : QueryData → Formula) where
  -- lines that all pass, and a part of one more that would pass
  record IsCut (front : List ℕ) : Type 0 where
    lines : List Line
    place : Place
    part : List ℕ
    leads : Leads s formula lines place
    line : Line
    then : Place
    moves : Moves s formula place line (goes then)
    whole : front ≡ all_written lines ++ part
    lacks : LacksFeed part

  cut : (all : List Line) (place : Place) → Leads s formula all place → (front behind : List ℕ) → all_written all ≡ front ++ behind → behind ≢ [] → IsCut front
  unfolding Within
  cut all place nowhere front behind same some = absurd (some (none_behind front behind same))
  cut all place (on lines line before after leads form moves) front behind same some =
      ⊎_elim (λ w. here w.0 w.1 w.2) (λ w. within (λ mid whole some_left. cut lines before leads front mid whole some_left) w.0 w.1 w.2) (parted (all_written lines) (written line) front behind (sym (all_written-append lines line) ∙ same))
    where
      here : (part : List ℕ) → front ≡ all_written lines ++ part → written line ≡ part ++ behind → IsCut front
      here part whole rest = record {
        lines = lines;
        place = before;
        part = part;
        leads = leads;
        line = line;
        then = after;
        moves = moves;
        whole = whole;
        lacks = part_lacks line part behind form rest some;
      }

      within : ((mid : List ℕ) → all_written lines ≡ front ++ mid → mid ≢ [] → IsCut front) → (mid : List ℕ) → all_written lines ≡ front ++ mid → behind ≡ mid ++ written line → IsCut front
      within earlier [] whole rest = here [] (sym (append-nil front) ∙ sym whole ∙ sym (append-nil (all_written lines))) (sym rest)
      within earlier (m ∷ ms) whole rest = earlier (m ∷ ms) whole (λ none. let h : ⊥ = cc in h)

  -- where a line would pass, one that lacks its end fails by B13
  lacks_end : (place after : Place) (line : Line) (part : List ℕ) → Moves s formula place line (goes after) → LacksFeed part → Fails s formula place part B13
  lacks_end (finished reach verdict) after line part moves lacks = absurd (nothing_behind s formula (finished reach verdict) after verdict line refl moves)
  lacks_end place after line part moves lacks = ⊎_elim (λ e. rw e refl) (λ e. rw e refl) (ahead_of_part part lacks)

  pub prefix_judged : (limit : ℕ) (file front behind : List ℕ) (verdict : Conclusion) (reach : Reach) → IsJudged s formula limit file (Ok (Valid verdict reach)) → file ≡ front ++ behind → behind ≢ []
      → (line : ℕ) × IsJudged s formula limit front (Ok (Bad line B13))
  prefix_judged limit file front behind verdict reach judged split some =
      let stands = judged.1 in
      let all : all_written judged.0 ≡ front ++ behind = sym (append-nil (all_written judged.0)) ∙ sym stands.whole ∙ split in
      let c = cut judged.0 (finished reach verdict) stands.leads front behind all some in
      let long = ap (λ (l : List ℕ). length l) c.whole ∙ length-append (all_written c.lines) c.part in
      let longer = ap (λ (l : List ℕ). length l) all ∙ length-append front behind in
      let within = stands.within in
      let ahead_size = size_of_part c.part c.lacks in
      let test : IsJudged s formula limit front (Ok (Bad (length c.lines + 1) B13)) = (
        c.lines,
        c.place,
        c.part,
        record { leads = c.leads; whole = c.whole; within = omega (arith, long, longer, within) },
        refl,
        (λ too_long. omega (arith, too_long, long, longer, within, ahead_size)),
        lacks_end c.place c.then c.line c.part c.moves c.lacks,
      ) in
      (length c.lines + 1, test)

pub prefix_is_cut_off : PrefixIsCutOff
prefix_is_cut_off s formula limit file front behind verdict reach judged split some = prefix_judged s formula limit file front behind verdict reach judged split some
