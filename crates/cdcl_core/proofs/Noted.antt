-- Noted hints lead where the values went.
use Rattle.std.proofs.Common.{◌≡◌, ℕ, ◌<◌, ◌+◌, List, [], ◌∷◌, ◌++◌, length, get_or, Some, refl, sym, ◌∙◌, ap, append_assoc, add-one, append-nil}
use Rattle.std.proofs.lemmas.Option.{slice_get_read}
use Rattle.clause_core.specs.declared.literal.Lit.{Lit}
use Rattle.clause_core.specs.declared.truth.Truth.{Truth}
use Rattle.clause_core.specs.declared.status.Status.{Status}
use Rattle.clause_core.specs.declared.status.Status.TheVariants.{Falsified, Unit as UnitLiteral}
use Rattle.clause_core.specs.Values.{put_true}
use Rattle.clause_core.specs.Steps.{clause_status, follow_hints, clause_at, at_hint, after_status}
use Rattle.cdcl_core.specs.Noting.{Leads, Derives}

clause-number : (held : List (List Lit)) (i : ℕ) (c : List Lit) → i < length held → c ≡ get_or held i c → clause_at held (i + 1) ≡ Some c
clause-number held i c lt is = ap (clause_at held) (add-one i) ∙ slice_get_read held (length held) i c refl lt is

hint-step : (held : List (List Lit)) (h : ℕ) (c : List Lit) (vs : List Truth) (rest : List ℕ) (s : Status) → clause_at held h ≡ Some c → clause_status vs c ≡ s → follow_hints held vs (h ∷ rest) ≡ after_status h s vs (λ next. follow_hints held next rest)
hint-step held h c vs rest s e k =
    ap (λ o. at_hint h o vs (λ next. follow_hints held next rest)) e ∙ ap (λ z. after_status h z vs (λ next. follow_hints held next rest)) k

pub Leads-unit : (held : List (List Lit)) (start vs : List Truth) (hs : List ℕ) (i : ℕ) (c : List Lit) (l : Lit) → i < length held → c ≡ get_or held i c → clause_status vs c ≡ UnitLiteral l → Leads held start vs hs → Leads held start (put_true vs l) (hs ++ (i + 1) ∷ [])
Leads-unit held start vs hs i c l lt is k h rest =
    ap (follow_hints held start) (append_assoc hs ((i + 1) ∷ []) rest) ∙ h ((i + 1) ∷ rest) ∙ hint-step held (i + 1) c vs rest (UnitLiteral l) (clause-number held i c lt is) k

pub Derives-conflict : (held : List (List Lit)) (start vs : List Truth) (hs hs' : List ℕ) (i : ℕ) (c : List Lit) → i < length held → c ≡ get_or held i c → clause_status vs c ≡ Falsified → Leads held start vs hs → hs' ≡ hs ++ (i + 1) ∷ [] → Derives held start hs'
Derives-conflict held start vs hs hs' i c lt is k h e =
    record {
      accepted = ap (follow_hints held start) e ∙ h ((i + 1) ∷ []) ∙ hint-step held (i + 1) c vs [] Falsified (clause-number held i c lt is) k;
      last = (hs, i + 1, e, ap (follow_hints held start) (sym (append-nil hs)) ∙ h []);
    }

pub Leads-nil : (held : List (List Lit)) (vs : List Truth) (hs : List ℕ) → hs ≡ [] → Leads held vs vs hs
Leads-nil held vs hs e rest = ap (λ z. follow_hints held vs (z ++ rest)) e
