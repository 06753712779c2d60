-- Calls among those of a page, by their sources.
use Rattle.std.proofs.Common.{arith, ◌≡◌, ℕ, zero, suc, ◌+◌, Option, List, [], ◌∷◌, ◌++◌, length, refl, sym, ap, ◌∙◌, subst}
use Rattle.wt_span.specs.Cuts.{source_of_call}
use Rattle.wt_span.specs.Origins.{OuterCall}
use Rattle.wt_part_laws.specs.MovedCalls.{IsMoved, AreMoved}
use Rattle.wt_called_edit_laws.specs.PartTexts.{AreSourcesAt}
use Rattle.wt_called_edit_laws.proofs.PartTexts.{sources_past, sources_first}
use Rattle.wt_called_edit_laws.proofs.Whole.CallPlaces.{AreCallsAt}

pub sources_split : (calls : List OuterCall) (k : ℕ) (cs ds : List OuterCall) → AreSourcesAt calls k (cs ++ ds) → AreSourcesAt calls k cs × AreSourcesAt calls (k + length cs) ds
sources_split calls k [] ds h = let e : k ≡ k + 0 = omega arith in (tt, subst (λ (n : ℕ). AreSourcesAt calls n ds) e h)
sources_split calls k (c ∷ cs) ds h =
    let r = sources_split calls _ cs ds h.1 in
    let n : ℕ = length cs in
    let e = one_more k n in ((h.0, r.0), subst (λ (x : ℕ). AreSourcesAt calls x ds) e r.1)
  where
    one_more : (k n : ℕ) → suc k + n ≡ k + suc n
    one_more k n = omega arith

pub sources_before : (calls : List OuterCall) (k : ℕ) (cs ds : List OuterCall) → AreMoved cs ds → AreSourcesAt calls k ds → AreSourcesAt calls k cs
sources_before calls k [] [] m h = tt
sources_before calls k [] (d ∷ ds) m h = absurd m
sources_before calls k (c ∷ cs) [] m h = absurd m
sources_before calls k (c ∷ cs) (d ∷ ds) m h =
    let o : IsMoved c d = m.0 in
    let same : d.source ≡ c.source = ap (λ (x : OuterCall). x.source) o.now ∙ sym (ap (λ (x : OuterCall). x.source) o.was) in
    (h.0 ∙ same, sources_before calls (suc k) cs ds m.1 h.1)

-- those that are at their places in the page have these sources
pub placed_sources : (calls : List OuterCall) (d k : ℕ) (cs : List OuterCall) → AreCallsAt calls d k cs → AreSourcesAt calls k cs
placed_sources calls d k [] h = tt
placed_sources calls d k (c ∷ cs) h = (ap (λ (x : Option OuterCall). source_of_call x) h.0, placed_sources calls d (suc k) cs h.1)

-- ---- there are such pages, however many calls come before them

abbrev repeated : ℕ → OuterCall → List OuterCall
repeated zero c = []
repeated (suc n) c = c ∷ repeated n c

repeated_len : (n : ℕ) (c : OuterCall) → length (repeated n c) ≡ n
repeated_len zero c = refl
repeated_len (suc n) c = ap suc (repeated_len n c)

pub sources_somewhere : (k : ℕ) (cs : List OuterCall) → (calls : List OuterCall) × AreSourcesAt calls k cs
sources_somewhere k [] = ([], tt)
sources_somewhere k (c ∷ cs) =
    let front : List OuterCall = repeated k c in
    let all : List OuterCall = (c ∷ cs) ++ [] in
    let n : ℕ = length front in
    let size : n ≡ k = repeated_len k c in
    let e : n + 0 ≡ k = omega (arith, size) in
    (front ++ all, subst (λ (m : ℕ). AreSourcesAt (front ++ all) m (c ∷ cs)) e (sources_past front all 0 (c ∷ cs) (sources_first (c ∷ cs) [])))
