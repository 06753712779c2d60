-- Bytes of the page that no place touches are in the new page.
use Rattle.std.proofs.Common.{arith, ◌≡◌, ◌≤◌, ◌⊎◌, ℕ, zero, suc, ◌+◌, ◌-◌, Bool, true, false, List, [], ◌∷◌, ◌++◌, length, take, drop, refl, sym, ap, ◌∙◌, subst, inl, inr, append_assoc, drop-drop, take-append-drop, leb-true, leb-false}
use Rattle.std.specs.Prelude.{nat_le}
use Rattle.std.specs.List.{AllByRecursion}
use Rattle.wt_tree.specs.Tiling.{end_of}
use Rattle.wt_tree.specs.Tree.{Tree, label}
use Rattle.wt_splice.specs.Splice.{AreApart, Change, between, spliced, spliced_from}
use Rattle.wt_places.specs.declared.slot.Slot.{Slot}
use Rattle.wt_places.specs.Places.{gap_end, places}
use Rattle.wt_places.specs.Rewritten.{IsRewritten, LiesInOne}
use Rattle.wt_call_laws.specs.Untouched.{HasBytes, IsBeside, IsUntouched}

-- ---- cuts

abbrev no_bytes : List ℕ
no_bytes = []

take_none : (n : ℕ) → take n no_bytes ≡ no_bytes
take_none zero = refl
take_none (suc n) = refl

split_take : (m n k : ℕ) (bytes : List ℕ) → k ≡ m + n → take k bytes ≡ take m bytes ++ take n (drop m bytes)
split_take zero n k bytes e = let f : k ≡ n = omega (arith, e) in ap (λ (i : ℕ). take i bytes) f
split_take (suc m) n k [] e = take_none k ∙ sym (take_none n)
split_take (suc m) n k (b ∷ bs) e =
    let f : k ≡ suc (m + n) = omega (arith, e) in
    ap (λ (i : ℕ). take i (b ∷ bs)) f ∙ ap (λ (x : List ℕ). b ∷ x) (split_take m n (m + n) bs refl)

between_joins : (start end : ℕ) (bytes : List ℕ) → start ≤ end → between start end bytes ++ drop end bytes ≡ drop start bytes
between_joins start end bytes le =
    let e : start + (end - start) ≡ end = omega (arith, le) in
    ap (λ (n : ℕ). between start end bytes ++ drop n bytes) (sym e)
    ∙ ap (λ bs. between start end bytes ++ bs) (sym (drop-drop (end - start) start bytes)) ∙ take-append-drop (end - start) (drop start bytes)

joined : (a b c : ℕ) (bytes : List ℕ) → a ≤ b → b ≤ c → between a c bytes ≡ between a b bytes ++ between b c bytes
joined a b c bytes x y =
    let width : c - a ≡ (b - a) + (c - b) = omega (arith, x, y) in
    let place : a + (b - a) ≡ b = omega (arith, x) in
    split_take (b - a) (c - b) (c - a) (drop a bytes) width
    ∙ ap (λ (bs : List ℕ). between a b bytes ++ take (c - b) bs) (drop-drop (b - a) a bytes ∙ ap (λ (n : ℕ). drop n bytes) place)

-- ---- slices beside these bytes

abbrev Avoids : ℕ → ℕ → Change → Type 0
Avoids a b c = (c.end ≤ a) ⊎ (b ≤ c.start)

avoids : (a b : ℕ) (ss : List Slot) (c : Change) → AllByRecursion (IsBeside a b) ss → LiesInOne ss c → Avoids a b c
avoids a b [] c h l = absurd l
avoids a b (s ∷ ss) c h (inl l) = by h.0
  where
    by : IsBeside a b s → Avoids a b c
    by (inl e) = let most = l.1 in inl (omega (arith, e, most))
    by (inr e) = let least = l.0 in inr (omega (arith, e, least))
avoids a b (s ∷ ss) c h (inr l) = avoids a b ss c h.1 l

all_avoid : (a b : ℕ) (ss : List Slot) (cs : List Change) → AllByRecursion (IsBeside a b) ss → AllByRecursion (LiesInOne ss) cs
    → AllByRecursion (Avoids a b) cs
all_avoid a b ss [] h l = tt
all_avoid a b ss (c ∷ cs) h l = (avoids a b ss c h l.0, all_avoid a b ss cs h l.1)

stay_from : (page : List ℕ) (a b at : ℕ) (cs : List Change) → a ≤ b → at ≤ a → AreApart at cs (length page) → AllByRecursion (Avoids a b) cs
    → HasBytes (spliced_from page at cs) (between a b page)
stay_from page a b at [] le from h v = record {
  before = between at a page;
  after = drop b page;
  is = sym (ap (λ (bs : List ℕ). between at a page ++ bs) (between_joins a b page le) ∙ between_joins at a page from);
}
stay_from page a b at (c ∷ cs) le from h v = by v.0 (λ e. stay_from page a b c.end cs le e h.2 v.1)
  where
    by : Avoids a b c → (c.end ≤ a → HasBytes (spliced_from page c.end cs) (between a b page)) → HasBytes (spliced_from page at (c ∷ cs)) (between a b page)
    by (inl e) next =
        let r = next e in
        record {
          before = between at c.start page ++ (c.by ++ r.before);
          after = r.after;
          is =
              ap (λ (bs : List ℕ). between at c.start page ++ (c.by ++ bs)) r.is
              ∙ ap (λ (bs : List ℕ). between at c.start page ++ bs) (sym (append_assoc c.by r.before (between a b page ++ r.after)))
              ∙ sym (append_assoc (between at c.start page) (c.by ++ r.before) (between a b page ++ r.after));
        }
    by (inr e) next =
        let rest : List ℕ = c.by ++ spliced_from page c.end cs in
        record {
          before = between at a page;
          after = between b c.start page ++ rest;
          is =
              ap (λ (bs : List ℕ). bs ++ rest)
              (joined at a c.start page from (omega (arith, le, e)) ∙ ap (λ (bs : List ℕ). between at a page ++ bs) (joined a b c.start page le e))
              ∙ append_assoc (between at a page) (between a b page ++ between b c.start page) rest
              ∙ ap (λ (bs : List ℕ). between at a page ++ bs) (append_assoc (between a b page) (between b c.start page) rest);
        }

none_between : (page new : List ℕ) (a b : ℕ) → b ≤ a → HasBytes new (between a b page)
none_between page new a b le =
    let e : b - a ≡ 0 = omega (arith, le) in
    record { before = []; after = new; is = sym (ap (λ (n : ℕ). take n (drop a page) ++ new) e) }

bytes_stay : (page : List ℕ) (a b : ℕ) (ss : List Slot) (cs : List Change) → AreApart 0 cs (length page) → AllByRecursion (LiesInOne ss) cs
    → AllByRecursion (IsBeside a b) ss → HasBytes (spliced page cs) (between a b page)
unfolding spliced
bytes_stay page a b ss cs apart lie h = by (nat_le a b) refl
  where
    by : (v : Bool) → nat_le a b ≡ v → HasBytes (spliced_from page 0 cs) (between a b page)
    by true e = stay_from page a b 0 cs (leb-true a b e) (omega arith) apart (all_avoid a b ss cs h lie)
    by false e = let lt = leb-false a b e in none_between page (spliced_from page 0 cs) a b (omega (arith, lt))

pub untouched_stay : (page new : List ℕ) (t u p : Tree) → IsRewritten page t u new → IsUntouched (places t u) p
    → HasBytes new (between (gap_end p) (end_of (label p).ranges) page)
untouched_stay page new t u p r h =
    subst (λ (bytes : List ℕ). HasBytes bytes (between (gap_end p) (end_of (label p).ranges) page)) r.is
    (bytes_stay page (gap_end p) (end_of (label p).ranges) (places t u) r.changes r.apart r.lie_in h)
