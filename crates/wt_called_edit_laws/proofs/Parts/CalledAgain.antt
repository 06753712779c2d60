-- Where new contents are written in the blocks of a page with calls, it is such a page again, and no more work to expand; and it is refused only if it
-- was before.
use Rattle.std.proofs.Common.{arith, ◌≡◌, ◌⊎◌, ◌≤◌, inl, inr, ℕ, ◌+◌, Bool, true, false, Option, Some, None, List, [], ◌∷◌, ◌++◌, nat_lt, refl, sym, ap, ◌∙◌, subst}
use Rattle.std.specs.Prelude.{if◌then◌else◌}
use Rattle.std.specs.Option.{option_map, option_or}
use Rattle.std.proofs.lemmas.Bool.Decides.{nat_tests}
use Rattle.wt_span.specs.declared.form.Mode.TheVariants.{Page}
use Rattle.wt_span.specs.Lexemes.{words}
use Rattle.wt_expand.specs.Work.{Pages, Entry, entered, begun, fetched, ended, Refused, braces_too_deep, too_large, most_cost, if_large, deep_place, cost_of, entry_refusal, refusal_from, first_refusal}
use Rattle.wt_expand.specs.Expansion.{page_work}
use Rattle.wt_part_laws.specs.Expanded.{GivesAnywhere}
use Rattle.wt_text_edit_laws.specs.NoCalls.{Brace, NonePairs}
use Rattle.wt_text_edit_laws.specs.ReadContents.{BeginsUnclosed, IsReadContent, IsReadAnew}
use Rattle.wt_text_edit_laws.proofs.Blocks.BlocksAgain.{led_again}
use Rattle.wt_text_edit_laws.specs.TextBlocks.{TextBlock, source_of}
use Rattle.wt_text_edit_laws.specs.BlockSpots.{BlockSpot, spots_source, EndBeforeBlocks, IsReadSpot, AreReadSpots, SameRound}
use Rattle.std.specs.Str.{IsUtf8}
use Rattle.wt_expand.specs.PageItems.{page_items}
use Rattle.wt_text_edit_laws.specs.TextBlocks.{BeginsLine}
use Rattle.wt_text_edit_laws.proofs.Blocks.TypedAgain.{AreReadOver, further_still_end, spot_still_ends}
use Rattle.wt_called_edit_laws.specs.Parts.{left_of, all_left, GiveAnywhere, AreParted, AreCalled, work_in, called_work}
use Rattle.wt_called_edit_laws.specs.Retyped.{AreSomeOf, IsLess, IsPartAnew, AreWrittenAnew}
use Rattle.wt_called_edit_laws.proofs.Parts.LeftBraces.{pairs_rest}
use Rattle.wt_called_edit_laws.proofs.Parts.LessBraces.{pairs_front, less_self, less_both}
use Rattle.wt_called_edit_laws.proofs.Parts.Depths.{IsShallow, undeep_shallow, shallow_undeep}
use Rattle.wt_called_edit_laws.proofs.Parts.PartByPart.{AreShallow, page_from}

-- ---- the same content, or a new one

-- what holds of the old content, and of the new one
by_text : (P : TextBlock → List ℕ → Type 0) (pages : Pages) (s r : BlockSpot) → r.block ≡ s.block → (r.text ≡ s.text) ⊎ IsPartAnew pages r.block s.text r.text
    → P s.block s.text → (IsPartAnew pages r.block s.text r.text → P r.block r.text) → P r.block r.text
by_text P pages s r k (inl e) h f = subst (λ q. P r.block q) (sym e) (subst (λ j. P j s.text) (sym k) h)
by_text P pages s r k (inr n) h f = f n

pub anew_round : (pages : Pages) (ss rs : List BlockSpot) → AreWrittenAnew pages ss rs → SameRound ss rs
anew_round pages [] [] h = tt
anew_round pages [] (r ∷ rs) h = absurd h
anew_round pages (s ∷ ss) [] h = absurd h
anew_round pages (s ∷ ss) (r ∷ rs) h = (h.0, h.1, anew_round pages ss rs h.3)

anew_over : (pages : Pages) (ss rs : List BlockSpot) → AreWrittenAnew pages ss rs → AreReadOver ss rs
anew_over pages [] [] h = tt
anew_over pages [] (r ∷ rs) h = absurd h
anew_over pages (s ∷ ss) [] h = absurd h
anew_over pages (s ∷ ss) (r ∷ rs) h = (one h.2, anew_over pages ss rs h.3)
  where
    one : (r.text ≡ s.text) ⊎ IsPartAnew pages r.block s.text r.text → (r.text ≡ s.text) ⊎ IsReadAnew r.block s.text r.text
    one (inl e) = inl e
    one (inr n) = inr n.read

-- ---- the page

spot_again : (pages : Pages) (s r : BlockSpot) → IsReadSpot s → r.before ≡ s.before → r.block ≡ s.block
    → (r.text ≡ s.text) ⊎ IsPartAnew pages r.block s.text r.text → IsReadSpot r
spot_again pages s r h e k o = record {
  led = led_again s r h.led e k (still_unclosed o);
  before_utf8 = subst IsUtf8 (sym e) h.before_utf8;
  block = by_text (λ j q. IsReadContent j q) pages s r k o h.block (λ n. let a = n.read in a.read);
}
  where
    still_unclosed : (r.text ≡ s.text) ⊎ IsPartAnew pages r.block s.text r.text → (r.text ≡ s.text) ⊎ BeginsUnclosed r.text
    still_unclosed (inl same) = inl same
    still_unclosed (inr n) = let a = n.read in let f = a.firm in inr f.unclosed

after_again : (pages : Pages) (ss rs : List BlockSpot) (behind : List ℕ) → AreReadSpots ss behind → AreWrittenAnew pages ss rs → AreReadSpots rs behind
after_again pages [] [] behind h t = h
after_again pages [] (r ∷ rs) behind h t = absurd t
after_again pages (s ∷ ss) [] behind h t = absurd t
after_again pages (s ∷ ss) (r ∷ rs) behind h t = (
  spot_again pages s r h.0 t.0 t.1 t.2,
  subst (λ bs. BeginsLine (page_items bs)) (sym t.0) h.1,
  after_again pages ss rs behind h.2 t.3,
)

anywhere_again : (pages : Pages) (ss rs : List BlockSpot) → AreWrittenAnew pages ss rs → GiveAnywhere pages ss → GiveAnywhere pages rs
anywhere_again pages [] [] t h = tt
anywhere_again pages [] (r ∷ rs) t h = absurd t
anywhere_again pages (s ∷ ss) [] t h = absurd t
anywhere_again pages (s ∷ ss) (r ∷ rs) t h =
    (by_text (λ j q. GivesAnywhere pages (source_of j q)) pages s r t.1 t.2 h.0 (λ n. n.anywhere), anywhere_again pages ss rs t.3 h.1)

text_left : (pages : Pages) (s r : BlockSpot) → r.block ≡ s.block → (r.text ≡ s.text) ⊎ IsPartAnew pages r.block s.text r.text
    → NonePairs (left_of (source_of s.block s.text)) → IsLess (left_of (source_of r.block r.text)) (left_of (source_of s.block s.text))
text_left pages s r k o n =
    by_text (λ j q. IsLess (left_of (source_of j q)) (left_of (source_of s.block s.text))) pages s r k o (less_self (left_of (source_of s.block s.text)) n)
    (λ m. subst (λ j. IsLess (left_of (source_of r.block r.text)) (left_of (source_of j s.text))) k m.left)

spots_left : (pages : Pages) (ss rs : List BlockSpot) (behind : List ℕ) → AreWrittenAnew pages ss rs → NonePairs (all_left ss behind)
    → IsLess (all_left rs behind) (all_left ss behind)
spots_left pages [] [] behind t n = less_self (left_of behind) n
spots_left pages [] (r ∷ rs) behind t n = absurd t
spots_left pages (s ∷ ss) [] behind t n = absurd t
spots_left pages (s ∷ ss) (r ∷ rs) behind t n =
    let was : List Brace = left_of (source_of s.block s.text) in
    let now : List Brace = left_of (source_of r.block r.text) in
    let later : NonePairs (was ++ all_left ss behind) = pairs_rest (left_of s.before) (was ++ all_left ss behind) n in
    let front : IsLess (left_of r.before) (left_of s.before) =
    subst (λ bs. IsLess (left_of bs) (left_of s.before)) (sym t.0) (less_self (left_of s.before) (pairs_front (left_of s.before) (was ++ all_left ss behind) n)) in
    less_both (left_of r.before) (left_of s.before) (now ++ all_left rs behind) (was ++ all_left ss behind) front
    (less_both now was (all_left rs behind) (all_left ss behind) (text_left pages s r t.1 t.2 (pairs_front was (all_left ss behind) later))
    (spots_left pages ss rs behind t.3 (pairs_rest was (all_left ss behind) later)) later) n

pub called_again : (pages : Pages) (ss rs : List BlockSpot) (behind : List ℕ) → AreCalled pages ss behind → AreWrittenAnew pages ss rs → AreCalled pages rs behind
called_again pages [] rs behind h t = absurd h
called_again pages (s ∷ ss) [] behind h t = absurd t
called_again pages (s ∷ ss) (r ∷ rs) behind h t =
    let w : AreParted pages (s ∷ ss) behind = h.2 in
    let e : SameRound (s ∷ ss) (r ∷ rs) = anew_round pages (s ∷ ss) (r ∷ rs) t in
    let o : AreReadOver (s ∷ ss) (r ∷ rs) = anew_over pages (s ∷ ss) (r ∷ rs) t in
    let after : AreReadSpots rs behind = after_again pages ss rs behind h.1 t.3 in
    let ends : EndBeforeBlocks (r ∷ rs) behind =
    spot_still_ends s r ss rs behind h.0 h.1 after e o w.end_before (further_still_end ss rs behind h.1 after e.2 o.1 w.end_before.2) in (
      spot_again pages s r h.0 t.0 t.1 t.2,
      after,
      record {
        end_before = ends;
        anywhere = anywhere_again pages (s ∷ ss) (r ∷ rs) t w.anywhere;
        apart = let less = spots_left pages (s ∷ ss) (r ∷ rs) behind t w.apart in less.apart;
      },
    )

-- ---- its work

some_all : (es : List Entry) → AreSomeOf es es
some_all [] = tt
some_all (e ∷ es) = inl (refl, some_all es)

some_more : (ds : List Entry) (e : Entry) (es : List Entry) → AreSomeOf ds es → AreSomeOf ds (e ∷ es)
some_more [] e es h = tt
some_more (d ∷ ds) e es h = inr h

some_behind : (us ds es : List Entry) → AreSomeOf ds es → AreSomeOf ds (us ++ es)
some_behind [] ds es h = h
some_behind (u ∷ us) ds es h = some_more ds u (us ++ es) (some_behind us ds es h)

pub both_some : (us vs ds es : List Entry) → AreSomeOf us vs → AreSomeOf ds es → AreSomeOf (us ++ ds) (vs ++ es)
both_some [] vs ds es h g = some_behind vs ds es g
both_some (u ∷ us) [] ds es h g = absurd h
both_some (u ∷ us) (v ∷ vs) ds es (inl h) g = inl (h.0, both_some us vs ds es h.1 g)
both_some (u ∷ us) (v ∷ vs) ds es (inr h) g = inr (both_some (u ∷ us) vs ds es h g)

-- some of some
pub some_after : (us vs ws : List Entry) → AreSomeOf us vs → AreSomeOf vs ws → AreSomeOf us ws
some_after [] vs ws h g = tt
some_after (u ∷ us) [] ws h g = absurd h
some_after (u ∷ us) (v ∷ vs) [] h g = absurd g
some_after (u ∷ us) (v ∷ vs) (w ∷ ws) h (inr g) = inr (some_after (u ∷ us) (v ∷ vs) ws h g)
some_after (u ∷ us) (v ∷ vs) (w ∷ ws) (inl h) (inl g) = inl (h.0 ∙ g.0, some_after us vs ws h.1 g.1)
some_after (u ∷ us) (v ∷ vs) (w ∷ ws) (inr h) (inl g) = inr (some_after (u ∷ us) vs ws h g.1)

text_work : (pages : Pages) (s r : BlockSpot) → r.block ≡ s.block → (r.text ≡ s.text) ⊎ IsPartAnew pages r.block s.text r.text
    → AreSomeOf (work_in pages (source_of r.block r.text)) (work_in pages (source_of s.block s.text))
text_work pages s r k o =
    by_text (λ j q. AreSomeOf (work_in pages (source_of j q)) (work_in pages (source_of s.block s.text))) pages s r k o
    (some_all (work_in pages (source_of s.block s.text)))
    (λ n. subst (λ j. AreSomeOf (work_in pages (source_of r.block r.text)) (work_in pages (source_of j s.text))) k n.work)

some_work : (pages : Pages) (ss rs : List BlockSpot) (behind : List ℕ) → AreWrittenAnew pages ss rs
    → AreSomeOf (called_work pages rs behind) (called_work pages ss behind)
some_work pages [] [] behind t = some_all (work_in pages behind)
some_work pages [] (r ∷ rs) behind t = absurd t
some_work pages (s ∷ ss) [] behind t = absurd t
some_work pages (s ∷ ss) (r ∷ rs) behind t =
    let front : AreSomeOf (work_in pages r.before) (work_in pages s.before) =
    subst (λ bs. AreSomeOf (work_in pages bs) (work_in pages s.before)) (sym t.0) (some_all (work_in pages s.before)) in
    both_some (work_in pages r.before) (work_in pages s.before)
    (work_in pages (source_of r.block r.text) ++ called_work pages rs behind) (work_in pages (source_of s.block s.text) ++ called_work pages ss behind) front
    (both_some (work_in pages (source_of r.block r.text)) (work_in pages (source_of s.block s.text)) (called_work pages rs behind) (called_work pages ss behind)
    (text_work pages s r t.1 t.2) (some_work pages ss rs behind t.3))

pub work_of : (pages : Pages) (ss : List BlockSpot) (behind : List ℕ) → AreCalled pages ss behind
    → page_work pages (spots_source ss behind) ≡ entered None ∷ called_work pages ss behind
unfolding page_work
work_of pages ss behind h = let f = page_from pages ss behind h in ap (λ (es : List Entry). entered None ∷ es) f.gives.work_is

pub less_work : (pages : Pages) (ss rs : List BlockSpot) (behind : List ℕ) → AreCalled pages ss behind → AreCalled pages rs behind → AreWrittenAnew pages ss rs
    → AreSomeOf (page_work pages (spots_source rs behind)) (page_work pages (spots_source ss behind))
less_work pages ss rs behind h g t =
    subst (λ (ds : List Entry). AreSomeOf ds (page_work pages (spots_source ss behind))) (sym (work_of pages rs behind g))
    (subst (λ (es : List Entry). AreSomeOf (entered None ∷ called_work pages rs behind) es) (sym (work_of pages ss behind h))
    (inl (refl, some_work pages ss rs behind t)))

-- ---- no call lies deeper

text_shallow : (pages : Pages) (s r : BlockSpot) → r.block ≡ s.block → (r.text ≡ s.text) ⊎ IsPartAnew pages r.block s.text r.text
    → IsShallow (words Page (source_of s.block s.text)) → IsShallow (words Page (source_of r.block r.text))
text_shallow pages s r k o d =
    by_text (λ j q. IsShallow (words Page (source_of j q))) pages s r k o d
    (λ n. undeep_shallow (source_of r.block r.text)
    (n.undeep (subst (λ j. deep_place Page (source_of j s.text) ≡ None) (sym k) (shallow_undeep (source_of s.block s.text) d))))

shallow_again : (pages : Pages) (ss rs : List BlockSpot) (behind : List ℕ) → AreWrittenAnew pages ss rs → AreShallow ss behind → AreShallow rs behind
shallow_again pages [] [] behind t d = d
shallow_again pages [] (r ∷ rs) behind t d = absurd t
shallow_again pages (s ∷ ss) [] behind t d = absurd t
shallow_again pages (s ∷ ss) (r ∷ rs) behind t d = (
  subst (λ bs. IsShallow (words Page bs)) (sym t.0) d.0,
  text_shallow pages s r t.1 t.2 d.1,
  shallow_again pages ss rs behind t.3 d.2,
)

pub undeep_again : (pages : Pages) (ss rs : List BlockSpot) (behind : List ℕ) → AreCalled pages ss behind → AreCalled pages rs behind → AreWrittenAnew pages ss rs
    → deep_place Page (spots_source ss behind) ≡ None → deep_place Page (spots_source rs behind) ≡ None
undeep_again pages ss rs behind h g t d =
    let f = page_from pages ss behind h in
    let n = page_from pages rs behind g in
    shallow_undeep (spots_source rs behind) (n.shallow.1 (shallow_again pages ss rs behind t (f.shallow.0 (undeep_shallow (spots_source ss behind) d))))

-- ---- what is refused

IsNothing : {A : Type 0} → Option A → Type 0
IsNothing None = Unit {0}
IsNothing (Some x) = ⊥

both_none : (a b : Option Refused) → option_or a b ≡ None → (a ≡ None) × (b ≡ None)
unfolding IsNothing
both_none None b e = (refl, e)
both_none (Some r) b e = absurd (subst IsNothing (sym e) tt)

none_or : (a b : Option Refused) → a ≡ None → b ≡ None → option_or a b ≡ None
none_or a b e f = ap (λ o. option_or o b) e ∙ f

no_place : (o : Option ℕ) → option_map (braces_too_deep None) o ≡ None → o ≡ None
unfolding IsNothing
no_place None e = refl
no_place (Some n) e = absurd (subst IsNothing (sym e) tt)

large_by : (t : Bool) → (if t then Some too_large else None) ≡ None → t ≡ false
unfolding IsNothing
large_by true e = absurd (subst IsNothing (sym e) tt)
large_by false e = refl

lt_less : (m c d : ℕ) → d ≤ c → nat_lt m c ≡ false → nat_lt m d ≡ false
lt_less m c d le e = grind (arith, nat_tests)

-- what costs less isn't too large either
large_less : (c d : ℕ) → d ≤ c → if_large c ≡ None → if_large d ≡ None
large_less c d le e = ap (λ (t : Bool). if t then Some too_large else None) (lt_less most_cost c d le (large_by (nat_lt most_cost c) e))

entry_again : (pages : Pages) (was now : List ℕ) (cost less : ℕ) (e : Entry) → less ≤ cost → deep_place Page now ≡ None
    → entry_refusal pages was cost e ≡ None → entry_refusal pages now less e ≡ None
entry_again pages was now cost less (entered None) le d h = ap (option_map (braces_too_deep None)) d
entry_again pages was now cost less (entered (Some title)) le d h = h
entry_again pages was now cost less begun le d h = large_less cost less le h
entry_again pages was now cost less (fetched title) le d h = h
entry_again pages was now cost less (ended n) le d h = large_less cost less le h

pub refused_again : (pages : Pages) (was now : List ℕ) (spent less : ℕ) (ds es : List Entry) → less ≤ spent → deep_place Page now ≡ None → AreSomeOf ds es
    → refusal_from pages was spent es ≡ None → refusal_from pages now less ds ≡ None
refused_again pages was now spent less [] es le d s h = refl
refused_again pages was now spent less (x ∷ ds) [] le d s h = absurd s
refused_again pages was now spent less (x ∷ ds) (e ∷ es) le d (inl s) h =
    let split = both_none (entry_refusal pages was (spent + cost_of e) e) (refusal_from pages was (spent + cost_of e) es) h in
    subst (λ (y : Entry). option_or (entry_refusal pages now (less + cost_of y) y) (refusal_from pages now (less + cost_of y) ds) ≡ None) (sym s.0)
    (none_or (entry_refusal pages now (less + cost_of e) e) (refusal_from pages now (less + cost_of e) ds)
    (entry_again pages was now (spent + cost_of e) (less + cost_of e) e (omega (arith, le)) d split.0)
    (refused_again pages was now (spent + cost_of e) (less + cost_of e) ds es (omega (arith, le)) d s.1 split.1))
refused_again pages was now spent less (x ∷ ds) (e ∷ es) le d (inr s) h =
    let split = both_none (entry_refusal pages was (spent + cost_of e) e) (refusal_from pages was (spent + cost_of e) es) h in
    refused_again pages was now (spent + cost_of e) less (x ∷ ds) es (omega (arith, le)) d s split.1

undeep_of : (pages : Pages) (bs : List ℕ) (es : List Entry) → refusal_from pages bs 0 (entered None ∷ es) ≡ None → deep_place Page bs ≡ None
undeep_of pages bs es h =
    let s = both_none (option_map (braces_too_deep None) (deep_place Page bs)) (refusal_from pages bs 0 es) h in no_place (deep_place Page bs) s.0

pub still_unrefused : (pages : Pages) (ss rs : List BlockSpot) (behind : List ℕ) → AreCalled pages ss behind → AreCalled pages rs behind
    → AreWrittenAnew pages ss rs → first_refusal pages (spots_source ss behind) (page_work pages (spots_source ss behind)) ≡ None
    → first_refusal pages (spots_source rs behind) (page_work pages (spots_source rs behind)) ≡ None
unfolding first_refusal
still_unrefused pages ss rs behind h g t none =
    let was : List ℕ = spots_source ss behind in
    let now : List ℕ = spots_source rs behind in
    let first : refusal_from pages was 0 (entered None ∷ called_work pages ss behind) ≡ None = sym (ap (refusal_from pages was 0) (work_of pages ss behind h)) ∙ none in
    let undeep : deep_place Page now ≡ None = undeep_again pages ss rs behind h g t (undeep_of pages was (called_work pages ss behind) first) in
    refused_again pages was now 0 0 (page_work pages now) (page_work pages was) (omega arith) undeep (less_work pages ss rs behind h g t) none
