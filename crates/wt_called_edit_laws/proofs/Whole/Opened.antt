-- Items are at their places whether each `nowiki` in them is opened or not.
use Rattle.std.proofs.Common.{◌≡◌, ℕ, ◌+◌, ◌<◌, Option, Some, None, List, [], ◌∷◌, length, sym, ap, ◌∙◌, subst, arith, append-nil}
use Rattle.wt_span.specs.Items.{Item, source, sources, call_of}
use Rattle.wt_span.specs.Origins.{OuterCall}
use Rattle.wt_inline.specs.Inside.{opened, opened_all}
use Rattle.wt_inline.proofs.HeldLaws.{sources_opened}
use Rattle.wt_annotated.specs.Seams.{last_of, text_step, text_from}
use Rattle.wt_expand.proofs.PiecePlaces.{AllFrom}
use Rattle.wt_page_round_trip.proofs.OpenedPages.{IsOne, AreOnes, opened_text}
use Rattle.wt_called_edit_laws.proofs.Whole.CallPlaces.{IsAtPlace, AtPlaces, places_append, places_split, own_placed, same_placed}
use Rattle.wt_called_edit_laws.proofs.Whole.InSlice.{one_some}
use Rattle.wt_called_edit_laws.proofs.Whole.OfCall.{opened_from}

-- ---- items of one origin

run_placed : (calls : List OuterCall) (p : ℕ) (o c : Option ℕ) (xs : List Item) → AllFrom c xs → IsAtPlace calls p o c → AtPlaces calls p o xs
run_placed calls p o None xs h g = own_placed calls p o xs h
run_placed calls p o (Some k) [] h g = tt
run_placed calls p o (Some k) (x ∷ xs) h g = (
  subst (λ (c : Option ℕ). IsAtPlace calls p o c) (sym h.0) g,
  same_placed calls (p + length (text_step calls o x)) (call_of x) k xs h.0 h.1,
)

last_from : (o c : Option ℕ) (xs : List Item) → o ≡ c → AllFrom c xs → last_of o xs ≡ c
last_from o c [] e h = e
last_from o c (x ∷ xs) e h = last_from (call_of x) c xs h.0 h.1

last_some : (o c : Option ℕ) (xs : List Item) → 0 < length xs → AllFrom c xs → last_of o xs ≡ c
last_some o c [] n h = absurd (omega (arith, n))
last_some o c (x ∷ xs) n h = last_from (call_of x) c xs h.0 h.1

first_place : (calls : List OuterCall) (p : ℕ) (o c : Option ℕ) (xs : List Item) → 0 < length xs → AllFrom c xs → AtPlaces calls p o xs → IsAtPlace calls p o c
first_place calls p o c [] n h g = absurd (omega (arith, n))
first_place calls p o c (x ∷ xs) n h g = subst (λ (q : Option ℕ). IsAtPlace calls p o q) h.0 g.0

-- ---- an item

opened_source : (x : Item) → sources (opened x) ≡ source x
opened_source x = ap sources (sym (append-nil (opened x))) ∙ sources_opened (x ∷ []) ∙ append-nil (source x)

sources_some : (xs : List Item) → 0 < length (sources xs) → 0 < length xs
sources_some [] h = h
sources_some (x ∷ xs) h = omega arith

pub opened_some : (x : Item) → IsOne x → 0 < length (opened x)
opened_some x h = sources_some (opened x) (subst (λ (bs : List ℕ). 0 < length bs) (sym (opened_source x)) (one_some x h))

opened_step : (calls : List OuterCall) (o : Option ℕ) (x : Item) → IsOne x → text_from calls o (opened x) ≡ text_step calls o x
opened_step calls o x h =
    ap (text_from calls o) (sym (append-nil (opened x))) ∙ opened_text calls o (x ∷ []) (h, tt) ∙ append-nil (text_step calls o x)

-- ---- all of them

pub to_opened : (calls : List OuterCall) (p : ℕ) (o : Option ℕ) (xs : List Item) → AreOnes xs → AtPlaces calls p o xs → AtPlaces calls p o (opened_all xs)
to_opened calls p o [] g h = tt
to_opened calls p o (x ∷ xs) g h =
    let own : List Item = opened x in
    let step : text_from calls o own ≡ text_step calls o x = opened_step calls o x g.0 in
    let last : last_of o own ≡ call_of x = last_some o (call_of x) own (opened_some x g.0) (opened_from x) in
    let rest : AtPlaces calls (p + length (text_step calls o x)) (call_of x) (opened_all xs) =
    to_opened calls (p + length (text_step calls o x)) (call_of x) xs g.1 h.1 in
    places_append calls p o own (opened_all xs) (run_placed calls p o (call_of x) own (opened_from x) h.0)
    (subst (λ (bs : List ℕ). AtPlaces calls (p + length bs) (last_of o own) (opened_all xs)) (sym step)
    (subst (λ (c : Option ℕ). AtPlaces calls (p + length (text_step calls o x)) c (opened_all xs)) (sym last) rest))

pub from_opened : (calls : List OuterCall) (p : ℕ) (o : Option ℕ) (xs : List Item) → AreOnes xs → AtPlaces calls p o (opened_all xs) → AtPlaces calls p o xs
from_opened calls p o [] g h = tt
from_opened calls p o (x ∷ xs) g h =
    let own : List Item = opened x in
    let step : text_from calls o own ≡ text_step calls o x = opened_step calls o x g.0 in
    let last : last_of o own ≡ call_of x = last_some o (call_of x) own (opened_some x g.0) (opened_from x) in
    let r = places_split calls p o own (opened_all xs) h in
    let rest : AtPlaces calls (p + length (text_step calls o x)) (call_of x) (opened_all xs) =
    subst (λ (bs : List ℕ). AtPlaces calls (p + length bs) (call_of x) (opened_all xs)) step
    (subst (λ (c : Option ℕ). AtPlaces calls (p + length (text_from calls o own)) c (opened_all xs)) last r.1) in
    (first_place calls p o (call_of x) own (opened_some x g.0) (opened_from x) r.0, from_opened calls (p + length (text_step calls o x)) (call_of x) xs g.1 rest)
