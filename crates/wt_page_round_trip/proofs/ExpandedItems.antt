-- The items of an expanded page whose work isn't refused: texts in UTF-8, those of each origin by themselves, and whole forms.
use Rattle.std.proofs.Common.{◌≡◌, ℕ, suc, ◌+◌, ◌-◌, ◌≤◌, Bool, true, false, Option, Some, None, List, [], ◌∷◌, ◌++◌, length, map, take, drop, IsUtf8, refl, sym, subst, arith, length-drop}
use Rattle.std.specs.Prelude.{slice_index}
use Rattle.std.proofs.lemmas.Str.{IsUtf8-nil}
use Rattle.wt_span.specs.declared.form.Mode.TheVariants as mode
use Rattle.wt_span.specs.declared.form.ItemForm.{ItemForm}
use Rattle.wt_span.specs.declared.form.ItemForm.TheVariants as form
use Rattle.wt_span.specs.Bytes.{is_break}
use Rattle.wt_span.specs.Items.{Item, char, whole}
use Rattle.wt_span.specs.Origins.{OuterCall}
use Rattle.wt_span.specs.Braces.{Member, Members, lexeme, call, none, more, width, width_of_all}
use Rattle.wt_braces.specs.PartMembers.{part_members}
use Rattle.wt_inline.specs.Parts.{same_origin}
use Rattle.wt_expand.specs.Targets.{Called, argument, choice, function, page, text, called}
use Rattle.wt_expand.specs.Work.{Pages, first_refusal}
use Rattle.wt_expand.specs.Expansion.{Output, joined, chars, PartOutput, target_part, part_outputs, front_braces, back_braces, called_output, output_of, outputs_of, text_members, page_reading, page_work}
use Rattle.wt_expand.specs.PageCalls.{Stretch, own, outer, text_call, call_stretches, stretches_of, all_stretches, from_call, outer_items, numbered, page_stretches, expanded_page}
use Rattle.wt_expansion.proofs.SoundMembers.{IsCallHere, IsSoundMember, AreSoundMembers, text_sound, text_width}
use Rattle.wt_page_round_trip.proofs.TextItems.{continues, IfOther, IsSeam, AreTexts, texts_both}
use Rattle.wt_page_round_trip.proofs.OfPage.{IsPageForm, IsGivenBy, IsPageItem, AreOfPage, ArePageItems, same_self}
use Rattle.wt_page_round_trip.proofs.TextMembers.{IsTextMember, AreTextMembers, members_utf8}
use Rattle.wt_page_round_trip.proofs.GivenItems.{AreGiven, given_chars}
use Rattle.wt_page_round_trip.proofs.TemplateTexts.{AreTextEntries, entries_left, entries_right, unrefused_text}
use Rattle.wt_page_round_trip.proofs.TextOutputs.{IsTextCall, call_text, good_one, good_reading}

-- ---- items of the page itself

own_seam : (o : Option ℕ) (run : List ℕ) (xs : List Item) → o ≡ None → AreGiven run xs → IsSeam o xs
own_seam o run [] e h = tt
own_seam o run (char p c ∷ xs) e h =
    subst (λ q. IfOther (same_origin o q) (continues c ≡ false)) (sym h.0)
    (subst (λ q. IfOther (same_origin q None) (continues c ≡ false)) (sym e) tt)
own_seam o run (whole f p bs ∷ xs) e h = tt

own_texts : (run : List ℕ) (xs : List Item) → AreGiven run xs → AreTexts run xs
own_texts run [] h = h
own_texts run (char o b ∷ xs) h = (own_seam o (run ++ b ∷ []) xs h.0 h.1, own_texts (run ++ b ∷ []) xs h.1)
own_texts run (whole f o bs ∷ xs) h = (h.0, own_texts [] xs h.3)

own_forms : (run : List ℕ) (xs : List Item) → AreGiven run xs → AreOfPage xs
own_forms run [] h = tt
own_forms run (char o b ∷ xs) h = (tt, own_forms (run ++ b ∷ []) xs h.1)
own_forms run (whole f o bs ∷ xs) h = (subst (λ p. IsPageItem (whole f p bs)) (sym h.1) h.2, own_forms [] xs h.3)

-- ---- items of a call

called_seam : (k : ℕ) (xs : List Item) → IsSeam (Some k) (map (from_call k) xs)
called_seam k [] = tt
called_seam k (char o b ∷ xs) = subst (λ t. IfOther t (continues b ≡ false)) (sym (same_self (Some k))) tt
called_seam k (whole f o bs ∷ xs) = tt

called_texts : (k : ℕ) (run : List ℕ) (xs : List Item) → AreGiven run xs → AreTexts run (map (from_call k) xs)
called_texts k run [] h = h
called_texts k run (char o b ∷ xs) h = (called_seam k xs, called_texts k (run ++ b ∷ []) xs h.1)
called_texts k run (whole f o bs ∷ xs) h = (h.0, called_texts k [] xs h.3)

by_call : (f : ItemForm) (k : ℕ) → IsGivenBy f (Some k)
by_call form.Chars k = tt
by_call (form.Entity c) k = tt
by_call form.Nowiki k = tt
by_call form.Extension k = tt
by_call form.Function k = tt
by_call form.Comment k = tt
by_call form.Include k = tt
by_call form.Hidden k = tt
by_call form.EmptyCall k = tt

called_forms : (k : ℕ) (run : List ℕ) (xs : List Item) → AreGiven run xs → AreOfPage (map (from_call k) xs)
called_forms k run [] h = tt
called_forms k run (char o b ∷ xs) h = (tt, called_forms k (run ++ b ∷ []) xs h.1)
called_forms k run (whole f o bs ∷ xs) h = ((by_call f k, let i = h.2 in i.1), called_forms k [] xs h.3)

outer_page : (k : ℕ) (c : OuterCall) (xs : List Item) → AreGiven [] xs → IsPageForm form.EmptyCall c.source → ArePageItems (outer_items k c xs)
outer_page k c [] h e = record { texts = (IsUtf8-nil, IsUtf8-nil); page = ((tt, e), tt) }
outer_page k c (x ∷ xs) h e = record { texts = called_texts k [] (x ∷ xs) h; page = called_forms k [] (x ∷ xs) h }

-- ---- stretches

forms_both : (xs ys : List Item) → AreOfPage xs → AreOfPage ys → AreOfPage (xs ++ ys)
forms_both [] ys f g = g
forms_both (x ∷ xs) ys f g = (f.0, forms_both xs ys f.1 g)

both_items : (xs ys : List Item) → ArePageItems xs → ArePageItems ys → ArePageItems (xs ++ ys)
both_items xs ys h i = record { texts = texts_both [] xs ys h.texts i.texts; page = forms_both xs ys h.page i.page }

-- what stretches give, and the calls that may give nothing
abbrev AreGivenStretches : List Stretch → Type 0
AreGivenStretches [] = Unit {0}
AreGivenStretches (own xs ∷ ss) = AreGiven [] xs × AreGivenStretches ss
AreGivenStretches (outer c xs ∷ ss) = (AreGiven [] xs × IsPageForm form.EmptyCall c.source) × AreGivenStretches ss
AreGivenStretches (text_call s ∷ ss) = AreGivenStretches ss

given_append : (ss ts : List Stretch) → AreGivenStretches ss → AreGivenStretches ts → AreGivenStretches (ss ++ ts)
given_append [] ts f g = g
given_append (own xs ∷ ss) ts f g = (f.0, given_append ss ts f.1 g)
given_append (outer c xs ∷ ss) ts f g = (f.0, given_append ss ts f.1 g)
given_append (text_call s ∷ ss) ts f g = given_append ss ts f g

numbered_items : (k : ℕ) (ss : List Stretch) → AreGivenStretches ss → ArePageItems (numbered k ss)
numbered_items k [] h = record { texts = IsUtf8-nil; page = tt }
numbered_items k (own xs ∷ ss) h =
    both_items xs (numbered k ss) (record { texts = own_texts [] xs h.0; page = own_forms [] xs h.0 }) (numbered_items k ss h.1)
numbered_items k (outer c xs ∷ ss) h =
    both_items (outer_items k c xs) (numbered (suc k) ss) (outer_page k c xs h.0.0 h.0.1) (numbered_items (suc k) ss h.1)
numbered_items k (text_call s ∷ ss) h = numbered_items k ss h

given_call : (pages : Pages) (c : Called) (start : Bool) (at k : ℕ) (bs : List ℕ) (ms : Members) (ps : List PartOutput) (os : List Output)
    (inside : List Stretch) → IsCallHere mode.Page bs k ms → IsUtf8 (take (k + width_of_all ms + k) bs) → IsTextCall k (take (k + width_of_all ms + k) bs)
    → AreGiven [] (called_output c (page_reading pages) start k (take (k + width_of_all ms + k) bs) ps os).items
    → AreTextEntries pages (called_output c (page_reading pages) start k (take (k + width_of_all ms + k) bs) ps os).work
    → (AreTextEntries pages (joined os).work → AreGivenStretches inside)
    → AreGivenStretches (call_stretches c at k (take (k + width_of_all ms + k) bs) ms
    (called_output c (page_reading pages) start k (take (k + width_of_all ms + k) bs) ps os).items inside)
given_call pages argument start at k bs ms ps os inside h u s g w f = ((g, (h.is_call, u)), tt)
given_call pages (choice c n) start at k bs ms ps os inside h u s g w f = ((g, (h.is_call, u)), tt)
given_call pages function start at k bs ms ps os inside h u s g w f = (g, tt)
given_call pages (page t) start at k bs ms ps os inside h u s g w f = ((g, (h.is_call, u)), tt)
given_call pages text start at k bs ms ps os inside h u s g w f =
    let source = take (k + width_of_all ms + k) bs in (
      given_chars (front_braces k source) s.front,
      given_append inside (own (chars (back_braces k source)) ∷ []) (f (entries_left pages (joined os).work [] w))
          (given_chars (back_braces k source) s.back, tt),
    )

mutual
  given_one : (pages : Pages) (at : ℕ) (start : Bool) (bs : List ℕ) (m : Member) → width m ≤ length bs → IsSoundMember mode.Page bs m
      → IsUtf8 (take (width m) bs) → IsTextMember bs m → AreTextEntries pages (output_of (page_reading pages) start bs m).work
      → AreGivenStretches (stretches_of (page_reading pages) at start bs m)
  given_one pages at start bs (lexeme v) l s u t w = (good_one pages (page_reading pages) start bs (lexeme v) (good_reading pages) l s u t w, tt)
  given_one pages at start bs (call k ms) l s u t w =
      let r = page_reading pages in
      let os = outputs_of r false (drop k bs) ms in
      let source = take (k + width_of_all ms + k) bs in
      let ps = part_outputs (part_members 0 ms) os in
      given_call pages (called k source (target_part ps).items) start at k bs ms ps os (all_stretches r (at + k) false (drop k bs) ms) s.0 u
      (call_text mode.Page bs k ms l s.0 u) (good_one pages r start bs (call k ms) (good_reading pages) l s u t w) w
      (λ v. given_all pages (at + k) false (drop k bs) ms (omega (arith, l, length-drop k bs)) s.1 t v)

  given_all : (pages : Pages) (at : ℕ) (start : Bool) (bs : List ℕ) (ms : Members) → width_of_all ms ≤ length bs → AreSoundMembers mode.Page bs ms
      → AreTextMembers bs ms → AreTextEntries pages (joined (outputs_of (page_reading pages) start bs ms)).work
      → AreGivenStretches (all_stretches (page_reading pages) at start bs ms)
  given_all pages at start bs none l s t w = tt
  given_all pages at start bs (more m ms) l s t w =
      let r = page_reading pages in
      let next = is_break (slice_index bs (width m - 1)) in
      let here : Output = output_of r start bs m in
      let rest : List Output = outputs_of r next (drop (width m) bs) ms in
      given_append (stretches_of r at start bs m) (all_stretches r (at + width m) next (drop (width m) bs) ms)
      (given_one pages at start bs m (omega (arith, l)) s.0 t.0 t.1 (entries_left pages here.work (joined rest).work w))
      (given_all pages (at + width m) next (drop (width m) bs) ms (omega (arith, l, length-drop (width m) bs)) s.1 t.2
      (entries_right pages here.work (joined rest).work w))

-- ---- the page

stretches_are : (pages : Pages) (bs : List ℕ) → page_stretches pages bs ≡ all_stretches (page_reading pages) 0 true bs (text_members mode.Page bs)
unfolding page_stretches
stretches_are pages bs = refl

page_entries : (pages : Pages) (bs : List ℕ) → AreTextEntries pages (page_work pages bs)
    → AreTextEntries pages (joined (outputs_of (page_reading pages) true bs (text_members mode.Page bs))).work
unfolding page_work
page_entries pages bs w = w.1

page_given : (pages : Pages) (bs : List ℕ) → IsUtf8 bs → first_refusal pages bs (page_work pages bs) ≡ None
    → AreGivenStretches (page_stretches pages bs)
page_given pages bs u e =
    let ms : Members = text_members mode.Page bs in
    let wide = text_width mode.Page bs in
    subst AreGivenStretches (sym (stretches_are pages bs))
    (given_all pages 0 true bs ms (omega (arith, wide)) (text_sound mode.Page bs) (members_utf8 mode.Page bs u)
    (page_entries pages bs (unrefused_text pages bs (page_work pages bs) e)))

pub expanded_items : (pages : Pages) (page : List ℕ) → IsUtf8 page → first_refusal pages page (page_work pages page) ≡ None
    → ArePageItems (expanded_page pages page).items
unfolding expanded_page
expanded_items pages bs u e = numbered_items 0 (page_stretches pages bs) (page_given pages bs u e)
