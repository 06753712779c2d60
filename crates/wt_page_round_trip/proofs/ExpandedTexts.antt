-- The page's own characters in an expanded page are texts in UTF-8.
use Rattle.std.proofs.Common.{◌≡◌, ℕ, suc, ◌+◌, ◌-◌, ◌≤◌, Bool, true, false, None, List, [], ◌∷◌, ◌++◌, length, map, take, drop, IsUtf8, refl, sym, ap, ◌∙◌, subst, arith, append_assoc, append-nil}
use Rattle.std.specs.Prelude.{slice_index}
use Rattle.std.specs.Str.{IsCharBoundary}
use Rattle.std.proofs.lemmas.List.{drop-drop, drop-append-le, length-take-le, take-append-drop, take-take, drop_all, length-drop}
use Rattle.std.proofs.lemmas.Str.{IsUtf8-nil, IsUtf8-take, IsUtf8-drop, IsCharBoundary-after_ascii}
use Rattle.wt_span.specs.declared.form.Mode.TheVariants as mode
use Rattle.wt_span.specs.declared.form.ItemForm.{ItemForm}
use Rattle.wt_span.specs.declared.form.ItemForm.TheVariants as form
use Rattle.wt_span.specs.declared.form.LexKind.{LexKind}
use Rattle.wt_span.specs.declared.form.LexKind.TheVariants as lex
use Rattle.wt_span.specs.Bytes.{is_break}
use Rattle.wt_span.specs.Braces.{Member, Members, lexeme, call, none, more, width, width_of_all}
use Rattle.wt_span.specs.Items.{Item, char, whole, items_by}
use Rattle.wt_span.specs.Origins.{OuterCall}
use Rattle.wt_lex.specs.Reading.{IsForm}
use Rattle.wt_lines.specs.Pieces.{is_chars}
use Rattle.wt_braces.specs.PartMembers.{part_members}
use Rattle.wt_expand.specs.PageItems.{form_of}
use Rattle.wt_expand.specs.Targets.{Called, argument, choice, function, page, text, called}
use Rattle.wt_expand.specs.Work.{Pages}
use Rattle.wt_expand.specs.Expansion.{Output, called_output, front_braces, back_braces, target_part, part_outputs, outputs_of, text_members, page_reading}
use Rattle.wt_expand.specs.PageCalls.{Stretch, own, outer, text_call, outer_at, call_stretches, stretches_of, all_stretches, from_call, outer_items, numbered, page_stretches, expanded_page}
use Rattle.wt_transclusion.proofs.MarkBytes.{IsWordHere}
use Rattle.wt_expansion.proofs.SoundMembers.{IsSoundLexeme, IsCallHere, IsSoundMember, AreSoundMembers, text_sound, text_width}
use Rattle.wt_page_round_trip.specs.GroupTexts.{AreOwnTexts}
use Rattle.wt_page_round_trip.proofs.TextItems.{before_low}
use Rattle.wt_page_round_trip.proofs.OfPage.{AreCut, form_cut, chars_on}
use Rattle.wt_page_round_trip.proofs.OwnTexts.{own_joined}

-- ---- one form

chars_own : (run bs : List ℕ) (ys : List Item) → AreOwnTexts (run ++ bs) ys → AreOwnTexts run (map (char None) bs ++ ys)
chars_own run [] ys h = subst (λ r. AreOwnTexts r ys) (append-nil run) h
chars_own run (b ∷ bs) ys h = chars_own (run ++ b ∷ []) bs ys (subst (λ r. AreOwnTexts r ys) (sym (append_assoc run (b ∷ []) bs)) h)

form_own : (f : ItemForm) (run bs : List ℕ) (ys : List Item) → (is_chars f ≡ true → AreOwnTexts (run ++ bs) ys)
    → (is_chars f ≡ false → IsUtf8 run × IsUtf8 bs × AreOwnTexts [] ys) → AreOwnTexts run (items_by f None bs ++ ys)
form_own form.Chars run bs ys g h = chars_own run bs ys (g refl)
form_own (form.Entity c) run bs ys g h = h refl
form_own form.Nowiki run bs ys g h = h refl
form_own form.Extension run bs ys g h = h refl
form_own form.Function run bs ys g h = h refl
form_own form.Comment run bs ys g h = h refl
form_own form.Include run bs ys g h = h refl
form_own form.Hidden run bs ys g h = h refl
form_own form.EmptyCall run bs ys g h = h refl

-- ---- where forms and calls are cut

word_cut : (kind : LexKind) (n : ℕ) (run bs : List ℕ) → IsForm kind → IsWordHere mode.Page kind n bs → IsUtf8 (run ++ bs) → AreCut run bs n
word_cut kind n run bs f h u = let c = h.cut f in form_cut c.0 kind n run bs u c.1

lexeme_cut : (kind : LexKind) (n : ℕ) (run bs cs : List ℕ) → is_chars (form_of kind cs) ≡ false → IsSoundLexeme mode.Page kind n bs
    → IsUtf8 (run ++ bs) → AreCut run bs n
lexeme_cut lex.Chars n run bs cs e h u = absurd cc
lexeme_cut lex.CommentLine n run bs cs e h u = word_cut lex.CommentLine n run bs tt h u
lexeme_cut lex.Comment n run bs cs e h u = word_cut lex.Comment n run bs tt h u
lexeme_cut lex.Raw n run bs cs e h u = word_cut lex.Raw n run bs tt h u
lexeme_cut lex.Include n run bs cs e h u = word_cut lex.Include n run bs tt h u
lexeme_cut lex.Hidden n run bs cs e h u = word_cut lex.Hidden n run bs tt h u
lexeme_cut (lex.Entity c) n run bs cs e h u = word_cut (lex.Entity c) n run bs tt h u
lexeme_cut lex.Opens n run bs cs e h u = absurd cc
lexeme_cut lex.Closes n run bs cs e h u = absurd cc
lexeme_cut lex.LinkOpen n run bs cs e h u = absurd cc
lexeme_cut lex.LinkClose n run bs cs e h u = absurd cc
lexeme_cut lex.Pipe n run bs cs e h u = absurd cc
lexeme_cut lex.Equals n run bs cs e h u = absurd cc

call_cut : (k : ℕ) (ms : Members) (run bs : List ℕ) → k + width_of_all ms + k ≤ length bs → IsCallHere mode.Page bs k ms → IsUtf8 (run ++ bs)
    → AreCut run bs (k + width_of_all ms + k)
call_cut k ms run [] w h u = absurd (let two = h.two in omega (arith, two, w))
call_cut k ms run (b ∷ bs) w h u =
    let n : ℕ = k + width_of_all ms + k in
    let two = h.two in
    let front : b ≡ 123 = h.first in
    let back = h.last in
    let q : IsUtf8 run × IsUtf8 (b ∷ bs) = before_low run b (omega (arith, front)) bs u in
    let z : k + width_of_all ms + (k - 1) + 1 ≡ n = omega (arith, two) in
    let border : IsCharBoundary (b ∷ bs) n = subst (IsCharBoundary (b ∷ bs)) z
    (IsCharBoundary-after_ascii (b ∷ bs) (k + width_of_all ms + (k - 1)) q.1 (omega (arith, two, w)) (omega (arith, back))) in
    record { before = q.0; form = IsUtf8-take (b ∷ bs) n q.1 border; behind = IsUtf8-drop (b ∷ bs) n q.1 border }

-- ---- calls

called_own : (k : ℕ) (xs ys : List Item) → AreOwnTexts [] ys → AreOwnTexts [] (map (from_call k) xs ++ ys)
called_own k [] ys h = h
called_own k (char o b ∷ xs) ys h = (IsUtf8-nil, called_own k xs ys h)
called_own k (whole f o bs ∷ xs) ys h = (IsUtf8-nil, called_own k xs ys h)

outer_own : (k : ℕ) (c : OuterCall) (xs ys : List Item) → AreOwnTexts [] ys → AreOwnTexts [] (outer_items k c xs ++ ys)
outer_own k c [] ys h = (IsUtf8-nil, h)
outer_own k c (x ∷ xs) ys h = called_own k (x ∷ xs) ys h

outer_goes : (k : ℕ) (c : OuterCall) (xs : List Item) (ss : List Stretch) (run : List ℕ) → IsUtf8 run → AreOwnTexts [] (numbered (suc k) ss)
    → AreOwnTexts run (numbered k (outer c xs ∷ ss))
outer_goes k c xs ss run u h = own_joined run [] (outer_items k c xs ++ numbered (suc k) ss) u (outer_own k c xs (numbered (suc k) ss) h)

-- ---- stretches

-- wherever these bytes of the page come next, behind a run of its characters
abbrev Goes : List Stretch → List ℕ → Type 0
Goes ss bs = (k : ℕ) (run : List ℕ) → IsUtf8 (run ++ bs) → AreOwnTexts run (numbered k ss)

lexeme_goes : (kind : LexKind) (n : ℕ) (bs : List ℕ) (ss : List Stretch) → IsSoundLexeme mode.Page kind n bs → Goes ss (drop n bs)
    → (k : ℕ) (run : List ℕ) → IsUtf8 (run ++ bs) → AreOwnTexts run (items_by (form_of kind (take n bs)) None (take n bs) ++ numbered k ss)
lexeme_goes kind n bs ss h g k run u =
    form_own (form_of kind (take n bs)) run (take n bs) (numbered k ss) (λ e. g k (run ++ take n bs) (chars_on run bs n u))
    (λ e. let c = lexeme_cut kind n run bs (take n bs) e h u in (c.before, c.form, g k [] c.behind))

front_is : (k n : ℕ) (bs : List ℕ) → k ≤ n → take k (take n bs) ++ drop k bs ≡ bs
front_is k n bs l = ap (λ xs. xs ++ drop k bs) (take-take k n bs l) ∙ take-append-drop k bs

back_is : (m n : ℕ) (bs : List ℕ) → m ≤ n → n ≤ length bs → drop m bs ≡ drop m (take n bs) ++ drop n bs
back_is m n bs l w = ap (drop m) (sym (take-append-drop n bs)) ∙ drop-append-le m (take n bs) (drop n bs) (omega (arith, l, length-take-le n bs w))

-- a call that is text: its braces are characters
text_goes : (k : ℕ) (ms : Members) (bs : List ℕ) (inside ss : List Stretch) → k + width_of_all ms + k ≤ length bs → Goes ss (drop (k + width_of_all ms + k) bs)
    → (Goes (own (map (char None) (back_braces k (take (k + width_of_all ms + k) bs))) ∷ ss) (drop (width_of_all ms) (drop k bs))
    → Goes (inside ++ own (map (char None) (back_braces k (take (k + width_of_all ms + k) bs))) ∷ ss) (drop k bs))
    → Goes (own (map (char None) (front_braces k (take (k + width_of_all ms + k) bs)))
    ∷ (inside ++ own (map (char None) (back_braces k (take (k + width_of_all ms + k) bs))) ∷ ss)) bs
text_goes k ms bs inside ss w g f j run u =
    let n : ℕ = k + width_of_all ms + k in
    let source : List ℕ = take n bs in
    let len : length source ≡ n = length-take-le n bs w in
    let m : length source - k ≡ k + width_of_all ms = omega (arith, len) in
    let back : drop (width_of_all ms) (drop k bs) ≡ back_braces k source ++ drop n bs = drop-drop (width_of_all ms) k bs
    ∙ back_is (k + width_of_all ms) n bs (omega arith) w ∙ ap (λ i. drop i source ++ drop n bs) (sym m) in
    let last : Goes (own (map (char None) (back_braces k source)) ∷ ss) (drop (width_of_all ms) (drop k bs)) =
    λ i r v. chars_own r (back_braces k source) (numbered i ss)
    (g i (r ++ back_braces k source)
    (subst IsUtf8 (sym (append_assoc r (back_braces k source) (drop n bs))) (subst (λ xs. IsUtf8 (r ++ xs)) back v))) in
    let here : IsUtf8 ((run ++ front_braces k source) ++ drop k bs) =
    subst IsUtf8 (sym (append_assoc run (front_braces k source) (drop k bs))) (subst (λ xs. IsUtf8 (run ++ xs)) (sym (front_is k n bs (omega arith))) u) in
    chars_own run (front_braces k source) (numbered j (inside ++ own (map (char None) (back_braces k source)) ∷ ss))
    (f last j (run ++ front_braces k source) here)

call_goes : (c : Called) (pages : Pages) (start : Bool) (at k : ℕ) (bs : List ℕ) (ms : Members) (os : List Output) (inside ss : List Stretch)
    → k + width_of_all ms + k ≤ length bs → IsCallHere mode.Page bs k ms → Goes ss (drop (k + width_of_all ms + k) bs)
    → ((ts : List Stretch) → Goes ts (drop (width_of_all ms) (drop k bs)) → Goes (inside ++ ts) (drop k bs))
    → Goes (call_stretches c at k (take (k + width_of_all ms + k) bs) ms
    (called_output c (page_reading pages) start k (take (k + width_of_all ms + k) bs) (part_outputs (part_members 0 ms) os) os).items inside ++ ss) bs
call_goes argument pages start at k bs ms os inside ss w h g f j run u =
    let c = call_cut k ms run bs w h u in
    outer_goes j (outer_at at k (take (k + width_of_all ms + k) bs) ms argument)
    (called_output argument (page_reading pages) start k (take (k + width_of_all ms + k) bs) (part_outputs (part_members 0 ms) os) os).items ss run c.before
    (g (suc j) [] c.behind)
call_goes (choice f n) pages start at k bs ms os inside ss w h g e j run u =
    let c = call_cut k ms run bs w h u in
    outer_goes j (outer_at at k (take (k + width_of_all ms + k) bs) ms (choice f n))
    (called_output (choice f n) (page_reading pages) start k (take (k + width_of_all ms + k) bs) (part_outputs (part_members 0 ms) os) os).items ss run c.before
    (g (suc j) [] c.behind)
call_goes function pages start at k bs ms os inside ss w h g f j run u =
    let c = call_cut k ms run bs w h u in
    (c.before, c.form, g j [] c.behind)
call_goes (page t) pages start at k bs ms os inside ss w h g f j run u =
    let c = call_cut k ms run bs w h u in
    outer_goes j (outer_at at k (take (k + width_of_all ms + k) bs) ms (page t))
    (called_output (page t) (page_reading pages) start k (take (k + width_of_all ms + k) bs) (part_outputs (part_members 0 ms) os) os).items ss run c.before
    (g (suc j) [] c.behind)
call_goes text pages start at k bs ms os inside ss w h g f j run u =
    let back : Stretch = own (map (char None) (back_braces k (take (k + width_of_all ms + k) bs))) in
    let e : (inside ++ back ∷ []) ++ ss ≡ inside ++ back ∷ ss = append_assoc inside (back ∷ []) ss in
    subst (λ (ts : List Stretch). Goes (text_call (at, at + (k + width_of_all ms + k))
    ∷ (own (map (char None) (front_braces k (take (k + width_of_all ms + k) bs))) ∷ ts)) bs) (sym e)
    (text_goes k ms bs inside ss w g (f (back ∷ ss))) j run u

none_dropped : (xs : List ℕ) → drop 0 xs ≡ xs
none_dropped [] = refl
none_dropped (x ∷ xs) = refl

mutual
  one_goes : (pages : Pages) (at : ℕ) (start : Bool) (bs : List ℕ) (m : Member) (ss : List Stretch) → width m ≤ length bs
      → IsSoundMember mode.Page bs m → Goes ss (drop (width m) bs) → Goes (stretches_of (page_reading pages) at start bs m ++ ss) bs
  one_goes pages at start bs (lexeme (kind, n)) ss w f g = lexeme_goes kind n bs ss f g
  one_goes pages at start bs (call k ms) ss w f g =
      let r = page_reading pages in
      let os = outputs_of r false (drop k bs) ms in
      let source = take (k + width_of_all ms + k) bs in
      let target = target_part (part_outputs (part_members 0 ms) os) in
      call_goes (called k source target.items) pages start at k bs ms os (all_stretches r (at + k) false (drop k bs) ms) ss w f.0 g
      (λ ts h. all_goes pages (at + k) false (drop k bs) ms ts (omega (arith, w, length-drop k bs)) f.1 h)

  all_goes : (pages : Pages) (at : ℕ) (start : Bool) (bs : List ℕ) (ms : Members) (ss : List Stretch) → width_of_all ms ≤ length bs
      → AreSoundMembers mode.Page bs ms → Goes ss (drop (width_of_all ms) bs) → Goes (all_stretches (page_reading pages) at start bs ms ++ ss) bs
  all_goes pages at start bs none ss w f g = subst (Goes ss) (none_dropped bs) g
  all_goes pages at start bs (more m ms) ss w f g =
      let r = page_reading pages in
      let next = is_break (slice_index bs (width m - 1)) in
      let rest : List Stretch = all_stretches r (at + width m) next (drop (width m) bs) ms in
      let e : drop (width m + width_of_all ms) bs ≡ drop (width_of_all ms) (drop (width m) bs) = sym (drop-drop (width_of_all ms) (width m) bs) in
      subst (λ (ts : List Stretch). Goes ts bs) (sym (append_assoc (stretches_of r at start bs m) rest ss))
      (one_goes pages at start bs m (rest ++ ss) (omega (arith, w)) f.0
      (all_goes pages (at + width m) next (drop (width m) bs) ms ss (omega (arith, w, length-drop (width m) bs)) f.1 (subst (Goes ss) e g)))

-- ---- the page

stretches_are : (pages : Pages) (bs : List ℕ) → page_stretches pages bs ≡ all_stretches (page_reading pages) 0 true bs (text_members mode.Page bs)
unfolding page_stretches
stretches_are pages bs = refl

page_goes : (pages : Pages) (bs : List ℕ) → IsUtf8 bs → AreOwnTexts [] (numbered 0 (page_stretches pages bs))
page_goes pages bs u =
    let ms : Members = text_members mode.Page bs in
    let ss : List Stretch = all_stretches (page_reading pages) 0 true bs ms in
    let wide : width_of_all ms ≡ length bs = text_width mode.Page bs in
    let none_left : drop (width_of_all ms) bs ≡ [] = drop_all (width_of_all ms) bs (omega (arith, wide)) in
    let end : Goes [] (drop (width_of_all ms) bs) = λ k run v. subst IsUtf8 (ap (λ xs. run ++ xs) none_left ∙ append-nil run) v in
    subst (λ (ts : List Stretch). AreOwnTexts [] (numbered 0 ts)) (append-nil ss ∙ sym (stretches_are pages bs))
    (all_goes pages 0 true bs ms [] (omega (arith, wide)) (text_sound mode.Page bs) end 0 [] u)

pub expanded_own : (pages : Pages) (bs : List ℕ) → IsUtf8 bs → AreOwnTexts [] (expanded_page pages bs).items
unfolding expanded_page
expanded_own pages bs u = page_goes pages bs u
