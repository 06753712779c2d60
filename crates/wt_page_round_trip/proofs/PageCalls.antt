-- The outermost calls of an expanded page are calls of a page in UTF-8.
use Rattle.std.proofs.Common.{◌≡◌, ℕ, suc, ◌+◌, ◌-◌, ◌<◌, ◌≤◌, ◌^◌, Bool, true, false, List, [], ◌∷◌, ◌++◌, length, take, drop, IsUtf8, refl, sym, ap, ◌∙◌, subst, arith}
use Rattle.std.specs.Prelude.{All, slice_index, if◌then◌else◌}
use Rattle.std.specs.List.{AllByRecursion}
use Rattle.std.specs.Str.{IsCharBoundary}
use Rattle.std.proofs.lemmas.List.{drop-drop, get_or-drop, length-map, length-take-le, length-drop}
use Rattle.std.proofs.lemmas.List.Elements.{All-head, All-tail}
use Rattle.std.proofs.lemmas.Str.{IsUtf8-between, IsCharBoundary-before_ascii, IsCharBoundary-after_ascii}
use Rattle.wt_span.specs.declared.form.Mode.TheVariants as mode
use Rattle.wt_span.specs.declared.form.LexKind.{LexKind}
use Rattle.wt_span.specs.declared.form.LexKind.TheVariants as lex
use Rattle.wt_span.specs.Bytes.{is_break}
use Rattle.wt_span.specs.Braces.{Member, Members, lexeme, call, none, more, listed, width, width_of_all, PartSign, pipe, equals, sign_of, in_link, PartAt, parts_of}
use Rattle.wt_span.specs.Items.{Item}
use Rattle.wt_span.specs.Origins.{Span, OuterCall, IsSoundCall}
use Rattle.wt_braces.specs.PartMembers.{PartMembers, with_member, with_equals, with_sign_of, later_after, split_members, part_members, placed, name_width, width_of}
use Rattle.wt_transclusion.proofs.PartLaws.{call_places}
use Rattle.wt_expand.specs.Targets.{Called, argument, choice, function, page, text, called}
use Rattle.wt_expand.specs.Work.{Pages}
use Rattle.wt_expand.specs.Expansion.{Reading, target_part, part_outputs, output_of, outputs_of, text_members, page_reading}
use Rattle.wt_expand.specs.PageCalls.{Stretch, own, link_of, outer_at, call_stretches, stretches_of, all_stretches, outer_calls, page_stretches, expanded_page}
use Rattle.wt_expansion.proofs.SoundMembers.{IsSoundLexeme, IsCallHere, IsSoundMember, AreSoundMembers, text_sound, text_width}
use Rattle.wt_expansion.proofs.SoundCalls.{calls_append, calls_are_sound}
use Rattle.wt_schema.specs.Written.{IsUtf8IfAny}
use Rattle.wt_page_round_trip.specs.GroupTexts.{ArePageCalls}
use Rattle.wt_page_round_trip.proofs.LinkHeads.{link_utf8}

-- what it is beside being sound
record IsTextCall (c : OuterCall) : Type 0 where
  some : 0 < length c.source
  source : IsUtf8 c.source
  link : IsUtf8IfAny c.href
  few : length c.parts < 2 ^ 64

-- ---- how many parts

lexeme_some : (kind : LexKind) (n : ℕ) (bs : List ℕ) → IsSoundLexeme mode.Page kind n bs → 0 < n
lexeme_some lex.Chars n bs h = h.some
lexeme_some lex.CommentLine n bs h = h.some
lexeme_some lex.Comment n bs h = h.some
lexeme_some lex.Raw n bs h = h.some
lexeme_some lex.Include n bs h = h.some
lexeme_some lex.Hidden n bs h = h.some
lexeme_some (lex.Entity c) n bs h = h.some
lexeme_some lex.Opens n bs h = omega (arith, h)
lexeme_some lex.Closes n bs h = omega (arith, h)
lexeme_some lex.LinkOpen n bs h = h.some
lexeme_some lex.LinkClose n bs h = h.some
lexeme_some lex.Pipe n bs h = h.some
lexeme_some lex.Equals n bs h = h.some

member_some : (bs : List ℕ) (m : Member) → IsSoundMember mode.Page bs m → 0 < width m
member_some bs (lexeme (kind, n)) h = lexeme_some kind n bs h
member_some bs (call k ms) h = let two = h.0.two in omega (arith, two)

members_few : (bs : List ℕ) (ms : Members) → AreSoundMembers mode.Page bs ms → length (listed ms) ≤ width_of_all ms
members_few bs none h = omega arith
members_few bs (more m ms) h = omega (arith, member_some bs m h.0, members_few (drop (width m) bs) ms h.1)

with_member_few : (x : Member) (ps : List PartMembers) → length (with_member x ps) ≤ length ps
with_member_few x [] = omega arith
with_member_few x (p ∷ ps) = omega arith

with_equals_few : (n : ℕ) (ps : List PartMembers) → length (with_equals n ps) ≤ length ps
with_equals_few n [] = omega arith
with_equals_few n (p ∷ ps) = omega arith

with_sign_few : (later : Bool) (x : Member) (ss : List PartSign) (ps : List PartMembers) → length (with_sign_of later x ss ps) ≤ suc (length ps)
with_sign_few later x [] ps = omega (arith, with_member_few x ps)
with_sign_few later x (pipe at n ∷ ss) ps = omega arith
with_sign_few true x (equals at n ∷ ss) ps = omega (arith, with_equals_few n ps)
with_sign_few false x (equals at n ∷ ss) ps = omega (arith, with_member_few x ps)

split_few : (later : Bool) (at : ℕ) (before xs : List Member) → length (split_members later at before xs) ≤ suc (length xs)
split_few later at before [] = omega arith
split_few later at before (x ∷ xs) =
    let ss : List PartSign = if in_link before xs then [] else sign_of x at in
    let rest = split_few (later_after later ss) (at + width x) (x ∷ before) xs in
    omega (arith, with_sign_few later x ss (split_members (later_after later ss) (at + width x) (x ∷ before) xs), rest)

placed_len : (p : ℕ) (ps : List PartMembers) → length (placed p ps) ≡ length ps
placed_len p [] = refl
placed_len p (q ∷ ps) = ap suc (placed_len (p + (name_width q.name + width_of q.value) + q.bar) ps)

parts_few : (p : ℕ) (bs : List ℕ) (ms : Members) → AreSoundMembers mode.Page bs ms → length (parts_of p ms) ≤ suc (width_of_all ms)
parts_few p bs ms h =
    omega (arith, ap length (call_places p ms), placed_len p (part_members 0 ms), split_few false 0 [] (listed ms), members_few bs ms h)

-- ---- a call

link_text : (c : Called) → IsUtf8IfAny (link_of c)
link_text argument = tt
link_text (choice f n) = tt
link_text function = tt
link_text (page t) = link_utf8 t
link_text text = tt

byte_of : (t : List ℕ) (at i byte : ℕ) → slice_index (drop at t) i ≡ byte → slice_index t (at + i) ≡ byte
byte_of t at i byte h = sym (get_or-drop at t i 0) ∙ h

outer_text : (t : List ℕ) (at k : ℕ) (ms : Members) (c : Called) → IsUtf8 t → length t < 2 ^ 64 → at + (k + width_of_all ms + k) ≤ length t
    → IsCallHere mode.Page (drop at t) k ms → AreSoundMembers mode.Page (drop k (drop at t)) ms
    → IsTextCall (outer_at at k (take (k + width_of_all ms + k) (drop at t)) ms c)
outer_text t at k ms c u room w h f =
    let n : ℕ = k + width_of_all ms + k in
    let two = h.two in
    let front : slice_index t (at + 0) ≡ 123 = byte_of t at 0 123 h.first in
    let back : slice_index t (at + (k + width_of_all ms + (k - 1))) ≡ 125 = byte_of t at (k + width_of_all ms + (k - 1)) 125 h.last in
    let x : at + 0 ≡ at = omega arith in
    let y : at + (k + width_of_all ms + (k - 1)) + 1 ≡ at + n = omega (arith, two) in
    let begin : IsCharBoundary t at = subst (IsCharBoundary t) x
    (IsCharBoundary-before_ascii t (at + 0) (omega (arith, two, w)) (omega (arith, front))) in
    let end : IsCharBoundary t (at + n) = subst (IsCharBoundary t) y
    (IsCharBoundary-after_ascii t (at + (k + width_of_all ms + (k - 1))) u (omega (arith, two, w)) (omega (arith, back))) in
    let z : at + n - at ≡ n = omega arith in
    let span : PartAt → Span = λ p. (p.from, p.to) in
    let len : length (take n (drop at t)) ≡ n = length-take-le n (drop at t) (omega (arith, w, length-drop at t)) in
    record {
      some = omega (arith, len, two);
      source = subst (λ (m : ℕ). IsUtf8 (take m (drop at t))) z (IsUtf8-between t at (at + n) u (omega arith) begin end);
      link = link_text c;
      few = omega (arith, length-map (parts_of (at + k) ms) span, parts_few (at + k) (drop k (drop at t)) ms f, room, w, two);
    }

-- ---- all calls

abbrev AreTextCalls : List OuterCall → Type 0
AreTextCalls cs = AllByRecursion IsTextCall cs

both_texts : (cs ds : List OuterCall) → AreTextCalls cs → AreTextCalls ds → AreTextCalls (cs ++ ds)
both_texts [] ds f g = g
both_texts (c ∷ cs) ds f g = (f.0, both_texts cs ds f.1 g)

joined_texts : (ss ts : List Stretch) → AreTextCalls (outer_calls ss) → AreTextCalls (outer_calls ts) → AreTextCalls (outer_calls (ss ++ ts))
joined_texts ss ts f g = subst AreTextCalls (sym (calls_append ss ts)) (both_texts (outer_calls ss) (outer_calls ts) f g)

call_texts : (c : Called) (at k : ℕ) (source : List ℕ) (ms : Members) (given : List Item) (inside : List Stretch)
    → ((d : Called) → IsTextCall (outer_at at k source ms d)) → AreTextCalls (outer_calls inside)
    → AreTextCalls (outer_calls (call_stretches c at k source ms given inside))
call_texts argument at k source ms given inside f g = (f argument, tt)
call_texts (choice c n) at k source ms given inside f g = (f (choice c n), tt)
call_texts function at k source ms given inside f g = tt
call_texts (page t) at k source ms given inside f g = (f (page t), tt)
call_texts text at k source ms given inside f g = joined_texts inside (own _ ∷ []) g tt

mutual
  texts_one : (r : Reading) (t : List ℕ) (at : ℕ) (start : Bool) (bs : List ℕ) (m : Member) → IsUtf8 t → length t < 2 ^ 64 → bs ≡ drop at t
      → at + width m ≤ length t → IsSoundMember mode.Page bs m → AreTextCalls (outer_calls (stretches_of r at start bs m))
  texts_one r t at start bs (lexeme w) u room e l f = tt
  texts_one r t at start bs (call k ms) u room e l f =
      let os = outputs_of r false (drop k bs) ms in
      let source = take (k + width_of_all ms + k) bs in
      let target = (target_part (part_outputs (part_members 0 ms) os)).items in
      let inside : drop k bs ≡ drop (at + k) t = ap (drop k) e ∙ drop-drop k at t in
      call_texts (called k source target) at k source ms (output_of r start bs (call k ms)).items (all_stretches r (at + k) false (drop k bs) ms)
      (λ d. subst (λ xs. IsTextCall (outer_at at k (take (k + width_of_all ms + k) xs) ms d)) (sym e)
      (outer_text t at k ms d u room l (subst (λ xs. IsCallHere mode.Page xs k ms) e f.0) (subst (λ xs. AreSoundMembers mode.Page (drop k xs) ms) e f.1)))
      (texts_all r t (at + k) false (drop k bs) ms u room inside (omega (arith, l)) f.1)

  texts_all : (r : Reading) (t : List ℕ) (at : ℕ) (start : Bool) (bs : List ℕ) (ms : Members) → IsUtf8 t → length t < 2 ^ 64 → bs ≡ drop at t
      → at + width_of_all ms ≤ length t → AreSoundMembers mode.Page bs ms → AreTextCalls (outer_calls (all_stretches r at start bs ms))
  texts_all r t at start bs none u room e l f = tt
  texts_all r t at start bs (more m ms) u room e l f =
      let next = is_break (slice_index bs (width m - 1)) in
      joined_texts (stretches_of r at start bs m) (all_stretches r (at + width m) next (drop (width m) bs) ms)
      (texts_one r t at start bs m u room e (omega (arith, l)) f.0)
      (texts_all r t (at + width m) next (drop (width m) bs) ms u room (ap (drop (width m)) e ∙ drop-drop (width m) at t) (omega (arith, l)) f.1)

stretches_are : (pages : Pages) (bs : List ℕ) → page_stretches pages bs ≡ all_stretches (page_reading pages) 0 true bs (text_members mode.Page bs)
unfolding page_stretches
stretches_are pages bs = refl

page_texts : (pages : Pages) (bs : List ℕ) → IsUtf8 bs → length bs < 2 ^ 64 → AreTextCalls (outer_calls (page_stretches pages bs))
page_texts pages bs u room =
    subst (λ (ss : List Stretch). AreTextCalls (outer_calls ss)) (sym (stretches_are pages bs))
    (texts_all (page_reading pages) bs 0 true bs (text_members mode.Page bs) u room (none_dropped bs)
    (omega (arith, text_width mode.Page bs)) (text_sound mode.Page bs))
  where
    none_dropped : (xs : List ℕ) → xs ≡ drop 0 xs
    none_dropped [] = refl
    none_dropped (x ∷ xs) = refl

sound_texts : (cs : List OuterCall) → All IsSoundCall cs → AreTextCalls cs → ArePageCalls cs
sound_texts [] s h = tt
sound_texts (c ∷ cs) s h = (
  record { sound = All-head IsSoundCall c cs s; some = h.0.some; source = h.0.source; link = h.0.link; few = h.0.few },
  sound_texts cs (All-tail IsSoundCall c cs s) h.1,
)

outer_texts : (pages : Pages) (bs : List ℕ) → IsUtf8 bs → length bs < 2 ^ 64 → AreTextCalls (expanded_page pages bs).outer
unfolding expanded_page
outer_texts pages bs u room = page_texts pages bs u room

pub page_calls : (pages : Pages) (bs : List ℕ) → IsUtf8 bs → length bs < 2 ^ 64 → ArePageCalls (expanded_page pages bs).outer
page_calls pages bs u room = sound_texts (expanded_page pages bs).outer (calls_are_sound pages bs u) (outer_texts pages bs u room)
