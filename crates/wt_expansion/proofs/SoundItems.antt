-- The items of an expanded page are sound.
use Rattle.std.proofs.Common.{◌≡◌, ℕ, suc, ◌+◌, ◌-◌, Bool, true, false, Option, Some, None, List, [], ◌∷◌, ◌++◌, map, take, drop, refl, sym, subst}
use Rattle.std.specs.Prelude.{slice_index, if◌then◌else◌}
use Rattle.wt_span.specs.declared.form.Mode.TheVariants as mode
use Rattle.wt_span.specs.declared.form.ItemForm.{ItemForm}
use Rattle.wt_span.specs.declared.form.ItemForm.TheVariants as form
use Rattle.wt_span.specs.declared.form.LexKind.{LexKind}
use Rattle.wt_span.specs.declared.form.LexKind.TheVariants as lex
use Rattle.wt_span.specs.Bytes.{is_break}
use Rattle.wt_span.specs.Tags.{Tag, opening_tag, is_nowiki}
use Rattle.wt_span.specs.Items.{Item, char, whole, items_by}
use Rattle.wt_span.specs.Origins.{FitsOrigin, OuterCall}
use Rattle.wt_span.specs.Braces.{Member, Members, lexeme, call, none, more, width, width_of_all, IsCall}
use Rattle.wt_braces.specs.PartMembers.{part_members}
use Rattle.wt_expand.specs.PageItems.{raw_form_by}
use Rattle.wt_expand.specs.Targets.{Called, argument, choice, function, page, text, called}
use Rattle.wt_expand.specs.Work.{Pages}
use Rattle.wt_expand.specs.Expansion.{Output, chars, lexeme_items, target_part, part_outputs, front_braces, back_braces, outputs_of, called_output, text_members, page_reading}
use Rattle.wt_expand.specs.PageCalls.{Stretch, own, outer, text_call, call_stretches, stretches_of, all_stretches, from_call, outer_items, numbered, page_stretches, expanded_page}
use Rattle.wt_expansion.specs.Sound.{AreSoundItems}
use Rattle.wt_expansion.proofs.SoundMembers.{IsSoundLexeme, IsCallHere, IsSoundMember, AreSoundMembers, text_sound}
use Rattle.wt_expansion.proofs.WholeOutputs.{AllWhole, whole_lexeme, whole_one, page_whole}

-- ---- items of the page itself

sound_chars : (o : Option ℕ) (bs : List ℕ) → AreSoundItems (map (char o) bs)
sound_chars o [] = tt
sound_chars o (b ∷ bs) = (tt, sound_chars o bs)

sound_append : (xs ys : List Item) → AreSoundItems xs → AreSoundItems ys → AreSoundItems (xs ++ ys)
sound_append [] ys f g = g
sound_append (x ∷ xs) ys f g = (f.0, sound_append xs ys f.1 g)

raw_sound : (o : Option Tag) (bs : List ℕ) → AllWhole (items_by (raw_form_by o) None bs) → AreSoundItems (items_by (raw_form_by o) None bs)
raw_sound None bs h = ((h.0, tt), tt)
raw_sound (Some t) bs h = by_name (is_nowiki t.name) h
  where
    by_name : (b : Bool) → AllWhole (items_by (if b then form.Nowiki else form.Extension) None bs)
        → AreSoundItems (items_by (if b then form.Nowiki else form.Extension) None bs)
    by_name true h = ((h.0, tt), tt)
    by_name false h = ((h.0, tt), tt)

sound_lexeme : (kind : LexKind) (n : ℕ) (bs : List ℕ) → IsSoundLexeme mode.Page kind n bs → AreSoundItems (lexeme_items mode.Page kind (take n bs))
sound_lexeme lex.Chars n bs h = sound_chars None (take n bs)
sound_lexeme lex.CommentLine n bs h = ((h.whole, tt), tt)
sound_lexeme lex.Comment n bs h = ((h.whole, tt), tt)
sound_lexeme lex.Raw n bs h = raw_sound (opening_tag (take n bs)) (take n bs) (whole_lexeme mode.Page lex.Raw n bs h)
sound_lexeme lex.Include n bs h = ((h.whole, tt), tt)
sound_lexeme lex.Hidden n bs h = ((h.whole, tt), tt)
sound_lexeme (lex.Entity c) n bs h = ((h.whole, tt), tt)
sound_lexeme lex.Opens n bs h = sound_chars None (take n bs)
sound_lexeme lex.Closes n bs h = sound_chars None (take n bs)
sound_lexeme lex.LinkOpen n bs h = sound_chars None (take n bs)
sound_lexeme lex.LinkClose n bs h = sound_chars None (take n bs)
sound_lexeme lex.Pipe n bs h = sound_chars None (take n bs)
sound_lexeme lex.Equals n bs h = sound_chars None (take n bs)

-- ---- stretches

abbrev AreSoundStretches : List Stretch → Type 0
AreSoundStretches [] = Unit {0}
AreSoundStretches (own xs ∷ ss) = AreSoundItems xs × AreSoundStretches ss
AreSoundStretches (outer c xs ∷ ss) = (AllWhole xs × IsCall mode.Page c.source) × AreSoundStretches ss
AreSoundStretches (text_call s ∷ ss) = AreSoundStretches ss

stretches_append : (ss ts : List Stretch) → AreSoundStretches ss → AreSoundStretches ts → AreSoundStretches (ss ++ ts)
stretches_append [] ts f g = g
stretches_append (own xs ∷ ss) ts f g = (f.0, stretches_append ss ts f.1 g)
stretches_append (outer c xs ∷ ss) ts f g = (f.0, stretches_append ss ts f.1 g)
stretches_append (text_call s ∷ ss) ts f g = stretches_append ss ts f g

sound_call : (c : Called) (pages : Pages) (start : Bool) (at k : ℕ) (bs : List ℕ) (ms : Members) (os : List Output) (inside : List Stretch)
    → IsCallHere mode.Page bs k ms
    → AllWhole (called_output c (page_reading pages) start k (take (k + width_of_all ms + k) bs) (part_outputs (part_members 0 ms) os) os).items
    → AreSoundStretches inside
    → AreSoundStretches (call_stretches c at k (take (k + width_of_all ms + k) bs) ms
    (called_output c (page_reading pages) start k (take (k + width_of_all ms + k) bs) (part_outputs (part_members 0 ms) os) os).items inside)
sound_call argument pages start at k bs ms os inside h w f = ((w, h.is_call), tt)
sound_call (choice c n) pages start at k bs ms os inside h w f = ((w, h.is_call), tt)
sound_call function pages start at k bs ms os inside h w f = (((w.0, h.is_call), tt), tt)
sound_call (page t) pages start at k bs ms os inside h w f = ((w, h.is_call), tt)
sound_call text pages start at k bs ms os inside h w f =
    let source = take (k + width_of_all ms + k) bs in (
      sound_chars None (front_braces k source),
      stretches_append inside (own (chars (back_braces k source)) ∷ []) f
          (sound_chars None (back_braces k source), tt),
    )

mutual
  sound_one : (pages : Pages) (at : ℕ) (start : Bool) (bs : List ℕ) (m : Member) → IsSoundMember mode.Page bs m
      → AreSoundStretches (stretches_of (page_reading pages) at start bs m)
  sound_one pages at start bs (lexeme (kind, n)) f = (sound_lexeme kind n bs f, tt)
  sound_one pages at start bs (call k ms) f =
      let r = page_reading pages in
      let os = outputs_of r false (drop k bs) ms in
      let source = take (k + width_of_all ms + k) bs in
      let target = target_part (part_outputs (part_members 0 ms) os) in
      sound_call (called k source target.items) pages start at k bs ms os (all_stretches r (at + k) false (drop k bs) ms) f.0
      (whole_one r start bs (call k ms) (page_whole pages) f) (sound_all pages (at + k) false (drop k bs) ms f.1)

  sound_all : (pages : Pages) (at : ℕ) (start : Bool) (bs : List ℕ) (ms : Members) → AreSoundMembers mode.Page bs ms
      → AreSoundStretches (all_stretches (page_reading pages) at start bs ms)
  sound_all pages at start bs none f = tt
  sound_all pages at start bs (more m ms) f =
      let r = page_reading pages in
      let next = is_break (slice_index bs (width m - 1)) in
      stretches_append (stretches_of r at start bs m) (all_stretches r (at + width m) next (drop (width m) bs) ms)
      (sound_one pages at start bs m f.0) (sound_all pages (at + width m) next (drop (width m) bs) ms f.1)

-- ---- items by their calls

called_fits : (f : ItemForm) (k : ℕ) (bs : List ℕ) → FitsOrigin f (Some k) bs
called_fits form.Chars k bs = tt
called_fits (form.Entity c) k bs = tt
called_fits form.Nowiki k bs = tt
called_fits form.Extension k bs = tt
called_fits form.Function k bs = tt
called_fits form.Comment k bs = tt
called_fits form.Include k bs = tt
called_fits form.Hidden k bs = tt
called_fits form.EmptyCall k bs = tt

sound_called : (k : ℕ) (xs : List Item) → AllWhole xs → AreSoundItems (map (from_call k) xs)
sound_called k [] f = tt
sound_called k (char o b ∷ xs) f = (tt, sound_called k xs f.1)
sound_called k (whole g o bs ∷ xs) f = ((f.0, called_fits g k bs), sound_called k xs f.1)

sound_outer : (k : ℕ) (c : OuterCall) (xs : List Item) → AllWhole xs → IsCall mode.Page c.source → AreSoundItems (outer_items k c xs)
sound_outer k c [] f h = ((h, tt), tt)
sound_outer k c (x ∷ xs) f h = sound_called k (x ∷ xs) f

sound_numbered : (k : ℕ) (ss : List Stretch) → AreSoundStretches ss → AreSoundItems (numbered k ss)
sound_numbered k [] f = tt
sound_numbered k (own xs ∷ ss) f = sound_append xs (numbered k ss) f.0 (sound_numbered k ss f.1)
sound_numbered k (outer c xs ∷ ss) f = sound_append (outer_items k c xs) (numbered (suc k) ss) (sound_outer k c xs f.0.0 f.0.1) (sound_numbered (suc k) ss f.1)
sound_numbered k (text_call s ∷ ss) f = sound_numbered k ss f

pub stretches_are : (pages : Pages) (bs : List ℕ) → page_stretches pages bs ≡ all_stretches (page_reading pages) 0 true bs (text_members mode.Page bs)
unfolding page_stretches
stretches_are pages bs = refl

pub page_items_sound : (pages : Pages) (bs : List ℕ) → AreSoundItems (numbered 0 (page_stretches pages bs))
page_items_sound pages bs =
    sound_numbered 0 (page_stretches pages bs)
    (subst AreSoundStretches (sym (stretches_are pages bs)) (sound_all pages 0 true bs (text_members mode.Page bs) (text_sound mode.Page bs)))

pub items_are_sound : (pages : Pages) (bs : List ℕ) → AreSoundItems (expanded_page pages bs).items
unfolding expanded_page
items_are_sound pages bs = page_items_sound pages bs
