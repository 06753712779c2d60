-- Each item of what a part of a page gives, or its call, has bytes on the page, wherever its calls are counted among those of the page.
use Rattle.std.proofs.Common.{arith, ◌≡◌, ℕ, suc, ◌+◌, ◌-◌, ◌≤◌, Bool, true, false, Option, Some, None, List, [], ◌∷◌, ◌++◌, length, map, take, drop, refl, sym, ap, ◌∙◌, subst, length-take, length-drop}
use Rattle.std.specs.Prelude.{slice_index, slice_get}
use Rattle.wt_span.specs.declared.form.ItemForm.{ItemForm}
use Rattle.wt_span.specs.declared.form.ItemForm.TheVariants as form
use Rattle.wt_span.specs.declared.form.Mode.TheVariants as mode
use Rattle.wt_span.specs.Bytes.{is_break}
use Rattle.wt_span.specs.Items.{Item, whole, source, items_by, call_of}
use Rattle.wt_span.specs.Lexemes.{words}
use Rattle.wt_span.specs.Origins.{OuterCall}
use Rattle.wt_span.specs.Cuts.{source_of_call}
use Rattle.wt_span.specs.Braces.{Member, Members, lexeme, call, none, more, members, width, width_of_all, reduced}
use Rattle.wt_braces.specs.PartMembers.{part_members}
use Rattle.wt_annotated.specs.Seams.{last_of}
use Rattle.wt_expand.specs.PageItems.{form_of}
use Rattle.wt_expand.specs.Targets.{Called, argument, choice, function, page, text, called}
use Rattle.wt_expand.specs.Work.{Pages}
use Rattle.wt_expand.specs.Expansion.{Output, chars, PartOutput, part_outputs, target_part, Reading, front_braces, back_braces, called_output, outputs_of, text_members, page_reading}
use Rattle.wt_expand.specs.PageCalls.{Stretch, own, outer, text_call, call_stretches, stretches_of, all_stretches, from_call, outer_items, numbered, outer_calls, page_stretches, expanded_page}
use Rattle.wt_expand.proofs.PiecePlaces.{AllFrom, text_behind, behind_page}
use Rattle.wt_transclusion.specs.Stretch.{AreFull}
use Rattle.wt_transclusion.proofs.Full.{full_text, text_bytes}
use Rattle.wt_part_laws.specs.Expanded.{moved_call, part_items, calls_in}
use Rattle.wt_text_edit_laws.specs.BlockSpots.{BlockSpot}
use Rattle.wt_text_edit_laws.specs.TextBlocks.{source_of}
use Rattle.wt_called_edit_laws.specs.PartTexts.{AreSourcesAt}
use Rattle.wt_called_edit_laws.specs.Parts.{calls_to, calls_past, called_items, called_outers}
use Rattle.wt_called_edit_laws.proofs.Among.Members.{named_both, below_all}
use Rattle.wt_called_edit_laws.proofs.Among.OwnItems.{full_members}
use Rattle.wt_called_edit_laws.proofs.PartTexts.{OwnPage, own_page, IsBelow, below_other, behind_new, called_from}

-- ---- each item of the page's own has bytes, and so has each call

abbrev AllFilled : List Item → Type 0
AllFilled [] = Unit {0}
AllFilled (x ∷ xs) = (1 ≤ length (source x)) × AllFilled xs

abbrev AreFilled : List Stretch → Type 0
AreFilled [] = Unit {0}
AreFilled (own xs ∷ ss) = AllFilled xs × AreFilled ss
AreFilled (outer c xs ∷ ss) = (1 ≤ length c.source) × AreFilled ss
AreFilled (text_call s ∷ ss) = AreFilled ss

filled_append : (ss ts : List Stretch) → AreFilled ss → AreFilled ts → AreFilled (ss ++ ts)
filled_append [] ts f g = g
filled_append (own xs ∷ ss) ts f g = (f.0, filled_append ss ts f.1 g)
filled_append (outer c xs ∷ ss) ts f g = (f.0, filled_append ss ts f.1 g)
filled_append (text_call s ∷ ss) ts f g = filled_append ss ts f g

chars_filled : (bs : List ℕ) → AllFilled (chars bs)
chars_filled [] = tt
chars_filled (b ∷ bs) = (omega arith, chars_filled bs)

form_filled : (f : ItemForm) (bs : List ℕ) → 1 ≤ length bs → AllFilled (items_by f None bs)
form_filled form.Chars bs h = chars_filled bs
form_filled (form.Entity c) bs h = (h, tt)
form_filled form.Nowiki bs h = (h, tt)
form_filled form.Extension bs h = (h, tt)
form_filled form.Function bs h = (h, tt)
form_filled form.Comment bs h = (h, tt)
form_filled form.Include bs h = (h, tt)
form_filled form.Hidden bs h = (h, tt)
form_filled form.EmptyCall bs h = (h, tt)

call_filled : (c : Called) (r : Reading) (start : Bool) (at k : ℕ) (written : List ℕ) (ms : Members) (ps : List PartOutput) (os : List Output) (inside : List Stretch)
    → 1 ≤ length written → AreFilled inside → AreFilled (call_stretches c at k written ms (called_output c r start k written ps os).items inside)
call_filled argument r start at k written ms ps os inside h f = (h, tt)
call_filled (choice g n) r start at k written ms ps os inside h f = (h, tt)
call_filled function r start at k written ms ps os inside h f = ((h, tt), tt)
call_filled (page t) r start at k written ms ps os inside h f = (h, tt)
call_filled text r start at k written ms ps os inside h f = (
  chars_filled (front_braces k written),
  filled_append inside (own (chars (back_braces k written)) ∷ []) f (chars_filled (back_braces k written), tt),
)

mutual
  one_filled : (pages : Pages) (at : ℕ) (start : Bool) (bs : List ℕ) (m : Member) (ms : Members) → AreFull (more m ms) → width m ≤ length bs
      → AreFilled (stretches_of (page_reading pages) at start bs m)
  one_filled pages at start bs (lexeme (kind, n)) ms f le =
      let t = length-take n bs in
      let some : 1 ≤ n = f.0 in
      (form_filled (form_of kind (take n bs)) (take n bs) (omega (arith, t, le, some)), tt)
  one_filled pages at start bs (call k is) ms f le =
      let r : Reading = page_reading pages in
      let os = outputs_of r false (drop k bs) is in
      let ps = part_outputs (part_members 0 is) os in
      let written = take (k + width_of_all is + k) bs in
      let t = length-take (k + width_of_all is + k) bs in
      let d = length-drop k bs in
      let two : 2 ≤ k = f.0.0 in
      call_filled (called k written (target_part ps).items) r start at k written is ps os (all_stretches r (at + k) false (drop k bs) is) (omega (arith, t, le, two))
      (all_filled pages (at + k) false (drop k bs) is f.0.1 (omega (arith, d, le)))

  all_filled : (pages : Pages) (at : ℕ) (start : Bool) (bs : List ℕ) (ms : Members) → AreFull ms → width_of_all ms ≤ length bs
      → AreFilled (all_stretches (page_reading pages) at start bs ms)
  all_filled pages at start bs none f le = tt
  all_filled pages at start bs (more m ms) f le =
      let d = length-drop (width m) bs in
      filled_append (stretches_of (page_reading pages) at start bs m)
      (all_stretches (page_reading pages) (at + width m) (is_break (slice_index bs (width m - 1))) (drop (width m) bs) ms)
      (one_filled pages at start bs m ms f (omega (arith, le)))
      (all_filled pages (at + width m) (is_break (slice_index bs (width m - 1))) (drop (width m) bs) ms f.1 (omega (arith, d, le)))

page_filled : (pages : Pages) (bs : List ℕ) → AreFilled (page_stretches pages bs)
unfolding page_stretches text_members
page_filled pages bs =
    let t = text_bytes mode.Page bs in
    all_filled pages 0 true bs (members (reduced (words mode.Page bs))) (full_members (reduced (words mode.Page bs)) (full_text mode.Page bs)) (omega (arith, t))

-- so each item of an expanded page that comes from no call has bytes
abbrev pub OwnFilled : List Item → Type 0
OwnFilled [] = Unit {0}
OwnFilled (x ∷ xs) = (call_of x ≡ None → 1 ≤ length (source x)) × OwnFilled xs

own_append : (xs ys : List Item) → OwnFilled xs → OwnFilled ys → OwnFilled (xs ++ ys)
own_append [] ys f g = g
own_append (x ∷ xs) ys f g = (f.0, own_append xs ys f.1 g)

own_filled : (xs : List Item) → AllFilled xs → OwnFilled xs
own_filled [] f = tt
own_filled (x ∷ xs) f = ((λ e. f.0), own_filled xs f.1)

from_filled : (k : ℕ) (xs : List Item) → AllFrom (Some k) xs → OwnFilled xs
from_filled k [] h = tt
from_filled k (x ∷ xs) h = ((λ e. let no : Some k ≡ None = sym h.0 ∙ e in absurd (cc)), from_filled k xs h.1)

outer_filled : (k : ℕ) (c : OuterCall) (xs : List Item) → OwnFilled (outer_items k c xs)
outer_filled k c [] = ((λ e. absurd (cc)), tt)
outer_filled k c (x ∷ xs) = from_filled k (outer_items k c (x ∷ xs)) (called_from k (x ∷ xs))

numbered_filled : (k : ℕ) (ss : List Stretch) → AreFilled ss → OwnFilled (numbered k ss)
numbered_filled k [] f = tt
numbered_filled k (own xs ∷ ss) f = own_append xs (numbered k ss) (own_filled xs f.0) (numbered_filled k ss f.1)
numbered_filled k (outer c xs ∷ ss) f = own_append (outer_items k c xs) (numbered (suc k) ss) (outer_filled k c xs) (numbered_filled (suc k) ss f.1)
numbered_filled k (text_call t ∷ ss) f = numbered_filled k ss f

pub items_filled : (pages : Pages) (bs : List ℕ) → OwnFilled (expanded_page pages bs).items
unfolding expanded_page
items_filled pages bs = numbered_filled 0 (page_stretches pages bs) (page_filled pages bs)

pub filled_behind : (xs ys : List Item) → OwnFilled (xs ++ ys) → OwnFilled ys
filled_behind [] ys h = h
filled_behind (x ∷ xs) ys h = filled_behind xs ys h.1

-- ---- so each item has some behind the page's own

abbrev pub EachThere : List OuterCall → List Item → Type 0
EachThere calls [] = Unit {0}
EachThere calls (x ∷ xs) = (1 ≤ length (text_behind calls None x)) × EachThere calls xs

pub there_both : (calls : List OuterCall) (xs ys : List Item) → EachThere calls xs → EachThere calls ys → EachThere calls (xs ++ ys)
there_both calls [] ys f g = g
there_both calls (x ∷ xs) ys f g = (f.0, there_both calls xs ys f.1 g)

pub there_behind : (calls : List OuterCall) (xs ys : List Item) → EachThere calls (xs ++ ys) → EachThere calls ys
there_behind calls [] ys h = h
there_behind calls (x ∷ xs) ys h = there_behind calls xs ys h.1

pub there_before : (calls : List OuterCall) (xs ys : List Item) → EachThere calls (xs ++ ys) → EachThere calls xs
there_before calls [] ys h = tt
there_before calls (x ∷ xs) ys h = (h.0, there_before calls xs ys h.1)

own_there : (calls : List OuterCall) (xs : List Item) → AllFilled xs → AllFrom None xs → EachThere calls xs
own_there calls [] f p = tt
own_there calls (x ∷ xs) f p = (omega (arith, f.0, ap length (behind_page calls None x p.0)), own_there calls xs f.1 p.1)

given_there : (calls : List OuterCall) (k : ℕ) (bs : List ℕ) (xs : List Item) → source_of_call (slice_get calls k) ≡ bs → 1 ≤ length bs → AllFrom (Some k) xs
    → EachThere calls xs
given_there calls k bs [] s h f = tt
given_there calls k bs (x ∷ xs) s h f =
    (omega (arith, h, ap length s, ap length (behind_new calls None k x refl f.0)), given_there calls k bs xs s h f.1)

outer_there : (calls : List OuterCall) (k : ℕ) (c : OuterCall) (xs : List Item) → source_of_call (slice_get calls k) ≡ c.source → 1 ≤ length c.source
    → EachThere calls (outer_items k c xs)
outer_there calls k c [] s h = given_there calls k c.source (whole form.EmptyCall (Some k) c.source ∷ []) s h (refl, tt)
outer_there calls k c (x ∷ xs) s h = given_there calls k c.source (map (from_call k) (x ∷ xs)) s h (called_from k (x ∷ xs))

stretches_there : (calls : List OuterCall) (k : ℕ) (ss : List Stretch) → AreFilled ss → OwnPage ss → AreSourcesAt calls k (outer_calls ss) → EachThere calls (numbered k ss)
stretches_there calls k [] f p s = tt
stretches_there calls k (own xs ∷ ss) f p s = there_both calls xs (numbered k ss) (own_there calls xs f.0 p.0) (stretches_there calls k ss f.1 p.1 s)
stretches_there calls k (outer c xs ∷ ss) f p s =
    there_both calls (outer_items k c xs) (numbered (suc k) ss) (outer_there calls k c xs s.0 f.0) (stretches_there calls (suc k) ss f.1 p s.1)
stretches_there calls k (text_call t ∷ ss) f p s = stretches_there calls k ss f p s

pub part_there : (pages : Pages) (calls : List OuterCall) (k : ℕ) (bs : List ℕ) → AreSourcesAt calls k (expanded_page pages bs).outer
    → EachThere calls (part_items pages k bs)
unfolding expanded_page
part_there pages calls k bs s = stretches_there calls k (page_stretches pages bs) (page_filled pages bs) (own_page pages bs) s

-- ---- and so has the first one behind items of earlier calls

abbrev pub FirstHas : List OuterCall → ℕ → List Item → Type 0
FirstHas calls k [] = Unit {0}
FirstHas calls k (x ∷ xs) = (o : Option ℕ) → IsBelow k o → 1 ≤ length (text_behind calls o x)

outer_first : (calls : List OuterCall) (k : ℕ) (c : OuterCall) (xs rest : List Item) → source_of_call (slice_get calls k) ≡ c.source → 1 ≤ length c.source
    → FirstHas calls k (outer_items k c xs ++ rest)
outer_first calls k c [] rest s h =
    λ o b. omega (arith, h, ap length s, ap length (behind_new calls o k (whole form.EmptyCall (Some k) c.source) (below_other k o b) refl))
outer_first calls k c (x ∷ xs) rest s h =
    λ o b. omega (arith, h, ap length s, ap length (behind_new calls o k (from_call k x) (below_other k o b) (called_from k (x ∷ xs)).0))

stretches_first : (calls : List OuterCall) (k : ℕ) (ss : List Stretch) → AreFilled ss → OwnPage ss → AreSourcesAt calls k (outer_calls ss) → FirstHas calls k (numbered k ss)
stretches_first calls k [] f p s = tt
stretches_first calls k (own [] ∷ ss) f p s = stretches_first calls k ss f.1 p.1 s
stretches_first calls k (own (x ∷ xs) ∷ ss) f p s = λ o b. omega (arith, f.0.0, ap length (behind_page calls o x p.0.0))
stretches_first calls k (outer c xs ∷ ss) f p s = outer_first calls k c xs (numbered (suc k) ss) s.0 f.0
stretches_first calls k (text_call t ∷ ss) f p s = stretches_first calls k ss f p s

pub part_first : (pages : Pages) (calls : List OuterCall) (k : ℕ) (bs : List ℕ) → AreSourcesAt calls k (expanded_page pages bs).outer → FirstHas calls k (part_items pages k bs)
unfolding expanded_page
part_first pages calls k bs s = stretches_first calls k (page_stretches pages bs) (page_filled pages bs) (own_page pages bs) s

-- ---- of several parts

unmoved : (d : ℕ) (calls : List OuterCall) (k : ℕ) (cs : List OuterCall) → AreSourcesAt calls k (map (moved_call d) cs) → AreSourcesAt calls k cs
unmoved d calls k [] h = tt
unmoved d calls k (c ∷ cs) h = (h.0, unmoved d calls (suc k) cs h.1)

pub record NamedParts (pages : Pages) (calls : List OuterCall) (k : ℕ) (s : BlockSpot) (ss : List BlockSpot) (end : List ℕ) : Type 0 where
  pub before : AreSourcesAt calls k (expanded_page pages s.before).outer
  pub own : AreSourcesAt calls (calls_to pages k s) (expanded_page pages (source_of s.block s.text)).outer
  pub rest : AreSourcesAt calls (calls_past pages k s) (called_outers pages ss end)

moved_len : (d : ℕ) (cs : List OuterCall) → length (map (moved_call d) cs) ≡ length cs
moved_len d [] = refl
moved_len d (c ∷ cs) = ap suc (moved_len d cs)

pub named_parts : (pages : Pages) (calls : List OuterCall) (k : ℕ) (s : BlockSpot) (ss : List BlockSpot) (end : List ℕ)
    → AreSourcesAt calls k (called_outers pages (s ∷ ss) end) → NamedParts pages calls k s ss end
named_parts pages calls k s ss end h =
    let q : List ℕ = source_of s.block s.text in
    let first : List OuterCall = (expanded_page pages s.before).outer in
    let second : List OuterCall = (expanded_page pages q).outer in
    let third : List OuterCall = map (moved_call (length q)) (called_outers pages ss end) in
    let a = named_both calls k first (map (moved_call (length s.before)) (second ++ third)) h in
    let b = named_both calls (k + length first) second third (unmoved (length s.before) calls (k + length first) (second ++ third) a.1) in
    record { before = a.0; own = b.0; rest = unmoved (length q) calls (k + length first + length second) (called_outers pages ss end) b.1 }

below_more : (k n : ℕ) (o : Option ℕ) → IsBelow k o → IsBelow (k + n) o
below_more k n None b = tt
below_more k n (Some j) b = omega (arith, b)

pub first_both : (calls : List OuterCall) (k n : ℕ) (xs ys : List Item) → FirstHas calls k xs → FirstHas calls (k + n) ys → FirstHas calls k (xs ++ ys)
first_both calls k n [] [] f g = tt
first_both calls k n [] (y ∷ ys) f g = λ o b. g o (below_more k n o b)
first_both calls k n (x ∷ xs) ys f g = f

pub called_first : (pages : Pages) (calls : List OuterCall) (k : ℕ) (ss : List BlockSpot) (end : List ℕ) → AreSourcesAt calls k (called_outers pages ss end)
    → FirstHas calls k (called_items pages k ss end)
called_first pages calls k [] end h = part_first pages calls k end h
called_first pages calls k (s ∷ ss) end h =
    let n : NamedParts pages calls k s ss end = named_parts pages calls k s ss end h in
    let q : List ℕ = source_of s.block s.text in
    let x2 : List Item = part_items pages (calls_to pages k s) q in
    let x3 : List Item = called_items pages (calls_past pages k s) ss end in
    first_both calls k (calls_in pages s.before) (part_items pages k s.before) (x2 ++ x3) (part_first pages calls k s.before n.before)
    (first_both calls (calls_to pages k s) (calls_in pages q) x2 x3 (part_first pages calls (calls_to pages k s) q n.own)
    (called_first pages calls (calls_past pages k s) ss end n.rest))

pub part_below : (pages : Pages) (k : ℕ) (bs : List ℕ) → IsBelow (k + calls_in pages bs) (last_of None (part_items pages k bs))
unfolding expanded_page
part_below pages k bs = below_all k None (page_stretches pages bs) tt (own_page pages bs)

-- each item of several parts has bytes
pub called_there : (pages : Pages) (calls : List OuterCall) (k : ℕ) (ss : List BlockSpot) (end : List ℕ) → AreSourcesAt calls k (called_outers pages ss end)
    → EachThere calls (called_items pages k ss end)
called_there pages calls k [] end h = part_there pages calls k end h
called_there pages calls k (s ∷ ss) end h =
    let n : NamedParts pages calls k s ss end = named_parts pages calls k s ss end h in
    let q : List ℕ = source_of s.block s.text in
    let x2 : List Item = part_items pages (calls_to pages k s) q in
    let x3 : List Item = called_items pages (calls_past pages k s) ss end in
    there_both calls (part_items pages k s.before) (x2 ++ x3) (part_there pages calls k s.before n.before)
    (there_both calls x2 x3 (part_there pages calls (calls_to pages k s) q n.own) (called_there pages calls (calls_past pages k s) ss end n.rest))
