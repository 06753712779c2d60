-- Nodes with places: with other trees of the page at the places no item comes from a call, and no node is empty, either.
use Rattle.std.proofs.Common.{◌≡◌, ℕ, Bool, true, false, List, [], ◌∷◌, ◌++◌, refl, sym, ◌∙◌}
use Rattle.std.specs.Prelude.{◌||◌}
use Rattle.std.specs.List.{list_any}
use Rattle.std.proofs.lemmas.List.Folds.{list_any-append}
use Rattle.wt_tree.specs.Kinds.{is_leaf}
use Rattle.wt_span.specs.Items.{Item}
use Rattle.wt_inline.specs.ItemTree.{ItemTree, inner, forest, tree_items, held_by_all}
use Rattle.wt_annotated.specs.Clean.{is_page, is_body}
use Rattle.wt_annotated.specs.WithoutCalls.{holds_page, InsideOf, NoneEmpty, AllNonEmpty, IsPlain}
use Rattle.wt_part_laws.specs.Frames.{Frame, place, whole, around, Frames, no_frames, more_frames, tree_at, trees_at, places_in, all_places}
use Rattle.wt_text_edit_laws.specs.ParagraphBetween.{body_with}
use Rattle.wt_text_edit_laws.proofs.Texts.TypedShown.{AllOfPage, both_of_page}
use Rattle.wt_text_edit_laws.proofs.Blocks.PageItems.{all_of}

-- ---- what is asked of the trees

abbrev HasPage : List Item → Type 0
HasPage xs = list_any is_page xs ≡ true

-- it has an item, all its items are the page's own, and no node in it is empty
abbrev pub IsFull : ItemTree → Type 0
IsFull t = HasPage (tree_items t) × NoneEmpty t × AllOfPage (tree_items t)

-- so at each of these places
abbrev pub AreFull : (ℕ → ItemTree) → List ℕ → Type 0
AreFull w [] = Unit {0}
AreFull w (n ∷ ns) = IsFull (w n) × AreFull w ns

full_split : (w : ℕ → ItemTree) (ms ns : List ℕ) → AreFull w (ms ++ ns) → AreFull w ms × AreFull w ns
full_split w [] ns h = (tt, h)
full_split w (m ∷ ms) ns h = let r = full_split w ms ns h.1 in ((h.0, r.0), r.1)

-- ---- where there was an item, there is one

or_both : (a b c d : Bool) → (a ≡ true → c ≡ true) → (b ≡ true → d ≡ true) → (a || b) ≡ true → (c || d) ≡ true
or_both a b true d f g e = refl
or_both true b false d f g e = let no : false ≡ true = f refl in cc
or_both false b false d f g e = g e

both_have : (xs ys us vs : List Item) → (HasPage xs → HasPage us) → (HasPage ys → HasPage vs) → HasPage (xs ++ ys) → HasPage (us ++ vs)
both_have xs ys us vs f g e =
    list_any-append is_page us vs
    ∙ or_both (list_any is_page xs) (list_any is_page ys) (list_any is_page us) (list_any is_page vs) f g (sym (list_any-append is_page xs ys) ∙ e)

abbrev held : (ℕ → ItemTree) → Frames → List Item
held t fs = held_by_all (forest (trees_at t fs))

mutual
  frame_has : (t w : ℕ → ItemTree) (f : Frame) → AreFull w (places_in f) → HasPage (tree_items (tree_at t f)) → HasPage (tree_items (tree_at w f))
  frame_has t w (place i) h e = h.0.0
  frame_has t w (whole u) h e = e
  frame_has t w (around k o gs c) h e =
      both_have o (held t gs ++ c) o (held w gs ++ c) (λ z. z) (both_have (held t gs) c (held w gs) c (frames_have t w gs h) (λ z. z)) e

  frames_have : (t w : ℕ → ItemTree) (fs : Frames) → AreFull w (all_places fs) → HasPage (held t fs) → HasPage (held w fs)
  frames_have t w no_frames h e = e
  frames_have t w (more_frames f fs) h e =
      let s = full_split w (places_in f) (all_places fs) h in
      both_have (tree_items (tree_at t f)) (held t fs) (tree_items (tree_at w f)) (held w fs) (frame_has t w f s.0) (frames_have t w fs s.1) e

holds_by : (t : ItemTree) → HasPage (tree_items t) → holds_page t ≡ true
holds_by (inner h o ts c) e = or_both false true (is_body h.kind) (list_any is_page (o ++ (held_by_all ts ++ c))) (λ z. cc) (λ z. e) refl

frame_holds : (t w : ℕ → ItemTree) (f : Frame) → AreFull w (places_in f) → holds_page (tree_at t f) ≡ true → holds_page (tree_at w f) ≡ true
frame_holds t w (place i) h e = holds_by (w i) h.0.0
frame_holds t w (whole u) h e = e
frame_holds t w (around k o gs c) h e =
    or_both (is_body k.kind) (list_any is_page (o ++ (held t gs ++ c))) (is_body k.kind) (list_any is_page (o ++ (held w gs ++ c))) (λ z. z)
    (frame_has t w (around k o gs c) h) e

-- ---- no node is empty

inside_by : (v : Bool) (P Q : Type 0) → (P → Q) → InsideOf v P → InsideOf v Q
inside_by true P Q f h = tt
inside_by false P Q f h = f h

mutual
  frame_full : (t w : ℕ → ItemTree) (f : Frame) → AreFull w (places_in f) → NoneEmpty (tree_at t f) → NoneEmpty (tree_at w f)
  frame_full t w (place i) h e = h.0.1
  frame_full t w (whole u) h e = e
  frame_full t w (around k o gs c) h e =
      inside_by (is_leaf k.kind) (AllNonEmpty (forest (trees_at t gs))) (AllNonEmpty (forest (trees_at w gs))) (frames_full t w gs h) e

  frames_full : (t w : ℕ → ItemTree) (fs : Frames) → AreFull w (all_places fs) → AllNonEmpty (forest (trees_at t fs)) → AllNonEmpty (forest (trees_at w fs))
  frames_full t w no_frames h e = e
  frames_full t w (more_frames f fs) h e =
      let s = full_split w (places_in f) (all_places fs) h in
      (frame_holds t w f s.0 e.0, frame_full t w f s.0 e.1, frames_full t w fs s.1 e.2)

-- ---- each item is the page's own

both_pages : (xs ys us vs : List Item) → (AllOfPage xs → AllOfPage us) → (AllOfPage ys → AllOfPage vs) → AllOfPage (xs ++ ys) → AllOfPage (us ++ vs)
both_pages xs ys us vs f g e = let s = all_of xs ys e in both_of_page us vs (f s.0) (g s.1)

mutual
  frame_pages : (t w : ℕ → ItemTree) (f : Frame) → AreFull w (places_in f) → AllOfPage (tree_items (tree_at t f)) → AllOfPage (tree_items (tree_at w f))
  frame_pages t w (place i) h e = h.0.2
  frame_pages t w (whole u) h e = e
  frame_pages t w (around k o gs c) h e =
      both_pages o (held t gs ++ c) o (held w gs ++ c) (λ z. z) (both_pages (held t gs) c (held w gs) c (frames_pages t w gs h) (λ z. z)) e

  frames_pages : (t w : ℕ → ItemTree) (fs : Frames) → AreFull w (all_places fs) → AllOfPage (held t fs) → AllOfPage (held w fs)
  frames_pages t w no_frames h e = e
  frames_pages t w (more_frames f fs) h e =
      let s = full_split w (places_in f) (all_places fs) h in
      both_pages (tree_items (tree_at t f)) (held t fs) (tree_items (tree_at w f)) (held w fs) (frame_pages t w f s.0) (frames_pages t w fs s.1) e

-- ---- the page

pub frames_plain : (t w : ℕ → ItemTree) (fs : Frames) → AreFull w (all_places fs) → IsPlain (body_with (trees_at t fs)) → IsPlain (body_with (trees_at w fs))
frames_plain t w fs h e = record {
  of_page = both_pages (held t fs) [] (held w fs) [] (frames_pages t w fs h) (λ z. z) e.of_page;
  none_empty = frames_full t w fs h e.none_empty;
}
