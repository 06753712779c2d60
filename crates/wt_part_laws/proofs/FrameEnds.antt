-- With other blocks of the page alone at its places, a tree begins and ends with items of the same calls, and its nodes are as clean.
use Rattle.std.proofs.Common.{◌≡◌, ℕ, Bool, true, false, Option, None, List, [], ◌∷◌, ◌++◌, refl, sym, ap, ap₂, ◌∙◌, subst}
use Rattle.std.specs.Prelude.{◌&&◌, ◌||◌}
use Rattle.std.specs.List.{list_all, list_any}
use Rattle.std.proofs.lemmas.List.Folds.{list_any-append}
use Rattle.wt_tree.specs.Kinds.{is_leaf}
use Rattle.wt_span.specs.Items.{Item}
use Rattle.wt_inline.specs.ItemTree.{Head, ItemTree, inner, ItemTrees, forest, tree_items, held_by_all}
use Rattle.wt_annotated.specs.Clean.{is_page, is_body, own_by}
use Rattle.wt_annotated.specs.Seams.{last_of, first_of, parted}
use Rattle.wt_annotated.specs.Walked.{clean_at}
use Rattle.wt_annotated.proofs.Seams.{first_append, last_append}
use Rattle.wt_part_laws.specs.Frames.{Frame, place, whole, around, Frames, no_frames, more_frames, tree_at, trees_at, places_in, all_places, Part, IsFrame, AreFrames}
use Rattle.wt_part_laws.specs.Rounded.{IsOwn, AreOwn, IsClean, AreClean, IsCleanThere, AreCleanThere}
use Rattle.wt_part_laws.proofs.FramesWalked.{no_leaf}
use Rattle.wt_part_laws.proofs.OwnWalks.{first_own, last_own, own_clean, has_page}

abbrev pub held : (ℕ → ItemTree) → Frames → List Item
held t fs = held_by_all (forest (trees_at t fs))

-- the first and the last item of a block are the page's own
record HasOwnEnds (t : ItemTree) : Type 0 where
  begins : (p : Option ℕ) → first_of (tree_items t) p ≡ None
  ends : (o : Option ℕ) → last_of o (tree_items t) ≡ None
  some : list_any is_page (tree_items t) ≡ true

abbrev AllOwnEnds : (ℕ → ItemTree) → List ℕ → Type 0
AllOwnEnds t [] = Unit {0}
AllOwnEnds t (n ∷ ns) = HasOwnEnds (t n) × AllOwnEnds t ns

own_ends : (t : ItemTree) → IsOwn t → HasOwnEnds t
own_ends t h = record {
  begins = λ p. first_own (tree_items t) p h.of_page (has_page t h.has_items);
  ends = λ o. last_own o (tree_items t) h.of_page (has_page t h.has_items);
  some = has_page t h.has_items;
}

all_own_ends : (t : ℕ → ItemTree) (ns : List ℕ) → AreOwn t ns → AllOwnEnds t ns
all_own_ends t [] h = tt
all_own_ends t (n ∷ ns) h = (own_ends (t n) h.0, all_own_ends t ns h.1)

ends_split : (t : ℕ → ItemTree) (ms ns : List ℕ) → AllOwnEnds t (ms ++ ns) → AllOwnEnds t ms × AllOwnEnds t ns
ends_split t [] ns h = (tt, h)
ends_split t (m ∷ ms) ns h = let r = ends_split t ms ns h.1 in ((h.0, r.0), r.1)

-- ---- where they begin and end

first_three : (xs ys zs : List Item) (p : Option ℕ) → first_of (xs ++ (ys ++ zs)) p ≡ first_of xs (first_of ys (first_of zs p))
first_three xs ys zs p = first_append xs (ys ++ zs) p ∙ ap (first_of xs) (first_append ys zs p)

last_three : (o : Option ℕ) (xs ys zs : List Item) → last_of o (xs ++ (ys ++ zs)) ≡ last_of (last_of (last_of o xs) ys) zs
last_three o xs ys zs = last_append o xs (ys ++ zs) ∙ last_append (last_of o xs) ys zs

mutual
  first_held : (t w : ℕ → ItemTree) (f : Frame) → AllOwnEnds t (places_in f) → AllOwnEnds w (places_in f) → (p : Option ℕ)
      → first_of (tree_items (tree_at t f)) p ≡ first_of (tree_items (tree_at w f)) p
  first_held t w (place n) g h p =
      g.0.begins p ∙ sym (h.0.begins p)
  first_held t w (whole u) g h p = refl
  first_held t w (around k q gs c) g h p =
      first_three q (held t gs) c p ∙ ap (first_of q) (firsts_held t w gs g h (first_of c p)) ∙ sym (first_three q (held w gs) c p)

  firsts_held : (t w : ℕ → ItemTree) (fs : Frames) → AllOwnEnds t (all_places fs) → AllOwnEnds w (all_places fs) → (p : Option ℕ)
      → first_of (held t fs) p ≡ first_of (held w fs) p
  firsts_held t w no_frames g h p = refl
  firsts_held t w (more_frames f fs) g h p =
      let r = ends_split t (places_in f) (all_places fs) g in
      let s = ends_split w (places_in f) (all_places fs) h in
      first_append (tree_items (tree_at t f)) (held t fs) p
      ∙ ap (first_of (tree_items (tree_at t f))) (firsts_held t w fs r.1 s.1 p)
      ∙ first_held t w f r.0 s.0 (first_of (held w fs) p)
      ∙ sym (first_append (tree_items (tree_at w f)) (held w fs) p)

mutual
  last_held : (t w : ℕ → ItemTree) (f : Frame) → AllOwnEnds t (places_in f) → AllOwnEnds w (places_in f) → (o : Option ℕ)
      → last_of o (tree_items (tree_at t f)) ≡ last_of o (tree_items (tree_at w f))
  last_held t w (place n) g h o =
      g.0.ends o ∙ sym (h.0.ends o)
  last_held t w (whole u) g h o = refl
  last_held t w (around k q gs c) g h o =
      last_three o q (held t gs) c ∙ ap (λ (x : Option ℕ). last_of x c) (lasts_held t w gs g h (last_of o q)) ∙ sym (last_three o q (held w gs) c)

  lasts_held : (t w : ℕ → ItemTree) (fs : Frames) → AllOwnEnds t (all_places fs) → AllOwnEnds w (all_places fs) → (o : Option ℕ)
      → last_of o (held t fs) ≡ last_of o (held w fs)
  lasts_held t w no_frames g h o = refl
  lasts_held t w (more_frames f fs) g h o =
      let r = ends_split t (places_in f) (all_places fs) g in
      let s = ends_split w (places_in f) (all_places fs) h in
      last_append o (tree_items (tree_at t f)) (held t fs)
      ∙ lasts_held t w fs r.1 s.1 (last_of o (tree_items (tree_at t f)))
      ∙ ap (λ (x : Option ℕ). last_of x (held w fs)) (last_held t w f r.0 s.0 o)
      ∙ sym (last_append o (tree_items (tree_at w f)) (held w fs))

-- ---- whether they have items of the page

both_any : (xs ys us vs : List Item) → list_any is_page xs ≡ list_any is_page us → list_any is_page ys ≡ list_any is_page vs
    → list_any is_page (xs ++ ys) ≡ list_any is_page (us ++ vs)
both_any xs ys us vs e f = list_any-append is_page xs ys ∙ ap₂ (λ (a b : Bool). a || b) e f ∙ sym (list_any-append is_page us vs)

-- each of these blocks has one
abbrev pub AllHavePage : (ℕ → ItemTree) → List ℕ → Type 0
AllHavePage t [] = Unit {0}
AllHavePage t (n ∷ ns) = (list_any is_page (tree_items (t n)) ≡ true) × AllHavePage t ns

pub page_split : (t : ℕ → ItemTree) (ms ns : List ℕ) → AllHavePage t (ms ++ ns) → AllHavePage t ms × AllHavePage t ns
page_split t [] ns h = (tt, h)
page_split t (m ∷ ms) ns h = let r = page_split t ms ns h.1 in ((h.0, r.0), r.1)

mutual
  pub any_held : (t w : ℕ → ItemTree) (f : Frame) → AllHavePage t (places_in f) → AllHavePage w (places_in f)
      → list_any is_page (tree_items (tree_at t f)) ≡ list_any is_page (tree_items (tree_at w f))
  any_held t w (place n) g h = g.0 ∙ sym h.0
  any_held t w (whole u) g h = refl
  any_held t w (around k q gs c) g h =
      both_any q (held t gs ++ c) q (held w gs ++ c) refl (both_any (held t gs) c (held w gs) c (anys_held t w gs g h) refl)

  anys_held : (t w : ℕ → ItemTree) (fs : Frames) → AllHavePage t (all_places fs) → AllHavePage w (all_places fs)
      → list_any is_page (held t fs) ≡ list_any is_page (held w fs)
  anys_held t w no_frames g h = refl
  anys_held t w (more_frames f fs) g h =
      let r = page_split t (places_in f) (all_places fs) g in
      let s = page_split w (places_in f) (all_places fs) h in
      both_any (tree_items (tree_at t f)) (held t fs) (tree_items (tree_at w f)) (held w fs) (any_held t w f r.0 s.0) (anys_held t w fs r.1 s.1)

some_own : (t : ℕ → ItemTree) (ns : List ℕ) → AllOwnEnds t ns → AllHavePage t ns
some_own t [] h = tt
some_own t (n ∷ ns) h = (h.0.some, some_own t ns h.1)

-- ---- whether they are clean

-- a node that is no leaf, by the calls at the ends of what it holds, and by whether it has an item of the page
abbrev pub clean_so : Option ℕ → Option ℕ → Head → List Item → List Item → Option ℕ → Option ℕ → Bool → Bool
clean_so o p k q c first last any =
    (parted o (first_of q first) && (parted (last_of o q) first && (parted last (first_of c p) && parted (last_of last c) p)))
    && (list_all is_page (q ++ c) && (is_body k.kind || any))

pub clean_is : (o p : Option ℕ) (k : Head) (q c : List Item) (ts : ItemTrees) → is_leaf k.kind ≡ false
    → clean_at o p (inner k q ts c)
    ≡ clean_so o p k q c (first_of (held_by_all ts) (first_of c p)) (last_of (last_of o q) (held_by_all ts)) (list_any is_page (q ++ (held_by_all ts ++ c)))
clean_is o p k q c ts e =
    let i : List Item = held_by_all ts in
    ap (λ v. (parted o (first_of q (first_of i (first_of c p)))
    && (parted (last_of o q) (first_of i (first_of c p))
    && (parted (last_of (last_of o q) i) (first_of c p) && parted (last_of (last_of (last_of o q) i) c) p)))
    && (list_all is_page (own_by v q i c) && (is_body k.kind || list_any is_page (q ++ (i ++ c))))) e

clean_held : (t w : ℕ → ItemTree) (o p : Option ℕ) (k : Head) (q c : List Item) (gs : Frames) → is_leaf k.kind ≡ false
    → AllOwnEnds t (all_places gs) → AllOwnEnds w (all_places gs)
    → clean_at o p (tree_at t (around k q gs c)) ≡ clean_at o p (tree_at w (around k q gs c))
clean_held t w o p k q c gs e g h =
    let any : Bool = list_any is_page (q ++ (held t gs ++ c)) in
    let last : Option ℕ = last_of (last_of o q) (held t gs) in
    clean_is o p k q c (forest (trees_at t gs)) e
    ∙ ap (λ x. clean_so o p k q c x last any) (firsts_held t w gs g h (first_of c p))
    ∙ ap (λ x. clean_so o p k q c (first_of (held w gs) (first_of c p)) x any) (lasts_held t w gs g h (last_of o q))
    ∙ ap (clean_so o p k q c (first_of (held w gs) (first_of c p)) (last_of (last_of o q) (held w gs))) (any_held t w (around k q gs c) (some_own t (all_places gs) g) (some_own w (all_places gs) h))
    ∙ sym (clean_is o p k q c (forest (trees_at w gs)) e)

mutual
  frame_clean : (t w : ℕ → ItemTree) (f : Frame) (part : Part) (o p : Option ℕ) → IsFrame f part → AllOwnEnds t (places_in f) → AllOwnEnds w (places_in f)
      → IsClean t o f p → IsClean w o f p
  frame_clean t w (place n) part o p i g h c = tt
  frame_clean t w (whole u) part o p i g h c = tt
  frame_clean t w (around k q gs z) part o p i g h c = (
    sym (clean_held t w o p k q z gs (no_leaf part i.0 k.kind i.1) g h) ∙ c.0,
    frames_clean t w gs i.0 (last_of o q) (first_of z p) i.2 g h c.1,
  )

  frames_clean : (t w : ℕ → ItemTree) (fs : Frames) (part : Part) (o p : Option ℕ) → AreFrames fs part → AllOwnEnds t (all_places fs) → AllOwnEnds w (all_places fs)
      → AreClean t o fs p → AreClean w o fs p
  frames_clean t w no_frames part o p i g h c = tt
  frames_clean t w (more_frames f fs) part o p i g h c =
      let r = ends_split t (places_in f) (all_places fs) g in
      let s = ends_split w (places_in f) (all_places fs) h in (
        subst (λ (x : Option ℕ). IsClean w o f x) (firsts_held t w fs r.1 s.1 p) (frame_clean t w f part o (first_of (held t fs) p) i.0 r.0 s.0 c.0),
        subst (λ (x : Option ℕ). AreClean w x fs p) (last_held t w f r.0 s.0 o)
            (frames_clean t w fs part (last_of o (tree_items (tree_at t f))) p i.1 r.1 s.1 c.1),
      )

-- ---- blocks of the page alone

pub own_split : (t : ℕ → ItemTree) (ms ns : List ℕ) → AreOwn t (ms ++ ns) → AreOwn t ms × AreOwn t ns
own_split t [] ns h = (tt, h)
own_split t (m ∷ ms) ns h = let r = own_split t ms ns h.1 in ((h.0, r.0), r.1)

-- the nodes round them are as clean
pub clean_same : (t w : ℕ → ItemTree) (fs : Frames) (part : Part) (o p : Option ℕ) → AreFrames fs part → AreOwn t (all_places fs) → AreOwn w (all_places fs)
    → AreClean t o fs p → AreClean w o fs p
clean_same t w fs part o p i g h c = frames_clean t w fs part o p i (all_own_ends t (all_places fs) g) (all_own_ends w (all_places fs) h) c

-- and so are they, whatever is round them
mutual
  one_there : (t : ℕ → ItemTree) (f : Frame) (o p : Option ℕ) → AreOwn t (places_in f) → IsCleanThere t o f p
  one_there t (place n) o p h = own_clean o p (t n) h.0.of_page (has_page (t n) h.0.has_items)
  one_there t (whole u) o p h = tt
  one_there t (around k q gs c) o p h = own_there t gs (last_of o q) (first_of c p) h

  pub own_there : (t : ℕ → ItemTree) (fs : Frames) (o p : Option ℕ) → AreOwn t (all_places fs) → AreCleanThere t o fs p
  own_there t no_frames o p h = tt
  own_there t (more_frames f fs) o p h =
      let r = own_split t (places_in f) (all_places fs) h in
      (one_there t f o (first_of (held t fs) p) r.0, own_there t fs (last_of o (tree_items (tree_at t f))) p r.1)
