-- Where each node round the blocks is clean, no group of the page's tree has the first byte of one of them.
use Rattle.std.proofs.Common.{arith, ◌≡◌, ◌⊎◌, inl, inr, ◌≤◌, ◌<◌, ℕ, suc, ◌+◌, Bool, true, false, List, [], ◌∷◌, ◌++◌, map, length, refl, sym, ap, ap₂, ◌∙◌, subst, append-nil, append_assoc, length-append}
use Rattle.std.specs.Prelude.{if◌then◌else◌}
use Rattle.wt_devices.specs.Device.{Pages}
use Rattle.wt_tree.specs.declared.kind.Kind.TheVariants as kind
use Rattle.wt_tree.specs.Kinds.{is_leaf}
use Rattle.wt_tree.specs.Source.{flat, flat_of_all}
use Rattle.wt_tree.specs.Tiling.{is_group, HasNoGroup, NoneIsGroup}
use Rattle.wt_tree.specs.Tree.{Label, Tree, tree, Trees, none, more, label}
use Rattle.wt_span.specs.Items.{sources}
use Rattle.wt_span.specs.Origins.{Expanded}
use Rattle.wt_checks.specs.Kept.{children}
use Rattle.wt_difference.specs.Unedited.{GroupOr}
use Rattle.wt_expand.specs.PageCalls.{expanded_page}
use Rattle.wt_inline.specs.ItemTree.{ItemTree, tree_items}
use Rattle.wt_page.specs.Body.{meaning}
use Rattle.wt_annotated.specs.Annotated.{annotated, placed}
use Rattle.wt_annotated.specs.CutTexts.{cut_texts}
use Rattle.wt_annotated.specs.GroupData.{group_data}
use Rattle.wt_annotated.specs.Grouped.{grouped}
use Rattle.wt_annotated.specs.Numbering.{next_after, count, with_numbers, all_with_numbers}
use Rattle.wt_part_laws.specs.Frames.{Part, content}
use Rattle.wt_part_laws.specs.Placeless.{placeless, all_placeless}
use Rattle.wt_part_laws.specs.Standing.{standing, IsOrdinary}
use Rattle.wt_part_laws.proofs.Ordinary.{standing_ordinary, ordinary_ungrouped}
use Rattle.wt_text_edit_laws.specs.BlockSpots.{BlockSpot, spots_source, AreContents}
use Rattle.wt_text_edit_laws.specs.TextBlocks.{source_of, block_tree}
use Rattle.wt_beside_laws.proofs.Made.OwnPages.{content_ordinary}
use Rattle.wt_part_laws.specs.TreeFrames.{TreeFrame, spot, kept, holder, TreeFrames, no_nodes, more_nodes, filled, all_filled, spots_in, spots}
use Rattle.wt_part_laws.proofs.FramesWalked.{no_leaf}
use Rattle.wt_called_edit_laws.specs.CalledBlocks.{CallNothing, tree_by, counted}
use Rattle.wt_called_edit_laws.specs.CalledPages.{IsCalledPage}
use Rattle.wt_called_edit_laws.specs.Covered.{IsBeside, IfGroup, NoGroupAt, NoneGroupAt, AreInNoGroup, IsEditablePage}
use Rattle.wt_called_edit_laws.specs.Groups.{called_tree}
use Rattle.wt_called_edit_laws.specs.Nodes.{block_at, NoLeaves, NoneLeaves, IsHolder, AreHolders}
use Rattle.wt_called_edit_laws.specs.Settled.{settled, all_settled, IsSettled}
use Rattle.wt_called_edit_laws.proofs.BareInsides.{IsBare, AreBare, page_bare}
use Rattle.wt_called_edit_laws.proofs.Cells.PlaceGaps.{Gaps, last_gap, then_gap, put_before, numbers_in, source_at, AreSame, AtPlaces}
use Rattle.wt_text_edit_laws.proofs.Blocks.Contents.{block_source as source_is}
use Rattle.wt_called_edit_laws.proofs.CutFrames.{no_group_round}
use Rattle.wt_called_edit_laws.proofs.EditFacts.{IsFramedPage, framed_page, spots_body, spots_contents, are_the_page}
use Rattle.wt_called_edit_laws.proofs.GroupsAmong.{retyped_self}
use Rattle.wt_called_edit_laws.proofs.GroupsOfPage.{HaveBytes, have_bytes, page_outside}
use Rattle.wt_called_edit_laws.proofs.Leads.{inside_settled}
use Rattle.wt_called_edit_laws.proofs.NodeGaps.{gap_of, gaps_in, page_gaps, gaps_so, numbers_so, spot_source}
use Rattle.wt_called_edit_laws.proofs.PagesSettled.{called_settled}
use Rattle.wt_called_edit_laws.proofs.TextsMake.{leaf_or}
use Rattle.wt_called_edit_laws.proofs.TextsUntangled.{AreThere, all_there}

-- ---- in a page's tree a leaf holds nothing

none_numbered : (n : ℕ) (ts : Trees) → ts ≡ none → all_with_numbers n ts ≡ none
none_numbered n ts e = ap (all_with_numbers n) e

by_group : (g : Bool) (A : Trees → Type 0) (B : Trees → Type 0) (ts us : Trees) → GroupOr g (A ts) (B ts) → (B ts → B us)
    → GroupOr g (A (if g then ts else us)) (B (if g then ts else us))
by_group true A B ts us h f = h
by_group false A B ts us h f = f h

mutual
  numbered_bare : (n : ℕ) (t : Tree) → IsBare t → IsBare (with_numbers n t)
  numbered_bare n (tree l ts) h =
      by_group (is_group l.kind) (λ us. all_placeless us ≡ us) (λ us. (is_leaf l.kind ≡ true → us ≡ none) × AreBare us) ts (all_with_numbers (next_after l.kind n) ts) h
      (λ b. ((λ e. none_numbered (next_after l.kind n) ts (b.0 e)), all_numbered_bare (next_after l.kind n) ts b.1))

  all_numbered_bare : (n : ℕ) (ts : Trees) → AreBare ts → AreBare (all_with_numbers n ts)
  all_numbered_bare n none h = tt
  all_numbered_bare n (more t ts) h = (numbered_bare n t h.0, all_numbered_bare (n + count t) ts h.1)

none_placeless : (ts : Trees) → ts ≡ none → all_placeless ts ≡ none
none_placeless ts e = ap all_placeless e

placeless_by : (g : Bool) (A : Trees → Type 0) (B : Trees → Type 0) (ts us : Trees) → GroupOr g (A ts) (B ts) → (A ts → A us) → (B ts → B us) → GroupOr g (A us) (B us)
placeless_by true A B ts us h f k = f h
placeless_by false A B ts us h f k = k h

mutual
  placeless_bare : (t : Tree) → IsBare t → IsBare (placeless t)
  placeless_bare (tree l ts) h =
      placeless_by (is_group l.kind) (λ us. all_placeless us ≡ us) (λ us. (is_leaf l.kind ≡ true → us ≡ none) × AreBare us) ts (all_placeless ts) h
      (λ e. ap all_placeless e)
      (λ b. ((λ e. none_placeless ts (b.0 e)), all_placeless_bare ts b.1))

  pub all_placeless_bare : (ts : Trees) → AreBare ts → AreBare (all_placeless ts)
  all_placeless_bare none h = tt
  all_placeless_bare (more t ts) h = (placeless_bare t h.0, all_placeless_bare ts h.1)

pub called_bare : (pages : Pages) (page : List ℕ) → IsBare (called_tree pages page)
unfolding annotated
called_bare pages page =
    let e : Expanded = expanded_page pages page in
    let m : ItemTree = meaning e.items in
    let u : Tree = cut_texts (placed e.outer (group_data e.outer) (tree_items m) (grouped (tree_items m) 0 m)) in
    numbered_bare 1 u (page_bare e.outer (group_data e.outer) (tree_items m) (grouped (tree_items m) 0 m))

pub body_bare : (l : Label) (ts : Trees) → is_group l.kind ≡ false → IsBare (tree l ts) → AreBare ts
body_bare l ts e h = (subst (λ (g : Bool). GroupOr g (all_placeless ts ≡ ts) ((is_leaf l.kind ≡ true → ts ≡ none) × AreBare ts)) e h).1

-- ---- a group beside a byte

abbrev pub Beside : ℕ → ℕ → ℕ → Type 0
Beside b from to = (b < from) ⊎ (to ≤ b)

group_or : (v : Bool) (P : Type 0) (b : ℕ) (xs us : Trees) → P → (v ≡ false → NoneGroupAt b us) → IfGroup v P (NoneGroupAt b (if v then xs else us))
group_or true P b xs us h f = h
group_or false P b xs us h f = f refl

into : (b at o inside all : ℕ) → o + inside ≤ all → Beside b at (at + all) → Beside b (at + o) ((at + o) + inside)
into b at o inside all le (inl h) = inl (omega (arith, h))
into b at o inside all le (inr h) = inr (omega (arith, h, le))

first_beside : (b at one both : ℕ) → one ≤ both → Beside b at (at + both) → Beside b at (at + one)
first_beside b at one both le (inl h) = inl h
first_beside b at one both le (inr h) = inr (omega (arith, h, le))

rest_beside : (b at one rest both : ℕ) → both ≡ one + rest → Beside b at (at + both) → Beside b (at + one) ((at + one) + rest)
rest_beside b at one rest both e (inl h) = inl (omega (arith, h))
rest_beside b at one rest both e (inr h) = inr (omega (arith, h, e))

-- what is in a node is in its source
pub inside_size : (v : Bool) (own o inside c : List ℕ) → v ≡ false → length o + length inside ≤ length (if v then own else o ++ inside ++ c)
inside_size true own o inside c e = let no : true ≡ false = e in absurd (cc)
inside_size false own o inside c e =
    let one = length-append (o ++ inside) c in let two = length-append o inside in omega (arith, one, two)

leaf_by : (v : Bool) (b n at : ℕ) (ts : Trees) → (v ≡ true → ts ≡ none) → (v ≡ false → NoneGroupAt b (all_settled n at ts)) → NoneGroupAt b (all_settled n at ts)
leaf_by true b n at ts e f = subst (λ (us : Trees). NoneGroupAt b (all_settled n at us)) (sym (e refl)) tt
leaf_by false b n at ts e f = f refl

pub inner_bare : (g : Bool) (l : Label) (ts : Trees) → g ≡ false → GroupOr g (all_placeless ts ≡ ts) ((is_leaf l.kind ≡ true → ts ≡ none) × AreBare ts)
    → (is_leaf l.kind ≡ true → ts ≡ none) × AreBare ts
inner_bare true l ts e h = let no : true ≡ false = e in absurd (cc)
inner_bare false l ts e h = h

mutual
  pub beside_one : (b n at : ℕ) (t : Tree) → IsBare t → Beside b at (at + length (flat t)) → NoGroupAt b (settled n at t)
  beside_one b n at (tree l ts) h g =
      let from : ℕ = at + length l.opening in
      let m : ℕ = next_after l.kind n in
      group_or (is_group l.kind) ((b < at) ⊎ (at + length (flat (tree l ts)) ≤ b)) b ts (all_settled m from ts) g
      (λ e.
      let r = inner_bare (is_group l.kind) l ts e h in
      leaf_by (is_leaf l.kind) b m from ts r.0
      (λ f. beside_all b m from ts r.1
      (into b at (length l.opening) (length (flat_of_all ts)) (length (flat (tree l ts))) (inside_size (is_leaf l.kind) l.own l.opening (flat_of_all ts) l.closing f) g)))

  pub beside_all : (b n at : ℕ) (ts : Trees) → AreBare ts → Beside b at (at + length (flat_of_all ts)) → NoneGroupAt b (all_settled n at ts)
  beside_all b n at none h g = tt
  beside_all b n at (more t ts) h g =
      let both : length (flat t ++ flat_of_all ts) ≡ length (flat t) + length (flat_of_all ts) = length-append (flat t) (flat_of_all ts) in (
        beside_one b n at t h.0 (first_beside b at (length (flat t)) (length (flat t ++ flat_of_all ts)) (omega (arith, both)) g),
        beside_all b (n + count t) (at + length (flat t)) ts h.1
            (rest_beside b at (length (flat t)) (length (flat_of_all ts)) (length (flat t ++ flat_of_all ts)) both g),
      )

-- ---- a block has no group

mutual
  block_free : (b n at : ℕ) (t : Tree) → HasNoGroup t → NoGroupAt b (settled n at t)
  block_free b n at (tree l ts) h =
      let P : Bool → Type 0 = λ v. IfGroup v ((b < at) ⊎ (at + length (flat (tree l ts)) ≤ b))
      (NoneGroupAt b (if v then ts else all_settled (next_after l.kind n) (at + length l.opening) ts)) in
      subst P (sym h.0) (none_free b (next_after l.kind n) (at + length l.opening) ts h.1)

  none_free : (b n at : ℕ) (ts : Trees) → NoneIsGroup ts → NoneGroupAt b (all_settled n at ts)
  none_free b n at none h = tt
  none_free b n at (more t ts) h = (block_free b n at t h.0, none_free b (n + count t) (at + length (flat t)) ts h.1)

mutual
  placeless_free : (t : Tree) → HasNoGroup t → HasNoGroup (placeless t)
  placeless_free (tree l ts) h = (h.0, all_placeless_free ts h.1)

  all_placeless_free : (ts : Trees) → NoneIsGroup ts → NoneIsGroup (all_placeless ts)
  all_placeless_free none h = tt
  all_placeless_free (more t ts) h = (placeless_free t h.0, all_placeless_free ts h.1)

-- each of these blocks has a byte, and no group
abbrev AreSolid : (ℕ → ItemTree) → List ℕ → Type 0
AreSolid u [] = Unit {0}
AreSolid u (n ∷ ns) = (0 < length (flat (block_at u n))) × HasNoGroup (block_at u n) × AreSolid u ns

solid_split : (u : ℕ → ItemTree) (ms ns : List ℕ) → AreSolid u (ms ++ ns) → AreSolid u ms × AreSolid u ns
solid_split u [] ns h = (tt, h)
solid_split u (m ∷ ms) ns h = let r = solid_split u ms ns h.2 in ((h.0, h.1, r.0), r.1)

-- ---- what holds at the first byte of each place

abbrev mutual
  SpotIn : (ℕ → Type 0) → (ℕ → ItemTree) → ℕ → TreeFrame → Type 0
  SpotIn P u at (spot n) = P at
  SpotIn P u at (kept t) = Unit {0}
  SpotIn P u at (holder l gs) = SpotsIn P u (at + length l.opening) gs

  SpotsIn : (ℕ → Type 0) → (ℕ → ItemTree) → ℕ → TreeFrames → Type 0
  SpotsIn P u at no_nodes = Unit {0}
  SpotsIn P u at (more_nodes f fs) = SpotIn P u at f × SpotsIn P u (at + length (flat (filled (block_at u) f))) fs

mutual
  map_spot : (P Q : ℕ → Type 0) (u : ℕ → ItemTree) (at : ℕ) (f : TreeFrame) → ((b : ℕ) → P b → Q b) → SpotIn P u at f → SpotIn Q u at f
  map_spot P Q u at (spot n) k h = k at h
  map_spot P Q u at (kept t) k h = tt
  map_spot P Q u at (holder l gs) k h = map_spots P Q u (at + length l.opening) gs k h

  map_spots : (P Q : ℕ → Type 0) (u : ℕ → ItemTree) (at : ℕ) (fs : TreeFrames) → ((b : ℕ) → P b → Q b) → SpotsIn P u at fs → SpotsIn Q u at fs
  map_spots P Q u at no_nodes k h = tt
  map_spots P Q u at (more_nodes f fs) k h =
      (map_spot P Q u at f k h.0, map_spots P Q u (at + length (flat (filled (block_at u) f))) fs k h.1)

-- such a byte is in the nodes, and no group of these has it
record FreeIn (b n at : ℕ) (ts : Trees) : Type 0 where
  from : at ≤ b
  to : b < at + length (flat_of_all ts)
  free : NoneGroupAt b (all_settled n at ts)

record FreeOf (b n at : ℕ) (t : Tree) : Type 0 where
  from : at ≤ b
  to : b < at + length (flat t)
  free : NoGroupAt b (settled n at t)

before : (b from to : ℕ) → b < from → Beside b from to
before b from to h = inl h

behind : (b from to : ℕ) → to ≤ b → Beside b from to
behind b from to h = inr h

holder_free : (b n at : ℕ) (l : Label) (ts : Trees) → is_group l.kind ≡ false → is_leaf l.kind ≡ false
    → FreeIn b (next_after l.kind n) (at + length l.opening) ts → FreeOf b n at (tree l ts)
holder_free b n at l ts g v h =
    let size = inside_size (is_leaf l.kind) l.own l.opening (flat_of_all ts) l.closing v in
    let from : (at + length l.opening) ≤ b = h.from in
    let to : b < (at + length l.opening) + length (flat_of_all ts) = h.to in
    let P : Bool → Type 0 = λ w. IfGroup w ((b < at) ⊎ (at + length (flat (tree l ts)) ≤ b))
    (NoneGroupAt b (if w then ts else all_settled (next_after l.kind n) (at + length l.opening) ts)) in
    record {
      from = omega (arith, from);
      to = omega (arith, to, size);
      free = subst P (sym g) h.free;
    }

first_free : (b n at : ℕ) (t : Tree) (ts : Trees) → AreBare ts → FreeOf b n at t → FreeIn b n at (more t ts)
first_free b n at t ts bare h =
    let both : length (flat t ++ flat_of_all ts) ≡ length (flat t) + length (flat_of_all ts) = length-append (flat t) (flat_of_all ts) in
    let to : b < at + length (flat t) = h.to in
    record {
      from = h.from;
      to = omega (arith, to, both);
      free = (
        h.free,
        beside_all b (n + count t) (at + length (flat t)) ts bare
            (before b (at + length (flat t)) ((at + length (flat t)) + length (flat_of_all ts)) to),
      );
    }

rest_free : (b n at : ℕ) (t : Tree) (ts : Trees) → IsBare t → FreeIn b (n + count t) (at + length (flat t)) ts → FreeIn b n at (more t ts)
rest_free b n at t ts bare h =
    let both : length (flat t ++ flat_of_all ts) ≡ length (flat t) + length (flat_of_all ts) = length-append (flat t) (flat_of_all ts) in
    let from : (at + length (flat t)) ≤ b = h.from in
    let to : b < (at + length (flat t)) + length (flat_of_all ts) = h.to in
    record {
      from = omega (arith, from);
      to = omega (arith, to, both);
      free = (beside_one b n at t bare (behind b at (at + length (flat t)) from), h.free);
    }

mutual
  frame_free : (u : ℕ → ItemTree) (p : Part) (f : TreeFrame) (n at : ℕ) → IsHolder f p → IsBare (filled (block_at u) f) → AreSolid u (spots_in f)
      → SpotIn (λ b. FreeOf b n at (filled (block_at u) f)) u at f
  frame_free u p (spot i) n at h g s = record { from = omega arith; to = omega (arith, s.0); free = block_free at n at (block_at u i) s.1 }
  frame_free u p (kept t) n at h g s = tt
  frame_free u p (holder l gs) n at h g s =
      let ts : Trees = all_filled (block_at u) gs in
      let no : is_group l.kind ≡ false = no_group_round p h.0 l.kind h.1 in
      map_spots (λ b. FreeIn b (next_after l.kind n) (at + length l.opening) ts) (λ b. FreeOf b n at (tree l ts)) u (at + length l.opening) gs
      (λ b k. holder_free b n at l ts no (no_leaf p h.0 l.kind h.1) k)
      (frames_free u h.0 gs (next_after l.kind n) (at + length l.opening) h.2 (body_bare l ts no g) s)

  frames_free : (u : ℕ → ItemTree) (p : Part) (fs : TreeFrames) (n at : ℕ) → AreHolders fs p → AreBare (all_filled (block_at u) fs) → AreSolid u (spots fs)
      → SpotsIn (λ b. FreeIn b n at (all_filled (block_at u) fs)) u at fs
  frames_free u p no_nodes n at h g s = tt
  frames_free u p (more_nodes f fs) n at h g s =
      let t : Tree = filled (block_at u) f in
      let ts : Trees = all_filled (block_at u) fs in
      let r = solid_split u (spots_in f) (spots fs) s in (
        map_spot (λ b. FreeOf b n at t) (λ b. FreeIn b n at (more t ts)) u at f (λ b k. first_free b n at t ts g.1 k) (frame_free u p f n at h.0 g.0 r.0),
        map_spots (λ b. FreeIn b (n + count t) (at + length (flat t)) ts) (λ b. FreeIn b n at (more t ts)) u (at + length (flat t)) fs
            (λ b k. rest_free b n at t ts g.0 k) (frames_free u p fs (n + count t) (at + length (flat t)) h.1 g.1 r.1),
      )

-- ---- by what is before each place

before_at : (P : List ℕ → ℕ → Type 0) (u : ℕ → ItemTree) (front xs : List ℕ) (z : Gaps) → AtPlaces P u (front ++ xs) z → AtPlaces P u front (put_before xs z)
before_at P u front xs (last_gap ys) h = tt
before_at P u front xs (then_gap ys n g) h =
    let e : (front ++ xs) ++ ys ≡ front ++ (xs ++ ys) = append_assoc front xs ys in
    (subst (λ (bs : List ℕ). P bs n) e h.0, subst (λ (bs : List ℕ). AtPlaces P u (bs ++ source_at u n) g) e h.1)

mutual
  spot_gap : (Q : ℕ → Type 0) (u : ℕ → ItemTree) (front : List ℕ) (f : TreeFrame) (z : Gaps) → NoLeaves f → SpotIn Q u (length front) f
      → AtPlaces (λ bs n. Q (length bs)) u (front ++ flat (filled (block_at u) f)) z → AtPlaces (λ bs n. Q (length bs)) u front (gap_of f z)
  spot_gap Q u front (spot i) z w h g =
      let e : front ≡ front ++ [] = sym (append-nil front) in
      let f : front ++ flat (block_at u i) ≡ (front ++ []) ++ source_at u i =
      ap₂ (λ (xs ys : List ℕ). xs ++ ys) e (spot_source u i) in
      (subst (λ (bs : List ℕ). Q (length bs)) e h, subst (λ (bs : List ℕ). AtPlaces (λ cs n. Q (length cs)) u bs z) f g)
  spot_gap Q u front (kept t) z w h g = before_at (λ bs n. Q (length bs)) u front (flat t) z g
  spot_gap Q u front (holder l gs) z w h g =
      let P : List ℕ → ℕ → Type 0 = λ bs n. Q (length bs) in
      let A : List ℕ = l.opening in
      let B : List ℕ = flat_of_all (all_filled (block_at u) gs) in
      let C : List ℕ = l.closing in
      let whole : A ++ B ++ C ≡ flat (tree l (all_filled (block_at u) gs)) = leaf_or (is_leaf l.kind) l.own (A ++ B ++ C) w.0 in
      let e : front ++ flat (tree l (all_filled (block_at u) gs)) ≡ ((front ++ A) ++ B) ++ C =
      ap (λ (xs : List ℕ). front ++ xs) (sym whole) ∙ sym (append_assoc front (A ++ B) C) ∙ ap (λ (xs : List ℕ). xs ++ C) (sym (append_assoc front A B)) in
      let both : length (front ++ A) ≡ length front + length A = length-append front A in
      before_at P u front A (gaps_in gs (put_before C z))
      (spots_gaps Q u (front ++ A) gs (put_before C z) w.1 (subst (λ (k : ℕ). SpotsIn Q u k gs) (sym both) h)
      (before_at P u ((front ++ A) ++ B) C z (subst (λ (bs : List ℕ). AtPlaces P u bs z) e g)))

  spots_gaps : (Q : ℕ → Type 0) (u : ℕ → ItemTree) (front : List ℕ) (fs : TreeFrames) (z : Gaps) → NoneLeaves fs → SpotsIn Q u (length front) fs
      → AtPlaces (λ bs n. Q (length bs)) u (front ++ flat_of_all (all_filled (block_at u) fs)) z → AtPlaces (λ bs n. Q (length bs)) u front (gaps_in fs z)
  spots_gaps Q u front no_nodes z w h g = subst (λ (bs : List ℕ). AtPlaces (λ cs n. Q (length cs)) u bs z) (append-nil front) g
  spots_gaps Q u front (more_nodes f fs) z w h g =
      let own : List ℕ = flat (filled (block_at u) f) in
      let rest : List ℕ = flat_of_all (all_filled (block_at u) fs) in
      let both : length (front ++ own) ≡ length front + length own = length-append front own in
      spot_gap Q u front f (gaps_in fs z) w.0 h.0
      (spots_gaps Q u (front ++ own) fs z w.1 (subst (λ (k : ℕ). SpotsIn Q u k fs) (sym both) h.1)
      (subst (λ (bs : List ℕ). AtPlaces (λ cs n. Q (length cs)) u bs z) (sym (append_assoc front own rest)) g))

-- ---- of the blocks of a page

solid_up : (s : BlockSpot) (ss : List BlockSpot) (ns : List ℕ) → AreSolid (tree_by ss) ns → AreSolid (tree_by (s ∷ ss)) (map suc ns)
solid_up s ss [] h = tt
solid_up s ss (n ∷ ns) h = (h.0, h.1, solid_up s ss ns h.2)

all_free : (t : Tree) (front : List ℕ) (u : ℕ → ItemTree) (g : Gaps) (ss : List BlockSpot) (at : ℕ) → at ≡ length front → AreSame g ss → AreContents ss
    → AreThere u (numbers_in g) ss → AtPlaces (λ bs n. NoGroupAt (length bs) t) u front g → AreInNoGroup at ss t
all_free t front u (last_gap xs) [] at i m b a h = tt
all_free t front u (last_gap xs) (s ∷ ss) at i m b a h = absurd m
all_free t front u (then_gap xs n g) [] at i m b a h = tt
all_free t front u (then_gap xs n g) (s ∷ ss) at i m b a h =
    let here : List ℕ = front ++ xs in
    let own : List ℕ = source_at u n in
    let own_is : own ≡ source_of s.block s.text = ap (λ x. sources (tree_items x)) a.0 ∙ source_is s.block s.text in
    let first : length s.before ≡ length xs = ap length (sym m.0) in
    let size : length (source_of s.block s.text) ≡ length own = ap length (sym own_is) in
    let one : length here ≡ length front + length xs = length-append front xs in
    let two : length (here ++ own) ≡ length here + length own = length-append here own in
    let start : at + length s.before ≡ length here = omega (arith, i, first, one) in
    let next : (at + length s.before) + length (source_of s.block s.text) ≡ length (here ++ own) = omega (arith, start, size, two) in (
      subst (λ (k : ℕ). NoGroupAt k t) (sym start) h.0,
      all_free t (here ++ own) u g ss ((at + length s.before) + length (source_of s.block s.text)) next m.1 b.1 a.1 h.1,
    )

counted_solid : (ss : List BlockSpot) → AreContents ss → CallNothing ss → AreSolid (tree_by ss) (counted ss)
counted_solid [] h c = tt
counted_solid (s ∷ ss) h c =
    let u : ItemTree = block_tree s.block s.text in
    let some : HaveBytes (tree_by (s ∷ ss)) (counted (s ∷ ss)) = have_bytes (s ∷ ss) h in
    let t : Tree = standing 0 [] u in
    let own : IsOrdinary t =
    standing_ordinary 0 [] u (content_ordinary s.block s.text h.0.utf8 h.0.is h.0.unended c.0) in (
      subst (λ (bs : List ℕ). 0 < length bs) (sym (spot_source (tree_by (s ∷ ss)) 0)) some.0,
      placeless_free t (ordinary_ungrouped t own),
      solid_up s ss (counted ss) (counted_solid ss h.1 c.1),
    )

at_body : (b : ℕ) (t : Tree) → (label t).kind ≡ kind.Body → NoneGroupAt b (children t) → NoGroupAt b t
at_body b (tree l ts) e h = subst (λ (g : Bool). IfGroup g (IsBeside b l.ranges) (NoneGroupAt b ts)) (sym (ap is_group e)) h

none_bare : (t : Tree) → (label t).kind ≡ kind.Body → IsBare t → AreBare (children t)
none_bare (tree l ts) e h = body_bare l ts (ap is_group e) h

body_settled : (t : Tree) → (label t).kind ≡ kind.Body → (label t).opening ≡ [] → IsSettled t
    → children t ≡ all_settled (next_after (label t).kind 1) 0 (all_placeless (children t))
body_settled (tree l ts) e o h =
    let at : 0 + length l.opening ≡ 0 = ap (λ (os : List ℕ). 0 + length os) o in
    inside_settled 1 0 l ts (ap is_group e) h ∙ ap (λ (n : ℕ). all_settled (next_after l.kind 1) n (all_placeless ts)) at

pub blocks_outside : (pages : Pages) (ss : List BlockSpot) (behind : List ℕ) → IsCalledPage pages ss behind → AreInNoGroup 0 ss (called_tree pages (spots_source ss behind))
blocks_outside pages ss behind h =
    let f : IsFramedPage pages ss behind = framed_page pages ss behind h in
    let page : List ℕ = spots_source ss behind in
    let t : Tree = called_tree pages page in
    let u : ℕ → ItemTree = tree_by ss in
    let fs : TreeFrames = f.nodes in
    let ts : Trees = all_filled (block_at u) fs in
    let body = spots_body pages ss behind h in
    let n : ℕ = next_after (label t).kind 1 in
    let contents : AreContents ss = spots_contents pages ss behind h in
    let same : all_placeless (children t) ≡ ts = f.stay ss (retyped_self ss) in
    let is : children t ≡ all_settled n 0 ts =
    body_settled t body.kind body.opening (called_settled pages page) ∙ ap (all_settled n 0) same in
    let bare : AreBare ts = subst AreBare same (all_placeless_bare (children t) (none_bare t body.kind (called_bare pages page))) in
    let solid : AreSolid u (spots fs) = subst (AreSolid u) (sym f.in_order) (counted_solid ss contents h.outside.among.calm) in
    let free : SpotsIn (λ b. NoGroupAt b t) u 0 fs =
    map_spots (λ b. FreeIn b n 0 ts) (λ b. NoGroupAt b t) u 0 fs (λ b k. at_body b t body.kind (subst (NoneGroupAt b) (sym is) k.free))
    (frames_free u content fs n 0 f.holders bare solid) in
    all_free t [] u (page_gaps fs) ss 0 refl (gaps_so ss behind fs f.in_order contents (are_the_page pages ss behind f)) contents
    (subst (λ (ns : List ℕ). AreThere u ns ss) (sym (numbers_so ss fs f.in_order)) (all_there ss))
    (spots_gaps (λ b. NoGroupAt b t) u [] fs (last_gap []) f.inner_nodes free tt)

-- ---- so both are one class

pub called_editable : (pages : Pages) (ss : List BlockSpot) (behind : List ℕ) → IsCalledPage pages ss behind → IsEditablePage pages ss behind
called_editable pages ss behind h = record { among = h.outside.among; unrefused = h.unrefused; in_no_group = blocks_outside pages ss behind h }

pub editable_called : (pages : Pages) (ss : List BlockSpot) (behind : List ℕ) → IsEditablePage pages ss behind → IsCalledPage pages ss behind
editable_called pages ss behind h = page_outside pages ss behind h.among h.unrefused h.in_no_group
