-- Which calls of a page are in a block: those that its part has, and no others; so nothing round the blocks comes from one of them.
use Rattle.std.proofs.Common.{arith, ◌≡◌, inl, inr, ◌≤◌, ◌<◌, ℕ, zero, suc, ◌+◌, true, false, Option, Some, None, List, [], ◌∷◌, ◌++◌, map, length, refl, sym, ap, ap₂, ◌∙◌, subst, append-nil, length-append}
use Rattle.std.specs.List.{list_any}
use Rattle.std.proofs.lemmas.Bool.{cases_lt}
use Rattle.wt_span.specs.Items.{Item, call_of}
use Rattle.wt_span.specs.Origins.{OuterCall}
use Rattle.wt_inline.specs.Inside.{opened, opened_all}
use Rattle.wt_inline.specs.ItemTree.{ItemTree, tree_items}
use Rattle.wt_inline.proofs.HeldLaws.{opened_append}
use Rattle.wt_expand.specs.Expansion.{page_work}
use Rattle.wt_expand.specs.PageCalls.{expanded_page}
use Rattle.wt_expand.specs.Work.{Pages, first_refusal}
use Rattle.wt_page.proofs.HeldBody.{held_meaning}
use Rattle.wt_annotated.specs.Clean.{is_page}
use Rattle.wt_annotated.specs.Seams.{last_of, first_of}
use Rattle.wt_page_round_trip.proofs.HeldPages.{tree_ones}
use Rattle.wt_page_round_trip.proofs.OpenedPages.{AreOnes}
use Rattle.wt_part_laws.specs.Expanded.{part_items, calls_in}
use Rattle.wt_part_laws.specs.Frames.{Frame, place, whole, around, Frames, no_frames, more_frames, tree_at, places_in, all_places}
use Rattle.wt_part_laws.specs.HeldCalls.{HoldsItsCalls, AllHold}
use Rattle.wt_part_laws.specs.MovedCalls.{AreMoved}
use Rattle.wt_part_laws.proofs.FrameEnds.{held}
use Rattle.wt_text_edit_laws.specs.BlockSpots.{BlockSpot, spots_source}
use Rattle.wt_text_edit_laws.specs.TextBlocks.{source_of}
use Rattle.wt_called_edit_laws.specs.CalledBlocks.{counted}
use Rattle.wt_called_edit_laws.specs.CalledContents.{tree_round}
use Rattle.wt_called_edit_laws.specs.CallingBlocks.{IsContentIn, AreContentsInFolder, AreEdited, AreCallingBlocks, tree_with_calls, CallingBlocksStand}
use Rattle.wt_called_edit_laws.specs.Parts.{calls_to, calls_past, called_items}
use Rattle.wt_called_edit_laws.specs.WholeContents.{of_call}
use Rattle.wt_called_edit_laws.proofs.CalledUtf8.{called_utf8}
use Rattle.wt_called_edit_laws.proofs.CallingGroups.{edited_self, edited_round, one_moved, stand_again}
use Rattle.wt_called_edit_laws.proofs.Cells.CallingFrames.{edited_anew, calling_again}
use Rattle.wt_called_edit_laws.proofs.Cells.SpotTrees.{counted_same}
use Rattle.wt_called_edit_laws.proofs.EndCuts.{IsIn, AllIn, IsNone, IsBlockOf, AreBlocksOf, AllOff, RoundOff, AreRoundOff, Rising, AreByNumbers}
use Rattle.wt_called_edit_laws.proofs.Parts.Retyped.{is_by_parts, expanded_again}
use Rattle.wt_called_edit_laws.proofs.SpotSources.{OnesAt, ones_moved, hold_moved, tree_opened, ones_in_tree}
use Rattle.wt_called_edit_laws.proofs.Whole.OfCall.{is_same, all_here, of_append, before_part, behind_part, opened_from, of_opened}
use Rattle.wt_called_edit_laws.proofs.Whole.Opened.{opened_some}

-- ---- the calls of a block

-- of the block with this number, where so many calls come before the first part
abbrev pub IsCallOf : Pages → ℕ → List BlockSpot → ℕ → ℕ → Type 0
IsCallOf pages k [] n j = ⊥
IsCallOf pages k (s ∷ ss) zero j = (calls_to pages k s ≤ j) × (j < calls_past pages k s)
IsCallOf pages k (s ∷ ss) (suc n) j = IsCallOf pages (calls_past pages k s) ss n j

call_from : (pages : Pages) (k : ℕ) (ss : List BlockSpot) (n j : ℕ) → IsCallOf pages k ss n j → k ≤ j
call_from pages k [] n j h = absurd h
call_from pages k (s ∷ ss) zero j h = let le : k + calls_in pages s.before ≤ j = h.0 in omega (arith, le)
call_from pages k (s ∷ ss) (suc n) j h =
    let le : (k + calls_in pages s.before) + calls_in pages (source_of s.block s.text) ≤ j = call_from pages (calls_past pages k s) ss n j h in omega (arith, le)

no_others : (pages : Pages) (k : ℕ) (ss : List BlockSpot) (n m j : ℕ) → n < m → IsCallOf pages k ss n j → IsCallOf pages k ss m j → ⊥
no_others pages k [] n m j l h g = absurd h
no_others pages k (s ∷ ss) zero zero j l h g = absurd (omega (arith, l))
no_others pages k (s ∷ ss) zero (suc m) j l h g =
    let le : calls_past pages k s ≤ j = call_from pages (calls_past pages k s) ss m j g in absurd (omega (arith, h.1, le))
no_others pages k (s ∷ ss) (suc n) zero j l h g = absurd (omega (arith, l))
no_others pages k (s ∷ ss) (suc n) (suc m) j l h g = no_others pages (calls_past pages k s) ss n m j (omega (arith, l)) h g

-- as many are in a block whatever is written beside them
as_many : (cs ds : List OuterCall) → AreMoved cs ds → length cs ≡ length ds
as_many [] [] h = refl
as_many [] (d ∷ ds) h = absurd h
as_many (c ∷ cs) [] h = absurd h
as_many (c ∷ cs) (d ∷ ds) h = ap suc (as_many cs ds h.1)

pub to_same : (pages : Pages) (k : ℕ) (s r : BlockSpot) → r.before ≡ s.before → calls_to pages k s ≡ calls_to pages k r
to_same pages k s r e = ap (λ (bs : List ℕ). k + calls_in pages bs) (sym e)

pub past_same : (pages : Pages) (k : ℕ) (s r : BlockSpot) → r.before ≡ s.before
    → AreMoved (expanded_page pages (source_of s.block s.text)).outer (expanded_page pages (source_of r.block r.text)).outer
    → calls_past pages k s ≡ calls_past pages k r
past_same pages k s r e m =
    ap₂ (λ (i j : ℕ). i + j) (to_same pages k s r e)
    (as_many (expanded_page pages (source_of s.block s.text)).outer (expanded_page pages (source_of r.block r.text)).outer m)

call_same : (pages : Pages) (k : ℕ) (ss rs : List BlockSpot) (n j : ℕ) → AreEdited pages ss rs → IsCallOf pages k rs n j → IsCallOf pages k ss n j
call_same pages k [] [] n j t h = h
call_same pages k [] (r ∷ rs) n j t h = absurd t
call_same pages k (s ∷ ss) [] n j t h = absurd t
call_same pages k (s ∷ ss) (r ∷ rs) zero j t h =
    let to : calls_to pages k s ≡ calls_to pages k r = to_same pages k s r t.0 in
    let past : calls_past pages k s ≡ calls_past pages k r = past_same pages k s r t.0 (one_moved pages s r t.1 t.2) in
    (subst (λ (i : ℕ). i ≤ j) (sym to) h.0, subst (λ (i : ℕ). j < i) (sym past) h.1)
call_same pages k (s ∷ ss) (r ∷ rs) (suc n) j t h =
    let past : calls_past pages k s ≡ calls_past pages k r = past_same pages k s r t.0 (one_moved pages s r t.1 t.2) in
    call_same pages (calls_past pages k s) ss rs n j t.3 (subst (λ (i : ℕ). IsCallOf pages i rs n j) (sym past) h)

-- ---- how many items a call gives

abbrev uses : ℕ → List Item → ℕ
uses j xs = length (of_call j (opened_all xs))

uses_both : (j : ℕ) (xs ys : List Item) → uses j (xs ++ ys) ≡ uses j xs + uses j ys
uses_both j xs ys =
    ap (λ (zs : List Item). length (of_call j zs)) (opened_append xs ys)
    ∙ ap length (of_append j (opened_all xs) (opened_all ys))
    ∙ length-append (of_call j (opened_all xs)) (of_call j (opened_all ys))

uses_none : (j : ℕ) (xs : List Item) → of_call j xs ≡ [] → uses j xs ≡ 0
uses_none j xs e = ap length (of_opened j xs) ∙ ap (λ (zs : List Item). length (opened_all zs)) e

uses_first : (j : ℕ) (x : Item) (xs : List Item) → uses j (x ∷ xs) ≡ length (of_call j (opened x)) + uses j xs
uses_first j x xs = ap length (of_append j (opened x) (opened_all xs)) ∙ length-append (of_call j (opened x)) (of_call j (opened_all xs))

in_by : (Q : ℕ → Type 0) (o : Option ℕ) → ((j : ℕ) → o ≡ Some j → Q j) → IsIn Q o
in_by Q None f = tt
in_by Q (Some j) f = f j refl

-- so each item is of a call that gives some
each_call : (Q : ℕ → Type 0) (xs : List Item) → AreOnes xs → ((j : ℕ) → 0 < uses j xs → Q j) → AllIn Q xs
each_call Q [] g h = tt
each_call Q (x ∷ xs) g h = (
  in_by Q (call_of x)
      (λ j e.
      let some : 0 < length (opened x) = opened_some x g.0 in
      let own : length (of_call j (opened x)) ≡ length (opened x) = ap length (all_here j (call_of x) (opened x) (is_same (call_of x) j e) (opened_from x)) in
      let all : uses j (x ∷ xs) ≡ length (of_call j (opened x)) + uses j xs = uses_first j x xs in
      h j (omega (arith, some, own, all))),
  each_call Q xs g.1
      (λ j n. let all : uses j (x ∷ xs) ≡ length (of_call j (opened x)) + uses j xs = uses_first j x xs in h j (omega (arith, n, all))),
)

-- ---- round places, and at them

abbrev mutual
  round_items : Frame → List Item
  round_items (place n) = []
  round_items (whole u) = tree_items u
  round_items (around k q gs c) = q ++ (all_round gs ++ c)

  all_round : Frames → List Item
  all_round no_frames = []
  all_round (more_frames f fs) = round_items f ++ all_round fs

abbrev block_uses : ℕ → (ℕ → ItemTree) → List ℕ → ℕ
block_uses j t [] = 0
block_uses j t (n ∷ ns) = uses j (tree_items (t n)) + block_uses j t ns

blocks_both : (j : ℕ) (t : ℕ → ItemTree) (ms ns : List ℕ) → block_uses j t (ms ++ ns) ≡ block_uses j t ms + block_uses j t ns
blocks_both j t [] ns = omega arith
blocks_both j t (m ∷ ms) ns =
    let r : block_uses j t (ms ++ ns) ≡ block_uses j t ms + block_uses j t ns = blocks_both j t ms ns in omega (arith, r)

mutual
  frame_uses : (j : ℕ) (t : ℕ → ItemTree) (f : Frame) → uses j (tree_items (tree_at t f)) ≡ uses j (round_items f) + block_uses j t (places_in f)
  frame_uses j t (place n) = omega arith
  frame_uses j t (whole u) = omega arith
  frame_uses j t (around k q gs c) =
      let one : uses j (q ++ (held t gs ++ c)) ≡ uses j q + uses j (held t gs ++ c) = uses_both j q (held t gs ++ c) in
      let two : uses j (held t gs ++ c) ≡ uses j (held t gs) + uses j c = uses_both j (held t gs) c in
      let three : uses j (q ++ (all_round gs ++ c)) ≡ uses j q + uses j (all_round gs ++ c) = uses_both j q (all_round gs ++ c) in
      let four : uses j (all_round gs ++ c) ≡ uses j (all_round gs) + uses j c = uses_both j (all_round gs) c in
      let r : uses j (held t gs) ≡ uses j (all_round gs) + block_uses j t (all_places gs) = frames_uses j t gs in
      omega (arith, one, two, three, four, r)

  frames_uses : (j : ℕ) (t : ℕ → ItemTree) (fs : Frames) → uses j (held t fs) ≡ uses j (all_round fs) + block_uses j t (all_places fs)
  frames_uses j t no_frames = omega arith
  frames_uses j t (more_frames f fs) =
      let one : uses j (tree_items (tree_at t f) ++ held t fs) ≡ uses j (tree_items (tree_at t f)) + uses j (held t fs) =
      uses_both j (tree_items (tree_at t f)) (held t fs) in
      let two : uses j (round_items f ++ all_round fs) ≡ uses j (round_items f) + uses j (all_round fs) = uses_both j (round_items f) (all_round fs) in
      let three : block_uses j t (places_in f ++ all_places fs) ≡ block_uses j t (places_in f) + block_uses j t (all_places fs) =
      blocks_both j t (places_in f) (all_places fs) in
      let r : uses j (tree_items (tree_at t f)) ≡ uses j (round_items f) + block_uses j t (places_in f) = frame_uses j t f in
      let s : uses j (held t fs) ≡ uses j (all_round fs) + block_uses j t (all_places fs) = frames_uses j t fs in
      omega (arith, one, two, three, r, s)

ones_split : (xs ys : List Item) → AreOnes (xs ++ ys) → AreOnes xs × AreOnes ys
ones_split [] ys h = (tt, h)
ones_split (x ∷ xs) ys h = let r = ones_split xs ys h.1 in ((h.0, r.0), r.1)

ones_both : (xs ys : List Item) → AreOnes xs → AreOnes ys → AreOnes (xs ++ ys)
ones_both [] ys h g = g
ones_both (x ∷ xs) ys h g = (h.0, ones_both xs ys h.1 g)

mutual
  round_ones : (t : ℕ → ItemTree) (f : Frame) → AreOnes (tree_items (tree_at t f)) → AreOnes (round_items f)
  round_ones t (place n) h = tt
  round_ones t (whole u) h = h
  round_ones t (around k q gs c) h =
      let r = ones_split q (held t gs ++ c) h in
      let s = ones_split (held t gs) c r.1 in
      ones_both q (all_round gs ++ c) r.0 (ones_both (all_round gs) c (all_round_ones t gs s.0) s.1)

  all_round_ones : (t : ℕ → ItemTree) (fs : Frames) → AreOnes (held t fs) → AreOnes (all_round fs)
  all_round_ones t no_frames h = tt
  all_round_ones t (more_frames f fs) h =
      let r = ones_split (tree_items (tree_at t f)) (held t fs) h in
      ones_both (round_items f) (all_round fs) (round_ones t f r.0) (all_round_ones t fs r.1)

in_split : (Q : ℕ → Type 0) (xs ys : List Item) → AllIn Q (xs ++ ys) → AllIn Q xs × AllIn Q ys
in_split Q [] ys h = (tt, h)
in_split Q (x ∷ xs) ys h = let r = in_split Q xs ys h.1 in ((h.0, r.0), r.1)

mutual
  frame_off : (R : ℕ → ℕ → Type 0) (f : Frame) → AllOff R (round_items f) → RoundOff R f
  frame_off R (place n) h = tt
  frame_off R (whole u) h = h
  frame_off R (around k q gs c) h =
      let r = in_split (IsNone R) q (all_round gs ++ c) h in
      let s = in_split (IsNone R) (all_round gs) c r.1 in
      (r.0, frames_off R gs s.0, s.1)

  frames_off : (R : ℕ → ℕ → Type 0) (fs : Frames) → AllOff R (all_round fs) → AreRoundOff R fs
  frames_off R no_frames h = tt
  frames_off R (more_frames f fs) h =
      let r = in_split (IsNone R) (round_items f) (all_round fs) h in (frame_off R f r.0, frames_off R fs r.1)

-- ---- in the parts of the page

abbrev own_uses : ℕ → Pages → ℕ → List BlockSpot → ℕ
own_uses j pages k [] = 0
own_uses j pages k (s ∷ ss) = uses j (part_items pages (calls_to pages k s) (source_of s.block s.text)) + own_uses j pages (calls_past pages k s) ss

part_before : (pages : Pages) (j k : ℕ) (bs : List ℕ) → j < k → uses j (part_items pages k bs) ≡ 0
part_before pages j k bs l = uses_none j (part_items pages k bs) (before_part pages j k bs l)

part_behind : (pages : Pages) (j k : ℕ) (bs : List ℕ) → k + calls_in pages bs ≤ j → uses j (part_items pages k bs) ≡ 0
part_behind pages j k bs l = uses_none j (part_items pages k bs) (behind_part pages j k bs l)

abbrev part_of : Pages → ℕ → BlockSpot → List Item
part_of pages k s = part_items pages (calls_to pages k s) (source_of s.block s.text)

page_uses : (pages : Pages) (j k : ℕ) (s : BlockSpot) (ss : List BlockSpot) (behind : List ℕ)
    → uses j (called_items pages k (s ∷ ss) behind)
    ≡ uses j (part_items pages k s.before) + (uses j (part_of pages k s) + uses j (called_items pages (calls_past pages k s) ss behind))
page_uses pages j k s ss behind =
    let rest : List Item = called_items pages (calls_past pages k s) ss behind in
    uses_both j (part_items pages k s.before) (part_of pages k s ++ rest)
    ∙ ap (λ (n : ℕ). uses j (part_items pages k s.before) + n) (uses_both j (part_of pages k s) rest)

all_before : (pages : Pages) (j k : ℕ) (ss : List BlockSpot) (behind : List ℕ) → j < k → uses j (called_items pages k ss behind) ≡ 0
all_before pages j k [] behind l = part_before pages j k behind l
all_before pages j k (s ∷ ss) behind l =
    let i : ℕ = calls_in pages s.before in
    let n : ℕ = calls_in pages (source_of s.block s.text) in
    let next : j < (k + i) + n = omega (arith, l) in
    let one : uses j (part_items pages k s.before) ≡ 0 = part_before pages j k s.before l in
    let two : uses j (part_of pages k s) ≡ 0 = part_before pages j (calls_to pages k s) (source_of s.block s.text) (omega (arith, l)) in
    let three : uses j (called_items pages (calls_past pages k s) ss behind) ≡ 0 = all_before pages j (calls_past pages k s) ss behind next in
    page_uses pages j k s ss behind ∙ omega (arith, one, two, three)

own_before : (pages : Pages) (j k : ℕ) (ss : List BlockSpot) → j < k → own_uses j pages k ss ≡ 0
own_before pages j k [] l = refl
own_before pages j k (s ∷ ss) l =
    let i : ℕ = calls_in pages s.before in
    let n : ℕ = calls_in pages (source_of s.block s.text) in
    let next : j < (k + i) + n = omega (arith, l) in
    let two : uses j (part_of pages k s) ≡ 0 = part_before pages j (calls_to pages k s) (source_of s.block s.text) (omega (arith, l)) in
    let three : own_uses j pages (calls_past pages k s) ss ≡ 0 = own_before pages j (calls_past pages k s) ss next in
    omega (arith, two, three)

-- a call of a block gives items to the blocks alone
only_blocks : (pages : Pages) (j k : ℕ) (ss : List BlockSpot) (behind : List ℕ) (n : ℕ) → IsCallOf pages k ss n j
    → uses j (called_items pages k ss behind) ≡ own_uses j pages k ss
only_blocks pages j k [] behind n h = absurd h
only_blocks pages j k (s ∷ ss) behind zero h =
    let one : uses j (part_items pages k s.before) ≡ 0 = part_behind pages j k s.before h.0 in
    let two : uses j (called_items pages (calls_past pages k s) ss behind) ≡ 0 = all_before pages j (calls_past pages k s) ss behind h.1 in
    let three : own_uses j pages (calls_past pages k s) ss ≡ 0 = own_before pages j (calls_past pages k s) ss h.1 in
    page_uses pages j k s ss behind ∙ omega (arith, one, two, three)
only_blocks pages j k (s ∷ ss) behind (suc n) h =
    let le : (k + calls_in pages s.before) + calls_in pages (source_of s.block s.text) ≤ j = call_from pages (calls_past pages k s) ss n j h in
    let one : uses j (part_items pages k s.before) ≡ 0 = part_behind pages j k s.before (omega (arith, le)) in
    let two : uses j (called_items pages (calls_past pages k s) ss behind) ≡ own_uses j pages (calls_past pages k s) ss =
    only_blocks pages j (calls_past pages k s) ss behind n h in
    page_uses pages j k s ss behind ∙ omega (arith, one, two)

-- ---- in the blocks

uses_up : (j : ℕ) (t : ℕ → ItemTree) (ns : List ℕ) → block_uses j t (map suc ns) ≡ block_uses j (λ n. t (suc n)) ns
uses_up j t [] = refl
uses_up j t (n ∷ ns) = ap (λ (m : ℕ). uses j (tree_items (t (suc n))) + m) (uses_up j t ns)

-- a block has the items of its part
same_uses : (pages : Pages) (j i : ℕ) (s : BlockSpot) → IsContentIn pages s.block s.text
    → uses j (tree_items (tree_round s.block (part_items pages i s.text))) ≡ uses j (part_items pages i (source_of s.block s.text))
same_uses pages j i s c =
    let xs : List Item = part_items pages i s.text in
    ap (λ (zs : List Item). length (of_call j zs)) (tree_opened s.block xs (c.is i)) ∙ ap (uses j) (sym (c.items i))

all_same : (pages : Pages) (j k : ℕ) (ss : List BlockSpot) → AreContentsInFolder pages ss
    → block_uses j (tree_with_calls pages k ss) (counted ss) ≡ own_uses j pages k ss
all_same pages j k [] c = refl
all_same pages j k (s ∷ ss) c =
    ap₂ (λ (m n : ℕ). m + n) (same_uses pages j (calls_to pages k s) s c.0)
    (uses_up j (tree_with_calls pages k (s ∷ ss)) (counted ss) ∙ all_same pages j (calls_past pages k s) ss c.1)

-- so each item of it comes from a call of its part, or is the page's
part_calls : (pages : Pages) (i j : ℕ) (bs : List ℕ) → 0 < uses j (part_items pages i bs) → (i ≤ j) × (j < i + calls_in pages bs)
part_calls pages i j bs some = (
  elim (cases_lt j i) [
    | inl l ↦ let no : uses j (part_items pages i bs) ≡ 0 = part_before pages j i bs l in absurd (omega (arith, some, no))
    | inr le ↦ le
  ],
  elim (cases_lt j (i + calls_in pages bs)) [
    | inl l ↦ l
    | inr le ↦ let no : uses j (part_items pages i bs) ≡ 0 = part_behind pages j i bs le in absurd (omega (arith, some, no))
  ],
)

false_true : false ≡ true → ⊥
false_true e = cc

first_in : (Q : ℕ → Type 0) (xs : List Item) (p : Option ℕ) → list_any is_page xs ≡ true → AllIn Q xs → IsIn Q (first_of xs p)
first_in Q [] p e h = absurd (false_true e)
first_in Q (x ∷ xs) p e h = h.0

last_from : (Q : ℕ → Type 0) (v : Option ℕ) (xs : List Item) → IsIn Q v → AllIn Q xs → IsIn Q (last_of v xs)
last_from Q v [] g h = g
last_from Q v (x ∷ xs) g h = last_from Q (call_of x) xs h.0 h.1

last_in : (Q : ℕ → Type 0) (xs : List Item) (o : Option ℕ) → list_any is_page xs ≡ true → AllIn Q xs → IsIn Q (last_of o xs)
last_in Q [] o e h = absurd (false_true e)
last_in Q (x ∷ xs) o e h = last_from Q (call_of x) xs h.0 h.1

block_of : (Q : ℕ → Type 0) (t : ItemTree) → HoldsItsCalls t → AllIn Q (tree_items t) → IsBlockOf Q t
block_of Q t h g = record { holds = h; first = λ p. first_in Q (tree_items t) p h.some g; last = λ o. last_in Q (tree_items t) o h.some g }

blocks_up : (R : ℕ → ℕ → Type 0) (t : ℕ → ItemTree) (ns : List ℕ) → AreBlocksOf (λ n. R (suc n)) (λ n. t (suc n)) ns → AreBlocksOf R t (map suc ns)
blocks_up R t [] h = tt
blocks_up R t (n ∷ ns) h = (h.0, blocks_up R t ns h.1)

blocks_of : (pages : Pages) (k : ℕ) (ss : List BlockSpot) → AreContentsInFolder pages ss → AllHold (tree_with_calls pages k ss) (counted ss)
    → OnesAt (tree_with_calls pages k ss) (counted ss) → AreBlocksOf (IsCallOf pages k ss) (tree_with_calls pages k ss) (counted ss)
blocks_of pages k [] c h o = tt
blocks_of pages k (s ∷ ss) c h o =
    let i : ℕ = calls_to pages k s in
    let t : ItemTree = tree_round s.block (part_items pages i s.text) in (
      block_of (IsCallOf pages k (s ∷ ss) zero) t h.0
          (each_call (IsCallOf pages k (s ∷ ss) zero) (tree_items t) o.0
          (λ j some.
          let same : uses j (tree_items t) ≡ uses j (part_of pages k s) = same_uses pages j i s c.0 in
          part_calls pages i j (source_of s.block s.text) (omega (arith, some, same)))),
      blocks_up (IsCallOf pages k (s ∷ ss)) (tree_with_calls pages k (s ∷ ss)) (counted ss)
          (blocks_of pages (calls_past pages k s) ss c.1 (hold_moved (tree_with_calls pages k (s ∷ ss)) (counted ss) h.1)
          (ones_moved (tree_with_calls pages k (s ∷ ss)) (counted ss) o.1)),
    )

in_same : (Q P : ℕ → Type 0) (o : Option ℕ) → ((j : ℕ) → Q j → P j) → IsIn Q o → IsIn P o
in_same Q P None f h = tt
in_same Q P (Some j) f h = f j h

blocks_same : (R S : ℕ → ℕ → Type 0) (t : ℕ → ItemTree) (ns : List ℕ) → ((n j : ℕ) → R n j → S n j) → AreBlocksOf R t ns → AreBlocksOf S t ns
blocks_same R S t [] f h = tt
blocks_same R S t (n ∷ ns) f h =
    let own : IsBlockOf (R n) (t n) = h.0 in (
      record {
        holds = own.holds;
        first = λ p. in_same (R n) (S n) (first_of (tree_items (t n)) p) (f n) (own.first p);
        last = λ o. in_same (R n) (S n) (last_of o (tree_items (t n))) (f n) (own.last o);
      },
      blocks_same R S t ns f h.1,
    )

-- ---- the page

rising_up : (lo : ℕ) (ns : List ℕ) (hi : ℕ) → Rising lo ns hi → Rising (suc lo) (map suc ns) (suc hi)
rising_up lo [] hi h = omega (arith, h)
rising_up lo (n ∷ ns) hi h = let le : suc lo ≤ suc n = omega (arith, h.0) in (le, rising_up (suc n) ns hi h.1)

counted_rising : (ss : List BlockSpot) → Rising 0 (counted ss) (length ss)
counted_rising [] = omega arith
counted_rising (s ∷ ss) = let le : 0 ≤ 0 = omega arith in (le, rising_up 0 (counted ss) (length ss) (counted_rising ss))

tree_uses : (pages : Pages) (j : ℕ) (ss : List BlockSpot) (behind : List ℕ) → AreCallingBlocks pages ss behind → (f : CallingBlocksStand pages ss behind)
    → uses j (held (tree_with_calls pages 0 ss) f.frames) ≡ uses j (called_items pages 0 ss behind)
tree_uses pages j ss behind h f =
    let t : ℕ → ItemTree = tree_with_calls pages 0 ss in
    let items : List Item = (expanded_page pages (spots_source ss behind)).items in
    ap (uses j) (sym (append-nil (held t f.frames)))
    ∙ ap (λ (m : ItemTree). uses j (tree_items m)) (sym (f.means ss (edited_self pages ss)))
    ∙ ap (λ (xs : List Item). length (of_call j xs)) (held_meaning items)
    ∙ ap (uses j) (is_by_parts pages ss behind h.called).items

none_round : (pages : Pages) (j : ℕ) (ss : List BlockSpot) (behind : List ℕ) (n : ℕ) → AreCallingBlocks pages ss behind → (f : CallingBlocksStand pages ss behind)
    → IsCallOf pages 0 ss n j → uses j (all_round f.frames) ≡ 0
none_round pages j ss behind n h f c =
    let t : ℕ → ItemTree = tree_with_calls pages 0 ss in
    let all : uses j (held t f.frames) ≡ uses j (all_round f.frames) + block_uses j t (all_places f.frames) = frames_uses j t f.frames in
    let page : uses j (held t f.frames) ≡ own_uses j pages 0 ss = tree_uses pages j ss behind h f ∙ only_blocks pages j 0 ss behind n c in
    let own : block_uses j t (all_places f.frames) ≡ own_uses j pages 0 ss = ap (block_uses j t) f.in_order ∙ all_same pages j 0 ss h.contents in
    omega (arith, all, page, own)

page_ones : (pages : Pages) (ss : List BlockSpot) (behind : List ℕ) → AreCallingBlocks pages ss behind → (f : CallingBlocksStand pages ss behind)
    → first_refusal pages (spots_source ss behind) (page_work pages (spots_source ss behind)) ≡ None → AreOnes (held (tree_with_calls pages 0 ss) f.frames)
page_ones pages ss behind h f e =
    let t : ℕ → ItemTree = tree_with_calls pages 0 ss in
    let r = ones_split (held t f.frames) []
    (subst (λ (m : ItemTree). AreOnes (tree_items m)) (f.means ss (edited_self pages ss)) (tree_ones pages (spots_source ss behind) (called_utf8 pages ss behind h.called) e)) in
    r.0

pub by_numbers : (pages : Pages) (ss : List BlockSpot) (behind : List ℕ) → AreCallingBlocks pages ss behind → (f : CallingBlocksStand pages ss behind)
    → first_refusal pages (spots_source ss behind) (page_work pages (spots_source ss behind)) ≡ None → AreByNumbers (IsCallOf pages 0 ss) f.frames (length ss)
by_numbers pages ss behind h f e =
    let R : ℕ → ℕ → Type 0 = IsCallOf pages 0 ss in
    record {
      no_others = λ n m j l c d. no_others pages 0 ss n m j l c d;
      off = frames_off R f.frames
          (each_call (IsNone R) (all_round f.frames) (all_round_ones (tree_with_calls pages 0 ss) f.frames (page_ones pages ss behind h f e))
          (λ j some n c.
          let none : uses j (all_round f.frames) ≡ 0 = none_round pages j ss behind n h f c in
          absurd (omega (arith, some, none))));
      rising = subst (λ (ns : List ℕ). Rising 0 ns (length ss)) (sym f.in_order) (counted_rising ss);
    }

-- and its blocks, with any contents beside their calls
pub blocks_there : (pages : Pages) (ss rs : List BlockSpot) (behind : List ℕ) → AreCallingBlocks pages ss behind → (f : CallingBlocksStand pages ss behind)
    → first_refusal pages (spots_source ss behind) (page_work pages (spots_source ss behind)) ≡ None → AreEdited pages ss rs
    → AllHold (tree_with_calls pages 0 rs) (counted rs) → AreBlocksOf (IsCallOf pages 0 ss) (tree_with_calls pages 0 rs) (all_places f.frames)
blocks_there pages ss rs behind h f e t o =
    let w : ℕ → ItemTree = tree_with_calls pages 0 rs in
    let again : AreCallingBlocks pages rs behind = calling_again pages ss rs behind h t in
    let expanded = expanded_again pages ss rs behind h.called (edited_anew pages ss rs t) in
    subst (AreBlocksOf (IsCallOf pages 0 ss) w) (counted_same ss rs (edited_round pages ss rs t) ∙ sym f.in_order)
    (blocks_same (IsCallOf pages 0 rs) (IsCallOf pages 0 ss) w (counted rs) (λ n j c. call_same pages 0 ss rs n j t c)
    (blocks_of pages 0 rs again.contents o (ones_in_tree pages rs behind again (stand_again pages ss rs behind f t) (expanded.unrefused e))))
