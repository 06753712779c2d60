-- What a page has before each place of its tree: its source before this block.
use Rattle.std.proofs.Common.{arith, ◌≡◌, ◌≢◌, ℕ, zero, suc, false, List, [], ◌∷◌, ◌++◌, length, map, refl, sym, ap, ap₂, ◌∙◌, subst, append-nil, append_assoc, inl, inr}
use Rattle.std.specs.Prelude.{codes}
use Rattle.std.specs.Str.{chars}
use Rattle.std.specs.Fmt.{digits}
use Rattle.std.proofs.lemmas.List.{append_cancel_left, append_cancel_right, length-map}
use Rattle.std.proofs.lemmas.Grind.{flat_map-append}
use Rattle.wt_tree.specs.declared.edit_shape.Place.TheVariants as places
use Rattle.wt_span.specs.Items.{Item, source, sources}
use Rattle.wt_guards.specs.Guards.{Setting, nowiki, is_guarded, is_between_guard, is_start_guard, is_end_guard, is_blank_guard, is_parted}
use Rattle.wt_guards.specs.Letters.{is_escaped, reference}
use Rattle.wt_guards.specs.Table.{hazard, line_start_hazard}
use Rattle.wt_inline.specs.ItemTree.{Head, ItemTree, inner, forest, tree_items, held_by_all}
use Rattle.wt_part_laws.specs.Frames.{place, whole, around, Frames, no_frames, more_frames, tree_at, trees_at, all_places}
use Rattle.wt_text_edit_laws.specs.BlockSpots.{BlockSpot, spots_source, SameRound, AreContents}
use Rattle.wt_text_edit_laws.specs.TextBlocks.{TextBlock, a_paragraph, a_heading, source_of, IsFrame, IsTypedHeading, IsTypedIn}
use Rattle.wt_text_edit_laws.specs.Contents.{IsNewContent}
use Rattle.wt_text_edit_laws.specs.TypedHeadings.{Sides, opening, closing}
use Rattle.wt_text_edit_laws.specs.TypedPages.{IsTypedPage}
use Rattle.wt_text_edit_laws.proofs.Blocks.BlockReading.{HasFrame, content_frame}
use Rattle.wt_text_edit_laws.proofs.Blocks.Contents.{typed_new, block_source}
use Rattle.wt_text_edit_laws.proofs.Blocks.KeptBlocks.{blocks_source, held_source}
use Rattle.wt_text_edit_laws.proofs.Blocks.TypedBraces.{AreNewOver}
use Rattle.wt_called_edit_laws.proofs.Cells.TwoTexts.{same_round}
use Rattle.wt_called_edit_laws.proofs.Cells.PlaceTrees.{tree_by, counted}

-- ---- what is between places

-- the source before each place, with its number, and behind the last
pub data Gaps : Type 0 where
  last_gap : List ℕ → Gaps
  then_gap : List ℕ → ℕ → Gaps → Gaps

abbrev pub put_before : List ℕ → Gaps → Gaps
put_before xs (last_gap ys) = last_gap (xs ++ ys)
put_before xs (then_gap ys i g) = then_gap (xs ++ ys) i g

-- those of frames, before others
abbrev pub gaps_of : Frames → Gaps → Gaps
gaps_of no_frames z = z
gaps_of (more_frames (whole u) fs) z = put_before (sources (tree_items u)) (gaps_of fs z)
gaps_of (more_frames (place i) fs) z = then_gap [] i (gaps_of fs z)
gaps_of (more_frames (around h p gs c) fs) z = put_before (sources p) (gaps_of gs (put_before (sources c) (gaps_of fs z)))

abbrev pub numbers_in : Gaps → List ℕ
numbers_in (last_gap xs) = []
numbers_in (then_gap xs i g) = i ∷ numbers_in g

pub numbers_before : (xs : List ℕ) (g : Gaps) → numbers_in (put_before xs g) ≡ numbers_in g
numbers_before xs (last_gap ys) = refl
numbers_before xs (then_gap ys i g) = refl

pub numbers_are : (fs : Frames) (z : Gaps) → numbers_in (gaps_of fs z) ≡ all_places fs ++ numbers_in z
numbers_are no_frames z = refl
numbers_are (more_frames (whole u) fs) z = numbers_before (sources (tree_items u)) (gaps_of fs z) ∙ numbers_are fs z
numbers_are (more_frames (place i) fs) z = ap (λ (is : List ℕ). i ∷ is) (numbers_are fs z)
numbers_are (more_frames (around h p gs c) fs) z =
    let y : Gaps = put_before (sources c) (gaps_of fs z) in
    numbers_before (sources p) (gaps_of gs y)
    ∙ numbers_are gs y
    ∙ ap (λ (is : List ℕ). all_places gs ++ is) (numbers_before (sources c) (gaps_of fs z) ∙ numbers_are fs z)
    ∙ sym (append_assoc (all_places gs) (all_places fs) (numbers_in z))

-- ---- with texts between them

abbrev pub fill : List (List ℕ) → Gaps → List ℕ
fill ts (last_gap xs) = xs
fill [] (then_gap xs i g) = xs ++ fill [] g
fill (t ∷ ts) (then_gap xs i g) = xs ++ (t ++ fill ts g)

pub fill_before : (ts : List (List ℕ)) (xs : List ℕ) (g : Gaps) → fill ts (put_before xs g) ≡ xs ++ fill ts g
fill_before ts xs (last_gap ys) = refl
fill_before [] xs (then_gap ys i g) = append_assoc xs ys (fill [] g)
fill_before (t ∷ ts) xs (then_gap ys i g) = append_assoc xs ys (t ++ fill ts g)

abbrev pub source_at : (ℕ → ItemTree) → ℕ → List ℕ
source_at t i = sources (tree_items (t i))

abbrev pub sources_at : (ℕ → ItemTree) → List ℕ → List (List ℕ) → List (List ℕ)
sources_at t [] ts = ts
sources_at t (i ∷ is) ts = source_at t i ∷ sources_at t is ts

pub sources_both : (t : ℕ → ItemTree) (is js : List ℕ) (ts : List (List ℕ)) → sources_at t (is ++ js) ts ≡ sources_at t is (sources_at t js ts)
sources_both t [] js ts = refl
sources_both t (i ∷ is) js ts = ap (λ (rs : List (List ℕ)). source_at t i ∷ rs) (sources_both t is js ts)

joins : (xs ys : List Item) → sources (xs ++ ys) ≡ sources xs ++ sources ys
joins xs ys = flat_map-append source xs ys

inner_source : (h : Head) (p c : List Item) (us : List ItemTree) → sources (tree_items (inner h p (forest us) c)) ≡ sources p ++ (blocks_source us ++ sources c)
inner_source h p c us =
    joins p (held_by_all (forest us) ++ c)
    ∙ ap (λ xs. sources p ++ xs) (joins (held_by_all (forest us)) c ∙ ap (λ xs. xs ++ sources c) (held_source us))

pub fill_frames : (t : ℕ → ItemTree) (fs : Frames) (z : Gaps) (ts : List (List ℕ))
    → fill (sources_at t (all_places fs) ts) (gaps_of fs z) ≡ blocks_source (trees_at t fs) ++ fill ts z
fill_frames t no_frames z ts = refl
fill_frames t (more_frames (whole u) fs) z ts =
    let own : List ℕ = sources (tree_items u) in
    fill_before (sources_at t (all_places fs) ts) own (gaps_of fs z)
    ∙ ap (λ xs. own ++ xs) (fill_frames t fs z ts)
    ∙ sym (append_assoc own (blocks_source (trees_at t fs)) (fill ts z))
fill_frames t (more_frames (place i) fs) z ts =
    ap (λ xs. source_at t i ++ xs) (fill_frames t fs z ts) ∙ sym (append_assoc (source_at t i) (blocks_source (trees_at t fs)) (fill ts z))
fill_frames t (more_frames (around h p gs c) fs) z ts =
    let y : Gaps = put_before (sources c) (gaps_of fs z) in
    let rs : List (List ℕ) = sources_at t (all_places fs) ts in
    let A : List ℕ = sources p in
    let B : List ℕ = blocks_source (trees_at t gs) in
    let C : List ℕ = sources c in
    let D : List ℕ = blocks_source (trees_at t fs) in
    ap (λ qs. fill qs (put_before A (gaps_of gs y))) (sources_both t (all_places gs) (all_places fs) ts)
    ∙ fill_before (sources_at t (all_places gs) rs) A (gaps_of gs y)
    ∙ ap (λ xs. A ++ xs) (fill_frames t gs y rs
    ∙ ap (λ xs. B ++ xs) (fill_before rs C (gaps_of fs z) ∙ ap (λ xs. C ++ xs) (fill_frames t fs z ts))
    ∙ sym (append_assoc B C (D ++ fill ts z)))
    ∙ sym (append_assoc A (B ++ C) (D ++ fill ts z))
    ∙ sym (append_assoc (A ++ (B ++ C)) D (fill ts z))
    ∙ ap (λ xs. (xs ++ D) ++ fill ts z) (sym (inner_source h p c (trees_at t gs)))

-- ---- they are those of the page

abbrev pub own_sources : List BlockSpot → List (List ℕ)
own_sources [] = []
own_sources (s ∷ ss) = source_of s.block s.text ∷ own_sources ss

setting_of : List ℕ → Setting
setting_of bs = record { within = false; place = places.Paragraph; source = bs }

heading_setting : List ℕ → Setting
heading_setting bs = record { within = false; place = places.Heading; source = bs }

letter_a : IsTypedPage (97 ∷ [])
unfolding is_guarded is_between_guard is_start_guard is_end_guard is_blank_guard is_parted hazard line_start_hazard nowiki is_escaped reference digits chars lib.Utf8.encode setting_of
letter_a = record { setting = setting_of []; text = codes "a"; utf8 = (97 ∷ [], (refl, refl)); of_block = refl; is = refl }

letter_b : IsTypedPage (98 ∷ [])
unfolding is_guarded is_between_guard is_start_guard is_end_guard is_blank_guard is_parted hazard line_start_hazard nowiki is_escaped reference digits chars lib.Utf8.encode setting_of
letter_b = record { setting = setting_of []; text = codes "b"; utf8 = (98 ∷ [], (refl, refl)); of_block = refl; is = refl }

heading_a : (s : Sides) → IsFrame s → IsTypedHeading s (97 ∷ [])
unfolding is_guarded is_between_guard is_start_guard is_end_guard is_blank_guard is_parted hazard line_start_hazard nowiki is_escaped reference digits chars lib.Utf8.encode heading_setting
heading_a s f = record {
  frame = f;
  setting = heading_setting [];
  text = codes "a";
  utf8 = (97 ∷ [], (refl, refl));
  one_line = refl;
  of_block = refl;
  of_heading = refl;
  is = refl;
}

heading_b : (s : Sides) → IsFrame s → IsTypedHeading s (98 ∷ [])
unfolding is_guarded is_between_guard is_start_guard is_end_guard is_blank_guard is_parted hazard line_start_hazard nowiki is_escaped reference digits chars lib.Utf8.encode heading_setting
heading_b s f = record {
  frame = f;
  setting = heading_setting [];
  text = codes "b";
  utf8 = (98 ∷ [], (refl, refl));
  one_line = refl;
  of_block = refl;
  of_heading = refl;
  is = refl;
}

pub type_a : (k : TextBlock) → HasFrame k → IsTypedIn k (97 ∷ [])
type_a a_paragraph f = letter_a
type_a (a_heading s) f = heading_a s f

pub type_b : (k : TextBlock) → HasFrame k → IsTypedIn k (98 ∷ [])
type_b a_paragraph f = letter_b
type_b (a_heading s) f = heading_b s f

-- a block is its text between these
front_of : TextBlock → List ℕ
front_of a_paragraph = []
front_of (a_heading s) = opening s

back_of : TextBlock → List ℕ
back_of a_paragraph = []
back_of (a_heading s) = closing s

framed : (k : TextBlock) (c : ℕ) (bs rest : List ℕ) → source_of k (c ∷ bs) ++ rest ≡ front_of k ++ c ∷ (bs ++ (back_of k ++ rest))
unfolding front_of back_of
framed a_paragraph c bs rest = refl
framed (a_heading s) c bs rest =
    append_assoc (opening s) (c ∷ (bs ++ closing s)) rest ∙ ap (λ ys. opening s ++ c ∷ ys) (append_assoc bs (closing s) rest)

placed : (xs rest : List ℕ) (k : TextBlock) (c : ℕ) (bs : List ℕ)
    → xs ++ (source_of k (c ∷ bs) ++ rest) ≡ (xs ++ front_of k) ++ c ∷ (bs ++ (back_of k ++ rest))
placed xs rest k c bs = ap (λ ys. xs ++ ys) (framed k c bs rest) ∙ sym (append_assoc xs (front_of k) (c ∷ (bs ++ (back_of k ++ rest))))

pub same_front : (k : TextBlock) (bs xs ys us vs : List ℕ) → xs ++ (source_of k (97 ∷ bs) ++ us) ≡ ys ++ (source_of k (97 ∷ bs) ++ vs)
    → xs ++ (source_of k (98 ∷ bs) ++ us) ≡ ys ++ (source_of k (98 ∷ bs) ++ vs) → xs ≡ ys
same_front k bs xs ys us vs e f =
    let apart : 97 ≢ 98 = λ n. absurd (omega (arith, n)) in
    let r = same_round (xs ++ front_of k) (bs ++ (back_of k ++ us)) (ys ++ front_of k) (bs ++ (back_of k ++ vs)) 97 98 apart
    (sym (placed xs us k 97 bs) ∙ e ∙ placed ys vs k 97 bs) (sym (placed xs us k 98 bs) ∙ f ∙ placed ys vs k 98 bs) in
    append_cancel_right xs ys (front_of k) r.0

pub self_round : (ss : List BlockSpot) → SameRound ss ss
self_round [] = tt
self_round (s ∷ ss) = (refl, refl, self_round ss)

self_new : (ss : List BlockSpot) → AreNewOver ss ss
self_new [] = tt
self_new (s ∷ ss) = (inl refl, self_new ss)

abbrev pub AreAsMany : Gaps → List BlockSpot → Type 0
AreAsMany (last_gap xs) [] = Unit {0}
AreAsMany (last_gap xs) (s ∷ ss) = ⊥
AreAsMany (then_gap xs i g) [] = ⊥
AreAsMany (then_gap xs i g) (s ∷ ss) = AreAsMany g ss

abbrev pub AreSame : Gaps → List BlockSpot → Type 0
AreSame (last_gap xs) [] = Unit {0}
AreSame (last_gap xs) (s ∷ ss) = ⊥
AreSame (then_gap xs i g) [] = ⊥
AreSame (then_gap xs i g) (s ∷ ss) = (xs ≡ s.before) × AreSame g ss

-- the page with any new contents has these gaps round them
abbrev pub FillsAll : Gaps → List BlockSpot → List ℕ → Type 0
FillsAll g ss behind =
    (rs : List BlockSpot) → SameRound ss rs → AreContents rs → AreNewOver ss rs → fill (own_sources rs) g ≡ spots_source rs behind

abbrev with_source : BlockSpot → List ℕ → BlockSpot
with_source s q = record s { text = q }

pub same_gaps : (g : Gaps) (ss : List BlockSpot) (behind : List ℕ) → AreAsMany g ss → AreContents ss → FillsAll g ss behind → AreSame g ss
same_gaps (last_gap xs) [] behind m b f = tt
same_gaps (last_gap xs) (s ∷ ss) behind m b f = absurd m
same_gaps (then_gap xs i g) [] behind m b f = absurd m
same_gaps (then_gap xs i g) (s ∷ ss) behind m b f =
    let k : TextBlock = s.block in
    let frame : HasFrame k = content_frame k s.text b.0 in
    let a : IsTypedIn k (97 ∷ []) = type_a k frame in
    let c : IsTypedIn k (98 ∷ []) = type_b k frame in
    let d : IsNewContent k s.text (97 ∷ []) = typed_new k s.text (97 ∷ []) a in
    let e : IsNewContent k s.text (98 ∷ []) = typed_new k s.text (98 ∷ []) c in
    let first : xs ≡ s.before =
    same_front k [] xs s.before (fill (own_sources ss) g) (spots_source ss behind)
    (f (with_source s (97 ∷ []) ∷ ss) (refl, refl, self_round ss) (d.firm.content, b.1) (inr d, self_new ss))
    (f (with_source s (98 ∷ []) ∷ ss) (refl, refl, self_round ss) (e.firm.content, b.1) (inr e, self_new ss)) in
    let rest : FillsAll g ss behind = λ rs r h o.
    let own : List ℕ = source_of k s.text in
    append_cancel_left own (fill (own_sources rs) g) (spots_source rs behind)
    (append_cancel_left s.before (own ++ fill (own_sources rs) g) (own ++ spots_source rs behind)
    (ap (λ ys. ys ++ (own ++ fill (own_sources rs) g)) (sym first) ∙ f (s ∷ rs) (refl, refl, r) (b.0, h) (inl refl, o))) in
    (first, same_gaps g ss behind m b.1 rest)

-- ---- sources by numbers

sources_moved : (t : ℕ → ItemTree) (is : List ℕ) → sources_at t (map suc is) [] ≡ sources_at (λ i. t (suc i)) is []
sources_moved t [] = refl
sources_moved t (i ∷ is) = ap (λ (rs : List (List ℕ)). source_at t (suc i) ∷ rs) (sources_moved t is)

pub sources_counted : (ss : List BlockSpot) → sources_at (tree_by ss) (counted ss) [] ≡ own_sources ss
sources_counted [] = refl
sources_counted (s ∷ ss) =
    ap₂ (λ (r : List ℕ) (rs : List (List ℕ)). r ∷ rs) (block_source s.block s.text) (sources_moved (tree_by (s ∷ ss)) (counted ss) ∙ sources_counted ss)

pub counted_same : (ss rs : List BlockSpot) → SameRound ss rs → counted ss ≡ counted rs
counted_same [] [] e = refl
counted_same [] (r ∷ rs) e = absurd e
counted_same (s ∷ ss) [] e = absurd e
counted_same (s ∷ ss) (r ∷ rs) e = ap (λ (is : List ℕ). zero ∷ map suc is) (counted_same ss rs e.2)

pub count_counted : (ss : List BlockSpot) → length (counted ss) ≡ length ss
count_counted [] = refl
count_counted (s ∷ ss) = ap suc (length-map (counted ss) suc ∙ count_counted ss)

pub many_by : (g : Gaps) (ss : List BlockSpot) → length (numbers_in g) ≡ length ss → AreAsMany g ss
many_by (last_gap xs) [] e = tt
many_by (last_gap xs) (s ∷ ss) e = absurd (omega (arith, e))
many_by (then_gap xs i g) [] e = absurd (omega (arith, e))
many_by (then_gap xs i g) (s ∷ ss) e = let rest : length (numbers_in g) ≡ length ss = omega (arith, e) in many_by g ss rest

-- ---- at each place

-- what holds of what is before a place, and of its number
abbrev pub AtPlaces : (List ℕ → ℕ → Type 0) → (ℕ → ItemTree) → List ℕ → Gaps → Type 0
AtPlaces P t front (last_gap xs) = Unit {0}
AtPlaces P t front (then_gap xs i g) = P (front ++ xs) i × AtPlaces P t ((front ++ xs) ++ source_at t i) g

pub at_before : (P : List ℕ → ℕ → Type 0) (t : ℕ → ItemTree) (front xs : List ℕ) (g : Gaps) → AtPlaces P t front (put_before xs g) → AtPlaces P t (front ++ xs) g
at_before P t front xs (last_gap ys) h = tt
at_before P t front xs (then_gap ys i g) h =
    let e : front ++ (xs ++ ys) ≡ (front ++ xs) ++ ys = sym (append_assoc front xs ys) in
    (subst (λ zs. P zs i) e h.0, subst (λ zs. AtPlaces P t (zs ++ source_at t i) g) e h.1)

pub at_behind : (P : List ℕ → ℕ → Type 0) (t : ℕ → ItemTree) (front : List ℕ) (fs : Frames) (z : Gaps) → AtPlaces P t front (gaps_of fs z)
    → AtPlaces P t (front ++ blocks_source (trees_at t fs)) z
at_behind P t front no_frames z h = subst (λ xs. AtPlaces P t xs z) (sym (append-nil front)) h
at_behind P t front (more_frames (whole u) fs) z h =
    let own : List ℕ = sources (tree_items u) in
    subst (λ xs. AtPlaces P t xs z) (append_assoc front own (blocks_source (trees_at t fs)))
    (at_behind P t (front ++ own) fs z (at_before P t front own (gaps_of fs z) h))
at_behind P t front (more_frames (place i) fs) z h =
    let own : List ℕ = source_at t i in
    subst (λ xs. AtPlaces P t xs z) (ap (λ xs. (xs ++ own) ++ blocks_source (trees_at t fs)) (append-nil front) ∙ append_assoc front own (blocks_source (trees_at t fs)))
    (at_behind P t ((front ++ []) ++ own) fs z h.1)
at_behind P t front (more_frames (around k p gs c) fs) z h =
    let y : Gaps = put_before (sources c) (gaps_of fs z) in
    let A : List ℕ = sources p in
    let B : List ℕ = blocks_source (trees_at t gs) in
    let C : List ℕ = sources c in
    let D : List ℕ = blocks_source (trees_at t fs) in
    let in_front : List ℕ = ((front ++ A) ++ B) ++ C in
    let e : in_front ++ D ≡ front ++ (sources (tree_items (tree_at t (around k p gs c))) ++ D) =
    ap (λ xs. xs ++ D) (append_assoc (front ++ A) B C ∙ append_assoc front A (B ++ C) ∙ ap (λ xs. front ++ xs) (sym (inner_source k p c (trees_at t gs))))
    ∙ append_assoc front (sources (tree_items (tree_at t (around k p gs c)))) D in
    subst (λ xs. AtPlaces P t xs z) e
    (at_behind P t in_front fs z (at_before P t ((front ++ A) ++ B) C (gaps_of fs z) (at_behind P t (front ++ A) gs y (at_before P t front A (gaps_of gs y) h))))
