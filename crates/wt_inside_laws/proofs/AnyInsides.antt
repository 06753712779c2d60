-- The tree of a page in which texts were typed anywhere: the inside of one block after the other is replaced, the last one first.
use Rattle.std.proofs.Common.{arith, ◌≡◌, ◌≢◌, ℕ, zero, suc, Option, Some, None, List, [], ◌∷◌, ◌++◌, map, length, refl, sym, ap, ◌∙◌, subst, length-append, inl}
use Rattle.wt_devices.specs.Device.{Pages}
use Rattle.wt_page_round_trip.specs.PageTree.{page_tree}
use Rattle.wt_inside_laws.specs.Replaced.{with_inside, with_insides}
use Rattle.wt_text_edit_laws.specs.Parts.{part_tree}
use Rattle.wt_text_edit_laws.specs.TextBlocks.{source_of, block_tree, IsBlock}
use Rattle.wt_text_edit_laws.specs.BlockSpots.{BlockSpot, spots_source, SameRound, AreBlocks}
use Rattle.wt_text_edit_laws.proofs.Blocks.TypedBraces.{AreTypedOver}
use Rattle.wt_called_edit_laws.specs.AnyBlocks.{AreSpots, typed_by, with_text, with_texts}
use Rattle.wt_called_edit_laws.specs.OwnTexts.{AreTypings}
use Rattle.wt_called_edit_laws.proofs.Cells.ManyPaths.{AreAsMany}
use Rattle.wt_called_edit_laws.proofs.Cells.PlacePaths.{paths_of, paths_counted, all_lead, typings}
use Rattle.wt_called_edit_laws.proofs.Cells.PlaceTrees.{tree_by, counted, Framed}
use Rattle.wt_called_edit_laws.proofs.Cells.SpotFrames.{framed}
use Rattle.wt_called_edit_laws.proofs.Cells.SpotTrees.{same_self, over_self, over_blocks}
use Rattle.wt_called_edit_laws.proofs.Cells.SpotsRead.{typed_round, typed_over}
use Rattle.wt_inside_laws.specs.AnyReplaced.{replaced_at, number_by, replaced_behind, ReplacesTexts}
use Rattle.wt_inside_laws.proofs.AllTexts.{round_front, over_front, one_more}
use Rattle.wt_inside_laws.proofs.AnyEdits.{number_of, front_of, fronts, own_numbers, edit_found, many_moved}
use Rattle.wt_inside_laws.proofs.BodyReplaced.{page_replaced}
use Rattle.wt_inside_laws.proofs.OneText.{typed_rest}

-- ---- trees that are others at one place

others_same : (before : List BlockSpot) (s r : BlockSpot) (news : List BlockSpot) (j : ℕ) → j ≢ length before
    → tree_by (before ++ s ∷ news) j ≡ tree_by (before ++ r ∷ news) j
others_same [] s r news zero n = absurd (n refl)
others_same [] s r news (suc j) n = refl
others_same (x ∷ before) s r news zero n = refl
others_same (x ∷ before) s r news (suc j) n = others_same before s r news j (λ e. n (ap suc e))

tree_here : (before : List BlockSpot) (s : BlockSpot) (news : List BlockSpot) → tree_by (before ++ s ∷ news) (length before) ≡ block_tree s.block s.text
tree_here [] s news = refl
tree_here (x ∷ before) s news = tree_here before s news

tree_with : (s : BlockSpot) (o : Option (List ℕ)) → block_tree (with_text s o).block (with_text s o).text ≡ block_tree s.block (with_text s o).text
tree_with s None = refl
tree_with s (Some text) = refl

block_with : (s : BlockSpot) (o : Option (List ℕ)) → IsBlock (with_text s o).block (with_text s o).text → IsBlock s.block (with_text s o).text
block_with s None h = h
block_with s (Some text) h = h

-- ---- one text of a page

one_replaced : (pages : Pages) (ss : List BlockSpot) (behind : List ℕ) (f : Framed ss behind) → AreSpots ss behind
    → (before : List BlockSpot) (s : BlockSpot) (rest news : List BlockSpot) (o : Option (List ℕ)) (front : List ℕ) (n : ℕ) → ss ≡ before ++ s ∷ rest
    → number_of (own_numbers ss behind f) (length before) ≡ n → front_of (fronts [] ss) (length before) ≡ front
    → SameRound ss (before ++ s ∷ news) → AreTypedOver ss (before ++ s ∷ news) → SameRound ss (before ++ with_text s o ∷ news)
    → AreTypedOver ss (before ++ with_text s o ∷ news)
    → page_tree pages (spots_source (before ++ with_text s o ∷ news) behind)
    ≡ with_inside (replaced_at front n s.block s.text (with_text s o).text) (page_tree pages (spots_source (before ++ s ∷ news) behind))
one_replaced pages ss behind f h before s rest news o front n is num src e1 o1 e2 o2 =
    let r : BlockSpot = with_text s o in
    let rs : List BlockSpot = before ++ s ∷ news in
    let qs : List BlockSpot = before ++ r ∷ news in
    let b1 : AreBlocks (s ∷ news) = typed_rest before (s ∷ news) (over_blocks ss rs behind h e1 o1) in
    let b2 : AreBlocks (r ∷ news) = typed_rest before (r ∷ news) (over_blocks ss qs behind h e2 o2) in
    page_replaced pages ss rs qs behind f h e1 o1 e2 o2 (replaced_at front n s.block s.text r.text) (length before) s.block s.text r.text
    (record {
      others = others_same before s r news;
      was = tree_here before s news;
      now = tree_here before r news ∙ tree_with s o;
      old_block = b1.0;
      new_block = block_with s o b2.0;
    })
    (edit_found ss behind f h before s rest news is front n s.text r.text num src)

-- ---- all of them

abbrev NumbersAre : (ℕ → ℕ) → ℕ → List BlockSpot → List ℕ → Type 0
NumbersAre N i [] ns = Unit {0}
NumbersAre N i (s ∷ ss) [] = ⊥
NumbersAre N i (s ∷ ss) (n ∷ ns) = (N i ≡ n) × NumbersAre N (suc i) ss ns

numbers_up : (N : ℕ → ℕ) (i : ℕ) (ss : List BlockSpot) (ns : List ℕ) → NumbersAre (λ j. N (suc j)) i ss ns → NumbersAre N (suc i) ss ns
numbers_up N i [] ns h = tt
numbers_up N i (s ∷ ss) [] h = h
numbers_up N i (s ∷ ss) (n ∷ ns) h = (h.0, numbers_up N (suc i) ss ns h.1)

numbers_are : (g : List ℕ → ℕ) (ss : List BlockSpot) (ps : List (List ℕ)) → AreAsMany (counted ss) ps → NumbersAre (number_of (map g ps)) 0 ss (map g ps)
numbers_are g [] ps m = tt
numbers_are g (s ∷ ss) [] m = absurd m
numbers_are g (s ∷ ss) (p ∷ ps) m = (refl, numbers_up (number_of (map g (p ∷ ps))) 0 ss (map g ps) (numbers_are g ss ps (many_moved (counted ss) ps m)))

abbrev FrontsAre : (ℕ → List ℕ) → ℕ → List ℕ → List BlockSpot → Type 0
FrontsAre F i front [] = Unit {0}
FrontsAre F i front (s ∷ ss) = (F i ≡ front ++ s.before) × FrontsAre F (suc i) ((front ++ s.before) ++ source_of s.block s.text) ss

fronts_up : (F : ℕ → List ℕ) (i : ℕ) (front : List ℕ) (ss : List BlockSpot) → FrontsAre (λ j. F (suc j)) i front ss → FrontsAre F (suc i) front ss
fronts_up F i front [] h = tt
fronts_up F i front (s ∷ ss) h = (h.0, fronts_up F (suc i) ((front ++ s.before) ++ source_of s.block s.text) ss h.1)

fronts_are : (front : List ℕ) (ss : List BlockSpot) → FrontsAre (front_of (fronts front ss)) 0 front ss
fronts_are front [] = tt
fronts_are front (s ∷ ss) =
    let more : List ℕ = (front ++ s.before) ++ source_of s.block s.text in
    (refl, fronts_up (front_of (fronts front (s ∷ ss))) 0 more ss (fronts_are more ss))

later_index : (before : List BlockSpot) (s : BlockSpot) → suc (length before) ≡ length (before ++ s ∷ [])
later_index before s = let a = length-append before (s ∷ []) in omega (arith, a)

all_behind : (pages : Pages) (ss : List BlockSpot) (behind : List ℕ) (f : Framed ss behind) → AreSpots ss behind
    → (before : List BlockSpot) (front : List ℕ) (rest : List BlockSpot) (os : List (Option (List ℕ))) (ns : List ℕ) → ss ≡ before ++ rest → AreTypings rest os
    → NumbersAre (number_of (own_numbers ss behind f)) (length before) rest ns → FrontsAre (front_of (fronts [] ss)) (length before) front rest
    → page_tree pages (spots_source (before ++ with_texts rest os) behind)
    ≡ with_insides (replaced_behind front rest os ns) (page_tree pages (spots_source (before ++ rest) behind))
all_behind pages ss behind f h before front [] os ns is u n d = refl
all_behind pages ss behind f h before front (s ∷ rest) [] ns is u n d = absurd u
all_behind pages ss behind f h before front (s ∷ rest) (o ∷ os) [] is u n d = absurd n
all_behind pages ss behind f h before front (s ∷ rest) (o ∷ os) (m ∷ ns) is u n d =
    let news : List BlockSpot = with_texts rest os in
    let r : BlockSpot = with_text s o in
    let N : ℕ → ℕ = number_of (own_numbers ss behind f) in
    let F : ℕ → List ℕ = front_of (fronts [] ss) in
    let later : List BlockSpot = before ++ s ∷ [] in
    let more : List ℕ = (front ++ s.before) ++ source_of s.block s.text in
    let blocks : AreBlocks (s ∷ rest) = typed_rest before (s ∷ rest) (subst AreBlocks is (over_blocks ss ss behind h (same_self ss) (over_self ss))) in
    let e1 : SameRound ss (before ++ s ∷ news) =
    subst (λ xs. SameRound xs (before ++ s ∷ news)) (sym is) (round_front before (s ∷ rest) (s ∷ news) (refl, refl, typed_round rest os u.1)) in
    let o1 : AreTypedOver ss (before ++ s ∷ news) =
    subst (λ xs. AreTypedOver xs (before ++ s ∷ news)) (sym is) (over_front before (s ∷ rest) (s ∷ news) (inl refl, typed_over rest os blocks.1 u.1)) in
    let e2 : SameRound ss (before ++ r ∷ news) =
    subst (λ xs. SameRound xs (before ++ r ∷ news)) (sym is) (round_front before (s ∷ rest) (r ∷ news) (typed_round (s ∷ rest) (o ∷ os) u)) in
    let o2 : AreTypedOver ss (before ++ r ∷ news) =
    subst (λ xs. AreTypedOver xs (before ++ r ∷ news)) (sym is) (over_front before (s ∷ rest) (r ∷ news) (typed_over (s ∷ rest) (o ∷ os) blocks u)) in
    let further = all_behind pages ss behind f h later more rest os ns (is ∙ sym (one_more before s rest)) u.1
    (subst (λ (i : ℕ). NumbersAre N i rest ns) (later_index before s) n.1) (subst (λ (i : ℕ). FrontsAre F i more rest) (later_index before s) d.1) in
    one_replaced pages ss behind f h before s rest news o (front ++ s.before) m is n.0 d.0 e1 o1 e2 o2
    ∙ ap (with_inside (replaced_at (front ++ s.before) m s.block s.text r.text))
    (ap (λ xs. page_tree pages (spots_source xs behind)) (sym (one_more before s news))
    ∙ further
    ∙ ap (λ xs. with_insides (replaced_behind more rest os ns) (page_tree pages (spots_source xs behind))) (one_more before s rest))

replaces_by : (ss : List BlockSpot) (behind : List ℕ) → Framed ss behind → AreSpots ss behind → ReplacesTexts ss behind
replaces_by ss behind f h = record {
  paths = paths_of f;
  lead = all_lead ss behind f h;
  replaces = λ pages es e.
      all_behind pages ss behind f h [] [] ss (map (typed_by es) (paths_of f)) (own_numbers ss behind f) refl (typings ss behind (paths_of f) es (all_lead ss behind f h) e)
      (numbers_are (λ p. number_by p (part_tree (spots_source ss behind))) ss (paths_of f) (paths_counted ss behind f)) (fronts_are [] ss);
}

pub replaces_any : (ss : List BlockSpot) (behind : List ℕ) → AreSpots ss behind → ReplacesTexts ss behind
replaces_any ss behind h = replaces_by ss behind (framed ss behind h.parts) h
