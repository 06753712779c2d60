-- The edit that replaces a text of a page, wherever it is: its number and what is before it, in the page in which the later ones are replaced.
use Rattle.std.proofs.Common.{arith, ◌≡◌, ℕ, zero, suc, ◌+◌, true, List, [], ◌∷◌, ◌++◌, map, length, refl, sym, ap, ap₂, ◌∙◌, subst, inl, inr}
use Rattle.wt_tree.specs.declared.row.Texts.TheVariants.{Page}
use Rattle.wt_tree.specs.Tree.{Label, tree, Trees}
use Rattle.wt_span.specs.Items.{Item, sources}
use Rattle.wt_inline.specs.ItemTree.{ItemTree}
use Rattle.wt_checks.specs.Kept.{children}
use Rattle.wt_expand.specs.PageItems.{page_items}
use Rattle.wt_expand.proofs.PageLaws.{page_sources}
use Rattle.wt_annotated.specs.Labels.{label_at}
use Rattle.wt_part_laws.specs.Frames.{all_places}
use Rattle.wt_part_laws.specs.Standing.{standing}
use Rattle.wt_text_edit_laws.specs.TextBlocks.{TextBlock, a_paragraph, a_heading, source_of, block_tree}
use Rattle.wt_text_edit_laws.specs.BlockSpots.{BlockSpot, spots_source}
use Rattle.wt_text_edit_laws.specs.Parts.{part_tree}
use Rattle.wt_text_edit_laws.proofs.Blocks.Contents.{block_source}
use Rattle.wt_called_edit_laws.specs.AnyBlocks.{AreSpots}
use Rattle.wt_called_edit_laws.proofs.Cells.ManyNodes.{nodes_from}
use Rattle.wt_called_edit_laws.proofs.Cells.ManyPaths.{NoneEmpty, paths_full, AreAsMany}
use Rattle.wt_called_edit_laws.proofs.Cells.PlaceGaps.{Gaps, last_gap, then_gap, gaps_of, numbers_in, source_at, AreSame, AtPlaces}
use Rattle.wt_called_edit_laws.proofs.Cells.PlacePaths.{paths_of, tree_so, paths_counted, gaps_so, numbers_so}
use Rattle.wt_called_edit_laws.proofs.Cells.PlaceTrees.{tree_by, counted, Framed}
use Rattle.wt_called_edit_laws.proofs.Cells.SpotTrees.{tree_borders, label_over}
use Rattle.wt_inside_laws.specs.AnyReplaced.{replaced_at, number_by}
use Rattle.wt_inside_laws.specs.TextsReplaced.{numbered_inside}
use Rattle.wt_inside_laws.proofs.EditPlaces.{FitsAt, IsNone, EditIn}
use Rattle.wt_inside_laws.proofs.EditsFound.{AllAt, both_at, items_at, AllNumbered, numbers_at, IsOnce, AreSameBefore, edit_in}
use Rattle.wt_inside_laws.proofs.OneText.{anywhere}

-- ---- numbers and sources by index

abbrev pub number_of : List ℕ → ℕ → ℕ
number_of [] i = 0
number_of (n ∷ ns) zero = n
number_of (n ∷ ns) (suc i) = number_of ns i

abbrev pub front_of : List (List ℕ) → ℕ → List ℕ
front_of [] i = []
front_of (xs ∷ fs) zero = xs
front_of (xs ∷ fs) (suc i) = front_of fs i

-- the sources before some blocks, behind this one
abbrev pub fronts : List ℕ → List BlockSpot → List (List ℕ)
fronts front [] = []
fronts front (s ∷ ss) = (front ++ s.before) ∷ fronts ((front ++ s.before) ++ source_of s.block s.text) ss

abbrev pub own_numbers : (ss : List BlockSpot) (behind : List ℕ) → Framed ss behind → List ℕ
own_numbers ss behind f = map (λ p. number_by p (part_tree (spots_source ss behind))) (paths_of f)

-- what is known at each place of a page
abbrev pub IsKnown : List BlockSpot → List ℕ → List ℕ → ℕ → ℕ → List Item → Type 0
IsKnown ss front ns i m a = (number_of ns i ≡ m) × (front_of (fronts front ss) i ≡ sources a)

-- ---- numbers

block_number : (k : TextBlock) (q : List ℕ) (m : ℕ) (a : List Item) → number_by [] (standing m a (block_tree k q)) ≡ m
unfolding label_at
block_number a_paragraph q m a = refl
block_number (a_heading s) q m a = refl

tree_number : (ss : List BlockSpot) (i m : ℕ) (a : List Item) → number_by [] (standing m a (tree_by ss i)) ≡ m
tree_number [] i m a = block_number a_paragraph [] m a
tree_number (s ∷ ss) zero m a = block_number s.block s.text m a
tree_number (s ∷ ss) (suc i) m a = tree_number ss i m a

numbered_moved : (N : ℕ → ℕ) (is : List ℕ) (ps : List (List ℕ)) (ts : Trees) → AllNumbered (λ i. N (suc i)) is ps ts → AllNumbered N (map suc is) ps ts
numbered_moved N [] ps ts h = tt
numbered_moved N (i ∷ is) [] ts h = tt
numbered_moved N (i ∷ is) (p ∷ ps) ts h = (h.0, numbered_moved N is ps ts h.1)

pub many_moved : (is : List ℕ) (ps : List (List ℕ)) → AreAsMany (map suc is) ps → AreAsMany is ps
many_moved [] ps h = h
many_moved (i ∷ is) [] h = h
many_moved (i ∷ is) (p ∷ ps) h = many_moved is ps h

numbered_list : (ss : List BlockSpot) (ps : List (List ℕ)) (l : Label) (ts : Trees) → NoneEmpty ps → AreAsMany (counted ss) ps
    → AllNumbered (number_of (map (λ p. number_by p (tree l ts)) ps)) (counted ss) ps ts
numbered_list [] ps l ts f m = tt
numbered_list (s ∷ ss) [] l ts f m = absurd m
numbered_list (s ∷ ss) ([] ∷ ps) l ts f m = absurd f
numbered_list (s ∷ ss) ((i ∷ is) ∷ ps) l ts f m = (
  refl,
  numbered_moved (number_of (map (λ p. number_by p (tree l ts)) ((i ∷ is) ∷ ps))) (counted ss) ps ts
      (numbered_list ss ps l ts f (many_moved (counted ss) ps m)),
)

numbers_known : (ss : List BlockSpot) (behind : List ℕ) (f : Framed ss behind) → AreSpots ss behind
    → AllAt (λ i m a. number_of (own_numbers ss behind f) i ≡ m) (tree_by ss) 1 [] [] f.frames
numbers_known ss behind f h =
    let ts : Trees = nodes_from (tree_by ss) true Page 1 [] [] f.frames in
    let N : ℕ → ℕ = number_of (own_numbers ss behind f) in
    numbers_at N (tree_by ss) (tree_number ss) true Page 1 [] [] f.frames (tree_borders ss f.frames f.of_cells f.in_order)
    (subst (λ is. AllNumbered N is (paths_of f) ts) (sym f.in_order)
    (subst (λ t. AllNumbered (number_of (map (λ p. number_by p t) (paths_of f))) (counted ss) (paths_of f) ts) (sym (tree_so ss behind f h))
    (numbered_list ss (paths_of f) (label_over f ss) ts (paths_full (tree_by ss) true Page 1 [] [] f.frames) (paths_counted ss behind f))))

-- ---- sources

abbrev AreFronts : (ℕ → List ℕ) → (ℕ → ItemTree) → List ℕ → List ℕ → List BlockSpot → Type 0
AreFronts F t [] front ss = Unit {0}
AreFronts F t (i ∷ is) front [] = Unit {0}
AreFronts F t (i ∷ is) front (s ∷ ss) =
    (F i ≡ front ++ s.before) × (source_at t i ≡ source_of s.block s.text) × AreFronts F t is ((front ++ s.before) ++ source_of s.block s.text) ss

fronts_moved : (F : ℕ → List ℕ) (t : ℕ → ItemTree) (is front : List ℕ) (ss : List BlockSpot) → AreFronts (λ i. F (suc i)) (λ i. t (suc i)) is front ss
    → AreFronts F t (map suc is) front ss
fronts_moved F t [] front ss h = tt
fronts_moved F t (i ∷ is) front [] h = tt
fronts_moved F t (i ∷ is) front (s ∷ ss) h = (h.0, h.1, fronts_moved F t is ((front ++ s.before) ++ source_of s.block s.text) ss h.2)

fronts_counted : (ss : List BlockSpot) (front : List ℕ) → AreFronts (front_of (fronts front ss)) (tree_by ss) (counted ss) front ss
fronts_counted [] front = tt
fronts_counted (s ∷ ss) front =
    let more : List ℕ = (front ++ s.before) ++ source_of s.block s.text in
    (refl, block_source s.block s.text, fronts_moved (front_of (fronts front (s ∷ ss))) (tree_by (s ∷ ss)) (counted ss) more ss (fronts_counted ss more))

fronts_at : (F : ℕ → List ℕ) (t : ℕ → ItemTree) (g : Gaps) (front : List ℕ) (ss : List BlockSpot) → AreSame g ss → AreFronts F t (numbers_in g) front ss
    → AtPlaces (λ xs i. F i ≡ xs) t front g
fronts_at F t (last_gap xs) front ss m h = tt
fronts_at F t (then_gap xs i g) front [] m h = absurd m
fronts_at F t (then_gap xs i g) front (s ∷ ss) m h =
    let here : front ++ s.before ≡ front ++ xs = ap (λ cs. front ++ cs) (sym m.0) in (
      h.0 ∙ here,
      subst (λ cs. AtPlaces (λ zs j. F j ≡ zs) t cs g) (ap₂ (λ cs ds. cs ++ ds) here (sym h.1))
          (fronts_at F t g ((front ++ s.before) ++ source_of s.block s.text) ss m.1 h.2),
    )

pub all_known : (ss : List BlockSpot) (behind : List ℕ) (f : Framed ss behind) → AreSpots ss behind
    → AllAt (IsKnown ss [] (own_numbers ss behind f)) (tree_by ss) 1 [] [] f.frames
all_known ss behind f h =
    let F : ℕ → List ℕ = front_of (fronts [] ss) in
    let t : ℕ → ItemTree = tree_by ss in
    let g : Gaps = gaps_of f.frames (last_gap []) in
    both_at (λ i m a. number_of (own_numbers ss behind f) i ≡ m) (λ i m a. F i ≡ sources a) t 1 [] [] f.frames (numbers_known ss behind f h)
    (items_at (λ xs i. F i ≡ xs) t 1 [] [] f.frames (last_gap [])
    (fronts_at F t g [] ss (gaps_so ss behind f h)
    (subst (λ is. AreFronts F t is [] ss) (sym (numbers_so ss behind f)) (fronts_counted ss []))))

-- ---- the place of one of them

same_moved : (t w : ℕ → ItemTree) (i : ℕ) (is : List ℕ) → AreSameBefore (λ j. t (suc j)) (λ j. w (suc j)) i is → AreSameBefore t w (suc i) (map suc is)
same_moved t w i [] h = tt
same_moved t w i (j ∷ js) (inl e) = inl (ap suc e)
same_moved t w i (j ∷ js) (inr h) = inr (h.0, same_moved t w i js h.1)

same_before : (front : List BlockSpot) (s : BlockSpot) (rest news : List BlockSpot)
    → AreSameBefore (tree_by (front ++ s ∷ rest)) (tree_by (front ++ s ∷ news)) (length front) (counted (front ++ s ∷ rest))
same_before [] s rest news = inl refl
same_before (r ∷ front) s rest news =
    inr (refl, same_moved (tree_by (r ∷ (front ++ s ∷ rest))) (tree_by (r ∷ (front ++ s ∷ news))) (length front) (counted (front ++ s ∷ rest)) (same_before front s rest news))

none_zero : (is : List ℕ) → IsNone zero (map suc is)
none_zero [] = tt
none_zero (i ∷ is) = (λ e. absurd (omega (arith, e)), none_zero is)

none_moved : (i : ℕ) (is : List ℕ) → IsNone i is → IsNone (suc i) (map suc is)
none_moved i [] h = tt
none_moved i (j ∷ js) h = (λ e. h.0 (omega (arith, e)), none_moved i js h.1)

once_moved : (i : ℕ) (is : List ℕ) → IsOnce i is → IsOnce (suc i) (map suc is)
once_moved i [] h = h
once_moved i (j ∷ js) (inl h) = inl (ap suc h.0, none_moved i js h.1)
once_moved i (j ∷ js) (inr h) = inr (λ e. h.0 (omega (arith, e)), once_moved i js h.1)

once_counted : (front : List BlockSpot) (s : BlockSpot) (rest : List BlockSpot) → IsOnce (length front) (counted (front ++ s ∷ rest))
once_counted [] s rest = inl (refl, none_zero (counted rest))
once_counted (r ∷ front) s rest = inr (λ e. absurd (omega (arith, e)), once_moved (length front) (counted (front ++ s ∷ rest)) (once_counted front s rest))

fits_so : (front : List ℕ) (n : ℕ) (k : TextBlock) (old new : List ℕ) (m : ℕ) (a : List Item) → n ≡ m → front ≡ sources a
    → FitsAt (replaced_at front n k old new) k old new m a
fits_so front n k old new m a e f =
    let size : length front ≡ length (sources a) = ap length f in
    record {
      number = e;
      old_end = ap (λ (x : ℕ). x + length (source_of k old)) size;
      new_end = ap (λ (x : ℕ). x + length (source_of k new)) size;
      old_last = ap (λ (x : ℕ). x + numbered_inside k old) e;
      new_last = ap (λ (x : ℕ). x + numbered_inside k new) e;
      inside = ap children (anywhere n m (page_items front) a (block_tree k new) e (ap length (page_sources front) ∙ size));
    }

pub edit_found : (ss : List BlockSpot) (behind : List ℕ) (f : Framed ss behind) → AreSpots ss behind → (before : List BlockSpot) (s : BlockSpot) (rest news : List BlockSpot)
    → ss ≡ before ++ s ∷ rest → (front : List ℕ) (n : ℕ) (old new : List ℕ) → number_of (own_numbers ss behind f) (length before) ≡ n
    → front_of (fronts [] ss) (length before) ≡ front
    → EditIn (FitsAt (replaced_at front n s.block old new) s.block old new) (tree_by (before ++ s ∷ news)) (length before) 1 [] [] f.frames
edit_found ss behind f h before s rest news is front n old new e d =
    let i : ℕ = length before in
    let w : ℕ → ItemTree = tree_by (before ++ s ∷ news) in
    let P : List ℕ → Type 0 = λ js. AreSameBefore (tree_by ss) w i js × IsOnce i js in
    let found : P (counted ss) =
    subst (λ xs. AreSameBefore (tree_by xs) w i (counted xs) × IsOnce i (counted xs)) (sym is) (same_before before s rest news, once_counted before s rest) in
    let at : P (all_places f.frames) = subst P (sym f.in_order) found in
    edit_in (FitsAt (replaced_at front n s.block old new) s.block old new) (IsKnown ss [] (own_numbers ss behind f)) (tree_by ss) w i
    (λ m a q. fits_so front n s.block old new m a (sym e ∙ q.0) (sym d ∙ q.1)) 1 [] [] f.frames (all_known ss behind f h) at.0 at.1
