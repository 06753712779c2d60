-- In a page in which no node can only be kept as a whole, all in a block is the page's own, and each node in it has an item.
use Rattle.std.proofs.Common.{◌≡◌, ℕ, Bool, true, false, List, [], ◌∷◌, ◌++◌, refl, sym, ap, ◌∙◌, subst, append_assoc}
use Rattle.std.specs.Prelude.{◌||◌}
use Rattle.std.specs.Str.{IsUtf8}
use Rattle.std.specs.List.{list_all, list_any}
use Rattle.wt_span.specs.Items.{Item}
use Rattle.wt_tree.specs.Kinds.{is_leaf, is_section}
use Rattle.wt_tree.specs.Tiling.{HasNoGroup}
use Rattle.wt_tree.specs.Tree.{Trees}
use Rattle.wt_inline.specs.ItemTree.{ItemTree, inner, ItemTrees, nothing, further, forest, tree_items, held_by_all}
use Rattle.wt_inline.specs.Parts.{children}
use Rattle.wt_page.specs.Body.{meaning}
use Rattle.wt_annotated.specs.Annotated.{unplaced, all_unplaced, annotated}
use Rattle.wt_annotated.specs.Clean.{is_page, is_body}
use Rattle.wt_annotated.specs.GroupData.{group_data}
use Rattle.wt_annotated.specs.Labels.{label_at}
use Rattle.wt_annotated.specs.WithoutCalls.{inside_by, holds_page, InsideOf, NoneEmpty, AllNonEmpty, IsPlain}
use Rattle.wt_annotated.proofs.NoGroups.{only_plain}
use Rattle.wt_expand.specs.PageItems.{page_items}
use Rattle.wt_part_laws.specs.Standing.{IsOrdinary, AreOrdinary}
use Rattle.wt_part_laws.specs.Rounded.{HasItems, AllHaveItems}
use Rattle.wt_text_edit_laws.specs.Contents.{IsContentOf, content_parts_of}
use Rattle.wt_text_edit_laws.specs.NoCalls.{CallsNothing}
use Rattle.wt_text_edit_laws.specs.Parts.{HasNoGroups}
use Rattle.wt_text_edit_laws.specs.ParagraphBetween.{body_with}
use Rattle.wt_text_edit_laws.specs.TextBlocks.{TextBlock, a_paragraph, a_heading, source_of, block_items, block_tree}
use Rattle.wt_text_edit_laws.specs.LonePages.{page_chars}
use Rattle.wt_text_edit_laws.specs.TypedHeadings.{opening, closing_items}
use Rattle.wt_text_edit_laws.proofs.Blocks.PageItems.{all_of}
use Rattle.wt_beside_laws.proofs.Made.OwnPages.{content_ordinary}

-- ---- a node that is no body, and holds something of the page

or_second : (u v : Bool) → (u || v) ≡ true → u ≡ false → v ≡ true
or_second true v e f = absurd (cc)
or_second false v e f = e

or_none : (u v : Bool) → (u || v) ≡ false → u ≡ false
or_none true v e = e
or_none false v e = refl

inside_with : (v : Bool) (ts : Trees) (A B : Type 0) → (AreOrdinary ts → A → B) → AreOrdinary (inside_by v ts) → InsideOf v A → InsideOf v B
inside_with true ts A B f k n = tt
inside_with false ts A B f k n = f k n

mutual
  unfolding label_at

  has_items : (t : ItemTree) → IsOrdinary (unplaced t) → holds_page t ≡ true → NoneEmpty t → HasItems t
  has_items (inner h o ts c) k p n = (
    or_second (is_body h.kind) (list_any is_page (o ++ (held_by_all ts ++ c))) p (or_none (is_body h.kind) (is_section h.kind) k.0),
    inside_with (is_leaf h.kind) (all_unplaced ts) (AllNonEmpty ts) (AllHaveItems ts) (λ j m. all_have ts j m) k.2 n,
  )

  all_have : (ts : ItemTrees) → AreOrdinary (all_unplaced ts) → AllNonEmpty ts → AllHaveItems ts
  all_have nothing k n = tt
  all_have (further t ts) k n = (has_items t k.0 n.0 n.1, all_have ts k.1 n.2)

-- ---- a block

pub record NodesHave (k : TextBlock) (q : List ℕ) : Type 0 where
  pub of_page : list_all is_page (held_by_all (forest (children (content_parts_of k (page_items q))))) ≡ true
  pub has_items : AllHaveItems (forest (children (content_parts_of k (page_items q))))

-- what is in the tree of a block
abbrev inside_of : TextBlock → List ℕ → ItemTrees
inside_of k q = forest (children (content_parts_of k (page_items q)))

inside_page : (k : TextBlock) (q : List ℕ) → list_all is_page (tree_items (block_tree k q)) ≡ true → list_all is_page (held_by_all (inside_of k q)) ≡ true
inside_page a_paragraph q e = (all_of (held_by_all (inside_of a_paragraph q)) [] e).0
inside_page (a_heading s) q e =
    let own : List Item = held_by_all (inside_of (a_heading s) q) in
    (all_of own (closing_items s) (all_of (page_chars (opening s)) (own ++ closing_items s) e).1).0

inside_full : (k : TextBlock) (q : List ℕ) → NoneEmpty (block_tree k q) → AllNonEmpty (inside_of k q)
inside_full a_paragraph q n = n
inside_full (a_heading s) q n = n

inside_ordinary : (k : TextBlock) (q : List ℕ) → IsOrdinary (unplaced (block_tree k q)) → AreOrdinary (all_unplaced (inside_of k q))
unfolding label_at
inside_ordinary a_paragraph q n = n.2
inside_ordinary (a_heading s) q n = n.2

-- where it isn't empty, nor is a node in it
pub full_nodes : (k : TextBlock) (q : List ℕ) → IsUtf8 q → IsContentOf k q → page_items (source_of k q) ≡ block_items k q → CallsNothing (block_items k q)
    → NoneEmpty (block_tree k q) → AllHaveItems (inside_of k q)
full_nodes k q u h e c n = all_have (inside_of k q) (inside_ordinary k q (content_ordinary k q u h e c)) (inside_full k q n)

-- ---- as a child of the body of a page

held_joined : (us : List ItemTree) (t : ItemTree) (vs : List ItemTree)
    → held_by_all (forest (us ++ t ∷ vs)) ≡ held_by_all (forest us) ++ (tree_items t ++ held_by_all (forest vs))
held_joined [] t vs = refl
held_joined (u ∷ us) t vs =
    ap (λ (xs : List Item). tree_items u ++ xs) (held_joined us t vs)
    ∙ sym (append_assoc (tree_items u) (held_by_all (forest us)) (tree_items t ++ held_by_all (forest vs)))

full_at : (us : List ItemTree) (t : ItemTree) (vs : List ItemTree) → AllNonEmpty (forest (us ++ t ∷ vs)) → NoneEmpty t
full_at [] t vs h = h.1
full_at (u ∷ us) t vs h = full_at us t vs h.2

pub child_nodes_have : (k : TextBlock) (q page : List ℕ) (us vs : List ItemTree) → IsUtf8 q → IsContentOf k q → page_items (source_of k q) ≡ block_items k q
    → CallsNothing (block_items k q) → HasNoGroups page → meaning (page_items page) ≡ body_with (us ++ block_tree k q ∷ vs) → NodesHave k q
child_nodes_have k q page us vs u h e c g is =
    let t : ItemTree = block_tree k q in
    let all : ItemTrees = forest (us ++ t ∷ vs) in
    let plain : IsPlain (body_with (us ++ t ∷ vs)) =
    only_plain [] (group_data []) all (subst (λ (b : ItemTree). HasNoGroup (annotated [] (group_data []) b)) is g) in
    let held : list_all is_page (held_by_all all) ≡ true = (all_of (held_by_all all) [] plain.of_page).0 in
    let rest = (all_of (held_by_all (forest us)) (tree_items t ++ held_by_all (forest vs)) (sym (ap (list_all is_page) (held_joined us t vs)) ∙ held)).1 in
    record {
      of_page = inside_page k q (all_of (tree_items t) (held_by_all (forest vs)) rest).0;
      has_items = full_nodes k q u h e c (full_at us t vs plain.none_empty);
    }
