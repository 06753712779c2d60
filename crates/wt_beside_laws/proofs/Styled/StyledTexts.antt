-- The texts of a block with styles show UTF-8, those in its styles, too.
use Rattle.std.proofs.Common.{◌≡◌, ℕ, suc, ◌+◌, Bool, true, false, List, [], ◌∷◌, ◌++◌, refl, sym, ap, ◌∙◌, subst}
use Rattle.std.specs.Prelude.{if◌then◌else◌}
use Rattle.std.specs.Str.{IsUtf8}
use Rattle.wt_span.specs.Items.{Item}
use Rattle.wt_tree.specs.declared.kind.Kind.{Kind}
use Rattle.wt_tree.specs.declared.kind.Kind.TheVariants as kind
use Rattle.wt_tree.specs.Kinds.{is_leaf, showing, texts_of_kind, writing}
use Rattle.wt_tree.specs.Tiling.{is_group}
use Rattle.wt_tree.specs.Tree.{Label, Tree, tree, Trees, none, more}
use Rattle.wt_inline.specs.ItemTree.{ItemTree, inner, ItemTrees, nothing, further, forest, tree_items}
use Rattle.wt_inline.specs.Parts.{children}
use Rattle.wt_expand.specs.PageItems.{page_items}
use Rattle.wt_annotated.specs.Annotated.{unplaced, all_unplaced}
use Rattle.wt_annotated.specs.CutTexts.{cut_as, cut_texts, all_cut_texts}
use Rattle.wt_annotated.specs.Labels.{label_at}
use Rattle.wt_annotated.specs.Numbering.{number_of, with_id, count, next_after, with_numbers, all_with_numbers}
use Rattle.wt_annotated.specs.WithoutCalls.{inside_by, placed, all_placed}
use Rattle.wt_schema.specs.Written.{is_childless}
use Rattle.wt_page_round_trip.proofs.Shown.{text_shown}
use Rattle.wt_page_round_trip.proofs.ShownNodes.{NodeIsShown, IsOrdered, IsShownIn, AreShownIn}
use Rattle.wt_text_edit_laws.specs.Contents.{IsContentOf, content_parts_of}
use Rattle.wt_text_edit_laws.specs.NoCalls.{CallsNothing}
use Rattle.wt_text_edit_laws.specs.TextBlocks.{TextBlock, a_paragraph, a_heading, source_of, block_items, block_tree}
use Rattle.wt_beside_laws.proofs.Made.OwnPages.{block_shown}
use Rattle.wt_beside_laws.proofs.PartThings.{nodes_of}

-- ---- texts that are UTF-8, in styles, too

abbrev pub TextsOf : Kind → Label → Type 0 → Type 0
TextsOf kind.Text l inside = IsUtf8 l.shown
TextsOf kind.Bold l inside = inside
TextsOf kind.Italic l inside = inside
TextsOf k l inside = Unit {0}

abbrev mutual
  pub HasTexts : Tree → Type 0
  HasTexts (tree l ts) = TextsOf l.kind l (HaveTexts ts)

  pub HaveTexts : Trees → Type 0
  HaveTexts none = Unit {0}
  HaveTexts (more t ts) = HasTexts t × HaveTexts ts

-- with the same text, and other children
texts_map : (k : Kind) (l m : Label) (us vs : Trees) → l.shown ≡ m.shown → (HaveTexts us → HaveTexts vs) → TextsOf k l (HaveTexts us) → TextsOf k m (HaveTexts vs)
texts_map kind.Text l m us vs e f h = subst IsUtf8 e h
texts_map kind.Bold l m us vs e f h = f h
texts_map kind.Italic l m us vs e f h = f h
texts_map k l m us vs e f h = tt

-- ---- of nodes that are shown

texts_by : (j k : ℕ) (i : Kind) (q : Kind) (l : Label) (ts : Trees) (childless : Bool) → i ≡ l.kind
    → NodeIsShown (writing i) k q l childless (IsOrdered (texts_of_kind l.kind) ts × AreShownIn j l.kind ts) → (AreShownIn j l.kind ts → HaveTexts ts)
    → TextsOf i l (HaveTexts ts)
texts_by j k kind.Text q l ts childless e h f = (text_shown q l h.0 (ap showing (sym e))).1
texts_by j k kind.Bold q l ts childless e h f = f h.4.1
texts_by j k kind.Italic q l ts childless e h f = f h.4.1
texts_by j k i q l ts childless e h f = tt

mutual
  shown_texts : (k : ℕ) (q : Kind) (t : Tree) → IsShownIn k q t → HasTexts t
  shown_texts k q (tree l ts) h = texts_by (suc k) k l.kind q l ts (is_childless ts) refl h (λ w. all_shown_texts (suc k) l.kind ts w)

  all_shown_texts : (k : ℕ) (q : Kind) (ts : Trees) → AreShownIn k q ts → HaveTexts ts
  all_shown_texts k q none h = tt
  all_shown_texts k q (more t ts) h = (shown_texts k q t h.0, all_shown_texts k q ts h.1)

-- ---- wherever they are

inside_texts : (leaf : Bool) (us vs : Trees) → (HaveTexts us → HaveTexts vs) → HaveTexts (inside_by leaf us) → HaveTexts (inside_by leaf vs)
inside_texts true us vs f h = tt
inside_texts false us vs f h = f h

mutual
  unfolding label_at

  placed_texts : (before : List Item) (t : ItemTree) → HasTexts (unplaced t) → HasTexts (placed before t)
  placed_texts before (inner h o ts c) k =
      texts_map h.kind _ _ (inside_by (is_leaf h.kind) (all_unplaced ts)) (inside_by (is_leaf h.kind) (all_placed (before ++ o) ts)) refl
      (λ w. inside_texts (is_leaf h.kind) (all_unplaced ts) (all_placed (before ++ o) ts) (λ v. all_placed_texts (before ++ o) ts v) w) k

  all_placed_texts : (before : List Item) (ts : ItemTrees) → HaveTexts (all_unplaced ts) → HaveTexts (all_placed before ts)
  all_placed_texts before nothing h = tt
  all_placed_texts before (further t ts) h = (placed_texts before t h.0, all_placed_texts (before ++ tree_items t) ts h.1)

either_texts : (b : Bool) (ts us : Trees) → (HaveTexts ts → HaveTexts us) → HaveTexts ts → HaveTexts (if b then ts else us)
either_texts true ts us f h = h
either_texts false ts us f h = f h

mutual
  numbered_texts : (n : ℕ) (t : Tree) → HasTexts t → HasTexts (with_numbers n t)
  numbered_texts n (tree l ts) h =
      texts_map l.kind l (with_id (number_of l.kind n) l) ts (if is_group l.kind then ts else all_with_numbers (next_after l.kind n) ts) refl
      (λ w. either_texts (is_group l.kind) ts (all_with_numbers (next_after l.kind n) ts) (λ v. all_numbered_texts (next_after l.kind n) ts v) w) h

  all_numbered_texts : (n : ℕ) (ts : Trees) → HaveTexts ts → HaveTexts (all_with_numbers n ts)
  all_numbered_texts n none h = tt
  all_numbered_texts n (more t ts) h = (numbered_texts n t h.0, all_numbered_texts (n + count t) ts h.1)

-- the texts in a style aren't cut
cut_by : (k : Kind) (l : Label) (ts : Trees) → (HaveTexts ts → HaveTexts (all_cut_texts ts)) → TextsOf k l (HaveTexts ts)
    → TextsOf k l (HaveTexts (if is_group k then ts else cut_as (texts_of_kind k) (all_cut_texts ts)))
cut_by kind.Text l ts f h = h
cut_by kind.Bold l ts f h = f h
cut_by kind.Italic l ts f h = f h
cut_by k l ts f h = tt

mutual
  cut_have : (t : Tree) → HasTexts t → HasTexts (cut_texts t)
  cut_have (tree l ts) h = cut_by l.kind l ts (λ w. all_cut_have ts w) h

  all_cut_have : (ts : Trees) → HaveTexts ts → HaveTexts (all_cut_texts ts)
  all_cut_have none h = tt
  all_cut_have (more t ts) h = (cut_have t h.0, all_cut_have ts h.1)

nodes_have : (n : ℕ) (before : List Item) (ts : ItemTrees) → HaveTexts (all_unplaced ts) → HaveTexts (nodes_of n before ts)
nodes_have n before ts h =
    all_cut_have (all_with_numbers n (all_placed before ts)) (all_numbered_texts n (all_placed before ts) (all_placed_texts before ts h))

-- ---- of a block

inside_shown : (k : TextBlock) (q : List ℕ) → IsShownIn 9 kind.Body (unplaced (block_tree k q)) → HaveTexts (all_unplaced (forest (children (content_parts_of k (page_items q)))))
unfolding label_at
inside_shown a_paragraph q h = all_shown_texts 10 kind.Para (all_unplaced (forest (children (content_parts_of a_paragraph (page_items q))))) h.4.1
inside_shown (a_heading s) q h = all_shown_texts 10 (kind.Heading s.level) (all_unplaced (forest (children (content_parts_of (a_heading s) (page_items q))))) h.4.1

own_texts : (k : TextBlock) (q : List ℕ) → IsUtf8 q → IsContentOf k q → page_items (source_of k q) ≡ block_items k q → CallsNothing (block_items k q)
    → HaveTexts (all_unplaced (forest (children (content_parts_of k (page_items q)))))
own_texts k q u h e c = inside_shown k q (block_shown k q u h e c)

pub block_texts : (k : TextBlock) (q : List ℕ) (n : ℕ) (before : List Item) → IsUtf8 q → IsContentOf k q → page_items (source_of k q) ≡ block_items k q
    → CallsNothing (block_items k q) → HaveTexts (nodes_of n before (forest (children (content_parts_of k (page_items q)))))
block_texts k q n before u h e c = nodes_have n before (forest (children (content_parts_of k (page_items q)))) (own_texts k q u h e c)
