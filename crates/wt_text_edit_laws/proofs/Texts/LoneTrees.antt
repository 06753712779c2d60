-- The tree of a page of such text.
use Rattle.std.proofs.Common.{arith, ◌≡◌, ℕ, ◌+◌, true, Some, None, List, [], ◌∷◌, ◌++◌, length, refl, sym, ap, ◌∙◌, subst, append-nil}
use Rattle.std.specs.List.{list_all, flat_map, AllByRecursion}
use Rattle.wt_tree.specs.declared.kind.Kind.{Kind}
use Rattle.wt_tree.specs.declared.kind.Kind.TheVariants as kind
use Rattle.wt_tree.specs.declared.kind.Mark.TheVariants as marks
use Rattle.wt_tree.specs.Kinds.{spelling}
use Rattle.wt_tree.specs.Tree.{Label, Tree, tree, none, more}
use Rattle.wt_span.specs.Items.{Item, sources}
use Rattle.wt_inline.specs.Carried.{shown_item}
use Rattle.wt_annotated.specs.Annotated.{annotated}
use Rattle.wt_annotated.specs.Clean.{is_page}
use Rattle.wt_annotated.specs.CutTexts.{HasCutTexts}
use Rattle.wt_annotated.specs.GroupData.{group_data}
use Rattle.wt_annotated.specs.Labels.{width, label_at}
use Rattle.wt_annotated.specs.Reached.{reached}
use Rattle.wt_annotated.specs.WithoutCalls.{annotated as annotated_plainly, IsPlain}
use Rattle.wt_annotated.proofs.AnnotatedTree.{without_calls_or_cuts}
use Rattle.wt_sections.specs.Sections.{with_sections}
use Rattle.wt_text_edit_laws.specs.LonePages.{page_chars, lone_body, whole_node, lone_page}

-- a node that holds these items
abbrev pub sized : Kind → ℕ → List Item → List ℕ → List ℕ → Label
sized k number xs own shown = record {
  kind = k;
  id = number;
  ranges = Some (record { start = 0; end = 0 + width xs; open_w = 0; close_w = 0 });
  opening = [];
  closing = [];
  own = own;
  shown = shown;
  attrs = [];
  origin = None;
  mark = marks.Nothing;
  mw = None;
}

-- by the items that the text, the paragraph and the body hold
abbrev made : List Item → List Item → List Item → List ℕ → Tree
made o p q shown =
    tree (sized kind.Body 0 q [] []) (more (tree (sized kind.Para 1 p [] []) (more (tree (sized kind.Text 0 o (sources o) shown) none) none)) none)

abbrev in_text : List Item → List Item
in_text xs = xs ++ []

abbrev in_para : List Item → List Item
in_para xs = (in_text xs ++ []) ++ []

abbrev in_body : List Item → List Item
in_body xs = (in_para xs ++ []) ++ []

para_is : (xs : List Item) → in_para xs ≡ xs
para_is xs = append-nil (in_text xs ++ []) ∙ append-nil (in_text xs) ∙ append-nil xs

body_is : (xs : List Item) → in_body xs ≡ xs
body_is xs = append-nil (in_para xs ++ []) ∙ append-nil (in_para xs) ∙ para_is xs

plainly : (xs : List Item) → annotated_plainly (lone_body xs) ≡ made (in_text xs) (in_para xs) (in_body xs) (flat_map shown_item xs)
unfolding annotated_plainly label_at
plainly xs = refl

all_of_page : (bs : List ℕ) → list_all is_page (page_chars bs) ≡ true
all_of_page [] = refl
all_of_page (b ∷ bs) = all_of_page bs

is_plain_tree : (b : ℕ) (bs : List ℕ) → IsPlain (lone_body (page_chars (b ∷ bs)))
is_plain_tree b bs = record {
  of_page = subst (λ xs. list_all is_page xs ≡ true) (sym (body_is (page_chars (b ∷ bs)))) (all_of_page (b ∷ bs));
  none_empty = (refl, (refl, tt, tt), tt);
}

stand_cut : (xs : List Item) → AllByRecursion HasCutTexts (reached (annotated_plainly (lone_body xs)))
stand_cut xs = subst (λ t. AllByRecursion HasCutTexts (reached t)) (sym (plainly xs)) (tt, (tt, (tt, tt)))

sources_are : (bs : List ℕ) → sources (page_chars bs) ≡ bs
sources_are [] = refl
sources_are (b ∷ bs) = ap (λ cs. b ∷ cs) (sources_are bs)

shown_are : (bs : List ℕ) → flat_map shown_item (page_chars bs) ≡ bs
shown_are [] = refl
shown_are (b ∷ bs) = ap (λ cs. b ∷ cs) (shown_are bs)

annotated_is : (b : ℕ) (bs : List ℕ) → annotated [] (group_data []) (lone_body (page_chars (b ∷ bs)))
    ≡ made (page_chars (b ∷ bs)) (page_chars (b ∷ bs)) (page_chars (b ∷ bs)) (b ∷ bs)
annotated_is b bs =
    let xs : List Item = page_chars (b ∷ bs) in
    let s : List ℕ = flat_map shown_item xs in
    without_calls_or_cuts [] (group_data []) (lone_body xs) (is_plain_tree b bs) (stand_cut xs) ∙ plainly xs
    ∙ ap (λ o. made o (in_para xs) (in_body xs) s) (append-nil xs)
    ∙ ap (λ p. made xs p (in_body xs) s) (para_is xs)
    ∙ ap (λ q. made xs xs q s) (body_is xs)
    ∙ ap (made xs xs xs) (shown_are (b ∷ bs))

-- ---- in sections

-- by its size and the text's source
abbrev lone_of : ℕ → List ℕ → List ℕ → Tree
lone_of size own shown =
    whole_node kind.Body 0 size (whole_node (kind.Section 0) 0 size (whole_node kind.Para 1 size
    (tree (record {
      kind = kind.Text;
      id = 0;
      ranges = Some (record { start = 0; end = size; open_w = 0; close_w = 0 });
      opening = [];
      closing = [];
      own = own;
      shown = shown;
      attrs = [];
      origin = None;
      mark = marks.Nothing;
      mw = None;
    }) none)))

in_sections : (xs : List Item) (shown : List ℕ) → with_sections (made xs xs xs shown) ≡ lone_of (0 + width xs) (sources xs) shown
unfolding spelling
in_sections xs shown = refl

size_is : (bs : List ℕ) → 0 + width (page_chars bs) ≡ length bs
size_is bs = ap (λ cs. 0 + length cs) (sources_are bs) ∙ omega arith

pub lone_tree : (b : ℕ) (bs : List ℕ) → with_sections (annotated [] (group_data []) (lone_body (page_chars (b ∷ bs)))) ≡ lone_page (b ∷ bs)
lone_tree b bs =
    let xs : List Item = page_chars (b ∷ bs) in
    ap with_sections (annotated_is b bs) ∙ in_sections xs (b ∷ bs)
    ∙ ap (λ n. lone_of n (sources xs) (b ∷ bs)) (size_is (b ∷ bs))
    ∙ ap (λ o. lone_of (length (b ∷ bs)) o (b ∷ bs)) (sources_are (b ∷ bs))
