-- What the page of a typed text shows: one paragraph, and in it the text.
use Rattle.std.proofs.Common.{◌≡◌, ℕ, ◌+◌, Bool, true, false, Some, None, List, [], ◌∷◌, ◌++◌, map, refl, sym, ap, ◌∙◌, append_assoc, append-nil}
use Rattle.std.specs.Prelude.{◌&&◌, encode_utf8}
use Rattle.std.specs.List.{list_all, flat_map}
use Rattle.wt_tree.specs.declared.kind.Kind.TheVariants as kind
use Rattle.wt_tree.specs.Plain.{text, element, Plains, ended, along, text_before, plains_before}
use Rattle.wt_tree.specs.Tree.{Tree, tree}
use Rattle.wt_span.specs.Items.{Item, char, whole}
use Rattle.wt_guards.specs.Guards.{nowiki}
use Rattle.wt_inline.specs.Carried.{shown_item}
use Rattle.wt_inline.specs.ItemTree.{plain, ItemTree, inner, nothing, further, forest, tree_items, held_by_all}
use Rattle.wt_annotated.specs.Annotated.{annotated}
use Rattle.wt_annotated.specs.Clean.{is_page}
use Rattle.wt_annotated.specs.CutTexts.{cut_texts, all_cut_texts}
use Rattle.wt_annotated.specs.GroupData.{group_data}
use Rattle.wt_annotated.specs.Labels.{label_at}
use Rattle.wt_annotated.specs.Numbering.{count, all_with_numbers}
use Rattle.wt_annotated.specs.WithoutCalls.{annotated as annotated_plainly, placed, all_placed, AllNonEmpty, IsPlain}
use Rattle.wt_annotated.proofs.AnnotatedTree.{without_calls}
use Rattle.wt_sections.specs.Sections.{with_sections}
use Rattle.wt_sections.proofs.Kept.{plains_stay}
use Rattle.wt_visible.specs.Children.{listed, shown_children}
use Rattle.wt_text_edit_laws.specs.LonePages.{page_chars, page_of, one_shown}
use Rattle.wt_text_edit_laws.proofs.Texts.TypedLeaves.{AreOwn, Leaf, letters, reference, guard, leaves, HasAny, leaf_shown, leaves_shown, leaf_tree, leaves_para, para_leaves}

-- ---- text before text

text_twice : (bs cs : List ℕ) (ps : Plains) → text_before bs (text_before cs ps) ≡ text_before (bs ++ cs) ps
text_twice [] cs ps = refl
text_twice (b ∷ bs) [] ps = ap (λ (xs : List ℕ). text_before (b ∷ xs) ps) (sym (append-nil bs))
text_twice (b ∷ bs) (c ∷ cs) ended = refl
text_twice (b ∷ bs) (c ∷ cs) (along (text ds) ps) = ap (λ xs. along (text (b ∷ xs)) ps) (sym (append_assoc bs (c ∷ cs) ds))
text_twice (b ∷ bs) (c ∷ cs) (along (element f qs) ps) = refl

shown_chars : (bs : List ℕ) → flat_map shown_item (page_chars bs) ≡ bs
shown_chars [] = refl
shown_chars (b ∷ bs) = ap (λ cs. b ∷ cs) (shown_chars bs)

-- ---- the leaves, wherever they stand and whatever their numbers

pub leaves_show : (n : ℕ) (before : List Item) (ls : List Leaf) (rest : Plains)
    → plains_before (all_cut_texts (all_with_numbers n (all_placed before (forest (map leaf_tree ls))))) rest ≡ text_before (flat_map leaf_shown ls) rest
unfolding label_at
leaves_show n before [] rest = refl
leaves_show n before (letters b bs ∷ ls) rest =
    let t : ItemTree = leaf_tree (letters b bs) in
    let m : ℕ = n + count (placed before t) in
    let us : Plains = plains_before (all_cut_texts (all_with_numbers m (all_placed (before ++ tree_items t) (forest (map leaf_tree ls))))) rest in
    ap (λ cs. text_before cs us) (shown_chars (b ∷ bs))
    ∙ ap (text_before (b ∷ bs)) (leaves_show m (before ++ tree_items t) ls rest)
    ∙ text_twice (b ∷ bs) (flat_map leaf_shown ls) rest
leaves_show n before (reference c bs ∷ ls) rest =
    let t : ItemTree = leaf_tree (reference c bs) in
    ap (text_before (encode_utf8 c)) (leaves_show (n + count (placed before t)) (before ++ tree_items t) ls rest)
    ∙ text_twice (encode_utf8 c) (flat_map leaf_shown ls) rest
leaves_show n before (guard ∷ ls) rest =
    let t : ItemTree = leaf_tree guard in
    leaves_show (n + count (placed before t)) (before ++ tree_items t) ls rest

-- ---- all items are of the page, and no node is empty

abbrev pub AllOfPage : List Item → Type 0
AllOfPage xs = list_all is_page xs ≡ true

and_true : (a b : Bool) → a ≡ true → b ≡ true → (a && b) ≡ true
and_true true b e f = f
and_true false b e f = cc

pub both_of_page : (xs ys : List Item) → AllOfPage xs → AllOfPage ys → AllOfPage (xs ++ ys)
both_of_page [] ys h k = k
both_of_page (char None b ∷ xs) ys h k = both_of_page xs ys h k
both_of_page (char (Some j) b ∷ xs) ys h k = cc
both_of_page (whole f None bs ∷ xs) ys h k = both_of_page xs ys h k
both_of_page (whole f (Some j) bs ∷ xs) ys h k = cc

pub chars_of_page : (bs : List ℕ) → AllOfPage (page_chars bs)
chars_of_page [] = refl
chars_of_page (b ∷ bs) = chars_of_page bs

leaf_of_page : (l : Leaf) → AllOfPage (tree_items (leaf_tree l))
unfolding nowiki
leaf_of_page (letters b bs) = both_of_page (page_chars (b ∷ bs)) [] (chars_of_page (b ∷ bs)) refl
leaf_of_page (reference c bs) = refl
leaf_of_page guard = refl

pub leaves_of_page : (ls : List Leaf) → AllOfPage (held_by_all (forest (map leaf_tree ls)))
leaves_of_page [] = refl
leaves_of_page (l ∷ ls) =
    both_of_page (tree_items (leaf_tree l)) (held_by_all (forest (map leaf_tree ls))) (leaf_of_page l) (leaves_of_page ls)

pub none_empty : (ls : List Leaf) → AllNonEmpty (forest (map leaf_tree ls))
unfolding nowiki
none_empty [] = tt
none_empty (letters b bs ∷ ls) = (refl, tt, none_empty ls)
none_empty (reference c bs ∷ ls) = (refl, tt, none_empty ls)
none_empty (guard ∷ ls) = (refl, tt, none_empty ls)

abbrev pub body_of : List Leaf → ItemTree
body_of ls = inner (plain kind.Body) [] (further (leaves_para ls) nothing) []

body_of_page : (ls : List Leaf) → AllOfPage (tree_items (body_of ls))
body_of_page ls =
    let xs : List Item = held_by_all (forest (map leaf_tree ls)) in
    both_of_page ((xs ++ []) ++ []) [] (both_of_page (xs ++ []) [] (both_of_page xs [] (leaves_of_page ls) refl) refl) refl

pub is_plain_page : (ls : List Leaf) → HasAny ls → IsPlain (body_of ls)
unfolding nowiki
is_plain_page [] h = absurd h
is_plain_page (letters b bs ∷ ls) h = record { of_page = body_of_page (letters b bs ∷ ls); none_empty = (refl, none_empty (letters b bs ∷ ls), tt) }
is_plain_page (reference c bs ∷ ls) h = record { of_page = body_of_page (reference c bs ∷ ls); none_empty = (refl, none_empty (reference c bs ∷ ls), tt) }
is_plain_page (guard ∷ ls) h = record { of_page = body_of_page (guard ∷ ls); none_empty = (refl, none_empty (guard ∷ ls), tt) }

-- ---- the page

body_shows : (ls : List Leaf) → shown_children (cut_texts (annotated_plainly (body_of ls))) ≡ one_shown (flat_map leaf_shown ls)
unfolding annotated_plainly label_at
body_shows ls = ap (λ ps. element (record { kind = kind.Para; attrs = []; mw = None }) ps ∷ []) (leaves_show 2 [] ls ended)

-- with its sections a body shows what it shows without
pub gathered_shows : (t : Tree) → shown_children (with_sections t) ≡ shown_children t
gathered_shows (tree l ts) = ap listed (plains_stay ts ended)

pub page_shows : (xs : List Item) → AreOwn xs → HasAny (leaves xs)
    → shown_children (with_sections (annotated [] (group_data []) (page_of xs))) ≡ one_shown (flat_map shown_item xs)
page_shows xs h a =
    gathered_shows (annotated [] (group_data []) (page_of xs))
    ∙ ap (λ t. shown_children (annotated [] (group_data []) (inner (plain kind.Body) [] (further t nothing) []))) (para_leaves xs h)
    ∙ ap shown_children (without_calls [] (group_data []) (body_of (leaves xs)) (is_plain_page (leaves xs) a))
    ∙ body_shows (leaves xs)
    ∙ ap one_shown (leaves_shown xs h)
