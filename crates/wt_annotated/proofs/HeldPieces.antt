-- Pieces of trees.
use Rattle.std.proofs.Common.{◌≡◌, ℕ, ◌+◌, ◌<◌, ◌≤◌, List, [], ◌∷◌, ◌++◌, length, map, take, get_or, refl, sym, ap, ◌∙◌, append-nil}
use Rattle.std.specs.List.{flat_map}
use Rattle.std.proofs.lemmas.Grind.{flat_map-append}
use Rattle.std.proofs.lemmas.List.{take_more}
use Rattle.wt_span.specs.declared.form.ItemForm.{ItemForm}
use Rattle.wt_span.specs.declared.form.ItemForm.TheVariants as form
use Rattle.wt_span.specs.declared.form.Piece.{Piece}
use Rattle.wt_span.specs.declared.text.Text.{Text}
use Rattle.wt_span.specs.Slice.{bytes_of}
use Rattle.wt_span.specs.Items.{Item, char, source, sources, items_by, call_of_origin, items_of, items}
use Rattle.std.specs.Prelude.{Option}
use Rattle.wt_tree.specs.View.{texts_of}
use Rattle.wt_inline.specs.ItemTree.{ItemTree, inner, forest, tree_items, held_by_all}
use Rattle.wt_inline.specs.View.{head_of, view_step, item_tree, item_trees}
use Rattle.wt_inline.specs.declared.tree.PieceTree.{PieceTree, out-PieceTree, fold_out-PieceTree}
use Rattle.wt_annotated.proofs.PieceWalks.{items_more, only_piece}

-- ---- their texts

sources_append : (xs ys : List Item) → sources (xs ++ ys) ≡ sources xs ++ sources ys
sources_append xs ys = flat_map-append source xs ys

sources_chars : (o : Option ℕ) (bs : List ℕ) → sources (map (char o) bs) ≡ bs
sources_chars o [] = refl
sources_chars o (b ∷ bs) = ap (λ cs. b ∷ cs) (sources_chars o bs)

sources_by : (f : ItemForm) (o : Option ℕ) (bs : List ℕ) → sources (items_by f o bs) ≡ bs
sources_by form.Chars o bs = sources_chars o bs
sources_by (form.Entity c) o bs = append-nil bs
sources_by form.Nowiki o bs = append-nil bs
sources_by form.Extension o bs = append-nil bs
sources_by form.Function o bs = append-nil bs
sources_by form.Comment o bs = append-nil bs
sources_by form.Include o bs = append-nil bs
sources_by form.Hidden o bs = append-nil bs
sources_by form.EmptyCall o bs = append-nil bs

-- the items of a piece have its text as source
pub sources_piece : (p : Piece) → sources (items_of p) ≡ bytes_of p.text
sources_piece p = sources_by p.form (call_of_origin p.origin) (bytes_of p.text)

-- the only one of these pieces has their source
pub only_source : (ps : List Piece) (p : Piece) → 1 ≤ length ps → length ps < 2 → p ≡ get_or ps 0 p → texts_of (p.text ∷ []) ≡ sources (items ps)
only_source ps p l m e = append-nil (bytes_of p.text) ∙ sym (sources_piece p) ∙ ap sources (only_piece ps p l m e)

texts_more : (ts : List Text) (t : Text) → texts_of (ts ++ t ∷ []) ≡ texts_of ts ++ bytes_of t
texts_more ts t = flat_map-append bytes_of ts (t ∷ []) ∙ ap (λ xs. texts_of ts ++ xs) (append-nil (bytes_of t))

pub texts_step : (ts us : List Text) (ps : List Piece) (at : ℕ) (p : Piece) → at < length ps → p ≡ get_or ps at p
    → texts_of ts ≡ sources (items (take at ps)) → us ≡ ts ++ p.text ∷ [] → texts_of us ≡ sources (items (take (at + 1) ps))
texts_step ts us ps at p l i e f =
    ap texts_of f
    ∙ texts_more ts p.text
    ∙ ap (λ bs. bs ++ bytes_of p.text) e
    ∙ ap (λ bs. sources (items (take at ps)) ++ bs) (sym (sources_piece p))
    ∙ sym (sources_append (items (take at ps)) (items_of p))
    ∙ ap sources (sym (items_more (take at ps) p))
    ∙ ap (λ q. sources (items (take at ps ++ q ∷ []))) i
    ∙ ap (λ qs. sources (items qs)) (sym (take_more ps at p l))

-- ---- a tree

pub item_tree_out : (n : PieceTree)
    → item_tree n ≡ inner (head_of (out-PieceTree n).head) (items (out-PieceTree n).opening) (forest (item_trees (out-PieceTree n).children))
    (items (out-PieceTree n).closing)
item_tree_out n = fold_out-PieceTree ItemTree view_step n

pub held_list : (ns : List PieceTree) → held_by_all (forest (item_trees ns)) ≡ flat_map (λ n. tree_items (item_tree n)) ns
held_list [] = refl
held_list (n ∷ ns) = ap (λ xs. tree_items (item_tree n) ++ xs) (held_list ns)

pub held_out : (n : PieceTree)
    → tree_items (item_tree n) ≡ items (out-PieceTree n).opening
    ++ (flat_map (λ m. tree_items (item_tree m)) (out-PieceTree n).children ++ items (out-PieceTree n).closing)
held_out n =
    ap tree_items (item_tree_out n)
    ∙ ap (λ xs. items (out-PieceTree n).opening ++ (xs ++ items (out-PieceTree n).closing)) (held_list (out-PieceTree n).children)
