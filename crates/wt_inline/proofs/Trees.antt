-- Nodes of pieces, as trees over items.
use Rattle.std.proofs.Common.{◌≡◌, ℕ, ◌+◌, ◌<◌, Bool, true, false, Option, List, [], ◌∷◌, ◌++◌, length, take, map, get_or, refl, sym, ap, ◌∙◌, append-nil, append_assoc, arith}
use Rattle.std.proofs.lemmas.List.{map-append, take_more, nil_from_length}
use Rattle.std.specs.Prelude.{◌==◌}
use Rattle.std.proofs.lemmas.Bool.Decides.{nat_tests}
use Rattle.std.proofs.lemmas.Grind.{flat_map-append}
use Rattle.wt_span.specs.declared.form.Piece.{Piece}
use Rattle.wt_span.specs.declared.form.ItemForm.{ItemForm}
use Rattle.wt_span.specs.declared.form.ItemForm.TheVariants as form
use Rattle.wt_span.specs.Items.{Item, char, items, items_of, items_by}
use Rattle.wt_lines.specs.Pieces.{is_chars}
use Rattle.wt_inline.specs.declared.loose.Loose.{Loose}
use Rattle.wt_inline.specs.declared.loose.Loose.TheVariants.{Text}
use Rattle.wt_inline.specs.Inside.{inside_items}
use Rattle.wt_inline.specs.Parts.{Part, loose, node, children, inside_part, form_head, whole_tree, part, parts}
use Rattle.wt_inline.specs.Grown.{Grown, Grows, made}
use Rattle.wt_inline.proofs.Growing.{grows_both}
use Rattle.wt_inline.specs.declared.tree.PieceTree.{PieceTree}
use Rattle.wt_inline.specs.ItemTree.{ItemTree, leaf}
use Rattle.wt_inline.specs.View.{item_tree, item_trees}

pub pushed : (ns ms : List PieceTree) (n : PieceTree) → ms ≡ ns ++ n ∷ [] → item_trees ms ≡ item_trees ns ++ item_tree n ∷ []
pushed ns ms n e = ap item_trees e ∙ map-append item_tree ns (n ∷ [])

pub items_more : (ps qs : List Piece) (p : Piece) → qs ≡ ps ++ p ∷ [] → items qs ≡ items ps ++ items_of p
items_more ps qs p e = ap items e ∙ flat_map-append items_of ps (p ∷ []) ∙ ap (λ xs. items ps ++ xs) (append-nil (items_of p))

pub items_first : (ps qs : List Piece) (p : Piece) → ps ≡ [] → qs ≡ ps ++ p ∷ [] → items qs ≡ items_of p
items_first ps qs p z e = items_more ps qs p e ∙ ap (λ rs. items rs ++ items_of p) z

inside_bytes : (o : Option ℕ) (bs : List ℕ) → map inside_part (map (char o) bs) ≡ parts Text (map (char o) bs)
inside_bytes o [] = refl
inside_bytes o (b ∷ bs) = ap (λ ps. loose Text o b ∷ ps) (inside_bytes o bs)

pub inside_chars_parts : (f : ItemForm) (o : Option ℕ) (bs : List ℕ) → is_chars f ≡ true → map inside_part (items_by f o bs) ≡ parts Text (items_by f o bs)
inside_chars_parts form.Chars o bs e = inside_bytes o bs
inside_chars_parts (form.Entity c) o bs e = cc
inside_chars_parts form.Nowiki o bs e = cc
inside_chars_parts form.Extension o bs e = cc
inside_chars_parts form.Function o bs e = cc
inside_chars_parts form.Comment o bs e = cc
inside_chars_parts form.Include o bs e = cc
inside_chars_parts form.Hidden o bs e = cc
inside_chars_parts form.EmptyCall o bs e = cc

-- one more piece of the inside of `nowiki`
pub inside_step : (g h : Grown) (xs ys zs : List Item) (qs : List Part) → Grows g (map inside_part xs) h → xs ++ ys ≡ zs
    → ((ps : List Part) → made g (map inside_part zs ++ ps) ≡ children (qs ++ ps)) → (ps : List Part) → made h (map inside_part ys ++ ps) ≡ children (qs ++ ps)
inside_step g h xs ys zs qs a e i ps =
    a (map inside_part ys ++ ps)
    ∙ ap (made g) (sym (append_assoc (map inside_part xs) (map inside_part ys) ps)
    ∙ ap (λ rs. rs ++ ps) (sym (map-append inside_part xs ys) ∙ ap (map inside_part) e))
    ∙ i ps

pub inside_done : (g : Grown) (o : Option ℕ) (bs : List ℕ) (qs : List Part) (ts : List ItemTree) → bs ≡ []
    → ((ps : List Part) → made g (map inside_part (inside_items o 0 bs) ++ ps) ≡ children (qs ++ ps)) → ts ≡ made g [] → ts ≡ children qs
inside_done g o bs qs ts z i e = e ∙ ap (λ cs. made g (map inside_part (inside_items o 0 cs) ++ [])) (sym z) ∙ i [] ∙ ap children (append-nil qs)

-- a whole form is a node by itself
pub whole_parts : (k : Loose) (f : ItemForm) (o : Option ℕ) (bs : List ℕ) → is_chars f ≡ false → parts k (items_by f o bs) ≡ node (whole_tree f o bs) ∷ []
whole_parts k form.Chars o bs e = cc
whole_parts k (form.Entity c) o bs e = refl
whole_parts k form.Nowiki o bs e = refl
whole_parts k form.Extension o bs e = refl
whole_parts k form.Function o bs e = refl
whole_parts k form.Comment o bs e = refl
whole_parts k form.Include o bs e = refl
whole_parts k form.Hidden o bs e = refl
whole_parts k form.EmptyCall o bs e = refl

pub whole_leaf : (f : ItemForm) (o : Option ℕ) (bs : List ℕ) → is_chars f ≡ false → (f ≡ form.Nowiki → ⊥)
    → leaf (form_head f bs) (items_by f o bs) ≡ whole_tree f o bs
whole_leaf form.Chars o bs e n = cc
whole_leaf (form.Entity c) o bs e n = refl
whole_leaf form.Nowiki o bs e n = absurd (n refl)
whole_leaf form.Extension o bs e n = refl
whole_leaf form.Function o bs e n = refl
whole_leaf form.Comment o bs e n = refl
whole_leaf form.Include o bs e n = refl
whole_leaf form.Hidden o bs e n = refl
whole_leaf form.EmptyCall o bs e n = refl

-- one more piece of several
pub pieces_step : (g h i : Grown) (k : Loose) (ps : List Piece) (at : ℕ) (p : Piece) → at < length ps → p ≡ get_or ps at p
    → Grows g (parts k (items (take at ps))) h → Grows h (parts k (items_of p)) i → Grows g (parts k (items (take (at + 1) ps))) i
pieces_step g h i k ps at p l e a b qs =
    let more : take (at + 1) ps ≡ take at ps ++ p ∷ [] = take_more ps at p l ∙ ap (λ q. take at ps ++ q ∷ []) (sym e) in
    grows_both g h i (parts k (items (take at ps))) (parts k (items_of p)) a b qs
    ∙ ap (λ rs. made g (rs ++ qs)) (sym (map-append (part k) (items (take at ps)) (items_of p))
    ∙ ap (parts k) (sym (items_more (take at ps) (take (at + 1) ps) p more)))

pub no_bytes : (bs text : List ℕ) (v : Bool) → text ≡ bs → v ≡ (length text == 0) → v ≡ true → bs ≡ []
no_bytes bs text v i e t =
    let z : length text ≡ 0 = grind (arith, nat_tests) in
    sym i ∙ nil_from_length text z
