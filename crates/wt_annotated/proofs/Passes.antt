-- One pass over a tree, in steps.
use Rattle.std.proofs.Common.{◌≡◌, ℕ, ◌+◌, ◌<◌, ◌≤◌, Bool, true, false, List, [], ◌∷◌, ◌++◌, length, map, refl, sym, ap, subst, ◌∙◌, arith, append_assoc, append-nil}
use Rattle.std.specs.Prelude.{if◌then◌else◌, Result, Ok, Err, IfOk}
use Rattle.std.proofs.lemmas.List.{map-append}
use Rattle.wt_tree.specs.declared.row.Texts.{Texts}
use Rattle.wt_tree.specs.declared.row.Texts.TheVariants.{Separators, Page, Bordered, OwnCharacter}
use Rattle.wt_tree.specs.Kinds.{is_leaf, is_numbered, texts_of_kind}
use Rattle.wt_tree.specs.Tiling.{is_group}
use Rattle.wt_tree.specs.Tree.{Tree, tree, Trees, none, more, trees}
use Rattle.wt_tree.specs.View.{view, views}
use Rattle.wt_tree.specs.declared.node.Node.{Node}
use Rattle.wt_span.specs.declared.form.Piece.{Piece}
use Rattle.wt_span.specs.Items.{Item, items}
use Rattle.wt_inline.specs.View.{head_of, item_tree, item_trees}
use Rattle.wt_inline.specs.declared.tree.PieceTree.{PieceTree, out-PieceTree}
use Rattle.wt_annotated.proofs.HeldPieces.{item_tree_out}
use Rattle.wt_inline.specs.ItemTree.{Head, ItemTree, inner, ItemTrees, nothing, further, forest, tree_items, held_by_all}
use Rattle.wt_annotated.specs.Labels.{width, label_at}
use Rattle.wt_annotated.specs.Numbering.{number_of, next_after}
use Rattle.wt_annotated.specs.Counted.{count_by, numbered, numbered_in_all}
use Rattle.wt_annotated.specs.WithoutCalls.{inside_by}
use Rattle.wt_annotated.specs.CutTexts.{cut_as, cut_texts, all_cut_texts}
use Rattle.wt_annotated.specs.Made.{annotated_at, all_annotated_at, IsMade, AreMade}
use Rattle.wt_annotated.specs.PassNodes.{leaf_label, inner_label}
use Rattle.wt_annotated.proofs.Tiles.{group_leaf}
use Rattle.wt_annotated.proofs.Widths.{width_append, width_three}

-- ---- numbers

-- a node's own number and those inside
number_by : (n is : Bool) (next m : ℕ) → (if n then next + 1 else next) + count_by is m ≡ next + ((if n then 1 else 0) + count_by is m)
number_by true is next m = omega arith
number_by false is next m = omega arith

pub number_leaf : (k : Head) (o c : List Item) (ts : ItemTrees) (next : ℕ) → is_leaf k.kind ≡ true → next_after k.kind next ≡ next + numbered (inner k o ts c)
number_leaf k o c ts next e =
    let z : count_by (is_leaf k.kind) (numbered_in_all ts) ≡ 0 = ap (λ is. count_by is (numbered_in_all ts)) e in
    omega (arith, number_by (is_numbered k.kind) (is_leaf k.kind) next (numbered_in_all ts), z)

pub number_inner : (k : Head) (o c : List Item) (ts : ItemTrees) (next : ℕ) → is_leaf k.kind ≡ false
    → next_after k.kind next + numbered_in_all ts ≡ next + numbered (inner k o ts c)
number_inner k o c ts next e =
    let z : count_by (is_leaf k.kind) (numbered_in_all ts) ≡ numbered_in_all ts = ap (λ is. count_by is (numbered_in_all ts)) e in
    omega (arith, number_by (is_numbered k.kind) (is_leaf k.kind) next (numbered_in_all ts), z)

-- ---- one node

-- there is nothing to cut in a leaf
nothing_cut : (g : Bool) (x : Texts) → (if g then none else cut_as x none) ≡ none
nothing_cut true x = refl
nothing_cut false Separators = refl
nothing_cut false Page = refl
nothing_cut false Bordered = refl
nothing_cut false OwnCharacter = refl

leaf_by : (is : Bool) (at next : ℕ) (k : Head) (o own c : List Item) (us : Trees) → is ≡ true
    → cut_texts (tree (label_at at (number_of k.kind next) is k o own c) (inside_by is us)) ≡ tree (leaf_label at next k own) none
unfolding label_at
leaf_by true at next k o own c us e = ap (tree (leaf_label at next k own)) (nothing_cut (is_group k.kind) (texts_of_kind k.kind))
leaf_by false at next k o own c us e = cc

pub leaf_made : (at next place number : ℕ) (k : Head) (o c : List Item) (ts : ItemTrees) (u : Tree) → is_leaf k.kind ≡ true
    → u ≡ tree (leaf_label at next k (tree_items (inner k o ts c))) none → place ≡ at + width (tree_items (inner k o ts c))
    → number ≡ next_after k.kind next
    → IsMade at next (inner k o ts c) u place number
leaf_made at next place number k o c ts u e f p n = record {
  tree_is = f ∙ sym (leaf_by (is_leaf k.kind) at next k o (tree_items (inner k o ts c)) c (all_annotated_at (at + width o) (next_after k.kind next) ts) e);
  place_is = p;
  number_is = n ∙ number_leaf k o c ts next e;
}

inside_cut : (g is : Bool) (x : Texts) (us : Trees) → (g ≡ true → is ≡ true) → is ≡ false
    → (if g then us else cut_as x (all_cut_texts us)) ≡ cut_as x (all_cut_texts us)
inside_cut true true x us h e = cc
inside_cut true false x us h e = absurd (let f : false ≡ true = h refl in cc)
inside_cut false is x us h e = refl

inner_by : (is : Bool) (at next : ℕ) (k : Head) (o own c : List Item) (us : Trees) → is ≡ false → (is_group k.kind ≡ true → is ≡ true)
    → cut_texts (tree (label_at at (number_of k.kind next) is k o own c) (inside_by is us))
    ≡ tree (inner_label at next k (at + width own) o c) (cut_as (texts_of_kind k.kind) (all_cut_texts us))
unfolding label_at
inner_by true at next k o own c us e g = cc
inner_by false at next k o own c us e g =
    ap (tree (inner_label at next k (at + width own) o c)) (inside_cut (is_group k.kind) false (texts_of_kind k.kind) us g refl)

pub inner_made : (at next place number mid after : ℕ) (k : Head) (o c : List Item) (ts : ItemTrees) (us : Trees) (u : Tree)
    → is_leaf k.kind ≡ false → AreMade (at + width o) (next_after k.kind next) ts us mid after
    → u ≡ tree (inner_label at next k (mid + width c) o c) (cut_as (texts_of_kind k.kind) us) → place ≡ mid + width c → number ≡ after
    → IsMade at next (inner k o ts c) u place number
inner_made at next place number mid after k o c ts us u e a f p n =
    let end : mid + width c ≡ at + width (tree_items (inner k o ts c)) = omega (arith, a.place_is, width_three o (held_by_all ts) c) in
    record {
      tree_is =
          f
          ∙ ap (λ m. tree (inner_label at next k m o c) (cut_as (texts_of_kind k.kind) us)) end
          ∙ ap (λ vs. tree (inner_label at next k (at + width (tree_items (inner k o ts c))) o c) (cut_as (texts_of_kind k.kind) vs)) a.trees_are
          ∙ sym (inner_by (is_leaf k.kind) at next k o (tree_items (inner k o ts c)) c
          (all_annotated_at (at + width o) (next_after k.kind next) ts) e (group_leaf k.kind));
      place_is = p ∙ end;
      number_is = n ∙ a.number_is ∙ number_inner k o c ts next e;
    }

-- the same of nodes of pieces
pub leaf_done : (n : PieceTree) (at next place number w : ℕ) (ps qs rs : List Piece) (u : Tree)
    → is_leaf (out-PieceTree n).head.kind ≡ true → items ps ≡ tree_items (item_tree n) → qs ≡ ps → rs ≡ ps
    → u ≡ tree (leaf_label at next (head_of (out-PieceTree n).head) (items qs)) none → w ≡ width (items rs) → place ≡ at + w
    → number ≡ next_after (out-PieceTree n).head.kind next → IsMade at next (item_tree n) u place number
leaf_done n at next place number w ps qs rs u e h i j f v p m =
    let k = head_of (out-PieceTree n).head in
    let o = items (out-PieceTree n).opening in
    let c = items (out-PieceTree n).closing in
    let ts = forest (item_trees (out-PieceTree n).children) in
    let own : items ps ≡ tree_items (inner k o ts c) = h ∙ ap tree_items (item_tree_out n) in
    let made = leaf_made at next place number k o c ts u e (f ∙ ap (λ xs. tree (leaf_label at next k xs) none) (ap items i ∙ own))
    (p ∙ ap (λ x. at + x) (v ∙ ap width (ap items j ∙ own))) m in
    subst (λ (t : ItemTree). IsMade at next t u place number) (sym (item_tree_out n)) made

pub inner_done : (n : PieceTree) (at next place number mid after : ℕ) (us : Trees) (u : Tree) → is_leaf (out-PieceTree n).head.kind ≡ false
    → AreMade (at + width (items (out-PieceTree n).opening)) (next_after (out-PieceTree n).head.kind next)
    (forest (item_trees (out-PieceTree n).children)) us mid after
    → u ≡ tree (inner_label at next (head_of (out-PieceTree n).head) (mid + width (items (out-PieceTree n).closing))
    (items (out-PieceTree n).opening) (items (out-PieceTree n).closing)) (cut_as (texts_of_kind (out-PieceTree n).head.kind) us)
    → place ≡ mid + width (items (out-PieceTree n).closing) → number ≡ after
    → IsMade at next (item_tree n) u place number
inner_done n at next place number mid after us u e a f p m =
    let k = head_of (out-PieceTree n).head in
    let o = items (out-PieceTree n).opening in
    let c = items (out-PieceTree n).closing in
    let ts = forest (item_trees (out-PieceTree n).children) in
    subst (λ (t : ItemTree). IsMade at next t u place number) (sym (item_tree_out n)) (inner_made at next place number mid after k o c ts us u e a f p m)

-- ---- nodes that follow one another

abbrev pub annotated_list : ℕ → ℕ → List ItemTree → List Tree
annotated_list at next [] = []
annotated_list at next (t ∷ ts) = cut_texts (annotated_at at next t) ∷ annotated_list (at + width (tree_items t)) (next + numbered t) ts

forest_list : (at next : ℕ) (ts : List ItemTree) → all_cut_texts (all_annotated_at at next (forest ts)) ≡ trees (annotated_list at next ts)
forest_list at next [] = refl
forest_list at next (t ∷ ts) = ap (more (cut_texts (annotated_at at next t))) (forest_list (at + width (tree_items t)) (next + numbered t) ts)

-- a measure of trees, by which one is smaller than the children that it is among, and these are smaller than their node
abbrev mutual
  pub nodes_in : ItemTree → ℕ
  nodes_in (inner k o ts c) = 2 + nodes_in_all ts

  pub nodes_in_all : ItemTrees → ℕ
  nodes_in_all nothing = 0
  nodes_in_all (further t ts) = nodes_in t + nodes_in_all ts

-- These are made, the rest comes next, and behind all of them stand the same place and number.
pub record MadeSoFar (done : List Tree) (place number : ℕ) (rest : List ItemTree) (at next : ℕ) (all : List ItemTree) : Type 0 where
  pub trees_are : done ++ annotated_list place number rest ≡ annotated_list at next all
  pub place_is : place + width (held_by_all (forest rest)) ≡ at + width (held_by_all (forest all))
  pub number_is : number + numbered_in_all (forest rest) ≡ next + numbered_in_all (forest all)
  pub fewer : nodes_in_all (forest rest) ≤ nodes_in_all (forest all)

pub so_far_none : (at next : ℕ) (all : List ItemTree) → MadeSoFar [] at next all at next all
so_far_none at next all = record { trees_are = refl; place_is = refl; number_is = refl; fewer = omega arith }

pub so_far_more : (done new : List Tree) (u : Tree) (place number place2 number2 at next : ℕ) (t : ItemTree)
    (ts all : List ItemTree) → MadeSoFar done place number (t ∷ ts) at next all → IsMade place number t u place2 number2
    → new ≡ done ++ u ∷ []
    → MadeSoFar new place2 number2 ts at next all
so_far_more done new u place number place2 number2 at next t ts all s m e = record {
  trees_are =
      ap (λ us. us ++ annotated_list place2 number2 ts) e
      ∙ append_assoc done (u ∷ []) (annotated_list place2 number2 ts)
      ∙ ap (λ v. done ++ v ∷ annotated_list place2 number2 ts) m.tree_is
      ∙ ap (λ p. done ++ cut_texts (annotated_at place number t) ∷ annotated_list p number2 ts) m.place_is
      ∙ ap (λ n. done ++ cut_texts (annotated_at place number t) ∷ annotated_list (place + width (tree_items t)) n ts) m.number_is
      ∙ s.trees_are;
  place_is = omega (arith, s.place_is, m.place_is, width_append (tree_items t) (held_by_all (forest ts)));
  number_is = omega (arith, s.number_is, m.number_is);
  fewer = omega (arith, s.fewer);
}

pub so_far_all : (done : List Tree) (place number at next : ℕ) (rest all : List ItemTree)
    → MadeSoFar done place number rest at next all → rest ≡ [] → AreMade at next (forest all) (trees done) place number
so_far_all done place number at next rest all s z = record {
  trees_are = ap trees (sym (append-nil done) ∙ ap (λ ts. done ++ annotated_list place number ts) (sym z) ∙ s.trees_are) ∙ sym (forest_list at next all);
  place_is = let e : width (held_by_all (forest rest)) ≡ 0 = ap (λ ts. width (held_by_all (forest ts))) z in omega (arith, s.place_is, e);
  number_is = let e : numbered_in_all (forest rest) ≡ 0 = ap (λ ts. numbered_in_all (forest ts)) z in omega (arith, s.number_is, e);
}

-- ---- the loop over children

none_left : (rs : List PieceTree) → length rs ≡ 0 → rs ≡ []
none_left [] e = refl
none_left (r ∷ rs) e = absurd (omega arith)

pub so_far_init : (ns : List Node) (at next : ℕ) (ts : List ItemTree) → ns ≡ [] → MadeSoFar (map view ns) at next ts at next ts
so_far_init ns at next ts e = subst (λ (ms : List Node). MadeSoFar (map view ms) at next ts at next ts) (sym e) (so_far_none at next ts)

pub room_place : (done : List Tree) (place number at next m : ℕ) (n : PieceTree) (ns rs ys bs : List PieceTree)
    → MadeSoFar done place number (item_trees rs) at next (item_trees ys) → rs ≡ n ∷ ns → ys ≡ bs
    → at + width (held_by_all (forest (item_trees bs))) < m → place + width (tree_items (item_tree n)) < m
room_place done place number at next m n ns rs ys bs s r e h =
    let f : width (held_by_all (forest (item_trees rs))) ≡ width (tree_items (item_tree n)) + width (held_by_all (forest (item_trees ns))) =
    ap (λ xs. width (held_by_all (forest (item_trees xs)))) r ∙ width_append (tree_items (item_tree n)) (held_by_all (forest (item_trees ns))) in
    let g : width (held_by_all (forest (item_trees ys))) ≡ width (held_by_all (forest (item_trees bs))) =
    ap (λ xs. width (held_by_all (forest (item_trees xs)))) e in
    omega (arith, s.place_is, f, g, h)

pub room_number : (done : List Tree) (place number at next m : ℕ) (n : PieceTree) (ns rs ys bs : List PieceTree)
    → MadeSoFar done place number (item_trees rs) at next (item_trees ys) → rs ≡ n ∷ ns → ys ≡ bs
    → next + numbered_in_all (forest (item_trees bs)) < m → number + numbered (item_tree n) < m
room_number done place number at next m n ns rs ys bs s r e h =
    let f : numbered_in_all (forest (item_trees rs)) ≡ numbered (item_tree n) + numbered_in_all (forest (item_trees ns)) =
    ap (λ xs. numbered_in_all (forest (item_trees xs))) r in
    let g : numbered_in_all (forest (item_trees ys)) ≡ numbered_in_all (forest (item_trees bs)) = ap (λ xs. numbered_in_all (forest (item_trees xs))) e in
    omega (arith, s.number_is, f, g, h)

pub smaller_child : (done : List Tree) (place number at next : ℕ) (n : PieceTree) (ns rs ys bs : List PieceTree)
    → MadeSoFar done place number (item_trees rs) at next (item_trees ys) → rs ≡ n ∷ ns → ys ≡ bs
    → nodes_in (item_tree n) < 1 + nodes_in_all (forest (item_trees bs))
smaller_child done place number at next n ns rs ys bs s r e =
    let f : nodes_in_all (forest (item_trees rs)) ≡ nodes_in (item_tree n) + nodes_in_all (forest (item_trees ns)) =
    ap (λ xs. nodes_in_all (forest (item_trees xs))) r in
    let g : nodes_in_all (forest (item_trees ys)) ≡ nodes_in_all (forest (item_trees bs)) = ap (λ xs. nodes_in_all (forest (item_trees xs))) e in
    omega (arith, s.fewer, f, g)

pub so_far_step : (ms us : List Node) (u : Node) (place number place2 number2 at next : ℕ) (n : PieceTree)
    (ns rs : List PieceTree) (all : List ItemTree) → MadeSoFar (map view ms) place number (item_trees rs) at next all → rs ≡ n ∷ ns
    → IsMade place number (item_tree n) (view u) place2 number2 → us ≡ ms ++ u ∷ [] → MadeSoFar (map view us) place2 number2 (item_trees ns) at next all
so_far_step ms us u place number place2 number2 at next n ns rs all s r m e =
    so_far_more (map view ms) (map view us) (view u) place number place2 number2 at next (item_tree n) (item_trees ns) all
    (subst (λ (xs : List PieceTree). MadeSoFar (map view ms) place number (item_trees xs) at next all) r s) m (ap (map view) e ∙ map-append view ms (u ∷ []))

pub all_done : (ms : List Node) (place number at next : ℕ) (rs ys bs : List PieceTree)
    → MadeSoFar (map view ms) place number (item_trees rs) at next (item_trees ys) → length rs ≡ 0 → ys ≡ bs
    → AreMade at next (forest (item_trees bs)) (views ms) place number
all_done ms place number at next rs ys bs s z e =
    subst (λ (xs : List PieceTree). AreMade at next (forest (item_trees xs)) (views ms) place number) e
    (so_far_all (map view ms) place number at next (item_trees rs) (item_trees ys) s (ap item_trees (none_left rs z)))

-- ---- round the children

pub smaller_children : (n : PieceTree) → 1 + nodes_in_all (forest (item_trees (out-PieceTree n).children)) < nodes_in (item_tree n)
smaller_children n =
    let e : nodes_in (item_tree n) ≡ 2 + nodes_in_all (forest (item_trees (out-PieceTree n).children)) = ap nodes_in (item_tree_out n) in
    omega (arith, e)

pub room_inside : (n : PieceTree) (at inside w m : ℕ) (qs : List Piece) → inside ≡ at + w → w ≡ width (items qs)
    → qs ≡ (out-PieceTree n).opening → at + width (tree_items (item_tree n)) < m
    → inside + width (held_by_all (forest (item_trees (out-PieceTree n).children))) < m
room_inside n at inside w m qs i v e h =
    let o = items (out-PieceTree n).opening in
    let c = items (out-PieceTree n).closing in
    let ts = forest (item_trees (out-PieceTree n).children) in
    let f : width (tree_items (item_tree n)) ≡ width o + width (held_by_all ts) + width c = ap (λ t. width (tree_items t)) (item_tree_out n)
    ∙ width_three o (held_by_all ts) c in
    let g : width (items qs) ≡ width o = ap (λ xs. width (items xs)) e in
    omega (arith, i, v, f, g, h)

-- the number after a node itself is at most the one after all that is in it
after_by : (n is : Bool) (next m : ℕ) → (if n then next + 1 else next) ≤ next + ((if n then 1 else 0) + count_by is m)
after_by true is next m = omega arith
after_by false is next m = omega arith

pub number_after : (n : PieceTree) (next m : ℕ) → next + numbered (item_tree n) < m → next_after (out-PieceTree n).head.kind next < m
number_after n next m h =
    let k = head_of (out-PieceTree n).head in
    let ts = forest (item_trees (out-PieceTree n).children) in
    let e : numbered (item_tree n) ≡ (if is_numbered k.kind then 1 else 0) + count_by (is_leaf k.kind) (numbered_in_all ts) =
    ap numbered (item_tree_out n) in
    omega (arith, after_by (is_numbered k.kind) (is_leaf k.kind) next (numbered_in_all ts), e, h)

pub number_inside : (n : PieceTree) (next inside m : ℕ) → is_leaf (out-PieceTree n).head.kind ≡ false → inside ≡ next_after (out-PieceTree n).head.kind next
    → next + numbered (item_tree n) < m → inside + numbered_in_all (forest (item_trees (out-PieceTree n).children)) < m
number_inside n next inside m l i h =
    let k = head_of (out-PieceTree n).head in
    let o = items (out-PieceTree n).opening in
    let c = items (out-PieceTree n).closing in
    let ts = forest (item_trees (out-PieceTree n).children) in
    let e : numbered (item_tree n) ≡ numbered (inner k o ts c) = ap numbered (item_tree_out n) in
    omega (arith, number_inner k o c ts next l, i, e, h)

pub room_closing : (n : PieceTree) (at place inside w next mid after m : ℕ) (qs : List Piece) (us : Trees)
    → AreMade inside next (forest (item_trees (out-PieceTree n).children)) us mid after → inside ≡ at + w → w ≡ width (items qs)
    → qs ≡ (out-PieceTree n).opening → at + width (tree_items (item_tree n)) < m → mid + width (items (out-PieceTree n).closing) < m
room_closing n at place inside w next mid after m qs us a i v e h =
    let o = items (out-PieceTree n).opening in
    let c = items (out-PieceTree n).closing in
    let ts = forest (item_trees (out-PieceTree n).children) in
    let f : width (tree_items (item_tree n)) ≡ width o + width (held_by_all ts) + width c = ap (λ t. width (tree_items t)) (item_tree_out n)
    ∙ width_three o (held_by_all ts) c in
    let g : width (items qs) ≡ width o = ap (λ xs. width (items xs)) e in
    omega (arith, a.place_is, i, v, f, g, h)

-- the children begin where the opening ends
pub inside_from : (inside next at w m : ℕ) (qs os : List Piece) (k : Head) (first : ℕ) (ts : ItemTrees) (us : Trees)
    (mid after : ℕ) → AreMade inside next ts us mid after → inside ≡ at + w → w ≡ width (items qs) → qs ≡ os
    → next ≡ next_after k.kind first
    → AreMade (at + width (items os)) (next_after k.kind first) ts us mid after
inside_from inside next at w m qs os k first ts us mid after a i v e n =
    let p : inside ≡ at + width (items os) = i ∙ ap (λ x. at + x) (v ∙ ap (λ xs. width (items xs)) e) in
    subst (λ (x : ℕ). AreMade x (next_after k.kind first) ts us mid after) p (subst (λ (x : ℕ). AreMade inside x ts us mid after) n a)

pub three_ok : {A E : Type 0} (r : Result A E) (P Q R S : A → Type 0) → ((v : A) → P v → Q v → R v → S v) → IfOk r P → IfOk r Q → IfOk r R → IfOk r S
three_ok (Ok v) P Q R S f p q s = f v p q s
three_ok (Err e) P Q R S f p q s = tt
