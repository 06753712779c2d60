-- Filled trees: no item comes from a call and each node holds an item, so that no node is a group.
use Rattle.std.proofs.Common.{◌≡◌, ℕ, ◌+◌, ◌<◌, ◌≤◌, Bool, true, false, List, [], ◌∷◌, ◌++◌, length, drop, get_or, refl, sym, ap, ◌∙◌, arith}
use Rattle.std.specs.Prelude.{◌&&◌, ◌||◌}
use Rattle.std.specs.List.{list_all, list_any}
use Rattle.std.proofs.lemmas.List.{at_drop_more}
use Rattle.wt_tree.specs.Kinds.{is_leaf}
use Rattle.wt_span.specs.declared.form.Piece.{Piece}
use Rattle.wt_span.specs.Items.{Item, items}
use Rattle.wt_inline.specs.ItemTree.{ItemTree, inner, ItemTrees, nothing, further, forest, tree_items, held_by_all}
use Rattle.wt_inline.specs.View.{item_tree, item_trees}
use Rattle.wt_inline.specs.declared.tree.PieceTree.{PieceTree, out-PieceTree}
use Rattle.wt_annotated.specs.Clean.{is_page, is_body}
use Rattle.wt_annotated.specs.Filled.{are_some, is_round, is_filled, all_filled}
use Rattle.wt_annotated.specs.WithoutCalls.{InsideOf, holds_page, NoneEmpty, AllNonEmpty, IsPlain}
use Rattle.wt_annotated.proofs.Ends.{both, false_true}
use Rattle.wt_annotated.proofs.HeldPieces.{item_tree_out}

-- ---- the walk over pieces

abbrev pub filled_in_all : List PieceTree → Bool
filled_in_all ns = all_filled (forest (item_trees ns))

pub filled_level : (n : PieceTree) → is_filled (item_tree n)
    ≡ (is_round (items (out-PieceTree n).opening) (are_some (forest (item_trees (out-PieceTree n).children))) (items (out-PieceTree n).closing)
    && filled_in_all (out-PieceTree n).children)
filled_level n = ap is_filled (item_tree_out n)

-- one turn of the loop over the children
pub filled_turn : (i : ℕ) (ns : List PieceTree) (child : PieceTree) → i < length ns → child ≡ get_or ns i child
    → filled_in_all (drop i ns) ≡ (is_filled (item_tree child) && filled_in_all (drop (i + 1) ns))
filled_turn i ns child lt is =
    at_drop_more filled_in_all ns i child lt ∙ ap (λ (c : PieceTree). is_filled (item_tree c) && filled_in_all (drop (i + 1) ns)) (sym is)

pub some_trees : (ns : List PieceTree) → 1 ≤ length ns → true ≡ are_some (forest (item_trees ns))
some_trees [] lt = absurd (omega (arith, lt))
some_trees (n ∷ ns) lt = refl

and_false : (v : Bool) → (v && false) ≡ false
and_false true = refl
and_false false = refl

pub unfilled : (n : PieceTree) (ns : List PieceTree) (i : ℕ) (child : PieceTree) → ns ≡ (out-PieceTree n).children → i < length ns → child ≡ get_or ns i child
    → filled_in_all (drop i ns) ≡ filled_in_all ns → is_filled (item_tree child) ≡ false → false ≡ is_filled (item_tree n)
unfilled n ns i child is lt at inv empty =
    let v : Bool =
    is_round (items (out-PieceTree n).opening) (are_some (forest (item_trees (out-PieceTree n).children))) (items (out-PieceTree n).closing) in
    let e : filled_in_all ns ≡ false = sym inv ∙ filled_turn i ns child lt at ∙ ap (λ (w : Bool). w && filled_in_all (drop (i + 1) ns)) empty in
    sym (filled_level n ∙ ap (λ (ms : List PieceTree). v && filled_in_all ms) (sym is) ∙ ap (λ (w : Bool). v && w) e ∙ and_false v)

pub round_is : (n : PieceTree) (o c : List Piece) (ns : List PieceTree) (v w : Bool) → o ≡ (out-PieceTree n).opening → ns ≡ (out-PieceTree n).children
    → c ≡ (out-PieceTree n).closing → w ≡ are_some (forest (item_trees ns)) → v ≡ is_round (items o) w (items c)
    → is_round (items (out-PieceTree n).opening) (are_some (forest (item_trees (out-PieceTree n).children))) (items (out-PieceTree n).closing) ≡ v
round_is n o c ns v w e f g some is =
    let a : List Item = items (out-PieceTree n).opening in
    let d : List Item = items (out-PieceTree n).closing in
    sym (is
    ∙ ap (λ (ps : List Piece). is_round (items ps) w (items c)) e
    ∙ ap (λ (x : Bool). is_round a x (items c)) (some ∙ ap (λ (ms : List PieceTree). are_some (forest (item_trees ms))) f)
    ∙ ap (λ (ps : List Piece). is_round a (are_some (forest (item_trees (out-PieceTree n).children))) (items ps)) g)

-- not round, or round and all children filled
pub filled_by : (n : PieceTree) (v w : Bool)
    → is_round (items (out-PieceTree n).opening) (are_some (forest (item_trees (out-PieceTree n).children))) (items (out-PieceTree n).closing) ≡ v
    → filled_in_all (out-PieceTree n).children ≡ w → is_filled (item_tree n) ≡ (v && w)
filled_by n v w e f =
    filled_level n ∙ ap (λ (x : Bool). x && filled_in_all (out-PieceTree n).children) e ∙ ap (λ (x : Bool). v && x) f

pub none_left : (n : PieceTree) (ns : List PieceTree) (i : ℕ) → ns ≡ (out-PieceTree n).children → drop i ns ≡ []
    → filled_in_all (drop i ns) ≡ filled_in_all ns → filled_in_all (out-PieceTree n).children ≡ true
none_left n ns i is e inv = ap filled_in_all (sym is) ∙ sym inv ∙ ap filled_in_all e

-- ---- filled trees are plain

any_left : (xs ys : List Item) → list_any is_page xs ≡ true → list_any is_page (xs ++ ys) ≡ true
any_left [] ys e = false_true e
any_left (x ∷ xs) ys e = by_first (is_page x) (list_any is_page xs) (list_any is_page (xs ++ ys)) e (any_left xs ys)
  where
    by_first : (v w u : Bool) → (v || w) ≡ true → (w ≡ true → u ≡ true) → (v || u) ≡ true
    by_first true w u e f = refl
    by_first false w u e f = f e

any_right : (xs ys : List Item) → list_any is_page ys ≡ true → list_any is_page (xs ++ ys) ≡ true
any_right [] ys e = e
any_right (x ∷ xs) ys e = or_right (is_page x) (list_any is_page (xs ++ ys)) (any_right xs ys e)
  where
    or_right : (v w : Bool) → w ≡ true → (v || w) ≡ true
    or_right true w e = refl
    or_right false w e = e

pub all_joined : (xs ys : List Item) → list_all is_page xs ≡ true → list_all is_page ys ≡ true → list_all is_page (xs ++ ys) ≡ true
all_joined [] ys e f = f
all_joined (x ∷ xs) ys e f = let r = both (is_page x) (list_all is_page xs) e in rw r.0 (all_joined xs ys r.1 f)

or_any : (v w : Bool) → w ≡ true → (v || w) ≡ true
or_any true w e = refl
or_any false w e = e

some_by : (some : Bool) (o i c : List Item) → (some ≡ true → list_any is_page i ≡ true) → (some || (list_any is_page o || list_any is_page c)) ≡ true
    → list_any is_page (o ++ (i ++ c)) ≡ true
some_by true o i c f e = any_right o (i ++ c) (any_left i c (f refl))
some_by false o i c f e = by_opening (list_any is_page o) refl e
  where
    by_opening : (v : Bool) → list_any is_page o ≡ v → (v || list_any is_page c) ≡ true → list_any is_page (o ++ (i ++ c)) ≡ true
    by_opening true p e = any_left o (i ++ c) p
    by_opening false p e = any_right o (i ++ c) (any_right i c e)

by_leaf : (is : Bool) (A : Type 0) → A → InsideOf is A
by_leaf true A a = tt
by_leaf false A a = a

pub record IsFilled (t : ItemTree) : Type 0 where
  pub of_page : list_all is_page (tree_items t) ≡ true
  pub none_empty : NoneEmpty t
  pub some : list_any is_page (tree_items t) ≡ true

pub record AreFilled (ts : ItemTrees) : Type 0 where
  pub of_page : list_all is_page (held_by_all ts) ≡ true
  pub none_empty : AllNonEmpty ts
  pub some : are_some ts ≡ true → list_any is_page (held_by_all ts) ≡ true

holds_by : (t : ItemTree) → list_any is_page (tree_items t) ≡ true → holds_page t ≡ true
holds_by (inner h o ts c) e = or_any (is_body h.kind) (list_any is_page (o ++ (held_by_all ts ++ c))) e

mutual
  pub filled : (t : ItemTree) → is_filled t ≡ true → IsFilled t
  filled (inner h o ts c) e =
      let r = both (is_round o (are_some ts) c) (all_filled ts) e in
      let p = both (list_all is_page o) (list_all is_page c && (are_some ts || (list_any is_page o || list_any is_page c))) r.0 in
      let q = both (list_all is_page c) (are_some ts || (list_any is_page o || list_any is_page c)) p.1 in
      let a : AreFilled ts = filled_all ts r.1 in
      record {
        of_page = all_joined o (held_by_all ts ++ c) p.0 (all_joined (held_by_all ts) c a.of_page q.0);
        none_empty = by_leaf (is_leaf h.kind) (AllNonEmpty ts) a.none_empty;
        some = some_by (are_some ts) o (held_by_all ts) c a.some q.1;
      }

  filled_all : (ts : ItemTrees) → all_filled ts ≡ true → AreFilled ts
  filled_all nothing e = record { of_page = refl; none_empty = tt; some = λ f. false_true f }
  filled_all (further t ts) e =
      let r = both (is_filled t) (all_filled ts) e in
      let f : IsFilled t = filled t r.0 in
      let a : AreFilled ts = filled_all ts r.1 in
      record {
        of_page = all_joined (tree_items t) (held_by_all ts) f.of_page a.of_page;
        none_empty = (holds_by t f.some, f.none_empty, a.none_empty);
        some = λ g. any_left (tree_items t) (held_by_all ts) f.some;
      }

pub filled_plain : (t : ItemTree) → is_filled t ≡ true → IsPlain t
filled_plain t e = let f : IsFilled t = filled t e in record { of_page = f.of_page; none_empty = f.none_empty }
