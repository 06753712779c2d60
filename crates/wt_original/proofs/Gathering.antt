-- What is gathered of a node is gathered of its parts, one after another.
use Rattle.std.proofs.Common.{arith, ◌≡◌, ℕ, zero, suc, ◌+◌, ◌<◌, Bool, true, false, List, [], ◌∷◌, ◌++◌, length, map, drop, get_or, refl, sym, ap, ◌∙◌, append_assoc, append-nil, length-append}
use Rattle.std.specs.Prelude.{not, ◌&&◌, if◌then◌else◌, slice_set}
use Rattle.std.proofs.lemmas.List.{drop_more}
use Rattle.wt_tree.specs.Tree.{Label, Tree, tree, Trees, none, more}
use Rattle.wt_tree.specs.Kinds.{is_leaf}
use Rattle.wt_tree.specs.Source.{flat, flat_of_all}
use Rattle.wt_tree.specs.View.{label_of, view, views}
use Rattle.wt_tree.specs.declared.node.Node.{Node, out-Node}
use Rattle.wt_tree.proofs.Views.{view_out}
use Rattle.wt_original.specs.declared.block.Gathered.{Gathered}
use Rattle.wt_tree.specs.declared.edit_shape.ItemsOf.{ItemsOf}
use Rattle.wt_tree.specs.declared.edit_shape.ItemsOf.TheVariants.{Delimited, Characters, Opaque, Invisible, Nodes}
use Rattle.wt_tree.specs.EditShapes.{edit_shape}
use Rattle.wt_original.specs.Kept.{Item, character, opaque, invisible, characters, items, items_of_all, visible, is_delimited, holds_kept, KeptNode, found_in}
use Rattle.wt_original.specs.Gathered.{bytes_so_far, seen_so_far, found_so_far, begun, ended, Adds, inside_found, own_found, all_found, list_found}

pub visible_append : (xs ys : List Item) → visible (xs ++ ys) ≡ visible xs ++ visible ys
visible_append [] ys = refl
visible_append (character c ∷ xs) ys = ap (λ zs. character c ∷ zs) (visible_append xs ys)
visible_append (opaque ∷ xs) ys = ap (λ zs. opaque ∷ zs) (visible_append xs ys)
visible_append (invisible ∷ xs) ys = visible_append xs ys

pub visible_characters : (bs : List ℕ) → visible (characters bs) ≡ characters bs
visible_characters [] = refl
visible_characters (b ∷ bs) = ap (λ zs. character b ∷ zs) (visible_characters bs)

visible_delimited : (o c : List ℕ) (xs : List Item) → visible (characters o ++ (xs ++ characters c)) ≡ characters o ++ (visible xs ++ characters c)
visible_delimited o c xs =
    visible_append (characters o) (xs ++ characters c)
    ∙ ap (λ zs. zs ++ visible (xs ++ characters c)) (visible_characters o)
    ∙ ap (λ zs. characters o ++ zs) (visible_append xs (characters c) ∙ ap (λ zs. visible xs ++ zs) (visible_characters c))

pub length_characters : (bs : List ℕ) → length (characters bs) ≡ length bs
length_characters [] = refl
length_characters (b ∷ bs) = ap (λ (n : ℕ). suc n) (length_characters bs)

three : {A : Type 0} (a b c d x y z : List A) → b ≡ a ++ x → c ≡ b ++ y → d ≡ c ++ z → d ≡ a ++ (x ++ (y ++ z))
three a b c d x y z e f g =
    g ∙ ap (λ s. s ++ z) (f ∙ ap (λ s. s ++ y) e) ∙ append_assoc (a ++ x) y z ∙ append_assoc a x (y ++ z)

held : (leaf : Bool) (w : ItemsOf) → not leaf && is_delimited w ≡ true → (leaf ≡ false) × (w ≡ Delimited)
held true w e = cc
held false Delimited e = (refl, refl)
held false Characters e = cc
held false Opaque e = cc
held false Invisible e = cc
held false Nodes e = cc

found_shift : (a : Gathered) (b : Gathered) (l : Label) (ts : Trees) → bytes_so_far b ≡ bytes_so_far a ++ l.opening
    → seen_so_far b ≡ seen_so_far a ++ characters l.opening
    → list_found b ts ≡ found_in (length (bytes_so_far a) + length l.opening) (length (seen_so_far a) + length l.opening) ts
found_shift a b l ts e f =
    let m : length (bytes_so_far b) ≡ length (bytes_so_far a) + length l.opening = ap length e ∙ length-append (bytes_so_far a) l.opening in
    let n : length (seen_so_far b) ≡ length (seen_so_far a) + length l.opening =
    ap length f ∙ length-append (seen_so_far a) (characters l.opening) ∙ ap (λ (k : ℕ). length (seen_so_far a) + k) (length_characters l.opening) in
    ap (λ (k : ℕ). found_in k (length (seen_so_far b)) ts) m ∙ ap (λ (k : ℕ). found_in (length (bytes_so_far a) + length l.opening) k ts) n

delimited : (l : Label) (ts : Trees) (a b c d : Gathered) → holds_kept l ≡ true → Adds a b l.opening (characters l.opening) []
    → Adds b c (flat_of_all ts) (visible (items_of_all ts)) (list_found b ts)
    → Adds c d l.closing (characters l.closing) [] → Adds a d (flat (tree l ts)) (visible (items (tree l ts))) (inside_found a l ts)
delimited l ts a b c d e h k m =
    let parts = held (is_leaf l.kind) (edit_shape l.kind).items e in
    record {
      bytes = three (bytes_so_far a) (bytes_so_far b) (bytes_so_far c) (bytes_so_far d) l.opening
          (flat_of_all ts) l.closing h.bytes k.bytes m.bytes
          ∙ rw (parts.0) (ap (λ s. bytes_so_far a ++ s) (sym (append_assoc l.opening (flat_of_all ts) l.closing)));
      items = three (seen_so_far a) (seen_so_far b) (seen_so_far c) (seen_so_far d) (characters l.opening)
          (visible (items_of_all ts)) (characters l.closing) h.items k.items m.items
          ∙ rw (parts.1) (ap (λ s. seen_so_far a ++ s) (sym (visible_delimited l.opening l.closing (items_of_all ts))));
      nodes = three (found_so_far a) (found_so_far b) (found_so_far c) (found_so_far d) [] (list_found b ts)
          [] h.nodes k.nodes m.nodes ∙ ap (λ s. found_so_far a ++ s)
          (append-nil (list_found b ts) ∙ found_shift a b l ts h.bytes h.items ∙ rw e refl);
    }

-- at a node
pub delimited_node : (n : Node) (a b c d : Gathered) → holds_kept (label_of (out-Node n)) ≡ true
    → Adds a b (label_of (out-Node n)).opening (characters (label_of (out-Node n)).opening) []
    → Adds b c (flat_of_all (views (out-Node n).children)) (visible (items_of_all (views (out-Node n).children))) (list_found b (views (out-Node n).children))
    → Adds c d (label_of (out-Node n)).closing (characters (label_of (out-Node n)).closing) []
    → Adds a d (flat (view n)) (visible (items (view n))) (inside_found a (label_of (out-Node n)) (views (out-Node n).children))
delimited_node n a b c d e h k m = rw (view_out n) (delimited (label_of (out-Node n)) (views (out-Node n).children) a b c d e h k m)

-- ---- the loop over the children

pub record Remains (g h : Gathered) (ts us : Trees) : Type 0 where
  pub bytes : bytes_so_far g ++ flat_of_all ts ≡ bytes_so_far h ++ flat_of_all us
  pub items : seen_so_far g ++ visible (items_of_all ts) ≡ seen_so_far h ++ visible (items_of_all us)
  pub nodes : found_so_far g ++ list_found g ts ≡ found_so_far h ++ list_found h us

pub remains_start : (g : Gathered) (ts : Trees) → Remains g g ts ts
remains_start g ts = record { bytes = refl; items = refl; nodes = refl }

turned : {A : Type 0} (g h x y : List A) → h ≡ g ++ x → h ++ y ≡ g ++ (x ++ y)
turned g h x y e = ap (λ s. s ++ y) e ∙ append_assoc g x y

shifted : (g h : Gathered) (t : Tree) (ts : Trees) → bytes_so_far h ≡ bytes_so_far g ++ flat t
    → seen_so_far h ≡ seen_so_far g ++ visible (items t) → all_found g t ++ list_found h ts ≡ list_found g (more t ts)
shifted g h t ts e f =
    let m : length (bytes_so_far h) ≡ length (bytes_so_far g) + length (flat t) = ap length e ∙ length-append (bytes_so_far g) (flat t) in
    let n : length (seen_so_far h) ≡ length (seen_so_far g) + length (visible (items t)) = ap length f ∙ length-append (seen_so_far g) (visible (items t)) in
    ap (λ (k : ℕ). all_found g t ++ found_in k (length (seen_so_far h)) ts) m
    ∙ ap (λ (k : ℕ). all_found g t ++ found_in (length (bytes_so_far g) + length (flat t)) k ts) n

remains_over : (g h start : Gathered) (t : Tree) (ts us : Trees) → Adds g h (flat t) (visible (items t)) (all_found g t)
    → Remains g start (more t ts) us → Remains h start ts us
remains_over g h start t ts us a r = record {
  bytes = turned (bytes_so_far g) (bytes_so_far h) (flat t) (flat_of_all ts) a.bytes ∙ r.bytes;
  items = turned (seen_so_far g) (seen_so_far h) (visible (items t)) (visible (items_of_all ts)) a.items
      ∙ ap (λ s. seen_so_far g ++ s) (sym (visible_append (items t) (items_of_all ts))) ∙ r.items;
  nodes = turned (found_so_far g) (found_so_far h) (all_found g t) (list_found h ts) a.nodes
      ∙ ap (λ s. found_so_far g ++ s) (shifted g h t ts a.bytes a.items) ∙ r.nodes;
}

pub remains_turn : (g h start : Gathered) (ns : List Node) (i : ℕ) (n : Node) (us : Trees) → i < length ns → n ≡ get_or ns i n
    → Adds g h (flat (view n)) (visible (items (view n))) (all_found g (view n))
    → Remains g start (views (drop i ns)) us → Remains h start (views (drop (i + 1) ns)) us
remains_turn g h start ns i n us lt is a r =
    let e : drop i ns ≡ n ∷ drop (i + 1) ns = drop_more ns i n lt ∙ ap (λ x. x ∷ drop (i + 1) ns) (sym is) in
    remains_over g h start (view n) (views (drop (i + 1) ns)) us a (rw e at r)

pub remains_end : (g start : Gathered) (us : Trees) → Remains g start none us → Adds start g (flat_of_all us) (visible (items_of_all us)) (list_found start us)
remains_end g start us r = record {
  bytes = sym (append-nil (bytes_so_far g)) ∙ r.bytes;
  items = sym (append-nil (seen_so_far g)) ∙ r.items;
  nodes = sym (append-nil (found_so_far g)) ∙ r.nodes;
}

-- ---- a node with a number

set_at : {A : Type 0} (as_ xs : List A) (x y : A) → slice_set (as_ ++ (x ∷ xs)) (length as_) y ≡ as_ ++ (y ∷ xs)
set_at [] xs x y = refl
set_at (a ∷ as_) xs x y = ap (λ zs. a ∷ zs) (set_at as_ xs x y)

ended_is : (g h : Gathered) (t : Tree) → bytes_so_far h ≡ bytes_so_far g ++ flat t
    → seen_so_far h ≡ seen_so_far g ++ visible (items t) → Path KeptNode (record { node = t; extent = ended h (begun g) }) (own_found g t)
ended_is g h t e f =
    let m : length (bytes_so_far h) ≡ length (bytes_so_far g) + length (flat t) = ap length e ∙ length-append (bytes_so_far g) (flat t) in
    let n : length (seen_so_far h) ≡ length (seen_so_far g) + length (visible (items t)) = ap length f ∙ length-append (seen_so_far g) (visible (items t)) in
    λ i. record { node = t; extent = record { start = length (bytes_so_far g); end = m i; from = length (seen_so_far g); to = n i } }

same_begin : (g h : Gathered) (l : Label) (ts : Trees) → bytes_so_far h ≡ bytes_so_far g ++ []
    → seen_so_far h ≡ seen_so_far g ++ [] → inside_found h l ts ≡ inside_found g l ts
same_begin g h l ts e f =
    let m : length (bytes_so_far h) ≡ length (bytes_so_far g) = ap length (e ∙ append-nil (bytes_so_far g)) in
    let n : length (seen_so_far h) ≡ length (seen_so_far g) = ap length (f ∙ append-nil (seen_so_far g)) in
    ap (λ (k : ℕ). if holds_kept l then found_in (k + length l.opening) (length (seen_so_far h) + length l.opening) ts else []) m
    ∙ ap (λ (k : ℕ). if holds_kept l then found_in (length (bytes_so_far g) + length l.opening) (k + length l.opening) ts else []) n

-- the node is put down as it begins, and again when its end is known
pub numbered : (t : Tree) (l : Label) (ts : Trees) (g h k m : Gathered) (p : KeptNode) → Adds g h [] [] (p ∷ [])
    → Adds h k (flat t) (visible (items t)) (inside_found h l ts)
    → bytes_so_far m ≡ bytes_so_far k → seen_so_far m ≡ seen_so_far k → found_so_far m
    ≡ slice_set (found_so_far k) (length (found_so_far g)) (record { node = t; extent = ended k (begun g) })
    → Adds g m (flat t) (visible (items t)) (own_found g t ∷ inside_found g l ts)
numbered t l ts g h k m p a b e f s =
    let by : bytes_so_far k ≡ bytes_so_far g ++ flat t = b.bytes ∙ ap (λ xs. xs ++ flat t) (a.bytes ∙ append-nil (bytes_so_far g)) in
    let it : seen_so_far k ≡ seen_so_far g ++ visible (items t) = b.items ∙ ap (λ xs. xs ++ visible (items t)) (a.items ∙ append-nil (seen_so_far g)) in
    let no : found_so_far k ≡ found_so_far g ++ (p ∷ inside_found g l ts) =
    b.nodes ∙ ap (λ xs. xs ++ inside_found h l ts) a.nodes ∙ append_assoc (found_so_far g) (p ∷ []) (inside_found h l ts)
    ∙ ap (λ xs. found_so_far g ++ (p ∷ xs)) (same_begin g h l ts a.bytes a.items) in
    record {
      bytes = e ∙ by;
      items = f ∙ it;
      nodes = s ∙ ap (λ xs. slice_set xs (length (found_so_far g)) (record { node = t; extent = ended k (begun g) })) no
          ∙ set_at (found_so_far g) (inside_found g l ts) p (record { node = t; extent = ended k (begun g) })
          ∙ ap (λ x. found_so_far g ++ (x ∷ inside_found g l ts)) (ended_is g k t by it);
    }

pub has_room : (g h k : Gathered) (p : KeptNode) (s : List ℕ) (i : List Item) (f : List KeptNode) → Adds g h [] [] (p ∷ [])
    → Adds h k s i f → length (found_so_far g) < length (found_so_far k)
has_room g h k p s i f a b =
    rw (b.nodes, a.nodes, length-append, length-append) (search arith)

pub map_set : {A B : Type 0} (f : A → B) (xs : List A) (i : ℕ) (y : A) → map f (slice_set xs i y) ≡ slice_set (map f xs) i (f y)
map_set f [] i y = refl
map_set f (x ∷ xs) zero y = refl
map_set f (x ∷ xs) (suc i) y = ap (λ zs. f x ∷ zs) (map_set f xs i y)
