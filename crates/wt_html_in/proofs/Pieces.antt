-- Pieces are gathered one after another.
use Rattle.std.proofs.Common.{◌≡◌, ℕ, Bool, true, false, Option, Some, None, List, [], ◌∷◌, ◌++◌, refl, sym, ap, ap₂, ◌∙◌, rules}
use Rattle.std.specs.Prelude.{is_some}
use Rattle.wt_tree.specs.Tree.{Label, Tree, tree, Trees, none, more}
use Rattle.wt_tree.specs.View.{label_of, view, views}
use Rattle.wt_tree.specs.declared.node.Node.{Node, Node-F, out-Node, roll-Node, out-roll-Node}
use Rattle.wt_tree.proofs.Views.{view_out}
use Rattle.wt_recut.specs.Recutting.{appended}
use Rattle.wt_schema.specs.Groups.{Piece, single, begun, further, furthers, gathered}
use Rattle.wt_html_in.specs.Gathering.{with_child, into_last, gathered_with}
use Rattle.wt_html_in.proofs.Blocks.{Moves}

-- one piece, or none
abbrev pub listed : Option Piece → List Piece
listed None = []
listed (Some x) = x ∷ []

-- whether the last piece is in a group, where there is one before them or not
abbrev pub ends_open : Bool → List Piece → Bool
ends_open b [] = b
ends_open b (single t ∷ xs) = ends_open false xs
ends_open b (begun l t ∷ xs) = ends_open true xs
ends_open b (further t ∷ xs) = ends_open b xs

-- all are further nodes
abbrev only_further : List Piece → Bool
only_further [] = true
only_further (single t ∷ xs) = false
only_further (begun l t ∷ xs) = false
only_further (further t ∷ xs) = only_further xs

-- ---- a node by itself, or a group

furthers_single : (xs : List Piece) (t : Tree) → furthers (xs ++ single t ∷ []) ≡ furthers xs
furthers_single [] t = refl
furthers_single (single u ∷ xs) t = refl
furthers_single (begun l u ∷ xs) t = refl
furthers_single (further u ∷ xs) t = ap (more u) (furthers_single xs t)

furthers_begun : (xs : List Piece) (l : Label) (t : Tree) → furthers (xs ++ begun l t ∷ []) ≡ furthers xs
furthers_begun [] l t = refl
furthers_begun (single u ∷ xs) l t = refl
furthers_begun (begun m u ∷ xs) l t = refl
furthers_begun (further u ∷ xs) l t = ap (more u) (furthers_begun xs l t)

gathered_single : (xs : List Piece) (t : Tree) → gathered (xs ++ single t ∷ []) ≡ appended (gathered xs) (more t none)
gathered_single [] t = refl
gathered_single (single u ∷ xs) t = ap (more u) (gathered_single xs t)
gathered_single (begun l u ∷ xs) t =
    ap (λ us. more (tree l (more u us)) (gathered (xs ++ single t ∷ []))) (furthers_single xs t)
    ∙ ap (more (tree l (more u (furthers xs)))) (gathered_single xs t)
gathered_single (further u ∷ xs) t = gathered_single xs t

gathered_begun : (xs : List Piece) (l : Label) (t : Tree) → gathered (xs ++ begun l t ∷ []) ≡ appended (gathered xs) (more (tree l (more t none)) none)
gathered_begun [] l t = refl
gathered_begun (single u ∷ xs) l t = ap (more u) (gathered_begun xs l t)
gathered_begun (begun m u ∷ xs) l t =
    ap (λ us. more (tree m (more u us)) (gathered (xs ++ begun l t ∷ []))) (furthers_begun xs l t)
    ∙ ap (more (tree m (more u (furthers xs)))) (gathered_begun xs l t)
gathered_begun (further u ∷ xs) l t = gathered_begun xs l t

-- ---- a further node

-- all others are, or the last one is in a group of theirs
abbrev Ends : List Piece → Bool → Type 0
Ends xs true = only_further xs ≡ true
Ends xs false = ends_open false xs ≡ true

ends : (xs : List Piece) → ends_open true xs ≡ true → (b : Bool) × Ends xs b
ends [] e = (true, refl)
ends (single t ∷ xs) e = (false, e)
ends (begun l t ∷ xs) e = (false, e)
ends (further t ∷ xs) e = ends xs e

only_none : (xs : List Piece) → only_further xs ≡ true → gathered xs ≡ none
only_none [] e = refl
only_none (single t ∷ xs) e = cc
only_none (begun l t ∷ xs) e = cc
only_none (further t ∷ xs) e = only_none xs e

only_more : (xs : List Piece) (t : Tree) → only_further xs ≡ true → gathered (xs ++ further t ∷ []) ≡ none
only_more [] t e = refl
only_more (single u ∷ xs) t e = cc
only_more (begun l u ∷ xs) t e = cc
only_more (further u ∷ xs) t e = only_more xs t e

furthers_more : (xs : List Piece) (t : Tree) → only_further xs ≡ true → furthers (xs ++ further t ∷ []) ≡ appended (furthers xs) (more t none)
furthers_more [] t e = refl
furthers_more (single u ∷ xs) t e = cc
furthers_more (begun l u ∷ xs) t e = cc
furthers_more (further u ∷ xs) t e = ap (more u) (furthers_more xs t e)

furthers_same : (xs : List Piece) (t : Tree) → ends_open false xs ≡ true → furthers (xs ++ further t ∷ []) ≡ furthers xs
furthers_same [] t e = cc
furthers_same (single u ∷ xs) t e = refl
furthers_same (begun l u ∷ xs) t e = refl
furthers_same (further u ∷ xs) t e = ap (more u) (furthers_same xs t e)

-- something is gathered of them
abbrev IsSome : Trees → Type 0
IsSome none = ⊥
IsSome (more t ts) = Unit {0}

gathered_some : (xs : List Piece) → ends_open false xs ≡ true → IsSome (gathered xs)
gathered_some [] e = cc
gathered_some (single t ∷ xs) e = tt
gathered_some (begun l t ∷ xs) e = tt
gathered_some (further t ∷ xs) e = gathered_some xs e

into_behind : (u : Tree) (ts : Trees) (t : Tree) → IsSome ts → into_last (more u ts) t ≡ more u (into_last ts t)
into_behind u none t e = absurd e
into_behind u (more v ts) t e = refl

gathered_further : (xs : List Piece) (t : Tree) → ends_open false xs ≡ true → gathered (xs ++ further t ∷ []) ≡ into_last (gathered xs) t
gathered_further [] t e = cc
gathered_further (single u ∷ xs) t e = ap (more u) (gathered_further xs t e) ∙ sym (into_behind u (gathered xs) t (gathered_some xs e))
gathered_further (begun l u ∷ xs) t e = by_ends (ends xs e) (λ f. gathered_further xs t f)
  where
    by_ends : (b : Bool) × Ends xs b → (ends_open false xs ≡ true → gathered (xs ++ further t ∷ []) ≡ into_last (gathered xs) t)
        → more (tree l (more u (furthers (xs ++ further t ∷ [])))) (gathered (xs ++ further t ∷ []))
        ≡ into_last (more (tree l (more u (furthers xs))) (gathered xs)) t
    by_ends (true, f) again =
        ap (λ us. more (tree l (more u us)) (gathered (xs ++ further t ∷ []))) (furthers_more xs t f)
        ∙ ap (more (tree l (more u (appended (furthers xs) (more t none))))) (only_more xs t f)
        ∙ sym (ap (λ us. into_last (more (tree l (more u (furthers xs))) us) t) (only_none xs f))
    by_ends (false, f) again =
        ap (λ us. more (tree l (more u us)) (gathered (xs ++ further t ∷ []))) (furthers_same xs t f)
        ∙ ap (more (tree l (more u (furthers xs)))) (again f)
        ∙ sym (into_behind (tree l (more u (furthers xs))) (gathered xs) t (gathered_some xs f))
gathered_further (further u ∷ xs) t e = gathered_further xs t e

-- ---- any piece

pub append_none : (xs : List Piece) → xs ++ [] ≡ xs
append_none [] = refl
append_none (x ∷ xs) = ap (λ ys. x ∷ ys) (append_none xs)

-- where it is a further one, the last piece is in a group
abbrev pub MayFollow : Bool → Option Piece → Type 0
MayFollow b None = Unit {0}
MayFollow b (Some (single t)) = Unit {0}
MayFollow b (Some (begun l t)) = Unit {0}
MayFollow b (Some (further t)) = b ≡ true

pub gathered_add : (xs : List Piece) (o : Option Piece) → MayFollow (ends_open false xs) o
    → gathered (xs ++ listed o) ≡ gathered_with (gathered xs) o
gathered_add xs None e = ap gathered (append_none xs)
gathered_add xs (Some (single t)) e = gathered_single xs t
gathered_add xs (Some (begun l t)) e = gathered_begun xs l t
gathered_add xs (Some (further t)) e = gathered_further xs t e

ends_begun : (b : Bool) (xs : List Piece) (l : Label) (t : Tree) → ends_open b (xs ++ begun l t ∷ []) ≡ true
ends_begun b [] l t = refl
ends_begun b (single u ∷ xs) l t = ends_begun false xs l t
ends_begun b (begun m u ∷ xs) l t = ends_begun true xs l t
ends_begun b (further u ∷ xs) l t = ends_begun b xs l t

ends_further : (b : Bool) (xs : List Piece) (t : Tree) → ends_open b (xs ++ further t ∷ []) ≡ ends_open b xs
ends_further b [] t = refl
ends_further b (single u ∷ xs) t = ends_further false xs t
ends_further b (begun l u ∷ xs) t = ends_further true xs t
ends_further b (further u ∷ xs) t = ends_further b xs t

pub follows : (g h : Option (List ℕ)) (xs : List Piece) (o : Option Piece) → Moves g h o → (is_some g ≡ true → ends_open false xs ≡ true)
    → MayFollow (ends_open false xs) o
follows g h xs None m e = tt
follows g h xs (Some (single t)) m e = tt
follows g h xs (Some (begun l t)) m e = tt
follows g h xs (Some (further t)) m e = e m

pub stays_open : (g h : Option (List ℕ)) (xs : List Piece) (o : Option Piece) → Moves g h o → (is_some g ≡ true → ends_open false xs ≡ true)
    → is_some h ≡ true → ends_open false (xs ++ listed o) ≡ true
stays_open g h xs None m e f = ap (ends_open false) (append_none xs) ∙ e (m f)
stays_open g h xs (Some (single t)) m e f = closed h m f
  where
    closed : (h : Option (List ℕ)) → h ≡ None → is_some h ≡ true → ends_open false (xs ++ single t ∷ []) ≡ true
    closed None m f = cc
    closed (Some a) m f = cc
stays_open g h xs (Some (begun l t)) m e f = ends_begun false xs l t
stays_open g h xs (Some (further t)) m e f = ends_further false xs t ∙ e m

-- ---- nodes in a vector

pub views_push : (ns : List Node) (n : Node) → views (ns ++ n ∷ []) ≡ appended (views ns) (more (view n) none)
views_push [] n = refl
views_push (m ∷ ns) n = ap (more (view m)) (views_push ns n)

pub into_pushed : (ns : List Node) (last : Node) (t : Tree) → into_last (views (ns ++ last ∷ [])) t ≡ appended (views ns) (more (with_child (view last) t) none)
into_pushed [] last t = refl
into_pushed (m ∷ []) last t = refl
into_pushed (m ∷ n ∷ ns) last t = ap (more (view m)) (into_pushed (n ∷ ns) last t)

pub child_added : (n m c : Node) → label_of (out-Node m) ≡ label_of (out-Node n) → (out-Node m).children ≡ (out-Node n).children ++ c ∷ []
    → view m ≡ with_child (view n) (view c)
child_added n m c e f =
    view_out m ∙ ap₂ (λ l cs. tree l (views cs)) e f ∙ ap (tree (label_of (out-Node n))) (views_push (out-Node n).children c)
    ∙ sym (ap (λ t. with_child t (view c)) (view_out n))

pub child_rolled : (n c : Node) (cs : List Node) → cs ≡ (out-Node n).children ++ c ∷ []
    → view (roll-Node (record (out-Node n) { children = cs })) ≡ with_child (view n) (view c)
child_rolled n c cs e =
    let m : Node = roll-Node (record (out-Node n) { children = cs }) in
    let is : out-Node m ≡ record (out-Node n) { children = cs } = search (rules, out-roll-Node) in
    child_added n m c (ap label_of is) (ap (λ (r : Node-F Node). r.children) is ∙ e)
