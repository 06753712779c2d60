-- What stays of a retyped content is sent as it is, where each node with its number is.
use Rattle.std.proofs.Common.{arith, ap, sym, subst, ◌≡◌, ◌∙◌, ℕ, List, [], ◌∷◌, ◌++◌, refl}
use Rattle.std.specs.List.{AllByRecursion}
use Rattle.wt_tree.specs.Tree.{Label, Tree, tree, Trees, none, more, label}
use Rattle.wt_tree.specs.declared.edit_shape.InlineForm.{InlineForm}
use Rattle.wt_tree.specs.declared.edit_shape.InlineForm.TheVariants as inline
use Rattle.wt_tree.specs.EditShapes.{edit_shape}
use Rattle.wt_typed_blocks.specs.Edited.{Pieces, no_pieces, kept, around, PiecesStay, IsStyle}
use Rattle.wt_typed_blocks.specs.Sent.{IsSentAsIs, StandsAsIs}
use Rattle.wt_link_spelling.specs.Spelling.{children_of}
use Rattle.wt_inside_laws.specs.Contents.{Border, element, bold, italic, end, borders_by, borders_of, borders}
use Rattle.wt_inside_laws.specs.RetypedPieces.{next_by, up_to_node, piece_by, piece_of, pieces_of, nodes_by, nodes_of, nodes, IsAsItWas, StaysWith, NodesStay}
use Rattle.wt_inside_laws.proofs.RetypedPieces.{head_of, IsNode, unlike, element_next, bold_next, italic_next}

all_parts : (P : Tree → Type 0) (xs ys : List Tree) → AllByRecursion P (xs ++ ys) → AllByRecursion P xs × AllByRecursion P ys
all_parts P [] ys h = (tt, h)
all_parts P (x ∷ xs) ys h = let r = all_parts P xs ys h.1 in ((h.0, r.0), r.1)

abbrev number_in : Border → ℕ
number_in (element n) = n
number_in (bold n) = n
number_in (italic n) = n
number_in end = 0

pub same_number : (x y : Border) (xs ys : List Border) → x ∷ xs ≡ y ∷ ys → number_in x ≡ number_in y
same_number x y xs ys e = ap (λ bs. number_in (head_of bs)) e

-- ---- up to the first node

next_stays : (f : InlineForm) (l : Label) (ws : Trees) (after here : Pieces) → (IsNode f → PiecesStay here)
    → (borders_by f l.id (borders ws) ≡ [] → nodes_by f (tree l ws) (nodes ws) ≡ [] → PiecesStay after) → PiecesStay (next_by f l after here)
next_stays inline.Nothing l ws after here h a = a refl refl
next_stays inline.Characters l ws after here h a = a refl refl
next_stays inline.Bold l ws after here h a = h tt
next_stays inline.Italic l ws after here h a = h tt
next_stays inline.Shown l ws after here h a = h tt
next_stays inline.PageLink l ws after here h a = h tt
next_stays inline.ExternalLink l ws after here h a = h tt
next_stays inline.Tag l ws after here h a = h tt
next_stays inline.Break l ws after here h a = h tt
next_stays inline.AsItStood l ws after here h a = h tt

up_stays : (Q : Tree → Type 0) (x : Border) (xs : List Border) (us : Trees) (then_so : Tree → Trees → Pieces) → AllByRecursion Q (nodes us) → x ∷ xs ≡ borders us
    → ((m : Label) (ws vs : Trees) → IsNode (edit_shape m.kind).inline → AllByRecursion Q (nodes_of (tree m ws) ++ nodes vs)
    → x ∷ xs ≡ borders_of (tree m ws) ++ borders vs → PiecesStay (then_so (tree m ws) vs))
    → PiecesStay (up_to_node us then_so)
up_stays Q x xs none then_so q e h = tt
up_stays Q x xs (more (tree m ws) us) then_so q e h =
    next_stays (edit_shape m.kind).inline m ws (up_to_node us then_so) (then_so (tree m ws) us) (λ n. h m ws us n q e)
    (λ z w. up_stays Q x xs us then_so (subst (λ ns. AllByRecursion Q (ns ++ nodes us)) w q) (e ∙ ap (λ bs. bs ++ borders us) z) h)

last_stays : (us : Trees) → PiecesStay (up_to_node us (λ u vs. no_pieces))
last_stays none = tt
last_stays (more (tree m ws) us) =
    next_stays (edit_shape m.kind).inline m ws (up_to_node us (λ u vs. no_pieces)) no_pieces (λ n. tt) (λ z w. last_stays us)

-- ---- the node that is sent

element_all : (Q : Tree → Type 0) (f : InlineForm) (n : ℕ) (m : Label) (ws : Trees) (xs ys : List Border) (us : List Tree) → IsNode f
    → element n ∷ xs ≡ borders_by f m.id (borders ws) ++ ys → AllByRecursion Q (nodes_by f (tree m ws) (nodes ws) ++ us)
    → (m.id ≡ n) × Q (tree m ws) × AllByRecursion Q us
element_all Q inline.Nothing n m ws xs ys us h e q = absurd h
element_all Q inline.Characters n m ws xs ys us h e q = absurd h
element_all Q inline.Bold n m ws xs ys us h e q = absurd (unlike (element n) (bold m.id) xs ((borders ws ++ (end ∷ [])) ++ ys) (λ d. omega (arith, d)) e)
element_all Q inline.Italic n m ws xs ys us h e q = absurd (unlike (element n) (italic m.id) xs ((borders ws ++ (end ∷ [])) ++ ys) (λ d. omega (arith, d)) e)
element_all Q inline.Shown n m ws xs ys us h e q = (sym (same_number (element n) (element m.id) xs ys e), q.0, q.1)
element_all Q inline.PageLink n m ws xs ys us h e q = (sym (same_number (element n) (element m.id) xs ys e), q.0, q.1)
element_all Q inline.ExternalLink n m ws xs ys us h e q = (sym (same_number (element n) (element m.id) xs ys e), q.0, q.1)
element_all Q inline.Tag n m ws xs ys us h e q = (sym (same_number (element n) (element m.id) xs ys e), q.0, q.1)
element_all Q inline.Break n m ws xs ys us h e q = (sym (same_number (element n) (element m.id) xs ys e), q.0, q.1)
element_all Q inline.AsItStood n m ws xs ys us h e q = (sym (same_number (element n) (element m.id) xs ys e), q.0, q.1)

bold_all : (Q : Tree → Type 0) (f : InlineForm) (n : ℕ) (m : Label) (ws : Trees) (xs ys : List Border) (us : List Tree) → IsNode f
    → bold n ∷ xs ≡ borders_by f m.id (borders ws) ++ ys → AllByRecursion Q (nodes_by f (tree m ws) (nodes ws) ++ us)
    → (m.id ≡ n) × Q (tree m ws) × AllByRecursion Q (nodes ws) × AllByRecursion Q us
bold_all Q inline.Nothing n m ws xs ys us h e q = absurd h
bold_all Q inline.Characters n m ws xs ys us h e q = absurd h
bold_all Q inline.Bold n m ws xs ys us h e q = let r = all_parts Q (nodes ws) us q.1 in (sym (same_number (bold n) (bold m.id) xs ((borders ws ++ (end ∷ [])) ++ ys) e), q.0, r.0, r.1)
bold_all Q inline.Italic n m ws xs ys us h e q = absurd (unlike (bold n) (italic m.id) xs ((borders ws ++ (end ∷ [])) ++ ys) (λ d. omega (arith, d)) e)
bold_all Q inline.Shown n m ws xs ys us h e q = absurd (unlike (bold n) (element m.id) xs ys (λ d. omega (arith, d)) e)
bold_all Q inline.PageLink n m ws xs ys us h e q = absurd (unlike (bold n) (element m.id) xs ys (λ d. omega (arith, d)) e)
bold_all Q inline.ExternalLink n m ws xs ys us h e q = absurd (unlike (bold n) (element m.id) xs ys (λ d. omega (arith, d)) e)
bold_all Q inline.Tag n m ws xs ys us h e q = absurd (unlike (bold n) (element m.id) xs ys (λ d. omega (arith, d)) e)
bold_all Q inline.Break n m ws xs ys us h e q = absurd (unlike (bold n) (element m.id) xs ys (λ d. omega (arith, d)) e)
bold_all Q inline.AsItStood n m ws xs ys us h e q = absurd (unlike (bold n) (element m.id) xs ys (λ d. omega (arith, d)) e)

italic_all : (Q : Tree → Type 0) (f : InlineForm) (n : ℕ) (m : Label) (ws : Trees) (xs ys : List Border) (us : List Tree) → IsNode f
    → italic n ∷ xs ≡ borders_by f m.id (borders ws) ++ ys → AllByRecursion Q (nodes_by f (tree m ws) (nodes ws) ++ us)
    → (m.id ≡ n) × Q (tree m ws) × AllByRecursion Q (nodes ws) × AllByRecursion Q us
italic_all Q inline.Nothing n m ws xs ys us h e q = absurd h
italic_all Q inline.Characters n m ws xs ys us h e q = absurd h
italic_all Q inline.Bold n m ws xs ys us h e q = absurd (unlike (italic n) (bold m.id) xs ((borders ws ++ (end ∷ [])) ++ ys) (λ d. omega (arith, d)) e)
italic_all Q inline.Italic n m ws xs ys us h e q = let r = all_parts Q (nodes ws) us q.1 in (sym (same_number (italic n) (italic m.id) xs ((borders ws ++ (end ∷ [])) ++ ys) e), q.0, r.0, r.1)
italic_all Q inline.Shown n m ws xs ys us h e q = absurd (unlike (italic n) (element m.id) xs ys (λ d. omega (arith, d)) e)
italic_all Q inline.PageLink n m ws xs ys us h e q = absurd (unlike (italic n) (element m.id) xs ys (λ d. omega (arith, d)) e)
italic_all Q inline.ExternalLink n m ws xs ys us h e q = absurd (unlike (italic n) (element m.id) xs ys (λ d. omega (arith, d)) e)
italic_all Q inline.Tag n m ws xs ys us h e q = absurd (unlike (italic n) (element m.id) xs ys (λ d. omega (arith, d)) e)
italic_all Q inline.Break n m ws xs ys us h e q = absurd (unlike (italic n) (element m.id) xs ys (λ d. omega (arith, d)) e)
italic_all Q inline.AsItStood n m ws xs ys us h e q = absurd (unlike (italic n) (element m.id) xs ys (λ d. omega (arith, d)) e)

-- ---- the node of the page

kept_stays : (Q : Tree → Type 0) (l : Label) (ts old us : Trees) (after : Trees → Pieces) → AllByRecursion Q (nodes us) → element l.id ∷ borders old ≡ borders us
    → ((u : Tree) → Q u → (label u).id ≡ l.id → StandsAsIs (tree l ts) u)
    → ((vs : Trees) → AllByRecursion Q (nodes vs) → borders old ≡ borders vs → PiecesStay (after vs))
    → PiecesStay (up_to_node us (λ u vs. kept (tree l ts) u (after vs)))
kept_stays Q l ts old us after q e s h = up_stays Q (element l.id) (borders old) us (λ u vs. kept (tree l ts) u (after vs)) q e
    (λ m ws vs n a z.
    let r = element_all Q (edit_shape m.kind).inline l.id m ws (borders old) (borders vs) (nodes vs) n z a in
    (s (tree m ws) r.1 r.0, h vs r.2 (element_next (edit_shape m.kind).inline l.id m.id (borders ws) (borders old) (borders vs) n z)))

bold_stays : (Q : Tree → Type 0) (l : Label) (ts old us : Trees) (inside after : Trees → Pieces) → AllByRecursion Q (nodes us)
    → bold l.id ∷ ((borders ts ++ (end ∷ [])) ++ borders old) ≡ borders us
    → ((u : Tree) → Q u → (label u).id ≡ l.id → IsStyle l.kind × IsSentAsIs l (label u))
    → ((ws : Trees) → AllByRecursion Q (nodes ws) → borders ts ≡ borders ws → PiecesStay (inside ws))
    → ((vs : Trees) → AllByRecursion Q (nodes vs) → borders old ≡ borders vs → PiecesStay (after vs))
    → PiecesStay (up_to_node us (λ u vs. around l (label u) (inside (children_of u)) (after vs)))
bold_stays Q l ts old us inside after q e s g h =
    up_stays Q (bold l.id) ((borders ts ++ (end ∷ [])) ++ borders old) us (λ u vs. around l (label u) (inside (children_of u)) (after vs)) q e
    (λ m ws vs n a z.
    let b = bold_next (edit_shape m.kind).inline l.id m.id ts ws (borders old) (borders vs) n z in
    let r = bold_all Q (edit_shape m.kind).inline l.id m ws ((borders ts ++ (end ∷ [])) ++ borders old) (borders vs) (nodes vs) n z a in
    let i = s (tree m ws) r.1 r.0 in
    (i.0, i.1, g ws r.2 b.0, h vs r.3 b.1))

italic_stays : (Q : Tree → Type 0) (l : Label) (ts old us : Trees) (inside after : Trees → Pieces) → AllByRecursion Q (nodes us)
    → italic l.id ∷ ((borders ts ++ (end ∷ [])) ++ borders old) ≡ borders us
    → ((u : Tree) → Q u → (label u).id ≡ l.id → IsStyle l.kind × IsSentAsIs l (label u))
    → ((ws : Trees) → AllByRecursion Q (nodes ws) → borders ts ≡ borders ws → PiecesStay (inside ws))
    → ((vs : Trees) → AllByRecursion Q (nodes vs) → borders old ≡ borders vs → PiecesStay (after vs))
    → PiecesStay (up_to_node us (λ u vs. around l (label u) (inside (children_of u)) (after vs)))
italic_stays Q l ts old us inside after q e s g h =
    up_stays Q (italic l.id) ((borders ts ++ (end ∷ [])) ++ borders old) us (λ u vs. around l (label u) (inside (children_of u)) (after vs)) q e
    (λ m ws vs n a z.
    let b = italic_next (edit_shape m.kind).inline l.id m.id ts ws (borders old) (borders vs) n z in
    let r = italic_all Q (edit_shape m.kind).inline l.id m ws ((borders ts ++ (end ∷ [])) ++ borders old) (borders vs) (nodes vs) n z a in
    let i = s (tree m ws) r.1 r.0 in
    (i.0, i.1, g ws r.2 b.0, h vs r.3 b.1))

abbrev nodes_in : InlineForm → Trees → List Tree
nodes_in inline.Nothing ts = []
nodes_in inline.Characters ts = []
nodes_in inline.Bold ts = nodes ts
nodes_in inline.Italic ts = nodes ts
nodes_in inline.Shown ts = []
nodes_in inline.PageLink ts = []
nodes_in inline.ExternalLink ts = []
nodes_in inline.Tag ts = []
nodes_in inline.Break ts = []
nodes_in inline.AsItStood ts = []

abbrev StandsFor : InlineForm → (Tree → Type 0) → Label → Trees → Type 0
StandsFor inline.Nothing Q l ts = Unit {0}
StandsFor inline.Characters Q l ts = Unit {0}
StandsFor inline.Bold Q l ts = (u : Tree) → Q u → (label u).id ≡ l.id → IsStyle l.kind × IsSentAsIs l (label u)
StandsFor inline.Italic Q l ts = (u : Tree) → Q u → (label u).id ≡ l.id → IsStyle l.kind × IsSentAsIs l (label u)
StandsFor inline.Shown Q l ts = (u : Tree) → Q u → (label u).id ≡ l.id → StandsAsIs (tree l ts) u
StandsFor inline.PageLink Q l ts = (u : Tree) → Q u → (label u).id ≡ l.id → StandsAsIs (tree l ts) u
StandsFor inline.ExternalLink Q l ts = (u : Tree) → Q u → (label u).id ≡ l.id → StandsAsIs (tree l ts) u
StandsFor inline.Tag Q l ts = (u : Tree) → Q u → (label u).id ≡ l.id → StandsAsIs (tree l ts) u
StandsFor inline.Break Q l ts = (u : Tree) → Q u → (label u).id ≡ l.id → StandsAsIs (tree l ts) u
StandsFor inline.AsItStood Q l ts = (u : Tree) → Q u → (label u).id ≡ l.id → StandsAsIs (tree l ts) u

stays_for : (f : InlineForm) (P Q : Tree → Type 0) (l : Label) (ts : Trees) (xs : List Tree) → AllByRecursion P (nodes_by f (tree l ts) (nodes ts) ++ xs)
    → ((u : Tree) → P (tree l ts) → Q u → (label u).id ≡ l.id → IsAsItWas f (tree l ts) u)
    → StandsFor f Q l ts × AllByRecursion P (nodes_in f ts) × AllByRecursion P xs
stays_for inline.Nothing P Q l ts xs p s = (tt, tt, p)
stays_for inline.Characters P Q l ts xs p s = (tt, tt, p)
stays_for inline.Bold P Q l ts xs p s = let r = all_parts P (nodes ts) xs p.1 in (λ u q n. s u p.0 q n, r.0, r.1)
stays_for inline.Italic P Q l ts xs p s = let r = all_parts P (nodes ts) xs p.1 in (λ u q n. s u p.0 q n, r.0, r.1)
stays_for inline.Shown P Q l ts xs p s = (λ u q n. s u p.0 q n, tt, p.1)
stays_for inline.PageLink P Q l ts xs p s = (λ u q n. s u p.0 q n, tt, p.1)
stays_for inline.ExternalLink P Q l ts xs p s = (λ u q n. s u p.0 q n, tt, p.1)
stays_for inline.Tag P Q l ts xs p s = (λ u q n. s u p.0 q n, tt, p.1)
stays_for inline.Break P Q l ts xs p s = (λ u q n. s u p.0 q n, tt, p.1)
stays_for inline.AsItStood P Q l ts xs p s = (λ u q n. s u p.0 q n, tt, p.1)

one_stays : (f : InlineForm) (P Q : Tree → Type 0) (l : Label) (ts old us : Trees) (inside after : Trees → Pieces) → AllByRecursion Q (nodes us)
    → borders_by f l.id (borders ts) ++ borders old ≡ borders us → StandsFor f Q l ts → AllByRecursion P (nodes_in f ts)
    → (AllByRecursion P (nodes ts) → (ws : Trees) → AllByRecursion Q (nodes ws) → borders ts ≡ borders ws → PiecesStay (inside ws))
    → ((vs : Trees) → AllByRecursion Q (nodes vs) → borders old ≡ borders vs → PiecesStay (after vs))
    → PiecesStay (piece_by f l ts inside after us)
one_stays inline.Nothing P Q l ts old us inside after q e s p g h = h us q e
one_stays inline.Characters P Q l ts old us inside after q e s p g h = h us q e
one_stays inline.Bold P Q l ts old us inside after q e s p g h = bold_stays Q l ts old us inside after q e s (g p) h
one_stays inline.Italic P Q l ts old us inside after q e s p g h = italic_stays Q l ts old us inside after q e s (g p) h
one_stays inline.Shown P Q l ts old us inside after q e s p g h = kept_stays Q l ts old us after q e s h
one_stays inline.PageLink P Q l ts old us inside after q e s p g h = kept_stays Q l ts old us after q e s h
one_stays inline.ExternalLink P Q l ts old us inside after q e s p g h = kept_stays Q l ts old us after q e s h
one_stays inline.Tag P Q l ts old us inside after q e s p g h = kept_stays Q l ts old us after q e s h
one_stays inline.Break P Q l ts old us inside after q e s p g h = kept_stays Q l ts old us after q e s h
one_stays inline.AsItStood P Q l ts old us inside after q e s p g h = kept_stays Q l ts old us after q e s h

mutual
  tree_stays : (P Q : Tree → Type 0) → ((t u : Tree) → P t → Q u → StaysWith t u) → (t : Tree) (old us : Trees) (after : Trees → Pieces)
      → AllByRecursion P (nodes_of t ++ nodes old) → AllByRecursion Q (nodes us) → borders_of t ++ borders old ≡ borders us
      → (AllByRecursion P (nodes old) → (vs : Trees) → AllByRecursion Q (nodes vs) → borders old ≡ borders vs → PiecesStay (after vs))
      → PiecesStay (piece_of t after us)
  tree_stays P Q s (tree l ts) old us after p q e h =
      let r = stays_for (edit_shape l.kind).inline P Q l ts (nodes old) p (λ u a b n. s (tree l ts) u a b n) in
      one_stays (edit_shape l.kind).inline P Q l ts old us (λ ws. pieces_of ts ws) after q e r.0 r.1
      (λ a ws b z. trees_stay P Q s ts ws a b z) (h r.2)

  trees_stay : (P Q : Tree → Type 0) → ((t u : Tree) → P t → Q u → StaysWith t u) → (ts us : Trees)
      → AllByRecursion P (nodes ts) → AllByRecursion Q (nodes us) → borders ts ≡ borders us → PiecesStay (pieces_of ts us)
  trees_stay P Q s none us p q e = last_stays us
  trees_stay P Q s (more t ts) us p q e = tree_stays P Q s t ts us (λ vs. pieces_of ts vs) p q e (λ a vs b z. trees_stay P Q s ts vs a b z)

all_among : (xs ys : List Tree) → ((t : Tree) → AllByRecursion (λ u. StaysWith t u) xs → AllByRecursion (λ u. StaysWith t u) ys)
    → AllByRecursion (λ u. (t : Tree) → AllByRecursion (λ v. StaysWith t v) xs → StaysWith t u) ys
all_among xs [] k = tt
all_among xs (y ∷ ys) k = (λ t a. (k t a).0, all_among xs ys (λ t a. (k t a).1))

pub retyped_stay : (ts us : Trees) → borders us ≡ borders ts → NodesStay ts us → PiecesStay (pieces_of ts us)
retyped_stay ts us e p =
    trees_stay (λ t. AllByRecursion (λ u. StaysWith t u) (nodes us)) (λ u. (t : Tree) → AllByRecursion (λ v. StaysWith t v) (nodes us) → StaysWith t u)
    (λ t u a b. b t a) ts us p (all_among (nodes us) (nodes us) (λ t a. a)) (sym e)
