-- The pieces of a retyped content with the page's own nodes: what is in them.
use Rattle.std.proofs.Common.{arith, ◌≡◌, ◌⊎◌, ℕ, suc, false, List, [], ◌∷◌, ◌++◌, refl, sym, ap, ap₂, ◌∙◌, subst, inl, inr}
use Rattle.wt_tree.specs.declared.kind.Kind.{Kind}
use Rattle.wt_tree.specs.declared.kind.Kind.TheVariants as kind
use Rattle.wt_tree.specs.declared.edit_shape.InlineForm.{InlineForm}
use Rattle.wt_tree.specs.declared.edit_shape.InlineForm.TheVariants as inline
use Rattle.wt_tree.specs.EditShapes.{edit_shape}
use Rattle.wt_tree.specs.Tiling.{is_group}
use Rattle.wt_tree.specs.Tree.{Label, Tree, tree, Trees, none, more, label}
use Rattle.wt_link_spelling.specs.Spelling.{children_of}
use Rattle.wt_recut.specs.Recutting.{appended}
use Rattle.wt_typed_blocks.specs.Edited.{IsStyle, Pieces, no_pieces, gone, written, kept, around, new_style, page_pieces, PiecesStay}
use Rattle.wt_typed_blocks.proofs.SentGroups.{style_ungrouped}
use Rattle.wt_called_edit_laws.specs.SentAsIs.{HasNumberedGroups, HaveNumberedGroups}
use Rattle.wt_called_edit_laws.proofs.Cells.SentAsIs.{stands_as_sent}
use Rattle.wt_inside_laws.specs.Contents.{Border, element, bold, italic, end, borders_by, borders_of, borders}
use Rattle.wt_inside_laws.specs.RetypedPieces.{next_by, up_to_node, piece_by, piece_of, pieces_of, as_own}
use Rattle.wt_inside_laws.proofs.Groups.{inner_numbered}
use Rattle.wt_inside_laws.proofs.RetypedPieces.{IsNode, unlike, element_next, bold_next, italic_next}
use Rattle.wt_inside_laws.proofs.RetypedStay.{same_number}
use Rattle.wt_inside_laws.proofs.SlotTexts.{LeavesBy, LeavesOf, AllLeaves}

-- ---- of the page they are the same

pub own_page : (ps : Pieces) → page_pieces (as_own ps) ≡ page_pieces ps
own_page no_pieces = refl
own_page (gone t ps) = ap (more t) (own_page ps)
own_page (written x text ps) = own_page ps
own_page (kept t u ps) = ap (more t) (own_page ps)
own_page (around l m is ps) = ap₂ (λ x y. more (tree l x) y) (own_page is) (own_page ps)
own_page (new_style m is ps) = ap₂ (λ x y. appended x y) (own_page is) (own_page ps)

-- ---- what is in such pieces

-- a node that is neither a text nor a style
abbrev pub IsElement : InlineForm → Type 0
IsElement inline.Nothing = ⊥
IsElement inline.Characters = ⊥
IsElement inline.Bold = ⊥
IsElement inline.Italic = ⊥
IsElement inline.Shown = Unit {0}
IsElement inline.PageLink = Unit {0}
IsElement inline.ExternalLink = Unit {0}
IsElement inline.Tag = Unit {0}
IsElement inline.Break = Unit {0}
IsElement inline.AsItStood = Unit {0}

-- both are bold, or both are italic
abbrev pub AreOfStyle : InlineForm → InlineForm → Type 0
AreOfStyle f g = ((f ≡ inline.Bold) × (g ≡ inline.Bold)) ⊎ ((f ≡ inline.Italic) × (g ≡ inline.Italic))

-- of each text, with how many styles are round it, of each node that is kept, and of each style; none is new
abbrev pub HoldIn : (ℕ → List ℕ → Type 0) → (Tree → Tree → Type 0) → (Label → Label → Type 0) → ℕ → Pieces → Type 0
HoldIn W K A d no_pieces = Unit {0}
HoldIn W K A d (gone t ps) = HoldIn W K A d ps
HoldIn W K A d (written x text ps) = W d text × HoldIn W K A d ps
HoldIn W K A d (kept t u ps) = K t u × HoldIn W K A d ps
HoldIn W K A d (around l m is ps) = A l m × HoldIn W K A (suc d) is × HoldIn W K A d ps
HoldIn W K A d (new_style m is ps) = ⊥

-- what is known of an element of the page and the one that was sent for it, and of a style
abbrev pub OfElements : (Tree → Tree → Type 0) → Type 0
OfElements K = (l : Label) (ts : Trees) (m : Label) (ws : Trees) → IsElement (edit_shape l.kind).inline → IsElement (edit_shape m.kind).inline → m.id ≡ l.id
    → HasNumberedGroups (tree l ts) → K (tree l ts) (tree m ws)

abbrev pub OfStyles : (Label → Label → Type 0) → Type 0
OfStyles A = (l m : Label) → IsStyle l.kind → AreOfStyle (edit_shape l.kind).inline (edit_shape m.kind).inline → m.id ≡ l.id → A l m

-- ---- the node that is sent

element_same : (f : InlineForm) (n m : ℕ) (bs xs ys : List Border) → IsNode f → element n ∷ xs ≡ borders_by f m bs ++ ys → IsElement f × (m ≡ n)
element_same inline.Nothing n m bs xs ys h e = absurd h
element_same inline.Characters n m bs xs ys h e = absurd h
element_same inline.Bold n m bs xs ys h e = absurd (unlike (element n) (bold m) xs ((bs ++ (end ∷ [])) ++ ys) (λ d. omega (arith, d)) e)
element_same inline.Italic n m bs xs ys h e = absurd (unlike (element n) (italic m) xs ((bs ++ (end ∷ [])) ++ ys) (λ d. omega (arith, d)) e)
element_same inline.Shown n m bs xs ys h e = (tt, sym (same_number (element n) (element m) xs ys e))
element_same inline.PageLink n m bs xs ys h e = (tt, sym (same_number (element n) (element m) xs ys e))
element_same inline.ExternalLink n m bs xs ys h e = (tt, sym (same_number (element n) (element m) xs ys e))
element_same inline.Tag n m bs xs ys h e = (tt, sym (same_number (element n) (element m) xs ys e))
element_same inline.Break n m bs xs ys h e = (tt, sym (same_number (element n) (element m) xs ys e))
element_same inline.AsItStood n m bs xs ys h e = (tt, sym (same_number (element n) (element m) xs ys e))

bold_same : (f : InlineForm) (n m : ℕ) (bs xs ys : List Border) → IsNode f → bold n ∷ xs ≡ borders_by f m bs ++ ys → (f ≡ inline.Bold) × (m ≡ n)
bold_same inline.Nothing n m bs xs ys h e = absurd h
bold_same inline.Characters n m bs xs ys h e = absurd h
bold_same inline.Bold n m bs xs ys h e = (refl, sym (same_number (bold n) (bold m) xs ((bs ++ (end ∷ [])) ++ ys) e))
bold_same inline.Italic n m bs xs ys h e = absurd (unlike (bold n) (italic m) xs ((bs ++ (end ∷ [])) ++ ys) (λ d. omega (arith, d)) e)
bold_same inline.Shown n m bs xs ys h e = absurd (unlike (bold n) (element m) xs ys (λ d. omega (arith, d)) e)
bold_same inline.PageLink n m bs xs ys h e = absurd (unlike (bold n) (element m) xs ys (λ d. omega (arith, d)) e)
bold_same inline.ExternalLink n m bs xs ys h e = absurd (unlike (bold n) (element m) xs ys (λ d. omega (arith, d)) e)
bold_same inline.Tag n m bs xs ys h e = absurd (unlike (bold n) (element m) xs ys (λ d. omega (arith, d)) e)
bold_same inline.Break n m bs xs ys h e = absurd (unlike (bold n) (element m) xs ys (λ d. omega (arith, d)) e)
bold_same inline.AsItStood n m bs xs ys h e = absurd (unlike (bold n) (element m) xs ys (λ d. omega (arith, d)) e)

italic_same : (f : InlineForm) (n m : ℕ) (bs xs ys : List Border) → IsNode f → italic n ∷ xs ≡ borders_by f m bs ++ ys → (f ≡ inline.Italic) × (m ≡ n)
italic_same inline.Nothing n m bs xs ys h e = absurd h
italic_same inline.Characters n m bs xs ys h e = absurd h
italic_same inline.Bold n m bs xs ys h e = absurd (unlike (italic n) (bold m) xs ((bs ++ (end ∷ [])) ++ ys) (λ d. omega (arith, d)) e)
italic_same inline.Italic n m bs xs ys h e = (refl, sym (same_number (italic n) (italic m) xs ((bs ++ (end ∷ [])) ++ ys) e))
italic_same inline.Shown n m bs xs ys h e = absurd (unlike (italic n) (element m) xs ys (λ d. omega (arith, d)) e)
italic_same inline.PageLink n m bs xs ys h e = absurd (unlike (italic n) (element m) xs ys (λ d. omega (arith, d)) e)
italic_same inline.ExternalLink n m bs xs ys h e = absurd (unlike (italic n) (element m) xs ys (λ d. omega (arith, d)) e)
italic_same inline.Tag n m bs xs ys h e = absurd (unlike (italic n) (element m) xs ys (λ d. omega (arith, d)) e)
italic_same inline.Break n m bs xs ys h e = absurd (unlike (italic n) (element m) xs ys (λ d. omega (arith, d)) e)
italic_same inline.AsItStood n m bs xs ys h e = absurd (unlike (italic n) (element m) xs ys (λ d. omega (arith, d)) e)

-- ---- up to the first node

next_in : (W : ℕ → List ℕ → Type 0) (K : Tree → Tree → Type 0) (A : Label → Label → Type 0) (d : ℕ) (f : InlineForm) (l : Label) (ws : Trees) (after here : Pieces)
    → LeavesBy f W d l (AllLeaves W (suc d) ws) → (IsNode f → HoldIn W K A d here) → (borders_by f l.id (borders ws) ≡ [] → HoldIn W K A d after)
    → HoldIn W K A d (next_by f l after here)
next_in W K A d inline.Nothing l ws after here p h a = a refl
next_in W K A d inline.Characters l ws after here p h a = (p, a refl)
next_in W K A d inline.Bold l ws after here p h a = h tt
next_in W K A d inline.Italic l ws after here p h a = h tt
next_in W K A d inline.Shown l ws after here p h a = h tt
next_in W K A d inline.PageLink l ws after here p h a = h tt
next_in W K A d inline.ExternalLink l ws after here p h a = h tt
next_in W K A d inline.Tag l ws after here p h a = h tt
next_in W K A d inline.Break l ws after here p h a = h tt
next_in W K A d inline.AsItStood l ws after here p h a = h tt

up_in : (W : ℕ → List ℕ → Type 0) (K : Tree → Tree → Type 0) (A : Label → Label → Type 0) (d : ℕ) (x : Border) (xs : List Border) (us : Trees)
    (then_so : Tree → Trees → Pieces) → AllLeaves W d us → x ∷ xs ≡ borders us
    → ((m : Label) (ws vs : Trees) → IsNode (edit_shape m.kind).inline → LeavesOf W d (tree m ws) → AllLeaves W d vs
    → x ∷ xs ≡ borders_of (tree m ws) ++ borders vs → HoldIn W K A d (then_so (tree m ws) vs))
    → HoldIn W K A d (up_to_node us then_so)
up_in W K A d x xs none then_so p e h = tt
up_in W K A d x xs (more (tree m ws) us) then_so p e h =
    next_in W K A d (edit_shape m.kind).inline m ws (up_to_node us then_so) (then_so (tree m ws) us) p.0 (λ n. h m ws us n p.0 p.1 e)
    (λ z. up_in W K A d x xs us then_so p.1 (e ∙ ap (λ bs. bs ++ borders us) z) h)

last_in : (W : ℕ → List ℕ → Type 0) (K : Tree → Tree → Type 0) (A : Label → Label → Type 0) (d : ℕ) (us : Trees) → AllLeaves W d us
    → HoldIn W K A d (up_to_node us (λ u vs. no_pieces))
last_in W K A d none p = tt
last_in W K A d (more (tree m ws) us) p =
    next_in W K A d (edit_shape m.kind).inline m ws (up_to_node us (λ u vs. no_pieces)) no_pieces p.0 (λ n. tt) (λ z. last_in W K A d us p.1)

-- ---- a node of the page

kept_in : (W : ℕ → List ℕ → Type 0) (K : Tree → Tree → Type 0) (A : Label → Label → Type 0) (d : ℕ) (l : Label) (ts old us : Trees) (after : Trees → Pieces)
    → OfElements K → AllLeaves W d us → element l.id ∷ borders old ≡ borders us → IsElement (edit_shape l.kind).inline → HasNumberedGroups (tree l ts)
    → ((vs : Trees) → AllLeaves W d vs → borders old ≡ borders vs → HoldIn W K A d (after vs))
    → HoldIn W K A d (up_to_node us (λ u vs. kept (tree l ts) u (after vs)))
kept_in W K A d l ts old us after k p e i g h = up_in W K A d (element l.id) (borders old) us (λ u vs. kept (tree l ts) u (after vs)) p e
    (λ m ws vs n q r z.
    let s = element_same (edit_shape m.kind).inline l.id m.id (borders ws) (borders old) (borders vs) n z in
    (k l ts m ws i s.0 s.1 g, h vs r (element_next (edit_shape m.kind).inline l.id m.id (borders ws) (borders old) (borders vs) n z)))

bold_in : (W : ℕ → List ℕ → Type 0) (K : Tree → Tree → Type 0) (A : Label → Label → Type 0) (d : ℕ) (l : Label) (ts old us : Trees) (inside after : Trees → Pieces)
    → OfStyles A → AllLeaves W d us → bold l.id ∷ ((borders ts ++ (end ∷ [])) ++ borders old) ≡ borders us → (edit_shape l.kind).inline ≡ inline.Bold → IsStyle l.kind
    → ((ws : Trees) → AllLeaves W (suc d) ws → borders ts ≡ borders ws → HoldIn W K A (suc d) (inside ws))
    → ((vs : Trees) → AllLeaves W d vs → borders old ≡ borders vs → HoldIn W K A d (after vs))
    → HoldIn W K A d (up_to_node us (λ u vs. around l (label u) (inside (children_of u)) (after vs)))
bold_in W K A d l ts old us inside after a p e i s g h =
    up_in W K A d (bold l.id) ((borders ts ++ (end ∷ [])) ++ borders old) us (λ u vs. around l (label u) (inside (children_of u)) (after vs)) p e
    (λ m ws vs n q r z.
    let b = bold_next (edit_shape m.kind).inline l.id m.id ts ws (borders old) (borders vs) n z in
    let f = bold_same (edit_shape m.kind).inline l.id m.id (borders ws) ((borders ts ++ (end ∷ [])) ++ borders old) (borders vs) n z in
    let own : AllLeaves W (suc d) ws = subst (λ (w : InlineForm). LeavesBy w W d m (AllLeaves W (suc d) ws)) f.0 q in
    (a l m s (inl (i, f.0)) f.1, g ws own b.0, h vs r b.1))

italic_in : (W : ℕ → List ℕ → Type 0) (K : Tree → Tree → Type 0) (A : Label → Label → Type 0) (d : ℕ) (l : Label) (ts old us : Trees) (inside after : Trees → Pieces)
    → OfStyles A → AllLeaves W d us → italic l.id ∷ ((borders ts ++ (end ∷ [])) ++ borders old) ≡ borders us → (edit_shape l.kind).inline ≡ inline.Italic → IsStyle l.kind
    → ((ws : Trees) → AllLeaves W (suc d) ws → borders ts ≡ borders ws → HoldIn W K A (suc d) (inside ws))
    → ((vs : Trees) → AllLeaves W d vs → borders old ≡ borders vs → HoldIn W K A d (after vs))
    → HoldIn W K A d (up_to_node us (λ u vs. around l (label u) (inside (children_of u)) (after vs)))
italic_in W K A d l ts old us inside after a p e i s g h =
    up_in W K A d (italic l.id) ((borders ts ++ (end ∷ [])) ++ borders old) us (λ u vs. around l (label u) (inside (children_of u)) (after vs)) p e
    (λ m ws vs n q r z.
    let b = italic_next (edit_shape m.kind).inline l.id m.id ts ws (borders old) (borders vs) n z in
    let f = italic_same (edit_shape m.kind).inline l.id m.id (borders ws) ((borders ts ++ (end ∷ [])) ++ borders old) (borders vs) n z in
    let own : AllLeaves W (suc d) ws = subst (λ (w : InlineForm). LeavesBy w W d m (AllLeaves W (suc d) ws)) f.0 q in
    (a l m s (inr (i, f.0)) f.1, g ws own b.0, h vs r b.1))

bold_kind : (k : Kind) → (edit_shape k).inline ≡ inline.Bold → IsStyle k
bold_kind kind.Bold e = inl refl
bold_kind k e = cc

italic_kind : (k : Kind) → (edit_shape k).inline ≡ inline.Italic → IsStyle k
italic_kind kind.Italic e = inr refl
italic_kind k e = cc

one_in : (W : ℕ → List ℕ → Type 0) (K : Tree → Tree → Type 0) (A : Label → Label → Type 0) (d : ℕ) (f : InlineForm) (l : Label) (ts old us : Trees)
    (inside after : Trees → Pieces) → OfElements K → OfStyles A → (edit_shape l.kind).inline ≡ f → AllLeaves W d us
    → borders_by f l.id (borders ts) ++ borders old ≡ borders us → HasNumberedGroups (tree l ts)
    → (is_group l.kind ≡ false → (ws : Trees) → AllLeaves W (suc d) ws → borders ts ≡ borders ws → HoldIn W K A (suc d) (inside ws))
    → ((vs : Trees) → AllLeaves W d vs → borders old ≡ borders vs → HoldIn W K A d (after vs))
    → HoldIn W K A d (piece_by f l ts inside after us)
one_in W K A d inline.Nothing l ts old us inside after k a i p e n g h = h us p e
one_in W K A d inline.Characters l ts old us inside after k a i p e n g h = h us p e
one_in W K A d inline.Bold l ts old us inside after k a i p e n g h =
    let s : IsStyle l.kind = bold_kind l.kind i in bold_in W K A d l ts old us inside after a p e i s (g (style_ungrouped l.kind s)) h
one_in W K A d inline.Italic l ts old us inside after k a i p e n g h =
    let s : IsStyle l.kind = italic_kind l.kind i in italic_in W K A d l ts old us inside after a p e i s (g (style_ungrouped l.kind s)) h
one_in W K A d inline.Shown l ts old us inside after k a i p e n g h = kept_in W K A d l ts old us after k p e (subst IsElement (sym i) tt) n h
one_in W K A d inline.PageLink l ts old us inside after k a i p e n g h = kept_in W K A d l ts old us after k p e (subst IsElement (sym i) tt) n h
one_in W K A d inline.ExternalLink l ts old us inside after k a i p e n g h = kept_in W K A d l ts old us after k p e (subst IsElement (sym i) tt) n h
one_in W K A d inline.Tag l ts old us inside after k a i p e n g h = kept_in W K A d l ts old us after k p e (subst IsElement (sym i) tt) n h
one_in W K A d inline.Break l ts old us inside after k a i p e n g h = kept_in W K A d l ts old us after k p e (subst IsElement (sym i) tt) n h
one_in W K A d inline.AsItStood l ts old us inside after k a i p e n g h = kept_in W K A d l ts old us after k p e (subst IsElement (sym i) tt) n h

mutual
  tree_in : (W : ℕ → List ℕ → Type 0) (K : Tree → Tree → Type 0) (A : Label → Label → Type 0) → OfElements K → OfStyles A → (t : Tree) (d : ℕ) (old us : Trees)
      (after : Trees → Pieces) → AllLeaves W d us → borders_of t ++ borders old ≡ borders us → HasNumberedGroups t
      → ((vs : Trees) → AllLeaves W d vs → borders old ≡ borders vs → HoldIn W K A d (after vs)) → HoldIn W K A d (piece_of t after us)
  tree_in W K A k a (tree l ts) d old us after p e n h =
      one_in W K A d (edit_shape l.kind).inline l ts old us (λ ws. pieces_of ts ws) after k a refl p e n
      (λ x ws q z. trees_in W K A k a ts (suc d) ws q z (inner_numbered l ts n x)) h

  pub trees_in : (W : ℕ → List ℕ → Type 0) (K : Tree → Tree → Type 0) (A : Label → Label → Type 0) → OfElements K → OfStyles A → (ts : Trees) (d : ℕ) (us : Trees)
      → AllLeaves W d us → borders ts ≡ borders us → HaveNumberedGroups ts → HoldIn W K A d (pieces_of ts us)
  trees_in W K A k a none d us p e n = last_in W K A d us p
  trees_in W K A k a (more t ts) d us p e n = tree_in W K A k a t d ts us (λ vs. pieces_of ts vs) p e n.0 (λ vs q z. trees_in W K A k a ts d vs q z n.1)

-- ---- what stays is sent as it is

abbrev pub Anything : ℕ → List ℕ → Type 0
Anything d text = Unit {0}

any_by : (f : InlineForm) (d : ℕ) (l : Label) (inside : Type 0) → inside → LeavesBy f Anything d l inside
any_by inline.Nothing d l inside h = tt
any_by inline.Characters d l inside h = tt
any_by inline.Bold d l inside h = h
any_by inline.Italic d l inside h = h
any_by inline.Shown d l inside h = tt
any_by inline.PageLink d l inside h = tt
any_by inline.ExternalLink d l inside h = tt
any_by inline.Tag d l inside h = tt
any_by inline.Break d l inside h = tt
any_by inline.AsItStood d l inside h = tt

mutual
  any_leaf : (t : Tree) (d : ℕ) → LeavesOf Anything d t
  any_leaf (tree l ts) d = any_by (edit_shape l.kind).inline d l (AllLeaves Anything (suc d) ts) (any_leaves ts (suc d))

  pub any_leaves : (ts : Trees) (d : ℕ) → AllLeaves Anything d ts
  any_leaves none d = tt
  any_leaves (more t ts) d = (any_leaf t d, any_leaves ts d)

stays_by : (d : ℕ) (ps : Pieces) → HoldIn Anything (λ t u. HasNumberedGroups t) (λ l m. IsStyle l.kind) d ps → PiecesStay (as_own ps)
stays_by d no_pieces h = tt
stays_by d (gone t ps) h = stays_by d ps h
stays_by d (written x text ps) h = stays_by d ps h.1
stays_by d (kept t u ps) h = (stands_as_sent t h.0, stays_by d ps h.1)
stays_by d (around l m is ps) h =
    (h.0, record { kind = refl; id = refl; attrs = refl; mw = refl; shown = λ e. refl; unmarked = refl }, stays_by (suc d) is h.1, stays_by d ps h.2)
stays_by d (new_style m is ps) h = absurd h

pub own_pieces_stay : (ts us : Trees) → HaveNumberedGroups ts → borders us ≡ borders ts → PiecesStay (as_own (pieces_of ts us))
own_pieces_stay ts us n e =
    stays_by 0 (pieces_of ts us)
    (trees_in Anything (λ t u. HasNumberedGroups t) (λ l m. IsStyle l.kind) (λ l ts m ws f g i h. h) (λ l m s b i. s) ts 0 us (any_leaves us 0) (sym e) n)
