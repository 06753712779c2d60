-- The pieces of a retyped content are what the page holds and what is sent for it.
use Rattle.std.proofs.Common.{arith, ap, ap₂, sym, ◌∙◌, length, ◌≡◌, ◌≢◌, ℕ, zero, suc, Bool, List, [], ◌∷◌, ◌++◌, refl}
use Rattle.std.proofs.lemmas.List.{append_assoc, append_cancel_right}
use Rattle.wt_span.specs.Origins.{Expanded}
use Rattle.wt_slices.specs.Changes.{Pair}
use Rattle.wt_inside_laws.specs.TextEdits.{IsRetyped}
use Rattle.wt_tree.specs.declared.kind.Kind.TheVariants as kind
use Rattle.wt_tree.specs.declared.kind.Mark.TheVariants as marks
use Rattle.wt_tree.specs.Tree.{Label, Tree, tree, Trees, none, more, label}
use Rattle.wt_tree.specs.declared.edit_shape.InlineForm.{InlineForm}
use Rattle.wt_tree.specs.declared.edit_shape.InlineForm.TheVariants as inline
use Rattle.wt_tree.specs.EditShapes.{edit_shape}
use Rattle.wt_typed_blocks.specs.Edited.{Pieces, no_pieces, gone, kept, around, text_node}
use Rattle.wt_link_spelling.specs.Spelling.{children_of}
use Rattle.wt_inside_laws.specs.Contents.{Border, element, bold, italic, end, borders_by, borders_of, borders}
use Rattle.wt_inside_laws.specs.RetypedPieces.{next_by, up_to_node, piece_by, piece_of, pieces_of, IsReadText, ReadBy, IsRead, AreRead, ArePiecesOf}

-- ---- where a style ends

-- what comes after the end of the style that is open, with so many others open in it
abbrev behind : ℕ → List Border → List Border
behind d [] = []
behind d (element n ∷ bs) = behind d bs
behind d (bold n ∷ bs) = behind (suc d) bs
behind d (italic n ∷ bs) = behind (suc d) bs
behind zero (end ∷ bs) = bs
behind (suc d) (end ∷ bs) = behind d bs

style_past : (d : ℕ) (bs zs : List Border) → ((e : ℕ) (ys : List Border) → behind e (bs ++ ys) ≡ behind e ys)
    → behind (suc d) ((bs ++ (end ∷ [])) ++ zs) ≡ behind d zs
style_past d bs zs h = ap (behind (suc d)) (append_assoc bs (end ∷ []) zs) ∙ h (suc d) (end ∷ zs)

past_by : (f : InlineForm) (n d : ℕ) (bs zs : List Border) → ((e : ℕ) (ys : List Border) → behind e (bs ++ ys) ≡ behind e ys)
    → behind d (borders_by f n bs ++ zs) ≡ behind d zs
past_by inline.Nothing n d bs zs h = refl
past_by inline.Characters n d bs zs h = refl
past_by inline.Bold n d bs zs h = style_past d bs zs h
past_by inline.Italic n d bs zs h = style_past d bs zs h
past_by inline.Shown n d bs zs h = refl
past_by inline.PageLink n d bs zs h = refl
past_by inline.ExternalLink n d bs zs h = refl
past_by inline.Tag n d bs zs h = refl
past_by inline.Break n d bs zs h = refl
past_by inline.AsItStood n d bs zs h = refl

mutual
  past_one : (t : Tree) (d : ℕ) (zs : List Border) → behind d (borders_of t ++ zs) ≡ behind d zs
  past_one (tree l ts) d zs = past_by (edit_shape l.kind).inline l.id d (borders ts) zs (λ e ys. past ts e ys)

  past : (ts : Trees) (d : ℕ) (zs : List Border) → behind d (borders ts ++ zs) ≡ behind d zs
  past none d zs = refl
  past (more t ts) d zs = ap (behind d) (append_assoc (borders_of t) (borders ts) zs) ∙ past_one t d (borders ts ++ zs) ∙ past ts d zs

-- so the insides of two styles are alike, and so is what comes after them
parted : (ts us : Trees) (xs ys : List Border) → (borders ts ++ (end ∷ [])) ++ xs ≡ (borders us ++ (end ∷ [])) ++ ys
    → (borders ts ≡ borders us) × (xs ≡ ys)
parted ts us xs ys e =
    let a = sym (append_assoc (borders ts) (end ∷ []) xs) ∙ e ∙ append_assoc (borders us) (end ∷ []) ys in
    let b = sym (past ts 0 (end ∷ xs)) ∙ ap (behind 0) a ∙ past us 0 (end ∷ ys) in
    (append_cancel_right (borders ts) (borders us) (end ∷ xs) (a ∙ ap (λ z. borders us ++ (end ∷ z)) (sym b)), b)

-- ---- borders that are alike

abbrev pub sort_of : Border → ℕ
sort_of (element n) = 0
sort_of (bold n) = 1
sort_of (italic n) = 2
sort_of end = 3

abbrev pub head_of : List Border → Border
head_of [] = end
head_of (b ∷ bs) = b

abbrev tail_of : List Border → List Border
tail_of [] = []
tail_of (b ∷ bs) = bs

pub unlike : (x y : Border) (xs ys : List Border) → (sort_of x ≡ sort_of y → ⊥) → x ∷ xs ≡ y ∷ ys → ⊥
unlike x y xs ys h e = h (ap (λ bs. sort_of (head_of bs)) e)

after_first : (x y : Border) (xs ys : List Border) → x ∷ xs ≡ y ∷ ys → xs ≡ ys
after_first x y xs ys e = ap tail_of e

none_there : (x : Border) (xs : List Border) → x ∷ xs ≡ [] → ⊥
none_there x xs e = let n = ap length e in omega (arith, n)

-- a node begins or is a border
abbrev pub IsNode : InlineForm → Type 0
IsNode inline.Nothing = ⊥
IsNode inline.Characters = ⊥
IsNode inline.Bold = Unit {0}
IsNode inline.Italic = Unit {0}
IsNode inline.Shown = Unit {0}
IsNode inline.PageLink = Unit {0}
IsNode inline.ExternalLink = Unit {0}
IsNode inline.Tag = Unit {0}
IsNode inline.Break = Unit {0}
IsNode inline.AsItStood = Unit {0}

-- after an element what is sent goes on with an element
pub element_next : (f : InlineForm) (n m : ℕ) (bs xs ys : List Border) → IsNode f → element n ∷ xs ≡ borders_by f m bs ++ ys → xs ≡ ys
element_next inline.Nothing n m bs xs ys h e = absurd h
element_next inline.Characters n m bs xs ys h e = absurd h
element_next inline.Bold n m bs xs ys h e = absurd (unlike (element n) (bold m) xs ((bs ++ (end ∷ [])) ++ ys) (λ d. omega (arith, d)) e)
element_next inline.Italic n m bs xs ys h e = absurd (unlike (element n) (italic m) xs ((bs ++ (end ∷ [])) ++ ys) (λ d. omega (arith, d)) e)
element_next inline.Shown n m bs xs ys h e = after_first (element n) (element m) xs ys e
element_next inline.PageLink n m bs xs ys h e = after_first (element n) (element m) xs ys e
element_next inline.ExternalLink n m bs xs ys h e = after_first (element n) (element m) xs ys e
element_next inline.Tag n m bs xs ys h e = after_first (element n) (element m) xs ys e
element_next inline.Break n m bs xs ys h e = after_first (element n) (element m) xs ys e
element_next inline.AsItStood n m bs xs ys h e = after_first (element n) (element m) xs ys e

pub bold_next : (f : InlineForm) (n m : ℕ) (ts ws : Trees) (xs ys : List Border) → IsNode f
    → bold n ∷ ((borders ts ++ (end ∷ [])) ++ xs) ≡ borders_by f m (borders ws) ++ ys → (borders ts ≡ borders ws) × (xs ≡ ys)
bold_next inline.Nothing n m ts ws xs ys h e = absurd h
bold_next inline.Characters n m ts ws xs ys h e = absurd h
bold_next inline.Bold n m ts ws xs ys h e = parted ts ws xs ys (after_first (bold n) (bold m) ((borders ts ++ (end ∷ [])) ++ xs) ((borders ws ++ (end ∷ [])) ++ ys) e)
bold_next inline.Italic n m ts ws xs ys h e = absurd (unlike (bold n) (italic m) ((borders ts ++ (end ∷ [])) ++ xs) ((borders ws ++ (end ∷ [])) ++ ys) (λ d. omega (arith, d)) e)
bold_next inline.Shown n m ts ws xs ys h e = absurd (unlike (bold n) (element m) ((borders ts ++ (end ∷ [])) ++ xs) ys (λ d. omega (arith, d)) e)
bold_next inline.PageLink n m ts ws xs ys h e = absurd (unlike (bold n) (element m) ((borders ts ++ (end ∷ [])) ++ xs) ys (λ d. omega (arith, d)) e)
bold_next inline.ExternalLink n m ts ws xs ys h e = absurd (unlike (bold n) (element m) ((borders ts ++ (end ∷ [])) ++ xs) ys (λ d. omega (arith, d)) e)
bold_next inline.Tag n m ts ws xs ys h e = absurd (unlike (bold n) (element m) ((borders ts ++ (end ∷ [])) ++ xs) ys (λ d. omega (arith, d)) e)
bold_next inline.Break n m ts ws xs ys h e = absurd (unlike (bold n) (element m) ((borders ts ++ (end ∷ [])) ++ xs) ys (λ d. omega (arith, d)) e)
bold_next inline.AsItStood n m ts ws xs ys h e = absurd (unlike (bold n) (element m) ((borders ts ++ (end ∷ [])) ++ xs) ys (λ d. omega (arith, d)) e)

pub italic_next : (f : InlineForm) (n m : ℕ) (ts ws : Trees) (xs ys : List Border) → IsNode f
    → italic n ∷ ((borders ts ++ (end ∷ [])) ++ xs) ≡ borders_by f m (borders ws) ++ ys → (borders ts ≡ borders ws) × (xs ≡ ys)
italic_next inline.Nothing n m ts ws xs ys h e = absurd h
italic_next inline.Characters n m ts ws xs ys h e = absurd h
italic_next inline.Bold n m ts ws xs ys h e = absurd (unlike (italic n) (bold m) ((borders ts ++ (end ∷ [])) ++ xs) ((borders ws ++ (end ∷ [])) ++ ys) (λ d. omega (arith, d)) e)
italic_next inline.Italic n m ts ws xs ys h e = parted ts ws xs ys (after_first (italic n) (italic m) ((borders ts ++ (end ∷ [])) ++ xs) ((borders ws ++ (end ∷ [])) ++ ys) e)
italic_next inline.Shown n m ts ws xs ys h e = absurd (unlike (italic n) (element m) ((borders ts ++ (end ∷ [])) ++ xs) ys (λ d. omega (arith, d)) e)
italic_next inline.PageLink n m ts ws xs ys h e = absurd (unlike (italic n) (element m) ((borders ts ++ (end ∷ [])) ++ xs) ys (λ d. omega (arith, d)) e)
italic_next inline.ExternalLink n m ts ws xs ys h e = absurd (unlike (italic n) (element m) ((borders ts ++ (end ∷ [])) ++ xs) ys (λ d. omega (arith, d)) e)
italic_next inline.Tag n m ts ws xs ys h e = absurd (unlike (italic n) (element m) ((borders ts ++ (end ∷ [])) ++ xs) ys (λ d. omega (arith, d)) e)
italic_next inline.Break n m ts ws xs ys h e = absurd (unlike (italic n) (element m) ((borders ts ++ (end ∷ [])) ++ xs) ys (λ d. omega (arith, d)) e)
italic_next inline.AsItStood n m ts ws xs ys h e = absurd (unlike (italic n) (element m) ((borders ts ++ (end ∷ [])) ++ xs) ys (λ d. omega (arith, d)) e)

-- ---- texts

text_by : (l : Label) (xs : List ℕ) (us : Trees) → l.shown ≡ xs → l.kind ≡ kind.Text → l.id ≡ 0 → l.mark ≡ marks.Nothing → xs ≢ []
    → text_node l xs us ≡ more (tree l none) us
text_by l [] us s k i m e = absurd (e refl)
text_by l (b ∷ bs) us s k i m e =
    ap (λ (x : Label). more (tree x none) us)
    (ap₂ (λ q n. record l { kind = q; id = n; shown = b ∷ bs; mark = marks.Nothing }) (sym k) (sym i)
    ∙ ap₂ (λ s w. record l { shown = s; mark = w }) (sym s) (sym m))

text_is : (l : Label) (ts us : Trees) → IsReadText l ts → text_node l l.shown us ≡ more (tree l ts) us
text_is l ts us h = text_by l l.shown us refl h.kind h.id h.mark h.some ∙ ap (λ x. more (tree l x) us) (sym h.bare)

-- ---- the pieces

-- of the texts before the first node
next : (f : InlineForm) (l : Label) (ws us old : Trees) (after here : Pieces) → ReadBy f l ws (AreRead ws)
    → (IsNode f → ArePiecesOf old (more (tree l ws) us) here)
    → (borders_by f l.id (borders ws) ≡ [] → ArePiecesOf old us after)
    → ArePiecesOf old (more (tree l ws) us) (next_by f l after here)
next inline.Nothing l ws us old after here r g a = absurd r
next inline.Characters l ws us old after here r g a = record {
  page = (a refl).page;
  sent = ap (text_node l l.shown) (a refl).sent ∙ text_is l ws us r;
}
next inline.Bold l ws us old after here r g a = g tt
next inline.Italic l ws us old after here r g a = g tt
next inline.Shown l ws us old after here r g a = g tt
next inline.PageLink l ws us old after here r g a = g tt
next inline.ExternalLink l ws us old after here r g a = g tt
next inline.Tag l ws us old after here r g a = g tt
next inline.Break l ws us old after here r g a = g tt
next inline.AsItStood l ws us old after here r g a = g tt

-- up to the first node, where there is one
up_to : (x : Border) (xs : List Border) (us old : Trees) (then_so : Tree → Trees → Pieces) → AreRead us → x ∷ xs ≡ borders us
    → ((m : Label) (ws vs : Trees) → IsNode (edit_shape m.kind).inline → IsRead (tree m ws) → AreRead vs
    → x ∷ xs ≡ borders_of (tree m ws) ++ borders vs → ArePiecesOf old (more (tree m ws) vs) (then_so (tree m ws) vs))
    → ArePiecesOf old us (up_to_node us then_so)
up_to x xs none old then_so r e h = absurd (none_there x xs e)
up_to x xs (more (tree m ws) us) old then_so r e h =
    next (edit_shape m.kind).inline m ws us old (up_to_node us then_so) (then_so (tree m ws) us) r.0
    (λ n. h m ws us n r.0 r.1 e)
    (λ z. up_to x xs us old then_so r.1 (e ∙ ap (λ bs. bs ++ borders us) z) h)

-- and where there is none
last_next : (f : InlineForm) (l : Label) (ws us : Trees) (after : Pieces) → ReadBy f l ws (AreRead ws) → [] ≡ borders_by f l.id (borders ws) ++ borders us
    → ([] ≡ borders us → ArePiecesOf none us after) → ArePiecesOf none (more (tree l ws) us) (next_by f l after no_pieces)
last_next inline.Nothing l ws us after r e a = absurd r
last_next inline.Characters l ws us after r e a = record { page = (a e).page; sent = ap (text_node l l.shown) (a e).sent ∙ text_is l ws us r }
last_next inline.Bold l ws us after r e a = absurd (none_there (bold l.id) ((borders ws ++ (end ∷ [])) ++ borders us) (sym e))
last_next inline.Italic l ws us after r e a = absurd (none_there (italic l.id) ((borders ws ++ (end ∷ [])) ++ borders us) (sym e))
last_next inline.Shown l ws us after r e a = absurd (none_there (element l.id) (borders us) (sym e))
last_next inline.PageLink l ws us after r e a = absurd (none_there (element l.id) (borders us) (sym e))
last_next inline.ExternalLink l ws us after r e a = absurd (none_there (element l.id) (borders us) (sym e))
last_next inline.Tag l ws us after r e a = absurd (none_there (element l.id) (borders us) (sym e))
last_next inline.Break l ws us after r e a = absurd (none_there (element l.id) (borders us) (sym e))
last_next inline.AsItStood l ws us after r e a = absurd (none_there (element l.id) (borders us) (sym e))

last : (us : Trees) → AreRead us → [] ≡ borders us → ArePiecesOf none us (up_to_node us (λ u vs. no_pieces))
last none r e = record { page = refl; sent = refl }
last (more (tree m ws) us) r e =
    last_next (edit_shape m.kind).inline m ws us (up_to_node us (λ u vs. no_pieces)) r.0 e (λ z. last us r.1 z)

-- what is read in bold or italic
bold_read : (f : InlineForm) (n : ℕ) (m : Label) (ws : Trees) (xs ys : List Border) → IsNode f → ReadBy f m ws (AreRead ws)
    → bold n ∷ xs ≡ borders_by f m.id (borders ws) ++ ys → AreRead ws
bold_read inline.Nothing n m ws xs ys h r e = absurd h
bold_read inline.Characters n m ws xs ys h r e = absurd h
bold_read inline.Bold n m ws xs ys h r e = r
bold_read inline.Italic n m ws xs ys h r e = r
bold_read inline.Shown n m ws xs ys h r e = absurd (unlike (bold n) (element m.id) xs ys (λ d. omega (arith, d)) e)
bold_read inline.PageLink n m ws xs ys h r e = absurd (unlike (bold n) (element m.id) xs ys (λ d. omega (arith, d)) e)
bold_read inline.ExternalLink n m ws xs ys h r e = absurd (unlike (bold n) (element m.id) xs ys (λ d. omega (arith, d)) e)
bold_read inline.Tag n m ws xs ys h r e = absurd (unlike (bold n) (element m.id) xs ys (λ d. omega (arith, d)) e)
bold_read inline.Break n m ws xs ys h r e = absurd (unlike (bold n) (element m.id) xs ys (λ d. omega (arith, d)) e)
bold_read inline.AsItStood n m ws xs ys h r e = absurd (unlike (bold n) (element m.id) xs ys (λ d. omega (arith, d)) e)

italic_read : (f : InlineForm) (n : ℕ) (m : Label) (ws : Trees) (xs ys : List Border) → IsNode f → ReadBy f m ws (AreRead ws)
    → italic n ∷ xs ≡ borders_by f m.id (borders ws) ++ ys → AreRead ws
italic_read inline.Nothing n m ws xs ys h r e = absurd h
italic_read inline.Characters n m ws xs ys h r e = absurd h
italic_read inline.Bold n m ws xs ys h r e = r
italic_read inline.Italic n m ws xs ys h r e = r
italic_read inline.Shown n m ws xs ys h r e = absurd (unlike (italic n) (element m.id) xs ys (λ d. omega (arith, d)) e)
italic_read inline.PageLink n m ws xs ys h r e = absurd (unlike (italic n) (element m.id) xs ys (λ d. omega (arith, d)) e)
italic_read inline.ExternalLink n m ws xs ys h r e = absurd (unlike (italic n) (element m.id) xs ys (λ d. omega (arith, d)) e)
italic_read inline.Tag n m ws xs ys h r e = absurd (unlike (italic n) (element m.id) xs ys (λ d. omega (arith, d)) e)
italic_read inline.Break n m ws xs ys h r e = absurd (unlike (italic n) (element m.id) xs ys (λ d. omega (arith, d)) e)
italic_read inline.AsItStood n m ws xs ys h r e = absurd (unlike (italic n) (element m.id) xs ys (λ d. omega (arith, d)) e)

gone_one : (l : Label) (ts old us : Trees) (ps : Pieces) → ArePiecesOf old us ps → ArePiecesOf (more (tree l ts) old) us (gone (tree l ts) ps)
gone_one l ts old us ps h = record { page = ap (more (tree l ts)) h.page; sent = h.sent }

kept_one : (l : Label) (ts old us : Trees) (after : Trees → Pieces) → AreRead us → element l.id ∷ borders old ≡ borders us
    → ((vs : Trees) → AreRead vs → borders old ≡ borders vs → ArePiecesOf old vs (after vs))
    → ArePiecesOf (more (tree l ts) old) us (up_to_node us (λ u vs. kept (tree l ts) u (after vs)))
kept_one l ts old us after r e h = up_to (element l.id) (borders old) us (more (tree l ts) old) (λ u vs. kept (tree l ts) u (after vs)) r e
    (λ m ws vs n q p z.
    let a = h vs p (element_next (edit_shape m.kind).inline l.id m.id (borders ws) (borders old) (borders vs) n z) in
    record { page = ap (more (tree l ts)) a.page; sent = ap (more (tree m ws)) a.sent })

bold_one : (l : Label) (ts old us : Trees) (inside after : Trees → Pieces) → AreRead us
    → bold l.id ∷ ((borders ts ++ (end ∷ [])) ++ borders old) ≡ borders us
    → ((ws : Trees) → AreRead ws → borders ts ≡ borders ws → ArePiecesOf ts ws (inside ws))
    → ((vs : Trees) → AreRead vs → borders old ≡ borders vs → ArePiecesOf old vs (after vs))
    → ArePiecesOf (more (tree l ts) old) us (up_to_node us (λ u vs. around l (label u) (inside (children_of u)) (after vs)))
bold_one l ts old us inside after r e g h =
    up_to (bold l.id) ((borders ts ++ (end ∷ [])) ++ borders old) us (more (tree l ts) old)
    (λ u vs. around l (label u) (inside (children_of u)) (after vs)) r e
    (λ m ws vs n q p z.
    let b = bold_next (edit_shape m.kind).inline l.id m.id ts ws (borders old) (borders vs) n z in
    let i = g ws (bold_read (edit_shape m.kind).inline l.id m ws ((borders ts ++ (end ∷ [])) ++ borders old) (borders vs) n q z) b.0 in
    let a = h vs p b.1 in
    record {
      page = ap₂ (λ x y. more (tree l x) y) i.page a.page;
      sent = ap₂ (λ x y. more (tree m x) y) i.sent a.sent;
    })

italic_one : (l : Label) (ts old us : Trees) (inside after : Trees → Pieces) → AreRead us
    → italic l.id ∷ ((borders ts ++ (end ∷ [])) ++ borders old) ≡ borders us
    → ((ws : Trees) → AreRead ws → borders ts ≡ borders ws → ArePiecesOf ts ws (inside ws))
    → ((vs : Trees) → AreRead vs → borders old ≡ borders vs → ArePiecesOf old vs (after vs))
    → ArePiecesOf (more (tree l ts) old) us (up_to_node us (λ u vs. around l (label u) (inside (children_of u)) (after vs)))
italic_one l ts old us inside after r e g h =
    up_to (italic l.id) ((borders ts ++ (end ∷ [])) ++ borders old) us (more (tree l ts) old)
    (λ u vs. around l (label u) (inside (children_of u)) (after vs)) r e
    (λ m ws vs n q p z.
    let b = italic_next (edit_shape m.kind).inline l.id m.id ts ws (borders old) (borders vs) n z in
    let i = g ws (italic_read (edit_shape m.kind).inline l.id m ws ((borders ts ++ (end ∷ [])) ++ borders old) (borders vs) n q z) b.0 in
    let a = h vs p b.1 in
    record {
      page = ap₂ (λ x y. more (tree l x) y) i.page a.page;
      sent = ap₂ (λ x y. more (tree m x) y) i.sent a.sent;
    })

one_by : (f : InlineForm) (l : Label) (ts old us : Trees) (inside after : Trees → Pieces) → AreRead us
    → borders_by f l.id (borders ts) ++ borders old ≡ borders us
    → ((ws : Trees) → AreRead ws → borders ts ≡ borders ws → ArePiecesOf ts ws (inside ws))
    → ((vs : Trees) → AreRead vs → borders old ≡ borders vs → ArePiecesOf old vs (after vs))
    → ArePiecesOf (more (tree l ts) old) us (piece_by f l ts inside after us)
one_by inline.Nothing l ts old us inside after r e g h = gone_one l ts old us (after us) (h us r e)
one_by inline.Characters l ts old us inside after r e g h = gone_one l ts old us (after us) (h us r e)
one_by inline.Bold l ts old us inside after r e g h = bold_one l ts old us inside after r e g h
one_by inline.Italic l ts old us inside after r e g h = italic_one l ts old us inside after r e g h
one_by inline.Shown l ts old us inside after r e g h = kept_one l ts old us after r e h
one_by inline.PageLink l ts old us inside after r e g h = kept_one l ts old us after r e h
one_by inline.ExternalLink l ts old us inside after r e g h = kept_one l ts old us after r e h
one_by inline.Tag l ts old us inside after r e g h = kept_one l ts old us after r e h
one_by inline.Break l ts old us inside after r e g h = kept_one l ts old us after r e h
one_by inline.AsItStood l ts old us inside after r e g h = kept_one l ts old us after r e h

mutual
  one_of : (t : Tree) (old us : Trees) (after : Trees → Pieces) → AreRead us → borders_of t ++ borders old ≡ borders us
      → ((vs : Trees) → AreRead vs → borders old ≡ borders vs → ArePiecesOf old vs (after vs))
      → ArePiecesOf (more t old) us (piece_of t after us)
  one_of (tree l ts) old us after r e h =
      one_by (edit_shape l.kind).inline l ts old us (λ ws. pieces_of ts ws) after r e (λ ws q z. all_of ts ws q z) h

  all_of : (ts us : Trees) → AreRead us → borders ts ≡ borders us → ArePiecesOf ts us (pieces_of ts us)
  all_of none us r e = last us r e
  all_of (more t ts) us r e = one_of t ts us (λ vs. pieces_of ts vs) r e (λ vs q z. all_of ts vs q z)

pub retyped_pieces : (same : Tree → Tree → Bool) (items : Expanded) (page : List ℕ) (p : Pair) → IsRetyped same items page p → AreRead (children_of p.new)
    → ArePiecesOf (children_of p.old) (children_of p.new) (pieces_of (children_of p.old) (children_of p.new))
retyped_pieces same items page p r h = all_of (children_of p.old) (children_of p.new) h (sym r.in_order)
