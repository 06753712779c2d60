-- What is sent for a paragraph with calls and styles in it: texts, nodes as they are in the page, groups among them, and styles of the page and new ones.
use Rattle.std.proofs.Common.{◌≡◌, inl, inr, ℕ, Bool, false, not, Option, List, [], ◌∷◌, ap, refl, subst, sym, ◌∙◌}
use Rattle.std.specs.Str.{IsUtf8}
use Rattle.wt_tree.specs.EditShapes.{edit_shape}
use Rattle.wt_tree.specs.Tree.{Label, Tree, Trees, label, more, none, tree}
use Rattle.wt_tree.specs.declared.edit_shape.InlineForm.{InlineForm}
use Rattle.wt_tree.specs.declared.edit_shape.InlineForm.TheVariants as inline
use Rattle.wt_tree.specs.declared.kind.Kind.{Kind}
use Rattle.wt_tree.specs.declared.kind.Kind.TheVariants as kind
use Rattle.wt_tree.specs.Tiling.{is_group}
use Rattle.wt_original.specs.Kept.{Kept, kept_nodes, kept_with}
use Rattle.wt_original.specs.Page.{Page, TellsSame, is_unchanged, page_of}
use Rattle.wt_recut.specs.Recutting.{appended}
use Rattle.wt_content.specs.Content.{if_replaced, standing, standing_of}
use Rattle.wt_difference.specs.Insides.{is_block_part}
use Rattle.wt_difference.specs.Unedited.{GroupOr}
use Rattle.wt_expand.specs.Work.{Pages}
use Rattle.wt_typed_blocks.proofs.SentGroups.{apart, of_style}
use Rattle.wt_typed_blocks.specs.Edited.{IsStyle, Pieces, PiecesStay, around, as_new, gone, kept, new_style, no_pieces, page_pieces, sent_pieces, text_node, written}
use Rattle.wt_typed_blocks.specs.EditedUnmarked.{AreInline}
use Rattle.wt_typed_blocks.specs.Sent.{AllStandAsIs, StandsAsIs}
use Rattle.wt_beside_laws.proofs.Styled.SentFaults.{AreSound, IsSound, SoundBy, new_sound, not_replaced, text_known}
use Rattle.wt_beside_laws.proofs.Styled.SentNests.{IsStyleForm, style_stands, text_shows}
use Rattle.wt_beside_laws.specs.FlatPages.{AreNodesAndTexts}
use Rattle.wt_beside_laws.specs.NewStyles.{is_bold, is_bold_form}
use Rattle.wt_beside_laws.specs.SentPieces.{IsNodeForm}
use Rattle.wt_beside_laws.specs.SentStyled.{AreStyledSent, IsStyledBy, IsStyledSent}
use Rattle.wt_called_edit_laws.specs.FoundGroups.{IsFoundAs, HasFoundGroups, HaveFoundGroups}
use Rattle.wt_called_edit_laws.proofs.Beside.Sent.{as_kept}
use Rattle.wt_called_edit_laws.proofs.Styles.Found.{AreFound, FoundBy, IsFound}
use Rattle.wt_called_edit_laws.specs.StyledCallEdits.{AreNodesBeside, IsBesideBy, IsNodeBeside, NestedGroups}

-- ---- what is in a style of the page

pub style_beside : (pages : Pages) (l : Label) (ts : Trees) → IsStyle l.kind → IsNodeBeside pages (tree l ts)
    → NestedGroups pages (is_bold l) (not (is_bold l)) ts × AreNodesBeside pages ts
style_beside pages l ts h b =
    of_style
    (λ k. IsBesideBy (edit_shape k).inline pages l ts (AreNodesBeside pages ts)
    → NestedGroups pages (is_bold_form (edit_shape k).inline) (not (is_bold_form (edit_shape k).inline)) ts × AreNodesBeside pages ts)
    l.kind h (λ d. (d.1, d.2)) (λ d. (d.1, d.2)) b

pub style_found : (ks : List Kept) (l : Label) (ts : Trees) → IsStyle l.kind → IsFound ks (tree l ts) → IsFoundAs ks l ts × AreFound ks ts
style_found ks l ts h f =
    of_style (λ k. FoundBy (edit_shape k).inline ks l ts (AreFound ks ts) → IsFoundAs ks l ts × AreFound ks ts) l.kind h (λ d. d) (λ d. d) f

-- pieces round which a new style is
pub beside_both : (pages : Pages) (ts us : Trees) → AreNodesBeside pages (appended ts us) → AreNodesBeside pages ts × AreNodesBeside pages us
beside_both pages ts us h = apart (λ t. IsNodeBeside pages t) (λ vs. AreNodesBeside pages vs) tt (λ t vs x. x) (λ t vs x. x) ts us h

pub found_both : (ks : List Kept) (ts us : Trees) → AreFound ks (appended ts us) → AreFound ks ts × AreFound ks us
found_both ks ts us h = apart (λ t. IsFound ks t) (λ vs. AreFound ks vs) tt (λ t vs x. x) (λ t vs x. x) ts us h

groups_both : (ks : List Kept) (ts us : Trees) → HaveFoundGroups ks (appended ts us) → HaveFoundGroups ks ts × HaveFoundGroups ks us
groups_both ks ts us h = apart (λ t. HasFoundGroups ks t) (λ vs. HaveFoundGroups ks vs) tt (λ t vs x. x) (λ t vs x. x) ts us h

-- the groups in a style
style_groups : (ks : List Kept) (l : Label) (ts : Trees) → IsStyle l.kind → HasFoundGroups ks (tree l ts) → HaveFoundGroups ks ts
style_groups ks l ts h d =
    of_style (λ k. GroupOr (is_group k) (IsFoundAs ks l ts) (HaveFoundGroups ks ts) → HaveFoundGroups ks ts) l.kind h (λ x. x) (λ x. x) d

form_style : (k : Kind) → IsStyleForm (edit_shape k).inline → IsStyle k
form_style kind.Bold s = inl refl
form_style kind.Italic s = inr refl
form_style k s = absurd s

-- ---- nodes are sent as they are

one_sent : (w : InlineForm) (pages : Pages) (same : Tree → Tree → Bool) (block : Tree) (l m : Label) (ts us : Trees) (A B F : Type 0) → TellsSame same
    → StandsAsIs (tree l ts) (tree m us) → IsBesideBy w pages l ts A → FoundBy w (kept_nodes block) l ts F → HasFoundGroups (kept_nodes block) (tree l ts)
    → (IsStyleForm w → A → F → B) → IsStyledBy w (page_of same block) m us B
one_sent inline.Nothing pages same block l m ts us A B F tells h g f d k = tt
one_sent inline.Characters pages same block l m ts us A B F tells h g f d k = tt
one_sent inline.Bold pages same block l m ts us A B F tells h g f d k = k tt g.2 f.1
one_sent inline.Italic pages same block l m ts us A B F tells h g f d k = k tt g.2 f.1
one_sent inline.Shown pages same block l m ts us A B F tells h g f d k = as_kept same block l m ts us tells h d f
one_sent inline.PageLink pages same block l m ts us A B F tells h g f d k = as_kept same block l m ts us tells h d f
one_sent inline.ExternalLink pages same block l m ts us A B F tells h g f d k = as_kept same block l m ts us tells h d f
one_sent inline.Tag pages same block l m ts us A B F tells h g f d k = as_kept same block l m ts us tells h d f
one_sent inline.Break pages same block l m ts us A B F tells h g f d k = as_kept same block l m ts us tells h d f
one_sent inline.AsItStood pages same block l m ts us A B F tells h g f d k = as_kept same block l m ts us tells h d f

mutual
  tree_sent : (pages : Pages) (same : Tree → Tree → Bool) (block t u : Tree) → TellsSame same → StandsAsIs t u → IsNodeBeside pages t → IsFound (kept_nodes block) t
      → HasFoundGroups (kept_nodes block) t → IsStyledSent (page_of same block) u
  tree_sent pages same block (tree l ts) (tree m us) tells h g f d =
      subst (λ (k : Kind). IsStyledBy (edit_shape k).inline (page_of same block) m us (AreStyledSent (page_of same block) us)) (sym h.0.kind)
      (one_sent (edit_shape l.kind).inline pages same block l m ts us (AreNodesBeside pages ts) (AreStyledSent (page_of same block) us) (AreFound (kept_nodes block) ts)
      tells h g f d
      (λ s a c. all_sent pages same block ts us tells (style_stands l.kind l ts us s h.1) a c (style_groups (kept_nodes block) l ts (form_style l.kind s) d)))

  all_sent : (pages : Pages) (same : Tree → Tree → Bool) (block : Tree) (ts us : Trees) → TellsSame same → AllStandAsIs ts us → AreNodesBeside pages ts
      → AreFound (kept_nodes block) ts → HaveFoundGroups (kept_nodes block) ts → AreStyledSent (page_of same block) us
  all_sent pages same block none none tells h g f d = tt
  all_sent pages same block none (more u us) tells h g f d = absurd h
  all_sent pages same block (more t ts) none tells h g f d = absurd h
  all_sent pages same block (more t ts) (more u us) tells h g f d =
      (tree_sent pages same block t u tells h.0 g.0 f.0 d.0, all_sent pages same block ts us tells h.1 g.1 f.1 d.1)

text_sent : (p : Page) (x : Label) (text : List ℕ) (us : Trees) → AreStyledSent p us → AreStyledSent p (text_node x text us)
text_sent p x [] us h = h
text_sent p x (c ∷ cs) us h = (tt, h)

style_sent : (p : Page) (m : Label) (us : Trees) → IsStyle m.kind → AreStyledSent p us → IsStyledSent p (tree m us)
style_sent p m us h s = of_style (λ k. IsStyledBy (edit_shape k).inline p m us (AreStyledSent p us)) m.kind h s s

pub pieces_sent : (pages : Pages) (same : Tree → Tree → Bool) (block : Tree) (ps : Pieces) → TellsSame same → AreFound (kept_nodes block) (page_pieces ps)
    → HaveFoundGroups (kept_nodes block) (page_pieces ps) → AreNodesBeside pages (page_pieces ps) → PiecesStay ps
    → AreStyledSent (page_of same block) (sent_pieces ps)
pieces_sent pages same block no_pieces tells f d g h = tt
pieces_sent pages same block (gone t ps) tells f d g h = pieces_sent pages same block ps tells f.1 d.1 g.1 h
pieces_sent pages same block (written x text ps) tells f d g h =
    text_sent (page_of same block) x text (sent_pieces ps) (pieces_sent pages same block ps tells f d g h)
pieces_sent pages same block (kept t u ps) tells f d g h =
    (tree_sent pages same block t u tells h.0 g.0 f.0 d.0, pieces_sent pages same block ps tells f.1 d.1 g.1 h.1)
pieces_sent pages same block (around l m is ps) tells f d g h =
    let b = style_beside pages l (page_pieces is) h.0 g.0 in
    let c = style_found (kept_nodes block) l (page_pieces is) h.0 f.0 in
    let e : HaveFoundGroups (kept_nodes block) (page_pieces is) = style_groups (kept_nodes block) l (page_pieces is) h.0 d.0 in (
      style_sent (page_of same block) m (sent_pieces is) (subst IsStyle (sym h.1.kind) h.0) (pieces_sent pages same block is tells c.1 e b.1 h.2),
      pieces_sent pages same block ps tells f.1 d.1 g.1 h.3,
    )
pieces_sent pages same block (new_style m is ps) tells f d g h =
    let b = beside_both pages (page_pieces is) (page_pieces ps) g in
    let c = found_both (kept_nodes block) (page_pieces is) (page_pieces ps) f in
    let e = groups_both (kept_nodes block) (page_pieces is) (page_pieces ps) d in (
      style_sent (page_of same block) (as_new m) (sent_pieces is) h.0 (pieces_sent pages same block is tells c.0 e.0 b.0 h.1),
      pieces_sent pages same block ps tells c.1 e.1 b.1 h.2,
    )

-- ---- nothing is wrong with a style

kind_of_kept : (ks : List Kept) (l : Label) (ts : Trees) (f : IsFoundAs ks l ts) → (label f.kept.node).kind ≡ l.kind
kind_of_kept ks l ts f = ap (λ (t : Tree). (label t).kind) f.node

own_style : (same : Tree → Tree → Bool) (block : Tree) (l m : Label) (ts us : Trees) → IsStyle l.kind → m.id ≡ l.id → IsFoundAs (kept_nodes block) l ts
    → if_replaced (standing (page_of same block) (tree m us)) ≡ []
own_style same block l m ts us h e f =
    let p : Page = page_of same block in
    ap (λ (n : ℕ). if_replaced (standing_of p (kept_with n p.kept) (tree m us))) e
    ∙ ap (λ (o : Option Kept). if_replaced (standing_of p o (tree m us))) f.found
    ∙ not_replaced (is_unchanged p f.kept (tree m us)) (label f.kept.node).kind (subst IsStyle (sym (kind_of_kept (kept_nodes block) l ts f)) h)

one_sound : (w : InlineForm) (same : Tree → Tree → Bool) (block : Tree) (l m : Label) (ts us : Trees) (B F : Type 0) → FoundBy w (kept_nodes block) l ts F
    → (IsStyleForm w → IsFoundAs (kept_nodes block) l ts → if_replaced (standing (page_of same block) (tree m us)) ≡ []) → (IsStyleForm w → F → B)
    → SoundBy w (page_of same block) m us B
one_sound inline.Nothing same block l m ts us B F f g k = tt
one_sound inline.Characters same block l m ts us B F f g k = tt
one_sound inline.Bold same block l m ts us B F f g k = (g tt f.0, k tt f.1)
one_sound inline.Italic same block l m ts us B F f g k = (g tt f.0, k tt f.1)
one_sound inline.Shown same block l m ts us B F f g k = tt
one_sound inline.PageLink same block l m ts us B F f g k = tt
one_sound inline.ExternalLink same block l m ts us B F f g k = tt
one_sound inline.Tag same block l m ts us B F f g k = tt
one_sound inline.Break same block l m ts us B F f g k = tt
one_sound inline.AsItStood same block l m ts us B F f g k = tt

mutual
  tree_sound : (same : Tree → Tree → Bool) (block t u : Tree) → StandsAsIs t u → IsFound (kept_nodes block) t → IsSound (page_of same block) u
  tree_sound same block (tree l ts) (tree m us) h f =
      subst (λ (k : Kind). SoundBy (edit_shape k).inline (page_of same block) m us (AreSound (page_of same block) us)) (sym h.0.kind)
      (one_sound (edit_shape l.kind).inline same block l m ts us (AreSound (page_of same block) us) (AreFound (kept_nodes block) ts) f
      (λ s d. own_style same block l m ts us (form_style l.kind s) h.0.id d)
      (λ s c. all_sound same block ts us (style_stands l.kind l ts us s h.1) c))

  all_sound : (same : Tree → Tree → Bool) (block : Tree) (ts us : Trees) → AllStandAsIs ts us → AreFound (kept_nodes block) ts → AreSound (page_of same block) us
  all_sound same block none none h f = tt
  all_sound same block none (more u us) h f = absurd h
  all_sound same block (more t ts) none h f = absurd h
  all_sound same block (more t ts) (more u us) h f = (tree_sound same block t u h.0 f.0, all_sound same block ts us h.1 f.1)

style_sound : (p : Page) (m : Label) (us : Trees) → IsStyle m.kind → if_replaced (standing p (tree m us)) ≡ [] → AreSound p us → IsSound p (tree m us)
style_sound p m us h e s = of_style (λ k. SoundBy (edit_shape k).inline p m us (AreSound p us)) m.kind h (e, s) (e, s)

pub pieces_sound : (same : Tree → Tree → Bool) (block : Tree) (ps : Pieces) → AreFound (kept_nodes block) (page_pieces ps) → PiecesStay ps
    → AreSound (page_of same block) (sent_pieces ps)
pieces_sound same block no_pieces f h = tt
pieces_sound same block (gone t ps) f h = pieces_sound same block ps f.1 h
pieces_sound same block (written x text ps) f h = text_known (page_of same block) x text (sent_pieces ps) (pieces_sound same block ps f h)
pieces_sound same block (kept t u ps) f h = (tree_sound same block t u h.0 f.0, pieces_sound same block ps f.1 h.1)
pieces_sound same block (around l m is ps) f h =
    let d = style_found (kept_nodes block) l (page_pieces is) h.0 f.0 in (
      style_sound (page_of same block) m (sent_pieces is) (subst IsStyle (sym h.1.kind) h.0)
          (own_style same block l m (page_pieces is) (sent_pieces is) h.0 h.1.id d.0) (pieces_sound same block is d.1 h.2),
      pieces_sound same block ps f.1 h.3,
    )
pieces_sound same block (new_style m is ps) f h =
    let d = found_both (kept_nodes block) (page_pieces is) (page_pieces ps) f in (
      style_sound (page_of same block) (as_new m) (sent_pieces is) h.0 (new_sound (page_of same block) m (sent_pieces is)) (pieces_sound same block is d.0 h.1),
      pieces_sound same block ps d.1 h.2,
    )

-- ---- its texts are UTF-8

abbrev pub Utf8By : InlineForm → Label → Type 0 → Type 0
Utf8By inline.Nothing l inside = Unit {0}
Utf8By inline.Characters l inside = IsUtf8 l.shown
Utf8By inline.Bold l inside = inside
Utf8By inline.Italic l inside = inside
Utf8By inline.Shown l inside = Unit {0}
Utf8By inline.PageLink l inside = Unit {0}
Utf8By inline.ExternalLink l inside = Unit {0}
Utf8By inline.Tag l inside = Unit {0}
Utf8By inline.Break l inside = Unit {0}
Utf8By inline.AsItStood l inside = Unit {0}

abbrev mutual
  pub HasUtf8 : Tree → Type 0
  HasUtf8 (tree l ts) = Utf8By (edit_shape l.kind).inline l (HaveUtf8 ts)

  pub HaveUtf8 : Trees → Type 0
  HaveUtf8 none = Unit {0}
  HaveUtf8 (more t ts) = HasUtf8 t × HaveUtf8 ts

one_utf8 : (w : InlineForm) (pages : Pages) (l m : Label) (ts : Trees) (A B : Type 0) → (w ≡ inline.Characters → m.shown ≡ l.shown) → IsBesideBy w pages l ts A
    → (IsStyleForm w → A → B) → Utf8By w m B
one_utf8 inline.Nothing pages l m ts A B e g k = tt
one_utf8 inline.Characters pages l m ts A B e g k = subst IsUtf8 (sym (e refl)) g.0
one_utf8 inline.Bold pages l m ts A B e g k = k tt g.2
one_utf8 inline.Italic pages l m ts A B e g k = k tt g.2
one_utf8 inline.Shown pages l m ts A B e g k = tt
one_utf8 inline.PageLink pages l m ts A B e g k = tt
one_utf8 inline.ExternalLink pages l m ts A B e g k = tt
one_utf8 inline.Tag pages l m ts A B e g k = tt
one_utf8 inline.Break pages l m ts A B e g k = tt
one_utf8 inline.AsItStood pages l m ts A B e g k = tt

mutual
  tree_utf8 : (pages : Pages) (t u : Tree) → StandsAsIs t u → IsNodeBeside pages t → HasUtf8 u
  tree_utf8 pages (tree l ts) (tree m us) h g =
      subst (λ (k : Kind). Utf8By (edit_shape k).inline m (HaveUtf8 us)) (sym h.0.kind)
      (one_utf8 (edit_shape l.kind).inline pages l m ts (AreNodesBeside pages ts) (HaveUtf8 us) (λ e. h.0.shown (text_shows l.kind e)) g
      (λ s a. all_utf8 pages ts us (style_stands l.kind l ts us s h.1) a))

  all_utf8 : (pages : Pages) (ts us : Trees) → AllStandAsIs ts us → AreNodesBeside pages ts → HaveUtf8 us
  all_utf8 pages none none h g = tt
  all_utf8 pages none (more u us) h g = absurd h
  all_utf8 pages (more t ts) none h g = absurd h
  all_utf8 pages (more t ts) (more u us) h g = (tree_utf8 pages t u h.0 g.0, all_utf8 pages ts us h.1 g.1)

text_utf8 : (x : Label) (text : List ℕ) (us : Trees) → IsUtf8 text → HaveUtf8 us → HaveUtf8 (text_node x text us)
text_utf8 x [] us u h = h
text_utf8 x (c ∷ cs) us u h = (u, h)

style_utf8 : (m : Label) (us : Trees) → IsStyle m.kind → HaveUtf8 us → HasUtf8 (tree m us)
style_utf8 m us h s = of_style (λ k. Utf8By (edit_shape k).inline m (HaveUtf8 us)) m.kind h s s

pub pieces_utf8 : (pages : Pages) (ps : Pieces) → AreNodesBeside pages (page_pieces ps) → PiecesStay ps → AreNodesAndTexts ps → HaveUtf8 (sent_pieces ps)
pieces_utf8 pages no_pieces g h a = tt
pieces_utf8 pages (gone t ps) g h a = pieces_utf8 pages ps g.1 h a
pieces_utf8 pages (written x text ps) g h a = text_utf8 x text (sent_pieces ps) a.0 (pieces_utf8 pages ps g h a.1)
pieces_utf8 pages (kept t u ps) g h a = (tree_utf8 pages t u h.0 g.0, pieces_utf8 pages ps g.1 h.1 a.1)
pieces_utf8 pages (around l m is ps) g h a =
    let b = style_beside pages l (page_pieces is) h.0 g.0 in
    (style_utf8 m (sent_pieces is) (subst IsStyle (sym h.1.kind) h.0) (pieces_utf8 pages is b.1 h.2 a.0), pieces_utf8 pages ps g.1 h.3 a.1)
pieces_utf8 pages (new_style m is ps) g h a =
    let b = beside_both pages (page_pieces is) (page_pieces ps) g in
    (style_utf8 (as_new m) (sent_pieces is) h.0 (pieces_utf8 pages is b.0 h.1 a.0), pieces_utf8 pages ps b.1 h.2 a.1)

-- ---- what stays is inline

one_inline : (w : InlineForm) (pages : Pages) (l : Label) (ts : Trees) (A : Type 0) → IsNodeForm w → IsBesideBy w pages l ts A → (IsStyleForm w → is_block_part l.kind ≡ false)
    → is_block_part l.kind ≡ false
one_inline inline.Nothing pages l ts A n g s = absurd n
one_inline inline.Characters pages l ts A n g s = absurd n
one_inline inline.Bold pages l ts A n g s = s tt
one_inline inline.Italic pages l ts A n g s = s tt
one_inline inline.Shown pages l ts A n g s = g.inline
one_inline inline.PageLink pages l ts A n g s = g.inline
one_inline inline.ExternalLink pages l ts A n g s = g.inline
one_inline inline.Tag pages l ts A n g s = g.inline
one_inline inline.Break pages l ts A n g s = g.inline
one_inline inline.AsItStood pages l ts A n g s = g.inline

style_inline : (k : Kind) → IsStyleForm (edit_shape k).inline → is_block_part k ≡ false
style_inline kind.Bold s = refl
style_inline kind.Italic s = refl
style_inline k s = absurd s

pub pieces_inline : (pages : Pages) (ps : Pieces) → AreNodesBeside pages (page_pieces ps) → PiecesStay ps → AreNodesAndTexts ps → AreInline ps
pieces_inline pages no_pieces g h a = tt
pieces_inline pages (gone t ps) g h a = pieces_inline pages ps g.1 h a
pieces_inline pages (written x text ps) g h a = pieces_inline pages ps g h a.1
pieces_inline pages (kept (tree l ts) (tree m us) ps) g h a = (
  ap is_block_part h.0.0.kind
      ∙ one_inline (edit_shape l.kind).inline pages l ts (AreNodesBeside pages ts) a.0 g.0 (λ s. style_inline l.kind s),
  pieces_inline pages ps g.1 h.1 a.1,
)
pieces_inline pages (around l m is ps) g h a = pieces_inline pages ps g.1 h.3 a.1
pieces_inline pages (new_style m is ps) g h a =
    let b = beside_both pages (page_pieces is) (page_pieces ps) g in pieces_inline pages ps b.1 h.2 a.1
