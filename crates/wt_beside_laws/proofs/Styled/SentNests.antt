-- What is sent nests, where the page's content does and new styles are as they may be.
use Rattle.std.proofs.Common.{◌≡◌, Bool, true, false, not, List, [], ◌∷◌, refl, sym, ap, ◌∙◌, subst}
use Rattle.std.specs.Prelude.{◌||◌, ℕ}
use Rattle.std.specs.Str.{IsUtf8}
use Rattle.wt_tree.specs.declared.kind.Kind.{Kind}
use Rattle.wt_tree.specs.declared.kind.Kind.TheVariants as kind
use Rattle.wt_tree.specs.declared.kind.Showing.TheVariants as showing
use Rattle.wt_tree.specs.declared.edit_shape.InlineForm.{InlineForm}
use Rattle.wt_tree.specs.declared.edit_shape.InlineForm.TheVariants as inline
use Rattle.wt_tree.specs.EditShapes.{edit_shape}
use Rattle.wt_tree.specs.Kinds.{showing as showing_of}
use Rattle.wt_tree.specs.Tiling.{is_group}
use Rattle.wt_tree.specs.Tree.{Label, Tree, tree, Trees, none, more}
use Rattle.wt_content.specs.Content.{has_break}
use Rattle.wt_difference.specs.Unedited.{GroupOr}
use Rattle.wt_typed_blocks.specs.Sent.{IsSentAsIs, GroupIsSent, StandsAsIs, AllStandAsIs}
use Rattle.wt_typed_blocks.specs.Edited.{Pieces, no_pieces, gone, written, kept, around, new_style, as_new, page_pieces, text_node, sent_pieces, IsStyle, PiecesStay}
use Rattle.wt_typed_blocks.proofs.SentGroups.{of_style as by_style, apart}
use Rattle.wt_beside_laws.specs.FlatPages.{AreNodesAndTexts}
use Rattle.wt_beside_laws.specs.Nests.{of_style}
use Rattle.wt_beside_laws.specs.NewStyles.{is_bold_form, has_style_by, has_style, have_style, NewStylesNest}
use Rattle.wt_beside_laws.specs.SentPieces.{IsNodeForm}
use Rattle.wt_beside_laws.specs.SentStyled.{breaks_line, NestsBy, Nests, AllNest}
use Rattle.wt_beside_laws.proofs.Styled.SentFaults.{LineBy, style_lines, node_line, typed_line, or_both, or_true}

-- ---- bold and italic

abbrev pub IsStyleForm : InlineForm → Type 0
IsStyleForm inline.Nothing = ⊥
IsStyleForm inline.Characters = ⊥
IsStyleForm inline.Bold = Unit {0}
IsStyleForm inline.Italic = Unit {0}
IsStyleForm inline.Shown = ⊥
IsStyleForm inline.PageLink = ⊥
IsStyleForm inline.ExternalLink = ⊥
IsStyleForm inline.Tag = ⊥
IsStyleForm inline.Break = ⊥
IsStyleForm inline.AsItStood = ⊥

pub style_form : (k : Kind) → IsStyle k → IsStyleForm (edit_shape k).inline
style_form k h = by_style (λ j. IsStyleForm (edit_shape j).inline) k h tt tt

-- no style is a group, so what it holds is sent as it is
pub style_stands : (k : Kind) (l : Label) (ts us : Trees) → IsStyleForm (edit_shape k).inline → GroupOr (is_group k) (GroupIsSent l ts us) (AllStandAsIs ts us)
    → AllStandAsIs ts us
style_stands kind.Bold l ts us s h = h
style_stands kind.Italic l ts us s h = h
style_stands k l ts us s h = absurd s

-- ---- what stays, in new styles

-- of a text
pub text_shows : (k : Kind) → (edit_shape k).inline ≡ inline.Characters → showing_of k ≡ showing.Characters
text_shows kind.Text e = refl
text_shows k e = cc

line_same : (w : InlineForm) (l m : Label) → (w ≡ inline.Characters → m.shown ≡ l.shown) → LineBy w l → LineBy w m
line_same inline.Nothing l m e h = tt
line_same inline.Characters l m e h = ap breaks_line (e refl) ∙ h
line_same inline.Bold l m e h = tt
line_same inline.Italic l m e h = tt
line_same inline.Shown l m e h = tt
line_same inline.PageLink l m e h = tt
line_same inline.ExternalLink l m e h = tt
line_same inline.Tag l m e h = tt
line_same inline.Break l m e h = tt
line_same inline.AsItStood l m e h = tt

line_stays : (l m : Label) → IsSentAsIs l m → LineBy (edit_shape l.kind).inline l → LineBy (edit_shape m.kind).inline m
line_stays l m h own =
    subst (λ (k : Kind). LineBy (edit_shape k).inline m) (sym h.kind) (line_same (edit_shape l.kind).inline l m (λ e. h.shown (text_shows l.kind e)) own)

-- In styles of the page (pb, pi) and in new ones (nb, ni), where none of the kinds of the new ones is in it.
one_nests : (w : InlineForm) (l m : Label) (pb pi nb ni hb hi : Bool) (A B : Bool → Bool → Type 0) → LineBy w m → (nb ≡ true → has_style_by w true hb ≡ false)
    → (ni ≡ true → has_style_by w false hi ≡ false)
    → (IsStyleForm w → (qb qi mb mi : Bool) → (qb || qi) ≡ true → (mb ≡ true → hb ≡ false) → (mi ≡ true → hi ≡ false) → A qb qi → B (mb || qb) (mi || qi))
    → NestsBy w pb pi l A → NestsBy w (nb || pb) (ni || pi) m B
one_nests inline.Nothing l m pb pi nb ni hb hi A B t x y f n = tt
one_nests inline.Characters l m pb pi nb ni hb hi A B t x y f n = λ e. t
one_nests inline.Bold l m pb pi true ni hb hi A B t x y f n = absurd (let no : true ≡ false = x refl in cc)
one_nests inline.Bold l m pb pi false ni hb hi A B t x y f n = (n.0, f tt true pi false ni refl (λ e. absurd (cc)) y n.1)
one_nests inline.Italic l m pb pi nb true hb hi A B t x y f n = absurd (let no : true ≡ false = y refl in cc)
one_nests inline.Italic l m pb pi nb false hb hi A B t x y f n = (n.0, f tt pb true nb false (or_true pb) x (λ e. absurd (cc)) n.1)
one_nests inline.Shown l m pb pi nb ni hb hi A B t x y f n = tt
one_nests inline.PageLink l m pb pi nb ni hb hi A B t x y f n = tt
one_nests inline.ExternalLink l m pb pi nb ni hb hi A B t x y f n = tt
one_nests inline.Tag l m pb pi nb ni hb hi A B t x y f n = tt
one_nests inline.Break l m pb pi nb ni hb hi A B t x y f n = tt
one_nests inline.AsItStood l m pb pi nb ni hb hi A B t x y f n = tt

abbrev LineOf : Tree → Type 0
LineOf (tree l ts) = LineBy (edit_shape l.kind).inline l

stays_line : (t u : Tree) (bold italic : Bool) → StandsAsIs t u → (bold || italic) ≡ true → Nests bold italic t → LineOf u
stays_line (tree l ts) (tree m us) bold italic h e n =
    line_stays l m h.0 (style_lines (edit_shape l.kind).inline l bold italic (λ b i. AllNest b i ts) e n)

mutual
  pub tree_nests : (t u : Tree) (pb pi nb ni : Bool) → StandsAsIs t u → LineOf u → (nb ≡ true → has_style true u ≡ false) → (ni ≡ true → has_style false u ≡ false)
      → Nests pb pi t → Nests (nb || pb) (ni || pi) u
  tree_nests (tree l ts) (tree m us) pb pi nb ni h line x y n =
      one_nests (edit_shape m.kind).inline l m pb pi nb ni (have_style true us) (have_style false us) (λ b i. AllNest b i ts) (λ b i. AllNest b i us) line x y
      (λ f qb qi mb mi e a c d.
      held_nest ts us qb qi mb mi (style_stands l.kind l ts us (subst (λ (k : Kind). IsStyleForm (edit_shape k).inline) h.0.kind f) h.1) e a c d)
      (subst (λ (k : Kind). NestsBy (edit_shape k).inline pb pi l (λ b i. AllNest b i ts)) (sym h.0.kind) n)

  held_nest : (ts us : Trees) (pb pi nb ni : Bool) → AllStandAsIs ts us → (pb || pi) ≡ true → (nb ≡ true → have_style true us ≡ false)
      → (ni ≡ true → have_style false us ≡ false) → AllNest pb pi ts → AllNest (nb || pb) (ni || pi) us
  held_nest none none pb pi nb ni h e x y n = tt
  held_nest none (more u us) pb pi nb ni h e x y n = absurd h
  held_nest (more t ts) none pb pi nb ni h e x y n = absurd h
  held_nest (more t ts) (more u us) pb pi nb ni h e x y n = (
    tree_nests t u pb pi nb ni h.0 (stays_line t u pb pi h.0 e n.0) (λ z. (or_both (has_style true u) (have_style true us) (x z)).0)
        (λ z. (or_both (has_style false u) (have_style false us) (y z)).0) n.0,
    held_nest ts us pb pi nb ni h.1 e (λ z. (or_both (has_style true u) (have_style true us) (x z)).1)
        (λ z. (or_both (has_style false u) (have_style false us) (y z)).1) n.1,
  )

-- ---- styles with pieces in them

-- one of the page
old_nests : (w : InlineForm) (l m : Label) (pb pi nb ni hb hi : Bool) (A B N : Bool → Bool → Type 0) → IsStyleForm w → (nb ≡ true → has_style_by w true hb ≡ false)
    → (ni ≡ true → has_style_by w false hi ≡ false) → N (is_bold_form w || (nb || pb)) (not (is_bold_form w) || (ni || pi))
    → ((qb qi mb mi : Bool) → (mb ≡ true → hb ≡ false) → (mi ≡ true → hi ≡ false) → N (mb || qb) (mi || qi) → A qb qi → B (mb || qb) (mi || qi))
    → NestsBy w pb pi l A → NestsBy w (nb || pb) (ni || pi) m B
old_nests inline.Nothing l m pb pi nb ni hb hi A B N s x y c f n = absurd s
old_nests inline.Characters l m pb pi nb ni hb hi A B N s x y c f n = absurd s
old_nests inline.Bold l m pb pi true ni hb hi A B N s x y c f n = absurd (let no : true ≡ false = x refl in cc)
old_nests inline.Bold l m pb pi false ni hb hi A B N s x y c f n = (n.0, f true pi false ni (λ e. absurd (cc)) y c n.1)
old_nests inline.Italic l m pb pi nb true hb hi A B N s x y c f n = absurd (let no : true ≡ false = y refl in cc)
old_nests inline.Italic l m pb pi nb false hb hi A B N s x y c f n = (n.0, f pb true nb false x (λ e. absurd (cc)) c n.1)
old_nests inline.Shown l m pb pi nb ni hb hi A B N s x y c f n = absurd s
old_nests inline.PageLink l m pb pi nb ni hb hi A B N s x y c f n = absurd s
old_nests inline.ExternalLink l m pb pi nb ni hb hi A B N s x y c f n = absurd s
old_nests inline.Tag l m pb pi nb ni hb hi A B N s x y c f n = absurd s
old_nests inline.Break l m pb pi nb ni hb hi A B N s x y c f n = absurd s
old_nests inline.AsItStood l m pb pi nb ni hb hi A B N s x y c f n = absurd s

-- a new one; H tells whether a style of a kind is in it
new_nests : (w : InlineForm) (m : Label) (pb pi nb ni : Bool) (H : Bool → Bool) (B N : Bool → Bool → Type 0) → IsStyleForm w
    → of_style (is_bold_form w) (nb || pb) (ni || pi) ≡ false → H (is_bold_form w) ≡ false → N (is_bold_form w || (nb || pb)) (not (is_bold_form w) || (ni || pi))
    → (nb ≡ true → has_style_by w true (H true) ≡ false) → (ni ≡ true → has_style_by w false (H false) ≡ false)
    → ((mb mi : Bool) → (mb ≡ true → H true ≡ false) → (mi ≡ true → H false ≡ false) → N (mb || pb) (mi || pi) → B (mb || pb) (mi || pi))
    → NestsBy w (nb || pb) (ni || pi) m B
new_nests inline.Nothing m pb pi nb ni H B N s e h c x y f = absurd s
new_nests inline.Characters m pb pi nb ni H B N s e h c x y f = absurd s
new_nests inline.Bold m pb pi nb ni H B N s e h c x y f = (e, f true ni (λ z. h) y c)
new_nests inline.Italic m pb pi nb ni H B N s e h c x y f = (e, f nb true x (λ z. h) c)
new_nests inline.Shown m pb pi nb ni H B N s e h c x y f = absurd s
new_nests inline.PageLink m pb pi nb ni H B N s e h c x y f = absurd s
new_nests inline.ExternalLink m pb pi nb ni H B N s e h c x y f = absurd s
new_nests inline.Tag m pb pi nb ni H B N s e h c x y f = absurd s
new_nests inline.Break m pb pi nb ni H B N s e h c x y f = absurd s
new_nests inline.AsItStood m pb pi nb ni H B N s e h c x y f = absurd s

text_has : (x : Label) (text : List ℕ) (us : Trees) (bold : Bool) → have_style bold (text_node x text us) ≡ have_style bold us
text_has x [] us bold = refl
text_has x (c ∷ cs) us bold = refl

text_nests : (x : Label) (text : List ℕ) (us : Trees) (bold italic : Bool) → IsUtf8 text → ((bold || italic) ≡ true → has_break text ≡ false) → AllNest bold italic us
    → AllNest bold italic (text_node x text us)
text_nests x [] us bold italic u b n = n
text_nests x (c ∷ cs) us bold italic u b n = ((λ e. typed_line (c ∷ cs) u (b e)), n)

-- ---- all pieces

pub nest_in : (ps : Pieces) (pb pi nb ni : Bool) → PiecesStay ps → AreNodesAndTexts ps → AllNest pb pi (page_pieces ps)
    → NewStylesNest (nb || pb) (ni || pi) ps → (nb ≡ true → have_style true (sent_pieces ps) ≡ false) → (ni ≡ true → have_style false (sent_pieces ps) ≡ false)
    → AllNest (nb || pb) (ni || pi) (sent_pieces ps)
nest_in no_pieces pb pi nb ni h a n w x y = tt
nest_in (gone t ps) pb pi nb ni h a n w x y = nest_in ps pb pi nb ni h a n.1 w x y
nest_in (written l text ps) pb pi nb ni h a n w x y =
    text_nests l text (sent_pieces ps) (nb || pb) (ni || pi) a.0 w.0
    (nest_in ps pb pi nb ni h a.1 n w.1 (λ z. sym (text_has l text (sent_pieces ps) true) ∙ x z) (λ z. sym (text_has l text (sent_pieces ps) false) ∙ y z))
nest_in (kept (tree l ts) (tree m us) ps) pb pi nb ni h a n w x y =
    let form : IsNodeForm (edit_shape m.kind).inline = subst (λ (k : Kind). IsNodeForm (edit_shape k).inline) (sym h.0.0.kind) a.0 in
    let u : Tree = tree m us in (
      tree_nests (tree l ts) u pb pi nb ni h.0 (node_line (edit_shape m.kind).inline m form)
          (λ z. (or_both (has_style true u) (have_style true (sent_pieces ps)) (x z)).0) (λ z. (or_both (has_style false u) (have_style false (sent_pieces ps)) (y z)).0) n.0,
      nest_in ps pb pi nb ni h.1 a.1 n.1 w (λ z. (or_both (has_style true u) (have_style true (sent_pieces ps)) (x z)).1)
          (λ z. (or_both (has_style false u) (have_style false (sent_pieces ps)) (y z)).1),
    )
nest_in (around l m is ps) pb pi nb ni h a n w x y =
    let u : Tree = tree m (sent_pieces is) in (
      old_nests (edit_shape m.kind).inline l m pb pi nb ni (have_style true (sent_pieces is)) (have_style false (sent_pieces is)) (λ b i. AllNest b i (page_pieces is))
          (λ b i. AllNest b i (sent_pieces is)) (λ b i. NewStylesNest b i is) (style_form m.kind (subst IsStyle (sym h.1.kind) h.0))
          (λ z. (or_both (has_style true u) (have_style true (sent_pieces ps)) (x z)).0) (λ z. (or_both (has_style false u) (have_style false (sent_pieces ps)) (y z)).0) w.0
          (λ qb qi mb mi c d e k. nest_in is qb qi mb mi h.2 a.0 k e c d)
          (subst (λ (k : Kind). NestsBy (edit_shape k).inline pb pi l (λ b i. AllNest b i (page_pieces is))) (sym h.1.kind) n.0),
      nest_in ps pb pi nb ni h.3 a.1 n.1 w.1 (λ z. (or_both (has_style true u) (have_style true (sent_pieces ps)) (x z)).1)
          (λ z. (or_both (has_style false u) (have_style false (sent_pieces ps)) (y z)).1),
    )
nest_in (new_style m is ps) pb pi nb ni h a n w x y =
    let d = apart (λ t. Nests pb pi t) (λ us. AllNest pb pi us) tt (λ t us k. k) (λ t us k. k) (page_pieces is) (page_pieces ps) n in
    let u : Tree = tree (as_new m) (sent_pieces is) in (
      new_nests (edit_shape m.kind).inline (as_new m) pb pi nb ni (λ k. have_style k (sent_pieces is)) (λ b i. AllNest b i (sent_pieces is)) (λ b i. NewStylesNest b i is)
          (style_form m.kind h.0) w.0 w.1 w.2
          (λ z. (or_both (has_style true u) (have_style true (sent_pieces ps)) (x z)).0) (λ z. (or_both (has_style false u) (have_style false (sent_pieces ps)) (y z)).0)
          (λ mb mi c e k. nest_in is pb pi mb mi h.1 a.0 d.0 k c e),
      nest_in ps pb pi nb ni h.2 a.1 d.1 w.3 (λ z. (or_both (has_style true u) (have_style true (sent_pieces ps)) (x z)).1)
          (λ z. (or_both (has_style false u) (have_style false (sent_pieces ps)) (y z)).1),
    )

pub sent_nest : (ps : Pieces) → PiecesStay ps → AreNodesAndTexts ps → AllNest false false (page_pieces ps)
    → NewStylesNest false false ps → AllNest false false (sent_pieces ps)
sent_nest ps h a n w = nest_in ps false false false false h a n w (λ z. absurd (cc)) (λ z. absurd (cc))
