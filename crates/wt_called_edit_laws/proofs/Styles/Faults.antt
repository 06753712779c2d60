-- Nothing is wrong in what is sent beside calls and styles, and its texts are characters.
use Rattle.std.proofs.Common.{◌≡◌, Bool, true, false, None, [], ◌∷◌, ◌++◌, ap, refl, ◌||◌, ◌∙◌}
use Rattle.std.specs.Prelude.{if◌then◌else◌}
use Rattle.std.proofs.lemmas.Str.{scalars-chars}
use Rattle.std.specs.Str.{chars}
use Rattle.wt_tree.specs.EditShapes.{edit_shape}
use Rattle.wt_tree.specs.Tree.{Label, Tree, Trees, label, more, none, tree}
use Rattle.wt_tree.specs.declared.edit_shape.InlineForm.{InlineForm}
use Rattle.wt_tree.specs.declared.edit_shape.InlineForm.TheVariants as inline
use Rattle.wt_original.specs.Kept.{kept_with}
use Rattle.wt_original.specs.Page.{Page, page_of}
use Rattle.wt_content.specs.Content.{all_faults, bad_content, below, faults, faults_by, first_why, holds_link, is_paragraph, standing}
use Rattle.wt_content.specs.declared.content.Standing.{Standing}
use Rattle.wt_content.specs.declared.content.Surroundings.{Surroundings}
use Rattle.wt_content.specs.declared.reason.ContentWhy.TheVariants as why
use Rattle.wt_beside_laws.proofs.NoFaults.{stays_same}
use Rattle.wt_beside_laws.proofs.Styled.SentFaults.{AreSound, CharactersIn, IsSound, SoundBy, found_characters, or_true, style_characters, text_characters, text_unbroken}
use Rattle.wt_beside_laws.specs.Lines.{AreCharacters}
use Rattle.wt_beside_laws.specs.SentPieces.{FitsBy, TextsFit}
use Rattle.wt_beside_laws.specs.SentStyled.{AllNest, AreStyledSent, IsStyledBy, IsStyledSent, Nests, NestsBy, sent_before, sent_by, sent_content}
use Rattle.wt_beside_laws.specs.Styled.{StyledContent, signs_in}
use Rattle.wt_called_edit_laws.proofs.Styles.Sent.{HasUtf8, HaveUtf8, Utf8By}

abbrev within : Bool → Surroundings
within v = record { in_paragraph = v; in_link = false }

-- in a style no text has a line break
style_fits : (w : InlineForm) (l : Label) (bold italic : Bool) (T : Type 0) (N : Bool → Bool → Type 0) → (bold || italic) ≡ true → NestsBy w bold italic l N
    → Utf8By w l T → FitsBy w false l
style_fits inline.Nothing l bold italic T N e n s = tt
style_fits inline.Characters l bold italic T N e n s = ap (λ (b : Bool). if b then why.LineBreak ∷ [] else []) (text_unbroken l.shown s (n e))
style_fits inline.Bold l bold italic T N e n s = tt
style_fits inline.Italic l bold italic T N e n s = tt
style_fits inline.Shown l bold italic T N e n s = tt
style_fits inline.PageLink l bold italic T N e n s = tt
style_fits inline.ExternalLink l bold italic T N e n s = tt
style_fits inline.Tag l bold italic T N e n s = tt
style_fits inline.Break l bold italic T N e n s = tt
style_fits inline.AsItStood l bold italic T N e n s = tt

one_fine : (w : InlineForm) (v : Bool) (p : Page) (l : Label) (ts : Trees) (holds bold italic : Bool) (A K T : Type 0) (N : Bool → Bool → Type 0)
    → FitsBy w v l → IsStyledBy w p l ts A → SoundBy w p l ts K → NestsBy w bold italic l N → Utf8By w l T
    → ((b i : Bool) → (b || i) ≡ true → A → K → N b i → T → all_faults p (within false) ts ≡ [])
    → faults_by w (within v) (standing p (tree l ts)) l holds (all_faults p (below (within v) w) ts) ≡ []
one_fine inline.Nothing v p l ts holds bold italic A K T N t h k n s f = refl
one_fine inline.Characters v p l ts holds bold italic A K T N t h k n s f = ap (λ ws. ws ++ []) t
one_fine inline.Bold v p l ts holds bold italic A K T N t h k n s f =
    ap (λ ws. ws ++ all_faults p (within false) ts) k.0 ∙ f true italic refl h k.1 n.1 s
one_fine inline.Italic v p l ts holds bold italic A K T N t h k n s f =
    ap (λ ws. ws ++ all_faults p (within false) ts) k.0 ∙ f bold true (or_true bold) h k.1 n.1 s
one_fine inline.Shown v p l ts holds bold italic A K T N t h k n s f =
    ap (λ (x : Standing). faults_by inline.Shown (within v) x l holds (all_faults p (below (within v) inline.Shown) ts)) (stays_same p l ts h)
one_fine inline.PageLink v p l ts holds bold italic A K T N t h k n s f =
    ap (λ (x : Standing). faults_by inline.PageLink (within v) x l holds (all_faults p (below (within v) inline.PageLink) ts)) (stays_same p l ts h)
one_fine inline.ExternalLink v p l ts holds bold italic A K T N t h k n s f =
    ap (λ (x : Standing). faults_by inline.ExternalLink (within v) x l holds (all_faults p (below (within v) inline.ExternalLink) ts)) (stays_same p l ts h)
one_fine inline.Tag v p l ts holds bold italic A K T N t h k n s f =
    ap (λ (x : Standing). faults_by inline.Tag (within v) x l holds (all_faults p (below (within v) inline.Tag) ts)) (stays_same p l ts h)
one_fine inline.Break v p l ts holds bold italic A K T N t h k n s f =
    ap (λ (x : Standing). faults_by inline.Break (within v) x l holds (all_faults p (below (within v) inline.Break) ts)) (stays_same p l ts h)
one_fine inline.AsItStood v p l ts holds bold italic A K T N t h k n s f =
    ap (λ (x : Standing). faults_by inline.AsItStood (within v) x l holds (all_faults p (below (within v) inline.AsItStood) ts)) (stays_same p l ts h)

mutual
  held_fine : (p : Page) (t : Tree) (bold italic : Bool) → (bold || italic) ≡ true → IsStyledSent p t → IsSound p t → Nests bold italic t → HasUtf8 t
      → faults p (within false) t ≡ []
  held_fine p (tree l ts) bold italic e h k n s =
      one_fine (edit_shape l.kind).inline false p l ts (holds_link (tree l ts)) bold italic (AreStyledSent p ts) (AreSound p ts) (HaveUtf8 ts) (λ b i. AllNest b i ts)
      (style_fits (edit_shape l.kind).inline l bold italic (HaveUtf8 ts) (λ b i. AllNest b i ts) e n s) h k n s
      (λ b i f a c m d. all_held p ts b i f a c m d)

  all_held : (p : Page) (us : Trees) (bold italic : Bool) → (bold || italic) ≡ true → AreStyledSent p us → AreSound p us → AllNest bold italic us → HaveUtf8 us
      → all_faults p (within false) us ≡ []
  all_held p none bold italic e h k n s = refl
  all_held p (more t us) bold italic e h k n s =
      ap (λ ws. ws ++ all_faults p (within false) us) (held_fine p t bold italic e h.0 k.0 n.0 s.0) ∙ all_held p us bold italic e h.1 k.1 n.1 s.1

all_fine : (v : Bool) (p : Page) (us : Trees) → AreStyledSent p us → AreSound p us → AllNest false false us → HaveUtf8 us → TextsFit v us
    → all_faults p (within v) us ≡ []
all_fine v p none h k n s f = refl
all_fine v p (more (tree l ts) us) h k n s f =
    ap (λ ws. ws ++ all_faults p (within v) us)
    (one_fine (edit_shape l.kind).inline v p l ts (holds_link (tree l ts)) false false (AreStyledSent p ts) (AreSound p ts) (HaveUtf8 ts) (λ b i. AllNest b i ts)
    f.0 h.0 k.0 n.0 s.0 (λ b i e a c m d. all_held p ts b i e a c m d))
    ∙ all_fine v p us h.1 k.1 n.1 s.1 f.1

pub no_fault : (same : Tree → Tree → Bool) (block : Tree) (m : Label) (us : Trees) → AreStyledSent (page_of same block) us → AreSound (page_of same block) us
    → AllNest false false us → HaveUtf8 us → TextsFit (is_paragraph (edit_shape (label block).kind).form) us → bad_content same block (tree m us) ≡ None
unfolding bad_content
no_fault same block m us h k n s f = ap first_why (all_fine (is_paragraph (edit_shape (label block).kind).form) (page_of same block) us h k n s f)

-- ---- characters

one_characters : (w : InlineForm) (p : Page) (l : Label) (held t : StyledContent) (T : Type 0) → Utf8By w l T → (T → CharactersIn held) → CharactersIn t
    → CharactersIn (sent_by w (kept_with l.id p.kept) l held t)
one_characters inline.Nothing p l held t T s f k = k
one_characters inline.Characters p l held t T s f k = text_characters (chars l.shown) t (scalars-chars l.shown s) k
one_characters inline.Bold p l held t T s f k = style_characters true (kept_with l.id p.kept) held t (f s) k
one_characters inline.Italic p l held t T s f k = style_characters false (kept_with l.id p.kept) held t (f s) k
one_characters inline.Shown p l held t T s f k = found_characters (kept_with l.id p.kept) t k
one_characters inline.PageLink p l held t T s f k = found_characters (kept_with l.id p.kept) t k
one_characters inline.ExternalLink p l held t T s f k = found_characters (kept_with l.id p.kept) t k
one_characters inline.Tag p l held t T s f k = found_characters (kept_with l.id p.kept) t k
one_characters inline.Break p l held t T s f k = found_characters (kept_with l.id p.kept) t k
one_characters inline.AsItStood p l held t T s f k = found_characters (kept_with l.id p.kept) t k

mutual
  tree_characters : (p : Page) (t : Tree) (c : StyledContent) → HasUtf8 t → CharactersIn c → CharactersIn (sent_before p t c)
  tree_characters p (tree l ts) c s k =
      one_characters (edit_shape l.kind).inline p l (sent_content p ts) c (HaveUtf8 ts) s (λ a. all_characters p ts a) k

  all_characters : (p : Page) (us : Trees) → HaveUtf8 us → CharactersIn (sent_content p us)
  all_characters p none s = λ after k. k
  all_characters p (more t us) s = tree_characters p t (sent_content p us) s.0 (all_characters p us s.1)

pub characters_sent : (p : Page) (us : Trees) → HaveUtf8 us → AreCharacters (signs_in (sent_content p us))
characters_sent p us s = all_characters p us s [] tt
