-- Nothing is wrong in what is sent of a block with styles, its texts are characters, and in a heading it is on one line.
use Rattle.std.proofs.Common.{arith, ◌≡◌, inl, inr, ℕ, ◌≤◌, ◌==◌, Bool, true, false, List, [], ◌∷◌, ◌++◌, refl, sym, ap, ◌∙◌, subst, All}
use Rattle.std.specs.Prelude.{◌||◌, if◌then◌else◌, Option, Some, None, encode_utf8}
use Rattle.std.specs.List.{list_any}
use Rattle.std.specs.Str.{IsUtf8, chars}
use Rattle.std.proofs.Math.Utf8.{encodes, scalar, scalars}
use Rattle.std.proofs.lemmas.Bool.{cases_lt}
use Rattle.std.proofs.lemmas.Bool.Decides.{nat_tests}
use Rattle.std.proofs.lemmas.List.Elements.{All-head, All-tail}
use Rattle.std.proofs.lemmas.Str.{encodes-chars, encode_ascii, scalars-chars}
use Rattle.wt_lex.proofs.Begins.{and_left, and_right}
use Rattle.wt_names.proofs.Ascii.{IsWide, encode_wide}
use Rattle.wt_span.specs.Bytes.{is_break}
use Rattle.wt_tree.specs.declared.kind.Kind.{Kind}
use Rattle.wt_tree.specs.declared.edit_shape.InlineForm.{InlineForm}
use Rattle.wt_tree.specs.declared.edit_shape.InlineForm.TheVariants as inline
use Rattle.wt_tree.specs.EditShapes.{edit_shape}
use Rattle.wt_tree.specs.Tiling.{is_group, HasNoGroup, NoneIsGroup}
use Rattle.wt_tree.specs.Tree.{Label, Tree, tree, Trees, none, more, label}
use Rattle.wt_guards.specs.Content.{ContentSign}
use Rattle.wt_original.specs.Kept.{Kept, kept_with}
use Rattle.wt_original.specs.Page.{Page, is_unchanged, page_of, TellsSame}
use Rattle.wt_content.specs.declared.reason.ContentWhy.TheVariants as why
use Rattle.wt_content.specs.declared.content.Surroundings.{Surroundings}
use Rattle.wt_content.specs.declared.content.Standing.{Standing}
use Rattle.wt_content.specs.declared.content.Standing.TheVariants as stands
use Rattle.wt_content.specs.Content.{changed_from, standing_of, if_replaced, standing, faults_by, holds_link, below, faults, all_faults, has_break, is_paragraph, first_why, bad_content}
use Rattle.wt_link_spelling.specs.Spelling.{opening_place, closing_place}
use Rattle.wt_typed_blocks.specs.Sent.{IsSentAsIs, StandsAsIs, AllStandAsIs}
use Rattle.wt_typed_blocks.specs.Edited.{Pieces, no_pieces, gone, written, kept, around, new_style, as_new, page_pieces, text_node, sent_pieces, IsStyle, PiecesStay}
use Rattle.wt_typed_blocks.proofs.SentGroups.{in_group, of_style, apart, apart_groups}
use Rattle.wt_text_edit_laws.proofs.Headings.TypedTexts.{has_line, chars_line, same_break}
use Rattle.wt_beside_laws.specs.FlatBlocks.{AreOneLine}
use Rattle.wt_beside_laws.specs.FlatPages.{AreNodesAndTexts}
use Rattle.wt_beside_laws.specs.InHeadings.{AreOnOneLine}
use Rattle.wt_beside_laws.specs.Lines.{AreCharacters}
use Rattle.wt_beside_laws.specs.SentPieces.{IsNodeForm, FitsBy, TextsFit}
use Rattle.wt_beside_laws.specs.SentStyled.{text_then, found_then, or_nowiki, sent_by, sent_before, sent_content, IsStyledBy, IsStyledSent, AreStyledSent, breaks_line, NestsBy, Nests, AllNest, ShowsBy, Shows, AllShow}
use Rattle.wt_beside_laws.specs.Styled.{StyledContent, finished, sign, styled, delimiter, signs_before, signs_in}
use Rattle.wt_beside_laws.proofs.NoFaults.{stays_same}
use Rattle.wt_beside_laws.proofs.SentPieces.{stays_unchanged, not_group}
use Rattle.wt_beside_laws.proofs.Styled.OwnStyled.{IsOwnStyle, KnownBy, IsKnown, AreKnown}

-- ---- nothing is wrong with bold and italic by itself

abbrev pub SoundBy : InlineForm → Page → Label → Trees → Type 0 → Type 0
SoundBy inline.Nothing p l ts inside = Unit {0}
SoundBy inline.Characters p l ts inside = Unit {0}
SoundBy inline.Bold p l ts inside = (if_replaced (standing p (tree l ts)) ≡ []) × inside
SoundBy inline.Italic p l ts inside = (if_replaced (standing p (tree l ts)) ≡ []) × inside
SoundBy inline.Shown p l ts inside = Unit {0}
SoundBy inline.PageLink p l ts inside = Unit {0}
SoundBy inline.ExternalLink p l ts inside = Unit {0}
SoundBy inline.Tag p l ts inside = Unit {0}
SoundBy inline.Break p l ts inside = Unit {0}
SoundBy inline.AsItStood p l ts inside = Unit {0}

abbrev mutual
  pub IsSound : Page → Tree → Type 0
  IsSound p (tree l ts) = SoundBy (edit_shape l.kind).inline p l ts (AreSound p ts)

  pub AreSound : Page → Trees → Type 0
  AreSound p none = Unit {0}
  AreSound p (more t us) = IsSound p t × AreSound p us

-- where it is the page's, with all that it holds
one_known : (w : InlineForm) (same : Tree → Tree → Bool) (block : Tree) (l m : Label) (ts us : Trees) (A B : Type 0) → TellsSame same
    → StandsAsIs (tree l ts) (tree m us) → HasNoGroup (tree l ts) → (A → B) → KnownBy w (page_of same block) l ts A → SoundBy w (page_of same block) m us B
one_known inline.Nothing same block l m ts us A B tells h g f e = tt
one_known inline.Characters same block l m ts us A B tells h g f e = tt
one_known inline.Bold same block l m ts us A B tells h g f e =
    (ap if_replaced (stays_same (page_of same block) m us (stays_unchanged same block l m ts us tells h g e.0.own)), f e.1)
one_known inline.Italic same block l m ts us A B tells h g f e =
    (ap if_replaced (stays_same (page_of same block) m us (stays_unchanged same block l m ts us tells h g e.0.own)), f e.1)
one_known inline.Shown same block l m ts us A B tells h g f e = tt
one_known inline.PageLink same block l m ts us A B tells h g f e = tt
one_known inline.ExternalLink same block l m ts us A B tells h g f e = tt
one_known inline.Tag same block l m ts us A B tells h g f e = tt
one_known inline.Break same block l m ts us A B tells h g f e = tt
one_known inline.AsItStood same block l m ts us A B tells h g f e = tt

mutual
  tree_known : (same : Tree → Tree → Bool) (block t u : Tree) → TellsSame same → StandsAsIs t u → HasNoGroup t → IsKnown (page_of same block) t
      → IsSound (page_of same block) u
  tree_known same block (tree l ts) (tree m us) tells h g e =
      subst (λ (k : Kind). SoundBy (edit_shape k).inline (page_of same block) m us (AreSound (page_of same block) us)) (sym h.0.kind)
      (one_known (edit_shape l.kind).inline same block l m ts us (AreKnown (page_of same block) ts) (AreSound (page_of same block) us) tells h g
      (λ a. in_group (is_group l.kind) h.1 (λ i x. not_group (is_group l.kind) i g.0 x) (λ i s. all_known same block ts us tells s g.1 a)) e)

  all_known : (same : Tree → Tree → Bool) (block : Tree) (ts us : Trees) → TellsSame same → AllStandAsIs ts us → NoneIsGroup ts
      → AreKnown (page_of same block) ts → AreSound (page_of same block) us
  all_known same block none none tells h g e = tt
  all_known same block none (more u us) tells h g e = absurd h
  all_known same block (more t ts) none tells h g e = absurd h
  all_known same block (more t ts) (more u us) tells h g e = (tree_known same block t u tells h.0 g.0 e.0, all_known same block ts us tells h.1 g.1 e.1)

-- where something else is in it than in the page
style_changed : (k : Kind) → IsStyle k → if_replaced (changed_from (edit_shape k).inline) ≡ []
style_changed k h = of_style (λ j. if_replaced (changed_from (edit_shape j).inline) ≡ []) k h refl refl

pub not_replaced : (same : Bool) (k : Kind) → IsStyle k → if_replaced (if same then stands.Same else changed_from (edit_shape k).inline) ≡ []
not_replaced true k h = refl
not_replaced false k h = style_changed k h

its_own : (p : Page) (l m : Label) (ts us : Trees) → IsStyle l.kind → IsSentAsIs l m → IsOwnStyle p l ts → if_replaced (standing p (tree m us)) ≡ []
its_own p l m ts us h s e =
    ap (λ (n : ℕ). if_replaced (standing_of p (kept_with n p.kept) (tree m us))) s.id
    ∙ ap (λ (o : Option Kept). if_replaced (standing_of p o (tree m us))) e.own.found
    ∙ not_replaced (is_unchanged p e.own.kept (tree m us)) (label e.own.kept.node).kind (subst IsStyle (sym e.kind) h)

style_sound : {A B : Type 0} (p : Page) (l m : Label) (ts us : Trees) → IsStyle l.kind → IsSentAsIs l m → (A → B) → KnownBy (edit_shape l.kind).inline p l ts A
    → SoundBy (edit_shape m.kind).inline p m us B
style_sound {A} {B} p l m ts us h s f e =
    let same : SoundBy (edit_shape l.kind).inline p m us B =
    of_style (λ k. KnownBy (edit_shape k).inline p l ts A → SoundBy (edit_shape k).inline p m us B) l.kind h
    (λ d. (its_own p l m ts us h s d.0, f d.1)) (λ d. (its_own p l m ts us h s d.0, f d.1)) e in
    subst (λ (k : Kind). SoundBy (edit_shape k).inline p m us B) (sym s.kind) same

-- where it is new
pub new_sound : (p : Page) (m : Label) (us : Trees) → if_replaced (standing p (tree (as_new m) us)) ≡ []
unfolding kept_with
new_sound p m us = refl

pub text_known : (p : Page) (x : Label) (text : List ℕ) (us : Trees) → AreSound p us → AreSound p (text_node x text us)
text_known p x [] us h = h
text_known p x (c ∷ cs) us h = (tt, h)

pub pieces_known : (same : Tree → Tree → Bool) (block : Tree) (ps : Pieces) → TellsSame same → AreKnown (page_of same block) (page_pieces ps)
    → NoneIsGroup (page_pieces ps) → PiecesStay ps → AreSound (page_of same block) (sent_pieces ps)
pieces_known same block no_pieces tells e g h = tt
pieces_known same block (gone t ps) tells e g h = pieces_known same block ps tells e.1 g.1 h
pieces_known same block (written x text ps) tells e g h =
    text_known (page_of same block) x text (sent_pieces ps) (pieces_known same block ps tells e g h)
pieces_known same block (kept t u ps) tells e g h =
    (tree_known same block t u tells h.0 g.0 e.0, pieces_known same block ps tells e.1 g.1 h.1)
pieces_known same block (around l m is ps) tells e g h = (
  style_sound (page_of same block) l m (page_pieces is) (sent_pieces is) h.0 h.1 (λ a. pieces_known same block is tells a g.0.1 h.2) e.0,
  pieces_known same block ps tells e.1 g.1 h.3,
)
pieces_known same block (new_style m is ps) tells e g h =
    let p : Page = page_of same block in
    let r = apart_groups (page_pieces is) (page_pieces ps) g in
    let d = apart (λ t. IsKnown p t) (λ us. AreKnown p us) tt (λ t us x. x) (λ t us x. x) (page_pieces is) (page_pieces ps) e in
    let own : (if_replaced (standing p (tree (as_new m) (sent_pieces is))) ≡ []) × AreSound p (sent_pieces is) =
    (new_sound p m (sent_pieces is), pieces_known same block is tells d.0 r.0 h.1) in (
      of_style (λ k. SoundBy (edit_shape k).inline p (as_new m) (sent_pieces is) (AreSound p (sent_pieces is))) m.kind h.0 own own,
      pieces_known same block ps tells d.1 r.1 h.2,
    )

-- ---- a text on one line

pub or_both : (a b : Bool) → (a || b) ≡ false → (a ≡ false) × (b ≡ false)
or_both true b e = absurd (cc)
or_both false b e = (refl, e)

any_joined : (xs ys : List ℕ) → has_break xs ≡ false → has_break ys ≡ false → has_break (xs ++ ys) ≡ false
any_joined [] ys e f = f
any_joined (x ∷ xs) ys e f =
    let r = or_both (x == 10) (has_break xs) e in
    ap (λ (v : Bool). v || has_break (xs ++ ys)) r.0 ∙ any_joined xs ys r.1 f

wide_unbroken : (bs : List ℕ) → All IsWide bs → has_break bs ≡ false
wide_unbroken [] h = refl
wide_unbroken (b ∷ bs) h =
    let w : 128 ≤ b = All-head IsWide b bs h in
    let other : (b == 10) ≡ false = grind (arith, nat_tests, w) in
    ap (λ (v : Bool). v || has_break bs) other ∙ wide_unbroken bs (All-tail IsWide b bs h)

char_unbroken : (c : ℕ) → (c == 10) ≡ false → has_break (encode_utf8 c) ≡ false
char_unbroken c e = elim (cases_lt c 128) [
  | inl small ↦ ap has_break (encode_ascii c small) ∙ ap (λ (v : Bool). v || false) e
  | inr wide ↦ wide_unbroken (encode_utf8 c) (encode_wide c wide)
]

all_unbroken : (cs : List ℕ) → list_any (λ c. c == 10) cs ≡ false → has_break (encodes cs) ≡ false
all_unbroken [] e = refl
all_unbroken (c ∷ cs) e =
    let r = or_both (c == 10) (list_any (λ d. d == 10) cs) e in
    any_joined (encode_utf8 c) (encodes cs) (char_unbroken c r.0) (all_unbroken cs r.1)

pub text_unbroken : (text : List ℕ) → IsUtf8 text → breaks_line text ≡ false → has_break text ≡ false
text_unbroken text u e = sym (ap has_break (encodes-chars text u)) ∙ all_unbroken (chars text) e

-- ---- nothing is wrong in it

abbrev within : Bool → Surroundings
within v = record { in_paragraph = v; in_link = false }

pub or_true : (b : Bool) → (b || true) ≡ true
or_true true = refl
or_true false = refl

one_fine : (w : InlineForm) (v : Bool) (p : Page) (l : Label) (ts : Trees) (holds bold italic : Bool) (A K S : Type 0) (N : Bool → Bool → Type 0)
    → FitsBy w v l → IsStyledBy w p l ts A → SoundBy w p l ts K → NestsBy w bold italic l N → ShowsBy w p l ts S
    → ((b i : Bool) → (b || i) ≡ true → A → K → N b i → S → all_faults p (within false) ts ≡ [])
    → faults_by w (within v) (standing p (tree l ts)) l holds (all_faults p (below (within v) w) ts) ≡ []
one_fine inline.Nothing v p l ts holds bold italic A K S N t h k n s f = refl
one_fine inline.Characters v p l ts holds bold italic A K S N t h k n s f = ap (λ ws. ws ++ []) t
one_fine inline.Bold v p l ts holds bold italic A K S N t h k n s f =
    ap (λ ws. ws ++ all_faults p (within false) ts) k.0 ∙ f true italic refl h k.1 n.1 s.2
one_fine inline.Italic v p l ts holds bold italic A K S N t h k n s f =
    ap (λ ws. ws ++ all_faults p (within false) ts) k.0 ∙ f bold true (or_true bold) h k.1 n.1 s.2
one_fine inline.Shown v p l ts holds bold italic A K S N t h k n s f =
    ap (λ (x : Standing). faults_by inline.Shown (within v) x l holds (all_faults p (below (within v) inline.Shown) ts)) (stays_same p l ts h)
one_fine inline.PageLink v p l ts holds bold italic A K S N t h k n s f =
    ap (λ (x : Standing). faults_by inline.PageLink (within v) x l holds (all_faults p (below (within v) inline.PageLink) ts)) (stays_same p l ts h)
one_fine inline.ExternalLink v p l ts holds bold italic A K S N t h k n s f =
    ap (λ (x : Standing). faults_by inline.ExternalLink (within v) x l holds (all_faults p (below (within v) inline.ExternalLink) ts)) (stays_same p l ts h)
one_fine inline.Tag v p l ts holds bold italic A K S N t h k n s f =
    ap (λ (x : Standing). faults_by inline.Tag (within v) x l holds (all_faults p (below (within v) inline.Tag) ts)) (stays_same p l ts h)
one_fine inline.Break v p l ts holds bold italic A K S N t h k n s f =
    ap (λ (x : Standing). faults_by inline.Break (within v) x l holds (all_faults p (below (within v) inline.Break) ts)) (stays_same p l ts h)
one_fine inline.AsItStood v p l ts holds bold italic A K S N t h k n s f =
    ap (λ (x : Standing). faults_by inline.AsItStood (within v) x l holds (all_faults p (below (within v) inline.AsItStood) ts)) (stays_same p l ts h)

-- in a style no text has a line break
style_fits : (w : InlineForm) (p : Page) (l : Label) (ts : Trees) (bold italic : Bool) (S : Type 0) (N : Bool → Bool → Type 0) → (bold || italic) ≡ true
    → NestsBy w bold italic l N → ShowsBy w p l ts S → FitsBy w false l
style_fits inline.Nothing p l ts bold italic S N e n s = tt
style_fits inline.Characters p l ts bold italic S N e n s =
    ap (λ (b : Bool). if b then why.LineBreak ∷ [] else []) (text_unbroken l.shown s.1 (n e))
style_fits inline.Bold p l ts bold italic S N e n s = tt
style_fits inline.Italic p l ts bold italic S N e n s = tt
style_fits inline.Shown p l ts bold italic S N e n s = tt
style_fits inline.PageLink p l ts bold italic S N e n s = tt
style_fits inline.ExternalLink p l ts bold italic S N e n s = tt
style_fits inline.Tag p l ts bold italic S N e n s = tt
style_fits inline.Break p l ts bold italic S N e n s = tt
style_fits inline.AsItStood p l ts bold italic S N e n s = tt

mutual
  held_fine : (p : Page) (t : Tree) (bold italic : Bool) → (bold || italic) ≡ true → IsStyledSent p t → IsSound p t → Nests bold italic t → Shows p t
      → faults p (within false) t ≡ []
  held_fine p (tree l ts) bold italic e h k n s =
      one_fine (edit_shape l.kind).inline false p l ts (holds_link (tree l ts)) bold italic (AreStyledSent p ts) (AreSound p ts) (AllShow p ts) (λ b i. AllNest b i ts)
      (style_fits (edit_shape l.kind).inline p l ts bold italic (AllShow p ts) (λ b i. AllNest b i ts) e n s) h k n s
      (λ b i f a c m d. all_held p ts b i f a c m d)

  all_held : (p : Page) (us : Trees) (bold italic : Bool) → (bold || italic) ≡ true → AreStyledSent p us → AreSound p us → AllNest bold italic us → AllShow p us
      → all_faults p (within false) us ≡ []
  all_held p none bold italic e h k n s = refl
  all_held p (more t us) bold italic e h k n s =
      ap (λ ws. ws ++ all_faults p (within false) us) (held_fine p t bold italic e h.0 k.0 n.0 s.0) ∙ all_held p us bold italic e h.1 k.1 n.1 s.1

all_fine : (v : Bool) (p : Page) (us : Trees) → AreStyledSent p us → AreSound p us → AllNest false false us → AllShow p us → TextsFit v us
    → all_faults p (within v) us ≡ []
all_fine v p none h k n s f = refl
all_fine v p (more (tree l ts) us) h k n s f =
    ap (λ ws. ws ++ all_faults p (within v) us)
    (one_fine (edit_shape l.kind).inline v p l ts (holds_link (tree l ts)) false false (AreStyledSent p ts) (AreSound p ts) (AllShow p ts) (λ b i. AllNest b i ts)
    f.0 h.0 k.0 n.0 s.0 (λ b i e a c m d. all_held p ts b i e a c m d))
    ∙ all_fine v p us h.1 k.1 n.1 s.1 f.1

pub no_style_fault : (same : Tree → Tree → Bool) (block : Tree) (m : Label) (us : Trees) → AreStyledSent (page_of same block) us → AreSound (page_of same block) us
    → AllNest false false us → AllShow (page_of same block) us → TextsFit (is_paragraph (edit_shape (label block).kind).form) us
    → bad_content same block (tree m us) ≡ None
unfolding bad_content
no_style_fault same block m us h k n s f = ap first_why (all_fine (is_paragraph (edit_shape (label block).kind).form) (page_of same block) us h k n s f)

-- ---- its texts are characters

abbrev pub CharactersIn : StyledContent → Type 0
CharactersIn t = (after : List ContentSign) → AreCharacters after → AreCharacters (signs_before t after)

pub text_characters : (cs : List ℕ) (t : StyledContent) → scalars cs ≡ true → CharactersIn t → CharactersIn (text_then cs t)
text_characters [] t u h = h
text_characters (c ∷ cs) t u h = λ after k. (and_left (scalar c) (scalars cs) u, text_characters cs t (and_right (scalar c) (scalars cs) u) h after k)

nowiki_characters : (t : StyledContent) → CharactersIn t → CharactersIn (or_nowiki t)
nowiki_characters finished h = λ after k. k
nowiki_characters (sign c t) h = h
nowiki_characters (styled kind opening closing inside t) h = h

pub found_characters : (o : Option Kept) (t : StyledContent) → CharactersIn t → CharactersIn (found_then o t)
found_characters None t h = h
found_characters (Some k) t h = λ after j. h after j

pub style_characters : (kind : Bool) (o : Option Kept) (held t : StyledContent) → CharactersIn held → CharactersIn t
    → CharactersIn (styled kind (opening_place o) (closing_place o) (or_nowiki held) t)
style_characters kind o held t h k =
    λ after j. nowiki_characters held h (delimiter kind (closing_place o) ∷ signs_before t after) (k after j)

one_characters : (w : InlineForm) (p : Page) (l : Label) (ts : Trees) (held t : StyledContent) (S : Type 0) → ShowsBy w p l ts S → (S → CharactersIn held)
    → CharactersIn t → CharactersIn (sent_by w (kept_with l.id p.kept) l held t)
one_characters inline.Nothing p l ts held t S s f k = k
one_characters inline.Characters p l ts held t S s f k = text_characters (chars l.shown) t (scalars-chars l.shown s.1) k
one_characters inline.Bold p l ts held t S s f k = style_characters true (kept_with l.id p.kept) held t (f s.2) k
one_characters inline.Italic p l ts held t S s f k = style_characters false (kept_with l.id p.kept) held t (f s.2) k
one_characters inline.Shown p l ts held t S s f k = found_characters (kept_with l.id p.kept) t k
one_characters inline.PageLink p l ts held t S s f k = found_characters (kept_with l.id p.kept) t k
one_characters inline.ExternalLink p l ts held t S s f k = found_characters (kept_with l.id p.kept) t k
one_characters inline.Tag p l ts held t S s f k = found_characters (kept_with l.id p.kept) t k
one_characters inline.Break p l ts held t S s f k = found_characters (kept_with l.id p.kept) t k
one_characters inline.AsItStood p l ts held t S s f k = found_characters (kept_with l.id p.kept) t k

mutual
  tree_characters : (p : Page) (t : Tree) (c : StyledContent) → Shows p t → CharactersIn c → CharactersIn (sent_before p t c)
  tree_characters p (tree l ts) c s k =
      one_characters (edit_shape l.kind).inline p l ts (sent_content p ts) c (AllShow p ts) s (λ a. all_characters p ts a) k

  all_characters : (p : Page) (us : Trees) → AllShow p us → CharactersIn (sent_content p us)
  all_characters p none s = λ after k. k
  all_characters p (more t us) s = tree_characters p t (sent_content p us) s.0 (all_characters p us s.1)

pub sent_characters : (p : Page) (us : Trees) → AllShow p us → AreCharacters (signs_in (sent_content p us))
sent_characters p us s = all_characters p us s [] tt

-- ---- on one line

abbrev OneLineIn : StyledContent → Type 0
OneLineIn t = (after : List ContentSign) → AreOnOneLine after → AreOnOneLine (signs_before t after)

text_line : (cs : List ℕ) (t : StyledContent) → list_any (λ c. c == 10) cs ≡ false → OneLineIn t → OneLineIn (text_then cs t)
text_line [] t e h = h
text_line (c ∷ cs) t e h =
    let r = or_both (c == 10) (list_any (λ d. d == 10) cs) e in
    λ after k. (r.0, text_line cs t r.1 h after k)

nowiki_line : (t : StyledContent) → OneLineIn t → OneLineIn (or_nowiki t)
nowiki_line finished h = λ after k. k
nowiki_line (sign c t) h = h
nowiki_line (styled kind opening closing inside t) h = h

found_line : (o : Option Kept) (t : StyledContent) → OneLineIn t → OneLineIn (found_then o t)
found_line None t h = h
found_line (Some k) t h = λ after j. h after j

style_line : (kind : Bool) (o : Option Kept) (held t : StyledContent) → OneLineIn held → OneLineIn t
    → OneLineIn (styled kind (opening_place o) (closing_place o) (or_nowiki held) t)
style_line kind o held t h k = λ after j. nowiki_line held h (delimiter kind (closing_place o) ∷ signs_before t after) (k after j)

-- of a text it is known, or it is in a style
abbrev pub LineBy : InlineForm → Label → Type 0
LineBy inline.Nothing l = Unit {0}
LineBy inline.Characters l = breaks_line l.shown ≡ false
LineBy inline.Bold l = Unit {0}
LineBy inline.Italic l = Unit {0}
LineBy inline.Shown l = Unit {0}
LineBy inline.PageLink l = Unit {0}
LineBy inline.ExternalLink l = Unit {0}
LineBy inline.Tag l = Unit {0}
LineBy inline.Break l = Unit {0}
LineBy inline.AsItStood l = Unit {0}

one_line : (w : InlineForm) (p : Page) (l : Label) (bold italic : Bool) (held t : StyledContent) (N : Bool → Bool → Type 0) → LineBy w l
    → NestsBy w bold italic l N → ((b i : Bool) → (b || i) ≡ true → N b i → OneLineIn held) → OneLineIn t → OneLineIn (sent_by w (kept_with l.id p.kept) l held t)
one_line inline.Nothing p l bold italic held t N e n f k = k
one_line inline.Characters p l bold italic held t N e n f k = text_line (chars l.shown) t e k
one_line inline.Bold p l bold italic held t N e n f k = style_line true (kept_with l.id p.kept) held t (f true italic refl n.1) k
one_line inline.Italic p l bold italic held t N e n f k = style_line false (kept_with l.id p.kept) held t (f bold true (or_true bold) n.1) k
one_line inline.Shown p l bold italic held t N e n f k = found_line (kept_with l.id p.kept) t k
one_line inline.PageLink p l bold italic held t N e n f k = found_line (kept_with l.id p.kept) t k
one_line inline.ExternalLink p l bold italic held t N e n f k = found_line (kept_with l.id p.kept) t k
one_line inline.Tag p l bold italic held t N e n f k = found_line (kept_with l.id p.kept) t k
one_line inline.Break p l bold italic held t N e n f k = found_line (kept_with l.id p.kept) t k
one_line inline.AsItStood p l bold italic held t N e n f k = found_line (kept_with l.id p.kept) t k

pub style_lines : (w : InlineForm) (l : Label) (bold italic : Bool) (N : Bool → Bool → Type 0) → (bold || italic) ≡ true → NestsBy w bold italic l N → LineBy w l
style_lines inline.Nothing l bold italic N e n = tt
style_lines inline.Characters l bold italic N e n = n e
style_lines inline.Bold l bold italic N e n = tt
style_lines inline.Italic l bold italic N e n = tt
style_lines inline.Shown l bold italic N e n = tt
style_lines inline.PageLink l bold italic N e n = tt
style_lines inline.ExternalLink l bold italic N e n = tt
style_lines inline.Tag l bold italic N e n = tt
style_lines inline.Break l bold italic N e n = tt
style_lines inline.AsItStood l bold italic N e n = tt

mutual
  held_line : (p : Page) (t : Tree) (c : StyledContent) (bold italic : Bool) → (bold || italic) ≡ true → Nests bold italic t → OneLineIn c
      → OneLineIn (sent_before p t c)
  held_line p (tree l ts) c bold italic e n k =
      one_line (edit_shape l.kind).inline p l bold italic (sent_content p ts) c (λ b i. AllNest b i ts)
      (style_lines (edit_shape l.kind).inline l bold italic (λ b i. AllNest b i ts) e n) n (λ b i f m. held_lines p ts b i f m) k

  held_lines : (p : Page) (us : Trees) (bold italic : Bool) → (bold || italic) ≡ true → AllNest bold italic us → OneLineIn (sent_content p us)
  held_lines p none bold italic e n = λ after k. k
  held_lines p (more t us) bold italic e n = held_line p t (sent_content p us) bold italic e n.0 (held_lines p us bold italic e n.1)

pub node_line : (w : InlineForm) (l : Label) → IsNodeForm w → LineBy w l
node_line inline.Nothing l n = absurd n
node_line inline.Characters l n = absurd n
node_line inline.Bold l n = tt
node_line inline.Italic l n = tt
node_line inline.Shown l n = tt
node_line inline.PageLink l n = tt
node_line inline.ExternalLink l n = tt
node_line inline.Tag l n = tt
node_line inline.Break l n = tt
node_line inline.AsItStood l n = tt

any_line : (cs : List ℕ) → has_line cs ≡ false → list_any (λ c. c == 10) cs ≡ false
any_line [] e = refl
any_line (c ∷ cs) e =
    let r = or_both (is_break c) (has_line cs) e in
    ap (λ (v : Bool). v || list_any (λ d. d == 10) cs) r.0 ∙ any_line cs r.1

pub typed_line : (text : List ℕ) → IsUtf8 text → has_break text ≡ false → breaks_line text ≡ false
typed_line text u b = any_line (chars text) (chars_line (chars text) (ap has_line (encodes-chars text u) ∙ sym (same_break text) ∙ b))

nested_text : (x : Label) (text : List ℕ) (us : Trees) → AllNest false false (text_node x text us) → AllNest false false us
nested_text x [] us n = n
nested_text x (c ∷ cs) us n = n.1

written_line : (p : Page) (x : Label) (text : List ℕ) (us : Trees) → IsUtf8 text → has_break text ≡ false → OneLineIn (sent_content p us)
    → OneLineIn (sent_content p (text_node x text us))
written_line p x [] us u b h = h
written_line p x (c ∷ cs) us u b h = text_line (chars (c ∷ cs)) (sent_content p us) (typed_line (c ∷ cs) u b) h

lines_of_pieces : (p : Page) (ps : Pieces) → PiecesStay ps → AreNodesAndTexts ps → AreOneLine ps → AllNest false false (sent_pieces ps)
    → OneLineIn (sent_content p (sent_pieces ps))
lines_of_pieces p no_pieces h a o n = λ after k. k
lines_of_pieces p (gone t ps) h a o n = lines_of_pieces p ps h a o n
lines_of_pieces p (written x text ps) h a o n =
    written_line p x text (sent_pieces ps) a.0 o.0 (lines_of_pieces p ps h a.1 o.1 (nested_text x text (sent_pieces ps) n))
lines_of_pieces p (kept (tree l ts) (tree m us) ps) h a o n =
    let form : IsNodeForm (edit_shape m.kind).inline = subst (λ k. IsNodeForm (edit_shape k).inline) (sym h.0.0.kind) a.0 in
    one_line (edit_shape m.kind).inline p m false false (sent_content p us) (sent_content p (sent_pieces ps)) (λ b i. AllNest b i us)
    (node_line (edit_shape m.kind).inline m form) n.0 (λ b i f w. held_lines p us b i f w) (lines_of_pieces p ps h.1 a.1 o n.1)
lines_of_pieces p (around l m is ps) h a o n =
    let line : LineBy (edit_shape m.kind).inline m =
    of_style (λ k. LineBy (edit_shape k).inline m) m.kind (subst IsStyle (sym h.1.kind) h.0) tt tt in
    one_line (edit_shape m.kind).inline p m false false (sent_content p (sent_pieces is)) (sent_content p (sent_pieces ps)) (λ b i. AllNest b i (sent_pieces is))
    line n.0 (λ b i f w. held_lines p (sent_pieces is) b i f w) (lines_of_pieces p ps h.3 a.1 o n.1)
lines_of_pieces p (new_style m is ps) h a o n =
    let line : LineBy (edit_shape m.kind).inline (as_new m) = of_style (λ k. LineBy (edit_shape k).inline (as_new m)) m.kind h.0 tt tt in
    one_line (edit_shape m.kind).inline p (as_new m) false false (sent_content p (sent_pieces is)) (sent_content p (sent_pieces ps))
    (λ b i. AllNest b i (sent_pieces is)) line n.0 (λ b i f w. held_lines p (sent_pieces is) b i f w) (lines_of_pieces p ps h.2 a.1 o n.1)

pub sent_on_one_line : (p : Page) (ps : Pieces) → PiecesStay ps → AreNodesAndTexts ps → AreOneLine ps → AllNest false false (sent_pieces ps)
    → AreOnOneLine (signs_in (sent_content p (sent_pieces ps)))
sent_on_one_line p ps h a o n = lines_of_pieces p ps h a o n [] tt
