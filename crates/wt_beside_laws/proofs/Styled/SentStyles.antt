-- The signs of what is sent of a content with styles are those of such a content, whose styles nest, and which shows what was sent.
use Rattle.std.proofs.Common.{◌≡◌, ℕ, ◌==◌, Bool, true, false, Option, Some, None, List, [], ◌∷◌, ◌++◌, map, refl, sym, ap, ◌∙◌, append_assoc}
use Rattle.std.specs.Prelude.{◌||◌, if◌then◌else◌, encode_utf8}
use Rattle.std.specs.List.{flat_map, list_any}
use Rattle.std.specs.Str.{IsUtf8, chars}
use Rattle.std.proofs.Math.Utf8.{encodes}
use Rattle.std.proofs.lemmas.Str.{encodes-chars}
use Rattle.wt_tree.specs.declared.kind.Showing.{Showing}
use Rattle.wt_tree.specs.declared.kind.Showing.TheVariants as showing
use Rattle.wt_tree.specs.declared.edit_shape.InlineForm.{InlineForm}
use Rattle.wt_tree.specs.declared.edit_shape.InlineForm.TheVariants as inline
use Rattle.wt_tree.specs.declared.edit_shape.Place.{Place}
use Rattle.wt_tree.specs.EditShapes.{edit_shape}
use Rattle.wt_tree.specs.Kinds.{showing as showing_of}
use Rattle.wt_tree.specs.Plain.{Face, face, Plains, ended, along, element, text_before, shown_before, plain_before, plains_before}
use Rattle.wt_tree.specs.Source.{flat}
use Rattle.wt_tree.specs.Tree.{Label, Tree, tree, Trees, none, more}
use Rattle.wt_span.specs.declared.form.ItemForm.TheVariants as form
use Rattle.wt_span.specs.Items.{Item, whole}
use Rattle.wt_guards.specs.Content.{ContentSign, letter, letters}
use Rattle.wt_guards.specs.Guards.{nowiki}
use Rattle.wt_original.specs.Kept.{Kept, kept_with}
use Rattle.wt_original.specs.Page.{Page}
use Rattle.wt_link_spelling.specs.Spelling.{kept_thing, opening_place, closing_place, as_it_stood, unless_kept, anew_by, or_nowiki as signs_or_nowiki, style, signs_by, signs_of, signs_of_all}
use Rattle.wt_inline.specs.declared.loose.Loose.TheVariants.{Text}
use Rattle.wt_inline.specs.Parts.{Part, parts}
use Rattle.wt_tiles.specs.Links.{leaf}
use Rattle.wt_tiles.specs.Tiles.{closed}
use Rattle.wt_tiles.specs.declared.shape.TileKind.TheVariants as tile
use Rattle.wt_context.specs.Segments.{loose_segment, loose_segments}
use Rattle.wt_context.specs.Line.{line_parts}
use Rattle.wt_context.proofs.PlainNodes.{text_parts}
use Rattle.wt_beside_laws.specs.SentNodes.{IsUnchanged}
use Rattle.wt_beside_laws.specs.SentStyled.{text_then, found_then, or_nowiki, sent_by, sent_before, sent_content, IsStyledBy, IsStyledSent, AreStyledSent, KeptIsFlat, HasNoDelimiter, NestsBy, Nests, AllNest, style_face, ShowsBy, Shows, AllShow}
use Rattle.wt_beside_laws.specs.Shown.{parts_shown_at}
use Rattle.wt_beside_laws.specs.Styled.{StyledContent, finished, sign, styled, mark_source, delimiter, signs_before, signs_in, AreNested}
use Rattle.wt_beside_laws.specs.StyledShown.{style_shown, styled_shown}
use Rattle.wt_beside_laws.proofs.Contents.{nowiki_reads}
use Rattle.wt_beside_laws.proofs.NodeItems.{node_as}
use Rattle.wt_beside_laws.proofs.LineSegments.{read_line}
use Rattle.wt_beside_laws.proofs.LineShown.{twice, children_show, guard_shows}
use Rattle.wt_beside_laws.specs.NodeItems.{node_items}

-- ---- signs

pub signs_joined : (t : StyledContent) (after rest : List ContentSign) → signs_before t after ++ rest ≡ signs_before t (after ++ rest)
signs_joined finished after rest = refl
signs_joined (sign c t) after rest = ap (λ cs. c ∷ cs) (signs_joined t after rest)
signs_joined (styled kind opening closing inside t) after rest =
    ap (λ cs. delimiter kind opening ∷ cs)
    (signs_joined inside (delimiter kind closing ∷ signs_before t after) rest
    ∙ ap (λ cs. signs_before inside (delimiter kind closing ∷ cs)) (signs_joined t after rest))

text_signs : (cs : List ℕ) (t : StyledContent) → map letter cs ++ signs_in t ≡ signs_in (text_then cs t)
text_signs [] t = refl
text_signs (c ∷ cs) t = ap (λ ss. letter c ∷ ss) (text_signs cs t)

nowiki_signs : (t : StyledContent) (rest : List ContentSign) → signs_or_nowiki (signs_in t) ++ rest ≡ signs_before (or_nowiki t) rest
nowiki_signs finished rest = refl
nowiki_signs (sign c t) rest = signs_joined (sign c t) [] rest
nowiki_signs (styled kind opening closing inside t) rest = signs_joined (styled kind opening closing inside t) [] rest

style_signs : (kind : Bool) (k : Option Kept) (inside rest : List ContentSign) (held t : StyledContent) → inside ≡ signs_in held → rest ≡ signs_in t
    → style (mark_source kind) k inside ++ rest ≡ signs_in (styled kind (opening_place k) (closing_place k) (or_nowiki held) t)
style_signs kind k inside rest held t e f =
    let last : ContentSign = delimiter kind (closing_place k) in
    ap (λ cs. delimiter kind (opening_place k) ∷ cs)
    (append_assoc (signs_or_nowiki inside) (last ∷ []) rest
    ∙ ap (λ cs. signs_or_nowiki cs ++ (last ∷ rest)) e
    ∙ nowiki_signs held (last ∷ rest)
    ∙ ap (λ cs. signs_before (or_nowiki held) (last ∷ cs)) f)

found_signs : (p : Page) (l : Label) (ts : Trees) (own rest : List ContentSign) (t : StyledContent) (u : IsUnchanged p l ts) → own ≡ kept_thing u.kept ∷ []
    → rest ≡ signs_in t → own ++ rest ≡ signs_in (found_then (kept_with l.id p.kept) t)
found_signs p l ts own rest t u e f =
    ap (λ cs. cs ++ rest) e ∙ ap (λ cs. kept_thing u.kept ∷ cs) f ∙ sym (ap (λ (o : Option Kept). signs_in (found_then o t)) u.found)

unless_is : (p : Page) (l : Label) (ts : Trees) (new : List ContentSign) (u : IsUnchanged p l ts)
    → unless_kept p (kept_with l.id p.kept) (tree l ts) new ≡ kept_thing u.kept ∷ []
unless_is p l ts new u =
    ap (λ (k : Option Kept). unless_kept p k (tree l ts) new) u.found ∙ ap (λ (b : Bool). if b then kept_thing u.kept ∷ [] else new) u.same

one_signs : (w : InlineForm) (p : Page) (pl : Place) (l : Label) (ts : Trees) (inside rest : List ContentSign) (held t : StyledContent) (A : Type 0)
    → IsStyledBy w p l ts A → (A → inside ≡ signs_in held) → rest ≡ signs_in t
    → signs_by w p pl (kept_with l.id p.kept) l ts inside ++ rest ≡ signs_in (sent_by w (kept_with l.id p.kept) l held t)
one_signs inline.Nothing p pl l ts inside rest held t A h e f = f
one_signs inline.Characters p pl l ts inside rest held t A h e f = ap (λ cs. letters l.shown ++ cs) f ∙ text_signs (chars l.shown) t
one_signs inline.Bold p pl l ts inside rest held t A h e f = style_signs true (kept_with l.id p.kept) inside rest held t (e h) f
one_signs inline.Italic p pl l ts inside rest held t A h e f = style_signs false (kept_with l.id p.kept) inside rest held t (e h) f
one_signs inline.Shown p pl l ts inside rest held t A h e f =
    let new : List ContentSign = anew_by inline.Shown p pl (kept_with l.id p.kept) l ts inside in
    found_signs p l ts (unless_kept p (kept_with l.id p.kept) (tree l ts) new) rest t h (unless_is p l ts new h) f
one_signs inline.PageLink p pl l ts inside rest held t A h e f =
    let new : List ContentSign = anew_by inline.PageLink p pl (kept_with l.id p.kept) l ts inside in
    found_signs p l ts (unless_kept p (kept_with l.id p.kept) (tree l ts) new) rest t h (unless_is p l ts new h) f
one_signs inline.ExternalLink p pl l ts inside rest held t A h e f =
    let new : List ContentSign = anew_by inline.ExternalLink p pl (kept_with l.id p.kept) l ts inside in
    found_signs p l ts (unless_kept p (kept_with l.id p.kept) (tree l ts) new) rest t h (unless_is p l ts new h) f
one_signs inline.Tag p pl l ts inside rest held t A h e f =
    let new : List ContentSign = anew_by inline.Tag p pl (kept_with l.id p.kept) l ts inside in
    found_signs p l ts (unless_kept p (kept_with l.id p.kept) (tree l ts) new) rest t h (unless_is p l ts new h) f
one_signs inline.Break p pl l ts inside rest held t A h e f =
    let new : List ContentSign = anew_by inline.Break p pl (kept_with l.id p.kept) l ts inside in
    found_signs p l ts (unless_kept p (kept_with l.id p.kept) (tree l ts) new) rest t h (unless_is p l ts new h) f
one_signs inline.AsItStood p pl l ts inside rest held t A h e f =
    found_signs p l ts (as_it_stood (kept_with l.id p.kept)) rest t h (ap (λ (k : Option Kept). as_it_stood k) h.found) f

mutual
  tree_signs : (p : Page) (pl : Place) (t : Tree) (rest : List ContentSign) (c : StyledContent) → IsStyledSent p t → rest ≡ signs_in c
      → signs_of p pl t ++ rest ≡ signs_in (sent_before p t c)
  tree_signs p pl (tree l ts) rest c h e =
      one_signs (edit_shape l.kind).inline p pl l ts (signs_of_all p pl ts) rest (sent_content p ts) c (AreStyledSent p ts) h (λ k. sent_signs p pl ts k) e

  pub sent_signs : (p : Page) (pl : Place) (us : Trees) → AreStyledSent p us → signs_of_all p pl us ≡ signs_in (sent_content p us)
  sent_signs p pl none h = refl
  sent_signs p pl (more t us) h = tree_signs p pl t (signs_of_all p pl us) (sent_content p us) h.0 (sent_signs p pl us h.1)

-- ---- styles nest

or_both : (a b : Bool) → (a || b) ≡ false → (a ≡ false) × (b ≡ false)
or_both true b e = cc
or_both false b e = (refl, e)

nowiki_nested : (bold italic : Bool) (t : StyledContent) → AreNested bold italic t → AreNested bold italic (or_nowiki t)
nowiki_nested bold italic finished k = (tt, tt)
nowiki_nested bold italic (sign c t) k = k
nowiki_nested bold italic (styled kind opening closing inside t) k = k

found_nested : (bold italic : Bool) (o : Option Kept) (t : StyledContent) → KeptIsFlat o → AreNested bold italic t → AreNested bold italic (found_then o t)
found_nested bold italic None t f k = k
found_nested bold italic (Some x) t f k = (f, k)

text_nested : (bold italic : Bool) (cs : List ℕ) (t : StyledContent) → ((bold || italic) ≡ true → list_any (λ c. c == 10) cs ≡ false) → AreNested bold italic t
    → AreNested bold italic (text_then cs t)
text_nested bold italic [] t f k = k
text_nested bold italic (c ∷ cs) t f k = (
  (λ e. (or_both (c == 10) (list_any (λ d. d == 10) cs) (f e)).0),
  text_nested bold italic cs t (λ e. (or_both (c == 10) (list_any (λ d. d == 10) cs) (f e)).1) k,
)

one_nested : (w : InlineForm) (bold italic : Bool) (l : Label) (k : Option Kept) (held t : StyledContent) (f : Bool → Bool → Type 0) → KeptIsFlat k
    → NestsBy w bold italic l f → ((b i : Bool) → f b i → AreNested b i held) → AreNested bold italic t → AreNested bold italic (sent_by w k l held t)
one_nested inline.Nothing bold italic l k held t f e h g n = n
one_nested inline.Characters bold italic l k held t f e h g n = text_nested bold italic (chars l.shown) t h n
one_nested inline.Bold bold italic l k held t f e h g n = (h.0, nowiki_nested true italic held (g true italic h.1), n)
one_nested inline.Italic bold italic l k held t f e h g n = (h.0, nowiki_nested bold true held (g bold true h.1), n)
one_nested inline.Shown bold italic l k held t f e h g n = found_nested bold italic k t e n
one_nested inline.PageLink bold italic l k held t f e h g n = found_nested bold italic k t e n
one_nested inline.ExternalLink bold italic l k held t f e h g n = found_nested bold italic k t e n
one_nested inline.Tag bold italic l k held t f e h g n = found_nested bold italic k t e n
one_nested inline.Break bold italic l k held t f e h g n = found_nested bold italic k t e n
one_nested inline.AsItStood bold italic l k held t f e h g n = found_nested bold italic k t e n

mutual
  tree_nested : (p : Page) (bold italic : Bool) (t : Tree) (c : StyledContent) → HasNoDelimiter p → Nests bold italic t → AreNested bold italic c → AreNested bold italic (sent_before p t c)
  tree_nested p bold italic (tree l ts) c d h n =
      one_nested (edit_shape l.kind).inline bold italic l (kept_with l.id p.kept) (sent_content p ts) c (λ b i. AllNest b i ts) (d l.id) h (λ b i k. sent_nested p b i ts d k) n

  pub sent_nested : (p : Page) (bold italic : Bool) (us : Trees) → HasNoDelimiter p → AllNest bold italic us → AreNested bold italic (sent_content p us)
  sent_nested p bold italic none d h = tt
  sent_nested p bold italic (more t us) d h = tree_nested p bold italic t (sent_content p us) d h.0 (sent_nested p bold italic us d h.1)

-- ---- what is shown

pub nowiki_alone : line_parts (whole form.Nowiki None nowiki ∷ []) ≡ parts Text (whole form.Nowiki None nowiki ∷ [])
unfolding loose_segments closed
nowiki_alone = read_line (0, leaf tile.Atom 1 ∷ []) (whole form.Nowiki None nowiki ∷ []) (loose_segment (whole form.Nowiki None nowiki ∷ []) ∷ []) refl refl refl

pub nowiki_shown : (rest : Plains) → parts_shown_at 0 [] (line_parts (node_items nowiki)) rest ≡ rest
nowiki_shown rest =
    let own : List Item = whole form.Nowiki None nowiki ∷ [] in
    ap (λ xs. parts_shown_at 0 [] (line_parts xs) rest) (node_as nowiki own nowiki_reads)
    ∙ ap (λ (ps : List Part). parts_shown_at 0 [] ps rest) nowiki_alone
    ∙ children_show 0 [] (parts Text own) rest (text_parts own)
    ∙ guard_shows true [] rest

held_shown : (t : StyledContent) → styled_shown (or_nowiki t) ended ≡ styled_shown t ended
held_shown finished = nowiki_shown ended
held_shown (sign c t) = refl
held_shown (styled kind opening closing inside t) = refl

all_encoded : (cs : List ℕ) → flat_map encode_utf8 cs ≡ encodes cs
all_encoded [] = refl
all_encoded (c ∷ cs) = ap (λ bs. encode_utf8 c ++ bs) (all_encoded cs)

letters_shown : (cs : List ℕ) (t : StyledContent) (rest : Plains) → styled_shown (text_then cs t) rest ≡ text_before (flat_map encode_utf8 cs) (styled_shown t rest)
letters_shown [] t rest = refl
letters_shown (c ∷ cs) t rest =
    ap (text_before (encode_utf8 c)) (letters_shown cs t rest) ∙ twice (encode_utf8 c) (flat_map encode_utf8 cs) (styled_shown t rest)

text_shown : (text : List ℕ) (t : StyledContent) (rest : Plains) → IsUtf8 text → styled_shown (text_then (chars text) t) rest ≡ text_before text (styled_shown t rest)
text_shown text t rest u =
    letters_shown (chars text) t rest ∙ ap (λ (bs : List ℕ). text_before bs (styled_shown t rest)) (all_encoded (chars text) ∙ encodes-chars text u)

by_showing : (s : Showing) (l : Label) (held : Plains → Plains) (rest : Plains) → showing_of l.kind ≡ s → shown_before (showing_of l.kind) l held rest ≡ shown_before s l held rest
by_showing s l held rest e = ap (λ (x : Showing). shown_before x l held rest) e

style_is : (kind : Bool) (l : Label) (ts : Trees) (held : StyledContent) (rest : Plains) → showing_of l.kind ≡ showing.Element → face l ≡ style_face kind
    → styled_shown held ended ≡ plains_before ts ended → style_shown kind (styled_shown (or_nowiki held) ended) rest ≡ plain_before (tree l ts) rest
style_is kind l ts held rest e f g =
    ap (λ (own : Plains). style_shown kind own rest) (held_shown held ∙ g)
    ∙ ap (λ (x : Face). along (element x (plains_before ts ended)) rest) (sym f)
    ∙ sym (by_showing showing.Element l (λ ps. plains_before ts ps) rest e)

node_is : (p : Page) (l : Label) (ts : Trees) (t : StyledContent) (rest : Plains) (u : IsUnchanged p l ts)
    → ((k : Kept) → kept_with l.id p.kept ≡ Some k → (ps : Plains) → parts_shown_at 0 [] (line_parts (node_items (flat k.node))) ps ≡ plain_before (tree l ts) ps)
    → styled_shown (found_then (kept_with l.id p.kept) t) rest ≡ plain_before (tree l ts) (styled_shown t rest)
node_is p l ts t rest u s = ap (λ (o : Option Kept). styled_shown (found_then o t) rest) u.found ∙ s u.kept u.found (styled_shown t rest)

one_shown : (w : InlineForm) (p : Page) (l : Label) (ts : Trees) (held t : StyledContent) (rest : Plains) (A B : Type 0) → IsStyledBy w p l ts A → ShowsBy w p l ts B
    → (A → B → styled_shown held ended ≡ plains_before ts ended)
    → styled_shown (sent_by w (kept_with l.id p.kept) l held t) rest ≡ plain_before (tree l ts) (styled_shown t rest)
one_shown inline.Nothing p l ts held t rest A B h s g = sym (by_showing showing.Nothing l (λ ps. plains_before ts ps) (styled_shown t rest) s)
one_shown inline.Characters p l ts held t rest A B h s g =
    text_shown l.shown t rest s.1 ∙ sym (by_showing showing.Characters l (λ ps. plains_before ts ps) (styled_shown t rest) s.0)
one_shown inline.Bold p l ts held t rest A B h s g = style_is true l ts held (styled_shown t rest) s.0 s.1 (g h s.2)
one_shown inline.Italic p l ts held t rest A B h s g = style_is false l ts held (styled_shown t rest) s.0 s.1 (g h s.2)
one_shown inline.Shown p l ts held t rest A B h s g = node_is p l ts t rest h s
one_shown inline.PageLink p l ts held t rest A B h s g = node_is p l ts t rest h s
one_shown inline.ExternalLink p l ts held t rest A B h s g = node_is p l ts t rest h s
one_shown inline.Tag p l ts held t rest A B h s g = node_is p l ts t rest h s
one_shown inline.Break p l ts held t rest A B h s g = node_is p l ts t rest h s
one_shown inline.AsItStood p l ts held t rest A B h s g = node_is p l ts t rest h s

mutual
  tree_shown : (p : Page) (t : Tree) (c : StyledContent) (rest : Plains) → IsStyledSent p t → Shows p t
      → styled_shown (sent_before p t c) rest ≡ plain_before t (styled_shown c rest)
  tree_shown p (tree l ts) c rest h s =
      one_shown (edit_shape l.kind).inline p l ts (sent_content p ts) c rest (AreStyledSent p ts) (AllShow p ts) h s (λ k a. sent_shown p ts ended k a)

  pub sent_shown : (p : Page) (us : Trees) (rest : Plains) → AreStyledSent p us → AllShow p us → styled_shown (sent_content p us) rest ≡ plains_before us rest
  sent_shown p none rest h s = refl
  sent_shown p (more t us) rest h s = tree_shown p t (sent_content p us) rest h.0 s.0 ∙ ap (plain_before t) (sent_shown p us rest h.1 s.1)
