-- What is sent for the paragraph of a flat page: its texts are characters and fit, and its nodes show their sources.
use Rattle.std.proofs.Common.{◌≡◌, ℕ, Bool, true, List, [], ◌∷◌, ◌++◌, map, refl, sym, ap, ◌∙◌, subst}
use Rattle.std.specs.Prelude.{if◌then◌else◌, Option}
use Rattle.std.specs.Str.{IsUtf8, chars}
use Rattle.std.proofs.Math.Utf8.{scalar, scalars}
use Rattle.std.proofs.lemmas.Str.{scalars-chars}
use Rattle.wt_tree.specs.Tree.{Label, tree, Trees, none, more}
use Rattle.wt_tree.specs.EditShapes.{edit_shape}
use Rattle.wt_tree.specs.declared.edit_shape.InlineForm.{InlineForm}
use Rattle.wt_tree.specs.declared.edit_shape.InlineForm.TheVariants as inline
use Rattle.wt_tree.specs.declared.edit_shape.Place.{Place}
use Rattle.wt_guards.specs.Content.{ContentSign, letter, letters, thing}
use Rattle.wt_original.specs.Kept.{Kept, kept_with}
use Rattle.wt_original.specs.Page.{Page}
use Rattle.wt_link_spelling.specs.Spelling.{kept_thing, as_it_stood, unless_kept, anew_by, signs_by, signs_of_all}
use Rattle.wt_typed_blocks.specs.Edited.{Pieces, no_pieces, gone, written, kept, around, new_style, as_new, text_node, sent_pieces, PiecesStay}
use Rattle.wt_text_edit_laws.proofs.Texts.PlainWords.{and_left, and_right}
use Rattle.wt_beside_laws.specs.Lines.{AreCharacters}
use Rattle.wt_beside_laws.specs.SentNodes.{IsUnchanged, IsSentBy, AreSent}
use Rattle.wt_beside_laws.specs.SentPieces.{IsNodeForm, FitsBy, TextsFit}
use Rattle.wt_beside_laws.specs.FlatPages.{AreNodesAndTexts}
use Rattle.wt_beside_laws.proofs.SentPieces.{no_style, no_style_sent}

-- ---- in a paragraph any text fits

fits_by : (w : InlineForm) (l : Label) → FitsBy w true l
fits_by inline.Nothing l = tt
fits_by inline.Characters l = refl
fits_by inline.Bold l = tt
fits_by inline.Italic l = tt
fits_by inline.Shown l = tt
fits_by inline.PageLink l = tt
fits_by inline.ExternalLink l = tt
fits_by inline.Tag l = tt
fits_by inline.Break l = tt
fits_by inline.AsItStood l = tt

pub all_fit : (us : Trees) → TextsFit true us
all_fit none = tt
all_fit (more (tree l ts) us) = (fits_by (edit_shape l.kind).inline l, all_fit us)

-- ---- what is typed are characters

pub both_characters : (xs ys : List ContentSign) → AreCharacters xs → AreCharacters ys → AreCharacters (xs ++ ys)
both_characters [] ys h k = k
both_characters (letter c ∷ xs) ys h k = (h.0, both_characters xs ys h.1 k)
both_characters (thing t ∷ xs) ys h k = both_characters xs ys h k

letters_by : (cs : List ℕ) → scalars cs ≡ true → AreCharacters (map letter cs)
letters_by [] h = tt
letters_by (c ∷ cs) h = (and_left (scalar c) (scalars cs) h, letters_by cs (and_right (scalar c) (scalars cs) h))

pub text_characters : (text : List ℕ) → IsUtf8 text → AreCharacters (letters text)
text_characters text u = letters_by (chars text) (scalars-chars text u)

thing_by : (p : Page) (l : Label) (ts : Trees) (new : List ContentSign) (u : IsUnchanged p l ts) → AreCharacters (unless_kept p (kept_with l.id p.kept) (tree l ts) new)
thing_by p l ts new u =
    let is : unless_kept p (kept_with l.id p.kept) (tree l ts) new ≡ kept_thing u.kept ∷ [] =
    ap (λ (k : Option Kept). unless_kept p k (tree l ts) new) u.found ∙ ap (λ (b : Bool). if b then kept_thing u.kept ∷ [] else new) u.same in
    subst AreCharacters (sym is) tt

node_characters : (w : InlineForm) (p : Page) (pl : Place) (l : Label) (ts : Trees) (inside : List ContentSign) → IsNodeForm w → IsSentBy w p l ts
    → AreCharacters (signs_by w p pl (kept_with l.id p.kept) l ts inside)
node_characters inline.Nothing p pl l ts inside n h = absurd n
node_characters inline.Characters p pl l ts inside n h = absurd n
node_characters inline.Bold p pl l ts inside n h = absurd h
node_characters inline.Italic p pl l ts inside n h = absurd h
node_characters inline.Shown p pl l ts inside n h = thing_by p l ts (anew_by inline.Shown p pl (kept_with l.id p.kept) l ts inside) h
node_characters inline.PageLink p pl l ts inside n h = thing_by p l ts (anew_by inline.PageLink p pl (kept_with l.id p.kept) l ts inside) h
node_characters inline.ExternalLink p pl l ts inside n h = thing_by p l ts (anew_by inline.ExternalLink p pl (kept_with l.id p.kept) l ts inside) h
node_characters inline.Tag p pl l ts inside n h = thing_by p l ts (anew_by inline.Tag p pl (kept_with l.id p.kept) l ts inside) h
node_characters inline.Break p pl l ts inside n h = thing_by p l ts (anew_by inline.Break p pl (kept_with l.id p.kept) l ts inside) h
node_characters inline.AsItStood p pl l ts inside n h =
    subst (λ (k : Option Kept). AreCharacters (as_it_stood k)) (sym h.found) tt

text_before : (p : Page) (pl : Place) (x : Label) (text : List ℕ) (us : Trees) → IsUtf8 text → AreCharacters (signs_of_all p pl us)
    → AreCharacters (signs_of_all p pl (text_node x text us))
text_before p pl x [] us u h = h
text_before p pl x (c ∷ cs) us u h = both_characters (letters (c ∷ cs)) (signs_of_all p pl us) (text_characters (c ∷ cs) u) h

text_sent : (p : Page) (x : Label) (text : List ℕ) (us : Trees) → AreSent p (text_node x text us) → AreSent p us
text_sent p x [] us h = h
text_sent p x (c ∷ cs) us h = h.1

pub pieces_characters : (p : Page) (pl : Place) (ps : Pieces) → PiecesStay ps → AreSent p (sent_pieces ps) → AreNodesAndTexts ps
    → AreCharacters (signs_of_all p pl (sent_pieces ps))
pieces_characters p pl no_pieces h e a = tt
pieces_characters p pl (gone t ps) h e a = pieces_characters p pl ps h e a
pieces_characters p pl (written x text ps) h e a =
    text_before p pl x text (sent_pieces ps) a.0 (pieces_characters p pl ps h (text_sent p x text (sent_pieces ps) e) a.1)
pieces_characters p pl (kept (tree l ts) (tree m us) ps) h e a =
    let form : IsNodeForm (edit_shape m.kind).inline = subst (λ k. IsNodeForm (edit_shape k).inline) (sym h.0.0.kind) a.0 in
    both_characters (signs_by (edit_shape m.kind).inline p pl (kept_with m.id p.kept) m us (signs_of_all p pl us)) (signs_of_all p pl (sent_pieces ps))
    (node_characters (edit_shape m.kind).inline p pl m us (signs_of_all p pl us) form e.0) (pieces_characters p pl ps h.1 e.1 a.1)
pieces_characters p pl (around l m is ps) h e a = no_style_sent p l m (sent_pieces is) h.0 h.1 e.0
pieces_characters p pl (new_style m is ps) h e a = no_style p (as_new m) (sent_pieces is) h.0 e.0
