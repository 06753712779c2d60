-- What is written for a content that is sent shows what was sent: its texts, and between them what the page shows for each node that stays.
use Rattle.std.proofs.Common.{◌≡◌, ℕ, Bool, List, [], ◌∷◌, ◌++◌, map, refl, sym, ap, ◌∙◌, subst}
use Rattle.std.specs.Prelude.{if◌then◌else◌, Option, Some, encode_utf8}
use Rattle.std.specs.List.{flat_map}
use Rattle.std.specs.Str.{IsUtf8, chars}
use Rattle.std.proofs.Math.Utf8.{encodes}
use Rattle.std.proofs.lemmas.Str.{encodes-chars}
use Rattle.wt_tree.specs.Plain.{Plains, text_before, plain_before}
use Rattle.wt_tree.specs.Source.{flat}
use Rattle.wt_tree.specs.Tree.{Label, tree, Trees}
use Rattle.wt_tree.specs.EditShapes.{edit_shape}
use Rattle.wt_tree.specs.declared.edit_shape.InlineForm.{InlineForm}
use Rattle.wt_tree.specs.declared.edit_shape.InlineForm.TheVariants as inline
use Rattle.wt_tree.specs.declared.edit_shape.Place.{Place}
use Rattle.wt_guards.specs.Content.{ContentSign, letter, letters}
use Rattle.wt_original.specs.Kept.{Kept, kept_with}
use Rattle.wt_original.specs.Page.{Page}
use Rattle.wt_link_spelling.specs.Spelling.{kept_thing, as_it_stood, unless_kept, anew_by, signs_by, signs_of_all}
use Rattle.wt_context.specs.Line.{line_parts}
use Rattle.wt_typed_blocks.specs.Edited.{Pieces, no_pieces, gone, written, kept, around, new_style, text_node, sent_pieces, PiecesStay, pieces_before}
use Rattle.wt_beside_laws.specs.SentNodes.{IsUnchanged, IsSentBy, AreSent}
use Rattle.wt_beside_laws.specs.SentPieces.{IsNodeForm, PiecesShow}
use Rattle.wt_beside_laws.specs.Shown.{parts_shown_at, content_shown}
use Rattle.wt_beside_laws.proofs.LineShown.{twice}
use Rattle.wt_beside_laws.specs.NodeItems.{node_items}

-- ---- texts

characters_show : (cs : List ℕ) (signs : List ContentSign) (rest : Plains)
    → content_shown (map letter cs ++ signs) rest ≡ text_before (flat_map encode_utf8 cs) (content_shown signs rest)
characters_show [] signs rest = refl
characters_show (c ∷ cs) signs rest =
    ap (text_before (encode_utf8 c)) (characters_show cs signs rest) ∙ twice (encode_utf8 c) (flat_map encode_utf8 cs) (content_shown signs rest)

pub all_encoded : (cs : List ℕ) → flat_map encode_utf8 cs ≡ encodes cs
all_encoded [] = refl
all_encoded (c ∷ cs) = ap (λ bs. encode_utf8 c ++ bs) (all_encoded cs)

text_shown : (text : List ℕ) (signs : List ContentSign) (rest : Plains) → IsUtf8 text
    → content_shown (letters text ++ signs) rest ≡ text_before text (content_shown signs rest)
text_shown text signs rest u =
    characters_show (chars text) signs rest
    ∙ ap (λ (bs : List ℕ). text_before bs (content_shown signs rest)) (all_encoded (chars text) ∙ encodes-chars text u)

-- ---- nodes

found_thing : (p : Page) (l : Label) (ts : Trees) (new : List ContentSign) (u : IsUnchanged p l ts)
    → unless_kept p (kept_with l.id p.kept) (tree l ts) new ≡ kept_thing u.kept ∷ []
found_thing p l ts new u =
    ap (λ (k : Option Kept). unless_kept p k (tree l ts) new) u.found ∙ ap (λ (b : Bool). if b then kept_thing u.kept ∷ [] else new) u.same

-- the page's node with its number shows this
abbrev Shows : Page → Label → (Plains → Plains) → Type 0
Shows p l f = (k : Kept) → kept_with l.id p.kept ≡ Some k → (rest : Plains) → parts_shown_at 0 [] (line_parts (node_items (flat k.node))) rest ≡ f rest

thing_shown : (p : Page) (l : Label) (ts : Trees) (own signs : List ContentSign) (f : Plains → Plains) (rest : Plains) (u : IsUnchanged p l ts)
    → Shows p l f → own ≡ kept_thing u.kept ∷ [] → content_shown (own ++ signs) rest ≡ f (content_shown signs rest)
thing_shown p l ts own signs f rest u s is =
    ap (λ (ss : List ContentSign). content_shown (ss ++ signs) rest) is ∙ s u.kept u.found (content_shown signs rest)

node_shown : (w : InlineForm) (p : Page) (pl : Place) (l : Label) (ts : Trees) (inside signs : List ContentSign) (f : Plains → Plains) (rest : Plains)
    → IsNodeForm w → IsSentBy w p l ts → Shows p l f
    → content_shown (signs_by w p pl (kept_with l.id p.kept) l ts inside ++ signs) rest ≡ f (content_shown signs rest)
node_shown inline.Nothing p pl l ts inside signs f rest n h s = absurd n
node_shown inline.Characters p pl l ts inside signs f rest n h s = absurd n
node_shown inline.Bold p pl l ts inside signs f rest n h s = absurd h
node_shown inline.Italic p pl l ts inside signs f rest n h s = absurd h
node_shown inline.Shown p pl l ts inside signs f rest n h s =
    let new : List ContentSign = anew_by inline.Shown p pl (kept_with l.id p.kept) l ts inside in
    thing_shown p l ts (unless_kept p (kept_with l.id p.kept) (tree l ts) new) signs f rest h s (found_thing p l ts new h)
node_shown inline.PageLink p pl l ts inside signs f rest n h s =
    let new : List ContentSign = anew_by inline.PageLink p pl (kept_with l.id p.kept) l ts inside in
    thing_shown p l ts (unless_kept p (kept_with l.id p.kept) (tree l ts) new) signs f rest h s (found_thing p l ts new h)
node_shown inline.ExternalLink p pl l ts inside signs f rest n h s =
    let new : List ContentSign = anew_by inline.ExternalLink p pl (kept_with l.id p.kept) l ts inside in
    thing_shown p l ts (unless_kept p (kept_with l.id p.kept) (tree l ts) new) signs f rest h s (found_thing p l ts new h)
node_shown inline.Tag p pl l ts inside signs f rest n h s =
    let new : List ContentSign = anew_by inline.Tag p pl (kept_with l.id p.kept) l ts inside in
    thing_shown p l ts (unless_kept p (kept_with l.id p.kept) (tree l ts) new) signs f rest h s (found_thing p l ts new h)
node_shown inline.Break p pl l ts inside signs f rest n h s =
    let new : List ContentSign = anew_by inline.Break p pl (kept_with l.id p.kept) l ts inside in
    thing_shown p l ts (unless_kept p (kept_with l.id p.kept) (tree l ts) new) signs f rest h s (found_thing p l ts new h)
node_shown inline.AsItStood p pl l ts inside signs f rest n h s =
    thing_shown p l ts (as_it_stood (kept_with l.id p.kept)) signs f rest h s (ap (λ (k : Option Kept). as_it_stood k) h.found)

-- ---- all of them

written_shown : (p : Page) (pl : Place) (x : Label) (text : List ℕ) (us : Trees) (rest : Plains) → IsUtf8 text
    → content_shown (signs_of_all p pl (text_node x text us)) rest ≡ text_before text (content_shown (signs_of_all p pl us) rest)
written_shown p pl x [] us rest u = refl
written_shown p pl x (c ∷ cs) us rest u = text_shown (c ∷ cs) (signs_of_all p pl us) rest u

text_sent : (p : Page) (x : Label) (text : List ℕ) (us : Trees) → AreSent p (text_node x text us) → AreSent p us
text_sent p x [] us h = h
text_sent p x (c ∷ cs) us h = h.1

pub pieces_shown : (p : Page) (pl : Place) (ps : Pieces) (rest : Plains) → PiecesStay ps → AreSent p (sent_pieces ps) → PiecesShow p ps
    → content_shown (signs_of_all p pl (sent_pieces ps)) rest ≡ pieces_before ps rest
pieces_shown p pl no_pieces rest h e s = refl
pieces_shown p pl (gone t ps) rest h e s = pieces_shown p pl ps rest h e s
pieces_shown p pl (written x text ps) rest h e s =
    written_shown p pl x text (sent_pieces ps) rest s.0
    ∙ ap (text_before text) (pieces_shown p pl ps rest h (text_sent p x text (sent_pieces ps) e) s.1)
pieces_shown p pl (kept (tree l ts) (tree m us) ps) rest h e s =
    let signs : List ContentSign = signs_of_all p pl (sent_pieces ps) in
    let f : Plains → Plains = λ qs. plain_before (tree l ts) qs in
    let form : IsNodeForm (edit_shape m.kind).inline = subst (λ k. IsNodeForm (edit_shape k).inline) (sym h.0.0.kind) s.0 in
    let shows : Shows p m f = λ k i. s.1 k (ap (λ (n : ℕ). kept_with n p.kept) (sym h.0.0.id) ∙ i) in
    node_shown (edit_shape m.kind).inline p pl m us (signs_of_all p pl us) signs f rest form e.0 shows
    ∙ ap f (pieces_shown p pl ps rest h.1 e.1 s.2)
pieces_shown p pl (around l m is ps) rest h e s = absurd s
pieces_shown p pl (new_style m is ps) rest h e s = absurd s
