-- What is sent for a paragraph or heading with calls in it: texts, and nodes as they are in the page, groups among them.
use Rattle.std.proofs.Common.{◌≡◌, inl, inr, ℕ, ◌+◌, Bool, true, false, Option, Some, List, [], ◌∷◌, ◌++◌, length, map, refl, sym, ap, ◌∙◌, subst}
use Rattle.std.specs.Prelude.{◌||◌, ◌==◌, if◌then◌else◌, encode_utf8}
use Rattle.std.specs.List.{flat_map, list_any}
use Rattle.std.specs.Str.{IsUtf8, chars}
use Rattle.std.proofs.lemmas.Str.{encodes-chars}
use Rattle.wt_tree.specs.declared.kind.Kind.{Kind}
use Rattle.wt_tree.specs.EditShapes.{edit_shape}
use Rattle.wt_tree.specs.Plain.{Plains, text_before, plain_before}
use Rattle.wt_tree.specs.Source.{flat}
use Rattle.wt_tree.specs.Tiling.{is_group}
use Rattle.wt_tree.specs.Tree.{Label, Tree, tree, Trees, label}
use Rattle.wt_tree.specs.declared.edit_shape.InlineForm.{InlineForm}
use Rattle.wt_tree.specs.declared.edit_shape.InlineForm.TheVariants as inline
use Rattle.wt_tree.specs.declared.edit_shape.Place.{Place}
use Rattle.wt_guards.specs.Content.{ContentSign, Thing, letter, letters}
use Rattle.wt_original.specs.Kept.{Kept, kept_with, kept_nodes}
use Rattle.wt_original.specs.Page.{page_of, TellsSame, restored, is_unchanged}
use Rattle.wt_context.specs.Line.{line_parts}
use Rattle.wt_difference.specs.Insides.{is_block_part}
use Rattle.wt_link_spelling.specs.Spelling.{kept_thing, as_it_stood, unless_kept, anew_by, signs_by, signs_of, signs_of_all}
use Rattle.wt_expand.specs.PageCalls.{expanded_page}
use Rattle.wt_expand.specs.Work.{Pages}
use Rattle.wt_part_laws.specs.Expanded.{part_items}
use Rattle.wt_typed_blocks.proofs.SentGroups.{in_group}
use Rattle.wt_typed_blocks.specs.Sent.{StandsAsIs}
use Rattle.wt_typed_blocks.specs.Edited.{Pieces, no_pieces, gone, written, kept, around, new_style, page_pieces, text_node, sent_pieces, PiecesStay, pieces_before}
use Rattle.wt_typed_blocks.specs.EditedUnmarked.{AreInline}
use Rattle.wt_beside_laws.specs.Called.{owns_in, called_shown}
use Rattle.wt_content.specs.Content.{has_break}
use Rattle.wt_typed_blocks.proofs.TextReads.{or_parts}
use Rattle.wt_beside_laws.specs.FlatBlocks.{AreOneLine}
use Rattle.wt_beside_laws.specs.FlatPages.{AreNodesAndTexts}
use Rattle.wt_beside_laws.specs.InHeadings.{AreOnOneLine}
use Rattle.wt_beside_laws.proofs.Styled.SentFaults.{typed_line}
use Rattle.wt_beside_laws.specs.Lines.{AreCharacters}
use Rattle.wt_beside_laws.specs.SentNodes.{IsUnchanged, IsSentBy, AreSent}
use Rattle.wt_beside_laws.specs.SentPieces.{IsNodeForm, HaveNoStyle}
use Rattle.wt_beside_laws.specs.Shown.{parts_shown_at}
use Rattle.wt_beside_laws.specs.Stood.{things}
use Rattle.wt_beside_laws.specs.StyledBlocks.{numbers_by, all_numbers, thing_of, found_thing, things_with}
use Rattle.wt_beside_laws.proofs.Edits.Pieces.{both_characters, text_characters}
use Rattle.wt_beside_laws.proofs.LineShown.{twice}
use Rattle.wt_beside_laws.proofs.SentNodes.{things_append, no_things}
use Rattle.wt_beside_laws.proofs.SentPieces.{text_sent}
use Rattle.wt_beside_laws.proofs.SentShown.{all_encoded}
use Rattle.wt_called_edit_laws.specs.CalledEdits.{AreChildrenBeside, AreGoneCalm}
use Rattle.wt_called_edit_laws.specs.PageThings.{ThingsStay}
use Rattle.wt_called_edit_laws.proofs.Beside.Found.{FoundBy, AreFound}
use Rattle.wt_called_edit_laws.specs.FoundGroups.{IsFoundAs, HasFoundGroups}
use Rattle.wt_called_edit_laws.proofs.Beside.Holding.{round_unchanged}

-- ---- a node that stays is unchanged

pub same_kept : (a b : Kept) → Some a ≡ Some b → a ≡ b
same_kept a b e = cc

kept_unchanged : (same : Tree → Tree → Bool) (block : Tree) (l m : Label) (ts us : Trees) → TellsSame same → StandsAsIs (tree l ts) (tree m us)
    → HasFoundGroups (kept_nodes block) (tree l ts) → (f : IsFoundAs (kept_nodes block) l ts) → is_unchanged (page_of same block) f.kept (tree m us) ≡ true
kept_unchanged same block l m ts us tells h d f =
    let now : Tree = restored (kept_nodes block) (tree m us) in
    in_group (is_group l.kind) d
    (λ g x. ap (λ (t : Tree). is_group (label t).kind || same now t) f.node ∙ ap (λ (b : Bool). b || same now (tree l ts)) g)
    (λ g a. round_unchanged same block l m ts us tells h g a f)

pub as_kept : (same : Tree → Tree → Bool) (block : Tree) (l m : Label) (ts us : Trees) → TellsSame same → StandsAsIs (tree l ts) (tree m us)
    → HasFoundGroups (kept_nodes block) (tree l ts) → IsFoundAs (kept_nodes block) l ts → IsUnchanged (page_of same block) m us
as_kept same block l m ts us tells h g f = record {
  kept = f.kept;
  found = ap (λ (i : ℕ). kept_with i (kept_nodes block)) h.0.id ∙ f.found;
  same = kept_unchanged same block l m ts us tells h g f;
}

sent_by : (w : InlineForm) (same : Tree → Tree → Bool) (block : Tree) (l m : Label) (ts us : Trees) → TellsSame same → StandsAsIs (tree l ts) (tree m us)
    → FoundBy w (kept_nodes block) l ts → IsSentBy w (page_of same block) m us
sent_by inline.Nothing same block l m ts us tells h f = tt
sent_by inline.Characters same block l m ts us tells h f = tt
sent_by inline.Bold same block l m ts us tells h f = f
sent_by inline.Italic same block l m ts us tells h f = f
sent_by inline.Shown same block l m ts us tells h f = as_kept same block l m ts us tells h f.1 f.0
sent_by inline.PageLink same block l m ts us tells h f = as_kept same block l m ts us tells h f.1 f.0
sent_by inline.ExternalLink same block l m ts us tells h f = as_kept same block l m ts us tells h f.1 f.0
sent_by inline.Tag same block l m ts us tells h f = as_kept same block l m ts us tells h f.1 f.0
sent_by inline.Break same block l m ts us tells h f = as_kept same block l m ts us tells h f.1 f.0
sent_by inline.AsItStood same block l m ts us tells h f = as_kept same block l m ts us tells h f.1 f.0

pub pieces_sent : (pages : Pages) (same : Tree → Tree → Bool) (block : Tree) (ps : Pieces) → TellsSame same → AreFound (kept_nodes block) (page_pieces ps)
    → AreChildrenBeside pages (page_pieces ps) → PiecesStay ps → HaveNoStyle ps → AreSent (page_of same block) (sent_pieces ps)
pieces_sent pages same block no_pieces tells f g h n = tt
pieces_sent pages same block (gone (tree l ts) ps) tells f g h n = pieces_sent pages same block ps tells f.1 g.1 h n
pieces_sent pages same block (written x text ps) tells f g h n =
    text_sent (page_of same block) x text (sent_pieces ps) (pieces_sent pages same block ps tells f g h n)
pieces_sent pages same block (kept (tree l ts) (tree m us) ps) tells f g h n = (
  subst (λ (k : Kind). IsSentBy (edit_shape k).inline (page_of same block) m us) (sym h.0.0.kind)
      (sent_by (edit_shape l.kind).inline same block l m ts us tells h.0 f.0),
  pieces_sent pages same block ps tells f.1 g.1 h.1 n,
)
pieces_sent pages same block (around l m is ps) tells f g h n = absurd n
pieces_sent pages same block (new_style m is ps) tells f g h n = absurd n

-- ---- its sign is that of the page's node

-- these are the signs of the block's node with this number
record IsSignOf (block : Tree) (l : Label) (ts : Trees) (signs : List ContentSign) : Type 0 where
  kept : Kept
  found : kept_with l.id (kept_nodes block) ≡ Some kept
  node : kept.node ≡ tree l ts
  is : signs ≡ kept_thing kept ∷ []

unless_sign : (same : Tree → Tree → Bool) (block : Tree) (l m : Label) (ts us : Trees) (new : List ContentSign) → TellsSame same
    → StandsAsIs (tree l ts) (tree m us) → HasFoundGroups (kept_nodes block) (tree l ts) → IsFoundAs (kept_nodes block) l ts
    → IsSignOf block l ts (unless_kept (page_of same block) (kept_with m.id (kept_nodes block)) (tree m us) new)
unless_sign same block l m ts us new tells h g f =
    let u : IsUnchanged (page_of same block) m us = as_kept same block l m ts us tells h g f in
    let now : kept_with m.id (kept_nodes block) ≡ Some f.kept = ap (λ (i : ℕ). kept_with i (kept_nodes block)) h.0.id ∙ f.found in
    record {
      kept = f.kept;
      found = f.found;
      node = f.node;
      is = ap (λ (k : Option Kept). unless_kept (page_of same block) k (tree m us) new) now
          ∙ ap (λ (b : Bool). if b then kept_thing f.kept ∷ [] else new) (kept_unchanged same block l m ts us tells h g f);
    }

stood_sign : (block : Tree) (l m : Label) (ts : Trees) → m.id ≡ l.id → IsFoundAs (kept_nodes block) l ts
    → IsSignOf block l ts (as_it_stood (kept_with m.id (kept_nodes block)))
stood_sign block l m ts e f = record {
  kept = f.kept;
  found = f.found;
  node = f.node;
  is = ap (λ (i : ℕ). as_it_stood (kept_with i (kept_nodes block))) e ∙ ap (λ (k : Option Kept). as_it_stood k) f.found;
}

sign_by : (w : InlineForm) (same : Tree → Tree → Bool) (block : Tree) (pl : Place) (l m : Label) (ts us : Trees) (inside : List ContentSign) → TellsSame same
    → StandsAsIs (tree l ts) (tree m us) → IsNodeForm w → FoundBy w (kept_nodes block) l ts
    → IsSignOf block l ts (signs_by w (page_of same block) pl (kept_with m.id (kept_nodes block)) m us inside)
sign_by inline.Nothing same block pl l m ts us inside tells h n f = absurd n
sign_by inline.Characters same block pl l m ts us inside tells h n f = absurd n
sign_by inline.Bold same block pl l m ts us inside tells h n f = absurd f
sign_by inline.Italic same block pl l m ts us inside tells h n f = absurd f
sign_by inline.Shown same block pl l m ts us inside tells h n f =
    unless_sign same block l m ts us (anew_by inline.Shown (page_of same block) pl (kept_with m.id (kept_nodes block)) m us inside) tells h f.1 f.0
sign_by inline.PageLink same block pl l m ts us inside tells h n f =
    unless_sign same block l m ts us (anew_by inline.PageLink (page_of same block) pl (kept_with m.id (kept_nodes block)) m us inside) tells h f.1 f.0
sign_by inline.ExternalLink same block pl l m ts us inside tells h n f =
    unless_sign same block l m ts us (anew_by inline.ExternalLink (page_of same block) pl (kept_with m.id (kept_nodes block)) m us inside) tells h f.1 f.0
sign_by inline.Tag same block pl l m ts us inside tells h n f =
    unless_sign same block l m ts us (anew_by inline.Tag (page_of same block) pl (kept_with m.id (kept_nodes block)) m us inside) tells h f.1 f.0
sign_by inline.Break same block pl l m ts us inside tells h n f =
    unless_sign same block l m ts us (anew_by inline.Break (page_of same block) pl (kept_with m.id (kept_nodes block)) m us inside) tells h f.1 f.0
sign_by inline.AsItStood same block pl l m ts us inside tells h n f = stood_sign block l m ts h.0.id f.0

node_sign : (same : Tree → Tree → Bool) (block : Tree) (pl : Place) (l m : Label) (ts us : Trees) → TellsSame same → StandsAsIs (tree l ts) (tree m us)
    → IsNodeForm (edit_shape l.kind).inline → FoundBy (edit_shape l.kind).inline (kept_nodes block) l ts
    → IsSignOf block l ts (signs_of (page_of same block) pl (tree m us))
node_sign same block pl l m ts us tells h n f =
    let inside : List ContentSign = signs_of_all (page_of same block) pl us in
    subst (λ (k : Kind). IsSignOf block l ts (signs_by (edit_shape k).inline (page_of same block) pl (kept_with m.id (kept_nodes block)) m us inside))
    (sym h.0.kind) (sign_by (edit_shape l.kind).inline same block pl l m ts us inside tells h n f)

-- ---- its nodes are those of the block, but for some that call nothing

-- what is sent, as signs
abbrev pub sent_signs : (Tree → Tree → Bool) → Tree → Place → Pieces → List ContentSign
sent_signs same block pl ps = signs_of_all (page_of same block) pl (sent_pieces ps)

one_gone : (pages : Pages) (b : Thing) (bs ds : List Thing) → (expanded_page pages b.source).outer ≡ [] → ThingsStay pages bs ds → ThingsStay pages (b ∷ bs) ds
one_gone pages b bs [] e h = (e, h)
one_gone pages b bs (d ∷ ds) e h = inr (e, h)

node_gone : (pages : Pages) (ks : List Kept) (l : Label) (ts : Trees) (ns : List ℕ) (ds : List Thing) → (expanded_page pages (flat (tree l ts))).outer ≡ []
    → IsFoundAs ks l ts → ThingsStay pages (things_with ks ns) ds → ThingsStay pages (things_with ks (l.id ∷ ns)) ds
node_gone pages ks l ts ns ds e f h =
    subst (λ (o : Option Kept). ThingsStay pages (found_thing o ++ things_with ks ns) ds) (sym f.found)
    (one_gone pages (thing_of f.kept) (things_with ks ns) ds (ap (λ (t : Tree). (expanded_page pages (flat t)).outer) f.node ∙ e) h)

gone_by : (w : InlineForm) (pages : Pages) (ks : List Kept) (l : Label) (ts : Trees) (inside ns : List ℕ) (ds : List Thing)
    → (IsNodeForm w → (expanded_page pages (flat (tree l ts))).outer ≡ []) → FoundBy w ks l ts → ThingsStay pages (things_with ks ns) ds
    → ThingsStay pages (things_with ks (numbers_by w l.id inside ++ ns)) ds
gone_by inline.Nothing pages ks l ts inside ns ds e f h = h
gone_by inline.Characters pages ks l ts inside ns ds e f h = h
gone_by inline.Bold pages ks l ts inside ns ds e f h = absurd f
gone_by inline.Italic pages ks l ts inside ns ds e f h = absurd f
gone_by inline.Shown pages ks l ts inside ns ds e f h = node_gone pages ks l ts ns ds (e tt) f.0 h
gone_by inline.PageLink pages ks l ts inside ns ds e f h = node_gone pages ks l ts ns ds (e tt) f.0 h
gone_by inline.ExternalLink pages ks l ts inside ns ds e f h = node_gone pages ks l ts ns ds (e tt) f.0 h
gone_by inline.Tag pages ks l ts inside ns ds e f h = node_gone pages ks l ts ns ds (e tt) f.0 h
gone_by inline.Break pages ks l ts inside ns ds e f h = node_gone pages ks l ts ns ds (e tt) f.0 h
gone_by inline.AsItStood pages ks l ts inside ns ds e f h = node_gone pages ks l ts ns ds (e tt) f.0 h

own_number : (w : InlineForm) (ks : List Kept) (l : Label) (ts : Trees) (inside : List ℕ) → IsNodeForm w → FoundBy w ks l ts
    → numbers_by w l.id inside ≡ l.id ∷ []
own_number inline.Nothing ks l ts inside n f = absurd n
own_number inline.Characters ks l ts inside n f = absurd n
own_number inline.Bold ks l ts inside n f = absurd f
own_number inline.Italic ks l ts inside n f = absurd f
own_number inline.Shown ks l ts inside n f = refl
own_number inline.PageLink ks l ts inside n f = refl
own_number inline.ExternalLink ks l ts inside n f = refl
own_number inline.Tag ks l ts inside n f = refl
own_number inline.Break ks l ts inside n f = refl
own_number inline.AsItStood ks l ts inside n f = refl

node_stays : (pages : Pages) (block : Tree) (l : Label) (ts : Trees) (numbers ns : List ℕ) (own signs : List ContentSign) → IsSignOf block l ts own
    → numbers ≡ l.id ∷ [] → ThingsStay pages (things_with (kept_nodes block) ns) (things signs)
    → ThingsStay pages (things_with (kept_nodes block) (numbers ++ ns)) (things (own ++ signs))
node_stays pages block l ts numbers ns own signs r e h =
    let ks : List Kept = kept_nodes block in
    let now : List Thing = thing_of r.kept ∷ things signs in
    let page : things_with ks (numbers ++ ns) ≡ thing_of r.kept ∷ things_with ks ns =
    ap (λ (ms : List ℕ). things_with ks (ms ++ ns)) e ∙ ap (λ (o : Option Kept). found_thing o ++ things_with ks ns) r.found in
    let there : ThingsStay pages (thing_of r.kept ∷ things_with ks ns) now = inl (refl, h) in
    subst (λ (ss : List ContentSign). ThingsStay pages (things_with ks (numbers ++ ns)) (things (ss ++ signs))) (sym r.is)
    (subst (λ (os : List Thing). ThingsStay pages os now) (sym page) there)

text_things : (same : Tree → Tree → Bool) (block : Tree) (pl : Place) (x : Label) (text : List ℕ) (us : Trees)
    → things (signs_of_all (page_of same block) pl (text_node x text us)) ≡ things (signs_of_all (page_of same block) pl us)
text_things same block pl x [] us = refl
text_things same block pl x (c ∷ cs) us =
    let rest : List ContentSign = signs_of_all (page_of same block) pl us in
    things_append (letters (c ∷ cs)) rest ∙ ap (λ (os : List Thing). os ++ things rest) (no_things (chars (c ∷ cs)))

pub pieces_things : (pages : Pages) (same : Tree → Tree → Bool) (block : Tree) (pl : Place) (ps : Pieces) → TellsSame same
    → AreFound (kept_nodes block) (page_pieces ps) → AreChildrenBeside pages (page_pieces ps) → PiecesStay ps → AreNodesAndTexts ps → HaveNoStyle ps
    → AreGoneCalm pages ps → ThingsStay pages (things_with (kept_nodes block) (all_numbers (page_pieces ps))) (things (sent_signs same block pl ps))
pieces_things pages same block pl no_pieces tells f g h a n c = tt
pieces_things pages same block pl (gone (tree l ts) ps) tells f g h a n c =
    gone_by (edit_shape l.kind).inline pages (kept_nodes block) l ts (all_numbers ts) (all_numbers (page_pieces ps)) (things (sent_signs same block pl ps)) c.0 f.0
    (pieces_things pages same block pl ps tells f.1 g.1 h a n c.1)
pieces_things pages same block pl (written x text ps) tells f g h a n c =
    subst (ThingsStay pages (things_with (kept_nodes block) (all_numbers (page_pieces ps)))) (sym (text_things same block pl x text (sent_pieces ps)))
    (pieces_things pages same block pl ps tells f g h a.1 n c)
pieces_things pages same block pl (kept (tree l ts) (tree m us) ps) tells f g h a n c =
    let r : IsSignOf block l ts (signs_of (page_of same block) pl (tree m us)) =
    node_sign same block pl l m ts us tells h.0 a.0 f.0 in
    node_stays pages block l ts (numbers_by (edit_shape l.kind).inline l.id (all_numbers ts)) (all_numbers (page_pieces ps))
    (signs_of (page_of same block) pl (tree m us)) (sent_signs same block pl ps) r
    (own_number (edit_shape l.kind).inline (kept_nodes block) l ts (all_numbers ts) a.0 f.0)
    (pieces_things pages same block pl ps tells f.1 g.1 h.1 a.1 n c)
pieces_things pages same block pl (around l m is ps) tells f g h a n c = absurd n
pieces_things pages same block pl (new_style m is ps) tells f g h a n c = absurd n

-- ---- its texts are characters

text_are : (same : Tree → Tree → Bool) (block : Tree) (pl : Place) (x : Label) (text : List ℕ) (us : Trees) → IsUtf8 text
    → AreCharacters (signs_of_all (page_of same block) pl us) → AreCharacters (signs_of_all (page_of same block) pl (text_node x text us))
text_are same block pl x [] us u h = h
text_are same block pl x (c ∷ cs) us u h =
    both_characters (letters (c ∷ cs)) (signs_of_all (page_of same block) pl us) (text_characters (c ∷ cs) u) h

pub pieces_characters : (pages : Pages) (same : Tree → Tree → Bool) (block : Tree) (pl : Place) (ps : Pieces) → TellsSame same
    → AreFound (kept_nodes block) (page_pieces ps) → AreChildrenBeside pages (page_pieces ps) → PiecesStay ps → AreNodesAndTexts ps → HaveNoStyle ps
    → AreCharacters (sent_signs same block pl ps)
pieces_characters pages same block pl no_pieces tells f g h a n = tt
pieces_characters pages same block pl (gone (tree l ts) ps) tells f g h a n = pieces_characters pages same block pl ps tells f.1 g.1 h a n
pieces_characters pages same block pl (written x text ps) tells f g h a n =
    text_are same block pl x text (sent_pieces ps) a.0 (pieces_characters pages same block pl ps tells f g h a.1 n)
pieces_characters pages same block pl (kept (tree l ts) (tree m us) ps) tells f g h a n =
    let r : IsSignOf block l ts (signs_of (page_of same block) pl (tree m us)) =
    node_sign same block pl l m ts us tells h.0 a.0 f.0 in
    subst (λ (ss : List ContentSign). AreCharacters (ss ++ sent_signs same block pl ps)) (sym r.is)
    (pieces_characters pages same block pl ps tells f.1 g.1 h.1 a.1 n)
pieces_characters pages same block pl (around l m is ps) tells f g h a n = absurd n
pieces_characters pages same block pl (new_style m is ps) tells f g h a n = absurd n

-- ---- in a heading they are on one line

letters_line : (cs : List ℕ) (ss : List ContentSign) → list_any (λ (d : ℕ). d == 10) cs ≡ false → AreOnOneLine ss → AreOnOneLine (map letter cs ++ ss)
letters_line [] ss e h = h
letters_line (c ∷ cs) ss e h = let r = or_parts (c == 10) (list_any (λ (d : ℕ). d == 10) cs) e in (r.0, letters_line cs ss r.1 h)

text_line : (same : Tree → Tree → Bool) (block : Tree) (pl : Place) (x : Label) (text : List ℕ) (us : Trees) → IsUtf8 text → has_break text ≡ false
    → AreOnOneLine (signs_of_all (page_of same block) pl us) → AreOnOneLine (signs_of_all (page_of same block) pl (text_node x text us))
text_line same block pl x [] us u b h = h
text_line same block pl x (c ∷ cs) us u b h =
    letters_line (chars (c ∷ cs)) (signs_of_all (page_of same block) pl us) (typed_line (c ∷ cs) u b) h

pub pieces_line : (pages : Pages) (same : Tree → Tree → Bool) (block : Tree) (pl : Place) (ps : Pieces) → TellsSame same
    → AreFound (kept_nodes block) (page_pieces ps) → AreChildrenBeside pages (page_pieces ps) → PiecesStay ps → AreNodesAndTexts ps → HaveNoStyle ps
    → AreOneLine ps → AreOnOneLine (sent_signs same block pl ps)
pieces_line pages same block pl no_pieces tells f g h a n o = tt
pieces_line pages same block pl (gone (tree l ts) ps) tells f g h a n o = pieces_line pages same block pl ps tells f.1 g.1 h a n o
pieces_line pages same block pl (written x text ps) tells f g h a n o =
    text_line same block pl x text (sent_pieces ps) a.0 o.0 (pieces_line pages same block pl ps tells f g h a.1 n o.1)
pieces_line pages same block pl (kept (tree l ts) (tree m us) ps) tells f g h a n o =
    let r : IsSignOf block l ts (signs_of (page_of same block) pl (tree m us)) =
    node_sign same block pl l m ts us tells h.0 a.0 f.0 in
    subst (λ (ss : List ContentSign). AreOnOneLine (ss ++ sent_signs same block pl ps)) (sym r.is)
    (pieces_line pages same block pl ps tells f.1 g.1 h.1 a.1 n o)
pieces_line pages same block pl (around l m is ps) tells f g h a n o = absurd n
pieces_line pages same block pl (new_style m is ps) tells f g h a n o = absurd n

-- ---- what is written shows what was sent

-- these signs show so, where so many calls come before them
abbrev shown_in : Pages → ℕ → List ContentSign → Plains → Plains
shown_in pages i signs rest = called_shown signs (owns_in pages i signs) rest

letters_show : (pages : Pages) (i : ℕ) (cs : List ℕ) (signs : List ContentSign) (rest : Plains)
    → shown_in pages i (map letter cs ++ signs) rest ≡ text_before (flat_map encode_utf8 cs) (shown_in pages i signs rest)
letters_show pages i [] signs rest = refl
letters_show pages i (c ∷ cs) signs rest =
    ap (text_before (encode_utf8 c)) (letters_show pages i cs signs rest)
    ∙ twice (encode_utf8 c) (flat_map encode_utf8 cs) (shown_in pages i signs rest)

text_shows : (pages : Pages) (i : ℕ) (same : Tree → Tree → Bool) (block : Tree) (pl : Place) (x : Label) (text : List ℕ) (us : Trees) (rest : Plains) → IsUtf8 text
    → shown_in pages i (signs_of_all (page_of same block) pl (text_node x text us)) rest
    ≡ text_before text (shown_in pages i (signs_of_all (page_of same block) pl us) rest)
text_shows pages i same block pl x [] us rest u = refl
text_shows pages i same block pl x (c ∷ cs) us rest u =
    let signs : List ContentSign = signs_of_all (page_of same block) pl us in
    letters_show pages i (chars (c ∷ cs)) signs rest
    ∙ ap (λ (bs : List ℕ). text_before bs (shown_in pages i signs rest)) (all_encoded (chars (c ∷ cs)) ∙ encodes-chars (c ∷ cs) u)

pub pieces_show : (pages : Pages) (i : ℕ) (same : Tree → Tree → Bool) (block : Tree) (pl : Place) (ps : Pieces) (rest : Plains) → TellsSame same
    → AreFound (kept_nodes block) (page_pieces ps) → AreChildrenBeside pages (page_pieces ps) → PiecesStay ps → AreNodesAndTexts ps → HaveNoStyle ps
    → called_shown (sent_signs same block pl ps) (owns_in pages i (sent_signs same block pl ps)) rest ≡ pieces_before ps rest
pieces_show pages i same block pl no_pieces rest tells f g h a n = refl
pieces_show pages i same block pl (gone (tree l ts) ps) rest tells f g h a n = pieces_show pages i same block pl ps rest tells f.1 g.1 h a n
pieces_show pages i same block pl (written x text ps) rest tells f g h a n =
    text_shows pages i same block pl x text (sent_pieces ps) rest a.0
    ∙ ap (text_before text) (pieces_show pages i same block pl ps rest tells f g h a.1 n)
pieces_show pages i same block pl (kept (tree l ts) (tree m us) ps) rest tells f g h a n =
    let r : IsSignOf block l ts (signs_of (page_of same block) pl (tree m us)) =
    node_sign same block pl l m ts us tells h.0 a.0 f.0 in
    let signs : List ContentSign = sent_signs same block pl ps in
    let j : ℕ = i + length (expanded_page pages (flat r.kept.node)).outer in
    let later : Plains = shown_in pages j signs rest in
    ap (λ (ss : List ContentSign). shown_in pages i (ss ++ signs) rest) r.is
    ∙ ap (λ (t : Tree). parts_shown_at 0 [] (line_parts (part_items pages i (flat t))) later) r.node
    ∙ g.0.shows a.0 i later
    ∙ ap (λ (qs : Plains). plain_before (tree l ts) qs) (pieces_show pages j same block pl ps rest tells f.1 g.1 h.1 a.1 n)
pieces_show pages i same block pl (around l m is ps) rest tells f g h a n = absurd n
pieces_show pages i same block pl (new_style m is ps) rest tells f g h a n = absurd n

-- ---- what stays is inline

pub pieces_inline : (pages : Pages) (ps : Pieces) → AreChildrenBeside pages (page_pieces ps) → PiecesStay ps → HaveNoStyle ps → AreInline ps
pieces_inline pages no_pieces g h n = tt
pieces_inline pages (gone t ps) g h n = pieces_inline pages ps g.1 h n
pieces_inline pages (written x text ps) g h n = pieces_inline pages ps g h n
pieces_inline pages (kept (tree l ts) (tree m us) ps) g h n = (ap is_block_part h.0.0.kind ∙ g.0.inline, pieces_inline pages ps g.1 h.1 n)
pieces_inline pages (around l m is ps) g h n = absurd n
pieces_inline pages (new_style m is ps) g h n = absurd n
