-- The nodes of what is sent with styles: those of the block that stay, in their order, with delimiters and nowikis that are put among them.
use Rattle.std.proofs.Common.{◌≡◌, ◌⊎◌, inl, inr, ℕ, ◌+◌, Bool, true, false, Option, Some, None, List, [], ◌∷◌, ◌++◌, length, map, ap, refl, subst, sym, ◌∙◌}
use Rattle.std.specs.Str.{chars}
use Rattle.wt_tree.specs.EditShapes.{edit_shape}
use Rattle.wt_tree.specs.Source.{flat}
use Rattle.wt_tree.specs.Tree.{Label, Tree, Trees, more, none, tree}
use Rattle.wt_tree.specs.declared.edit_shape.InlineForm.{InlineForm}
use Rattle.wt_tree.specs.declared.edit_shape.InlineForm.TheVariants as inline
use Rattle.wt_tree.specs.declared.kind.Kind.{Kind}
use Rattle.wt_guards.specs.Content.{ContentSign, Thing, letter, thing}
use Rattle.wt_guards.specs.Guards.{is_adjacent, nowiki}
use Rattle.wt_guards.specs.declared.role.Role.{Role}
use Rattle.wt_guards.specs.declared.role.Role.TheVariants.{Bare, External, Function, Group, Link, Mark, Node, Switch, Toggle}
use Rattle.wt_guards.specs.declared.role.Stretch.{Stretch}
use Rattle.wt_original.specs.Kept.{Kept, kept_nodes, kept_with}
use Rattle.wt_original.specs.Page.{Page, page_of}
use Rattle.wt_tiles.specs.Glyphs.{byte_glyphs, glyph_of}
use Rattle.wt_guards.specs.declared.role.Transclusion.{Transclusion}
use Rattle.wt_tiles.specs.declared.glyph.Glyph.{Glyph}
use Rattle.wt_tiles.specs.declared.glyph.Glyph.TheVariants as glyph
use Rattle.wt_link_spelling.specs.Spelling.{closing_place, opening_place}
use Rattle.wt_expand.specs.PageCalls.{expanded_page}
use Rattle.wt_expand.specs.Work.{Pages}
use Rattle.wt_part_laws.specs.Expanded.{part_items}
use Rattle.wt_typed_blocks.proofs.SentGroups.{of_style}
use Rattle.wt_typed_blocks.specs.Edited.{IsStyle, Pieces, PiecesStay, around, as_new, gone, kept, new_style, no_pieces, page_pieces, sent_pieces, text_node, written}
use Rattle.wt_typed_blocks.specs.Sent.{AllStandAsIs, StandsAsIs}
use Rattle.wt_beside_laws.proofs.Each.{Each}
use Rattle.wt_beside_laws.proofs.Groups.Folders.{folder_case}
use Rattle.wt_beside_laws.proofs.Groups.Meet.{EachIsSuch, EachNextMeets, IsNodeOrGroup, NextMeets, follow_as}
use Rattle.wt_beside_laws.proofs.NodesMeet.{atom_may}
use Rattle.wt_beside_laws.proofs.PageNodes.{follows_none}
use Rattle.wt_beside_laws.proofs.SentNodes.{things_append}
use Rattle.wt_beside_laws.proofs.Styled.BlockNodes.{with_append}
use Rattle.wt_beside_laws.proofs.Styled.SentAmong.{text_things}
use Rattle.wt_beside_laws.proofs.Styled.SentNests.{IsStyleForm, style_stands}
use Rattle.wt_beside_laws.proofs.Styled.SentStyles.{signs_joined}
use Rattle.wt_beside_laws.proofs.Styled.SentWhole.{numbers_appended}
use Rattle.wt_beside_laws.proofs.Styled.StyledNodes.{before_mark, lead_free, mark_last, meets_put, own_mark, own_nowiki, put_node}
use Rattle.wt_beside_laws.specs.Called.{BehindMay, IsOfFolder, LeadMay, MayFollowGroup, MayMeet, IsOwnNode, StaysAsItIs, StaysRound, owns_in}
use Rattle.wt_beside_laws.specs.Cuts.{ends_word, own_glyphs}
use Rattle.wt_beside_laws.specs.Given.{is_bare_url}
use Rattle.wt_beside_laws.specs.Nodes.{IsNode, MayFollow, is_quote_last}
use Rattle.wt_beside_laws.specs.SentStyled.{found_then, or_nowiki, sent_before, sent_by, sent_content}
use Rattle.wt_beside_laws.specs.Stood.{things}
use Rattle.wt_beside_laws.specs.Styled.{StyledContent, delimiter, finished, mark_source, sign, signs_before, signs_in, styled}
use Rattle.wt_beside_laws.specs.StyledBlocks.{all_numbers, found_thing, numbers_by, numbers_of, thing_of, things_with}
use Rattle.wt_beside_laws.specs.StyledNodes.{EndsUnquoted, IsPut}
use Rattle.wt_called_edit_laws.specs.FoundGroups.{IsFoundAs}
use Rattle.wt_called_edit_laws.proofs.Styles.Found.{AreFound, FoundBy, IsFound}
use Rattle.wt_called_edit_laws.proofs.Styles.Put.{put_items, put_source}
use Rattle.wt_called_edit_laws.proofs.Styles.Sent.{found_both, style_found}
use Rattle.wt_called_edit_laws.proofs.Written.FromPage.{gives_so}
use Rattle.wt_called_edit_laws.specs.PageThings.{ArePageThings, IsPageThing, MeetLater, ThingsStay}
use Rattle.wt_called_edit_laws.specs.StyledCallEdits.{AreOwnThings, CallNone, CallsNone, CallsNoneBy, GivesUnquoted, IsOwnThing, NoCallGoes}

-- ---- with others that are put among them

abbrev pub AreAmongPut : List Thing → List Thing → Type 0
AreAmongPut fs [] = fs ≡ []
AreAmongPut fs (d ∷ ds) = (IsPut d × AreAmongPut fs ds) ⊎ ((rest : List Thing) × (fs ≡ d ∷ rest) × AreAmongPut rest ds)

pub among_both : (fs news gs later : List Thing) → AreAmongPut fs news → AreAmongPut gs later → AreAmongPut (fs ++ gs) (news ++ later)
among_both fs [] gs later h k = subst (λ (xs : List Thing). AreAmongPut (xs ++ gs) later) (sym h) k
among_both fs (d ∷ ds) gs later h k = elim h [
  | inl p ↦ inl (p.0, among_both fs ds gs later p.1 k)
  | inr q ↦ inr (q.0 ++ gs, ap (λ (xs : List Thing). xs ++ gs) q.1, among_both q.0 ds gs later q.2 k)
]

one_gone : (pages : Pages) (b : Thing) (bs ds : List Thing) → (expanded_page pages b.source).outer ≡ [] → ThingsStay pages bs ds → ThingsStay pages (b ∷ bs) ds
one_gone pages b bs [] e h = (e, h)
one_gone pages b bs (d ∷ ds) e h = inr (e, h)

stay_both : (pages : Pages) (bs ds cs es : List Thing) → ThingsStay pages bs ds → ThingsStay pages cs es → ThingsStay pages (bs ++ cs) (ds ++ es)
stay_both pages [] [] cs es h k = k
stay_both pages [] (d ∷ ds) cs es h k = absurd h
stay_both pages (b ∷ bs) [] cs es h k = one_gone pages b (bs ++ cs) es h.0 (stay_both pages bs [] cs es h.1 k)
stay_both pages (b ∷ bs) (d ∷ ds) cs es (inl h) k = inl (h.0, stay_both pages bs ds cs es h.1 k)
stay_both pages (b ∷ bs) (d ∷ ds) cs es (inr h) k = inr (h.0, stay_both pages bs (d ∷ ds) cs es h.1 k)

-- Some of these stay, each that calls among them, and these are they, with others that are put.
pub record AreLeft (pages : Pages) (olds news : List Thing) : Type 0 where
  pub nodes : List Thing
  pub stay : ThingsStay pages olds nodes
  pub put : AreAmongPut nodes news

left_both : (pages : Pages) (bs ds cs es : List Thing) → AreLeft pages bs ds → AreLeft pages cs es → AreLeft pages (bs ++ cs) (ds ++ es)
left_both pages bs ds cs es h k = record {
  nodes = h.nodes ++ k.nodes;
  stay = stay_both pages bs h.nodes cs k.nodes h.stay k.stay;
  put = among_both h.nodes ds k.nodes es h.put k.put;
}

left_put : (pages : Pages) (d : Thing) (bs ds : List Thing) → IsPut d → AreLeft pages bs ds → AreLeft pages bs (d ∷ ds)
left_put pages d bs ds p h = record { nodes = h.nodes; stay = h.stay; put = inl (p, h.put) }

left_one : (pages : Pages) (d : Thing) (bs ds : List Thing) → AreLeft pages bs ds → AreLeft pages (d ∷ bs) (d ∷ ds)
left_one pages d bs ds h = record { nodes = d ∷ h.nodes; stay = inl (refl, h.stay); put = inr (h.nodes, refl, h.put) }

left_calm : (pages : Pages) (cs bs ds : List Thing) → ThingsStay pages cs [] → AreLeft pages bs ds → AreLeft pages (cs ++ bs) ds
left_calm pages cs bs ds h k = record { nodes = k.nodes; stay = stay_both pages cs [] bs k.nodes h k.stay; put = k.put }

-- ---- a style

abbrev mark_thing : Bool → Option Stretch → Thing
mark_thing kind place = record { role = Toggle; source = mark_source kind; place = place }

is_put : (kind : Bool) (place : Option Stretch) → IsPut (mark_thing kind place)
is_put kind place = inl (kind, refl, refl)

nowiki_left : (pages : Pages) (t : StyledContent) (bs : List Thing) → AreLeft pages bs (things (signs_in t)) → AreLeft pages bs (things (signs_in (or_nowiki t)))
nowiki_left pages finished bs h = left_put pages (record { role = Node; source = nowiki; place = None }) bs [] (inr (refl, refl)) h
nowiki_left pages (sign c t) bs h = h
nowiki_left pages (styled kind opening closing inside t) bs h = h

style_left : (pages : Pages) (kind : Bool) (opening closing : Option Stretch) (held t : StyledContent) (bs cs : List Thing) → AreLeft pages bs (things (signs_in held))
    → AreLeft pages cs (things (signs_in t)) → AreLeft pages (bs ++ cs) (things (signs_in (styled kind opening closing held t)))
style_left pages kind opening closing held t bs cs h k =
    let last : List ContentSign = delimiter kind closing ∷ signs_in t in
    let e : things (signs_in held) ++ things last ≡ things (signs_before held last) = sym (things_append (signs_in held) last) ∙ ap things (signs_joined held [] last) in
    let later : AreLeft pages cs (things last) = left_put pages (mark_thing kind closing) cs (things (signs_in t)) (is_put kind closing) k in
    left_put pages (mark_thing kind opening) (bs ++ cs) (things (signs_before held last)) (is_put kind opening)
    (subst (AreLeft pages (bs ++ cs)) e (left_both pages bs (things (signs_in held)) cs (things last) h later))

-- ---- a node that stays

found_left : (pages : Pages) (block : Tree) (l m : Label) (ts : Trees) (t : StyledContent) (cs : List Thing) → m.id ≡ l.id → IsFoundAs (kept_nodes block) l ts
    → AreLeft pages cs (things (signs_in t))
    → AreLeft pages (things_with (kept_nodes block) (l.id ∷ []) ++ cs) (things (signs_in (found_then (kept_with m.id (kept_nodes block)) t)))
found_left pages block l m ts t cs e f h =
    let ks : List Kept = kept_nodes block in
    let now : kept_with m.id ks ≡ Some f.kept = ap (λ (i : ℕ). kept_with i ks) e ∙ f.found in
    subst (λ (o : Option Kept). AreLeft pages ((found_thing (kept_with l.id ks) ++ []) ++ cs) (things (signs_in (found_then o t)))) (sym now)
    (subst (λ (o : Option Kept). AreLeft pages ((found_thing o ++ []) ++ cs) (things (signs_in (found_then (Some f.kept) t)))) (sym f.found)
    (left_one pages (thing_of f.kept) cs (things (signs_in t)) h))

one_left : (w : InlineForm) (pages : Pages) (block : Tree) (l m : Label) (ts : Trees) (held t : StyledContent) (ns : List ℕ) (cs : List Thing) (F : Type 0)
    → m.id ≡ l.id → FoundBy w (kept_nodes block) l ts F → (IsStyleForm w → F → AreLeft pages (things_with (kept_nodes block) ns) (things (signs_in held)))
    → AreLeft pages cs (things (signs_in t))
    → AreLeft pages (things_with (kept_nodes block) (numbers_by w l.id ns) ++ cs) (things (signs_in (sent_by w (kept_with m.id (kept_nodes block)) m held t)))
one_left inline.Nothing pages block l m ts held t ns cs F e f k h = h
one_left inline.Characters pages block l m ts held t ns cs F e f k h = subst (AreLeft pages cs) (sym (text_things (chars m.shown) t)) h
one_left inline.Bold pages block l m ts held t ns cs F e f k h =
    let o : Option Kept = kept_with m.id (kept_nodes block) in
    let bs : List Thing = things_with (kept_nodes block) ns in
    style_left pages true (opening_place o) (closing_place o) (or_nowiki held) t bs cs (nowiki_left pages held bs (k tt f.1)) h
one_left inline.Italic pages block l m ts held t ns cs F e f k h =
    let o : Option Kept = kept_with m.id (kept_nodes block) in
    let bs : List Thing = things_with (kept_nodes block) ns in
    style_left pages false (opening_place o) (closing_place o) (or_nowiki held) t bs cs (nowiki_left pages held bs (k tt f.1)) h
one_left inline.Shown pages block l m ts held t ns cs F e f k h = found_left pages block l m ts t cs e f h
one_left inline.PageLink pages block l m ts held t ns cs F e f k h = found_left pages block l m ts t cs e f h
one_left inline.ExternalLink pages block l m ts held t ns cs F e f k h = found_left pages block l m ts t cs e f h
one_left inline.Tag pages block l m ts held t ns cs F e f k h = found_left pages block l m ts t cs e f h
one_left inline.Break pages block l m ts held t ns cs F e f k h = found_left pages block l m ts t cs e f h
one_left inline.AsItStood pages block l m ts held t ns cs F e f k h = found_left pages block l m ts t cs e f h

mutual
  tree_left : (pages : Pages) (same : Tree → Tree → Bool) (block t u : Tree) (c : StyledContent) (cs : List Thing) → StandsAsIs t u → IsFound (kept_nodes block) t
      → AreLeft pages cs (things (signs_in c))
      → AreLeft pages (things_with (kept_nodes block) (numbers_of t) ++ cs) (things (signs_in (sent_before (page_of same block) u c)))
  tree_left pages same block (tree l ts) (tree m us) c cs h f k =
      let held : StyledContent = sent_content (page_of same block) us in
      subst (λ (x : Kind). AreLeft pages (things_with (kept_nodes block) (numbers_by (edit_shape l.kind).inline l.id (all_numbers ts)) ++ cs)
      (things (signs_in (sent_by (edit_shape x).inline (kept_with m.id (kept_nodes block)) m held c)))) (sym h.0.kind)
      (one_left (edit_shape l.kind).inline pages block l m ts held c (all_numbers ts) cs (AreFound (kept_nodes block) ts) h.0.id f
      (λ s g. all_left pages same block ts us (style_stands l.kind l ts us s h.1) g) k)

  all_left : (pages : Pages) (same : Tree → Tree → Bool) (block : Tree) (ts us : Trees) → AllStandAsIs ts us → AreFound (kept_nodes block) ts
      → AreLeft pages (things_with (kept_nodes block) (all_numbers ts)) (things (signs_in (sent_content (page_of same block) us)))
  all_left pages same block none none h f = record { nodes = []; stay = tt; put = refl }
  all_left pages same block none (more u us) h f = absurd h
  all_left pages same block (more t ts) none h f = absurd h
  all_left pages same block (more t ts) (more u us) h f =
      subst (λ (bs : List Thing). AreLeft pages bs (things (signs_in (sent_before (page_of same block) u (sent_content (page_of same block) us)))))
      (sym (with_append (kept_nodes block) (numbers_of t) (all_numbers ts)))
      (tree_left pages same block t u (sent_content (page_of same block) us) (things_with (kept_nodes block) (all_numbers ts)) h.0 f.0 (all_left pages same block ts us h.1 f.1))

-- ---- a node that is gone

found_calm : (pages : Pages) (ks : List Kept) (l : Label) (ts : Trees) → (expanded_page pages (flat (tree l ts))).outer ≡ [] → IsFoundAs ks l ts
    → ThingsStay pages (things_with ks (l.id ∷ [])) []
found_calm pages ks l ts e f =
    subst (λ (o : Option Kept). ThingsStay pages (found_thing o ++ []) []) (sym f.found) (ap (λ (t : Tree). (expanded_page pages (flat t)).outer) f.node ∙ e, tt)

one_calm : (w : InlineForm) (pages : Pages) (ks : List Kept) (l : Label) (ts : Trees) (ns : List ℕ) (A F : Type 0) → CallsNoneBy w pages l ts A → FoundBy w ks l ts F
    → (A → F → ThingsStay pages (things_with ks ns) []) → ThingsStay pages (things_with ks (numbers_by w l.id ns)) []
one_calm inline.Nothing pages ks l ts ns A F h f k = tt
one_calm inline.Characters pages ks l ts ns A F h f k = tt
one_calm inline.Bold pages ks l ts ns A F h f k = k h f.1
one_calm inline.Italic pages ks l ts ns A F h f k = k h f.1
one_calm inline.Shown pages ks l ts ns A F h f k = found_calm pages ks l ts h f
one_calm inline.PageLink pages ks l ts ns A F h f k = found_calm pages ks l ts h f
one_calm inline.ExternalLink pages ks l ts ns A F h f k = found_calm pages ks l ts h f
one_calm inline.Tag pages ks l ts ns A F h f k = found_calm pages ks l ts h f
one_calm inline.Break pages ks l ts ns A F h f k = found_calm pages ks l ts h f
one_calm inline.AsItStood pages ks l ts ns A F h f k = found_calm pages ks l ts h f

mutual
  tree_calm : (pages : Pages) (ks : List Kept) (t : Tree) → CallsNone pages t → IsFound ks t → ThingsStay pages (things_with ks (numbers_of t)) []
  tree_calm pages ks (tree l ts) h f =
      one_calm (edit_shape l.kind).inline pages ks l ts (all_numbers ts) (CallNone pages ts) (AreFound ks ts) h f (λ a c. all_calm pages ks ts a c)

  all_calm : (pages : Pages) (ks : List Kept) (ts : Trees) → CallNone pages ts → AreFound ks ts → ThingsStay pages (things_with ks (all_numbers ts)) []
  all_calm pages ks none h f = tt
  all_calm pages ks (more t ts) h f =
      subst (λ (bs : List Thing). ThingsStay pages bs []) (sym (with_append ks (numbers_of t) (all_numbers ts)))
      (stay_both pages (things_with ks (numbers_of t)) [] (things_with ks (all_numbers ts)) [] (tree_calm pages ks t h.0 f.0) (all_calm pages ks ts h.1 f.1))

-- ---- all pieces

text_left : (p : Page) (x : Label) (text : List ℕ) (us : Trees) → things (signs_in (sent_content p (text_node x text us))) ≡ things (signs_in (sent_content p us))
text_left p x [] us = refl
text_left p x (c ∷ cs) us = text_things (chars (c ∷ cs)) (sent_content p us)

style_numbers : (k : Kind) (n : ℕ) (ns : List ℕ) → IsStyle k → numbers_by (edit_shape k).inline n ns ≡ ns
style_numbers k n ns h = of_style (λ j. numbers_by (edit_shape j).inline n ns ≡ ns) k h refl refl

-- what is sent for a style
around_left : (pages : Pages) (k : Kind) (o : Option Kept) (m : Label) (held t : StyledContent) (bs cs : List Thing) → IsStyle k
    → AreLeft pages bs (things (signs_in held)) → AreLeft pages cs (things (signs_in t))
    → AreLeft pages (bs ++ cs) (things (signs_in (sent_by (edit_shape k).inline o m held t)))
around_left pages k o m held t bs cs h a b =
    let held_too : AreLeft pages bs (things (signs_in (or_nowiki held))) = nowiki_left pages held bs a in
    of_style (λ j. AreLeft pages (bs ++ cs) (things (signs_in (sent_by (edit_shape j).inline o m held t)))) k h
    (style_left pages true (opening_place o) (closing_place o) (or_nowiki held) t bs cs held_too b)
    (style_left pages false (opening_place o) (closing_place o) (or_nowiki held) t bs cs held_too b)

pub pieces_left : (pages : Pages) (same : Tree → Tree → Bool) (block : Tree) (ps : Pieces) → AreFound (kept_nodes block) (page_pieces ps) → PiecesStay ps
    → NoCallGoes pages ps
    → AreLeft pages (things_with (kept_nodes block) (all_numbers (page_pieces ps))) (things (signs_in (sent_content (page_of same block) (sent_pieces ps))))
pieces_left pages same block no_pieces f h c = record { nodes = []; stay = tt; put = refl }
pieces_left pages same block (gone t ps) f h c =
    let ks : List Kept = kept_nodes block in
    let news : List Thing = things (signs_in (sent_content (page_of same block) (sent_pieces ps))) in
    subst (λ (bs : List Thing). AreLeft pages bs news) (sym (with_append ks (numbers_of t) (all_numbers (page_pieces ps))))
    (left_calm pages (things_with ks (numbers_of t)) (things_with ks (all_numbers (page_pieces ps))) news (tree_calm pages ks t c.0 f.0)
    (pieces_left pages same block ps f.1 h c.1))
pieces_left pages same block (written x text ps) f h c =
    subst (AreLeft pages (things_with (kept_nodes block) (all_numbers (page_pieces ps)))) (sym (text_left (page_of same block) x text (sent_pieces ps)))
    (pieces_left pages same block ps f h c)
pieces_left pages same block (kept t u ps) f h c =
    let ks : List Kept = kept_nodes block in
    let rest : StyledContent = sent_content (page_of same block) (sent_pieces ps) in
    subst (λ (bs : List Thing). AreLeft pages bs (things (signs_in (sent_before (page_of same block) u rest))))
    (sym (with_append ks (numbers_of t) (all_numbers (page_pieces ps))))
    (tree_left pages same block t u rest (things_with ks (all_numbers (page_pieces ps))) h.0 f.0 (pieces_left pages same block ps f.1 h.1 c))
pieces_left pages same block (around l m is ps) f h c =
    let ks : List Kept = kept_nodes block in
    let p : Page = page_of same block in
    let held : StyledContent = sent_content p (sent_pieces is) in
    let rest : StyledContent = sent_content p (sent_pieces ps) in
    let ns : List ℕ = all_numbers (page_pieces is) in
    let later : List ℕ = all_numbers (page_pieces ps) in
    let found = style_found ks l (page_pieces is) h.0 f.0 in
    let news : List Thing = things (signs_in (sent_by (edit_shape m.kind).inline (kept_with m.id ks) m held rest)) in
    subst (λ (bs : List Thing). AreLeft pages bs news) (sym (with_append ks (numbers_by (edit_shape l.kind).inline l.id ns) later))
    (subst (λ (ms : List ℕ). AreLeft pages (things_with ks ms ++ things_with ks later) news) (sym (style_numbers l.kind l.id ns h.0))
    (around_left pages m.kind (kept_with m.id ks) m held rest (things_with ks ns) (things_with ks later) (subst IsStyle (sym h.1.kind) h.0)
    (pieces_left pages same block is found.1 h.2 c.0) (pieces_left pages same block ps f.1 h.3 c.1)))
pieces_left pages same block (new_style m is ps) f h c =
    let ks : List Kept = kept_nodes block in
    let p : Page = page_of same block in
    let held : StyledContent = sent_content p (sent_pieces is) in
    let rest : StyledContent = sent_content p (sent_pieces ps) in
    let ns : List ℕ = all_numbers (page_pieces is) in
    let later : List ℕ = all_numbers (page_pieces ps) in
    let found = found_both ks (page_pieces is) (page_pieces ps) f in
    let news : List Thing = things (signs_in (sent_by (edit_shape m.kind).inline (kept_with 0 ks) (as_new m) held rest)) in
    subst (λ (ms : List ℕ). AreLeft pages (things_with ks ms) news) (sym (numbers_appended (page_pieces is) (page_pieces ps)))
    (subst (λ (bs : List Thing). AreLeft pages bs news) (sym (with_append ks ns later))
    (around_left pages m.kind (kept_with 0 ks) (as_new m) held rest (things_with ks ns) (things_with ks later) h.0
    (pieces_left pages same block is found.0 h.1 c.0) (pieces_left pages same block ps found.1 h.2 c.1)))

-- ---- what holds of each

-- a node of the page, or what is put
abbrev pub IsStyledThing : Pages → Thing → Type 0
IsStyledThing pages t = (IsPageThing pages t × IsOwnThing pages t) ⊎ IsPut t

abbrev pub AreStyledThings : Pages → List ContentSign → Type 0
AreStyledThings pages signs = Each (IsStyledThing pages) (things signs)

first_own : (pages : Pages) (t : Thing) (fs rest : List Thing) → fs ≡ t ∷ rest → AreOwnThings pages fs → IsOwnThing pages t × AreOwnThings pages rest
first_own pages t fs rest e h = subst (λ (xs : List Thing). AreOwnThings pages xs) e h

pub each_styled : (pages : Pages) (fs news : List Thing) → AreAmongPut fs news → ArePageThings pages fs → AreOwnThings pages fs → Each (IsStyledThing pages) news
each_styled pages fs [] a h o = tt
each_styled pages fs (d ∷ ds) a h o = elim a [
  | inl p ↦ (inr p.0, each_styled pages fs ds p.1 h o)
  | inr q ↦
      let own : ArePageThings pages (d ∷ q.0) = subst (ArePageThings pages) q.1 h in
      let there = first_own pages d fs q.0 q.1 o in
      (inl (own.0, there.0), each_styled pages q.0 ds q.2 own.2 there.1)
]

pub own_stay : (pages : Pages) (bs ds : List Thing) → ThingsStay pages bs ds → AreOwnThings pages bs → AreOwnThings pages ds
own_stay pages [] [] e h = tt
own_stay pages [] (d ∷ ds) e h = absurd e
own_stay pages (b ∷ bs) [] e h = tt
own_stay pages (b ∷ bs) (d ∷ ds) (inl e) h = (subst (IsOwnThing pages) e.0 h.0, own_stay pages bs ds e.1 h.1)
own_stay pages (b ∷ bs) (d ∷ ds) (inr e) h = own_stay pages bs (d ∷ ds) e.1 h.1

-- ---- side by side, by what they give

put_glyphs : (pages : Pages) (i : ℕ) (t : Thing) → IsPut t → map glyph_of (part_items pages i t.source) ≡ own_glyphs t
put_glyphs pages i t p = ap (map glyph_of) (put_items pages i t.source (put_source t p))

lead_may : (r : Role) (own : List Glyph) (word : Bool) → word ≡ false → LeadMay r own word
lead_may Link own word e = lead_free Link word e
lead_may External own word e = lead_free External word e
lead_may (Bare ends) own word e = lead_free (Bare ends) word e
lead_may Switch own word e = lead_free Switch word e
lead_may Toggle own word e = lead_free Toggle word e
lead_may (Mark ends began) own word e = lead_free (Mark ends began) word e
lead_may (Group g) own word e = inl e
lead_may Function own word e = lead_free Function word e
lead_may Node own word e = lead_free Node word e

put_word : (t : Thing) → IsPut t → ends_word false (own_glyphs t) ≡ false
put_word t p = elim p [
  | inl m ↦ ap (ends_word false) (own_mark t m.0 m.2) ∙ mark_last m.0
  | inr w ↦ ap (ends_word false) (own_nowiki t w.1)
]

put_behind : (t : Thing) (own other : List Glyph) → IsPut t → BehindMay t.role own other
put_behind t own other p = elim p [
  | inl m ↦ subst (λ (r : Role). BehindMay r own other) (sym m.1) (follows_none own other Toggle (λ g. tt))
  | inr w ↦ subst (λ (r : Role). BehindMay r own other) (sym w.0) (follows_none own other Node (λ g. tt))
]

put_led : (n : Thing) (own : List Glyph) (word : Bool) → IsPut n → LeadMay n.role own word
put_led n own word p = elim p [
  | inl m ↦ subst (λ (r : Role). LeadMay r own word) (sym m.1) tt
  | inr w ↦ subst (λ (r : Role). LeadMay r own word) (sym w.0) tt
]

-- behind what is put
put_may : (t n : Thing) (left right : List Glyph) → IsPut t → left ≡ own_glyphs t → MayMeet t left n right
put_may t n left right p e = (put_behind t left right p, lead_may n.role right (ends_word false left) (ap (ends_word false) e ∙ put_word t p))

-- a delimiter behind a group
quotes_follow : (slashes kind : Bool) (own : List Glyph) → (slashes ≡ false) ⊎ (is_quote_last own ≡ false) → MayFollowGroup slashes own (byte_glyphs (mark_source kind))
quotes_follow slashes true own (inl e) = inl (refl, λ z. let no : true ≡ false = sym z ∙ e in absurd (cc))
quotes_follow slashes false own (inl e) = inl (refl, λ z. let no : true ≡ false = sym z ∙ e in absurd (cc))
quotes_follow slashes true own (inr q) = inr (record { unquoted = q; quotes = refl })
quotes_follow slashes false own (inr q) = inr (record { unquoted = q; quotes = refl })

group_follow : (slashes : Bool) (n : Thing) (own right : List Glyph) → (slashes ≡ false) ⊎ (is_quote_last own ≡ false) → IsPut n → right ≡ own_glyphs n
    → MayFollowGroup slashes own right
group_follow slashes n own right e p is = elim p [
  | inl m ↦ subst (MayFollowGroup slashes own) (sym (is ∙ own_mark n m.0 m.2)) (quotes_follow slashes m.0 own e)
  | inr w ↦ subst (MayFollowGroup slashes own) (sym (is ∙ own_nowiki n w.1)) (inl (refl, λ z. refl))
]

-- by what it gives here
unquoted_at : (pages : Pages) (i : ℕ) (g : Transclusion) (source : List ℕ) → GivesUnquoted pages (Group g) source
    → (g.slashes ≡ false) ⊎ (is_quote_last (map glyph_of (part_items pages i source)) ≡ false)
unquoted_at pages i g source (inl e) = inl e
unquoted_at pages i g source (inr f) = inr (f i)

-- before what is put
none_unquoted : (r : Role) (own : List Glyph) → is_bare_url r ≡ false → EndsUnquoted r own
none_unquoted Link own e = tt
none_unquoted External own e = tt
none_unquoted (Bare ends) own e = let no : true ≡ false = e in absurd (cc)
none_unquoted Switch own e = tt
none_unquoted Toggle own e = tt
none_unquoted (Mark ends began) own e = tt
none_unquoted (Group g) own e = tt
none_unquoted Function own e = tt
none_unquoted Node own e = tt

round_may : (r : Role) (n : Thing) (left right : List Glyph) → IsNode r left → EndsUnquoted r left → IsPut n → right ≡ own_glyphs n → BehindMay r left right
round_may r n left right h u p is = follow_as r left right h (put_follows p)
  where
    put_follows : IsPut n → MayFollow r left right
    put_follows (inl m) = before_mark r left right m.0 (is ∙ own_mark n m.0 m.2) u
    put_follows (inr w) = subst (MayFollow r left) (sym (is ∙ own_nowiki n w.1)) (inl (atom_may r))

page_may : (pages : Pages) (i : ℕ) (t n : Thing) (right : List Glyph) → IsOfFolder t.role pages t → IsOwnThing pages t → IsPut n → right ≡ own_glyphs n
    → is_adjacent t n ≡ true → MayMeet t (map glyph_of (part_items pages i t.source)) n right
page_may pages i t n right h o p is z = elim (folder_case t.role pages t h) [
  | inl k ↦
      let stays : StaysAsItIs pages t = k.0 in
      let left : map glyph_of (part_items pages i t.source) ≡ own_glyphs t = ap (map glyph_of) (stays.items i) in
      let both = meets_put t n p (λ r y. o.unquoted) z in
      subst (λ (gs : List Glyph). MayMeet t gs n right) (sym left) (
        subst (λ (gs : List Glyph). BehindMay t.role (own_glyphs t) gs) (sym is) (follow_as t.role (own_glyphs t) (own_glyphs n) stays.node both.0),
        put_led n right (ends_word false (own_glyphs t)) p,
      )
  | inr e ↦ elim e [
    | inl k ↦
        let stays : StaysRound pages t = k.0 in
        let own : IsOwnNode t (part_items pages i t.source) = stays.node i in
        let left : List Glyph = map glyph_of (part_items pages i t.source) in
        (round_may t.role n left right own.node (none_unquoted t.role left k.2) p is, put_led n right (ends_word false left) p)
    | inr k ↦
        let left : List Glyph = map glyph_of (part_items pages i t.source) in
        let gives : GivesUnquoted pages (Group k.0) t.source = subst (λ (r : Role). GivesUnquoted pages r t.source) k.1 o.gives in (
          subst (λ (r : Role). BehindMay r left right) (sym k.1) (group_follow k.0.slashes n left right (unquoted_at pages i k.0 t.source gives) p is),
          put_led n right (ends_word false left) p,
        )
  ]
]

next_put : (pages : Pages) (i j : ℕ) (t : Thing) (signs : List ContentSign) → IsPut t
    → NextMeets t (map glyph_of (part_items pages i t.source)) signs (owns_in pages j signs)
next_put pages i j t [] p = tt
next_put pages i j t (letter c ∷ after) p = next_put pages i j t after p
next_put pages i j t (thing n ∷ after) p = λ e f.
    put_may t n (map glyph_of (part_items pages i t.source)) (map glyph_of (part_items pages j n.source)) p (put_glyphs pages i t p)

next_page : (pages : Pages) (i j : ℕ) (t : Thing) (rest : List Thing) (signs : List ContentSign) → AreAmongPut rest (things signs) → MeetLater pages t rest
    → IsOfFolder t.role pages t → IsOwnThing pages t → NextMeets t (map glyph_of (part_items pages i t.source)) signs (owns_in pages j signs)
next_page pages i j t rest [] a m h o = tt
next_page pages i j t rest (letter c ∷ after) a m h o = next_page pages i j t rest after a m h o
next_page pages i j t rest (thing n ∷ after) a m h o = elim a [
  | inl p ↦ λ e f. page_may pages i t n (map glyph_of (part_items pages j n.source)) h o p.0 (put_glyphs pages j n p.0) e
  | inr q ↦ let later : MeetLater pages t (n ∷ q.0) = subst (MeetLater pages t) q.1 m in later.0 i j
]

pub meet_styled : (pages : Pages) (i : ℕ) (fs : List Thing) (signs : List ContentSign) → AreAmongPut fs (things signs) → ArePageThings pages fs → AreOwnThings pages fs
    → EachNextMeets signs (owns_in pages i signs)
meet_styled pages i fs [] a h o = tt
meet_styled pages i fs (letter c ∷ after) a h o = meet_styled pages i fs after a h o
meet_styled pages i fs (thing t ∷ after) a h o = elim a [
  | inl p ↦ (next_put pages i (i + length (expanded_page pages t.source).outer) t after p.0, meet_styled pages (i + length (expanded_page pages t.source).outer) fs after p.1 h o)
  | inr q ↦
      let own : ArePageThings pages (t ∷ q.0) = subst (ArePageThings pages) q.1 h in
      let there = first_own pages t fs q.0 q.1 o in (
        next_page pages i (i + length (expanded_page pages t.source).outer) t q.0 after q.2 own.1 own.0.folder there.0,
        meet_styled pages (i + length (expanded_page pages t.source).outer) q.0 after q.2 own.2 there.1,
      )
]

node_so : (pages : Pages) (i : ℕ) (t : Thing) → IsStyledThing pages t → IsNodeOrGroup t (map glyph_of (part_items pages i t.source))
node_so pages i t (inl k) = let own = k.0 in gives_so pages i t own.folder
node_so pages i t (inr p) = inl (subst (IsNode t.role) (sym (put_glyphs pages i t p)) (put_node t p))

pub nodes_so : (pages : Pages) (i : ℕ) (signs : List ContentSign) → AreStyledThings pages signs → EachIsSuch signs (owns_in pages i signs)
nodes_so pages i [] h = tt
nodes_so pages i (letter c ∷ after) h = nodes_so pages i after h
nodes_so pages i (thing t ∷ after) h = (node_so pages i t h.0, nodes_so pages (i + length (expanded_page pages t.source).outer) after h.1)
