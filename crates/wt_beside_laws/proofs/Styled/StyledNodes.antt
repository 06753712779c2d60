-- A content with styles of the nodes of flat lines of a page, with any texts, is one that is read sign by sign.
use Rattle.std.proofs.Common.{◌≡◌, ℕ, Bool, true, false, List, [], ◌∷◌, ◌++◌, map, refl, sym, ap, ◌∙◌, subst, inl, inr}
use Rattle.std.specs.Prelude.{None}
use Rattle.wt_span.specs.declared.form.ItemForm.TheVariants as form
use Rattle.wt_span.specs.Items.{Item, whole}
use Rattle.wt_guards.specs.declared.role.Role.{Role}
use Rattle.wt_guards.specs.declared.role.Role.TheVariants.{Link, External, Bare, Switch, Toggle, Mark, Group, Function, Node}
use Rattle.wt_guards.specs.Content.{ContentSign, Thing}
use Rattle.wt_guards.specs.Guards.{Setting, nowiki, is_adjacent}
use Rattle.wt_expand.specs.PageItems.{page_items}
use Rattle.wt_lines.specs.Lines.{IsUnbroken}
use Rattle.wt_tiles.specs.declared.glyph.Glyph.{Glyph}
use Rattle.wt_tiles.specs.declared.glyph.Glyph.TheVariants as glyph
use Rattle.wt_tiles.specs.Glyphs.{glyph_of, byte_glyphs}
use Rattle.wt_beside_laws.specs.Content.{AreKept}
use Rattle.wt_beside_laws.specs.Cuts.{own_glyphs, ends_word}
use Rattle.wt_beside_laws.specs.Kept.{IsKept, characters}
use Rattle.wt_beside_laws.specs.Lines.{AreCharacters}
use Rattle.wt_beside_laws.specs.Nests.{marks}
use Rattle.wt_beside_laws.specs.Nodes.{is_quote_last, IsDelimiter, IsNode, AllStayOpen, OpensNoPair, MayFollow, MayLead}
use Rattle.wt_beside_laws.specs.PageSigns.{signs_of_lines, AreFlatLines, HasNoBreak}
use Rattle.wt_beside_laws.specs.Stood.{things}
use Rattle.wt_beside_laws.specs.Styled.{StyledContent, mark_source, signs_in, AreNested, IsStyledContent}
use Rattle.wt_beside_laws.specs.StyledNodes.{IsPut, AreSomeAndPut, EndsUnquoted, IsUrlApart, AreUrlsApart}
use Rattle.wt_beside_laws.proofs.Contents.{nowiki_reads}
use Rattle.wt_beside_laws.proofs.FlatAgain.{put_kept as held_put}
use Rattle.wt_beside_laws.proofs.Marks.Shown.{kept_node}
use Rattle.wt_beside_laws.proofs.NodeItems.{node_as}
use Rattle.wt_beside_laws.proofs.Each.{Each}
use Rattle.wt_beside_laws.proofs.FlatContents.{Kept, kept_each, each_kept, Unbroken, each_unbroken, lines_unbroken}
use Rattle.wt_beside_laws.proofs.NodesMeet.{atom_may}
use Rattle.wt_beside_laws.proofs.OpenTags.{untagged_closed}
use Rattle.wt_beside_laws.proofs.PageNodes.{follows_none, Meet, MeetInPage, EachIsNode, EachMeets, MeetsEach, PairsMeet, nodes_of, all_meet, each_node, all_pairs}
use Rattle.wt_beside_laws.proofs.PageSigns.{lines_stood, lines_at}
use Rattle.wt_beside_laws.proofs.Styled.StyledLines.{mark_items, mark_glyphs}
use Rattle.wt_beside_laws.specs.Commented.{IsHeld, EndsAsSaid}
use Rattle.wt_beside_laws.specs.Led.{AreMarksLed}
use Rattle.wt_beside_laws.specs.NodeItems.{node_items}

-- ---- what is put

pub own_mark : (t : Thing) (kind : Bool) → t.source ≡ mark_source kind → own_glyphs t ≡ byte_glyphs (mark_source kind)
own_mark t kind e = ap (λ (bs : List ℕ). map glyph_of (node_items bs)) e ∙ mark_glyphs kind

pub nowiki_items : node_items nowiki ≡ whole form.Nowiki None nowiki ∷ []
nowiki_items = node_as nowiki (whole form.Nowiki None nowiki ∷ []) nowiki_reads

pub own_nowiki : (t : Thing) → t.source ≡ nowiki → own_glyphs t ≡ glyph.Atom ∷ []
own_nowiki t e = ap (λ (bs : List ℕ). map glyph_of (node_items bs)) e ∙ ap (map glyph_of) nowiki_items

delimiter_of : (kind : Bool) → IsDelimiter (byte_glyphs (mark_source kind))
delimiter_of true = inr refl
delimiter_of false = inl refl

pub put_node : (t : Thing) → IsPut t → IsNode t.role (own_glyphs t)
put_node t p = elim p [
  | inl m ↦ subst (λ (r : Role). IsNode r (own_glyphs t)) (sym m.1) (subst IsDelimiter (sym (own_mark t m.0 m.2)) (delimiter_of m.0))
  | inr w ↦ subst (λ (r : Role). IsNode r (own_glyphs t)) (sym w.0) (inl (inl (own_nowiki t w.1)))
]

pub mark_closed : (kind : Bool) → OpensNoPair (map glyph_of (node_items (mark_source kind)))
mark_closed kind = subst OpensNoPair (sym (mark_glyphs kind)) (by kind)
  where
    by : (b : Bool) → OpensNoPair (byte_glyphs (mark_source b))
    by true = untagged_closed (byte_glyphs (mark_source true)) refl
    by false = untagged_closed (byte_glyphs (mark_source false)) refl

pub put_closed : (t : Thing) → IsPut t → OpensNoPair (own_glyphs t)
put_closed t p = elim p [
  | inl m ↦ subst (λ (bs : List ℕ). OpensNoPair (map glyph_of (node_items bs))) (sym m.2) (mark_closed m.0)
  | inr w ↦ subst OpensNoPair (sym (own_nowiki t w.1)) (untagged_closed (glyph.Atom ∷ []) refl)
]

pub mark_kept : (kind : Bool) → IsKept (mark_source kind)
mark_kept true = record { parts = characters (mark_source true) ∷ []; are = ((refl, (refl, (refl, tt))), tt); is = refl }
mark_kept false = record { parts = characters (mark_source false) ∷ []; are = ((refl, (refl, tt)), tt); is = refl }

pub mark_page : (kind : Bool) → page_items (mark_source kind) ≡ marks kind
mark_page kind = sym (kept_node (mark_source kind) (mark_kept kind)) ∙ mark_items kind

mark_held : (kind : Bool) → IsHeld (mark_source kind)
mark_held true = inl (mark_kept true, subst HasNoBreak (sym (mark_page true)) (refl, (refl, (refl, tt))))
mark_held false = inl (mark_kept false, subst HasNoBreak (sym (mark_page false)) (refl, (refl, tt)))

ends_so : (t : Thing) (r : Role) → t.role ≡ r → EndsAsSaid r t.source → EndsAsSaid t.role t.source
ends_so t r e h = subst (λ (o : Role). EndsAsSaid o t.source) (sym e) h

pub put_kept : (t : Thing) → IsPut t → Kept t
put_kept t p = elim p [
  | inl m ↦ (subst IsHeld (sym m.2) (mark_held m.0), ends_so t Toggle m.1 tt)
  | inr w ↦ (subst IsHeld (sym w.1) (held_put.of_nowiki), ends_so t Node w.0 tt)
]

marks_unbroken : (kind : Bool) → IsUnbroken (marks kind)
marks_unbroken true = (refl, (refl, (refl, tt)))
marks_unbroken false = (refl, (refl, tt))

pub put_unbroken : (t : Thing) → IsPut t → Unbroken t
put_unbroken t p = elim p [
  | inl m ↦ subst (λ (bs : List ℕ). IsUnbroken (node_items bs)) (sym m.2) (subst IsUnbroken (sym (mark_items m.0)) (marks_unbroken m.0))
  | inr w ↦ subst (λ (bs : List ℕ). IsUnbroken (node_items bs)) (sym w.1) (subst IsUnbroken (sym nowiki_items) (refl, tt))
]

-- ---- what holds of the page's nodes and of those that are put holds of all

each_left : (P : Thing → Type 0) (gone : List Thing) (t : Thing) (later : List Thing) → Each P (gone ++ t ∷ later) → P t × Each P later
each_left P [] t later h = h
each_left P (o ∷ gone) t later h = each_left P gone t later h.1

pub each_some : (P : Thing → Type 0) → ((t : Thing) → IsPut t → P t) → (ts ps : List Thing) → AreSomeAndPut ts ps → Each P ps → Each P ts
each_some P f [] ps a h = tt
each_some P f (t ∷ ts) ps a h = elim a [
  | inl p ↦ (f t p.0, each_some P f ts ps p.1 h)
  | inr q ↦ let k = each_left P q.0 t q.1 (subst (Each P) q.2 h) in (k.0, each_some P f ts q.1 q.3 k.1)
]

node_left : (gone : List Thing) (t : Thing) (later : List Thing) → EachIsNode (gone ++ t ∷ later) → IsNode t.role (own_glyphs t) × EachIsNode later
node_left [] t later h = h
node_left (o ∷ gone) t later h = node_left gone t later h.1

nodes_some : (ts ps : List Thing) → AreSomeAndPut ts ps → EachIsNode ps → EachIsNode ts
nodes_some [] ps a h = tt
nodes_some (t ∷ ts) ps a h = elim a [
  | inl p ↦ (put_node t p.0, nodes_some ts ps p.1 h)
  | inr q ↦ let k = node_left q.0 t q.1 (subst EachIsNode q.2 h) in (k.0, nodes_some ts q.1 q.3 k.1)
]

-- ---- side by side

pub lead_free : (r : Role) (w : Bool) → w ≡ false → MayLead r w
lead_free Link w e = tt
lead_free External w e = tt
lead_free (Bare ends) w e = e
lead_free Switch w e = tt
lead_free Toggle w e = tt
lead_free (Mark ends began) w e = tt
lead_free (Group g) w e = tt
lead_free Function w e = tt
lead_free Node w e = tt

pub mark_last : (kind : Bool) → ends_word false (byte_glyphs (mark_source kind)) ≡ false
mark_last true = refl
mark_last false = refl

-- behind what is put
pub put_meets : (t n : Thing) → IsPut t → Meet t n
put_meets t n p = elim p [
  | inl m ↦ (
    subst (λ (r : Role). MayFollow r (own_glyphs t) (own_glyphs n)) (sym m.1) (follows_none (own_glyphs t) (own_glyphs n) Toggle (λ g. tt)),
    lead_free n.role (ends_word false (own_glyphs t)) (ap (ends_word false) (own_mark t m.0 m.2) ∙ mark_last m.0),
  )
  | inr w ↦ (
    subst (λ (r : Role). MayFollow r (own_glyphs t) (own_glyphs n)) (sym w.0) (follows_none (own_glyphs t) (own_glyphs n) Node (λ g. tt)),
    lead_free n.role (ends_word false (own_glyphs t)) (ap (ends_word false) (own_nowiki t w.1)),
  )
]

link_marked : (own : List Glyph) (kind : Bool) → MayFollow Link own (byte_glyphs (mark_source kind))
link_marked own true = inl refl
link_marked own false = inl refl

bare_marked : (ends : Bool) (own : List Glyph) (kind : Bool) → is_quote_last own ≡ false → MayFollow (Bare ends) own (byte_glyphs (mark_source kind))
bare_marked ends own true u = inr (record { unquoted = u; quotes = refl })
bare_marked ends own false u = inr (record { unquoted = u; quotes = refl })

pub before_mark : (r : Role) (own other : List Glyph) (kind : Bool) → other ≡ byte_glyphs (mark_source kind) → EndsUnquoted r own → MayFollow r own other
before_mark Link own other kind i u = subst (MayFollow Link own) (sym i) (link_marked own kind)
before_mark External own other kind i u = follows_none own other External (λ g. tt)
before_mark (Bare ends) own other kind i u = subst (MayFollow (Bare ends) own) (sym i) (bare_marked ends own kind u)
before_mark Switch own other kind i u = follows_none own other Switch (λ g. tt)
before_mark Toggle own other kind i u = follows_none own other Toggle (λ g. tt)
before_mark (Mark ends began) own other kind i u = follows_none own other (Mark ends began) (λ g. tt)
before_mark (Group g) own other kind i u = follows_none own other (Group g) (λ h. tt)
before_mark Function own other kind i u = follows_none own other Function (λ g. tt)
before_mark Node own other kind i u = follows_none own other Node (λ g. tt)

-- before what is put
pub meets_put : (t n : Thing) → IsPut n → IsUrlApart t n → is_adjacent t n ≡ true → Meet t n
meets_put t n p u z = elim p [
  | inl m ↦ (
    before_mark t.role (own_glyphs t) (own_glyphs n) m.0 (own_mark n m.0 m.2) (u m.1 z),
    subst (λ (r : Role). MayLead r (ends_word false (own_glyphs t))) (sym m.1) tt,
  )
  | inr w ↦ (
    subst (MayFollow t.role (own_glyphs t)) (sym (own_nowiki n w.1)) (inl (atom_may t.role)),
    subst (λ (r : Role). MayLead r (ends_word false (own_glyphs t))) (sym w.0) tt,
  )
]

pairs_left : (gone : List Thing) (t : Thing) (later : List Thing) → PairsMeet (gone ++ t ∷ later) → MeetsEach t later × PairsMeet later
pairs_left [] t later h = h
pairs_left (o ∷ gone) t later h = pairs_left gone t later h.1

meets_at : (t : Thing) (gone : List Thing) (n : Thing) (later : List Thing) → MeetsEach t (gone ++ n ∷ later) → MeetInPage t n
meets_at t [] n later h = h.0
meets_at t (o ∷ gone) n later h = meets_at t gone n later h.1

-- a node of the page, and what is behind it
first_meet : (t n : Thing) (ts qs : List Thing) → AreSomeAndPut (n ∷ ts) qs → IsUrlApart t n → MeetsEach t qs → MeetInPage t n
first_meet t n ts qs a u m z = elim a [
  | inl p ↦ meets_put t n p.0 u z
  | inr q ↦ meets_at t q.0 n q.1 (subst (MeetsEach t) q.2 m) z
]

meet_some : (ts ps : List Thing) → AreSomeAndPut ts ps → AreUrlsApart ts → PairsMeet ps → EachMeets ts
meet_some [] ps a u m = tt
meet_some (t ∷ []) ps a u m = tt
meet_some (t ∷ n ∷ ts) ps a u m = elim a [
  | inl p ↦ ((λ z. put_meets t n p.0), meet_some (n ∷ ts) ps p.1 u.1 m)
  | inr q ↦
      let k = pairs_left q.0 t q.1 (subst PairsMeet q.2 m) in
      (first_meet t n ts q.1 q.3 u.0 k.0, meet_some (n ∷ ts) q.1 q.3 u.1 k.1)
]

-- ---- the content

pub styled_content : (s : Setting) (ls : List (List Item)) (at : ℕ) (t : StyledContent) → s.within ≡ false → AreFlatLines ls → AreKept (signs_of_lines at ls)
    → AreCharacters (signs_in t) → AreNested false false t → AreMarksLed s.place (signs_in t) → AreSomeAndPut (things (signs_in t)) (things (signs_of_lines at ls)) → AreUrlsApart (things (signs_in t))
    → AllStayOpen s [] (signs_in t) → IsStyledContent s t
styled_content s ls at t block flat kept typed nested led some apart unclosed =
    let olds : List ContentSign = signs_of_lines at ls in
    let signs : List ContentSign = signs_in t in
    let nodes : EachIsNode (things signs) = nodes_some (things signs) (things olds) some (each_node false olds (lines_stood at ls flat)) in
    let meets : EachMeets (things signs) = meet_some (things signs) (things olds) some apart (all_pairs false at olds (lines_stood at ls flat) (lines_at at ls flat)) in
    record {
      of_block = block;
      characters = typed;
      kept = each_kept signs (each_some Kept put_kept (things signs) (things olds) some (kept_each olds kept));
      nodes = nodes_of signs nodes;
      unbroken = each_unbroken signs (each_some Unbroken put_unbroken (things signs) (things olds) some (lines_unbroken at ls flat));
      nested = nested;
      led = led;
      meet = all_meet s [] signs (nodes, meets) unclosed;
    }
