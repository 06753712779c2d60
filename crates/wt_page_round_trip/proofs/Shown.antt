-- What nodes show that may stand in a group: it fits where they stand, with the texts that it joins, in elements of their own.
use Rattle.std.proofs.Common.{◌≡◌, ℕ, suc, ◌<◌, ◌≤◌, Bool, true, false, List, [], ◌∷◌, IsUtf8, refl, sym, ap, ap₂, ◌∙◌, subst, arith}
use Rattle.std.specs.Prelude.{◌&&◌, ◌||◌, not, if◌then◌else◌}
use Rattle.std.proofs.lemmas.Bool.{and_parts}
use Rattle.std.proofs.lemmas.Str.{IsUtf8-append, IsUtf8-nil}
use Rattle.wt_tree.specs.declared.kind.Kind.{Kind}
use Rattle.wt_tree.specs.declared.kind.Kind.TheVariants as kind
use Rattle.wt_tree.specs.declared.kind.Showing.{Showing}
use Rattle.wt_tree.specs.declared.kind.Showing.TheVariants.{Characters, Inside, Nothing, Element}
use Rattle.wt_tree.specs.declared.row.Placement.{Placement}
use Rattle.wt_tree.specs.declared.row.Placement.TheVariants as class
use Rattle.wt_tree.specs.declared.row.Holding.{Holding}
use Rattle.wt_tree.specs.declared.row.Holding.TheVariants as holding
use Rattle.wt_tree.specs.declared.row.Texts.{Texts}
use Rattle.wt_tree.specs.declared.row.Texts.TheVariants.{Separators, Page, Bordered, OwnCharacter}
use Rattle.wt_tree.specs.declared.row.Writing.{Writing}
use Rattle.wt_tree.specs.declared.row.Writing.TheVariants.{AsText, AsVoid, RoundCharacter, RoundChildren, AsSection, Unwritten}
use Rattle.wt_html_grammar.proofs.Steps.{if_false}
use Rattle.wt_tree.specs.Elements.{span, as_elements, or_empty_span}
use Rattle.wt_tree.specs.Kinds.{shape, writing, is_leaf, is_section, showing, texts_of_kind, admits, is_anywhere, may_hold, is_block, is_inline, may_follow}
use Rattle.wt_tree.specs.Plain.{Plain, text, element, face, Plains, ended, along, text_before, shown_before, plain_before, plains_before}
use Rattle.wt_recut.specs.Recut.{shows_block, any_shows_block}
use Rattle.wt_tree.specs.Tiling.{is_group}
use Rattle.wt_tree.specs.Tree.{Label, Tree, tree, Trees, none, more}
use Rattle.wt_schema.specs.Rows.{holds_page_text, holds_text, shows_text}
use Rattle.wt_schema.specs.GroupNodes.{elements_for, group_nodes, inner_nodes, is_empty_span, is_block_face, in_order, all_follow}
use Rattle.wt_schema.specs.Written.{shown_of, leaf_kind, HasLeafKind, IsTextIn, IsShown, IsFace, PlainsIn, TopsIn, is_childless}
use Rattle.wt_schema.proofs.Faces.{is_element}
use Rattle.wt_page_round_trip.proofs.ShownNodes.{shows_words, can_follow, are_in_line, IsShownLabel, IsShownElement, NodeIsShown, IsOrdered, IsShownIn, AreShownIn}
use Rattle.wt_page_round_trip.proofs.ShownKinds.{hidden_block, block_held, inline_held, page_takes, separators_take, own_character, none_follows, shown_element, leaf_ended, span_is}

-- ---- a text before others

pub text_fits : (k : ℕ) (parent : Kind) (bs : List ℕ) (ps : Plains) → holds_text parent ≡ true → IsUtf8 bs → PlainsIn k parent ps
    → PlainsIn k parent (text_before bs ps)
text_fits k parent [] ps h u r = r
text_fits k parent (b ∷ bs) ended h u r = ((h, u, refl), refl, tt)
text_fits k parent (b ∷ bs) (along (text cs) ps) h u r = ((h, IsUtf8-append (b ∷ bs) cs u r.0.1, refl), r.1, r.2)
text_fits k parent (b ∷ bs) (along (element f qs) ps) h u r = ((h, u, refl), refl, r)

or_assoc : (a b c : Bool) → (a || (b || c)) ≡ ((a || b) || c)
or_assoc true b c = refl
or_assoc false b c = refl

or_none : (b : Bool) → (b || false) ≡ b
or_none true = refl
or_none false = refl

-- it changes no order
pub text_order : (b : Bool) (bs : List ℕ) (ps : Plains) → in_order b ps ≡ true → in_order b (text_before bs ps) ≡ true
text_order b [] ps o = o
text_order b (c ∷ cs) ended o = refl
text_order b (c ∷ cs) (along (text ds) ps) o = o
text_order b (c ∷ cs) (along (element f qs) ps) o = ap (λ x. in_order x (along (element f qs) ps)) (or_none b) ∙ o

-- ---- what shows characters

-- a text that shows its characters stands where text does
leaf_text : (v : Bool) (k : Kind) → k ≡ (if v then kind.Text else kind.Sep) → showing k ≡ Characters → v ≡ true
leaf_text true k e s = refl
leaf_text false k e s = absurd (let f = sym (ap showing e) ∙ s in cc)

bordered_text : (x : Texts) → x ≡ Bordered → holds_page_text x ≡ true
bordered_text x e = ap holds_page_text e

text_holds : (x : Texts) (q k : Kind) → texts_of_kind q ≡ x → HasLeafKind x (leaf_kind q) k → showing k ≡ Characters → holds_text q ≡ true
text_holds Separators q k e h s = leaf_text (holds_text q) k h s
text_holds Page q k e h s = leaf_text (holds_text q) k h s
text_holds Bordered q k e h s = bordered_text (texts_of_kind q) e
text_holds OwnCharacter q k e h s = leaf_text (holds_text q) k h s

shown_utf8 : (k : Kind) (bs : List ℕ) → IsUtf8 bs → IsUtf8 (shown_of k bs)
shown_utf8 kind.Sep bs u = IsUtf8-nil
shown_utf8 k bs u = u

-- a text of the page: it is UTF-8, and stands where text does
pub text_shown : (q : Kind) (l : Label) → IsTextIn q l → showing l.kind ≡ Characters → (holds_text q ≡ true) × IsUtf8 l.shown
text_shown q l h s = (text_holds (texts_of_kind q) q l.kind refl h.kind s, subst IsUtf8 (sym h.shown) (shown_utf8 l.kind l.own h.characters))

character_kind : (k : Kind) → showing k ≡ Characters → is_element (writing k) ≡ true → (shows_text k ≡ true) × ((shape k).class ≡ class.Character)
character_kind kind.Entity e f = (refl, refl)
character_kind k e f = absurd cc

-- what holds characters, or inline elements, holds text
character_text : (k : Kind) → (is_anywhere class.Character || admits (shape k).holding class.Character) ≡ true → holds_text k ≡ true
character_text kind.Body e = absurd cc
character_text (kind.Section n) e = absurd cc
character_text kind.Ul e = absurd cc
character_text kind.Ol e = absurd cc
character_text kind.Dl e = absurd cc
character_text kind.Table e = absurd cc
character_text kind.Tbody e = absurd cc
character_text kind.Tr e = absurd cc
character_text kind.Sep e = absurd cc
character_text k e = refl

-- an entity: it shows UTF-8, and stands where text does
pub entity_shown : (q : Kind) (l : Label) → showing l.kind ≡ Characters → is_element (writing l.kind) ≡ true → may_hold q l.kind ≡ true
    → IsShown (shows_text l.kind) l.shown → (holds_text q ≡ true) × IsUtf8 l.shown
entity_shown q l s e held shown =
    let c = character_kind l.kind s e in (
      character_text q (ap (λ x. is_anywhere x || admits (shape q).holding x) (sym c.1) ∙ held),
      subst (λ v. IsShown v l.shown) c.0 shown,
    )

-- ---- what a nowiki shows

nowiki_holds : (h : Holding) (c : Placement) → admits h class.Inline ≡ true → (is_anywhere c || admits holding.Entities c) ≡ true
    → (is_anywhere c || admits h c) ≡ true
nowiki_holds holding.Inlines class.Anywhere a e = refl
nowiki_holds holding.Inlines class.Mark a e = refl
nowiki_holds holding.Inlines class.Character a e = refl
nowiki_holds holding.Inlines c a e = absurd cc
nowiki_holds holding.InlinesThenLists class.Anywhere a e = refl
nowiki_holds holding.InlinesThenLists class.Mark a e = refl
nowiki_holds holding.InlinesThenLists class.Character a e = refl
nowiki_holds holding.InlinesThenLists c a e = absurd cc
nowiki_holds holding.InlinesThenBlocks class.Anywhere a e = refl
nowiki_holds holding.InlinesThenBlocks class.Mark a e = refl
nowiki_holds holding.InlinesThenBlocks class.Character a e = refl
nowiki_holds holding.InlinesThenBlocks c a e = absurd cc
nowiki_holds h c a e = absurd cc

inline_text : (k : Kind) → admits (shape k).holding class.Inline ≡ true → holds_text k ≡ true
inline_text kind.Body e = absurd cc
inline_text (kind.Section n) e = absurd cc
inline_text kind.Ul e = absurd cc
inline_text kind.Ol e = absurd cc
inline_text kind.Dl e = absurd cc
inline_text kind.Table e = absurd cc
inline_text kind.Tbody e = absurd cc
inline_text kind.Tr e = absurd cc
inline_text kind.Sep e = absurd cc
inline_text k e = refl

-- What may stand in nodes of the first kind may stand in the second, and so may text.
pub record Admits (q parent : Kind) : Type 0 where
  pub elements : (x : Kind) → may_hold q x ≡ true → may_hold parent x ≡ true
  pub texts : holds_text q ≡ true → holds_text parent ≡ true

pub admits_own : (q : Kind) → Admits q q
admits_own q = record { elements = λ x e. e; texts = λ e. e }

-- where a nowiki may stand, what it holds may
pub admits_nowiki : (parent : Kind) → may_hold parent kind.Nowiki ≡ true → Admits kind.Nowiki parent
admits_nowiki parent e = record {
  elements = λ x f. nowiki_holds (shape parent).holding (shape x).class e f;
  texts = λ f. inline_text parent e;
}

-- ---- nodes that are elements

element_by : (w : Writing) (k : ℕ) (q : Kind) (l : Label) (childless : Bool) (inside : Type 0) → is_element w ≡ true
    → NodeIsShown w k q l childless inside → IsShownElement k q l childless inside
element_by AsText k q l childless inside e h = absurd cc
element_by AsVoid k q l childless inside e h = h
element_by RoundCharacter k q l childless inside e h = h
element_by RoundChildren k q l childless inside e h = h
element_by (AsSection n) k q l childless inside e h = absurd h
element_by Unwritten k q l childless inside e h = absurd cc

group_writing : (k : Kind) → is_group k ≡ true → writing k ≡ Unwritten
group_writing kind.Group e = refl
group_writing k e = absurd cc

pub none_group : (k : ℕ) (q : Kind) (l : Label) (ts : Trees) → IsShownIn k q (tree l ts) → is_group l.kind ≡ false
none_group k q l ts h = by_group (is_group l.kind) refl
  where
    by_group : (v : Bool) → is_group l.kind ≡ v → v ≡ false
    by_group false e = refl
    by_group true e =
        let i : NodeIsShown Unwritten k q l (is_childless ts) (IsOrdered (texts_of_kind l.kind) ts × AreShownIn (suc k) l.kind ts) =
        subst (λ w. NodeIsShown w k q l (is_childless ts) (IsOrdered (texts_of_kind l.kind) ts × AreShownIn (suc k) l.kind ts))
        (group_writing l.kind e) h in
        absurd (let f : true ≡ false = sym e ∙ ap is_group i.0 in cc)

empty_shows : (k : Kind) → k ≡ kind.Empty → showing k ≡ Characters → ⊥
empty_shows k e s = absurd (let f : Nothing ≡ Characters = ap showing (sym e) ∙ s in cc)

character_by : (w : Writing) (k : ℕ) (q : Kind) (l : Label) (childless : Bool) (inside : Type 0) → writing l.kind ≡ w → showing l.kind ≡ Characters
    → NodeIsShown w k q l childless inside → (holds_text q ≡ true) × IsUtf8 l.shown
character_by AsText k q l childless inside e s h = text_shown q l h.0 s
character_by AsVoid k q l childless inside e s h = entity_shown q l s (ap is_element e) h.1 h.2.shown
character_by RoundCharacter k q l childless inside e s h = entity_shown q l s (ap is_element e) h.1 h.2.shown
character_by RoundChildren k q l childless inside e s h = entity_shown q l s (ap is_element e) h.1 h.2.shown
character_by (AsSection n) k q l childless inside e s h = absurd h
character_by Unwritten k q l childless inside e s h = absurd (empty_shows l.kind h.0 s)

-- no section is shown
shown_no_section : (j : Kind) (k : ℕ) (q : Kind) (l : Label) (childless : Bool) (inside : Type 0) → NodeIsShown (writing j) k q l childless inside
    → is_section j ≡ false
shown_no_section (kind.Section n) k q l childless inside h = absurd h
shown_no_section j k q l childless inside h = refl

nowiki_kind : (k : Kind) → showing k ≡ Inside → is_group k ≡ false → is_section k ≡ false → k ≡ kind.Nowiki
nowiki_kind kind.Nowiki e g s = refl
nowiki_kind kind.Group e g s = absurd cc
nowiki_kind (kind.Section n) e g s = absurd cc
nowiki_kind k e g s = absurd cc

shown_written : (k : Kind) → showing k ≡ Element → is_element (writing k) ≡ true
shown_written (kind.Section n) e = absurd cc
shown_written kind.Sep e = absurd cc
shown_written kind.Text e = absurd cc
shown_written kind.Group e = absurd cc
shown_written kind.Empty e = absurd cc
shown_written k e = refl

character_block : (k : Kind) → showing k ≡ Characters → is_block k ≡ false
character_block kind.Entity e = refl
character_block kind.Text e = refl
character_block k e = absurd cc

-- an element in a nowiki is no block and not inline
nowiki_element : (k : Kind) → showing k ≡ Element → may_hold kind.Nowiki k ≡ true → (is_inline k ≡ false) × (is_block k ≡ false)
nowiki_element kind.Category e f = (refl, refl)
nowiki_element kind.Switch e f = (refl, refl)
nowiki_element k e f = absurd cc

face_is : (l : Label) → showing l.kind ≡ Element → IsShownLabel l → IsFace (face l)
face_is l e h = record { element = h.element; level = h.level; attrs = h.attrs; shows = shown_element l.kind e }

abbrev InsideOf : ℕ → Label → Trees → Type 0
InsideOf k l ts = IsOrdered (texts_of_kind l.kind) ts × AreShownIn (suc k) l.kind ts

element_in : (k : ℕ) (q : Kind) (l : Label) (ts : Trees) → showing l.kind ≡ Element → IsShownIn k q (tree l ts)
    → IsShownElement k q l (is_childless ts) (InsideOf k l ts)
element_in k q l ts e h = element_by (writing l.kind) k q l (is_childless ts) (InsideOf k l ts) (shown_written l.kind e) h

-- a nowiki, and what it holds
record IsNowiki (k : ℕ) (q : Kind) (l : Label) (ts : Trees) : Type 0 where
  pub kind : l.kind ≡ kind.Nowiki
  pub held : may_hold q l.kind ≡ true
  pub inside : AreShownIn (suc k) l.kind ts

nowiki_in : (k : ℕ) (q : Kind) (l : Label) (ts : Trees) → showing l.kind ≡ Inside → IsShownIn k q (tree l ts) → IsNowiki k q l ts
nowiki_in k q l ts e h =
    let is : l.kind ≡ kind.Nowiki = nowiki_kind l.kind e (none_group k q l ts h)
    (shown_no_section l.kind k q l (is_childless ts) (InsideOf k l ts) h) in
    let f : IsShownElement k q l (is_childless ts) (InsideOf k l ts) =
    element_by (writing l.kind) k q l (is_childless ts) (InsideOf k l ts) (ap (λ x. is_element (writing x)) is) h in
    record { kind = is; held = f.1; inside = f.4.1 }

-- ---- the order of what they show, behind a block or not

-- A text stands here as an inline element, since it gets a `span` where it is in a group.
abbrev pub stands_behind : Bool → Plain → Bool
stands_behind b (text bs) = not b
stands_behind b (element f qs) = may_follow b f.kind

abbrev pub in_line : Bool → Plains → Bool
in_line b ended = true
in_line b (along p ps) = stands_behind b p && in_line (b || is_block_face p) ps

line_order : (b : Bool) (ps : Plains) → in_line b ps ≡ true → in_order b ps ≡ true
line_order b ended o = refl
line_order b (along (text bs) ps) o = line_order (b || false) ps (and_parts (not b) (in_line (b || false) ps) o).1
line_order b (along (element f qs) ps) o =
    let q = and_parts (may_follow b f.kind) (in_line (b || is_block f.kind) ps) o in
    ap₂ (λ x y. x && y) q.0 (line_order (b || is_block f.kind) ps q.1)

-- so they do as the elements of a group
or_first : (a c : Bool) → a ≡ true → (a || c) ≡ true
or_first true c e = refl
or_first false c e = absurd cc

line_elements : (b : Bool) (ps : Plains) → in_line b ps ≡ true → all_follow b (as_elements ps) ≡ true
line_elements b ended o = refl
line_elements b (along (text bs) ps) o =
    let q = and_parts (not b) (in_line (b || false) ps) o in
    ap₂ (λ x y. x && y) (or_first (may_follow b span.kind) (is_empty_span span (along (text bs) ended)) (behind_none b q.0))
    (line_elements (b || false) ps q.1)
  where
    behind_none : (c : Bool) → not c ≡ true → may_follow c span.kind ≡ true
    behind_none true e = absurd cc
    behind_none false e = refl
line_elements b (along (element f qs) ps) o =
    let q = and_parts (may_follow b f.kind) (in_line (b || is_block f.kind) ps) o in
    ap₂ (λ x y. x && y) (or_first (may_follow b f.kind) (is_empty_span f qs) q.0) (line_elements (b || is_block f.kind) ps q.1)

-- nothing at all gives an empty `span`, which may stand anywhere
pub line_follows : (b : Bool) (ps : Plains) → in_line b ps ≡ true → all_follow b (or_empty_span (as_elements ps)) ≡ true
line_follows true ended o = refl
line_follows false ended o = refl
line_follows b (along p ps) o = line_elements b (along p ps) o

text_line : (bs : List ℕ) (ps : Plains) → in_line false ps ≡ true → in_line false (text_before bs ps) ≡ true
text_line [] ps o = o
text_line (c ∷ cs) ended o = refl
text_line (c ∷ cs) (along (text ds) ps) o = o
text_line (c ∷ cs) (along (element f qs) ps) o = o

-- what stands behind no block
words_first : (b : Bool) (k : Kind) → showing k ≡ Characters → can_follow b k ≡ true → b ≡ false
words_first false k s f = refl
words_first true kind.Text s f = absurd cc
words_first true kind.Entity s f = absurd cc
words_first true k s f = absurd cc

nowiki_first : (b : Bool) (k : Kind) → k ≡ kind.Nowiki → can_follow b k ≡ true → b ≡ false
nowiki_first false k s f = refl
nowiki_first true k s f = absurd (let e : false ≡ true = ap (can_follow true) (sym s) ∙ f in cc)

element_first : (b i w : Bool) → not (b && (i || w)) ≡ true → not (b && i) ≡ true
element_first false i w e = refl
element_first true true w e = absurd cc
element_first true false w e = refl

element_order : (b : Bool) (k : Kind) (ps : Plains) → is_inline k ≡ false → is_block k ≡ false → in_order b ps ≡ true
    → (may_follow b k && in_order (b || is_block k) ps) ≡ true
element_order b k ps i n o = ap₂ (λ x y. x && y) (none_follows b (is_inline k) i) (ap (λ x. in_order (b || x) ps) n ∙ ap (λ x. in_order x ps) (or_none b) ∙ o)

nowiki_order : (b : Bool) (k : ℕ) (ts : Trees) (rest : Plains) → AreShownIn k kind.Nowiki ts → in_order b rest ≡ true
    → in_order b (plains_before ts rest) ≡ true
nowiki_order b k none rest h o = o
nowiki_order b k (more (tree l us) ts) rest h o = by_showing (nowiki_order b k ts rest h.1 o) (showing l.kind) refl
  where
    no_nowiki : (x : Kind) → x ≡ kind.Nowiki → may_hold kind.Nowiki x ≡ true → ⊥
    no_nowiki x e f = absurd (let g : false ≡ true = ap (may_hold kind.Nowiki) (sym e) ∙ f in cc)

    by_showing : in_order b (plains_before ts rest) ≡ true → (s : Showing) → showing l.kind ≡ s
        → in_order b (shown_before s l (λ ps. plains_before us ps) (plains_before ts rest)) ≡ true
    by_showing r Characters e = text_order b l.shown (plains_before ts rest) r
    by_showing r Inside e = let n = nowiki_in k kind.Nowiki l us e h.0 in absurd (no_nowiki l.kind n.kind n.held)
    by_showing r Nothing e = r
    by_showing r Element e =
        let f = element_in k kind.Nowiki l us e h.0 in
        let q = nowiki_element l.kind e f.1 in
        element_order b l.kind (plains_before ts rest) q.0 q.1 r

nowiki_line : (k : ℕ) (ts : Trees) (rest : Plains) → AreShownIn k kind.Nowiki ts → in_line false rest ≡ true
    → in_line false (plains_before ts rest) ≡ true
nowiki_line k none rest h o = o
nowiki_line k (more (tree l us) ts) rest h o = by_showing (nowiki_line k ts rest h.1 o) (showing l.kind) refl
  where
    no_nowiki : (x : Kind) → x ≡ kind.Nowiki → may_hold kind.Nowiki x ≡ true → ⊥
    no_nowiki x e f = absurd (let g : false ≡ true = ap (may_hold kind.Nowiki) (sym e) ∙ f in cc)

    by_showing : in_line false (plains_before ts rest) ≡ true → (s : Showing) → showing l.kind ≡ s
        → in_line false (shown_before s l (λ ps. plains_before us ps) (plains_before ts rest)) ≡ true
    by_showing r Characters e = text_line l.shown (plains_before ts rest) r
    by_showing r Inside e = let n = nowiki_in k kind.Nowiki l us e h.0 in absurd (no_nowiki l.kind n.kind n.held)
    by_showing r Nothing e = r
    by_showing r Element e =
        let f = element_in k kind.Nowiki l us e h.0 in
        let q = nowiki_element l.kind e f.1 in
        ap (λ x. in_line x (plains_before ts rest)) q.1 ∙ r

-- what stands in an item, a cell or a caption
pub all_in_line : (b : Bool) (k : ℕ) (q : Kind) (ts : Trees) (rest : Plains) → AreShownIn k q ts → are_in_line b ts ≡ true
    → in_line (b || any_shows_block ts) rest ≡ true → in_line b (plains_before ts rest) ≡ true
all_in_line b k q none rest h o r = ap (λ x. in_line x rest) (sym (or_none b)) ∙ r
all_in_line b k q (more (tree l us) ts) rest h o r =
    let p = and_parts (can_follow b l.kind) (are_in_line (b || shows_block (tree l us)) ts) o in
    by_showing p.0
    (all_in_line (b || shows_block (tree l us)) k q ts rest h.1 p.1
    (ap (λ x. in_line x rest) (sym (or_assoc b (shows_block (tree l us)) (any_shows_block ts))) ∙ r)) (showing l.kind) refl
  where
    own : shows_block (tree l us) ≡ is_block l.kind
    own = if_false (is_group l.kind) _ _ (none_group k q l us h.0)

    by_showing : can_follow b l.kind ≡ true → in_line (b || shows_block (tree l us)) (plains_before ts rest) ≡ true
        → (s : Showing) → showing l.kind ≡ s → in_line b (shown_before s l (λ ps. plains_before us ps) (plains_before ts rest)) ≡ true
    by_showing f g Characters e =
        let z : b ≡ false = words_first b l.kind e f in
        let g0 : in_line false (plains_before ts rest) ≡ true =
        ap (λ x. in_line x (plains_before ts rest)) (sym (ap₂ (λ x y. x || y) z (own ∙ character_block l.kind e))) ∙ g in
        ap (λ x. in_line x (text_before l.shown (plains_before ts rest))) z ∙ text_line l.shown (plains_before ts rest) g0
    by_showing f g Inside e =
        let n = nowiki_in k q l us e h.0 in
        let z : b ≡ false = nowiki_first b l.kind n.kind f in
        let g0 : in_line false (plains_before ts rest) ≡ true =
        ap (λ x. in_line x (plains_before ts rest)) (sym (ap₂ (λ x y. x || y) z (own ∙ ap is_block n.kind))) ∙ g in
        ap (λ x. in_line x (plains_before us (plains_before ts rest))) z
        ∙ nowiki_line (suc k) us (plains_before ts rest) (subst (λ x. AreShownIn (suc k) x us) n.kind n.inside) g0
    by_showing f g Nothing e =
        ap (λ x. in_line x (plains_before ts rest)) (sym (ap (λ x. b || x) (own ∙ hidden_block l.kind e) ∙ or_none b)) ∙ g
    by_showing f g Element e =
        ap₂ (λ x y. x && y) (element_first b (is_inline l.kind) (shows_words l.kind) f)
        (ap (λ x. in_line (b || x) (plains_before ts rest)) (sym own) ∙ g)

-- what one node shows before others in their order
node_order : (b : Bool) (k : ℕ) (q : Kind) (l : Label) (us : Trees) (rest : Plains) → IsShownIn k q (tree l us)
    → (is_block l.kind ≡ false → in_order b rest ≡ true)
    → (showing l.kind ≡ Element → (may_follow b l.kind && in_order (b || is_block l.kind) rest) ≡ true)
    → in_order b (plain_before (tree l us) rest) ≡ true
node_order b k q l us rest h r g = by_showing (showing l.kind) refl
  where
    by_showing : (s : Showing) → showing l.kind ≡ s → in_order b (shown_before s l (λ ps. plains_before us ps) rest) ≡ true
    by_showing Characters e = text_order b l.shown rest (r (character_block l.kind e))
    by_showing Inside e =
        let n = nowiki_in k q l us e h in
        nowiki_order b (suc k) us rest (subst (λ x. AreShownIn (suc k) x us) n.kind n.inside) (r (ap is_block n.kind))
    by_showing Nothing e = r (hidden_block l.kind e)
    by_showing Element e = g e

page_order : (k : ℕ) (q : Kind) → texts_of_kind q ≡ Page → (ts : Trees) → AreShownIn k q ts → in_order false (plains_before ts ended) ≡ true
page_order k q e none h = refl
page_order k q e (more (tree l us) ts) h =
    let rest : in_order false (plains_before ts ended) ≡ true = page_order k q e ts h.1 in
    node_order false k q l us (plains_before ts ended) h.0 (λ n. rest)
    (λ s. ap (λ x. in_order x (plains_before ts ended))
    (block_held (shape q).holding (shape l.kind).class (page_takes q e) (element_in k q l us s h.0).1) ∙ rest)

separated_order : (k : ℕ) (q : Kind) → texts_of_kind q ≡ Separators → (b : Bool) (ts : Trees) → AreShownIn k q ts
    → in_order b (plains_before ts ended) ≡ true
separated_order k q e b none h = refl
separated_order k q e b (more (tree l us) ts) h =
    node_order b k q l us (plains_before ts ended) h.0 (λ n. separated_order k q e b ts h.1)
    (λ s. ap₂ (λ x y. x && y)
    (none_follows b (is_inline l.kind)
    (inline_held (shape q).holding (shape l.kind).class (separators_take q e) (element_in k q l us s h.0).1))
    (separated_order k q e (b || is_block l.kind) ts h.1))

children_order : (x : Texts) (k : ℕ) (q : Kind) (ts : Trees) → texts_of_kind q ≡ x → showing q ≡ Element → IsOrdered x ts → AreShownIn k q ts
    → in_order false (plains_before ts ended) ≡ true
children_order Separators k q ts e s o h = separated_order k q e false ts h
children_order Page k q ts e s o h = page_order k q e ts h
children_order Bordered k q ts e s o h = line_order false (plains_before ts ended) (all_in_line false k q ts ended h o refl)
children_order OwnCharacter k q ts e s o h = absurd (own_character q e s)

-- ---- what they show fits

node_fits : (k j : ℕ) (parent q : Kind) (l : Label) (ts : Trees) (rest : Plains) → k ≤ j → Admits q parent → IsShownIn j q (tree l ts)
    → (AreShownIn (suc j) l.kind ts → PlainsIn (suc k) l.kind (plains_before ts ended))
    → (AreShownIn (suc j) l.kind ts → Admits l.kind parent → PlainsIn k parent (plains_before ts rest)) → PlainsIn k parent rest
    → PlainsIn k parent (plain_before (tree l ts) rest)
node_fits k j parent q l ts rest le a h own held r = by_showing (showing l.kind) refl
  where
    by_showing : (s : Showing) → showing l.kind ≡ s → PlainsIn k parent (shown_before s l (λ ps. plains_before ts ps) rest)
    by_showing Characters e =
        let c = character_by (writing l.kind) j q l (is_childless ts) (InsideOf j l ts) refl e h in
        text_fits k parent l.shown rest (a.texts c.0) c.1 r
    by_showing Inside e =
        let n = nowiki_in j q l ts e h in
        let here : may_hold parent kind.Nowiki ≡ true = subst (λ x. may_hold parent x ≡ true) n.kind (a.elements l.kind n.held) in
        held n.inside (subst (λ x. Admits x parent) (sym n.kind) (admits_nowiki parent here))
    by_showing Nothing e = r
    by_showing Element e =
        let f = element_in j q l ts e h in
        let order = children_order (texts_of_kind l.kind) (suc j) l.kind ts refl e f.4.0 f.4.1 in
        let face = face_is l e f.2 in
        ((a.elements l.kind f.1, (omega (arith, le, f.0), face, leaf_ended (not (is_leaf l.kind)) ts f.3, (order, own f.4.1))), refl, r)

mutual
  plain_fits : (k j : ℕ) (parent q : Kind) (t : Tree) (rest : Plains) → k ≤ j → Admits q parent → IsShownIn j q t → PlainsIn k parent rest
      → PlainsIn k parent (plain_before t rest)
  plain_fits k j parent q (tree l ts) rest le a h r =
      node_fits k j parent q l ts rest le a h (λ v. plains_fit (suc k) (suc j) l.kind l.kind ts ended (omega (arith, le)) (admits_own l.kind) v tt)
      (λ v b. plains_fit k (suc j) parent l.kind ts rest (omega (arith, le)) b v r) r

  -- what nodes show, before what fits there
  pub plains_fit : (k j : ℕ) (parent q : Kind) (ts : Trees) (rest : Plains) → k ≤ j → Admits q parent → AreShownIn j q ts → PlainsIn k parent rest
      → PlainsIn k parent (plains_before ts rest)
  plains_fit k j parent q none rest le a h r = r
  plains_fit k j parent q (more t ts) rest le a h r = plain_fits k j parent q t (plains_before ts rest) le a h.0 (plains_fit k j parent q ts rest le a h.1 r)

-- ---- the elements of a group

top_elements : (k : ℕ) (parent : Kind) (ps : Plains) → k < 200 → (holds_text parent ≡ true → may_hold parent span.kind ≡ true) → PlainsIn k parent ps
    → TopsIn k parent (as_elements ps)
top_elements k parent ended small f h = tt
top_elements k parent (along (text bs) ps) small f h = (
  (
    ap (λ x. x || is_empty_span span (along (text bs) ended)) (f h.0.0),
    (small, span_is, refl, (refl, ((refl, h.0.1, h.0.2), refl, tt))),
  ),
  top_elements k parent ps small f h.2,
)
top_elements k parent (along (element g qs) ps) small f h =
    ((ap (λ x. x || is_empty_span g qs) h.0.0, h.0.1), top_elements k parent ps small f h.2)

or_true : (b : Bool) → (b || true) ≡ true
or_true true = refl
or_true false = refl

-- an empty span, where nothing is shown
some_elements : (k : ℕ) (parent : Kind) (ps : Plains) → k < 200 → TopsIn k parent ps → TopsIn k parent (or_empty_span ps)
some_elements k parent ended small h = ((or_true (may_hold parent span.kind), (small, span_is, refl, (refl, tt))), tt)
some_elements k parent (along p ps) small h = h

-- The elements of a group that holds such nodes fit where they stand, if a `span` may stand wherever text may; what they show is
-- within one element more.
pub elements_fit : (k : ℕ) (parent : Kind) (ts : Trees) → k < 200 → (holds_text parent ≡ true → may_hold parent span.kind ≡ true)
    → AreShownIn (suc k) parent ts → TopsIn k parent (elements_for ts)
elements_fit k parent ts small f h =
    some_elements k parent (as_elements (plains_before ts ended)) small
    (top_elements k parent (plains_before ts ended) small f (plains_fit k (suc k) parent parent ts ended (omega arith) (admits_own parent) h tt))

-- ---- it shows a block where one of its nodes does

abbrev plain_block : Plains → Bool
plain_block ps = any_shows_block (inner_nodes (as_elements ps))

text_block : (bs : List ℕ) (ps : Plains) → plain_block (text_before bs ps) ≡ plain_block ps
text_block [] ps = refl
text_block (b ∷ bs) ended = refl
text_block (b ∷ bs) (along (text cs) ps) = refl
text_block (b ∷ bs) (along (element f qs) ps) = refl

nowiki_block : (k : ℕ) (ts : Trees) (rest : Plains) → AreShownIn k kind.Nowiki ts → plain_block (plains_before ts rest) ≡ plain_block rest
nowiki_block k none rest h = refl
nowiki_block k (more (tree l us) ts) rest h = by_showing (nowiki_block k ts rest h.1) (showing l.kind) refl
  where
    no_nowiki : (x : Kind) → x ≡ kind.Nowiki → may_hold kind.Nowiki x ≡ true → ⊥
    no_nowiki x e f = absurd (let g : false ≡ true = ap (may_hold kind.Nowiki) (sym e) ∙ f in cc)

    by_showing : plain_block (plains_before ts rest) ≡ plain_block rest → (s : Showing) → showing l.kind ≡ s
        → plain_block (shown_before s l (λ ps. plains_before us ps) (plains_before ts rest)) ≡ plain_block rest
    by_showing r Characters e = text_block l.shown (plains_before ts rest) ∙ r
    by_showing r Inside e = let n = nowiki_in k kind.Nowiki l us e h.0 in absurd (no_nowiki l.kind n.kind n.held)
    by_showing r Nothing e = r
    by_showing r Element e =
        let q = nowiki_element l.kind e (element_in k kind.Nowiki l us e h.0).1 in
        ap (λ x. x || plain_block (plains_before ts rest)) (if_false (is_group l.kind) _ _ (none_group k kind.Nowiki l us h.0) ∙ q.1) ∙ r

node_block : (k : ℕ) (q : Kind) (l : Label) (us : Trees) (rest : Plains) → IsShownIn k q (tree l us)
    → plain_block (plain_before (tree l us) rest) ≡ (shows_block (tree l us) || plain_block rest)
node_block k q l us rest h = by_showing (showing l.kind) refl
  where
    g : is_group l.kind ≡ false
    g = none_group k q l us h

    hidden : is_block l.kind ≡ false → plain_block rest ≡ (shows_block (tree l us) || plain_block rest)
    hidden e = sym (ap (λ x. x || plain_block rest) (if_false (is_group l.kind) _ _ g ∙ e))

    by_showing : (s : Showing) → showing l.kind ≡ s
        → plain_block (shown_before s l (λ ps. plains_before us ps) rest) ≡ (shows_block (tree l us) || plain_block rest)
    by_showing Characters e = text_block l.shown rest ∙ hidden (character_block l.kind e)
    by_showing Inside e =
        let n = nowiki_in k q l us e h in
        nowiki_block (suc k) us rest (subst (λ x. AreShownIn (suc k) x us) n.kind n.inside) ∙ hidden (ap is_block n.kind)
    by_showing Nothing e = hidden (hidden_block l.kind e)
    by_showing Element e = ap (λ x. x || plain_block rest) (if_false (is_group l.kind) _ _ g ∙ sym (if_false (is_group l.kind) _ _ g))

nodes_block : (k : ℕ) (q : Kind) (ts : Trees) (rest : Plains) → AreShownIn k q ts
    → plain_block (plains_before ts rest) ≡ (any_shows_block ts || plain_block rest)
nodes_block k q none rest h = refl
nodes_block k q (more (tree l us) ts) rest h =
    node_block k q l us (plains_before ts rest) h.0 ∙ ap (λ x. shows_block (tree l us) || x) (nodes_block k q ts rest h.1)
    ∙ or_assoc (shows_block (tree l us)) (any_shows_block ts) (plain_block rest)

elements_block : (ps : Plains) → any_shows_block (inner_nodes (or_empty_span (as_elements ps))) ≡ plain_block ps
elements_block ended = refl
elements_block (along p ps) = refl

pub blocks_fit : (k : ℕ) (q : Kind) (ts : Trees) → AreShownIn k q ts → any_shows_block (group_nodes ts) ≡ any_shows_block ts
blocks_fit k q ts h = elements_block (plains_before ts ended) ∙ nodes_block k q ts ended h ∙ or_none (any_shows_block ts)

-- behind a block or not, it may stand where its nodes may
pub group_follows : (b : Bool) (k : ℕ) (q : Kind) (ts : Trees) → AreShownIn k q ts → are_in_line b ts ≡ true → all_follow b (elements_for ts) ≡ true
group_follows b k q ts h o = line_follows b (plains_before ts ended) (all_in_line b k q ts ended h o refl)
