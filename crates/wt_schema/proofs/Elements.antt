-- The elements of a tree as the grammar has them: how they are spelled, that they are good, and what
-- they stand for.
use Rattle.std.proofs.Common.{◌≡◌, ℕ, suc, ◌+◌, ◌<◌, ◌^◌, Bool, true, false, List, [], ◌++◌, IsUtf8, refl, sym, ap, ap₂, ◌∙◌, subst, arith}
use Rattle.wt_tree.specs.declared.kind.Kind.{Kind}
use Rattle.wt_tree.specs.Tree.{Label, Tree, tree, Trees, none as no_trees, more as one_more}
use Rattle.wt_tree.specs.declared.row.Writing.{Writing}
use Rattle.wt_tree.specs.declared.row.Writing.TheVariants.{AsText, AsVoid, RoundCharacter, RoundChildren, AsSection, Unwritten}
use Rattle.wt_tree.specs.declared.kind.Kind.TheVariants as kind
use Rattle.wt_tree.specs.Kinds.{writing, element_name, texts_of_kind, may_hold}
use Rattle.wt_tree.specs.Plain.{ended, plains_before}
use Rattle.wt_tree.specs.Tiling.{is_group}
use Rattle.wt_schema.specs.Escapes.{escaped}
use Rattle.wt_schema.specs.Html.{attributes_of, start_tag, void_tag, end_tag, written, group_html, groups_by, groups, groups_of_all, html, html_of_all}
use Rattle.wt_html_grammar.specs.Grammar.{spell_attributes, Element, Items, none, child, spell, spell_items, IsElement, AreItems}
use Rattle.wt_html_grammar.specs.Markup.{Markup, Markups, empty, more, flush, meaning, contents}
use Rattle.std.specs.Prelude.{if◌then◌else◌}
use Rattle.wt_html_grammar.proofs.Steps.{if_false}
use Rattle.wt_schema.specs.Rows.{shows_text}
use Rattle.wt_schema.specs.GroupNodes.{elements_for}
use Rattle.wt_schema.specs.Written.{IsShown, IsElementLabel, IsCutIn, IsWrittenGroup, is_childless, NodeIsWritten, WrittenIn, AllWrittenIn}
use Rattle.wt_schema.proofs.Pieces.{spells_text, pieces_spelled, pieces_stand, pieces_good}
use Rattle.wt_schema.proofs.Said.{said_of, said_is, attributes_for, said_spelled}
use Rattle.wt_schema.proofs.Rows.{is_as_void, is_round_character, IsElementKind, held_kind}
use Rattle.wt_schema.proofs.Order.{pairs}
use Rattle.wt_schema.proofs.Labels.{IsTold, told, small_id}
use Rattle.wt_schema.proofs.ShownAgain.{elements_html}
use Rattle.wt_schema.proofs.Tags.{pieces, signs, element_with, void_with, node_with, section_for, section_markup, signs_spelled, character_spelled, with_spelled, void_with_spelled, signs_good, with_good, void_with_good, text_before, signs_stand, text_twice, text_empty, text_node, character_stands, with_stands, void_with_stands}
use Rattle.wt_schema.proofs.GroupItems.{group_items, group_markups, group_spelled, group_good, group_stands}

abbrev pub element_for : Label → Items → Element
element_for l inside = element_with l.kind (said_of l) inside

abbrev pub void_for : Label → Element
void_for l = void_with l.kind (said_of l)

-- a node round what it holds, or the elements of a group, before what follows
abbrev pub placed : Writing → Label → Items → Items → Items → Items
placed AsText l inside group rest = signs (pieces l.own) rest
placed AsVoid l inside group rest = child (void_for l) rest
placed RoundCharacter l inside group rest = child (element_for l (signs (pieces l.shown) none)) rest
placed RoundChildren l inside group rest = child (element_for l inside) rest
placed (AsSection n) l inside group rest = child (section_for n inside) rest
placed Unwritten l inside group rest = group

-- behind n groups
abbrev mutual
  pub item_before : ℕ → Tree → Items → Items
  item_before n (tree l ts) rest = placed (writing l.kind) l (items_of n ts) (group_items true (suc n) l (elements_for ts) rest) rest

  pub items_of : ℕ → Trees → Items
  items_of n no_trees = none
  items_of n (one_more t ts) = item_before n t (items_of (n + groups t) ts)

-- ---- spelling

pub attributes_spelled : (l : Label) → IsTold l → l.id < 2 ^ 64 → spell_attributes (attributes_for (said_of l)) ≡ attributes_of l
attributes_spelled l t h = said_spelled [] (said_of l) t.good ∙ said_is l h

pub element_spelled : (l : Label) (inside : Items) (bytes : List ℕ) → spell_attributes (attributes_for (said_of l))
    ≡ attributes_of l → spell_items inside ≡ bytes
    → spell (element_for l inside) ≡ start_tag l ++ (bytes ++ end_tag l)
unfolding start_tag end_tag
element_spelled l inside bytes e f = with_spelled l.kind (said_of l) (attributes_of l) bytes inside e f

pub void_spelled : (l : Label) → spell_attributes (attributes_for (said_of l)) ≡ attributes_of l → spell (void_for l) ≡ void_tag l
unfolding void_tag
void_spelled l e = void_with_spelled l.kind (said_of l) (attributes_of l) e

-- the character of an entity
pub shown_utf8 : (l : Label) → IsElementKind l.kind l.attrs → IsElementLabel l → writing l.kind ≡ RoundCharacter → IsUtf8 l.shown
shown_utf8 l k h e = let f : shows_text l.kind ≡ true = k.shows ∙ ap is_round_character e in subst (λ b. IsShown b l.shown) f h.shown

-- by how the node is written
held_spelled : (parent : Kind) (l : Label) → may_hold parent l.kind ≡ true → IsElementLabel l → spell_attributes (attributes_for (said_of l)) ≡ attributes_of l
held_spelled parent l m h = attributes_spelled l (told l (held_kind parent l m h) h) (small_id l h)

-- the bytes of a node round these bytes, or of a group
abbrev node_bytes : Writing → Label → List ℕ → List ℕ → List ℕ
node_bytes AsText l inside group = written AsText l inside
node_bytes AsVoid l inside group = written AsVoid l inside
node_bytes RoundCharacter l inside group = written RoundCharacter l inside
node_bytes RoundChildren l inside group = written RoundChildren l inside
node_bytes (AsSection n) l inside group = written (AsSection n) l inside
node_bytes Unwritten l inside group = group

spelled_by : (w : Writing) (k : ℕ) (parent : Kind) (l : Label) (childless : Bool) (H G : Type 0) (inside group : Items) (bytes others : List ℕ)
    (rest : Items) → writing l.kind ≡ w
    → NodeIsWritten w k parent l childless H G → (writing l.kind ≡ RoundChildren → H → spell_items inside ≡ bytes)
    → (G → spell_items group ≡ others ++ spell_items rest)
    → spell_items (placed w l inside group rest) ≡ node_bytes w l bytes others ++ spell_items rest
spelled_by AsText k parent l childless H G inside group bytes others rest e h f g =
    signs_spelled (pieces l.own) rest ∙ ap (λ x. x ++ spell_items rest) (pieces_spelled _ _ _ spells_text l.own h.0.characters)
spelled_by AsVoid k parent l childless H G inside group bytes others rest e h f g =
    ap (λ x. x ++ spell_items rest) (void_spelled l (held_spelled parent l h.1 h.2))
spelled_by RoundCharacter k parent l childless H G inside group bytes others rest e h f g =
    let u : IsUtf8 l.shown = shown_utf8 l (held_kind parent l h.1 h.2) h.2 e in
    ap (λ x. x ++ spell_items rest) (element_spelled l (signs (pieces l.shown) none) (escaped l.shown)
    (held_spelled parent l h.1 h.2) (character_spelled l.shown u))
spelled_by RoundChildren k parent l childless H G inside group bytes others rest e h f g =
    ap (λ x. x ++ spell_items rest) (element_spelled l inside bytes (held_spelled parent l h.1 h.2) (f e h.4))
spelled_by (AsSection n) k parent l childless H G inside group bytes others rest e h f g = absurd h
spelled_by Unwritten k parent l childless H G inside group bytes others rest e h f g = g h

-- what is written as a node is no group
abbrev pub is_written : Writing → Bool
is_written AsText = true
is_written AsVoid = true
is_written RoundCharacter = true
is_written RoundChildren = true
is_written (AsSection n) = true
is_written Unwritten = false

pub not_group : (k : Kind) → is_written (writing k) ≡ true → is_group k ≡ false
not_group kind.Group e = absurd (cc e)
not_group k e = refl

node_html : (w : Writing) (l : Label) (k : ℕ) (parent : Kind) (childless : Bool) (H : Type 0) (ts : Trees) (bytes others : List ℕ) → writing l.kind ≡ w
    → NodeIsWritten w k parent l childless H (IsWrittenGroup k parent l ts)
    → (if is_group l.kind then others else written (writing l.kind) l bytes) ≡ node_bytes w l bytes others
node_html AsText l k parent childless H ts bytes others e h =
    if_false (is_group l.kind) _ _ (not_group l.kind (ap is_written e)) ∙ ap (λ v. written v l bytes) e
node_html AsVoid l k parent childless H ts bytes others e h =
    if_false (is_group l.kind) _ _ (not_group l.kind (ap is_written e)) ∙ ap (λ v. written v l bytes) e
node_html RoundCharacter l k parent childless H ts bytes others e h =
    if_false (is_group l.kind) _ _ (not_group l.kind (ap is_written e)) ∙ ap (λ v. written v l bytes) e
node_html RoundChildren l k parent childless H ts bytes others e h =
    if_false (is_group l.kind) _ _ (not_group l.kind (ap is_written e)) ∙ ap (λ v. written v l bytes) e
node_html (AsSection n) l k parent childless H ts bytes others e h = absurd h
node_html Unwritten l k parent childless H ts bytes others e h = ap (λ j. if is_group j then others else written (writing l.kind) l bytes) h.label.kind

-- the groups in a node round its children, and a group itself
pub inside_groups : (l : Label) (ts : Trees) → writing l.kind ≡ RoundChildren → groups (tree l ts) ≡ groups_of_all ts
inside_groups l ts e = if_false (is_group l.kind) _ _ (not_group l.kind (ap is_written e)) ∙ ap (λ w. groups_by w (groups_of_all ts)) e

pub one_group : (l : Label) (ts : Trees) → l.kind ≡ kind.Group → groups (tree l ts) ≡ 1
one_group l ts e = ap (λ j. if is_group j then 1 else groups_by (writing l.kind) (groups_of_all ts)) e

abbrev pub Inside : ℕ → Kind → Trees → Type 0
Inside k j us = IsCutIn (texts_of_kind j) us × AllWrittenIn (suc k) j us

pub group_number : (n : ℕ) (l : Label) (ts : Trees) → n + groups (tree l ts) < 2 ^ 64 → l.kind ≡ kind.Group → suc n < 2 ^ 64
group_number n l ts b e = omega (arith, b, one_group l ts e)

pub inside_number : (n : ℕ) (l : Label) (ts : Trees) → n + groups (tree l ts) < 2 ^ 64 → writing l.kind ≡ RoundChildren → n + groups_of_all ts < 2 ^ 64
inside_number n l ts b e = omega (arith, b, inside_groups l ts e)

mutual
  pub item_spelled : (t : Tree) (k : ℕ) (parent : Kind) (rest : Items) (n : ℕ) → WrittenIn k parent t → n + groups t < 2 ^ 64
      → spell_items (item_before n t rest) ≡ html n t ++ spell_items rest
  item_spelled (tree l ts) k parent rest n h b =
      spelled_by (writing l.kind) k parent l (is_childless ts) (Inside k l.kind ts) (IsWrittenGroup k parent l ts) (items_of n ts)
      (group_items true (suc n) l (elements_for ts) rest) (html_of_all n ts) (group_html (suc n) l (plains_before ts ended)) rest refl h
      (λ e i. items_spelled ts (suc k) l.kind n i.1 (inside_number n l ts b e))
      (λ g. group_spelled (elements_for ts) true (suc n) l k parent rest (group_number n l ts b g.label.kind) g.label g.elements
      ∙ ap (λ x. x ++ spell_items rest) (elements_html ts (suc n) l))
      ∙ ap (λ x. x ++ spell_items rest) (sym (node_html (writing l.kind) l k parent (is_childless ts) (Inside k l.kind ts) ts (html_of_all n ts)
      (group_html (suc n) l (plains_before ts ended)) refl h))

  pub items_spelled : (ts : Trees) (k : ℕ) (parent : Kind) (n : ℕ) → AllWrittenIn k parent ts → n + groups_of_all ts < 2 ^ 64
      → spell_items (items_of n ts) ≡ html_of_all n ts
  items_spelled no_trees k parent n h b = refl
  items_spelled (one_more t ts) k parent n h b =
      item_spelled t k parent (items_of (n + groups t) ts) n h.0 (omega (arith, b))
      ∙ ap (λ x. html n t ++ x) (items_spelled ts k parent (n + groups t) h.2 (omega (arith, b)))

-- ---- they are good

pub element_good : (l : Label) (k : ℕ) (inside : Items) → k < 200 → IsElementKind l.kind l.attrs
    → is_as_void (writing l.kind) ≡ false → IsTold l → AreItems (suc k) inside → IsElement k (element_for l inside)
element_good l k inside h e w t i = with_good l.kind (said_of l) k inside h e.name (e.whole ∙ w) t.good i

void_good : (l : Label) (k : ℕ) → k < 200 → IsElementKind l.kind l.attrs → is_as_void (writing l.kind) ≡ true → IsTold l → IsElement k (void_for l)
void_good l k h e w t = void_with_good l.kind (said_of l) k h e.name (e.whole ∙ w) t.good

good_by : (w : Writing) (k : ℕ) (parent : Kind) (l : Label) (childless : Bool) (H G : Type 0) (inside group rest : Items) → writing l.kind ≡ w
    → NodeIsWritten w k parent l childless H G → (writing l.kind ≡ RoundChildren → H → AreItems (suc k) inside) → (G → AreItems k group)
    → AreItems k rest → AreItems k (placed w l inside group rest)
good_by AsText k parent l childless H G inside group rest e h f i g =
    signs_good (pieces l.own) k rest (pieces_good _ _ _ spells_text l.own h.0.characters) g
good_by AsVoid k parent l childless H G inside group rest e h f i g =
    let q : IsElementKind l.kind l.attrs = held_kind parent l h.1 h.2 in
    (void_good l k h.0 q (ap is_as_void e) (told l q h.2), g)
good_by RoundCharacter k parent l childless H G inside group rest e h f i g =
    let q : IsElementKind l.kind l.attrs = held_kind parent l h.1 h.2 in
    let u : IsUtf8 l.shown = shown_utf8 l q h.2 e in
    (element_good l k _ h.0 q (ap is_as_void e) (told l q h.2) (signs_good (pieces l.shown) (suc k) none (pieces_good _ _ _ spells_text l.shown u) tt), g)
good_by RoundChildren k parent l childless H G inside group rest e h f i g =
    let q : IsElementKind l.kind l.attrs = held_kind parent l h.1 h.2 in
    (element_good l k inside h.0 q (ap is_as_void e) (told l q h.2) (f e h.4), g)
good_by (AsSection n) k parent l childless H G inside group rest e h f i g = absurd h
good_by Unwritten k parent l childless H G inside group rest e h f i g = i h

mutual
  pub item_good : (t : Tree) (k : ℕ) (parent : Kind) (rest : Items) (n : ℕ) → WrittenIn k parent t → n + groups t < 2 ^ 64 → AreItems k rest
      → AreItems k (item_before n t rest)
  item_good (tree l ts) k parent rest n h b r =
      good_by (writing l.kind) k parent l (is_childless ts) (Inside k l.kind ts) (IsWrittenGroup k parent l ts)
      (items_of n ts) (group_items true (suc n) l (elements_for ts) rest) rest refl h
      (λ e i. items_good ts (suc k) l.kind n i.1 (inside_number n l ts b e))
      (λ g. group_good (elements_for ts) true (suc n) l k parent rest (group_number n l ts b g.label.kind) g.label g.elements r) r

  pub items_good : (ts : Trees) (k : ℕ) (parent : Kind) (n : ℕ) → AllWrittenIn k parent ts → n + groups_of_all ts < 2 ^ 64 → AreItems k (items_of n ts)
  items_good no_trees k parent n h b = tt
  items_good (one_more t ts) k parent n h b =
      item_good t k parent (items_of (n + groups t) ts) n h.0 (omega (arith, b)) (items_good ts k parent (n + groups t) h.2 (omega (arith, b)))

-- ---- what they stand for

abbrev pub node_for : Label → Markups → Markup
node_for l inside = node_with l.kind (said_of l) inside

abbrev pub marked_up : Writing → Label → Markups → Markups → Markups → Markups
marked_up AsText l inside group rest = text_before l.own rest
marked_up AsVoid l inside group rest = more (node_for l empty) rest
marked_up RoundCharacter l inside group rest = more (node_for l (flush l.shown empty)) rest
marked_up RoundChildren l inside group rest = more (node_for l inside) rest
marked_up (AsSection n) l inside group rest = more (section_markup n inside) rest
marked_up Unwritten l inside group rest = group

abbrev mutual
  pub markup_before : ℕ → Tree → Markups → Markups
  markup_before n (tree l ts) rest = marked_up (writing l.kind) l (markups_of n ts) (group_markups true (suc n) l (elements_for ts) rest) rest

  pub markups_of : ℕ → Trees → Markups
  markups_of n no_trees = empty
  markups_of n (one_more t ts) = markup_before n t (markups_of (n + groups t) ts)

pub element_stands : (l : Label) (inside : Items) (m : Markups) → IsTold l → contents [] inside ≡ m → meaning (element_for l inside) ≡ node_for l m
element_stands l inside m t e = with_stands l.kind (said_of l) inside m t.good e

void_stands : (l : Label) → IsTold l → meaning (void_for l) ≡ node_for l empty
void_stands l t = void_with_stands l.kind (said_of l) t.good

-- an element after a run of characters, before others
child_stands : (l : Label) (e : Element) (m n : Markups) (rest : Items) (run : List ℕ) → meaning e ≡ node_for l m
    → contents [] rest ≡ n → contents run (child e rest) ≡ text_before run (more (node_for l m) n)
child_stands l e m n rest run f g = ap₂ (λ x y. flush run (more x y)) f g ∙ text_node run (element_name l.kind) (pairs (said_of l)) m n

stands_by : (w : Writing) (k : ℕ) (parent : Kind) (l : Label) (childless : Bool) (H G : Type 0) (inside group rest : Items)
    (m g n : Markups) (run : List ℕ) → writing l.kind ≡ w
    → NodeIsWritten w k parent l childless H G → (writing l.kind ≡ RoundChildren → H → contents [] inside ≡ m)
    → (G → contents run group ≡ text_before run g) → ((r : List ℕ) → contents r rest ≡ text_before r n)
    → contents run (placed w l inside group rest) ≡ text_before run (marked_up w l m g n)
stands_by AsText k parent l childless H G inside group rest m g n run e h f i r =
    signs_stand (pieces l.own) run rest ∙ ap (λ r. contents (run ++ r) rest) (pieces_stand _ _ _ spells_text l.own h.0.characters)
    ∙ r (run ++ l.own) ∙ sym (text_twice run l.own n)
stands_by AsVoid k parent l childless H G inside group rest m g n run e h f i r =
    child_stands l (void_for l) empty n rest run (void_stands l (told l (held_kind parent l h.1 h.2) h.2)) (r [])
stands_by RoundCharacter k parent l childless H G inside group rest m g n run e h f i r =
    let q : IsElementKind l.kind l.attrs = held_kind parent l h.1 h.2 in
    let u : IsUtf8 l.shown = shown_utf8 l q h.2 e in
    child_stands l (element_for l (signs (pieces l.shown) none)) (flush l.shown empty) n rest run
    (element_stands l (signs (pieces l.shown) none) (flush l.shown empty) (told l q h.2) (character_stands l.shown u)) (r [])
stands_by RoundChildren k parent l childless H G inside group rest m g n run e h f i r =
    child_stands l (element_for l inside) m n rest run (element_stands l inside m (told l (held_kind parent l h.1 h.2) h.2) (f e h.4)) (r [])
stands_by (AsSection i) k parent l childless H G inside group rest m g n run e h f j r = absurd h
stands_by Unwritten k parent l childless H G inside group rest m g n run e h f i r = i h

mutual
  pub item_stands : (t : Tree) (k : ℕ) (parent : Kind) (rest : Items) (m : Markups) (run : List ℕ) (n : ℕ) → WrittenIn k parent t → n + groups t < 2 ^ 64
      → ((r : List ℕ) → contents r rest ≡ text_before r m)
      → contents run (item_before n t rest) ≡ text_before run (markup_before n t m)
  item_stands (tree l ts) k parent rest m run n h b r =
      stands_by (writing l.kind) k parent l (is_childless ts) (Inside k l.kind ts) (IsWrittenGroup k parent l ts)
      (items_of n ts) (group_items true (suc n) l (elements_for ts) rest) rest (markups_of n ts) (group_markups true (suc n) l (elements_for ts) m) m run refl h
      (λ e i. items_stand ts (suc k) l.kind [] n i.1 (inside_number n l ts b e))
      (λ g. group_stands (elements_for ts) true (suc n) l k parent rest m run (group_number n l ts b g.label.kind) g.label g.elements r) r

  pub items_stand : (ts : Trees) (k : ℕ) (parent : Kind) (run : List ℕ) (n : ℕ) → AllWrittenIn k parent ts → n + groups_of_all ts < 2 ^ 64
      → contents run (items_of n ts) ≡ text_before run (markups_of n ts)
  items_stand no_trees k parent run n h b = text_empty run
  items_stand (one_more t ts) k parent run n h b =
      item_stands t k parent (items_of (n + groups t) ts) (markups_of (n + groups t) ts) run n h.0 (omega (arith, b))
      (λ r. items_stand ts k parent r (n + groups t) h.2 (omega (arith, b)))
