-- The elements of a group as the grammar has them: how they are spelled, that they are good, and what
-- they stand for.
use Rattle.std.proofs.Common.{◌≡◌, ℕ, suc, ◌<◌, ◌^◌, Bool, true, false, List, [], ◌++◌, flat_map, refl, sym, ap, ap₂, ◌∙◌, arith, append_assoc}
use Rattle.std.specs.Prelude.{not, ◌||◌}
use Rattle.wt_tree.specs.declared.kind.Kind.{Kind}
use Rattle.wt_tree.specs.declared.kind.Kind.TheVariants as kind
use Rattle.wt_tree.specs.declared.row.Writing.{Writing}
use Rattle.wt_tree.specs.declared.row.Writing.TheVariants.{AsText, AsVoid, RoundCharacter, RoundChildren, AsSection, Unwritten}
use Rattle.wt_tree.specs.Kinds.{writing, is_leaf, may_hold, element_name}
use Rattle.wt_tree.specs.Plain.{Face, Plain, text as characters, element as face_of, Plains, ended, along}
use Rattle.wt_tree.specs.Tree.{Label}
use Rattle.wt_schema.specs.Html.{attributes, element_by, face_attributes, plain_html, plains_html, group_attributes, group_part, group_parts}
use Rattle.wt_html_grammar.specs.Signs.{is_void, IsName}
use Rattle.wt_html_grammar.specs.Grammar.{Element, Items, none, child, spell, spell_items, spell_attributes, IsElement, AreItems}
use Rattle.wt_html_grammar.specs.Markup.{Markups, empty, more, flush, meaning, contents}
use Rattle.wt_schema.specs.GroupNodes.{is_ended}
use Rattle.wt_schema.specs.Written.{IsGroupLabel, IsFace, PlainIn, PlainsIn, TopIn, TopsIn}
use Rattle.wt_schema.proofs.Pieces.{spells_text, pieces_spelled, pieces_stand, pieces_good}
use Rattle.wt_schema.proofs.Said.{Said, said_text, attributes_for, face_said, next_said, first_said, face_is, next_is, first_is, said_spelled, AreGood}
use Rattle.wt_schema.proofs.Order.{pairs}
use Rattle.wt_schema.proofs.Rows.{is_as_void, held}
use Rattle.wt_schema.proofs.Faces.{is_element, held_somewhere, IsFaceTold, face_told}
use Rattle.wt_schema.proofs.Firsts.{first_told}
use Rattle.wt_schema.proofs.Tags.{pieces, signs, signs_spelled, signs_good, signs_stand, element_with, void_with, node_with, with_spelled, void_with_spelled, with_good, void_with_good, text_before, text_twice, text_empty, text_node, with_stands, void_with_stands}

-- ---- an element by how its kind is written

abbrev pub element_as : Writing → Kind → List Said → Items → Element
element_as AsText k ss inside = element_with k ss inside
element_as AsVoid k ss inside = void_with k ss
element_as RoundCharacter k ss inside = element_with k ss inside
element_as RoundChildren k ss inside = element_with k ss inside
element_as (AsSection n) k ss inside = element_with k ss inside
element_as Unwritten k ss inside = element_with k ss inside

as_spelled : (w : Writing) (k : Kind) (ss : List Said) (attrs bytes : List ℕ) (inside : Items) → is_element w ≡ true
    → spell_attributes (attributes_for ss) ≡ attrs → spell_items inside ≡ bytes → spell (element_as w k ss inside) ≡ element_by w k attrs bytes
as_spelled AsText k ss attrs bytes inside i e f = absurd (cc i)
as_spelled AsVoid k ss attrs bytes inside i e f = void_with_spelled k ss attrs e
as_spelled RoundCharacter k ss attrs bytes inside i e f = with_spelled k ss attrs bytes inside e f
as_spelled RoundChildren k ss attrs bytes inside i e f = with_spelled k ss attrs bytes inside e f
as_spelled (AsSection n) k ss attrs bytes inside i e f = absurd (cc i)
as_spelled Unwritten k ss attrs bytes inside i e f = absurd (cc i)

as_good : (w : Writing) (k : Kind) (ss : List Said) (depth : ℕ) (inside : Items) → depth < 200 → IsName (element_name k)
    → is_void (element_name k) ≡ is_as_void w → AreGood [] ss → AreItems (suc depth) inside → IsElement depth (element_as w k ss inside)
as_good AsText k ss depth inside h n v g i = with_good k ss depth inside h n v g i
as_good AsVoid k ss depth inside h n v g i = void_with_good k ss depth h n v g
as_good RoundCharacter k ss depth inside h n v g i = with_good k ss depth inside h n v g i
as_good RoundChildren k ss depth inside h n v g i = with_good k ss depth inside h n v g i
as_good (AsSection m) k ss depth inside h n v g i = with_good k ss depth inside h n v g i
as_good Unwritten k ss depth inside h n v g i = with_good k ss depth inside h n v g i

as_stands : (w : Writing) (k : Kind) (ss : List Said) (inside : Items) (m : Markups) → AreGood [] ss → contents [] inside ≡ m
    → (is_as_void w ≡ true → m ≡ empty) → meaning (element_as w k ss inside) ≡ node_with k ss m
as_stands AsText k ss inside m g e f = with_stands k ss inside m g e
as_stands AsVoid k ss inside m g e f = void_with_stands k ss g ∙ ap (node_with k ss) (sym (f refl))
as_stands RoundCharacter k ss inside m g e f = with_stands k ss inside m g e
as_stands RoundChildren k ss inside m g e f = with_stands k ss inside m g e
as_stands (AsSection n) k ss inside m g e f = with_stands k ss inside m g e
as_stands Unwritten k ss inside m g e f = with_stands k ss inside m g e

-- ---- what stands in the elements of a group

abbrev mutual
  pub plain_items : Plain → Items → Items
  plain_items (characters bs) rest = signs (pieces bs) rest
  plain_items (face_of f qs) rest = child (element_as (writing f.kind) f.kind (face_said (face_attributes f)) (plains_items qs)) rest

  pub plains_items : Plains → Items
  plains_items ended = none
  plains_items (along p ps) = plain_items p (plains_items ps)

abbrev mutual
  pub plain_markup : Plain → Markups → Markups
  plain_markup (characters bs) rest = text_before bs rest
  plain_markup (face_of f qs) rest = more (node_with f.kind (face_said (face_attributes f)) (plains_markups qs)) rest

  pub plains_markups : Plains → Markups
  plains_markups ended = empty
  plains_markups (along p ps) = plain_markup p (plains_markups ps)

void_leaf : (k : Kind) → is_as_void (writing k) ≡ true → is_leaf k ≡ true
void_leaf kind.Rule e = refl
void_leaf kind.Category e = refl
void_leaf kind.Br e = refl
void_leaf kind.Switch e = refl
void_leaf kind.Comment e = refl
void_leaf kind.Include e = refl
void_leaf kind.Skip e = refl
void_leaf k e = absurd cc

none_inside : (qs : Plains) → is_ended qs ≡ true → plains_markups qs ≡ empty
none_inside ended e = refl
none_inside (along p ps) e = absurd (cc e)

-- an element that has no end tag has nothing in it
void_empty : (k : Kind) (qs : Plains) → (not (is_leaf k) || is_ended qs) ≡ true → is_as_void (writing k) ≡ true → plains_markups qs ≡ empty
void_empty k qs h e = none_inside qs (by_test (is_leaf k) (void_leaf k e) h)
  where
    by_test : (b : Bool) → b ≡ true → (not b || is_ended qs) ≡ true → is_ended qs ≡ true
    by_test true t h = h
    by_test false t h = absurd (cc t)

-- what is read of an element that a node of a kind holds
pub inner_told : (parent : Kind) (f : Face) → may_hold parent f.kind ≡ true → IsFace f → IsFaceTold f
inner_told parent f h i = face_told f i (held parent f.kind h i.element)

mutual
  plain_spelled : (p : Plain) (k : ℕ) (parent : Kind) (rest : Items) → PlainIn k parent p
      → spell_items (plain_items p rest) ≡ plain_html p ++ spell_items rest
  plain_spelled (characters bs) k parent rest h =
      signs_spelled (pieces bs) rest ∙ ap (λ x. x ++ spell_items rest) (pieces_spelled _ _ _ spells_text bs h.1)
  plain_spelled (face_of f qs) k parent rest h =
      let xs = face_attributes f in
      let t = inner_told parent f h.0 h.1.1 in
      ap (λ x. x ++ spell_items rest)
      (as_spelled (writing f.kind) f.kind (face_said xs) (attributes xs) (plains_html qs) (plains_items qs) t.element
      (said_spelled [] (face_said xs) t.alone.good ∙ face_is xs) (plains_spelled qs (suc k) f.kind h.1.3.1))

  plains_spelled : (ps : Plains) (k : ℕ) (parent : Kind) → PlainsIn k parent ps → spell_items (plains_items ps) ≡ plains_html ps
  plains_spelled ended k parent h = refl
  plains_spelled (along p ps) k parent h = plain_spelled p k parent (plains_items ps) h.0 ∙ ap (λ x. plain_html p ++ x) (plains_spelled ps k parent h.2)

mutual
  plain_good : (p : Plain) (k : ℕ) (parent : Kind) (rest : Items) → PlainIn k parent p → AreItems k rest → AreItems k (plain_items p rest)
  plain_good (characters bs) k parent rest h i = signs_good (pieces bs) k rest (pieces_good _ _ _ spells_text bs h.1) i
  plain_good (face_of f qs) k parent rest h i =
      let t = inner_told parent f h.0 h.1.1 in (
        as_good (writing f.kind) f.kind (face_said (face_attributes f)) k (plains_items qs) h.1.0 t.kind.name t.kind.whole t.alone.good
            (plains_good qs (suc k) f.kind h.1.3.1),
        i,
      )

  plains_good : (ps : Plains) (k : ℕ) (parent : Kind) → PlainsIn k parent ps → AreItems k (plains_items ps)
  plains_good ended k parent h = tt
  plains_good (along p ps) k parent h = plain_good p k parent (plains_items ps) h.0 (plains_good ps k parent h.2)

mutual
  plain_stands : (p : Plain) (k : ℕ) (parent : Kind) (rest : Items) (m : Markups) (run : List ℕ) → PlainIn k parent p
      → ((r : List ℕ) → contents r rest ≡ text_before r m) → contents run (plain_items p rest) ≡ text_before run (plain_markup p m)
  plain_stands (characters bs) k parent rest m run h g =
      signs_stand (pieces bs) run rest ∙ ap (λ r. contents (run ++ r) rest) (pieces_stand _ _ _ spells_text bs h.1)
      ∙ g (run ++ bs) ∙ sym (text_twice run bs m)
  plain_stands (face_of f qs) k parent rest m run h g =
      let ss = face_said (face_attributes f) in
      let t = inner_told parent f h.0 h.1.1 in
      ap₂ (λ x y. flush run (more x y))
      (as_stands (writing f.kind) f.kind ss (plains_items qs) (plains_markups qs) t.alone.good (plains_stand qs (suc k) f.kind [] h.1.3.1)
      (void_empty f.kind qs h.1.2)) (g [])
      ∙ text_node run (element_name f.kind) (pairs ss) (plains_markups qs) m

  plains_stand : (ps : Plains) (k : ℕ) (parent : Kind) (run : List ℕ) → PlainsIn k parent ps
      → contents run (plains_items ps) ≡ text_before run (plains_markups ps)
  plains_stand ended k parent run h = text_empty run
  plains_stand (along p ps) k parent run h = plain_stands p k parent (plains_items ps) (plains_markups ps) run h.0 (λ r. plains_stand ps k parent r h.2)

-- ---- the elements of a group

abbrev pub top_said : Bool → ℕ → Label → Face → List Said
top_said true g l f = first_said g l (face_attributes f)
top_said false g l f = next_said g (face_attributes f)

abbrev pub group_items : Bool → ℕ → Label → Plains → Items → Items
group_items first g l ended rest = rest
group_items first g l (along (characters bs) ps) rest = group_items false g l ps rest
group_items first g l (along (face_of f qs) ps) rest =
    child (element_as (writing f.kind) f.kind (top_said first g l f) (plains_items qs)) (group_items false g l ps rest)

abbrev pub group_markups : Bool → ℕ → Label → Plains → Markups → Markups
group_markups first g l ended rest = rest
group_markups first g l (along (characters bs) ps) rest = group_markups false g l ps rest
group_markups first g l (along (face_of f qs) ps) rest =
    more (node_with f.kind (top_said first g l f) (plains_markups qs)) (group_markups false g l ps rest)

pub top_told : (parent : Kind) (f : Face) (qs : Plains) (k : ℕ) → TopIn k parent (face_of f qs) → IsFaceTold f
top_told parent f qs k h = face_told f h.1.1 (held_somewhere parent f.kind (is_ended qs) h.0 h.1.1.element)

top_good : (first : Bool) (g : ℕ) (l : Label) (f : Face) → g < 2 ^ 64 → IsGroupLabel l → IsFaceTold f → AreGood [] (top_said first g l f)
top_good true g l f small h t = (first_told g l f small h t.rising).good
top_good false g l f small h t = (t.next g small).good

top_is : (first : Bool) (g : ℕ) (l : Label) (f : Face) → g < 2 ^ 64 → IsGroupLabel l
    → flat_map said_text (top_said first g l f) ≡ group_attributes first g l (face_attributes f)
top_is true g l f small h = let few : l.id < 2 ^ 32 = h.number.1 in first_is g l (face_attributes f) small (omega arith)
top_is false g l f small h = next_is g (face_attributes f) small

pub group_spelled : (es : Plains) (first : Bool) (g : ℕ) (l : Label) (k : ℕ) (parent : Kind) (rest : Items) → g < 2 ^ 64 → IsGroupLabel l
    → TopsIn k parent es → spell_items (group_items first g l es rest) ≡ group_parts first g l es ++ spell_items rest
group_spelled ended first g l k parent rest small h i = refl
group_spelled (along (characters bs) ps) first g l k parent rest small h i = absurd i.0
group_spelled (along (face_of f qs) ps) first g l k parent rest small h i =
    let t = top_told parent f qs k i.0 in
    let ss : List Said = top_said first g l f in
    ap₂ (λ (x y : List ℕ). x ++ y)
    (as_spelled (writing f.kind) f.kind ss (group_attributes first g l (face_attributes f)) (plains_html qs) (plains_items qs) t.element
    (said_spelled [] ss (top_good first g l f small h t) ∙ top_is first g l f small h) (plains_spelled qs (suc k) f.kind i.0.1.3.1))
    (group_spelled ps false g l k parent rest small h i.1)
    ∙ sym (append_assoc (group_part first g l (face_of f qs)) (group_parts false g l ps) (spell_items rest))

pub group_good : (es : Plains) (first : Bool) (g : ℕ) (l : Label) (k : ℕ) (parent : Kind) (rest : Items) → g < 2 ^ 64 → IsGroupLabel l
    → TopsIn k parent es → AreItems k rest → AreItems k (group_items first g l es rest)
group_good ended first g l k parent rest small h i r = r
group_good (along (characters bs) ps) first g l k parent rest small h i r = absurd i.0
group_good (along (face_of f qs) ps) first g l k parent rest small h i r =
    let t = top_told parent f qs k i.0 in (
      as_good (writing f.kind) f.kind (top_said first g l f) k (plains_items qs) i.0.1.0 t.kind.name t.kind.whole (top_good first g l f small h t)
          (plains_good qs (suc k) f.kind i.0.1.3.1),
      group_good ps false g l k parent rest small h i.1 r,
    )

pub group_stands : (es : Plains) (first : Bool) (g : ℕ) (l : Label) (k : ℕ) (parent : Kind) (rest : Items) (m : Markups) (run : List ℕ) → g < 2 ^ 64
    → IsGroupLabel l → TopsIn k parent es → ((r : List ℕ) → contents r rest ≡ text_before r m)
    → contents run (group_items first g l es rest) ≡ text_before run (group_markups first g l es m)
group_stands ended first g l k parent rest m run small h i r = r run
group_stands (along (characters bs) ps) first g l k parent rest m run small h i r = absurd i.0
group_stands (along (face_of f qs) ps) first g l k parent rest m run small h i r =
    let t = top_told parent f qs k i.0 in
    let ss : List Said = top_said first g l f in
    ap₂ (λ x y. flush run (more x y))
    (as_stands (writing f.kind) f.kind ss (plains_items qs) (plains_markups qs) (top_good first g l f small h t)
    (plains_stand qs (suc k) f.kind [] i.0.1.3.1) (void_empty f.kind qs i.0.1.2))
    (group_stands ps false g l k parent rest m [] small h i.1 r)
    ∙ text_node run (element_name f.kind) (pairs ss) (plains_markups qs) (group_markups false g l ps m)
