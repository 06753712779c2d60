-- A node that may be written within some elements may be written within fewer; one that the body may hold may
-- stand in a section; and a node is a part of the body or of a section.
use Rattle.std.proofs.Common.{ℕ, suc, ◌≤◌, Bool, arith}
use Rattle.wt_tree.specs.declared.kind.Kind.{Kind}
use Rattle.wt_tree.specs.declared.kind.Kind.TheVariants as kind
use Rattle.wt_tree.specs.declared.row.Writing.{Writing}
use Rattle.wt_tree.specs.declared.row.Writing.TheVariants.{AsText, AsVoid, RoundCharacter, RoundChildren, AsSection, Unwritten}
use Rattle.wt_tree.specs.Kinds.{writing}
use Rattle.wt_tree.specs.Plain.{Plain, text as characters, element as face_of, Plains, ended, along}
use Rattle.wt_tree.specs.Tree.{Label, Tree, tree, Trees, none as no_trees, more as one_more}
use Rattle.wt_schema.specs.GroupNodes.{elements_for}
use Rattle.wt_schema.specs.Written.{PlainIn, PlainsIn, TopIn, TopsIn, IsWrittenGroup, is_childless, NodeIsWritten, WrittenIn, AllWrittenIn, PartIsWritten, PartIn, PartsIn}
use Rattle.wt_schema.proofs.Elements.{Inside}

-- ---- within fewer elements

mutual
  plain_shallower : (p : Plain) (k j : ℕ) (parent : Kind) → j ≤ k → PlainIn k parent p → PlainIn j parent p
  plain_shallower (characters bs) k j parent l h = h
  plain_shallower (face_of f qs) k j parent l h =
      (h.0, (omega (arith, l, h.1.0), h.1.1, h.1.2, (h.1.3.0, plains_shallower qs (suc k) (suc j) f.kind (omega (arith, l)) h.1.3.1)))

  plains_shallower : (ps : Plains) (k j : ℕ) (parent : Kind) → j ≤ k → PlainsIn k parent ps → PlainsIn j parent ps
  plains_shallower ended k j parent l h = tt
  plains_shallower (along p ps) k j parent l h = (plain_shallower p k j parent l h.0, h.1, plains_shallower ps k j parent l h.2)

top_shallower : (p : Plain) (k j : ℕ) (parent : Kind) → j ≤ k → TopIn k parent p → TopIn j parent p
top_shallower (characters bs) k j parent l h = absurd h
top_shallower (face_of f qs) k j parent l h =
    (h.0, (omega (arith, l, h.1.0), h.1.1, h.1.2, (h.1.3.0, plains_shallower qs (suc k) (suc j) f.kind (omega (arith, l)) h.1.3.1)))

tops_shallower : (ps : Plains) (k j : ℕ) (parent : Kind) → j ≤ k → TopsIn k parent ps → TopsIn j parent ps
tops_shallower ended k j parent l h = tt
tops_shallower (along p ps) k j parent l h = (top_shallower p k j parent l h.0, tops_shallower ps k j parent l h.1)

group_shallower : (l : Label) (ts : Trees) (k j : ℕ) (parent : Kind) → j ≤ k → IsWrittenGroup k parent l ts → IsWrittenGroup j parent l ts
group_shallower l ts k j parent le h =
    record { label = h.label; elements = tops_shallower (elements_for ts) k j parent le h.elements; blocks = h.blocks }

node_shallower : (w : Writing) (k j : ℕ) (parent : Kind) (l : Label) (childless : Bool) (H I G F : Type 0) → j ≤ k → (H → I) → (G → F)
    → NodeIsWritten w k parent l childless H G → NodeIsWritten w j parent l childless I F
node_shallower AsText k j parent l childless H I G F le f g h = h
node_shallower AsVoid k j parent l childless H I G F le f g h = (omega (arith, le, h.0), h.1, h.2, h.3, f h.4)
node_shallower RoundCharacter k j parent l childless H I G F le f g h = (omega (arith, le, h.0), h.1, h.2, h.3, f h.4)
node_shallower RoundChildren k j parent l childless H I G F le f g h = (omega (arith, le, h.0), h.1, h.2, h.3, f h.4)
node_shallower (AsSection n) k j parent l childless H I G F le f g h = absurd h
node_shallower Unwritten k j parent l childless H I G F le f g h = g h

mutual
  pub written_shallower : (t : Tree) (k j : ℕ) (parent : Kind) → j ≤ k → WrittenIn k parent t → WrittenIn j parent t
  written_shallower (tree l ts) k j parent le h =
      node_shallower (writing l.kind) k j parent l (is_childless ts) (Inside k l.kind ts) (Inside j l.kind ts)
      (IsWrittenGroup k parent l ts) (IsWrittenGroup j parent l ts) le
      (λ i. (i.0, all_shallower ts (suc k) (suc j) l.kind (omega (arith, le)) i.1)) (group_shallower l ts k j parent le) h

  pub all_shallower : (ts : Trees) (k j : ℕ) (parent : Kind) → j ≤ k → AllWrittenIn k parent ts → AllWrittenIn j parent ts
  all_shallower no_trees k j parent le h = tt
  all_shallower (one_more t ts) k j parent le h = (written_shallower t k j parent le h.0, h.1, all_shallower ts k j parent le h.2)

-- ---- in a section

tops_in_section : (ps : Plains) (k : ℕ) → TopsIn k kind.Body ps → TopsIn k (kind.Section 0) ps
tops_in_section ended k h = tt
tops_in_section (along (characters bs) ps) k h = absurd h.0
tops_in_section (along (face_of f qs) ps) k h = (h.0, tops_in_section ps k h.1)

node_in_section : (w : Writing) (k : ℕ) (l : Label) (childless : Bool) (H G F : Type 0) → (G → F)
    → NodeIsWritten w k kind.Body l childless H G → NodeIsWritten w k (kind.Section 0) l childless H F
node_in_section AsText k l childless H G F f h = (
  record {
    kind = h.0.kind;
    characters = h.0.characters;
    some = h.0.some;
    stands = h.0.stands;
    shown = h.0.shown;
    id = h.0.id;
    opening = h.0.opening;
    closing = h.0.closing;
    attrs = h.0.attrs;
    origin = h.0.origin;
    mark = h.0.mark;
    mw = h.0.mw;
  },
  h.1,
)
node_in_section AsVoid k l childless H G F f h = h
node_in_section RoundCharacter k l childless H G F f h = h
node_in_section RoundChildren k l childless H G F f h = h
node_in_section (AsSection n) k l childless H G F f h = absurd h
node_in_section Unwritten k l childless H G F f h = f h

pub written_in_section : (t : Tree) (k : ℕ) → WrittenIn k kind.Body t → WrittenIn k (kind.Section 0) t
written_in_section (tree l ts) k h =
    node_in_section (writing l.kind) k l (is_childless ts) (Inside k l.kind ts) (IsWrittenGroup k kind.Body l ts) (IsWrittenGroup k (kind.Section 0) l ts)
    (λ g. record { label = g.label; elements = tops_in_section (elements_for ts) k g.elements; blocks = g.blocks }) h

-- ---- a node is a part of the body or of a section

part_by : (w : Writing) (k : ℕ) (parent : Kind) (l : Label) (childless : Bool) (H G I N : Type 0) → (NodeIsWritten w k parent l childless H G → N)
    → NodeIsWritten w k parent l childless H G → PartIsWritten w k I N
part_by AsText k parent l childless H G I N f h = f h
part_by AsVoid k parent l childless H G I N f h = f h
part_by RoundCharacter k parent l childless H G I N f h = f h
part_by RoundChildren k parent l childless H G I N f h = f h
part_by (AsSection n) k parent l childless H G I N f h = absurd h
part_by Unwritten k parent l childless H G I N f h = f h

pub node_is_part : (t : Tree) (k : ℕ) (parent : Kind) → WrittenIn k parent t → PartIn k parent t
node_is_part (tree l ts) k parent h =
    part_by (writing l.kind) k parent l (is_childless ts) (Inside k l.kind ts) (IsWrittenGroup k parent l ts)
    (PartsIn (suc k) (kind.Section 0) ts) (WrittenIn k parent (tree l ts)) (λ w. w) h
