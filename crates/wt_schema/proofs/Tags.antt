-- Characters and elements as the grammar has them: how they are spelled, that they are good, and what
-- they stand for.
use Rattle.std.proofs.Common.{◌≡◌, ℕ, suc, ◌<◌, true, false, List, [], ◌∷◌, ◌++◌, map, flat_map, decimal, IsUtf8, chars, refl, sym, ap, ap₂, ◌∙◌, append_assoc, append-nil, codes}
use Rattle.wt_tree.specs.declared.kind.Kind.{Kind}
use Rattle.wt_tree.specs.Kinds.{element_name}
use Rattle.wt_schema.specs.Escapes.{escaped}
use Rattle.wt_schema.specs.Html.{tag_of, end_tag_of}
use Rattle.wt_html_grammar.specs.Signs.{in_text, is_void, IsName}
use Rattle.wt_html_grammar.specs.Grammar.{Piece, spell_piece, spell_pieces, ArePieces, Attribute, spell_attributes, slash, Element, Items, element, void, none, sign, spell, spell_items, IsElement, AreItems}
use Rattle.wt_html_grammar.specs.Markup.{Pair, Markup, Markups, text, node, empty, more, unit_of, flush, meaning, contents}
use Rattle.wt_schema.proofs.Pieces.{text_piece, double_piece, spells_text, pieces_spelled, pieces_stand}
use Rattle.wt_schema.proofs.Said.{Said, attributes_for, said_pairs, said_good, AreGood}
use Rattle.wt_schema.proofs.Order.{pairs}

abbrev pub pieces : List ℕ → List Piece
pieces bs = map text_piece (chars bs)

abbrev pub signs : List Piece → Items → Items
signs [] items = items
signs (p ∷ ps) items = sign p (signs ps items)

-- an element of this kind with these attributes
abbrev pub element_with : Kind → List Said → Items → Element
element_with k ss inside = element (element_name k) (attributes_for ss) [] inside []

abbrev pub void_with : Kind → List Said → Element
void_with k ss = void (element_name k) (attributes_for ss) [] slash

abbrev pub node_with : Kind → List Said → Markups → Markup
node_with k ss inside = node (element_name k) (pairs ss) inside

-- a section round what it holds: its number is its one attribute
abbrev pub section_attribute : ℕ → Attribute
section_attribute n = record {
  gap = 32 ∷ [];
  name = codes "data-mw-section-id";
  left = [];
  right = [];
  quote = 34;
  value = map double_piece (chars (decimal n));
}

abbrev pub section_for : ℕ → Items → Element
section_for n inside = element (codes "section") (section_attribute n ∷ []) [] inside []

abbrev pub section_markup : ℕ → Markups → Markup
section_markup n inside = node (codes "section") ((codes "data-mw-section-id", decimal n) ∷ []) inside

-- ---- spelling

pub signs_spelled : (ps : List Piece) (items : Items) → spell_items (signs ps items) ≡ spell_pieces ps ++ spell_items items
signs_spelled [] items = refl
signs_spelled (p ∷ ps) items = ap (λ x. spell_piece p ++ x) (signs_spelled ps items) ∙ sym (append_assoc (spell_piece p) (spell_pieces ps) (spell_items items))

pub character_spelled : (bs : List ℕ) → IsUtf8 bs → spell_items (signs (pieces bs) none) ≡ escaped bs
character_spelled bs u = signs_spelled (pieces bs) none ∙ append-nil _ ∙ pieces_spelled _ _ _ spells_text bs u

pub with_spelled : (k : Kind) (ss : List Said) (attrs bytes : List ℕ) (inside : Items) → spell_attributes (attributes_for ss) ≡ attrs
    → spell_items inside ≡ bytes → spell (element_with k ss inside) ≡ tag_of k attrs (codes ">") ++ (bytes ++ end_tag_of k)
with_spelled k ss attrs bytes inside e f =
    let n : List ℕ = element_name k in
    ap₂ (λ (a b : List ℕ). 60 ∷ (n ++ (a ++ (62 ∷ (b ++ (60 ∷ 47 ∷ (n ++ 62 ∷ []))))))) e f ∙ simp append_assoc

pub void_with_spelled : (k : Kind) (ss : List Said) (attrs : List ℕ) → spell_attributes (attributes_for ss) ≡ attrs
    → spell (void_with k ss) ≡ tag_of k attrs (codes "/>")
void_with_spelled k ss attrs e = ap (λ (a : List ℕ). 60 ∷ (element_name k ++ (a ++ codes "/>"))) e

-- ---- they are good

pub signs_good : (ps : List Piece) (k : ℕ) (items : Items) → ArePieces in_text ps → AreItems k items → AreItems k (signs ps items)
signs_good [] k items h i = i
signs_good (p ∷ ps) k items h i = (h.0, signs_good ps k items h.1 i)

pub with_good : (k : Kind) (ss : List Said) (depth : ℕ) (inside : Items) → depth < 200 → IsName (element_name k) → is_void (element_name k) ≡ false
    → AreGood [] ss → AreItems (suc depth) inside → IsElement depth (element_with k ss inside)
with_good k ss depth inside h n v g i = (h, n, said_good [] ss g, tt, i, tt, v)

pub void_with_good : (k : Kind) (ss : List Said) (depth : ℕ) → depth < 200 → IsName (element_name k) → is_void (element_name k) ≡ true
    → AreGood [] ss → IsElement depth (void_with k ss)
void_with_good k ss depth h n v g = (h, n, said_good [] ss g, tt, v)

-- ---- what they stand for

-- a text before others: it is joined with a text that follows, and left out where it is empty
abbrev pub text_before : List ℕ → Markups → Markups
text_before [] ms = ms
text_before (b ∷ bs) empty = more (text (b ∷ bs)) empty
text_before (b ∷ bs) (more (text cs) ms) = more (text ((b ∷ bs) ++ cs)) ms
text_before (b ∷ bs) (more (node name ps c) ms) = more (text (b ∷ bs)) (more (node name ps c) ms)

-- a run of characters goes on
pub signs_stand : (ps : List Piece) (run : List ℕ) (items : Items) → contents run (signs ps items) ≡ contents (run ++ flat_map unit_of ps) items
signs_stand [] run items = ap (λ r. contents r items) (sym (append-nil run))
signs_stand (p ∷ ps) run items = signs_stand ps (run ++ unit_of p) items ∙ ap (λ r. contents r items) (append_assoc run (unit_of p) (flat_map unit_of ps))

pub text_twice : (bs cs : List ℕ) (ms : Markups) → text_before bs (text_before cs ms) ≡ text_before (bs ++ cs) ms
text_twice [] cs ms = refl
text_twice (b ∷ bs) [] ms = ap (λ (xs : List ℕ). text_before (b ∷ xs) ms) (sym (append-nil bs))
text_twice (b ∷ bs) (c ∷ cs) empty = refl
text_twice (b ∷ bs) (c ∷ cs) (more (text ds) ms) = ap (λ xs. more (text (b ∷ xs)) ms) (sym (append_assoc bs (c ∷ cs) ds))
text_twice (b ∷ bs) (c ∷ cs) (more (node name ps inside) ms) = refl

pub text_empty : (run : List ℕ) → flush run empty ≡ text_before run empty
text_empty [] = refl
text_empty (b ∷ bs) = refl

pub text_node : (run : List ℕ) (name : List ℕ) (ps : List Pair) (c ms : Markups)
    → flush run (more (node name ps c) ms) ≡ text_before run (more (node name ps c) ms)
text_node [] name ps c ms = refl
text_node (b ∷ bs) name ps c ms = refl

pub character_stands : (bs : List ℕ) → IsUtf8 bs → contents [] (signs (pieces bs) none) ≡ flush bs empty
character_stands bs u = signs_stand (pieces bs) [] none ∙ ap (λ r. flush r empty) (pieces_stand _ _ _ spells_text bs u)

pub with_stands : (k : Kind) (ss : List Said) (inside : Items) (m : Markups) → AreGood [] ss → contents [] inside ≡ m
    → meaning (element_with k ss inside) ≡ node_with k ss m
with_stands k ss inside m g e = ap₂ (node (element_name k)) (said_pairs [] ss g) e

pub void_with_stands : (k : Kind) (ss : List Said) → AreGood [] ss → meaning (void_with k ss) ≡ node_with k ss empty
void_with_stands k ss g = ap (λ ps. node (element_name k) ps empty) (said_pairs [] ss g)
