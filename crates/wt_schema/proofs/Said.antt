-- The attributes of an element as a list: each has a name, says something and stands in a quote.
use Rattle.std.proofs.Common.{◌≡◌, ℕ, ◌<◌, ◌≤◌, ◌^◌, Bool, true, false, Option, Some, None, List, [], ◌∷◌, ◌++◌, map, flat_map, decimal, IsUtf8, chars, refl, ap, ap₂, ◌∙◌, arith, append_assoc, append-nil, codes}
use Rattle.std.specs.Prelude.{◌==◌, if◌then◌else◌}
use Rattle.std.proofs.lemmas.Bool.Decides.{nat_tests}
use Rattle.std.proofs.lemmas.Grind.{flat_map-append}
use Rattle.std.proofs.lemmas.Fmt.{decimal_is_IsNumeral}
use Rattle.std.specs.Str.Parse.{AllDigits}
use Rattle.std.proofs.lemmas.Str.Parse.{digit_from_value}
use Rattle.wt_tree.specs.declared.kind.AttrName.TheVariants as attr
use Rattle.wt_tree.specs.declared.kind.AttrName.{AttrName}
use Rattle.wt_tree.specs.declared.kind.Ranges.{Ranges}
use Rattle.wt_tree.specs.declared.node.DataMw.{DataMw}
use Rattle.wt_tree.specs.Tree.{Label}
use Rattle.wt_datamw.specs.Sync.{sync_text}
use Rattle.wt_datamw.specs.Mw.{mw_text}
use Rattle.wt_tree.specs.Kinds.{attribute_name, fixed_attributes}
use Rattle.wt_schema.specs.Escapes.{is_control, escape, escape_double, escaped_double, escaped_single}
use Rattle.wt_schema.specs.Html.{attribute, attributes, id_attribute, mw_attribute, sync_of, sync_start, sync_value, sync_attribute, carried_attributes, attributes_of, about_attribute, with_type, first_attributes, next_attributes}
use Rattle.wt_html_grammar.specs.Signs.{is_among, IsAttributeName}
use Rattle.wt_html_grammar.specs.Grammar.{Attribute, spell_attribute, spell_attributes, IsAttribute, AreAttributes}
use Rattle.wt_html_grammar.specs.Markup.{Pair, pair_of}
use Rattle.wt_html_grammar.proofs.Steps.{if_false}
use Rattle.wt_schema.proofs.Pieces.{double_piece, single_piece, spells_double, spells_single, pieces_spelled, pieces_stand, pieces_good}

-- in `"` or in `'`
pub data Said : Type 0 where
  double : AttrName → List ℕ → Said
  single : AttrName → List ℕ → Said

abbrev pub said_text : Said → List ℕ
said_text (double n v) = 32 ∷ (attribute_name n ++ (61 ∷ 34 ∷ (escaped_double v ++ 34 ∷ [])))
said_text (single n v) = 32 ∷ (attribute_name n ++ (61 ∷ 39 ∷ (escaped_single v ++ 39 ∷ [])))

abbrev pub pair_said : Said → Pair
pair_said (double n v) = (attribute_name n, v)
pair_said (single n v) = (attribute_name n, v)

-- as the grammar has it
abbrev pub attribute_for : Said → Attribute
attribute_for (double n v) = record { gap = 32 ∷ []; name = attribute_name n; left = []; right = []; quote = 34; value = map double_piece (chars v) }
attribute_for (single n v) = record { gap = 32 ∷ []; name = attribute_name n; left = []; right = []; quote = 39; value = map single_piece (chars v) }

abbrev pub attributes_for : List Said → List Attribute
attributes_for ss = map attribute_for ss

-- ---- the attributes of a label

abbrev pub own_said : AttrName × List ℕ → Said
own_said a = double a.0 a.1

abbrev pub id_said : ℕ → List Said
id_said id = if id == 0 then [] else double attr.Id (109 ∷ 119 ∷ decimal id) ∷ []

abbrev pub mw_said : Option DataMw → List Said
mw_said None = []
mw_said (Some d) = single attr.DataMw (mw_text d) ∷ []

abbrev pub sync_said : Label → Option Ranges → List Said
sync_said l None = []
sync_said l (Some r) = single attr.DataParsoid (sync_text (sync_of l r)) ∷ []

-- the one that the kind alone tells, and the node's own
abbrev pub whole : Label → List (AttrName × List ℕ)
whole l = fixed_attributes l.kind ++ l.attrs

abbrev pub said_of : Label → List Said
said_of l = map own_said (whole l) ++ (id_said l.id ++ (mw_said l.mw ++ sync_said l l.ranges))

-- ---- they are spelled as they are written

pub own_text : (xs : List (AttrName × List ℕ)) → flat_map said_text (map own_said xs) ≡ attributes xs
unfolding attribute
own_text [] = refl
own_text (x ∷ xs) = ap (λ y. said_text (own_said x) ++ y) (own_text xs)

digit_plain : (d : ℕ) → 48 ≤ d → d ≤ 57 → escape_double d ≡ d ∷ []
unfolding escape_double escape
digit_plain d l h =
    if_false (d == 34) _ _ (differ d 34 (omega arith)) ∙ if_false (d == 38) _ _ (differ d 38 (omega arith))
    ∙ if_false (d == 60) _ _ (differ_up d 60 (omega arith))
    ∙ if_false (d == 62) _ _ (differ_up d 62 (omega arith)) ∙ if_false (is_control d) _ _ (no_control d l)
  where
    differ : (c d : ℕ) → d < c → (c == d) ≡ false
    differ c d h = grind (arith, nat_tests)

    differ_up : (c d : ℕ) → c < d → (c == d) ≡ false
    differ_up c d h = grind (arith, nat_tests)

    no_control : (c : ℕ) → 48 ≤ c → is_control c ≡ false
    no_control c h = grind (arith, nat_tests)

pub digits_plain : (ds : List ℕ) → AllDigits 10 ds → escaped_double ds ≡ ds
digits_plain [] h = refl
digits_plain (d ∷ ds) h = let q = digit_from_value d h.0 in ap₂ (λ (x y : List ℕ). x ++ y) (digit_plain d (omega arith) (omega arith)) (digits_plain ds h.1)

id_text : (id : ℕ) → id < 2 ^ 64 → flat_map said_text (id_said id) ≡ id_attribute id
unfolding id_attribute escape_double escape attribute_name
id_text id h = by_test (id == 0) (digits_plain (decimal id) (decimal_is_IsNumeral id h).0.1)
  where
    by_test : (t : Bool) → escaped_double (decimal id) ≡ decimal id
        → flat_map said_text (if t then [] else double attr.Id (109 ∷ 119 ∷ decimal id) ∷ [])
        ≡ (if t then [] else codes " id=\"mw" ++ (decimal id ++ codes "\""))
    by_test true e = refl
    by_test false e = append-nil _ ∙ ap (λ x. codes " id=\"mw" ++ (x ++ codes "\"")) e

mw_said_text : (o : Option DataMw) → flat_map said_text (mw_said o) ≡ mw_attribute o
unfolding mw_attribute attribute_name
mw_said_text None = refl
mw_said_text (Some d) = append-nil _

sync_said_text : (l : Label) (o : Option Ranges) → flat_map said_text (sync_said l o) ≡ sync_attribute l o
unfolding sync_attribute sync_value sync_start attribute_name
sync_said_text l None = refl
sync_said_text l (Some r) = append-nil _

-- the number and the data
abbrev pub carried : Label → List Said
carried l = id_said l.id ++ (mw_said l.mw ++ sync_said l l.ranges)

carried_is : (l : Label) → l.id < 2 ^ 64 → flat_map said_text (carried l) ≡ carried_attributes l
carried_is l h =
    flat_map-append said_text (id_said l.id) _
    ∙ ap₂ (λ (x y : List ℕ). x ++ y) (id_text l.id h)
    (flat_map-append said_text (mw_said l.mw) _ ∙ ap₂ (λ (x y : List ℕ). x ++ y) (mw_said_text l.mw) (sync_said_text l l.ranges))

pub said_is : (l : Label) → l.id < 2 ^ 64 → flat_map said_text (said_of l) ≡ attributes_of l
unfolding attributes_of
said_is l h =
    flat_map-append said_text (map own_said (whole l)) _
    ∙ ap₂ (λ (x y : List ℕ). x ++ y) (own_text (whole l) ∙ flat_map-append attribute (fixed_attributes l.kind) l.attrs) (carried_is l h)
    ∙ append_assoc (attributes (fixed_attributes l.kind)) (attributes l.attrs) _

-- ---- the attributes of elements in a group

abbrev pub face_said : List (AttrName × List ℕ) → List Said
face_said xs = map own_said xs ++ []

abbrev pub about_value : ℕ → List ℕ
about_value k = codes "#mwt" ++ decimal k

-- with the group's number before them, and in the first element the group's word, number and data
abbrev pub next_said : ℕ → List (AttrName × List ℕ) → List Said
next_said k xs = face_said ((attr.About, about_value k) ∷ xs)

abbrev pub first_said : ℕ → Label → List (AttrName × List ℕ) → List Said
first_said k l xs = map own_said ((attr.About, about_value k) ∷ with_type l.attrs xs) ++ carried l

pub face_is : (xs : List (AttrName × List ℕ)) → flat_map said_text (face_said xs) ≡ attributes xs
face_is xs = ap (flat_map said_text) (append-nil (map own_said xs)) ∙ own_text xs

about_text : (k : ℕ) → k < 2 ^ 64 → said_text (double attr.About (about_value k)) ≡ about_attribute k
unfolding about_attribute escape_double escape attribute_name
about_text k h = ap (λ x. codes " about=\"#mwt" ++ (x ++ codes "\"")) (digits_plain (decimal k) (decimal_is_IsNumeral k h).0.1)

pub next_is : (k : ℕ) (xs : List (AttrName × List ℕ)) → k < 2 ^ 64 → flat_map said_text (next_said k xs) ≡ next_attributes k xs
unfolding next_attributes
next_is k xs h = ap₂ (λ (x y : List ℕ). x ++ y) (about_text k h) (face_is xs)

pub first_is : (k : ℕ) (l : Label) (xs : List (AttrName × List ℕ)) → k < 2 ^ 64 → l.id < 2 ^ 64
    → flat_map said_text (first_said k l xs) ≡ first_attributes k l xs
unfolding first_attributes
first_is k l xs h small =
    ap₂ (λ (x y : List ℕ). x ++ y) (about_text k h)
    (flat_map-append said_text (map own_said (with_type l.attrs xs)) _
    ∙ ap₂ (λ (x y : List ℕ). x ++ y) (own_text (with_type l.attrs xs)) (carried_is l small))

-- ---- they are attributes of the grammar

abbrev pub said_name : Said → List ℕ
said_name (double n v) = attribute_name n
said_name (single n v) = attribute_name n

abbrev pub said_value : Said → List ℕ
said_value (double n v) = v
said_value (single n v) = v

-- names that may stand there, each once and none of those before, and values in UTF-8
abbrev pub AreGood : List (List ℕ) → List Said → Type 0
AreGood before [] = Unit {0}
AreGood before (s ∷ ss) = IsAttributeName (said_name s) × IsUtf8 (said_value s) × (is_among (said_name s) before ≡ false)
    × AreGood (before ++ said_name s ∷ []) ss

spelled_one : (s : Said) → IsUtf8 (said_value s) → spell_attribute (attribute_for s) ≡ said_text s
spelled_one (double n v) u = ap (λ x. 32 ∷ (attribute_name n ++ (61 ∷ 34 ∷ (x ++ 34 ∷ [])))) (pieces_spelled _ _ _ spells_double v u)
spelled_one (single n v) u = ap (λ x. 32 ∷ (attribute_name n ++ (61 ∷ 39 ∷ (x ++ 39 ∷ [])))) (pieces_spelled _ _ _ spells_single v u)

pub said_spelled : (before : List (List ℕ)) (ss : List Said) → AreGood before ss → spell_attributes (attributes_for ss) ≡ flat_map said_text ss
said_spelled before [] h = refl
said_spelled before (s ∷ ss) h = ap₂ (λ (x y : List ℕ). x ++ y) (spelled_one s h.1) (said_spelled (before ++ said_name s ∷ []) ss h.3)

pair_one : (s : Said) → IsUtf8 (said_value s) → pair_of (attribute_for s) ≡ pair_said s
pair_one (double n v) u = ap (λ x. (attribute_name n, x)) (pieces_stand _ _ _ spells_double v u)
pair_one (single n v) u = ap (λ x. (attribute_name n, x)) (pieces_stand _ _ _ spells_single v u)

pub said_pairs : (before : List (List ℕ)) (ss : List Said) → AreGood before ss → map pair_of (attributes_for ss) ≡ map pair_said ss
said_pairs before [] h = refl
said_pairs before (s ∷ ss) h = ap₂ (λ x y. x ∷ y) (pair_one s h.1) (said_pairs (before ++ said_name s ∷ []) ss h.3)

good_one : (s : Said) → IsAttributeName (said_name s) → IsUtf8 (said_value s) → IsAttribute (attribute_for s)
good_one (double n v) h u = ((refl, tt), h, pieces_good _ _ _ spells_double v u, refl, tt, tt)
good_one (single n v) h u = ((refl, tt), h, pieces_good _ _ _ spells_single v u, refl, tt, tt)

pub said_good : (before : List (List ℕ)) (ss : List Said) → AreGood before ss → AreAttributes before (attributes_for ss)
said_good before [] h = tt
said_good before (double n v ∷ ss) h = (good_one (double n v) h.0 h.1, h.2, said_good (before ++ attribute_name n ∷ []) ss h.3)
said_good before (single n v ∷ ss) h = (good_one (single n v) h.0 h.1, h.2, said_good (before ++ attribute_name n ∷ []) ss h.3)
