-- What stands for the body or for a section is bared: sections lose their numbers, and nothing else changes.
use Rattle.std.proofs.Common.{◌≡◌, ℕ, suc, ◌+◌, ◌<◌, ◌^◌, Bool, true, false, List, [], ◌∷◌, ◌++◌, refl, sym, ap, ◌∙◌, subst, arith, codes}
use Rattle.std.specs.Prelude.{filter, if◌then◌else◌}
use Rattle.wt_tree.specs.declared.kind.AttrName.{AttrName}
use Rattle.wt_tree.specs.declared.kind.Kind.{Kind}
use Rattle.wt_tree.specs.declared.kind.Kind.TheVariants as kind
use Rattle.wt_tree.specs.declared.row.Writing.{Writing}
use Rattle.wt_tree.specs.declared.row.Writing.TheVariants.{AsText, AsVoid, RoundCharacter, RoundChildren, AsSection, Unwritten}
use Rattle.wt_tree.specs.Kinds.{writing, may_hold, fixed_attributes, element_name}
use Rattle.wt_tree.specs.Plain.{Face, text as characters, element as face_of, Plains, ended, along}
use Rattle.wt_recut.specs.Cutting.{begins_with_text}
use Rattle.wt_tree.specs.Tree.{Label, Tree, tree, Trees, none as no_trees, more as one_more}
use Rattle.wt_schema.specs.Html.{groups, groups_of_all}
use Rattle.wt_html_grammar.specs.Markup.{Pair, Markup, Markups, text, node, empty, more, flush}
use Rattle.wt_html_grammar.proofs.Steps.{if_false}
use Rattle.wt_schema.specs.Data.{is_empty}
use Rattle.wt_schema.specs.Fit.{are_blank}
use Rattle.wt_schema.specs.Rows.{holds_text}
use Rattle.wt_schema.specs.Sections.{is_section_name, is_mark_pair, all_bared}
use Rattle.wt_schema.proofs.SectionNames.{no_section}
use Rattle.wt_schema.specs.GroupNodes.{elements_for, is_ended}
use Rattle.wt_schema.specs.Written.{value_at, IsElementLabel, IsWrittenGroup, is_childless, NodeIsWritten, TopIn, TopsIn, WrittenIn, PartIn, PartsIn}
use Rattle.wt_schema.proofs.Said.{said_of}
use Rattle.wt_schema.proofs.Order.{pairs}
use Rattle.wt_schema.proofs.Rows.{element_kind, numbered, held_kind, held_numbered}
use Rattle.wt_schema.proofs.Faces.{held_somewhere}
use Rattle.wt_schema.proofs.Tags.{node_with, text_before}
use Rattle.wt_schema.proofs.GroupItems.{plains_markups, top_said, group_markups}
use Rattle.wt_schema.proofs.Elements.{Inside, marked_up, markup_before, markups_of}
use Rattle.wt_schema.proofs.Steps.{Fresh}
use Rattle.wt_schema.proofs.Ordered.{blank_before}
use Rattle.wt_schema.proofs.Fits.{before_none, before_other, fresh_one}
use Rattle.wt_schema.proofs.SectionItems.{by_part}

-- ---- a text, an element and a group stay as they are

text_bared : (own : List ℕ) (ms : Markups) → all_bared (text_before own ms) ≡ text_before own (all_bared ms)
text_bared [] ms = refl
text_bared (b ∷ bs) empty = refl
text_bared (b ∷ bs) (more (text cs) ms) = refl
text_bared (b ∷ bs) (more (node name ps c) ms) = by_test (is_section_name name)
  where
    by_test : (t : Bool)
        → more (text (b ∷ bs)) (more (if t then node name (filter is_mark_pair ps) (all_bared c) else node name ps c) (all_bared ms))
        ≡ text_before (b ∷ bs) (more (if t then node name (filter is_mark_pair ps) (all_bared c) else node name ps c) (all_bared ms))
    by_test true = refl
    by_test false = refl

other_bared : (name : List ℕ) (ps : List Pair) (c ms : Markups) → is_section_name name ≡ false
    → all_bared (more (node name ps c) ms) ≡ more (node name ps c) (all_bared ms)
other_bared name ps c ms e = ap (λ t. more t (all_bared ms)) (if_false (is_section_name name) _ _ e)

element_other : (parent : Kind) (l : Label) → may_hold parent l.kind ≡ true → IsElementLabel l → is_section_name (element_name l.kind) ≡ false
element_other parent l h e =
    let xs : List (AttrName × List ℕ) = fixed_attributes l.kind ++ l.attrs in
    no_section (element_name l.kind) (value_at 1 xs) (value_at 2 xs) (value_at 3 xs) l.kind
    ((held_kind parent l h e).row (held_numbered parent l h e.element))

face_other : (parent : Kind) (f : Face) (qs : Plains) (k : ℕ) → TopIn k parent (face_of f qs) → is_section_name (element_name f.kind) ≡ false
face_other parent f qs k h =
    let xs : List (AttrName × List ℕ) = fixed_attributes f.kind ++ f.attrs in
    let s = held_somewhere parent f.kind (is_ended qs) h.0 h.1.1.element in
    no_section (element_name f.kind) (value_at 1 xs) (value_at 2 xs) (value_at 3 xs) f.kind
    ((element_kind f.kind f.attrs s h.1.1.level h.1.1.attrs).row (numbered f.kind s))

group_bared : (es : Plains) (first : Bool) (g : ℕ) (l : Label) (k : ℕ) (parent : Kind) (rest : Markups) → TopsIn k parent es
    → all_bared (group_markups first g l es rest) ≡ group_markups first g l es (all_bared rest)
group_bared ended first g l k parent rest h = refl
group_bared (along (characters bs) ps) first g l k parent rest h = absurd h.0
group_bared (along (face_of f qs) ps) first g l k parent rest h =
    other_bared (element_name f.kind) (pairs (top_said first g l f)) (plains_markups qs) (group_markups false g l ps rest) (face_other parent f qs k h.0)
    ∙ ap (more (node_with f.kind (top_said first g l f) (plains_markups qs))) (group_bared ps false g l k parent rest h.1)

bared_by : (w : Writing) (k : ℕ) (parent : Kind) (l : Label) (childless : Bool) (H : Type 0) (ts : Trees) (m rest : Markups) (i : ℕ)
    → NodeIsWritten w k parent l childless H (IsWrittenGroup k parent l ts)
    → all_bared (marked_up w l m (group_markups true i l (elements_for ts) rest) rest)
    ≡ marked_up w l m (group_markups true i l (elements_for ts) (all_bared rest)) (all_bared rest)
bared_by AsText k parent l childless H ts m rest i h = text_bared l.own rest
bared_by AsVoid k parent l childless H ts m rest i h =
    other_bared (element_name l.kind) (pairs (said_of l)) empty rest (element_other parent l h.1 h.2)
bared_by RoundCharacter k parent l childless H ts m rest i h =
    other_bared (element_name l.kind) (pairs (said_of l)) (flush l.shown empty) rest (element_other parent l h.1 h.2)
bared_by RoundChildren k parent l childless H ts m rest i h =
    other_bared (element_name l.kind) (pairs (said_of l)) m rest (element_other parent l h.1 h.2)
bared_by (AsSection n) k parent l childless H ts m rest i h = absurd h
bared_by Unwritten k parent l childless H ts m rest i h = group_bared (elements_for ts) true i l k parent rest h.elements

pub node_bared : (t : Tree) (k : ℕ) (parent : Kind) (i : ℕ) (rest : Markups) → WrittenIn k parent t
    → all_bared (markup_before i t rest) ≡ markup_before i t (all_bared rest)
node_bared (tree l ts) k parent i rest h =
    bared_by (writing l.kind) k parent l (is_childless ts) (Inside k l.kind ts) ts (markups_of i ts) rest (suc i) h

-- ---- a section

abbrev pub bare_section : Markups → Markup
bare_section m = node (codes "section") [] m

pub section_bared : (n : ℕ) (l : Label) (ts : Trees) (i : ℕ) (rest : Markups) → writing l.kind ≡ AsSection n
    → all_bared (markup_before i (tree l ts) rest) ≡ more (bare_section (all_bared (markups_of i ts))) (all_bared rest)
section_bared n l ts i rest e =
    ap (λ w. all_bared (marked_up w l (markups_of i ts) (group_markups true (suc i) l (elements_for ts) rest) rest)) e

-- ---- no texts stand there

part_blank : (t : Tree) (k : ℕ) (parent : Kind) (i : ℕ) (rest : Markups) → holds_text parent ≡ false → PartIn k parent t
    → are_blank (all_bared rest) ≡ true → are_blank (all_bared (markup_before i t rest)) ≡ true
part_blank (tree l ts) k parent i rest e h f =
    by_part (are_blank (all_bared (markup_before i (tree l ts) rest)) ≡ true) (writing l.kind) k (PartsIn (suc k) (kind.Section 0) ts)
    (WrittenIn k parent (tree l ts)) h
    (λ w. ap are_blank (node_bared (tree l ts) k parent i rest w) ∙ blank_before (tree l ts) k parent i (all_bared rest) e w f)
    (λ n s d q g. ap are_blank (section_bared n l ts i rest s) ∙ f)

pub parts_blank : (ts : Trees) (k : ℕ) (parent : Kind) (i : ℕ) → holds_text parent ≡ false → PartsIn k parent ts → are_blank (all_bared (markups_of i ts)) ≡ true
parts_blank no_trees k parent i e h = refl
parts_blank (one_more t ts) k parent i e h =
    part_blank t k parent i (markups_of (i + groups t) ts) e h.0 (parts_blank ts k parent (i + groups t) e h.2)

-- ---- no element is a further one of a group before it

part_fresh : (t : Tree) (k : ℕ) (parent : Kind) (i : ℕ) (rest : Markups) → PartIn k parent t → i + groups t < 2 ^ 64
    → Fresh (all_bared rest) → Fresh (all_bared (markup_before i t rest))
part_fresh (tree l ts) k parent i rest h b x =
    by_part (Fresh (all_bared (markup_before i (tree l ts) rest))) (writing l.kind) k (PartsIn (suc k) (kind.Section 0) ts)
    (WrittenIn k parent (tree l ts)) h
    (λ w. subst Fresh (sym (node_bared (tree l ts) k parent i rest w)) (fresh_one (tree l ts) k parent i (all_bared rest) w b x))
    (λ n s d q g. subst Fresh (sym (section_bared n l ts i rest s)) (λ group. refl))

pub parts_fresh : (ts : Trees) (k : ℕ) (parent : Kind) (i : ℕ) → PartsIn k parent ts → i + groups_of_all ts < 2 ^ 64 → Fresh (all_bared (markups_of i ts))
parts_fresh no_trees k parent i h b = tt
parts_fresh (one_more t ts) k parent i h b =
    part_fresh t k parent i (markups_of (i + groups t) ts) h.0 (omega (arith, b)) (parts_fresh ts k parent (i + groups t) h.2 (omega (arith, b)))

-- ---- a text before what begins with none stands alone

before_section : (own : List ℕ) (m ms : Markups) → is_empty own ≡ false
    → text_before own (more (bare_section m) ms) ≡ more (text own) (more (bare_section m) ms)
before_section [] m ms e = absurd (cc e)
before_section (b ∷ bs) m ms e = refl

pub before_parts : (ts : Trees) (k : ℕ) (parent : Kind) (i : ℕ) (own : List ℕ) → PartsIn k parent ts → begins_with_text ts ≡ false → is_empty own ≡ false
    → text_before own (all_bared (markups_of i ts)) ≡ more (text own) (all_bared (markups_of i ts))
before_parts no_trees k parent i own h e s = before_none own s
before_parts (one_more (tree l us) ts) k parent i own h e s =
    let rest : Markups = markups_of (i + groups (tree l us)) ts in
    let here : Markups = all_bared (markup_before i (tree l us) rest) in
    by_part (text_before own here ≡ more (text own) here) (writing l.kind) k (PartsIn (suc k) (kind.Section 0) us) (WrittenIn k parent (tree l us)) h.0
    (λ w. ap (text_before own) (node_bared (tree l us) k parent i rest w)
    ∙ before_other (writing l.kind) own k parent l (is_childless us) (Inside k l.kind us) us (suc i) (markups_of i us) (all_bared rest) e w s
    ∙ ap (more (text own)) (sym (node_bared (tree l us) k parent i rest w)))
    (λ n f d q g. ap (text_before own) (section_bared n l us i rest f)
    ∙ before_section own (all_bared (markups_of i us)) (all_bared rest) s
    ∙ ap (more (text own)) (sym (section_bared n l us i rest f)))
