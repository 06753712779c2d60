-- Texts and separators are cut in the same way with their ranges and without.
use Rattle.std.proofs.Common.{◌≡◌, ℕ, Bool, true, false, Option, None, List, [], ◌∷◌, ◌++◌, length, refl, sym, ap, ap₂, ◌∙◌}
use Rattle.std.specs.Prelude.{◌||◌, ◌&&◌, if◌then◌else◌}
use Rattle.wt_tree.specs.declared.kind.Ranges.{Ranges}
use Rattle.wt_tree.specs.declared.row.Writing.{Writing}
use Rattle.wt_tree.specs.declared.row.Writing.TheVariants.{AsText, AsVoid, RoundCharacter, RoundChildren, AsSection, Unwritten}
use Rattle.wt_tree.specs.Kinds.{writing, is_block}
use Rattle.wt_tree.specs.Tiling.{is_group}
use Rattle.wt_tree.specs.Tree.{Label, Tree, tree, Trees, none, more, label}
use Rattle.wt_tree.specs.Leaves.{text_leaf, sep_leaf}
use Rattle.wt_recut.specs.Recut.{is_blank, has_break, is_as_text, is_text, shows_block, any_shows_block, is_border, is_passed, leads_to_block, front_ranges, rest_ranges, joined_ranges, text_onto, onto, joined_texts, from_start, front_of, rest_of, parts_before, text_before, cut_before, cut_from, recut}
use Rattle.wt_schema.specs.GroupNodes.{group_nodes}
use Rattle.wt_schema.specs.Written.{ranges_read, label_read, unranged, unranged_all}

-- what is read of a node that is no group
pub others_read : (l : Label) (ts : Trees) → is_group l.kind ≡ false → unranged (tree l ts) ≡ tree (label_read l) (unranged_all ts)
others_read l ts e = ap (λ x. tree (label_read l) (if x then group_nodes ts else unranged_all ts)) e

-- a group shows a block where one of its elements is one
abbrev pub SameBlocks : Tree → Type 0
SameBlocks (tree l ts) = is_group l.kind ≡ true → any_shows_block (group_nodes ts) ≡ any_shows_block ts

abbrev pub AllSame : Trees → Type 0
AllSame none = Unit {0}
AllSame (more t ts) = SameBlocks t × AllSame ts

shows_same : (t : Tree) → SameBlocks t → shows_block (unranged t) ≡ shows_block t
shows_same (tree l ts) h = by_test (is_group l.kind) h
  where
    by_test : (x : Bool) → (x ≡ true → any_shows_block (group_nodes ts) ≡ any_shows_block ts)
        → (if x then any_shows_block (if x then group_nodes ts else unranged_all ts) else is_block l.kind)
        ≡ (if x then any_shows_block ts else is_block l.kind)
    by_test true h = h refl
    by_test false h = refl

border_same : (t : Tree) → SameBlocks t → is_border (unranged t) ≡ is_border t
border_same (tree l ts) h = ap (λ x. if is_as_text (writing l.kind) then has_break l.own else x) (shows_same (tree l ts) h)

passed_same : (t : Tree) → is_passed (unranged t) ≡ is_passed t
passed_same (tree l ts) = refl

leads_same : (ts : Trees) → AllSame ts → leads_to_block (unranged_all ts) ≡ leads_to_block ts
leads_same none h = refl
leads_same (more t ts) h = ap₂ (λ x y. x || y) (shows_same t h.0) (ap₂ (λ x y. x && y) (passed_same t) (leads_same ts h.1))

text_ranges : (l : Label) → is_as_text (writing l.kind) ≡ true → ranges_read (writing l.kind) l.ranges ≡ None
text_ranges l e = by_writing (writing l.kind) e
  where
    by_writing : (w : Writing) → is_as_text w ≡ true → ranges_read w l.ranges ≡ None
    by_writing AsText e = refl
    by_writing AsVoid e = absurd (cc e)
    by_writing RoundCharacter e = absurd (cc e)
    by_writing RoundChildren e = absurd (cc e)
    by_writing (AsSection n) e = absurd (cc e)
    by_writing Unwritten e = absurd (cc e)

text_same : (r : Option Ranges) (own : List ℕ) (ts : Trees) → unranged_all (text_onto r own ts) ≡ text_onto None own (unranged_all ts)
text_same r [] ts = refl
text_same r (b ∷ bs) none = refl
text_same r (b ∷ bs) (more (tree l us) ts) = by_test (is_as_text (writing l.kind))
  where
    by_test : (x : Bool)
        → unranged_all (if x then more (sep_leaf (joined_ranges r l.ranges) ((b ∷ bs) ++ l.own)) ts else more (sep_leaf r (b ∷ bs)) (more (tree l us) ts))
        ≡ (if x then more (sep_leaf (joined_ranges None (ranges_read (writing l.kind) l.ranges)) ((b ∷ bs) ++ l.own))
        (unranged_all ts) else more (sep_leaf None (b ∷ bs)) (unranged_all (more (tree l us) ts)))
    by_test true = refl
    by_test false = refl

onto_same : (t : Tree) (ts : Trees) → unranged_all (onto t ts) ≡ onto (unranged t) (unranged_all ts)
onto_same (tree l us) ts = by_test (is_as_text (writing l.kind)) refl
  where
    by_test : (x : Bool) → is_as_text (writing l.kind) ≡ x
        → unranged_all (if x then text_onto l.ranges l.own ts else more (tree l us) ts)
        ≡ (if x then text_onto (ranges_read (writing l.kind) l.ranges) l.own (unranged_all ts) else more (unranged (tree l us)) (unranged_all ts))
    by_test true e = text_same l.ranges l.own ts ∙ ap (λ r. text_onto r l.own (unranged_all ts)) (sym (text_ranges l e))
    by_test false e = refl

joined_same : (ts : Trees) → unranged_all (joined_texts ts) ≡ joined_texts (unranged_all ts)
joined_same none = refl
joined_same (more t ts) = onto_same t (joined_texts ts) ∙ ap (onto (unranged t)) (joined_same ts)

-- joining keeps groups as they are
text_keeps : (r : Option Ranges) (own : List ℕ) (ts : Trees) → AllSame ts → AllSame (text_onto r own ts)
text_keeps r [] ts h = h
text_keeps r (b ∷ bs) none h = ((λ e. cc), tt)
text_keeps r (b ∷ bs) (more t ts) h = by_test (is_text t)
  where
    by_test : (x : Bool)
        → AllSame (if x then more (sep_leaf (joined_ranges r (label t).ranges) ((b ∷ bs) ++ (label t).own)) ts
        else more (sep_leaf r (b ∷ bs)) (more t ts))
    by_test true = ((λ e. cc), h.1)
    by_test false = ((λ e. cc), h)

onto_keeps : (t : Tree) (ts : Trees) → SameBlocks t → AllSame ts → AllSame (onto t ts)
onto_keeps t ts g h = by_test (is_text t)
  where
    by_test : (x : Bool) → AllSame (if x then text_onto (label t).ranges (label t).own ts else more t ts)
    by_test true = text_keeps (label t).ranges (label t).own ts h
    by_test false = (g, h)

joined_keeps : (ts : Trees) → AllSame ts → AllSame (joined_texts ts)
joined_keeps none h = tt
joined_keeps (more t ts) h = onto_keeps t (joined_texts ts) h.0 (joined_keeps ts h.1)

parts_same : (r : Option Ranges) (front rest : List ℕ) (ts : Trees) → unranged_all (parts_before r front rest ts)
    ≡ parts_before None front rest (unranged_all ts)
parts_same r front [] ts = refl
parts_same r [] (b ∷ bs) ts = by_test (is_blank (b ∷ bs))
  where
    by_test : (x : Bool) → unranged_all (more (if x then sep_leaf r (b ∷ bs) else text_leaf r (b ∷ bs)) ts)
        ≡ more (if x then sep_leaf None (b ∷ bs) else text_leaf None (b ∷ bs)) (unranged_all ts)
    by_test true = refl
    by_test false = refl
parts_same r (c ∷ cs) (b ∷ bs) ts = by_test (is_blank (b ∷ bs))
  where
    n : ℕ
    n = length (c ∷ cs)

    by_test : (x : Bool)
        → unranged_all (if x then more (text_leaf (front_ranges n r) (c ∷ cs)) (more (sep_leaf (rest_ranges n r) (b ∷ bs)) ts)
        else more (text_leaf r ((c ∷ cs) ++ (b ∷ bs))) ts)
        ≡ (if x then more (text_leaf None (c ∷ cs)) (more (sep_leaf None (b ∷ bs)) (unranged_all ts)) else
        more (text_leaf None ((c ∷ cs) ++ (b ∷ bs))) (unranged_all ts))
    by_test true = refl
    by_test false = refl

cut_same : (behind leads : Bool) (t : Tree) (ts : Trees) → unranged_all (cut_before behind leads t ts) ≡ cut_before behind leads (unranged t) (unranged_all ts)
cut_same behind leads (tree l us) ts = by_test (is_as_text (writing l.kind)) refl
  where
    all : Bool
    all = from_start behind leads l.own

    by_test : (x : Bool) → is_as_text (writing l.kind) ≡ x
        → unranged_all (if x then text_before all l.ranges l.own ts else more (tree l us) ts)
        ≡ (if x then text_before all (ranges_read (writing l.kind) l.ranges) l.own (unranged_all ts) else more (unranged (tree l us)) (unranged_all ts))
    by_test true e = parts_same l.ranges (front_of all l.own) (rest_of all l.own) ts
        ∙ ap (λ r. text_before all r l.own (unranged_all ts)) (sym (text_ranges l e))
    by_test false e = refl

cut_from_same : (behind : Bool) (ts : Trees) → AllSame ts → unranged_all (cut_from behind ts) ≡ cut_from behind (unranged_all ts)
cut_from_same behind none h = refl
cut_from_same behind (more t ts) h =
    cut_same behind (leads_to_block ts) t (cut_from (behind || is_border t) ts)
    ∙ ap (cut_before behind (leads_to_block ts) (unranged t)) (cut_from_same (behind || is_border t) ts h.1)
    ∙ ap₂ (λ x y. cut_before behind x (unranged t) (cut_from (behind || y) (unranged_all ts))) (sym (leads_same ts h.1)) (sym (border_same t h.0))

pub recut_same : (ts : Trees) → AllSame ts → unranged_all (recut ts) ≡ recut (unranged_all ts)
recut_same ts h = cut_from_same false (joined_texts ts) (joined_keeps ts h) ∙ ap (cut_from false) (joined_same ts)
