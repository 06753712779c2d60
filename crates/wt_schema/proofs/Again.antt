-- The tree that is read is written as it was, shows the same, and has the same source and numbers.
use Rattle.std.proofs.Common.{◌≡◌, ℕ, suc, ◌+◌, Bool, true, false, Option, List, [], ◌∷◌, ◌++◌, refl, ap, ap₂, ◌∙◌}
use Rattle.std.specs.Prelude.{if◌then◌else◌}
use Rattle.wt_tree.specs.declared.kind.Kind.{Kind}
use Rattle.wt_tree.specs.declared.kind.Kind.TheVariants as kind
use Rattle.wt_tree.specs.declared.kind.Ranges.{Ranges}
use Rattle.wt_tree.specs.declared.kind.Showing.{Showing}
use Rattle.wt_tree.specs.declared.kind.Showing.TheVariants.{Characters, Inside, Nothing, Element}
use Rattle.wt_tree.specs.Kinds.{is_leaf, is_numbered, showing}
use Rattle.wt_tree.specs.Tree.{Label, Tree, tree, Trees, none as no_trees, more as one_more}
use Rattle.wt_tree.specs.Source.{flat, flat_of_all}
use Rattle.wt_tree.specs.Plain.{Plains, ended, along, element, face, text_before, shown_before, plain_before, plains_before, plain}
use Rattle.wt_tree.specs.Tiling.{HasNoGroup, NoneIsGroup, is_group, numbers, numbers_of_all}
use Rattle.wt_tree.specs.declared.row.Writing.{Writing}
use Rattle.wt_tree.specs.declared.row.Writing.TheVariants.{AsText, AsVoid, RoundCharacter, RoundChildren, AsSection, Unwritten}
use Rattle.wt_tree.specs.Kinds.{writing}
use Rattle.wt_schema.specs.Html.{written, group_html, groups_by, groups, groups_of_all, html, html_of_all, frame_start, frame_end, html_text}
use Rattle.wt_schema.specs.GroupNodes.{group_nodes}
use Rattle.wt_schema.specs.Written.{ranges_read, label_read, unranged, unranged_all}
use Rattle.wt_schema.proofs.Bare.{others_read}
use Rattle.wt_schema.proofs.ShownAgain.{group_again}

group_leaf : (k : Kind) → is_group k ≡ true → is_leaf k ≡ true
group_leaf kind.Group e = refl
group_leaf k e = absurd cc

-- a group is a leaf
source_by : (x y : Bool) (l : Label) (ts : Trees) → (x ≡ true → y ≡ true) → flat_of_all (unranged_all ts) ≡ flat_of_all ts
    → (if y then l.own else (l.opening ++ flat_of_all (if x then group_nodes ts else unranged_all ts) ++ l.closing))
    ≡ (if y then l.own else (l.opening ++ flat_of_all ts ++ l.closing))
source_by true true l ts f e = refl
source_by true false l ts f e = absurd (cc (f refl))
source_by false true l ts f e = refl
source_by false false l ts f e = ap (λ x. l.opening ++ x ++ l.closing) e

mutual
  pub same_source : (t : Tree) → flat (unranged t) ≡ flat t
  same_source (tree l ts) = source_by (is_group l.kind) (is_leaf l.kind) l ts (group_leaf l.kind) (same_sources ts)

  same_sources : (ts : Trees) → flat_of_all (unranged_all ts) ≡ flat_of_all ts
  same_sources no_trees = refl
  same_sources (one_more t ts) = ap₂ (λ (x y : List ℕ). x ++ y) (same_source t) (same_sources ts)

-- the ranges of a text aren't written
same_label : (w : Writing) (l : Label) (inside : List ℕ) → written w (record (l) { ranges = ranges_read w l.ranges }) inside ≡ written w l inside
same_label AsText l inside = refl
same_label AsVoid l inside = refl
same_label RoundCharacter l inside = refl
same_label RoundChildren l inside = refl
same_label (AsSection n) l inside = refl
same_label Unwritten l inside = refl

same_shown : (s : Showing) (l m : Label) (f g : Plains → Plains) (rest : Plains) → l.shown ≡ m.shown → face l ≡ face m
    → ((ps : Plains) → f ps ≡ g ps) → shown_before s l f rest ≡ shown_before s m g rest
same_shown Characters l m f g rest e d h = ap (λ bs. text_before bs rest) e
same_shown Inside l m f g rest e d h = h rest
same_shown Nothing l m f g rest e d h = refl
same_shown Element l m f g rest e d h = ap₂ (λ x ps. along (element x ps) rest) d (h ended)

-- a group keeps its ranges
group_ranges : (k : Kind) (r : Option Ranges) → is_group k ≡ true → ranges_read (writing k) r ≡ r
group_ranges kind.Group r e = refl
group_ranges k r e = absurd (cc e)

mutual
  same_before : (t : Tree) (rest : Plains) → HasNoGroup t → plain_before (unranged t) rest ≡ plain_before t rest
  same_before (tree l ts) rest h =
      ap (λ t. plain_before t rest) (others_read l ts h.0)
      ∙ same_shown (showing l.kind) (label_read l) l (λ ps. plains_before (unranged_all ts) ps)
      (λ ps. plains_before ts ps) rest refl refl (λ ps. same_all_before ts ps h.1)

  same_all_before : (ts : Trees) (rest : Plains) → NoneIsGroup ts → plains_before (unranged_all ts) rest ≡ plains_before ts rest
  same_all_before no_trees rest h = refl
  same_all_before (one_more t ts) rest h =
      ap (plain_before (unranged t)) (same_all_before ts rest h.1) ∙ same_before t (plains_before ts rest) h.0

pub same_plain : (t : Tree) → HasNoGroup t → plain (unranged t) ≡ plain t
same_plain t h = same_before t ended h

groups_by_test : (x : Bool) (w : Writing) (ts : Trees) → groups_of_all (unranged_all ts) ≡ groups_of_all ts
    → (if x then 1 else groups_by w (groups_of_all (if x then group_nodes ts else unranged_all ts))) ≡ (if x then 1 else groups_by w (groups_of_all ts))
groups_by_test true w ts e = refl
groups_by_test false w ts e = ap (groups_by w) e

mutual
  same_groups : (t : Tree) → groups (unranged t) ≡ groups t
  same_groups (tree l ts) = groups_by_test (is_group l.kind) (writing l.kind) ts (same_groups_all ts)

  same_groups_all : (ts : Trees) → groups_of_all (unranged_all ts) ≡ groups_of_all ts
  same_groups_all no_trees = refl
  same_groups_all (one_more t ts) = ap₂ (λ (m n : ℕ). m + n) (same_groups t) (same_groups_all ts)

-- a group or another node
same_by : (x : Bool) (n : ℕ) (l : Label) (ts : Trees) → is_group l.kind ≡ x → html_of_all n (unranged_all ts) ≡ html_of_all n ts
    → (if x then group_html (suc n) (label_read l) (plains_before (if x then group_nodes ts else unranged_all ts) ended)
    else written (writing l.kind) (label_read l) (html_of_all n (if x then group_nodes ts else unranged_all ts)))
    ≡ (if x then group_html (suc n) l (plains_before ts ended) else written (writing l.kind) l (html_of_all n ts))
same_by true n l ts e f =
    ap (λ r. group_html (suc n) (record (l) { ranges = r }) (plains_before (group_nodes ts) ended)) (group_ranges l.kind l.ranges e)
    ∙ group_again ts (suc n) l
same_by false n l ts e f = same_label (writing l.kind) l (html_of_all n (unranged_all ts)) ∙ ap (written (writing l.kind) l) f

mutual
  same_html : (t : Tree) (k : ℕ) → html k (unranged t) ≡ html k t
  same_html (tree l ts) k = same_by (is_group l.kind) k l ts refl (same_html_all ts k)

  same_html_all : (ts : Trees) (k : ℕ) → html_of_all k (unranged_all ts) ≡ html_of_all k ts
  same_html_all no_trees k = refl
  same_html_all (one_more t ts) k =
      ap₂ (λ (x y : List ℕ). x ++ y) (same_html t k) (ap (λ n. html_of_all (k + n) (unranged_all ts)) (same_groups t) ∙ same_html_all ts (k + groups t))

pub written_again : (t : Tree) → html_text (unranged t) ≡ html_text t
unfolding html_text
written_again t = ap (λ x. frame_start ++ (x ++ frame_end)) (same_html t 0)

numbers_by : (x : Bool) (ts : Trees) → numbers_of_all (unranged_all ts) ≡ numbers_of_all ts
    → (if x then [] else numbers_of_all (if x then group_nodes ts else unranged_all ts)) ≡ (if x then [] else numbers_of_all ts)
numbers_by true ts e = refl
numbers_by false ts e = e

mutual
  pub same_numbers : (t : Tree) → numbers (unranged t) ≡ numbers t
  same_numbers (tree l ts) = ap (λ x. (if is_numbered l.kind then l.id ∷ [] else []) ++ x) (numbers_by (is_group l.kind) ts (same_all_numbers ts))

  same_all_numbers : (ts : Trees) → numbers_of_all (unranged_all ts) ≡ numbers_of_all ts
  same_all_numbers no_trees = refl
  same_all_numbers (one_more t ts) = ap₂ (λ (x y : List ℕ). x ++ y) (same_numbers t) (same_all_numbers ts)
