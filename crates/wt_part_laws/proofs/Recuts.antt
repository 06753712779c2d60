-- Texts are cut anew whatever the numbers and places are: both may be left out before or afterwards.
use Rattle.std.proofs.Common.{◌≡◌, Bool, true, false, Option, None, List, [], ◌∷◌, ◌++◌, length, refl, sym, ap, ap₂, ◌∙◌, cond}
use Rattle.std.specs.Prelude.{◌||◌, ◌&&◌, ℕ, if◌then◌else◌}
use Rattle.wt_tree.specs.declared.kind.Ranges.{Ranges}
use Rattle.wt_tree.specs.declared.row.Texts.{Texts}
use Rattle.wt_tree.specs.declared.row.Texts.TheVariants.{Separators, Page, Bordered, OwnCharacter}
use Rattle.wt_tree.specs.Kinds.{is_block, texts_of_kind}
use Rattle.wt_tree.specs.Leaves.{text_leaf, sep_leaf}
use Rattle.wt_recut.specs.Recut.{is_blank, has_break, is_text, shows_block, any_shows_block, is_border, is_passed, leads_to_block, front_ranges, rest_ranges, joined_ranges, text_onto, onto, joined_texts, from_start, front_of, rest_of, parts_before, text_before, cut_before, cut_from, recut}
use Rattle.wt_tree.specs.Tiling.{is_group}
use Rattle.wt_tree.specs.Tree.{Tree, tree, Trees, none, more}
use Rattle.wt_annotated.specs.CutTexts.{cut_as, cut_texts, all_cut_texts}
use Rattle.wt_part_laws.specs.Placeless.{placeless_label, placeless, all_placeless}
use Rattle.wt_part_laws.proofs.Placeless.{either}

-- ---- which children show blocks

mutual
  block_same : (t : Tree) → shows_block (placeless t) ≡ shows_block t
  block_same (tree l ts) = ap (λ (b : Bool). cond (is_group l.kind) b (is_block l.kind)) (blocks_same ts)

  blocks_same : (ts : Trees) → any_shows_block (all_placeless ts) ≡ any_shows_block ts
  blocks_same none = refl
  blocks_same (more t ts) = ap₂ (λ (a b : Bool). a || b) (block_same t) (blocks_same ts)

border_same : (t : Tree) → is_border (placeless t) ≡ is_border t
border_same (tree l ts) = ap (λ (b : Bool). cond (is_text (tree l ts)) (has_break l.own) b) (block_same (tree l ts))

passed_same : (t : Tree) → is_passed (placeless t) ≡ is_passed t
passed_same (tree l ts) = refl

leads_same : (ts : Trees) → leads_to_block (all_placeless ts) ≡ leads_to_block ts
leads_same none = refl
leads_same (more t ts) =
    ap₂ (λ (a b : Bool). a || b) (block_same t) (ap₂ (λ (a b : Bool). a && b) (passed_same t) (leads_same ts))

-- ---- joining

text_onto_same : (r : Option Ranges) (own : List ℕ) (ts : Trees) → all_placeless (text_onto r own ts) ≡ text_onto None own (all_placeless ts)
text_onto_same r [] ts = refl
text_onto_same r (b ∷ bs) none = refl
text_onto_same r (b ∷ bs) (more (tree l us) ts) =
    either (is_text (tree l us)) (more (sep_leaf (joined_ranges r l.ranges) ((b ∷ bs) ++ l.own)) ts) (more (sep_leaf r (b ∷ bs)) (more (tree l us) ts))
    (more (sep_leaf None ((b ∷ bs) ++ l.own)) (all_placeless ts))
    (more (sep_leaf None (b ∷ bs)) (more (placeless (tree l us)) (all_placeless ts))) refl refl

onto_same : (t : Tree) (ts : Trees) → all_placeless (onto t ts) ≡ onto (placeless t) (all_placeless ts)
onto_same (tree l us) ts =
    either (is_text (tree l us)) (text_onto l.ranges l.own ts) (more (tree l us) ts) (text_onto None l.own (all_placeless ts))
    (more (placeless (tree l us)) (all_placeless ts)) (text_onto_same l.ranges l.own ts) refl

pub joined_same : (ts : Trees) → all_placeless (joined_texts ts) ≡ joined_texts (all_placeless ts)
joined_same none = refl
joined_same (more t ts) = onto_same t (joined_texts ts) ∙ ap (onto (placeless t)) (joined_same ts)

-- ---- cutting

one_leaf : (v : Bool) (r : Option Ranges) (bs : List ℕ) → placeless (if v then sep_leaf r bs else text_leaf r bs) ≡ (if v then sep_leaf None bs else text_leaf None bs)
one_leaf true r bs = refl
one_leaf false r bs = refl

parts_same : (r : Option Ranges) (front rest : List ℕ) (ts : Trees)
    → all_placeless (parts_before r front rest ts) ≡ parts_before None front rest (all_placeless ts)
parts_same r front [] ts = refl
parts_same r [] (b ∷ bs) ts = ap (λ t. more t (all_placeless ts)) (one_leaf (is_blank (b ∷ bs)) r (b ∷ bs))
parts_same r (c ∷ cs) (b ∷ bs) ts =
    either (is_blank (b ∷ bs))
    (more (text_leaf (front_ranges (length (c ∷ cs)) r) (c ∷ cs)) (more (sep_leaf (rest_ranges (length (c ∷ cs)) r) (b ∷ bs)) ts))
    (more (text_leaf r ((c ∷ cs) ++ (b ∷ bs))) ts)
    (more (text_leaf None (c ∷ cs)) (more (sep_leaf None (b ∷ bs)) (all_placeless ts)))
    (more (text_leaf None ((c ∷ cs) ++ (b ∷ bs))) (all_placeless ts)) refl refl

cut_one : (behind leads : Bool) (t : Tree) (ts : Trees) → all_placeless (cut_before behind leads t ts) ≡ cut_before behind leads (placeless t) (all_placeless ts)
cut_one behind leads (tree l us) ts =
    let all : Bool = from_start behind leads l.own in
    either (is_text (tree l us)) (text_before all l.ranges l.own ts) (more (tree l us) ts) (text_before all None l.own (all_placeless ts))
    (more (placeless (tree l us)) (all_placeless ts)) (parts_same l.ranges (front_of all l.own) (rest_of all l.own) ts) refl

pub cut_same : (behind : Bool) (ts : Trees) → all_placeless (cut_from behind ts) ≡ cut_from behind (all_placeless ts)
cut_same behind none = refl
cut_same behind (more t ts) =
    cut_one behind (leads_to_block ts) t (cut_from (behind || is_border t) ts)
    ∙ ap (cut_before behind (leads_to_block ts) (placeless t)) (cut_same (behind || is_border t) ts)
    ∙ ap₂ (λ (leads border : Bool). cut_before behind leads (placeless t) (cut_from (behind || border) (all_placeless ts))) (sym (leads_same ts)) (sym (border_same t))

pub recut_same : (ts : Trees) → all_placeless (recut ts) ≡ recut (all_placeless ts)
recut_same ts = cut_same false (joined_texts ts) ∙ ap (cut_from false) (joined_same ts)

-- ---- all texts of a tree

as_same : (x : Texts) (us vs : Trees) → all_placeless us ≡ vs → all_placeless (cut_as x us) ≡ cut_as x vs
as_same Separators us vs e = e
as_same Page us vs e = e
as_same Bordered us vs e = recut_same us ∙ ap recut e
as_same OwnCharacter us vs e = e

mutual
  pub texts_same : (t : Tree) → placeless (cut_texts t) ≡ cut_texts (placeless t)
  texts_same (tree l ts) =
      ap (tree (placeless_label l))
      (either (is_group l.kind) ts (cut_as (texts_of_kind l.kind) (all_cut_texts ts)) (all_placeless ts)
      (cut_as (texts_of_kind l.kind) (all_cut_texts (all_placeless ts))) refl
      (as_same (texts_of_kind l.kind) (all_cut_texts ts) (all_cut_texts (all_placeless ts)) (all_texts_same ts)))

  all_texts_same : (ts : Trees) → all_placeless (all_cut_texts ts) ≡ all_cut_texts (all_placeless ts)
  all_texts_same none = refl
  all_texts_same (more t ts) = ap₂ more (texts_same t) (all_texts_same ts)
