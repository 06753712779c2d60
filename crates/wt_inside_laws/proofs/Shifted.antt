-- A node that stands anywhere is the node by itself, with its numbers and places moved by as much.
use Rattle.std.proofs.Common.{arith, true≢false, ◌≡◌, ℕ, ◌+◌, ◌-◌, nat_lt, Bool, true, false, Option, Some, None, List, [], ◌∷◌, ◌++◌, length, refl, sym, ap, ap₂, ◌∙◌, cond, append-nil, append_assoc}
use Rattle.std.specs.Prelude.{◌||◌, ◌&&◌, if◌then◌else◌}
use Rattle.wt_tree.specs.declared.kind.Ranges.{Ranges}
use Rattle.wt_tree.specs.declared.row.Texts.{Texts}
use Rattle.wt_tree.specs.declared.row.Texts.TheVariants.{Separators, Page, Bordered, OwnCharacter}
use Rattle.wt_tree.specs.Kinds.{is_block, is_leaf, is_numbered, texts_of_kind}
use Rattle.wt_tree.specs.Leaves.{text_leaf, sep_leaf}
use Rattle.wt_recut.specs.Recut.{is_blank, has_break, is_text, shows_block, any_shows_block, is_border, is_passed, leads_to_block, place_in, front_ranges, rest_ranges, joined_ranges, text_onto, onto, joined_texts, from_start, front_of, rest_of, parts_before, text_before, cut_before, cut_from, recut}
use Rattle.wt_tree.specs.Tiling.{is_group}
use Rattle.wt_tree.specs.Tree.{Label, Tree, tree, Trees, none, more}
use Rattle.wt_span.specs.Items.{Item}
use Rattle.wt_inline.specs.ItemTree.{ItemTree, inner, ItemTrees, nothing, further, tree_items, held_by_all}
use Rattle.wt_annotated.specs.CutTexts.{cut_as, cut_texts, all_cut_texts}
use Rattle.wt_annotated.specs.Labels.{width, label_at}
use Rattle.wt_annotated.specs.Numbering.{next_after, count, count_all, with_numbers, all_with_numbers}
use Rattle.wt_annotated.specs.WithoutCalls.{inside_by, placed, all_placed}
use Rattle.wt_annotated.proofs.Tiles.{group_leaf}
use Rattle.wt_annotated.proofs.Widths.{width_append}
use Rattle.wt_part_laws.specs.Standing.{standing}

-- ---- moved by so many numbers and bytes

abbrev pub shift_range : ℕ → Option Ranges → Option Ranges
shift_range d None = None
shift_range d (Some r) = Some (record { start = d + r.start; end = d + r.end; open_w = r.open_w; close_w = r.close_w })

abbrev pub shift_label : ℕ → ℕ → Label → Label
shift_label k d l = record l { id = cond (is_numbered l.kind) (k + l.id) 0; ranges = shift_range d l.ranges }

abbrev mutual
  pub shifted : ℕ → ℕ → Tree → Tree
  shifted k d (tree l ts) = tree (shift_label k d l) (cond (is_group l.kind) ts (all_shifted k d ts))

  pub all_shifted : ℕ → ℕ → Trees → Trees
  all_shifted k d none = none
  all_shifted k d (more t ts) = more (shifted k d t) (all_shifted k d ts)

-- ---- places

no_number : (v : Bool) → 0 ≡ cond v (0 + 0) 0
no_number true = refl
no_number false = refl

inside_shifted : (d : ℕ) (g leaf : Bool) (us vs : Trees) → (g ≡ true → leaf ≡ true) → us ≡ all_shifted 0 d vs
    → inside_by leaf us ≡ cond g (inside_by leaf vs) (all_shifted 0 d (inside_by leaf vs))
inside_shifted d true true us vs h e = refl
inside_shifted d true false us vs h e = absurd (true≢false (sym (h refl)))
inside_shifted d false true us vs h e = refl
inside_shifted d false false us vs h e = e

abbrev pub range_like : Option Ranges → ℕ → ℕ → Option Ranges
range_like None at to = None
range_like (Some r) at to = Some (record { start = at; end = to; open_w = r.open_w; close_w = r.close_w })

mutual
  unfolding label_at

  placed_shifted : (before xs : List Item) (t : ItemTree) → placed (before ++ xs) t ≡ shifted 0 (width before) (placed xs t)
  placed_shifted before xs (inner h o ts c) =
      let own : List Item = o ++ (held_by_all ts ++ c) in
      let l : Label = label_at (width xs) 0 (is_leaf h.kind) h o own c in
      let w : width (before ++ xs) ≡ width before + width xs = width_append before xs in
      let start : width (before ++ xs) + width own ≡ width before + (width xs + width own) = omega (arith, w) in
      ap₂ tree
      (ap₂ (λ (i : ℕ) (r : Option Ranges). record l { id = i; ranges = r }) (no_number (is_numbered h.kind))
      (ap₂ (λ (at to : ℕ). range_like l.ranges at to) w start))
      (inside_shifted (width before) (is_group h.kind) (is_leaf h.kind) (all_placed ((before ++ xs) ++ o) ts) (all_placed (xs ++ o) ts) (group_leaf h.kind)
      (ap (λ ys. all_placed ys ts) (append_assoc before xs o) ∙ all_placed_shifted before (xs ++ o) ts))

  pub all_placed_shifted : (before xs : List Item) (ts : ItemTrees) → all_placed (before ++ xs) ts ≡ all_shifted 0 (width before) (all_placed xs ts)
  all_placed_shifted before xs nothing = refl
  all_placed_shifted before xs (further t ts) =
      ap₂ more (placed_shifted before xs t)
      (ap (λ ys. all_placed ys ts) (append_assoc before xs (tree_items t)) ∙ all_placed_shifted before (xs ++ tree_items t) ts)

-- ---- numbers

count_inside : (g : Bool) (ts us : Trees) → count_all us ≡ count_all ts → cond g 0 (count_all (cond g ts us)) ≡ cond g 0 (count_all ts)
count_inside true ts us e = refl
count_inside false ts us e = e

mutual
  pub count_shifted : (k d : ℕ) (t : Tree) → count (shifted k d t) ≡ count t
  count_shifted k d (tree l ts) =
      ap (λ (m : ℕ). cond (is_numbered l.kind) 1 0 + m) (count_inside (is_group l.kind) ts (all_shifted k d ts) (all_count_shifted k d ts))

  pub all_count_shifted : (k d : ℕ) (ts : Trees) → count_all (all_shifted k d ts) ≡ count_all ts
  all_count_shifted k d none = refl
  all_count_shifted k d (more t ts) = ap₂ (λ (m n : ℕ). m + n) (count_shifted k d t) (all_count_shifted k d ts)

number_shifted : (v : Bool) (k n : ℕ) → cond v (k + n) 0 ≡ cond v (k + cond v n 0) 0
number_shifted true k n = refl
number_shifted false k n = refl

next_shifted : (v : Bool) (k n : ℕ) → cond v (k + n + 1) (k + n) ≡ k + cond v (n + 1) n
next_shifted true k n = omega arith
next_shifted false k n = refl

numbered_by : (g : Bool) (k d m n : ℕ) (ts : Trees) → m ≡ k + n → all_with_numbers (k + n) (all_shifted 0 d ts) ≡ all_shifted k d (all_with_numbers n ts)
    → cond g (cond g ts (all_shifted 0 d ts)) (all_with_numbers m (cond g ts (all_shifted 0 d ts)))
    ≡ cond g (cond g ts (all_with_numbers n ts)) (all_shifted k d (cond g ts (all_with_numbers n ts)))
numbered_by true k d m n ts e f = refl
numbered_by false k d m n ts e f = ap (λ (i : ℕ). all_with_numbers i (all_shifted 0 d ts)) e ∙ f

mutual
  numbered_shifted : (k d n : ℕ) (t : Tree) → with_numbers (k + n) (shifted 0 d t) ≡ shifted k d (with_numbers n t)
  numbered_shifted k d n (tree l ts) =
      ap₂ tree (ap (λ (i : ℕ). record l { id = i; ranges = shift_range d l.ranges }) (number_shifted (is_numbered l.kind) k n))
      (numbered_by (is_group l.kind) k d (next_after l.kind (k + n)) (next_after l.kind n) ts (next_shifted (is_numbered l.kind) k n)
      (all_numbered_shifted k d (next_after l.kind n) ts))

  pub all_numbered_shifted : (k d n : ℕ) (ts : Trees) → all_with_numbers (k + n) (all_shifted 0 d ts) ≡ all_shifted k d (all_with_numbers n ts)
  all_numbered_shifted k d n none = refl
  all_numbered_shifted k d n (more t ts) =
      let c : count (shifted 0 d t) ≡ count t = count_shifted 0 d t in
      let e : k + n + count (shifted 0 d t) ≡ k + (n + count t) = omega (arith, c) in
      ap₂ more (numbered_shifted k d n t) (ap (λ (i : ℕ). all_with_numbers i (all_shifted 0 d ts)) e ∙ all_numbered_shifted k d (n + count t) ts)

-- ---- which children show blocks

block_by : (g b : Bool) (ts us : Trees) → any_shows_block us ≡ any_shows_block ts → cond g (any_shows_block (cond g ts us)) b ≡ cond g (any_shows_block ts) b
block_by true b ts us e = refl
block_by false b ts us e = refl

mutual
  block_same : (k d : ℕ) (t : Tree) → shows_block (shifted k d t) ≡ shows_block t
  block_same k d (tree l ts) = block_by (is_group l.kind) (is_block l.kind) ts (all_shifted k d ts) (blocks_same k d ts)

  blocks_same : (k d : ℕ) (ts : Trees) → any_shows_block (all_shifted k d ts) ≡ any_shows_block ts
  blocks_same k d none = refl
  blocks_same k d (more t ts) = ap₂ (λ (a b : Bool). a || b) (block_same k d t) (blocks_same k d ts)

border_same : (k d : ℕ) (t : Tree) → is_border (shifted k d t) ≡ is_border t
border_same k d (tree l ts) = ap (λ (b : Bool). cond (is_text (tree l ts)) (has_break l.own) b) (block_same k d (tree l ts))

passed_same : (k d : ℕ) (t : Tree) → is_passed (shifted k d t) ≡ is_passed t
passed_same k d (tree l ts) = refl

leads_same : (k d : ℕ) (ts : Trees) → leads_to_block (all_shifted k d ts) ≡ leads_to_block ts
leads_same k d none = refl
leads_same k d (more t ts) =
    ap₂ (λ (a b : Bool). a || b) (block_same k d t) (ap₂ (λ (a b : Bool). a && b) (passed_same k d t) (leads_same k d ts))

-- ---- joining

either : (k d : ℕ) (v : Bool) (us vs xs ys : Trees) → all_shifted k d us ≡ xs → all_shifted k d vs ≡ ys → all_shifted k d (cond v us vs) ≡ cond v xs ys
either k d true us vs xs ys e f = e
either k d false us vs xs ys e f = f

joined_range : (d : ℕ) (r s : Option Ranges) → shift_range d (joined_ranges r s) ≡ joined_ranges (shift_range d r) (shift_range d s)
joined_range d None s = refl
joined_range d (Some r) None = refl
joined_range d (Some r) (Some s) = refl

text_onto_same : (k d : ℕ) (r : Option Ranges) (own : List ℕ) (ts : Trees)
    → all_shifted k d (text_onto r own ts) ≡ text_onto (shift_range d r) own (all_shifted k d ts)
text_onto_same k d r [] ts = refl
text_onto_same k d r (b ∷ bs) none = refl
text_onto_same k d r (b ∷ bs) (more (tree l us) ts) =
    either k d (is_text (tree l us)) (more (sep_leaf (joined_ranges r l.ranges) ((b ∷ bs) ++ l.own)) ts) (more (sep_leaf r (b ∷ bs)) (more (tree l us) ts))
    (more (sep_leaf (joined_ranges (shift_range d r) (shift_range d l.ranges)) ((b ∷ bs) ++ l.own)) (all_shifted k d ts))
    (more (sep_leaf (shift_range d r) (b ∷ bs)) (more (shifted k d (tree l us)) (all_shifted k d ts)))
    (ap (λ (x : Option Ranges). more (sep_leaf x ((b ∷ bs) ++ l.own)) (all_shifted k d ts)) (joined_range d r l.ranges)) refl

onto_same : (k d : ℕ) (t : Tree) (ts : Trees) → all_shifted k d (onto t ts) ≡ onto (shifted k d t) (all_shifted k d ts)
onto_same k d (tree l us) ts =
    either k d (is_text (tree l us)) (text_onto l.ranges l.own ts) (more (tree l us) ts) (text_onto (shift_range d l.ranges) l.own (all_shifted k d ts))
    (more (shifted k d (tree l us)) (all_shifted k d ts)) (text_onto_same k d l.ranges l.own ts) refl

pub joined_same : (k d : ℕ) (ts : Trees) → all_shifted k d (joined_texts ts) ≡ joined_texts (all_shifted k d ts)
joined_same k d none = refl
joined_same k d (more t ts) = onto_same k d t (joined_texts ts) ∙ ap (onto (shifted k d t)) (joined_same k d ts)

-- ---- cutting

place_by : (v : Bool) (d a b : ℕ) → d + cond v a b ≡ cond v (d + a) (d + b)
place_by true d a b = refl
place_by false d a b = refl

place_same : (d n : ℕ) (r : Ranges) → d + place_in r n ≡ place_in (record { start = d + r.start; end = d + r.end; open_w = r.open_w; close_w = r.close_w }) n
place_same d n r =
    let size : r.end - r.start ≡ (d + r.end) - (d + r.start) = omega arith in
    let at : d + (r.start + n) ≡ d + r.start + n = omega arith in
    place_by (nat_lt n (r.end - r.start)) d (r.start + n) r.end
    ∙ ap₂ (λ (m a : ℕ). cond (nat_lt n m) a (d + r.end)) size at

front_range : (d n : ℕ) (r : Option Ranges) → shift_range d (front_ranges n r) ≡ front_ranges n (shift_range d r)
front_range d n None = refl
front_range d n (Some r) =
    ap (λ (to : ℕ). Some (record { start = d + r.start; end = to; open_w = r.open_w; close_w = r.close_w })) (place_same d n r)

rest_range : (d n : ℕ) (r : Option Ranges) → shift_range d (rest_ranges n r) ≡ rest_ranges n (shift_range d r)
rest_range d n None = refl
rest_range d n (Some r) =
    ap (λ (at : ℕ). Some (record { start = at; end = d + r.end; open_w = r.open_w; close_w = r.close_w })) (place_same d n r)

one_leaf : (k d : ℕ) (v : Bool) (r : Option Ranges) (bs : List ℕ)
    → shifted k d (if v then sep_leaf r bs else text_leaf r bs) ≡ (if v then sep_leaf (shift_range d r) bs else text_leaf (shift_range d r) bs)
one_leaf k d true r bs = refl
one_leaf k d false r bs = refl

parts_same : (k d : ℕ) (r : Option Ranges) (front rest : List ℕ) (ts : Trees)
    → all_shifted k d (parts_before r front rest ts) ≡ parts_before (shift_range d r) front rest (all_shifted k d ts)
parts_same k d r front [] ts = refl
parts_same k d r [] (b ∷ bs) ts = ap (λ t. more t (all_shifted k d ts)) (one_leaf k d (is_blank (b ∷ bs)) r (b ∷ bs))
parts_same k d r (c ∷ cs) (b ∷ bs) ts =
    let n : ℕ = length (c ∷ cs) in
    either k d (is_blank (b ∷ bs))
    (more (text_leaf (front_ranges n r) (c ∷ cs)) (more (sep_leaf (rest_ranges n r) (b ∷ bs)) ts))
    (more (text_leaf r ((c ∷ cs) ++ (b ∷ bs))) ts)
    (more (text_leaf (front_ranges n (shift_range d r)) (c ∷ cs)) (more (sep_leaf (rest_ranges n (shift_range d r)) (b ∷ bs)) (all_shifted k d ts)))
    (more (text_leaf (shift_range d r) ((c ∷ cs) ++ (b ∷ bs))) (all_shifted k d ts))
    (ap₂ (λ (x y : Option Ranges). more (text_leaf x (c ∷ cs)) (more (sep_leaf y (b ∷ bs)) (all_shifted k d ts))) (front_range d n r) (rest_range d n r)) refl

cut_one : (k d : ℕ) (behind leads : Bool) (t : Tree) (ts : Trees)
    → all_shifted k d (cut_before behind leads t ts) ≡ cut_before behind leads (shifted k d t) (all_shifted k d ts)
cut_one k d behind leads (tree l us) ts =
    let all : Bool = from_start behind leads l.own in
    either k d (is_text (tree l us)) (text_before all l.ranges l.own ts) (more (tree l us) ts) (text_before all (shift_range d l.ranges) l.own (all_shifted k d ts))
    (more (shifted k d (tree l us)) (all_shifted k d ts)) (parts_same k d l.ranges (front_of all l.own) (rest_of all l.own) ts) refl

pub cut_same : (k d : ℕ) (behind : Bool) (ts : Trees) → all_shifted k d (cut_from behind ts) ≡ cut_from behind (all_shifted k d ts)
cut_same k d behind none = refl
cut_same k d behind (more t ts) =
    cut_one k d behind (leads_to_block ts) t (cut_from (behind || is_border t) ts)
    ∙ ap (cut_before behind (leads_to_block ts) (shifted k d t)) (cut_same k d (behind || is_border t) ts)
    ∙ ap₂ (λ (leads border : Bool). cut_before behind leads (shifted k d t) (cut_from (behind || border) (all_shifted k d ts)))
    (sym (leads_same k d ts)) (sym (border_same k d t))

-- ---- all texts of a tree

pub as_same : (k d : ℕ) (x : Texts) (us vs : Trees) → all_shifted k d us ≡ vs → all_shifted k d (cut_as x us) ≡ cut_as x vs
as_same k d Separators us vs e = e
as_same k d Page us vs e = e
as_same k d Bordered us vs e = cut_same k d false (joined_texts us) ∙ ap (cut_from false) (joined_same k d us) ∙ ap recut e
as_same k d OwnCharacter us vs e = e

texts_by : (k d : ℕ) (g : Bool) (x : Texts) (ts us : Trees) → all_shifted k d us ≡ all_cut_texts (all_shifted k d ts)
    → cond g (cond g ts (cut_as x us)) (all_shifted k d (cond g ts (cut_as x us)))
    ≡ cond g (cond g ts (all_shifted k d ts)) (cut_as x (all_cut_texts (cond g ts (all_shifted k d ts))))
texts_by k d true x ts us e = refl
texts_by k d false x ts us e = as_same k d x us (all_cut_texts (all_shifted k d ts)) e

mutual
  texts_same : (k d : ℕ) (t : Tree) → shifted k d (cut_texts t) ≡ cut_texts (shifted k d t)
  texts_same k d (tree l ts) =
      ap (tree (shift_label k d l)) (texts_by k d (is_group l.kind) (texts_of_kind l.kind) ts (all_cut_texts ts) (all_texts_same k d ts))

  pub all_texts_same : (k d : ℕ) (ts : Trees) → all_shifted k d (all_cut_texts ts) ≡ all_cut_texts (all_shifted k d ts)
  all_texts_same k d none = refl
  all_texts_same k d (more t ts) = ap₂ more (texts_same k d t) (all_texts_same k d ts)

-- ---- a node of a page

pub standing_shifted : (n : ℕ) (before : List Item) (t : ItemTree) → standing n before t ≡ shifted n (width before) (standing 0 [] t)
standing_shifted n before t =
    let e : n ≡ n + 0 = omega arith in
    ap₂ (λ (m : ℕ) (xs : List Item). cut_texts (with_numbers m (placed xs t))) e (sym (append-nil before))
    ∙ ap (λ (u : Tree). cut_texts (with_numbers (n + 0) u)) (placed_shifted before [] t)
    ∙ ap cut_texts (numbered_shifted n (width before) 0 (placed [] t))
    ∙ sym (texts_same n (width before) (with_numbers 0 (placed [] t)))

-- as many nodes have a number
pub placed_count : (before after : List Item) (t : ItemTree) → count (placed before t) ≡ count (placed after t)
placed_count before after t =
    ap (λ xs. count (placed xs t)) (sym (append-nil before))
    ∙ ap count (placed_shifted before [] t) ∙ count_shifted 0 (width before) (placed [] t)
    ∙ sym (ap (λ xs. count (placed xs t)) (sym (append-nil after)) ∙ ap count (placed_shifted after [] t) ∙ count_shifted 0 (width after) (placed [] t))
