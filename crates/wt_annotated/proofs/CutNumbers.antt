-- Texts and separators have no numbers and open no group: cutting them anew gives neither.
use Rattle.std.proofs.Common.{ℕ, ◌+◌, ◌≤◌, Bool, true, false, Option, List, [], ◌∷◌, ◌++◌, length, cond, arith}
use Rattle.std.specs.Prelude.{◌||◌}
use Rattle.wt_tree.specs.declared.kind.Ranges.{Ranges}
use Rattle.wt_tree.specs.declared.row.Texts.{Texts}
use Rattle.wt_tree.specs.declared.row.Texts.TheVariants.{Separators, Page, Bordered, OwnCharacter}
use Rattle.wt_tree.specs.Kinds.{is_numbered, texts_of_kind}
use Rattle.wt_tree.specs.Leaves.{text_leaf, sep_leaf}
use Rattle.wt_recut.specs.Recut.{is_blank, is_text, is_border, leads_to_block, front_ranges, rest_ranges, joined_ranges, text_onto, joined_texts, from_start, front_of, rest_of, parts_before, text_before, cut_from}
use Rattle.wt_tree.specs.Tiling.{is_group}
use Rattle.wt_tree.specs.Tree.{Tree, tree, Trees, none, more, label}
use Rattle.wt_annotated.specs.Numbering.{count, count_all}
use Rattle.wt_annotated.specs.CutTexts.{cut_as, cut_texts, all_cut_texts}
use Rattle.wt_annotated.proofs.Numbers.{NoneBy, NoneInGroups, AllNoneInGroups}

-- ---- nodes in groups

onto_none : (v : Bool) (r s : Option Ranges) (own bs : List ℕ) (t : Tree) (ts : Trees) → AllNoneInGroups (more t ts)
    → AllNoneInGroups (cond v (more (sep_leaf s bs) ts) (more (sep_leaf r own) (more t ts)))
onto_none true r s own bs t ts h = (tt, h.1)
onto_none false r s own bs t ts h = (tt, h)

text_onto_none : (r : Option Ranges) (own : List ℕ) (ts : Trees) → AllNoneInGroups ts → AllNoneInGroups (text_onto r own ts)
text_onto_none r [] ts h = h
text_onto_none r (b ∷ bs) none h = (tt, tt)
text_onto_none r (b ∷ bs) (more t ts) h =
    onto_none (is_text t) r (joined_ranges r (label t).ranges) (b ∷ bs) ((b ∷ bs) ++ (label t).own) t ts h

joined_none_by : (v : Bool) (t : Tree) (ts : Trees) → NoneInGroups t → AllNoneInGroups ts
    → AllNoneInGroups (cond v (text_onto (label t).ranges (label t).own ts) (more t ts))
joined_none_by true t ts g h = text_onto_none (label t).ranges (label t).own ts h
joined_none_by false t ts g h = (g, h)

joined_none : (ts : Trees) → AllNoneInGroups ts → AllNoneInGroups (joined_texts ts)
joined_none none h = tt
joined_none (more t ts) h = joined_none_by (is_text t) t (joined_texts ts) h.0 (joined_none ts h.1)

whole_none : (v : Bool) (r : Option Ranges) (own : List ℕ) (ts : Trees) → AllNoneInGroups ts
    → AllNoneInGroups (more (cond v (sep_leaf r own) (text_leaf r own)) ts)
whole_none true r own ts h = (tt, h)
whole_none false r own ts h = (tt, h)

both_none : (v : Bool) (p q r : Option Ranges) (front rest own : List ℕ) (ts : Trees) → AllNoneInGroups ts
    → AllNoneInGroups (cond v (more (text_leaf p front) (more (sep_leaf q rest) ts)) (more (text_leaf r own) ts))
both_none true p q r front rest own ts h = (tt, (tt, h))
both_none false p q r front rest own ts h = (tt, h)

parts_none : (r : Option Ranges) (front rest : List ℕ) (ts : Trees) → AllNoneInGroups ts → AllNoneInGroups (parts_before r front rest ts)
parts_none r front [] ts h = (tt, h)
parts_none r [] (b ∷ bs) ts h = whole_none (is_blank (b ∷ bs)) r (b ∷ bs) ts h
parts_none r (c ∷ cs) (b ∷ bs) ts h =
    both_none (is_blank (b ∷ bs)) (front_ranges (length (c ∷ cs)) r) (rest_ranges (length (c ∷ cs)) r) r (c ∷ cs) (b ∷ bs) ((c ∷ cs) ++ (b ∷ bs)) ts h

cut_none_by : (v x : Bool) (t : Tree) (ts : Trees) → NoneInGroups t → AllNoneInGroups ts
    → AllNoneInGroups (cond v (text_before x (label t).ranges (label t).own ts) (more t ts))
cut_none_by true x t ts g h = parts_none (label t).ranges (front_of x (label t).own) (rest_of x (label t).own) ts h
cut_none_by false x t ts g h = (g, h)

cut_none : (behind : Bool) (ts : Trees) → AllNoneInGroups ts → AllNoneInGroups (cut_from behind ts)
cut_none behind none h = tt
cut_none behind (more t ts) h =
    cut_none_by (is_text t) (from_start behind (leads_to_block ts) (label t).own) t (cut_from (behind || is_border t) ts) h.0
    (cut_none (behind || is_border t) ts h.1)

as_none : (x : Texts) (ts : Trees) → AllNoneInGroups ts → AllNoneInGroups (cut_as x ts)
as_none Separators ts h = h
as_none Page ts h = h
as_none Bordered ts h = cut_none false (joined_texts ts) (joined_none ts h)
as_none OwnCharacter ts h = h

none_by : (g : Bool) (x : Texts) (ts us : Trees) → NoneBy g ts (AllNoneInGroups ts) → (AllNoneInGroups ts → AllNoneInGroups us)
    → NoneBy g (cond g ts (cut_as x us)) (AllNoneInGroups (cond g ts (cut_as x us)))
none_by true x ts us h m = h
none_by false x ts us h m = as_none x us (m h)

mutual
  pub cut_texts_none : (t : Tree) → NoneInGroups t → NoneInGroups (cut_texts t)
  cut_texts_none (tree l ts) h = none_by (is_group l.kind) (texts_of_kind l.kind) ts (all_cut_texts ts) h (all_cut_texts_none ts)

  all_cut_texts_none : (ts : Trees) → AllNoneInGroups ts → AllNoneInGroups (all_cut_texts ts)
  all_cut_texts_none none h = tt
  all_cut_texts_none (more t ts) h = (cut_texts_none t h.0, all_cut_texts_none ts h.1)

-- ---- how many numbers

onto_few : (v : Bool) (r s : Option Ranges) (own bs : List ℕ) (t : Tree) (ts : Trees)
    → count_all (cond v (more (sep_leaf s bs) ts) (more (sep_leaf r own) (more t ts))) ≤ count_all (more t ts)
onto_few true r s own bs t ts = omega arith
onto_few false r s own bs t ts = omega arith

text_onto_few : (r : Option Ranges) (own : List ℕ) (ts : Trees) → count_all (text_onto r own ts) ≤ count_all ts
text_onto_few r [] ts = omega arith
text_onto_few r (b ∷ bs) none = omega arith
text_onto_few r (b ∷ bs) (more t ts) = onto_few (is_text t) r (joined_ranges r (label t).ranges) (b ∷ bs) ((b ∷ bs) ++ (label t).own) t ts

joined_few_by : (v : Bool) (t : Tree) (ts : Trees) → count_all (cond v (text_onto (label t).ranges (label t).own ts) (more t ts)) ≤ count_all (more t ts)
joined_few_by true t ts = let h = text_onto_few (label t).ranges (label t).own ts in omega (arith, h)
joined_few_by false t ts = omega arith

joined_few : (ts : Trees) → count_all (joined_texts ts) ≤ count_all ts
joined_few none = omega arith
joined_few (more t ts) = let h = joined_few ts in let j = joined_few_by (is_text t) t (joined_texts ts) in omega (arith, h, j)

whole_few : (v : Bool) (r : Option Ranges) (own : List ℕ) (ts : Trees) → count_all (more (cond v (sep_leaf r own) (text_leaf r own)) ts) ≤ count_all ts
whole_few true r own ts = omega arith
whole_few false r own ts = omega arith

both_few : (v : Bool) (p q r : Option Ranges) (front rest own : List ℕ) (ts : Trees)
    → count_all (cond v (more (text_leaf p front) (more (sep_leaf q rest) ts)) (more (text_leaf r own) ts)) ≤ count_all ts
both_few true p q r front rest own ts = omega arith
both_few false p q r front rest own ts = omega arith

parts_few : (r : Option Ranges) (front rest : List ℕ) (ts : Trees) → count_all (parts_before r front rest ts) ≤ count_all ts
parts_few r front [] ts = omega arith
parts_few r [] (b ∷ bs) ts = whole_few (is_blank (b ∷ bs)) r (b ∷ bs) ts
parts_few r (c ∷ cs) (b ∷ bs) ts =
    both_few (is_blank (b ∷ bs)) (front_ranges (length (c ∷ cs)) r) (rest_ranges (length (c ∷ cs)) r) r (c ∷ cs) (b ∷ bs) ((c ∷ cs) ++ (b ∷ bs)) ts

cut_few_by : (v x : Bool) (t : Tree) (ts : Trees) → count_all (cond v (text_before x (label t).ranges (label t).own ts) (more t ts)) ≤ count_all (more t ts)
cut_few_by true x t ts = let h = parts_few (label t).ranges (front_of x (label t).own) (rest_of x (label t).own) ts in omega (arith, h)
cut_few_by false x t ts = omega arith

cut_few : (behind : Bool) (ts : Trees) → count_all (cut_from behind ts) ≤ count_all ts
cut_few behind none = omega arith
cut_few behind (more t ts) =
    let h = cut_few (behind || is_border t) ts in
    let c = cut_few_by (is_text t) (from_start behind (leads_to_block ts) (label t).own) t (cut_from (behind || is_border t) ts) in
    omega (arith, h, c)

as_few : (x : Texts) (ts : Trees) → count_all (cut_as x ts) ≤ count_all ts
as_few Separators ts = omega arith
as_few Page ts = omega arith
as_few Bordered ts = let j = joined_few ts in let c = cut_few false (joined_texts ts) in omega (arith, j, c)
as_few OwnCharacter ts = omega arith

few_by : (n g : Bool) (x : Texts) (ts us : Trees) → count_all us ≤ count_all ts
    → cond n 1 0 + cond g 0 (count_all (cond g ts (cut_as x us))) ≤ cond n 1 0 + cond g 0 (count_all ts)
few_by true true x ts us h = omega arith
few_by false true x ts us h = omega arith
few_by true false x ts us h = let a = as_few x us in omega (arith, a, h)
few_by false false x ts us h = let a = as_few x us in omega (arith, a, h)

mutual
  pub cut_texts_few : (t : Tree) → count (cut_texts t) ≤ count t
  cut_texts_few (tree l ts) = few_by (is_numbered l.kind) (is_group l.kind) (texts_of_kind l.kind) ts (all_cut_texts ts) (all_cut_texts_few ts)

  all_cut_texts_few : (ts : Trees) → count_all (all_cut_texts ts) ≤ count_all ts
  all_cut_texts_few none = omega arith
  all_cut_texts_few (more t ts) = let h = cut_texts_few t in let g = all_cut_texts_few ts in omega (arith, h, g)
