-- Trees that are as they are read, and what becomes of them where texts are cut anew.
use Rattle.std.proofs.Common.{◌≡◌, ◌≢◌, ℕ, Bool, true, false, Option, None, List, [], ◌∷◌, ◌++◌, length, refl}
use Rattle.std.specs.Prelude.{◌||◌, if◌then◌else◌}
use Rattle.std.specs.Str.{IsUtf8}
use Rattle.wt_tree.specs.declared.kind.Kind.TheVariants as kind
use Rattle.wt_tree.specs.declared.kind.Mark.TheVariants as marks
use Rattle.wt_tree.specs.declared.kind.Ranges.{Ranges}
use Rattle.wt_tree.specs.declared.row.Texts.TheVariants.{Page}
use Rattle.wt_tree.specs.Kinds.{showing, writing, texts_of_kind}
use Rattle.wt_tree.specs.Leaves.{text_leaf, sep_leaf}
use Rattle.wt_tree.specs.Tiling.{is_group}
use Rattle.wt_tree.specs.Tree.{Label, Tree, tree, Trees, none, more, label}
use Rattle.wt_recut.specs.Recut.{is_blank, is_border, leads_to_block, front_ranges, rest_ranges, joined_ranges, text_onto, joined_texts, from_start, front_of, rest_of, parts_before, text_before, cut_from, recut}
use Rattle.wt_recut.specs.Recut as recut_words
use Rattle.wt_schema.specs.Written.{is_extension_label}
use Rattle.wt_checks.specs.Tokens.{is_text}
use Rattle.wt_checks.specs.Unmarked.{is_compared}

-- ---- as it is read

-- a text directly in a paragraph, or in another element of the page's text
pub record IsReadLeaf (l : Label) : Type 0 where
  pub kind : l.kind ≡ kind.Text
  pub id : l.id ≡ 0
  pub mark : l.mark ≡ marks.Nothing
  pub some : l.shown ≢ []
  pub utf8 : IsUtf8 l.shown

abbrev pub TextLeaf : Tree → Type 0
TextLeaf t = is_text (writing (label t).kind) ≡ true → IsReadLeaf (label t)

abbrev pub AreTexts : Trees → Type 0
AreTexts none = Unit {0}
AreTexts (more t ts) = TextLeaf t × AreTexts ts

pub record IsReadNode (l : Label) (ts : Trees) : Type 0 where
  pub hidden : is_compared (showing l.kind) ≡ false → ts ≡ none
  pub text : is_text (writing l.kind) ≡ true → ts ≡ none
  pub unnumbered : is_text (writing l.kind) ≡ true → l.id ≡ 0
  pub texts : is_group l.kind ≡ false → texts_of_kind l.kind ≡ Page → AreTexts ts
  pub plain : is_group l.kind ≡ false → is_extension_label l ≡ false → l.mw ≡ None

abbrev mutual
  pub ReadTree : Tree → Type 0
  ReadTree (tree l ts) = IsReadNode l ts × AllReadTrees ts

  pub AllReadTrees : Trees → Type 0
  AllReadTrees none = Unit {0}
  AllReadTrees (more t ts) = ReadTree t × AllReadTrees ts

-- ---- leaves

pub text_read : (r : Option Ranges) (bs : List ℕ) → ReadTree (text_leaf r bs)
text_read r bs = (record { hidden = λ e. refl; text = λ e. refl; unnumbered = λ e. refl; texts = λ g e. tt; plain = λ g e. refl }, tt)

pub sep_read : (r : Option Ranges) (bs : List ℕ) → ReadTree (sep_leaf r bs)
sep_read r bs = (record { hidden = λ e. refl; text = λ e. refl; unnumbered = λ e. refl; texts = λ g e. tt; plain = λ g e. refl }, tt)

-- ---- joining

text_joined : (text : Bool) (r : Option Ranges) (bs : List ℕ) (t : Tree) (ts : Trees) → AllReadTrees (more t ts)
    → AllReadTrees (if text then more (sep_leaf (joined_ranges r (label t).ranges) (bs ++ (label t).own)) ts else more (sep_leaf r bs) (more t ts))
text_joined true r bs t ts h = (sep_read (joined_ranges r (label t).ranges) (bs ++ (label t).own), h.1)
text_joined false r bs t ts h = (sep_read r bs, h)

onto_read : (r : Option Ranges) (bs : List ℕ) (ts : Trees) → AllReadTrees ts → AllReadTrees (text_onto r bs ts)
onto_read r [] ts h = h
onto_read r (b ∷ bs) none h = (sep_read r (b ∷ bs), tt)
onto_read r (b ∷ bs) (more t ts) h = text_joined (recut_words.is_text t) r (b ∷ bs) t ts h

onto_by : (text : Bool) (t : Tree) (ts : Trees) → ReadTree t → AllReadTrees ts
    → AllReadTrees (if text then text_onto (label t).ranges (label t).own ts else more t ts)
onto_by true t ts e h = onto_read (label t).ranges (label t).own ts h
onto_by false t ts e h = (e, h)

joined_read : (ts : Trees) → AllReadTrees ts → AllReadTrees (joined_texts ts)
joined_read none h = tt
joined_read (more t ts) h = onto_by (recut_words.is_text t) t (joined_texts ts) h.0 (joined_read ts h.1)

-- ---- cutting

leaf_read : (blank : Bool) (r : Option Ranges) (bs : List ℕ) (ts : Trees) → AllReadTrees ts
    → AllReadTrees (more (if blank then sep_leaf r bs else text_leaf r bs) ts)
leaf_read true r bs ts h = (sep_read r bs, h)
leaf_read false r bs ts h = (text_read r bs, h)

two_read : (blank : Bool) (r : Option Ranges) (front rest : List ℕ) (ts : Trees) → AllReadTrees ts
    → AllReadTrees (if blank then more (text_leaf (front_ranges (length front) r) front) (more (sep_leaf (rest_ranges (length front) r) rest) ts)
    else more (text_leaf r (front ++ rest)) ts)
two_read true r front rest ts h = (text_read (front_ranges (length front) r) front, (sep_read (rest_ranges (length front) r) rest, h))
two_read false r front rest ts h = (text_read r (front ++ rest), h)

parts_read : (r : Option Ranges) (front rest : List ℕ) (ts : Trees) → AllReadTrees ts → AllReadTrees (parts_before r front rest ts)
parts_read r front [] ts h = (text_read r front, h)
parts_read r [] (b ∷ bs) ts h = leaf_read (is_blank (b ∷ bs)) r (b ∷ bs) ts h
parts_read r (c ∷ cs) (b ∷ bs) ts h = two_read (is_blank (b ∷ bs)) r (c ∷ cs) (b ∷ bs) ts h

cut_by : (text all : Bool) (t : Tree) (ts : Trees) → ReadTree t → AllReadTrees ts
    → AllReadTrees (if text then text_before all (label t).ranges (label t).own ts else more t ts)
cut_by true all t ts e h = parts_read (label t).ranges (front_of all (label t).own) (rest_of all (label t).own) ts h
cut_by false all t ts e h = (e, h)

cut_read : (behind : Bool) (ts : Trees) → AllReadTrees ts → AllReadTrees (cut_from behind ts)
cut_read behind none h = tt
cut_read behind (more t ts) h =
    cut_by (recut_words.is_text t) (from_start behind (leads_to_block ts) (label t).own) t (cut_from (behind || is_border t) ts) h.0
    (cut_read (behind || is_border t) ts h.1)

pub recut_read : (ts : Trees) → AllReadTrees ts → AllReadTrees (recut ts)
recut_read ts h = cut_read false (joined_texts ts) (joined_read ts h)
