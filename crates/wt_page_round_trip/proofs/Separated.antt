-- Separators and nodes that stand in a node, as they are written: the children of what holds no text of its own, and what stands
-- behind the text of an item or a cell.
use Rattle.std.proofs.Common.{◌≡◌, ℕ, ◌<◌, Bool, true, false, Option, List, [], ◌∷◌, ◌++◌, IsUtf8, refl, sym, subst, arith}
use Rattle.std.specs.Prelude.{◌&&◌, ◌||◌}
use Rattle.std.specs.List.{AllByRecursion}
use Rattle.std.proofs.lemmas.Str.{IsUtf8-nil, IsUtf8-append}
use Rattle.std.proofs.lemmas.Bool.Decides.{nat_tests}
use Rattle.wt_span.specs.Items.{Item, char, whole, is_mark_form}
use Rattle.wt_span.specs.declared.form.ItemForm.{ItemForm}
use Rattle.wt_span.specs.declared.form.ItemForm.TheVariants as form
use Rattle.wt_tree.specs.declared.kind.Kind.{Kind}
use Rattle.wt_tree.specs.declared.kind.Kind.TheVariants as kind
use Rattle.wt_tree.specs.Kinds.{texts_of_kind, is_inline}
use Rattle.wt_recut.specs.Recut.{is_blank as is_white}
use Rattle.wt_schema.specs.Written.{leaf_kind, may_stand, HasLeafKind}
use Rattle.wt_schema.proofs.Json.{ascii_then}
use Rattle.wt_inline.specs.declared.loose.Loose.{Loose}
use Rattle.wt_inline.specs.declared.loose.Loose.TheVariants.{Sep}
use Rattle.wt_inline.specs.ItemTree.{Head, ItemTree, inner}
use Rattle.wt_inline.specs.Parts.{Part, loose, node, parts, whole_tree, same_loose, same_origin, loose_kind}
use Rattle.wt_page_round_trip.proofs.TextItems.{continues, IsSeam, AreTexts, seam_by}
use Rattle.wt_page_round_trip.proofs.OfPage.{AreOfPage, ArePageItems}
use Rattle.wt_page_round_trip.proofs.PageLines.{IsBetween, is_white_byte}
use Rattle.wt_page_round_trip.proofs.PageNodes.{IsPartSeam, ArePageParts}
use Rattle.wt_page_round_trip.proofs.Parts.{IsShownPart, IsWrittenNode}
use Rattle.wt_page_round_trip.proofs.ShownNodes.{shows_words}
use Rattle.wt_page_round_trip.proofs.Forms.{mark_node}

abbrev pub head_of : ItemTree → Head
head_of (inner h opening ts closing) = h

-- an inline element may not stand behind a block, nor a text that shows characters
abbrev pub goes_first : Kind → Bool
goes_first k = is_inline k || shows_words k

-- a node that is written there, and may stand behind a block
abbrev pub IsNodeIn : ℕ → Kind → ItemTree → Type 0
IsNodeIn k parent t = IsWrittenNode k parent t × (goes_first (head_of t).kind ≡ false)

-- a white character of a separator, or such a node
abbrev pub IsPartIn : ℕ → Kind → Part → Type 0
IsPartIn k parent (loose j o b) = (j ≡ Sep) × (is_white_byte b ≡ true)
IsPartIn k parent (node t) = IsNodeIn k parent t

-- a node in which separators may stand
pub record TakesSeparators (parent : Kind) : Type 0 where
  pub kind : HasLeafKind (texts_of_kind parent) (leaf_kind parent) kind.Sep
  pub stands : (bs : List ℕ) → is_white bs ≡ true → may_stand parent bs ≡ true

-- ---- white bytes

pub white_low : (b : ℕ) → is_white_byte b ≡ true → b < 128
white_low b e = grind (arith, nat_tests)

-- a white byte begins a character
white_begins : (b : ℕ) → is_white_byte b ≡ true → continues b ≡ false
white_begins b e = let low : b < 128 = white_low b e in grind (arith, nat_tests)

white_behind : (run : List ℕ) (b : ℕ) → IsUtf8 run → is_white_byte b ≡ true → IsUtf8 (run ++ b ∷ [])
white_behind run b u e = IsUtf8-append run (b ∷ []) u (ascii_then b [] (white_low b e) IsUtf8-nil)

-- ---- items between blocks

between_seam : (o : Option ℕ) (xs : List Item) → AllByRecursion IsBetween xs → IsSeam o xs
between_seam o [] a = tt
between_seam o (char p b ∷ xs) a = seam_by (same_origin o p) b (white_begins b a.0)
between_seam o (whole f p bs ∷ xs) a = tt

between_texts : (run : List ℕ) (xs : List Item) → IsUtf8 run → AllByRecursion IsBetween xs → AreTexts run xs
between_texts run [] u a = u
between_texts run (char o b ∷ xs) u a = (between_seam o xs a.1, between_texts (run ++ b ∷ []) xs (white_behind run b u a.0) a.1)
between_texts run (whole f o bs ∷ xs) u a = (u, between_texts [] xs IsUtf8-nil a.1)

pub between_items : (xs : List Item) → AreOfPage xs → AllByRecursion IsBetween xs → ArePageItems xs
between_items xs p a = record { texts = between_texts [] xs IsUtf8-nil a; page = p }

-- ---- all parts

separated_seam : (k : ℕ) (parent : Kind) (j : Loose) (o : Option ℕ) (ps : List Part) → AllByRecursion (IsPartIn k parent) ps → IsPartSeam j o ps
separated_seam k parent j o [] a = tt
separated_seam k parent j o (loose i p c ∷ ps) a = seam_by (same_loose j i && same_origin o p) c (white_begins c a.0.1)
separated_seam k parent j o (node t ∷ ps) a = tt

parts_behind : (k : ℕ) (parent : Kind) (run : List ℕ) (ps : List Part) → IsUtf8 run → AllByRecursion (IsPartIn k parent) ps → ArePageParts run ps
parts_behind k parent run [] u a = u
parts_behind k parent run (loose j o b ∷ ps) u a =
    (separated_seam k parent j o ps a.1, parts_behind k parent (run ++ b ∷ []) ps (white_behind run b u a.0.1) a.1)
parts_behind k parent run (node t ∷ ps) u a = (u, a.0.0.element, a.0.0.page, parts_behind k parent [] ps IsUtf8-nil a.1)

pub separated_parts : (k : ℕ) (parent : Kind) (ps : List Part) → AllByRecursion (IsPartIn k parent) ps → ArePageParts [] ps
separated_parts k parent ps a = parts_behind k parent [] ps IsUtf8-nil a

pub separated_shown : (k : ℕ) (parent : Kind) → TakesSeparators parent → (ps : List Part) → AllByRecursion (IsPartIn k parent) ps
    → AllByRecursion (IsShownPart k parent) ps
separated_shown k parent s [] a = tt
separated_shown k parent s (loose j o b ∷ ps) a = (
  (subst (λ i. HasLeafKind (texts_of_kind parent) (leaf_kind parent) (loose_kind i)) (sym a.0.0) s.kind, s.stands (b ∷ []) a.0.1),
  separated_shown k parent s ps a.1,
)
separated_shown k parent s (node t ∷ ps) a = (a.0.0.shown, separated_shown k parent s ps a.1)

-- ---- gaps

mark_stands : (f : ItemForm) (o : Option ℕ) (bs : List ℕ) → is_mark_form f ≡ true → goes_first (head_of (whole_tree f o bs)).kind ≡ false
mark_stands form.Chars o bs e = absurd cc
mark_stands (form.Entity c) o bs e = absurd cc
mark_stands form.Nowiki o bs e = absurd cc
mark_stands form.Extension o bs e = absurd cc
mark_stands form.Function o bs e = absurd cc
mark_stands form.Comment o bs e = refl
mark_stands form.Include o bs e = refl
mark_stands form.Hidden o bs e = refl
mark_stands form.EmptyCall o bs e = refl

pub gap_parts : (k : ℕ) (parent : Kind) (xs : List Item) → k < 200 → AreOfPage xs → AllByRecursion IsBetween xs
    → AllByRecursion (IsPartIn k parent) (parts Sep xs)
gap_parts k parent [] small p h = tt
gap_parts k parent (char o b ∷ xs) small p h = ((refl, h.0), gap_parts k parent xs small p.1 h.1)
gap_parts k parent (whole f o bs ∷ xs) small p h =
    ((mark_node k parent f o bs small h.0 p.0, mark_stands f o bs h.0), gap_parts k parent xs small p.1 h.1)
