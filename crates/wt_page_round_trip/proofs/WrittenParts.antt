-- Parts that may stand wherever text and inline elements may.
use Rattle.std.proofs.Common.{ℕ, ◌<◌, ◌≤◌, List, [], ◌∷◌, ◌++◌, arith}
use Rattle.std.specs.List.{AllByRecursion}
use Rattle.std.proofs.lemmas.Str.{IsUtf8-nil}
use Rattle.wt_span.specs.Items.{Item}
use Rattle.wt_tree.specs.declared.kind.Kind.{Kind}
use Rattle.wt_inline.specs.declared.loose.Loose.TheVariants.{Text}
use Rattle.wt_inline.specs.ItemTree.{ItemTree}
use Rattle.wt_inline.specs.Parts.{Part, node, parts}
use Rattle.wt_annotated.specs.Annotated.{unplaced}
use Rattle.wt_page_round_trip.proofs.TextItems.{AreTexts}
use Rattle.wt_page_round_trip.proofs.OfPage.{AreOfPage}
use Rattle.wt_page_round_trip.proofs.PageLines.{all_both}
use Rattle.wt_page_round_trip.proofs.PageNodes.{IsPageNode, IsElement, ArePageParts, parts_both}
use Rattle.wt_page_round_trip.proofs.Parts.{IsShownPart}
use Rattle.wt_page_round_trip.proofs.ShownNodes.{IsShownIn}
use Rattle.wt_page_round_trip.proofs.Inline.{IsInlineParent, page_parts, text_shown}

-- A page's parts which may stand, within so many elements or fewer, in each node that takes text and inline elements.
pub record FitsIn (most : ℕ) (ps : List Part) : Type 0 where
  pub parts : ArePageParts [] ps
  pub shown : (k : ℕ) (parent : Kind) → k ≤ most → IsInlineParent parent → AllByRecursion (IsShownPart k parent) ps

pub no_parts : (most : ℕ) → FitsIn most []
no_parts most = record { parts = IsUtf8-nil; shown = λ k parent le p. tt }

pub fits_both : (most : ℕ) (ps qs : List Part) → FitsIn most ps → FitsIn most qs → FitsIn most (ps ++ qs)
fits_both most ps qs f g = record {
  parts = parts_both [] ps qs f.parts g.parts;
  shown = λ k parent le p. all_both (IsShownPart k parent) ps qs (f.shown k parent le p) (g.shown k parent le p);
}

pub fits_fewer : (most less : ℕ) (ps : List Part) → less ≤ most → FitsIn most ps → FitsIn less ps
fits_fewer most less ps le f = record { parts = f.parts; shown = λ k parent h p. f.shown k parent (omega (arith, h, le)) p }

-- a node of a page that may stand so
pub record NodeFits (most : ℕ) (t : ItemTree) : Type 0 where
  pub page : IsPageNode t
  pub element : IsElement t
  pub shown : (k : ℕ) (parent : Kind) → k ≤ most → IsInlineParent parent → IsShownIn k parent (unplaced t)

pub fits_node : (most : ℕ) (t : ItemTree) → NodeFits most t → FitsIn most (node t ∷ [])
fits_node most t f = record {
  parts = (IsUtf8-nil, f.element, f.page, IsUtf8-nil);
  shown = λ k parent le p. (f.shown k parent le p, tt);
}

pub fits_text : (most : ℕ) (xs : List Item) → most < 199 → AreTexts [] xs → AreOfPage xs → FitsIn most (parts Text xs)
fits_text most xs small t p = record {
  parts = page_parts Text [] xs t p;
  shown = λ k parent le q. text_shown k parent (omega (arith, le, small)) q xs p;
}
