-- A content that calls nothing, by its items.
use Rattle.std.proofs.Common.{◌≡◌, ◌⊎◌, inl, inr, ℕ, List, refl, ap}
use Rattle.wt_expand.specs.PageItems.{page_items}
use Rattle.wt_text_edit_laws.specs.Contents.{IsContentOf, IsContent, StaysAnywhere, IsNewContent}
use Rattle.wt_text_edit_laws.specs.TextBlocks.{TextBlock, a_paragraph, a_heading, block_items, block_tree}
use Rattle.wt_text_edit_laws.proofs.Paragraphs.LineBlocks.{page_breaks}
use Rattle.wt_called_edit_laws.specs.AnyBlocks.{StaysText}
use Rattle.wt_called_edit_laws.specs.CalledContents.{items_round, tree_round, AreItemsOf, StayText, IsTextAnywhere}

pub round_is : (k : TextBlock) (q : List ℕ) → block_items k q ≡ items_round k (page_items q)
round_is a_paragraph q = refl
round_is (a_heading s) q = refl

pub tree_is : (k : TextBlock) (q : List ℕ) → block_tree k q ≡ tree_round k (page_items q)
tree_is a_paragraph q = refl
tree_is (a_heading s) q = refl

pub items_by : (k : TextBlock) (q : List ℕ) → IsContentOf k q → AreItemsOf k (page_items q)
items_by a_paragraph q h = record { seen = h.seen; unled = h.unled; own_breaks = page_breaks q }
items_by (a_heading s) q h = record { sides = h.frame.sides; inside = h.inside; of_level = h.of_level }

pub content_items : (k : TextBlock) (q : List ℕ) → IsContent k q → AreItemsOf k (page_items q)
content_items k q h = items_by k q h.is

pub stay_items : (k : TextBlock) (n : ℕ) (q : List ℕ) → StaysText k n q → StayText k n (page_items q)
stay_items a_paragraph n q h = h
stay_items (a_heading s) n q h = tt

stay_anywhere : (k : TextBlock) (q : List ℕ) → StaysAnywhere k q → (n : ℕ) → StayText k n (page_items q)
stay_anywhere a_paragraph q h n = h n
stay_anywhere (a_heading s) q h n = tt

pub new_anywhere : (k : TextBlock) (was now : List ℕ) → IsNewContent k was now → IsTextAnywhere k (page_items now)
new_anywhere k was now h = record { items = content_items k now h.firm.content; stays = stay_anywhere k now h.firm.stays }

pub over_items : (k : TextBlock) (was now : List ℕ) → (now ≡ was) ⊎ IsNewContent k was now → (page_items now ≡ page_items was) ⊎ IsTextAnywhere k (page_items now)
over_items k was now (inl e) = inl (ap page_items e)
over_items k was now (inr n) = inr (new_anywhere k was now n)
