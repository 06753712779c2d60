-- What paragraphs and headings hold, and what the line of a heading is.
use Rattle.std.proofs.Common.{◌≡◌, ℕ, Bool, true, false, List, refl}
use Rattle.std.specs.Prelude.{◌||◌}
use Rattle.wt_span.specs.Items.{Item}
use Rattle.wt_tree.specs.declared.kind.Kind.TheVariants as kind
use Rattle.wt_tree.specs.Kinds.{shape, is_anywhere}
use Rattle.wt_schema.specs.Written.{has_level}
use Rattle.wt_blocks.specs.Headings.{level as heading_level, opening, closing}
use Rattle.wt_page_round_trip.proofs.TextItems.{BeginsLow, EndsLow}
use Rattle.wt_page_round_trip.proofs.Inline.{IsInlineParent}

pub inline_held : (b c : Bool) → c ≡ true → (b || c) ≡ true
inline_held true c e = refl
inline_held false c e = e

pub para_parent : IsInlineParent kind.Para
para_parent = record { text = refl; elements = λ k h. inline_held (is_anywhere (shape k).class) _ h }

pub heading_parent : (n : ℕ) → IsInlineParent (kind.Heading n)
heading_parent n = record { text = refl; elements = λ k h. inline_held (is_anywhere (shape k).class) _ h }

-- where the delimiters of a heading end, and its level
pub record IsHeadingLine (xs : List Item) : Type 0 where
  pub level : has_level (kind.Heading (heading_level xs)) ≡ true
  pub open_ends : EndsLow (opening xs)
  pub close_begins : BeginsLow (closing xs)
