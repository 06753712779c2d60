-- For which nodes it counts what they are to the page.
use Rattle.std.specs.Prelude.{◌≡◌, Bool, true, false}
use Rattle.wt_tree.specs.Tree.{Label}
use Rattle.wt_tree.specs.declared.edit_shape.InlineForm.{InlineForm}
use Rattle.wt_tree.specs.declared.edit_shape.InlineForm.TheVariants as inline
use Rattle.wt_content.specs.declared.content.Surroundings.{Surroundings}
use Rattle.wt_content.specs.declared.content.Standing.{Standing}
use Rattle.wt_content.specs.Content.{is_open, own_faults}

-- for all but texts
abbrev pub asks_page : InlineForm → Bool
asks_page inline.Nothing = false
asks_page inline.Characters = false
asks_page inline.Bold = true
asks_page inline.Italic = true
asks_page inline.Shown = true
asks_page inline.PageLink = true
asks_page inline.ExternalLink = true
asks_page inline.Tag = true
asks_page inline.Break = true
asks_page inline.AsItStood = true

-- for nodes that are written so the two standings come to the same
pub record CountsAs (w : InlineForm) (s r : Standing) : Type 0 where
  pub opens : is_open w s ≡ is_open w r
  pub faults : (x : Surroundings) (l : Label) → own_faults w x s l ≡ own_faults w x r l
