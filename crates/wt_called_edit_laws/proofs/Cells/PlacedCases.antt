-- Worked cases: a paragraph in a cell, by the page's lines.
use Rattle.std.proofs.Common.{[], ◌∷◌, refl}
use Rattle.std.specs.Prelude.{codes}
use Rattle.wt_lines.specs.Kinds.{kind_of_signs}
use Rattle.wt_text_edit_laws.specs.LonePages.{page_chars}
use Rattle.wt_called_edit_laws.specs.PlacedBlocks.{IsParagraphOn}

in_cell : IsParagraphOn (page_chars (codes "{|\n|\nab\n|}")) (page_chars (codes "ab"))
unfolding kind_of_signs
in_cell = record {
  before = page_chars (codes "{|\n") ∷ page_chars (codes "|\n") ∷ [];
  first = page_chars (codes "ab\n");
  more = [];
  behind = page_chars (codes "|}") ∷ [];
  are = refl;
  is = refl;
  in_cells = (refl, tt);
  texts = (refl, tt);
  apart = refl;
  stops = refl;
  unled = refl;
}
