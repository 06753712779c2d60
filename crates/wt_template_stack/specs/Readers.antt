-- A text that is read up to a place.
use Rattle.std.specs.Prelude.{◌≡◌, ◌≤◌, ℕ, Bool, List}
use Rattle.std.specs.Str.{IsCharBoundary}
use Rattle.wt_span.specs.declared.form.Mode.{Mode}
use Rattle.wt_transclusion.specs.Cursors.{IsAt}
use Rattle.wt_transclusion.specs.Reads.{IsRead}
use Rattle.wt_template_stack.specs.declared.reader.Reader.{Reader}

-- the text is read in this mode up to this place, at which a line starts or doesn't
pub record IsReading (mode : Mode) (text : List ℕ) (r : Reader) (p : ℕ) (at_start : Bool) : Type 0 where
  pub read : IsRead mode text r.text
  pub at : IsAt r.text p r.cursor
  pub starts : r.cursor.at_start ≡ at_start

-- Both places are between characters of the text, or at one of its ends, and the second doesn't come before the first.
pub record CanBeCut (text : List ℕ) (from to : ℕ) : Type 0 where
  pub in_order : from ≤ to
  pub from_border : IsCharBoundary text from
  pub to_border : IsCharBoundary text to
