-- Whether the lines of a paragraph are text where they are.
use Rattle.std.specs.Prelude.{◌⊎◌, Bool, List, length}
use Rattle.wt_span.specs.Items.{Item}
use Rattle.wt_text_edit_laws.specs.ParagraphBetween.{before_marks}
use Rattle.wt_text_edit_laws.specs.TextBlocks.{TextBlock}
use Rattle.wt_called_edit_laws.specs.AnyBlocks.{open_behind_part}
use Rattle.wt_called_edit_laws.specs.CalledContents.{StayText}
use Rattle.wt_called_edit_laws.specs.TableEnds.{IsEndFor, LaterText}

-- Behind these items each line is; or behind the sign of a table's end each but the first, which may be of any kind by itself.
abbrev pub StaysIn : TextBlock → List Bool → List Item → List Item → Type 0
StaysIn k bs xs own =
    StayText k (length (open_behind_part bs xs)) own ⊎ (IsEndFor k (length bs) (before_marks xs) × LaterText k (length (open_behind_part bs xs)) own)
