-- Paragraphs and headings of a page with calls, told by nothing but the lines of the expanded page.
use Rattle.std.specs.Prelude.{◌≡◌, ℕ, None, List, [], map}
use Rattle.std.specs.Str.{IsUtf8}
use Rattle.wt_span.specs.Items.{Item}
use Rattle.wt_lines.specs.Lines.{full_lines}
use Rattle.wt_expand.specs.PageCalls.{expanded_page}
use Rattle.wt_expand.specs.Work.{Pages}
use Rattle.wt_commands.specs.Answers.{refusal_of_page}
use Rattle.wt_text_edit_laws.specs.PageCuts.{EndClosed, AreFree}
use Rattle.wt_called_edit_laws.specs.Covered.{AreInNoGroup}
use Rattle.wt_called_edit_laws.specs.Groups.{called_tree}
use Rattle.wt_called_edit_laws.specs.LinedAmong.{spots_of_lines, end_of_lines, AreOwnLines, AreLed, AreUntouched}
use Rattle.wt_called_edit_laws.specs.PlacedLines.{all_lines}
use Rattle.wt_called_edit_laws.specs.ToldLines.{Told, lined, AreTold}

-- as `IsLinedAmong`
pub record IsToldAmong (pages : Pages) (page : List ℕ) (ts : List Told) (behind : List (List Item)) : Type 0 where
  pub utf8 : IsUtf8 page
  pub closed : EndClosed (spots_of_lines pages page (map lined ts)) (end_of_lines pages page (map lined ts) behind)
  pub are : full_lines (expanded_page pages page).items ≡ all_lines (map lined ts) behind
  pub told : AreTold ts behind
  pub own : AreOwnLines (map lined ts)
  pub led : AreLed (spots_of_lines pages page (map lined ts))
  pub free : AreFree (spots_of_lines pages page (map lined ts))
  pub untouched : AreUntouched (expanded_page pages page).outer (expanded_page pages page).text_calls 0 [] (map lined ts)
  pub unrefused : refusal_of_page pages page ≡ None
  pub in_no_group : AreInNoGroup 0 (spots_of_lines pages page (map lined ts)) (called_tree pages page)
