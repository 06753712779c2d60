-- What the code's own types stand for.
use Rattle.std.specs.Prelude.{◌≡◌, List}
use Rattle.std.specs.List.{list_any}
use Rattle.wt_content.specs.declared.content.Faults.{Faults}
use Rattle.wt_content.specs.declared.reason.ContentWhy.{ContentWhy}
use Rattle.wt_content.specs.Content.{is_element, is_href, is_line_break, is_nested, is_empty_list}

-- what was found so far
pub record HasFaults (f : Faults) (ws : List ContentWhy) : Type 0 where
  pub element : f.element ≡ list_any is_element ws
  pub href : f.href ≡ list_any is_href ws
  pub line_break : f.line_break ≡ list_any is_line_break ws
  pub nested : f.nested ≡ list_any is_nested ws
  pub empty_list : f.empty_list ≡ list_any is_empty_list ws
