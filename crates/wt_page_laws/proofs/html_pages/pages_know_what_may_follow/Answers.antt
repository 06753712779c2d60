use Rattle.wt_page_laws.proofs.OnePage.{pages_alike}
use Rattle.wt_page_laws.proofs.html_pages.pages_know_what_may_follow.Goals as goal

pub returns : goal.returns
returns c = pages_alike
