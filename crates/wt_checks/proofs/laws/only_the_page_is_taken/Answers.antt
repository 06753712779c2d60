use Rattle.wt_checks.proofs.EditedIsPage.{is_page, page_is}
use Rattle.wt_checks.proofs.laws.only_the_page_is_taken.Goals as goal

pub returns : goal.returns
returns c = λ values page edited b h t r d. (is_page values page edited b h r.root, page_is values page edited b h t r d)
