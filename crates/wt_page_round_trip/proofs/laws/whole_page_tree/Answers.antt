use Rattle.wt_page_round_trip.proofs.PageTrees.{flat_page, page_tiled, page_covered, page_reached, page_slices, page_numbered}
use Rattle.wt_page_round_trip.proofs.HeldPages.{its_page}
use Rattle.wt_page_round_trip.proofs.laws.whole_page_tree.Goals as goal

pub returns : goal.returns
returns c = record {
  source = λ pages page u e. flat_page pages page (its_page pages page u e);
  tiled = page_tiled;
  covers = λ pages page u e. page_covered pages page (its_page pages page u e);
  reached = λ pages page u e. page_reached pages page (its_page pages page u e);
  slices = λ pages page u e. page_slices pages page (its_page pages page u e);
  numbered = page_numbered;
}
