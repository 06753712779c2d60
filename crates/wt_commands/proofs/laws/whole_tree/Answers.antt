use Rattle.wt_page_round_trip.proofs.PageTrees.{flat_page, page_tiled, page_covered, page_reached, page_numbered}
use Rattle.wt_commands.proofs.PageLaws.{answered_page}
use Rattle.wt_commands.proofs.laws.whole_tree.Goals as goal

pub returns : goal.returns
returns c = record {
  source = λ pages page h. flat_page pages page (answered_page pages page h);
  tiled = page_tiled;
  covers = λ pages page h. page_covered pages page (answered_page pages page h);
  reached = λ pages page h. page_reached pages page (answered_page pages page h);
  numbered = page_numbered;
}
