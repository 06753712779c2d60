use Rattle.std.proofs.Common.{◌∙◌}
use Rattle.std.proofs.lemmas.Result.{IfOk-weaker}
use Rattle.wt_span.specs.Items.{items}
use Rattle.wt_page.proofs.HeadingCuts.{open_cut, inside_cut, heading_is}
use Rattle.wt_page.proofs.tree.heading.Goals as goal

pub heading_by-requires : goal.heading_by-requires
heading_by-requires c =
    let xs = items c.args.line.now in
    let cuts = c.heading_cuts.result in
    record {
      ready = c.requires;
      opening = open_cut xs cuts.open_len c.heading_cuts.ensures.open_len;
      inside =
          inside_cut xs cuts.open_len cuts.inside_len c.heading_cuts.ensures.open_len c.heading_cuts.ensures.inside_len;
    }

pub returns : goal.returns
returns c =
    let xs = items c.args.line.now in
    let cuts = c.heading_cuts.result in
    IfOk-weaker c.heading_by.result _ _ (λ t f. f ∙ heading_is xs cuts.level cuts.open_len cuts.inside_len
    c.heading_cuts.ensures.level c.heading_cuts.ensures.open_len c.heading_cuts.ensures.inside_len) c.heading_by.ensures
