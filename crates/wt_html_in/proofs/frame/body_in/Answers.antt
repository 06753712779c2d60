use Rattle.std.proofs.Common.{sym, ap, ◌∙◌}
use Rattle.wt_html_elements.specs.Built.{view_content}
use Rattle.wt_html_in.specs.Frame.{body_as}
use Rattle.wt_html_in.proofs.Frames.{few_before, body_by, found_at}
use Rattle.wt_html_in.proofs.frame.body_in.Goals as goal

pub number_behind-requires : goal.number_behind-requires
number_behind-requires c = few_before c.args.elements.items c.pop.new.self.items c.as_slice.result.now c.in-Some.last
    c.in-Some.ensures.items c.as_slice.ensures.value c.requires

pub returns-in-None-number_behind : goal.returns-in-None-number_behind
returns-in-None-number_behind c =
    sym (ap (body_as (view_content c.in-Some.last)) c.in-None-number_behind.is)
    ∙ body_by c.args.elements.items c.pop.new.self.items c.as_slice.result.now c.in-Some.last c.number_behind.result
    c.in-Some.ensures.items c.as_slice.ensures.value c.number_behind.ensures

pub returns : goal.returns
returns c =
    found_at c.body_as.result _ _ c.body_as.ensures (sym (ap (body_as (view_content c.in-Some.last)) c.in-Some-number_behind.is)
    ∙ body_by c.args.elements.items c.pop.new.self.items c.as_slice.result.now c.in-Some.last c.number_behind.result
    c.in-Some.ensures.items c.as_slice.ensures.value c.number_behind.ensures)
