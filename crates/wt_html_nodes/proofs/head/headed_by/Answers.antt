use Rattle.std.proofs.Common.{sym, ap, ◌∙◌}
use Rattle.wt_html_elements.specs.Built.{pairs, views}
use Rattle.wt_html_nodes.specs.Texts.{are_utf8_values}
use Rattle.wt_html_nodes.proofs.Labels.{first_pairs, other_pairs, row_own_of}
use Rattle.wt_html_nodes.proofs.OwnPairs.{own_utf8}
use Rattle.wt_html_nodes.proofs.head.headed_by.Goals as goal

pub headed_in-requires-clause-own_values : goal.headed_in-requires-clause-own_values
headed_in-requires-clause-own_values c =
    ap (λ xs. are_utf8_values (pairs xs)) c.as_slice.ensures.value
    ∙ ap are_utf8_values c.in_ok-own.ensures ∙ own_utf8 (pairs c.as_slice-attributes.result.now)
    (ap (λ xs. are_utf8_values (pairs xs)) c.as_slice-attributes.ensures.value ∙ c.requires.values)

pub returns-in_ok-own : goal.returns-in_ok-own
returns-in_ok-own c =
    let ps = pairs c.as_slice-attributes.result.now in
    row_own_of c.args.number c.args.position c.args.standing c.args.tag.now.name.items c.as_slice-name.result.now
    (pairs c.args.tag.now.attributes.items) ps (pairs c.as_slice.result.now) (views c.args.contents.now) c.headed_in.result
    c.as_slice-name.ensures.value (ap pairs c.as_slice-attributes.ensures.value)
    (ap pairs c.as_slice.ensures.value ∙ c.in_ok-own.ensures
    ∙ first_pairs c.args.standing ps (sym c.is_first.ensures ∙ c.if-is_first.true))
    c.headed_in.ensures

pub returns-else-is_first : goal.returns-else-is_first
returns-else-is_first c =
    let ps = pairs c.as_slice-attributes.result.now in
    row_own_of c.args.number c.args.position c.args.standing c.args.tag.now.name.items c.as_slice-name.result.now
    (pairs c.args.tag.now.attributes.items) ps ps (views c.args.contents.now) c.headed_in-else-is_first.result
    c.as_slice-name.ensures.value (ap pairs c.as_slice-attributes.ensures.value)
    (other_pairs c.args.standing ps (sym c.is_first.ensures ∙ c.if-is_first.false))
    c.headed_in-else-is_first.ensures
