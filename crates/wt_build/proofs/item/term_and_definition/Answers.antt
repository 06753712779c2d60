use Rattle.std.proofs.Common.{ap, drop, ◌∙◌}
use Rattle.wt_span.specs.Items.{items}
use Rattle.wt_rows.proofs.FewItems.{few_front_items, few_rest_items}
use Rattle.wt_rows.proofs.LineCuts.{blanks_edge}
use Rattle.wt_build.proofs.Colons.{colon_found, behind_colon}
use Rattle.wt_build.proofs.item.term_and_definition.Goals as goal

pub cut-requires-clause-edge : goal.cut-requires-clause-edge
cut-requires-clause-edge c = λ s. (colon_found (items c.args.line.now) c.args.n c.requires.colon).edge

pub cut_with-requires-clause-within : goal.cut_with-requires-clause-within
cut_with-requires-clause-within c =
    (behind_colon (items c.args.line.now) (items c.as_slice-2.result.now) c.args.n (ap items c.as_slice-2.ensures ∙ c.in_ok-front.ensures.back)
    c.requires.colon).0

pub cut_with-requires-clause-edge : goal.cut_with-requires-clause-edge
cut_with-requires-clause-edge c = λ s.
    (behind_colon (items c.args.line.now) (items c.as_slice-2.result.now) c.args.n (ap items c.as_slice-2.ensures ∙ c.in_ok-front.ensures.back)
    c.requires.colon).1

pub cut_with-requires-clause-edge_behind : goal.cut_with-requires-clause-edge_behind
cut_with-requires-clause-edge_behind c = blanks_edge (drop 1 (items c.as_slice-2.result.now))

pub term-requires-clause-few : goal.term-requires-clause-few
term-requires-clause-few c = few_front_items _ _ _ (ap items c.as_slice.ensures ∙ c.in_ok-front.ensures.front) c.requires.few

pub opened_line-requires-clause-few : goal.opened_line-requires-clause-few
opened_line-requires-clause-few c =
    few_rest_items _ _ _ (ap items c.as_slice-3.ensures ∙ c.in_ok-colon.ensures.back)
    (few_rest_items _ _ _ (ap items c.as_slice-2.ensures ∙ c.in_ok-front.ensures.back) c.requires.few)
