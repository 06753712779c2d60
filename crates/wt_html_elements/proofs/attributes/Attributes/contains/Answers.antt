use Rattle.std.proofs.Common.{◌∙◌, List, sym, ap, map}
use Rattle.wt_html_grammar.specs.Signs.{is_among}
use Rattle.wt_html_elements.specs.declared.content.Attribute.{Attribute}
use Rattle.wt_html_elements.specs.Attributes.{rest_pairs}
use Rattle.wt_html_elements.specs.Built.{pairs}
use Rattle.wt_html_elements.proofs.Among.{found_first, sought_behind}
use Rattle.wt_html_elements.proofs.attributes.Attributes.contains.Goals as goal

pub returns-then-is_among : goal.returns-then-is_among
returns-then-is_among c =
    let first = c.args.self.now.first.items in
    let seen = ap (λ (xs : List Attribute). is_among c.args.name.now (map (λ p. p.0) (pairs xs))) c.as_slice.ensures.value in
    c.if-is_among.true
    ∙ sym (found_first c.args.name.now (pairs first) (rest_pairs c.args.self.now) (sym seen ∙ sym c.is_among.ensures ∙ c.if-is_among.true))

pub returns-else-is_among : goal.returns-else-is_among
returns-else-is_among c =
    let first = c.args.self.now.first.items in
    let seen = ap (λ (xs : List Attribute). is_among c.args.name.now (map (λ p. p.0) (pairs xs))) c.as_slice.ensures.value in
    c.contains.ensures
    ∙ sym (sought_behind c.args.name.now (pairs first) (rest_pairs c.args.self.now) (sym seen ∙ sym c.is_among.ensures ∙ c.if-is_among.false))
