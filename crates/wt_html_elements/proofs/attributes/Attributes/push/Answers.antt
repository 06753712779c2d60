use Rattle.std.proofs.Common.{◌++◌, ◌∙◌, List, [], ◌∷◌, ap, sym, append_assoc}
use Rattle.wt_html_grammar.specs.Markup.{Pair}
use Rattle.wt_html_elements.specs.Attributes.{rest_pairs}
use Rattle.wt_html_elements.specs.Built.{pairs}
use Rattle.wt_html_elements.proofs.attributes.Attributes.push.Goals as goal

pub returns-in_ok-add : goal.returns-in_ok-add
returns-in_ok-add c =
    let first = pairs c.args.self.now.first.items in
    let last : List Pair = (c.args.name.items, c.args.value.items) ∷ [] in
    ap (λ (ps : List Pair). first ++ ps) c.in_ok-add.ensures ∙ sym (append_assoc first (rest_pairs c.args.self.now) last)
