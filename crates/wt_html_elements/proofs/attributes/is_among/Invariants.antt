use Rattle.std.proofs.Common.{◌≡◌, drop, map}
use Rattle.wt_html_grammar.specs.Signs.{is_among}
use Rattle.wt_html_elements.specs.Built.{pairs}
use Rattle.wt_html_elements.proofs.attributes.is_among.Given as goal

-- what is left to look through decides
abbrev pub invariant-loop-attribute : goal.invariant-loop-attribute
invariant-loop-attribute l = is_among l.name (map (λ p. p.0) (pairs (drop l.attribute-index l.attributes))) ≡ is_among l.name (map (λ p. p.0) (pairs l.attributes))
