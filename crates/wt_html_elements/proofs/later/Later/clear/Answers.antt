use Rattle.wt_html_elements.specs.declared.content.Attribute.{Attribute}
use Rattle.wt_html_elements.proofs.LaterNames.{none_known}
use Rattle.wt_html_elements.proofs.later.Later.clear.Goals as goal

pub invariant_of-self : goal.invariant_of-self
invariant_of-self c = record {
  known = none_known (λ k. k.items) (λ (a : Attribute). a.name.items) (λ (a : Attribute). a.value.items) _ _ c.clear-2.ensures.empty c.clear.ensures.items;
}
