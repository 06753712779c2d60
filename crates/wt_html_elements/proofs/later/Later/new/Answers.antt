use Rattle.wt_html_elements.specs.declared.content.Attribute.{Attribute}
use Rattle.wt_html_elements.proofs.LaterNames.{none_known}
use Rattle.wt_html_elements.proofs.later.Later.new.Goals as goal

pub invariant_of-result : goal.invariant_of-result
invariant_of-result c = record {
  known = none_known (λ k. k.items) (λ (a : Attribute). a.name.items) (λ (a : Attribute). a.value.items) _ _ c.new-2.ensures.empty c.new.ensures.items;
}
