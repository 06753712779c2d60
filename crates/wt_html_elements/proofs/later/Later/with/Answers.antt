use Rattle.std.proofs.Common.{◌∙◌, refl}
use Rattle.wt_html_elements.specs.declared.content.Attribute.{Attribute}
use Rattle.wt_html_elements.proofs.LaterNames.{known_more}
use Rattle.wt_html_elements.proofs.later.Later.with.Goals as goal

pub invariant_of-result : goal.invariant_of-result
invariant_of-result c = record {
  known = known_more (λ k. k.items) (λ (a : Attribute). a.name.items) (λ (a : Attribute). a.value.items) _ (λ x y. refl) c.args.self.names.keys
      c.insert.new.self.keys c.in_ok-own.own c.args.self.all.items c.push.new.self.items _ c.in_ok-insert.ensures.keys c.in_ok-push.ensures.items
      (c.in_ok-own.ensures.items ∙ c.as_slice.ensures.value) c.args.self.known;
}
