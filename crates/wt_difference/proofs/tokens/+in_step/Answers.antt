use Rattle.std.proofs.Common.{List, ap₂, arith, sym, ◌∙◌}
use Rattle.wt_tree.specs.View.{views}
use Rattle.wt_tree.specs.declared.node.Node.{Node}
use Rattle.wt_difference.specs.Tokens.{all_tokens, same_tokens}
use Rattle.wt_difference.proofs.InStep.{both_elements, next_same}
use Rattle.wt_difference.proofs.tokens.+in_step.Goals as goal

pub all_same_in_step-loop-at-preserved : goal.all_same_in_step-loop-at-preserved
all_same_in_step-loop-at-preserved t c = record {
  long = c.loop-at.invariant.long;
  same = next_same c.args.old.now c.args.new.now c.loop-at.at c.index-old-at.result c.index-new-at.result (omega arith) (omega arith)
      c.index-old-at.is c.index-new-at.is (c.same_in_step.ensures c.if-not-same_in_step.false) c.loop-at.invariant.same;
}

pub same_in_step-returns-then-same_label : goal.same_in_step-returns-then-same_label
same_in_step-returns-then-same_label t c = λ e.
    both_elements c.args.old.now c.args.new.now (sym c.is_compared.ensures ∙ c.if-not-is_compared.false)
    (sym c.is_compared-else-not-is_compared.ensures ∙ c.if-not-is_compared-2.false) (sym c.is_text.ensures ∙ c.if-is_text.false)
    (sym c.is_text-else-is_text.ensures ∙ c.if-is_text-2.false) (sym c.is_group.ensures ∙ c.if-is_group.false)
    (sym c.is_group-else-is_group.ensures ∙ c.if-is_group-2.false) (sym c.same_label-2.ensures ∙ c.if-same_label.true)
    (ap₂ (λ (xs ys : List Node). same_tokens (all_tokens (views xs)) (all_tokens (views ys))) (sym c.as_slice.ensures)
    (sym c.as_slice-then-same_label.ensures) ∙ c.all_same_in_step.ensures e)
