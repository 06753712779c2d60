use Rattle.std.proofs.Common.{◌≡◌, ◌∙◌, ap, arith, max, subst}
use Rattle.std.proofs.Math.Nat.{max-eq_left}
use Rattle.wt_transclusion.specs.Cursors.{IsAt, starts}
use Rattle.wt_template_stack.proofs.reader.Reader.seek.Goals as goal

pub returns-clause-reading : goal.returns-clause-reading
returns-clause-reading c = λ mode bytes p s h before.
    let here = h.at.at_is in
    let is : c.max-at.result ≡ c.args.to = c.max-at.ensures ∙ ap (max c.args.to) c.saturating_add.ensures ∙ max-eq_left (omega (arith, here, before)) in
    record {
      read = h.read;
      at = subst (λ q. IsAt c.args.self.text q c.seek.result) is (c.seek.ensures.at p h.at (omega (arith, is, before)));
      starts = c.seek.ensures.at_start ∙ ap (λ q. starts c.args.self.text.text.now q) is ∙ ap (λ xs. starts xs c.args.to) h.read.text_is;
    }
