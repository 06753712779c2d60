use Rattle.std.proofs.Common.{ap, ◌∙◌, ◌≡◌, ◌++◌, length, arith}
use Rattle.std.proofs.lemmas.List.{length-append}
use Rattle.wt_span.specs.Items.{items, items_of, call_of_origin}
use Rattle.wt_inline.specs.Parts.{are_of}
use Rattle.wt_inline.proofs.Trees.{items_more}
use Rattle.wt_inline.proofs.Growing.{more_are}
use Rattle.wt_inline.proofs.run.Run.with.Goals as goal

pub invariant_of-result : goal.invariant_of-result
invariant_of-result c =
    let p = c.args.piece in
    let self = c.args.self in
    let is : items c.push_tight.new.self ≡ items self.pieces ++ items_of p = items_more self.pieces c.push_tight.new.self p c.in_ok-push_tight.ensures.ok in
    record {
      some = omega (arith, ap length is, length-append (items self.pieces) (items_of p), self.some);
      one_origin = ap (are_of (call_of_origin self.origin)) is ∙ more_are (call_of_origin self.origin)
          (call_of_origin p.origin) p.form p.text.of.now (items self.pieces) self.one_origin c.requires.chars c.requires.same;
    }
