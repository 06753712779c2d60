use Rattle.std.proofs.Common.{◌+◌, Some, refl, sym, ◌∙◌, take}
use Rattle.wt_html_elements.specs.Reads.{parts_of}
use Rattle.wt_html_elements.proofs.Answering.{fits_now, more_fed, whole_fed, part_fed, failed_piece}
use Rattle.wt_html_elements.proofs.reader.Reader.feed_some.Goals as goal

pub take_some-requires-clause-fits : goal.take_some-requires-clause-fits
take_some-requires-clause-fits c = fits_now c.args.self.now.failed c.args.self.now.reading c.args.self.now.taken c.args.self.now.token_at c.args.self.now.fed c.requires.going

pub invariant_of-self : goal.invariant_of-self
invariant_of-self c = record {
  fed = more_fed c.args.self.now.failed c.args.self.now.failed c.args.self.now.reading c.take_some.new.self c.args.self.now.taken c.args.self.now.token_at (c.args.self.now.taken + c.in-Ok.count) (c.args.self.now.taken + c.in-Ok.count) (take c.in-Ok.count c.args.piece.now) c.args.self.now.fed
      (whole_fed c.args.self.now.failed c.args.self.now.failed c.args.self.now.reading c.take_some.new.self c.args.self.now.taken c.args.self.now.token_at (c.args.self.now.taken + c.in-Ok.count) (c.args.self.now.taken + c.in-Ok.count) c.in-Ok.count c.args.piece.now c.requires.going refl c.in-Ok.ensures.within c.in-Ok.ensures.took refl
      (sym (c.is_between.ensures (parts_of c.take_some.new.self)) ∙ c.if-is_between.true) refl);
}

pub invariant_of-self-else-is_between : goal.invariant_of-self-else-is_between
invariant_of-self-else-is_between c = record {
  fed = more_fed c.args.self.now.failed c.args.self.now.failed c.args.self.now.reading c.take_some.new.self c.args.self.now.taken c.args.self.now.token_at (c.args.self.now.taken + c.in-Ok.count) c.args.self.now.token_at (take c.in-Ok.count c.args.piece.now) c.args.self.now.fed
      (part_fed c.args.self.now.failed c.args.self.now.failed c.args.self.now.reading c.take_some.new.self c.args.self.now.taken c.args.self.now.token_at (c.args.self.now.taken + c.in-Ok.count) c.args.self.now.token_at c.in-Ok.count c.args.piece.now c.requires.going refl c.in-Ok.ensures.within c.in-Ok.ensures.took refl
      (sym (c.is_between.ensures (parts_of c.take_some.new.self)) ∙ c.if-is_between.false) refl);
}

pub invariant_of-self-in-Err : goal.invariant_of-self-in-Err
invariant_of-self-in-Err c = record {
  fed = more_fed c.args.self.now.failed (Some c.refusal_of-refusal.result) c.args.self.now.reading c.new.result c.args.self.now.taken c.args.self.now.token_at c.args.self.now.taken c.args.self.now.token_at c.args.piece.now c.args.self.now.fed
      (failed_piece c.args.self.now.failed _ c.refusal_of-refusal.result c.in-Err.fault c.args.self.now.reading c.take_some.new.self c.new.result c.args.self.now.taken c.args.self.now.token_at
      c.args.self.now.taken c.args.self.now.token_at c.args.piece.now c.requires.going refl c.refusal_of-refusal.ensures c.in-Err.ensures.took c.new.ensures);
}

pub returns-then-is_between-clause-fed : goal.returns-then-is_between-clause-fed
returns-then-is_between-clause-fed c =
    whole_fed c.args.self.now.failed c.args.self.now.failed c.args.self.now.reading c.take_some.new.self c.args.self.now.taken c.args.self.now.token_at (c.args.self.now.taken + c.in-Ok.count) (c.args.self.now.taken + c.in-Ok.count) c.in-Ok.count c.args.piece.now c.requires.going refl c.in-Ok.ensures.within c.in-Ok.ensures.took refl
    (sym (c.is_between.ensures (parts_of c.take_some.new.self)) ∙ c.if-is_between.true) refl

pub returns-else-is_between-clause-fed : goal.returns-else-is_between-clause-fed
returns-else-is_between-clause-fed c =
    part_fed c.args.self.now.failed c.args.self.now.failed c.args.self.now.reading c.take_some.new.self c.args.self.now.taken c.args.self.now.token_at (c.args.self.now.taken + c.in-Ok.count) c.args.self.now.token_at c.in-Ok.count c.args.piece.now c.requires.going refl c.in-Ok.ensures.within c.in-Ok.ensures.took refl
    (sym (c.is_between.ensures (parts_of c.take_some.new.self)) ∙ c.if-is_between.false) refl

pub returns-in-Err-clause-refused : goal.returns-in-Err-clause-refused
returns-in-Err-clause-refused c =
    failed_piece c.args.self.now.failed _ c.refusal_of-refusal.result c.in-Err.fault c.args.self.now.reading c.take_some.new.self c.new.result c.args.self.now.taken c.args.self.now.token_at
    c.args.self.now.taken c.args.self.now.token_at c.args.piece.now c.requires.going refl c.refusal_of-refusal.ensures c.in-Err.ensures.took c.new.ensures
