use Rattle.std.proofs.Common.{sym, ◌∙◌}
use Rattle.wt_html_in.specs.Feeding.{IsFed, failed_of, taken_of}
use Rattle.wt_html_in.proofs.Reading.{fed_more, refused_at, ill_at, place_at, none_told, going_told}
use Rattle.wt_html_in.proofs.reader.Reader.feed.Goals as goal

pub invariant_of-self : goal.invariant_of-self
invariant_of-self c = record { fed = fed_more c.args.self.now.elements c.feed.new.self c.args.piece.now c.args.self.now.fed c.feed.ensures.fed }

pub returns-in-Ok-clause-going : goal.returns-in-Ok-clause-going
unfolding failed_of
returns-in-Ok-clause-going c = going_told c.feed.new.self.failed c.in-Ok.field-0 (sym c.in-Ok.is ∙ c.feed.ensures.answer)

pub returns-in-Err-clause-refused : goal.returns-in-Err-clause-refused
unfolding IsFed
returns-in-Err-clause-refused c = λ bytes h. refused_at bytes c.in-Err.refusal c.refusal_of.result c.refusal_of.ensures (c.in-Err.ensures.refused bytes h)

pub returns-in-Err-clause-ill : goal.returns-in-Err-clause-ill
unfolding IsFed
returns-in-Err-clause-ill c = λ bytes h. ill_at bytes c.in-Err.refusal c.refusal_of.result c.refusal_of.ensures (c.in-Err.ensures.ill bytes h)

pub returns-in-Err-clause-place : goal.returns-in-Err-clause-place
unfolding failed_of taken_of
returns-in-Err-clause-place c = λ going.
    place_at c.args.self.now.elements.taken c.in-Err.refusal c.refusal_of.result c.refusal_of.ensures
    (c.in-Err.ensures.place (none_told c.args.self.now.elements.failed going))
