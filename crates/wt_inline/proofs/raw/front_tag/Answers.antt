use Rattle.std.proofs.Common.{sym, ap, ◌∙◌}
use Rattle.std.proofs.lemmas.Str.{IsCharBoundary-start}
use Rattle.wt_span.specs.Tags.{opening_tag}
use Rattle.wt_inline.proofs.RawTags.{tag_border}
use Rattle.wt_inline.proofs.raw.front_tag.Goals as goal

pub returns-in-Some-clause-border : goal.returns-in-Some-clause-border
returns-in-Some-clause-border c = tag_border c.args.text.now _ c.utf8.text (sym (c.in-Some.ensures.value ∙ ap opening_tag c.as_bytes.ensures.value))

pub returns-in-None-clause-border : goal.returns-in-None-clause-border
returns-in-None-clause-border c = IsCharBoundary-start c.args.text.now c.utf8.text
