use Rattle.std.proofs.Common.{◌≡◌, true, sym, ap, ◌∙◌}
use Rattle.wt_attributes.specs.Attributes.{begins_any_case}
use Rattle.wt_attributes.proofs.Fronts.{border_word}
use Rattle.wt_attributes.proofs.attribute.after_word.Goals as goal

pub split_at-requires : goal.split_at-requires
split_at-requires c =
    let w = c.args.word.now in
    let e : begins_any_case w c.args.text.now ≡ true = ap (begins_any_case w) (sym c.as_bytes.ensures.value)
    ∙ sym c.begins_any_case.ensures ∙ c.if-begins_any_case.true in
    border_word w c.args.text.now c.utf8.text c.requires.some c.requires.ascii e
