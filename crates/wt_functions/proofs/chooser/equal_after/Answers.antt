use Rattle.std.proofs.Common.{sym, ◌∙◌, ap, not}
use Rattle.std.specs.Option.{is_some}
use Rattle.std.specs.Str.{bytes_eq}
use Rattle.wt_functions.proofs.EqualParts.{starts, becomes, differs, stays}
use Rattle.wt_functions.proofs.chooser.equal_after.Goals as goal

pub returns-in-len1-up : goal.returns-in-len1-up
returns-in-len1-up c =
    sym (becomes c.args.texts.now c.args.text.now c.first-item.result
    (ap is_some (sym c.requires.before) ∙ c.is_none.ensures ∙ ap not c.if-is_none.true)
    c.in-len1-up.len_at_least c.first-item.is
    (ap (bytes_eq c.args.text.now) (sym c.as_str.ensures) ∙ sym c.eq.ensures ∙ c.if-eq.true))

pub returns-in_default : goal.returns-in_default
returns-in_default c = c.requires.before ∙ sym (starts c.args.texts.now c.args.text.now c.in_default.len_below)

pub returns-in_default-2 : goal.returns-in_default-2
returns-in_default-2 c =
    c.requires.before
    ∙ sym (differs c.args.texts.now c.args.text.now c.first-item.result c.in-len1-up.len_at_least c.first-item.is
    (ap (bytes_eq c.args.text.now) (sym c.as_str.ensures) ∙ sym c.eq.ensures ∙ c.if-eq.false))

pub returns-in_default-3 : goal.returns-in_default-3
returns-in_default-3 c =
    c.requires.before
    ∙ sym (stays c.args.texts.now c.args.text.now (ap is_some (sym c.requires.before) ∙ c.is_none.ensures ∙ ap not c.if-is_none.false))
