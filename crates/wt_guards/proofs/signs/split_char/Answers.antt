use Rattle.std.proofs.Common.{sym, ap, ◌∙◌, ◌++◌}
use Rattle.std.specs.Prelude.{encode_utf8}
use Rattle.wt_guards.proofs.Texts.{letters_empty, letters_past}
use Rattle.wt_guards.proofs.signs.split_char.Goals as goal

pub returns-in-Some : goal.returns-in-Some
returns-in-Some c =
    letters_past c.args.text.now c.as_str.result.now c.in-Some.c c.utf8.text
    (sym c.chars-chars.ensures.rest ∙ c.in-Some.ensures.steps.0 ∙ ap (λ r. encode_utf8 c.in-Some.c ++ r) (sym c.as_str.ensures))

pub returns-in-None : goal.returns-in-None
returns-in-None c = letters_empty c.args.text.now (rw (sym c.chars-chars.ensures.rest) c.in-None.ensures.steps.0.0)
