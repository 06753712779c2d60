use Rattle.std.proofs.Common.{ap, ◌∙◌}
use Rattle.std.specs.Prelude.{reverse}
use Rattle.wt_template_stack.specs.Stacks.{text_level}
use Rattle.wt_template_stack.specs.declared.level.Level.{Level}
use Rattle.wt_template_stack.proofs.StackLaws.{only_text}
use Rattle.wt_template_stack.proofs.level.Levels.finish.Goals as goal

pub returns : goal.returns
returns c = λ l e.
    let levels = c.args.self.now in
    c.replace.ensures.value
    ∙ ap (λ (x : Level). x.out) (only_text (reverse levels.later.items) (text_level levels.text_end levels.text_out) l e)
