use Rattle.std.proofs.Common.{sym, ◌∙◌}
use Rattle.wt_html_elements.specs.View.{names, view_after}
use Rattle.wt_html_elements.specs.Built.{building}
use Rattle.wt_html_elements.proofs.Taking.{takes_naming}
use Rattle.wt_html_elements.proofs.machine.Machine.in_naming.Goals as goal

pub returns-else-is_name_byte : goal.returns-else-is_name_byte
returns-else-is_name_byte c =
    takes_naming (names (building c.args.builder.now).opened) (building c.args.builder.now).name (building c.args.builder.now).attributes c.args.byte
    c.at_open.result (view_after c.at_open.new.self (building c.args.builder.now)) c.requires.none
    (sym c.is_name_byte.ensures ∙ c.if-is_name_byte.false) c.at_open.ensures
