use Rattle.std.proofs.Common.{◌≡◌, false, rules, sym, ◌∙◌}
use Rattle.wt_recut.proofs.Recuts.{pushed_other}
use Rattle.wt_recut.proofs.recut.push_joined.Goals as goal

pub returns-then-not-is_text : goal.returns-then-not-is_text
returns-then-not-is_text c =
    let e : c.is_text.result ≡ false = search rules in
    pushed_other c.args.nodes.now.items c.push.new.self.items c.args.node (sym c.is_text.ensures ∙ e) c.in_ok-push.ensures.items
