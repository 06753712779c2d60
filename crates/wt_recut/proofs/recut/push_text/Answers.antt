use Rattle.std.proofs.Common.{◌≡◌, ◌∷◌, ◌++◌, [], rules, sym, ◌∙◌}
use Rattle.wt_recut.proofs.Recuts.{pushed_joined, pushed_beside}
use Rattle.wt_recut.proofs.recut.push_text.Goals as goal

pub returns-in_ok-push-in-Some : goal.returns-in_ok-push-in-Some
returns-in_ok-push-in-Some c =
    let e : c.args.nodes.now.items ≡ c.pop.new.self.items ++ c.in-Some.last ∷ [] = search rules in
    pushed_joined c.args.nodes.now.items c.pop.new.self.items c.push-then-is_text.new.self.items c.in-Some.last c.args.text
    c.in_ok-joined-in-Some.joined e (sym c.is_text.ensures ∙ c.if-is_text.true)
    c.in_ok-joined-in-Some.ensures c.in_ok-push-in-Some.ensures.items

pub returns-in_ok-push-in-Some-3 : goal.returns-in_ok-push-in-Some-3
returns-in_ok-push-in-Some-3 c =
    let e : c.args.nodes.now.items ≡ c.pop.new.self.items ++ c.in-Some.last ∷ [] = search rules in
    pushed_beside c.args.nodes.now.items c.pop.new.self.items c.push-else-is_text.new.self.items
    c.push-else-is_text-2.new.self.items c.in-Some.last c.args.text c.bare-else-is_text.result e
    (sym c.is_text.ensures ∙ c.if-is_text.false) c.bare-else-is_text.ensures c.in_ok-push-in-Some-2.ensures.items c.in_ok-push-in-Some-3.ensures.items
