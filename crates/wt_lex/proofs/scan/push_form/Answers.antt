use Rattle.std.proofs.Common.{refl}
use Rattle.wt_lex.proofs.Follows.{follow_push}
use Rattle.wt_lex.proofs.scan.push_form.Goals as goal

pub returns-clause-follow : goal.returns-clause-follow
returns-clause-follow c = λ before. rw c.in_ok-push.ensures.ok (follow_push c.args.lexemes.now _ 0 c.args.start before refl)
