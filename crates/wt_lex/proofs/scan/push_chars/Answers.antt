use Rattle.std.proofs.Common.{refl}
use Rattle.wt_lex.proofs.Follows.{follow_push}
use Rattle.wt_lex.proofs.scan.push_chars.Goals as goal

pub returns-in_ok-push-clause-follow : goal.returns-in_ok-push-clause-follow
returns-in_ok-push-clause-follow c = λ before. rw c.in_ok-push.ensures.ok (follow_push c.args.lexemes.now _ 0 c.args.start before refl)
