use Rattle.std.specs.Prelude.{codes}
use Rattle.wt_isolation.proofs.Schemes.{scheme_fits}
use Rattle.wt_isolation.proofs.scheme.scheme_len.Goals as goal

pub returns-then-begins_like-2-clause-within : goal.returns-then-begins_like-2-clause-within
returns-then-begins_like-2-clause-within c =
    scheme_fits (codes "https://") c.args.bytes.now _ c.begins_like-else-begins_like.ensures c.if-begins_like-2.true

pub returns-then-begins_like-3-clause-within : goal.returns-then-begins_like-3-clause-within
returns-then-begins_like-3-clause-within c =
    scheme_fits (codes "ftp://") c.args.bytes.now _ c.begins_like-else-begins_like-2.ensures c.if-begins_like-3.true
