use Rattle.std.proofs.Common.{arith}
use Rattle.wt_content.proofs.Urls.{url_by}
use Rattle.wt_content.proofs.url.is_url.Goals as goal

pub returns : goal.returns
returns c =
    url_by c.args.bytes.now c.rest_of.result.now c.scheme_len-scheme.result c.are_url_bytes.result c.scheme_len-scheme.ensures.value (omega arith)
    (omega (arith, c.scheme_len-scheme.ensures.within)) c.rest_of.ensures c.are_url_bytes.ensures
