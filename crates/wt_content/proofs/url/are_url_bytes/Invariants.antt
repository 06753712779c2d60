use Rattle.std.proofs.Common.{◌≡◌, false, drop}
use Rattle.wt_content.proofs.Urls.{go_on}
use Rattle.wt_content.proofs.url.are_url_bytes.Given as goal

abbrev pub invariant-loop-byte : goal.invariant-loop-byte
invariant-loop-byte l = go_on l.apostrophe (drop l.byte-index l.bytes) ≡ go_on false l.bytes
