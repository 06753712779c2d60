use Rattle.std.proofs.Common.{◌≡◌, true, false, sym, ◌∙◌, arith}
use Rattle.std.proofs.lemmas.Grind.{common_steps}
use Rattle.std.proofs.lemmas.List.{at_drop_more, at_drop_all}
use Rattle.wt_content.proofs.Urls.{go_on, run_is_whole}
use Rattle.wt_content.proofs.url.are_url_bytes.Goals as goal

pub returns-then-not-goes_on : goal.returns-then-not-goes_on
returns-then-not-goes_on c =
    let here = at_drop_more (go_on c.loop-byte.apostrophe) c.args.bytes.now c.loop-byte.byte-index 0 (omega arith) in
    let e : false ≡ go_on false c.args.bytes.now = grind (arith, common_steps) in
    e ∙ sym (run_is_whole c.args.bytes.now)

pub returns : goal.returns
returns c =
    let e : true ≡ go_on false c.args.bytes.now = grind (arith, common_steps, at_drop_all (go_on c.loop-byte.apostrophe) c.args.bytes.now) in
    e ∙ sym (run_is_whole c.args.bytes.now)
