use Rattle.std.proofs.Common.{◌≤◌, length, arith}
use Rattle.wt_commands.proofs.PageLaws.{place_within, page_too_long, page_not_utf8, page_text}
use Rattle.wt_commands.proofs.page.text_of_page.Goals as goal

pub returns-then-page-gt-PAGE_BYTES-clause-refused :
    goal.returns-then-page-gt-PAGE_BYTES-clause-refused
returns-then-page-gt-PAGE_BYTES-clause-refused c = page_too_long c.args.page.now (omega (arith, c.if-page-gt-PAGE_BYTES.true))

pub overflow_cast-result : goal.overflow_cast-result
overflow_cast-result c =
    let within : c.in-Err.place ≤ length c.args.page.now = place_within c.args.page.now c.in-Err.place c.in-Err.ensures.place in
    omega (arith, within, c.if-page-gt-PAGE_BYTES.false)

pub returns-in-Ok-clause-answered : goal.returns-in-Ok-clause-answered
returns-in-Ok-clause-answered c = page_text c.args.page.now (omega (arith, c.if-page-gt-PAGE_BYTES.false)) c.in-Ok.ensures.whole

pub returns-in-Err-clause-refused : goal.returns-in-Err-clause-refused
returns-in-Err-clause-refused c = page_not_utf8 c.args.page.now c.in-Err.place (omega (arith, c.if-page-gt-PAGE_BYTES.false)) c.in-Err.ensures.place

pub returns-then-page-gt-PAGE_BYTES-clause-exact : goal.returns-then-page-gt-PAGE_BYTES-clause-exact
returns-then-page-gt-PAGE_BYTES-clause-exact c = page_too_long c.args.page.now (omega (arith, c.if-page-gt-PAGE_BYTES.true))

pub returns-in-Err-clause-exact : goal.returns-in-Err-clause-exact
returns-in-Err-clause-exact c = page_not_utf8 c.args.page.now c.in-Err.place (omega (arith, c.if-page-gt-PAGE_BYTES.false)) c.in-Err.ensures.place
