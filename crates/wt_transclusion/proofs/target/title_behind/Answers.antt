use Rattle.std.proofs.Common.{sym, ◌∙◌}
use Rattle.wt_names.proofs.Readings.{read_tidy}
use Rattle.wt_transclusion.proofs.Titles.{colon_border}
use Rattle.wt_transclusion.proofs.target.title_behind.Goals as goal

pub behind-name-requires : goal.behind-name-requires
behind-name-requires c = colon_border c.args.text.now c.utf8.text (sym c.requires ∙ c.if-colon.true)

pub placed-requires-clause-tidy : goal.placed-requires-clause-tidy
placed-requires-clause-tidy c = read_tidy c.if-colon.name.now c.in-Some.title (sym c.in_ok-title.ensures ∙ c.in-Some.is)
