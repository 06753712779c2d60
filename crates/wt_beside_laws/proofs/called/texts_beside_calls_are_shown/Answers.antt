-- What texts beside calls show.
use Rattle.wt_beside_laws.proofs.Groups.CalledShown.{called_shows, group_parts_show}
use Rattle.wt_beside_laws.proofs.called.texts_beside_calls_are_shown.Goals as goal

pub returns-clause-shown : goal.returns-clause-shown
returns-clause-shown c = called_shows

pub returns-clause-group : goal.returns-clause-group
returns-clause-group c = group_parts_show
