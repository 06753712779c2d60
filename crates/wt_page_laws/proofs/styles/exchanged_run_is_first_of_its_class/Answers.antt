use Rattle.wt_page_laws.proofs.Choice.{one_is_chosen}
use Rattle.wt_page_laws.proofs.styles.exchanged_run_is_first_of_its_class.Goals as goal

pub returns : goal.returns
returns c = one_is_chosen c.args.chunks.now
