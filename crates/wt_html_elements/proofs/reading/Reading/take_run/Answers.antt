use Rattle.wt_html_elements.proofs.Feeding.{run_reads}
use Rattle.wt_html_elements.proofs.reading.Reading.take_run.Goals as goal

pub returns-in-Ok : goal.returns-in-Ok
returns-in-Ok c =
    run_reads c.args.self.now c.put_run.new.self c.args.run.now c.put_run.ensures.machine c.requires.place c.in-Ok.ensures.built c.requires.some c.requires.run
