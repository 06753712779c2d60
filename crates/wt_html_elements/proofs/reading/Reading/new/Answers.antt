use Rattle.wt_html_elements.proofs.Feeding.{new_reads}
use Rattle.wt_html_elements.proofs.reading.Reading.new.Goals as goal

pub returns : goal.returns
returns c = new_reads (record { machine = c.new.result; builder = c.new-2.result }) c.new.ensures c.new-2.ensures
