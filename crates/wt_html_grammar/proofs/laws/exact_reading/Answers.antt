use Rattle.wt_html_grammar.proofs.Reading.{well_read}
use Rattle.wt_html_grammar.proofs.Whole.{read_well, front_of}
use Rattle.wt_html_grammar.proofs.Places.{no_front}
use Rattle.wt_html_grammar.proofs.laws.exact_reading.Goals as goal

pub returns : goal.returns
returns c = record { read = well_read; well = read_well; front = front_of; stopped = no_front }
