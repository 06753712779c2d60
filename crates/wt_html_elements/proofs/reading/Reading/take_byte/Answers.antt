use Rattle.wt_html_elements.specs.Reads.{state_of, parts_of}
use Rattle.wt_html_elements.proofs.Feeding.{byte_reads, byte_ill, may_be}
use Rattle.wt_html_elements.proofs.reading.Reading.take_byte.Goals as goal

pub put-requires : goal.put-requires
put-requires c = may_be (state_of c.args.self.now) c.args.byte (parts_of c.args.self.now) c.in-Ok.event c.in-Ok.ensures.1 c.requires.fits

pub returns-in-Ok-put : goal.returns-in-Ok-put
returns-in-Ok-put c =
    byte_reads c.args.self.now (record { machine = c.take.new.self; builder = c.put.new.self }) c.args.byte c.in-Ok.event c.in-Ok.ensures.0 c.in-Ok.ensures.1
    c.in-Ok-put.ensures

pub returns-in-Err : goal.returns-in-Err
returns-in-Err c = byte_ill c.args.self.now c.args.self.now c.args.byte c.in-Err.why c.in-Err.ensures
