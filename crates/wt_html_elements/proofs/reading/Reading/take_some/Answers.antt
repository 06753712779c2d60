use Rattle.std.proofs.Common.{◌≡◌, Err, rules}
use Rattle.wt_html_elements.proofs.Feeding.{run_took, byte_took, run_failed, byte_failed, first_one}
use Rattle.wt_html_elements.proofs.reading.Reading.take_some.Goals as goal

pub returns-in_err-take_run-clause-took : goal.returns-in_err-take_run-clause-took
returns-in_err-take_run-clause-took c =
    let e : c.from_residual.result ≡ Err c.in_err-take_run.field-0.0 = search rules in
    run_failed c.args.self.now c.take_run.new.self c.args.piece.now c.front_of.result.now c.in_err-take_run.field-0.0 c.from_residual.result e
    c.in_err-take_run.ensures

pub returns-in_err-take_byte-clause-took : goal.returns-in_err-take_byte-clause-took
returns-in_err-take_byte-clause-took c =
    let e : c.from_residual-in_err-take_byte.result ≡ Err c.in_err-take_byte.field-0.0 = search rules in
    byte_failed c.args.self.now c.take_byte.new.self c.args.piece.now _ c.in_err-take_byte.field-0.0 c.from_residual-in_err-take_byte.result e
    (first_one c.args.piece.now c.requires.some) c.in_err-take_byte.ensures

pub returns-in_ok-take_run-clause-took : goal.returns-in_ok-take_run-clause-took
returns-in_ok-take_run-clause-took c =
    run_took c.args.self.now c.take_run.new.self c.args.piece.now c.front_of.result.now c.run_len-run.result c.front_of.ensures c.run_len-run.ensures.within
    c.in_ok-take_run.ensures

pub returns-in_ok-take_byte-clause-took : goal.returns-in_ok-take_byte-clause-took
returns-in_ok-take_byte-clause-took c =
    byte_took c.args.self.now c.take_byte.new.self c.args.piece.now _ (first_one c.args.piece.now c.requires.some) c.in_ok-take_byte.ensures
