use Rattle.wt_template_stack.proofs.reader.Reader.start.Goals as goal

pub returns : goal.returns
returns c = λ mode bytes h. record { read = h; at = c.start.ensures.at mode bytes c.args.text h; starts = c.start.ensures.at_start }
