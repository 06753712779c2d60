use Rattle.wt_selser.proofs.tangled_block.tangled.Goals as goal

pub is_tangled-requires-clause-passes : goal.is_tangled-requires-clause-passes
is_tangled-requires-clause-passes c = c.start-passes.ensures c.args.items.now c.as_bytes.result.now
