use Rattle.std.proofs.Common.{sym, ◌∙◌, subst}
use Rattle.wt_rows.specs.Building.{AreWhole}
use Rattle.wt_rows.proofs.Making.{whole_none, whole_append}
use Rattle.wt_rows.proofs.rows.PageRows.with_sign.Goals as goal

pub with_row-requires-clause-row : goal.with_row-requires-clause-row
with_row-requires-clause-row c = record {
  lead = c.requires.lead;
  inside = subst AreWhole (sym c.as_slice-then-is_idle.ensures) c.requires.sign;
  ending = subst AreWhole (sym (c.as_slice-then-is_idle-2.ensures ∙ c.in_ok-extend_from_slice.ensures.ok))
      (whole_append c.args.line.behind c.args.line.ending.now c.requires.behind c.requires.ending);
  begins = c.requires.free _;
}

pub with_row-requires-2-clause-row : goal.with_row-requires-2-clause-row
with_row-requires-2-clause-row c = record {
  lead = c.requires.lead;
  inside = subst AreWhole (sym c.as_slice-2.ensures) c.requires.sign;
  ending = subst AreWhole (sym c.front_of-none.ensures) whole_none;
  begins = c.requires.free _;
}

pub with_marked-requires-clause-content : goal.with_marked-requires-clause-content
with_marked-requires-clause-content c = subst AreWhole (sym c.as_slice-3.ensures) c.requires.behind
