use Rattle.std.proofs.Common.{refl}
use Rattle.wt_span.specs.Items.{items}
use Rattle.wt_page.specs.Rows.{idle_len}
use Rattle.wt_rows.proofs.Making.{whole_front, whole_back, idle_begins}
use Rattle.wt_rows.proofs.rows.PageRows.with_idle.Goals as goal

pub with_row-requires-clause-row : goal.with_row-requires-clause-row
with_row-requires-clause-row c =
    let xs = items c.args.content.now in
    let lead = c.in_ok-lead.lead in
    let rest = c.in_ok-lead.rest in
    record {
      lead = whole_front xs lead c.as_slice.result.now (idle_len xs) c.as_slice.ensures c.in_ok-lead.ensures.sound_front c.in_ok-lead.ensures.front
          c.requires.unbroken;
      inside = whole_back xs rest c.as_slice-2.result.now (idle_len xs) c.as_slice-2.ensures c.in_ok-lead.ensures.sound_back c.in_ok-lead.ensures.back
          c.requires.unbroken;
      ending = c.requires.ending;
      begins = idle_begins c.args.kind xs rest c.as_slice-2.result.now (idle_len xs) c.as_slice-2.ensures c.in_ok-lead.ensures.back refl
          c.requires.begins;
    }
