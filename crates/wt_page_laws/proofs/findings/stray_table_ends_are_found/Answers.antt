use Rattle.wt_page_laws.proofs.TableEnds.{stray_ends_found}
use Rattle.wt_page_laws.proofs.findings.stray_table_ends_are_found.Goals as goal

pub returns : goal.returns
returns c = stray_ends_found
