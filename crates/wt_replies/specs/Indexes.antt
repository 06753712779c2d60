-- What the code keeps of a table, as the entries of names.
use Rattle.std.specs.Ordering.{nat_cmp}
use Rattle.std.specs.Cmp.Lexicographic.{slice_cmp}
use Rattle.std.specs.BTreeMap.{get_by}
use Rattle.wt_replies.specs.declared.index.Index.{Index}
use Rattle.wt_replies.specs.Tables.{Entries}

abbrev pub entries_of : Index → Entries
entries_of index name = get_by (λ key. slice_cmp nat_cmp name key.now) index.pages
