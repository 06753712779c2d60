-- What groups in code stand for: slices of rows, by place. A place past the rows is their end.
use Rattle.std.specs.Prelude.{◌-◌, List, map, take, drop}
use Rattle.wt_rows.specs.declared.row.RowAt.{RowAt}
use Rattle.wt_rows.specs.declared.group.Group.{Group}

abbrev pub group_view : List RowAt → Group → List RowAt
group_view rs g = take (g.to - g.from) (drop g.from rs)

abbrev pub groups_view : List RowAt → List Group → List (List RowAt)
groups_view rs gs = map (group_view rs) gs
