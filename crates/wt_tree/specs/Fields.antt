-- What `More` says, with its box or without.
use Rattle.std.specs.Prelude.{Option, None, Some, Box}
use Rattle.std.specs.declared.alloc.Global.{Global}
use Rattle.wt_tree.specs.declared.more.Fields.{Fields}
use Rattle.wt_tree.specs.Rare.{Rare, rare_none}

abbrev pub rare : Option (Box Fields Global) → Rare
rare None = rare_none
rare (Some b) = record { attrs = b.value.attrs; mark = b.value.mark; mw = b.value.mw }
