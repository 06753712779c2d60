-- What holds blocks is a part that pages are built of, with a number.
use Rattle.std.proofs.Common.{◌≡◌, true, sym, refl, subst, inl, inr}
use Rattle.wt_tree.specs.declared.kind.Kind.{Kind}
use Rattle.wt_tree.specs.declared.kind.Kind.TheVariants as kind
use Rattle.wt_tree.specs.Kinds.{is_numbered}
use Rattle.wt_difference.specs.Insides.{is_block_part}
use Rattle.wt_part_laws.specs.Rounds.{IsCellKind}
use Rattle.wt_part_laws.specs.Frames.{Part, content, in_table, in_body, in_row, Holds}

-- ---- the kinds of nodes round blocks

pub record IsPartKind (k : Kind) : Type 0 where
  pub numbered : is_numbered k ≡ true
  pub part : is_block_part k ≡ true

as_part : (k j : Kind) → k ≡ j → IsPartKind j → IsPartKind k
as_part k j e h = subst IsPartKind (sym e) h

cell_part : (k : Kind) → IsCellKind k → IsPartKind k
cell_part k (inl e) = as_part k kind.Td e (record { numbered = refl; part = refl })
cell_part k (inr e) = as_part k kind.Th e (record { numbered = refl; part = refl })

pub part_kind : (p q : Part) (k : Kind) → Holds p k q → IsPartKind k
part_kind content in_table k h = as_part k kind.Table h (record { numbered = refl; part = refl })
part_kind content content k h = absurd h
part_kind content in_body k h = absurd h
part_kind content in_row k h = absurd h
part_kind in_table in_body k h = as_part k kind.Tbody h (record { numbered = refl; part = refl })
part_kind in_table content k h = as_part k kind.Caption h (record { numbered = refl; part = refl })
part_kind in_table in_table k h = absurd h
part_kind in_table in_row k h = absurd h
part_kind in_body in_row k h = as_part k kind.Tr h (record { numbered = refl; part = refl })
part_kind in_body content k h = absurd h
part_kind in_body in_table k h = absurd h
part_kind in_body in_body k h = absurd h
part_kind in_row content k h = cell_part k h
part_kind in_row in_table k h = absurd h
part_kind in_row in_body k h = absurd h
part_kind in_row in_row k h = absurd h

-- ---- what is shown of what is sent

-- ---- of nodes, one, and others

-- ---- a block

-- ---- a node that holds blocks

-- ---- all of it
