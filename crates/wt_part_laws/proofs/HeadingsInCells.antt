-- A heading in cells of tables, one in the other: whatever it is, it is at the same place in the same nodes.
use Rattle.std.proofs.Common.{◌≡◌, ◌≤◌, false, List, [], ◌∷◌, ◌++◌, length, refl, sym, ap, ◌∙◌, subst, append_assoc, inl, inr}
use Rattle.std.specs.List.{AllByRecursion}
use Rattle.wt_span.specs.Items.{Item}
use Rattle.wt_span.specs.Runs.{IsRun}
use Rattle.wt_lines.specs.declared.kind.LineKind.{LineKind}
use Rattle.wt_lines.specs.declared.kind.LineKind.TheVariants as line
use Rattle.wt_lines.specs.declared.kind.TheConstants.{MOST_TABLES}
use Rattle.wt_tables.specs.Parts.{units, unit_kind, begins_part, begins_group}
use Rattle.wt_page.specs.Headings.{heading}
use Rattle.wt_page.specs.Rows.{Row, kind_of}
use Rattle.wt_page.specs.Stretches.{gap, tree_block}
use Rattle.wt_page.specs.Tables.{Reading}
use Rattle.wt_page.specs.Body.{one_block, same_block, blocks_by, blocks}
use Rattle.wt_part_laws.specs.Blocks.{heading as heading_block, AreBlocks}
use Rattle.wt_part_laws.specs.Units.{AreUnits}
use Rattle.wt_part_laws.specs.Rounds.{AreCellHolders, TableRound, AreContent, IsTableRound, IsHeading, HeadingStands}
use Rattle.wt_part_laws.proofs.Falling.{IsOther, sort}
use Rattle.wt_part_laws.proofs.BlockCases.{read_by_cases}
use Rattle.wt_part_laws.proofs.Apart.{Apart, all_apart, units_beside, blocks_beside}
use Rattle.wt_part_laws.proofs.Fitting.{Fits}
use Rattle.wt_part_laws.proofs.InCells.{one_level, alone_first, rows_units, content_join, cells_fit_within}

-- ---- its row

heading_other : (r : Row) → r.kind ≡ line.Heading → IsOther r.kind
heading_other r e =
    elim (sort r.kind) [
      | inl o ↦ let f : line.TableOpen ≡ line.Heading = sym o ∙ e in absurd (cc)
      | inr (inl z) ↦ let f : line.TableEnd ≡ line.Heading = sym z ∙ e in absurd (cc)
      | inr (inr o) ↦ o
    ]

heading_plain : (r : Row) → r.kind ≡ line.Heading → begins_part r.kind ≡ false
heading_plain r e = ap begins_part e

pub heading_content : (r : Row) → r.kind ≡ line.Heading → AreContent (r ∷ [])
heading_content r e =
    let o : IsOther r.kind = heading_other r e in
    record {
      level = one_level r o;
      plain = subst (λ us. AllByRecursion (λ u. begins_group kind_of u ≡ false) us) (sym (alone_first r [] o)) (heading_plain r e, tt);
    }

-- ---- no row is part of it

none_before : (k : LineKind) → one_block k line.Heading ≡ false
none_before line.Blank = refl
none_before line.TableOpen = refl
none_before line.TableEnd = refl
none_before line.Caption = refl
none_before line.Row = refl
none_before line.Cell = refl
none_before line.Header = refl
none_before line.Heading = refl
none_before line.Rule = refl
none_before line.List = refl
none_before line.Pre = refl
none_before line.Text = refl

none_behind : (r : Row) (vs : List (List Row)) → r.kind ≡ line.Heading → IsRun same_block ((r ∷ []) ∷ []) vs
none_behind r [] e = tt
none_behind r (v ∷ vs) e = ap (λ k. one_block k (unit_kind kind_of v)) e

-- ---- the rows round it

heading_blocks : (read : Reading) (lead ending : List Item) (r : Row) → IsHeading lead ending r
    → blocks_by read (r ∷ []) ≡ gap lead ∷ tree_block (heading r.items) ∷ gap ending ∷ []
heading_blocks read lead ending r h =
    let is : AreBlocks (heading_block r ∷ []) (r ∷ []) = ([], refl, h.is, refl) in
    read_by_cases read (heading_block r ∷ []) (r ∷ []) is
    ∙ ap (λ xs. gap xs ∷ tree_block (heading r.items) ∷ gap r.ending ∷ []) h.led
    ∙ ap (λ xs. gap lead ∷ tree_block (heading r.items) ∷ gap xs ∷ []) h.ended

pub heading_round : (read : Reading) (lead ending : List Item) (xs ys : List Row) (r : Row) → AreContent xs → AreContent ys → IsHeading lead ending r
    → blocks_by read (xs ++ r ∷ ys) ≡ blocks_by read xs ++ ((gap lead ∷ tree_block (heading r.items) ∷ gap ending ∷ []) ++ blocks_by read ys)
heading_round read lead ending xs ys r h g i =
    let o : IsOther r.kind = heading_other r i.is in
    let are : AreContent (r ∷ []) = heading_content r i.is in
    let ux : AreUnits (units kind_of xs) xs = rows_units xs h.level in
    let ur : AreUnits (units kind_of (r ∷ [])) (r ∷ []) = rows_units (r ∷ []) are.level in
    let uy : AreUnits (units kind_of ys) ys = rows_units ys g.level in
    let rest : AreContent (r ∷ ys) = content_join (r ∷ []) ys are g in
    let both : AreUnits (units kind_of (r ∷ ys)) (r ∷ ys) = rows_units (r ∷ ys) rest.level in
    blocks_beside read xs (r ∷ ys) (units_beside xs (r ∷ ys) ux both)
    (subst (λ us. Apart same_block (units kind_of xs) us) (sym (alone_first r ys o))
    (all_apart same_block (units kind_of xs) (r ∷ []) (units kind_of ys) (λ u. ap (one_block (unit_kind kind_of u)) i.is ∙ none_before (unit_kind kind_of u))))
    ∙ ap (λ ss. blocks_by read xs ++ ss)
    (blocks_beside read (r ∷ []) ys (units_beside (r ∷ []) ys ur uy)
    (subst (λ us. Apart same_block us (units kind_of ys)) (sym (alone_first r [] o)) (none_behind r (units kind_of ys) i.is))
    ∙ ap (λ ss. ss ++ blocks_by read ys) (heading_blocks read lead ending r i))

-- ---- at its place

abbrev OneHeading : List Item → List Item → Type 0
OneHeading lead ending = (r : Row) × IsHeading lead ending r

heading_fits : (read : Reading) (lead ending : List Item) (xs ys : List Row) → AreContent xs → AreContent ys
    → Fits (OneHeading lead ending) (λ i. heading i.0.items) AreCellHolders (λ i. blocks_by read (xs ++ i.0 ∷ ys))
heading_fits read lead ending xs ys h g = record {
  around = record { front = blocks_by read xs ++ gap lead ∷ []; holders = []; back = gap ending ∷ blocks_by read ys };
  held = tt;
  is = λ i. heading_round read lead ending xs ys i.0 h g i.1
      ∙ sym (append_assoc (blocks_by read xs) (gap lead ∷ []) (tree_block (heading i.0.items) ∷ gap ending ∷ blocks_by read ys));
}

pub heading_stands : (ts : List TableRound) (xs ys : List Row) (lead ending : List Item) → AllByRecursion IsTableRound ts → length ts ≤ MOST_TABLES
    → AreContent xs → AreContent ys → HeadingStands ts xs ys lead ending
unfolding blocks
heading_stands ts xs ys lead ending h le a b =
    let I : Type 0 = OneHeading lead ending in
    let g : I → List Row = λ i. xs ++ i.0 ∷ ys in
    let own : (i : I) → AreContent (g i) = λ i. content_join xs (i.0 ∷ ys) a (content_join (i.0 ∷ []) ys (heading_content i.0 i.1.is) b) in
    let f = cells_fit_within I (λ i. heading i.0.items) g own (λ read. heading_fits read lead ending xs ys a b) MOST_TABLES ts le h in
    record { around = f.around; of_cells = f.held; stands = λ r i. f.is (r, i) }
