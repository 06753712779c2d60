-- Which tables are open behind rows that are blocks, and behind parts of a table.
use Rattle.std.proofs.Common.{arith, ◌≡◌, ◌<◌, ℕ, Bool, true, false, List, [], ◌∷◌, ◌++◌, length, refl, sym, ap, ◌∙◌, subst, inl, inr}
use Rattle.wt_lines.specs.declared.kind.LineKind.{LineKind}
use Rattle.wt_lines.specs.declared.kind.LineKind.TheVariants as line
use Rattle.wt_tables.specs.Extents.{is_open, behind}
use Rattle.wt_tables.specs.Parts.{begins_part, is_row}
use Rattle.wt_page.specs.Rows.{Row}
use Rattle.wt_part_laws.specs.Blocks.{Block, blank, table, heading, rule, lists, preformatted, paragraph, block_rows, AllAre, IsBlock, AreBlocks}
use Rattle.wt_part_laws.specs.Slots.{open_behind}
use Rattle.wt_part_laws.specs.Units.{Level}
use Rattle.wt_part_laws.proofs.Falling.{IsPart, unit_is_part}
use Rattle.wt_part_laws.proofs.UnitCuts.{level_rest, level_ends, inside_of}
use Rattle.wt_called_edit_laws.specs.AnyBlocks.{open_after}

pub open_both : (bs : List Bool) (xs ys : List Row) → open_after bs (xs ++ ys) ≡ open_after (open_after bs xs) ys
open_both bs [] ys = refl
open_both bs (r ∷ xs) ys = open_both (open_behind bs r.kind) xs ys

-- ---- level rows leave the tables round theirs open

-- the tables that they open, and the innermost of those round them
record Step (cs : List Bool) (b : Bool) (bs : List Bool) (k : LineKind) : Type 0 where
  inner : List Bool
  now : Bool
  is : open_behind (cs ++ b ∷ bs) k ≡ inner ++ now ∷ bs
  size : length inner ≡ behind (length cs) k

step : (cs : List Bool) (b : Bool) (bs : List Bool) (k : LineKind) → (k ≡ line.TableEnd → 0 < length cs) → Step cs b bs k
step cs b bs line.Blank h = record { inner = cs; now = b; is = refl; size = refl }
step cs b bs line.TableOpen h = record { inner = false ∷ cs; now = b; is = refl; size = refl }
step [] b bs line.TableEnd h = absurd (omega (arith, h refl))
step (c ∷ cs) b bs line.TableEnd h = record { inner = cs; now = b; is = refl; size = omega arith }
step [] b bs line.Caption h = record { inner = []; now = true; is = refl; size = refl }
step (c ∷ cs) b bs line.Caption h = record { inner = true ∷ cs; now = b; is = refl; size = refl }
step [] b bs line.Row h = record { inner = []; now = false; is = refl; size = refl }
step (c ∷ cs) b bs line.Row h = record { inner = false ∷ cs; now = b; is = refl; size = refl }
step [] b bs line.Cell h = record { inner = []; now = true; is = refl; size = refl }
step (c ∷ cs) b bs line.Cell h = record { inner = true ∷ cs; now = b; is = refl; size = refl }
step [] b bs line.Header h = record { inner = []; now = true; is = refl; size = refl }
step (c ∷ cs) b bs line.Header h = record { inner = true ∷ cs; now = b; is = refl; size = refl }
step cs b bs line.Heading h = record { inner = cs; now = b; is = refl; size = refl }
step cs b bs line.Rule h = record { inner = cs; now = b; is = refl; size = refl }
step cs b bs line.List h = record { inner = cs; now = b; is = refl; size = refl }
step cs b bs line.Pre h = record { inner = cs; now = b; is = refl; size = refl }
step cs b bs line.Text h = record { inner = cs; now = b; is = refl; size = refl }

level_from : (rs : List Row) (cs : List Bool) (b : Bool) (bs : List Bool) → Level (length cs) rs → (c : Bool) × (open_after (cs ++ b ∷ bs) rs ≡ c ∷ bs)
level_from [] [] b bs h = (b, refl)
level_from [] (c ∷ cs) b bs h = absurd h
level_from (r ∷ rs) cs b bs h =
    let s = step cs b bs r.kind (level_ends (length cs) r rs h) in
    let rest = level_from rs s.inner s.now bs (subst (λ (n : ℕ). Level n rs) (sym s.size) (level_rest (length cs) r rs h)) in
    (rest.0, ap (λ (ds : List Bool). open_after ds rs) s.is ∙ rest.1)

pub level_open : (rs : List Row) (b : Bool) (bs : List Bool) → Level 0 rs → (c : Bool) × (open_after (b ∷ bs) rs ≡ c ∷ bs)
level_open rs b bs h = level_from rs [] b bs h

-- ---- a whole table leaves all as it was

table_open : (bs : List Bool) (r : Row) (rs : List Row) → r.kind ≡ line.TableOpen → IsPart (r ∷ rs) → open_after bs (r ∷ rs) ≡ bs
table_open bs r rs o (inr (other, z)) =
    let t : is_open r.kind ≡ true = ap is_open o in
    let f : is_open r.kind ≡ false = other.opens in absurd (cc)
table_open bs r rs o (inl (e, f)) =
    let i = inside_of 0 rs f in
    let c = level_open i.inside false bs i.level in
    ap (λ (k : LineKind). open_after (open_behind bs k) rs) o
    ∙ ap (open_after (false ∷ bs)) i.is
    ∙ open_both (false ∷ bs) i.inside (i.last ∷ [])
    ∙ ap (λ (ds : List Bool). open_after ds (i.last ∷ [])) c.1
    ∙ ap (λ (k : LineKind). open_behind (c.0 ∷ bs) k) i.ends

-- ---- so does a block

alike : (bs : List Bool) (k : LineKind) (rs : List Row) → ((ds : List Bool) → open_behind ds k ≡ ds) → AllAre k rs → open_after bs rs ≡ bs
alike bs k [] f h = refl
alike bs k (r ∷ rs) f h =
    ap (λ (j : LineKind). open_after (open_behind bs j) rs) h.0 ∙ ap (λ (ds : List Bool). open_after ds rs) (f bs) ∙ alike bs k rs f h.1

pub block_open : (bs : List Bool) (b : Block) (others : List Row) → IsBlock b others → open_after bs (block_rows b) ≡ bs
block_open bs (blank r) others h = ap (open_behind bs) h
block_open bs (table r rs last) others h = table_open bs r (rs ++ last ∷ []) h.0 (unit_is_part (r ∷ (rs ++ last ∷ [])) h.1)
block_open bs (heading r) others h = ap (open_behind bs) h
block_open bs (rule r) others h = ap (open_behind bs) h
block_open bs (lists r rs) others h = alike bs line.List (r ∷ rs) (λ ds. refl) h.0
block_open bs (preformatted r rs) others h = alike bs line.Pre (r ∷ rs) (λ ds. refl) h.0
block_open bs (paragraph r rs) others h = alike bs line.Text (r ∷ rs) (λ ds. refl) h.0

pub blocks_open : (bs : List Bool) (us : List Block) (rs : List Row) → AreBlocks us rs → open_after bs rs ≡ bs
blocks_open bs [] rs h = ap (open_after bs) h
blocks_open bs (b ∷ us) rs h =
    ap (open_after bs) h.1 ∙ open_both bs (block_rows b) h.0 ∙ ap (λ (ds : List Bool). open_after ds h.0) (block_open bs b h.0 h.2)
    ∙ blocks_open bs us h.0 h.3

-- ---- and a line of cells

pub cell_open : (b : Bool) (bs : List Bool) (k : LineKind) → begins_part k ≡ true → is_row k ≡ false → open_behind (b ∷ bs) k ≡ true ∷ bs
cell_open b bs line.Blank e f = absurd (cc)
cell_open b bs line.TableOpen e f = absurd (cc)
cell_open b bs line.TableEnd e f = absurd (cc)
cell_open b bs line.Caption e f = refl
cell_open b bs line.Row e f = absurd (cc)
cell_open b bs line.Cell e f = refl
cell_open b bs line.Header e f = refl
cell_open b bs line.Heading e f = absurd (cc)
cell_open b bs line.Rule e f = absurd (cc)
cell_open b bs line.List e f = absurd (cc)
cell_open b bs line.Pre e f = absurd (cc)
cell_open b bs line.Text e f = absurd (cc)
