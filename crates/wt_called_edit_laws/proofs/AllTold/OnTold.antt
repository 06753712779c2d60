-- Blocks on lines that are told, whatever their sources are: they stand there, and begin where the lines do.
use Rattle.std.proofs.Common.{◌≡◌, ℕ, ◌+◌, Bool, List, [], ◌∷◌, ◌++◌, length, refl, sym, ap, ◌∙◌, subst}
use Rattle.wt_page.specs.Rows.{Row}
use Rattle.wt_tables.specs.Parts.{joined}
use Rattle.wt_text_edit_laws.specs.TextBlocks.{TextBlock, a_paragraph, a_heading, FirstApart}
use Rattle.wt_called_edit_laws.specs.AnyBlocks.{open_after, EndsFor, NextApart}
use Rattle.wt_called_edit_laws.specs.CallingTold.{as_block}
use Rattle.wt_called_edit_laws.specs.LinedCalling.{IsCallingAt, AreCallingAfter, AreCallingLined}
use Rattle.wt_called_edit_laws.specs.PlacedLines.{LinedBlock, LinesApart, lead_of, front_rows}
use Rattle.wt_called_edit_laws.specs.ToldLines.{Told, a_paragraph_of, a_heading_on, lined, IsToldAt, AreToldAfter, AreTold}
use Rattle.wt_called_edit_laws.specs.ToldTogether.{told_starts}
use Rattle.wt_called_edit_laws.proofs.AllTold.CallingBytes.{block_starts}
use Rattle.wt_called_edit_laws.proofs.AllTold.Found.{size}
use Rattle.wt_called_edit_laws.proofs.AllTold.LineKinds.{Lines}
use Rattle.wt_called_edit_laws.proofs.AllTold.NodeLines.{IsOfKind}
use Rattle.wt_called_edit_laws.proofs.AllTold.SignBlocks.{calling_on}

-- ---- blocks on lines that are told stand there

-- on the same lines, whatever its source is
pub record IsOnTold (t : Told) (b : LinedBlock) : Type 0 where
  pub is : b ≡ as_block (lined t).before (lined t).sign (lined t).marks (lined t).first (lined t).more b.block b.text
  pub kind : IsOfKind (lined t).block b.block

abbrev pub AreOnTold : List Told → List LinedBlock → Type 0
AreOnTold [] [] = Unit {0}
AreOnTold [] (b ∷ bs) = ⊥
AreOnTold (t ∷ ts) [] = ⊥
AreOnTold (t ∷ ts) (b ∷ bs) = IsOnTold t b × AreOnTold ts bs

ends_so : (j k : TextBlock) (rs : List Row) → IsOfKind j k → EndsFor j rs → EndsFor k rs
ends_so a_paragraph a_paragraph rs e h = h
ends_so a_paragraph (a_heading s) rs e h = absurd e
ends_so (a_heading s) a_paragraph rs e h = absurd e
ends_so (a_heading s) (a_heading z) rs e h = tt

first_so : (j k : TextBlock) (rs : List Row) → IsOfKind j k → FirstApart j rs → FirstApart k rs
first_so a_paragraph a_paragraph rs e h = h
first_so a_paragraph (a_heading s) rs e h = absurd e
first_so (a_heading s) a_paragraph rs e h = absurd e
first_so (a_heading s) (a_heading z) [] e h = tt
first_so (a_heading s) (a_heading z) (r ∷ rs) e h = h

next_so : (i k : TextBlock) (j l : TextBlock) (rs : List Row) → IsOfKind i k → IsOfKind j l → NextApart i j rs → NextApart k l rs
next_so a_paragraph a_paragraph j l rs e f h = first_so j l rs f h
next_so a_paragraph (a_heading s) j l rs e f h = absurd e
next_so (a_heading s) a_paragraph j l rs e f h = absurd e
next_so (a_heading s) (a_heading z) j l rs e f h = tt

behind_so : (j k : TextBlock) (n : ℕ) (ls : Lines) → IsOfKind j k → LinesApart j n ls → LinesApart k n ls
behind_so a_paragraph a_paragraph n ls e h = h
behind_so a_paragraph (a_heading s) n ls e h = absurd e
behind_so (a_heading s) a_paragraph n ls e h = absurd e
behind_so (a_heading s) (a_heading z) n ls e h = tt

abbrev on_told : Told → TextBlock → List ℕ → LinedBlock
on_told t k q = as_block (lined t).before (lined t).sign (lined t).marks (lined t).first (lined t).more k q

calling_at : (open_tables : List Bool) (t : Told) (k : TextBlock) (q : List ℕ) → IsOfKind (lined t).block k → IsToldAt open_tables t → IsCallingAt open_tables (on_told t k q)
calling_at open_tables (a_paragraph_of b s m f r) a_paragraph q e h = calling_on open_tables b s m f r q h
calling_at open_tables (a_paragraph_of b s m f r) (a_heading z) q e h = absurd e
calling_at open_tables (a_heading_on b m l) a_paragraph q e h = absurd e
calling_at open_tables (a_heading_on b m l) (a_heading s) q e h =
    record { sign = tt; are_marks = h.are_marks; some = h.some; in_cells = h.in_cells; apart = tt; own = tt }

lined_after : (i k : TextBlock) (open_tables : List Bool) (ts : List Told) (bs : List LinedBlock) (behind : Lines) → IsOfKind i k → AreOnTold ts bs
    → AreToldAfter i open_tables ts behind → AreCallingAfter k open_tables bs behind
lined_after i k open_tables [] [] behind e o h = behind_so i k (length open_tables) behind e h
lined_after i k open_tables [] (b ∷ bs) behind e o h = absurd o
lined_after i k open_tables (t ∷ ts) [] behind e o h = absurd o
lined_after i k open_tables (t ∷ ts) (b ∷ bs) behind e o h =
    let rows : List Row = front_rows (length open_tables) (lined t) in
    subst (λ (c : LinedBlock). NextApart k c.block (front_rows (length open_tables) c) × IsCallingAt open_tables c
    × AreCallingAfter c.block (open_after open_tables (front_rows (length open_tables) c)) bs behind) (sym o.0.is) (
      next_so i k (lined t).block b.block rows e o.0.kind h.0,
      calling_at open_tables t b.block b.text o.0.kind h.1,
      lined_after (lined t).block b.block (open_after open_tables rows) ts bs behind o.0.kind o.1 h.2,
    )

pub lined_on : (ts : List Told) (bs : List LinedBlock) (behind : Lines) → AreOnTold ts bs → AreTold ts behind → AreCallingLined bs behind
lined_on [] bs behind o h = absurd h
lined_on (t ∷ ts) [] behind o h = absurd o
lined_on (t ∷ ts) (b ∷ bs) behind o h =
    let rows : List Row = front_rows 0 (lined t) in
    subst (λ (c : LinedBlock). IsCallingAt [] c × AreCallingAfter c.block (open_after [] (front_rows 0 c)) bs behind) (sym o.0.is) (
      calling_at [] t b.block b.text o.0.kind h.0,
      lined_after (lined t).block b.block (open_after [] rows) ts bs behind o.0.kind o.1 h.1,
    )

pub starts_on : (at : ℕ) (ts : List Told) (bs : List LinedBlock) → AreOnTold ts bs → told_starts at ts ≡ block_starts at bs
starts_on at [] [] o = refl
starts_on at [] (b ∷ bs) o = absurd o
starts_on at (t ∷ ts) [] o = absurd o
starts_on at (t ∷ ts) (b ∷ bs) o =
    let c : LinedBlock = on_told t b.block b.text in
    let first : ℕ = at + size (joined c.before) + size (lead_of c) in
    ap (λ (ns : List ℕ). first ∷ ns) (starts_on (at + size (joined c.before) + size (joined ((lead_of c ++ c.first) ∷ c.more))) ts bs o.1)
    ∙ ap (λ (x : LinedBlock). (at + size (joined x.before) + size (lead_of x)) ∷ block_starts (at + size (joined x.before) + size (joined ((lead_of x ++ x.first) ∷ x.more))) bs)
    (sym o.0.is)
