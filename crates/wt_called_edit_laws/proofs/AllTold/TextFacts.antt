-- Facts of lines of text: how many tables are open at them, and that no mark is first behind those that begin them.
use Rattle.std.proofs.Common.{arith, ◌≡◌, ◌≤◌, ℕ, suc, ◌+◌, Bool, true, false, List, [], ◌∷◌, ◌++◌, length, drop, map, refl, sym, ap, ◌∙◌, cond}
use Rattle.wt_span.specs.Items.{Item, is_mark, sign}
use Rattle.wt_lines.specs.declared.kind.LineKind.TheVariants as line
use Rattle.wt_lines.specs.Lines.{content}
use Rattle.wt_page.specs.Lines.{kind_at}
use Rattle.wt_page.specs.Rows.{marks_len, is_unseen}
use Rattle.wt_page_round_trip.proofs.KindTests.{kind_told}
use Rattle.wt_text_edit_laws.specs.ParagraphBetween.{written_rows, tables_behind}
use Rattle.wt_text_edit_laws.proofs.Cuts.RowLines.{AllText}
use Rattle.wt_text_edit_laws.proofs.Cuts.TextLines.{led_first, content_unled}
use Rattle.wt_called_edit_laws.specs.AnyBlocks.{open_after}
use Rattle.wt_called_edit_laws.specs.PlacedBlocks.{AreLinesAt}
use Rattle.wt_called_edit_laws.specs.RowBlocks.{AreOfText}
use Rattle.wt_called_edit_laws.proofs.AllTold.LineKinds.{Lines, past_marks}
use Rattle.wt_called_edit_laws.proofs.Cells.SpotSlots.{open_size}

pub tables_same : (before : Lines) → tables_behind 0 before ≡ length (open_after [] (written_rows 0 before))
tables_same before = open_size [] 0 before refl

pub text_all : (n : ℕ) (ls : Lines) → AreOfText n ls → AllText n ls
text_all n [] h = tt
text_all n (l ∷ ls) h = (h.0, text_all n ls h.1)

pub text_lines_at : (n : ℕ) (ls : Lines) → AreOfText n ls → AreLinesAt n ls
text_lines_at n [] g = tt
text_lines_at n (l ∷ ls) g = (g.0, text_lines_at n ls g.1)

-- behind the marks that begin a line none is first
pub past_unled : (l : List Item) → marks_len (past_marks l) ≡ 0
past_unled [] = refl
past_unled (y ∷ ys) = by (is_mark y) refl (past_unled ys)
  where
    n : ℕ
    n = marks_len ys

    by : (v : Bool) → is_mark y ≡ v → marks_len (drop n ys) ≡ 0 → marks_len (drop (cond (is_mark y) (1 + n) 0) (y ∷ ys)) ≡ 0
    by true e h =
        let z : 1 + n ≡ suc n = omega arith in
        ap (λ (v : Bool). marks_len (drop (cond v (1 + n) 0) (y ∷ ys))) e ∙ ap (λ (k : ℕ). marks_len (drop k (y ∷ ys))) z ∙ h
    by false e h =
        ap (λ (v : Bool). marks_len (drop (cond v (1 + n) 0) (y ∷ ys))) e ∙ ap (λ (v : Bool). cond v (1 + n) 0) e

pub first_unled : (xs zs : List Item) → 1 ≤ length xs → marks_len xs ≡ 0 → marks_len (content (xs ++ zs)) ≡ 0
first_unled [] zs some h = absurd (omega (arith, some))
first_unled (x ∷ xs) zs some h = content_unled (x ∷ (xs ++ zs)) (led_first x xs (xs ++ zs) h)

-- a line in which something is seen isn't blank
pub seen_shown : (n : ℕ) (l : List Item) → is_unseen l ≡ false → kind_at n l ≡ line.Blank → ⊥
seen_shown n l u e =
    let t : is_unseen l ≡ true = kind_told n (map sign (content l)) line.Blank e in
    let wrong : true ≡ false = sym t ∙ u in absurd (cc)
