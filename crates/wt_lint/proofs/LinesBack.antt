-- What stands before a place: whole lines, and a row behind them.
use Rattle.std.proofs.Common.{◌≡◌, ℕ, Bool, true, false, List, [], ◌∷◌, ◌++◌, length, take, refl, sym, ap, ◌∙◌, subst, arith, append_assoc, append-nil, length-append}
use Rattle.std.specs.Prelude.{not, reverse, slice_index}
use Rattle.std.proofs.lemmas.List.{reverse-append, reverse-reverse}
use Rattle.wt_span.specs.Bytes.{is_break}
use Rattle.wt_lint.specs.Bytes.{suffix_len}
use Rattle.wt_lint.specs.Counting.{AreWhole, CountsBack}
use Rattle.wt_lint.specs.Lines.{breaks}
use Rattle.wt_lint.proofs.LineLaws.{break_column, breaks_join}

-- a text as whole lines and a row without a line break
pub record Cut (text : List ℕ) : Type 0 where
  pub lines : List ℕ
  pub row : List ℕ
  pub joins : text ≡ lines ++ row
  pub whole : AreWhole lines
  pub line : breaks lines ≡ breaks text
  pub unbroken : breaks row ≡ 0
  pub column : length row ≡ suffix_len (λ b. not (is_break b)) text

whole_break : (bs : List ℕ) (b : ℕ) → is_break b ≡ true → AreWhole (bs ++ b ∷ [])
whole_break [] b e = e
whole_break (c ∷ bs) b e = ap (λ (xs : List ℕ). is_break (slice_index xs 0)) (reverse-append (c ∷ bs) (b ∷ [])) ∙ e

-- one byte more
longer : (text : List ℕ) (b : ℕ) → Cut text → Cut (text ++ b ∷ [])
longer text b c = by (is_break b) refl
  where
    by : (v : Bool) → is_break b ≡ v → Cut (text ++ b ∷ [])
    by true e = record {
      lines = text ++ b ∷ [];
      row = [];
      joins = sym (append-nil (text ++ b ∷ []));
      whole = whole_break text b e;
      line = refl;
      unbroken = refl;
      column = sym (break_column b text ∙ rw e refl);
    }
    by false e = record {
      lines = c.lines;
      row = c.row ++ b ∷ [];
      joins = ap (λ xs. xs ++ b ∷ []) c.joins ∙ append_assoc c.lines c.row (b ∷ []);
      whole = c.whole;
      line = c.line ∙ sym (breaks_join text (b ∷ []) ∙ rw e (omega arith));
      unbroken = breaks_join c.row (b ∷ []) ∙ rw e (omega (arith, c.unbroken));
      column = length-append c.row (b ∷ []) ∙ sym (break_column b text ∙ rw e (omega (arith, c.column)));
    }

cut_reversed : (bs : List ℕ) → Cut (reverse bs)
cut_reversed [] = record { lines = []; row = []; joins = refl; whole = tt; line = refl; unbroken = refl; column = refl }
cut_reversed (b ∷ bs) = subst Cut (sym (reverse-append (b ∷ []) bs)) (longer (reverse bs) b (cut_reversed bs))

cut : (text : List ℕ) → Cut text
cut text = subst Cut (reverse-reverse text) (cut_reversed (reverse text))

pub counts_back : (page : List ℕ) (at : ℕ) → CountsBack page at
counts_back page at =
    let c = cut (take at page) in record {
      lines = c.lines;
      row = c.row;
      joins = c.joins;
      whole = c.whole;
      line = omega (arith, c.line);
      unbroken = c.unbroken;
      column = omega (arith, c.column);
    }
