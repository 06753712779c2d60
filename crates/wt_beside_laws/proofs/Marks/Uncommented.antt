-- No comment begins over the end of a text, where behind it a letter, a digit, a `#` or a `;` is first.
use Rattle.std.proofs.Common.{◌≡◌, ℕ, suc, ◌≤◌, ◌+◌, Bool, true, false, Option, Some, None, List, [], ◌∷◌, ◌++◌, length, get_or, take, drop, refl, sym, ap, ◌∙◌}
use Rattle.std.specs.Prelude.{codes, if◌then◌else◌}
use Rattle.std.proofs.Math.Seq.{take-append_seam}
use Rattle.wt_span.specs.Bytes.{begins, through}
use Rattle.wt_span.specs.Comments.{comment_len}
use Rattle.wt_lex.proofs.Fronts.{begins_front}
use Rattle.wt_text_edit_laws.specs.ReadContents.{joins_reference}
use Rattle.wt_text_edit_laws.proofs.Between.LineWords.{word_before}
use Rattle.wt_beside_laws.proofs.Own.Crossing.{get_behind}

none_begun : (bs : List ℕ) → comment_len bs ≡ None → begins (codes "<!--") bs ≡ true → ⊥
unfolding comment_len
none_begun bs h e = by (begins (codes "<!--") bs) e h
  where
    by : (t : Bool) → t ≡ true → (if t then Some (4 + through (codes "-->") (drop 4 bs)) else None) ≡ None → ⊥
    by true e f = cc
    by false e f = cc

pub joined_none : (b : ℕ) (q : List ℕ) (c : ℕ) (cs : List ℕ) → joins_reference c ≡ true → comment_len (b ∷ q) ≡ None → comment_len (b ∷ (q ++ c ∷ cs)) ≡ None
unfolding comment_len
joined_none b q c cs j h = by (begins (codes "<!--") bs) refl
  where
    bs : List ℕ
    bs = b ∷ (q ++ c ∷ cs)

    here : joins_reference (get_or bs (suc (length q)) 0) ≡ true
    here = ap joins_reference (get_behind (b ∷ q) (c ∷ cs)) ∙ j

    own : begins (codes "<!--") bs ≡ true → begins (codes "<!--") (b ∷ q) ≡ true
    own e =
        sym (ap (begins (codes "<!--")) (take-append_seam (b ∷ q) (c ∷ cs)))
        ∙ begins_front (codes "<!--") bs (suc (length q)) (word_before joins_reference (codes "<!--") bs (suc (length q)) e refl here) e

    by : (t : Bool) → begins (codes "<!--") bs ≡ t → (if t then Some (4 + through (codes "-->") (drop 4 bs)) else None) ≡ None
    by true e = absurd (none_begun (b ∷ q) h (own e))
    by false e = refl
