-- The laws of the grammar that no proof above needs.
use Rattle.std.proofs.Common.{◌≡◌, ℕ, ◌<◌, Bool, true, false, List, ◌++◌, refl, ap, ◌∙◌, nat_lt, append_assoc, arith}
use Rattle.std.proofs.lemmas.Bool.Decides.{nat_tests}
use Rattle.wt_html_grammar.specs.Signs.{is_space, IsGap}
use Rattle.wt_html_grammar.specs.Grammar.{Document, Well}
use Rattle.wt_html_grammar.specs.Places.{IsPlace}
use Rattle.wt_html_grammar.proofs.Steps.{lt_of_test}
use Rattle.wt_html_grammar.proofs.Complete.{each_append}

equal : (m n : ℕ) (t u : Bool) → nat_lt m n ≡ t → nat_lt n m ≡ u → (m < n → ⊥) → (n < m → ⊥) → m ≡ n
equal m n true u e f a b = absurd (a (lt_of_test m n e))
equal m n false true e f a b = absurd (b (lt_of_test n m f))
equal m n false false e f a b = not_less m n e f
  where
    not_less : (m n : ℕ) → nat_lt m n ≡ false → nat_lt n m ≡ false → m ≡ n
    not_less m n e f = grind (arith, nat_tests)

pub one_place : (bytes : List ℕ) (m n : ℕ) → IsPlace bytes m → IsPlace bytes n → m ≡ n
one_place bytes m n a b =
    equal m n (nat_lt m n) (nat_lt n m) refl refl (λ l. a.longest n l b.within b.front) (λ l. b.longest m l a.within a.front)

pub before : (gap bytes : List ℕ) → IsGap gap → Well bytes → Well (gap ++ bytes)
before gap bytes g w =
    let d : Document = w.0 in (
      record (d) { head = record (d.head) { lead = gap ++ d.head.lead } },
      ((each_append is_space gap d.head.lead g w.1.0.0, w.1.0.1, w.1.0.2), w.1.1, w.1.2),
      ap (λ x. gap ++ x) w.2 ∙ simp append_assoc,
    )

pub behind : (gap bytes : List ℕ) → IsGap gap → Well bytes → Well (bytes ++ gap)
behind gap bytes g w =
    let d : Document = w.0 in (
      record (d) { end = d.end ++ gap },
      (w.1.0, w.1.1, each_append is_space d.end gap w.1.2 g),
      ap (λ x. x ++ gap) w.2 ∙ simp append_assoc,
    )
