-- Texts that are pushed one after another, and the value of a `typeof` that has the group's word and the
-- element's own, escaped.
use Rattle.std.proofs.Common.{◌≡◌, ℕ, List, ◌++◌, sym, ap, ◌∙◌, append_assoc, codes}
use Rattle.std.proofs.lemmas.Grind.{flat_map-append}
use Rattle.wt_schema.specs.Escapes.{escape, escape_double, escaped_double}

pub three_pushed : (old a b c x y z : List ℕ) → x ≡ old ++ a → y ≡ x ++ b → z ≡ y ++ c → z ≡ old ++ (a ++ (b ++ c))
three_pushed old a b c x y z d e f =
    f ∙ ap (λ w. w ++ c) (e ∙ ap (λ w. w ++ b) d ∙ append_assoc old a b) ∙ append_assoc old (a ++ b) c ∙ ap (λ w. old ++ w) (append_assoc a b c)

joined_value : (a b : List ℕ) → escaped_double (a ++ (codes " " ++ b)) ≡ escaped_double a ++ (codes " " ++ escaped_double b)
unfolding escape_double escape
joined_value a b = flat_map-append escape_double a (codes " " ++ b)

pub values_pushed : (old a b x y z : List ℕ) → x ≡ old ++ escaped_double a → y ≡ x ++ codes " " → z ≡ y ++ escaped_double b
    → z ≡ old ++ escaped_double (a ++ (codes " " ++ b))
values_pushed old a b x y z d e f =
    three_pushed old (escaped_double a) (codes " ") (escaped_double b) x y z d e f ∙ ap (λ w. old ++ w) (sym (joined_value a b))
