-- A text that is cut into pieces of characters.
use Rattle.std.proofs.Common.{◌≡◌, ℕ, List, [], ◌∷◌, ◌++◌, take, drop, sym, ap, ◌∙◌, append_assoc, take-append-drop}
use Rattle.std.proofs.lemmas.List.{map-append}
use Rattle.wt_span.specs.declared.form.Piece.{Piece}
use Rattle.wt_span.specs.Items.{Item, items_of, items}
use Rattle.wt_expand.specs.Expansion.{chars}
use Rattle.wt_transclusion.proofs.TrimmedPieces.{items_more}

pub one_more : (ps qs : List Piece) (p : Piece) (bs : List ℕ) → qs ≡ ps ++ p ∷ [] → items_of p ≡ chars bs → items qs ≡ items ps ++ chars bs
one_more ps qs p bs more e = ap items more ∙ items_more ps p ∙ ap (λ xs. items ps ++ xs) e

rejoined : (rest front behind : List ℕ) (n : ℕ) → front ≡ take n rest → behind ≡ drop n rest → chars front ++ chars behind ≡ chars rest
rejoined rest front behind n f b =
    ap (λ xs. chars xs ++ chars behind) f ∙ ap (λ xs. chars (take n rest) ++ chars xs) b ∙ sym (map-append _ (take n rest) (drop n rest))
    ∙ ap chars (take-append-drop n rest)

-- the front of what is left becomes a piece
pub front_cut : (ps qs : List Piece) (p : Piece) (rest front behind : List ℕ) (n : ℕ) (all : List Item) → qs ≡ ps ++ p ∷ [] → items_of p ≡ chars front
    → front ≡ take n rest → behind ≡ drop n rest → items ps ++ chars rest ≡ all → items qs ++ chars behind ≡ all
front_cut ps qs p rest front behind n all more e f b is =
    ap (λ xs. xs ++ chars behind) (one_more ps qs p front more e) ∙ append_assoc (items ps) (chars front) (chars behind)
    ∙ ap (λ xs. items ps ++ xs) (rejoined rest front behind n f b) ∙ is
