-- Signs from the back.
use Rattle.std.proofs.Common.{◌≡◌, ℕ, ◌<◌, ◌+◌, List, [], ◌∷◌, ◌++◌, length, take, get_or, map, sym, ap, ◌∙◌, append_assoc, append-nil}
use Rattle.std.specs.Prelude.{reverse}
use Rattle.std.proofs.lemmas.List.{map-append, reverse-append, take_more}
use Rattle.std.proofs.lemmas.Grind.{flat_map-append}
use Rattle.wt_span.specs.declared.form.Piece.{Piece}
use Rattle.wt_span.specs.Items.{sign, items, items_of}

pub right_of_all : (s : List ℕ) → reverse (s ++ []) ≡ reverse s
right_of_all s = ap reverse (append-nil s)

pub right_byte : (s bs rest : List ℕ) (b : ℕ) → bs ≡ rest ++ (b ∷ []) → reverse (s ++ bs) ≡ b ∷ reverse (s ++ rest)
right_byte s bs rest b e = ap (λ cs. reverse (s ++ cs)) e ∙ ap reverse (sym (append_assoc s rest (b ∷ []))) ∙ reverse-append (s ++ rest) (b ∷ [])

signs_more : (ps : List Piece) (e : ℕ) (d : Piece) → e < length ps → map sign (items (take (e + 1) ps))
    ≡ map sign (items (take e ps)) ++ map sign (items_of (get_or ps e d))
signs_more ps e d l =
    ap (λ qs. map sign (items qs)) (take_more ps e d l)
    ∙ ap (map sign) (flat_map-append items_of (take e ps) (get_or ps e d ∷ []) ∙ ap (λ xs. items (take e ps) ++ xs) (append-nil (items_of (get_or ps e d))))
    ∙ map-append sign (items (take e ps)) (items_of (get_or ps e d))

pub right_piece : (ps : List Piece) (e n : ℕ) (d : Piece) (bs : List ℕ) → e < length ps → map sign (items_of (get_or ps e d)) ≡ bs ++ (n ∷ [])
    → reverse (map sign (items (take (e + 1) ps))) ≡ n ∷ reverse (map sign (items (take e ps)) ++ bs)
right_piece ps e n d bs l h = ap reverse (signs_more ps e d l) ∙ right_byte (map sign (items (take e ps))) (map sign (items_of (get_or ps e d))) bs n h

pub right_none : (ps : List Piece) (e : ℕ) (d : Piece) → e < length ps → map sign (items_of (get_or ps e d)) ≡ []
    → reverse (map sign (items (take (e + 1) ps))) ≡ reverse (map sign (items (take e ps)))
right_none ps e d l h = ap reverse (signs_more ps e d l ∙ ap (λ s. map sign (items (take e ps)) ++ s) h ∙ append-nil (map sign (items (take e ps))))
