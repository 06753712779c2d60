-- Whether pieces open a block, by their first characters.
use Rattle.std.proofs.Common.{◌≡◌, ℕ, ◌+◌, ◌<◌, Bool, true, Option, List, [], ◌∷◌, ◌++◌, length, get_or, drop, map, refl, sym, ap, ◌∙◌}
use Rattle.wt_span.specs.declared.form.Piece.{Piece}
use Rattle.wt_span.specs.Slice.{bytes_of}
use Rattle.wt_span.specs.Items.{Item, char, call_of_origin, items_of, items}
use Rattle.wt_expand.specs.Expansion.{begins_with_bar, chars, opens_block}
use Rattle.wt_transclusion.specs.declared.line_start.Opening.TheVariants as opening
use Rattle.wt_transclusion.specs.Ends.{is_chars}
use Rattle.wt_transclusion.specs.Opening.{IsOpening}
use Rattle.wt_transclusion.proofs.TrimmedPieces.{items_split, chars_are}

-- whatever call they come from
opens_any : (o : Option ℕ) (bs : List ℕ) (rest : List Item) → opens_block (map (char o) bs ++ rest) ≡ opens_block (chars bs ++ rest)
opens_any o [] rest = refl
opens_any o (b ∷ []) rest = refl
opens_any o (b ∷ c ∷ bs) rest = refl

opens_row : (ps : List Piece) (i : ℕ) (p : Piece) → i < length ps → p ≡ get_or ps i p → is_chars p.form ≡ true
    → opens_block (items (drop i ps)) ≡ opens_block (chars (bytes_of p.text) ++ items (drop (i + 1) ps))
opens_row ps i p l is e =
    ap opens_block (items_split ps i p l ∙ ap (λ q. items_of q ++ items (drop (i + 1) ps)) (sym is) ∙ ap (λ xs. xs ++ items (drop (i + 1) ps)) (chars_are p e))
    ∙ opens_any (call_of_origin p.origin) (bytes_of p.text) (items (drop (i + 1) ps))

pub opens_brace : (ps : List Piece) (i : ℕ) (p : Piece) → i < length ps → p ≡ get_or ps i p → is_chars p.form ≡ true → IsOpening (bytes_of p.text) opening.Brace
    → begins_with_bar (items (drop (i + 1) ps)) ≡ opens_block (items (drop i ps))
opens_brace ps i p l is e f = sym (opens_row ps i p l is e ∙ f (items (drop (i + 1) ps)))

pub opens_known : (ps : List Piece) (i : ℕ) (p : Piece) (opens : Bool) → i < length ps → p ≡ get_or ps i p → is_chars p.form ≡ true
    → IsOpening (bytes_of p.text) (opening.Known opens) → opens ≡ opens_block (items (drop i ps))
opens_known ps i p opens l is e f = sym (opens_row ps i p l is e ∙ f (items (drop (i + 1) ps)))
