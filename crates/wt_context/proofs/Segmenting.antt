-- What segments hold.
use Rattle.std.proofs.Common.{◌≡◌, ℕ, List, [], ◌∷◌, take, drop, refl, sym, ap, ◌∙◌, subst}
use Rattle.std.proofs.lemmas.List.{take-map, drop-map}
use Rattle.wt_span.specs.Items.{Item}
use Rattle.wt_inline.specs.declared.loose.Loose.TheVariants.{Text}
use Rattle.wt_inline.specs.Parts.{Part, part, parts}
use Rattle.wt_inline.specs.Grown.{Grown, Grows}
use Rattle.wt_context.specs.Segments.{loose_segment, segment_items, segment_parts}
use Rattle.wt_context.specs.Tokens.{quote_segments}

pub quote_parts : (xs : List Item) → segment_parts (quote_segments xs) ≡ parts Text xs
quote_parts [] = refl
quote_parts (x ∷ xs) = ap (λ ps. part Text x ∷ ps) (quote_parts xs)

pub quote_items : (xs : List Item) → segment_items (quote_segments xs) ≡ xs
quote_items [] = refl
quote_items (x ∷ xs) = ap (λ ys. x ∷ ys) (quote_items xs)

pub grows_quotes : (g h : Grown) (xs : List Item) → Grows g (parts Text xs) h → Grows g (segment_parts (quote_segments xs)) h
grows_quotes g h xs a = subst (λ (ps : List Part). Grows g ps h) (sym (quote_parts xs)) a

pub take_quotes : (n : ℕ) (xs ys : List Item) → ys ≡ take n xs → quote_segments ys ≡ take n (quote_segments xs)
take_quotes n xs ys e = ap quote_segments e ∙ sym (take-map (λ x. loose_segment (x ∷ [])) n xs)

pub drop_quotes : (n : ℕ) (xs ys : List Item) → ys ≡ drop n xs → quote_segments ys ≡ drop n (quote_segments xs)
drop_quotes n xs ys e = ap quote_segments e ∙ sym (drop-map (λ x. loose_segment (x ∷ [])) n xs)
