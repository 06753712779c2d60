-- The last two visible items: as they are carried, and as they stand in a list.
use Rattle.std.proofs.Common.{◌≡◌, ℕ, zero, suc, ◌+◌, ◌<◌, Option, Some, List, [], ◌∷◌, ◌++◌, length, take, map, get_or, refl, sym, ap, ◌∙◌, arith, append-nil}
use Rattle.std.proofs.lemmas.List.{take_more}
use Rattle.std.proofs.lemmas.Grind.{flat_map-append}
use Rattle.wt_span.specs.declared.form.Piece.{Piece}
use Rattle.wt_span.specs.declared.form.ItemForm.{ItemForm}
use Rattle.wt_span.specs.declared.form.ItemForm.TheVariants as form
use Rattle.wt_span.specs.Items.{Item, char, items, items_of, items_by}
use Rattle.wt_context.specs.declared.seen.Seen.{Seen}
use Rattle.wt_context.specs.Seen.{seen_letter, after_item, after_items, after_bytes}

-- bytes one by one
pub bytes_seen : (o : Option ℕ) (s : Seen) (bs : List ℕ) → after_items s (map (char o) bs) ≡ after_bytes s bs
bytes_seen o s [] = refl
bytes_seen o s (b ∷ bs) = bytes_seen o (seen_letter s (Some b)) bs

pub no_bytes_seen : (s : Seen) (bs : List ℕ) → length bs ≡ 0 → s ≡ after_bytes s bs
no_bytes_seen s [] e = refl
no_bytes_seen s (b ∷ bs) e = absurd (omega (arith, e))

pub one_byte_seen : (s : Seen) (bs : List ℕ) → length bs ≡ 1 → seen_letter s (Some (get_or bs 0 0)) ≡ after_bytes s bs
one_byte_seen s [] e = absurd (omega (arith, e))
one_byte_seen s (b ∷ []) e = refl
one_byte_seen s (b ∷ c ∷ bs) e = absurd (omega (arith, e))

-- the last two count alone
last_two : (s : Seen) (b c : ℕ) (bs : List ℕ) (n : ℕ) → length bs ≡ n
    → seen_letter (seen_letter s (Some (get_or (b ∷ c ∷ bs) n 0))) (Some (get_or (b ∷ c ∷ bs) (suc n) 0)) ≡ after_bytes s (b ∷ c ∷ bs)
last_two s b c [] zero e = refl
last_two s b c [] (suc n) e = absurd (omega (arith, e))
last_two s b c (d ∷ bs) zero e = absurd (omega (arith, e))
last_two s b c (d ∷ bs) (suc n) e = last_two (seen_letter s (Some b)) c d bs n (omega (arith, e))

pub two_bytes_seen : (s : Seen) (bs : List ℕ) (n m : ℕ) → length bs ≡ n + 2 → m ≡ n + 1
    → seen_letter (seen_letter s (Some (get_or bs n 0))) (Some (get_or bs m 0)) ≡ after_bytes s bs
two_bytes_seen s [] n m e f = absurd (omega (arith, e))
two_bytes_seen s (b ∷ []) n m e f = absurd (omega (arith, e))
two_bytes_seen s (b ∷ c ∷ bs) n m e f =
    let z : m ≡ suc n = omega (arith, f) in
    ap (λ k. seen_letter (seen_letter s (Some (get_or (b ∷ c ∷ bs) n 0))) (Some (get_or (b ∷ c ∷ bs) k 0))) z ∙ last_two s b c bs n (omega (arith, e))

pub both_seen : (s : Seen) (xs ys : List Item) → after_items s (xs ++ ys) ≡ after_items (after_items s xs) ys
both_seen s [] ys = refl
both_seen s (x ∷ xs) ys = both_seen (after_item s x) xs ys

pub chars_seen : (f : ItemForm) (o : Option ℕ) (bs : List ℕ) (s : Seen) → f ≡ form.Chars → after_bytes s bs ≡ after_items s (items_by f o bs)
chars_seen f o bs s e = sym (bytes_seen o s bs) ∙ ap (λ g. after_items s (items_by g o bs)) (sym e)

pub seen_step : (s old new : Seen) (ps : List Piece) (at : ℕ) (p : Piece) → at < length ps → p ≡ get_or ps at p → old ≡ after_items s (items (take at ps))
    → new ≡ after_items old (items_of p) → new ≡ after_items s (items (take (at + 1) ps))
seen_step s old new ps at p l e i n =
    let more : take (at + 1) ps ≡ take at ps ++ p ∷ [] = take_more ps at p l ∙ ap (λ q. take at ps ++ q ∷ []) (sym e) in
    let one : items (take (at + 1) ps) ≡ items (take at ps) ++ items_of p = ap items more ∙ flat_map-append items_of (take at ps) (p ∷ [])
    ∙ ap (λ xs. items (take at ps) ++ xs) (append-nil (items_of p)) in
    n ∙ ap (λ t. after_items t (items_of p)) i ∙ sym (both_seen s (items (take at ps)) (items_of p)) ∙ ap (after_items s) (sym one)
