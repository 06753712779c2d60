-- The texts of targets, piece by piece; and what is left of a call's source in front of its `#`.
use Rattle.std.proofs.Common.{◌≡◌, ℕ, ◌+◌, ◌<◌, true, false, Option, Some, None, List, [], ◌∷◌, ◌++◌, length, get_or, drop, map, refl, sym, ap, ◌∙◌, arith, append-nil, append_assoc}
use Rattle.std.specs.Prelude.{slice_index, ◌==◌}
use Rattle.std.specs.List.{prefix_len}
use Rattle.std.proofs.lemmas.List.{drop_all, get_or-drop}
use Rattle.wt_span.specs.declared.form.Piece.{Piece}
use Rattle.wt_span.specs.Slice.{bytes_of}
use Rattle.wt_span.specs.Items.{Item, char, call_of_origin, items_of, items}
use Rattle.wt_expand.specs.Texts.{is_space, target_of, target_text, both}
use Rattle.wt_expand.specs.Targets.{is_function}
use Rattle.wt_transclusion.specs.Ends.{is_chars}
use Rattle.wt_transclusion.specs.Target.{PushesTarget}
use Rattle.wt_transclusion.proofs.TrimmedPieces.{items_split, chars_are}

both_assoc : (a b c : Option (List ℕ)) → both (both a b) c ≡ both a (both b c)
both_assoc None b c = refl
both_assoc (Some x) None c = refl
both_assoc (Some x) (Some y) None = refl
both_assoc (Some x) (Some y) (Some z) = ap Some (append_assoc x y z)

pub both_none : (a : Option (List ℕ)) → both (Some []) a ≡ a
both_none None = refl
both_none (Some x) = refl

pub both_end : (xs : List ℕ) → both (Some xs) (Some []) ≡ Some xs
both_end xs = ap Some (append-nil xs)

target_append : (xs ys : List Item) → target_text (xs ++ ys) ≡ both (target_text xs) (target_text ys)
target_append [] ys = sym (both_none (target_text ys))
target_append (x ∷ xs) ys = ap (both (target_of x)) (target_append xs ys) ∙ sym (both_assoc (target_of x) (target_text xs) (target_text ys))

pub target_chars : (o : Option ℕ) (bs : List ℕ) → target_text (map (char o) bs) ≡ Some bs
target_chars o [] = refl
target_chars o (b ∷ bs) = ap (both (Some (b ∷ []))) (target_chars o bs)

-- a piece of characters says them
pub chars_said : (p : Piece) → is_chars p.form ≡ true → target_text (items_of p) ≡ Some (bytes_of p.text)
chars_said p e = ap target_text (chars_are p e) ∙ target_chars (call_of_origin p.origin) (bytes_of p.text)

target_split : (ps : List Piece) (i : ℕ) (p : Piece) → i < length ps → p ≡ get_or ps i p
    → target_text (items (drop i ps)) ≡ both (target_text (items_of p)) (target_text (items (drop (i + 1) ps)))
target_split ps i p l is = ap target_text (items_split ps i p l ∙ ap (λ q. items_of q ++ items (drop (i + 1) ps)) (sym is))
    ∙ target_append (items_of p) (items (drop (i + 1) ps))

-- one more piece says its text
pub target_next : (ps : List Piece) (i : ℕ) (p : Piece) (old new : List ℕ) (all : Option (List ℕ)) → i < length ps → p ≡ get_or ps i p
    → PushesTarget p old new true → both (Some old) (target_text (items (drop i ps))) ≡ all → both (Some new) (target_text (items (drop (i + 1) ps))) ≡ all
target_next ps i p old new all l is said e =
    let rest = target_text (items (drop (i + 1) ps)) in
    ap (λ o. both o rest) (sym said) ∙ both_assoc (Some old) (target_text (items_of p)) rest ∙ ap (both (Some old)) (sym (target_split ps i p l is)) ∙ e

-- or it can't stand there
pub target_stops : (ps : List Piece) (i : ℕ) (p : Piece) (old : List ℕ) (all : Option (List ℕ)) → i < length ps → p ≡ get_or ps i p
    → target_text (items_of p) ≡ None → both (Some old) (target_text (items (drop i ps))) ≡ all → None ≡ all
target_stops ps i p old all l is none e =
    sym (ap (both (Some old)) (target_split ps i p l is ∙ ap (λ o. both o (target_text (items (drop (i + 1) ps)))) none)) ∙ e

-- ---- functions

pub short_source : (source : List ℕ) → length source < 2 → is_function source ≡ false
unfolding is_function
short_source source l = ap (λ bs. slice_index (drop (prefix_len is_space bs) bs) 0 == 35) (drop_all 2 source (omega arith))

pub function_at : (source inside : List ℕ) (n : ℕ) → inside ≡ drop 2 source → n ≡ prefix_len is_space inside → is_function source ≡ (slice_index inside n == 35)
unfolding is_function
function_at source inside n i e =
    ap (λ bs. slice_index (drop (prefix_len is_space bs) bs) 0 == 35) (sym i) ∙ ap (λ m. slice_index (drop m inside) 0 == 35) (sym e)
    ∙ ap (λ b. b == 35) (get_or-drop n inside 0 0 ∙ ap (λ k. get_or inside k 0) (omega arith))
