-- The calls of a group have fewer numbers than bytes of the page stand for its pieces.
use Rattle.std.proofs.Common.{◌≡◌, ℕ, zero, suc, ◌+◌, ◌^◌, ◌<◌, ◌≤◌, Bool, true, false, Option, None, Some, List, [], ◌∷◌, ◌++◌, length, take, drop, get_or, refl, sym, ap, ◌∙◌, cond, arith, length-append}
use Rattle.std.specs.Prelude.{slice_get, All}
use Rattle.std.proofs.lemmas.List.{take-append-drop}
use Rattle.std.proofs.lemmas.List.Elements.{All-head, All-tail}
use Rattle.wt_span.specs.declared.form.Piece.{Piece}
use Rattle.wt_span.specs.Items.{call_of_origin, items, items_of}
use Rattle.wt_span.specs.Origins.{OuterCall, IsSoundCall}
use Rattle.wt_span.specs.Slice.{bytes_of}
use Rattle.wt_span.specs.Cuts.{source_of_call, text_by}
use Rattle.wt_annotated.specs.GroupData.{next_number}
use Rattle.wt_annotated.specs.Pieces.{is_hollow}
use Rattle.wt_annotated.specs.Seams.{last_of, parted, text_from}
use Rattle.wt_annotated.proofs.PieceWalks.{items_append, text_piece, text_step_pieces}
use Rattle.wt_annotated.proofs.Seams.{text_append_from}

-- ---- one call

number_by : (argument : Bool) (n i : ℕ) → 0 < n → cond argument i (i + 1) ≤ i + n
number_by true n i l = omega arith
number_by false n i l = omega (arith, l)

-- a call has a source
number_few : (calls : List OuterCall) (k i : ℕ) → All IsSoundCall calls → next_number (slice_get calls k) i ≤ i + length (source_of_call (slice_get calls k))
number_few [] k i s = omega arith
number_few (c ∷ cs) zero i s = let h = All-head IsSoundCall c cs s in number_by c.argument (length c.source) i h.some
number_few (c ∷ cs) (suc k) i s = number_few cs k i (All-tail IsSoundCall c cs s)

-- ---- one piece

piece_text : (calls : List OuterCall) (o : Option ℕ) (p : Piece) (k : ℕ) → is_hollow p ≡ false → parted o (call_of_origin p.origin) ≡ true
    → call_of_origin p.origin ≡ Some k → text_from calls o (items_of p) ≡ source_of_call (slice_get calls k)
piece_text calls o p k h v e =
    text_piece calls o p
    ∙ ap (λ w. cond w [] (cond (parted o (call_of_origin p.origin)) (text_by calls (call_of_origin p.origin) (bytes_of p.text)) [])) h
    ∙ ap (λ w. cond w (text_by calls (call_of_origin p.origin) (bytes_of p.text)) []) v
    ∙ ap (λ q. text_by calls q (bytes_of p.text)) e

pub call_number : (calls : List OuterCall) (o : Option ℕ) (p : Piece) (k i : ℕ) → is_hollow p ≡ false → parted o (call_of_origin p.origin) ≡ true
    → call_of_origin p.origin ≡ Some k → All IsSoundCall calls → next_number (slice_get calls k) i ≤ i + length (text_from calls o (items_of p))
call_number calls o p k i h v e s = let same = ap length (piece_text calls o p k h v e) in omega (arith, number_few calls k i s, same)

-- ---- several pieces

text_front : (calls : List OuterCall) (o : Option ℕ) (ps : List Piece) (n : ℕ)
    → length (text_from calls o (items (take n ps))) ≤ length (text_from calls o (items ps))
text_front calls o ps n =
    let front = items (take n ps) in
    let back = items (drop n ps) in
    let all : items ps ≡ front ++ back = ap items (sym (take-append-drop n ps)) ∙ items_append (take n ps) (drop n ps) in
    let sum : length (text_from calls o (items ps)) ≡ length (text_from calls o front) + length (text_from calls (last_of o front) back) =
    ap (λ xs. length (text_from calls o xs)) all ∙ ap length (text_append_from calls o front back)
    ∙ length-append (text_from calls o front) (text_from calls (last_of o front) back) in
    omega (arith, sum)

-- the text up to a piece and with it
text_more : (calls : List OuterCall) (ps : List Piece) (at : ℕ) (p : Piece) (o last : Option ℕ) → at < length ps → p ≡ get_or ps at p
    → last ≡ last_of o (items (take at ps))
    → length (text_from calls o (items (take (at + 1) ps))) ≡ length (text_from calls o (items (take at ps))) + length (text_from calls last (items_of p))
text_more calls ps at p o last l e t =
    ap length (text_step_pieces calls ps at p o l e)
    ∙ length-append (text_from calls o (items (take at ps))) (text_from calls (last_of o (items (take at ps))) (items_of p))
    ∙ ap (λ q. length (text_from calls o (items (take at ps))) + length (text_from calls q (items_of p))) (sym t)

pub room_here : (calls : List OuterCall) (ps : List Piece) (at : ℕ) (p : Piece) (o last : Option ℕ) (n : ℕ) → at < length ps → p ≡ get_or ps at p
    → last ≡ last_of o (items (take at ps)) → n ≤ length (text_from calls o (items (take at ps))) → length (text_from calls o (items ps)) < 2 ^ 32
    → n + length (text_from calls last (items_of p)) < 2 ^ 32
room_here calls ps at p o last n l e t h room =
    omega (arith, text_more calls ps at p o last l e t, text_front calls o ps (at + 1), h, room)

pub number_more : (calls : List OuterCall) (ps : List Piece) (at : ℕ) (p : Piece) (o last : Option ℕ) (n m : ℕ) → at < length ps → p ≡ get_or ps at p
    → last ≡ last_of o (items (take at ps)) → n ≤ length (text_from calls o (items (take at ps))) → m ≤ n + length (text_from calls last (items_of p))
    → m ≤ length (text_from calls o (items (take (at + 1) ps)))
number_more calls ps at p o last n m l e t h g = omega (arith, text_more calls ps at p o last l e t, h, g)
