-- Parts of pieces that are ready for the cuts of this crate, and sound pieces joined.
use Rattle.std.proofs.Common.{◌≡◌, ℕ, zero, suc, ◌+◌, ◌^◌, ◌<◌, List, [], ◌∷◌, ◌++◌, length, take, drop, sym, ap, ◌∙◌, subst, arith, length-append}
use Rattle.std.specs.Prelude.{All}
use Rattle.std.proofs.lemmas.List.{take-append-drop}
use Rattle.std.proofs.lemmas.List.Elements.{All-nil, All-cons, All-head, All-tail}
use Rattle.std.proofs.lemmas.Grind.{flat_map-append}
use Rattle.wt_span.specs.declared.form.Piece.{Piece}
use Rattle.wt_span.specs.Items.{source, sources, items, items_of}
use Rattle.wt_span.specs.Origins.{IsSoundPiece}
use Rattle.wt_lines.specs.Pieces.{AllParted}
use Rattle.wt_page.specs.Cuts.{AreReady}

parted_drop : (n : ℕ) (ps : List Piece) → AllParted ps → AllParted (drop n ps)
parted_drop zero ps h = h
parted_drop (suc n) [] h = h
parted_drop (suc n) (p ∷ ps) h = parted_drop n ps h.1

parted_take : (n : ℕ) (ps : List Piece) → AllParted ps → AllParted (take n ps)
parted_take zero ps h = tt
parted_take (suc n) [] h = h
parted_take (suc n) (p ∷ ps) h = (h.0, parted_take n ps h.1)

sound_drop : (n : ℕ) (ps : List Piece) → All IsSoundPiece ps → All IsSoundPiece (drop n ps)
sound_drop zero ps h = h
sound_drop (suc n) [] h = h
sound_drop (suc n) (p ∷ ps) h = sound_drop n ps (All-tail IsSoundPiece p ps h)

sound_take : (n : ℕ) (ps : List Piece) → All IsSoundPiece ps → All IsSoundPiece (take n ps)
sound_take zero ps h = All-nil IsSoundPiece
sound_take (suc n) [] h = h
sound_take (suc n) (p ∷ ps) h = All-cons IsSoundPiece p (take n ps) (All-head IsSoundPiece p ps h) (sound_take n ps (All-tail IsSoundPiece p ps h))

bytes_apart : (n : ℕ) (ps : List Piece) → length (sources (items (take n ps))) + length (sources (items (drop n ps))) ≡ length (sources (items ps))
bytes_apart n ps =
    let xs = items (take n ps) in
    let ys = items (drop n ps) in
    sym (length-append (sources xs) (sources ys))
    ∙ ap length (sym (flat_map-append source xs ys) ∙ ap sources (sym (flat_map-append items_of (take n ps) (drop n ps)) ∙ ap items (take-append-drop n ps)))

few_drop : (n : ℕ) (ps : List Piece) → length (sources (items ps)) < 2 ^ 32 → length (sources (items (drop n ps))) < 2 ^ 32
few_drop n ps h = omega (arith, bytes_apart n ps, h)

few_take : (n : ℕ) (ps : List Piece) → length (sources (items ps)) < 2 ^ 32 → length (sources (items (take n ps))) < 2 ^ 32
few_take n ps h = omega (arith, bytes_apart n ps, h)

pub ready_rest : (ps qs : List Piece) (n : ℕ) → AreReady ps → qs ≡ drop n ps → AreReady qs
ready_rest ps qs n h e = subst AreReady (sym e) (record { parted = parted_drop n ps h.parted; sound = sound_drop n ps h.sound; few = few_drop n ps h.few })

pub ready_front : (ps qs : List Piece) (n : ℕ) → AreReady ps → qs ≡ take n ps → AreReady qs
ready_front ps qs n h e = subst AreReady (sym e) (record { parted = parted_take n ps h.parted; sound = sound_take n ps h.sound; few = few_take n ps h.few })

pub parted_rest : (ps qs : List Piece) (n : ℕ) → AllParted ps → qs ≡ drop n ps → AllParted qs
parted_rest ps qs n h e = subst AllParted (sym e) (parted_drop n ps h)

pub parted_front : (ps qs : List Piece) (n : ℕ) → AllParted ps → qs ≡ take n ps → AllParted qs
parted_front ps qs n h e = subst AllParted (sym e) (parted_take n ps h)

pub all_append : (ps qs : List Piece) → All IsSoundPiece ps → All IsSoundPiece qs → All IsSoundPiece (ps ++ qs)
all_append [] qs h g = g
all_append (p ∷ ps) qs h g = All-cons IsSoundPiece p (ps ++ qs) (All-head IsSoundPiece p ps h) (all_append ps qs (All-tail IsSoundPiece p ps h) g)
