-- Where no call of a page goes over the end of a part, none of the braces that the parts have left pair.
use Rattle.std.proofs.Common.{arith, ◌≡◌, ◌⊎◌, inl, inr, ℕ, ◌+◌, ◌≤◌, List, [], ◌∷◌, ◌++◌, length, reverse, refl, sym, ap, ◌∙◌, subst}
use Rattle.std.proofs.lemmas.List.{reverse-append}
use Rattle.wt_span.specs.declared.form.Mode.TheVariants.{Page}
use Rattle.wt_span.specs.declared.form.LexKind.TheVariants.{Chars}
use Rattle.wt_span.specs.Lexemes.{Word, words}
use Rattle.wt_span.specs.Braces.{Member, Members, lexeme, call, none, more, members, width, width_of_all, reduced_onto, reduced}
use Rattle.wt_transclusion.proofs.Full.{text_bytes}
use Rattle.wt_part_laws.specs.Apart.{AreApart, AreMet}
use Rattle.wt_part_laws.proofs.ApartCalls.{reduced_apart, run_cut}
use Rattle.wt_text_edit_laws.specs.BlockSpots.{BlockSpot, spots_source, EndBeforeBlocks, IsReadSpot, AreReadSpots}
use Rattle.wt_text_edit_laws.specs.NoCalls.{Brace, NonePairs}
use Rattle.wt_text_edit_laws.specs.TextBlocks.{source_of}
use Rattle.wt_called_edit_laws.specs.Parts.{left_of, all_left}
use Rattle.wt_called_edit_laws.proofs.Among.Crossed.{bytes_in, bytes_append, bytes_members, bytes_reverse, bytes_reduced, IsOver, IsCrossed, apart_by_place}
use Rattle.wt_called_edit_laws.proofs.Among.LeftCalm.{apart_pairs, left_pairs}
use Rattle.wt_called_edit_laws.proofs.Parts.LeftBraces.{met_left}
use Rattle.wt_called_edit_laws.proofs.Parts.Seams.{block_met, before_met}

-- ---- a place over which no call goes

abbrev pub IsClearOf : ℕ → ℕ → Member → Type 0
IsClearOf p at (lexeme w) = Unit {0}
IsClearOf p at (call k ms) = (p ≤ at) ⊎ (at + (k + width_of_all ms + k) ≤ p)

-- of members of which the first begins at `at`
abbrev pub IsClear : ℕ → ℕ → Members → Type 0
IsClear p at none = Unit {0}
IsClear p at (more m ms) = IsClearOf p at m × IsClear p (at + width m) ms

clear_append : (p at : ℕ) (xs ys : List Member) → IsClear p at (members (xs ++ ys)) → IsClear p at (members xs) × IsClear p (at + width_of_all (members xs)) (members ys)
clear_append p at [] ys h = let e : at ≡ at + 0 = omega arith in (tt, subst (λ (n : ℕ). IsClear p n (members ys)) e h)
clear_append p at (x ∷ xs) ys h =
    let r = clear_append p (at + width x) xs ys h.1 in
    let e : at + width x + width_of_all (members xs) ≡ at + (width x + width_of_all (members xs)) = omega arith in
    ((h.0, r.0), subst (λ (n : ℕ). IsClear p n (members ys)) e r.1)

-- so many bytes later
one_shift : (d p at : ℕ) (m : Member) → IsClearOf (d + p) (d + at) m → IsClearOf p at m
one_shift d p at (lexeme w) h = tt
one_shift d p at (call k ms) (inl l) = inl (omega (arith, l))
one_shift d p at (call k ms) (inr r) = inr (omega (arith, r))

clear_shift : (d p at : ℕ) (ms : Members) → IsClear (d + p) (d + at) ms → IsClear p at ms
clear_shift d p at none h = tt
clear_shift d p at (more m ms) h =
    let e : (d + at) + width m ≡ d + (at + width m) = omega arith in
    (one_shift d p at m h.0, clear_shift d p (at + width m) ms (subst (λ (n : ℕ). IsClear (d + p) n ms) e h.1))

one_uncrossed : (p at : ℕ) (m : Member) → IsClearOf p at m → IsOver p at m → ⊥
one_uncrossed p at (lexeme w) h o = o
one_uncrossed p at (call k ms) (inl l) o = omega (arith, l, o.0)
one_uncrossed p at (call k ms) (inr r) o = omega (arith, r, o.1)

uncrossed : (p : ℕ) (xs : List Member) → IsClear p 0 (members (reverse xs)) → IsCrossed p xs → ⊥
uncrossed p [] h c = c
uncrossed p (x ∷ xs) h c =
    let r = clear_append p 0 (reverse xs) (x ∷ []) (subst (λ ys. IsClear p 0 (members ys)) (reverse-append (x ∷ []) xs) h) in
    let s = bytes_members (reverse xs) ∙ bytes_reverse xs in
    let e : 0 + width_of_all (members (reverse xs)) ≡ bytes_in xs = omega (arith, s) in
    elim c [
      | inl o ↦ one_uncrossed p (bytes_in xs) x (subst (λ (n : ℕ). IsClearOf p n x) e r.1.0) o
      | inr d ↦ uncrossed p xs r.0 d
    ]

clear_onto : (p : ℕ) (us : List Word) → IsClear p 0 (members (reduced us)) → IsClear p 0 (members (reverse (reduced_onto [] us)))
unfolding reduced
clear_onto p us h = h

-- ---- two texts

clear_apart : (vs ws us : List Word) → AreMet vs ws us → IsClear (width_of_all (members (reduced vs))) 0 (members (reduced us)) → AreApart vs ws
clear_apart vs ws us m h =
    let p : ℕ = width_of_all (members (reduced vs)) in
    apart_by_place p vs ws us m (sym (bytes_reduced vs)) (uncrossed p (reduced_onto [] us) (clear_onto p us h))

-- a place of the second one
behind_clear : (vs ws us : List Word) (p : ℕ) → AreMet vs ws us → AreApart vs ws → IsClear (width_of_all (members (reduced vs)) + p) 0 (members (reduced us))
    → IsClear p 0 (members (reduced ws))
behind_clear vs ws us p (inl e) a h =
    let d : ℕ = width_of_all (members (reduced vs)) in
    let is : reduced us ≡ reduced vs ++ reduced ws = ap reduced e ∙ reduced_apart vs ws a in
    let r = clear_append (d + p) 0 (reduced vs) (reduced ws) (subst (λ xs. IsClear (d + p) 0 (members xs)) is h) in
    let z : 0 + d ≡ d + 0 = omega arith in
    clear_shift d p 0 (members (reduced ws)) (subst (λ (n : ℕ). IsClear (d + p) n (members (reduced ws))) z r.1)
behind_clear vs ws us p (inr m) a h =
    let d : ℕ = width_of_all (members (reduced vs)) in
    let front : List Member = reduced m.before in
    let later : List Member = reduced m.after in
    let c = run_cut vs ws us a m in
    let run : Member = lexeme (Chars, m.first + m.second) in
    let r = clear_append (d + p) 0 front (run ∷ later) (subst (λ xs. IsClear (d + p) 0 (members xs)) c.both_is h) in
    let s : d ≡ bytes_in front + (m.first + 0) =
    ap (λ (xs : List Member). width_of_all (members xs)) c.first_is ∙ bytes_members (front ++ lexeme (Chars, m.first) ∷ [])
    ∙ bytes_append front (lexeme (Chars, m.first) ∷ []) in
    let f : width_of_all (members front) ≡ bytes_in front = bytes_members front in
    let z : (0 + width_of_all (members front)) + (m.first + m.second) ≡ d + (0 + m.second) = omega (arith, s, f) in
    let rest : IsClear p (0 + m.second) (members later) =
    clear_shift d p (0 + m.second) (members later) (subst (λ (n : ℕ). IsClear (d + p) n (members later)) z r.1.1) in
    let all : IsClear p 0 (members (lexeme (Chars, m.second) ∷ later)) = (tt, rest) in
    subst (λ xs. IsClear p 0 (members xs)) (sym c.second_is) all

-- a place of the first one
clear_last : (p at : ℕ) (xs : List Member) (w : Word) → IsClear p at (members xs) → IsClear p at (members (xs ++ lexeme w ∷ []))
clear_last p at [] w h = (tt, tt)
clear_last p at (x ∷ xs) w h = (h.0, clear_last p (at + width x) xs w h.1)

front_clear : (vs ws us : List Word) (p : ℕ) → AreMet vs ws us → AreApart vs ws → IsClear p 0 (members (reduced us)) → IsClear p 0 (members (reduced vs))
front_clear vs ws us p (inl e) a h =
    let is : reduced us ≡ reduced vs ++ reduced ws = ap reduced e ∙ reduced_apart vs ws a in
    (clear_append p 0 (reduced vs) (reduced ws) (subst (λ xs. IsClear p 0 (members xs)) is h)).0
front_clear vs ws us p (inr m) a h =
    let c = run_cut vs ws us a m in
    let front : List Member = reduced m.before in
    let run : Member = lexeme (Chars, m.first + m.second) in
    let r = clear_append p 0 front (run ∷ reduced m.after) (subst (λ xs. IsClear p 0 (members xs)) c.both_is h) in
    subst (λ xs. IsClear p 0 (members xs)) (sym c.first_is) (clear_last p 0 front (Chars, m.first) r.0)

-- ---- of a page

abbrev pub members_of : List ℕ → Members
members_of bs = members (reduced (words Page bs))

abbrev pub AreSide : List ℕ → List ℕ → Type 0
AreSide bs cs = AreMet (words Page bs) (words Page cs) (words Page (bs ++ cs))

pub page_apart : (bs cs : List ℕ) → AreSide bs cs → IsClear (length bs) 0 (members_of (bs ++ cs)) → AreApart (words Page bs) (words Page cs)
page_apart bs cs m h =
    clear_apart (words Page bs) (words Page cs) (words Page (bs ++ cs)) m
    (subst (λ (n : ℕ). IsClear n 0 (members_of (bs ++ cs))) (sym (text_bytes Page bs)) h)

pub page_behind : (bs cs : List ℕ) (p : ℕ) → AreSide bs cs → AreApart (words Page bs) (words Page cs) → IsClear (length bs + p) 0 (members_of (bs ++ cs))
    → IsClear p 0 (members_of cs)
page_behind bs cs p m a h =
    behind_clear (words Page bs) (words Page cs) (words Page (bs ++ cs)) p m a
    (subst (λ (n : ℕ). IsClear (n + p) 0 (members_of (bs ++ cs))) (sym (text_bytes Page bs)) h)

pub page_front : (bs cs : List ℕ) (p : ℕ) → AreSide bs cs → AreApart (words Page bs) (words Page cs) → IsClear p 0 (members_of (bs ++ cs)) → IsClear p 0 (members_of bs)
page_front bs cs p m a h = front_clear (words Page bs) (words Page cs) (words Page (bs ++ cs)) p m a h

-- a part of members
pub clear_rest : (p : ℕ) (xs ys : List Member) → IsClear p 0 (members (xs ++ ys)) → IsClear p (0 + width_of_all (members xs)) (members ys)
clear_rest p xs ys h = (clear_append p 0 xs ys h).1

-- at the beginning and the end of each block, where so many bytes come before the first part
abbrev pub AreClear : ℕ → List BlockSpot → Members → Type 0
AreClear at [] ms = Unit {0}
AreClear at (s ∷ ss) ms =
    IsClear (at + length s.before) 0 ms × IsClear (at + length s.before + length (source_of s.block s.text)) 0 ms
    × AreClear (at + length s.before + length (source_of s.block s.text)) ss ms

all_behind : (bs cs : List ℕ) (at : ℕ) (ss : List BlockSpot) → AreSide bs cs → AreApart (words Page bs) (words Page cs)
    → AreClear (length bs + at) ss (members_of (bs ++ cs)) → AreClear at ss (members_of cs)
all_behind bs cs at [] m a h = tt
all_behind bs cs at (s ∷ ss) m a h =
    let ms : Members = members_of (bs ++ cs) in
    let first : ℕ = at + length s.before in
    let last : ℕ = first + length (source_of s.block s.text) in
    let e : (length bs + at) + length s.before ≡ length bs + first = omega arith in
    let f : (length bs + at) + length s.before + length (source_of s.block s.text) ≡ length bs + last = omega arith in (
      page_behind bs cs first m a (subst (λ (n : ℕ). IsClear n 0 ms) e h.0),
      page_behind bs cs last m a (subst (λ (n : ℕ). IsClear n 0 ms) f h.1),
      all_behind bs cs last ss m a (subst (λ (n : ℕ). AreClear n ss ms) f h.2),
    )

-- ---- its parts

pub record ArePartsApart (ss : List BlockSpot) (behind : List ℕ) : Type 0 where
  pub left_is : left_of (spots_source ss behind) ≡ all_left ss behind
  pub none : NonePairs (all_left ss behind)

spot_apart : (s : BlockSpot) (ss : List BlockSpot) (behind : List ℕ) → IsReadSpot s → AreReadSpots ss behind → EndBeforeBlocks (s ∷ ss) behind
    → AreClear 0 (s ∷ ss) (members_of (spots_source (s ∷ ss) behind)) → (AreClear 0 ss (members_of (spots_source ss behind)) → ArePartsApart ss behind)
    → ArePartsApart (s ∷ ss) behind
spot_apart s ss behind h f b c go =
    let line : List ℕ = source_of s.block s.text in
    let later : List ℕ = spots_source ss behind in
    let rest : List ℕ = line ++ later in
    let all : Members = members_of (s.before ++ rest) in
    let before : AreSide s.before rest = before_met s ss behind h f b in
    let met : AreSide line later = block_met s ss behind h f b in
    let z : 0 + length s.before ≡ length s.before = omega arith in
    let y : 0 + length s.before + length line ≡ length s.before + length line = omega arith in
    let x : length line ≡ length line + 0 = omega arith in
    let first = page_apart s.before rest before (subst (λ (n : ℕ). IsClear n 0 all) z c.0) in
    let second = page_apart line later met (page_behind s.before rest (length line) before first (subst (λ (n : ℕ). IsClear n 0 all) y c.1)) in
    let others : AreClear (length line) ss (members_of rest) = all_behind s.before rest (length line) ss before first (subst (λ (n : ℕ). AreClear n ss all) y c.2) in
    let r : ArePartsApart ss behind = go (all_behind line later 0 ss met second (subst (λ (n : ℕ). AreClear n ss (members_of rest)) x others)) in
    let later_none : NonePairs (left_of later) = subst NonePairs (sym r.left_is) r.none in
    let rest_is : left_of rest ≡ left_of line ++ all_left ss behind =
    met_left (words Page line) (words Page later) (words Page rest) met second ∙ ap (λ (bs : List Brace). left_of line ++ bs) r.left_is in
    let rest_none : NonePairs (left_of rest) =
    subst NonePairs (sym (met_left (words Page line) (words Page later) (words Page rest) met second))
    (apart_pairs (words Page line) (words Page later) second (left_pairs (words Page line)) later_none) in
    let all_is : left_of (s.before ++ rest) ≡ left_of s.before ++ left_of rest =
    met_left (words Page s.before) (words Page rest) (words Page (s.before ++ rest)) before first in
    record {
      left_is = all_is ∙ ap (λ (bs : List Brace). left_of s.before ++ bs) rest_is;
      none = subst (λ (bs : List Brace). NonePairs (left_of s.before ++ bs)) rest_is
          (apart_pairs (words Page s.before) (words Page rest) first (left_pairs (words Page s.before)) rest_none);
    }

further_apart : (ss : List BlockSpot) (behind : List ℕ) → AreReadSpots ss behind → EndBeforeBlocks ss behind → AreClear 0 ss (members_of (spots_source ss behind))
    → ArePartsApart ss behind
further_apart [] behind f b c = record { left_is = refl; none = left_pairs (words Page behind) }
further_apart (s ∷ ss) behind f b c = spot_apart s ss behind f.0 f.2 b c (λ d. further_apart ss behind f.2 b.2 d)

pub parts_apart : (s : BlockSpot) (ss : List BlockSpot) (behind : List ℕ) → IsReadSpot s → AreReadSpots ss behind → EndBeforeBlocks (s ∷ ss) behind
    → AreClear 0 (s ∷ ss) (members_of (spots_source (s ∷ ss) behind)) → ArePartsApart (s ∷ ss) behind
parts_apart s ss behind h f b c = spot_apart s ss behind h f b c (λ d. further_apart ss behind f b.2 d)
