-- A heading gives what its content gives by itself, between its `=` and blanks.
use Rattle.std.proofs.Common.{◌≡◌, inl, inr, ℕ, zero, suc, ◌≤◌, ◌==◌, Bool, true, false, List, [], ◌∷◌, ◌++◌, map, arith, refl, sym, ap, ◌∙◌, subst, append-nil}
use Rattle.std.specs.Prelude.{not}
use Rattle.std.proofs.lemmas.Bool.{eqb-true}
use Rattle.std.proofs.lemmas.List.{append_cancel_left}
use Rattle.wt_span.specs.declared.form.Mode.TheVariants.{Page}
use Rattle.wt_span.specs.Bytes.{is_blank, is_break}
use Rattle.wt_span.specs.Items.{Item, char, whole, sign}
use Rattle.wt_span.specs.Lexemes.{words, cuts}
use Rattle.wt_span.specs.Origins.{OuterCall}
use Rattle.wt_lines.specs.Kinds.{is_mark_sign, is_idle}
use Rattle.wt_expand.specs.PageItems.{page_items}
use Rattle.wt_expand.specs.Work.{Pages, Entry}
use Rattle.wt_part_laws.specs.Apart.{AreMet}
use Rattle.wt_part_laws.specs.Lexer.{lexer}
use Rattle.wt_part_laws.specs.Scans.{after_all, Settles}
use Rattle.wt_text_edit_laws.specs.LonePages.{page_chars}
use Rattle.wt_text_edit_laws.specs.NoCalls.{is_brace, AreUnbraced}
use Rattle.wt_text_edit_laws.specs.ReadContents.{IsReadContent}
use Rattle.wt_text_edit_laws.specs.TextBetween.{EndsBy}
use Rattle.wt_text_edit_laws.specs.TextBlocks.{a_heading, source_of, IsFrame}
use Rattle.wt_text_edit_laws.specs.TypedHeadings.{Sides, AreBlanks, AreIdle, AreSides, equals, opening, closing, closing_items, heading_line}
use Rattle.wt_text_edit_laws.proofs.Between.Fronts.{ReadsAfter, page_read, front_reads, alone_reads}
use Rattle.wt_text_edit_laws.proofs.Between.LineWords.{either}
use Rattle.wt_text_edit_laws.proofs.Blocks.BlockReading.{AreQuiet, quiet_joined, run_quiet, blanks_quiet, opening_quiet, each_quiet, read_quiet, closing_front}
use Rattle.wt_text_edit_laws.proofs.Prose.InFront.{Reads, reads_nothing, read_items}
use Rattle.wt_called_edit_laws.specs.Written.{IsWrittenAs}
use Rattle.wt_called_edit_laws.proofs.Parts.Seams.{begins_same}
use Rattle.wt_text_edit_laws.proofs.Cuts.Uncrossed.{BeginsOther, AreCut, part_settles}
use Rattle.wt_called_edit_laws.proofs.Written.Joined.{both_written, calm_written, calm_then}
use Rattle.wt_called_edit_laws.proofs.Written.Signs.{met_by}

-- ---- what is beside the content, by itself

opening_alone : (s : Sides) → AreSides s → page_items (opening s) ≡ page_chars (opening s)
opening_alone s a =
    ap page_items (sym (append-nil (opening s)))
    ∙ read_items (opening s ++ []) (page_chars (opening s) ++ []) (read_quiet (opening s) [] [] (opening_quiet s a) reads_nothing)
    ∙ append-nil (page_chars (opening s))

closing_reads : (s : Sides) → IsFrame s → Reads (closing s) (closing_items s)
closing_reads s f =
    subst (λ (bs : List ℕ). Reads bs (closing_items s)) (append-nil (closing s))
    (subst (λ (xs : List Item). Reads (closing s ++ []) xs) (append-nil (closing_items s)) (closing_front s [] [] f tt reads_nothing))

closing_alone : (s : Sides) → IsFrame s → page_items (closing s) ≡ closing_items s
closing_alone s f = read_items (closing s) (closing_items s) (closing_reads s f)

-- ---- it has no brace

quiet_unbraced : (bs : List ℕ) → AreQuiet bs → AreUnbraced (page_chars bs)
quiet_unbraced [] h = tt
quiet_unbraced (b ∷ bs) h = (each_quiet (λ (d : ℕ). is_brace d ≡ false) refl refl refl b h.0, quiet_unbraced bs h.1)

idle_byte : (b : ℕ) → is_idle b ≡ true → is_brace b ≡ false
idle_byte b h = elim (either (is_blank b) (is_mark_sign b) h) [
  | inl i ↦ let own = blanks_quiet (b ∷ []) (i, tt) in each_quiet (λ (d : ℕ). is_brace d ≡ false) refl refl refl b own.0
  | inr m ↦ subst (λ (d : ℕ). is_brace d ≡ false) (sym (eqb-true b 257 m)) refl
]

idle_unbraced : (xs : List Item) → AreIdle (map sign xs) → AreUnbraced xs
idle_unbraced [] h = tt
idle_unbraced (char o b ∷ xs) h = (idle_byte b h.0, idle_unbraced xs h.1)
idle_unbraced (whole f o bs ∷ xs) h = idle_unbraced xs h.1

unbraced_both : (xs ys : List Item) → AreUnbraced xs → AreUnbraced ys → AreUnbraced (xs ++ ys)
unbraced_both [] ys h k = k
unbraced_both (char o b ∷ xs) ys h k = (h.0, unbraced_both xs ys h.1 k)
unbraced_both (whole f o bs ∷ xs) ys h k = unbraced_both xs ys h k

closing_unbraced : (s : Sides) → AreSides s → AreUnbraced (closing_items s)
closing_unbraced s a =
    unbraced_both (page_chars (s.trail ++ equals s.level)) (page_items s.rest)
    (quiet_unbraced (s.trail ++ equals s.level) (quiet_joined s.trail (equals s.level) (blanks_quiet s.trail a.trail) (run_quiet s.level)))
    (idle_unbraced (page_items s.rest) a.rest)

-- ---- no run of brackets or braces goes over its ends

signs_other : (c : ℕ) → (61 == c) ≡ false → (32 == c) ≡ false → (9 == c) ≡ false → (trail : List ℕ) (n : ℕ) (more : List ℕ) → AreBlanks trail → 1 ≤ n
    → BeginsOther c (trail ++ (equals n ++ more))
signs_other c e f g [] zero more h some = absurd (omega (arith, some))
signs_other c e f g [] (suc n) more h some = e
signs_other c e f g (b ∷ bs) n more h some = let own = blanks_quiet (b ∷ bs) h in each_quiet (λ (d : ℕ). (d == c) ≡ false) e f g b own.0

closing_other : (c : ℕ) → (61 == c) ≡ false → (32 == c) ≡ false → (9 == c) ≡ false → (s : Sides) → AreSides s → BeginsOther c (closing s)
closing_other c e f g s a = signs_other c e f g s.trail s.level s.rest a.trail a.some

closing_cut : (q : List ℕ) (s : Sides) → AreSides s → AreCut q (closing s)
closing_cut q s a = (
  inr (closing_other 123 refl refl refl s a),
  inr (closing_other 125 refl refl refl s a),
  inr (closing_other 91 refl refl refl s a),
  inr (closing_other 93 refl refl refl s a),
)

quiet_ends : (c : ℕ) → (61 == c) ≡ false → (32 == c) ≡ false → (9 == c) ≡ false → (bs : List ℕ) → AreQuiet bs → EndsBy (λ b. not (b == c)) bs
quiet_ends c e f g [] h = tt
quiet_ends c e f g (b ∷ []) h = each_quiet (λ (d : ℕ). not (d == c) ≡ true) (ap not e) (ap not f) (ap not g) b h.0
quiet_ends c e f g (b ∷ d ∷ bs) h = quiet_ends c e f g (d ∷ bs) h.1

opening_cut : (s : Sides) (q : List ℕ) → AreSides s → AreCut (opening s) q
opening_cut s q a =
    let quiet : AreQuiet (opening s) = opening_quiet s a in (
      inl (quiet_ends 123 refl refl refl (opening s) quiet),
      inl (quiet_ends 125 refl refl refl (opening s) quiet),
      inl (quiet_ends 91 refl refl refl (opening s) quiet),
      inl (quiet_ends 93 refl refl refl (opening s) quiet),
    )

-- no line ends in it
quiet_line : (bs : List ℕ) → AreQuiet bs → after_all (lexer Page) false bs ≡ false
quiet_line [] h = refl
quiet_line (b ∷ bs) h =
    let rest : after_all (lexer Page) false bs ≡ false = quiet_line bs h.1 in
    each_quiet (λ (d : ℕ). after_all (lexer Page) (is_break d) bs ≡ false) rest rest rest b h.0

-- ---- where it and the content meet

own_first : (s : Sides) (q : List ℕ) → IsReadContent (a_heading s) q
    → page_items (opening s ++ (q ++ closing s)) ≡ page_items (opening s) ++ (page_items q ++ closing_items s)
own_first s q r =
    let f : IsFrame s = r.begins in
    r.unended ∙ sym (ap (λ (xs : List Item). xs ++ (page_items q ++ closing_items s)) (opening_alone s f.sides))

opening_met : (s : Sides) (q : List ℕ) → IsReadContent (a_heading s) q
    → AreMet (words Page (opening s)) (words Page (q ++ closing s)) (words Page (opening s ++ (q ++ closing s)))
opening_met s q r =
    let f : IsFrame s = r.begins in
    met_by (opening s) (q ++ closing s) (page_items q ++ closing_items s) (opening_cut s (q ++ closing s) f.sides) (own_first s q r)
    (ap (λ (v : Bool). cuts Page v 0 (q ++ closing s)) (quiet_line (opening s) (opening_quiet s f.sides)))

-- behind its first signs the content is read as it is by itself
rest_items : (s : Sides) (q : List ℕ) → IsReadContent (a_heading s) q → page_items (q ++ closing s) ≡ page_items q ++ closing_items s
rest_items s q r =
    let f : IsFrame s = r.begins in
    let rest : List ℕ = q ++ closing s in
    let own : List Item = page_items rest in
    let settles : Settles (lexer Page) rest false 0 (opening s) =
    part_settles (opening s) rest (page_items q ++ closing_items s) (opening_cut s rest f.sides) (own_first s q r) in
    let all : ReadsAfter false (opening s ++ rest) (page_items (opening s) ++ own) =
    front_reads (opening s) rest own settles
    (subst (λ (v : Bool). ReadsAfter v rest own) (sym (quiet_line (opening s) (opening_quiet s f.sides))) (alone_reads rest)) in
    append_cancel_left (page_items (opening s)) own (page_items q ++ closing_items s)
    (sym (page_read (opening s ++ rest) (page_items (opening s) ++ own) all) ∙ own_first s q r)

closing_met : (s : Sides) (q : List ℕ) → IsReadContent (a_heading s) q → AreMet (words Page q) (words Page (closing s)) (words Page (q ++ closing s))
closing_met s q r =
    let f : IsFrame s = r.begins in
    let c : Reads (closing s) (closing_items s) = closing_reads s f in
    met_by q (closing s) (closing_items s) (closing_cut q s f.sides) (rest_items s q r) (begins_same (after_all (lexer Page) false q) (closing s) c.begins)

-- ---- so the heading

pub framed_written : (pages : Pages) (s : Sides) (q : List ℕ) (items : ℕ → List Item) (calls : List OuterCall) (work : List Entry) → IsReadContent (a_heading s) q
    → IsWrittenAs pages q items calls work → IsWrittenAs pages (source_of (a_heading s) q) (λ i. heading_line s (items i)) calls work
framed_written pages s q items calls work r w =
    let f : IsFrame s = r.begins in
    let o : List Item = page_chars (opening s) in
    let c : List Item = page_items (closing s) in
    let source : List ℕ = opening s ++ (q ++ closing s) in
    let inside : IsWrittenAs pages (q ++ closing s) (λ i. items i ++ c) (calls ++ []) (work ++ []) =
    both_written pages q (closing s) items (λ i. c) calls [] work [] (closing_met s q r) w
    (calm_written pages (closing s) (subst AreUnbraced (sym (closing_alone s f)) (closing_unbraced s f.sides))) in
    let all : IsWrittenAs pages source (λ i. o ++ (items i ++ c)) (calls ++ []) (work ++ []) =
    calm_then pages (opening s) (q ++ closing s) o (λ i. items i ++ c) (calls ++ []) (work ++ []) (opening_met s q r) (opening_alone s f.sides)
    (quiet_unbraced (opening s) (opening_quiet s f.sides)) inside in
    subst (λ (xs : List Item). IsWrittenAs pages source (λ i. o ++ (items i ++ xs)) calls work) (closing_alone s f)
    (subst (λ (cs : List OuterCall). IsWrittenAs pages source (λ i. o ++ (items i ++ c)) cs work) (append-nil calls)
    (subst (λ (es : List Entry). IsWrittenAs pages source (λ i. o ++ (items i ++ c)) (calls ++ []) es) (append-nil work) all))
