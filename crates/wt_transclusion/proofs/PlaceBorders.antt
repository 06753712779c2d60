-- A stretch of a text begins between two characters.
use Rattle.std.proofs.Common.{◌≡◌, ◌∙◌, ◌⊎◌, inl, inr, ℕ, zero, suc, ◌+◌, ◌-◌, ◌<◌, ◌≤◌, List, [], ◌∷◌, ◌++◌, length, drop, refl, sym, ap, subst, arith, append_assoc}
use Rattle.std.specs.Prelude.{true, false, Some, is_some, replicate, slice_get, slice_index, nat_le}
use Rattle.std.specs.Str.{IsUtf8, IsCharBoundary}
use Rattle.std.specs.List.{All, prefix_len}
use Rattle.std.proofs.lemmas.List.{get_or-drop, drop-drop, length-replicate, drop-append-le}
use Rattle.std.proofs.lemmas.Str.{IsCharBoundary-after_ascii}
use Rattle.std.proofs.lemmas.List.Elements.{All-head, All-tail}
use Rattle.wt_span.specs.declared.form.Mode.{Mode}
use Rattle.wt_span.specs.declared.form.LexKind.{LexKind}
use Rattle.wt_span.specs.declared.form.LexKind.TheVariants as lex
use Rattle.wt_span.specs.Lexemes.{words}
use Rattle.wt_span.specs.Braces.{Member, Members, lexeme, call, members, width_of_all, calls}
use Rattle.wt_lex.specs.declared.lexeme.Lexeme.{Lexeme}
use Rattle.wt_lex.specs.Places.{AtBorders}
use Rattle.wt_transclusion.specs.declared.read.ReadText.{ReadText}
use Rattle.wt_transclusion.specs.Marks.{Mark, opens, closes, of, marks_from, words_marks, word_marks, marks_of_all}
use Rattle.wt_transclusion.specs.Reads.{IsRead}
use Rattle.wt_transclusion.specs.Steps.{IsStretchOf}
use Rattle.wt_transclusion.specs.Stretch.{IsStretch, AllFull}
use Rattle.wt_transclusion.proofs.Chunks.{IsRun, opening, closing}
use Rattle.wt_transclusion.proofs.ChunkLaws.{IsForm, form_of, from_drop, run_or_form, run_marks, drop_run, first_of, member_by, not_call}
use Rattle.wt_transclusion.proofs.CursorLaws.{stretch_within, text_len, lexeme_at}
use Rattle.wt_transclusion.proofs.FunctionWords.{brace_mark, closing_there, marks_there}
use Rattle.wt_transclusion.proofs.MarkBytes.{text_says}
use Rattle.wt_transclusion.proofs.StretchCuts.{from_len, stretch_back}
use Rattle.wt_transclusion.proofs.StretchLaws.{full_back}

ascii_place : (t : List ℕ) (p b : ℕ) → p ≤ length t → slice_index t p ≡ b → b < 128 → IsCharBoundary t p
ascii_place t p b l e low = (l, λ more high. absurd (omega (arith, e, low, high)))

first_byte : (t : List ℕ) (p b : ℕ) → slice_index (drop p t) 0 ≡ b → slice_index t p ≡ b
first_byte t p b e = let z : p ≡ p + 0 = omega arith in ap (slice_index t) z ∙ sym (get_or-drop p t 0 0) ∙ e

-- braces have one byte each
run_border : (m : Mode) (t : List ℕ) (p n : ℕ) (k : Mark) (after : List Mark) (kind : _) → IsRun kind k → p ≤ length t → 1 ≤ n
    → drop p (words_marks (words m t)) ≡ replicate n k ++ after → IsCharBoundary t p
run_border m t p zero k after kind run l some e = absurd (omega (arith, some))
run_border m t p (suc n) k after kind opening l some e =
    ascii_place t p 123 l (first_byte t p 123 (text_says m t p opens (replicate n opens ++ after) e)) (omega arith)
run_border m t p (suc n) k after kind closing l some e =
    ascii_place t p 125 l (first_byte t p 125 (text_says m t p closes (replicate n closes ++ after) e)) (omega arith)

-- where the members of a stretch begin, the byte of a lexeme of a form is its first one
form_begins : (p e : ℕ) (w : List Mark) (c : _) (xs : List Member) (kind : _) (len j : ℕ) (rest : List Mark) → IsStretch w c p e xs → p < e
    → drop p w ≡ of kind len j ∷ rest → j ≡ 0
form_begins p e w c [] kind len j rest s low is = absurd (let z = s.width in omega (arith, z, low))
form_begins p e w c (call k ms ∷ ys) kind len j rest s low is =
    let two = s.full.0.0 in
    let f = first_of (width_of_all (members (call k ms ∷ ys))) (drop p w) (of kind len j) (marks_of_all (members (call k ms ∷ ys))) rest
    (omega (arith, two)) s.bytes is in
    absurd (not_call k ms ys kind len j f.0 two f.1)
form_begins p e w c (lexeme (d, k) ∷ ys) kind len j rest s low is =
    let one = s.full.0 in
    let f = first_of (k + width_of_all (members ys)) (drop p w) (of kind len j) (word_marks d k ++ marks_of_all (members ys)) rest
    (omega (arith, one)) s.bytes is in
    (member_by d kind len j k (marks_of_all (members ys)) f.0 one (run_or_form d) f.1).begins

lexeme_borders : (t : List ℕ) (xs : List Lexeme) (n : ℕ) (x : Lexeme) → All (AtBorders t) xs → slice_get xs n ≡ Some x → AtBorders t x
lexeme_borders t [] n x h e = absurd (let z : false ≡ true = ap is_some e in cc)
lexeme_borders t (y ∷ ys) zero x h e = let z : y ≡ x = cc in subst (AtBorders t) z (All-head (AtBorders t) y ys h)
lexeme_borders t (y ∷ ys) (suc n) x h e = lexeme_borders t ys n x (All-tail (AtBorders t) y ys h) e

by_kind : (m : Mode) (t : List ℕ) (r : ReadText) (p e : ℕ) (xs : List Member) → IsRead m t r → IsStretchOf m t p e xs → p < e → p ≤ length t
    → (j size : ℕ) (x : Lexeme) (after : List Mark) → j < size → x.at.start ≤ p → j ≡ p - x.at.start
    → drop p (words_marks (words m t)) ≡ drop j (word_marks x.kind size) ++ after
    → slice_get r.lexemes.now (prefix_len (λ y. nat_le y.at.end p) r.lexemes.now) ≡ Some x
    → ((k : Mark) × IsRun x.kind k) ⊎ IsForm x.kind → IsCharBoundary t p
by_kind m t r p e xs h s low within j size x after l begun j_is marks there (inl (k, run)) =
    run_border m t p (size - j) k after x.kind run within (omega (arith, l))
    (marks ∙ ap (λ ms. drop j ms ++ after) (run_marks x.kind k size run) ∙ ap (λ ms. ms ++ after) (drop_run k size j (omega (arith, l))))
by_kind m t r p e xs h s low within j size x after l begun j_is marks there (inr (form_of is)) =
    let d = from_drop x.kind size 0 j size l in
    let first : drop p (words_marks (words m t)) ≡ of x.kind size (0 + j) ∷ (d.0 ++ after) = marks ∙ ap (λ ms. drop j ms ++ after) (is size)
    ∙ ap (λ ms. ms ++ after) d.1 in
    let none = form_begins p e (words_marks (words m t)) (calls 0 (words m t)) xs x.kind size (0 + j) (d.0 ++ after) s low first in
    let here : x.at.start ≡ p = omega (arith, none, begun, j_is) in
    subst (IsCharBoundary t) here (lexeme_borders t r.lexemes.now (prefix_len (λ y. nat_le y.at.end p) r.lexemes.now) x h.borders there).0

-- a stretch that has members begins where its text can be cut
pub place_border : (m : Mode) (t : List ℕ) (r : ReadText) (p e : ℕ) (xs : List Member) → IsRead m t r → IsStretchOf m t p e xs → p < e → IsCharBoundary t p
place_border m t r p e xs h s low =
    let w = words_marks (words m t) in
    let n = prefix_len (λ x. nat_le x.at.end p) r.lexemes.now in
    let inside = stretch_within w (calls 0 (words m t)) p e xs s low in
    let len = text_len m t in
    let within : p ≤ length t = omega (arith, low, inside, len) in
    let f = lexeme_at m t r p n h refl (omega (arith, low, inside, len)) in
    let x = f.lexeme in
    let j = p - x.at.start in
    let size = x.at.end - x.at.start in
    let begun = f.begun in
    let ends = f.ends in
    let z : p ≡ p - 0 = omega arith in
    let marks : drop p w ≡ drop j (word_marks x.kind size) ++ f.after = ap (λ q. drop q w) z ∙ f.marks in
    by_kind m t r p e xs h s low within j size x f.after (omega (arith, begun, ends)) begun refl marks f.there (run_or_form x.kind)

-- ---- where a stretch ends

-- a brace is a byte by itself
brace_behind : (m : Mode) (t : List ℕ) (p b : ℕ) → IsUtf8 t → p < length t → slice_index (drop p t) 0 ≡ b → b < 128 → IsCharBoundary t (p + 1)
brace_behind m t p b u l e low =
    let is : slice_index t p < 128 = (let z = first_byte t p b e in omega (arith, z, low)) in
    IsCharBoundary-after_ascii t p u l is

run_behind : (m : Mode) (t : List ℕ) (p : ℕ) (k : Mark) (after : List Mark) (kind : LexKind) → IsUtf8 t → IsRun kind k → p < length t
    → drop p (words_marks (words m t)) ≡ k ∷ after → IsCharBoundary t (p + 1)
run_behind m t p k after kind u opening l e = brace_behind m t p 123 u l (text_says m t p opens after e) (omega arith)
run_behind m t p k after kind u closing l e = brace_behind m t p 125 u l (text_says m t p closes after e) (omega arith)

call_behind : (m : Mode) (t : List ℕ) (p e k : ℕ) (ms : Members) → IsUtf8 t → IsStretchOf m t p e (call k ms ∷ []) → e ≤ length t → IsCharBoundary t e
call_behind m t p e k ms u s within =
    let two = s.full.0.0 in
    let ends = s.width in
    let q = p + (k + width_of_all ms) + (k - 1) in
    let z : q + 1 ≡ e = omega (arith, ends, two) in
    let is : slice_index t q ≡ 125 = closing_there m t p e k ms [] s (k - 1) (omega (arith, two)) in
    subst (IsCharBoundary t) z (IsCharBoundary-after_ascii t q u (omega (arith, z, within)) (omega (arith, is)))

not_run : (o : Mark) (c : LexKind) (k i size j : ℕ) (rest after : List Mark) → j < size → (of c k i ≡ o → ⊥)
    → of c k i ∷ rest ≡ drop j (replicate size o) ++ after → ⊥
not_run o c k i size j rest after l other e =
    let wide = length-replicate size o in
    let g : of c k i ∷ rest ≡ o ∷ drop (suc j) (replicate size o ++ after) =
    e ∙ sym (drop-append-le j (replicate size o) after (omega (arith, wide, l))) ∙ brace_mark o size j after l in
    other (let z : of c k i ≡ o = cc in z)

lexeme_behind : (m : Mode) (t : List ℕ) (r : ReadText) (p e k : ℕ) (c : LexKind) → IsRead m t r → IsStretchOf m t p e (lexeme (c, k) ∷ []) → e ≤ length t
    → ((o : Mark) × IsRun c o) ⊎ IsForm c → IsCharBoundary t e
lexeme_behind m t r p e k c h s within (inl (o, run)) =
    let w = words_marks (words m t) in
    let one = s.full.0 in
    let ends = s.width in
    let rest = drop (width_of_all (members (lexeme (c, k) ∷ []))) (drop p w) in
    let all : drop p w ≡ replicate k o ++ ([] ++ rest) = marks_there m t p e (lexeme (c, k) ∷ []) s ∙ append_assoc (word_marks c k) [] rest
    ∙ ap (λ ys. ys ++ ([] ++ rest)) (run_marks c o k run) in
    let q = p + (k - 1) in
    let z : q + 1 ≡ e = omega (arith, ends, one) in
    let mark = sym (drop-drop (k - 1) p w) ∙ ap (drop (k - 1)) all ∙ brace_mark o k (k - 1) ([] ++ rest) (omega (arith, one)) in
    subst (IsCharBoundary t) z (run_behind m t q o _ c h.characters run (omega (arith, z, within)) mark)
lexeme_behind m t r p e k c h s within (inr (form_of is)) =
    let w = words_marks (words m t) in
    let one = s.full.0 in
    let ends = s.width in
    let rest = drop (width_of_all (members (lexeme (c, k) ∷ []))) (drop p w) in
    let all : drop p w ≡ marks_from c k 0 k ++ ([] ++ rest) = marks_there m t p e (lexeme (c, k) ∷ []) s ∙ append_assoc (word_marks c k) [] rest
    ∙ ap (λ ys. ys ++ ([] ++ rest)) (is k) in
    let q = p + (k - 1) in
    let z : q + 1 ≡ e = omega (arith, ends, one) in
    let d = from_drop c k 0 (k - 1) k (omega (arith, one)) in
    let wide = from_len c k 0 k in
    let mark : drop q w ≡ of c k (0 + (k - 1)) ∷ (d.0 ++ ([] ++ rest)) = sym (drop-drop (k - 1) p w) ∙ ap (drop (k - 1)) all
    ∙ drop-append-le (k - 1) (marks_from c k 0 k) ([] ++ rest) (omega (arith, wide)) ∙ ap (λ ms. ms ++ ([] ++ rest)) d.1 in
    let f = lexeme_at m t r q (prefix_len (λ x. nat_le x.at.end q) r.lexemes.now) h refl (omega (arith, z, within)) in
    let x = f.lexeme in
    let begun = f.begun in
    let last = f.ends in
    let y : q ≡ q - 0 = omega arith in
    let there = ap (λ i. drop i w) y ∙ f.marks in
    let size = x.at.end - x.at.start in
    let j = q - x.at.start in
    let found = form_found c k (k - 1) x.kind size j (d.0 ++ ([] ++ rest)) f.after (omega (arith, begun, last)) (sym mark ∙ there) (run_or_form x.kind) in
    let long = found.0 in
    let late = found.1 in
    let here : x.at.end ≡ e = omega (arith, z, long, late, begun, last) in
    subst (IsCharBoundary t) here (lexeme_borders t r.lexemes.now (prefix_len (λ v. nat_le v.at.end q) r.lexemes.now) x h.borders f.there).1
  where
    form_found : (c : LexKind) (k i : ℕ) (kind : LexKind) (size j : ℕ) (rest after : List Mark) → j < size
        → of c k (0 + i) ∷ rest ≡ drop j (word_marks kind size) ++ after → ((o : Mark) × IsRun kind o) ⊎ IsForm kind → (size ≡ k) × (j ≡ i)
    form_found c k i kind size j rest after l e (inl (o, opening)) = absurd (not_run opens c k (0 + i) size j rest after l (λ v. let g : of c k (0 + i) ≡ opens = v in cc) e)
    form_found c k i kind size j rest after l e (inl (o, closing)) = absurd (not_run closes c k (0 + i) size j rest after l (λ v. let g : of c k (0 + i) ≡ closes = v in cc) e)
    form_found c k i kind size j rest after l e (inr (form_of is)) =
        let d = from_drop kind size 0 j size l in
        let g : of c k (0 + i) ∷ rest ≡ of kind size (0 + j) ∷ (d.0 ++ after) = e ∙ ap (λ ms. drop j ms ++ after) (is size) ∙ ap (λ ms. ms ++ after) d.1 in
        let a : k ≡ size = cc in
        let b : 0 + i ≡ 0 + j = cc in
        (sym a, omega (arith, b))

some_wide : (y : Member) (ys : List Member) → AllFull (y ∷ ys) → 1 ≤ width_of_all (members (y ∷ ys))
some_wide (lexeme (c, k)) ys f = let one = f.0 in omega (arith, one)
some_wide (call k ms) ys f = let two = f.0.0 in omega (arith, two)

-- a stretch that has members ends where its text can be cut
pub end_border : (m : Mode) (t : List ℕ) (r : ReadText) (p e : ℕ) (xs : List Member) → IsRead m t r → IsStretchOf m t p e xs → p < e → e ≤ length t
    → IsCharBoundary t e
end_border m t r p e [] h s low within = absurd (let z = s.width in omega (arith, z, low))
end_border m t r p e (lexeme (c, k) ∷ []) h s low within = lexeme_behind m t r p e k c h s within (run_or_form c)
end_border m t r p e (call k ms ∷ []) h s low within = call_behind m t p e k ms h.characters s within
end_border m t r p e (x ∷ y ∷ ys) h s low within =
    let q = p + width_of_all (members (x ∷ [])) in
    let back = stretch_back _ _ p e (x ∷ []) (y ∷ ys) s in
    let some = some_wide y ys (full_back (x ∷ []) (y ∷ ys) s.full) in
    let ends = back.width in
    end_border m t r q e (y ∷ ys) h back (omega (arith, some, ends)) within
