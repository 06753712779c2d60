-- Places of a text and the lexemes and calls there.
use Rattle.std.proofs.Common.{◌≡◌, ℕ, zero, suc, ◌+◌, ◌-◌, ◌<◌, ◌≤◌, Bool, true, false, cond, Some, None, List, [], ◌∷◌, ◌++◌, length, get_or, drop, map, refl, sym, ap, ◌∙◌, subst, arith, length-append}
use Rattle.std.specs.Prelude.{nat_lt, nat_le, slice_get, min}
use Rattle.std.specs.List.{prefix_len}
use Rattle.std.proofs.lemmas.Bool.Decides.{nat_tests}
use Rattle.std.proofs.lemmas.List.{length-drop, length-take, drop-drop, drop_at, drop_all, drop_more, drop-append-le}
use Rattle.std.proofs.lemmas.Option.{slice_get_within, get_or_from_slice_get, slice_get-map}
use Rattle.std.specs.Option.{option_map}
use Rattle.std.proofs.lemmas.List.Sums.{prefix_len-le-length}
use Rattle.wt_span.specs.declared.form.Mode.{Mode}
use Rattle.wt_span.specs.declared.form.LexKind.{LexKind}
use Rattle.wt_span.specs.Lexemes.{Word, words}
use Rattle.wt_span.specs.Braces.{Member, members, width_of_all, CallAt, calls}
use Rattle.wt_lex.specs.declared.lexeme.Lexeme.{Lexeme}
use Rattle.wt_lex.specs.Places.{word_of, Follow}
use Rattle.wt_lex.proofs.Readings.{words_are}
use Rattle.wt_braces.proofs.Ends.{drop_map}
use Rattle.wt_transclusion.specs.declared.read.Braces.{Braces}
use Rattle.wt_transclusion.specs.declared.read.ReadText.{ReadText}
use Rattle.wt_transclusion.specs.Reads.{braces_of, IsRead}
use Rattle.wt_braces.specs.Words.{total_width}
use Rattle.wt_transclusion.specs.declared.cursor.Next.TheVariants as next
use Rattle.wt_transclusion.specs.Steps.{MayFollow, no_more, and_one, IsTaken, IsStretchOf, AnswersNext}
use Rattle.wt_transclusion.specs.Marks.{Mark, word_marks, words_marks}
use Rattle.wt_transclusion.specs.Stretch.{calls_before, BeginBehind, IsStretch, IsLimit}
use Rattle.wt_transclusion.proofs.Full.{AllSome, some_lexemes, wide_lexemes}
use Rattle.wt_transclusion.proofs.StretchLaws.{before_more, behind_later, behind_all}
use Rattle.wt_transclusion.proofs.StretchCuts.{word_len, marks_len}
use Rattle.wt_transclusion.proofs.Chunks.{taken_more}
use Rattle.wt_transclusion.proofs.ChunkLaws.{IsLexemeThere, call_there, chunk_there}

-- ---- going on

on_by : {A : Type 0} → (f g : A → Bool) (x : A) (xs : List A) (t u : Bool) → (t ≡ true → u ≡ true)
    → prefix_len g xs ≡ prefix_len f xs + prefix_len g (drop (prefix_len f xs) xs)
    → g x ≡ u → cond u (1 + prefix_len g xs) 0 ≡ cond t (1 + prefix_len f xs) 0 + prefix_len g (drop (cond t (1 + prefix_len f xs) 0) (x ∷ xs))
on_by f g x xs true true h e is = let z : 1 + prefix_len f xs
    ≡ suc (prefix_len f xs) = omega arith in let d = ap (λ k. prefix_len g (drop k (x ∷ xs))) z in omega (arith, e, d)
on_by f g x xs true false h e is = absurd (let z : false ≡ true = h refl in cc)
on_by f g x xs false u h e is = ap (λ t. cond t (1 + prefix_len g xs) 0) (sym is) ∙ omega arith

-- where all that pass one test pass another, the second goes on behind the first
pub prefix_on : {A : Type 0} → (f g : A → Bool) (xs : List A) → ((x : A) → f x ≡ true → g x ≡ true)
    → prefix_len g xs ≡ prefix_len f xs + prefix_len g (drop (prefix_len f xs) xs)
prefix_on f g [] h = refl
prefix_on f g (x ∷ xs) h = on_by f g x xs (f x) (g x) (h x) (prefix_on f g xs h) refl

pub count_on : {A : Type 0} → (f g : A → Bool) (xs rest : List A) (k n : ℕ) → ((x : A) → f x ≡ true → g x ≡ true) → k ≡ prefix_len f xs → rest ≡ drop k xs
    → n ≡ prefix_len g rest
    → length xs - (length rest - n) ≡ prefix_len g xs
count_on f g xs rest k n h a r b =
    let on = prefix_on f g xs h in
    let w = prefix_len-le-length f xs in
    let v = prefix_len-le-length g rest in
    let l = ap length r ∙ length-drop k xs in
    let same : n ≡ prefix_len g (drop (prefix_len f xs) xs) = b ∙ ap (prefix_len g) r ∙ ap (λ j. prefix_len g (drop j xs)) a in
    omega (arith, on, w, v, l, a, b, same)

pub le_later : (p q : ℕ) → p ≤ q → (x : Lexeme) → nat_le x.at.end p ≡ true → nat_le x.at.end q ≡ true
le_later p q l x e = let z : x.at.end ≤ p = grind (arith, nat_tests) in let y : x.at.end ≤ q = omega (arith, z, l) in grind (arith, nat_tests)

pub lt_later : (p q : ℕ) → p ≤ q → (x : Braces) → nat_lt x.at.start p ≡ true → nat_lt x.at.start q ≡ true
lt_later p q l x e = let z : x.at.start < p = grind (arith, nat_tests) in let y : x.at.start < q = omega (arith, z, l) in grind (arith, nat_tests)

-- ---- the start

some_words : (m : Mode) (text : List ℕ) (xs : List Lexeme) → map word_of xs ≡ words m text → AllSome (map word_of xs)
some_words m text xs e = subst AllSome (sym e) (some_lexemes m false (words m text) text (words_are m text))

none_ended : (xs : List Lexeme) → AllSome (map word_of xs) → prefix_len (λ x. nat_le x.at.end 0) xs ≡ 0
none_ended [] s = refl
none_ended (x ∷ xs) s =
    let one = s.0 in
    let high : nat_le x.at.end 0 ≡ false = let y : 0 < x.at.end = omega (arith, one) in grind (arith, nat_tests) in
    ap (λ t. cond t (1 + prefix_len (λ y. nat_le y.at.end 0) xs) 0) high

none_begun : (cs : List Braces) → prefix_len (λ x. nat_lt x.at.start 0) cs ≡ 0
none_begun [] = refl
none_begun (c ∷ cs) = let no : nat_lt c.at.start 0 ≡ false = grind (arith, nat_tests) in ap (λ t. cond t (1 + prefix_len (λ y. nat_lt y.at.start 0) cs) 0) no

pub start_lexeme : (m : Mode) (text : List ℕ) (r : ReadText) → IsRead m text r → 0 ≡ prefix_len (λ x. nat_le x.at.end 0) r.lexemes.now
start_lexeme m text r h = sym (none_ended r.lexemes.now (some_words m text r.lexemes.now h.words_are))

pub start_call : (r : ReadText) → 0 ≡ prefix_len (λ x. nat_lt x.at.start 0) r.calls.now
start_call r = sym (none_begun r.calls.now)

-- ---- the calls of a text and those of its reading

pub count_calls : (p : ℕ) (cs : List Braces) → prefix_len (λ x. nat_lt x.at.start p) cs ≡ calls_before p (map braces_of cs)
count_calls p [] = refl
count_calls p (c ∷ cs) = ap (λ n. cond (nat_lt c.at.start p) (1 + n) 0) (count_calls p cs)

-- ---- the lexeme at a place

-- one of these is there, by its number
pub record HasLexeme (xs : List Lexeme) (w : List Mark) (s p n : ℕ) : Type 0 where
  pub lexeme : Lexeme
  pub there : slice_get xs n ≡ Some lexeme
  pub begun : lexeme.at.start ≤ p
  pub ends : p < lexeme.at.end
  pub after : List Mark
  pub marks : drop (p - s) w ≡ drop (p - lexeme.at.start) (word_marks lexeme.kind (lexeme.at.end - lexeme.at.start)) ++ after

pub has_lexeme : (xs : List Lexeme) (s to p : ℕ) → Follow s xs to → s ≤ p → p < to
    → HasLexeme xs (words_marks (map word_of xs)) s p (prefix_len (λ x. nat_le x.at.end p) xs)
has_lexeme [] s to p f a b = absurd (omega (arith, f, a, b))
has_lexeme (x ∷ xs) s to p f a b = by_test (nat_le x.at.end p) refl (λ l. has_lexeme xs x.at.end to p f.1 l b)
  where
    by_test : (t : Bool) → nat_le x.at.end p ≡ t
        → (x.at.end ≤ p → HasLexeme xs (words_marks (map word_of xs)) x.at.end p (prefix_len (λ y. nat_le y.at.end p) xs))
        → HasLexeme (x ∷ xs) (words_marks (map word_of (x ∷ xs))) s p (cond t (1 + prefix_len (λ y. nat_le y.at.end p) xs) 0)
    by_test true e on =
        let l : x.at.end ≤ p = grind (arith, nat_tests) in
        let h = on l in
        let n = prefix_len (λ y. nat_le y.at.end p) xs in
        let z : suc n ≡ 1 + n = omega arith in
        let len = x.at.end - x.at.start in
        let start = f.0 in
        let ordered = x.at.ordered in
        let d : p - s ≡ len + (p - x.at.end) = omega (arith, start, l, ordered) in
        record {
          lexeme = h.lexeme;
          there = ap (slice_get (x ∷ xs)) (sym z) ∙ h.there;
          begun = h.begun;
          ends = h.ends;
          after = h.after;
          marks = ap (λ k. drop k (word_marks x.kind len ++ words_marks (map word_of xs))) d
              ∙ sym (drop-drop (p - x.at.end) len (word_marks x.kind len ++ words_marks (map word_of xs)))
              ∙ ap (drop (p - x.at.end)) (drop_at (word_marks x.kind len) (words_marks (map word_of xs)) len (word_len x.kind len)) ∙ h.marks;
        }
    by_test false e on =
        let l : p < x.at.end = grind (arith, nat_tests) in
        let len = x.at.end - x.at.start in
        let start = f.0 in
        let wide = word_len x.kind len in
        record {
          lexeme = x;
          there = refl;
          begun = omega (arith, start, a);
          ends = l;
          after = words_marks (map word_of xs);
          marks = ap (λ k. drop (p - k) (word_marks x.kind len ++ words_marks (map word_of xs))) (sym start)
              ∙ drop-append-le (p - x.at.start) (word_marks x.kind len) (words_marks (map word_of xs)) (omega (arith, wide, l));
        }

-- ---- the lexeme behind one

-- a lexeme ends behind where those before it end
ends_behind : (xs : List Lexeme) (s to : ℕ) → Follow s xs to → AllSome (map word_of xs) → (p : ℕ) → p ≤ s → prefix_len (λ y. nat_le y.at.end p) xs ≡ 0
ends_behind [] s to f a p l = refl
ends_behind (x ∷ xs) s to f a p l =
    let one = a.0 in
    let start = f.0 in
    let high : nat_le x.at.end p ≡ false = let y : p < x.at.end = omega (arith, one, start, l) in grind (arith, nat_tests) in
    ap (λ t. cond t (1 + prefix_len (λ y. nat_le y.at.end p) xs) 0) high

-- one of these, with those behind it
pub record IsNumbered (xs : List Lexeme) (s i : ℕ) (x : Lexeme) (rest : List Lexeme) : Type 0 where
  pub there : slice_get xs i ≡ Some x
  pub rest_is : rest ≡ drop (i + 1) xs
  pub behind : s ≤ x.at.end
  pub count : i + 1 ≡ prefix_len (λ y. nat_le y.at.end x.at.end) xs

pub numbered : (xs : List Lexeme) (s to i : ℕ) (x : Lexeme) (rest : List Lexeme) → Follow s xs to → AllSome (map word_of xs)
    → x ∷ rest ≡ drop i xs → IsNumbered xs s i x rest
numbered [] s to zero x rest f a e = absurd (let z : x ∷ rest ≡ [] = e in cc)
numbered [] s to (suc i) x rest f a e = absurd (let z : x ∷ rest ≡ [] = e in cc)
numbered (y ∷ ys) s to zero x rest f a e =
    let same : y ≡ x = let z : x ∷ rest ≡ y ∷ ys = e in cc in
    let others : rest ≡ ys = let z : x ∷ rest ≡ y ∷ ys = e in cc in
    let start = f.0 in
    let ordered = y.at.ordered in
    let ends : s ≤ y.at.end = omega (arith, start, ordered) in
    let here : nat_le y.at.end y.at.end ≡ true = grind (arith, nat_tests) in
    let none = ends_behind ys y.at.end to f.1 a.1 y.at.end (omega arith) in
    let count : 0 + 1 ≡ prefix_len (λ z. nat_le z.at.end y.at.end) (y ∷ ys) =
    sym (ap (λ t. cond t (1 + prefix_len (λ z. nat_le z.at.end y.at.end) ys) 0) here ∙ ap (λ n. 1 + n) none) in
    subst (λ v. IsNumbered (y ∷ ys) s 0 v rest) same (record { there = refl; rest_is = others; behind = ends; count = count })
numbered (y ∷ ys) s to (suc i) x rest f a e =
    let h = numbered ys y.at.end to i x rest f.1 a.1 e in
    let start = f.0 in
    let ordered = y.at.ordered in
    let behind = h.behind in
    let here : nat_le y.at.end x.at.end ≡ true = let l : y.at.end ≤ x.at.end = behind in grind (arith, nat_tests) in
    let counted = h.count in
    let z : suc i + 1 ≡ suc (i + 1) = omega arith in
    record {
      there = h.there;
      rest_is = h.rest_is ∙ sym (ap (λ k. drop k (y ∷ ys)) z);
      behind = omega (arith, start, ordered, behind);
      count = omega (arith, counted) ∙ sym (ap (λ t. cond t (1 + prefix_len (λ v. nat_le v.at.end x.at.end) ys) 0) here);
    }

-- ---- the next call

pub limit_none : (cs : List CallAt) (e : ℕ) → cs ≡ [] → IsLimit cs e e
limit_none cs e z = subst (λ ds. IsLimit ds e e) (sym z) (record { within = omega arith; behind = tt; most = λ b l h. l })

least : (a e : ℕ) (cs : List CallAt) (c : CallAt) → c.from ≡ a → IsLimit (c ∷ cs) e (min a e)
least a e cs c z = record { within = omega arith; behind = omega (arith, z); most = λ b l h. omega (arith, l, h, z) }

pub limit_some : (cs : List Braces) (n e g : ℕ) (x : Braces) → n < length cs → x ≡ get_or cs n x → g ≡ min x.at.start e
    → IsLimit (drop n (map braces_of cs)) e g
limit_some cs n e g x l is z =
    let row : drop n (map braces_of cs) ≡ braces_of x ∷ map braces_of (drop (n + 1) cs) =
    sym (drop_map braces_of n cs) ∙ ap (map braces_of) (drop_more cs n x l) ∙ ap (λ y. braces_of y ∷ map braces_of (drop (n + 1) cs)) (sym is) in
    subst (λ ds. IsLimit ds e g) (sym row) (subst (IsLimit (braces_of x ∷ map braces_of (drop (n + 1) cs)) e) (sym z)
    (least x.at.start e (map braces_of (drop (n + 1) cs)) (braces_of x) refl))

pub limit_end : (cs : List Braces) (n e : ℕ) → length cs ≤ n → IsLimit (drop n (map braces_of cs)) e e
limit_end cs n e l = limit_none (drop n (map braces_of cs)) e (sym (drop_map braces_of n cs) ∙ ap (map braces_of) (drop_all n cs l))

-- ---- what stands there

-- a stretch lies within its text
pub stretch_within : (w : List Mark) (cs : List CallAt) (p e : ℕ) (xs : List Member) → IsStretch w cs p e xs → p < e → e ≤ length w
stretch_within w cs p e xs s low =
    let a = ap length s.bytes ∙ marks_len (members xs) in
    let b = length-take (width_of_all (members xs)) (drop p w) in
    let c = length-drop p w in
    let d = s.width in
    omega (arith, a, b, c, d, low)

words_len : (ws : List Word) → length (words_marks ws) ≡ total_width ws
words_len [] = refl
words_len ((kind, n) ∷ ws) = let a = length-append (word_marks kind n) (words_marks ws) in let b = word_len kind n in let c = words_len ws in omega
    (arith, a, b, c)

pub text_len : (m : Mode) (t : List ℕ) → length (words_marks (words m t)) ≡ length t
text_len m t = words_len (words m t) ∙ wide_lexemes m false (words m t) t (words_are m t)

pub next_call : (m : Mode) (t : List ℕ) (r : ReadText) (b : Braces) (p e n : ℕ) (xs : List Member) → IsRead m t r → n ≡ prefix_len (λ x. nat_lt x.at.start p) r.calls.now
    → IsStretchOf m t p e xs
    → p < e → IsLimit (drop n (map braces_of r.calls.now)) e p → slice_get r.calls.now n ≡ Some b → AnswersNext m t p e xs (next.Call b)
next_call m t r b p e n xs h k s low l there =
    let is : n ≡ calls_before p (calls 0 (words m t)) = k ∙ count_calls p r.calls.now ∙ ap (calls_before p) h.calls_are in
    let same : drop n (map braces_of r.calls.now) ≡ drop (calls_before p (calls 0 (words m t))) (calls 0 (words m t)) = ap (drop n) h.calls_are
    ∙ ap (λ j. drop j (calls 0 (words m t))) is in (
      call_there (words_marks (words m t)) (calls 0 (words m t)) p e xs s low (subst (λ cs. IsLimit cs e p) same l),
      ap (slice_get (calls 0 (words m t))) (sym is) ∙ ap (λ cs. slice_get cs n) (sym h.calls_are) ∙ slice_get-map braces_of r.calls.now n
          ∙ ap (option_map braces_of) there,
    )

pub lexeme_at : (m : Mode) (t : List ℕ) (r : ReadText) (p n : ℕ) → IsRead m t r → n ≡ prefix_len (λ x. nat_le x.at.end p) r.lexemes.now → p < length t
    → HasLexeme r.lexemes.now (words_marks (words m t)) 0 p n
lexeme_at m t r p n h k low =
    subst (HasLexeme r.lexemes.now (words_marks (words m t)) 0 p) (sym k)
    (subst (λ ws. HasLexeme r.lexemes.now (words_marks ws) 0 p (prefix_len (λ x. nat_le x.at.end p) r.lexemes.now)) h.words_are
    (has_lexeme r.lexemes.now 0 (length t) p h.follow (omega arith) low))

-- the calls of a text from a place on, with the next of them
limit_of : (m : Mode) (t : List ℕ) (r : ReadText) (p e g n : ℕ) → IsRead m t r → n ≡ prefix_len (λ x. nat_lt x.at.start p) r.calls.now
    → IsLimit (drop n (map braces_of r.calls.now)) e g → IsLimit (drop (calls_before p (calls 0 (words m t))) (calls 0 (words m t))) e g
limit_of m t r p e g n h k l =
    let cs = calls 0 (words m t) in
    let is : n ≡ calls_before p cs = k ∙ count_calls p r.calls.now ∙ ap (calls_before p) h.calls_are in
    subst (λ ds. IsLimit ds e g) (ap (drop n) h.calls_are ∙ ap (λ q. drop q cs) is) l

-- up to a limit it is the limit of each place
limit_on : (cs : List CallAt) (p q e g : ℕ) → IsLimit (drop (calls_before p cs) cs) e g → p ≤ q → q ≤ g → IsLimit (drop (calls_before q cs) cs) e g
limit_on cs p q e g l low high =
    let same : calls_before q cs ≡ calls_before p cs =
    before_more p q cs [] (drop (calls_before p cs) cs) low refl tt (behind_later q g (drop (calls_before p cs) cs) high l.behind) ∙ omega arith in
    subst (λ k. IsLimit (drop k cs) e g) (sym same) l

limit_above : (p e g : ℕ) (xs : List Member) (w : List Mark) (cs : List CallAt) → IsStretch w cs p e xs → p < e
    → IsLimit (drop (calls_before p cs) cs) e g → (g ≡ p → ⊥) → p < g
limit_above p e g xs w cs s low l other =
    let h = s.calls in
    let m = l.most p (omega (arith, low)) (subst (BeginBehind p) (sym h.is)
    (behind_all p h.parent (calls_before p cs) xs h.after (subst (λ j. BeginBehind j h.after) (sym s.width) h.behind))) in
    omega (arith, m, other)

-- bytes of the lexeme at a place
one_chunk : (m : Mode) (t : List ℕ) (r : ReadText) (p e g i : ℕ) (x : Lexeme) (xs : List Member) → IsRead m t r
    → i ≡ prefix_len (λ x. nat_le x.at.end p) r.lexemes.now
    → IsStretchOf m t p e xs → IsLimit (drop (calls_before p (calls 0 (words m t))) (calls 0 (words m t))) e g → p < g
    → slice_get r.lexemes.now i ≡ Some x
    → (p < x.at.end) × IsTaken (words_marks (words m t)) (calls 0 (words m t)) t x.kind p (min x.at.end g) e xs
one_chunk m t r p e g i x xs h j s limit low_limit there =
    let w = words_marks (words m t) in
    let cs = calls 0 (words m t) in
    let within = limit.within in
    let inside = stretch_within w cs p e xs s (omega (arith, low_limit, within)) in
    let len = text_len m t in
    let f = lexeme_at m t r p i h j (omega (arith, low_limit, within, inside, len)) in
    let y : f.lexeme ≡ x = let z : Some f.lexeme ≡ Some x = sym f.there ∙ there in cc in
    let begun : x.at.start ≤ p = subst (λ v. v.at.start ≤ p) y f.begun in
    let ends : p < x.at.end = subst (λ v. p < v.at.end) y f.ends in
    let marks : drop p w ≡ drop (p - x.at.start) (word_marks x.kind (x.at.end - x.at.start)) ++ f.after =
    ap (λ q. drop q w) (omega arith) ∙ f.marks ∙ ap (λ v. drop (p - v.at.start) (word_marks v.kind (v.at.end - v.at.start)) ++ f.after) y in
    let z : x.at.start + (x.at.end - x.at.start) ≡ x.at.end = omega (arith, begun, ends) in
    let there : IsLexemeThere w p x.at.start
    (x.at.end - x.at.start) x.kind = record { begun = begun; ends = omega (arith, z, ends); after = f.after; is = marks } in
    let taken = chunk_there w cs t p e g x.at.start (x.at.end - x.at.start) x.kind xs s limit low_limit there in
    (ends, subst (λ q. IsTaken w cs t x.kind p (min q g) e xs) z taken)

-- Characters that follow the lexemes which are taken are taken with them.
more_chunks : (m : Mode) (t : List ℕ) (r : ReadText) (p e g : ℕ) (xs : List Member) (kind : LexKind) (i to end : ℕ) (others : List Lexeme) → IsRead m t r
    → IsLimit (drop (calls_before p (calls 0 (words m t))) (calls 0 (words m t))) e g → p < g
    → i ≡ prefix_len (λ x. nat_le x.at.end to) r.lexemes.now → others ≡ drop i r.lexemes.now
    → p < to → IsTaken (words_marks (words m t)) (calls 0 (words m t)) t kind p (min to g) e xs → MayFollow kind g to others end
    → (p < end) × IsTaken (words_marks (words m t)) (calls 0 (words m t)) t kind p (min end g) e xs
more_chunks m t r p e g xs kind i to end others h limit low j o first taken (no_more _ _) = (first, taken)
more_chunks m t r p e g xs kind i to end others h limit low j o first taken (and_one _ _ x rest here there on follow) =
    let w = words_marks (words m t) in
    let cs = calls 0 (words m t) in
    let z : min to g ≡ to = omega (arith, on) in
    let f = subst (λ q. IsTaken w cs t kind p q e xs) z taken in
    let n = numbered r.lexemes.now 0 (length t) i x rest h.follow (some_words m t r.lexemes.now h.words_are) o in
    let later = limit_on cs p to e g limit (omega (arith, first)) (omega (arith, on)) in
    let c = one_chunk m t r to e g i x f.left h j f.stretch later on n.there in
    let ends = c.0 in
    let all = taken_more w cs t kind x.kind p to (min x.at.end g) e xs here there (omega (arith, first)) (omega (arith, ends, on)) f c.1 in
    more_chunks m t r p e g xs kind (i + 1) x.at.end end rest h limit low n.count n.rest_is (omega (arith, first, ends)) all follow

pub next_chunk : (m : Mode) (t : List ℕ) (r : ReadText) (p e g n i end : ℕ) (x : Lexeme) (xs : List Member) → IsRead m t r
    → i ≡ prefix_len (λ x. nat_le x.at.end p) r.lexemes.now
    → n ≡ prefix_len (λ x. nat_lt x.at.start p) r.calls.now → IsStretchOf m t p e xs → p < e → IsLimit (drop n (map braces_of r.calls.now)) e g → (g ≡ p → ⊥)
    → slice_get r.lexemes.now i ≡ Some x → MayFollow x.kind g x.at.end (drop (i + 1) r.lexemes.now) end → AnswersNext m t p e xs (next.Chunk x.kind (min end g))
next_chunk m t r p e g n i end x xs h j k s low l other there follow =
    let w = words_marks (words m t) in
    let cs = calls 0 (words m t) in
    let limit = limit_of m t r p e g n h k l in
    let low_limit : p < g = limit_above p e g xs w cs s low limit other in
    let one = one_chunk m t r p e g i x xs h j s limit low_limit there in
    let row = row_at r.lexemes.now i x there in
    let number = numbered r.lexemes.now 0 (length t) i x (drop (i + 1) r.lexemes.now) h.follow (some_words m t r.lexemes.now h.words_are) row in
    let all = more_chunks m t r p e g xs x.kind (i + 1) x.at.end end (drop (i + 1) r.lexemes.now) h limit low_limit number.count refl one.0 one.1 follow in
    let ends = all.0 in
    let within = limit.within in
    (omega (arith, ends, low_limit), omega (arith, within), all.1)
  where
    row_at : (ys : List Lexeme) (a : ℕ) (v : Lexeme) → slice_get ys a ≡ Some v → v ∷ drop (a + 1) ys ≡ drop a ys
    row_at ys a v is =
        sym (drop_more ys a v (slice_get_within ys a v is) ∙ ap (λ z. z ∷ drop (a + 1) ys) (get_or_from_slice_get ys a v v is))

pub next_lost : (m : Mode) (t : List ℕ) (r : ReadText) (p e i : ℕ) (xs : List Member) → IsRead m t r → i ≡ prefix_len (λ x. nat_le x.at.end p) r.lexemes.now
    → IsStretchOf m t p e xs → p < e
    → slice_get r.lexemes.now i ≡ None → ⊥
next_lost m t r p e i xs h j s low none =
    let inside = stretch_within (words_marks (words m t)) (calls 0 (words m t)) p e xs s low in
    let len = text_len m t in
    let f = lexeme_at m t r p i h j (omega (arith, low, inside, len)) in
    let z : None ≡ Some f.lexeme = sym none ∙ f.there in
    cc
