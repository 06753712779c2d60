-- A page without calls has the items of its lexemes.
use Rattle.std.proofs.Common.{◌≡◌, ◌⊎◌, ℕ, zero, suc, ◌+◌, ◌-◌, ◌≤◌, Bool, true, false, List, [], ◌∷◌, ◌++◌, reverse, take, drop, refl, sym, ap, ◌∙◌, inl, inr, arith, append_assoc, append-nil}
use Rattle.std.specs.Prelude.{◌==◌, if◌then◌else◌, slice_index}
use Rattle.std.proofs.lemmas.List.{reverse-append}
use Rattle.wt_span.specs.declared.form.Mode.TheVariants as mode
use Rattle.wt_span.specs.declared.form.LexKind.TheVariants.{Chars, CommentLine, Comment, Raw, Include, Hidden, Entity, Opens, Closes, LinkOpen, LinkClose, Pipe, Equals}
use Rattle.wt_span.specs.declared.form.LexKind.{LexKind}
use Rattle.wt_span.specs.Bytes.{is_break}
use Rattle.wt_span.specs.Lexemes.{Word, words}
use Rattle.wt_span.specs.Items.{Item}
use Rattle.wt_span.specs.Origins.{Expanded}
use Rattle.wt_span.specs.Braces.{Member, lexeme, members, call_count, call_count_of_all, rewritten, again, taken, left_over, closed_by, with_word, reduced_onto, reduced}
use Rattle.wt_braces.specs.Rewriting.{as_members, HaveBraces}
use Rattle.wt_braces.proofs.Shapes.{NoRun, Behind, nearest}
use Rattle.wt_braces.proofs.Takings.{rewritten_at, stuck_free, stuck_few}
use Rattle.wt_braces.proofs.Reached.{left_some, lexemes_have_braces}
use Rattle.wt_expand.specs.PageItems.{items_of_word, items_of_words, page_items}
use Rattle.wt_expand.specs.Work.{Pages}
use Rattle.wt_expand.specs.Expansion.{text_members, page_reading}
use Rattle.wt_expand.specs.PageCalls.{Stretch, all_stretches, numbered, outer_calls, text_spans, page_stretches, expanded_page}

-- ---- how many calls are made

abbrev calls_in : List Member → ℕ
calls_in [] = 0
calls_in (x ∷ xs) = call_count x + calls_in xs

calls_append : (xs ys : List Member) → calls_in (xs ++ ys) ≡ calls_in xs + calls_in ys
calls_append [] ys = omega arith
calls_append (x ∷ xs) ys = omega (arith, calls_append xs ys)

calls_reverse : (xs : List Member) → calls_in (reverse xs) ≡ calls_in xs
calls_reverse [] = refl
calls_reverse (x ∷ xs) = ap calls_in (reverse-append (x ∷ []) xs) ∙ calls_append (reverse xs) (x ∷ []) ∙ omega (arith, calls_reverse xs)

calls_members : (xs : List Member) → call_count_of_all (members xs) ≡ calls_in xs
calls_members [] = refl
calls_members (x ∷ xs) = ap (λ n. call_count x + n) (calls_members xs)

calls_over : (kind : LexKind) (n : ℕ) (xs : List Member) → calls_in (left_over kind n ++ xs) ≡ calls_in xs
calls_over kind n xs = by (n == 0)
  where
    by : (t : Bool) → calls_in ((if t then [] else lexeme (kind, n) ∷ []) ++ xs) ≡ calls_in xs
    by true = refl
    by false = omega arith

-- a rewriting changes nothing, or makes one call
one_more : (c : ℕ) (before : List Member) → (rewritten (c, before) ≡ (c, before)) ⊎ (calls_in (rewritten (c, before)).1 ≡ 1 + calls_in before)
one_more zero before = inl (stuck_few 0 before (omega arith))
one_more (suc zero) before = inl (stuck_few 1 before (omega arith))
one_more (suc (suc c)) before = by (nearest before)
  where
    by : NoRun before ⊎ Behind before → (rewritten (suc (suc c), before) ≡ (suc (suc c), before))
        ⊎ (calls_in (rewritten (suc (suc c), before)).1 ≡ 1 + calls_in before)
    by (inl free) = inl (stuck_free (suc (suc c)) before free)
    by (inr b) =
        let n = b.braces in
        let k = taken n (suc (suc c)) in
        let is = ap (λ bs. rewritten (suc (suc c), bs)) b.is ∙ rewritten_at (suc (suc c)) n b.inside b.rest b.free b.two (omega arith) in
        let inner : call_count_of_all (members (reverse b.inside)) ≡ calls_in b.inside = calls_members (reverse b.inside) ∙ calls_reverse b.inside in
        let all : calls_in before ≡ calls_in b.inside + (0 + calls_in b.rest) = ap calls_in b.is ∙ calls_append b.inside (lexeme (Opens, n) ∷ b.rest) in
        inr (ap (λ x. calls_in x.1) is ∙ omega (arith, inner, all, calls_over Opens (n - k) b.rest))

never_fewer : (f c : ℕ) (before : List Member) → calls_in before ≤ calls_in (again f rewritten (c, before)).1
never_fewer zero c before = omega arith
never_fewer (suc f) c before = by (one_more c before) (never_fewer f (rewritten (c, before)).0 (rewritten (c, before)).1)
  where
    by : (rewritten (c, before) ≡ (c, before)) ⊎ (calls_in (rewritten (c, before)).1 ≡ 1 + calls_in before)
        → calls_in (rewritten (c, before)).1 ≤ calls_in (again f rewritten (rewritten (c, before))).1
        → calls_in before ≤ calls_in (again f rewritten (rewritten (c, before))).1
    by (inl e) h = omega (arith, h, ap (λ x. calls_in x.1) e)
    by (inr e) h = omega (arith, h, e)

-- where no call is made nothing is taken
none_taken : (f c : ℕ) (before : List Member) → calls_in (again f rewritten (c, before)).1 ≡ 0 → again f rewritten (c, before) ≡ (c, before)
none_taken zero c before h = refl
none_taken (suc f) c before h = by (one_more c before) (never_fewer f (rewritten (c, before)).0 (rewritten (c, before)).1) (λ g. none_taken f c before g)
  where
    by : (rewritten (c, before) ≡ (c, before)) ⊎ (calls_in (rewritten (c, before)).1 ≡ 1 + calls_in before)
        → calls_in (rewritten (c, before)).1 ≤ calls_in (again f rewritten (rewritten (c, before))).1
        → (calls_in (again f rewritten (c, before)).1 ≡ 0 → again f rewritten (c, before) ≡ (c, before))
        → again f rewritten (rewritten (c, before)) ≡ (c, before)
    by (inl e) le rest = ap (again f rewritten) e ∙ rest (sym (ap (λ x. calls_in (again f rewritten x).1) e) ∙ h)
    by (inr e) le rest = absurd (omega (arith, h, e, le))

word_fewer : (w : Word) (before : List Member) → calls_in before ≤ calls_in (with_word w before)
word_fewer (Chars, n) before = omega arith
word_fewer (CommentLine, n) before = omega arith
word_fewer (Comment, n) before = omega arith
word_fewer (Raw, n) before = omega arith
word_fewer (Include, n) before = omega arith
word_fewer (Hidden, n) before = omega arith
word_fewer (Entity c, n) before = omega arith
word_fewer (Opens, n) before = omega arith
word_fewer (Closes, n) before = let x = again n rewritten (n, before) in omega (arith, never_fewer n n before, calls_over Closes x.0 x.1)
word_fewer (LinkOpen, n) before = omega arith
word_fewer (LinkClose, n) before = omega arith
word_fewer (Pipe, n) before = omega arith
word_fewer (Equals, n) before = omega arith

onto_fewer : (before : List Member) (ws : List Word) → calls_in before ≤ calls_in (reduced_onto before ws)
onto_fewer before [] = omega arith
onto_fewer before (w ∷ ws) = omega (arith, word_fewer w before, onto_fewer (with_word w before) ws)

abbrev Stays : List Member → List Word → Type 0
Stays before ws = reduced_onto before ws ≡ reverse (as_members ws) ++ before

stays_word : (w : Word) (before : List Member) (ws : List Word) → with_word w before ≡ lexeme w ∷ before → Stays (lexeme w ∷ before) ws → Stays before (w ∷ ws)
stays_word w before ws e h =
    ap (λ xs. reduced_onto xs ws) e ∙ h ∙ sym (append_assoc (reverse (as_members ws)) (lexeme w ∷ []) before)
    ∙ ap (λ xs. xs ++ before) (sym (reverse-append (lexeme w ∷ []) (as_members ws)))

closing_stays : (n : ℕ) (before : List Member) → 1 ≤ n → calls_in (closed_by n before) ≡ 0 → closed_by n before ≡ lexeme (Closes, n) ∷ before
closing_stays n before some h =
    let x = again n rewritten (n, before) in
    let e = none_taken n n before (omega (arith, h, calls_over Closes x.0 x.1)) in
    ap (λ (y : ℕ × List Member). left_over Closes y.0 ++ y.1) e ∙ ap (λ xs. xs ++ before) (left_some Closes n some)

all_stay : (ws : List Word) (before : List Member) → HaveBraces ws → calls_in (reduced_onto before ws) ≡ 0 → Stays before ws
all_stay [] before h e = refl
all_stay ((Chars, n) ∷ ws) before h e = stays_word (Chars, n) before ws refl (all_stay ws (lexeme (Chars, n) ∷ before) h e)
all_stay ((CommentLine, n) ∷ ws) before h e = stays_word (CommentLine, n) before ws refl (all_stay ws (lexeme (CommentLine, n) ∷ before) h e)
all_stay ((Comment, n) ∷ ws) before h e = stays_word (Comment, n) before ws refl (all_stay ws (lexeme (Comment, n) ∷ before) h e)
all_stay ((Raw, n) ∷ ws) before h e = stays_word (Raw, n) before ws refl (all_stay ws (lexeme (Raw, n) ∷ before) h e)
all_stay ((Include, n) ∷ ws) before h e = stays_word (Include, n) before ws refl (all_stay ws (lexeme (Include, n) ∷ before) h e)
all_stay ((Hidden, n) ∷ ws) before h e = stays_word (Hidden, n) before ws refl (all_stay ws (lexeme (Hidden, n) ∷ before) h e)
all_stay ((Entity c, n) ∷ ws) before h e = stays_word (Entity c, n) before ws refl (all_stay ws (lexeme (Entity c, n) ∷ before) h e)
all_stay ((Opens, n) ∷ ws) before h e = stays_word (Opens, n) before ws refl (all_stay ws (lexeme (Opens, n) ∷ before) h e)
all_stay ((Closes, n) ∷ ws) before h e =
    let is = closing_stays n before h.0 (omega (arith, e, onto_fewer (closed_by n before) ws)) in
    stays_word (Closes, n) before ws is (all_stay ws (lexeme (Closes, n) ∷ before) h.1 (sym (ap (λ xs. calls_in (reduced_onto xs ws)) is) ∙ e))
all_stay ((LinkOpen, n) ∷ ws) before h e = stays_word (LinkOpen, n) before ws refl (all_stay ws (lexeme (LinkOpen, n) ∷ before) h e)
all_stay ((LinkClose, n) ∷ ws) before h e = stays_word (LinkClose, n) before ws refl (all_stay ws (lexeme (LinkClose, n) ∷ before) h e)
all_stay ((Pipe, n) ∷ ws) before h e = stays_word (Pipe, n) before ws refl (all_stay ws (lexeme (Pipe, n) ∷ before) h e)
all_stay ((Equals, n) ∷ ws) before h e = stays_word (Equals, n) before ws refl (all_stay ws (lexeme (Equals, n) ∷ before) h e)

reverse_twice : (xs : List Member) → reverse (reverse xs) ≡ xs
reverse_twice [] = refl
reverse_twice (x ∷ xs) = ap reverse (reverse-append (x ∷ []) xs) ∙ reverse-append (reverse xs) (x ∷ []) ∙ ap (λ ys. x ∷ ys) (reverse_twice xs)

-- without calls the reduced text is its lexemes
reduced_stays : (ws : List Word) → HaveBraces ws → call_count_of_all (members (reduced ws)) ≡ 0 → reduced ws ≡ as_members ws
unfolding reduced
reduced_stays ws h e =
    let z : calls_in (reduced_onto [] ws) ≡ 0 = sym (calls_reverse (reduced_onto [] ws)) ∙ sym (calls_members (reverse (reduced_onto [] ws))) ∙ e in
    ap reverse (all_stay ws [] h z ∙ append-nil (reverse (as_members ws))) ∙ reverse_twice (as_members ws)

-- ---- the items

lexemes_items : (pages : Pages) (at k : ℕ) (start : Bool) (bs : List ℕ) (ws : List Word)
    → numbered k (all_stretches (page_reading pages) at start bs (members (as_members ws))) ≡ items_of_words ws bs
lexemes_items pages at k start bs [] = refl
lexemes_items pages at k start bs ((kind, n) ∷ ws) = ap (λ xs. items_of_word kind (take n bs) ++ xs)
    (lexemes_items pages (at + n) k (is_break (slice_index bs (n - 1))) (drop n bs) ws)

lexemes_outer : (pages : Pages) (at : ℕ) (start : Bool) (bs : List ℕ) (ws : List Word)
    → outer_calls (all_stretches (page_reading pages) at start bs (members (as_members ws))) ≡ []
lexemes_outer pages at start bs [] = refl
lexemes_outer pages at start bs ((kind, n) ∷ ws) = lexemes_outer pages (at + n) (is_break (slice_index bs (n - 1))) (drop n bs) ws

lexemes_text : (pages : Pages) (at : ℕ) (start : Bool) (bs : List ℕ) (ws : List Word)
    → text_spans (all_stretches (page_reading pages) at start bs (members (as_members ws))) ≡ []
lexemes_text pages at start bs [] = refl
lexemes_text pages at start bs ((kind, n) ∷ ws) = lexemes_text pages (at + n) (is_break (slice_index bs (n - 1))) (drop n bs) ws

-- what an expanded page is, by its stretches
abbrev of_stretches : List Stretch → Expanded
of_stretches ss = record { items = numbered 0 ss; outer = outer_calls ss; text_calls = text_spans ss }

expanded_is : (pages : Pages) (bs : List ℕ) → expanded_page pages bs ≡ of_stretches (all_stretches (page_reading pages) 0 true bs (text_members mode.Page bs))
unfolding expanded_page page_stretches
expanded_is pages bs = refl

text_members_are : (bs : List ℕ) → text_members mode.Page bs ≡ members (reduced (words mode.Page bs))
unfolding text_members
text_members_are bs = refl

page_items_are : (bs : List ℕ) → page_items bs ≡ items_of_words (words mode.Page bs) bs
unfolding page_items
page_items_are bs = refl

pub without_calls : (pages : Pages) (bs : List ℕ) → call_count_of_all (text_members mode.Page bs) ≡ 0
    → expanded_page pages bs ≡ record { items = page_items bs; outer = []; text_calls = [] }
without_calls pages bs h =
    let ws = words mode.Page bs in
    let e = text_members_are bs in
    let stay : text_members mode.Page bs ≡ members (as_members ws) = e
    ∙ ap members (reduced_stays ws (lexemes_have_braces mode.Page bs) (sym (ap call_count_of_all e) ∙ h)) in
    let ss = all_stretches (page_reading pages) 0 true bs (members (as_members ws)) in
    let R : List Item → Expanded = λ xs. record { items = xs; outer = outer_calls ss; text_calls = text_spans ss } in
    expanded_is pages bs ∙ ap (λ ms. of_stretches (all_stretches (page_reading pages) 0 true bs ms)) stay
    ∙ ap R (lexemes_items pages 0 0 true bs ws ∙ sym (page_items_are bs))
    ∙ ap (λ cs. record { items = page_items bs; outer = cs; text_calls = text_spans ss }) (lexemes_outer pages 0 true bs ws)
    ∙ ap (λ ts. record { items = page_items bs; outer = []; text_calls = ts }) (lexemes_text pages 0 true bs ws)
