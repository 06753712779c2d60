-- What a text that calls nothing leaves of its braces is some of those that its items have.
use Rattle.std.proofs.Common.{arith, ◌≡◌, ℕ, zero, suc, ◌==◌, Bool, true, false, Option, Some, None, List, [], ◌∷◌, ◌++◌, map, take, reverse, nat_le, refl, sym, ap, ◌∙◌, subst, append-nil, append_assoc, inl, inr}
use Rattle.std.specs.Prelude.{if◌then◌else◌, codes}
use Rattle.std.proofs.lemmas.List.{reverse-append}
use Rattle.wt_span.specs.declared.form.Mode.TheVariants.{Page}
use Rattle.wt_span.specs.declared.form.LexKind.{LexKind}
use Rattle.wt_span.specs.declared.form.LexKind.TheVariants.{Chars, CommentLine, Comment, Raw, Include, Hidden, Entity, Opens, Closes, LinkOpen, LinkClose, Pipe, Equals}
use Rattle.wt_span.specs.Bytes.{is_break, begins}
use Rattle.wt_span.specs.Items.{sign}
use Rattle.wt_span.specs.Lexemes.{Word, Cut, cuts, closed, words, form_at}
use Rattle.wt_span.specs.Braces.{Member, lexeme, left_over, reduced_onto, reduced}
use Rattle.wt_lex.proofs.AllForms.{form_fits}
use Rattle.wt_expand.specs.PageItems.{page_items}
use Rattle.wt_text_edit_laws.specs.NoCalls.{Brace, opening, closing, braces, CallsNothing, IsSome, braces_of}
use Rattle.wt_text_edit_laws.proofs.Texts.TypedText.{HaveNoClosers}
use Rattle.wt_text_edit_laws.proofs.Between.Fronts.{first_items, items_from, first_from, byte_from, words_by, words_from}
use Rattle.wt_text_edit_laws.proofs.Between.BraceWords.{AreBraces, two_braces, signs_of, run_here, signs_split, CallNothing}
use Rattle.wt_text_edit_laws.proofs.Between.LessBraces.{some_more, some_both, some_some}
use Rattle.wt_text_edit_laws.proofs.Between.NoCalls.{AreUnopened, closes_nothing, left_unopened, calm_words}
use Rattle.wt_called_edit_laws.specs.Parts.{left_in, left_of}
use Rattle.wt_called_edit_laws.proofs.Parts.LeftBraces.{left_append}

-- ---- some of them

some_front : (xs ys zs : List Brace) → IsSome xs ys → IsSome xs (ys ++ zs)
some_front xs ys zs h = subst (λ us. IsSome us (ys ++ zs)) (append-nil xs) (some_both xs ys [] zs h tt)

-- ---- runs of braces among lexemes

abbrev runs : List Word → List Brace
runs [] = []
runs ((Opens, n) ∷ ws) = opening ∷ runs ws
runs ((Closes, n) ∷ ws) = closing ∷ runs ws
runs ((kind, n) ∷ ws) = runs ws

some_if : (t u : Bool) (xs bs : List Brace) → IsSome xs bs → IsSome xs (if t then opening ∷ bs else (if u then closing ∷ bs else bs))
some_if true u xs bs h = some_more xs opening bs h
some_if false true xs bs h = some_more xs closing bs h
some_if false false xs bs h = h

some_signs : (xs : List Brace) (ss rs : List ℕ) → IsSome xs (braces rs) → IsSome xs (braces (ss ++ rs))
some_signs xs [] rs h = h
some_signs xs (s ∷ ss) rs h =
    some_if (begins (codes "{{") (s ∷ (ss ++ rs))) (begins (codes "}}") (s ∷ (ss ++ rs))) xs (braces (ss ++ rs)) (some_signs xs ss rs h)

opens_some : (xs : List Brace) (bs rs : List ℕ) → begins (codes "{{") bs ≡ true → IsSome xs (braces rs) → IsSome (opening ∷ xs) (braces (signs_of Opens bs ++ rs))
opens_some xs bs rs e h =
    let t = two_braces 123 bs e in
    let P : List ℕ → Type 0 = λ cs. IsSome (opening ∷ xs) (braces (signs_of Opens cs ++ rs)) in
    subst P (sym t.1) (inl (refl, some_signs xs (123 ∷ signs_of Opens t.0) rs h))

closes_some : (xs : List Brace) (bs rs : List ℕ) → begins (codes "}}") bs ≡ true → IsSome xs (braces rs) → IsSome (closing ∷ xs) (braces (signs_of Closes bs ++ rs))
closes_some xs bs rs e h =
    let t = two_braces 125 bs e in
    let P : List ℕ → Type 0 = λ cs. IsSome (closing ∷ xs) (braces (signs_of Closes cs ++ rs)) in
    subst P (sym t.1) (inl (refl, some_signs xs (125 ∷ signs_of Closes t.0) rs h))

run_some : (kind : LexKind) (n : ℕ) (ws : List Word) (bs rs : List ℕ) → AreBraces kind bs → IsSome (runs ws) (braces rs)
    → IsSome (runs ((kind, n) ∷ ws)) (braces (signs_of kind bs ++ rs))
run_some Opens n ws bs rs a h = opens_some (runs ws) bs rs a h
run_some Closes n ws bs rs a h = closes_some (runs ws) bs rs a h
run_some kind n ws bs rs a h = some_signs (runs ws) (signs_of kind bs) rs h

runs_if : (t : Bool) (n : ℕ) (ws : List Word) → runs (if t then ws else (Chars, n) ∷ ws) ≡ runs ws
runs_if true n ws = refl
runs_if false n ws = refl

runs_closed : (c : Cut) → runs (closed c.0 c.1) ≡ runs c.1
unfolding closed
runs_closed (n, ws) = runs_if (n == 0) n ws

runs_word : (a : Bool) (b : ℕ) (bs : List ℕ) (o : Option Word) → form_at Page a (b ∷ bs) ≡ o
    → ((n : ℕ) → IsSome (runs (cuts Page (is_break b) n bs).1) (braces (map sign (items_from (is_break b) n bs))))
    → IsSome (runs (cuts Page a 0 (b ∷ bs)).1) (braces (map sign (items_from a 0 (b ∷ bs))))
runs_word a b bs None e go =
    let rest : List ℕ = map sign (items_from (is_break b) 0 bs) in
    subst (λ (ws : List Word). IsSome (runs ws) (braces (map sign (items_from a 0 (b ∷ bs))))) (sym (words_by a b bs e))
    (subst (λ (ss : List ℕ). IsSome (runs (cuts Page (is_break b) 0 bs).1) (braces ss)) (sym (ap (map sign) (byte_from a b bs e)))
    (some_signs (runs (cuts Page (is_break b) 0 bs).1) (b ∷ []) rest (go 0)))
runs_word a b bs (Some (kind, zero)) e go = let fits = form_fits Page a (b ∷ bs) (kind, zero) e in absurd (omega (arith, fits.some))
runs_word a b bs (Some (kind, suc j)) e go =
    let own : List ℕ = b ∷ take j bs in
    let rest : List ℕ = map sign (items_from (is_break b) j bs) in
    let c : Cut = cuts Page (is_break b) j bs in
    let more : IsSome (runs (closed c.0 c.1)) (braces rest) = subst (λ (xs : List Brace). IsSome xs (braces rest)) (sym (runs_closed c)) (go j) in
    subst (λ (ws : List Word). IsSome (runs ws) (braces (map sign (items_from a 0 (b ∷ bs))))) (sym (words_from a b bs kind j e))
    (subst (λ (ss : List ℕ). IsSome (runs ((kind, suc j) ∷ closed c.0 c.1)) (braces ss)) (sym (signs_split a b bs kind j e))
    (run_some kind (suc j) (closed c.0 c.1) own rest (run_here a b bs kind j e) more))

runs_cut : (a : Bool) (n : ℕ) (bs : List ℕ) → IsSome (runs (cuts Page a n bs).1) (braces (map sign (items_from a n bs)))
runs_cut a n [] = tt
runs_cut a (suc n) (b ∷ bs) = runs_cut (is_break b) n bs
runs_cut a zero (b ∷ bs) = runs_word a b bs (form_at Page a (b ∷ bs)) refl (λ n. runs_cut (is_break b) n bs)

runs_of : (bs : List ℕ) → IsSome (runs (words Page bs)) (braces_of (page_items bs))
unfolding words
runs_of bs =
    let c : Cut = cuts Page false 0 bs in
    subst (λ xs. IsSome xs (braces_of (page_items bs))) (sym (runs_closed c))
    (subst (λ is. IsSome (runs c.1) (braces_of is)) (first_from false bs ∙ sym (first_items bs)) (runs_cut false 0 bs))

-- ---- what is left of them

pub pushed : (m : Member) (before : List Member) → left_in (reverse (m ∷ before)) ≡ left_in (reverse before) ++ left_in (m ∷ [])
pushed m before = ap left_in (reverse-append (m ∷ []) before) ∙ left_append (reverse before) (m ∷ [])

push : (m : Member) (before : List Member) (bs cs : List Brace) → IsSome (left_in (m ∷ [])) cs → IsSome (left_in (reverse before)) bs
    → IsSome (left_in (reverse (m ∷ before))) (bs ++ cs)
push m before bs cs own h =
    subst (λ xs. IsSome xs (bs ++ cs)) (sym (pushed m before)) (some_both (left_in (reverse before)) bs (left_in (m ∷ [])) cs h own)

quiet : (m : Member) (before : List Member) (bs : List Brace) → left_in (m ∷ []) ≡ [] → IsSome (left_in (reverse before)) bs → IsSome (left_in (reverse (m ∷ before))) bs
quiet m before bs e h =
    subst (λ ys. IsSome (left_in (reverse (m ∷ before))) ys) (append-nil bs) (push m before bs [] (subst (λ xs. IsSome xs []) (sym e) tt) h)

one_opens : (n : ℕ) → IsSome (left_in (lexeme (Opens, n) ∷ [])) (opening ∷ [])
one_opens n = by (nat_le 2 n)
  where
    by : (t : Bool) → IsSome (if t then opening ∷ [] else []) (opening ∷ [])
    by true = inl (refl, tt)
    by false = tt

one_closes : (n : ℕ) → IsSome (left_in (lexeme (Closes, n) ∷ [])) (closing ∷ [])
one_closes n = by (nat_le 2 n)
  where
    by : (t : Bool) → IsSome (if t then closing ∷ [] else []) (closing ∷ [])
    by true = inl (refl, tt)
    by false = tt

next : (x : Brace) (xs bs ys : List Brace) → IsSome xs ((bs ++ x ∷ []) ++ ys) → IsSome xs (bs ++ x ∷ ys)
next x xs bs ys h = subst (λ zs. IsSome xs zs) (append_assoc bs (x ∷ []) ys) h

-- behind one that opens none closes
onto_open : (ws : List Word) (before : List Member) (bs : List Brace) → HaveNoClosers ws → IsSome (left_in (reverse before)) bs
    → IsSome (left_in (reverse (reduced_onto before ws))) (bs ++ runs ws)
onto_open [] before bs h s = some_front (left_in (reverse before)) bs [] s
onto_open ((Opens, n) ∷ ws) before bs h s =
    next opening (left_in (reverse (reduced_onto (lexeme (Opens, n) ∷ before) ws))) bs (runs ws)
    (onto_open ws (lexeme (Opens, n) ∷ before) (bs ++ opening ∷ []) h.1 (push (lexeme (Opens, n)) before bs (opening ∷ []) (one_opens n) s))
onto_open ((Closes, n) ∷ ws) before bs h s = absurd h.0
onto_open ((Chars, n) ∷ ws) before bs h s = onto_open ws (lexeme (Chars, n) ∷ before) bs h.1 (quiet (lexeme (Chars, n)) before bs refl s)
onto_open ((CommentLine, n) ∷ ws) before bs h s = onto_open ws (lexeme (CommentLine, n) ∷ before) bs h.1 (quiet (lexeme (CommentLine, n)) before bs refl s)
onto_open ((Comment, n) ∷ ws) before bs h s = onto_open ws (lexeme (Comment, n) ∷ before) bs h.1 (quiet (lexeme (Comment, n)) before bs refl s)
onto_open ((Raw, n) ∷ ws) before bs h s = onto_open ws (lexeme (Raw, n) ∷ before) bs h.1 (quiet (lexeme (Raw, n)) before bs refl s)
onto_open ((Include, n) ∷ ws) before bs h s = onto_open ws (lexeme (Include, n) ∷ before) bs h.1 (quiet (lexeme (Include, n)) before bs refl s)
onto_open ((Hidden, n) ∷ ws) before bs h s = onto_open ws (lexeme (Hidden, n) ∷ before) bs h.1 (quiet (lexeme (Hidden, n)) before bs refl s)
onto_open ((Entity c, n) ∷ ws) before bs h s = onto_open ws (lexeme (Entity c, n) ∷ before) bs h.1 (quiet (lexeme (Entity c, n)) before bs refl s)
onto_open ((LinkOpen, n) ∷ ws) before bs h s = onto_open ws (lexeme (LinkOpen, n) ∷ before) bs h.1 (quiet (lexeme (LinkOpen, n)) before bs refl s)
onto_open ((LinkClose, n) ∷ ws) before bs h s = onto_open ws (lexeme (LinkClose, n) ∷ before) bs h.1 (quiet (lexeme (LinkClose, n)) before bs refl s)
onto_open ((Pipe, n) ∷ ws) before bs h s = onto_open ws (lexeme (Pipe, n) ∷ before) bs h.1 (quiet (lexeme (Pipe, n)) before bs refl s)
onto_open ((Equals, n) ∷ ws) before bs h s = onto_open ws (lexeme (Equals, n) ∷ before) bs h.1 (quiet (lexeme (Equals, n)) before bs refl s)

left_some : (n : ℕ) (before : List Member) (bs : List Brace) → IsSome (left_in (reverse before)) bs → IsSome (left_in (reverse (left_over Closes n ++ before))) (bs ++ closing ∷ [])
left_some n before bs s = by (n == 0)
  where
    by : (t : Bool) → IsSome (left_in (reverse ((if t then [] else lexeme (Closes, n) ∷ []) ++ before))) (bs ++ closing ∷ [])
    by true = some_front (left_in (reverse before)) bs (closing ∷ []) s
    by false = push (lexeme (Closes, n)) before bs (closing ∷ []) (one_closes n) s

onto_some : (ws : List Word) (before : List Member) (bs : List Brace) → CallNothing ws → AreUnopened before → IsSome (left_in (reverse before)) bs
    → IsSome (left_in (reverse (reduced_onto before ws))) (bs ++ runs ws)
onto_some [] before bs h l s = some_front (left_in (reverse before)) bs [] s
onto_some ((Opens, n) ∷ ws) before bs h l s =
    next opening (left_in (reverse (reduced_onto (lexeme (Opens, n) ∷ before) ws))) bs (runs ws)
    (onto_open ws (lexeme (Opens, n) ∷ before) (bs ++ opening ∷ []) h (push (lexeme (Opens, n)) before bs (opening ∷ []) (one_opens n) s))
onto_some ((Closes, n) ∷ ws) before bs h l s =
    subst (λ (ms : List Member). IsSome (left_in (reverse (reduced_onto ms ws))) (bs ++ closing ∷ runs ws)) (sym (closes_nothing n before l))
    (next closing (left_in (reverse (reduced_onto (left_over Closes n ++ before) ws))) bs (runs ws)
    (onto_some ws (left_over Closes n ++ before) (bs ++ closing ∷ []) h (left_unopened (n == 0) n before l) (left_some n before bs s)))
onto_some ((Chars, n) ∷ ws) before bs h l s = onto_some ws (lexeme (Chars, n) ∷ before) bs h (refl, l) (quiet (lexeme (Chars, n)) before bs refl s)
onto_some ((CommentLine, n) ∷ ws) before bs h l s = onto_some ws (lexeme (CommentLine, n) ∷ before) bs h (refl, l) (quiet (lexeme (CommentLine, n)) before bs refl s)
onto_some ((Comment, n) ∷ ws) before bs h l s = onto_some ws (lexeme (Comment, n) ∷ before) bs h (refl, l) (quiet (lexeme (Comment, n)) before bs refl s)
onto_some ((Raw, n) ∷ ws) before bs h l s = onto_some ws (lexeme (Raw, n) ∷ before) bs h (refl, l) (quiet (lexeme (Raw, n)) before bs refl s)
onto_some ((Include, n) ∷ ws) before bs h l s = onto_some ws (lexeme (Include, n) ∷ before) bs h (refl, l) (quiet (lexeme (Include, n)) before bs refl s)
onto_some ((Hidden, n) ∷ ws) before bs h l s = onto_some ws (lexeme (Hidden, n) ∷ before) bs h (refl, l) (quiet (lexeme (Hidden, n)) before bs refl s)
onto_some ((Entity c, n) ∷ ws) before bs h l s = onto_some ws (lexeme (Entity c, n) ∷ before) bs h (refl, l) (quiet (lexeme (Entity c, n)) before bs refl s)
onto_some ((LinkOpen, n) ∷ ws) before bs h l s = onto_some ws (lexeme (LinkOpen, n) ∷ before) bs h (refl, l) (quiet (lexeme (LinkOpen, n)) before bs refl s)
onto_some ((LinkClose, n) ∷ ws) before bs h l s = onto_some ws (lexeme (LinkClose, n) ∷ before) bs h (refl, l) (quiet (lexeme (LinkClose, n)) before bs refl s)
onto_some ((Pipe, n) ∷ ws) before bs h l s = onto_some ws (lexeme (Pipe, n) ∷ before) bs h (refl, l) (quiet (lexeme (Pipe, n)) before bs refl s)
onto_some ((Equals, n) ∷ ws) before bs h l s = onto_some ws (lexeme (Equals, n) ∷ before) bs h (refl, l) (quiet (lexeme (Equals, n)) before bs refl s)

pub calm_left : (bs : List ℕ) → CallsNothing (page_items bs) → IsSome (left_of bs) (braces_of (page_items bs))
unfolding reduced
calm_left bs h = some_some (left_of bs) (runs (words Page bs)) (braces_of (page_items bs)) (onto_some (words Page bs) [] [] (calm_words bs h) tt tt) (runs_of bs)
