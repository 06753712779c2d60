-- Pieces that are made of lexemes: one more, their items, and that they are sound.
use Rattle.std.proofs.Common.{◌≡◌, ℕ, ◌+◌, ◌-◌, ◌<◌, ◌≤◌, Bool, true, false, Option, Some, None, List, [], ◌∷◌, ◌++◌, length, take, drop, map, get_or, refl, sym, ap, ◌∙◌, subst, arith, length-take, ⊎_elim}
use Rattle.std.specs.Prelude.{◌⊎◌, slice_range, slice_index, if◌then◌else◌}
use Rattle.wt_span.specs.Bytes.{is_break}
use Rattle.std.specs.List.{All}
use Rattle.std.proofs.lemmas.List.{take_all, take_more, drop-drop}
use Rattle.std.proofs.lemmas.List.Elements.{All-nil, All-cons}
use Rattle.wt_span.specs.declared.form.Mode.TheVariants.{Page}
use Rattle.wt_span.specs.declared.form.LexKind.{LexKind}
use Rattle.wt_span.specs.declared.form.LexKind.TheVariants as lex
use Rattle.wt_span.specs.declared.form.ItemForm.{ItemForm}
use Rattle.wt_span.specs.declared.form.ItemForm.TheVariants as form
use Rattle.wt_span.specs.declared.form.Piece.{Piece}
use Rattle.wt_span.specs.declared.origin.Origin.{Origin}
use Rattle.wt_span.specs.declared.origin.Origin.TheVariants as origin
use Rattle.wt_span.specs.Slice.{bytes_of, start_of, end_of}
use Rattle.wt_span.specs.Tags.{Tag, opening_tag, is_nowiki, is_extension, raw_by, with_inside}
use Rattle.wt_span.specs.Whole.{IsWhole, IsRawTag}
use Rattle.wt_span.specs.Items.{items, items_of, items_by, call_of_origin}
use Rattle.wt_span.specs.Origins.{Span, span_of_origin, IsPlaced, FitsOrigin, IsSoundPiece, IsAmong, IsOther, IsSoundCall, OuterCall, same_call, origin_before, once, FollowFrom, AreApart, AreItems}
use Rattle.wt_lex.specs.declared.lexeme.Lexeme.{Lexeme}
use Rattle.wt_lex.specs.Places.{word_of, Follow}
use Rattle.wt_lex.specs.Reading.{Stands, AreLexemes}
use Rattle.wt_lex.proofs.WholeWords.{form_whole}
use Rattle.wt_expand.specs.PageItems.{raw_form_by, raw_form, form_of, items_of_word, items_of_words}
use Rattle.wt_expand.specs.Made.{IsOfPage, IsMade, AreMade}

-- ---- one more

made_push : (page : List ℕ) (ps : List Piece) (xs : List Lexeme) (p : Piece) (x : Lexeme) → AreMade page ps xs → IsMade page p x
    → AreMade page (ps ++ p ∷ []) (xs ++ x ∷ [])
made_push page [] [] p x h m = (m, tt)
made_push page [] (y ∷ xs) p x h m = absurd h
made_push page (q ∷ ps) [] p x h m = absurd h
made_push page (q ∷ ps) (y ∷ xs) p x h m = (h.0, made_push page ps xs p x h.1 m)

pub made_same : (page of : List ℕ) (p : Piece) (x : Lexeme) → of ≡ page → IsMade of p x → IsMade page p x
made_same page of p x e h = let P : List ℕ → Type 0 = λ bs. IsMade bs p x in subst P e h

pub made_turn : (page : List ℕ) (ps qs : List Piece) (xs : List Lexeme) (i : ℕ) (p : Piece) (x : Lexeme) → qs ≡ ps ++ p ∷ [] → i < length xs → x ≡ get_or xs i x
    → AreMade page ps (take i xs) → IsMade page p x → AreMade page qs (take (i + 1) xs)
made_turn page ps qs xs i p x pushed lt is h m =
    let more : take (i + 1) xs ≡ take i xs ++ x ∷ [] = take_more xs i x lt ∙ ap (λ y. take i xs ++ y ∷ []) (sym is) in
    let P : List Lexeme → Type 0 = AreMade page (ps ++ p ∷ []) in
    let Q : List Piece → Type 0 = λ rs. AreMade page rs (take (i + 1) xs) in
    subst Q (sym pushed) (subst P (sym more) (made_push page ps (take i xs) p x h m))

pub made_all : (page : List ℕ) (ps : List Piece) (xs : List Lexeme) (i : ℕ) → length xs ≤ i → AreMade page ps (take i xs) → AreMade page ps xs
made_all page ps xs i le h = let P : List Lexeme → Type 0 = AreMade page ps in subst P (take_all i xs le) h

-- ---- their items

no_call : (s : Span) (o : Origin) → IsOfPage s o → call_of_origin o ≡ None
no_call s (origin.Page r) h = refl
no_call s (origin.Call k) h = absurd h

made_items : (page : List ℕ) (p : Piece) (x : Lexeme) → IsMade page p x → items_of p ≡ items_of_word x.kind (slice_range page x.at.start x.at.end)
made_items page p x h =
    ap (λ f. items_by f (call_of_origin p.origin) (bytes_of p.text)) h.form
    ∙ ap (λ o. items_by (form_of x.kind (bytes_of p.text)) o (bytes_of p.text)) (no_call (x.at.start, x.at.end) p.origin h.origin)
    ∙ ap (items_of_word x.kind) h.bytes

-- what stands behind a lexeme
behind : (page : List ℕ) (x : Lexeme) → drop (x.at.end - x.at.start) (drop x.at.start page) ≡ drop x.at.end page
behind page x =
    let ordered : x.at.start ≤ x.at.end = x.at.ordered in
    let place : x.at.start + (x.at.end - x.at.start) ≡ x.at.end = omega arith in
    drop-drop (x.at.end - x.at.start) x.at.start page ∙ ap (λ n. drop n page) place

pub items_made : (page : List ℕ) (ps : List Piece) (xs : List Lexeme) (at to : ℕ) → AreMade page ps xs → Follow at xs to
    → items ps ≡ items_of_words (map word_of xs) (drop at page)
items_made page [] [] at to h f = refl
items_made page [] (x ∷ xs) at to h f = absurd h
items_made page (p ∷ ps) [] at to h f = absurd h
items_made page (p ∷ ps) (x ∷ xs) at to h f =
    let P : ℕ → Type 0 = λ m. items (p ∷ ps) ≡ items_of_words (map word_of (x ∷ xs)) (drop m page) in
    subst P f.0
    (ap (λ is. is ++ items ps) (made_items page p x h.0)
    ∙ ap (λ is. items_of_word x.kind (slice_range page x.at.start x.at.end) ++ is)
    (items_made page ps xs x.at.end to h.1 f.1 ∙ ap (items_of_words (map word_of xs)) (sym (behind page x))))

-- ---- they are whole

then_some : {A : Type 0} (t : Bool) (o : Option A) (a : A) → (if t then o else None) ≡ Some a → o ≡ Some a
then_some true o a e = e
then_some false o a e = absurd cc

RawBy : Option Tag → ItemForm → List ℕ → Type 0
RawBy o form.Nowiki bs = raw_by is_nowiki o bs ≡ Some (length bs)
RawBy o form.Extension bs = raw_by is_extension o bs ≡ Some (length bs)
RawBy o f bs = ⊥

raw_named : (t : Tag) (bs : List ℕ) (b : Bool) → is_nowiki t.name ≡ b → (raw_by is_nowiki (Some t) bs ≡ Some (length bs))
    ⊎ (raw_by is_extension (Some t) bs ≡ Some (length bs))
    → RawBy (Some t) (if b then form.Nowiki else form.Extension) bs
unfolding RawBy
raw_named t bs true e h =
    ap (λ v. if v then with_inside t bs else None) e
    ∙ ⊎_elim (then_some (is_nowiki t.name) (with_inside t bs) (length bs)) (then_some (is_extension t.name) (with_inside t bs) (length bs)) h
raw_named t bs false e h = ⊎_elim (λ k. absurd (let z : None ≡ Some (length bs) = sym (ap (λ v. if v then with_inside t bs else None) e) ∙ k in cc)) (λ k. k) h

raw_any : (o : Option Tag) (bs : List ℕ) → (raw_by is_nowiki o bs ≡ Some (length bs))
    ⊎ (raw_by is_extension o bs ≡ Some (length bs)) → RawBy o (raw_form_by o) bs
raw_any None bs h = ⊎_elim (λ k. absurd cc) (λ k. absurd cc) h
raw_any (Some t) bs h = raw_named t bs (is_nowiki t.name) refl h

raw_is : (f : ItemForm) (bs : List ℕ) → RawBy (opening_tag bs) f bs → IsWhole f bs
unfolding RawBy
raw_is form.Chars bs h = absurd h
raw_is (form.Entity c) bs h = absurd h
raw_is form.Nowiki bs h = h
raw_is form.Extension bs h = h
raw_is form.Function bs h = absurd h
raw_is form.Comment bs h = absurd h
raw_is form.Include bs h = absurd h
raw_is form.Hidden bs h = absurd h
raw_is form.EmptyCall bs h = absurd h

raw_whole : (bs : List ℕ) → IsRawTag is_nowiki bs ⊎ IsRawTag is_extension bs → IsWhole (raw_form bs) bs
raw_whole bs h = raw_is (raw_form bs) bs (raw_any (opening_tag bs) bs h)

pub word_whole : (after : Bool) (kind : LexKind) (n : ℕ) (bs : List ℕ) → 0 < n → n ≤ length bs → Stands Page after kind n bs
    → IsWhole (form_of kind (take n bs)) (take n bs)
word_whole after lex.Chars n bs some le s = omega (arith, length-take n bs)
word_whole after lex.CommentLine n bs some le s = form_whole Page after lex.CommentLine n bs s
word_whole after lex.Comment n bs some le s = form_whole Page after lex.Comment n bs s
word_whole after lex.Raw n bs some le s = raw_whole (take n bs) (form_whole Page after lex.Raw n bs s)
word_whole after lex.Include n bs some le s = form_whole Page after lex.Include n bs s
word_whole after lex.Hidden n bs some le s = form_whole Page after lex.Hidden n bs s
word_whole after (lex.Entity c) n bs some le s = form_whole Page after (lex.Entity c) n bs s
word_whole after lex.Opens n bs some le s = omega (arith, length-take n bs)
word_whole after lex.Closes n bs some le s = omega (arith, length-take n bs)
word_whole after lex.LinkOpen n bs some le s = omega (arith, length-take n bs)
word_whole after lex.LinkClose n bs some le s = omega (arith, length-take n bs)
word_whole after lex.Pipe n bs some le s = omega (arith, length-take n bs)
word_whole after lex.Equals n bs some le s = omega (arith, length-take n bs)

-- ---- they are sound

raw_fits : (o : Option Tag) (k : Option ℕ) (bs : List ℕ) → FitsOrigin (raw_form_by o) k bs
raw_fits None k bs = tt
raw_fits (Some t) k bs = by_name (is_nowiki t.name)
  where
    by_name : (b : Bool) → FitsOrigin (if b then form.Nowiki else form.Extension) k bs
    by_name true = tt
    by_name false = tt

word_fits : (kind : LexKind) (bs : List ℕ) (k : Option ℕ) → FitsOrigin (form_of kind bs) k bs
word_fits lex.Chars bs k = tt
word_fits lex.CommentLine bs k = tt
word_fits lex.Comment bs k = tt
word_fits lex.Raw bs k = raw_fits (opening_tag bs) k bs
word_fits lex.Include bs k = tt
word_fits lex.Hidden bs k = tt
word_fits (lex.Entity c) bs k = tt
word_fits lex.Opens bs k = tt
word_fits lex.Closes bs k = tt
word_fits lex.LinkOpen bs k = tt
word_fits lex.LinkClose bs k = tt
word_fits lex.Pipe bs k = tt
word_fits lex.Equals bs k = tt

placed : (o : Origin) (s t : Span) → IsOfPage s o → s ≡ t → IsPlaced o t
placed (origin.Page r) s t h e = h ∙ e
placed (origin.Call k) s t h e = absurd h

made_sound : (page : List ℕ) (p : Piece) (x : Lexeme) (after : Bool) → IsMade page p x → 0 < x.at.end - x.at.start
    → x.at.end - x.at.start ≤ length (drop x.at.start page)
    → Stands Page after x.kind (x.at.end - x.at.start) (drop x.at.start page) → IsSoundPiece p
made_sound page p x after h some le s =
    let bytes = bytes_of p.text in
    let P : List ℕ → Type 0 = λ bs. IsWhole (form_of x.kind bs) bs in
    let Q : ItemForm → Type 0 = λ f. IsWhole f bytes in
    let R : ItemForm → Type 0 = λ f. FitsOrigin f (call_of_origin p.origin) bytes in
    let span : Span = (x.at.start, x.at.end) in
    let same : span ≡ (start_of p.text, end_of p.text) = ap (λ (m : ℕ). (m, x.at.end)) (sym h.start) ∙ ap (λ (m : ℕ). (start_of p.text, m)) (sym h.end) in
    record {
      whole = subst Q (sym h.form) (subst P (sym h.bytes) (word_whole after x.kind (x.at.end - x.at.start) (drop x.at.start page) some le s));
      placed = placed p.origin span (start_of p.text, end_of p.text) h.origin same;
      fits = subst R (sym h.form) (word_fits x.kind bytes (call_of_origin p.origin));
    }

pub sound_made : (page : List ℕ) (ps : List Piece) (xs : List Lexeme) (at to : ℕ) (after : Bool) → AreMade page ps xs
    → Follow at xs to → AreLexemes Page after (map word_of xs) (drop at page) → All IsSoundPiece ps
sound_made page [] [] at to after h f a = All-nil IsSoundPiece
sound_made page [] (x ∷ xs) at to after h f a = absurd h
sound_made page (p ∷ ps) [] at to after h f a = absurd h
sound_made page (p ∷ ps) (x ∷ xs) at to after h f a =
    let P : ℕ → Type 0 = λ m. AreLexemes Page after (map word_of (x ∷ xs)) (drop m page) in
    let here = subst P (sym f.0) a in
    let bs = drop x.at.start page in
    let n : ℕ = x.at.end - x.at.start in
    let Q : List ℕ → Type 0 = AreLexemes Page (is_break (slice_index bs (n - 1))) (map word_of xs) in
    All-cons IsSoundPiece p ps (made_sound page p x after h.0 here.0 here.1 here.2)
    (sound_made page ps xs x.at.end to (is_break (slice_index bs (n - 1))) h.1 f.1 (subst Q (behind page x) here.4))

-- ---- they are the items of a page

abbrev origins : List Piece → List Origin
origins ps = map (λ p. p.origin) ps

page_among : (s : Span) (o : Origin) → IsOfPage s o → IsAmong [] o
page_among s (origin.Page r) h = tt
page_among s (origin.Call k) h = absurd h

page_span : (s : Span) (o : Origin) → IsOfPage s o → span_of_origin [] o ≡ s
page_span s (origin.Page r) h = h
page_span s (origin.Call k) h = absurd h

named_made : (page : List ℕ) (ps : List Piece) (xs : List Lexeme) → AreMade page ps xs → All (IsAmong []) (origins ps)
named_made page [] [] h = All-nil (IsAmong [])
named_made page [] (x ∷ xs) h = absurd h
named_made page (p ∷ ps) [] h = absurd h
named_made page (p ∷ ps) (x ∷ xs) h = All-cons (IsAmong []) p.origin (origins ps)
    (page_among (x.at.start, x.at.end) p.origin h.0.origin) (named_made page ps xs h.1)

-- an origin of the page counts by itself
before_page : (os : List Origin) (o : Origin) → call_of_origin o ≡ None → origin_before os o ≡ false
before_page [] o e = refl
before_page (p ∷ os) (origin.Page r) e = refl
before_page (p ∷ os) (origin.Call k) e = absurd cc

pub once_page : (os : List Origin) (o : Origin) → call_of_origin o ≡ None → once (o ∷ os) ≡ o ∷ once os
once_page os o e = ap (λ b. if b then once os else o ∷ once os) (before_page os o e)

follow_made : (page : List ℕ) (ps : List Piece) (xs : List Lexeme) (at to : ℕ) → AreMade page ps xs → Follow at xs to
    → FollowFrom at (map (span_of_origin []) (once (origins ps)))
follow_made page [] [] at to h f = tt
follow_made page [] (x ∷ xs) at to h f = absurd h
follow_made page (p ∷ ps) [] at to h f = absurd h
follow_made page (p ∷ ps) (x ∷ xs) at to h f =
    let span : Span = (x.at.start, x.at.end) in
    let others = map (span_of_origin []) (once (origins ps)) in
    let same : map (span_of_origin []) (once (origins (p ∷ ps))) ≡ span ∷ others =
    ap (map (span_of_origin [])) (once_page (origins ps) p.origin (no_call span p.origin h.0.origin))
    ∙ ap (λ (s : Span). s ∷ others) (page_span span p.origin h.0.origin) in
    let P : List Span → Type 0 = FollowFrom at in
    subst P (sym same) (f.0, follow_made page ps xs x.at.end to h.1 f.1)

other_than_page : (o : Origin) → call_of_origin o ≡ None → (os : List Origin) → All (IsOther o) os
other_than_page o e [] = All-nil (IsOther o)
other_than_page o e (q ∷ os) = All-cons (IsOther o) q os (ap (λ k. same_call k (call_of_origin q)) e) (other_than_page o e os)

apart_made : (page : List ℕ) (ps : List Piece) (xs : List Lexeme) → AreMade page ps xs → AreApart (once (origins ps))
apart_made page [] [] h = tt
apart_made page [] (x ∷ xs) h = absurd h
apart_made page (p ∷ ps) [] h = absurd h
apart_made page (p ∷ ps) (x ∷ xs) h =
    let e = no_call (x.at.start, x.at.end) p.origin h.0.origin in
    let P : List Origin → Type 0 = AreApart in
    subst P (sym (once_page (origins ps) p.origin e)) (other_than_page p.origin e (once (origins ps)), apart_made page ps xs h.1)

pub are_items : (page : List ℕ) (ps : List Piece) (xs : List Lexeme) (cs : List OuterCall) (ts : List Span) → AreMade page ps xs
    → Follow 0 xs (length page) → AreLexemes Page false (map word_of xs) page → cs ≡ [] → ts ≡ [] → AreItems ps cs ts
are_items page ps xs cs ts h f a none no_text =
    let P : List OuterCall → Type 0 = λ ds. AreItems ps ds ts in
    let Q : List Span → Type 0 = λ us. AreItems ps [] us in
    subst P (sym none) (subst Q (sym no_text) (record {
      sound_pieces = sound_made page ps xs 0 (length page) false h f a;
      sound_calls = All-nil IsSoundCall;
      named = named_made page ps xs h;
      follow = follow_made page ps xs 0 (length page) h f;
      apart = apart_made page ps xs h;
      in_order = tt;
    }))
