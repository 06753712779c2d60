-- Where every lexeme of a front is the same alone, what begins in the front ends in it, or is a tag that nothing in the text closes.
use Rattle.std.proofs.Common.{arith, ◌≡◌, ℕ, zero, suc, ◌+◌, ◌-◌, ◌<◌, ◌≤◌, ◌==◌, Bool, true, false, Option, Some, None, List, [], ◌∷◌, ◌++◌, length, get_or, take, drop, nat_lt, refl, sym, ap, ◌∙◌, subst, append-nil, length-append, length-take, length-drop, codes}
use Rattle.std.specs.Prelude.{◌&&◌, ◌||◌, not, is_some, if◌then◌else◌, slice_index}
use Rattle.std.specs.Option.{option_or, unwrap_or}
use Rattle.std.specs.List.{prefix_len}
use Rattle.std.proofs.lemmas.List.{take-take, drop-append-le}
use Rattle.std.proofs.lemmas.List.Sums.{prefix_len-le-length}
use Rattle.std.proofs.Math.Seq.{take-append_seam}
use Rattle.wt_span.specs.declared.form.Mode.TheVariants.{Page}
use Rattle.wt_span.specs.declared.form.LexKind.TheVariants.{CommentLine, Comment, Raw, Include, Hidden}
use Rattle.wt_span.specs.Bytes.{is_blank, is_break, begins, through, name_len, blank_len, lower}
use Rattle.wt_span.specs.Comments.{comment_len, comment_line_len, remarks_len, remarks_with}
use Rattle.wt_span.specs.Entities.{entity_at}
use Rattle.wt_span.specs.Tags.{Tag, is_tag_byte, is_tag_inside, closes_itself, tag_after, opening_tag, closing_tag, with_inside, is_raw_name, raw_by, raw_len, hides, is_left_out, opening_include, closing_include, include_at}
use Rattle.wt_span.specs.Lexemes.{Word, as_word, comment_line_word, entity_word, sign_word, form_at}
use Rattle.wt_lex.proofs.AllForms.{form_fits}
use Rattle.wt_lex.proofs.Begins.{and_left, and_right, lt_is, is_within, byte_is, begins_get, begins_len}
use Rattle.wt_lex.proofs.Forms.{OptFits, comment_fits}
use Rattle.wt_lex.proofs.Fronts.{drop_front, begins_more, begins_front, byte_front, prefix_more, name_more}
use Rattle.wt_lex.proofs.TagForms.{OptTag, opening_fits}
use Rattle.wt_lex.proofs.WholeTags.{inside_front}
use Rattle.wt_part_laws.specs.Lexer.{lexer}
use Rattle.wt_part_laws.specs.Scans.{skipped_by, AtStarts, Settles}
use Rattle.wt_part_laws.proofs.Joins.{starts_more}
use Rattle.wt_typed_blocks.specs.Reading.{stands}
use Rattle.wt_typed_blocks.proofs.Forms.{comment_other, other_byte}
use Rattle.wt_text_edit_laws.specs.TextBetween.{ends_comment, ends_tag_before, ends_before, HasEndsBefore}
use Rattle.wt_text_edit_laws.proofs.Prose.Uncommented.{BeginsUncommented, uncommented_other, either_flag}
use Rattle.wt_text_edit_laws.proofs.Between.LineRemarks.{comment_form}

-- ---- a word is found up to where it is read

nothing_through : (w : List ℕ) (c : ℕ) (cs : List ℕ) → 1 ≤ length w → 1 ≤ through w (c ∷ cs)
nothing_through w c cs some = by (begins w (c ∷ cs))
  where
    by : (t : Bool) → 1 ≤ (if t then length w else 1 + through w cs)
    by true = some
    by false = omega arith

found_up_to : (w xs rest : List ℕ) → 1 ≤ length w → through w (xs ++ rest) < length (xs ++ rest) → through w (xs ++ rest) ≤ length xs → stands w xs ≡ true
found_up_to w [] [] some lt le = absurd (omega (arith, lt))
found_up_to w [] (c ∷ cs) some lt le = let one = nothing_through w c cs some in absurd (omega (arith, one, le))
found_up_to w (x ∷ xs) rest some lt le = by (begins w ((x ∷ xs) ++ rest)) refl lt le (λ f g. found_up_to w xs rest some f g)
  where
    here : (u v : Bool) → u ≡ true → (u || v) ≡ true
    here true v e = refl
    here false v e = absurd (cc)

    later : (u v : Bool) → v ≡ true → (u || v) ≡ true
    later true v e = refl
    later false v e = e

    by : (t : Bool) → begins w ((x ∷ xs) ++ rest) ≡ t → (if t then length w else 1 + through w (xs ++ rest)) < suc (length (xs ++ rest))
        → (if t then length w else 1 + through w (xs ++ rest)) ≤ suc (length xs)
        → (through w (xs ++ rest) < length (xs ++ rest) → through w (xs ++ rest) ≤ length xs → stands w xs ≡ true) → (begins w (x ∷ xs) || stands w xs) ≡ true
    by true e lt le f =
        let front : begins w (take (length (x ∷ xs)) ((x ∷ xs) ++ rest)) ≡ true = begins_front w ((x ∷ xs) ++ rest) (length (x ∷ xs)) le e in
        let own : begins w (x ∷ xs) ≡ true = sym (ap (begins w) (take-append_seam (x ∷ xs) rest)) ∙ front in
        here (begins w (x ∷ xs)) (stands w xs) own
    by false e lt le f = later (begins w (x ∷ xs)) (stands w xs) (f (omega (arith, lt)) (omega (arith, le)))

-- ---- comments

skipped_le : (n : ℕ) (bs : List ℕ) → n ≤ length bs → n ≤ remarks_len n bs
skipped_le zero bs le = omega arith
skipped_le (suc n) [] le = absurd (omega (arith, le))
skipped_le (suc n) (b ∷ bs) le = let more = skipped_le n bs (omega (arith, le)) in omega (arith, more)

comment_fit : (bs : List ℕ) (c : ℕ) → comment_len bs ≡ Some c → (0 < c) × (c ≤ length bs)
comment_fit bs c e =
    let P : Option ℕ → Type 0 = OptFits bs in
    let f = subst P e (comment_fits bs) in
    (f.some, f.within)

-- a form that begins with a comment has all of it
comment_first : (a : Bool) (b : ℕ) (bs : List ℕ) (c : ℕ) (w : Word) → comment_len (b ∷ bs) ≡ Some c → form_at Page a (b ∷ bs) ≡ Some w → c ≤ w.1
unfolding form_at comment_line_len
comment_first false b bs c w e f =
    let is : Some (Comment, c) ≡ Some w = sym (comment_form b c bs e) ∙ f in
    same (Comment, c) w is
  where
    same : (u v : Word) → Some u ≡ Some v → u.1 ≤ v.1
    same u v e = let z : u ≡ v = cc in let s : u.1 ≡ v.1 = ap (λ (x : Word). x.1) z in omega (arith, s)
comment_first true b bs c w e f = by (nat_lt (blank_len (b ∷ bs)) n && is_break (slice_index (b ∷ bs) n)) f
  where
    n : ℕ
    n = remarks_len 0 (b ∷ bs)

    long : c ≤ n
    long =
        let fits = comment_fit (b ∷ bs) c e in
        let is : remarks_len 0 (b ∷ bs) ≡ 1 + remarks_len (c - 1) bs = ap (λ o. remarks_with o b (λ k. remarks_len k bs)) e in
        let more = skipped_le (c - 1) bs (omega (arith, fits.1)) in
        omega (arith, is, more, fits.0)

    size : (u v : Word) → Some u ≡ Some v → u.1 ≡ v.1
    size u v e = let z : u ≡ v = cc in ap (λ (x : Word). x.1) z

    by : (t : Bool) → option_or (as_word CommentLine (if t then Some (n + 1) else None)) (option_or (as_word Comment (comment_len (b ∷ bs)))
        (option_or (as_word Raw (raw_len (b ∷ bs))) (option_or (include_at Page (b ∷ bs)) (option_or (entity_word (entity_at (b ∷ bs))) (sign_word (b ∷ bs)))))) ≡ Some w → c ≤ w.1
    by true g = let s = size (CommentLine, n + 1) w g in omega (arith, s, long)
    by false g =
        let others : Option Word = option_or (as_word Raw (raw_len (b ∷ bs))) (option_or (include_at Page (b ∷ bs)) (option_or (entity_word (entity_at (b ∷ bs))) (sign_word (b ∷ bs)))) in
        let h : Some (Comment, c) ≡ Some w = sym (ap (λ o. option_or (as_word Comment o) others) e) ∙ g in
        let s = size (Comment, c) w h in
        omega (arith, s)

front_begins : (w xs rest : List ℕ) → begins w xs ≡ true → begins w (xs ++ rest) ≡ true
front_begins w xs rest e = begins_more w (xs ++ rest) (length xs) (ap (begins w) (take-append_seam xs rest) ∙ e)

-- the same form in a text and in a front of it
abbrev IsSame : Bool → List ℕ → List ℕ → Type 0
IsSame a xs rest = form_at Page a (xs ++ rest) ≡ form_at Page a xs

comment_here : (bs : List ℕ) → begins (codes "<!--") bs ≡ true → comment_len bs ≡ Some (4 + through (codes "-->") (drop 4 bs))
unfolding comment_len
comment_here bs e = ap (λ (t : Bool). if t then Some (4 + through (codes "-->") (drop 4 bs)) else None) e

no_form_here : (a : Bool) (b : ℕ) (bs : List ℕ) (c : ℕ) → comment_len (b ∷ bs) ≡ Some c → form_at Page a (b ∷ bs) ≡ None → ⊥
unfolding form_at
no_form_here a b bs c e f = by (comment_line_word a (b ∷ bs)) f
  where
    by : (o : Option Word) → option_or o (option_or (as_word Comment (comment_len (b ∷ bs)))
        (option_or (as_word Raw (raw_len (b ∷ bs))) (option_or (include_at Page (b ∷ bs)) (option_or (entity_word (entity_at (b ∷ bs))) (sign_word (b ∷ bs)))))) ≡ None → ⊥
    by (Some w) g = cc
    by None g =
        let others : Option Word = option_or (as_word Raw (raw_len (b ∷ bs))) (option_or (include_at Page (b ∷ bs)) (option_or (entity_word (entity_at (b ∷ bs))) (sign_word (b ∷ bs)))) in
        let h : ◌≡◌ {A = Option Word} (Some (Comment, c)) None = sym (ap (λ o. option_or (as_word Comment o) others) e) ∙ g in cc

-- and what begins there doesn't go on to the text's end
abbrev IsShortAt : Bool → List ℕ → List ℕ → Type 0
IsShortAt a xs rest = (w : Word) → form_at Page a (xs ++ rest) ≡ Some w → w.1 < length (xs ++ rest)

-- a form that is the same in the front lies in it
form_short : (a : Bool) (b : ℕ) (q rest : List ℕ) (w : Word) → IsSame a (b ∷ q) rest → form_at Page a ((b ∷ q) ++ rest) ≡ Some w → w.1 ≤ length (b ∷ q)
form_short a b q rest w same e = let fits = form_fits Page a (b ∷ q) w (sym same ∙ e) in fits.within

comment_ended : (a : Bool) (b : ℕ) (q rest : List ℕ) → IsShortAt a (b ∷ q) rest → IsSame a (b ∷ q) rest → ends_comment (b ∷ q) ≡ true
comment_ended a b q rest more same = by (begins (codes "<!--") xs) refl
  where
    xs : List ℕ
    xs = b ∷ q

    sized : (o : Option Word) → form_at Page a (xs ++ rest) ≡ o → (c : ℕ) → comment_len (xs ++ rest) ≡ Some c → (c ≤ length xs) × (c < length (xs ++ rest))
    sized None f c e = absurd (no_form_here a b (q ++ rest) c e f)
    sized (Some w) f c e =
        let long = comment_first a b (q ++ rest) c w e f in
        let short = form_short a b q rest w same f in
        let less = more w f in
        (omega (arith, long, short), omega (arith, long, less))

    by : (t : Bool) → begins (codes "<!--") xs ≡ t → (if t then stands (codes "-->") (drop 4 xs) else true) ≡ true
    by false e = refl
    by true e =
        let four : 4 ≤ length xs = begins_len (codes "<!--") xs e in
        let all : begins (codes "<!--") (xs ++ rest) ≡ true = front_begins (codes "<!--") xs rest e in
        let size = sized (form_at Page a (xs ++ rest)) refl (4 + through (codes "-->") (drop 4 (xs ++ rest))) (comment_here (xs ++ rest) all) in
        let cut : drop 4 (xs ++ rest) ≡ drop 4 xs ++ rest = drop-append-le 4 xs rest four in
        let there : through (codes "-->") (drop 4 (xs ++ rest)) ≡ through (codes "-->") (drop 4 xs ++ rest) = ap (through (codes "-->")) cut in
        let all_size = ap length cut in
        found_up_to (codes "-->") (drop 4 xs) rest (omega arith) (omega (arith, size.1, there, all_size, length-drop 4 (xs ++ rest)))
        (omega (arith, size.0, there, length-drop 4 xs))

-- ---- an opening tag of a front is one of the text

if_some : {A : Type 0} → (t : Bool) (o : Option A) (x : A) → (if t then o else None) ≡ Some x → (t ≡ true) × (o ≡ Some x)
if_some true o x e = (refl, e)
if_some false o x e = cc

then_some : {A : Type 0} → (t : Bool) (o : Option A) (x : A) → t ≡ true → o ≡ Some x → (if t then o else None) ≡ Some x
then_some true o x e f = f
then_some false o x e f = cc

abbrev tag_by : List ℕ → List ℕ → ℕ → Option Tag
tag_by name inside byte = if byte == 62 && is_tag_inside inside then
    Some (record { name = lower name; len = 2 + length name + length inside; alone = closes_itself inside }) else None

after_is : (name rest : List ℕ) → tag_after name rest ≡ tag_by name (take (prefix_len is_tag_byte rest) rest)
    (get_or rest (length (take (prefix_len is_tag_byte rest) rest)) 0)
unfolding tag_after
after_is name rest = refl

-- the byte behind what stands in the tag
after_byte : (name rest : List ℕ) (t : Tag) → tag_after name rest ≡ Some t → get_or rest (prefix_len is_tag_byte rest) 0 ≡ 62
after_byte name rest t e =
    let inside = take (prefix_len is_tag_byte rest) rest in
    let x : Tag = record { name = lower name; len = 2 + length name + length inside; alone = closes_itself inside } in
    let is = if_some (get_or rest (length inside) 0 == 62 && is_tag_inside inside) (Some x) t (sym (after_is name rest) ∙ e) in
    let full : length inside ≡ prefix_len is_tag_byte rest =
    omega (arith, length-take (prefix_len is_tag_byte rest) rest, prefix_len-le-length is_tag_byte rest) in
    ap (λ (i : ℕ). get_or rest i 0) (sym full) ∙ byte_is rest (length inside) 62 (and_left (get_or rest (length inside) 0 == 62) _ is.0)

after_more : (name rest : List ℕ) (t : Tag) (m : ℕ) → tag_after name (take m rest) ≡ Some t → tag_after name rest ≡ Some t
after_more name rest t m e =
    let xs = take m rest in
    let k = prefix_len is_tag_byte xs in
    let byte = after_byte name xs t e in
    let there = is_within xs k 62 byte (omega arith) in
    let short = length-take m rest in
    let run : prefix_len is_tag_byte rest ≡ k = prefix_more is_tag_byte rest m there in
    let same : take (prefix_len is_tag_byte rest) rest ≡ take k xs = ap (λ (i : ℕ). take i rest) run ∙ sym (take-take k m rest (omega arith)) in
    let full : length (take k xs) ≡ k = omega (arith, length-take k xs) in
    after_is name rest ∙ ap (λ (i : List ℕ). tag_by name i (get_or rest (length i) 0)) same
    ∙ ap (tag_by name (take k xs)) (sym (byte_front rest m (length (take k xs)) (omega arith))) ∙ sym (after_is name xs) ∙ e

abbrev opening_by : ℕ → ℕ → List ℕ → List ℕ → Option Tag
opening_by first n name rest = if first == 60 && nat_lt 0 n then tag_after name rest else None

opening_is : (bs : List ℕ) → opening_tag bs ≡ opening_by (get_or bs 0 0) (name_len (drop 1 bs))
    (take (name_len (drop 1 bs)) (drop 1 bs)) (drop (1 + name_len (drop 1 bs)) bs)
unfolding opening_tag
opening_is bs = refl

opening_more : (bs : List ℕ) (t : Tag) (m : ℕ) → opening_tag (take m bs) ≡ Some t → opening_tag bs ≡ Some t
opening_more bs t m e =
    let xs = take m bs in
    let n = name_len (drop 1 xs) in
    let name = take n (drop 1 xs) in
    let rest = drop (1 + n) xs in
    let is = if_some (get_or xs 0 0 == 60 && nat_lt 0 n) (tag_after name rest) t (sym (opening_is xs) ∙ e) in
    let first = byte_is xs 0 60 (and_left (get_or xs 0 0 == 60) _ is.0) in
    let some = is_within xs 0 60 first (omega arith) in
    let named = lt_is 0 n (and_right (get_or xs 0 0 == 60) _ is.0) in
    let last = is_within rest (prefix_len is_tag_byte rest) 62 (after_byte name rest t is.1) (omega arith) in
    let short = length-take m bs in
    let left = length-drop (1 + n) xs in
    let all = length-drop 1 xs in
    let cut : drop 1 xs ≡ take (m - 1) (drop 1 bs) = drop_front 1 m bs (omega arith) in
    let names : name_len (drop 1 bs) ≡ n = name_more (drop 1 bs) (m - 1) (omega (arith, ap name_len cut))
    (omega (arith, ap name_len cut, ap length cut)) ∙ ap name_len (sym cut) in
    let same : name ≡ take n (drop 1 bs) = ap (take n) cut ∙ take-take n (m - 1) (drop 1 bs) (omega arith) in
    let after : rest ≡ take (m - (1 + n)) (drop (1 + n) bs) = drop_front (1 + n) m bs (omega arith) in
    let tail : tag_after name (drop (1 + n) bs) ≡ Some t = after_more name (drop (1 + n) bs) t (m - (1 + n)) (ap (tag_after name) (sym after) ∙ is.1) in
    opening_is bs
    ∙ ap (λ (i : ℕ). opening_by (get_or bs 0 0) i (take i (drop 1 bs)) (drop (1 + i) bs)) names
    ∙ ap (λ (b : ℕ). opening_by b n (take n (drop 1 bs)) (drop (1 + n) bs)) (sym (byte_front bs m 0 (omega arith)))
    ∙ ap (λ (i : List ℕ). opening_by (get_or xs 0 0) n i (drop (1 + n) bs)) (sym same)
    ∙ then_some (get_or xs 0 0 == 60 && nat_lt 0 n) (tag_after name (drop (1 + n) bs)) t is.0 tail

opening_of : (xs rest : List ℕ) (t : Tag) → opening_tag xs ≡ Some t → opening_tag (xs ++ rest) ≡ Some t
opening_of xs rest t e = opening_more (xs ++ rest) t (length xs) (ap opening_tag (take-append_seam xs rest) ∙ e)

-- ---- a tag whose inside is no wikitext

-- no comment begins with a tag
no_name : (bs : List ℕ) → opening_tag (60 ∷ 33 ∷ bs) ≡ None
unfolding opening_tag
no_name bs = refl

tag_uncommented : (bs : List ℕ) (t : Tag) → opening_tag bs ≡ Some t → comment_len bs ≡ None
unfolding comment_len
tag_uncommented bs t e = by (begins (codes "<!--") bs) refl
  where
    no : (cs : List ℕ) → opening_tag cs ≡ Some t → begins (codes "<!--") cs ≡ true → ⊥
    no [] f g = let le = begins_len (codes "<!--") [] g in omega (arith, le)
    no (b ∷ []) f g = let le = begins_len (codes "<!--") (b ∷ []) g in omega (arith, le)
    no (b ∷ c ∷ cs) f g =
        let first : b ≡ 60 = begins_get (codes "<!--") (b ∷ c ∷ cs) g 0 (omega arith) in
        let second : c ≡ 33 = begins_get (codes "<!--") (b ∷ c ∷ cs) g 1 (omega arith) in
        let is : opening_tag (60 ∷ 33 ∷ cs) ≡ Some t =
        sym (ap (λ (x : ℕ). opening_tag (x ∷ c ∷ cs)) first ∙ ap (λ (x : ℕ). opening_tag (60 ∷ x ∷ cs)) second) ∙ f in
        let none : None ≡ Some t = sym (no_name cs) ∙ is in cc

    by : (u : Bool) → begins (codes "<!--") bs ≡ u → ◌≡◌ {A = Option ℕ} (if u then Some (4 + through (codes "-->") (drop 4 bs)) else None) None
    by true g = absurd (no bs e g)
    by false g = refl

-- its form, whether a line break is before it or not
tag_form : (a : Bool) (bs : List ℕ) (t : Tag) → opening_tag bs ≡ Some t
    → form_at Page a bs ≡ option_or (as_word Raw (raw_by is_raw_name (Some t) bs)) (option_or (option_or (opening_include Page (Some t) bs) (closing_include Page (closing_tag bs)))
    (option_or (entity_word (entity_at bs)) (sign_word bs)))
unfolding form_at raw_len include_at
tag_form a bs t e = flagged ∙ plain
  where
    none : comment_len bs ≡ None
    none = tag_uncommented bs t e

    begins_so : (cs : List ℕ) → opening_tag cs ≡ Some t → comment_len cs ≡ None → BeginsUncommented cs
    begins_so [] f g = record { is = refl }
    begins_so (b ∷ cs) f g =
        let P : Option Tag → Type 0 = OptTag (b ∷ cs) in
        let fits = subst P f (opening_fits (b ∷ cs)) in
        let first : b ≡ 60 = fits.first in
        uncommented_other b cs (ap is_blank first) g

    flagged : form_at Page a bs ≡ form_at Page false bs
    flagged = either_flag Page a bs (begins_so bs e none)

    plain : form_at Page false bs ≡ option_or (as_word Raw (raw_by is_raw_name (Some t) bs))
        (option_or (option_or (opening_include Page (Some t) bs) (closing_include Page (closing_tag bs))) (option_or (entity_word (entity_at bs)) (sign_word bs)))
    plain =
        ap (λ o. option_or (as_word Comment o) (option_or (as_word Raw (raw_by is_raw_name (opening_tag bs) bs))
        (option_or (option_or (opening_include Page (opening_tag bs) bs) (closing_include Page (closing_tag bs))) (option_or (entity_word (entity_at bs)) (sign_word bs))))) none
        ∙ ap (λ o. option_or (as_word Raw (raw_by is_raw_name o bs)) (option_or (option_or (opening_include Page o bs) (closing_include Page (closing_tag bs)))
        (option_or (entity_word (entity_at bs)) (sign_word bs)))) e

-- of a raw or a hidden one with its inside
form_size : (raw hidden left : Bool) (t : Tag) (n : ℕ) (bs : List ℕ) (others : Option Word) (o : Option Word) → (raw || hidden) ≡ true
    → (w : Word) → option_or (as_word Raw (if raw then Some n else None))
    (option_or (option_or (if hidden then Some (Hidden, n) else (if left then Some (Include, t.len) else None)) o) others) ≡ Some w → n ≡ w.1
form_size true hidden left t n bs others o h w e = let z : (Raw, n) ≡ w = cc in ap (λ (x : Word). x.1) z
form_size false true left t n bs others o h w e = let z : (Hidden, n) ≡ w = cc in ap (λ (x : Word). x.1) z
form_size false false left t n bs others o h w e = absurd (cc)

form_hidden : (raw left : Bool) (t : Tag) (n : ℕ) (others : Option Word) (o : Option Word) (w : Word)
    → option_or (as_word Raw (if raw then None else None)) (option_or (option_or (if true then Some (Hidden, n) else (if left then Some (Include, t.len) else None)) o) others) ≡ Some w
    → n ≡ w.1
form_hidden true left t n others o w e = let z : (Hidden, n) ≡ w = cc in ap (λ (x : Word). x.1) z
form_hidden false left t n others o w e = let z : (Hidden, n) ≡ w = cc in ap (λ (x : Word). x.1) z

-- the rest of what a form may be
abbrev behind_tags : List ℕ → Option Word
behind_tags bs = option_or (entity_word (entity_at bs)) (sign_word bs)

whole_form : (a : Bool) (bs : List ℕ) (t : Tag) (o : Option ℕ) → opening_tag bs ≡ Some t → with_inside t bs ≡ o
    → form_at Page a bs ≡ option_or (as_word Raw (if is_raw_name t.name then o else None))
    (option_or (option_or (if hides Page t.name then Some (Hidden, unwrap_or o (length bs)) else (if is_left_out Page t.name then Some (Include, t.len) else None))
    (closing_include Page (closing_tag bs))) (behind_tags bs))
whole_form a bs t o e f =
    tag_form a bs t e
    ∙ ap (λ (p : Option ℕ). option_or (as_word Raw (if is_raw_name t.name then p else None))
    (option_or (option_or (if hides Page t.name then Some (Hidden, unwrap_or p (length bs)) else (if is_left_out Page t.name then Some (Include, t.len) else None))
    (closing_include Page (closing_tag bs))) (behind_tags bs))) f

is_found : (n : ℕ) (o : Option ℕ) → o ≡ Some n → is_some o ≡ true
is_found n o e = ap is_some e

-- found in the text, so in the front
found_here : (a : Bool) (b : ℕ) (q rest : List ℕ) (t : Tag) (n : ℕ) → IsSame a (b ∷ q) rest → opening_tag ((b ∷ q) ++ rest) ≡ Some t
    → (is_raw_name t.name || hides Page t.name) ≡ true → with_inside t ((b ∷ q) ++ rest) ≡ Some n → is_some (with_inside t (b ∷ q)) ≡ true
found_here a b q rest t n same e named f =
    let bs : List ℕ = (b ∷ q) ++ rest in
    let is = whole_form a bs t (Some n) e f in
    let le : n ≤ length (b ∷ q) = sized (form_at Page a bs) refl is in
    let own : with_inside t (take (length (b ∷ q)) bs) ≡ Some n = inside_front t bs n (length (b ∷ q)) f le in
    is_found n (with_inside t (b ∷ q)) (sym (ap (with_inside t) (take-append_seam (b ∷ q) rest)) ∙ own)
  where
    whole : List ℕ
    whole = (b ∷ q) ++ rest

    some_form : (raw hidden left : Bool) (o others : Option Word) → (raw || hidden) ≡ true
        → option_or (as_word Raw (if raw then Some n else None)) (option_or (option_or (if hidden then Some (Hidden, n) else (if left then Some (Include, t.len) else None)) o) others) ≡ None → ⊥
    some_form true hidden left o others h g = cc
    some_form false true left o others h g = cc
    some_form false false left o others h g = cc

    sized : (o : Option Word) → form_at Page a whole ≡ o
        → form_at Page a whole ≡ option_or (as_word Raw (if is_raw_name t.name then Some n else None))
        (option_or (option_or (if hides Page t.name then Some (Hidden, n) else (if is_left_out Page t.name then Some (Include, t.len) else None))
        (closing_include Page (closing_tag whole))) (behind_tags whole)) → n ≤ length (b ∷ q)
    sized None g is =
        absurd (some_form (is_raw_name t.name) (hides Page t.name) (is_left_out Page t.name) (closing_include Page (closing_tag whole)) (behind_tags whole) named (sym is ∙ g))
    sized (Some w) g is =
        let z : n ≡ w.1 =
        form_size (is_raw_name t.name) (hides Page t.name) (is_left_out Page t.name) t n whole (behind_tags whole) (closing_include Page (closing_tag whole)) named w (sym is ∙ g) in
        let short = form_short a b q rest w same g in
        omega (arith, z, short)

-- a hidden part that nothing ends goes on to the end
not_hidden : (a : Bool) (b : ℕ) (q rest : List ℕ) (t : Tag) → IsShortAt a (b ∷ q) rest → IsSame a (b ∷ q) rest → opening_tag ((b ∷ q) ++ rest) ≡ Some t
    → with_inside t ((b ∷ q) ++ rest) ≡ None → hides Page t.name ≡ false
not_hidden a b q rest t more same e f = by (hides Page t.name) (whole_form a whole t None e f)
  where
    whole : List ℕ
    whole = (b ∷ q) ++ rest

    goes_on : (o : Option Word) → form_at Page a whole ≡ o → form_at Page a whole ≡ option_or (as_word Raw (if is_raw_name t.name then None else None))
        (option_or (option_or (if true then Some (Hidden, length whole) else (if is_left_out Page t.name then Some (Include, t.len) else None))
        (closing_include Page (closing_tag whole))) (behind_tags whole)) → ⊥
    goes_on (Some w) g is =
        let z : length whole ≡ w.1 =
        form_hidden (is_raw_name t.name) (is_left_out Page t.name) t (length whole) (behind_tags whole) (closing_include Page (closing_tag whole)) w (sym is ∙ g) in
        let less = more w g in
        omega (arith, z, less)
    goes_on None g is = none (is_raw_name t.name) (is_left_out Page t.name) (closing_include Page (closing_tag whole)) (sym is ∙ g)
      where
        none : (raw left : Bool) (o : Option Word) → option_or (as_word Raw (if raw then None else None))
            (option_or (option_or (if true then Some (Hidden, length whole) else (if left then Some (Include, t.len) else None)) o) (behind_tags whole)) ≡ None → ⊥
        none true left o g = cc
        none false left o g = cc

    by : (v : Bool) → form_at Page a whole ≡ option_or (as_word Raw (if is_raw_name t.name then None else None))
        (option_or (option_or (if v then Some (Hidden, length whole) else (if is_left_out Page t.name then Some (Include, t.len) else None))
        (closing_include Page (closing_tag whole))) (behind_tags whole)) → v ≡ false
    by false is = refl
    by true is = absurd (goes_on (form_at Page a whole) refl is)

tag_ended : (a : Bool) (b : ℕ) (q rest : List ℕ) (o : Option Tag) → IsShortAt a (b ∷ q) rest → IsSame a (b ∷ q) rest → opening_tag (b ∷ q) ≡ o
    → ends_tag_before rest o (b ∷ q) ≡ true
tag_ended a b q rest None more same e = refl
tag_ended a b q rest (Some t) more same e = by (is_raw_name t.name || hides Page t.name) refl
  where
    whole : List ℕ
    whole = (b ∷ q) ++ rest

    opens : opening_tag whole ≡ Some t
    opens = opening_of (b ∷ q) rest t e

    or_first : (u v : Bool) → u ≡ true → (u || v) ≡ true
    or_first true v f = refl
    or_first false v f = absurd (cc)

    or_second : (u v : Bool) → v ≡ true → (u || v) ≡ true
    or_second true v f = refl
    or_second false v f = f

    both : (u v : Bool) → u ≡ false → v ≡ false → (not u && not v) ≡ true
    both true v f g = absurd (cc)
    both false true f g = absurd (cc)
    both false false f g = refl

    inside : (p : Option ℕ) → with_inside t whole ≡ p → (is_raw_name t.name || hides Page t.name) ≡ true
        → (is_some (with_inside t (b ∷ q)) || (not (hides Page t.name) && not (is_some (with_inside t whole)))) ≡ true
    inside (Some n) f named =
        or_first (is_some (with_inside t (b ∷ q))) (not (hides Page t.name) && not (is_some (with_inside t whole))) (found_here a b q rest t n same opens named f)
    inside None f named =
        or_second (is_some (with_inside t (b ∷ q))) (not (hides Page t.name) && not (is_some (with_inside t whole)))
        (both (hides Page t.name) (is_some (with_inside t whole)) (not_hidden a b q rest t more same opens f) (ap is_some f))

    by : (v : Bool) → (is_raw_name t.name || hides Page t.name) ≡ v
        → (if v then is_some (with_inside t (b ∷ q)) || (not (hides Page t.name) && not (is_some (with_inside t whole))) else true) ≡ true
    by false f = refl
    by true f = inside (with_inside t whole) refl f

-- ---- so of all that begins in the front

and_both : (u v : Bool) → u ≡ true → v ≡ true → (u && v) ≡ true
and_both true v e f = f
and_both false v e f = e

nothing_open : (rest : List ℕ) → ends_before rest [] ≡ true
unfolding opening_tag
nothing_open rest = refl

ends_here : (rest : List ℕ) (a : Bool) (b : ℕ) (q : List ℕ) → IsShortAt a (b ∷ q) rest → IsSame a (b ∷ q) rest → ends_before rest (b ∷ q) ≡ true
ends_here rest a b q more same =
    and_both (ends_comment (b ∷ q)) (ends_tag_before rest (opening_tag (b ∷ q)) (b ∷ q)) (comment_ended a b q rest more same)
    (tag_ended a b q rest (opening_tag (b ∷ q)) more same refl)

short_by : (a : Bool) (b : ℕ) (q rest : List ℕ) → 0 < length rest → IsSame a (b ∷ q) rest → IsShortAt a (b ∷ q) rest
short_by a b q rest more same = λ w e. let short = form_short a b q rest w same e in omega (arith, short, more, length-append (b ∷ q) rest)

each_ends : (rest : List ℕ) → 0 < length rest → (a : Bool) (xs : List ℕ) → IsSame a xs rest → ends_before rest xs ≡ true
each_ends rest more a [] same = nothing_open rest
each_ends rest more a (b ∷ q) same = ends_here rest a b q (short_by a b q rest more same) same

pub settled_ends : (q rest : List ℕ) → 0 < length rest → Settles (lexer Page) rest false 0 q → HasEndsBefore rest q
settled_ends q rest more h =
    starts_more (lexer Page) (λ a xs. form_at Page a (xs ++ rest) ≡ form_at Page a xs) (λ a xs. ends_before rest xs ≡ true) false 0 q
    (λ a xs same. each_ends rest more a xs same) h

-- ---- of a line with which the text ends

break_form : (a : Bool) → form_at Page a (10 ∷ []) ≡ None
break_form a =
    either_flag Page a (10 ∷ []) (uncommented_other 10 [] refl (comment_other 10 [] (omega arith))) ∙ other_byte Page 10 [] refl

break_ends : ends_before [] (10 ∷ []) ≡ true
unfolding opening_tag
break_ends = refl

line_ends : (a : Bool) (b : ℕ) (q : List ℕ) → IsSame a (b ∷ q) (10 ∷ []) → ends_before [] ((b ∷ q) ++ 10 ∷ []) ≡ true
line_ends a b q same = ends_here [] a b (q ++ 10 ∷ []) less whole
  where
    line : List ℕ
    line = (b ∷ q) ++ 10 ∷ []

    whole : IsSame a line []
    whole = ap (form_at Page a) (append-nil line)

    less : IsShortAt a line []
    less w e =
        let here : form_at Page a line ≡ Some w = sym whole ∙ e in
        let short = form_short a b q (10 ∷ []) w same here in
        let size = ap length (append-nil line) in
        omega (arith, short, size, length-append (b ∷ q) (10 ∷ []))

line_starts : (q : List ℕ) (a : Bool) (n : ℕ) → Settles (lexer Page) (10 ∷ []) a n q
    → AtStarts (lexer Page) (λ after here. ends_before [] here ≡ true) a n (q ++ 10 ∷ [])
line_starts [] a zero h = (break_ends, ap (skipped_by (lexer Page)) (break_form a))
line_starts [] a (suc n) h = absurd (omega (arith, h))
line_starts (b ∷ q) a (suc n) h = line_starts q (is_break b) n h
line_starts (b ∷ q) a zero h =
    let P : ℕ → Type 0 = λ n. AtStarts (lexer Page) (λ after here. ends_before [] here ≡ true) (is_break b) n (q ++ 10 ∷ []) in
    (line_ends a b q h.0, subst P (sym (ap (skipped_by (lexer Page)) h.0)) (line_starts q (is_break b) (skipped_by (lexer Page) (form_at Page a (b ∷ q))) h.1))

pub line_settled : (q : List ℕ) → Settles (lexer Page) (10 ∷ []) false 0 q → HasEndsBefore [] (q ++ 10 ∷ [])
line_settled q h = line_starts q false 0 h
