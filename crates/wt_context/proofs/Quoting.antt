-- Apostrophes of a piece, and where they may be cut.
use Rattle.std.proofs.Common.{◌≡◌, ℕ, zero, suc, ◌<◌, ◌≤◌, Bool, true, false, Option, List, [], ◌∷◌, ◌++◌, length, take, drop, map, get_or, refl, sym, ap, ◌∙◌, arith}
use Rattle.std.specs.Prelude.{◌&&◌, ◌==◌}
use Rattle.std.specs.List.{list_all}
use Rattle.std.specs.Str.{IsCharBoundary}
use Rattle.std.proofs.lemmas.Bool.Decides.{nat_tests}
use Rattle.std.proofs.lemmas.List.{length-map, take-map, drop-map}
use Rattle.wt_span.specs.declared.form.ItemForm.{ItemForm}
use Rattle.wt_span.specs.declared.form.ItemForm.TheVariants as form
use Rattle.wt_span.specs.declared.form.Piece.{Piece}
use Rattle.wt_span.specs.Slice.{bytes_of}
use Rattle.wt_span.specs.Items.{char, items_of, items_by, call_of_origin}
use Rattle.wt_lines.specs.Pieces.{is_chars}
use Rattle.wt_context.specs.Segments.{is_quote, are_quotes}

pub and_left : (a b : Bool) → (a && b) ≡ true → a ≡ true
and_left true b e = refl
and_left false b e = cc

pub and_right : (a b : Bool) → (a && b) ≡ true → b ≡ true
and_right true b e = e
and_right false b e = cc

pub and_both : (a b : Bool) → a ≡ true → b ≡ true → (a && b) ≡ true
and_both true b e f = f
and_both false b e f = cc

-- ---- all of a list pass a test

pub all_take : {A : Type 0} (p : A → Bool) (n : ℕ) (xs : List A) → list_all p xs ≡ true → list_all p (take n xs) ≡ true
all_take p zero [] e = refl
all_take p zero (x ∷ xs) e = refl
all_take p (suc n) [] e = refl
all_take p (suc n) (x ∷ xs) e = and_both (p x) (list_all p (take n xs)) (and_left (p x) (list_all p xs) e) (all_take p n xs (and_right (p x) (list_all p xs) e))

pub all_drop : {A : Type 0} (p : A → Bool) (n : ℕ) (xs : List A) → list_all p xs ≡ true → list_all p (drop n xs) ≡ true
all_drop p zero [] e = refl
all_drop p zero (x ∷ xs) e = e
all_drop p (suc n) [] e = refl
all_drop p (suc n) (x ∷ xs) e = all_drop p n xs (and_right (p x) (list_all p xs) e)

pub all_both : {A : Type 0} (p : A → Bool) (xs ys : List A) → list_all p xs ≡ true → list_all p ys ≡ true → list_all p (xs ++ ys) ≡ true
all_both p [] ys e f = f
all_both p (x ∷ xs) ys e f = and_both (p x) (list_all p (xs ++ ys)) (and_left (p x) (list_all p xs) e) (all_both p xs ys (and_right (p x) (list_all p xs) e) f)

-- ---- apostrophes

quote_byte : (b : ℕ) → (b == 39) ≡ true → b ≡ 39
quote_byte b e = grind (arith, nat_tests)

quote_at : (o : Option ℕ) (bs : List ℕ) (n : ℕ) → are_quotes (map (char o) bs) ≡ true → n < length bs → get_or bs n 0 ≡ 39
quote_at o [] n e l = absurd (omega arith)
quote_at o (b ∷ bs) zero e l = quote_byte b (and_left (b == 39) (are_quotes (map (char o) bs)) e)
quote_at o (b ∷ bs) (suc n) e l = quote_at o bs n (and_right (b == 39) (are_quotes (map (char o) bs)) e) (omega arith)

pub chars_are : (f : ItemForm) (o : Option ℕ) (bs : List ℕ) → is_chars f ≡ true → items_by f o bs ≡ map (char o) bs
chars_are form.Chars o bs e = refl
chars_are (form.Entity c) o bs e = cc
chars_are form.Nowiki o bs e = cc
chars_are form.Extension o bs e = cc
chars_are form.Function o bs e = cc
chars_are form.Comment o bs e = cc
chars_are form.Include o bs e = cc
chars_are form.Hidden o bs e = cc
chars_are form.EmptyCall o bs e = cc

pub quotes_are_chars : (f : ItemForm) (o : Option ℕ) (bs : List ℕ) → are_quotes (items_by f o bs) ≡ true → is_chars f ≡ true
quotes_are_chars form.Chars o bs e = refl
quotes_are_chars (form.Entity c) o bs e = cc
quotes_are_chars form.Nowiki o bs e = cc
quotes_are_chars form.Extension o bs e = cc
quotes_are_chars form.Function o bs e = cc
quotes_are_chars form.Comment o bs e = cc
quotes_are_chars form.Include o bs e = cc
quotes_are_chars form.Hidden o bs e = cc
quotes_are_chars form.EmptyCall o bs e = cc

pub byte_count : (p : Piece) → is_chars p.form ≡ true → length (items_of p) ≡ length (bytes_of p.text)
byte_count p e = ap length (chars_are p.form (call_of_origin p.origin) (bytes_of p.text) e) ∙ length-map (bytes_of p.text) (char (call_of_origin p.origin))

-- apostrophes may be cut anywhere
pub quote_border : (p : Piece) (n : ℕ) → is_chars p.form ≡ true → are_quotes (items_of p) ≡ true → n ≤ length (items_of p) → IsCharBoundary (bytes_of p.text) n
quote_border p n e q le =
    let o = call_of_origin p.origin in
    let qs = ap are_quotes (sym (chars_are p.form o (bytes_of p.text) e)) ∙ q in
    (omega (arith, byte_count p e), λ l high. let is = quote_at o (bytes_of p.text) n qs l in absurd (omega arith))

-- whatever origin its apostrophes have
other_origin : (o p : Option ℕ) (bs : List ℕ) → are_quotes (map (char o) bs) ≡ true → are_quotes (map (char p) bs) ≡ true
other_origin o p [] e = refl
other_origin o p (b ∷ bs) e = and_both (b == 39) (are_quotes (map (char p) bs)) (and_left (b == 39) (are_quotes (map (char o) bs)) e)
    (other_origin o p bs (and_right (b == 39) (are_quotes (map (char o) bs)) e))

byte_quotes : (p : Piece) → is_chars p.form ≡ true → are_quotes (items_of p) ≡ true → are_quotes (map (char (call_of_origin p.origin)) (bytes_of p.text)) ≡ true
byte_quotes p e q = ap are_quotes (sym (chars_are p.form (call_of_origin p.origin) (bytes_of p.text) e)) ∙ q

pub front_quotes : (p : Piece) (o : Option ℕ) (n : ℕ) (bs : List ℕ) → is_chars p.form ≡ true → are_quotes (items_of p) ≡ true → bs ≡ take n (bytes_of p.text)
    → are_quotes (map (char o) bs) ≡ true
front_quotes p o n bs e q i =
    let c = char (call_of_origin p.origin) in
    other_origin (call_of_origin p.origin) o bs
    (ap (λ ys. are_quotes (map c ys)) i ∙ ap are_quotes (sym (take-map c n (bytes_of p.text)))
    ∙ all_take is_quote n (map c (bytes_of p.text)) (byte_quotes p e q))

pub back_quotes : (p : Piece) (o : Option ℕ) (n : ℕ) (bs : List ℕ) → is_chars p.form ≡ true → are_quotes (items_of p) ≡ true → bs ≡ drop n (bytes_of p.text)
    → are_quotes (map (char o) bs) ≡ true
back_quotes p o n bs e q i =
    let c = char (call_of_origin p.origin) in
    other_origin (call_of_origin p.origin) o bs
    (ap (λ ys. are_quotes (map c ys)) i ∙ ap are_quotes (sym (drop-map c n (bytes_of p.text)))
    ∙ all_drop is_quote n (map c (bytes_of p.text)) (byte_quotes p e q))
