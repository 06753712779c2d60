-- Pieces cut at both ends.
use Rattle.std.proofs.Common.{◌≡◌, ℕ, suc, ◌+◌, ◌-◌, ◌<◌, ◌≤◌, Bool, true, false, cond, Option, Some, None, List, [], ◌∷◌, ◌++◌, length, get_or, take, drop, map, refl, sym, ap, ◌∙◌, subst, arith, append-nil, length-drop, length-take-le}
use Rattle.std.specs.Prelude.{reverse}
use Rattle.std.specs.List.{prefix_len}
use Rattle.std.proofs.lemmas.List.{length-map, drop_more, drop_all, take_more, reverse-append, reverse-reverse, length-reverse}
use Rattle.std.proofs.lemmas.List.Concat.{flat_map-append}
use Rattle.std.proofs.lemmas.List.Sums.{prefix_len-le-length}
use Rattle.wt_span.specs.declared.form.ItemForm.{ItemForm}
use Rattle.wt_span.specs.declared.form.ItemForm.TheVariants as form
use Rattle.wt_span.specs.declared.form.Piece.{Piece}
use Rattle.wt_span.specs.Slice.{bytes_of}
use Rattle.wt_span.specs.Items.{Item, char, is_char_in, call_of_origin, items_by, items_of, items}
use Rattle.wt_braces.proofs.Ends.{drop_map, map_reverse}
use Rattle.wt_expand.specs.Texts.{is_space, without_front}
use Rattle.wt_transclusion.specs.Ends.{without_back, is_chars, IsLeft}
use Rattle.wt_transclusion.proofs.Trimming.{back_is}

-- ---- any list

front_step : {A : Type 0} → (t : Bool) (n : ℕ) (x : A) (xs : List A) → drop (cond t (1 + n) 0) (x ∷ xs) ≡ cond t (drop n xs) (x ∷ xs)
front_step true n x xs = let e : 1 + n ≡ suc n = omega arith in ap (λ k. drop k (x ∷ xs)) e
front_step false n x xs = refl

front_cons : {A : Type 0} → (p : A → Bool) (x : A) (xs : List A) → without_front p (x ∷ xs) ≡ cond (p x) (without_front p xs) (x ∷ xs)
front_cons p x xs = front_step (p x) (prefix_len p xs) x xs

through_by : {A : Type 0} → (p : A → Bool) (x : A) (xs ys : List A) (t : Bool)
    → (without_front p xs ≡ [] → without_front p (xs ++ ys) ≡ without_front p ys)
    → cond t (without_front p xs) (x ∷ xs) ≡ [] → cond t (without_front p (xs ++ ys)) (x ∷ (xs ++ ys)) ≡ without_front p ys
through_by p x xs ys true on e = on e
through_by p x xs ys false on e = absurd (let z : x ∷ xs ≡ [] = e in cc)

-- where all of the front passes the test, the cut goes on behind it
pub front_through : {A : Type 0} → (p : A → Bool) (xs ys : List A) → without_front p xs ≡ [] → without_front p (xs ++ ys) ≡ without_front p ys
front_through p [] ys e = refl
front_through p (x ∷ xs) ys e = front_cons p x (xs ++ ys) ∙ through_by p x xs ys (p x) (front_through p xs ys) (sym (front_cons p x xs) ∙ e)

stops_by : {A : Type 0} → (p : A → Bool) (x : A) (xs ys : List A) (t : Bool)
    → (0 < length (without_front p xs) → without_front p (xs ++ ys) ≡ without_front p xs ++ ys)
    → 0 < length (cond t (without_front p xs) (x ∷ xs)) → cond t (without_front p (xs ++ ys)) (x ∷ (xs ++ ys)) ≡ cond t (without_front p xs) (x ∷ xs) ++ ys
stops_by p x xs ys true on l = on l
stops_by p x xs ys false on l = refl

-- where something of the front is left, all that follows is
pub front_stops : {A : Type 0} → (p : A → Bool) (xs ys : List A) → 0 < length (without_front p xs) → without_front p (xs ++ ys) ≡ without_front p xs ++ ys
front_stops {A} p [] ys l = absurd (omega (arith, l))
front_stops {A} p (x ∷ xs) ys l =
    let P : List A → Type 0 = λ zs. 0 < length zs in
    front_cons p x (xs ++ ys) ∙ stops_by p x xs ys (p x) (front_stops p xs ys) (subst P (front_cons p x xs) l) ∙ ap (λ zs. zs ++ ys) (sym (front_cons p x xs))

none_reversed : {A : Type 0} → (xs : List A) → reverse xs ≡ [] → xs ≡ []
none_reversed xs e = sym (reverse-reverse xs) ∙ ap reverse e

pub back_through : {A : Type 0} → (p : A → Bool) (xs ys : List A) → without_back p ys ≡ [] → without_back p (xs ++ ys) ≡ without_back p xs
back_through p xs ys e =
    ap (λ zs. reverse (without_front p zs)) (reverse-append xs ys)
    ∙ ap reverse (front_through p (reverse ys) (reverse xs) (none_reversed (without_front p (reverse ys)) e))

pub back_stops : {A : Type 0} → (p : A → Bool) (xs ys : List A) → 0 < length (without_back p ys) → without_back p (xs ++ ys) ≡ xs ++ without_back p ys
back_stops p xs ys l =
    let same = length-reverse (without_front p (reverse ys)) in
    ap (λ zs. reverse (without_front p zs)) (reverse-append xs ys) ∙ ap reverse (front_stops p (reverse ys) (reverse xs) (omega (arith, same, l)))
    ∙ reverse-append (without_front p (reverse ys)) (reverse xs) ∙ ap (λ zs. zs ++ without_back p ys) (reverse-reverse xs)

-- ---- one piece

prefix_chars : (o : Option ℕ) (bs : List ℕ) → prefix_len (is_char_in is_space) (map (char o) bs) ≡ prefix_len is_space bs
prefix_chars o [] = refl
prefix_chars o (b ∷ bs) = ap (λ n. cond (is_space b) (1 + n) 0) (prefix_chars o bs)

front_chars : (o : Option ℕ) (bs : List ℕ) → without_front (is_char_in is_space) (map (char o) bs) ≡ map (char o) (without_front is_space bs)
front_chars o bs = ap (λ n. drop n (map (char o) bs)) (prefix_chars o bs) ∙ sym (drop_map (char o) (prefix_len is_space bs) bs)

back_chars : (o : Option ℕ) (bs : List ℕ) → without_back (is_char_in is_space) (map (char o) bs) ≡ map (char o) (without_back is_space bs)
back_chars o bs =
    ap (λ zs. reverse (without_front (is_char_in is_space) zs)) (sym (map_reverse (char o) bs)) ∙ ap reverse (front_chars o (reverse bs))
    ∙ sym (map_reverse (char o) (without_front is_space (reverse bs)))

pub chars_are : (p : Piece) → is_chars p.form ≡ true → items_of p ≡ map (char (call_of_origin p.origin)) (bytes_of p.text)
chars_are p e = by_form p.form e
  where
    by_form : (f : ItemForm) → is_chars f ≡ true → items_by f (call_of_origin p.origin) (bytes_of p.text) ≡ map (char (call_of_origin p.origin)) (bytes_of p.text)
    by_form form.Chars e = refl
    by_form (form.Entity c) e = cc
    by_form form.Nowiki e = cc
    by_form form.Extension e = cc
    by_form form.Function e = cc
    by_form form.Comment e = cc
    by_form form.Include e = cc
    by_form form.Hidden e = cc
    by_form form.EmptyCall e = cc

pub record Stays (p : Piece) : Type 0 where
  pub front : without_front (is_char_in is_space) (items_of p) ≡ items_of p
  pub back : without_back (is_char_in is_space) (items_of p) ≡ items_of p
  pub some : 0 < length (items_of p)

-- an atom or a mark isn't cut
pub other_stays : (p : Piece) → is_chars p.form ≡ false → Stays p
other_stays p e = let s = by_form p.form (call_of_origin p.origin) (bytes_of p.text) e in record { front = s.0; back = s.1; some = s.2 }
  where
    by_form : (f : ItemForm) (o : Option ℕ) (bs : List ℕ) → is_chars f ≡ false
        → (without_front (is_char_in is_space) (items_by f o bs) ≡ items_by f o bs) ×
        (without_back (is_char_in is_space) (items_by f o bs) ≡ items_by f o bs) × (0 < length (items_by f o bs))
    by_form form.Chars o bs e = cc
    by_form (form.Entity c) o bs e = (refl, refl, omega arith)
    by_form form.Nowiki o bs e = (refl, refl, omega arith)
    by_form form.Extension o bs e = (refl, refl, omega arith)
    by_form form.Function o bs e = (refl, refl, omega arith)
    by_form form.Comment o bs e = (refl, refl, omega arith)
    by_form form.Include o bs e = (refl, refl, omega arith)
    by_form form.Hidden o bs e = (refl, refl, omega arith)
    by_form form.EmptyCall o bs e = (refl, refl, omega arith)

-- a piece of characters has as many items as bytes
pub chars_count : (p : Piece) → is_chars p.form ≡ true → length (items_of p) ≡ length (bytes_of p.text)
chars_count p e = ap length (chars_are p e) ∙ length-map (bytes_of p.text) (char (call_of_origin p.origin))

front_is : (p q : Piece) → is_chars p.form ≡ true → q.form ≡ p.form → q.origin ≡ p.origin → bytes_of q.text ≡ without_front is_space (bytes_of p.text)
    → items_of q ≡ without_front (is_char_in is_space) (items_of p)
front_is p q e f o b =
    chars_are q (ap is_chars f ∙ e) ∙ ap (λ r. map (char (call_of_origin r)) (bytes_of q.text)) o ∙ ap (map (char (call_of_origin p.origin))) b
    ∙ sym (ap (without_front (is_char_in is_space)) (chars_are p e) ∙ front_chars (call_of_origin p.origin) (bytes_of p.text))

behind_is : (p q : Piece) → is_chars p.form ≡ true → q.form ≡ p.form → q.origin ≡ p.origin → bytes_of q.text ≡ without_back is_space (bytes_of p.text)
    → items_of q ≡ without_back (is_char_in is_space) (items_of p)
behind_is p q e f o b =
    chars_are q (ap is_chars f ∙ e) ∙ ap (λ r. map (char (call_of_origin r)) (bytes_of q.text)) o ∙ ap (map (char (call_of_origin p.origin))) b
    ∙ sym (ap (without_back (is_char_in is_space)) (chars_are p e) ∙ back_chars (call_of_origin p.origin) (bytes_of p.text))

-- nothing is left of a piece of blanks
pub front_gone : (p : Piece) (n : ℕ) → is_chars p.form ≡ true → n ≡ prefix_len is_space (bytes_of p.text) → n ≡ length (bytes_of p.text)
    → IsLeft (without_front (is_char_in is_space)) p None
front_gone p n e is all =
    let o = call_of_origin p.origin in
    ap (without_front (is_char_in is_space)) (chars_are p e) ∙ front_chars o (bytes_of p.text)
    ∙ ap (map (char o)) (drop_all (prefix_len is_space (bytes_of p.text)) (bytes_of p.text) (omega (arith, is, all)))

pub front_left : (p q : Piece) (n : ℕ) → is_chars p.form ≡ true → q.form ≡ p.form → q.origin ≡ p.origin → n ≡ prefix_len is_space (bytes_of p.text)
    → bytes_of q.text ≡ drop n (bytes_of p.text) → (n ≡ length (bytes_of p.text) → ⊥) → IsLeft (without_front (is_char_in is_space)) p (Some q)
front_left p q n e f o is b some =
    let w = prefix_len-le-length is_space (bytes_of p.text) in
    let count = chars_count q (ap is_chars f ∙ e) ∙ ap length b ∙ length-drop n (bytes_of p.text) in
    (front_is p q e f o (b ∙ ap (λ k. drop k (bytes_of p.text)) is), below n (length (bytes_of p.text)) (length (items_of q)) (omega (arith, is, w)) some count)
  where
    below : (n l c : ℕ) → n ≤ l → (n ≡ l → ⊥) → c ≡ l - n → 0 < c
    below n l c le other e = omega (arith, le, other, e)

pub back_gone : (p : Piece) (n : ℕ) → is_chars p.form ≡ true → n ≡ length (bytes_of p.text) - prefix_len is_space (reverse (bytes_of p.text)) → n ≡ 0
    → IsLeft (without_back (is_char_in is_space)) p None
back_gone p n e is none =
    let o = call_of_origin p.origin in
    ap (without_back (is_char_in is_space)) (chars_are p e) ∙ back_chars o (bytes_of p.text)
    ∙ ap (map (char o)) (back_is is_space (bytes_of p.text) ∙ ap (λ k. take k (bytes_of p.text)) (sym is ∙ none))

pub back_left : (p q : Piece) (n : ℕ) → is_chars p.form ≡ true → q.form ≡ p.form → q.origin ≡ p.origin
    → n ≡ length (bytes_of p.text) - prefix_len is_space (reverse (bytes_of p.text)) → bytes_of q.text ≡ take n (bytes_of p.text) → (n ≡ 0 → ⊥)
    → IsLeft (without_back (is_char_in is_space)) p (Some q)
back_left p q n e f o is b some =
    let count = chars_count q (ap is_chars f ∙ e) ∙ ap length b ∙ length-take-le n (bytes_of p.text) (omega (arith, is)) in
    (behind_is p q e f o (b ∙ ap (λ k. take k (bytes_of p.text)) is ∙ sym (back_is is_space (bytes_of p.text))), above n (length (items_of q)) some count)
  where
    above : (n c : ℕ) → (n ≡ 0 → ⊥) → c ≡ n → 0 < c
    above n c other e = omega (arith, other, e)

-- ---- pieces in a row

pub items_split : (ps : List Piece) (i : ℕ) (d : Piece) → i < length ps → items (drop i ps) ≡ items_of (get_or ps i d) ++ items (drop (i + 1) ps)
items_split ps i d l = ap items (drop_more ps i d l)

pub items_more : (ps : List Piece) (p : Piece) → items (ps ++ p ∷ []) ≡ items ps ++ items_of p
items_more ps p = flat_map-append items_of ps (p ∷ []) ∙ ap (λ xs. items ps ++ xs) (append-nil (items_of p))

pub items_last : (ps : List Piece) (n : ℕ) (d : Piece) → n < length ps → items (take (n + 1) ps) ≡ items (take n ps) ++ items_of (get_or ps n d)
items_last ps n d l = ap items (take_more ps n d l) ∙ items_more (take n ps) (get_or ps n d)

-- ---- the first piece of which something is left

front_row : (ps : List Piece) (i : ℕ) (p : Piece) → i < length ps → p ≡ get_or ps i p → items (drop i ps) ≡ items_of p ++ items (drop (i + 1) ps)
front_row ps i p l is = items_split ps i p l ∙ ap (λ q. items_of q ++ items (drop (i + 1) ps)) (sym is)

pub front_on : (ps : List Piece) (i : ℕ) (p : Piece) (all : List Item) → i < length ps → p ≡ get_or ps i p → IsLeft (without_front (is_char_in is_space)) p None
    → without_front (is_char_in is_space) (items (drop i ps)) ≡ all → without_front (is_char_in is_space) (items (drop (i + 1) ps)) ≡ all
front_on ps i p all l is none e =
    sym (ap (without_front (is_char_in is_space)) (front_row ps i p l is) ∙ front_through (is_char_in is_space) (items_of p) (items (drop (i + 1) ps)) none) ∙ e

pub front_found : (ps rest found : List Piece) (i : ℕ) (p q : Piece) (all : List Item) → i < length ps → p ≡ get_or ps i p
    → IsLeft (without_front (is_char_in is_space)) p (Some q)
    → rest ≡ drop (i + 1) ps → found ≡ q ∷ rest → without_front (is_char_in is_space) (items (drop i ps)) ≡ all → items found ≡ all
front_found ps rest found i p q all l is left r f e =
    let P : List Item → Type 0 = λ xs. 0 < length xs in
    ap items f ∙ ap (λ xs. items_of q ++ items xs) r ∙ ap (λ xs. xs ++ items (drop (i + 1) ps)) left.0
    ∙ sym (front_stops (is_char_in is_space) (items_of p) (items (drop (i + 1) ps)) (subst P left.0 left.1))
    ∙ sym (ap (without_front (is_char_in is_space)) (front_row ps i p l is)) ∙ e

back_row : (ps : List Piece) (n : ℕ) (p : Piece) → n < length ps → p ≡ get_or ps n p → items (take (n + 1) ps) ≡ items (take n ps) ++ items_of p
back_row ps n p l is = items_last ps n p l ∙ ap (λ q. items (take n ps) ++ items_of q) (sym is)

pub back_on : (ps : List Piece) (end n : ℕ) (p : Piece) (all : List Item) → end ≡ n + 1 → n < length ps → p ≡ get_or ps n p
    → IsLeft (without_back (is_char_in is_space)) p None
    → without_back (is_char_in is_space) (items (take end ps)) ≡ all → without_back (is_char_in is_space) (items (take n ps)) ≡ all
back_on ps end n p all z l is none e =
    sym (ap (λ k. without_back (is_char_in is_space) (items (take k ps))) z ∙ ap (without_back (is_char_in is_space)) (back_row ps n p l is)
    ∙ back_through (is_char_in is_space) (items (take n ps)) (items_of p) none) ∙ e

pub back_found : (ps front found : List Piece) (end n : ℕ) (p q : Piece) (all : List Item) → end ≡ n + 1 → n < length ps → p ≡ get_or ps n p
    → IsLeft (without_back (is_char_in is_space)) p (Some q) → front ≡ take n ps → found ≡ front ++ q ∷ []
    → without_back (is_char_in is_space) (items (take end ps)) ≡ all → items found ≡ all
back_found ps front found end n p q all z l is left r f e =
    let P : List Item → Type 0 = λ xs. 0 < length xs in
    ap items f ∙ ap (λ xs. items (xs ++ q ∷ [])) r ∙ items_more (take n ps) q ∙ ap (λ xs. items (take n ps) ++ xs) left.0
    ∙ sym (back_stops (is_char_in is_space) (items (take n ps)) (items_of p) (subst P left.0 left.1))
    ∙ sym (ap (λ k. without_back (is_char_in is_space) (items (take k ps))) z ∙ ap (without_back (is_char_in is_space)) (back_row ps n p l is)) ∙ e
