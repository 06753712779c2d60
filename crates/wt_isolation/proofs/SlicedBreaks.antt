-- The line break before a call at the beginning of pieces.
use Rattle.std.proofs.Common.{◌≡◌, ℕ, suc, ◌+◌, ◌<◌, Bool, true, false, cond, Option, Some, List, [], ◌∷◌, ◌++◌, length, get_or, map, take, refl, sym, ap, ◌∙◌, arith}
use Rattle.std.specs.Prelude.{◌==◌, ◌||◌, ◌&&◌, All, codes}
use Rattle.std.specs.List.{prefix_len}
use Rattle.std.proofs.lemmas.List.Elements.{All-head, All-tail}
use Rattle.wt_span.specs.declared.form.ItemForm.{ItemForm}
use Rattle.wt_span.specs.declared.form.ItemForm.TheVariants as form
use Rattle.wt_span.specs.declared.form.Piece.{Piece}
use Rattle.wt_span.specs.declared.range.Range.{Range}
use Rattle.wt_span.specs.declared.origin.Origin.{Origin}
use Rattle.wt_span.specs.declared.origin.Origin.TheVariants as origin
use Rattle.wt_span.specs.Slice.{bytes_of}
use Rattle.wt_span.specs.Items.{Item, char, whole, sign, is_mark_form, call_of_origin, items_by, items_of, items}
use Rattle.wt_span.specs.Origins.{OuterCall, IsSoundPiece, same_call}
use Rattle.wt_span.specs.Tags.{opening_tag, tag_after, with_inside}
use Rattle.wt_span.specs.Whole.{IsWhole}
use Rattle.wt_expand.specs.Expansion.{is_block_sign, opens_block}
use Rattle.wt_isolation.specs.GroupItems.{needs_break, given_first, break_of, break_before}
use Rattle.wt_isolation.specs.PieceParts.{begins_with_bar, signs_open}

-- ---- signs

bar_first : (xs : List Item) → Rattle.wt_expand.specs.Expansion.begins_with_bar xs ≡ begins_with_bar (map sign xs)
bar_first [] = refl
bar_first (char o b ∷ xs) = refl
bar_first (whole f o bs ∷ xs) = no_bar (is_mark_form f)
  where
    no_bar : (v : Bool) → false ≡ (cond v 257 256 == 124)
    no_bar true = refl
    no_bar false = refl

no_sign : (v : Bool) (w : Bool) → false ≡ (is_block_sign (cond v 257 256) || (cond v 257 256 == 123 && w))
no_sign true w = refl
no_sign false w = refl

-- what opens a block is told by signs
pub opens_by_signs : (xs : List Item) → opens_block xs ≡ signs_open (map sign xs)
opens_by_signs [] = refl
opens_by_signs (char o b ∷ xs) = ap (λ v. is_block_sign b || (b == 123 && v)) (bar_first xs)
opens_by_signs (whole f o bs ∷ xs) = no_sign (is_mark_form f) (begins_with_bar (map sign xs))

-- ---- what one call gave

same_chars : (k : ℕ) (o : Option ℕ) (bs : List ℕ) (xs : List Item) → same_call (Some k) o ≡ true
    → given_first k (map (char o) bs ++ xs) ≡ map (char o) bs ++ given_first k xs
same_chars k o [] xs t = refl
same_chars k o (b ∷ bs) xs t = rw t (ap (λ ys. char o b ∷ ys) (same_chars k o bs xs t))

same_by : (k : ℕ) (f : ItemForm) (o : Option ℕ) (bs : List ℕ) (xs : List Item) → same_call (Some k) o ≡ true
    → given_first k (items_by f o bs ++ xs) ≡ items_by f o bs ++ given_first k xs
same_by k form.Chars o bs xs t = same_chars k o bs xs t
same_by k (form.Entity c) o bs xs t = rw t refl
same_by k form.Nowiki o bs xs t = rw t refl
same_by k form.Extension o bs xs t = rw t refl
same_by k form.Function o bs xs t = rw t refl
same_by k form.Comment o bs xs t = rw t refl
same_by k form.Include o bs xs t = rw t refl
same_by k form.Hidden o bs xs t = rw t refl
same_by k form.EmptyCall o bs xs t = rw t refl

other_by : (k : ℕ) (f : ItemForm) (o : Option ℕ) (bs : List ℕ) (xs : List Item) → IsWhole f bs → same_call (Some k) o ≡ false
    → given_first k (items_by f o bs ++ xs) ≡ []
other_by k form.Chars o [] xs h t = absurd (omega (arith, h))
other_by k form.Chars o (b ∷ bs) xs h t = rw t refl
other_by k (form.Entity c) o bs xs h t = rw t refl
other_by k form.Nowiki o bs xs h t = rw t refl
other_by k form.Extension o bs xs h t = rw t refl
other_by k form.Function o bs xs h t = rw t refl
other_by k form.Comment o bs xs h t = rw t refl
other_by k form.Include o bs xs h t = rw t refl
other_by k form.Hidden o bs xs h t = rw t refl
other_by k form.EmptyCall o bs xs h t = rw t refl

abbrev pub given_count : ℕ → List Piece → ℕ
given_count k ps = prefix_len (λ p. same_call (Some k) (call_of_origin p.origin)) ps

given_step : (k : ℕ) (p : Piece) (ps : List Piece) (v : Bool) → same_call (Some k) (call_of_origin p.origin) ≡ v → IsSoundPiece p
    → items (take (given_count k ps) ps) ≡ given_first k (items ps)
    → items (take (cond v (1 + given_count k ps) 0) (p ∷ ps)) ≡ given_first k (items_of p ++ items ps)
given_step k p ps true t h rest =
    let e : 1 + given_count k ps ≡ suc (given_count k ps) = omega arith in
    ap (λ (n : ℕ). items (take n (p ∷ ps))) e ∙ ap (λ xs. items_of p ++ xs) rest
    ∙ sym (same_by k p.form (call_of_origin p.origin) (bytes_of p.text) (items ps) t)
given_step k p ps false t h rest = sym (other_by k p.form (call_of_origin p.origin) (bytes_of p.text) (items ps) h.whole t)

-- the pieces at the beginning that one call gave hold the items that it gave
pub given_pieces : (k : ℕ) (ps : List Piece) → All IsSoundPiece ps → items (take (given_count k ps) ps) ≡ given_first k (items ps)
given_pieces k [] h = refl
given_pieces k (p ∷ ps) h =
    given_step k p ps (same_call (Some k) (call_of_origin p.origin)) refl (All-head IsSoundPiece p ps h)
    (given_pieces k ps (All-tail IsSoundPiece p ps h))

-- ---- the break

before_by : (cs : List OuterCall) (f : ItemForm) (o : Option ℕ) (bs : List ℕ) (xs : List Item) → IsWhole f bs
    → break_before cs (items_by f o bs ++ xs) ≡ break_of cs o (items_by f o bs ++ xs)
before_by cs form.Chars o [] xs h = absurd (omega (arith, h))
before_by cs form.Chars o (b ∷ bs) xs h = refl
before_by cs (form.Entity c) o bs xs h = refl
before_by cs form.Nowiki o bs xs h = refl
before_by cs form.Extension o bs xs h = refl
before_by cs form.Function o bs xs h = refl
before_by cs form.Comment o bs xs h = refl
before_by cs form.Include o bs xs h = refl
before_by cs form.Hidden o bs xs h = refl
before_by cs form.EmptyCall o bs xs h = refl

-- the first piece tells which call the break is of
pub before_piece : (cs : List OuterCall) (p : Piece) (ps : List Piece) → IsSoundPiece p
    → break_before cs (items (p ∷ ps)) ≡ break_of cs (call_of_origin p.origin) (items (p ∷ ps))
before_piece cs p ps h = before_by cs p.form (call_of_origin p.origin) (bytes_of p.text) (items ps) h.whole

first_origin : (cs : List OuterCall) (ps : List Piece) (p : Piece) → All IsSoundPiece ps → 0 < length ps → p ≡ get_or ps 0 p
    → break_before cs (items ps) ≡ break_of cs (call_of_origin p.origin) (items ps)
first_origin cs [] p h l e = absurd (omega (arith, l))
first_origin cs (q ∷ qs) p h l e =
    before_piece cs q qs (All-head IsSoundPiece q qs h) ∙ ap (λ (x : Piece). break_of cs (call_of_origin x.origin) (items (q ∷ qs))) (sym e)

pub no_break_of_page : (cs : List OuterCall) (ps : List Piece) (p : Piece) (r : Range) → All IsSoundPiece ps → 0 < length ps → p ≡ get_or ps 0 p
    → p.origin ≡ origin.Page r → break_before cs (items ps) ≡ []
no_break_of_page cs ps p r h l e o = first_origin cs ps p h l e ∙ ap (λ (x : Origin). break_of cs (call_of_origin x) (items ps)) o

pub break_of_call : (cs : List OuterCall) (ps given : List Piece) (p : Piece) (k n : ℕ) → All IsSoundPiece ps → 0 < length ps → p ≡ get_or ps 0 p
    → p.origin ≡ origin.Call k → n ≡ given_count k ps → given ≡ take n ps
    → break_before cs (items ps) ≡ cond (needs_break cs k (items given)) (char (Some k) 10 ∷ []) []
break_of_call cs ps given p k n h l e o m g =
    let own : items given ≡ given_first k (items ps) = ap items g ∙ ap (λ (j : ℕ). items (take j ps)) m ∙ given_pieces k ps h in
    first_origin cs ps p h l e ∙ ap (λ (x : Origin). break_of cs (call_of_origin x) (items ps)) o
    ∙ ap (λ xs. cond (needs_break cs k xs) (char (Some k) 10 ∷ []) []) (sym own)

-- ---- the empty tag

pub nowiki_is_whole : IsWhole form.Nowiki (codes "<nowiki/>")
unfolding opening_tag tag_after with_inside
nowiki_is_whole = refl
