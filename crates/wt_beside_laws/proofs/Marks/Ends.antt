-- Whether a line break is the last byte of a node's source: of a line of comments it is, of no other node.
use Rattle.std.proofs.Common.{arith, ◌≡◌, ℕ, zero, suc, ◌+◌, ◌-◌, ◌<◌, ◌==◌, Bool, true, false, List, [], ◌∷◌, ◌++◌, length, drop, refl, sym, ap, ◌∙◌, subst, inl, inr}
use Rattle.std.specs.Prelude.{◌||◌, nat_eq, slice_get}
use Rattle.std.specs.Cmp.Lexicographic.{pointwise}
use Rattle.std.proofs.lemmas.Bool.Decides.{nat_tests}
use Rattle.wt_span.specs.Bytes.{is_break}
use Rattle.wt_span.specs.Items.{Item, char, whole, sources}
use Rattle.wt_guards.specs.declared.role.Role.{Role}
use Rattle.wt_guards.specs.declared.role.Role.TheVariants.{Link, External, Bare, Switch, Toggle, Mark, Group, Function, Node}
use Rattle.wt_guards.specs.Content.{ends_line}
use Rattle.wt_guards.specs.Guards.{is_mark as is_mark_role}
use Rattle.wt_original.specs.Kept.{is_break_at}
use Rattle.wt_expand.specs.PageItems.{page_items}
use Rattle.wt_expand.proofs.PageLaws.{page_sources}
use Rattle.wt_text_edit_laws.specs.LonePages.{page_chars}
use Rattle.wt_text_edit_laws.specs.TextBetween.{EndsBy}
use Rattle.wt_beside_laws.specs.Commented.{IsCommentLine, LexemesEnd, IsReadInLine, IsHeld, EndsAsSaid}
use Rattle.wt_beside_laws.specs.Kept.{Part, characters, sign, lexeme, is_lexeme_end, IsPart, AreParts, part_source, parts_source, part_items, parts_items, IsKept}
use Rattle.wt_beside_laws.specs.PageSigns.{ends_break, HasNoBreak}
use Rattle.wt_beside_laws.proofs.Firm.{ReadsAs, alone_as, parts_read}

-- ---- the last byte

-- the last of these bytes is a line break or not, if there is one
abbrev pub LastIs : Bool → List ℕ → Type 0
LastIs v [] = Unit {0}
LastIs v (b ∷ []) = (b == 10) ≡ v
LastIs v (b ∷ c ∷ bs) = LastIs v (c ∷ bs)

pub last_of : (v : Bool) (pre bs : List ℕ) → 0 < length bs → LastIs v bs → LastIs v (pre ++ bs)
last_of v [] bs some h = h
last_of v (x ∷ []) [] some h = absurd (omega (arith, some))
last_of v (x ∷ []) (y ∷ ys) some h = h
last_of v (x ∷ z ∷ xs) bs some h = last_of v (z ∷ xs) bs some h

both_end : (v : Bool) (xs ys : List ℕ) → LastIs v xs → LastIs v ys → LastIs v (xs ++ ys)
both_end v [] ys h k = k
both_end v (x ∷ []) [] h k = h
both_end v (x ∷ []) (y ∷ ys) h k = k
both_end v (x ∷ z ∷ xs) ys h k = both_end v (z ∷ xs) ys h k

pub last_at : (v : Bool) (i : ℕ) (bs more : List ℕ) → suc i ≡ length bs → LastIs v bs → is_break_at (slice_get (bs ++ more) i) ≡ v
last_at v i [] more e h = absurd (omega (arith, e))
last_at v zero (b ∷ []) more e h = h
last_at v (suc i) (b ∷ []) more e h = absurd (omega (arith, e))
last_at v zero (b ∷ c ∷ bs) more e h = absurd (omega (arith, e))
last_at v (suc i) (b ∷ c ∷ bs) more e h = last_at v i (c ∷ bs) more (omega (arith, e)) h

one_last : (v : Bool) (b : ℕ) → (b == 10) ≡ v → pointwise nat_eq (10 ∷ []) (b ∷ []) ≡ v
one_last true b e = let flip : (10 == b) ≡ true = grind (arith, nat_tests, e) in rw flip refl
one_last false b e = let flip : (10 == b) ≡ false = grind (arith, nat_tests, e) in rw flip refl

all_last : (v : Bool) (i : ℕ) (bs : List ℕ) → suc i ≡ length bs → LastIs v bs → pointwise nat_eq (10 ∷ []) (drop i bs) ≡ v
all_last v i [] e h = absurd (omega (arith, e))
all_last v zero (b ∷ []) e h = one_last v b h
all_last v (suc i) (b ∷ []) e h = absurd (omega (arith, e))
all_last v zero (b ∷ c ∷ bs) e h = absurd (omega (arith, e))
all_last v (suc i) (b ∷ c ∷ bs) e h = all_last v i (c ∷ bs) (omega (arith, e)) h

pub ends_so : (v : Bool) (bs : List ℕ) → 0 < length bs → LastIs v bs → ends_break bs ≡ v
ends_so v [] some h = absurd (omega (arith, some))
ends_so v (b ∷ bs) some h =
    let z : length (b ∷ bs) - 1 ≡ length bs = omega arith in
    ap (λ (i : ℕ). pointwise nat_eq (10 ∷ []) (drop i (b ∷ bs))) z ∙ all_last v (length bs) (b ∷ bs) refl h

pub as_ended : (v : Bool) (bs : List ℕ) → 0 < length bs → LastIs v bs → LastIs (ends_break bs) bs
as_ended v bs some h = subst (λ (u : Bool). LastIs u bs) (sym (ends_so v bs some h)) h

unended : (bs : List ℕ) → LastIs false bs → ends_break bs ≡ false
unended [] h = refl
unended (b ∷ bs) h = ends_so false (b ∷ bs) (omega arith) h

-- ---- a source

no_breaks : (xs ys : List Item) → HasNoBreak (xs ++ ys) → HasNoBreak xs × HasNoBreak ys
no_breaks [] ys h = (tt, h)
no_breaks (x ∷ xs) ys h = let r = no_breaks xs ys h.1 in ((h.0, r.0), r.1)

chars_end : (bs : List ℕ) → HasNoBreak (page_chars bs) → LastIs false bs
chars_end [] h = tt
chars_end (b ∷ []) h = h.0
chars_end (b ∷ c ∷ bs) h = chars_end (c ∷ bs) h.1

lexeme_end : (bs : List ℕ) → EndsBy is_lexeme_end bs → LastIs false bs
lexeme_end [] h = tt
lexeme_end (b ∷ []) h = other (b == 62) (b == 59) refl refl h
  where
    other : (u v : Bool) → (b == 62) ≡ u → (b == 59) ≡ v → (u || v) ≡ true → (b == 10) ≡ false
    other true v e f i = let is : b ≡ 62 = grind (arith, nat_tests, e) in subst (λ (k : ℕ). (k == 10) ≡ false) (sym is) refl
    other false true e f i = let is : b ≡ 59 = grind (arith, nat_tests, f) in subst (λ (k : ℕ). (k == 10) ≡ false) (sym is) refl
    other false false e f i = cc
lexeme_end (b ∷ c ∷ bs) h = lexeme_end (c ∷ bs) h

line_end : (bs : List ℕ) → EndsBy is_break bs → LastIs true bs
line_end [] h = tt
line_end (b ∷ []) h = h
line_end (b ∷ c ∷ bs) h = line_end (c ∷ bs) h

part_end : (p : Part) → IsPart p → HasNoBreak (part_items p) → LastIs false (part_source p)
part_end (characters bs) h n = chars_end bs n
part_end (sign b q) h n = chars_end (b ∷ q) n
part_end (lexeme k b q) h n = lexeme_end (b ∷ q) h.ends

parts_end : (ps : List Part) → AreParts ps → HasNoBreak (parts_items ps) → LastIs false (parts_source ps)
parts_end [] h n = tt
parts_end (p ∷ ps) h n =
    let cut = no_breaks (part_items p) (parts_items ps) n in
    both_end false (part_source p) (parts_source ps) (part_end p h.0 cut.0) (parts_end ps h.1 cut.1)

kept_end : (q : List ℕ) → IsKept q → HasNoBreak (page_items q) → LastIs false q
kept_end q h n =
    let own : ReadsAs q (parts_items h.parts) = subst (λ bs. ReadsAs bs (parts_items h.parts)) h.is (parts_read h.parts h.are) in
    subst (LastIs false) h.is (parts_end h.parts h.are (subst HasNoBreak (alone_as q (parts_items h.parts) own) n))

pub items_end : (xs : List Item) → HasNoBreak xs → LexemesEnd xs → LastIs false (sources xs)
items_end [] n h = tt
items_end (char o b ∷ xs) n h = both_end false (b ∷ []) (sources xs) n.0 (items_end xs n.1 h)
items_end (whole f o bs ∷ xs) n h = both_end false bs (sources xs) (lexeme_end bs h.0) (items_end xs n.1 h.1)

read_end : (q : List ℕ) → IsReadInLine q → LastIs false q
read_end q h = subst (LastIs false) (page_sources q) (items_end (page_items q) h.unbroken h.ends)

-- ---- a node

pub held_end : (q : List ℕ) → 0 < length q → IsHeld q → LastIs (ends_break q) q
held_end q some (inl k) = as_ended false q some (kept_end q k.0 k.1)
held_end q some (inr (inl c)) = as_ended false q some (subst (LastIs false) (sym c.is) (lexeme_end (60 ∷ c.others) c.comment.ends))
held_end q some (inr (inr (inl l))) = as_ended true q some (subst (LastIs true) (sym l.is) (line_end (l.first ∷ l.others) l.ends))
held_end q some (inr (inr (inr r))) = as_ended false q some (read_end q r)

pub read_unended : (q : List ℕ) → IsReadInLine q → ends_break q ≡ false
read_unended q h = unended q (read_end q h)

pub kept_unended : (q : List ℕ) → IsKept q → HasNoBreak (page_items q) → ends_break q ≡ false
kept_unended q k n = unended q (kept_end q k n)

pub comment_unended : (q : List ℕ) → EndsBy is_lexeme_end q → ends_break q ≡ false
comment_unended q h = unended q (lexeme_end q h)

pub line_ended : (q : List ℕ) → IsCommentLine q → ends_break q ≡ true
line_ended q l =
    ap ends_break l.is ∙ ends_so true (l.first ∷ l.others) (omega arith) (line_end (l.first ∷ l.others) l.ends)

-- ---- so its role says

pub ended_role : (r : Role) (source : List ℕ) → is_mark_role r ≡ true → EndsAsSaid r source → ends_break source ≡ true → ends_line r ≡ true
ended_role Link source m e h = cc
ended_role External source m e h = cc
ended_role (Bare ends) source m e h = cc
ended_role Switch source m e h = cc
ended_role Toggle source m e h = cc
ended_role (Mark ends began) source m e h = sym e ∙ h
ended_role (Group g) source m e h = cc
ended_role Function source m e h = cc
ended_role Node source m e h = cc

pub unended_role : (r : Role) (source : List ℕ) → EndsAsSaid r source → ends_break source ≡ false → ends_line r ≡ false
unended_role Link source e h = refl
unended_role External source e h = refl
unended_role (Bare ends) source e h = refl
unended_role Switch source e h = refl
unended_role Toggle source e h = refl
unended_role (Mark ends began) source e h = sym e ∙ h
unended_role (Group g) source e h = refl
unended_role Function source e h = refl
unended_role Node source e h = refl
