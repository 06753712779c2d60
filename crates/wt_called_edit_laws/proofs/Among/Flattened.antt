-- The items of a page, where calls are characters, are those of its members: of a call its braces, and what is between them.
use Rattle.std.proofs.Common.{arith, ◌≡◌, ℕ, zero, suc, ◌+◌, ◌-◌, ◌≤◌, Bool, true, false, None, List, [], ◌∷◌, ◌++◌, map, take, drop, refl, sym, ap, ap₂, ◌∙◌, subst, append_assoc, append-nil}
use Rattle.std.specs.Prelude.{◌==◌, if◌then◌else◌}
use Rattle.std.proofs.lemmas.Bool.Decides.{nat_tests}
use Rattle.std.proofs.lemmas.List.{drop-drop, map-append}
use Rattle.std.proofs.Math.Seq.{take-add}
use Rattle.wt_span.specs.declared.form.Mode.TheVariants.{Page}
use Rattle.wt_span.specs.declared.form.LexKind.{LexKind}
use Rattle.wt_span.specs.declared.form.LexKind.TheVariants.{Opens, Closes}
use Rattle.wt_span.specs.Items.{Item, char}
use Rattle.wt_span.specs.Lexemes.{Word, words}
use Rattle.wt_span.specs.Braces.{Member, Members, lexeme, call, none, more, members, taken, left_over, reduced}
use Rattle.wt_braces.specs.Rewriting.{as_members, IsStep, AreSteps}
use Rattle.wt_braces.specs.Words.{total_width}
use Rattle.wt_braces.proofs.Reached.{one_end, lexemes_have_braces}
use Rattle.wt_braces.proofs.Takings.{taking}
use Rattle.wt_expand.specs.PageItems.{items_of_word, items_of_words, page_items}
use Rattle.wt_called_edit_laws.proofs.Among.OpenRuns.{AreOpened, drop_none, opened_split, opened_join, run_opened, words_opened}
use Rattle.wt_called_edit_laws.proofs.Among.PartsApart.{members_of}

-- ---- the lexemes of members

abbrev mutual
  pub flat : Member → List Word
  flat (lexeme w) = w ∷ []
  flat (call k ms) = (Opens, k) ∷ (flat_all ms ++ (Closes, k) ∷ [])

  pub flat_all : Members → List Word
  flat_all none = []
  flat_all (more m ms) = flat m ++ flat_all ms

-- a call's, with what is between its braces
abbrev call_words : ℕ → List Word → List Word
call_words k ws = (Opens, k) ∷ (ws ++ (Closes, k) ∷ [])

abbrev flat_list : List Member → List Word
flat_list xs = flat_all (members xs)

flat_append : (xs ys : List Member) → flat_list (xs ++ ys) ≡ flat_list xs ++ flat_list ys
flat_append [] ys = refl
flat_append (x ∷ xs) ys = ap (λ us. flat x ++ us) (flat_append xs ys) ∙ sym (append_assoc (flat x) (flat_list xs) (flat_list ys))

flat_lexemes : (ws : List Word) → flat_list (as_members ws) ≡ ws
flat_lexemes [] = refl
flat_lexemes (w ∷ ws) = ap (λ us. w ∷ us) (flat_lexemes ws)

-- ---- the items of lexemes

take_none : (bs : List ℕ) → take 0 bs ≡ []
take_none [] = refl
take_none (b ∷ bs) = refl

pub items_append : (us vs : List Word) (bs : List ℕ) → items_of_words (us ++ vs) bs ≡ items_of_words us bs ++ items_of_words vs (drop (total_width us) bs)
items_append [] vs bs = ap (items_of_words vs) (sym (drop_none bs))
items_append ((kind, n) ∷ us) vs bs =
    let own : List Item = items_of_word kind (take n bs) in
    ap (λ xs. own ++ xs) (items_append us vs (drop n bs) ∙ ap (λ cs. items_of_words us (drop n bs) ++ items_of_words vs cs) (drop-drop (total_width us) n bs))
    ∙ sym (append_assoc own (items_of_words us (drop n bs)) (items_of_words vs (drop (n + total_width us) bs)))

pub width_append : (us vs : List Word) → total_width (us ++ vs) ≡ total_width us + total_width vs
width_append [] vs = omega arith
width_append (u ∷ us) vs = let e = width_append us vs in omega (arith, e)

-- lexemes that take the same bytes and have the same items; where what opens calls is braces in those, so it is in these
record AreSame (us vs : List Word) : Type 0 where
  width : total_width us ≡ total_width vs
  items : (bs : List ℕ) → items_of_words us bs ≡ items_of_words vs bs
  opens : (bs : List ℕ) → AreOpened us bs → AreOpened vs bs

same_so : (us vs : List Word) → us ≡ vs → AreSame us vs
same_so us vs e = record {
  width = ap total_width e;
  items = λ bs. ap (λ (ws : List Word). items_of_words ws bs) e;
  opens = λ bs h. subst (λ (ws : List Word). AreOpened ws bs) e h;
}

same_both : (us vs ws : List Word) → AreSame us vs → AreSame vs ws → AreSame us ws
same_both us vs ws f g = record { width = f.width ∙ g.width; items = λ bs. f.items bs ∙ g.items bs; opens = λ bs h. g.opens bs (f.opens bs h) }

same_front : (xs us vs : List Word) → AreSame us vs → AreSame (xs ++ us) (xs ++ vs)
same_front xs us vs f = record {
  width = width_append xs us ∙ ap (λ (n : ℕ). total_width xs + n) f.width ∙ sym (width_append xs vs);
  items = λ bs.
      items_append xs us bs ∙ ap (λ is. items_of_words xs bs ++ is) (f.items (drop (total_width xs) bs)) ∙ sym (items_append xs vs bs);
  opens = λ bs h. let r = opened_split xs us bs h in opened_join xs vs bs r.0 (f.opens (drop (total_width xs) bs) r.1);
}

same_behind : (us vs zs : List Word) → AreSame us vs → AreSame (us ++ zs) (vs ++ zs)
same_behind us vs zs f = record {
  width = width_append us zs ∙ ap (λ (n : ℕ). n + total_width zs) f.width ∙ sym (width_append vs zs);
  items = λ bs.
      items_append us zs bs
      ∙ ap₂ (λ (is : List Item) (n : ℕ). is ++ items_of_words zs (drop n bs)) (f.items bs) f.width
      ∙ sym (items_append vs zs bs);
  opens = λ bs h.
      let r = opened_split us zs bs h in opened_join vs zs bs (f.opens bs r.0) (subst (λ (n : ℕ). AreOpened zs (drop n bs)) f.width r.1);
}

-- ---- runs of braces in two

-- each byte of it is a character
abbrev IsRun : LexKind → Type 0
IsRun kind = (bs : List ℕ) → items_of_word kind bs ≡ map (char None) bs

run_split : (kind : LexKind) (n i j : ℕ) → IsRun kind → n ≡ i + j → AreSame ((kind, n) ∷ []) ((kind, i) ∷ (kind, j) ∷ [])
run_split kind n i j r e = record {
  width = omega (arith, e);
  items = λ bs.
      ap (λ is. is ++ [])
      (ap (λ (k : ℕ). items_of_word kind (take k bs)) e ∙ r (take (i + j) bs) ∙ ap (map (char None)) (take-add i j bs)
      ∙ map-append (char None) (take i bs) (take j (drop i bs))
      ∙ ap₂ (λ (xs ys : List Item). xs ++ ys) (sym (r (take i bs))) (sym (r (take j (drop i bs)))))
      ∙ append_assoc (items_of_word kind (take i bs)) (items_of_word kind (take j (drop i bs))) [];
  opens = λ bs h. run_opened kind n i j bs e h;
}

-- one of no braces is none
left_same : (kind : LexKind) (n : ℕ) → IsRun kind → AreSame ((kind, n) ∷ []) (flat_list (left_over kind n))
left_same kind n r = by (n == 0) refl
  where
    by : (t : Bool) → (n == 0) ≡ t → AreSame ((kind, n) ∷ []) (flat_list (if t then [] else lexeme (kind, n) ∷ []))
    by true e =
        let z : n ≡ 0 = grind (arith, nat_tests, e) in
        record {
          width = omega (arith, z);
          items = λ bs.
              ap (λ (k : ℕ). items_of_word kind (take k bs) ++ []) z ∙ append-nil (items_of_word kind (take 0 bs))
              ∙ ap (items_of_word kind) (take_none bs) ∙ r [];
          opens = λ bs h. tt;
        }
    by false e = same_so ((kind, n) ∷ []) ((kind, n) ∷ []) refl

-- ---- one call more

opens_run : IsRun Opens
opens_run bs = refl

closes_run : IsRun Closes
closes_run bs = refl

front_same : (o k : ℕ) → k ≤ o → AreSame ((Opens, o) ∷ []) (flat_list (left_over Opens (o - k)) ++ (Opens, k) ∷ [])
front_same o k le =
    let e : o ≡ (o - k) + k = omega (arith, le) in
    same_both ((Opens, o) ∷ []) ((Opens, o - k) ∷ (Opens, k) ∷ []) (flat_list (left_over Opens (o - k)) ++ (Opens, k) ∷ [])
    (run_split Opens o (o - k) k opens_run e)
    (same_behind ((Opens, o - k) ∷ []) (flat_list (left_over Opens (o - k))) ((Opens, k) ∷ []) (left_same Opens (o - k) opens_run))

back_same : (c k : ℕ) → k ≤ c → AreSame ((Closes, c) ∷ []) ((Closes, k) ∷ flat_list (left_over Closes (c - k)))
back_same c k le =
    let e : c ≡ k + (c - k) = omega (arith, le) in
    same_both ((Closes, c) ∷ []) ((Closes, k) ∷ (Closes, c - k) ∷ []) ((Closes, k) ∷ flat_list (left_over Closes (c - k)))
    (run_split Closes c k (c - k) closes_run e)
    (same_front ((Closes, k) ∷ []) ((Closes, c - k) ∷ []) (flat_list (left_over Closes (c - k))) (left_same Closes (c - k) closes_run))

-- of the run, what is in the call, and what is behind it
inner_same : (o c k : ℕ) (inside after : List Word) → k ≤ o → k ≤ c
    → AreSame ((Opens, o) ∷ (inside ++ (Closes, c) ∷ after))
    (flat_list (left_over Opens (o - k)) ++ (call_words k inside ++ (flat_list (left_over Closes (c - k)) ++ after)))
inner_same o c k inside after opens closes =
    let first : List Word = flat_list (left_over Opens (o - k)) in
    let last : List Word = flat_list (left_over Closes (c - k)) in
    let rest : List Word = inside ++ (((Closes, k) ∷ last) ++ after) in
    let one : AreSame ((Opens, o) ∷ (inside ++ (Closes, c) ∷ after)) ((Opens, o) ∷ rest) =
    same_front ((Opens, o) ∷ []) (inside ++ (Closes, c) ∷ after) rest
    (same_front inside ((Closes, c) ∷ after) (((Closes, k) ∷ last) ++ after)
    (same_behind ((Closes, c) ∷ []) ((Closes, k) ∷ last) after (back_same c k closes))) in
    let two : AreSame ((Opens, o) ∷ rest) ((first ++ (Opens, k) ∷ []) ++ rest) =
    same_behind ((Opens, o) ∷ []) (first ++ (Opens, k) ∷ []) rest (front_same o k opens) in
    let is : (first ++ (Opens, k) ∷ []) ++ rest ≡ first ++ (call_words k inside ++ (last ++ after)) =
    append_assoc first ((Opens, k) ∷ []) rest
    ∙ ap (λ us. first ++ (Opens, k) ∷ us) (sym (append_assoc inside ((Closes, k) ∷ []) (last ++ after))) in
    same_both ((Opens, o) ∷ (inside ++ (Closes, c) ∷ after)) ((first ++ (Opens, k) ∷ []) ++ rest)
    (first ++ (call_words k inside ++ (last ++ after)))
    (same_both ((Opens, o) ∷ (inside ++ (Closes, c) ∷ after)) ((Opens, o) ∷ rest) ((first ++ (Opens, k) ∷ []) ++ rest) one two)
    (same_so ((first ++ (Opens, k) ∷ []) ++ rest) (first ++ (call_words k inside ++ (last ++ after))) is)

from_flat : (before : List Member) (o : ℕ) (inside : List Member) (c : ℕ) (after : List Member)
    → flat_list ((before ++ lexeme (Opens, o) ∷ inside) ++ lexeme (Closes, c) ∷ after)
    ≡ flat_list before ++ (Opens, o) ∷ (flat_list inside ++ (Closes, c) ∷ flat_list after)
from_flat before o inside c after =
    flat_append (before ++ lexeme (Opens, o) ∷ inside) (lexeme (Closes, c) ∷ after)
    ∙ ap (λ us. us ++ (Closes, c) ∷ flat_list after) (flat_append before (lexeme (Opens, o) ∷ inside))
    ∙ append_assoc (flat_list before) ((Opens, o) ∷ flat_list inside) ((Closes, c) ∷ flat_list after)

to_flat : (before over : List Member) (k : ℕ) (inside rest after : List Member)
    → flat_list (before ++ (over ++ call k (members inside) ∷ (rest ++ after)))
    ≡ flat_list before ++ (flat_list over ++ (call_words k (flat_list inside) ++ (flat_list rest ++ flat_list after)))
to_flat before over k inside rest after =
    flat_append before (over ++ call k (members inside) ∷ (rest ++ after))
    ∙ ap (λ us. flat_list before ++ us) (flat_append over (call k (members inside) ∷ (rest ++ after)))
    ∙ ap (λ us. flat_list before ++ (flat_list over ++ (call_words k (flat_list inside) ++ us))) (flat_append rest after)

step_same : (from to : List Member) → IsStep from to → AreSame (flat_list from) (flat_list to)
step_same from to s =
    let k : ℕ = taken s.opening s.closing in
    let t = taking s.opening s.closing s.two_open s.two_close in
    let over : List Member = left_over Opens (s.opening - k) in
    let rest : List Member = left_over Closes (s.closing - k) in
    let was : List Word = (Opens, s.opening) ∷ (flat_list s.inside ++ (Closes, s.closing) ∷ flat_list s.after) in
    let now : List Word = flat_list over ++ (call_words k (flat_list s.inside) ++ (flat_list rest ++ flat_list s.after)) in
    let first : flat_list from ≡ flat_list s.before ++ was = ap flat_list s.from_is ∙ from_flat s.before s.opening s.inside s.closing s.after in
    let last : flat_list to ≡ flat_list s.before ++ now = ap flat_list s.to_is ∙ to_flat s.before over k s.inside rest s.after in
    same_both (flat_list from) (flat_list s.before ++ was) (flat_list to) (same_so (flat_list from) (flat_list s.before ++ was) first)
    (same_both (flat_list s.before ++ was) (flat_list s.before ++ now) (flat_list to)
    (same_front (flat_list s.before) was now (inner_same s.opening s.closing k (flat_list s.inside) (flat_list s.after) t.opening t.closing))
    (same_so (flat_list s.before ++ now) (flat_list to) (sym last)))

steps_same : (n : ℕ) (from to : List Member) → AreSteps n from to → AreSame (flat_list from) (flat_list to)
steps_same zero from to e = same_so (flat_list from) (flat_list to) (ap flat_list e)
steps_same (suc n) from to s =
    same_both (flat_list from) (flat_list s.0) (flat_list to) (step_same from s.0 s.1) (steps_same n s.0 to s.2)

-- ---- the page

page_same : (page : List ℕ) → AreSame (flat_list (as_members (words Page page))) (flat_list (reduced (words Page page)))
page_same page =
    let ws : List Word = words Page page in
    let end = one_end ws (lexemes_have_braces Page page) in
    steps_same end.count (as_members ws) (reduced ws) end.steps

pub page_members : (page : List ℕ) → page_items page ≡ items_of_words (flat_all (members_of page)) page
unfolding page_items
page_members page = ap (λ (us : List Word). items_of_words us page) (sym (flat_lexemes (words Page page))) ∙ (page_same page).items page

-- what opens its calls is braces
pub page_opened : (page : List ℕ) → AreOpened (flat_all (members_of page)) page
page_opened page = (page_same page).opens page (subst (λ (us : List Word). AreOpened us page) (sym (flat_lexemes (words Page page))) (words_opened page))
