-- What stands on the page for the items of an expanded page is the page: its own items, and the source of each outermost call once.
use Rattle.std.proofs.Common.{◌≡◌, ℕ, zero, suc, ◌+◌, ◌-◌, ◌<◌, ◌≤◌, Bool, true, false, Option, Some, None, List, [], ◌∷◌, ◌++◌, length, map, take, drop, refl, sym, ap, ap₂, ◌∙◌, subst, cond, arith, append_assoc, append-nil}
use Rattle.std.specs.Prelude.{slice_get, slice_index}
use Rattle.std.proofs.lemmas.Bool.Decides.{nat_tests}
use Rattle.std.proofs.lemmas.List.{drop-drop, drop-append-le, length-take-le, take-append-drop, take-take, drop_all, length-drop}
use Rattle.wt_span.specs.declared.form.Mode.TheVariants as mode
use Rattle.wt_span.specs.declared.form.ItemForm.{ItemForm}
use Rattle.wt_span.specs.declared.form.ItemForm.TheVariants as form
use Rattle.wt_span.specs.declared.form.LexKind.{LexKind}
use Rattle.wt_span.specs.Bytes.{is_break}
use Rattle.wt_span.specs.Braces.{Member, Members, lexeme, call, none, more, width, width_of_all}
use Rattle.wt_span.specs.Cuts.{source_of_call}
use Rattle.wt_span.specs.Items.{Item, char, whole, items_by}
use Rattle.wt_span.specs.Origins.{OuterCall}
use Rattle.wt_braces.specs.PartMembers.{part_members}
use Rattle.wt_expand.specs.PageItems.{form_of}
use Rattle.wt_expand.specs.Targets.{Called, argument, choice, function, page, text, called}
use Rattle.wt_expand.specs.Work.{Pages}
use Rattle.wt_expand.specs.Expansion.{Output, called_output, front_braces, back_braces, target_part, part_outputs, outputs_of, text_members, page_reading}
use Rattle.wt_expand.specs.PageCalls.{Stretch, own, outer, text_call, outer_at, call_stretches, stretches_of, all_stretches, from_call, outer_items, numbered, outer_calls, page_stretches, expanded_page}
use Rattle.wt_expansion.proofs.SoundMembers.{text_width}
use Rattle.wt_annotated.specs.Seams.{parted, text_from}

-- ---- calls

-- an item of a call before the k-th, or one of the page, or none
abbrev IsBelow : ℕ → Option ℕ → Type 0
IsBelow k None = Unit {0}
IsBelow k (Some j) = j < k

below_parted : (k : ℕ) (o : Option ℕ) → IsBelow k o → parted o (Some k) ≡ true
below_parted k None b = refl
below_parted k (Some j) b = grind (arith, nat_tests)

same_parted : (k : ℕ) → parted (Some k) (Some k) ≡ false
same_parted k = grind (arith, nat_tests)

pub page_step : (o : Option ℕ) (bs : List ℕ) → cond (parted o None) bs [] ≡ bs
page_step None bs = refl
page_step (Some k) bs = refl

-- what stands on the page for the first item of a call
abbrev pub call_text : List OuterCall → Option ℕ → ℕ → List ℕ
call_text calls o k = cond (parted o (Some k)) (source_of_call (slice_get calls k)) []

first_text : (calls : List OuterCall) (o : Option ℕ) (k : ℕ) (c : OuterCall) → IsBelow k o → slice_get calls k ≡ Some c → call_text calls o k ≡ c.source
first_text calls o k c b e = ap (λ v. cond v (source_of_call (slice_get calls k)) []) (below_parted k o b) ∙ ap source_of_call e

pub no_text : (calls : List OuterCall) (k : ℕ) → call_text calls (Some k) k ≡ []
no_text calls k = ap (λ v. cond v (source_of_call (slice_get calls k)) []) (same_parted k)

-- behind its first item a call has nothing more on the page
behind_first : (calls : List OuterCall) (k : ℕ) (xs ys : List Item) → text_from calls (Some k) (map (from_call k) xs ++ ys) ≡ text_from calls (Some k) ys
behind_first calls k [] ys = refl
behind_first calls k (char o b ∷ xs) ys = ap₂ (λ us vs. us ++ vs) (no_text calls k) (behind_first calls k xs ys)
behind_first calls k (whole f o bs ∷ xs) ys = ap₂ (λ us vs. us ++ vs) (no_text calls k) (behind_first calls k xs ys)

call_stands : (calls : List OuterCall) (o : Option ℕ) (k : ℕ) (c : OuterCall) (xs ys : List Item) → IsBelow k o → slice_get calls k ≡ Some c
    → text_from calls o (outer_items k c xs ++ ys) ≡ c.source ++ text_from calls (Some k) ys
call_stands calls o k c [] ys b e = ap (λ bs. bs ++ text_from calls (Some k) ys) (first_text calls o k c b e)
call_stands calls o k c (char p a ∷ xs) ys b e = ap₂ (λ us vs. us ++ vs) (first_text calls o k c b e) (behind_first calls k xs ys)
call_stands calls o k c (whole f p cs ∷ xs) ys b e = ap₂ (λ us vs. us ++ vs) (first_text calls o k c b e) (behind_first calls k xs ys)

found_call : (calls : List OuterCall) (k : ℕ) (c : OuterCall) (cs : List OuterCall) → drop k calls ≡ c ∷ cs → slice_get calls k ≡ Some c
found_call [] zero c cs e = absurd cc
found_call [] (suc k) c cs e = absurd cc
found_call (d ∷ ds) zero c cs e = let s : d ≡ c = cc in ap Some s
found_call (d ∷ ds) (suc k) c cs e = found_call ds k c cs e

next_calls : (calls : List OuterCall) (k : ℕ) (c : OuterCall) (cs : List OuterCall) → drop k calls ≡ c ∷ cs → drop (suc k) calls ≡ cs
next_calls [] zero c cs e = absurd cc
next_calls [] (suc k) c cs e = absurd cc
next_calls (d ∷ ds) zero c cs e = cc
next_calls (d ∷ ds) (suc k) c cs e = next_calls ds k c cs e

-- ---- stretches

-- wherever these stretches come next, up to the last, these bytes stand on the page
abbrev Stands : List Stretch → List ℕ → Type 0
Stands ss bs =
    (calls : List OuterCall) (k : ℕ) (o : Option ℕ) → IsBelow k o → drop k calls ≡ outer_calls ss → text_from calls o (numbered k ss) ≡ bs

-- behind items of the page itself, whatever comes before them
abbrev Follows : List OuterCall → ℕ → List Item → List ℕ → Type 0
Follows calls k ys bs = (o : Option ℕ) → IsBelow k o → text_from calls o ys ≡ bs

chars_follow : (calls : List OuterCall) (k : ℕ) (cs : List ℕ) (ys : List Item) (bs : List ℕ) → Follows calls k ys bs
    → Follows calls k (map (char None) cs ++ ys) (cs ++ bs)
chars_follow calls k [] ys bs h o b = h o b
chars_follow calls k (c ∷ cs) ys bs h o b = ap₂ (λ us vs. us ++ vs) (page_step o (c ∷ [])) (chars_follow calls k cs ys bs h None tt)

whole_follows : (calls : List OuterCall) (k : ℕ) (f : ItemForm) (cs : List ℕ) (ys : List Item) (bs : List ℕ) → Follows calls k ys bs
    → Follows calls k (whole f None cs ∷ ys) (cs ++ bs)
whole_follows calls k f cs ys bs h o b = ap₂ (λ us vs. us ++ vs) (page_step o cs) (h None tt)

form_follows : (calls : List OuterCall) (k : ℕ) (f : ItemForm) (cs : List ℕ) (ys : List Item) (bs : List ℕ) → Follows calls k ys bs
    → Follows calls k (items_by f None cs ++ ys) (cs ++ bs)
form_follows calls k form.Chars cs ys bs h = chars_follow calls k cs ys bs h
form_follows calls k (form.Entity c) cs ys bs h = whole_follows calls k (form.Entity c) cs ys bs h
form_follows calls k form.Nowiki cs ys bs h = whole_follows calls k form.Nowiki cs ys bs h
form_follows calls k form.Extension cs ys bs h = whole_follows calls k form.Extension cs ys bs h
form_follows calls k form.Function cs ys bs h = whole_follows calls k form.Function cs ys bs h
form_follows calls k form.Comment cs ys bs h = whole_follows calls k form.Comment cs ys bs h
form_follows calls k form.Include cs ys bs h = whole_follows calls k form.Include cs ys bs h
form_follows calls k form.Hidden cs ys bs h = whole_follows calls k form.Hidden cs ys bs h
form_follows calls k form.EmptyCall cs ys bs h = whole_follows calls k form.EmptyCall cs ys bs h

chars_stand : (cs : List ℕ) (ss : List Stretch) (bs : List ℕ) → Stands ss bs → Stands (own (map (char None) cs) ∷ ss) (cs ++ bs)
chars_stand cs ss bs h calls k o b d = chars_follow calls k cs (numbered k ss) bs (λ p q. h calls k p q d) o b

outer_stands : (c : OuterCall) (xs : List Item) (ss : List Stretch) (bs : List ℕ) → Stands ss bs → Stands (outer c xs ∷ ss) (c.source ++ bs)
outer_stands c xs ss bs h calls k o b d =
    call_stands calls o k c xs (numbered (suc k) ss) b (found_call calls k c (outer_calls ss) d)
    ∙ ap (λ cs. c.source ++ cs) (h calls (suc k) (Some k) (omega arith) (next_calls calls k c (outer_calls ss) d))

lexeme_stands : (kind : LexKind) (n : ℕ) (bs : List ℕ) (ss : List Stretch) → Stands ss (drop n bs)
    → Stands (own (items_by (form_of kind (take n bs)) None (take n bs)) ∷ ss) bs
lexeme_stands kind n bs ss h = subst (Stands (own (items_by (form_of kind (take n bs)) None (take n bs)) ∷ ss)) (take-append-drop n bs)
    (λ calls k o b d. form_follows calls k (form_of kind (take n bs)) (take n bs) (numbered k ss) (drop n bs) (λ p q. h calls k p q d) o b)

function_stands : (n : ℕ) (bs : List ℕ) (ss : List Stretch) → Stands ss (drop n bs) → Stands (own (whole form.Function None (take n bs) ∷ []) ∷ ss) bs
function_stands n bs ss h = subst (Stands (own (whole form.Function None (take n bs) ∷ []) ∷ ss)) (take-append-drop n bs)
    (λ calls k o b d. whole_follows calls k form.Function (take n bs) (numbered k ss) (drop n bs) (λ p q. h calls k p q d) o b)

call_source_stands : (c : OuterCall) (n : ℕ) (bs : List ℕ) (xs : List Item) (ss : List Stretch) → c.source ≡ take n bs → Stands ss (drop n bs)
    → Stands (outer c xs ∷ ss) bs
call_source_stands c n bs xs ss e h =
    subst (Stands (outer c xs ∷ ss)) (ap (λ cs. cs ++ drop n bs) e ∙ take-append-drop n bs) (outer_stands c xs ss (drop n bs) h)

front_is : (k n : ℕ) (bs : List ℕ) → k ≤ n → take k (take n bs) ++ drop k bs ≡ bs
front_is k n bs l = ap (λ xs. xs ++ drop k bs) (take-take k n bs l) ∙ take-append-drop k bs

back_is : (m n : ℕ) (bs : List ℕ) → m ≤ n → n ≤ length bs → drop m bs ≡ drop m (take n bs) ++ drop n bs
back_is m n bs l w = ap (drop m) (sym (take-append-drop n bs)) ∙ drop-append-le m (take n bs) (drop n bs) (omega (arith, l, length-take-le n bs w))

-- a call that is text: its braces are characters
text_stands : (k : ℕ) (ms : Members) (bs : List ℕ) (inside ss : List Stretch) → k + width_of_all ms + k ≤ length bs
    → Stands ss (drop (k + width_of_all ms + k) bs)
    → ((ts : List Stretch) → Stands ts (drop (width_of_all ms) (drop k bs)) → Stands (inside ++ ts) (drop k bs))
    → Stands (own (map (char None) (front_braces k (take (k + width_of_all ms + k) bs)))
    ∷ (inside ++ own (map (char None) (back_braces k (take (k + width_of_all ms + k) bs))) ∷ ss)) bs
text_stands k ms bs inside ss w g f =
    let n : ℕ = k + width_of_all ms + k in
    let source : List ℕ = take n bs in
    let len : length source ≡ n = length-take-le n bs w in
    let m : length source - k ≡ k + width_of_all ms = omega (arith, len) in
    let back : drop (width_of_all ms) (drop k bs) ≡ back_braces k source ++ drop n bs = drop-drop (width_of_all ms) k bs
    ∙ back_is (k + width_of_all ms) n bs (omega arith) w ∙ ap (λ i. drop i source ++ drop n bs) (sym m) in
    let ts : List Stretch = own (map (char None) (back_braces k source)) ∷ ss in
    let last : Stands ts (drop (width_of_all ms) (drop k bs)) = subst (Stands ts) (sym back) (chars_stand (back_braces k source) ss (drop n bs) g) in
    subst (Stands (own (map (char None) (front_braces k source)) ∷ (inside ++ ts))) (front_is k n bs (omega arith))
    (chars_stand (front_braces k source) (inside ++ ts) (drop k bs) (f ts last))

called_stands : (c : Called) (pages : Pages) (start : Bool) (at k : ℕ) (bs : List ℕ) (ms : Members) (os : List Output) (inside ss : List Stretch)
    → k + width_of_all ms + k ≤ length bs → Stands ss (drop (k + width_of_all ms + k) bs)
    → ((ts : List Stretch) → Stands ts (drop (width_of_all ms) (drop k bs)) → Stands (inside ++ ts) (drop k bs))
    → Stands (call_stretches c at k (take (k + width_of_all ms + k) bs) ms
    (called_output c (page_reading pages) start k (take (k + width_of_all ms + k) bs) (part_outputs (part_members 0 ms) os) os).items inside ++ ss) bs
called_stands argument pages start at k bs ms os inside ss w g f =
    call_source_stands (outer_at at k (take (k + width_of_all ms + k) bs) ms argument) (k + width_of_all ms + k) bs
    (called_output argument (page_reading pages) start k (take (k + width_of_all ms + k) bs) (part_outputs (part_members 0 ms) os) os).items ss refl g
called_stands (choice f n) pages start at k bs ms os inside ss w g e =
    call_source_stands (outer_at at k (take (k + width_of_all ms + k) bs) ms (choice f n)) (k + width_of_all ms + k) bs
    (called_output (choice f n) (page_reading pages) start k (take (k + width_of_all ms + k) bs) (part_outputs (part_members 0 ms) os) os).items ss refl g
called_stands function pages start at k bs ms os inside ss w g f = function_stands (k + width_of_all ms + k) bs ss g
called_stands (page t) pages start at k bs ms os inside ss w g f =
    call_source_stands (outer_at at k (take (k + width_of_all ms + k) bs) ms (page t)) (k + width_of_all ms + k) bs
    (called_output (page t) (page_reading pages) start k (take (k + width_of_all ms + k) bs) (part_outputs (part_members 0 ms) os) os).items ss refl g
called_stands text pages start at k bs ms os inside ss w g f =
    let back : Stretch = own (map (char None) (back_braces k (take (k + width_of_all ms + k) bs))) in
    let e : (inside ++ back ∷ []) ++ ss ≡ inside ++ back ∷ ss = append_assoc inside (back ∷ []) ss in
    subst (λ (ts : List Stretch). Stands (text_call (at, at + (k + width_of_all ms + k))
    ∷ (own (map (char None) (front_braces k (take (k + width_of_all ms + k) bs))) ∷ ts)) bs) (sym e)
    (text_stands k ms bs inside ss w g f)

none_dropped : (xs : List ℕ) → drop 0 xs ≡ xs
none_dropped [] = refl
none_dropped (x ∷ xs) = refl

mutual
  one_stands : (pages : Pages) (at : ℕ) (start : Bool) (bs : List ℕ) (m : Member) (ss : List Stretch) → width m ≤ length bs
      → Stands ss (drop (width m) bs) → Stands (stretches_of (page_reading pages) at start bs m ++ ss) bs
  one_stands pages at start bs (lexeme (kind, n)) ss w g = lexeme_stands kind n bs ss g
  one_stands pages at start bs (call k ms) ss w g =
      let r = page_reading pages in
      let os = outputs_of r false (drop k bs) ms in
      let source = take (k + width_of_all ms + k) bs in
      let target = target_part (part_outputs (part_members 0 ms) os) in
      called_stands (called k source target.items) pages start at k bs ms os (all_stretches r (at + k) false (drop k bs) ms) ss w g
      (λ ts h. all_stand pages (at + k) false (drop k bs) ms ts (omega (arith, w, length-drop k bs)) h)

  all_stand : (pages : Pages) (at : ℕ) (start : Bool) (bs : List ℕ) (ms : Members) (ss : List Stretch) → width_of_all ms ≤ length bs
      → Stands ss (drop (width_of_all ms) bs) → Stands (all_stretches (page_reading pages) at start bs ms ++ ss) bs
  all_stand pages at start bs none ss w g = subst (Stands ss) (none_dropped bs) g
  all_stand pages at start bs (more m ms) ss w g =
      let r = page_reading pages in
      let next = is_break (slice_index bs (width m - 1)) in
      let rest : List Stretch = all_stretches r (at + width m) next (drop (width m) bs) ms in
      let e : drop (width m + width_of_all ms) bs ≡ drop (width_of_all ms) (drop (width m) bs) = sym (drop-drop (width_of_all ms) (width m) bs) in
      subst (λ (ts : List Stretch). Stands ts bs) (sym (append_assoc (stretches_of r at start bs m) rest ss))
      (one_stands pages at start bs m (rest ++ ss) (omega (arith, w))
      (all_stand pages (at + width m) next (drop (width m) bs) ms ss (omega (arith, w, length-drop (width m) bs)) (subst (Stands ss) e g)))

-- ---- the page

stretches_are : (pages : Pages) (bs : List ℕ) → page_stretches pages bs ≡ all_stretches (page_reading pages) 0 true bs (text_members mode.Page bs)
unfolding page_stretches
stretches_are pages bs = refl

page_stands : (pages : Pages) (bs : List ℕ) → Stands (page_stretches pages bs) bs
page_stands pages bs =
    let ms : Members = text_members mode.Page bs in
    let ss : List Stretch = all_stretches (page_reading pages) 0 true bs ms in
    let wide : width_of_all ms ≡ length bs = text_width mode.Page bs in
    let none_left : drop (width_of_all ms) bs ≡ [] = drop_all (width_of_all ms) bs (omega (arith, wide)) in
    let end : Stands [] (drop (width_of_all ms) bs) = λ calls k o b d. sym none_left in
    subst (λ (ts : List Stretch). Stands ts bs) (append-nil ss ∙ sym (stretches_are pages bs))
    (all_stand pages 0 true bs ms [] (omega (arith, wide)) end)

all_calls : (calls : List OuterCall) → drop 0 calls ≡ calls
all_calls [] = refl
all_calls (c ∷ cs) = refl

-- the page stands for its expanded items
pub expanded_stands : (pages : Pages) (bs : List ℕ) → text_from (expanded_page pages bs).outer None (expanded_page pages bs).items ≡ bs
unfolding expanded_page
expanded_stands pages bs = let cs = outer_calls (page_stretches pages bs) in page_stands pages bs cs 0 None tt (all_calls cs)
