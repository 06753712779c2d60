-- What stands under a title: a page that is answered, or one that is refused.
use Rattle.std.proofs.Common.{◌≡◌, ℕ, ◌<◌, ◌≤◌, List, length, take, true, false, Bool, cond, refl, sym, ap, ◌∙◌, subst, arith, length-take-le, inl, inr, ⊎_elim}
use Rattle.std.specs.Prelude.{◌⊎◌, IsUtf8, nat_lt, Option, Some, None, option_map, MatchOption, IfSome, Result, Ok, Err}
use Rattle.std.proofs.lemmas.Bool.Decides.{nat_tests}
use Rattle.std.proofs.lemmas.List.{take_all}
use Rattle.std.proofs.str.Laws.{order}
use Rattle.wt_devices.specs.Device.{Pages, Gives, page_of}
use Rattle.wt_devices.specs.declared.device.Fetched.{Fetched}
use Rattle.wt_devices.specs.declared.device.Fetched.TheVariants as fetched
use Rattle.wt_tree.specs.Tree.{Tree}
use Rattle.wt_expand.specs.Work.{Refused}
use Rattle.wt_utf8.specs.Places.{IsPlace, not_utf8_place}
use Rattle.wt_utf8.proofs.PlaceLaws.{exact as exact_text, at_place}
use Rattle.wt_page_round_trip.proofs.HeldPages.{its_page}
use Rattle.wt_page_round_trip.proofs.PageTrees.{IsItsPage}
use Rattle.wt_commands.specs.Answers.{Answer, done, refused, text_answer, title_answer, expanded_by, refusal_of_page, IsText, IsUnrefused, made_of_tree}
use Rattle.wt_commands.specs.declared.output.Output.{Output}
use Rattle.wt_commands.specs.declared.command.PageCommand.{PageCommand}
use Rattle.wt_commands.specs.declared.refusal.Refusal.{Refusal}
use Rattle.wt_commands.specs.declared.refusal.Refusal.TheVariants.{Absent, TooLong, NotUtf8}
use Rattle.wt_commands.specs.Causes.{RefusesTitle, IsFetched, Answered}

-- ---- texts

pub text_of : (page : List ℕ) → not_utf8_place page ≡ None → IsUtf8 page
text_of page e = let P : Option ℕ → Type 0 = λ o. MatchOption o (IsUtf8 page) (λ n. IsPlace page n) in subst P e (exact_text page)

pub place_within : (page : List ℕ) (n : ℕ) → not_utf8_place page ≡ Some n → n ≤ length page
place_within page n e = (at_place page n e).within

-- ---- answers

short : (page : List ℕ) → length page ≤ 2097152 → nat_lt 2097152 (length page) ≡ false
short page h = grind (arith, nat_tests)

long : (page : List ℕ) → 2097152 < length page → nat_lt 2097152 (length page) ≡ true
long page h = grind (arith, nat_tests)

pub none_absent : RefusesTitle None Absent
unfolding title_answer
none_absent made = refl

pub page_too_long : (page : List ℕ) → 2097152 < length page → RefusesTitle (Some page) TooLong
unfolding title_answer
page_too_long page h made = rw (long page h) refl

pub page_not_utf8 : (page : List ℕ) (place : ℕ) → length page ≤ 2097152 → not_utf8_place page ≡ Some place → RefusesTitle (Some page) (NotUtf8 place)
unfolding title_answer
page_not_utf8 page place h e made = rw (short page h, e) refl

pub page_text : (page : List ℕ) → length page ≤ 2097152 → not_utf8_place page ≡ None → IsText page
unfolding title_answer
page_text page h e made = rw (short page h, e) refl

-- ---- what an answer that is done says of the page

-- a page that is text, and what is made of it
pub record IsTextMade (page : List ℕ) (made : List ℕ → Answer) (bytes : List ℕ) : Type 0 where
  pub within : length page ≤ 2097152
  pub text : not_utf8_place page ≡ None
  pub is : made page ≡ done bytes

text_made : (page bytes : List ℕ) (made : List ℕ → Answer) (o : Option ℕ) → length page ≤ 2097152 → not_utf8_place page ≡ o
    → text_answer page made o ≡ done bytes → IsTextMade page made bytes
text_made page bytes made (Some place) within is e = cc
text_made page bytes made None within is e = record { within = within; text = is; is = e }

long_made : (page bytes : List ℕ) (made : List ℕ → Answer) (v : Bool) → nat_lt 2097152 (length page) ≡ v
    → cond v (refused TooLong) (text_answer page made (not_utf8_place page)) ≡ done bytes → IsTextMade page made bytes
long_made page bytes made true is e = cc
long_made page bytes made false is e = text_made page bytes made (not_utf8_place page) (grind (arith, nat_tests)) refl e

pub title_made : (page bytes : List ℕ) (made : List ℕ → Answer) → title_answer (Some page) made ≡ done bytes → IsTextMade page made bytes
unfolding title_answer
title_made page bytes made e = long_made page bytes made (nat_lt 2097152 (length page)) refl e

-- what is made of a page that is text and stands under a title
abbrev pub IsTextOf : Option (List ℕ) → (List ℕ → Answer) → List ℕ → Type 0
IsTextOf stands made bytes = (page : List ℕ) × (stands ≡ Some page) × (made page ≡ done bytes)

pub title_stands : (stands : Option (List ℕ)) (made : List ℕ → Answer) (bytes : List ℕ) → title_answer stands made ≡ done bytes
    → IsTextOf stands made bytes
unfolding title_answer
title_stands None made bytes e = cc
title_stands (Some page) made bytes e = (page, refl, (title_made page bytes made e).is)

-- what is made of an expanded page that stands under a title
pub record IsExpanded (pages : Pages) (stands : Option (List ℕ)) (made : List ℕ → Answer) (bytes : List ℕ) : Type 0 where
  pub page : List ℕ
  pub found : stands ≡ Some page
  pub within : length page ≤ 2097152
  pub text : IsUtf8 page
  pub unrefused : refusal_of_page pages page ≡ None
  pub is : made page ≡ done bytes

pub expanded_done : (answer : Answer) (bytes : List ℕ) (o : Option Refused) → expanded_by answer o ≡ done bytes → (o ≡ None) × (answer ≡ done bytes)
expanded_done answer bytes (Some r) e = cc
expanded_done answer bytes None e = (refl, e)

pub expanded_made : (pages : Pages) (stands : Option (List ℕ)) (made : List ℕ → Answer) (bytes : List ℕ)
    → title_answer stands (λ page. expanded_by (made page) (refusal_of_page pages page)) ≡ done bytes → IsExpanded pages stands made bytes
unfolding title_answer
expanded_made pages None made bytes e = cc
expanded_made pages (Some page) made bytes e =
    let t = title_made page bytes (λ bs. expanded_by (made bs) (refusal_of_page pages bs)) e in
    let x = expanded_done (made page) bytes (refusal_of_page pages page) t.is in
    record { page = page; found = refl; within = t.within; text = text_of page t.text; unrefused = x.0; is = x.1 }

-- a page that nothing refuses is what stands on the page for its expanded items
pub answered_page : (pages : Pages) (page : List ℕ) → IsUnrefused pages page → IsItsPage pages page
answered_page pages page h =
    let t = title_made page page (λ bs. done bs) (h.text (λ bs. done bs)) in
    its_page pages page (text_of page t.text) h.unrefused

-- ---- what was fetched

-- a page that is cut past the limit is too long all the same
long_is : (page : List ℕ) (made : List ℕ → Answer) → 2097152 < length page → title_answer (Some page) made ≡ refused TooLong
long_is page made h = page_too_long page h made

cut_step : (page : List ℕ) (made : List ℕ → Answer) → (length page ≤ 2097153) ⊎ (2097153 < length page)
    → title_answer (Some page) made ≡ title_answer (Some (take 2097153 page)) made
cut_step page made (inl le) = ap (λ bs. title_answer (Some bs) made) (sym (take_all 2097153 page le))
cut_step page made (inr lt) =
    let len : length (take 2097153 page) ≡ 2097153 = length-take-le 2097153 page (omega arith) in
    long_is page made (omega arith) ∙ sym (long_is (take 2097153 page) made (omega arith))

cut_same : (page : List ℕ) (made : List ℕ → Answer) → title_answer (Some page) made ≡ title_answer (Some (take 2097153 page)) made
cut_same page made = cut_step page made (either (length page) 2097153)
  where
    either : (m n : ℕ) → (m ≤ n) ⊎ (n < m)
    either m n = ⊎_elim (λ lt. inr lt) (λ le. inl le) (order n m)

found_step : (stands : Option (List ℕ)) (page : List ℕ) → Some page ≡ option_map (take 2097153) stands → IsFetched stands (Ok page)
found_step None page e = absurd cc
found_step (Some whole) page e =
    let same : page ≡ take 2097153 whole = cc in
    λ made. cut_same whole made ∙ ap (λ bs. title_answer (Some bs) made) (sym same)

absent_step : (stands : Option (List ℕ)) → None ≡ option_map (take 2097153) stands → IsFetched stands (Err Absent)
absent_step None e = none_absent
absent_step (Some whole) e = absurd cc

pub found_is : (told : Option Pages) (title page : List ℕ) (answer : Fetched) → answer ≡ fetched.Found page
    → Gives told title 2097153 answer → IfSome told (λ pages. IsFetched (pages title) (Ok page))
found_is None title page answer is gives = tt
found_is (Some pages) title page answer is gives = found_step (pages title) page (sym (ap page_of is) ∙ gives)

pub absent_is : (told : Option Pages) (title : List ℕ) (answer : Fetched) → answer ≡ fetched.Absent
    → Gives told title 2097153 answer → IfSome told (λ pages. IsFetched (pages title) (Err Absent))
absent_is None title answer is gives = tt
absent_is (Some pages) title answer is gives = absent_step (pages title) (sym (ap page_of is) ∙ gives)

-- ---- from the tree of a page to the answer

pub tree_made : (command : PageCommand) (page : List ℕ) (t u : Tree) (o : Option Refused) (result : Result Output Refusal) → o ≡ None → t ≡ u
    → Answered (made_of_tree command page t) result → Answered (expanded_by (made_of_tree command page u) o) result
tree_made command page t u o result none is a =
    subst (λ x. Answered x result) (ap (made_of_tree command page) is ∙ sym (ap (expanded_by (made_of_tree command page u)) none)) a

abbrev refused_by : Refusal → Result Output Refusal
refused_by reason = Err reason

-- from what was fetched to what stands under the title
pub title_answered : (told : Option Pages) (title page : List ℕ) (made : Pages → List ℕ → Answer) (result : Result Output Refusal)
    → IfSome told (λ pages. IsFetched (pages title) (Ok page)) → IfSome told (λ pages. Answered (title_answer (Some page) (made pages)) result)
    → IfSome told (λ pages. Answered (title_answer (pages title) (made pages)) result)
title_answered None title page made result f a = tt
title_answered (Some pages) title page made result f a = subst (λ x. Answered x result) (sym (f (made pages))) a

pub title_refused : (told : Option Pages) (title : List ℕ) (made : Pages → List ℕ → Answer) (reason : Refusal)
    → IfSome told (λ pages. IsFetched (pages title) (Err reason))
    → IfSome told (λ pages. Answered (title_answer (pages title) (made pages)) (refused_by reason))
title_refused None title made reason f = tt
title_refused (Some pages) title made reason f = f (made pages)
