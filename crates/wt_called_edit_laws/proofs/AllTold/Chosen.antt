-- Which blocks of a page with calls are told by its lines: whether one is can be decided.
use Rattle.std.proofs.Common.{arith, ◌≡◌, ◌<◌, ◌≤◌, ◌⊎◌, inl, inr, ℕ, zero, suc, ◌+◌, ◌==◌, Bool, true, false, Option, Some, None, List, [], ◌∷◌, ◌++◌, length, map, refl, subst}
use Rattle.wt_span.specs.declared.form.ItemForm.{ItemForm}
use Rattle.wt_span.specs.declared.form.ItemForm.TheVariants as form
use Rattle.wt_span.specs.Items.{Item, char, whole, call_of, sign, sources}
use Rattle.wt_span.specs.Origins.{Span, Expanded}
use Rattle.wt_tree.specs.declared.kind.Ranges.{Ranges}
use Rattle.wt_tree.specs.Tiling.{is_group}
use Rattle.wt_tree.specs.Tree.{Tree, tree, Trees, none, more}
use Rattle.wt_annotated.specs.Seams.{text_from}
use Rattle.std.specs.List.{list_any}
use Rattle.wt_tree.specs.Kinds.{is_leaf}
use Rattle.wt_inline.specs.ItemTree.{ItemTree, inner, ItemTrees, nothing, further, forest, held_by_all}
use Rattle.wt_inline.specs.Parts.{children}
use Rattle.wt_annotated.specs.Clean.{is_page}
use Rattle.wt_annotated.specs.WithoutCalls.{InsideOf}
use Rattle.wt_expand.specs.PageCalls.{expanded_page}
use Rattle.wt_expand.specs.PageItems.{page_items}
use Rattle.wt_expand.specs.Work.{Pages}
use Rattle.wt_expand.proofs.PiecePlaces.{AllFrom}
use Rattle.wt_lines.specs.Lines.{content}
use Rattle.wt_page.specs.Lines.{ending}
use Rattle.wt_page.proofs.Ends.{content_ending}
use Rattle.wt_tables.specs.Parts.{joined}
use Rattle.wt_part_laws.specs.Rounded.{HasItems, AllHaveItems}
use Rattle.wt_part_laws.specs.Standing.{standing}
use Rattle.wt_selser.specs.Edits.{is_tangled}
use Rattle.wt_text_edit_laws.specs.Contents.{content_parts_of}
use Rattle.wt_text_edit_laws.specs.LonePages.{of_items}
use Rattle.wt_text_edit_laws.specs.NoCalls.{Brace, opening, closing, braces, NoneClose, NonePairs, CallsNothing}
use Rattle.wt_text_edit_laws.specs.PageCuts.{EndsClosed, IsFreeBlock}
use Rattle.wt_text_edit_laws.specs.SignParts.{is_sign_end, ends_unopened, AreSigned, IsOnSign, IsLedTo}
use Rattle.wt_text_edit_laws.specs.TextBetween.{EndsBy, is_end, AreEnded}
use Rattle.wt_text_edit_laws.specs.TextBlocks.{TextBlock, a_paragraph, a_heading, source_of, block_tree}
use Rattle.wt_called_edit_laws.specs.AllTold.{IsBesideNoCall, AreNoFunctions, IsBesideTexts}
use Rattle.wt_called_edit_laws.specs.Covered.{IsBeside, IfGroup, NoGroupAt, NoneGroupAt}
use Rattle.wt_called_edit_laws.specs.Groups.{called_tree}
use Rattle.wt_called_edit_laws.specs.LinedAmong.{IsNoFunction, AreOfPage, AreBeside}
use Rattle.wt_called_edit_laws.specs.PlacedLines.{lead_of}
use Rattle.wt_called_edit_laws.specs.ToldLines.{Told, lined}
use Rattle.wt_called_edit_laws.proofs.AllTold.ClosedLines.{closed_decided}
use Rattle.wt_called_edit_laws.proofs.AllTold.Scans.{Decided, Asked, Answered, both_decided, three_decided, bool_decided}

-- ---- what is asked of each

-- Behind these items and the marks that begin them the lines of a block are the page's own: neither what is in them nor the line break that ends them
-- comes from a call; before them the page is ended for the block; no call that is text has a byte of them, and no two braces that open come before two that
-- close in them.
pub record IsOwnBehind (e : Expanded) (front : List Item) (t : Told) : Type 0 where
  pub own : AreOfPage (joined ((lined t).first ∷ (lined t).more))
  pub some : 1 ≤ length (content (joined ((lined t).first ∷ (lined t).more)))
  pub calm : CallsNothing (content (joined ((lined t).first ∷ (lined t).more)))
  pub led : IsLedTo (text_from e.outer None (front ++ lead_of (lined t))) (lined t).block (lined t).text
  pub beside : IsBesideTexts e front t

-- no node in it is empty, and by itself it isn't tangled
abbrev pub IsFreeAlone : TextBlock → List ℕ → Type 0
IsFreeAlone k q = AllHaveItems (forest (children (content_parts_of k (page_items q)))) × (is_tangled (of_items []) [] (standing 0 [] (block_tree k q)) ≡ false)

pub free_of : (k : TextBlock) (q : List ℕ) → IsFreeAlone k q → IsFreeBlock k q
free_of k q h = record {
  full = h.0;
  untangled = record { items = of_items []; page = []; number = 0; before = []; untangled = h.1 };
}

-- Behind these items its lines are the page's own, no group has its first byte, and a line break behind it is read as one.
pub record IsChosen (pages : Pages) (page : List ℕ) (front : List Item) (t : Told) : Type 0 where
  pub place : IsOwnBehind (expanded_page pages page) front t
  pub outside : NoGroupAt (length (text_from (expanded_page pages page).outer None (front ++ lead_of (lined t)))) (called_tree pages page)
  pub free : IsFreeAlone (lined t).block (lined t).text
  pub closed : EndsClosed (source_of (lined t).block (lined t).text) []

abbrev pub chosen : Pages → List ℕ → Asked
chosen pages page front t = IsChosen pages page front t

-- ---- numbers and calls

pub less_or : (m n : ℕ) → (m ≤ n) ⊎ (n < m)
less_or zero n = inl (omega arith)
less_or (suc m) zero = inr (omega arith)
less_or (suc m) (suc n) = by (less_or m n)
  where
    by : (m ≤ n) ⊎ (n < m) → (suc m ≤ suc n) ⊎ (suc n < suc m)
    by (inl h) = inl (omega (arith, h))
    by (inr h) = inr (omega (arith, h))

pub or_decided : (A B : Type 0) → Decided A → Decided B → Decided (A ⊎ B)
or_decided A B (inl a) b = inl (inl a)
or_decided A B (inr f) (inl b) = inl (inr b)
or_decided A B (inr f) (inr g) = inr (by f g)
  where
    by : (A → ⊥) → (B → ⊥) → A ⊎ B → ⊥
    by f g (inl a) = f a
    by f g (inr b) = g b

most_decided : (m n : ℕ) → Decided (m ≤ n)
most_decided m n = by (less_or m n)
  where
    by : (m ≤ n) ⊎ (n < m) → Decided (m ≤ n)
    by (inl h) = inl h
    by (inr h) = inr (λ g. omega (arith, h, g))

pub none_decided : (o : Option ℕ) → Decided (o ≡ None)
none_decided None = inl refl
none_decided (Some k) = inr (λ e. absurd (cc))

-- ---- the page's own items

form_decided : (f : ItemForm) (o : Option ℕ) (bs : List ℕ) → Decided (IsNoFunction (whole f o bs))
form_decided form.Chars o bs = inl (λ e. cc)
form_decided (form.Entity c) o bs = inl (λ e. cc)
form_decided form.Nowiki o bs = inl (λ e. cc)
form_decided form.Extension o bs = inl (λ e. cc)
form_decided form.Function o bs = inr (λ n. n refl)
form_decided form.Comment o bs = inl (λ e. cc)
form_decided form.Include o bs = inl (λ e. cc)
form_decided form.Hidden o bs = inl (λ e. cc)
form_decided form.EmptyCall o bs = inl (λ e. cc)

function_decided : (x : Item) → Decided (IsNoFunction x)
function_decided (char o b) = inl tt
function_decided (whole f o bs) = form_decided f o bs

pub own_decided : (xs : List Item) → Decided (AreOfPage xs)
own_decided [] = inl tt
own_decided (x ∷ xs) = three_decided (call_of x ≡ None) (IsNoFunction x) (AreOfPage xs) (none_decided (call_of x)) (function_decided x) (own_decided xs)

-- ---- braces

close_decided : (bs : List Brace) → Decided (NoneClose bs)
close_decided [] = inl tt
close_decided (opening ∷ bs) = close_decided bs
close_decided (closing ∷ bs) = inr (λ h. h)

pairs_decided : (bs : List Brace) → Decided (NonePairs bs)
pairs_decided [] = inl tt
pairs_decided (opening ∷ bs) = close_decided bs
pairs_decided (closing ∷ bs) = pairs_decided bs

beside_decided : (from to : ℕ) (ss : List Span) → Decided (AreBeside from to ss)
beside_decided from to [] = inl tt
beside_decided from to (s ∷ ss) =
    both_decided ((s.1 ≤ from) ⊎ (to ≤ s.0)) (AreBeside from to ss)
    (or_decided (s.1 ≤ from) (to ≤ s.0) (most_decided s.1 from) (most_decided to s.0)) (beside_decided from to ss)

pub texts_decided : (e : Expanded) (front : List Item) (t : Told) → Decided (IsBesideTexts e front t)
texts_decided e front t =
    let from : ℕ = length (text_from e.outer None (front ++ lead_of (lined t))) in
    beside_decided from (from + length (sources (joined ((lined t).first ∷ (lined t).more)))) e.text_calls

pub functions_decided : (xs : List Item) → Decided (AreNoFunctions xs)
functions_decided [] = inl tt
functions_decided (x ∷ xs) = both_decided (IsNoFunction x) (AreNoFunctions xs) (function_decided x) (functions_decided xs)

-- ---- what is before it

by_decided : (test : ℕ → Bool) (bs : List ℕ) → Decided (EndsBy test bs)
by_decided test [] = inl tt
by_decided test (b ∷ []) = bool_decided (test b) true
by_decided test (b ∷ c ∷ cs) = by_decided test (c ∷ cs)

signed_decided : (bs : List ℕ) → Decided (AreSigned bs)
signed_decided bs = by (most_decided 1 (length bs)) (by_decided is_sign_end bs) (bool_decided (ends_unopened true bs) true)
  where
    by : Decided (1 ≤ length bs) → Decided (EndsBy is_sign_end bs) → Decided (ends_unopened true bs ≡ true) → Decided (AreSigned bs)
    by (inl a) (inl b) (inl c) = inl (record { some = a; sign = b; unopened = c })
    by (inr f) b c = inr (λ h. f h.some)
    by (inl a) (inr f) c = inr (λ h. f h.sign)
    by (inl a) (inl b) (inr f) = inr (λ h. f h.unopened)

on_sign_decided : (k : TextBlock) (q : List ℕ) → Decided (IsOnSign k q)
on_sign_decided a_paragraph [] = inl tt
on_sign_decided a_paragraph (b ∷ q) = bool_decided (b == 125) false
on_sign_decided (a_heading s) q = most_decided 1 s.level

pub led_decided : (bs : List ℕ) (k : TextBlock) (q : List ℕ) → Decided (IsLedTo bs k q)
led_decided bs k q =
    or_decided (AreEnded bs) (AreSigned bs × IsOnSign k q) (by_decided is_end bs)
    (both_decided (AreSigned bs) (IsOnSign k q) (signed_decided bs) (on_sign_decided k q))

pub beside_call_decided : (e : Expanded) (front : List Item) (t : Told) → Decided (IsBesideNoCall e front t)
beside_call_decided e front t =
    by (led_decided (text_from e.outer None (front ++ lead_of (lined t))) (lined t).block (lined t).text) (own_decided (ending (joined ((lined t).first ∷ (lined t).more))))
  where
    by : Decided (IsLedTo (text_from e.outer None (front ++ lead_of (lined t))) (lined t).block (lined t).text)
        → Decided (AreOfPage (ending (joined ((lined t).first ∷ (lined t).more)))) → Decided (IsBesideNoCall e front t)
    by (inl a) (inl b) = inl (record { led = a; ending = b })
    by (inr f) b = inr (λ h. f h.led)
    by (inl a) (inr f) = inr (λ h. f h.ending)

-- ---- so its lines are the page's own

pub own_both : (xs ys : List Item) → AreOfPage xs → AreOfPage ys → AreOfPage (xs ++ ys)
own_both [] ys h g = g
own_both (x ∷ xs) ys h g = (h.0, h.1, own_both xs ys h.2 g)

pub own_of : (xs : List Item) → AllFrom None xs → AreNoFunctions xs → AreOfPage xs
own_of [] h g = tt
own_of (x ∷ xs) h g = (h.0, g.0, own_of xs h.1 g.1)

pub own_behind : (e : Expanded) (front : List Item) (t : Told) → AllFrom None (content (joined ((lined t).first ∷ (lined t).more))) → IsBesideNoCall e front t
    → 1 ≤ length (content (joined ((lined t).first ∷ (lined t).more))) → AreNoFunctions (content (joined ((lined t).first ∷ (lined t).more)))
    → CallsNothing (content (joined ((lined t).first ∷ (lined t).more))) → IsBesideTexts e front t → IsOwnBehind e front t
own_behind e front t own b some f c d =
    let lines : List Item = joined ((lined t).first ∷ (lined t).more) in
    let mine : AreOfPage (content lines) = own_of (content lines) own f in
    record {
      own = subst AreOfPage (content_ending lines) (own_both (content lines) (ending lines) mine b.ending);
      some = some;
      calm = c;
      led = b.led;
      beside = d;
    }

place_decided : (e : Expanded) (front : List Item) (t : Told) → Decided (IsOwnBehind e front t)
place_decided e front t =
    let own : List Item = joined ((lined t).first ∷ (lined t).more) in
    by (own_decided own) (most_decided 1 (length (content own))) (pairs_decided (braces (map sign (content own))))
    (led_decided (text_from e.outer None (front ++ lead_of (lined t))) (lined t).block (lined t).text) (texts_decided e front t)
  where
    by : Decided (AreOfPage (joined ((lined t).first ∷ (lined t).more))) → Decided (1 ≤ length (content (joined ((lined t).first ∷ (lined t).more))))
        → Decided (CallsNothing (content (joined ((lined t).first ∷ (lined t).more))))
        → Decided (IsLedTo (text_from e.outer None (front ++ lead_of (lined t))) (lined t).block (lined t).text) → Decided (IsBesideTexts e front t)
        → Decided (IsOwnBehind e front t)
    by (inl a) (inl b) (inl c) (inl d) (inl g) = inl (record { own = a; some = b; calm = c; led = d; beside = g })
    by (inr f) b c d g = inr (λ h. f h.own)
    by (inl a) (inr f) c d g = inr (λ h. f h.some)
    by (inl a) (inl b) (inr f) d g = inr (λ h. f h.calm)
    by (inl a) (inl b) (inl c) (inr f) g = inr (λ h. f h.led)
    by (inl a) (inl b) (inl c) (inl d) (inr f) = inr (λ h. f h.beside)

-- ---- groups

range_decided : (b : ℕ) (r : Option Ranges) → Decided (IsBeside b r)
range_decided b None = inl tt
range_decided b (Some r) = or_decided (b < r.start) (r.end ≤ b) (most_decided (suc b) r.start) (most_decided r.end b)

if_decided : (v : Bool) (A B : Type 0) → Decided A → Decided B → Decided (IfGroup v A B)
if_decided true A B a b = a
if_decided false A B a b = b

mutual
  at_decided : (b : ℕ) (t : Tree) → Decided (NoGroupAt b t)
  at_decided b (tree l ts) = if_decided (is_group l.kind) (IsBeside b l.ranges) (NoneGroupAt b ts) (range_decided b l.ranges) (among_decided b ts)

  among_decided : (b : ℕ) (ts : Trees) → Decided (NoneGroupAt b ts)
  among_decided b none = inl tt
  among_decided b (more t ts) = both_decided (NoGroupAt b t) (NoneGroupAt b ts) (at_decided b t) (among_decided b ts)

inside_decided : (v : Bool) (A : Type 0) → Decided A → Decided (InsideOf v A)
inside_decided true A d = inl tt
inside_decided false A d = d

mutual
  items_decided : (t : ItemTree) → Decided (HasItems t)
  items_decided (inner h o ts c) =
      both_decided (list_any is_page (o ++ (held_by_all ts ++ c)) ≡ true) (InsideOf (is_leaf h.kind) (AllHaveItems ts))
      (bool_decided (list_any is_page (o ++ (held_by_all ts ++ c))) true) (inside_decided (is_leaf h.kind) (AllHaveItems ts) (all_items_decided ts))

  all_items_decided : (ts : ItemTrees) → Decided (AllHaveItems ts)
  all_items_decided nothing = inl tt
  all_items_decided (further t ts) = both_decided (HasItems t) (AllHaveItems ts) (items_decided t) (all_items_decided ts)

free_decided : (k : TextBlock) (q : List ℕ) → Decided (IsFreeAlone k q)
free_decided k q =
    let ts : ItemTrees = forest (children (content_parts_of k (page_items q))) in
    both_decided (AllHaveItems ts) (is_tangled (of_items []) [] (standing 0 [] (block_tree k q)) ≡ false) (all_items_decided ts)
    (bool_decided (is_tangled (of_items []) [] (standing 0 [] (block_tree k q))) false)

pub chosen_decided : (pages : Pages) (page : List ℕ) → Answered (chosen pages page)
chosen_decided pages page front t =
    by (place_decided (expanded_page pages page) front t)
    (at_decided (length (text_from (expanded_page pages page).outer None (front ++ lead_of (lined t)))) (called_tree pages page)) (free_decided (lined t).block (lined t).text)
    (closed_decided (source_of (lined t).block (lined t).text))
  where
    by : Decided (IsOwnBehind (expanded_page pages page) front t)
        → Decided (NoGroupAt (length (text_from (expanded_page pages page).outer None (front ++ lead_of (lined t)))) (called_tree pages page))
        → Decided (IsFreeAlone (lined t).block (lined t).text) → Decided (EndsClosed (source_of (lined t).block (lined t).text) [])
        → Decided (IsChosen pages page front t)
    by (inl a) (inl b) (inl c) (inl d) = inl (record { place = a; outside = b; free = c; closed = d })
    by (inr f) b c d = inr (λ h. f h.place)
    by (inl a) (inr f) c d = inr (λ h. f h.outside)
    by (inl a) (inl b) (inr f) d = inr (λ h. f h.free)
    by (inl a) (inl b) (inl c) (inr f) = inr (λ h. f h.closed)
