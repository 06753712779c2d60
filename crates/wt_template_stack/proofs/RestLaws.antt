-- Work that comes before what is left of a call comes before all that is left; and what it costs.
use Rattle.std.proofs.Common.{◌≡◌, ℕ, ◌+◌, ◌<◌, ◌≤◌, Bool, true, false, Option, Some, None, List, [], ◌∷◌, ◌++◌, length, drop, refl, sym, ap, ◌∙◌, subst, arith, append_assoc, append-nil, min}
use Rattle.std.specs.Prelude.{nat_lt, if◌then◌else◌}
use Rattle.std.specs.Option.{option_or}
use Rattle.std.proofs.lemmas.Bool.Decides.{nat_tests}
use Rattle.wt_span.specs.Items.{Item, sources}
use Rattle.wt_names.specs.declared.title.Title.{Title}
use Rattle.wt_functions.specs.Choice.{Telling}
use Rattle.wt_expand.specs.Asking.{asking}
use Rattle.wt_expand.specs.Texts.{name_text, trimmed_items}
use Rattle.wt_expand.specs.Targets.{title_of_target}
use Rattle.wt_expand.specs.Fronts.{NextRefuses}
use Rattle.wt_expand.specs.Work.{Pages, too_large, Entry, begun, ended, fetches, is_among, most_cost}
use Rattle.wt_expand.specs.Expansion.{Output, Reading, PartOutput, Frame, just, then_output, chars, value_of, values_from, parts_work, default_output, if_value, with_break, back_braces, front_braces}
use Rattle.wt_expand.proofs.FrontLaws.{front_none}
use Rattle.wt_transclusion.specs.declared.refusal.ExpandRefusal.{ExpandRefusal}
use Rattle.wt_transclusion.specs.declared.refusal.ExpandRefusal.TheVariants as answer
use Rattle.wt_template_stack.specs.Rests.{with_work, ended_with, after_argument, after_page, after_values, next_number, after_value, after_name, after_text, after_target_by, after_target, after_given, later_told, after_told}
use Rattle.wt_template_stack.specs.Accounts.{Account, AreFetched, Does, IsAllowed}
use Rattle.wt_template_stack.specs.Runs.{IsTooLarge, Spends, RefusesCost}

abbrev out : List Item → List Entry → Output
out xs es = record { items = xs; work = es }

-- ---- work before

pub ended_work : (w : List Entry) (o : Output) → ended_with (with_work w o) ≡ with_work w (ended_with o)
ended_work w o = ap (out o.items) (append_assoc w o.work (ended (length (sources o.items)) ∷ []))

default_same : (w : List Entry) (o : Output) (later : List PartOutput) → default_output (with_work w o) later ≡ default_output o later
default_same w o [] = refl
default_same w o (p ∷ ps) = refl

pub argument_work : (frame : Frame) (later : List PartOutput) (w : List Entry) (o : Output)
    → after_argument frame later (with_work w o) ≡ with_work w (after_argument frame later o)
argument_work frame later w o =
    let v = value_of (name_text o.items) frame in
    let x = if_value v (default_output o later) in
    ap (λ d. let y = if_value v d in ended_with (out y.items ((w ++ o.work) ++ y.work))) (default_same w o later)
    ∙ ap (λ es. ended_with (out x.items es)) (append_assoc w o.work x.work)
    ∙ ended_work w (out x.items (o.work ++ x.work))

value_same : (n : ℕ) (name : Option Output) (w : List Entry) (o : Output)
    → values_from n (record { name = name; value = with_work w o; all = with_work w o } ∷ []) ≡ values_from n (record { name = name; value = o; all = o } ∷ [])
value_same n None w o = refl
value_same n (Some x) w o = refl

pub value_work : (r : Reading) (s : Bool) (t : Title) (frame : Frame) (n : ℕ) (name : Option Output) (later : List PartOutput) (w : List Entry) (o : Output)
    → after_value r s t frame n name later (with_work w o) ≡ with_work w (after_value r s t frame n name later o)
value_work r s t frame n name later w o =
    let x = after_values r s t (frame ++ values_from n (record { name = name; value = o; all = o } ∷ [])) (next_number n name) later in
    ap (λ vs. with_work (w ++ o.work) (after_values r s t (frame ++ vs) (next_number n name) later)) (value_same n name w o)
    ∙ ap (out x.items) (append_assoc w o.work x.work)

pub name_work : (r : Reading) (s : Bool) (t : Title) (frame : Frame) (n : ℕ) (value : Output) (later : List PartOutput) (w : List Entry) (o : Output)
    → after_name r s t frame n value later (with_work w o) ≡ with_work w (after_name r s t frame n value later o)
name_work r s t frame n value later w o = let x = after_value r s t frame n (Some o) later value in ap (out x.items) (append_assoc w o.work x.work)

pub text_work : (k : ℕ) (source : List ℕ) (w : List Entry) (o : Output) → after_text k source (with_work w o) ≡ with_work w (after_text k source o)
text_work k source w o = ap (out (o.items ++ chars (back_braces k source))) (append_assoc w o.work [])

target_by_work : (title : Option Title) (r : Reading) (s : Bool) (k : ℕ) (source : List ℕ) (later : List PartOutput) (behind : Output) (w : List Entry)
    (o : Output)
    → after_target_by title r s k source later behind (with_work w o) ≡ with_work w (after_target_by title r s k source later behind o)
target_by_work None r s k source later behind w o =
    ap (out (chars (front_braces k source) ++ (o.items ++ (behind.items ++ chars (back_braces k source))))) (append_assoc w o.work (behind.work ++ []))
target_by_work (Some t) r s k source later behind w o =
    let x = after_values r s t [] 1 later in
    ap (λ es. out x.items (es ++ x.work)) (append_assoc w o.work (begun ∷ [])) ∙ ap (out x.items) (append_assoc w (o.work ++ begun ∷ []) x.work)

pub target_work : (r : Reading) (s : Bool) (k : ℕ) (source : List ℕ) (later : List PartOutput) (behind : Output) (w : List Entry) (o : Output)
    → after_target r s k source later behind (with_work w o) ≡ with_work w (after_target r s k source later behind o)
target_work r s k source later behind w o = target_by_work (title_of_target o.items) r s k source later behind w o

pub given_work : (s : Bool) (w : List Entry) (o : Output) → after_given s (with_work w o) ≡ with_work w (after_given s o)
given_work s w o = ended_work w (out (with_break s (trimmed_items o.items)) o.work)

pub told_work : (s : Bool) (told : Telling) (ps : List PartOutput) (w : List Entry) (o : Output)
    → after_told s told ps (with_work w o) ≡ with_work w (after_told s told ps o)
told_work s told ps w o =
    let os = drop (length told.texts) (later_told told.function ps) in
    let x = after_given s (asking told.function told.equals ps (told.texts ++ name_text o.items ∷ []) os) in ap (out x.items) (append_assoc w o.work x.work)

-- what is given after other pieces
pub between_work : (w : List Entry) (xs : List Item) (g o : Output)
    → then_output (just xs) (then_output (with_work w g) o) ≡ with_work w (then_output (just xs) (then_output g o))
between_work w xs g o = ap (out (xs ++ (g.items ++ o.items))) (append_assoc w g.work o.work)

-- ---- cost

pub large_is : (b t : Bool) → b ≡ t → (if b then Some too_large else None) ≡ (if t then Some too_large else None)
large_is b t e = ap (λ c. if c then Some too_large else None) e

alone : (b : Bool) → b ≡ false → option_or (if b then Some too_large else None) None ≡ None
alone b e = ap (λ o. option_or o None) (large_is b false e)

fetched_none : (before work : List Entry) → fetches work ≡ [] → AreFetched before work
fetched_none before work e = λ name h. let z : false ≡ true = ap (is_among name) (sym e) ∙ h in cc

pub spends_none : (spent : ℕ) (total : Account) → Spends spent total spent total
spends_none spent total = record {
  done = [];
  does = record { before_is = refl; done_is = sym (append-nil total.done); left_is = refl };
  allowed = λ pages page h. refl;
  costs = omega arith;
  fetched = fetched_none total.done [] refl;
}

spends_begun : (spent now : ℕ) (total left : Account) → Does (begun ∷ []) total left → nat_lt most_cost (spent + 1) ≡ false → now ≡ spent + 1
    → Spends spent total now left
spends_begun spent now total left d e z = record {
  done = begun ∷ [];
  does = d;
  allowed = λ pages page h. alone (nat_lt most_cost (spent + 1)) e;
  costs = omega (arith, z);
  fetched = fetched_none total.done (begun ∷ []) refl;
}

spends_ended : (spent now n : ℕ) (total left : Account) → Does (ended n ∷ []) total left → nat_lt most_cost (spent + n) ≡ false → now ≡ spent + n
    → Spends spent total now left
spends_ended spent now n total left d e z = record {
  done = ended n ∷ [];
  does = d;
  allowed = λ pages page h. alone (nat_lt most_cost (spent + n)) e;
  costs = omega (arith, z);
  fetched = fetched_none total.done (ended n ∷ []) refl;
}

-- the next entry is refused
pub next_too_large : (pages : Pages) (page : List ℕ) (spent : ℕ) (total : Account) → NextRefuses pages page spent too_large total.left.work
    → IsTooLarge pages page spent total
next_too_large pages page spent total h = record {
  done = [];
  left = total.left.work;
  front = front_none pages page spent total.left.work;
  refused = let z : spent ≡ spent + 0 = omega arith in subst (λ (n : ℕ). NextRefuses pages page n too_large total.left.work) z h;
  fetched = fetched_none total.done [] refl;
}

pub refuses_begun : (spent : ℕ) (total left : Account) → Does (begun ∷ []) total left → nat_lt most_cost (spent + 1) ≡ true → (pages : Pages) (page : List ℕ)
    → IsAllowed pages page total → IsTooLarge pages page spent total
refuses_begun spent total left d e pages page a =
    next_too_large pages page spent total
    (subst (λ (o : Output). NextRefuses pages page spent too_large o.work) (sym d.left_is) (large_is (nat_lt most_cost (spent + 1)) true e))

pub refuses_ended : (spent n : ℕ) (total left : Account) → Does (ended n ∷ []) total left → nat_lt most_cost (spent + n) ≡ true → (pages : Pages) (page : List ℕ)
    → IsAllowed pages page total → IsTooLarge pages page spent total
refuses_ended spent n total left d e pages page a =
    next_too_large pages page spent total
    (subst (λ (o : Output). NextRefuses pages page spent too_large o.work) (sym d.left_is) (large_is (nat_lt most_cost (spent + n)) true e))

-- ---- values

values_one : (n : ℕ) (p : PartOutput) (ps : List PartOutput) → values_from n (p ∷ ps) ≡ values_from n (p ∷ []) ++ values_from (next_number n p.name) ps
values_one n p ps = by p.name p.value p.all
  where
    by : (name : Option Output) (value all : Output)
        → values_from n (record { name = name; value = value; all = all } ∷ ps)
        ≡ values_from n (record { name = name; value = value; all = all } ∷ []) ++ values_from (next_number n name) ps
    by None value all = refl
    by (Some x) value all = refl

-- the values of parts are those of the first and then those of the others
pub values_first : (r : Reading) (s : Bool) (t : Title) (frame : Frame) (n : ℕ) (p : PartOutput) (ps : List PartOutput)
    → after_values r s t frame n (p ∷ ps) ≡ with_work p.all.work (after_values r s t (frame ++ values_from n (p ∷ [])) (next_number n p.name) ps)
values_first r s t frame n p ps =
    let x = after_page s (r.template t ((frame ++ values_from n (p ∷ [])) ++ values_from (next_number n p.name) ps)) in
    ap (λ vs. with_work (p.all.work ++ parts_work ps) (after_page s (r.template t vs)))
    (ap (λ vs. frame ++ vs) (values_one n p ps) ∙ sym (append_assoc frame (values_from n (p ∷ [])) (values_from (next_number n p.name) ps)))
    ∙ ap (out x.items) (append_assoc p.all.work (parts_work ps) x.work)

-- ---- what the code spends

at_most : (spent n : ℕ) → nat_lt most_cost (spent + n) ≡ false → spent + n ≤ 8388608
unfolding most_cost
at_most spent n e = grind (arith, nat_tests)

min_of : (a b : ℕ) → a ≤ b → min a b ≡ a
min_of a b l = omega (arith, l)

pub spent_is : (spent n now : ℕ) → nat_lt most_cost (spent + n) ≡ false → now ≡ min (spent + n) 18446744073709551615 → now ≡ spent + n
spent_is spent n now e is = is ∙ min_of (spent + n) 18446744073709551615 (let l = at_most spent n e in omega (arith, l))

pub begun_spent : (spent now : ℕ) (total left : Account) → Does (begun ∷ []) total left → false ≡ nat_lt most_cost (spent + 1)
    → now ≡ min (spent + 1) 18446744073709551615 → Spends spent total now left
begun_spent spent now total left d l n = spends_begun spent now total left d (sym l) (spent_is spent 1 now (sym l) n)

pub begun_refused : (spent : ℕ) (total left : Account) (x : ExpandRefusal) → Does (begun ∷ []) total left → true ≡ nat_lt most_cost (spent + 1)
    → x ≡ answer.TooLarge
    → RefusesCost spent total x
begun_refused spent total left x d l is = subst (λ (y : ExpandRefusal). RefusesCost spent total y) (sym is) (refuses_begun spent total left d (sym l))

pub ended_spent : (spent n count now : ℕ) (total left : Account) → Does (ended n ∷ []) total left → false ≡ nat_lt most_cost (spent + count)
    → count ≡ min n 18446744073709551615 → now ≡ min (spent + count) 18446744073709551615 → Spends spent total now left
ended_spent spent n count now total left d l c m =
    let small = at_most spent count (sym l) in
    let same : count ≡ n = omega (arith, small, c) in
    spends_ended spent now n total left d (sym (l ∙ ap (λ k. nat_lt most_cost (spent + k)) same)) (spent_is spent count now (sym l) m ∙ ap (λ k. spent + k) same)

above : (spent n : ℕ) → nat_lt most_cost (spent + n) ≡ true → 8388608 < spent + n
unfolding most_cost
above spent n e = grind (arith, nat_tests)

above_is : (spent n : ℕ) → 8388608 < spent + n → nat_lt most_cost (spent + n) ≡ true
unfolding most_cost
above_is spent n l = grind (arith, nat_tests)

pub ended_refused : (spent n count : ℕ) (total left : Account) (x : ExpandRefusal) → Does (ended n ∷ []) total left
    → true ≡ nat_lt most_cost (spent + count)
    → count ≡ min n 18446744073709551615 → x ≡ answer.TooLarge → RefusesCost spent total x
ended_refused spent n count total left x d l c is =
    let high = above spent count (sym l) in
    let large = above_is spent n (omega (arith, high, c)) in
    subst (λ (y : ExpandRefusal). RefusesCost spent total y) (sym is) (refuses_ended spent n total left d large)
