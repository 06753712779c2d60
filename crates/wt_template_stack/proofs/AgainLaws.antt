-- Work that was done last is done once more: no page is fetched that wasn't, and nothing but its cost can refuse it.
use Rattle.std.proofs.Common.{◌≡◌, ◌⊎◌, ℕ, ◌+◌, ◌-◌, ◌≤◌, Bool, true, false, cond, Option, Some, None, List, [], ◌∷◌, ◌++◌, Ok, Err, refl, sym, ap, ◌∙◌, subst, ⊎_elim, inl, inr, arith, append_assoc, append-nil, min}
use Rattle.std.specs.Prelude.{Result, nat_lt, if◌then◌else◌}
use Rattle.std.specs.Option.{option_or}
use Rattle.std.specs.Str.{bytes_eq}
use Rattle.std.proofs.lemmas.Bool.Decides.{nat_tests}
use Rattle.std.proofs.lemmas.Slice.Eq.{bytes_eq-Decides}
use Rattle.wt_expand.specs.Expansion.{Output, Reading}
use Rattle.wt_expand.specs.Fronts.{Front, NextRefuses, cost_of_all, known_after}
use Rattle.wt_expand.specs.Work.{Pages, Entry, Refused, too_large, entered, begun, fetched, ended, cost_of, entry_refusal, refusal_from, fetches, firsts_after, is_among, most_cost}
use Rattle.wt_expand.proofs.Agreements.{fetches_append}
use Rattle.wt_expand.proofs.FrontLaws.{cost_append, front_then, refusal_append}
use Rattle.wt_transclusion.specs.declared.refusal.ExpandRefusal.{ExpandRefusal}
use Rattle.wt_transclusion.specs.declared.refusal.ExpandRefusal.TheVariants as answer
use Rattle.wt_template_stack.specs.Accounts.{Account, AreFetched, Does, IsAllowed, IsLast, spent_of}
use Rattle.wt_template_stack.specs.Rests.{with_work}
use Rattle.wt_template_stack.specs.Runs.{AnswersGoing, IsTooLarge, RefusesCost, Spends}
use Rattle.wt_template_stack.specs.declared.run.TextRun.{TextRun}
use Rattle.wt_template_stack.proofs.RestLaws.{large_is, spent_is}

-- ---- names that are known

cond_true : (b : Bool) → cond b true true ≡ true
cond_true true = refl
cond_true false = refl

-- a name among some is among more
among_before : (name : List ℕ) (xs ys : List (List ℕ)) → is_among name xs ≡ true → is_among name (xs ++ ys) ≡ true
among_before name [] ys h = cc
among_before name (x ∷ xs) ys h = by (bytes_eq x name) h (among_before name xs ys)
  where
    by : (b : Bool) → cond b true (is_among name xs) ≡ true → (is_among name xs ≡ true → is_among name (xs ++ ys) ≡ true)
        → cond b true (is_among name (xs ++ ys)) ≡ true
    by true g f = refl
    by false g f = f g

among_behind : (name : List ℕ) (xs ys : List (List ℕ)) → is_among name ys ≡ true → is_among name (xs ++ ys) ≡ true
among_behind name [] ys h = h
among_behind name (x ∷ xs) ys h = ap (λ b. cond (bytes_eq x name) true b) (among_behind name xs ys h) ∙ cond_true (bytes_eq x name)

among_either : (P : Type 0) (name : List ℕ) (xs ys : List (List ℕ)) → is_among name (xs ++ ys) ≡ true → (is_among name xs ≡ true → P)
    → (is_among name ys ≡ true → P) → P
among_either P name [] ys h f g = g h
among_either P name (x ∷ xs) ys h f g = by (bytes_eq x name) h f (λ k. among_either P name xs ys k)
  where
    by : (b : Bool) → cond b true (is_among name (xs ++ ys)) ≡ true → (cond b true (is_among name xs) ≡ true → P)
        → (is_among name (xs ++ ys) ≡ true → (is_among name xs ≡ true → P) → (is_among name ys ≡ true → P) → P) → P
    by true h f more = f refl
    by false h f more = more h f g

-- what was known is known
still_known : (name : List ℕ) (met ns : List (List ℕ)) → is_among name met ≡ true → is_among name (known_after met ns) ≡ true
still_known name met [] h = h
still_known name met (n ∷ ns) h = by (is_among n met) (still_known name met ns h)
    (still_known name (n ∷ met) ns (ap (λ b. cond (bytes_eq n name) true b) h ∙ cond_true (bytes_eq n name)))
  where
    by : (b : Bool) → is_among name (known_after met ns) ≡ true → is_among name (known_after (n ∷ met) ns) ≡ true
        → is_among name (if b then known_after met ns else known_after (n ∷ met) ns) ≡ true
    by true f g = f
    by false f g = g

-- what was fetched is known
now_known : (name : List ℕ) (met ns : List (List ℕ)) → is_among name ns ≡ true → is_among name (known_after met ns) ≡ true
now_known name met [] h = cc
now_known name met (n ∷ ns) h = by_name (bytes_eq n name) refl h (now_known name met ns) (now_known name (n ∷ met) ns)
  where
    first : bytes_eq n name ≡ true → (b : Bool) → is_among n met ≡ b → is_among name (if b then known_after met ns else known_after (n ∷ met) ns) ≡ true
    first e true m = still_known name met ns (subst (λ x. is_among x met ≡ true) ((bytes_eq-Decides n name).0 e) m)
    first e false m = still_known name (n ∷ met) ns (ap (λ b. cond b true (is_among name met)) e)

    later : (b : Bool) → is_among name (known_after met ns) ≡ true → is_among name (known_after (n ∷ met) ns) ≡ true
        → is_among name (if b then known_after met ns else known_after (n ∷ met) ns) ≡ true
    later true f g = f
    later false f g = g

    by_name : (t : Bool) → bytes_eq n name ≡ t → cond t true (is_among name ns) ≡ true
        → (is_among name ns ≡ true → is_among name (known_after met ns) ≡ true)
        → (is_among name ns ≡ true → is_among name (known_after (n ∷ met) ns) ≡ true) → is_among name (known_after met (n ∷ ns)) ≡ true
    by_name true e g f k = first e (is_among n met) refl
    by_name false e g f k = later (is_among n met) (f g) (k g)

pub record NoneNew (met ns : List (List ℕ)) : Type 0 where
  pub known : known_after met ns ≡ met
  pub firsts : firsts_after met ns ≡ []

none_new : (met ns : List (List ℕ)) → ((name : List ℕ) → is_among name ns ≡ true → is_among name met ≡ true) → NoneNew met ns
none_new met [] h = record { known = refl; firsts = refl }
none_new met (n ∷ ns) h =
    let here : is_among n met ≡ true = h n (ap (λ b. cond b true (is_among n ns)) ((bytes_eq-Decides n n).1 refl)) in
    let z = none_new met ns (λ name m. h name (ap (λ b. cond (bytes_eq n name) true b) m ∙ cond_true (bytes_eq n name))) in
    record {
      known = ap (λ b. if b then known_after met ns else known_after (n ∷ met) ns) here ∙ z.known;
      firsts = ap (λ b. if b then firsts_after met ns else n ∷ firsts_after (n ∷ met) ns) here ∙ z.firsts;
    }

-- work whose pages were all fetched makes none known
pub fetched_none_new : (met : List (List ℕ)) (before work : List Entry) → AreFetched before work → NoneNew (known_after met (fetches before)) (fetches work)
fetched_none_new met before work h =
    none_new (known_after met (fetches before)) (fetches work) (λ name m. now_known name met (fetches before) (h name m))

-- work behind work
pub fetched_then : (before xs ys : List Entry) → AreFetched before xs → AreFetched (before ++ xs) ys → AreFetched before (xs ++ ys)
fetched_then before xs ys f g = λ name m.
    among_either (is_among name (fetches before) ≡ true) name (fetches xs) (fetches ys) (ap (is_among name) (sym (fetches_append xs ys)) ∙ m) (f name)
    (λ k. among_either (is_among name (fetches before) ≡ true) name (fetches before) (fetches xs)
    (ap (is_among name) (sym (fetches_append before xs)) ∙ g name k) (λ y. y) (f name))

-- a front of what was done last
fetched_last : (earlier done front left : List Entry) → done ≡ front ++ left → AreFetched (earlier ++ done) front
fetched_last earlier done front left e = λ name m.
    ap (is_among name) (fetches_append earlier done)
    ∙ among_behind name (fetches earlier) (fetches done)
    (ap (λ es. is_among name (fetches es)) e ∙ ap (is_among name) (fetches_append front left) ∙ among_before name (fetches front) (fetches left) m)

-- ---- entries that aren't refused

record BothNone (o p : Option Refused) : Type 0 where
  first : o ≡ None
  later : p ≡ None

both_none : (o p : Option Refused) → option_or o p ≡ None → BothNone o p
both_none None p e = record { first = refl; later = e }
both_none (Some r) p e = cc

or_none : (o p : Option Refused) → o ≡ None → option_or o p ≡ p
or_none o p e = ap (λ x. option_or x p) e

front_allowed : (pages : Pages) (page : List ℕ) (spent : ℕ) (xs ys : List Entry) → refusal_from pages page spent (xs ++ ys) ≡ None
    → refusal_from pages page spent xs ≡ None
front_allowed pages page spent [] ys h = refl
front_allowed pages page spent (e ∷ es) ys h =
    let now = spent + cost_of e in
    let z = both_none (entry_refusal pages page now e) (refusal_from pages page now (es ++ ys)) h in
    or_none (entry_refusal pages page now e) (refusal_from pages page now es) z.first ∙ front_allowed pages page now es ys z.later

-- what was done last isn't refused where it was done
last_allowed : (pages : Pages) (page : List ℕ) (total : Account) (spent : ℕ) (work : List Entry) → IsLast total spent work → IsAllowed pages page total
    → refusal_from pages page spent work ≡ None
last_allowed pages page total spent work l h =
    let all : refusal_from pages page total.before (l.earlier ++ work) ≡ None = ap (refusal_from pages page total.before) (sym l.done_is) ∙ h in
    ap (λ n. refusal_from pages page n work) l.spent_is
    ∙ sym (refusal_append pages page total.before l.earlier work (front_allowed pages page total.before l.earlier work all)) ∙ all

large_by : (b : Bool) → ((if b then Some too_large else None) ≡ None) ⊎ ((if b then Some too_large else None) ≡ Some too_large)
large_by true = inr refl
large_by false = inl refl

-- an entry that isn't refused at one cost is refused at another one for its cost alone
entry_again : (pages : Pages) (page : List ℕ) (c d : ℕ) (e : Entry) → entry_refusal pages page c e ≡ None
    → (entry_refusal pages page d e ≡ None) ⊎ (entry_refusal pages page d e ≡ Some too_large)
entry_again pages page c d (entered title) h = inl h
entry_again pages page c d begun h = large_by (nat_lt most_cost d)
entry_again pages page c d (fetched title) h = inl refl
entry_again pages page c d (ended n) h = large_by (nat_lt most_cost d)

-- and not where that is small
entry_allowed : (pages : Pages) (page : List ℕ) (c d : ℕ) (e : Entry) → entry_refusal pages page c e ≡ None → nat_lt most_cost d ≡ false
    → entry_refusal pages page d e ≡ None
entry_allowed pages page c d (entered title) h l = h
entry_allowed pages page c d begun h l = large_is (nat_lt most_cost d) false l
entry_allowed pages page c d (fetched title) h l = refl
entry_allowed pages page c d (ended n) h l = large_is (nat_lt most_cost d) false l

less : (a b : ℕ) → a ≤ b → nat_lt most_cost b ≡ false → nat_lt most_cost a ≡ false
unfolding most_cost
less a b l e = grind (arith, nat_tests)

more : (a b : ℕ) → a ≤ b → nat_lt most_cost a ≡ true → nat_lt most_cost b ≡ true
unfolding most_cost
more a b l e = grind (arith, nat_tests)

-- work that isn't refused after so much isn't after as much as leaves room for it
again_allowed : (pages : Pages) (page : List ℕ) (a b : ℕ) (es : List Entry) → refusal_from pages page a es ≡ None → nat_lt most_cost (b + cost_of_all es) ≡ false
    → refusal_from pages page b es ≡ None
again_allowed pages page a b [] h l = refl
again_allowed pages page a b (e ∷ es) h l =
    let z = both_none (entry_refusal pages page (a + cost_of e) e) (refusal_from pages page (a + cost_of e) es) h in
    let now = b + cost_of e in
    let first = entry_allowed pages page (a + cost_of e) now e z.first (less now (b + (cost_of e + cost_of_all es)) (omega arith) l) in
    let same : b + (cost_of e + cost_of_all es) ≡ now + cost_of_all es = omega arith in
    or_none (entry_refusal pages page now e) (refusal_from pages page now es) first
    ∙ again_allowed pages page (a + cost_of e) now es z.later (ap (nat_lt most_cost) (sym same) ∙ l)

-- A front of this work behind which an entry is refused for its cost, where a call or an argument ends behind the work.
record StopsAgain (pages : Pages) (page : List ℕ) (spent : ℕ) (work : List Entry) (n : ℕ) (rest : List Entry) : Type 0 where
  done : List Entry
  left : List Entry
  work_is : work ≡ done ++ left
  allowed : refusal_from pages page spent done ≡ None
  refused : NextRefuses pages page (spent + cost_of_all done) too_large (left ++ (ended n ∷ rest))

again_stops : (pages : Pages) (page : List ℕ) (a b : ℕ) (es : List Entry) (n : ℕ) (rest : List Entry) → refusal_from pages page a es ≡ None
    → nat_lt most_cost (b + cost_of_all es) ≡ true → StopsAgain pages page b es n rest
again_stops pages page a b [] n rest h l = record {
  done = [];
  left = [];
  work_is = refl;
  allowed = refl;
  refused = large_is (nat_lt most_cost ((b + 0) + n)) true (more (b + 0) ((b + 0) + n) (omega arith) l);
}
again_stops pages page a b (e ∷ es) n rest h l =
    let z = both_none (entry_refusal pages page (a + cost_of e) e) (refusal_from pages page (a + cost_of e) es) h in
    let now = b + cost_of e in
    let same : b + (cost_of e + cost_of_all es) ≡ now + cost_of_all es = omega arith in
    let later = again_stops pages page (a + cost_of e) now es n rest z.later (ap (nat_lt most_cost) (sym same) ∙ l) in
    ⊎_elim (λ x. goes_on now refl x later) (λ x. stops x) (entry_again pages page (a + cost_of e) now e z.first)
  where
    goes_on : (now : ℕ) → now ≡ b + cost_of e → entry_refusal pages page (b + cost_of e) e ≡ None → StopsAgain pages page (b + cost_of e) es n rest
        → StopsAgain pages page b (e ∷ es) n rest
    goes_on now is x s = record {
      done = e ∷ s.done;
      left = s.left;
      work_is = ap (λ xs. e ∷ xs) s.work_is;
      allowed = or_none (entry_refusal pages page (b + cost_of e) e) (refusal_from pages page (b + cost_of e) s.done) x ∙ s.allowed;
      refused = let q : (b + cost_of e) + cost_of_all s.done ≡ b + (cost_of e + cost_of_all s.done) = omega arith in
          subst (λ (k : ℕ). NextRefuses pages page k too_large (s.left ++ (ended n ∷ rest))) q s.refused;
    }

    stops : entry_refusal pages page (b + cost_of e) e ≡ Some too_large → StopsAgain pages page b (e ∷ es) n rest
    stops x = record {
      done = [];
      left = e ∷ es;
      work_is = refl;
      allowed = refl;
      refused = let q : b ≡ b + 0 = omega arith in subst (λ (k : ℕ). entry_refusal pages page (k + cost_of e) e ≡ Some too_large) q x;
    }

-- ---- one step behind another

allowed_then : (spent now : ℕ) (total mid : Account) → spent ≡ spent_of total → Spends spent total now mid → (pages : Pages) (page : List ℕ)
    → IsAllowed pages page total → IsAllowed pages page mid
allowed_then spent now total mid is f pages page h =
    ap (λ n. refusal_from pages page n mid.done) f.does.before_is ∙ ap (refusal_from pages page total.before) f.does.done_is
    ∙ refusal_append pages page total.before total.done f.done h ∙ ap (λ n. refusal_from pages page n f.done) (sym is) ∙ f.allowed pages page h

pub spends_then : (spent now later : ℕ) (total mid left : Account) → spent ≡ spent_of total → Spends spent total now mid → Spends now mid later left
    → Spends spent total later left
spends_then spent now later total mid left is f g = record {
  done = f.done ++ g.done;
  does = record {
    before_is = g.does.before_is ∙ f.does.before_is;
    done_is = g.does.done_is ∙ ap (λ es. es ++ g.done) f.does.done_is ∙ append_assoc total.done f.done g.done;
    left_is = f.does.left_is ∙ ap (with_work f.done) g.does.left_is
        ∙ ap (λ (es : List Entry). let o : Output = record { items = left.left.items; work = es } in o) (sym (append_assoc f.done g.done left.left.work));
  };
  allowed = λ pages page h.
      refusal_append pages page spent f.done g.done (f.allowed pages page h)
      ∙ ap (λ n. refusal_from pages page n g.done) (sym f.costs) ∙ g.allowed pages page (allowed_then spent now total mid is f pages page h);
  costs = let a = f.costs in let b = g.costs in let c = cost_append f.done g.done in omega (arith, a, b, c);
  fetched = fetched_then total.done f.done g.done f.fetched (subst (λ es. AreFetched es g.done) f.does.done_is g.fetched);
}

large_then : (spent now : ℕ) (total mid : Account) → spent ≡ spent_of total → Spends spent total now mid → (pages : Pages) (page : List ℕ)
    → IsTooLarge pages page now mid → IsAllowed pages page total → IsTooLarge pages page spent total
large_then spent now total mid is f pages page x h = record {
  done = f.done ++ x.done;
  left = x.left;
  front = front_then pages page spent total.left.work f.done mid.left.work x.done x.left
      (record { whole = ap (λ (o : Output). o.work) f.does.left_is; allowed = f.allowed pages page h })
      (subst (λ (n : ℕ). Front pages page n mid.left.work x.done x.left) f.costs x.front);
  refused = let q : now + cost_of_all x.done ≡ spent + cost_of_all (f.done ++ x.done) = (let a = f.costs in let c = cost_append f.done x.done in omega (arith, a, c)) in
      subst (λ (n : ℕ). NextRefuses pages page n too_large x.left) q x.refused;
  fetched = fetched_then total.done f.done x.done f.fetched (subst (λ es. AreFetched es x.done) f.does.done_is x.fetched);
}

refuses_then : (spent now : ℕ) (total mid : Account) (e : ExpandRefusal) → spent ≡ spent_of total → Spends spent total now mid → RefusesCost now mid e
    → RefusesCost spent total e
refuses_then spent now total mid (answer.BracesTooDeep title place) is f g = g
refuses_then spent now total mid answer.TooLarge is f g =
    λ pages page h. large_then spent now total mid is f pages page (g pages page (allowed_then spent now total mid is f pages page h)) h
refuses_then spent now total mid answer.FolderFault is f g = g
refuses_then spent now total mid (answer.TemplateNotUtf8 title place) is f g = g
refuses_then spent now total mid (answer.TemplateTooLong title) is f g = g
refuses_then spent now total mid answer.NoMemory is f g = g

pub going_then : (r : Reading) (t : List ℕ) (spent now later : ℕ) (total mid : Account) (run : TextRun) (x : Result Unit ExpandRefusal)
    → spent ≡ spent_of total → Spends spent total now mid → AnswersGoing r t now mid run later x → AnswersGoing r t spent total run later x
going_then r t spent now later total mid run (Ok u) is f g = (g.0, spends_then spent now later total mid g.0 is f g.1, g.2)
going_then r t spent now later total mid run (Err e) is f g = refuses_then spent now total mid e is f g

-- ---- the same work again

-- what it costs
again_cost : (total : Account) (spent before : ℕ) (work : List Entry) → spent ≡ spent_of total → IsLast total before work → spent - before ≡ cost_of_all work
again_cost total spent before work is l =
    let a = l.spent_is in
    let b = ap cost_of_all l.done_is ∙ cost_append l.earlier work in
    omega (arith, a, b, is)

again_fetched : (total : Account) (before : ℕ) (work front left : List Entry) → IsLast total before work → work ≡ front ++ left → AreFetched total.done front
again_fetched total before work front left l e =
    subst (λ es. AreFetched es front) (sym l.done_is) (fetched_last l.earlier work front left e)

pub again_spent : (spent before now : ℕ) (total left : Account) (work : List Entry) → spent ≡ spent_of total → IsLast total before work → Does work total left
    → false ≡ nat_lt most_cost (spent + (spent - before)) → now ≡ min (spent + (spent - before)) 18446744073709551615 → Spends spent total now left
again_spent spent before now total left work is l d small n =
    let costs = again_cost total spent before work is l in
    record {
      done = work;
      does = d;
      allowed = λ pages page h.
          again_allowed pages page before spent work (last_allowed pages page total before work l h)
          (ap (λ k. nat_lt most_cost (spent + k)) (sym costs) ∙ sym small);
      costs = spent_is spent (spent - before) now (sym small) n ∙ ap (λ k. spent + k) costs;
      fetched = again_fetched total before work work [] l (sym (append-nil work));
    }

again_large : (spent before n : ℕ) (total : Account) (work rest : List Entry) → spent ≡ spent_of total → IsLast total before work
    → total.left.work ≡ work ++ (ended n ∷ rest) → nat_lt most_cost (spent + (spent - before)) ≡ true → (pages : Pages) (page : List ℕ)
    → IsAllowed pages page total → IsTooLarge pages page spent total
again_large spent before n total work rest is l whole large pages page h =
    let costs = again_cost total spent before work is l in
    let s = again_stops pages page before spent work n rest (last_allowed pages page total before work l h)
    (ap (λ k. nat_lt most_cost (spent + k)) (sym costs) ∙ large) in
    record {
      done = s.done;
      left = s.left ++ (ended n ∷ rest);
      front = record {
        whole = whole ∙ ap (λ es. es ++ (ended n ∷ rest)) s.work_is ∙ append_assoc s.done s.left (ended n ∷ rest);
        allowed = s.allowed;
      };
      refused = s.refused;
      fetched = again_fetched total before work s.done s.left l s.work_is;
    }

pub again_refused : (spent before n : ℕ) (total : Account) (work rest : List Entry) (x : ExpandRefusal) → spent ≡ spent_of total → IsLast total before work
    → total.left.work ≡ work ++ (ended n ∷ rest) → true ≡ nat_lt most_cost (spent + (spent - before)) → x ≡ answer.TooLarge → RefusesCost spent total x
again_refused spent before n total work rest x is l whole large e =
    subst (λ (y : ExpandRefusal). RefusesCost spent total y) (sym e) (again_large spent before n total work rest is l whole (sym large))
