-- Fronts of the work, one behind another; what is refused behind one, and the names that are told by it.
use Rattle.std.proofs.Common.{◌≡◌, ◌⊎◌, ℕ, zero, suc, ◌+◌, Bool, true, false, Option, Some, None, List, [], ◌∷◌, ◌++◌, refl, sym, ap, ◌∙◌, subst, ⊎_elim, inl, inr, arith, append_assoc, append-nil}
use Rattle.std.specs.Prelude.{if◌then◌else◌, Contains, is_some}
use Rattle.std.specs.Option.{option_or}
use Rattle.wt_expand.specs.Work.{Pages, Entry, entered, begun, fetched, ended, Refused, cost_of, entry_refusal, refusal_from, first_refusal, fetched_by, fetches, is_among, firsts_after, names_asked}
use Rattle.wt_expand.specs.Asked.{AreOnce, IsLonger}
use Rattle.wt_expand.specs.Fronts.{Front, NextRefuses, NextFetches, cost_of_all, known_after, allowed_from, allowed_work, names_told}
use Rattle.wt_expand.proofs.Agreements.{fetches_append}
use Rattle.wt_expand.proofs.Names.{asked_once, asked_are_fetched, fetched_are_asked, asked_in_order}

-- ---- entries one after another

pub cost_append : (xs ys : List Entry) → cost_of_all (xs ++ ys) ≡ cost_of_all xs + cost_of_all ys
cost_append [] ys = omega arith
cost_append (e ∷ es) ys = let h = cost_append es ys in omega (arith, h)

pub known_append : (met ns ms : List (List ℕ)) → known_after met (ns ++ ms) ≡ known_after (known_after met ns) ms
known_append met [] ms = refl
known_append met (n ∷ ns) ms = by (is_among n met) (known_append met ns ms) (known_append (n ∷ met) ns ms)
  where
    by : (t : Bool) → known_after met (ns ++ ms) ≡ known_after (known_after met ns) ms
        → known_after (n ∷ met) (ns ++ ms) ≡ known_after (known_after (n ∷ met) ns) ms
        → (if t then known_after met (ns ++ ms) else known_after (n ∷ met) (ns ++ ms))
        ≡ known_after (if t then known_after met ns else known_after (n ∷ met) ns) ms
    by true f g = f
    by false f g = g

pub firsts_append : (met ns ms : List (List ℕ)) → firsts_after met (ns ++ ms) ≡ firsts_after met ns ++ firsts_after (known_after met ns) ms
firsts_append met [] ms = refl
firsts_append met (n ∷ ns) ms = by (is_among n met) (firsts_append met ns ms) (firsts_append (n ∷ met) ns ms)
  where
    by : (t : Bool) → firsts_after met (ns ++ ms) ≡ firsts_after met ns ++ firsts_after (known_after met ns) ms
        → firsts_after (n ∷ met) (ns ++ ms) ≡ firsts_after (n ∷ met) ns ++ firsts_after (known_after (n ∷ met) ns) ms
        → (if t then firsts_after met (ns ++ ms) else n ∷ firsts_after (n ∷ met) (ns ++ ms))
        ≡ (if t then firsts_after met ns else n ∷ firsts_after (n ∷ met) ns)
        ++ firsts_after (if t then known_after met ns else known_after (n ∷ met) ns) ms
    by true f g = f
    by false f g = ap (λ xs. n ∷ xs) g

-- ---- refusals

record BothNone (o p : Option Refused) : Type 0 where
  first : o ≡ None
  later : p ≡ None

both_none : (o p : Option Refused) → option_or o p ≡ None → BothNone o p
both_none None p e = record { first = refl; later = e }
both_none (Some r) p e = cc

from_there : (pages : Pages) (page : List ℕ) (spent a b : ℕ) (es : List Entry) → refusal_from pages page ((spent + a) + b) es ≡ refusal_from pages page (spent + (a + b)) es
from_there pages page spent a b es =
    let z : (spent + a) + b ≡ spent + (a + b) = omega arith in ap (λ n. refusal_from pages page n es) z

-- behind entries that aren't refused the first refusal is that of the rest
pub refusal_append : (pages : Pages) (page : List ℕ) (spent : ℕ) (done left : List Entry) → refusal_from pages page spent done ≡ None
    → refusal_from pages page spent (done ++ left) ≡ refusal_from pages page (spent + cost_of_all done) left
refusal_append pages page spent [] left h = let z : spent ≡ spent + 0 = omega arith in ap (λ n. refusal_from pages page n left) z
refusal_append pages page spent (e ∷ es) left h =
    let now = spent + cost_of e in
    let n = both_none (entry_refusal pages page now e) (refusal_from pages page now es) h in
    ap (λ o. option_or o (refusal_from pages page now (es ++ left))) n.first
    ∙ refusal_append pages page now es left n.later
    ∙ from_there pages page spent (cost_of e) (cost_of_all es) left

pub next_refused : (pages : Pages) (page : List ℕ) (spent : ℕ) (r : Refused) (left : List Entry) → NextRefuses pages page spent r left
    → refusal_from pages page spent left ≡ Some r
next_refused pages page spent r [] h = absurd h
next_refused pages page spent r (e ∷ es) h = ap (λ o. option_or o (refusal_from pages page (spent + cost_of e) es)) h

pub next_then : (pages : Pages) (page : List ℕ) (spent : ℕ) (r : Refused) (left more : List Entry) → NextRefuses pages page spent r left
    → NextRefuses pages page spent r (left ++ more)
next_then pages page spent r [] more h = absurd h
next_then pages page spent r (e ∷ es) more h = h

pub fetch_then : (met : List (List ℕ)) (left more : List Entry) → NextFetches met left → NextFetches met (left ++ more)
fetch_then met [] more h = absurd h
fetch_then met (e ∷ es) more h = h

-- ---- fronts

pub front_none : (pages : Pages) (page : List ℕ) (spent : ℕ) (work : List Entry) → Front pages page spent work [] work
front_none pages page spent work = record { whole = refl; allowed = refl }

-- one behind another
pub front_then : (pages : Pages) (page : List ℕ) (spent : ℕ) (work done between next left : List Entry)
    → Front pages page spent work done between → Front pages page (spent + cost_of_all done) between next left
    → Front pages page spent work (done ++ next) left
front_then pages page spent work done between next left f g = record {
  whole = f.whole ∙ ap (λ es. done ++ es) g.whole ∙ sym (append_assoc done next left);
  allowed = refusal_append pages page spent done next f.allowed ∙ g.allowed;
}

-- of the first part of some work
pub front_before : (pages : Pages) (page : List ℕ) (spent : ℕ) (work done left more : List Entry) → Front pages page spent work done left
    → Front pages page spent (work ++ more) done (left ++ more)
front_before pages page spent work done left more f = record {
  whole = ap (λ es. es ++ more) f.whole ∙ append_assoc done left more;
  allowed = f.allowed;
}

pub front_refusal : (pages : Pages) (page : List ℕ) (spent : ℕ) (work done left : List Entry) → Front pages page spent work done left
    → refusal_from pages page spent work ≡ refusal_from pages page (spent + cost_of_all done) left
front_refusal pages page spent work done left f =
    ap (refusal_from pages page spent) f.whole ∙ refusal_append pages page spent done left f.allowed

-- work is refused as its next entry is
pub front_refused : (pages : Pages) (page : List ℕ) (spent : ℕ) (work done left : List Entry) (r : Refused) → Front pages page spent work done left
    → NextRefuses pages page (spent + cost_of_all done) r left
    → refusal_from pages page spent work ≡ Some r
front_refused pages page spent work done left r f h =
    front_refusal pages page spent work done left f ∙ next_refused pages page (spent + cost_of_all done) r left h

-- the names of work are those of its front and then those of the rest
pub front_names : (pages : Pages) (page : List ℕ) (spent : ℕ) (met : List (List ℕ)) (work done left : List Entry) → Front pages page spent work done left
    → firsts_after met (fetches work) ≡ firsts_after met (fetches done) ++ firsts_after (known_after met (fetches done)) (fetches left)
front_names pages page spent met work done left f =
    ap (λ es. firsts_after met (fetches es)) f.whole ∙ ap (firsts_after met) (fetches_append done left)
    ∙ firsts_append met (fetches done) (fetches left)

-- ---- up to the first refusal

allowed_step : (o : Option Refused) (e : Entry) (es : List Entry) → o ≡ None → (if is_some o then [] else e ∷ es) ≡ e ∷ es
allowed_step o e es h = ap (λ (x : Option Refused). if is_some x then [] else e ∷ es) h

allowed_append : (pages : Pages) (page : List ℕ) (spent : ℕ) (done left : List Entry) → refusal_from pages page spent done ≡ None
    → allowed_from pages page spent (done ++ left) ≡ done ++ allowed_from pages page (spent + cost_of_all done) left
allowed_append pages page spent [] left h = let z : spent ≡ spent + 0 = omega arith in ap (λ n. allowed_from pages page n left) z
allowed_append pages page spent (e ∷ es) left h =
    let now = spent + cost_of e in
    let n = both_none (entry_refusal pages page now e) (refusal_from pages page now es) h in
    let z : now + cost_of_all es ≡ spent + (cost_of e + cost_of_all es) = omega arith in
    allowed_step (entry_refusal pages page now e) e (allowed_from pages page now (es ++ left)) n.first
    ∙ ap (λ xs. e ∷ xs) (allowed_append pages page now es left n.later ∙ ap (λ k. es ++ allowed_from pages page k left) z)

allowed_next : (pages : Pages) (page : List ℕ) (spent : ℕ) (r : Refused) (left : List Entry) → NextRefuses pages page spent r left
    → allowed_from pages page spent left ≡ []
allowed_next pages page spent r [] h = absurd h
allowed_next pages page spent r (e ∷ es) h =
    ap (λ (x : Option Refused). if is_some x then [] else e ∷ allowed_from pages page (spent + cost_of e) es) h

allowed_is : (pages : Pages) (page : List ℕ) (es : List Entry) → allowed_work pages page es ≡ allowed_from pages page 0 es
unfolding allowed_work
allowed_is pages page es = refl

refusal_is : (pages : Pages) (page : List ℕ) (es : List Entry) → first_refusal pages page es ≡ refusal_from pages page 0 es
unfolding first_refusal
refusal_is pages page es = refl

told_is : (pages : Pages) (page : List ℕ) (es : List Entry) → names_told pages page es ≡ names_asked (allowed_work pages page es)
unfolding names_told
told_is pages page es = refl

asked_is : (es : List Entry) → names_asked es ≡ firsts_after [] (fetches es)
unfolding names_asked
asked_is es = refl

-- what is done before the first refusal begins with each front
pub allowed_front : (pages : Pages) (page : List ℕ) (work done left : List Entry) → Front pages page 0 work done left
    → allowed_work pages page work ≡ done ++ allowed_from pages page (cost_of_all done) left
allowed_front pages page work done left f =
    let z : 0 + cost_of_all done ≡ cost_of_all done = omega arith in
    allowed_is pages page work ∙ ap (allowed_from pages page 0) f.whole ∙ allowed_append pages page 0 done left f.allowed
    ∙ ap (λ n. done ++ allowed_from pages page n left) z

pub front_within : (pages : Pages) (page : List ℕ) (work done left : List Entry) → Front pages page 0 work done left
    → (more : List Entry) × (allowed_work pages page work ≡ done ++ more)
front_within pages page work done left f =
    (allowed_from pages page (cost_of_all done) left, allowed_front pages page work done left f)

-- it is the front behind which an entry is refused
pub front_ends : (pages : Pages) (page : List ℕ) (work done left : List Entry) (r : Refused) → Front pages page 0 work done left
    → NextRefuses pages page (cost_of_all done) r left → allowed_work pages page work ≡ done
front_ends pages page work done left r f h =
    allowed_front pages page work done left f ∙ ap (λ es. done ++ es) (allowed_next pages page (cost_of_all done) r left h) ∙ append-nil done

pub work_refused : (pages : Pages) (page : List ℕ) (work done left : List Entry) (r : Refused) → Front pages page 0 work done left
    → NextRefuses pages page (cost_of_all done) r left → first_refusal pages page work ≡ Some r
work_refused pages page work done left r f h =
    let z : cost_of_all done ≡ 0 + cost_of_all done = omega arith in
    refusal_is pages page work
    ∙ front_refused pages page 0 work done left r f (subst (λ (n : ℕ). NextRefuses pages page n r left) z h)

pub work_allowed : (pages : Pages) (page : List ℕ) (work : List Entry) → first_refusal pages page work ≡ None → allowed_work pages page work ≡ work
work_allowed pages page work h =
    allowed_front pages page work work [] (record { whole = sym (append-nil work); allowed = sym (refusal_is pages page work) ∙ h })
    ∙ append-nil work

-- ---- names that are told

pub told_once : (pages : Pages) (page : List ℕ) (work : List Entry) → AreOnce (names_told pages page work)
told_once pages page work = subst AreOnce (sym (told_is pages page work)) (asked_once (allowed_work pages page work))

in_later : (x : Entry) (e : Entry) (es : List Entry) → Contains es x → Contains (e ∷ es) x
in_later x e es (k, below, is) = (suc k, omega (arith, below), is)

in_front : (x n : List ℕ) (ns ms : List (List ℕ)) → Contains ns x → Contains (n ∷ ns) x
in_front x n ns ms (k, below, is) = (suc k, omega (arith, below), is)

name_of_entry : (e : Entry) (name : List ℕ) (es : List Entry) → (Contains (fetches es) name → Contains es (fetched name))
    → Contains (fetched_by e ++ fetches es) name → Contains (e ∷ es) (fetched name)
name_of_entry (entered title) name es later h = in_later (fetched name) (entered title) es (later h)
name_of_entry begun name es later h = in_later (fetched name) begun es (later h)
name_of_entry (fetched title) name es later (zero, below, is) = (zero, omega arith, ap fetched is)
name_of_entry (fetched title) name es later (suc k, below, is) = in_later (fetched name) (fetched title) es (later (k, omega (arith, below), is))
name_of_entry (ended n) name es later h = in_later (fetched name) (ended n) es (later h)

-- a name is fetched where an entry fetches it
pub fetches_entry : (es : List Entry) (name : List ℕ) → Contains (fetches es) name → Contains es (fetched name)
fetches_entry [] name (k, below, is) = absurd (omega (arith, below))
fetches_entry (e ∷ es) name h = name_of_entry e name es (fetches_entry es name) h

behind : (e : Entry) (name : List ℕ) (ns : List (List ℕ)) → Contains ns name → Contains (fetched_by e ++ ns) name
behind (entered title) name ns h = h
behind begun name ns h = h
behind (fetched title) name ns h = in_front name title ns [] h
behind (ended n) name ns h = h

first_fetch : (e : Entry) (name : List ℕ) (ns : List (List ℕ)) → e ≡ fetched name → Contains (fetched_by e ++ ns) name
first_fetch e name ns is =
    subst (λ (x : Entry). Contains (fetched_by x ++ ns) name) (sym is) (zero, omega arith, refl)

pub entry_fetches : (es : List Entry) (name : List ℕ) → Contains es (fetched name) → Contains (fetches es) name
entry_fetches [] name (k, below, is) = absurd (omega (arith, below))
entry_fetches (e ∷ es) name (zero, below, is) = first_fetch e name (fetches es) is
entry_fetches (e ∷ es) name (suc k, below, is) = behind e name (fetches es) (entry_fetches es name (k, omega (arith, below), is))

pub told_are_fetched : (pages : Pages) (page : List ℕ) (work : List Entry) (name : List ℕ) → Contains (names_told pages page work) name
    → Contains (allowed_work pages page work) (fetched name)
told_are_fetched pages page work name h =
    let P : List (List ℕ) → Type 0 = λ ns. Contains ns name in
    let es = allowed_work pages page work in
    fetches_entry es name (asked_are_fetched es name (subst P (told_is pages page work) h))

pub fetched_are_told : (pages : Pages) (page : List ℕ) (work : List Entry) (name : List ℕ) → Contains (allowed_work pages page work) (fetched name)
    → Contains (names_told pages page work) name
fetched_are_told pages page work name h =
    let P : List (List ℕ) → Type 0 = λ ns. Contains ns name in
    let es = allowed_work pages page work in
    subst P (sym (told_is pages page work)) (fetched_are_asked es name (entry_fetches es name h))

-- ---- the fetch that failed

new_first : (met ns : List (List ℕ)) (n : List ℕ) → is_among n met ≡ false → firsts_after met (n ∷ ns) ≡ n ∷ firsts_after (n ∷ met) ns
new_first met ns n e = ap (λ (b : Bool). if b then firsts_after met ns else n ∷ firsts_after (n ∷ met) ns) e

-- its name is the next that the work asks for
next_name : (done left : List Entry) → NextFetches (known_after [] (fetches done)) left
    → (title : List ℕ) × IsLonger (names_asked done ++ title ∷ []) (names_asked (done ++ left))
next_name done [] h = absurd h
next_name done (entered t ∷ es) h = absurd h
next_name done (begun ∷ es) h = absurd h
next_name done (fetched t ∷ es) h =
    let known = known_after [] (fetches done) in
    let more = firsts_after (t ∷ known) (fetches es) in (
      t,
      (
        more,
        asked_is (done ++ fetched t ∷ es) ∙ ap (firsts_after []) (fetches_append done (fetched t ∷ es))
            ∙ firsts_append [] (fetches done) (t ∷ fetches es)
            ∙ ap (λ ns. firsts_after [] (fetches done) ++ ns) (new_first known (fetches es) t h)
            ∙ sym (append_assoc (firsts_after [] (fetches done)) (t ∷ []) more)
            ∙ ap (λ ns. (ns ++ t ∷ []) ++ more) (sym (asked_is done)),
      ),
    )
next_name done (ended n ∷ es) h = absurd h

pub failed_fetch_next : (pages : Pages) (page : List ℕ) (work done left : List Entry) → Front pages page 0 work done left
    → NextFetches (known_after [] (fetches done)) left
    → (title : List ℕ) × IsLonger (names_asked done ++ title ∷ []) (names_asked work)
failed_fetch_next pages page work done left f h =
    let x = next_name done left h in
    (x.0, subst (λ (es : List Entry). IsLonger (names_asked done ++ x.0 ∷ []) (names_asked es)) (sym f.whole) x.1)
