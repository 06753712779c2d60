-- Each name that is fetched is asked for once, where it comes first; and a page whose calls are arguments fetches nothing.
use Rattle.std.proofs.Common.{◌≡◌, ◌⊎◌, ℕ, zero, suc, ◌+◌, ◌-◌, Bool, true, false, Option, Some, None, List, [], ◌∷◌, ◌++◌, take, drop, refl, sym, ap, ◌∙◌, subst, ⊎_elim, inl, inr, arith}
use Rattle.std.specs.Prelude.{◌==◌, if◌then◌else◌, slice_index, Contains}
use Rattle.std.proofs.lemmas.Slice.Eq.{bytes_eq-Decides}
use Rattle.std.specs.Str.{bytes_eq}
use Rattle.wt_span.specs.declared.form.Mode.TheVariants as mode
use Rattle.wt_span.specs.Bytes.{is_break}
use Rattle.wt_span.specs.Items.{Item}
use Rattle.wt_span.specs.Braces.{Member, Members, lexeme, call, none, more, width, width_of_all}
use Rattle.wt_braces.specs.PartMembers.{PartMembers, part_members}
use Rattle.wt_expand.specs.Asked.{AreOnce, IsLonger, IsArgument, AreArguments}
use Rattle.wt_expand.specs.Texts.{name_text}
use Rattle.wt_span.specs.Functions.{function_of}
use Rattle.wt_expand.specs.Targets.{Called, argument, function, called, called_function, called_by, title_of_target, is_function}
use Rattle.wt_expand.specs.Work.{Pages, Entry, ended, fetches, is_among, firsts_after, names_asked}
use Rattle.wt_expand.specs.Expansion.{Output, joined, PartOutput, member_count, part_by, part_outputs, target_part, later_parts, value_of, Reading, default_output, if_value, argument_output, called_output, output_of, outputs_of, text_members, page_reading, page_work}
use Rattle.wt_expand.proofs.Agreements.{fetches_append, called_is}

-- ---- whether a name is among others

in_later : (x n : List ℕ) (ns : List (List ℕ)) → Contains ns x → Contains (n ∷ ns) x
in_later x n ns (k, below, e) = (suc k, omega (arith, below), e)

in_first : (x n : List ℕ) (ns : List (List ℕ)) → n ≡ x → Contains (n ∷ ns) x
in_first x n ns e = (zero, omega arith, e)

in_cases : (x n : List ℕ) (ns : List (List ℕ)) → Contains (n ∷ ns) x → (n ≡ x) ⊎ Contains ns x
in_cases x n ns (zero, below, e) = inl e
in_cases x n ns (suc k, below, e) = inr (k, omega (arith, below), e)

in_none : (x : List ℕ) → Contains [] x → ⊥
in_none x (k, below, e) = omega (arith, below)

among_is : (x : List ℕ) (ns : List (List ℕ)) → is_among x ns ≡ true → Contains ns x
among_is x [] e = cc
among_is x (n ∷ ns) e = by (bytes_eq n x) refl e (among_is x ns)
  where
    by : (t : Bool) → bytes_eq n x ≡ t → (if t then true else is_among x ns) ≡ true → (is_among x ns ≡ true → Contains ns x) → Contains (n ∷ ns) x
    by true f e rest = in_first x n ns ((bytes_eq-Decides n x).0 f)
    by false f e rest = in_later x n ns (rest e)

among_not : (x : List ℕ) (ns : List (List ℕ)) → is_among x ns ≡ false → Contains ns x → ⊥
among_not x [] e h = in_none x h
among_not x (n ∷ ns) e h = by (bytes_eq n x) refl e (among_not x ns)
  where
    by : (t : Bool) → bytes_eq n x ≡ t → (if t then true else is_among x ns) ≡ false → (is_among x ns ≡ false → Contains ns x → ⊥) → ⊥
    by true f e rest = cc
    by false f e rest = ⊎_elim (λ g. let z : true ≡ false = sym ((bytes_eq-Decides n x).1 g) ∙ f in cc) (λ g. rest e g) (in_cases x n ns h)

-- ---- first occurrences

firsts_in : (met ns : List (List ℕ)) (x : List ℕ) → Contains (firsts_after met ns) x → Contains ns x
firsts_in met [] x h = h
firsts_in met (n ∷ ns) x h = by (is_among n met) h (λ g. firsts_in met ns x g) (λ g. firsts_in (n ∷ met) ns x g)
  where
    by : (t : Bool) → Contains (if t then firsts_after met ns else n ∷ firsts_after (n ∷ met) ns) x
        → (Contains (firsts_after met ns) x → Contains ns x) → (Contains (firsts_after (n ∷ met) ns) x → Contains ns x)
        → Contains (n ∷ ns) x
    by true h f g = in_later x n ns (f h)
    by false h f g = ⊎_elim (λ e. in_first x n ns e) (λ i. in_later x n ns (g i)) (in_cases x n (firsts_after (n ∷ met) ns) h)

in_firsts : (met ns : List (List ℕ)) (x : List ℕ) → Contains ns x → Contains met x ⊎ Contains (firsts_after met ns) x
in_firsts met [] x h = absurd (in_none x h)
in_firsts met (n ∷ ns) x h = by (is_among n met) refl (λ g. in_firsts met ns x g) (λ g. in_firsts (n ∷ met) ns x g)
  where
    by : (t : Bool) → is_among n met ≡ t → (Contains ns x → Contains met x ⊎ Contains (firsts_after met ns) x)
        → (Contains ns x → Contains (n ∷ met) x ⊎ Contains (firsts_after (n ∷ met) ns) x)
        → Contains met x ⊎ Contains (if t then firsts_after met ns else n ∷ firsts_after (n ∷ met) ns) x
    by true e f g = ⊎_elim (λ i. inl (subst (Contains met) i (among_is n met e))) f (in_cases x n ns h)
    by false e f g = ⊎_elim (λ i. inr (in_first x n (firsts_after (n ∷ met) ns) i))
        (λ i. ⊎_elim (λ j. ⊎_elim (λ k. inr (in_first x n (firsts_after (n ∷ met) ns) k)) (λ k. inl k) (in_cases x n met j))
        (λ j. inr (in_later x n (firsts_after (n ∷ met) ns) j)) (g i))
        (in_cases x n ns h)

firsts_new : (met ns : List (List ℕ)) (x : List ℕ) → Contains (firsts_after met ns) x → Contains met x → ⊥
firsts_new met [] x h m = in_none x h
firsts_new met (n ∷ ns) x h m = by (is_among n met) refl h (λ g. firsts_new met ns x g m) (λ g. firsts_new (n ∷ met) ns x g (in_later x n met m))
  where
    by : (t : Bool) → is_among n met ≡ t → Contains (if t then firsts_after met ns else n ∷ firsts_after (n ∷ met) ns) x
        → (Contains (firsts_after met ns) x → ⊥) → (Contains (firsts_after (n ∷ met) ns) x → ⊥) → ⊥
    by true e h f g = f h
    by false e h f g = ⊎_elim (λ i. among_not n met e (subst (Contains met) (sym i) m)) g (in_cases x n (firsts_after (n ∷ met) ns) h)

firsts_once : (met ns : List (List ℕ)) → AreOnce (firsts_after met ns)
firsts_once met [] = tt
firsts_once met (n ∷ ns) = by (is_among n met) (firsts_once met ns) (firsts_once (n ∷ met) ns)
  where
    by : (t : Bool) → AreOnce (firsts_after met ns) → AreOnce (firsts_after (n ∷ met) ns)
        → AreOnce (if t then firsts_after met ns else n ∷ firsts_after (n ∷ met) ns)
    by true f g = f
    by false f g = ((λ h. firsts_new (n ∷ met) ns n h (in_first n n met refl)), g)

-- what comes later is appended
firsts_longer : (met ns ms : List (List ℕ)) → IsLonger (firsts_after met ns) (firsts_after met (ns ++ ms))
firsts_longer met [] ms = (firsts_after met ms, refl)
firsts_longer met (n ∷ ns) ms = by (is_among n met) (firsts_longer met ns ms) (firsts_longer (n ∷ met) ns ms)
  where
    by : (t : Bool) → IsLonger (firsts_after met ns) (firsts_after met (ns ++ ms)) → IsLonger (firsts_after (n ∷ met) ns) (firsts_after (n ∷ met) (ns ++ ms))
        → IsLonger (if t then firsts_after met ns else n ∷ firsts_after (n ∷ met) ns)
        (if t then firsts_after met (ns ++ ms) else n ∷ firsts_after (n ∷ met) (ns ++ ms))
    by true f g = f
    by false f g = (g.0, ap (λ xs. n ∷ xs) g.1)

names_are : (es : List Entry) → names_asked es ≡ firsts_after [] (fetches es)
unfolding names_asked
names_are es = refl

pub asked_once : (es : List Entry) → AreOnce (names_asked es)
asked_once es = subst AreOnce (sym (names_are es)) (firsts_once [] (fetches es))

pub asked_are_fetched : (es : List Entry) (x : List ℕ) → Contains (names_asked es) x → Contains (fetches es) x
asked_are_fetched es x h = let P : List (List ℕ) → Type 0 = λ ns. Contains ns x in firsts_in [] (fetches es) x (subst P (names_are es) h)

pub fetched_are_asked : (es : List Entry) (x : List ℕ) → Contains (fetches es) x → Contains (names_asked es) x
fetched_are_asked es x h =
    let P : List (List ℕ) → Type 0 = λ ns. Contains ns x in
    subst P (sym (names_are es)) (⊎_elim (λ g. absurd (in_none x g)) (λ g. g) (in_firsts [] (fetches es) x h))

pub asked_in_order : (es others : List Entry) → IsLonger (names_asked es) (names_asked (es ++ others))
asked_in_order es others =
    let l = firsts_longer [] (fetches es) (fetches others) in
    (l.0, names_are (es ++ others) ∙ ap (firsts_after []) (fetches_append es others) ∙ l.1 ∙ ap (λ ns. ns ++ l.0) (sym (names_are es)))

-- ---- pages that take no template

abbrev Quiet : Output → Type 0
Quiet o = fetches o.work ≡ []

abbrev AllQuiet : List Output → Type 0
AllQuiet [] = Unit {0}
AllQuiet (o ∷ os) = Quiet o × AllQuiet os

quiet_both : (xs ys : List Entry) → fetches xs ≡ [] → fetches ys ≡ [] → fetches (xs ++ ys) ≡ []
quiet_both xs ys f g = fetches_append xs ys ∙ ap (λ ns. ns ++ fetches ys) f ∙ g

joined_quiet : (os : List Output) → AllQuiet os → Quiet (joined os)
joined_quiet [] h = refl
joined_quiet (o ∷ os) h = quiet_both o.work (joined os).work h.0 (joined_quiet os h.1)

take_quiet : (n : ℕ) (os : List Output) → AllQuiet os → AllQuiet (take n os)
take_quiet zero [] h = tt
take_quiet zero (o ∷ os) h = tt
take_quiet (suc n) [] h = tt
take_quiet (suc n) (o ∷ os) h = (h.0, take_quiet n os h.1)

drop_quiet : (n : ℕ) (os : List Output) → AllQuiet os → AllQuiet (drop n os)
drop_quiet zero [] h = tt
drop_quiet zero (o ∷ os) h = h
drop_quiet (suc n) [] h = tt
drop_quiet (suc n) (o ∷ os) h = drop_quiet n os h.1

abbrev PartsQuiet : List PartOutput → Type 0
PartsQuiet [] = Unit {0}
PartsQuiet (p ∷ ps) = Quiet p.all × PartsQuiet ps

part_quiet : (name : Option (List Member × ℕ)) (os : List Output) → AllQuiet os → Quiet (part_by name os).all
part_quiet None os h = joined_quiet os h
part_quiet (Some x) os h = joined_quiet os h

parts_quiet : (ps : List PartMembers) (os : List Output) → AllQuiet os → PartsQuiet (part_outputs ps os)
parts_quiet [] os h = tt
parts_quiet (p ∷ ps) os h = (
  part_quiet p.name (take (member_count p) os) (take_quiet (member_count p) os h),
  parts_quiet ps (drop (member_count p + 1) os) (drop_quiet (member_count p + 1) os h),
)

target_quiet : (ps : List PartOutput) → PartsQuiet ps → Quiet (target_part ps)
target_quiet [] h = refl
target_quiet (p ∷ ps) h = h.0

later_quiet : (ps : List PartOutput) → PartsQuiet ps → PartsQuiet (later_parts ps)
later_quiet [] h = tt
later_quiet (p ∷ ps) h = h.1

default_quiet : (name : Output) (ps : List PartOutput) → PartsQuiet ps → Quiet (default_output name ps)
default_quiet name [] h = refl
default_quiet name (p ∷ ps) h = h.0

value_quiet : (v : Option (List Item)) (o : Output) → Quiet o → Quiet (if_value v o)
value_quiet None o h = h
value_quiet (Some v) o h = refl

argument_quiet : (r : Reading) (ps : List PartOutput) → PartsQuiet ps → Quiet (argument_output r.frame ps)
argument_quiet r ps h =
    let name = target_part ps in
    let v = value_of (name_text name.items) r.frame in
    let o = if_value v (default_output name (later_parts ps)) in
    quiet_both (name.work ++ o.work) (ended _ ∷ [])
    (quiet_both name.work o.work (target_quiet ps h)
    (value_quiet v (default_output name (later_parts ps)) (default_quiet name (later_parts ps) (later_quiet ps h)))) refl

three_is : (k : ℕ) (source : List ℕ) (target : List Item) → k ≡ 3 → called k source target ≡ argument
three_is k source target e = called_is k source target
    ∙ ap (λ n. if n == 3 then argument else (if is_function source then called_function (function_of (drop 2 source)) else called_by (title_of_target target))) e

mutual
  quiet_one : (r : Reading) (start : Bool) (bs : List ℕ) (m : Member) → IsArgument m → Quiet (output_of r start bs m)
  quiet_one r start bs (lexeme (kind, n)) h = refl
  quiet_one r start bs (call k ms) h =
      let os = outputs_of r false (drop k bs) ms in
      let ps = part_outputs (part_members 0 ms) os in
      let source = take (k + width_of_all ms + k) bs in
      let P : Called → Type 0 = λ c. Quiet (called_output c r start k source ps os) in
      subst P (sym (three_is k source (target_part ps).items h.0))
      (argument_quiet r ps (parts_quiet (part_members 0 ms) os (quiet_all r false (drop k bs) ms h.1)))

  quiet_all : (r : Reading) (start : Bool) (bs : List ℕ) (ms : Members) → AreArguments ms → AllQuiet (outputs_of r start bs ms)
  quiet_all r start bs none h = tt
  quiet_all r start bs (more m ms) h = (quiet_one r start bs m h.0, quiet_all r (is_break (slice_index bs (width m - 1))) (drop (width m) bs) ms h.1)

pub no_template_no_fetch : (pages : Pages) (bs : List ℕ) → AreArguments (text_members mode.Page bs) → names_asked (page_work pages bs) ≡ []
unfolding names_asked page_work
no_template_no_fetch pages bs h = ap (firsts_after [])
    (joined_quiet (outputs_of (page_reading pages) true bs (text_members mode.Page bs))
    (quiet_all (page_reading pages) true bs (text_members mode.Page bs) h))
