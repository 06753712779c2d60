-- What a page gives hangs on no page that isn't fetched for it.
use Rattle.std.proofs.Common.{◌≡◌, ℕ, zero, suc, ◌+◌, ◌-◌, Bool, true, false, Option, Some, None, List, [], ◌∷◌, ◌++◌, length, map, take, drop, refl, sym, ap, ◌∙◌, subst, arith, append_assoc}
use Rattle.std.specs.Prelude.{◌==◌, if◌then◌else◌, slice_index, is_some, Contains}
use Rattle.std.proofs.lemmas.List.{take-map}
use Rattle.std.proofs.lemmas.List.Elements.{Contains-append_left, Contains-append_right}
use Rattle.wt_span.specs.declared.form.Mode.{Mode}
use Rattle.wt_span.specs.declared.form.Mode.TheVariants as mode
use Rattle.wt_span.specs.Bytes.{is_break}
use Rattle.wt_span.specs.Items.{Item}
use Rattle.wt_span.specs.Origins.{Expanded}
use Rattle.wt_span.specs.Braces.{Member, Members, lexeme, call, none, more, width, width_of_all}
use Rattle.wt_names.specs.declared.title.Title.{Title}
use Rattle.wt_names.specs.Namespace.{full_name_of}
use Rattle.wt_braces.specs.PartMembers.{PartMembers, part_members}
use Rattle.wt_expand.specs.Agreement.{AgreeOn}
use Rattle.wt_expand.specs.Texts.{name_text, trimmed_items}
use Rattle.wt_span.specs.declared.function.Function.{Function}
use Rattle.wt_span.specs.declared.function.Function.TheVariants.{If, IfEq, Switch}
use Rattle.wt_functions.specs.Choice.{told_count, chosen}
use Rattle.wt_span.specs.Functions.{function_of}
use Rattle.wt_functions.proofs.ChoiceLaws.{Alike}
use Rattle.wt_functions.proofs.WholeLists.{told_alike}
use Rattle.wt_expand.specs.Targets.{Called, argument, choice, function, page, text, called, called_function, called_by, title_of_target, is_function}
use Rattle.wt_expand.specs.Templates.{template_text}
use Rattle.wt_expand.specs.Work.{Pages, Entry, entered, begun, fetched, ended, fetched_by, fetches, is_among}
use Rattle.wt_expand.specs.Expansion.{Output, just, joined, given, with_break, chars, loop_text, PartOutput, member_count, part_by, part_outputs, target_part, later_parts, Frame, value_of, values_from, parts_work, Reading, default_output, if_value, argument_output, page_output, told_by, first_given, told_outputs, chosen_output, function_output, text_output, called_output, output_of, outputs_of, text_members, text_given, fetched_output, template_output, most_templates, page_reading, page_work}
use Rattle.wt_expand.specs.PageCalls.{Stretch, call_stretches, stretches_of, all_stretches, numbered, outer_calls, text_spans, page_stretches, expanded_page}

-- ---- work in parts

pub fetches_append : (xs ys : List Entry) → fetches (xs ++ ys) ≡ fetches xs ++ fetches ys
fetches_append [] ys = refl
fetches_append (e ∷ es) ys = ap (λ ns. fetched_by e ++ ns) (fetches_append es ys) ∙ sym (append_assoc (fetched_by e) (fetches es) (fetches ys))

agree_left : (p q : Pages) (xs ys : List Entry) → AgreeOn p q (xs ++ ys) → AgreeOn p q xs
agree_left p q xs ys h full there = h full (let P : List (List ℕ) → Type 0 = λ ns. Contains ns full in
    subst P (sym (fetches_append xs ys)) (Contains-append_left (fetches xs) (fetches ys) full there))

agree_right : (p q : Pages) (xs ys : List Entry) → AgreeOn p q (xs ++ ys) → AgreeOn p q ys
agree_right p q xs ys h full there = h full (let P : List (List ℕ) → Type 0 = λ ns. Contains ns full in
    subst P (sym (fetches_append xs ys)) (Contains-append_right (fetches xs) (fetches ys) full there))

-- the work behind one entry
agree_tail : (p q : Pages) (e : Entry) (es : List Entry) → AgreeOn p q (e ∷ es) → AgreeOn p q es
agree_tail p q e es h = agree_right p q (e ∷ []) es h

-- ---- outputs that are the same where the pages are

abbrev Same : Pages → Pages → Output → Output → Type 0
Same p q o u = AgreeOn p q o.work → o ≡ u

abbrev AllSame : Pages → Pages → List Output → List Output → Type 0
AllSame p q [] [] = Unit {0}
AllSame p q [] (u ∷ us) = ⊥
AllSame p q (o ∷ os) [] = ⊥
AllSame p q (o ∷ os) (u ∷ us) = Same p q o u × AllSame p q os us

all_equal : (p q : Pages) (os us : List Output) → AllSame p q os us → AgreeOn p q (joined os).work → os ≡ us
all_equal p q [] [] s h = refl
all_equal p q [] (u ∷ us) s h = absurd s
all_equal p q (o ∷ os) [] s h = absurd s
all_equal p q (o ∷ os) (u ∷ us) s h =
    ap (λ x. x ∷ os) (s.0 (agree_left p q o.work (joined os).work h)) ∙ ap (λ xs. u ∷ xs) (all_equal p q os us s.1 (agree_right p q o.work (joined os).work h))

take_same : (p q : Pages) (n : ℕ) (os us : List Output) → AllSame p q os us → AllSame p q (take n os) (take n us)
take_same p q zero [] [] s = tt
take_same p q zero [] (u ∷ us) s = absurd s
take_same p q zero (o ∷ os) [] s = absurd s
take_same p q zero (o ∷ os) (u ∷ us) s = tt
take_same p q (suc n) [] [] s = tt
take_same p q (suc n) [] (u ∷ us) s = absurd s
take_same p q (suc n) (o ∷ os) [] s = absurd s
take_same p q (suc n) (o ∷ os) (u ∷ us) s = (s.0, take_same p q n os us s.1)

drop_same : (p q : Pages) (n : ℕ) (os us : List Output) → AllSame p q os us → AllSame p q (drop n os) (drop n us)
drop_same p q zero [] [] s = tt
drop_same p q zero [] (u ∷ us) s = absurd s
drop_same p q zero (o ∷ os) [] s = absurd s
drop_same p q zero (o ∷ os) (u ∷ us) s = s
drop_same p q (suc n) [] [] s = tt
drop_same p q (suc n) [] (u ∷ us) s = absurd s
drop_same p q (suc n) (o ∷ os) [] s = absurd s
drop_same p q (suc n) (o ∷ os) (u ∷ us) s = drop_same p q n os us s.1

-- ---- parts

abbrev NameSame : Pages → Pages → Option Output → Option Output → Type 0
NameSame p q None None = Unit {0}
NameSame p q None (Some u) = ⊥
NameSame p q (Some o) None = ⊥
NameSame p q (Some o) (Some u) = Same p q o u

-- two parts: as a whole, by their names, and by their values
record PartSame (p q : Pages) (x y : PartOutput) : Type 0 where
  pub whole : AgreeOn p q x.all.work → x ≡ y
  pub name : NameSame p q x.name y.name
  pub value : Same p q x.value y.value

abbrev PartsSame : Pages → Pages → List PartOutput → List PartOutput → Type 0
PartsSame p q [] [] = Unit {0}
PartsSame p q [] (y ∷ ys) = ⊥
PartsSame p q (x ∷ xs) [] = ⊥
PartsSame p q (x ∷ xs) (y ∷ ys) = PartSame p q x y × PartsSame p q xs ys

part_same : (p q : Pages) (name : Option (List Member × ℕ)) (os us : List Output) → AllSame p q os us → PartSame p q (part_by name os) (part_by name us)
part_same p q None os us s = record {
  whole = λ h. ap (part_by None) (all_equal p q os us s h);
  name = tt;
  value = λ h. ap joined (all_equal p q os us s h);
}
part_same p q (Some (xs, w)) os us s = record {
  whole = λ h. ap (part_by (Some (xs, w))) (all_equal p q os us s h);
  name = λ h. ap joined (all_equal p q (take (length xs) os) (take (length xs) us) (take_same p q (length xs) os us s) h);
  value = λ h. ap joined (all_equal p q (drop (length xs + 1) os) (drop (length xs + 1) us) (drop_same p q (length xs + 1) os us s) h);
}

parts_same : (p q : Pages) (ps : List PartMembers) (os us : List Output) → AllSame p q os us → PartsSame p q (part_outputs ps os) (part_outputs ps us)
parts_same p q [] os us s = tt
parts_same p q (x ∷ ps) os us s = (
  part_same p q x.name (take (member_count x) os) (take (member_count x) us) (take_same p q (member_count x) os us s),
  parts_same p q ps (drop (member_count x + 1) os) (drop (member_count x + 1) us) (drop_same p q (member_count x + 1) os us s),
)

target_same : (p q : Pages) (xs ys : List PartOutput) → PartsSame p q xs ys → Same p q (target_part xs) (target_part ys)
target_same p q [] [] s h = refl
target_same p q [] (y ∷ ys) s h = absurd s
target_same p q (x ∷ xs) [] s h = absurd s
target_same p q (x ∷ xs) (y ∷ ys) s h = ap (λ z. z.all) (s.0.whole h)

later_same : (p q : Pages) (xs ys : List PartOutput) → PartsSame p q xs ys → PartsSame p q (later_parts xs) (later_parts ys)
later_same p q [] [] s = tt
later_same p q [] (y ∷ ys) s = absurd s
later_same p q (x ∷ xs) [] s = absurd s
later_same p q (x ∷ xs) (y ∷ ys) s = s.1

parts_equal : (p q : Pages) (xs ys : List PartOutput) → PartsSame p q xs ys → AgreeOn p q (parts_work xs) → xs ≡ ys
parts_equal p q [] [] s h = refl
parts_equal p q [] (y ∷ ys) s h = absurd s
parts_equal p q (x ∷ xs) [] s h = absurd s
parts_equal p q (x ∷ xs) (y ∷ ys) s h =
    ap (λ z. z ∷ xs) (s.0.whole (agree_left p q x.all.work (parts_work xs) h))
    ∙ ap (λ zs. y ∷ zs) (parts_equal p q xs ys s.1 (agree_right p q x.all.work (parts_work xs) h))

-- ---- calls

abbrev TemplatesSame : Pages → Pages → (Title → Frame → Output) → (Title → Frame → Output) → Type 0
TemplatesSame p q f g = (t : Title) (v : Frame) → Same p q (f t v) (g t v)

abbrev reading : Mode → Frame → (Title → Frame → Output) → Reading
reading m v f = record { mode = m; frame = v; template = f }

-- what stands between the beginning and the end of a call
agree_inside : (p q : Pages) (before inside : List Entry) (n : ℕ) → AgreeOn p q (before ++ (begun ∷ (inside ++ ended n ∷ []))) → AgreeOn p q inside
agree_inside p q before inside n h = agree_left p q inside (ended n ∷ [])
    (agree_tail p q begun (inside ++ ended n ∷ []) (agree_right p q before (begun ∷ (inside ++ ended n ∷ [])) h))

default_same : (p q : Pages) (name : Output) (xs ys : List PartOutput) → PartsSame p q xs ys → Same p q (default_output name xs) (default_output name ys)
default_same p q name [] [] s h = refl
default_same p q name [] (y ∷ ys) s h = absurd s
default_same p q name (x ∷ xs) [] s h = absurd s
default_same p q name (x ∷ xs) (y ∷ ys) s h = ap (λ z. z.all) (s.0.whole h)

value_same : (p q : Pages) (v : Option (List Item)) (o u : Output) → Same p q o u → Same p q (if_value v o) (if_value v u)
value_same p q None o u s h = s h
value_same p q (Some v) o u s h = refl

-- an argument by its name and what it has for it
abbrev argument_by : Output → Output → Output
argument_by name o = given [] (name.work ++ o.work) o.items

argument_same : (p q : Pages) (v : Frame) (xs ys : List PartOutput) → PartsSame p q xs ys → Same p q (argument_output v xs) (argument_output v ys)
argument_same p q v xs ys s h =
    let name = target_part xs in
    let other = target_part ys in
    let o = if_value (value_of (name_text name.items) v) (default_output name (later_parts xs)) in
    let inside = agree_inside p q [] (name.work ++ o.work) _ h in
    let names : name ≡ other = target_same p q xs ys s (agree_left p q name.work o.work inside) in
    let u = if_value (value_of (name_text name.items) v) (default_output name (later_parts ys)) in
    let values : o ≡ u = value_same p q (value_of (name_text name.items) v) (default_output name (later_parts xs))
    (default_output name (later_parts ys)) (default_same p q name (later_parts xs) (later_parts ys) (later_same p q xs ys s))
    (agree_right p q name.work o.work inside) in
    ap (argument_by name) values ∙ ap (λ n. argument_by n (if_value (value_of (name_text n.items) v) (default_output n (later_parts ys)))) names

page_same : (p q : Pages) (m : Mode) (v : Frame) (f g : Title → Frame → Output) (start : Bool) (t : Title)
    (xs ys : List PartOutput) → TemplatesSame p q f g → PartsSame p q xs ys
    → Same p q (page_output (reading m v f) start t xs) (page_output (reading m v g) start t ys)
page_same p q m v f g start t xs ys same s h =
    let o = f t (values_from 1 (later_parts xs)) in
    let work = parts_work (later_parts xs) ++ o.work in
    let inside = agree_inside p q (target_part xs).work work _ h in
    let targets : target_part xs ≡ target_part ys = target_same p q xs ys s (agree_left p q (target_part xs).work _ h) in
    let later : later_parts xs ≡ later_parts ys = parts_equal p q (later_parts xs) (later_parts ys) (later_same p q xs ys s)
    (agree_left p q (parts_work (later_parts xs)) o.work inside) in
    let outs : o ≡ g t (values_from 1 (later_parts xs)) =
    same t (values_from 1 (later_parts xs)) (agree_right p q (parts_work (later_parts xs)) o.work inside) in
    ap (λ u. page_by (target_part xs) (later_parts xs) u) outs ∙ ap (λ n. page_by n (later_parts xs) (g t (values_from 1 (later_parts xs)))) targets
    ∙ ap (λ zs. page_by (target_part ys) zs (g t (values_from 1 zs))) later
  where
    page_by : Output → List PartOutput → Output → Output
    page_by n zs u = given n.work (parts_work zs ++ u.work) (with_break start u.items)

-- which parts have names
names_same : (p q : Pages) (xs ys : List PartOutput) → PartsSame p q xs ys → map (λ x. is_some x.name) xs ≡ map (λ y. is_some y.name) ys
names_same p q [] [] s = refl
names_same p q [] (y ∷ ys) s = absurd s
names_same p q (x ∷ xs) [] s = absurd s
names_same p q (x ∷ xs) (y ∷ ys) s =
    ap (λ b. b ∷ map (λ z. is_some z.name) xs) (one p q x.name y.name s.0.name) ∙ ap (λ bs. is_some y.name ∷ bs) (names_same p q xs ys s.1)
  where
    one : (p q : Pages) (a b : Option Output) → NameSame p q a b → is_some a ≡ is_some b
    one p q None None s = refl
    one p q None (Some u) s = absurd s
    one p q (Some o) None s = absurd s
    one p q (Some o) (Some u) s = refl

-- what may be told of a part
told_same : (p q : Pages) (c : Function) (a b : Option Output) (o u : Output) → NameSame p q a b → Same p q o u → Same p q (told_by c a o) (told_by c b u)
told_same p q If a b o u n s = s
told_same p q IfEq a b o u n s = s
told_same p q Switch None None o u n s = s
told_same p q Switch None (Some v) o u n s = absurd n
told_same p q Switch (Some w) None o u n s = absurd n
told_same p q Switch (Some w) (Some v) o u n s = n

all_told_same : (p q : Pages) (c : Function) (xs ys : List PartOutput) → PartsSame p q xs ys
    → AllSame p q (map (λ x. told_by c x.name x.all) xs) (map (λ y. told_by c y.name y.all) ys)
all_told_same p q c [] [] s = tt
all_told_same p q c [] (y ∷ ys) s = absurd s
all_told_same p q c (x ∷ xs) [] s = absurd s
all_told_same p q c (x ∷ xs) (y ∷ ys) s = (
  told_same p q c x.name y.name x.all y.all s.0.name (λ h. ap (λ z. z.all) (s.0.whole h)),
  all_told_same p q c xs ys s.1,
)

tells_same : (p q : Pages) (c : Function) (n : ℕ) (xs ys : List PartOutput) → PartsSame p q xs ys → AllSame p q (told_outputs c n xs) (told_outputs c n ys)
tells_same p q c n xs ys s = (
  λ h. ap (λ (o : Output). record { items = drop n o.items; work = o.work }) (target_same p q xs ys s h),
  all_told_same p q c (later_parts xs) (later_parts ys) (later_same p q xs ys s),
)

-- what may be given of the part of a number
first_same : (p q : Pages) (c : Function) (xs ys : List PartOutput) → PartsSame p q xs ys → Same p q (first_given c xs) (first_given c ys)
first_same p q c [] [] s h = refl
first_same p q c [] (y ∷ ys) s h = absurd s
first_same p q c (x ∷ xs) [] s h = absurd s
first_same p q If (x ∷ xs) (y ∷ ys) s h = ap (λ z. z.all) (s.0.whole h)
first_same p q IfEq (x ∷ xs) (y ∷ ys) s h = ap (λ z. z.all) (s.0.whole h)
first_same p q Switch (x ∷ xs) (y ∷ ys) s h = s.0.value h

parts_drop : (p q : Pages) (n : ℕ) (xs ys : List PartOutput) → PartsSame p q xs ys → PartsSame p q (drop n xs) (drop n ys)
parts_drop p q zero [] [] s = tt
parts_drop p q zero [] (y ∷ ys) s = absurd s
parts_drop p q zero (x ∷ xs) [] s = absurd s
parts_drop p q zero (x ∷ xs) (y ∷ ys) s = s
parts_drop p q (suc n) [] [] s = tt
parts_drop p q (suc n) [] (y ∷ ys) s = absurd s
parts_drop p q (suc n) (x ∷ xs) [] s = absurd s
parts_drop p q (suc n) (x ∷ xs) (y ∷ ys) s = parts_drop p q n xs ys s.1

chosen_same : (p q : Pages) (c : Function) (part : Option ℕ) (xs ys : List PartOutput) → PartsSame p q xs ys
    → Same p q (chosen_output c part xs) (chosen_output c part ys)
chosen_same p q c None xs ys s h = refl
chosen_same p q c (Some k) xs ys s h = first_same p q c (drop k xs) (drop k ys) (parts_drop p q k xs ys s) h

abbrev pub texts_of : List Output → List (List ℕ)
texts_of os = map (λ o. name_text o.items) os

take_texts : (n : ℕ) (os : List Output) → take n (texts_of os) ≡ texts_of (take n os)
take_texts n os = take-map (λ (o : Output). name_text o.items) n os

pub tell_count : (c : Function) (n : ℕ) (xs : List PartOutput) → length (texts_of (told_outputs c n xs)) ≡ length (map (λ x. is_some x.name) (later_parts xs)) + 1
tell_count c n xs = counts (later_parts xs)
  where
    counts : (ps : List PartOutput) → suc (length (texts_of (map (λ x. told_by c x.name x.all) ps))) ≡ length (map (λ x. is_some x.name) ps) + 1
    counts [] = refl
    counts (x ∷ ps) = let e : suc (length (texts_of (map (λ x. told_by c x.name x.all) ps))) ≡ length (map (λ x. is_some x.name) ps) + 1 = counts ps in omega arith

-- a function by what was told and what is given
abbrev function_by : Bool → List Output → Output → Output
function_by start told o = given [] ((joined told).work ++ o.work) (with_break start (trimmed_items o.items))

-- a function whose told parts and whose given part fetch what both folders have alike
function_same : (p q : Pages) (c : Function) (n : ℕ) (start : Bool) (xs ys : List PartOutput) → PartsSame p q xs ys
    → AgreeOn p q (function_output c n start xs).work → function_output c n start xs ≡ function_output c n start ys
function_same p q c n start xs ys parts h =
    let told : List Output = told_outputs c n xs in
    let others : List Output = told_outputs c n ys in
    let es : List Bool = map (λ x. is_some x.name) (later_parts xs) in
    let fs : List Bool = map (λ y. is_some y.name) (later_parts ys) in
    let names : es ≡ fs = names_same p q (later_parts xs) (later_parts ys) (later_same p q xs ys parts) in
    let count : ℕ = told_count c es (texts_of told) in
    let part : Option ℕ = chosen c es (texts_of told) in
    let inside = agree_inside p q [] ((joined (take count told)).work ++ (chosen_output c part xs).work) _ h in
    let tells : take count told ≡ take count others =
    all_equal p q (take count told) (take count others) (take_same p q count told others (tells_same p q c n xs ys parts))
    (agree_left p q (joined (take count told)).work (chosen_output c part xs).work inside) in
    let gives : chosen_output c part xs ≡ chosen_output c part ys =
    chosen_same p q c part xs ys parts (agree_right p q (joined (take count told)).work (chosen_output c part xs).work inside) in
    let texts : take count (texts_of told) ≡ take count (texts_of others) = take_texts count told ∙ ap texts_of tells ∙ sym (take_texts count others) in
    let every : length (texts_of others) ≡ length es + 1 = tell_count c n ys ∙ ap (λ bs. length bs + 1) (sym names) in
    let a : Alike c es (texts_of told) (texts_of others) = told_alike c es (texts_of told) (texts_of others) (tell_count c n xs) every texts in
    ap (λ os. function_by start os (chosen_output c part xs)) tells
    ∙ ap (function_by start (take count others)) gives
    ∙ ap (λ m. function_by start (take m others) (chosen_output c part ys)) (sym a.count)
    ∙ ap (λ k. function_by start (take (told_count c es (texts_of others)) others) (chosen_output c k ys)) (sym a.part)
    ∙ ap (λ bs. function_by start (take (told_count c bs (texts_of others)) others) (chosen_output c (chosen c bs (texts_of others)) ys)) names

text_same : (p q : Pages) (k : ℕ) (source : List ℕ) (os us : List Output) → AllSame p q os us → AgreeOn p q (text_output k source os).work → os ≡ us
text_same p q k source os us s h = all_equal p q os us s (agree_left p q (joined os).work [] h)

abbrev kind_by : Bool → Bool → Option (Function × ℕ) → Option Title → Called
kind_by t u w o = if t then argument else (if u then called_function w else called_by o)

pub called_is : (k : ℕ) (source : List ℕ) (target : List Item)
    → called k source target ≡ kind_by (k == 3) (is_function source) (function_of (drop 2 source)) (title_of_target target)
unfolding called
called_is k source target = refl

-- a call and what it is, with what it gives
record CallSame (p q : Pages) (r s : Reading) (start : Bool) (k : ℕ) (source : List ℕ) (c d : Called) (xs ys : List PartOutput)
    (os us : List Output) : Type 0 where
  pub kinds : c ≡ d
  pub outputs : called_output c r start k source xs os ≡ called_output d s start k source ys us

abbrev title_by : List PartOutput → Option Title
title_by xs = title_of_target (target_part xs).items

title_same : (p q : Pages) (m : Mode) (v : Frame) (f g : Title → Frame → Output) (start : Bool) (k : ℕ) (source : List ℕ)
    (xs ys : List PartOutput) (os us : List Output) (o : Option Title) → TemplatesSame p q f g → AllSame p q os us
    → PartsSame p q xs ys → (os ≡ us → xs ≡ ys) → title_by xs ≡ o → AgreeOn p q (called_output (called_by o) (reading m v f) start k source xs os).work
    → CallSame p q (reading m v f) (reading m v g) start k source (called_by (title_by xs)) (called_by (title_by ys)) xs ys os us
title_same p q m v f g start k source xs ys os us None same s parts whole e h =
    let all = text_same p q k source os us s h in
    let titles : title_by xs ≡ title_by ys = ap title_by (whole all) in
    record {
      kinds = ap called_by titles;
      outputs = ap (λ o. called_output (called_by o) (reading m v f) start k source xs os) e ∙ ap (text_output k source) all
          ∙ sym (ap (λ o. called_output (called_by o) (reading m v g) start k source ys us) (sym titles ∙ e));
    }
title_same p q m v f g start k source xs ys os us (Some t) same s parts whole e h =
    let targets : target_part xs ≡ target_part ys = target_same p q xs ys parts (agree_left p q (target_part xs).work _ h) in
    let titles : title_by xs ≡ title_by ys = ap (λ n. title_of_target n.items) targets in
    record {
      kinds = ap called_by titles;
      outputs = ap (λ o. called_output (called_by o) (reading m v f) start k source xs os) e ∙ page_same p q m v f g start t xs ys same parts h
          ∙ sym (ap (λ o. called_output (called_by o) (reading m v g) start k source ys us) (sym titles ∙ e));
    }

tests_same : (p q : Pages) (m : Mode) (v : Frame) (f g : Title → Frame → Output) (start : Bool) (k : ℕ) (source : List ℕ)
    (xs ys : List PartOutput) (os us : List Output) (t u : Bool) (w : Option (Function × ℕ)) → TemplatesSame p q f g → AllSame p q os us
    → PartsSame p q xs ys → (os ≡ us → xs ≡ ys) → AgreeOn p q (called_output (kind_by t u w (title_by xs)) (reading m v f) start k source xs os).work
    → CallSame p q (reading m v f) (reading m v g) start k source (kind_by t u w (title_by xs)) (kind_by t u w (title_by ys)) xs ys os us
tests_same p q m v f g start k source xs ys os us true u w same s parts whole h = record { kinds = refl; outputs = argument_same p q v xs ys parts h }
tests_same p q m v f g start k source xs ys os us false true None same s parts whole h = record { kinds = refl; outputs = refl }
tests_same p q m v f g start k source xs ys os us false true (Some (c, n)) same s parts whole h = record { kinds = refl; outputs = function_same p q c n start xs ys parts h }
tests_same p q m v f g start k source xs ys os us false false w same s parts whole h =
    title_same p q m v f g start k source xs ys os us (title_by xs) same s parts whole refl h

call_same : (p q : Pages) (m : Mode) (v : Frame) (f g : Title → Frame → Output) (start : Bool) (k : ℕ) (source : List ℕ)
    (parts : List PartMembers) (os us : List Output) (xs ys : List PartOutput) → part_outputs parts os ≡ xs → part_outputs parts us ≡ ys
    → TemplatesSame p q f g → AllSame p q os us → AgreeOn p q (called_output (called k source (target_part xs).items) (reading m v f) start k source xs os).work
    → CallSame p q (reading m v f) (reading m v g) start k source (called k source (target_part xs).items) (called k source (target_part ys).items) xs ys os us
call_same p q m v f g start k source parts os us xs ys e d same s h =
    let r = reading m v f in
    let A : Called → Type 0 = λ c. AgreeOn p q (called_output c r start k source xs os).work in
    let P : Called → Type 0 = λ c. CallSame p q r (reading m v g) start k source c (kind_by (k == 3) (is_function source) (function_of (drop 2 source)) (title_by ys)) xs ys os us in
    let Q : Called → Type 0 = λ c. CallSame p q r (reading m v g) start k source (called k source (target_part xs).items) c xs ys os us in
    let R : List PartOutput → Type 0 = λ zs. PartsSame p q zs ys in
    let S : List PartOutput → Type 0 = λ zs. PartsSame p q (part_outputs parts os) zs in
    let whole : os ≡ us → xs ≡ ys = λ z. sym e ∙ ap (part_outputs parts) z ∙ d in
    subst Q (sym (called_is k source (target_part ys).items))
    (subst P (sym (called_is k source (target_part xs).items))
    (tests_same p q m v f g start k source xs ys os us (k == 3) (is_function source) (function_of (drop 2 source)) same s
    (subst R e (subst S d (parts_same p q parts os us s))) whole (subst A (called_is k source (target_part xs).items) h)))

-- ---- texts

mutual
  one_same : (p q : Pages) (m : Mode) (v : Frame) (f g : Title → Frame → Output) (start : Bool) (bs : List ℕ) (x : Member)
      → TemplatesSame p q f g → Same p q (output_of (reading m v f) start bs x) (output_of (reading m v g) start bs x)
  one_same p q m v f g start bs (lexeme (kind, n)) same h = refl
  one_same p q m v f g start bs (call k ms) same h =
      let os = outputs_of (reading m v f) false (drop k bs) ms in
      let us = outputs_of (reading m v g) false (drop k bs) ms in
      let source = take (k + width_of_all ms + k) bs in
      (call_same p q m v f g start k source (part_members 0 ms) os us (part_outputs (part_members 0 ms) os)
      (part_outputs (part_members 0 ms) us) refl refl same (many_same p q m v f g false (drop k bs) ms same) h).outputs

  many_same : (p q : Pages) (m : Mode) (v : Frame) (f g : Title → Frame → Output) (start : Bool) (bs : List ℕ) (ms : Members)
      → TemplatesSame p q f g → AllSame p q (outputs_of (reading m v f) start bs ms) (outputs_of (reading m v g) start bs ms)
  many_same p q m v f g start bs none same = tt
  many_same p q m v f g start bs (more x ms) same =
      (one_same p q m v f g start bs x same, many_same p q m v f g (is_break (slice_index bs (width x - 1))) (drop (width x) bs) ms same)

given_same : (p q : Pages) (m : Mode) (v : Frame) (f g : Title → Frame → Output) (bs : List ℕ) → TemplatesSame p q f g
    → Same p q (text_given (reading m v f) bs) (text_given (reading m v g) bs)
given_same p q m v f g bs same h =
    let ms = text_members m bs in ap joined (all_equal p q (outputs_of (reading m v f) true bs ms)
    (outputs_of (reading m v g) true bs ms) (many_same p q m v f g true bs ms same) h)

-- ---- templates

fetch_same : (p q : Pages) (full : List ℕ) (f g : List ℕ → Output) (o : Option (List ℕ))
    → ((bs : List ℕ) → Same p q (f bs) (g bs)) → Same p q (fetched_output full f o) (fetched_output full g o)
fetch_same p q full f g None same h = refl
fetch_same p q full f g (Some bytes) same h =
    let F : Output → Output = λ o. record { items = o.items; work = fetched full ∷ (entered (Some full) ∷ o.work) } in
    ap F (same (template_text bytes) (agree_tail p q (entered (Some full)) (f (template_text bytes)).work
    (agree_tail p q (fetched full) (entered (Some full) ∷ (f (template_text bytes)).work) h)))

first_fetch : (p q : Pages) (full : List ℕ) (f : List ℕ → Output) (o : Option (List ℕ)) → AgreeOn p q (fetched_output full f o).work → p full ≡ q full
first_fetch p q full f None h = h full (0, omega arith, refl)
first_fetch p q full f (Some bytes) h = h full (0, omega arith, refl)

-- what a page's text gives under values, where so many more templates may be entered
abbrev read_at : ℕ → List (List ℕ) → Frame → Pages → List ℕ → Output
read_at n open_titles v pages bs = text_given (reading mode.Template v (template_output pages n open_titles)) bs

enter_same : (p q : Pages) (n : ℕ) (open_titles : List (List ℕ)) (t : Title) (v : Frame) (b : Bool)
    → ((bs : List ℕ) → Same p q (read_at n (full_name_of t ∷ open_titles) v p bs) (read_at n (full_name_of t ∷ open_titles) v q bs))
    → Same p q (if b then just (chars (loop_text t)) else fetched_output (full_name_of t) (read_at n (full_name_of t ∷ open_titles) v p) (p (full_name_of t)))
    (if b then just (chars (loop_text t)) else fetched_output (full_name_of t) (read_at n (full_name_of t ∷ open_titles) v q) (q (full_name_of t)))
enter_same p q n open_titles t v true same h = refl
enter_same p q n open_titles t v false same h =
    let full = full_name_of t in
    let f = read_at n (full ∷ open_titles) v p in
    let g = read_at n (full ∷ open_titles) v q in
    fetch_same p q full f g (p full) same h ∙ ap (fetched_output full g) (first_fetch p q full f (p full) h)

template_same : (p q : Pages) (n : ℕ) (open_titles : List (List ℕ)) → TemplatesSame p q (template_output p n open_titles) (template_output q n open_titles)
template_same p q zero open_titles t v h = refl
template_same p q (suc n) open_titles t v h =
    let full = full_name_of t in
    let ih = template_same p q n (full ∷ open_titles) in
    enter_same p q n open_titles t v (is_among full open_titles)
    (λ bs. given_same p q mode.Template v (template_output p n (full ∷ open_titles)) (template_output q n (full ∷ open_titles)) bs ih) h

-- ---- the page

inside_same : (d : Called) (at k : ℕ) (source : List ℕ) (ms : Members) (xs : List Item) (inside others : List Stretch)
    → (d ≡ text → inside ≡ others) → call_stretches d at k source ms xs inside ≡ call_stretches d at k source ms xs others
inside_same argument at k source ms xs inside others f = refl
inside_same (choice c n) at k source ms xs inside others f = refl
inside_same function at k source ms xs inside others f = refl
inside_same (page t) at k source ms xs inside others f = refl
inside_same text at k source ms xs inside others f = ap (call_stretches text at k source ms xs) (f refl)

call_stretches_same : (p q : Pages) (r s : Reading) (start : Bool) (at k : ℕ) (source : List ℕ) (ms : Members) (c d : Called)
    (xs ys : List PartOutput) (os us : List Output) (inside others : List Stretch) → CallSame p q r s start k source c d xs ys os us
    → (c ≡ text → inside ≡ others) → call_stretches c at k source ms (called_output c r start k source xs os).items inside
    ≡ call_stretches d at k source ms (called_output d s start k source ys us).items others
call_stretches_same p q r s start at k source ms c d xs ys os us inside others h inner =
    ap (λ o. call_stretches c at k source ms o.items inside) h.outputs
    ∙ ap (λ x. call_stretches x at k source ms (called_output d s start k source ys us).items inside) h.kinds
    ∙ inside_same d at k source ms (called_output d s start k source ys us).items inside others (λ e. inner (h.kinds ∙ e))

mutual
  stretch_same : (p q : Pages) (m : Mode) (v : Frame) (f g : Title → Frame → Output) (at : ℕ) (start : Bool) (bs : List ℕ)
      (x : Member) → TemplatesSame p q f g → AgreeOn p q (output_of (reading m v f) start bs x).work
      → stretches_of (reading m v f) at start bs x ≡ stretches_of (reading m v g) at start bs x
  stretch_same p q m v f g at start bs (lexeme (kind, n)) same h = refl
  stretch_same p q m v f g at start bs (call k ms) same h =
      let r = reading m v f in
      let s = reading m v g in
      let os = outputs_of r false (drop k bs) ms in
      let us = outputs_of s false (drop k bs) ms in
      let source = take (k + width_of_all ms + k) bs in
      let xs = part_outputs (part_members 0 ms) os in
      let ys = part_outputs (part_members 0 ms) us in
      let c = called k source (target_part xs).items in
      let A : Called → Type 0 = λ x. AgreeOn p q (called_output x r start k source xs os).work in
      call_stretches_same p q r s start at k source ms c (called k source (target_part ys).items) xs ys os us
      (all_stretches r (at + k) false (drop k bs) ms) (all_stretches s (at + k) false (drop k bs) ms)
      (call_same p q m v f g start k source (part_members 0 ms) os us xs ys refl refl same (many_same p q m v f g false (drop k bs) ms same) h)
      (λ e. stretches_same p q m v f g (at + k) false (drop k bs) ms same (agree_left p q (joined os).work [] (subst A e h)))

  stretches_same : (p q : Pages) (m : Mode) (v : Frame) (f g : Title → Frame → Output) (at : ℕ) (start : Bool) (bs : List ℕ)
      (ms : Members) → TemplatesSame p q f g → AgreeOn p q (joined (outputs_of (reading m v f) start bs ms)).work
      → all_stretches (reading m v f) at start bs ms ≡ all_stretches (reading m v g) at start bs ms
  stretches_same p q m v f g at start bs none same h = refl
  stretches_same p q m v f g at start bs (more x ms) same h =
      let r = reading m v f in
      let next = is_break (slice_index bs (width x - 1)) in
      let o = output_of r start bs x in
      let os = outputs_of r next (drop (width x) bs) ms in
      ap (λ ss. ss ++ all_stretches r (at + width x) next (drop (width x) bs) ms)
      (stretch_same p q m v f g at start bs x same (agree_left p q o.work (joined os).work h))
      ∙ ap (λ ss. stretches_of (reading m v g) at start bs x ++ ss)
      (stretches_same p q m v f g (at + width x) next (drop (width x) bs) ms same (agree_right p q o.work (joined os).work h))

work_is : (p : Pages) (bs : List ℕ) → page_work p bs ≡ entered None ∷ (text_given (page_reading p) bs).work
unfolding page_work
work_is p bs = refl

page_agrees : (p q : Pages) (bs : List ℕ) → AgreeOn p q (page_work p bs) → AgreeOn p q (text_given (page_reading p) bs).work
page_agrees p q bs h = agree_tail p q (entered None) (text_given (page_reading p) bs).work (subst (AgreeOn p q) (work_is p bs) h)

-- the work is the same
pub same_work : (p q : Pages) (bs : List ℕ) → AgreeOn p q (page_work p bs) → page_work p bs ≡ page_work q bs
same_work p q bs h =
    let o = given_same p q mode.Page [] (template_output p most_templates []) (template_output q most_templates []) bs
    (template_same p q most_templates []) (page_agrees p q bs h) in
    work_is p bs ∙ ap (λ x. entered None ∷ x.work) o ∙ sym (work_is q bs)

-- and so is the expanded page
pub same_page : (p q : Pages) (bs : List ℕ) → AgreeOn p q (page_work p bs) → expanded_page p bs ≡ expanded_page q bs
unfolding expanded_page page_stretches
same_page p q bs h =
    let E : List Stretch → Expanded = λ ss. record { items = numbered 0 ss; outer = outer_calls ss; text_calls = text_spans ss } in
    ap E (stretches_same p q mode.Page [] (template_output p most_templates []) (template_output q most_templates []) 0 true bs
    (text_members mode.Page bs) (template_same p q most_templates []) (page_agrees p q bs h))
