-- What texts, calls and arguments give is made of texts in UTF-8 and whole forms, where each template that is entered for it is UTF-8.
use Rattle.std.proofs.Common.{◌≡◌, ℕ, zero, suc, ◌+◌, ◌-◌, ◌≤◌, inl, inr, Bool, true, false, Option, Some, None, List, [], ◌∷◌, ◌++◌, length, take, drop, codes, IsUtf8, refl, sym, ◌∙◌, subst, arith, length-drop}
use Rattle.std.specs.Prelude.{◌==◌, slice_index, if◌then◌else◌}
use Rattle.std.specs.Option.{option_or}
use Rattle.std.specs.Str.{IsCharBoundary, bytes_eq}
use Rattle.std.proofs.lemmas.List.{length-take-le}
use Rattle.std.proofs.lemmas.Str.{IsUtf8-nil, IsUtf8-take, IsUtf8-drop, IsCharBoundary-before_ascii, IsCharBoundary-after_ascii}
use Rattle.json.proofs.Printed.Utf8.{IsUtf8-are_ascii}
use Rattle.wt_span.specs.declared.function.Function.{Function}
use Rattle.wt_span.specs.declared.function.Function.TheVariants.{If, IfEq, Switch}
use Rattle.wt_span.specs.Functions.{function_of}
use Rattle.wt_span.specs.declared.form.Mode.{Mode}
use Rattle.wt_span.specs.declared.form.Mode.TheVariants as mode
use Rattle.wt_span.specs.declared.form.ItemForm.TheVariants as form
use Rattle.wt_span.specs.Bytes.{is_break}
use Rattle.wt_span.specs.Whole.{IsWhole}
use Rattle.wt_span.specs.Items.{Item, whole}
use Rattle.wt_span.specs.Braces.{Member, Members, lexeme, call, none, more, width, width_of_all}
use Rattle.wt_lex.proofs.Fronts.{byte_front}
use Rattle.wt_names.specs.declared.title.Title.{Title}
use Rattle.wt_names.specs.Namespace.{full_name_of}
use Rattle.wt_braces.specs.PartMembers.{PartMembers, part_members}
use Rattle.wt_expand.specs.Texts.{name_text, trimmed_items}
use Rattle.wt_expand.specs.Targets.{Called, argument, choice, function, page, text, called, called_function, called_by, is_function, title_of_target}
use Rattle.wt_expand.specs.Templates.{template_text}
use Rattle.wt_expand.specs.Work.{Pages, Entry, begun, ended, is_among}
use Rattle.wt_expand.specs.Expansion.{Output, just, joined, chars, PartOutput, member_count, part_by, part_outputs, target_part, later_parts, Frame, value_of, values_from, parts_work, Reading, default_output, if_value, with_break, first_given, chosen_output, front_braces, back_braces, called_output, output_of, outputs_of, text_members, text_given, loop_text, depth_text, absent_text, fetched_output, template_output, most_templates, page_reading}
use Rattle.wt_expansion.proofs.SoundMembers.{IsCallHere, IsSoundMember, AreSoundMembers, text_sound, text_width}
use Rattle.wt_page_round_trip.proofs.OfPage.{IsPageItem}
use Rattle.wt_page_round_trip.proofs.TextMembers.{IsTextMember, AreTextMembers, members_utf8}
use Rattle.wt_page_round_trip.proofs.GivenItems.{AreGiven, given_both, given_chars, given_trimmed, given_lexeme, given_break}
use Rattle.wt_page_round_trip.proofs.TemplateTexts.{template_utf8, loop_utf8, depth_utf8, absent_utf8, HasTextName, target_named, IsTextIfAny, AreTextEntries, entries_left, entries_right}

-- ---- outputs and parts

-- where each template that was entered is UTF-8, so are the texts
abbrev pub IsGood : Pages → Output → Type 0
IsGood pages o = AreTextEntries pages o.work → AreGiven [] o.items

abbrev pub AllGood : Pages → List Output → Type 0
AllGood pages [] = Unit {0}
AllGood pages (o ∷ os) = IsGood pages o × AllGood pages os

abbrev AllGiven : List Output → Type 0
AllGiven [] = Unit {0}
AllGiven (o ∷ os) = AreGiven [] o.items × AllGiven os

all_given : (pages : Pages) (os : List Output) → AllGood pages os → AreTextEntries pages (joined os).work → AllGiven os
all_given pages [] g w = tt
all_given pages (o ∷ os) g w =
    (g.0 (entries_left pages o.work (joined os).work w), all_given pages os g.1 (entries_right pages o.work (joined os).work w))

given_joined : (os : List Output) → AllGiven os → AreGiven [] (joined os).items
given_joined [] g = IsUtf8-nil
given_joined (o ∷ os) g = given_both [] o.items (joined os).items g.0 (given_joined os g.1)

good_take : (pages : Pages) (n : ℕ) (os : List Output) → AllGood pages os → AllGood pages (take n os)
good_take pages zero os g = tt
good_take pages (suc n) [] g = tt
good_take pages (suc n) (o ∷ os) g = (g.0, good_take pages n os g.1)

good_drop : (pages : Pages) (n : ℕ) (os : List Output) → AllGood pages os → AllGood pages (drop n os)
good_drop pages zero os g = g
good_drop pages (suc n) [] g = tt
good_drop pages (suc n) (o ∷ os) g = good_drop pages n os g.1

entries_drop : (pages : Pages) (n : ℕ) (os : List Output) → AreTextEntries pages (joined os).work → AreTextEntries pages (joined (drop n os)).work
entries_drop pages zero os w = w
entries_drop pages (suc n) [] w = w
entries_drop pages (suc n) (o ∷ os) w = entries_drop pages n os (entries_right pages o.work (joined os).work w)

-- the values of parts
abbrev AreGivenParts : List PartOutput → Type 0
AreGivenParts [] = Unit {0}
AreGivenParts (p ∷ ps) = AreGiven [] p.value.items × AreGivenParts ps

-- all of a part and its value alone, of whose work all of it has the entries
record IsGoodPart (pages : Pages) (p : PartOutput) : Type 0 where
  all : IsGood pages p.all
  value : IsGood pages p.value
  within : AreTextEntries pages p.all.work → AreTextEntries pages p.value.work

abbrev AreGoodParts : Pages → List PartOutput → Type 0
AreGoodParts pages [] = Unit {0}
AreGoodParts pages (p ∷ ps) = IsGoodPart pages p × AreGoodParts pages ps

good_joined : (pages : Pages) (os : List Output) → AllGood pages os → IsGood pages (joined os)
good_joined pages os g w = given_joined os (all_given pages os g w)

good_part : (pages : Pages) (name : Option (List Member × ℕ)) (os : List Output) → AllGood pages os → IsGoodPart pages (part_by name os)
good_part pages None os g = record { all = good_joined pages os g; value = good_joined pages os g; within = λ w. w }
good_part pages (Some (xs, n)) os g = record {
  all = good_joined pages os g;
  value = good_joined pages (drop (length xs + 1) os) (good_drop pages (length xs + 1) os g);
  within = entries_drop pages (length xs + 1) os;
}

good_parts : (pages : Pages) (ps : List PartMembers) (os : List Output) → AllGood pages os → AreGoodParts pages (part_outputs ps os)
good_parts pages [] os g = tt
good_parts pages (p ∷ ps) os g = (
  good_part pages p.name (take (member_count p) os) (good_take pages (member_count p) os g),
  good_parts pages ps (drop (member_count p + 1) os) (good_drop pages (member_count p + 1) os g),
)

good_target : (pages : Pages) (ps : List PartOutput) → AreGoodParts pages ps → IsGood pages (target_part ps)
good_target pages [] g w = IsUtf8-nil
good_target pages (p ∷ ps) g w = g.0.all w

good_later : (pages : Pages) (ps : List PartOutput) → AreGoodParts pages ps → AreGoodParts pages (later_parts ps)
good_later pages [] g = tt
good_later pages (p ∷ ps) g = g.1

given_parts : (pages : Pages) (ps : List PartOutput) → AreGoodParts pages ps → AreTextEntries pages (parts_work ps) → AreGivenParts ps
given_parts pages [] g w = tt
given_parts pages (p ∷ ps) g w = (
  g.0.value (g.0.within (entries_left pages p.all.work (parts_work ps) w)),
  given_parts pages ps g.1 (entries_right pages p.all.work (parts_work ps) w),
)

-- ---- values

abbrev pub IsGivenFrame : Frame → Type 0
IsGivenFrame [] = Unit {0}
IsGivenFrame ((n, v) ∷ vs) = AreGiven [] v × IsGivenFrame vs

one_value : (n : ℕ) (name : Option Output) (value all : Output) (ps : List PartOutput) → AreGiven [] value.items
    → ((m : ℕ) → IsGivenFrame (values_from m ps)) → IsGivenFrame (values_from n (record { name = name; value = value; all = all } ∷ ps))
one_value n None v a ps g h = (g, h (n + 1))
one_value n (Some o) v a ps g h = (given_trimmed v.items g, h n)

given_values : (n : ℕ) (ps : List PartOutput) → AreGivenParts ps → IsGivenFrame (values_from n ps)
given_values n [] g = tt
given_values n (p ∷ ps) g = one_value n p.name p.value p.all ps g.0 (λ m. given_values m ps g.1)

abbrev IsGivenValue : Option (List Item) → Type 0
IsGivenValue None = Unit {0}
IsGivenValue (Some v) = AreGiven [] v

given_or : (o p : Option (List Item)) → IsGivenValue o → IsGivenValue p → IsGivenValue (option_or o p)
given_or None p f g = g
given_or (Some v) p f g = f

given_if : (t : Bool) (v : List Item) → AreGiven [] v → IsGivenValue (if t then Some v else None)
given_if true v f = f
given_if false v f = tt

given_value : (name : List ℕ) (frame : Frame) → IsGivenFrame frame → IsGivenValue (value_of name frame)
given_value name [] f = tt
given_value name ((n, v) ∷ vs) f = given_or (value_of name vs) (if bytes_eq n name then Some v else None) (given_value name vs f.1)
    (given_if (bytes_eq n name) v f.0)

-- ---- calls

-- values that are so give items that are
pub record IsGoodReading (pages : Pages) (r : Reading) : Type 0 where
  pub frame : IsGivenFrame r.frame
  pub template : (t : Title) (f : Frame) → IsUtf8 t.name → IsGivenFrame f → IsGood pages (r.template t f)

-- what the bytes of a call are
pub record IsTextCall (k : ℕ) (source : List ℕ) : Type 0 where
  pub form : IsPageItem (whole form.Function None source)
  pub front : IsUtf8 (front_braces k source)
  pub back : IsUtf8 (back_braces k source)

good_default : (pages : Pages) (name : Output) (ps : List PartOutput) → AreGiven [] name.items → AreGoodParts pages ps
    → AreTextEntries pages (default_output name ps).work → AreGiven [] (default_output name ps).items
good_default pages name [] f g w =
    given_both [] (chars (codes "{{{")) (name.items ++ chars (codes "}}}")) (given_chars (codes "{{{") (IsUtf8-are_ascii (codes "{{{") refl))
    (given_both [] name.items (chars (codes "}}}")) f (given_chars (codes "}}}") (IsUtf8-are_ascii (codes "}}}") refl)))
good_default pages name (p ∷ ps) f g w = g.0.all w

good_chosen : (pages : Pages) (o : Option (List Item)) (d : Output) → IsGivenValue o → (AreTextEntries pages d.work → AreGiven [] d.items)
    → AreTextEntries pages (if_value o d).work → AreGiven [] (if_value o d).items
good_chosen pages None d f g w = g w
good_chosen pages (Some v) d f g w = f

-- the work inside of what is given
work_inside : (pages : Pages) (before inside : List Entry) (n : ℕ) → AreTextEntries pages (before ++ (begun ∷ (inside ++ ended n ∷ [])))
    → AreTextEntries pages inside
work_inside pages before inside n w = entries_left pages inside (ended n ∷ []) (entries_right pages before (begun ∷ (inside ++ ended n ∷ [])) w).1

good_argument : (pages : Pages) (r : Reading) (ps : List PartOutput) → IsGoodReading pages r → AreGoodParts pages ps
    → (n : ℕ) → let name = target_part ps in
    let o = if_value (value_of (name_text name.items) r.frame) (default_output name (later_parts ps)) in
    AreTextEntries pages ([] ++ (begun ∷ ((name.work ++ o.work) ++ ended n ∷ []))) → AreGiven [] o.items
good_argument pages r ps h g n w =
    let name = target_part ps in
    let d = default_output name (later_parts ps) in
    let v = value_of (name_text name.items) r.frame in
    let o = if_value v d in
    let inside = work_inside pages [] (name.work ++ o.work) n w in
    let named = good_target pages ps g (entries_left pages name.work o.work inside) in
    good_chosen pages v d (given_value (name_text name.items) r.frame h.frame)
    (good_default pages name (later_parts ps) named (good_later pages ps g)) (entries_right pages name.work o.work inside)

good_page : (pages : Pages) (r : Reading) (start : Bool) (t : Title) (ps : List PartOutput) → IsGoodReading pages r → AreGoodParts pages ps
    → (AreTextEntries pages (target_part ps).work → IsUtf8 t.name) → (n : ℕ)
    → let o = r.template t (values_from 1 (later_parts ps)) in
    AreTextEntries pages ((target_part ps).work ++ (begun ∷ ((parts_work (later_parts ps) ++ o.work) ++ ended n ∷ [])))
    → AreGiven [] (with_break start o.items)
good_page pages r start t ps h g named n w =
    let later = later_parts ps in
    let values = values_from 1 later in
    let o = r.template t values in
    let inside = work_inside pages (target_part ps).work (parts_work later ++ o.work) n w in
    let name = named (entries_left pages (target_part ps).work (begun ∷ ((parts_work later ++ o.work) ++ ended n ∷ [])) w) in
    let parts = given_parts pages later (good_later pages ps g) (entries_left pages (parts_work later) o.work inside) in
    given_break start o.items (h.template t values name (given_values 1 later parts) (entries_right pages (parts_work later) o.work inside))

good_text : (pages : Pages) (k : ℕ) (source : List ℕ) (os : List Output) → IsTextCall k source → AllGood pages os
    → AreTextEntries pages ((joined os).work ++ [])
    → AreGiven [] (chars (front_braces k source) ++ ((joined os).items ++ chars (back_braces k source)))
good_text pages k source os s g w =
    given_both [] (chars (front_braces k source)) ((joined os).items ++ chars (back_braces k source)) (given_chars (front_braces k source) s.front)
    (given_both [] (joined os).items (chars (back_braces k source)) (given_joined os (all_given pages os g (entries_left pages (joined os).work [] w)))
    (given_chars (back_braces k source) s.back))

good_parts_behind : (pages : Pages) (n : ℕ) (ps : List PartOutput) → AreGoodParts pages ps → AreGoodParts pages (drop n ps)
good_parts_behind pages zero ps g = g
good_parts_behind pages (suc n) [] g = tt
good_parts_behind pages (suc n) (p ∷ ps) g = good_parts_behind pages n ps g.1

good_first : (pages : Pages) (f : Function) (ps : List PartOutput) → AreGoodParts pages ps → IsGood pages (first_given f ps)
good_first pages f [] g w = IsUtf8-nil
good_first pages If (p ∷ ps) g w = g.0.all w
good_first pages IfEq (p ∷ ps) g w = g.0.all w
good_first pages Switch (p ∷ ps) g w = g.0.value w

good_part_given : (pages : Pages) (f : Function) (part : Option ℕ) (ps : List PartOutput) → AreGoodParts pages ps → IsGood pages (chosen_output f part ps)
good_part_given pages f None ps g w = IsUtf8-nil
good_part_given pages f (Some n) ps g w = good_first pages f (drop n ps) (good_parts_behind pages n ps g) w

-- a part is given behind the work of those that are told
good_choice : (pages : Pages) (f : Function) (start : Bool) (part : Option ℕ) (ps : List PartOutput) → AreGoodParts pages ps → (told : List Entry) (n : ℕ)
    → let o = chosen_output f part ps in
    AreTextEntries pages ([] ++ (begun ∷ ((told ++ o.work) ++ ended n ∷ []))) → AreGiven [] (with_break start (trimmed_items o.items))
good_choice pages f start part ps g told n w =
    let o = chosen_output f part ps in
    let inside = work_inside pages [] (told ++ o.work) n w in
    let given = good_part_given pages f part ps g (entries_right pages told o.work inside) in
    given_break start (trimmed_items o.items) (given_trimmed o.items given)

-- what a call of a page needs of its title
abbrev IsNamed : Pages → List PartOutput → Called → Type 0
IsNamed pages ps argument = Unit {0}
IsNamed pages ps (choice f n) = Unit {0}
IsNamed pages ps function = Unit {0}
IsNamed pages ps (page t) = AreTextEntries pages (target_part ps).work → IsUtf8 t.name
IsNamed pages ps text = Unit {0}

good_called : (pages : Pages) (c : Called) (r : Reading) (start : Bool) (k : ℕ) (source : List ℕ) (ps : List PartOutput) (os : List Output)
    → IsGoodReading pages r → IsTextCall k source → AreGoodParts pages ps → AllGood pages os → IsNamed pages ps c
    → IsGood pages (called_output c r start k source ps os)
good_called pages argument r start k source ps os h s f g named w = good_argument pages r ps h f _ w
good_called pages (choice c n) r start k source ps os h s f g named w = good_choice pages c start _ ps f _ _ w
good_called pages function r start k source ps os h s f g named w = (IsUtf8-nil, refl, s.form, IsUtf8-nil)
good_called pages (page t) r start k source ps os h s f g named w = good_page pages r start t ps h f named _ w
good_called pages text r start k source ps os h s f g named w = good_text pages k source os s g w

called_is : (k : ℕ) (source : List ℕ) (target : List Item) → called k source target
    ≡ (if k == 3 then argument else (if is_function source then called_function (function_of (drop 2 source)) else called_by (title_of_target target)))
unfolding called
called_is k source target = refl

named_by : (pages : Pages) (ps : List PartOutput) (a f : Bool) (w : Option (Function × ℕ)) (o : Option Title)
    → (AreTextEntries pages (target_part ps).work → HasTextName o)
    → IsNamed pages ps (if a then argument else (if f then called_function w else called_by o))
named_by pages ps true f w o h = tt
named_by pages ps false true None o h = tt
named_by pages ps false true (Some (c, n)) o h = tt
named_by pages ps false false w None h = tt
named_by pages ps false false w (Some t) h = h

call_named : (pages : Pages) (k : ℕ) (source : List ℕ) (ps : List PartOutput) → AreGoodParts pages ps
    → IsNamed pages ps (called k source (target_part ps).items)
call_named pages k source ps g =
    let target = (target_part ps).items in
    subst (IsNamed pages ps) (sym (called_is k source target))
    (named_by pages ps (k == 3) (is_function source) (function_of (drop 2 source)) (title_of_target target) (λ w. target_named target (good_target pages ps g w)))

-- ---- the bytes of a call

function_whole : (m : Mode) (bs : List ℕ) (k : ℕ) (ms : Members) → IsCallHere m bs k ms → IsWhole form.Function (take (k + width_of_all ms + k) bs)
function_whole mode.Page bs k ms h = inl h.is_call
function_whole mode.Template bs k ms h = inr h.is_call

pub call_text : (m : Mode) (bs : List ℕ) (k : ℕ) (ms : Members) → k + width_of_all ms + k ≤ length bs → IsCallHere m bs k ms
    → IsUtf8 (take (k + width_of_all ms + k) bs) → IsTextCall k (take (k + width_of_all ms + k) bs)
call_text m bs k ms w h u =
    let n : ℕ = k + width_of_all ms + k in
    let source = take n bs in
    let two = h.two in
    let last_open = h.opening in
    let first_close = h.closing in
    let len : length source ≡ n = length-take-le n bs w in
    let front : slice_index source (k - 1) ≡ 123 = byte_front bs n (k - 1) (omega (arith, two)) ∙ last_open in
    let back : slice_index source (k + width_of_all ms) ≡ 125 = byte_front bs n (k + width_of_all ms) (omega (arith, two)) ∙ first_close in
    let z : k - 1 + 1 ≡ k = omega (arith, two) in
    let y : length source - k ≡ k + width_of_all ms = omega (arith, len) in
    let begin : IsCharBoundary source k = subst (IsCharBoundary source) z
    (IsCharBoundary-after_ascii source (k - 1) u (omega (arith, len, two)) (omega (arith, front))) in
    let end : IsCharBoundary source (length source - k) = subst (IsCharBoundary source) (sym y)
    (IsCharBoundary-before_ascii source (k + width_of_all ms) (omega (arith, len, two)) (omega (arith, back))) in
    record {
      form = (tt, (function_whole m bs k ms h, u));
      front = IsUtf8-take source k u begin;
      back = IsUtf8-drop source (length source - k) u end;
    }

-- ---- texts

mutual
  pub good_one : (pages : Pages) (r : Reading) (start : Bool) (bs : List ℕ) (m : Member) → IsGoodReading pages r → width m ≤ length bs
      → IsSoundMember r.mode bs m → IsUtf8 (take (width m) bs) → IsTextMember bs m → IsGood pages (output_of r start bs m)
  good_one pages r start bs (lexeme (kind, n)) h l s u t w = given_lexeme r.mode kind n bs s u
  good_one pages r start bs (call k ms) h l s u t w =
      let source = take (k + width_of_all ms + k) bs in
      let os = outputs_of r false (drop k bs) ms in
      let ps = part_outputs (part_members 0 ms) os in
      let inside = good_all pages r false (drop k bs) ms h (omega (arith, l, length-drop k bs)) s.1 t in
      let parts = good_parts pages (part_members 0 ms) os inside in
      good_called pages (called k source (target_part ps).items) r start k source ps os h (call_text r.mode bs k ms l s.0 u) parts inside
      (call_named pages k source ps parts) w

  pub good_all : (pages : Pages) (r : Reading) (start : Bool) (bs : List ℕ) (ms : Members) → IsGoodReading pages r → width_of_all ms ≤ length bs
      → AreSoundMembers r.mode bs ms → AreTextMembers bs ms → AllGood pages (outputs_of r start bs ms)
  good_all pages r start bs none h l s t = tt
  good_all pages r start bs (more m ms) h l s t = (
    good_one pages r start bs m h (omega (arith, l)) s.0 t.0 t.1,
    good_all pages r (is_break (slice_index bs (width m - 1))) (drop (width m) bs) ms h (omega (arith, l, length-drop (width m) bs)) s.1 t.2,
  )

good_given : (pages : Pages) (r : Reading) (bs : List ℕ) → IsGoodReading pages r → IsUtf8 bs → IsGood pages (text_given r bs)
good_given pages r bs h u w =
    let ms = text_members r.mode bs in
    let wide = text_width r.mode bs in
    given_joined (outputs_of r true bs ms) (all_given pages (outputs_of r true bs ms)
    (good_all pages r true bs ms h (omega (arith, wide)) (text_sound r.mode bs) (members_utf8 r.mode bs u)) w)

-- ---- templates

good_fetched : (pages : Pages) (t : Title) (read : List ℕ → Output) (found : Option (List ℕ)) → pages (full_name_of t) ≡ found → IsUtf8 t.name
    → ((bs : List ℕ) → IsUtf8 bs → IsGood pages (read bs)) → IsGood pages (fetched_output (full_name_of t) read found)
good_fetched pages t read None e u f w = given_chars (absent_text (full_name_of t)) (absent_utf8 t u)
good_fetched pages t read (Some bytes) e u f w =
    f (template_text bytes) (template_utf8 bytes (subst IsTextIfAny e w.1.0)) w.1.1

pub good_template : (pages : Pages) (left : ℕ) (titles : List (List ℕ)) (t : Title) (frame : Frame) → IsUtf8 t.name → IsGivenFrame frame
    → IsGood pages (template_output pages left titles t frame)
good_template pages zero titles t frame u f w = by_test (is_among (full_name_of t) titles)
  where
    by_test : (b : Bool) → AreGiven [] (chars (if b then loop_text t else depth_text t))
    by_test true = given_chars (loop_text t) (loop_utf8 t u)
    by_test false = given_chars (depth_text t) (depth_utf8 t u)
good_template pages (suc n) titles t frame u f w =
    let full = full_name_of t in
    let r : Reading = record { mode = mode.Template; frame = frame; template = template_output pages n (full ∷ titles) } in
    by_test (is_among full titles)
    (good_fetched pages t (text_given r) (pages full) refl u
    (λ bs v. good_given pages r bs (record { frame = f; template = λ s g x h. good_template pages n (full ∷ titles) s g x h }) v)) w
  where
    by_test : (b : Bool) → IsGood pages (fetched_output (full_name_of t)
        (text_given (record { mode = mode.Template; frame = frame; template = template_output pages n (full_name_of t ∷ titles) }))
        (pages (full_name_of t)))
        → IsGood pages (if b then just (chars (loop_text t)) else fetched_output (full_name_of t)
        (text_given (record { mode = mode.Template; frame = frame; template = template_output pages n (full_name_of t ∷ titles) }))
        (pages (full_name_of t)))
    by_test true h w = given_chars (loop_text t) (loop_utf8 t u)
    by_test false h w = h w

-- what the page is read with
pub good_reading : (pages : Pages) → IsGoodReading pages (page_reading pages)
good_reading pages = record { frame = tt; template = λ t f u h. good_template pages most_templates [] t f u h }
